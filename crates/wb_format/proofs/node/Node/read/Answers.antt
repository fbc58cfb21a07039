use Rattle.std.proofs.Common.{◌≡◌, ℕ, Bool, true, false, Some, refl, sym, ap, ◌∙◌, arith}
use Rattle.wb_types.specs.Versions.{version_number}
use Rattle.wb_types.specs.declared.version.Version.{Version}
use Rattle.wb_types.specs.declared.version.Version.TheVariants.{One, Two}
use Rattle.wb_format.specs.NodeWords.{IsLevelOf}
use Rattle.wb_format.proofs.Values.{one_node}
use Rattle.wb_format.proofs.node.Node.read.Goals as goal

no_third : {v : Version} → v ≡ One → v ≡ Two → ⊥
no_third {v} one two = let same : ◌≡◌ {A = ℕ} 1 2 = ap version_number (sym one ∙ two) in omega arith

first_has : (dirty : Bool) → (dirty ≡ true → ⊥) → dirty ≡ false
first_has true never = absurd (never refl)
first_has false never = refl

pub returns-clause-found : goal.returns-clause-found
returns-clause-found c = record {
  spelled = record {
    bytes = record { size = c.told-content; bytes = c.fits-content };
    magic = sym c.u64_at.ensures ∙ c.in_ok-dirty.ensures.found;
    generation = sym c.u64_at-2.ensures;
    level = sym c.u32_at-level.ensures;
    index = sym c.u32_at.ensures;
    gap = c.is_zero.ensures.0 c.if-not-is_zero.false;
    words = c.in_ok-words.ensures.found;
    rest = c.is_zero-else-not-is_zero.ensures.0 c.if-not-is_zero-2.false;
  };
  version_has = record {
    first = λ one. first_has _ (λ bits. let level : IsLevelOf c.args.version c.in_ok-dirty.dirty c.u32_at-level.result = c.may_have.ensures.0 c.if-not-may_have.false in no_third one (level.second bits));
    leaf = λ mapping leaf j. (c.in_ok-words.ensures.spelled j).leaf mapping leaf;
  };
}

pub returns-clause-only : goal.returns-clause-only
returns-clause-only c node spelled = ap Some (one_node c.args.content.now _ node (returns-clause-found c).spelled spelled.spelled)
