-- Changes to a list of states.
use Rattle.std.proofs.Common.{◌≡◌, ◌<◌, ◌≤◌, ◌+◌, ℕ, suc, List, Bool, true, false, Some, None, length, map, get_or, set, slice_get, replicate, refl, sym, ap, subst, ◌∙◌, arith}
use Rattle.std.specs.List.{position}
use Rattle.std.proofs.lemmas.List.{map-set, length-map, get_or-map, ext_get_or, get_or-replicate, length-replicate}
use Rattle.std.proofs.lemmas.List.Quantifiers.{position-Some}
use Rattle.std.proofs.lemmas.Option.{get_or_from_slice_get}
use Rattle.std.proofs.Math.Seq.{map-set_same}
use Rattle.wb_bits.proofs.Chosen.{chosen, fewer_chosen, none_changed}
use Rattle.wb_space.specs.declared.block.Block.{Block}
use Rattle.wb_space.specs.declared.block.Block.TheVariants.{Free, Mapped, Reserved, Quarantined}
use Rattle.wb_space.specs.Blocks.{is_late, is_early, commit_begun, commit_ended, opened_block}

-- a set with its list: one changes with the other
pub indexed_set : (p : Block → Bool) (blocks : List Block) (index : List Bool) (c : ℕ) (b : Block) (member : Bool) → index ≡ map p blocks → member ≡ p b → set index c member ≡ map p (set blocks c b)
indexed_set p blocks index c b member e m = ap (λ (l : List Bool). set l c member) e ∙ ap (λ (x : Bool). set (map p blocks) c x) m ∙ sym (map-set p blocks c b)

pub indexed_replicate : (p : Block → Bool) (n : ℕ) (b : Block) → p b ≡ false → replicate n false ≡ map p (replicate n b)
indexed_replicate p n b e = ext_get_or false (replicate n false) (map p (replicate n b)) (length-replicate {A = Bool} n false ∙ sym (length-map (replicate n b) p ∙ length-replicate {A = Block} n b))
    (λ k l. at k (subst (λ (m : ℕ). k < m) (length-replicate {A = Bool} n false) l))
  where
    at : (k : ℕ) → k < n → get_or (replicate n false) k false ≡ get_or (map p (replicate n b)) k false
    at k l = get_or-replicate {A = Bool} n k false false l
        ∙ sym (get_or-map p (replicate n b) k b false (omega (arith, length-replicate {A = Block} n b)) ∙ ap p (get_or-replicate {A = Block} n k b b l) ∙ e)

begun_twice : (b : Block) → commit_begun (commit_begun b) ≡ commit_begun b
begun_twice Free = refl
begun_twice Mapped = refl
begun_twice Reserved = refl
begun_twice (Quarantined claimed early) = refl

ended_twice : (b : Block) → commit_ended (commit_ended b) ≡ commit_ended b
ended_twice Free = refl
ended_twice Mapped = refl
ended_twice Reserved = refl
ended_twice (Quarantined true true) = refl
ended_twice (Quarantined false true) = refl
ended_twice (Quarantined true false) = refl
ended_twice (Quarantined false false) = refl

late_gone : (b : Block) → is_late (commit_begun b) ≡ false
late_gone Free = refl
late_gone Mapped = refl
late_gone Reserved = refl
late_gone (Quarantined claimed early) = refl

early_gone : (b : Block) → is_early (commit_ended b) ≡ false
early_gone Free = refl
early_gone Mapped = refl
early_gone Reserved = refl
early_gone (Quarantined true true) = refl
early_gone (Quarantined false true) = refl
early_gone (Quarantined true false) = refl
early_gone (Quarantined false false) = refl

not_late : (b : Block) → is_late b ≡ false → commit_begun b ≡ b
not_late Free e = refl
not_late Mapped e = refl
not_late Reserved e = refl
not_late (Quarantined claimed true) e = refl
not_late (Quarantined claimed false) e = absurd (cc)

not_early : (b : Block) → is_early b ≡ false → commit_ended b ≡ b
not_early Free e = refl
not_early Mapped e = refl
not_early Reserved e = refl
not_early (Quarantined true false) e = refl
not_early (Quarantined false false) e = refl
not_early (Quarantined claimed true) e = absurd (cc)

-- one chosen block takes its step: the rest to be done is the same, and one fewer is chosen
pub record Steps (p : Block → Bool) (f : Block → Block) (before after : List Block) : Type 0 where
  pub same : map f after ≡ map f before
  pub fewer : suc (chosen p after) ≡ chosen p before

steps : (p : Block → Bool) (f : Block → Block) → ((b : Block) → f (f b) ≡ f b) → ((b : Block) → p (f b) ≡ false) → (blocks : List Block) (c : ℕ) (found stepped : Block) → position p blocks ≡ Some c → slice_get blocks c ≡ Some found → stepped ≡ f found → Steps p f blocks (set blocks c stepped)
steps p f twice gone blocks c found stepped e g s = record {
  same = map-set_same f blocks c stepped Free (ap f s ∙ twice found ∙ ap f (sym here));
  fewer = fewer_chosen p blocks c stepped Free at.0 at.1 (ap p s ∙ gone found);
}
  where
    here : get_or blocks c Free ≡ found
    here = get_or_from_slice_get blocks c found Free g

    at : (c < length blocks) × (p (get_or blocks c Free) ≡ true) × ((k : ℕ) → k < c → p (get_or blocks k Free) ≡ false)
    at = position-Some p blocks c Free e

pub begin_steps : (blocks : List Block) (c : ℕ) (found stepped : Block) → position is_late blocks ≡ Some c → slice_get blocks c ≡ Some found → stepped ≡ commit_begun found → Steps is_late commit_begun blocks (set blocks c stepped)
begin_steps blocks c found stepped e g s = steps is_late commit_begun begun_twice late_gone blocks c found stepped e g s

pub end_steps : (blocks : List Block) (c : ℕ) (found stepped : Block) → position is_early blocks ≡ Some c → slice_get blocks c ≡ Some found → stepped ≡ commit_ended found → Steps is_early commit_ended blocks (set blocks c stepped)
end_steps blocks c found stepped e g s = steps is_early commit_ended ended_twice early_gone blocks c found stepped e g s

pub all_begun : (blocks : List Block) → position is_late blocks ≡ None → map commit_begun blocks ≡ blocks
all_begun blocks e = none_changed is_late commit_begun not_late blocks e

pub all_ended : (blocks : List Block) → position is_early blocks ≡ None → map commit_ended blocks ≡ blocks
all_ended blocks e = none_changed is_early commit_ended not_early blocks e

-- the first blocks have their state of an opening
pub record Opened (ms : List Bool) (blocks : List Block) (i : ℕ) : Type 0 where
  pub size : length blocks ≡ length ms
  pub before : (k : ℕ) → k < i → get_or blocks k Free ≡ opened_block (get_or ms k false)

pub opened_all : (ms : List Bool) (blocks : List Block) (i : ℕ) → length ms ≤ i → Opened ms blocks i → blocks ≡ map opened_block ms
opened_all ms blocks i p h = ext_get_or Free blocks (map opened_block ms) (h.size ∙ sym (length-map ms opened_block))
    (λ k l. h.before k (omega (arith, h.size)) ∙ sym (get_or-map opened_block ms k false Free (omega (arith, h.size))))
