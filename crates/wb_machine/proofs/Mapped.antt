-- The blocks of the first entries of a mapping, as they are listed.
use Rattle.std.proofs.Common.{◌≡◌, ◌<◌, ◌+◌, inl, inr, ℕ, zero, suc, List, [], ◌∷◌, ◌++◌, Option, Some, None, refl, sym, ap, subst, ◌∙◌, arith, Contains, length, slice_index_or}
use Rattle.std.proofs.lemmas.Bool.{cases_eq}
use Rattle.std.proofs.lemmas.List.{append-nil, length-map}
use Rattle.std.proofs.lemmas.List.Elements.{Contains-append_left, Contains-push, Contains-push_cases}
use Rattle.wb_types.specs.declared.entry.Entry.{Entry}
use Rattle.wb_types.specs.declared.number.OBlock.{OBlock}
use Rattle.wb_policy.specs.Law.{IsMappedAt, origins}
use Rattle.wb_tree.specs.Mapping.{IsMapping}
use Rattle.wb_desk.specs.Desks.{DeskState}
use Rattle.wb_desk.proofs.Seen.{there}
use Rattle.wb_promise.specs.Happenings.{AreMapped}
use Rattle.wb_machine.specs.Serving.{block_of_entry}
use Rattle.wb_machine.proofs.Possible.{is_inside}

-- these are the blocks of the first so many entries
pub record AreListed (entries : List (Option Entry)) (c : ℕ) (blocks : List OBlock) : Type 0 where
  pub each : (block : OBlock) → Contains blocks block → (cache : ℕ) × IsMappedAt (origins entries) block.0 cache
  pub all : (block : OBlock) (cache : ℕ) → cache < c → IsMappedAt (origins entries) block.0 cache → Contains blocks block

-- where a block stands is its entry
mapped_entry : (entries : List (Option Entry)) (c b : ℕ) → IsMappedAt (origins entries) b c → (e : Entry) × (slice_index_or entries c None ≡ Some e) × (e.origin.0 ≡ b)
mapped_entry [] c b m = absurd (cc)
mapped_entry (None ∷ es) zero b m = absurd (cc)
mapped_entry (Some e ∷ es) zero b m = (e, refl, cc)
mapped_entry (x ∷ es) (suc c) b m = mapped_entry es c b m

pub none_listed : (entries : List (Option Entry)) → AreListed entries 0 []
none_listed entries = record { each = λ block has. absurd (omega (arith, has.1)); all = λ block cache l m. absurd (omega (arith, l)) }

-- one more cache block, and the block of its entry, if it has one
pub listed_next : (entries : List (Option Entry)) (c : ℕ) (blocks : List OBlock) (entry : Option Entry) → entry ≡ slice_index_or entries c None → AreListed entries c blocks → AreListed entries (c + 1) (blocks ++ block_of_entry entry)
listed_next entries c blocks None at s = record {
  each = λ block has. s.each block (subst (λ (bs : List OBlock). Contains bs block) (append-nil blocks) has);
  all = λ block cache l m. elim (cases_eq cache c) [
    | inl same ↦
        let e = mapped_entry entries cache block.0 m in
        let bad : None ≡ Some e.0 = at ∙ ap (λ (k : ℕ). slice_index_or entries k None) (sym same) ∙ e.1 in
        absurd (cc)
    | inr other ↦ subst (λ (bs : List OBlock). Contains bs block) (sym (append-nil blocks)) (s.all block cache (omega (arith, l, other)) m)
  ];
}
listed_next entries c blocks (Some entry) at s = record {
  each = λ block has. elim (Contains-push_cases blocks entry.origin block has) [
    | inl before ↦ s.each block before
    | inr same ↦ (c, subst (λ (b : OBlock). IsMappedAt (origins entries) b.0 c) same (there entries c entry (sym at)))
  ];
  all = λ block cache l m. elim (cases_eq cache c) [
    | inl same ↦
        let e = mapped_entry entries cache block.0 m in
        let found : Some entry ≡ Some e.0 = at ∙ ap (λ (k : ℕ). slice_index_or entries k None) (sym same) ∙ e.1 in
        let one : entry ≡ e.0 = cc in
        let origin : entry.origin.0 ≡ block.0 = ap (λ (x : Entry). x.origin.0) one ∙ e.2 in
        subst (λ (b : OBlock). Contains (blocks ++ entry.origin ∷ []) b) (ap (λ (n : ℕ). record { 0 = n }) origin) (Contains-push blocks entry.origin)
    | inr other ↦ Contains-append_left blocks (entry.origin ∷ []) block (s.all block cache (omega (arith, l, other)) m)
  ];
}

-- all that a desk maps
pub all_listed : {P : Type 0} (desk : DeskState P) (cache_blocks origin_blocks c : ℕ) (blocks : List OBlock) → IsMapping cache_blocks origin_blocks desk.tree.entries → c ≡ cache_blocks → AreListed desk.tree.entries c blocks → AreMapped desk blocks
all_listed desk cache_blocks origin_blocks c blocks mapping all s = record {
  each = s.each;
  all = λ block cache m.
      let inside = is_inside (origins desk.tree.entries) cache (Some block.0) m in
      let size : length (origins desk.tree.entries) ≡ length desk.tree.entries = length-map desk.tree.entries _ in
      s.all block cache (omega (arith, inside, size, mapping.size, all)) m;
}
