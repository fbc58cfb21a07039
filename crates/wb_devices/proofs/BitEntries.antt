-- Entries with the dirty bits that were read beside them.
use Rattle.std.proofs.Common.{◌≡◌, ℕ, zero, suc, Bool, false, List, [], ◌∷◌, Option, Some, None, length, refl, sym, ◌∙◌, ap, arith, get_or}
use Rattle.std.specs.Prelude.{slice_index_or}
use Rattle.wb_types.specs.declared.entry.Entry.{Entry}
use Rattle.wb_types.specs.declared.number.OBlock.{OBlock}
use Rattle.wb_tree.specs.Mapping.{IsMapping}
use Rattle.wb_dirty.specs.ImageReading.{entries_with, entry_with, with_bits}

length-bits : (bits : List Bool) (entries : List (Option Entry)) → length (entries_with bits entries) ≡ length entries
unfolding entries_with
length-bits bits [] = refl
length-bits [] (entry ∷ entries) = ap (λ n. suc n) (length-bits [] entries)
length-bits (bit ∷ bits) (entry ∷ entries) = ap (λ n. suc n) (length-bits bits entries)

pub length-with_bits : (bits : Option (List Bool)) (entries : List (Option Entry)) → length (with_bits bits entries) ≡ length entries
length-with_bits None entries = refl
length-with_bits (Some bits) entries = length-bits bits entries

-- the entry of a block
pub entry-with_bits : (bits : List Bool) (entries : List (Option Entry)) (block : ℕ) → slice_index_or (entries_with bits entries) block None ≡ entry_with (get_or bits block false) (slice_index_or entries block None)
unfolding entries_with
entry-with_bits bits [] block = refl
entry-with_bits [] (entry ∷ entries) zero = refl
entry-with_bits [] (entry ∷ entries) (suc block) = entry-with_bits [] entries block
entry-with_bits (bit ∷ bits) (entry ∷ entries) zero = refl
entry-with_bits (bit ∷ bits) (entry ∷ entries) (suc block) = entry-with_bits bits entries block

-- its origin block and its hint are those of the tree's
pub record HasOrigin (entries : List (Option Entry)) (block : ℕ) (entry : Entry) : Type 0 where
  pub was : Entry
  pub there : slice_index_or entries block None ≡ Some was
  pub same : was.origin ≡ entry.origin
  pub hint : was.hint ≡ entry.hint

has_origin : (bit : Bool) (o : Option Entry) (entries : List (Option Entry)) (block : ℕ) (entry : Entry) → slice_index_or entries block None ≡ o → entry_with bit o ≡ Some entry → HasOrigin entries block entry
has_origin bit None entries block entry e is = absurd cc
has_origin bit (Some was) entries block entry e is =
    let same : record was { dirty = bit } ≡ entry = cc in
    record { was = was; there = e; same = ap (λ (x : Entry). x.origin) same; hint = ap (λ (x : Entry). x.hint) same }

pub origin-with_bits : (bits : Option (List Bool)) (entries : List (Option Entry)) (block : ℕ) (entry : Entry) → slice_index_or (with_bits bits entries) block None ≡ Some entry → HasOrigin entries block entry
origin-with_bits None entries block entry e = record { was = entry; there = e; same = refl; hint = refl }
origin-with_bits (Some bits) entries block entry e = has_origin (get_or bits block false) (slice_index_or entries block None) entries block entry refl (sym (entry-with_bits bits entries block) ∙ e)

-- so with its bits a mapping is one
pub mapping-with_bits : (bits : Option (List Bool)) (cache_blocks origin_blocks : ℕ) (entries : List (Option Entry)) → IsMapping cache_blocks origin_blocks entries → IsMapping cache_blocks origin_blocks (with_bits bits entries)
mapping-with_bits bits cache_blocks origin_blocks entries mapping = record {
  size = length-with_bits bits entries ∙ mapping.size;
  within = λ block entry is.
      let was = origin-with_bits bits entries block entry is in
      let may = mapping.within block was.was was.there in
      (omega (arith, may.0, ap (λ (o : OBlock). o.0) was.same), omega (arith, may.1, was.hint));
  once = λ block other entry same is also one.
      let was = origin-with_bits bits entries block entry is in
      let then = origin-with_bits bits entries other same also in
      mapping.once block other was.was then.was was.there then.there (was.same ∙ one ∙ sym then.same);
}
