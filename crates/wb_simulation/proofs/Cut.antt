-- A whole block, however it is cut: its extents are of the block, and have each of its offsets.
use Rattle.std.proofs.Common.{◌≡◌, ◌<◌, ◌+◌, ◌-◌, ◌*◌, ◌/◌, ◌%◌, ◌∙◌, inl, inr, ℕ, zero, suc, List, [], ◌∷◌, refl, sym, ap, subst, arith, Contains}
use Rattle.std.proofs.lemmas.List.Elements.{Contains-append_cases}
use Rattle.std.proofs.lemmas.List.Sorted.{Contains-permutation}
use Rattle.std.proofs.lemmas.Nat.{div-mul-add, mod-mul-add}
use Rattle.wb_types.proofs.Lists.{Contains-first, Contains-behind, Contains-one}
use Rattle.wb_types.specs.declared.mode.Mode.TheVariants.{Writeback}
use Rattle.wb_types.specs.declared.extent.Extent.{Extent}
use Rattle.wb_types.specs.declared.number.OBlock.{OBlock}
use Rattle.wb_types.specs.Extents.{rising, sectors_in, sectors_of, IsCutInto}
use Rattle.wb_tasks.specs.Tables.{whole_block}
use Rattle.wb_link.specs.World.{AreIn, Covers}
use Rattle.wb_refines.specs.Translation.{offsets, offsets_in}
use Rattle.wb_refines.proofs.Tasks.{rising_in}
use Rattle.wb_runs.proofs.Extents.{Within, AllWithin, cut_within}
use Rattle.wb_simulation.specs.Steps.{IsOfBlock, IsPart}

-- what is among rising numbers
rising_has : (first n k : ℕ) → k < n → Contains (rising first n) (first + k)
rising_has first zero k l = absurd (omega (arith, l))
rising_has first (suc n) zero l = let same : first ≡ first + 0 = omega arith in subst (λ (i : ℕ). Contains (first ∷ rising (first + 1) n) i) same (Contains-first first (rising (first + 1) n))
rising_has first (suc n) (suc k) l = let same : (first + 1) + k ≡ first + suc k = omega arith in subst (λ (i : ℕ). Contains (first ∷ rising (first + 1) n) i) same (Contains-behind first (rising (first + 1) n) ((first + 1) + k) (rising_has (first + 1) n k (omega (arith, l))))

module _ (size : ℕ) (block : OBlock) (some : 0 < size) where
  -- where an extent within the block begins in it
  offset_of : (e : Extent) → Within (whole_block size block) e → (e.first % size ≡ e.first - block.0 * size) × (e.first / size ≡ block.0)
  offset_of e w =
      let from = w.from in
      let to = w.to in
      let any = w.some in
      let is : block.0 * size + (e.first - block.0 * size) ≡ e.first = omega (arith, from) in
      let less : e.first - block.0 * size < size = omega (arith, from, to, any) in
      (ap (λ (n : ℕ). n % size) (sym is) ∙ mod-mul-add block.0 size (e.first - block.0 * size) less, ap (λ (n : ℕ). n / size) (sym is) ∙ div-mul-add block.0 size (e.first - block.0 * size) less)

  is_of_block : (e : Extent) → Within (whole_block size block) e → IsOfBlock size block.0 e
  is_of_block e w =
      let o = offset_of e w in
      let offset = o.0 in
      let from = w.from in
      let to = w.to in
      record { some = (let any = w.some in omega (arith, any)); block_is = o.1; room = omega (arith, offset, from, to) }

  each_of_block : (cut : List Extent) → AllWithin (whole_block size block) cut → (e : Extent) → Contains cut e → IsOfBlock size block.0 e
  each_of_block [] w e c = absurd (omega (arith, c.1))
  each_of_block (x ∷ xs) w e c = elim (Contains-append_cases (x ∷ []) xs e c) [
    | inl s ↦ subst (λ (y : Extent). IsOfBlock size block.0 y) (sym (Contains-one x e s)) (is_of_block x w.0)
    | inr r ↦ each_of_block xs w.1 e r
  ]

  offset_there : (cut : List Extent) (o : ℕ) → AllWithin (whole_block size block) cut → Contains (sectors_of cut) (block.0 * size + o) → AreIn (offsets size cut) o
  offset_there [] o w c = absurd (omega (arith, c.1))
  offset_there (e ∷ es) o w c = elim (Contains-append_cases (sectors_in e) (sectors_of es) (block.0 * size + o) c) [
    | inl here ↦
        let k = rising_in e.first e.count (block.0 * size + o) here in
        let is = offset_of e w.0 in
        let offset = is.0 in
        let from = w.0.from in
        let at = k.2 in
        let same : e.first % size + k.0 ≡ o = omega (arith, offset, from, at) in
        inl (subst (λ (n : ℕ). Contains (offsets_in size e) n) same (rising_has (e.first % size) e.count k.0 k.1))
    | inr there ↦ inr (offset_there es o w.1 there)
  ]

  module _ (cut : List Extent) (i : IsCutInto (whole_block size block) cut) where
    pub whole_part : IsPart size (record { mode = Writeback; block_sectors = size; block = block; extents = cut })
    whole_part = record { some = some; sized = refl; each = each_of_block cut (cut_within (whole_block size block) cut i) }

    pub whole_covered : Covers size (offsets size cut)
    whole_covered o l = offset_there cut o (cut_within (whole_block size block) cut i) (Contains-permutation (sectors_in (whole_block size block)) (sectors_of cut) (block.0 * size + o) i.each_once (rising_has (block.0 * size) size o l))
