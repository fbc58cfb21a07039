-- An opening's reading can always do its next step.
use Rattle.std.proofs.Common.{Global, ◌≡◌, ◌∙◌, ◌≤◌, ◌<◌, ◌+◌, ◌%◌, ◌^◌, ◌⊎◌, inl, inr, ℕ, Bool, true, false, List, [], Option, Some, None, refl, sym, ap, subst, arith, length, slice_get, map, drop, slice_index}
use Rattle.std.proofs.lemmas.Bool.{cases_eq, leb-true}
use Rattle.std.proofs.lemmas.List.{length-map, get_or-drop}
use Rattle.std.proofs.lemmas.Option.{slice_get-get_or}
use Rattle.std.proofs.Math.Nat.{mod-lt}
use Rattle.wb_types.specs.declared.geometry.Geometry.{Geometry}
use Rattle.wb_types.specs.declared.mode.Mode.{Mode}
use Rattle.wb_types.specs.declared.refusal.Refusal.TheVariants.{Memory}
use Rattle.wb_disk.specs.Device.{Content as Bytes, History, newest}
use Rattle.wb_disk.proofs.Leaving.{read-left}
use Rattle.wb_format.specs.Bytes.{IsSector, number_at}
use Rattle.wb_format.specs.Layout.{SpellsRoot, IsValidIn}
use Rattle.wb_format.specs.declared.root.Root.{Root}
use Rattle.wb_format.proofs.Values.{one_root}
use Rattle.wb_tree.specs.Reading.{IsNewestRoot}
use Rattle.wb_meta.specs.Slots.{HasRoot, IsInSlot}
use Rattle.wb_meta.specs.Reads.{StopsBy, sectors_read}
use Rattle.wb_meta.specs.declared.read_steps.ReadSteps.{ReadSteps}
use Rattle.wb_meta.specs.declared.read_steps.ReadSteps.TheVariants.{Begun, FirstSlotRead, RootFound, Done as AllRead}
use Rattle.wb_tasks.specs.declared.step.Got.{Got}
use Rattle.wb_tasks.specs.declared.step.Got.TheVariants.{Refused as GotRefused, More}
use Rattle.wb_meta.proofs.Sizes.{own_sizes}
use Rattle.wb_promise.specs.Happenings.{Chosen, Reaches, DoesRead, IsGeometryAsked, has_room_for}
use Rattle.wb_types.specs.Versions.{version_asked}
use Rattle.wb_runs.proofs.Spelling.{root_or_none}
use Rattle.wb_runs.proofs.Images.{Images}
use Rattle.wb_runs.proofs.Metadata.{HasReached}

-- ---- a generation that is spelled

small_byte : (s : List ℕ) (k : ℕ) → IsSector s → slice_index (drop 8 s) k < 256
small_byte s k i = subst (λ (n : ℕ). n < 256) (sym (get_or-drop 8 s k 0)) (i.bytes (8 + k))

number_small : (s : List ℕ) → IsSector s → number_at s 8 8 < 2 ^ 64
unfolding number_at
number_small s i =
    let b0 = small_byte s 0 i in let b1 = small_byte s 1 i in let b2 = small_byte s 2 i in let b3 = small_byte s 3 i in
    let b4 = small_byte s 4 i in let b5 = small_byte s 5 i in let b6 = small_byte s 6 i in let b7 = small_byte s 7 i in
    omega (arith, b0, b1, b2, b3, b4, b5, b6, b7)

pub generation_fits : (s : List ℕ) (r : Root) → SpellsRoot s r → r.generation < 2 ^ 64
generation_fits s r p = subst (λ (n : ℕ). n < 2 ^ 64) p.generation (number_small s p.bytes)

-- ---- the slots

-- a valid root stands in one of the two slots
two_slots : (slot : ℕ) (c : Bytes) (r : Root) → IsValidIn slot c r → (slot ≡ 0) ⊎ (slot ≡ 1)
two_slots slot c r v = elim (cases_eq slot 0) [
  | inl e ↦ inl e
  | inr n ↦ inr (let b : r.generation % 2 < 2 = mod-lt r.generation (omega arith) in omega (arith, b, v.parity, n))
]

same_first : (s t : List Bytes) (first : Option Root) → IsInSlot s 0 first → IsInSlot t 0 first → (r : Root) → HasRoot s 0 r → HasRoot t 0 r
same_first s t None f g r h = absurd (f h.sector r h.there h.valid)
same_first s t (Some r0) f g r h =
    let there : Some f.sector ≡ Some h.sector = sym f.there ∙ h.there in
    let same : f.sector ≡ h.sector = cc in
    let root : r0 ≡ r = one_root h.sector r0 r (subst (λ (c : Bytes). SpellsRoot c r0) same f.valid.spelled) h.valid.spelled in
    subst (λ (x : Root). HasRoot t 0 x) root g

moved_root : (s t : List Bytes) (first : Option Root) → IsInSlot s 0 first → IsInSlot t 0 first → slice_get t 1 ≡ slice_get s 1 → (slot : ℕ) (r : Root) → HasRoot s slot r → HasRoot t slot r
moved_root s t first f g same slot r h = elim (two_slots slot h.sector r h.valid) [
  | inl e ↦ subst (λ (k : ℕ). HasRoot t k r) (sym e) (same_first s t first f g r (subst (λ (k : ℕ). HasRoot s k r) e h))
  | inr e ↦ subst (λ (k : ℕ). HasRoot t k r) (sym e) (let at = subst (λ (k : ℕ). HasRoot s k r) e h in record { sector = at.sector; there = same ∙ at.there; valid = at.valid })
]

-- the newest root of sectors with the same slots
pub same_newest : (s t : List Bytes) (first : Option Root) → IsInSlot s 0 first → IsInSlot t 0 first → slice_get t 1 ≡ slice_get s 1 → (r : Root) → IsNewestRoot s r → IsNewestRoot t r
same_newest s t first f g same r n =
    let h = moved_root s t first f g same n.slot r (record { sector = n.sector; there = n.there; valid = n.valid }) in
    record {
      slot = n.slot;
      sector = h.sector;
      there = h.there;
      valid = h.valid;
      newest = λ other another older ne e v. let q = moved_root t s first g f (sym same) other older (record { sector = another; there = e; valid = v }) in n.newest other q.sector older ne q.there q.valid;
    }

-- what a slot holds is a root or none
in_slot : (s : List Bytes) (c : Bytes) → slice_get s 0 ≡ Some c → (first : Option Root) × IsInSlot s 0 first
in_slot s c e = elim (root_or_none c) [
  | inl found ↦ elim (cases_eq (found.0.generation % 2) 0) [
    | inl even ↦ (Some found.0, record { sector = c; there = e; valid = record { spelled = found.1; parity = even } })
    | inr odd ↦ (
      None,
      λ sector r there v.
          let both : Some sector ≡ Some c = sym there ∙ e in
          let same : sector ≡ c = cc in
          let root : r ≡ found.0 = one_root c r found.0 (subst (λ (x : Bytes). SpellsRoot x r) same v.spelled) found.1 in
          odd (ap (λ (x : Root). x.generation % 2) (sym root) ∙ v.parity),
    )
  ]
  | inr none ↦ (
    None,
    λ sector r there v.
        let both : Some sector ≡ Some c = sym there ∙ e in
        let same : sector ≡ c = cc in
        none r (subst (λ (x : Bytes). SpellsRoot x r) same v.spelled),
  )
]

-- a slot that agrees holds the same
slot_agrees : (s t : List Bytes) (first : Option Root) → slice_get t 0 ≡ slice_get s 0 → IsInSlot s 0 first → IsInSlot t 0 first
slot_agrees s t None same f = λ sector r there v. f sector r (sym same ∙ there) v
slot_agrees s t (Some r) same f = record { sector = f.sector; there = same ∙ f.there; valid = f.valid }

-- ---- the next step

-- a geometry that an opening may ask for
pub geometry_asked : (sizes : Geometry) (second : Bool) → (asked : Geometry) × IsGeometryAsked sizes second asked
geometry_asked sizes second = by_room (has_room_for second sizes) refl
  where
    by_room : (room : Bool) → has_room_for second sizes ≡ room → (asked : Geometry) × IsGeometryAsked sizes second asked
    by_room true e = (
      record sizes { version = version_asked second; room = leb-true _ _ e },
      record { sizes_are = record { block = refl; cache_blocks = refl; origin_blocks = refl; meta_sectors = refl }; version = λ has. refl },
    )
    by_room false e = (sizes, record { sizes_are = own_sizes sizes; version = λ has. absurd (let both : true ≡ false = sym has ∙ e in cc) })

-- what a reading's step may give
pub record CanRead (P A : Type 0) (mode : Mode) (g : Geometry) (second : Bool) (left : ℕ) (was : ReadSteps A) (device : List History) : Type 0 where
  pub got : Got
  pub chosen : Chosen P A
  pub does : DoesRead mode g second left was device None got chosen

module _ (P A : Type 0) (mode : Mode) (g : Geometry) (second : Bool) (device : List History) where
  no_memory : (left : ℕ) (was : ReadSteps A) → StopsBy was device Memory → CanRead P A mode g second left was device
  no_memory left was stops = record { got = GotRefused Memory; chosen = Reaches None None; does = (λ e. absurd (cc), inr (Memory, tt, stops, refl, refl, refl)) }

  first_stops : (i : Images) (alloc : _) (global : _) (first : Option Root) → HasReached {A = A} g i (FirstSlotRead alloc global first) device → StopsBy {A = A} (FirstSlotRead alloc global first) device Memory
  first_stops i alloc global first k = λ sectors agree has.
      let n = (k.found.read.represents (map newest device) (read-left device)).newest in
      record {
        root = k.found.committed.root;
        newest = same_newest (map newest device) sectors first k.come has (agree.here 1 refl) k.found.committed.root n;
        size = k.found.read.sizes.meta_sectors ∙ sym k.found.read.size ∙ sym agree.size;
      }

  -- the first slot is read
  pub first_read : (alloc : A) (global : Global) (left : ℕ) (first : Option Root) → IsInSlot (map newest device) 0 first → 1 ≤ left → DoesRead {P = P} {A = A} mode g second left (Begun alloc global) device None More (Reaches (Some (FirstSlotRead alloc global first)) None)
  first_read alloc global left first slot more = (
    λ e. absurd (cc),
    inl (
      FirstSlotRead alloc global first,
      (λ sectors agree has. slot_agrees (map newest device) sectors first (agree.here 0 refl) slot),
      tt,
      ((geometry_asked g second).0, (geometry_asked g second).1, inl ((more, refl, (λ root e. absurd (cc)), refl), λ passes state e. absurd (cc))),
      refl,
      tt,
      tt,
    ),
  )

  pub some_slot : 1 ≤ length device → (first : Option Root) × IsInSlot (map newest device) 0 first
  some_slot some = in_slot (map newest device) _ (slice_get-get_or (map newest device) 0 [] (omega (arith, some, length-map device newest)))

  begins : (alloc : A) (global : Global) (left : ℕ) → 1 ≤ left → 1 ≤ length device → CanRead P A mode g second left (Begun alloc global) device
  begins alloc global left more some = let slot = some_slot some in record { got = More; chosen = Reaches (Some (FirstSlotRead alloc global slot.0)) None; does = first_read alloc global left slot.0 slot.1 more }

  pub can_read : (i : Images) (left : ℕ) (was : ReadSteps A) → HasReached g i was device → (sectors_read was ≡ 0 → 1 ≤ left) → 1 ≤ length device → CanRead P A mode g second left was device
  can_read i left (Begun alloc global) k more some = begins alloc global left (more refl) some
  can_read i left (FirstSlotRead alloc global first) k more some = no_memory left (FirstSlotRead alloc global first) (first_stops i alloc global first k)
  can_read i left (RootFound global root loader nodes) k more some = no_memory left (RootFound global root loader nodes) (λ sectors agree has. record { root = root; newest = has.newest; size = k.on.0.size ∙ sym agree.size })
  can_read i left (AllRead state) k more some = no_memory left (AllRead state) (λ sectors agree has. record { root = state.root; newest = has.represents.newest; size = has.size })
