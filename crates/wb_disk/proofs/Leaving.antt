-- What a crash leaves of a device, and what is read of it, after a sync, a failed sync and a crash.
use Rattle.std.proofs.Common.{◌≡◌, ℕ, suc, List, [], ◌∷◌, Some, map, refl, sym, ◌∙◌, ap, arith, subst, inl, inr}
use Rattle.std.specs.Prelude.{Contains}
use Rattle.std.specs.List.{slice_get}
use Rattle.std.proofs.lemmas.List.{length-map}
use Rattle.wb_types.proofs.Lists.{element_beside, map_there, Contains-one, Contains-first, Contains-behind}
use Rattle.wb_disk.specs.Device.{Content, History, Crashed, PartlySynced, MaySync, entries, last_of, newest, only, synced}
use Rattle.wb_disk.specs.Crashes.{MayLeave}

last_there : (c : Content) (ds : List Content) → Contains (c ∷ ds) (last_of c ds)
last_there c [] = Contains-first c []
last_there c (d ∷ ds) = Contains-behind c (d ∷ ds) (last_of d ds) (last_there d ds)

-- what a read gives is one of the contents
pub newest_there : (h : History) → Contains (entries h) (newest h)
newest_there h = last_there h.first h.later

-- a crash may leave what reads give
pub read-left : (device : List History) → MayLeave device (map newest device)
read-left device = record {
  size = length-map device newest;
  each = λ at h c e f.
      let w = map_there newest device at c f in
      let same : w.0 ≡ h = (let both : Some w.0 ≡ Some h = sym w.1 ∙ e in cc) in
      let is : newest h ≡ c = ap (λ (x : History). newest x) (sym same) ∙ sym w.2 in
      let P : Content → Type 0 = λ x. Contains (entries h) x in
      subst P is (newest_there h);
}

-- a device after a crash, as a read gives its sectors
pub crash-left : (device crashed : List History) → Crashed device crashed → MayLeave device (map newest crashed)
crash-left device crashed left = record {
  size = length-map crashed newest ∙ left.size;
  each = λ at h c e f.
      let w = map_there newest crashed at c f in
      let k = left.each at h w.0 e w.1 in
      let same : c ≡ k.0 = w.2 ∙ ap (λ x. newest x) k.2 in
      let P : Content → Type 0 = λ x. Contains (entries h) x in
      subst P (sym same) k.1;
}

-- ---- synced

-- a sync changes nothing of what reads give
pub newest-synced : (device : List History) → map newest (synced device) ≡ map newest device
newest-synced [] = refl
newest-synced (h ∷ device) = ap (λ ss. newest h ∷ ss) (newest-synced device)

-- where each sector has one content alone, that is what a crash leaves
alone : (device : List History) (sectors : List Content) → ((at : ℕ) (h : History) → slice_get device at ≡ Some h → h.later ≡ []) → MayLeave device sectors → sectors ≡ map newest device
alone [] [] one left = refl
alone [] (sector ∷ sectors) one left = absurd (let size = left.size in omega arith)
alone (h ∷ device) [] one left = absurd (let size = left.size in omega arith)
alone (h ∷ device) (sector ∷ sectors) one left =
    let none = one 0 h refl in
    let here : Contains (h.first ∷ []) sector = subst (λ (later : List Content). Contains (h.first ∷ later) sector) none (left.each 0 h sector refl refl) in
    let first : sector ≡ newest h = Contains-one h.first sector here ∙ sym (ap (λ (later : List Content). last_of h.first later) none) in
    let size = left.size in
    let rest = alone device sectors (λ at g e. one (suc at) g e) (record { size = omega arith; each = λ at g content e f. left.each (suc at) g content e f }) in
    ap (λ s. s ∷ sectors) first ∙ ap (λ ss. newest h ∷ ss) rest

-- after a sync a crash leaves what reads gave
pub left-synced : (device : List History) (sectors : List Content) → MayLeave (synced device) sectors → sectors ≡ map newest device
left-synced device sectors left =
    alone (synced device) sectors (λ at g e. let w = map_there (λ h. only (newest h)) device at g e in ap (λ (x : History). x.later) w.2) left ∙ newest-synced device

-- after a crash another leaves the same
pub left-crashed : (device crashed : List History) (sectors : List Content) → Crashed device crashed → MayLeave crashed sectors → sectors ≡ map newest crashed
left-crashed device crashed sectors crash left =
    alone crashed sectors (λ at g e.
    let w = element_beside crashed device at g (sym crash.size) e in
    let k = crash.each at w.0 g w.1 e in
    ap (λ (x : History). x.later) k.2) left

-- ---- a sync that failed

same_newest : (h g : History) → MaySync h g → newest g ≡ newest h
same_newest h g (inl same) = ap (λ (x : History). newest x) same
same_newest h g (inr one) = ap (λ (x : History). newest x) one

pub read-partly : (old new : List History) → PartlySynced old new → map newest new ≡ map newest old
read-partly [] [] partly = refl
read-partly [] (g ∷ new) partly = absurd (let size = partly.size in omega (arith, size))
read-partly (h ∷ old) [] partly = absurd (let size = partly.size in omega (arith, size))
read-partly (h ∷ old) (g ∷ new) partly =
    let size = partly.size in
    let rest = read-partly old new (record { size = omega (arith, size); each = λ at a b e f. partly.each (suc at) a b e f }) in
    ap (λ c. c ∷ map newest new) (same_newest h g (partly.each 0 h g refl refl)) ∙ ap (λ cs. newest h ∷ cs) rest

pub left-partly : (old new : List History) (sectors : List Content) → PartlySynced old new → MayLeave new sectors → MayLeave old sectors
left-partly old new sectors partly left = record {
  size = left.size ∙ partly.size;
  each = λ at h c e f.
      let g = element_beside old new at h partly.size e in
      let has = left.each at g.0 c g.1 f in
      let P : History → Type 0 = λ x. Contains (entries x) c in
      elim (partly.each at h g.0 e g.1) [
        | inl same ↦ subst P same has
        | inr one ↦
            let is : c ≡ newest h = Contains-one (newest h) c (subst P one has) in
            let Q : Content → Type 0 = λ x. Contains (entries h) x in
            subst Q (sym is) (newest_there h)
      ];
}
