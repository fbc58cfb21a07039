-- What writes, syncs and crashes make of contents that are all of one kind.
use Rattle.std.proofs.Common.{◌≡◌, ◌≢◌, ◌⊎◌, ℕ, List, [], ◌∷◌, ◌++◌, Some, length, refl, sym, ◌∙◌, ap, slice_set, subst, inl, inr}
use Rattle.std.specs.Prelude.{Contains}
use Rattle.std.specs.List.{slice_get}
use Rattle.std.proofs.lemmas.List.{length-map}
use Rattle.std.proofs.lemmas.List.Elements.{Contains-append_cases}
use Rattle.std.proofs.lemmas.Option.{slice_get_cases}
use Rattle.wb_disk.specs.Device.{Content, History, entries, newest, last_of, added, only, written, grown, synced, PartlySynced}
use Rattle.wb_disk.specs.Crashes.{MayLeave}
use Rattle.wb_disk.proofs.Leaving.{newest_there}
use Rattle.wb_meta.specs.Commits.{Every, Newest, WasThere, Grew}
use Rattle.wb_types.proofs.Lists.{element_beside, set_cases, map_there, Contains-one}
use Rattle.wb_disk.proofs.Lengths.{length_grown}

last_pushed : (c : Content) (ds : List Content) (d : Content) → last_of c (ds ++ d ∷ []) ≡ d
last_pushed c [] d = refl
last_pushed c (e ∷ ds) d = last_pushed e ds d

-- a content more is what a read gives
pub newest-added : (h : History) (content : Content) → newest (added h content) ≡ content
newest-added h content = last_pushed h.first h.later content

-- a content of a list with one more
pub Contains-added : (h : History) (content c : Content) → Contains (entries (added h content)) c → Contains (entries h) c ⊎ (c ≡ content)
Contains-added h content c has = elim (Contains-append_cases (entries h) (content ∷ []) c has) [
  | inl old ↦ inl old
  | inr new ↦ inr (Contains-one content c new)
]

-- a sector that was written
pub record WasWritten (device : List History) (at : ℕ) (content : Content) (i : ℕ) (g : History) : Type 0 where
  pub h : History
  pub here : i ≡ at
  pub was : slice_get device i ≡ Some h
  pub now : g ≡ added h content

written_known : (device : List History) (at : ℕ) (content : Content) (h : History) → slice_get device at ≡ Some h → (i : ℕ) (g : History) → slice_get (slice_set device at (added h content)) i ≡ Some g
    → WasWritten device at content i g ⊎ ((i ≢ at) × (slice_get device i ≡ Some g))
written_known device at content h there i g e = elim (set_cases device at i (added h content) g e) [
  | inl w ↦ inl (record { h = h; here = w.0; was = ap (λ n. slice_get device n) w.0 ∙ there; now = w.1 })
  | inr w ↦ inr w
]

-- a sector after a write
pub written_cases : (device : List History) (at : ℕ) (content : Content) (i : ℕ) (g : History) → slice_get (written device at content) i ≡ Some g
    → WasWritten device at content i g ⊎ ((i ≢ at) × (slice_get device i ≡ Some g))
written_cases device at content i g e = elim (slice_get_cases device at).1 [
  | inl w ↦
      let is : written device at content ≡ slice_set device at (added w.0 content) = ap (λ found. grown found content device at) w.2 in
      written_known device at content w.0 w.2 i g (ap (λ d. slice_get d i) (sym is) ∙ e)
  | inr w ↦
      let is : written device at content ≡ device = ap (λ found. grown found content device at) w.1 in
      let there : slice_get device i ≡ Some g = ap (λ d. slice_get d i) (sym is) ∙ e in
      inr (λ f. absurd (let none : Some g ≡ slice_get device at = sym there ∙ ap (λ n. slice_get device n) f in cc), there)
]

pub length-written : (device : List History) (at : ℕ) (content : Content) → length (written device at content) ≡ length device
length-written device at content = length_grown (slice_get device at) device at content

pub Newest-every : (Is : ℕ → Content → Type 0) (device : List History) → Every Is device → Newest Is device
Newest-every Is device every at h e = every at h (newest h) e (newest_there h)

-- a write adds a content of the kind
pub Every-written : (Is : ℕ → Content → Type 0) (device : List History) (at : ℕ) (content : Content) → Every Is device → Is at content → Every Is (written device at content)
Every-written Is device at content every here i g c e has = elim (written_cases device at content i g e) [
  | inl w ↦
      let P : History → Type 0 = λ x. Contains (entries x) c in
      elim (Contains-added w.h content c (subst P w.now has)) [
        | inl old ↦ every i w.h c w.was old
        | inr new ↦
            let Q : ℕ → Type 0 = λ n. Is n c in
            let R : Content → Type 0 = λ x. Is at x in
            subst Q (sym w.here) (subst R (sym new) here)
      ]
  | inr w ↦ every i g c w.1 has
]

-- a write is what a read gives of its sector; others give what they gave
pub Newest-written : (Was Is : ℕ → Content → Type 0) (device : List History) (at : ℕ) (content : Content) → Newest Was device
    → ((i : ℕ) (c : Content) → i ≢ at → Was i c → Is i c) → Is at content → Newest Is (written device at content)
Newest-written Was Is device at content was others here i g e = elim (written_cases device at content i g e) [
  | inl w ↦
      let is : newest g ≡ content = ap (λ x. newest x) w.now ∙ newest-added w.h content in
      let Q : ℕ → Type 0 = λ n. Is n (newest g) in
      let R : Content → Type 0 = λ x. Is at x in
      subst Q (sym w.here) (subst R (sym is) here)
  | inr w ↦ others i (newest g) w.0 (was i g w.1)
]

-- after a sync there is what reads gave
pub Every-synced : (Is : ℕ → Content → Type 0) (device : List History) → Newest Is device → Every Is (synced device)
Every-synced Is device was at g c e has =
    let w = map_there (λ h. only (newest h)) device at g e in
    let P : History → Type 0 = λ x. Contains (entries x) c in
    let one : c ≡ newest w.0 = Contains-one (newest w.0) c (subst P w.2 has) in
    let R : Content → Type 0 = λ x. Is at x in
    subst R (sym one) (was at w.0 w.1)

-- a sync that failed leaves no content that was not there
pub Every-partly : (Is : ℕ → Content → Type 0) (old new : List History) → Every Is old → PartlySynced old new → Every Is new
Every-partly Is old new every partly at g c e has =
    let w = element_beside new old at g (sym partly.size) e in
    let P : History → Type 0 = λ x. Contains (entries x) c in
    elim (partly.each at w.0 g w.1 e) [
      | inl same ↦ every at w.0 c w.1 (subst P same has)
      | inr one ↦
          let is : c ≡ newest w.0 = Contains-one (newest w.0) c (subst P one has) in
          let R : Content → Type 0 = λ x. Is at x in
          subst R (sym is) (every at w.0 (newest w.0) w.1 (newest_there w.0))
    ]

-- a crash leaves contents of the kind
pub Every-left : (Is : ℕ → Content → Type 0) (device : List History) (sectors : List Content) → Every Is device → MayLeave device sectors → (at : ℕ) (c : Content) → slice_get sectors at ≡ Some c → Is at c
Every-left Is device sectors every left at c e =
    let w = element_beside sectors device at c (sym left.size) e in
    every at w.0 c w.1 (left.each at w.0 c w.1 e)

-- nothing was done
pub Grew-none : (by : ℕ → Content → Type 0) (device : List History) → Grew by device device
Grew-none by device = record {
  size = refl;
  each = λ at h c e has. inl (λ g f.
      let same : h ≡ g = (let both : Some h ≡ Some g = sym e ∙ f in cc) in
      let P : History → Type 0 = λ x. Contains (entries x) c in
      subst P same has);
}

pub Grew-wider : (by more : ℕ → Content → Type 0) (before now : List History) → ((at : ℕ) (c : Content) → by at c → more at c) → Grew by before now → Grew more before now
Grew-wider by more before now wider grew = record {
  size = grew.size;
  each = λ at h c e has. elim (grew.each at h c e has) [
    | inl was ↦ inl was
    | inr new ↦ inr (wider at c new)
  ];
}

pub Grew-written : (by : ℕ → Content → Type 0) (before now : List History) (at : ℕ) (content : Content) → Grew by before now → by at content → Grew by before (written now at content)
Grew-written by before now at content grew here = record {
  size = length-written now at content ∙ grew.size;
  each = Every-written (λ i c. WasThere before i c ⊎ by i c) now at content grew.each (inr here);
}

pub Grew-synced : (by : ℕ → Content → Type 0) (before now : List History) → Grew by before now → Grew by before (synced now)
Grew-synced by before now grew = record {
  size = length-map now (λ h. only (newest h)) ∙ grew.size;
  each = let Kind : ℕ → Content → Type 0 = λ i c. WasThere before i c ⊎ by i c in Every-synced Kind now (Newest-every Kind now grew.each);
}

pub Grew-partly : (by : ℕ → Content → Type 0) (before now new : List History) → Grew by before now → PartlySynced now new → Grew by before new
Grew-partly by before now new grew partly = record {
  size = partly.size ∙ grew.size;
  each = Every-partly (λ i c. WasThere before i c ⊎ by i c) now new grew.each partly;
}
