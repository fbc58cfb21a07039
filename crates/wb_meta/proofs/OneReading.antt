-- Sectors are read in one way alone.
use Rattle.std.proofs.Common.{◌≡◌, ◌≢◌, ◌⊎◌, ℕ, Bool, true, false, cond, nat_eq, List, Option, Some, Ok, Err, length, refl, sym, ◌∙◌, ap, subst, arith, inl, inr}
use Rattle.std.specs.List.{slice_get}
use Rattle.std.proofs.lemmas.Bool.Decides.{nat_tests}
use Rattle.wb_types.specs.declared.number.Place.{Place}
use Rattle.wb_types.specs.declared.refusal.Refusal.{Refusal}
use Rattle.wb_types.specs.declared.refusal.Refusal.TheVariants.{Range, Crosses, Busy, Defer, Io, Failed, Memory, Worn, Geometry, NotFormatted, Damaged, Mismatch, NotClean, BadMessage, WrongMode, BadTable, GenerationEnd}
use Rattle.wb_types.specs.declared.version.Version.{Version}
use Rattle.wb_disk.specs.Device.{Content}
use Rattle.wb_format.specs.declared.root.Root.{Root}
use Rattle.wb_format.specs.Layout.{SpellsRoot}
use Rattle.wb_format.proofs.Values.{one_root}
use Rattle.wb_tree.specs.declared.placed.PlacedNode.{PlacedNode}
use Rattle.wb_tree.specs.Mapping.{Mapping}
use Rattle.wb_tree.specs.Reading.{Found, ReadOutcome, Nodes, ReadsAs, AreNodes, IsNewestRoot, is_reached, tree_read}
use Rattle.wb_tree.specs.Whole.{found_of}
use Rattle.wb_dirty.specs.ImageReading.{image_read, with_bits}
use Rattle.wb_meta.specs.Representing.{Represents, RepresentsOldOrTree, RepresentsReading, Stored, ReadsThere, ReadThere, Whole, all_of, alone}
use Rattle.wb_meta.specs.States.{places_of, RepresentsState, HasNoRoot, HasOtherSize, HasFittingRoot, IsDamagedAt, IsRefusedBy, SpeaksOfSectors}
use Rattle.wb_meta.proofs.Framing.{top_following}
use Rattle.wb_dirty.proofs.Following.{image_following}
use Rattle.wb_meta.proofs.ImageFraming.{mapping_among}
use Rattle.wb_meta.proofs.Loaded.{there_one}

newest_by : (sectors : List Content) (a b : Root) (test : Bool) (x : IsNewestRoot sectors a) (y : IsNewestRoot sectors b) → nat_eq x.slot y.slot ≡ test → a ≡ b
newest_by sectors a b true x y e =
    let slots : x.slot ≡ y.slot = grind (arith, nat_tests) in
    let there : Some x.sector ≡ Some y.sector = sym x.there ∙ (ap (λ (n : ℕ). slice_get sectors n) slots ∙ y.there) in
    let same : x.sector ≡ y.sector = cc in
    let P : Content → Type 0 = λ s. SpellsRoot s a in
    one_root y.sector a b (subst P same x.valid.spelled) y.valid.spelled
newest_by sectors a b false x y e =
    let apart : y.slot ≢ x.slot = grind (arith, nat_tests) in
    let lower = x.newest y.slot y.sector b apart y.there y.valid in
    let higher = y.newest x.slot x.sector a (λ same. apart (sym same)) x.there x.valid in
    absurd (omega (arith, lower, higher))

-- there is one newest root
pub one_newest : (sectors : List Content) (a b : Root) → IsNewestRoot sectors a → IsNewestRoot sectors b → a ≡ b
one_newest sectors a b x y = newest_by sectors a b (nat_eq x.slot y.slot) x y refl

-- what these nodes read as, and elsewhere what others do
pub joined : Nodes → Nodes → List PlacedNode → Nodes
joined a b reached place = cond (is_reached place reached) (a place) (b place)

pub there_as : (version : Version) (sectors : List Content) (a b : Nodes) (place : ℕ) → a place ≡ b place → ReadsThere version sectors a place → ReadsThere version sectors b place
there_as version sectors a b place same there =
    let P : Option _ → Type 0 = λ o. ReadsAs version there.sector o in
    record { sector = there.sector; there = there.there; reads = subst P same there.reads }

pub joined_first : (a b : Nodes) (reached : List PlacedNode) (place : ℕ) → is_reached place reached ≡ true → a place ≡ joined a b reached place
unfolding joined
joined_first a b reached place e = sym (ap (λ (test : Bool). cond test (a place) (b place)) e)

pub joined_second : (a b : Nodes) (reached : List PlacedNode) (place : ℕ) → is_reached place reached ≡ false → b place ≡ joined a b reached place
unfolding joined
joined_second a b reached place e = sym (ap (λ (test : Bool). cond test (a place) (b place)) e)

joined_by : (version : Version) (sectors : List Content) (a b : Nodes) (reached : List PlacedNode) (place : ℕ) (test : Bool) → is_reached place reached ≡ test → ReadThere version sectors a reached → ReadsThere version sectors b place
    → ReadsThere version sectors (joined a b reached) place
joined_by version sectors a b reached place true e first second = there_as version sectors a (joined a b reached) place (joined_first a b reached place e) (first place e)
joined_by version sectors a b reached place false e first second = there_as version sectors b (joined a b reached) place (joined_second a b reached place e) second

there_first : (version : Version) (sectors : List Content) (a b : Nodes) (reached : List PlacedNode) → ReadThere version sectors a reached → ReadThere version sectors (joined a b reached) reached
there_first version sectors a b reached first place r = there_as version sectors a (joined a b reached) place (joined_first a b reached place r) (first place r)

there_second : (sectors : List Content) (p q : Root) (a b : Nodes) (reached other : List PlacedNode) → p ≡ q → ReadThere p.version sectors a reached → ReadThere q.version sectors b other
    → ReadThere q.version sectors (joined a b reached) other
there_second sectors p q a b reached other same first second place r =
    let moved : ReadThere q.version sectors a reached = subst (λ (t : Root). ReadThere t.version sectors a reached) same first in
    joined_by q.version sectors a b reached place (is_reached place reached) refl moved (second place r)

-- what is held is read of whatever reads alike at its nodes
held_read : (sectors : List Content) (root : Root) (found : Whole) (others : Nodes) → Represents sectors root found → ReadThere root.version sectors others found.reached → image_read root others ≡ Ok (all_of found)
held_read sectors root found others held there =
    image_following held.nodes others root (all_of found) (λ mapping e agree. top_following held.nodes others root root.top mapping e agree) held.reads (λ place r. there_one root.version sectors held.nodes others place (held.reached place r) (there place r))

held_mapping : (sectors : List Content) (root : Root) (found : Whole) (others : Nodes) → Represents sectors root found → ReadThere root.version sectors others found.reached → tree_read root others ≡ Ok found.mapping
held_mapping sectors root found others held there =
    top_following held.nodes others root root.top found.mapping held.mapping (λ place r.
    let all = mapping_among root held.nodes found held.reads held.mapping place r in
    there_one root.version sectors held.nodes others place (held.reached place all) (there place all))

-- ---- one state, or one refusal

pub one_fault : (sectors : List Content) (a b : Place) → IsDamagedAt sectors a → IsDamagedAt sectors b → a ≡ b
one_fault sectors a b x y =
    let nodes = joined x.nodes y.nodes x.reached in
    let root = one_newest sectors x.root y.root x.newest y.newest in
    let first : image_read x.root nodes ≡ Err a = x.reads nodes (there_first x.root.version sectors x.nodes y.nodes x.reached x.there) in
    let second : image_read y.root nodes ≡ Err b = y.reads nodes (there_second sectors x.root y.root x.nodes y.nodes x.reached y.reached root x.there y.there) in
    let both : ◌≡◌ {A = ReadOutcome} (Err a) (Err b) = sym first ∙ (ap (λ (r : Root). image_read r nodes) root ∙ second) in
    cc

no_fault : (sectors : List Content) (root : Root) (found : Whole) (place : Place) → Represents sectors root found → IsDamagedAt sectors place → ⊥
no_fault sectors root found place held damage =
    let nodes = joined held.nodes damage.nodes found.reached in
    let same = one_newest sectors root damage.root held.newest damage.newest in
    let first : image_read root nodes ≡ Ok (all_of found) = held_read sectors root found nodes held (there_first root.version sectors held.nodes damage.nodes found.reached held.reached) in
    let second : image_read damage.root nodes ≡ Err place = damage.reads nodes (there_second sectors root damage.root held.nodes damage.nodes found.reached damage.reached same held.reached damage.there) in
    let both : ◌≡◌ {A = ReadOutcome} (Ok (all_of found)) (Err place) = sym first ∙ (ap (λ (r : Root). image_read r nodes) same ∙ second) in
    absurd cc

pub no_root : (sectors : List Content) (root : Root) → IsNewestRoot sectors root → HasNoRoot sectors → ⊥
no_root sectors root newest none = none newest.slot newest.sector root newest.there newest.valid

other_size : (sectors : List Content) (root : Root) → IsNewestRoot sectors root → root.geometry.meta_sectors ≡ length sectors → HasOtherSize sectors → ⊥
other_size sectors root newest size other = other.other (ap (λ (r : Root). r.geometry.meta_sectors) (one_newest sectors other.root root other.newest newest) ∙ size)

-- a root of this device leaves neither of the other two faults
pub fitting_only : (sectors : List Content) → HasFittingRoot sectors → (HasNoRoot sectors → ⊥) × (HasOtherSize sectors → ⊥)
fitting_only sectors fitting = (no_root sectors fitting.root fitting.newest, other_size sectors fitting.root fitting.newest fitting.size)

-- the refusals that speak of the sectors
record IsDamage (sectors : List Content) (refusal : Refusal) : Type 0 where
  pub place : Place
  pub is : refusal ≡ Damaged place
  pub damage : IsDamagedAt sectors place

abbrev Spoken : List Content → Refusal → Type 0
Spoken sectors refusal = ((refusal ≡ NotFormatted) × HasNoRoot sectors) ⊎ (((refusal ≡ Mismatch) × HasOtherSize sectors) ⊎ IsDamage sectors refusal)

spoken : (sectors : List Content) (refusal : Refusal) → SpeaksOfSectors refusal → IsRefusedBy sectors refusal → Spoken sectors refusal
spoken sectors Range speaks by = absurd speaks
spoken sectors Crosses speaks by = absurd speaks
spoken sectors Busy speaks by = absurd speaks
spoken sectors Defer speaks by = absurd speaks
spoken sectors (Io device) speaks by = absurd speaks
spoken sectors Failed speaks by = absurd speaks
spoken sectors Memory speaks by = absurd speaks
spoken sectors Worn speaks by = absurd speaks
spoken sectors Geometry speaks by = absurd speaks
spoken sectors NotFormatted speaks by = inl (refl, by)
spoken sectors (Damaged place) speaks by = inr (inr (record { place = place; is = refl; damage = by }))
spoken sectors Mismatch speaks by = inr (inl (refl, by))
spoken sectors NotClean speaks by = absurd speaks
spoken sectors BadMessage speaks by = absurd speaks
spoken sectors WrongMode speaks by = absurd speaks
spoken sectors BadTable speaks by = absurd speaks
spoken sectors GenerationEnd speaks by = absurd speaks

pub one_refusal : (sectors : List Content) (a b : Refusal) → SpeaksOfSectors a → SpeaksOfSectors b → IsRefusedBy sectors a → IsRefusedBy sectors b → a ≡ b
one_refusal sectors a b speaks_a speaks_b by_a by_b = elim (spoken sectors a speaks_a by_a) [
  | inl x ↦ elim (spoken sectors b speaks_b by_b) [
    | inl y ↦ x.0 ∙ sym y.0
    | inr (inl y) ↦ absurd (no_root sectors y.1.root y.1.newest x.1)
    | inr (inr y) ↦ absurd (no_root sectors y.damage.root y.damage.newest x.1)
  ]
  | inr (inl x) ↦ elim (spoken sectors b speaks_b by_b) [
    | inl y ↦ absurd (no_root sectors x.1.root x.1.newest y.1)
    | inr (inl y) ↦ x.0 ∙ sym y.0
    | inr (inr y) ↦ absurd (other_size sectors y.damage.root y.damage.newest y.damage.size x.1)
  ]
  | inr (inr x) ↦ elim (spoken sectors b speaks_b by_b) [
    | inl y ↦ absurd (no_root sectors x.damage.root x.damage.newest y.1)
    | inr (inl y) ↦ absurd (other_size sectors x.damage.root x.damage.newest x.damage.size y.1)
    | inr (inr y) ↦ x.is ∙ (ap (λ (p : Place). Damaged p) (one_fault sectors x.place y.place x.damage y.damage) ∙ sym y.is)
  ]
]

pub state_only : (sectors : List Content) (root : Root) (tree : Mapping) (dirty : Option (List Bool)) (used : List Place) (refusal : Refusal) → RepresentsState sectors root tree dirty used → SpeaksOfSectors refusal → IsRefusedBy sectors refusal → ⊥
state_only sectors root tree dirty used refusal state speaks by = elim (spoken sectors refusal speaks by) [
  | inl x ↦ no_root sectors root state.represents.newest x.1
  | inr (inl x) ↦ other_size sectors root state.represents.newest state.size x.1
  | inr (inr x) ↦ no_fault sectors root state.found x.place state.represents x.damage
]

found_same : (f g : Found) (x y : ReadOutcome) → x ≡ Ok f → y ≡ Ok g → x ≡ y → f ≡ g
found_same f g x y first second same =
    let both : ◌≡◌ {A = ReadOutcome} (Ok f) (Ok g) = sym first ∙ (same ∙ second) in
    cc

pub one_tree : (sectors : List Content) (a b : Root) (f g : Whole) → Represents sectors a f → Represents sectors b g → (a ≡ b) × (f ≡ g)
one_tree sectors a b f g x y =
    let nodes = joined x.nodes y.nodes f.reached in
    let same = one_newest sectors a b x.newest y.newest in
    let first = there_first a.version sectors x.nodes y.nodes f.reached x.reached in
    let second = there_second sectors a b x.nodes y.nodes f.reached g.reached same x.reached y.reached in
    let all : all_of f ≡ all_of g = found_same (all_of f) (all_of g) _ _ (held_read sectors a f nodes x first) (held_read sectors b g nodes y second) (ap (λ (t : Root). image_read t nodes) same) in
    let mapping : f.mapping ≡ g.mapping = found_same f.mapping g.mapping _ _ (held_mapping sectors a f nodes x first) (held_mapping sectors b g nodes y second) (ap (λ (t : Root). tree_read t nodes) same) in
    let made : Found → Found → Whole = λ m found. record { mapping = m; reached = found.reached; entries = found.entries } in
    (same, ap (λ (m : Found). made m (all_of f)) mapping ∙ ap (made g.mapping) all)

pub one_state : (sectors : List Content) (a b : Root) (t u : Mapping) (bits same : Option (List Bool)) (used also : List Place) → RepresentsState sectors a t bits used → RepresentsState sectors b u same also
    → (a ≡ b) × (t.entries ≡ u.entries) × (with_bits bits t.entries ≡ with_bits same u.entries) × (used ≡ also)
one_state sectors a b t u bits same used also x y =
    let one = one_tree sectors a b x.found y.found x.represents y.represents in (
      one.0,
      x.mapping_entries ∙ (ap (λ (f : Whole). f.mapping.entries) one.1 ∙ sym y.mapping_entries),
      x.entries ∙ (ap (λ (f : Whole). f.entries) one.1 ∙ sym y.entries),
      x.used_are ∙ (ap (λ (f : Whole). places_of f.mapping.reached) one.1 ∙ sym y.used_are),
    )

pub not_refused : (sectors : List Content) (root : Root) (found : Whole) (refusal : Refusal) → Represents sectors root found → root.geometry.meta_sectors ≡ length sectors → SpeaksOfSectors refusal → IsRefusedBy sectors refusal → ⊥
not_refused sectors root found refusal held size speaks by = elim (spoken sectors refusal speaks by) [
  | inl x ↦ no_root sectors root held.newest x.1
  | inr (inl x) ↦ other_size sectors root held.newest size x.1
  | inr (inr x) ↦ no_fault sectors root found x.place held x.damage
]

-- ---- after a commit that failed

pub old_or_tree : (sectors : List Content) (old : Stored) (root : Root) (m : Mapping) (r : Root) (tree : Mapping) (dirty : Option (List Bool)) (used : List Place) → RepresentsOldOrTree old root m sectors → (state : RepresentsState sectors r tree dirty used)
    → ((r ≡ old.root) × (state.found ≡ old.found)) ⊎ ((r ≡ root) × (state.found ≡ alone (found_of root m)))
old_or_tree sectors old root m r tree dirty used either state = elim either [
  | inl was ↦ inl (one_tree sectors r old.root state.found old.found state.represents was)
  | inr new ↦ inr (one_tree sectors r root state.found (alone (found_of root m)) state.represents new.represents)
]

pub old_or_tree-read : (sectors : List Content) (old : Stored) (root : Root) (m : Mapping) (refusal : Refusal) → RepresentsOldOrTree old root m sectors → old.root.geometry.meta_sectors ≡ length sectors → root.geometry.meta_sectors ≡ length sectors
    → SpeaksOfSectors refusal → IsRefusedBy sectors refusal → ⊥
old_or_tree-read sectors old root m refusal either size next speaks by = elim either [
  | inl was ↦ not_refused sectors old.root old.found refusal was size speaks by
  | inr new ↦ not_refused sectors root (alone (found_of root m)) refusal new.represents next speaks by
]

-- ---- what sectors represent

pub tree_reading : (sectors : List Content) (root : Root) (found : Whole) → Represents sectors root found → RepresentsReading sectors root (Ok (all_of found))
tree_reading sectors root found held = record {
  newest = held.newest;
  nodes = held.nodes;
  reached = found.reached;
  there = held.reached;
  reads = λ others there. held_read sectors root found others held there;
}

pub state_reading : (sectors : List Content) (root : Root) (tree : Mapping) (dirty : Option (List Bool)) (used : List Place) (state : RepresentsState sectors root tree dirty used) → RepresentsReading sectors root (Ok (all_of state.found))
state_reading sectors root tree dirty used state = tree_reading sectors root state.found state.represents

pub damage_reading : (sectors : List Content) (place : Place) (damage : IsDamagedAt sectors place) → RepresentsReading sectors damage.root (Err place)
damage_reading sectors place damage = record { newest = damage.newest; nodes = damage.nodes; reached = damage.reached; there = damage.there; reads = damage.reads }

pub one_reading : (sectors : List Content) (a b : Root) (r t : ReadOutcome) → RepresentsReading sectors a r → RepresentsReading sectors b t → (a ≡ b) × (r ≡ t)
one_reading sectors a b r t x y =
    let nodes = joined x.nodes y.nodes x.reached in
    let same = one_newest sectors a b x.newest y.newest in (
      same,
      sym (x.reads nodes (there_first a.version sectors x.nodes y.nodes x.reached x.there))
          ∙ (ap (λ (q : Root). image_read q nodes) same ∙ y.reads nodes (there_second sectors a b x.nodes y.nodes x.reached y.reached same x.there y.there)),
    )

pub whole_read : (sectors : List Content) (nodes : Nodes) (root : Root) (reading : ReadOutcome) → RepresentsReading sectors root reading → AreNodes root.version sectors nodes → image_read root nodes ≡ reading
whole_read sectors nodes root reading held are = held.reads nodes (λ here r. let w = held.there here r in record { sector = w.sector; there = w.there; reads = are here w.sector w.there })
