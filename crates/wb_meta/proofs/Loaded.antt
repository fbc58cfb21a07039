-- A reading that goes on with what a sector spells.
use Rattle.std.proofs.Common.{◌≡◌, ◌⊎◌, ℕ, Bool, true, false, cond, nat_eq, List, [], ◌∷◌, ◌++◌, Option, Some, None, Ok, Err, length, refl, sym, ◌∙◌, ap, subst, arith, inl, inr}
use Rattle.std.specs.List.{slice_get}
use Rattle.std.proofs.lemmas.Bool.Decides.{nat_tests}
use Rattle.wb_types.specs.declared.version.Version.{Version}
use Rattle.wb_types.specs.declared.number.Place.{Place}
use Rattle.wb_types.specs.declared.refusal.Refusal.{Refusal}
use Rattle.wb_types.specs.declared.refusal.Refusal.TheVariants.{Range, Crosses, Busy, Defer, Io, Failed, Memory, Worn, Geometry, NotFormatted, Damaged, Mismatch, NotClean, BadMessage, WrongMode, BadTable, GenerationEnd}
use Rattle.wb_disk.specs.Device.{Content}
use Rattle.wb_format.specs.declared.node.Node.{Node}
use Rattle.wb_format.specs.declared.root.Root.{Root}
use Rattle.wb_tree.specs.declared.placed.PlacedNode.{PlacedNode}
use Rattle.wb_tree.specs.Reading.{ReadOutcome, Nodes, ReadsAs, IsNewestRoot, is_reached, tree_read}
use Rattle.wb_tree.specs.Loading.{wanted_place, FailsBy}
use Rattle.wb_dirty.specs.ImageReading.{image_read}
use Rattle.wb_dirty.specs.ImageLoading.{ImageLoading, image_outcome, mapping_outcome}
use Rattle.std.specs.Prelude.{Result, IfErr}
use Rattle.std.specs.Result.{IsErrAnd}
use Rattle.wb_tree.proofs.Reading.ReachedLemmas.{is_reached-push}
use Rattle.wb_meta.specs.Representing.{ReadsThere, ReadThere}
use Rattle.wb_meta.specs.States.{IsDamagedAt, IsRefusedBy, IsOfReading, CountsFault, FailsIf}
use Rattle.wb_meta.specs.Reads.{HasLoaded}
use Rattle.wb_meta.proofs.Framing.{reads_one, reached_before, reached_last}

-- a refusal of damage names the place of the first fault
pub record NamesFault (refusal : Refusal) (reading : ReadOutcome) : Type 0 where
  pub place : Place
  pub damaged : refusal ≡ Damaged place
  pub fault : reading ≡ Err place

-- the refusals that an image gives
pub fails_by : (refusal : Refusal) (reading : ReadOutcome) → FailsBy refusal reading → (refusal ≡ Memory) ⊎ NamesFault refusal reading
fails_by Range reading fails = absurd fails
fails_by Crosses reading fails = absurd fails
fails_by Busy reading fails = absurd fails
fails_by Defer reading fails = absurd fails
fails_by (Io device) reading fails = absurd fails
fails_by Failed reading fails = absurd fails
fails_by Memory reading fails = inl refl
fails_by Worn reading fails = absurd fails
fails_by Geometry reading fails = absurd fails
fails_by NotFormatted reading fails = absurd fails
fails_by (Damaged place) reading fails = inr (record { place = place; damaged = refl; fault = fails })
fails_by Mismatch reading fails = absurd fails
fails_by NotClean reading fails = absurd fails
fails_by BadMessage reading fails = absurd fails
fails_by WrongMode reading fails = absurd fails
fails_by BadTable reading fails = absurd fails
fails_by GenerationEnd reading fails = absurd fails

-- the node whose place is wanted
pub record IsWanted (wanted : Option PlacedNode) (place : Place) : Type 0 where
  pub node : PlacedNode
  pub some : wanted ≡ Some node
  pub there : node.place ≡ place

pub wanted_node : (wanted : Option PlacedNode) (place : Place) → wanted_place wanted ≡ Some place → IsWanted wanted place
wanted_node None place e = absurd cc
wanted_node (Some node) place e = record { node = node; some = refl; there = cc }

-- what holds of the refusal that a `?` hands on
pub IfErr-handed : {T E : Type 0} (r : Result T E) (refusal : E) (P : E → Type 0) → IsErrAnd r (λ e. e ≡ refusal) → P refusal → IfErr r P
IfErr-handed (Ok x) refusal P handed represents = tt
IfErr-handed (Err e) refusal P handed represents = subst P (sym handed) represents

-- a sector reads alike in all ways to read it
pub there_one : (version : Version) (sectors : List Content) (a b : Nodes) (place : ℕ) → ReadsThere version sectors a place → ReadsThere version sectors b place → a place ≡ b place
there_one version sectors a b place x y =
    let same : x.sector ≡ y.sector = (let both : Some x.sector ≡ Some y.sector = sym x.there ∙ y.there in cc) in
    let P : Content → Type 0 = λ s. ReadsAs version s (a place) in
    reads_one version y.sector (a place) (b place) (subst P same x.reads) y.reads

-- what was read, with one node more
abbrev pub with_node : Nodes → ℕ → Option Node → Nodes
with_node nodes here node place = cond (nat_eq here place) node (nodes place)

with_node_there : (version : Version) (sectors : List Content) (nodes : Nodes) (here : ℕ) (node : Option Node) (place : ℕ) (test : Bool) → (nat_eq here place) ≡ test → ReadsThere version sectors (λ _. node) here
    → (test ≡ false → ReadsThere version sectors nodes place) → ReadsThere version sectors (with_node nodes here node) place
with_node_there version sectors nodes here node place true e there others =
    let same : here ≡ place = grind (arith, nat_tests) in
    let is : node ≡ with_node nodes here node place = sym (ap (λ (b : Bool). cond b node (nodes place)) e) in
    let P : Option Node → Type 0 = λ o. ReadsAs version there.sector o in
    record { sector = there.sector; there = ap (λ (n : ℕ). slice_get sectors n) (sym same) ∙ there.there; reads = subst P is there.reads }
with_node_there version sectors nodes here node place false e there others =
    let was = others refl in
    let is : nodes place ≡ with_node nodes here node place = sym (ap (λ (b : Bool). cond b node (nodes place)) e) in
    let P : Option Node → Type 0 = λ o. ReadsAs version was.sector o in
    record { sector = was.sector; there = was.there; reads = subst P is was.reads }

not_here : (test rest : Bool) → cond test true rest ≡ true → test ≡ false → rest ≡ true
not_here true rest e f = absurd cc
not_here false rest e f = e

pub there_pushed : (version : Version) (sectors : List Content) (nodes : Nodes) (reached : List PlacedNode) (wanted : PlacedNode) (node : Option Node) → ReadThere version sectors nodes reached → ReadsThere version sectors (λ _. node) wanted.place.0
    → ReadThere version sectors (with_node nodes wanted.place.0 node) (reached ++ wanted ∷ [])
there_pushed version sectors nodes reached wanted node was there place r =
    let split : cond (nat_eq wanted.place.0 place) true (is_reached place reached) ≡ true = sym (is_reached-push place reached wanted) ∙ r in
    with_node_there version sectors nodes wanted.place.0 node place (nat_eq wanted.place.0 place) refl there (λ off. was place (not_here (nat_eq wanted.place.0 place) (is_reached place reached) split off))

-- other sectors that read so at the nodes that were reached do so at those before, and there as the node that was told
before_there : (version : Version) (sectors : List Content) (others : Nodes) (reached : List PlacedNode) (wanted : PlacedNode) → ReadThere version sectors others (reached ++ wanted ∷ []) → ReadThere version sectors others reached
before_there version sectors others reached wanted there place r = there place (reached_before place reached wanted r)

told_there : (version : Version) (sectors : List Content) (others : Nodes) (reached : List PlacedNode) (wanted : PlacedNode) (node : Option Node) → ReadThere version sectors others (reached ++ wanted ∷ []) → ReadsThere version sectors (λ _. node) wanted.place.0
    → others wanted.place.0 ≡ node
told_there version sectors others reached wanted node there here = there_one version sectors others (λ _. node) wanted.place.0 (there wanted.place.0 (reached_last wanted reached)) here

-- nothing of the image was read
pub loaded_none : (sectors : List Content) (root : Root) (l : ImageLoading) → IsNewestRoot sectors root → l.found.reached ≡ [] → ((nodes : Nodes) → image_outcome l nodes ≡ image_read root nodes) → ((nodes : Nodes) → mapping_outcome l nodes ≡ tree_read root nodes) → HasLoaded sectors root l
loaded_none sectors root l newest nothing begun mapping = record {
  newest = newest;
  nodes = λ _. None;
  reached = λ place r. absurd (let e : is_reached place [] ≡ true = ap (λ (list : List PlacedNode). is_reached place list) (sym nothing) ∙ r in cc);
  rest = λ others there. begun others;
  mapping = λ others there. mapping others;
}

-- the loader was told what its wanted sector spells
pub loaded_more : (sectors : List Content) (root : Root) (l more : ImageLoading) (wanted : PlacedNode) (node : Option Node) → HasLoaded sectors root l → ReadsThere root.version sectors (λ _. node) wanted.place.0
    → more.found.reached ≡ l.found.reached ++ wanted ∷ [] → ((nodes : Nodes) → nodes wanted.place.0 ≡ node → image_outcome more nodes ≡ image_outcome l nodes)
    → ((nodes : Nodes) → nodes wanted.place.0 ≡ node → mapping_outcome more nodes ≡ mapping_outcome l nodes) → HasLoaded sectors root more
loaded_more sectors root l more wanted node loaded here reached goes_on mapping =
    let P : List PlacedNode → Type 0 = λ list. ReadThere root.version sectors (with_node loaded.nodes wanted.place.0 node) list in
    record {
      newest = loaded.newest;
      nodes = with_node loaded.nodes wanted.place.0 node;
      reached = subst P (sym reached) (there_pushed root.version sectors loaded.nodes l.found.reached wanted node loaded.reached here);
      rest = λ others there.
          let Q : List PlacedNode → Type 0 = λ list. ReadThere root.version sectors others list in
          let all = subst Q reached there in
          goes_on others (told_there root.version sectors others l.found.reached wanted node all here) ∙ loaded.rest others (before_there root.version sectors others l.found.reached wanted all);
      mapping = λ others there.
          let Q : List PlacedNode → Type 0 = λ list. ReadThere root.version sectors others list in
          let all = subst Q reached there in
          mapping others (told_there root.version sectors others l.found.reached wanted node all here) ∙ loaded.mapping others (before_there root.version sectors others l.found.reached wanted all);
    }

-- memory was wanted for a tree
pub memory_refused : (sectors : List Content) (root : Root) (refusal : Refusal) → IsNewestRoot sectors root → root.geometry.meta_sectors ≡ length sectors → refusal ≡ Memory → IsRefusedBy sectors refusal
memory_refused sectors root refusal newest size memory =
    let P : Refusal → Type 0 = λ r. IsRefusedBy sectors r in
    subst P (sym memory) (record { root = root; newest = newest; size = size })

-- it was refused
pub loaded_refused : (sectors : List Content) (root : Root) (l : ImageLoading) (wanted : PlacedNode) (node : Option Node) (refusal : Refusal) → root.geometry.meta_sectors ≡ length sectors → HasLoaded sectors root l
    → ReadsThere root.version sectors (λ _. node) wanted.place.0 → ((nodes : Nodes) → nodes wanted.place.0 ≡ node → FailsBy refusal (image_outcome l nodes)) → IsRefusedBy sectors refusal
loaded_refused sectors root l wanted node refusal size loaded here fails = elim (fails_by refusal (image_outcome l (λ _. node)) (fails (λ _. node) refl)) [
  | inl memory ↦ memory_refused sectors root refusal loaded.newest size memory
  | inr named ↦
      let P : Refusal → Type 0 = λ r. IsRefusedBy sectors r in
      let Q : Refusal → Nodes → Type 0 = λ r others. FailsBy r (image_outcome l others) in
      let made : IsDamagedAt sectors named.place = record {
        root = root;
        newest = loaded.newest;
        size = size;
        nodes = with_node loaded.nodes wanted.place.0 node;
        reached = l.found.reached ++ wanted ∷ [];
        there = there_pushed root.version sectors loaded.nodes l.found.reached wanted node loaded.reached here;
        reads = λ others all.
            sym (loaded.rest others (before_there root.version sectors others l.found.reached wanted all))
            ∙ subst (λ (r : Refusal). Q r others) named.damaged (fails others (told_there root.version sectors others l.found.reached wanted node all here));
      } in
      subst P (sym named.damaged) made
]

-- a refusal of a tree is one of reading, and of no failure of the device
pub fails_kind : (refusal : Refusal) (reading : ReadOutcome) → FailsBy refusal reading → IsOfReading refusal
fails_kind refusal reading fails = elim (fails_by refusal reading fails) [
  | inl memory ↦ let P : Refusal → Type 0 = λ r. IsOfReading r in subst P (sym memory) tt
  | inr named ↦ let P : Refusal → Type 0 = λ r. IsOfReading r in subst P (sym named.damaged) tt
]

pub fails_cause : (refusal : Refusal) (reading : ReadOutcome) (old new : ℕ) → FailsBy refusal reading → new ≡ old → CountsFault refusal old new
fails_cause refusal reading old new fails same = elim (fails_by refusal reading fails) [
  | inl memory ↦ let P : Refusal → Type 0 = λ r. CountsFault r old new in subst P (sym memory) same
  | inr named ↦ let P : Refusal → Type 0 = λ r. CountsFault r old new in subst P (sym named.damaged) same
]

pub fails_way : (refusal : Refusal) (reading : ReadOutcome) (May : Type 0) → FailsBy refusal reading → FailsIf refusal May
fails_way refusal reading May fails = elim (fails_by refusal reading fails) [
  | inl memory ↦ let P : Refusal → Type 0 = λ r. FailsIf r May in subst P (sym memory) tt
  | inr named ↦ let P : Refusal → Type 0 = λ r. FailsIf r May in subst P (sym named.damaged) tt
]
