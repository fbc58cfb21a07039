-- A reading of an image that goes over from its mapping to its dirty bits, and goes on with these.
use Rattle.std.proofs.Common.{◌≡◌, ◌+◌, ◌∙◌, sym, ap, subst, refl, ℕ, Bool, true, false, cond, nat_eq, List, [], ◌∷◌, ◌++◌, Option, Some, None, Ok, Err, IsSome, is_some, length, map, drop, append_assoc, append-nil, arith}
use Rattle.std.specs.Prelude.{Result, IfSome}
use Rattle.std.proofs.Math.Seq.{drop-append_seam}
use Rattle.std.proofs.lemmas.Bool.{ne_eqb}
use Rattle.std.proofs.lemmas.Bool.Decides.{nat_tests}
use Rattle.std.proofs.lemmas.List.{map-append, length-map, length-append, drop-append-le}
use Rattle.wb_types.specs.declared.entry.Entry.{Entry}
use Rattle.wb_types.specs.declared.number.Place.{Place}
use Rattle.wb_types.specs.declared.refusal.Refusal.{Refusal}
use Rattle.wb_types.specs.declared.refusal.Refusal.TheVariants.{Range, Crosses, Busy, Defer, Io, Failed, Memory, Worn, Geometry, NotFormatted, Damaged, Mismatch, NotClean, BadMessage, WrongMode, BadTable, GenerationEnd}
use Rattle.wb_types.proofs.Truth.{or_true, either_false}
use Rattle.wb_format.specs.declared.root.Root.{Root}
use Rattle.wb_format.specs.declared.node.Node.{Node}
use Rattle.wb_tree.specs.declared.placed.PlacedNode.{PlacedNode}
use Rattle.wb_tree.specs.Mapping.{Mapping}
use Rattle.wb_tree.specs.Reading.{Found, ReadOutcome, Nodes, ◌then◌, is_reached, tree_read}
use Rattle.wb_tree.specs.Loading.{Loading, outcome, wanted_place, IsFresh, FailsBy}
use Rattle.wb_tree.proofs.Reading.ReachedLemmas.{is_reached-push}
use Rattle.wb_tree.proofs.Reading.LoaderSteps.{found_same}
use Rattle.wb_dirty.specs.Reading.{Asked, MarksOutcome, is_among, dirty_read}
use Rattle.wb_dirty.specs.Loading.{DirtyLoading, MayReach}
use Rattle.wb_dirty.specs.ImageReading.{dirty_node, places_reached, asked_behind, found_with_bits, outcome_with, bits_behind}
use Rattle.wb_dirty.specs.ImageLoading.{node_told, as_told, found_in, dirty_wanted, part_outcome, IsAhead, IsBehind}
use Rattle.wb_dirty.specs.ImageLoading.PartRead.{OfMapping}
use Rattle.wb_dirty.proofs.MappingsFound.{found_as_told}

-- ---- refusals

-- a refusal of one reading is one of a reading that fails where it does
fails_alike : {X Y : Type 0} (refusal : Refusal) (one : Result X Place) (other : Result Y Place) → ((place : Place) → one ≡ Err place → other ≡ Err place) → FailsBy refusal one → FailsBy refusal other
fails_alike {X} {Y} Range one other same fails = absurd fails
fails_alike {X} {Y} Crosses one other same fails = absurd fails
fails_alike {X} {Y} Busy one other same fails = absurd fails
fails_alike {X} {Y} Defer one other same fails = absurd fails
fails_alike {X} {Y} (Io device) one other same fails = absurd fails
fails_alike {X} {Y} Failed one other same fails = absurd fails
fails_alike {X} {Y} Memory one other same fails = tt
fails_alike {X} {Y} Worn one other same fails = absurd fails
fails_alike {X} {Y} Geometry one other same fails = absurd fails
fails_alike {X} {Y} NotFormatted one other same fails = absurd fails
fails_alike {X} {Y} (Damaged place) one other same fails = same place fails
fails_alike {X} {Y} Mismatch one other same fails = absurd fails
fails_alike {X} {Y} NotClean one other same fails = absurd fails
fails_alike {X} {Y} BadMessage one other same fails = absurd fails
fails_alike {X} {Y} WrongMode one other same fails = absurd fails
fails_alike {X} {Y} BadTable one other same fails = absurd fails
fails_alike {X} {Y} GenerationEnd one other same fails = absurd fails

-- one of the mapping is one of the image
pub fails_then : (refusal : Refusal) (reading : ReadOutcome) (go_on : Found → ReadOutcome) → FailsBy refusal reading → FailsBy refusal (reading then go_on)
fails_then refusal reading go_on = fails_alike refusal reading (reading then go_on) (λ place e. ap (λ (r : ReadOutcome). r then go_on) e)

-- and so is one of the dirty bits
pub ends_fail : (refusal : Refusal) (mapping : Found) (reading : MarksOutcome) → FailsBy refusal reading → FailsBy refusal (outcome_with mapping reading)
ends_fail refusal mapping reading = fails_alike refusal reading (outcome_with mapping reading) (λ place e. ap (λ (r : MarksOutcome). outcome_with mapping r) e)

-- ---- what is wanted

-- the node whose place is wanted
pub record IsPlaceWanted (o : Option PlacedNode) (place : Place) : Type 0 where
  pub node : PlacedNode
  pub some : o ≡ Some node
  pub there : node.place ≡ place

pub place_wanted-is : (o : Option PlacedNode) (place : Place) → wanted_place o ≡ Some place → IsPlaceWanted o place
place_wanted-is None place e = absurd cc
place_wanted-is (Some node) place e = record { node = node; some = refl; there = cc }

-- what holds where another thing does
pub IfSome-weaker : {X : Type 0} (o : Option X) (P Q : X → Type 0) → ((x : X) → P x → Q x) → IfSome o P → IfSome o Q
IfSome-weaker {X} None P Q f h = tt
IfSome-weaker {X} (Some x) P Q f h = f x h

-- ---- places

-- the places that were reached, the mapping's and those of dirty bits behind them
pub reached-behind : (nodes : List PlacedNode) (places : List Place) (place : ℕ) → is_reached place (nodes ++ map dirty_node places) ≡ is_among place (map (λ node. node.place) nodes ++ places)
reached-behind (node ∷ nodes) places place = ap (λ (r : Bool). cond (nat_eq node.place.0 place) true r) (reached-behind nodes places place)
reached-behind [] [] place = refl
reached-behind [] (first ∷ places) place = ap (λ (r : Bool). cond (nat_eq first.0 place) true r) (reached-behind [] places place)

-- a place that may be read among the dirty bits was not read before in either tree
pub fresh-behind : (root : Root) (tree : Mapping) (nodes : List PlacedNode) (l : DirtyLoading) (place : Place) → IsBehind root tree nodes l → MayReach l.asked.root l.marks.reached place
    → IsFresh root (found_with_bits (found_in root nodes tree) l.marks).reached place
fresh-behind root tree nodes l place h may =
    let m : MayReach root l.marks.reached place = subst (λ (r : Root). MayReach r l.marks.reached place) h.root_is may in
    record {
      behind = m.behind;
      inside = m.inside;
      unread = reached-behind nodes (drop (length nodes) l.marks.reached) place.0 ∙ (ap (λ (ps : List Place). is_among place.0 ps) (sym h.front) ∙ m.unread);
    }

-- ---- the mapping is read

-- what was told, and what is told now
told_with : Nodes → ℕ → Option Node → Nodes
told_with told here node place = cond (nat_eq here place) node (told place)

told_with-here : (told : Nodes) (here : ℕ) (node : Option Node) → told_with told here node here ≡ node
unfolding told_with
told_with-here told here what = let yes : nat_eq here here ≡ true = grind (arith, nat_tests) in rw yes refl

told_with-there : (told : Nodes) (here : ℕ) (node : Option Node) (place : ℕ) → nat_eq here place ≡ false → told_with told here node place ≡ told place
unfolding told_with
told_with-there told here what place e = rw e refl

other_than : (here place : ℕ) (reached : List PlacedNode) → is_reached here reached ≡ false → is_reached place reached ≡ true → nat_eq here place ≡ false
other_than here place reached unread r = ne_eqb here place (λ same. let both : true ≡ false = sym r ∙ (ap (λ p. is_reached p reached) (sym same) ∙ unread) in cc)

-- nodes at other places are as they were told
same_told : (told : Nodes) (here : ℕ) (node : Option Node) (reached : List PlacedNode) → is_reached here reached ≡ false → as_told (told_with told here node) reached ≡ as_told told reached
same_told told here what [] unread = refl
same_told told here what (first ∷ reached) unread =
    let parts = either_false (nat_eq first.place.0 here) (is_reached here reached) unread in
    let apart : nat_eq here first.place.0 ≡ false = ne_eqb here first.place.0 (λ same. let yes : nat_eq first.place.0 here ≡ true = grind (arith, nat_tests) in let both : true ≡ false = sym yes ∙ parts.0 in cc) in
    ap (λ (o : Option Node). node_told o first.place ∷ as_told (told_with told here what) reached) (told_with-there told here what first.place.0 apart)
    ∙ ap (λ (rest : List PlacedNode). node_told (told first.place.0) first.place ∷ rest) (same_told told here what reached parts.1)

-- one node more was told
pub ahead_more : (root : Root) (l next : Loading) (wanted : PlacedNode) (node : Option Node) (nodes more : List PlacedNode) → IsAhead root l nodes → is_reached wanted.place.0 l.found.reached ≡ false → next.root ≡ l.root
    → next.found.reached ≡ l.found.reached ++ wanted ∷ [] → ((others : Nodes) → others wanted.place.0 ≡ node → outcome next others ≡ outcome l others) → more ≡ nodes ++ node_told node wanted.place ∷ []
    → IsAhead root next more
ahead_more root l next wanted node nodes more h unread same reached goes_on pushed =
    let here : ℕ = wanted.place.0 in
    let told : Nodes = told_with h.told here node in
    record {
      named = h.named;
      root_is = same ∙ h.root_is;
      told = told;
      goes_on = λ others agree.
          let at : (place : ℕ) → is_reached place (l.found.reached ++ wanted ∷ []) ≡ true → told place ≡ others place = λ place r. agree place (ap (λ (rs : List PlacedNode). is_reached place rs) reached ∙ r) in
          let this : nat_eq here here ≡ true = grind (arith, nat_tests) in
          let last : is_reached here (l.found.reached ++ wanted ∷ []) ≡ true = is_reached-push here l.found.reached wanted ∙ ap (λ (t : Bool). cond t true (is_reached here l.found.reached)) this in
          goes_on others (sym (at here last) ∙ told_with-here h.told here node)
          ∙ h.goes_on others (λ place r.
          sym (told_with-there h.told here node place (other_than here place l.found.reached unread r))
          ∙ at place (is_reached-push place l.found.reached wanted ∙ or_true (nat_eq here place) (is_reached place l.found.reached) r));
      nodes_are = pushed
          ∙ (ap (λ (ns : List PlacedNode). ns ++ node_told node wanted.place ∷ []) (h.nodes_are ∙ sym (same_told h.told here node l.found.reached unread))
          ∙ (ap (λ (o : Option Node). as_told told l.found.reached ++ node_told o wanted.place ∷ []) (sym (told_with-here h.told here node))
          ∙ (sym (map-append (λ (n : PlacedNode). node_told (told n.place.0) n.place) l.found.reached (wanted ∷ []))
          ∙ ap (λ (rs : List PlacedNode). as_told told rs) (sym reached))));
    }

-- ---- the mapping was read

-- what was found of it
pub found-ahead : (root : Root) (l : Loading) (nodes : List PlacedNode) (tree : Mapping) → IsAhead root l nodes → ((others : Nodes) → outcome l others ≡ Ok l.found) → tree.entries ≡ l.found.entries → l.found ≡ found_in root nodes tree
found-ahead root l nodes tree h ended entries =
    let reads : tree_read root h.told ≡ Ok l.found = sym (h.goes_on h.told (λ place r. refl)) ∙ ended h.told in
    let told = found_as_told root h.told l.found reads in
    found_same l.found.reached nodes l.found.entries tree.entries l.found.mapped (found_in root nodes tree).mapped (sym (h.nodes_are ∙ told.placed)) (sym entries)
    (told.marks ∙ ap (λ (es : List (Option Entry)). (found_in root nodes (record { entries = es; known = tree.known })).mapped) (sym entries))

behind-named : (root : Root) (others : Nodes) (top : Option Place) (mapping : Found) → IsSome top → bits_behind root others top mapping ≡ outcome_with mapping (dirty_read (asked_behind root mapping) others (places_reached mapping))
behind-named root others None mapping some = absurd (let e : false ≡ true = some in cc)
behind-named root others (Some top) mapping some = refl

-- the dirty bits give what the image gives
pub image-behind : (root : Root) (l : Loading) (nodes : List PlacedNode) (tree : Mapping) (mapped : List Bool) (places : List Place) (others : Nodes) (reading : MarksOutcome) → IsSome root.top_dirty
    → l.found ≡ found_in root nodes tree → outcome l others ≡ Ok l.found → mapped ≡ map is_some tree.entries → places ≡ places_reached l.found
    → reading ≡ dirty_read (record { root = root; mapped = mapped }) others places → outcome_with (found_in root nodes tree) reading ≡ part_outcome root (OfMapping l) others
image-behind root l nodes tree mapped places others reading named same ended are stand is =
    let mapping : Found = found_in root nodes tree in
    ap (λ (r : MarksOutcome). outcome_with mapping r) (is
    ∙ (ap (λ (ms : List Bool). dirty_read (record { root = root; mapped = ms }) others places) are
    ∙ ap (λ (ps : List Place). dirty_read (asked_behind root mapping) others ps) (stand ∙ ap (λ (f : Found). places_reached f) same)))
    ∙ (sym (behind-named root others root.top_dirty mapping named)
    ∙ (ap (λ (f : Found). bits_behind root others root.top_dirty f) (sym same)
    ∙ ap (λ (r : ReadOutcome). r then bits_behind root others root.top_dirty) (sym ended)))

-- nothing was reached behind the mapping
front_alone : (nodes : List PlacedNode) (reached : List Place) → reached ≡ map (λ node. node.place) nodes → drop (length nodes) reached ≡ []
front_alone nodes reached e =
    let places : List Place = map (λ (node : PlacedNode). node.place) nodes in
    ap (λ (ps : List Place). drop (length nodes) ps) (e ∙ sym (append-nil places))
    ∙ (ap (λ n. drop n (places ++ [])) (sym (length-map nodes (λ (node : PlacedNode). node.place))) ∙ drop-append_seam places [])

pub front-begun : (nodes : List PlacedNode) (reached : List Place) → reached ≡ map (λ node. node.place) nodes → reached ≡ map (λ node. node.place) nodes ++ drop (length nodes) reached
front-begun nodes reached e =
    let places : List Place = map (λ (node : PlacedNode). node.place) nodes in
    e ∙ (sym (append-nil places) ∙ ap (λ (ps : List Place). places ++ ps) (sym (front_alone nodes reached e)))

pub reached_alone : (nodes : List PlacedNode) (reached : List Place) → reached ≡ map (λ node. node.place) nodes → nodes ++ map dirty_node (drop (length nodes) reached) ≡ nodes
reached_alone nodes reached e = ap (λ (ps : List Place). nodes ++ map dirty_node ps) (front_alone nodes reached e) ∙ append-nil nodes

-- behind a mapping that was read, the places of its nodes were reached
pub record AreBegun (root : Root) (l : Loading) (nodes : List PlacedNode) (tree : Mapping) (reached : List Place) : Type 0 where
  pub found : l.found ≡ found_in root nodes tree
  pub places : reached ≡ map (λ node. node.place) nodes

pub bits-begun : (root : Root) (l : Loading) (nodes : List PlacedNode) (tree : Mapping) (reached : List Place) → IsAhead root l nodes → ((others : Nodes) → outcome l others ≡ Ok l.found) → tree.entries ≡ l.found.entries
    → reached ≡ places_reached l.found → AreBegun root l nodes tree reached
bits-begun root l nodes tree reached h ended entries places =
    let same = found-ahead root l nodes tree h ended entries in
    record { found = same; places = places ∙ ap (λ (f : Found). places_reached f) same }

-- ---- dirty bits are read

-- one place more was reached behind the mapping
pub drop_more : (nodes : List PlacedNode) (reached more : List Place) (place : Place) → reached ≡ map (λ node. node.place) nodes ++ drop (length nodes) reached → more ≡ reached ++ place ∷ []
    → drop (length nodes) more ≡ drop (length nodes) reached ++ place ∷ []
drop_more nodes reached more place front e =
    let places : List Place = map (λ (node : PlacedNode). node.place) nodes in
    let sizes : length reached ≡ length places + length (drop (length nodes) reached) = ap (λ (ps : List Place). length ps) front ∙ length-append places (drop (length nodes) reached) in
    let size : length places ≡ length nodes = length-map nodes (λ (node : PlacedNode). node.place) in
    ap (λ (ps : List Place). drop (length nodes) ps) e ∙ drop-append-le (length nodes) reached (place ∷ []) (omega (arith, sizes, size))

pub behind_more : (root : Root) (tree : Mapping) (nodes : List PlacedNode) (l next : DirtyLoading) (wanted : PlacedNode) → IsBehind root tree nodes l → next.asked ≡ l.asked
    → next.marks.reached ≡ l.marks.reached ++ wanted.place ∷ [] → IsBehind root tree nodes next
behind_more root tree nodes l next wanted h asked reached =
    let places : List Place = map (λ (node : PlacedNode). node.place) nodes in
    record {
      named = h.named;
      mapping = h.mapping;
      loaded = h.loaded;
      root_is = ap (λ (a : Asked). a.root) asked ∙ h.root_is;
      front = reached
          ∙ (ap (λ (ps : List Place). ps ++ wanted.place ∷ []) h.front
          ∙ (append_assoc places (drop (length nodes) l.marks.reached) (wanted.place ∷ [])
          ∙ ap (λ (ps : List Place). places ++ ps) (sym (drop_more nodes l.marks.reached next.marks.reached wanted.place h.front reached))));
    }

-- a node that was told, or nothing was done
pub behind_told : (root : Root) (tree : Mapping) (nodes : List PlacedNode) (l next : DirtyLoading) → IsBehind root tree nodes l → next.asked ≡ l.asked
    → ((wanted : PlacedNode) → l.wanted ≡ Some wanted → next.marks.reached ≡ l.marks.reached ++ wanted.place ∷ []) → (l.wanted ≡ None → next ≡ l) → IsBehind root tree nodes next
behind_told root tree nodes l next h asked reached idle = by_wanted l.wanted refl
  where
    by_wanted : (o : Option PlacedNode) → l.wanted ≡ o → IsBehind root tree nodes next
    by_wanted None e = subst (λ (m : DirtyLoading). IsBehind root tree nodes m) (sym (idle e)) h
    by_wanted (Some wanted) e = behind_more root tree nodes l next wanted h asked (reached wanted e)

pub reached_more : (root : Root) (tree : Mapping) (nodes : List PlacedNode) (l next : DirtyLoading) (wanted : PlacedNode) → IsBehind root tree nodes l → next.marks.reached ≡ l.marks.reached ++ wanted.place ∷ []
    → (found_with_bits (found_in root nodes tree) next.marks).reached ≡ (found_with_bits (found_in root nodes tree) l.marks).reached ++ dirty_node wanted.place ∷ []
reached_more root tree nodes l next wanted h reached =
    ap (λ (ps : List Place). nodes ++ map dirty_node ps) (drop_more nodes l.marks.reached next.marks.reached wanted.place h.front reached)
    ∙ (ap (λ (ns : List PlacedNode). nodes ++ ns) (map-append dirty_node (drop (length nodes) l.marks.reached) (wanted.place ∷ []))
    ∙ sym (append_assoc nodes (map dirty_node (drop (length nodes) l.marks.reached)) (dirty_node wanted.place ∷ [])))

-- the node of dirty bits that is wanted
pub record IsDirtyWanted (o : Option PlacedNode) (wanted : PlacedNode) : Type 0 where
  pub node : PlacedNode
  pub some : o ≡ Some node
  pub is : dirty_node node.place ≡ wanted

pub dirty_wanted-is : (o : Option PlacedNode) (wanted : PlacedNode) → dirty_wanted o ≡ Some wanted → IsDirtyWanted o wanted
dirty_wanted-is None wanted e = absurd cc
dirty_wanted-is (Some node) wanted e = record { node = node; some = refl; is = cc }
