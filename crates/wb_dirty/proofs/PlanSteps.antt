-- The nodes of dirty bits that are planned, one after the other.
use Rattle.std.proofs.Common.{◌≡◌, ◌≤◌, ◌<◌, ◌+◌, ◌-◌, ◌*◌, ◌∙◌, sym, ap, subst, refl, ℕ, zero, suc, Bool, true, false, List, [], ◌∷◌, ◌++◌, Option, Some, None, length, take, get_or, append_assoc, arith, inl, inr}
use Rattle.std.specs.Prelude.{Contains, slice_get, slice_index}
use Rattle.std.proofs.lemmas.Bool.{cond-true, cond-false}
use Rattle.std.proofs.lemmas.List.{length-append, length-map, map-append, append-nil, get_or-map, length-take, get_or-take}
use Rattle.std.proofs.lemmas.List.Elements.{Contains-append_left, Contains-push, Contains-push_cases}
use Rattle.std.proofs.lemmas.Option.{slice_get-get_or}
use Rattle.wb_types.specs.declared.number.Place.{Place}
use Rattle.wb_format.specs.declared.node.Node.{Node}
use Rattle.wb_format.specs.NodeWords.{IsInnerWord}
use Rattle.wb_tree.specs.Mapping.{NodeName, each_from}
use Rattle.wb_tree.specs.Images.{name_of, place_word}
use Rattle.wb_tree.specs.Planning.{names}
use Rattle.wb_tree.proofs.Nodes.Listing.{each_from-split}
use Rattle.wb_tree.proofs.Images.PlanSteps.{places-more}
use Rattle.wb_dirty.specs.Planning.{has_dirty, dirty_below, StandsAt, IsPlaceIfNeeded, IsNamedBy, IsPlanned, ArePlanned, Continues}

-- ---- the names

-- a node without a dirty block below it needs none
pub dirty_below-none : (dirty : List Bool) (level index : ℕ) → has_dirty dirty level index ≡ false → dirty_below dirty level index ≡ []
unfolding dirty_below
dirty_below-none dirty zero index e = refl
dirty_below-none dirty (suc level) index e = cond-false (has_dirty dirty (suc level) index) (each_from (dirty_below dirty level) 32 (32 * index) ++ record { level = suc level; index = index } ∷ []) [] e

-- one with a dirty block comes behind its children
pub dirty_below-some : (dirty : List Bool) (level index : ℕ) → 1 ≤ level → has_dirty dirty level index ≡ true
    → dirty_below dirty level index ≡ each_from (dirty_below dirty (level - 1)) 32 (32 * index) ++ record { level = level; index = index } ∷ []
unfolding dirty_below
dirty_below-some dirty zero index from e = absurd (omega arith)
dirty_below-some dirty (suc level) index from e =
    let below : suc level - 1 ≡ level = omega arith in
    rw below (cond-true (has_dirty dirty (suc level) index) (each_from (dirty_below dirty level) 32 (32 * index) ++ record { level = suc level; index = index } ∷ []) [] e)

none_each : (dirty : List Bool) (count first : ℕ) → each_from (dirty_below dirty 0) count first ≡ []
unfolding each_from dirty_below
none_each dirty zero first = refl
none_each dirty (suc count) first = none_each dirty count (first + 1)

-- below a leaf there are none
pub leaf_needs_none : (dirty : List Bool) (level first : ℕ) → level ≡ 1 → each_from (dirty_below dirty (level - 1)) 32 first ≡ []
leaf_needs_none dirty level first e =
    let below : level - 1 ≡ 0 = omega arith in
    ap (λ l. each_from (dirty_below dirty l) 32 first) below ∙ none_each dirty 32 first

pub length-names : (nodes : List (Place × Node)) → length (names nodes) ≡ length nodes
length-names nodes = length-map nodes (λ (n : Place × Node). name_of n.1)

-- there is a place for the node behind its children
pub place-left : (dirty : List Bool) (level index limit : ℕ) (old new : List (Place × Node)) → 1 ≤ level → has_dirty dirty level index ≡ true → length old + length (dirty_below dirty level index) ≤ limit
    → names new ≡ names old ++ each_from (dirty_below dirty (level - 1)) 32 (32 * index) → length new < limit
place-left dirty level index limit old new from some room listed =
    let children : List NodeName = each_from (dirty_below dirty (level - 1)) 32 (32 * index) in
    let self : List NodeName = record { level = level; index = index } ∷ [] in
    let all : length (dirty_below dirty level index) ≡ length children + 1 = ap length (dirty_below-some dirty level index from some) ∙ length-append children self in
    let now : length (names new) ≡ length (names old) + length children = ap length listed ∙ length-append (names old) children in
    omega (arith, all, now, length-names old, length-names new, room)

-- for the children there are places
pub places-below : (dirty : List Bool) (level index limit : ℕ) (old : List (Place × Node)) → 1 ≤ level → has_dirty dirty level index ≡ true → length old + length (dirty_below dirty level index) ≤ limit
    → length old + length (each_from (dirty_below dirty (level - 1)) 32 (32 * index)) ≤ limit
places-below dirty level index limit old from some room =
    let children : List NodeName = each_from (dirty_below dirty (level - 1)) 32 (32 * index) in
    let self : List NodeName = record { level = level; index = index } ∷ [] in
    let all : length (dirty_below dirty level index) ≡ length children + 1 = ap length (dirty_below-some dirty level index from some) ∙ length-append children self in
    omega (arith, all, room)

first-each : (f : ℕ → List NodeName) (count first : ℕ) → 1 ≤ count → length (f first) ≤ length (each_from f count first)
unfolding each_from
first-each f zero first some = absurd (omega arith)
first-each f (suc count) first some = omega (arith, length-append (f first) (each_from f count (first + 1)))

-- and for the next of them
pub places-next : (f : ℕ → List NodeName) (j first limit : ℕ) (old new : List (Place × Node)) → j < 32 → length old + length (each_from f 32 first) ≤ limit
    → names new ≡ names old ++ each_from f j first → length new + length (f (first + j)) ≤ limit
places-next f j first limit old new below room listed =
    let rest : j + (32 - j) ≡ 32 = omega arith in
    let split : each_from f 32 first ≡ each_from f j first ++ each_from f (32 - j) (first + j) = ap (λ n. each_from f n first) (sym rest) ∙ each_from-split f j (32 - j) first in
    let all : length (each_from f 32 first) ≡ length (each_from f j first) + length (each_from f (32 - j) (first + j)) = ap length split ∙ length-append (each_from f j first) (each_from f (32 - j) (first + j)) in
    let now : length (names new) ≡ length (names old) + length (each_from f j first) = ap length listed ∙ length-append (names old) (each_from f j first) in
    omega (arith, all, now, length-names old, length-names new, room, first-each f (32 - j) (first + j) (omega arith))

-- the names with that of a node behind its children
pub listed-node : (dirty : List Bool) (level index : ℕ) (old new pushed : List (Place × Node)) (node : Place × Node) → 1 ≤ level → has_dirty dirty level index ≡ true
    → names new ≡ names old ++ each_from (dirty_below dirty (level - 1)) 32 (32 * index) → pushed ≡ new ++ node ∷ [] → node.1.level ≡ level → node.1.index ≡ index
    → names pushed ≡ names old ++ dirty_below dirty level index
listed-node dirty level index old new pushed node from some listed e a b =
    let children : List NodeName = each_from (dirty_below dirty (level - 1)) 32 (32 * index) in
    let made : ℕ → ℕ → List NodeName = λ l i. record { level = l; index = i } ∷ [] in
    ap names e
    ∙ (map-append (λ (n : Place × Node). name_of n.1) new (node ∷ [])
    ∙ (ap (λ (ns : List NodeName). ns ++ made node.1.level node.1.index) listed
    ∙ (append_assoc (names old) children (made node.1.level node.1.index)
    ∙ ap (λ (ns : List NodeName). names old ++ ns)
    (ap (λ l. children ++ made l node.1.index) a ∙ (ap (λ i. children ++ made level i) b ∙ sym (dirty_below-some dirty level index from some))))))

-- ---- what holds of nodes goes on to hold

pub continues-self : (nodes : List (Place × Node)) → Continues nodes nodes
continues-self nodes = record { more = []; is = sym (append-nil nodes) }

pub continues-both : (one two three : List (Place × Node)) → Continues one two → Continues two three → Continues one three
continues-both one two three a b =
    record { more = a.more ++ b.more; is = b.is ∙ (ap (λ (ns : List (Place × Node)). ns ++ b.more) a.is ∙ append_assoc one a.more b.more) }

pub continues-push : (nodes pushed : List (Place × Node)) (node : Place × Node) → pushed ≡ nodes ++ node ∷ [] → Continues nodes pushed
continues-push nodes pushed node e = record { more = node ∷ []; is = e }

contains-more : (old new : List (Place × Node)) (node : Place × Node) → Continues old new → Contains old node → Contains new node
contains-more old new node h there = subst (λ ns. Contains ns node) (sym h.is) (Contains-append_left old h.more node there)

stands-more : (old new : List (Place × Node)) (level index : ℕ) (place : Place) → Continues old new → StandsAt old level index place → StandsAt new level index place
stands-more old new level index place h s = record { node = s.node; there = contains-more old new (place, s.node) h s.there; level_is = s.level_is; index_is = s.index_is }

pub placed-more : (dirty : List Bool) (old new : List (Place × Node)) (level index : ℕ) (place : Option Place) → Continues old new → IsPlaceIfNeeded dirty old level index place → IsPlaceIfNeeded dirty new level index place
placed-more dirty old new level index None h p = p
placed-more dirty old new level index (Some place) h p = (p.0, stands-more old new level index place h p.1)

pub named-more : (dirty : List Bool) (old new : List (Place × Node)) (level index word : ℕ) → Continues old new → IsNamedBy dirty old level index word → IsNamedBy dirty new level index word
named-more dirty old new level index word h n = record { place = n.place; placed = placed-more dirty old new level index n.place h n.placed; spelled = n.spelled }

pub planned-more : (dirty : List Bool) (generation : ℕ) (old new : List (Place × Node)) (node : Node) → Continues old new → IsPlanned dirty generation old node → IsPlanned dirty generation new node
planned-more dirty generation old new node h p =
    let w = p.words in
    record { of_bits = p.of_bits; written_in = p.written_in; words = record { leaf = w.leaf; inner = λ above j below. named-more dirty old new (node.level - 1) (32 * node.index + j) (slice_index node.words j) h (w.inner above j below) } }

-- ---- one node more

-- none yet
pub planned-none : (dirty : List Bool) (generation : ℕ) (free : List Place) (nodes : List (Place × Node)) → nodes ≡ [] → ArePlanned dirty generation free nodes
planned-none dirty generation free nodes e = subst (λ ns. ArePlanned dirty generation free ns) (sym e) (record { places = refl; each = λ node there. absurd (omega (arith, there.1)) })

-- one more, at the next of the free places
pub planned-push : (dirty : List Bool) (generation : ℕ) (free : List Place) (nodes pushed : List (Place × Node)) (node : Place × Node) → ArePlanned dirty generation free nodes → pushed ≡ nodes ++ node ∷ []
    → length nodes < length free → slice_get free (length nodes) ≡ Some node.0 → IsPlanned dirty generation nodes node.1 → ArePlanned dirty generation free pushed
planned-push dirty generation free nodes pushed node h is room there p =
    let more = continues-push nodes (nodes ++ node ∷ []) node refl in
    subst (λ ns. ArePlanned dirty generation free ns) (sym is) (record {
      places = places-more free nodes node h.places room there;
      each = λ other at. elim (Contains-push_cases nodes node other at) [
        | inl old ↦ planned-more dirty generation nodes (nodes ++ node ∷ []) other.1 more (h.each other old)
        | inr new ↦ planned-more dirty generation nodes (nodes ++ node ∷ []) other.1 more (subst (λ (n : Place × Node). IsPlanned dirty generation nodes n.1) new p)
      ];
    })

-- it stands where it was put
pub stands-pushed : (same pushed : List (Place × Node)) (level index : ℕ) (node : Place × Node) → pushed ≡ same ++ node ∷ [] → node.1.level ≡ level → node.1.index ≡ index → StandsAt pushed level index node.0
stands-pushed same pushed level index node e a b =
    record { node = node.1; there = subst (λ ns. Contains ns (node.0, node.1)) (sym e) (Contains-push same (node.0, node.1)); level_is = a; index_is = b }

-- ---- the words

-- a node that is planned stands at a free place
pub place-free : (dirty : List Bool) (generation : ℕ) (free : List Place) (nodes : List (Place × Node)) (node : Place × Node) → ArePlanned dirty generation free nodes → Contains nodes node
    → (i : ℕ) × (slice_get free i ≡ Some node.0)
place-free dirty generation free nodes node h there =
    let k = there.0 in
    let inside = there.1 in
    let long : length (take (length nodes) free) ≡ length nodes = sym (ap length h.places) ∙ length-map nodes (λ (n : Place × Node). n.0) in
    let here : get_or (take (length nodes) free) k node.0 ≡ node.0 =
    sym (ap (λ (ps : List Place). get_or ps k node.0) h.places) ∙ (get_or-map (λ (n : Place × Node). n.0) nodes k node node.0 inside ∙ ap (λ (n : Place × Node). n.0) there.2) in
    let within : k < length free = omega (arith, long, inside, length-take (length nodes) free) in
    (k, slice_get-get_or free k node.0 within ∙ ap Some (sym (get_or-take (length nodes) free k node.0 inside) ∙ here))

-- the place of a child is a word of its parent
pub inner-of : (dirty : List Bool) (generation : ℕ) (free : List Place) (nodes : List (Place × Node)) (level index word : ℕ) (place : Option Place) → ArePlanned dirty generation free nodes
    → ((i : ℕ) (p : Place) → slice_get free i ≡ Some p → 2 ≤ p.0) → IsPlaceIfNeeded dirty nodes level index place → word ≡ place_word place → word ≤ 4294967295 → IsInnerWord word
inner-of dirty generation free nodes level index word None h behind p e fits = record { no_slot = λ same. absurd (omega arith); place = fits }
inner-of dirty generation free nodes level index word (Some place) h behind p e fits =
    let at = place-free dirty generation free nodes (place, p.1.node) h p.1.there in
    let low = behind at.0 place at.1 in
    record { no_slot = λ same. absurd (omega arith); place = fits }
