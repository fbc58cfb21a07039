-- What is read of an image is its mapping and what was reached behind it; and an image without dirty bits is its mapping.
use Rattle.std.proofs.Common.{◌≡◌, ℕ, Bool, true, false, cond, nat_eq, List, [], ◌∷◌, ◌++◌, Option, Some, None, Ok, Err, map, length, drop, refl, sym, ◌∙◌, ap, subst}
use Rattle.wb_types.specs.declared.number.Place.{Place}
use Rattle.wb_format.specs.declared.root.Root.{Root}
use Rattle.wb_tree.specs.declared.placed.PlacedNode.{PlacedNode}
use Rattle.wb_tree.specs.Reading.{Found, ReadOutcome, Nodes, ◌then◌, is_reached, tree_read}
use Rattle.wb_dirty.specs.Reading.{Marks, MarksOutcome, dirty_read, is_among}
use Rattle.wb_dirty.specs.ImageReading.{asked_behind, bits_behind, dirty_node, found_with_bits, image_read, outcome_with, places_reached}
use Rattle.wb_meta.specs.Representing.{Whole, all_of, alone}
use Rattle.wb_dirty.proofs.DirtyFraming.{either_here}
use Rattle.std.proofs.lemmas.List.{length-map}
use Rattle.std.proofs.Math.Seq.{drop-append_seam}

-- ---- which places are reached

first_reached : (place : ℕ) (xs ys : List PlacedNode) → is_reached place xs ≡ true → is_reached place (xs ++ ys) ≡ true
first_reached place [] ys r = absurd cc
first_reached place (node ∷ xs) ys r = either_here (nat_eq node.place.0 place) (is_reached place xs) (is_reached place (xs ++ ys)) r (λ rest. first_reached place xs ys rest)

with_ok : (mapping found : Found) (o : MarksOutcome) → outcome_with mapping o ≡ Ok found → (marks : Marks) × (o ≡ Ok marks) × (found_with_bits mapping marks ≡ found)
with_ok mapping found (Ok marks) e = (marks, refl, cc)
with_ok mapping found (Err place) e = absurd cc

-- a place of the mapping is one of the image
behind_reached : (root : Root) (nodes : Nodes) (top : Option Place) (mapping found : Found) → bits_behind root nodes top mapping ≡ Ok found
    → (place : ℕ) → is_reached place mapping.reached ≡ true → is_reached place found.reached ≡ true
behind_reached root nodes None mapping found e place r = let same : mapping ≡ found = cc in subst (λ (f : Found). is_reached place f.reached ≡ true) same r
behind_reached root nodes (Some top) mapping found e place r =
    let w = with_ok mapping found (dirty_read (asked_behind root mapping) nodes (places_reached mapping)) e in
    subst (λ (f : Found). is_reached place f.reached ≡ true) w.2 (first_reached place mapping.reached (map dirty_node (drop (length mapping.reached) w.0.reached)) r)

-- what was found of the mapping
mapping_is : (root : Root) (nodes : Nodes) (found : Whole) → image_read root nodes ≡ Ok (all_of found) → tree_read root nodes ≡ Ok found.mapping → bits_behind root nodes root.top_dirty found.mapping ≡ Ok (all_of found)
mapping_is root nodes found reads mapping = sym (ap (λ (reading : ReadOutcome). reading then bits_behind root nodes root.top_dirty) mapping) ∙ reads

pub mapping_among : (root : Root) (nodes : Nodes) (found : Whole) → image_read root nodes ≡ Ok (all_of found) → tree_read root nodes ≡ Ok found.mapping
    → (place : ℕ) → is_reached place found.mapping.reached ≡ true → is_reached place found.reached ≡ true
mapping_among root nodes found reads mapping = behind_reached root nodes root.top_dirty found.mapping (all_of found) (mapping_is root nodes found reads mapping)

-- ---- what was found of both

either_mapped : (root : Root) (nodes : Nodes) (top : Option Place) (mapping found : Found) → bits_behind root nodes top mapping ≡ Ok found → mapping.mapped ≡ found.mapped
either_mapped root nodes None mapping found e = let same : mapping ≡ found = cc in ap (λ (f : Found). f.mapped) same
either_mapped root nodes (Some top) mapping found e =
    let w = with_ok mapping found (dirty_read (asked_behind root mapping) nodes (places_reached mapping)) e in
    ap (λ (f : Found). f.mapped) w.2

abbrev pub both_found : Found → Found → Whole
both_found mapping found = record { mapping = mapping; reached = found.reached; entries = found.entries }

-- what was found of the mapping and what was found of all are what is read of the image
pub both_read : (root : Root) (nodes : Nodes) (mapping found : Found) → image_read root nodes ≡ Ok found → tree_read root nodes ≡ Ok mapping → image_read root nodes ≡ Ok (all_of (both_found mapping found))
both_read root nodes mapping found reads first =
    let behind : bits_behind root nodes root.top_dirty mapping ≡ Ok found = sym (ap (λ (reading : ReadOutcome). reading then bits_behind root nodes root.top_dirty) first) ∙ reads in
    let made : List Bool → ReadOutcome = λ mapped. Ok (record { reached = found.reached; entries = found.entries; mapped = mapped }) in
    reads ∙ ap made (sym (either_mapped root nodes root.top_dirty mapping found behind))

-- ---- the nodes of dirty bits behind those of the mapping

not_first : (here s t u : Bool) → cond here true t ≡ true → cond here true s ≡ false → (t ≡ true → s ≡ false → u ≡ true) → u ≡ true
not_first true s t u r off rest = absurd cc
not_first false s t u r off rest = rest r off

pub reached_later : (place : ℕ) (xs ys : List PlacedNode) → is_reached place (xs ++ ys) ≡ true → is_reached place xs ≡ false → is_reached place ys ≡ true
reached_later place [] ys r off = r
reached_later place (node ∷ xs) ys r off = not_first (nat_eq node.place.0 place) (is_reached place xs) (is_reached place (xs ++ ys)) (is_reached place ys) r off (λ r off. reached_later place xs ys r off)

pub dirty_reached : (place : ℕ) (places : List Place) → is_reached place (map dirty_node places) ≡ is_among place places
dirty_reached place [] = refl
dirty_reached place (first ∷ places) = ap (λ (rest : Bool). cond (nat_eq first.0 place) true rest) (dirty_reached place places)

-- the nodes of dirty bits are those behind the mapping's
pub behind_are : (mapping : Found) (marks : Marks) (rest : List Place) → marks.reached ≡ places_reached mapping ++ rest → drop (length mapping.reached) marks.reached ≡ rest
behind_are mapping marks rest is =
    let many : length mapping.reached ≡ length (places_reached mapping) = sym (length-map mapping.reached (λ (node : PlacedNode). node.place)) in
    ap (λ n. drop n marks.reached) many ∙ (ap (λ (places : List Place). drop (length (places_reached mapping)) places) is ∙ drop-append_seam (places_reached mapping) rest)

-- ---- no dirty bits

-- without dirty bits an image is its mapping
pub alone_read : (root : Root) (nodes : Nodes) (mapping : Found) → root.top_dirty ≡ None → tree_read root nodes ≡ Ok mapping → image_read root nodes ≡ Ok (all_of (alone mapping))
alone_read root nodes mapping none e =
    ap (λ (reading : ReadOutcome). reading then bits_behind root nodes root.top_dirty) e ∙ ap (λ (top : Option Place). bits_behind root nodes top mapping) none
