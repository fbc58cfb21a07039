-- What is read of an image depends on the places that it reaches alone.
use Rattle.std.proofs.Common.{◌≡◌, ◌∙◌, sym, ap, subst, refl, ℕ, List, [], ◌++◌, Option, Some, None, Ok, Err, length, map, drop, append-nil}
use Rattle.std.proofs.Math.Seq.{drop-append_seam}
use Rattle.std.proofs.lemmas.List.{length-map}
use Rattle.wb_types.specs.declared.number.Place.{Place}
use Rattle.wb_format.specs.declared.root.Root.{Root}
use Rattle.wb_tree.specs.declared.placed.PlacedNode.{PlacedNode}
use Rattle.wb_tree.specs.Reading.{Found, Nodes, ReadOutcome, ◌then◌, is_reached, tree_read}
use Rattle.wb_tree.specs.Loading.{AgreeAt}
use Rattle.wb_tree.proofs.Reading.Steps.{then_ok}
use Rattle.wb_dirty.specs.Reading.{Asked, Marks, MarksOutcome, is_among, dirty_read}
use Rattle.wb_dirty.specs.Loading.{AgreeOn}
use Rattle.wb_dirty.specs.ImageReading.{places_reached, asked_behind, found_with_bits, outcome_with, bits_behind, image_read}
use Rattle.wb_dirty.proofs.Images.{reached-behind}
use Rattle.wb_dirty.proofs.DirtyFraming.{among_first, dirty_following}

-- what is read of a mapping depends so on the places that it reaches
abbrev pub MappingFollows : Root → Nodes → Nodes → Type 0
MappingFollows root a b = (mapping : Found) → tree_read root a ≡ Ok mapping → AgreeAt mapping.reached a b → tree_read root b ≡ Ok mapping

with_both : (mapping : Found) (reading : MarksOutcome) (found : Found) → outcome_with mapping reading ≡ Ok found → (marks : Marks) × (reading ≡ Ok marks) × (found_with_bits mapping marks ≡ found)
with_both mapping (Ok marks) found e = (marks, refl, (let same : found_with_bits mapping marks ≡ found = cc in same))
with_both mapping (Err place) found e = absurd cc

-- the places that were reached behind the mapping
behind_is : (nodes : List PlacedNode) (reached rest : List Place) → reached ≡ map (λ node. node.place) nodes ++ rest → rest ≡ drop (length nodes) reached
behind_is nodes reached rest e =
    let places : List Place = map (λ (node : PlacedNode). node.place) nodes in
    sym (ap (λ (ps : List Place). drop (length nodes) ps) e ∙ (ap (λ n. drop n (places ++ rest)) (sym (length-map nodes (λ (node : PlacedNode). node.place))) ∙ drop-append_seam places rest))

bits_follow : (a b : Nodes) (root : Root) (mapping found : Found) (top : Option Place) → bits_behind root a top mapping ≡ Ok found → AgreeAt found.reached a b → AgreeAt mapping.reached a b × (bits_behind root b top mapping ≡ Ok found)
bits_follow a b root mapping found None e agree =
    let same : mapping ≡ found = cc in
    (subst (λ (f : Found). AgreeAt f.reached a b) (sym same) agree, e)
bits_follow a b root mapping found (Some top) e agree =
    let asked : Asked = asked_behind root mapping in
    let w = with_both mapping (dirty_read asked a (places_reached mapping)) found e in
    let follow = dirty_following asked a b (places_reached mapping) w.0 w.1 in
    let same : w.0.reached ≡ places_reached mapping ++ drop (length mapping.reached) w.0.reached = follow.grown ∙ ap (λ (ps : List Place). places_reached mapping ++ ps) (behind_is mapping.reached w.0.reached follow.rest follow.grown) in
    let all : (place : ℕ) → is_reached place found.reached ≡ is_among place w.0.reached = λ place.
    ap (λ (f : Found). is_reached place f.reached) (sym w.2) ∙ (reached-behind mapping.reached (drop (length mapping.reached) w.0.reached) place ∙ ap (is_among place) (sym same)) in
    let agreed : AgreeOn w.0.reached a b = λ place r. agree place (all place ∙ r) in
    let among : (place : ℕ) → is_among place (places_reached mapping) ≡ is_reached place mapping.reached = λ place.
    sym (ap (λ (ns : List PlacedNode). is_reached place ns) (sym (append-nil mapping.reached)) ∙ (reached-behind mapping.reached [] place ∙ ap (is_among place) (append-nil (places_reached mapping)))) in
    let before : AgreeAt mapping.reached a b = λ place r.
    agreed place (ap (is_among place) follow.grown ∙ among_first place (places_reached mapping) follow.rest (among place ∙ r)) in
    (before, ap (outcome_with mapping) (follow.same (λ place r beside. agreed place r)) ∙ ap (λ (f : Found). Ok f) w.2)

-- An image that is read without a fault is read so from all sectors that read the same at the places that were reached, as its mapping is.
pub image_following : (a b : Nodes) (root : Root) (found : Found) → MappingFollows root a b → image_read root a ≡ Ok found → AgreeAt found.reached a b → image_read root b ≡ Ok found
image_following a b root found mapping_follows e agree =
    let w = then_ok (tree_read root a) (bits_behind root a root.top_dirty) found e in
    let both = bits_follow a b root w.0 found root.top_dirty w.2 agree in
    let mapping : tree_read root b ≡ Ok w.0 = mapping_follows w.0 w.1 both.0 in
    ap (λ (r : ReadOutcome). r then bits_behind root b root.top_dirty) mapping ∙ both.1
