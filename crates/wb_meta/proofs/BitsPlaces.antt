-- Where the nodes of dirty bits of an image stand.
use Rattle.std.proofs.Common.{◌≡◌, ◌∙◌, sym, ap, subst, refl, ℕ, zero, suc, Bool, true, false, cond, List, [], ◌∷◌, Some, map, slice_get, arith, inl, inr}
use Rattle.std.specs.Prelude.{Contains, filter}
use Rattle.std.proofs.lemmas.List.Elements.{Contains-append_cases}
use Rattle.wb_types.specs.declared.number.Place.{Place}
use Rattle.wb_types.proofs.Lists.{Contains-behind, Contains-first, Contains-one}
use Rattle.wb_format.specs.declared.node.Node.{Node}
use Rattle.wb_tree.specs.declared.image.Image.{Image}
use Rattle.wb_tree.specs.Mapping.{Mapping}
use Rattle.wb_tree.specs.Images.{ImagePlan, IsImage}
use Rattle.wb_meta.specs.CleanImages.{places_of_bits}
use Rattle.wb_meta.proofs.Imaging.{each_at}

-- those of dirty bits among nodes, and their places
abbrev of_bits : List (Place × Node) → List (Place × Node)
of_bits nodes = filter (λ node. node.1.dirty) nodes

abbrev bits_at : List (Place × Node) → List Place
bits_at nodes = map (λ node. node.0) (of_bits nodes)

abbrev some_bits_at : Bool → Place × Node → List (Place × Node) → List Place
some_bits_at dirty first nodes = map (λ node. node.0) (cond dirty (first ∷ of_bits nodes) (of_bits nodes))

-- nodes of a mapping alone are none of them
pub none_of_bits : (nodes : List (Place × Node)) → ((i : ℕ) (node : Place × Node) → slice_get nodes i ≡ Some node → node.1.dirty ≡ false) → map (λ node. node.0) (filter (λ node. node.1.dirty) nodes) ≡ []
none_of_bits [] mappings = refl
none_of_bits (first ∷ nodes) mappings =
    let rest = none_of_bits nodes (λ i node h. mappings (suc i) node h) in
    ap (λ (dirty : Bool). some_bits_at dirty first nodes) (mappings 0 first refl) ∙ rest

-- a node of dirty bits is one of them
pub bits_listed : (nodes : List (Place × Node)) (i : ℕ) (node : Place × Node) → slice_get nodes i ≡ Some node → node.1.dirty ≡ true → Contains (map (λ other. other.0) (filter (λ other. other.1.dirty) nodes)) node.0
bits_listed [] i node h dirty = absurd cc
bits_listed (first ∷ nodes) zero node h dirty =
    let same : first ≡ node = cc in
    let is : first.1.dirty ≡ true = ap (λ (other : Place × Node). other.1.dirty) same ∙ dirty in
    let there : Contains (some_bits_at first.1.dirty first nodes) first.0 = subst (λ (b : Bool). Contains (some_bits_at b first nodes) first.0) (sym is) (Contains-first first.0 (bits_at nodes)) in
    subst (λ (place : Place). Contains (some_bits_at first.1.dirty first nodes) place) (ap (λ (other : Place × Node). other.0) same) there
bits_listed (first ∷ nodes) (suc i) node h dirty = behind first.1.dirty (bits_listed nodes i node h dirty)
  where
    behind : (b : Bool) → Contains (bits_at nodes) node.0 → Contains (some_bits_at b first nodes) node.0
    behind true rest = Contains-behind first.0 (bits_at nodes) node.0 rest
    behind false rest = rest

-- a node of an image that stands at a place
pub record StandsAt (nodes : List (Place × Node)) (place : Place) : Type 0 where
  pub number : ℕ
  pub node : Place × Node
  pub there : slice_get nodes number ≡ Some node
  pub here : node.0 ≡ place

-- at each of their places a node of the image stands
pub bits_stand : (nodes : List (Place × Node)) (place : Place) → Contains (map (λ node. node.0) (filter (λ node. node.1.dirty) nodes)) place → StandsAt nodes place
bits_stand [] place has = absurd (omega (arith, has.1))
bits_stand (first ∷ nodes) place has = by_kind first.1.dirty has (λ rest. bits_stand nodes place rest)
  where
    later : StandsAt nodes place → StandsAt (first ∷ nodes) place
    later one = record { number = suc one.number; node = one.node; there = one.there; here = one.here }

    by_kind : (b : Bool) → Contains (some_bits_at b first nodes) place → (Contains (bits_at nodes) place → StandsAt nodes place) → StandsAt (first ∷ nodes) place
    by_kind true has others = elim (Contains-append_cases (first.0 ∷ []) (bits_at nodes) place has) [
      | inl here ↦ record { number = 0; node = first; there = refl; here = sym (Contains-one first.0 place here) }
      | inr rest ↦ later (others rest)
    ]
    by_kind false has others = later (others has)

-- the image of a tree alone has none
pub alone_places : (m n : Mapping) (plan : ImagePlan) (image : Image) → IsImage m n plan image → places_of_bits image ≡ []
alone_places m n plan image is = none_of_bits image.nodes.items (λ i node h. each_at (λ other. other.1.dirty ≡ false) image.nodes.items i node is.mappings h)
