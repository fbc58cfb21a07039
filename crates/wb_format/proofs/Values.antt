-- Values are the same where their fields are: of the facts that a value keeps each has one proof.
use Rattle.std.proofs.Common.{◌≡◌, ◌≤◌, ◌<◌, ℕ, Bool, true, false, cond, List, Option, Some, None, refl, sym, ap, subst, ◌∙◌, arith, slice_index}
use Rattle.std.proofs.Math.Bool.{Bool-set}
use Rattle.std.proofs.Math.Bridge.{le_prop}
use Rattle.std.proofs.lemmas.List.{ext_get_or}
use native.Mathlib.Nat.{ℕ_set}
use Rattle.wb_types.specs.Limits.{IsWithinLimits, HasRoom}
use Rattle.wb_types.specs.declared.geometry.Geometry.{Geometry}
use Rattle.wb_types.specs.declared.number.Place.{Place}
use Rattle.wb_format.specs.Bytes.{HasWords}
use Rattle.wb_format.specs.Sizes.{IsTop, MayNameDirty, SpellsGeometry, top_number}
use Rattle.wb_format.specs.NodeWords.{IsNodeWord}
use Rattle.wb_types.specs.Versions.{version_number}
use Rattle.wb_types.proofs.Versions.{one_version}
use Rattle.wb_format.specs.Letters.{node_magic}
use Rattle.wb_format.specs.Layout.{SpellsRoot, SpellsNode}
use Rattle.wb_format.specs.declared.root.Root.{Root}
use Rattle.wb_format.specs.declared.node.Node.{Node}
use Rattle.wb_types.specs.declared.version.Version.{Version}
use Rattle.wb_types.specs.declared.version.Version.TheVariants.{One, Two}

-- two values of a type with a fact that has one proof
same_made : {A B : Type 0} (P : A → Type 0) (make : (x : A) → P x → B) → ((x : A) → IsProp (P x)) → (x y : A) → x ≡ y → (h : P x) (k : P y) → make x h ≡ make y k
same_made {A} {B} P make one x y e h =
    subst (λ z. (k : P z) → make x h ≡ make z k) e (λ k. ap (make x) (one x h k))

-- ---- geometries

record Sizes : Type 0 where
  block : ℕ
  cache_blocks : ℕ
  origin_blocks : ℕ
  meta_sectors : ℕ
  version : Version

record Fitting (d : Sizes) : Type 0 where
  within : IsWithinLimits d.block d.cache_blocks d.origin_blocks d.meta_sectors
  room : HasRoom d.version d.cache_blocks d.meta_sectors

fitting_prop : (d : Sizes) → IsProp (Fitting d)
fitting_prop d = hlevel (le_prop, ℕ_set)

abbrev geometry_of : (d : Sizes) → Fitting d → Geometry
geometry_of d h = record { block = d.block; cache_blocks = d.cache_blocks; origin_blocks = d.origin_blocks; meta_sectors = d.meta_sectors; version = d.version; within = h.within; room = h.room }

abbrev sizes_of : Geometry → Sizes
sizes_of g = record { block = g.block; cache_blocks = g.cache_blocks; origin_blocks = g.origin_blocks; meta_sectors = g.meta_sectors; version = g.version }

same_geometry : (a b : Geometry) → sizes_of a ≡ sizes_of b → a ≡ b
same_geometry a b e = same_made Fitting geometry_of fitting_prop (sizes_of a) (sizes_of b) e (record { within = a.within; room = a.room }) (record { within = b.within; room = b.room })

pub one_geometry : (s : List ℕ) (a b : Geometry) → SpellsGeometry s a → SpellsGeometry s b → a ≡ b
one_geometry s a b p q =
    let e1 : a.block ≡ b.block = sym p.block ∙ q.block in
    let e2 : a.cache_blocks ≡ b.cache_blocks = sym p.cache_blocks ∙ q.cache_blocks in
    let e3 : a.origin_blocks ≡ b.origin_blocks = sym p.origin_blocks ∙ q.origin_blocks in
    let e4 : a.meta_sectors ≡ b.meta_sectors = sym p.meta_sectors ∙ q.meta_sectors in
    let e5 : a.version ≡ b.version = one_version a.version b.version (sym p.version ∙ q.version) in
    let same : sizes_of a ≡ sizes_of b = cc in
    same_geometry a b same

-- ---- roots

pub one_flag : (a b : Bool) → ◌≡◌ {A = ℕ} (cond a 1 0) (cond b 1 0) → a ≡ b
one_flag true true e = refl
one_flag true false e = absurd (omega arith)
one_flag false true e = absurd (omega arith)
one_flag false false e = refl

place_of : ℕ → Place
place_of n = record { 0 = n }

same_place : (x y : Place) → x.0 ≡ y.0 → x ≡ y
unfolding place_of
same_place x y e = ap place_of e

pub one_top : (sectors : ℕ) (a b : Option Place) → IsTop sectors a → IsTop sectors b → top_number a ≡ top_number b → a ≡ b
one_top sectors None None p q e = refl
one_top sectors None (Some y) p q e = let inside = (q y refl).0 in absurd (omega arith)
one_top sectors (Some x) None p q e = let inside = (p x refl).0 in absurd (omega arith)
one_top sectors (Some x) (Some y) p q e = ap Some (same_place x y e)

record RootFields : Type 0 where
  generation : ℕ
  version : Version
  clean : Bool
  geometry : Geometry
  top : Option Place
  top_dirty : Option Place

record FitsGeometry (d : RootFields) : Type 0 where
  version : version_number d.version ≡ version_number d.geometry.version
  top : IsTop d.geometry.meta_sectors d.top
  inside : IsTop d.geometry.meta_sectors d.top_dirty
  clean : MayNameDirty d.version d.clean d.top_dirty

fits_prop : (d : RootFields) → IsProp (FitsGeometry d)
fits_prop d = hlevel (le_prop, ℕ_set, Bool-set)

abbrev root_of : (d : RootFields) → FitsGeometry d → Root
root_of d h = record { generation = d.generation; version = d.version; clean = d.clean; geometry = d.geometry; top = d.top; top_dirty = d.top_dirty; same_version = h.version; top_inside = h.top; dirty_inside = h.inside; dirty_clean = h.clean }

abbrev fields_of_root : Root → RootFields
fields_of_root r = record { generation = r.generation; version = r.version; clean = r.clean; geometry = r.geometry; top = r.top; top_dirty = r.top_dirty }

pub one_root : (s : List ℕ) (a b : Root) → SpellsRoot s a → SpellsRoot s b → a ≡ b
one_root s a b p q =
    let e1 : a.generation ≡ b.generation = sym p.generation ∙ q.generation in
    let e2 : a.version ≡ b.version = one_version a.version b.version (sym p.version ∙ q.version) in
    let e3 : a.clean ≡ b.clean = one_flag a.clean b.clean (sym p.flags ∙ q.flags) in
    let e4 : a.geometry ≡ b.geometry = one_geometry s a.geometry b.geometry p.geometry q.geometry in
    let moved : IsTop b.geometry.meta_sectors a.top = subst (λ (g : Geometry). IsTop g.meta_sectors a.top) e4 a.top_inside in
    let e5 : a.top ≡ b.top = one_top b.geometry.meta_sectors a.top b.top moved b.top_inside (sym p.top ∙ q.top) in
    let dirty : IsTop b.geometry.meta_sectors a.top_dirty = subst (λ (g : Geometry). IsTop g.meta_sectors a.top_dirty) e4 a.dirty_inside in
    let e6 : a.top_dirty ≡ b.top_dirty = one_top b.geometry.meta_sectors a.top_dirty b.top_dirty dirty b.dirty_inside (sym p.top_dirty ∙ q.top_dirty) in
    let same : fields_of_root a ≡ fields_of_root b = cc in
    same_made FitsGeometry root_of fits_prop (fields_of_root a) (fields_of_root b) same (fits a) (fits b)
  where
    fits : (r : Root) → FitsGeometry (fields_of_root r)
    fits r = record { version = r.same_version; top = r.top_inside; inside = r.dirty_inside; clean = r.dirty_clean }

-- ---- nodes

record NodeFields : Type 0 where
  generation : ℕ
  dirty : Bool
  level : ℕ
  index : ℕ
  words : List ℕ

record Spelled (d : NodeFields) : Type 0 where
  level_from : 1 ≤ d.level
  level_to : d.level ≤ 4
  dirty_to : d.dirty ≡ true → d.level ≤ 3
  spelled : (j : ℕ) → IsNodeWord d.dirty d.level (slice_index d.words j)

spelled_prop : (d : NodeFields) → IsProp (Spelled d)
spelled_prop d = hlevel (le_prop, ℕ_set)

abbrev node_of : (d : NodeFields) → Spelled d → Node
node_of d h = record { generation = d.generation; dirty = d.dirty; level = d.level; index = d.index; words = d.words; level_from = h.level_from; level_to = h.level_to; dirty_to = h.dirty_to; spelled = h.spelled }

abbrev fields_of_node : Node → NodeFields
fields_of_node n = record { generation = n.generation; dirty = n.dirty; level = n.level; index = n.index; words = n.words }

pub one_words : (s a b : List ℕ) → HasWords s a → HasWords s b → a ≡ b
one_words s a b p q = ext_get_or 0 a b (p.size ∙ sym q.size) (λ j below. let h : j < 32 = omega (arith, p.size) in sym (p.each j h) ∙ q.each j h)

-- the letters tell a node of dirty bits from one of the mapping
pub one_magic : (a b : Bool) → node_magic a ≡ node_magic b → a ≡ b
one_magic true true e = refl
one_magic true false e = absurd (omega arith)
one_magic false true e = absurd (omega arith)
one_magic false false e = refl

pub one_node : (s : List ℕ) (a b : Node) → SpellsNode s a → SpellsNode s b → a ≡ b
one_node s a b p q =
    let e1 : a.generation ≡ b.generation = sym p.generation ∙ q.generation in
    let e2 : a.level ≡ b.level = sym p.level ∙ q.level in
    let e3 : a.index ≡ b.index = sym p.index ∙ q.index in
    let e4 : a.words ≡ b.words = one_words s a.words b.words p.words q.words in
    let e5 : a.dirty ≡ b.dirty = one_magic a.dirty b.dirty (sym p.magic ∙ q.magic) in
    let same : fields_of_node a ≡ fields_of_node b = cc in
    same_made Spelled node_of spelled_prop (fields_of_node a) (fields_of_node b) same (spelled a) (spelled b)
  where
    spelled : (n : Node) → Spelled (fields_of_node n)
    spelled n = record { level_from = n.level_from; level_to = n.level_to; dirty_to = n.dirty_to; spelled = n.spelled }
