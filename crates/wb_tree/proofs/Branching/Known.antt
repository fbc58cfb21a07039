-- What a tree of boxes tells of its known nodes.
use Rattle.std.proofs.Common.{◌≡◌, ◌≤◌, ◌<◌, ◌+◌, ◌-◌, ◌*◌, ◌/◌, ◌^◌, ◌∙◌, sym, ap, subst, ℕ, Option, Box, List, length, arith}
use Rattle.std.proofs.Math.Nat.{div-lt_iff_lt-mul, one-le-pow}
use Rattle.wb_types.specs.Limits.{depth_of}
use Rattle.wb_types.specs.declared.entry.Entry.{Entry}
use Rattle.wb_tree.specs.declared.placed.PlacedNode.{PlacedNode}
use Rattle.wb_tree.specs.Mapping.{Mapping, IsSound}
use Rattle.wb_tree.specs.Fields.{AreApart}
use Rattle.wb_tree.specs.Images.{AreUsed}
use Rattle.wb_tree.specs.Branches.{AreBoxes, Branch, boxes_of, forget, known_in}
use Rattle.wb_tree.proofs.Nodes.Few.{known-few, node_count-most}
use Rattle.wb_tree.proofs.Images.Imaging.{used-places}
use Rattle.wb_tree.proofs.Stored.Whole.{depth_enough}
use Rattle.wb_tree.proofs.Branching.Edits.{long-boxes}
use Rattle.wb_tree.proofs.Branching.Looks.{powers}

long_tree : {A : Type 0} (cache_blocks depth : ℕ) (root : Option (Box Branch A)) (m : Mapping) → AreBoxes cache_blocks depth root → boxes_of cache_blocks depth root ≡ m → length m.entries ≡ cache_blocks
long_tree cache_blocks depth root m are view = ap (λ (n : Mapping). length n.entries) (sym view) ∙ long-boxes cache_blocks depth root are

-- the used places of a tree
pub used-tree : {A : Type 0} (cache_blocks depth : ℕ) (root : Option (Box Branch A)) (m : Mapping) → AreBoxes cache_blocks depth root → boxes_of cache_blocks depth root ≡ m → AreUsed (length m.entries) m
used-tree cache_blocks depth root m are view =
    let sound : IsSound m = subst IsSound view are.sound in
    let once : AreApart m.known = subst (λ (n : Mapping). AreApart n.known) view are.once in
    let few = are.few in
    used-places m (length m.entries) sound once (known-few m sound once (omega (arith, long_tree cache_blocks depth root m are view)))

-- those that it has after these have become known, too, are few
pub settled-few : {A : Type 0} (cache_blocks depth : ℕ) (root : Option (Box Branch A)) (m : Mapping) (known : List PlacedNode) → AreBoxes cache_blocks depth root → boxes_of cache_blocks depth root ≡ m
    → IsSound (record { entries = m.entries; known = known }) → AreApart known → length known ≤ 4194308
settled-few cache_blocks depth root m known are view sound once =
    let n : Mapping = record { entries = m.entries; known = known } in
    let few = are.few in
    let long : length m.entries ≤ 1048576 = omega (arith, long_tree cache_blocks depth root m are view) in
    omega (arith, known-few n sound once long, node_count-most (length m.entries) long)

-- how many stay known after a change of an entry
pub counted-next : {A : Type 0} (cache_blocks depth : ℕ) (root next : Option (Box Branch A)) (m : Mapping) (block known above : ℕ) → known ≡ length (known_in root) → boxes_of cache_blocks depth root ≡ m
    → length (forget block m.known) + above ≡ length m.known → known_in next ≡ forget block (known_in root) → known - above ≡ length (known_in next)
counted-next cache_blocks depth root next m block known above many view forgot is =
    let e : known_in root ≡ m.known = ap (λ (n : Mapping). n.known) view in
    omega (arith, many, forgot, ap (λ (ks : List PlacedNode). length ks) e, ap (λ (ks : List PlacedNode). length ks) is, ap (λ (ks : List PlacedNode). length (forget block ks)) e)

-- the node of a level above a cache block is one of that level
pub index-above : (entries : List (Option Entry)) (block level : ℕ) → length entries ≤ 1048576 → block < length entries → level ≤ depth_of (length entries)
    → block / 32 ^ level < 32 ^ (depth_of (length entries) - level)
index-above entries block level few less to =
    let depth = depth_of (length entries) in
    let enough = depth_enough (length entries) few in
    let power : 32 ^ (depth - level) * 32 ^ level ≡ 32 ^ depth = powers (depth - level) level ∙ (let e : depth - level + level ≡ depth = omega arith in ap (λ n. 32 ^ n) e) in
    (div-lt_iff_lt-mul {k = 32 ^ level} {x = block} {y = 32 ^ (depth - level)} (one-le-pow level 32 (omega arith))).1 (omega (arith, enough, power))

pub few-entries : {A : Type 0} (cache_blocks depth : ℕ) (root : Option (Box Branch A)) (m : Mapping) → AreBoxes cache_blocks depth root → boxes_of cache_blocks depth root ≡ m → length m.entries ≤ 1048576
few-entries cache_blocks depth root m are view = let few = are.few in omega (arith, long_tree cache_blocks depth root m are view)
