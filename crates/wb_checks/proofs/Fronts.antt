-- What the first sectors hold.
use Rattle.std.proofs.Common.{◌≡◌, ◌≤◌, ◌+◌, ℕ, true, List, Option, Some, None, map, length, subst, arith, is_some, min}
use Rattle.std.specs.List.{slice_get}
use Rattle.std.specs.Prelude.{IfSome}
use Rattle.std.proofs.lemmas.Option.{slice_get_within}
use Rattle.std.proofs.lemmas.List.{length-map}
use borrow.Author.Count.{below_more}
use Rattle.wb_types.specs.declared.version.Version.{Version}
use Rattle.wb_disk.specs.Device.{Content, History, newest}
use Rattle.wb_format.specs.declared.root.Root.{Root}
use Rattle.wb_format.specs.declared.node.Node.{Node}
use Rattle.wb_format.specs.Layout.{SpellsNodeOf}
use Rattle.wb_meta.specs.Slots.{IsInSlot}
use Rattle.wb_checks.specs.Fronts.{AreBlank, HasSomeRoot, IsBlank, IsNode}

-- a sector of which a node was read spells one
pub node_found : (version : Version) (sector : Content) (found : Option Node) → IfSome found (SpellsNodeOf version sector) → is_some found ≡ true → IsNode sector
node_found version sector None spelled e = absurd cc
node_found version sector (Some node) spelled e = record { version = version; node = node; spelled = spelled }

-- one sector more is blank
pub blank_more : (sectors : List Content) (count : ℕ) (content : Content) → AreBlank sectors count → slice_get sectors count ≡ Some content → IsBlank content → AreBlank sectors (count + 1)
blank_more sectors count content before there blank at sector less here =
    let P : ℕ → Type 0 = λ k. (s : Content) → slice_get sectors k ≡ Some s → IsBlank s in
    let last : P count = λ s is. let same : content ≡ s = cc in subst IsBlank same blank in
    below_more P count (λ k l s is. before k s l is) last at less sector here

-- all that are there are blank
pub blank_all : (device : List History) (size count end : ℕ) → length device ≡ size → min count size ≤ end → AreBlank (map newest device) end → AreBlank (map newest device) count
blank_all device size count end whole past blank at sector less there =
    let inside = slice_get_within (map newest device) at sector there in
    blank at sector (omega (arith, inside, length-map device newest, whole, past, less)) there

-- one of the slots has a valid root
pub root_found : (sectors : List Content) (slot : ℕ) (root : Option Root) → IsInSlot sectors slot root → is_some root ≡ true → HasSomeRoot sectors
root_found sectors slot None there e = absurd cc
root_found sectors slot (Some root) there e = record { slot = slot; root = root; there = there }
