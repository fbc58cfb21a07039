-- What a tree knows that was read of sectors is what they store.
use Rattle.std.proofs.Common.{ℕ, List, Option, subst}
use Rattle.wb_types.specs.declared.number.Place.{Place}
use Rattle.wb_types.specs.declared.version.Version.{Version}
use Rattle.wb_disk.specs.Device.{Content}
use Rattle.wb_format.specs.declared.node.Node.{Node}
use Rattle.wb_tree.specs.Mapping.{Mapping, IsPlaceOf}
use Rattle.wb_tree.specs.Reading.{Nodes, ReadsAs}
use Rattle.wb_tree.specs.Images.{AreRead, Stores}
use Rattle.wb_meta.specs.Representing.{ReadsThere}

pub read_stores : (version : Version) (sectors : List Content) (nodes : Nodes) (m : Mapping) (generation : ℕ) → AreRead nodes m generation → ((place : Place) → IsPlaceOf m place → ReadsThere version sectors nodes place.0) → Stores sectors m generation
read_stores version sectors nodes m generation read there level index place known =
    let node = read level index place known in
    let here = there place (record { level = level; index = index; known = known }) in
    let P : Option Node → Type 0 = λ o. ReadsAs version here.sector o in
    record { sector = here.sector; there = here.there; node = node.node; spelled = (subst P node.reads here.reads).spelled; right = node.right }
