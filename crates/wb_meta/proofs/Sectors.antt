-- What a read of a sector tells of all sectors.
use Rattle.std.proofs.Common.{◌≡◌, ℕ, List, Option, Some, None, Result, Ok, Err, false, map, ◌∙◌, ap}
use Rattle.std.specs.List.{slice_get}
use Rattle.std.specs.Prelude.{IfSome, OnOk, is_err, option_map}
use Rattle.std.proofs.lemmas.Option.{slice_get-map}
use Rattle.wb_types.specs.declared.version.Version.{Version}
use Rattle.wb_disk.specs.Device.{Content, History, ReadGives, newest}
use Rattle.wb_format.specs.declared.node.Node.{Node}
use Rattle.wb_format.specs.Layout.{SpellsNodeOf}
use Rattle.wb_tree.specs.Reading.{ReadsAs}
use Rattle.wb_meta.specs.Representing.{ReadsThere}

-- what holds where a call did not fail
pub on_ok : {T E P : Type 0} (r : Result T E) → is_err r ≡ false → OnOk r P → P
on_ok (Ok x) e p = p
on_ok (Err x) e p = absurd cc

-- what a read gives is the newest content
pub given_there : (device : List History) (at : ℕ) (content : Content) → ReadGives device at content → slice_get (map newest device) at ≡ Some content
given_there device at content gives = slice_get-map newest device at ∙ (ap (λ (o : Option History). option_map newest o) gives.1 ∙ ap (λ (c : Content). Some c) gives.2)

-- a sector reads as the node that is read of it
pub reads_as : (version : Version) (content : Content) (node : Option Node) → IfSome node (SpellsNodeOf version content) → ((other : Node) → SpellsNodeOf version content other → node ≡ Some other) → ReadsAs version content node
reads_as version content None found only = λ other spelled. absurd (let e : None ≡ Some other = only other spelled in cc)
reads_as version content (Some node) found only = found

pub node_there : (version : Version) (device : List History) (at : ℕ) (content : Content) (node : Option Node) → ReadGives device at content → IfSome node (SpellsNodeOf version content)
    → ((other : Node) → SpellsNodeOf version content other → node ≡ Some other) → ReadsThere version (map newest device) (λ _. node) at
node_there version device at content node gives found only = record { sector = content; there = given_there device at content gives; reads = reads_as version content node found only }
