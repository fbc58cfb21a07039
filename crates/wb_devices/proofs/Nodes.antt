-- The steps of the commit of an image that an opening writes, and what it leaves clean.
use Rattle.std.proofs.Common.{◌≡◌, ◌∙◌, ◌<◌, ◌+◌, sym, ap, subst, refl, ℕ, Bool, true, List, Option, Some, None, is_none, length, slice_get, slice_index_or, arith, inl, inr}
use Rattle.std.proofs.lemmas.Option.{slice_get_cases}
use Rattle.wb_types.specs.declared.entry.Entry.{Entry}
use Rattle.wb_types.specs.declared.geometry.Geometry.{Geometry}
use Rattle.wb_types.specs.declared.mode.Dev.TheVariants.{Metadata}
use Rattle.wb_types.specs.declared.number.Place.{Place}
use Rattle.wb_types.proofs.Truth.{yes}
use Rattle.wb_disk.specs.Device.{History, synced}
use Rattle.wb_format.specs.declared.node.Node.{Node}
use Rattle.wb_tree.specs.declared.image.Image.{Image}
use Rattle.wb_dirty.specs.ImageReading.{with_bits}
use Rattle.wb_meta.specs.Conversions.{is_mapped_dirty}
use Rattle.wb_meta.specs.Steps.{DoesStep, NodeOrSync, after_node, steps_after}
use Rattle.wb_meta.specs.declared.commit_steps.CommitSteps.{CommitSteps}
use Rattle.wb_meta.specs.declared.commit_steps.CommitSteps.TheVariants.{NodesWritten, NodesSynced, RootWritten, Done as Committed}
use Rattle.wb_meta.specs.declared.read_steps.State.{State}
use Rattle.wb_tasks.specs.declared.step.DeviceStep.TheVariants.{Sync, WriteNode}
use Rattle.wb_devices.specs.Clean.{IsLeftClean, entries_of}
use Rattle.wb_devices.specs.Committing.{is_coming}
use Rattle.wb_devices.specs.Converting.{IsConverted}

-- ---- which step comes next

-- there is a node of this number, or none from there on
record IsListed (image : Image) (number : ℕ) : Type 0 where
  node : Place × Node
  there : slice_get image.nodes.items number ≡ Some node

listed : (image : Image) (number : ℕ) → number < length image.nodes.items → IsListed image number
listed image number inside = elim (slice_get_cases image.nodes.items number).1 [
  | inl there ↦ record { node = there.0; there = there.2 }
  | inr past ↦ absurd (let none = past.0 in omega (arith, none, inside))
]

past : (image : Image) (number : ℕ) → number ≡ length image.nodes.items → slice_get image.nodes.items number ≡ None
past image number end = elim (slice_get_cases image.nodes.items number).1 [
  | inl there ↦ absurd (let less = there.1 in omega (arith, less, end))
  | inr none ↦ none.1
]

-- the node of this number comes next, and then the one after it
pub node_comes : (image : Image) (number : ℕ) → number < length image.nodes.items → is_coming image (NodesWritten number) (WriteNode number) ≡ true
node_comes image number inside = rw (yes number, (listed image number inside).there) refl

pub node_after : (image : Image) (number : ℕ) → number < length image.nodes.items → steps_after image (NodesWritten number) ≡ NodesWritten (number + 1)
node_after image number inside = ap (λ (o : Option (Place × Node)). after_node o number) (listed image number inside).there

-- behind the last one comes the sync
pub sync_comes : (image : Image) (number : ℕ) → number ≡ length image.nodes.items → is_coming image (NodesWritten number) (Sync Metadata) ≡ true
sync_comes image number end = ap (λ (o : Option (Place × Node)). is_none o) (past image number end)

pub sync_after : (image : Image) (number : ℕ) → number ≡ length image.nodes.items → steps_after image (NodesWritten number) ≡ NodesSynced
sync_after image number end = ap (λ (o : Option (Place × Node)). after_node o number) (past image number end)

-- a sync that comes next is a step of the commit
does_or : (o : Option (Place × Node)) (old new : List History) → is_none o ≡ true → new ≡ synced old → NodeOrSync o old new
does_or None old new none is = is
does_or (Some node) old new none is = absurd cc

pub does_sync : (image : Image) (steps : CommitSteps) (old new : List History) → is_coming image steps (Sync Metadata) ≡ true → new ≡ synced old → DoesStep image steps old new
does_sync image (NodesWritten count) old new comes is = does_or (slice_get image.nodes.items count) old new comes is
does_sync image NodesSynced old new comes is = absurd cc
does_sync image RootWritten old new comes is = is
does_sync image Committed old new comes is = absurd cc

-- ---- what was left clean

-- what was left clean is so when it was written anew
pub clean_anew : {A : Type 0} (asked : Geometry) (old new : State A) (image : Image) → IsConverted asked old image new → IsLeftClean old → IsLeftClean new
clean_anew asked old new image converted clean =
    let entries : entries_of new ≡ entries_of old = converted.entries ∙ ap (λ (bits : Option (List Bool)). with_bits bits old.tree.entries) (sym converted.in_tree) in (
      converted.root.clean ∙ clean.0,
      λ block below. ap (λ (es : List (Option Entry)). is_mapped_dirty (slice_index_or es block None)) entries
          ∙ clean.1 block (subst (λ (es : List (Option Entry)). block < length es) entries below),
    )
