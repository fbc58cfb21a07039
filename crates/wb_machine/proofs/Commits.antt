-- A commit is the same whatever shows that its nodes have places.
use Rattle.std.proofs.Common.{◌≡◌, ℕ, Option, Some, ap}
use Rattle.std.proofs.Math.Bridge.{le_prop}
use native.Mathlib.Nat.{ℕ_set}
use Rattle.wb_tree.specs.declared.image.Image.{Image}
use Rattle.wb_meta.specs.Placing.{HavePlaces, PlacedNodes}
use Rattle.wb_meta.specs.declared.commit_steps.CommitSteps.{CommitSteps}
use Rattle.wb_devices.specs.declared.running.RunningCommit.{RunningCommit}

placed_prop : (nodes : PlacedNodes) (sectors : ℕ) → IsProp (HavePlaces nodes sectors)
placed_prop nodes sectors = hlevel (le_prop, ℕ_set)

abbrev pub commit_of : (image : Image) (steps : CommitSteps) → HavePlaces image.nodes.items image.root.geometry.meta_sectors → Option RunningCommit
commit_of image steps placed = Some (record { image = image; steps = steps; placed = placed })

pub same_commit : (image : Image) (steps : CommitSteps) (p q : HavePlaces image.nodes.items image.root.geometry.meta_sectors) → commit_of image steps p ≡ commit_of image steps q
same_commit image steps p q = ap (λ h. commit_of image steps h) (placed_prop image.nodes.items image.root.geometry.meta_sectors p q)
