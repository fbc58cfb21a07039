-- Actors of an abstract world that may be given a task, and extents that a task may have.
use Rattle.std.specs.Prelude.{◌≡◌, ◌≤◌, ◌+◌, ◌%◌, ℕ, false, List, None, Contains}
use Rattle.wb_types.specs.declared.extent.Extent.{Extent}
use Rattle.wb_link.specs.World.{Nothing, AbstractActor}

-- one that is at nothing; an order that it has is put aside when it begins anything
pub record IsResting (y : AbstractActor) : Type 0 where
  pub task : y.task ≡ None
  pub held : y.held ≡ Nothing
  pub leads : y.leads ≡ false

-- each extent is of sectors of one block
abbrev pub AllInBlocks : ℕ → List Extent → Type 0
AllInBlocks size extents = (e : Extent) → Contains extents e → e.first % size + e.count ≤ size
