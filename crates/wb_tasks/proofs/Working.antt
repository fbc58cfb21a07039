-- What holds of all that a job does once it has seen its block's seal, shown of each of its steps once.
use Rattle.std.proofs.Common.{◌≡◌, ◌++◌, Bool, true, false, List, [], ◌∷◌, map, Option, Some, None, Contains, sym, subst, append_assoc}
use Rattle.wb_types.proofs.Lists.{Contains-first, Contains-behind}
use Rattle.wb_types.specs.declared.extent.Extent.{Extent}
use Rattle.wb_types.specs.declared.number.CBlock.{CBlock}
use Rattle.wb_types.specs.declared.number.OBlock.{OBlock}
use Rattle.wb_words.specs.declared.word.Access.TheVariants.{Shared, Owned}
use Rattle.wb_words.specs.declared.step.CellStep.TheVariants.{Release, Seal, Finish}
use Rattle.wb_tasks.specs.Tables.{BlockRange, BlockJob, Reading, Writing, Displacing, Invalidating, Migrating, place_read, read_step, write_step, read_count, write_count, writes, copies, ending, work}
use Rattle.wb_tasks.specs.Plan.{gives_up}
use Rattle.wb_tasks.specs.Length.{most_written}
use Rattle.wb_tasks.proofs.Modes.{writes_out, SealsDirty, WritesCopy, WritesHome, GivesBack, in_some_way}
use Rattle.wb_tasks.specs.declared.step.DeskStep.TheVariants.{Unmap, ReleaseOrder}
use Rattle.wb_tasks.specs.declared.step.Migration.{Migration}
use Rattle.wb_tasks.specs.declared.step.Migration.TheVariants.{Promote, Demote, Clean}
use Rattle.wb_tasks.specs.declared.step.Want.{Want}
use Rattle.wb_tasks.specs.declared.step.Want.TheVariants.{Cell, Desk}

-- Of steps, where the block stands at this place, its copy in the cache being dirty or not.
abbrev pub OfSteps : Type 1
OfSteps = Option CBlock → Bool → List Want → Type 0

-- It holds of what a read or write ends with, and with each extent before that. In write-back a clean copy is sealed dirty before the
-- first, and so a copy in the cache is written where it is dirty alone; in write-through a mapped block is written on the origin too, and
-- in passthrough it is given back.
pub record Reads (R : OfSteps) (part : BlockRange) : Type 0 where
  pub each : (place : Option CBlock) (dirty : Bool) (e : Extent) (ws : List Want) → Contains part.extents e → R place dirty ws → R place dirty (read_step part (place_read part.mode place) e ∷ ws)
  pub last : (place : Option CBlock) (dirty : Bool) → R place dirty (read_count (place_read part.mode place) ∷ Cell (Release Shared part.block) ∷ [])

pub record Writes (R : OfSteps) (part : BlockRange) : Type 0 where
  pub seal : (c : CBlock) (ws : List Want) → SealsDirty part.mode → R (Some c) true ws → R (Some c) false (Cell (Seal part.block (Some c) true) ∷ ws)
  pub home : (dirty : Bool) (e : Extent) (ws : List Want) → Contains part.extents e → R None dirty ws → R None dirty (write_step part None e ∷ ws)
  pub cached : (c : CBlock) (dirty : Bool) (e : Extent) (ws : List Want) → WritesCopy part.mode dirty → Contains part.extents e → R (Some c) dirty ws → R (Some c) dirty (write_step part (Some c) e ∷ ws)
  pub through : (c : CBlock) (dirty : Bool) (e : Extent) (ws : List Want) → WritesHome part.mode → Contains part.extents e → R (Some c) dirty ws → R (Some c) dirty (write_step part None e ∷ ws)
  pub defers : (c : CBlock) (dirty : Bool) → GivesBack part.mode → R (Some c) dirty (Cell (Release Owned part.block) ∷ [])
  pub last : (place : Option CBlock) (dirty : Bool) → R place dirty (Cell (Finish part.block) ∷ write_count place ∷ Cell (Release Owned part.block) ∷ [])

-- and of what comes after a mapped block was taken out of the cache, and so with that before: a write on the origin, which counts by
-- where the block was, or nothing more
abbrev pub Drops : OfSteps → BlockRange → Type 0
Drops R part = (c : CBlock) (dirty : Bool) (ws : List Want) → R None false ws → R (Some c) dirty (Desk (Unmap part.block) ∷ Cell (Seal part.block None false) ∷ ws)

pub record Displaces (R : OfSteps) (part : BlockRange) : Type 0 where
  pub drops : Drops R part
  pub each : (dirty : Bool) (e : Extent) (ws : List Want) → Contains part.extents e → R None dirty ws → R None dirty (write_step part None e ∷ ws)
  pub last : (was : Option CBlock) (dirty : Bool) → R None dirty (Cell (Finish part.block) ∷ write_count was ∷ Cell (Release Owned part.block) ∷ [])

pub record Invalidates (R : OfSteps) (part : BlockRange) : Type 0 where
  pub drops : Drops R part
  pub last : (dirty : Bool) → R None dirty (Cell (Release Owned part.block) ∷ [])

-- and of what a migration ends with, and with the copy of each extent before that: into the cache, or from a dirty copy home
pub record Fills (R : OfSteps) (part : BlockRange) (c : CBlock) : Type 0 where
  pub each : (place : Option CBlock) (dirty : Bool) (e : Extent) (ws : List Want) → Contains part.extents e → R place dirty ws → R place dirty (read_step part None e ∷ write_step part (Some c) e ∷ ws)
  pub last : (place : Option CBlock) (dirty : Bool) → R place dirty (ending (Promote c) part.block place)

pub record Returns (R : OfSteps) (migration : Migration) (part : BlockRange) : Type 0 where
  pub each : (c : CBlock) (e : Extent) (ws : List Want) → Contains part.extents e → R (Some c) true ws → R (Some c) true (read_step part (Some c) e ∷ write_step part None e ∷ ws)
  pub last : (place : Option CBlock) (dirty : Bool) → R place dirty (ending migration part.block place)

abbrev pub Works : OfSteps → BlockJob → Type 0
Works R (Reading part) = Reads R part
Works R (Writing part) = Writes R part
Works R (Displacing part) = Displaces R part
Works R (Invalidating part) = Invalidates R part
Works R (Migrating (Promote c) part) = Fills R part c
Works R (Migrating Demote part) = Returns R Demote part
Works R (Migrating Clean part) = Returns R Clean part

-- what holds of the last steps, and with one more extent where it held without, holds of all
module _ (R : List Want → Type 0) (extents : List Extent) where
  mapped_on : (step : Extent → Want) (es : List Extent) (ws : List Want) → ((e : Extent) → Contains es e → Contains extents e) → ((e : Extent) (us : List Want) → Contains extents e → R us → R (step e ∷ us)) → R ws → R (map step es ++ ws)
  mapped_on step [] ws among on r = r
  mapped_on step (e ∷ es) ws among on r = on e (map step es ++ ws) (among e (Contains-first e es)) (mapped_on step es ws (λ f m. among f (Contains-behind e es f m)) on r)

  written_on : (part : BlockRange) (places : List (Option CBlock)) (es : List Extent) (ws : List Want) → ((e : Extent) → Contains es e → Contains extents e) → ((e : Extent) (us : List Want) → Contains extents e → R us → R (map (λ place. write_step part place e) places ++ us)) → R ws → R (writes part places es ++ ws)
  written_on part places [] ws among on r = r
  written_on part places (e ∷ es) ws among on r = subst R (sym (append_assoc (map (λ place. write_step part place e) places) (writes part places es) ws))
      (on e (writes part places es ++ ws) (among e (Contains-first e es)) (written_on part places es ws (λ f m. among f (Contains-behind e es f m)) on r))

  copied_on : (part : BlockRange) (from to : Option CBlock) (es : List Extent) (ws : List Want) → ((e : Extent) → Contains es e → Contains extents e) → ((e : Extent) (us : List Want) → Contains extents e → R us → R (read_step part from e ∷ write_step part to e ∷ us)) → R ws → R (copies part from to es ++ ws)
  copied_on part from to [] ws among on r = r
  copied_on part from to (e ∷ es) ws among on r = on e (copies part from to es ++ ws) (among e (Contains-first e es)) (copied_on part from to es ws (λ f m. among f (Contains-behind e es f m)) on r)

pub work_has : (R : OfSteps) (job : BlockJob) → Works R job → (place : Option CBlock) (dirty : Bool) → R place dirty (work job place dirty)
work_has R (Reading part) w place dirty = mapped_on (R place dirty) part.extents (read_step part (place_read part.mode place)) part.extents _ (λ e m. m) (w.each place dirty) (w.last place dirty)
work_has R (Writing part) w place dirty = in_some_way R part.mode part (record { home = home; cached = cached; sealed = sealed; both = both; deferred = w.defers }) place dirty
  where
    home : (dirty : Bool) → R None dirty (writes_out part (None ∷ []) None)
    home dirty = written_on (R None dirty) part.extents part (None ∷ []) part.extents _ (λ e m. m) (w.home dirty) (w.last None dirty)

    cached : (c : CBlock) → WritesCopy part.mode true → R (Some c) true (writes_out part (Some c ∷ []) (Some c))
    cached c copy = written_on (R (Some c) true) part.extents part (Some c ∷ []) part.extents _ (λ e m. m) (λ e us m r. w.cached c true e us copy m r) (w.last (Some c) true)

    sealed : (c : CBlock) → SealsDirty part.mode → WritesCopy part.mode true → R (Some c) false (Cell (Seal part.block (Some c) true) ∷ writes_out part (Some c ∷ []) (Some c))
    sealed c seals copy = w.seal c _ seals (cached c copy)

    both : (c : CBlock) (dirty : Bool) → most_written part.mode ≡ 2 → WritesHome part.mode → WritesCopy part.mode dirty → R (Some c) dirty (writes_out part (None ∷ Some c ∷ []) (Some c))
    both c dirty twice other copy = written_on (R (Some c) dirty) part.extents part (None ∷ Some c ∷ []) part.extents _ (λ e m. m)
        (λ e us m r. w.through c dirty e _ other m (w.cached c dirty e us copy m r)) (w.last (Some c) dirty)
work_has R (Displacing part) w place dirty = by_place place
  where
    -- on the origin
    home : (was : Option CBlock) (dirty : Bool) → R None dirty (writes part (None ∷ []) part.extents ++ Cell (Finish part.block) ∷ write_count was ∷ Cell (Release Owned part.block) ∷ [])
    home was dirty = written_on (R None dirty) part.extents part (None ∷ []) part.extents _ (λ e m. m) (w.each dirty) (w.last was dirty)

    by_place : (place : Option CBlock) → R place dirty (work (Displacing part) place dirty)
    by_place None = home None dirty
    by_place (Some c) = w.drops c dirty _ (home (Some c) false)
work_has R (Invalidating part) w None dirty = w.last dirty
work_has R (Invalidating part) w (Some c) dirty = w.drops c dirty _ (w.last false)
work_has R (Migrating (Promote c) part) w place dirty = copied_on (R place dirty) part.extents part None (Some c) part.extents _ (λ e m. m) (w.each place dirty) (w.last place dirty)
work_has R (Migrating Demote part) w None dirty = w.last None dirty
work_has R (Migrating Demote part) w (Some c) false = w.last (Some c) false
work_has R (Migrating Demote part) w (Some c) true = copied_on (R (Some c) true) part.extents part (Some c) None part.extents _ (λ e m. m) (w.each c) (w.last (Some c) true)
work_has R (Migrating Clean part) w None dirty = w.last None dirty
work_has R (Migrating Clean part) w (Some c) false = w.last (Some c) false
work_has R (Migrating Clean part) w (Some c) true = copied_on (R (Some c) true) part.extents part (Some c) None part.extents _ (λ e m. m) (w.each c) (w.last (Some c) true)

-- what holds of nothing, and of giving up an order, holds of what a job gives up
pub parting_has : (Q : List Want → Type 0) (job : BlockJob) → Q [] → ((block : OBlock) → Q (Desk (ReleaseOrder block) ∷ [])) → Q (gives_up job)
parting_has Q (Reading part) none order = none
parting_has Q (Writing part) none order = none
parting_has Q (Displacing part) none order = none
parting_has Q (Invalidating part) none order = none
parting_has Q (Migrating migration part) none order = order part.block
