-- How a migration begins, takes its block, seals, asks the desk, gives back what it has and is answered in an abstract world.
use Rattle.std.specs.Prelude.{◌≡◌, ℕ, true, List, [], ◌∷◌, Option, None}
use Rattle.wb_types.specs.declared.number.CBlock.{CBlock}
use Rattle.wb_types.specs.declared.number.OBlock.{OBlock}
use Rattle.wb_disk.specs.Device.{Content}
use Rattle.wb_words.specs.declared.word.Access.TheVariants.{Owned}
use Rattle.wb_words.specs.declared.step.CellStep.TheVariants.{Release}
use Rattle.wb_tasks.specs.declared.step.Migration.{Migration}
use Rattle.wb_tasks.specs.declared.step.Migration.TheVariants.{Promote, Demote}
use Rattle.wb_tasks.specs.declared.step.DeskStep.TheVariants.{Map, Unmap, ReleaseOrder}
use Rattle.wb_tasks.specs.declared.step.Want.{Want}
use Rattle.wb_tasks.specs.declared.step.Want.TheVariants.{Cell, Desk}
use Rattle.wb_link.specs.Tables.{Order, Got, Done, Short, Promoting, Returning, Map_to, Unmap_from, Give_up, Answer as AbstractAnswer, Failed as AnsweredFailed}
use Rattle.wb_link.specs.World.{Shared, Nothing, AbstractActor, effect, following}
use Rattle.wb_refines.specs.Going.{shared_after, gone, MayGo}
use Rattle.wb_refines.specs.Migrations.{job_under, migrating}

-- An abstract actor can go on with these results, so that this is shared then, and it is this actor.
pub record GoesTo (actors : List AbstractActor) (a : ℕ) (s : Shared) (y : AbstractActor) (results : List Got) (t : Shared) (z : AbstractActor) : Type 0 where
  pub may : MayGo actors a s y y.task results
  pub shared : shared_after s y y.task results ≡ t
  pub is : gone y y.task results ≡ z

-- without its block yet, or any more
abbrev pub without_block : AbstractActor → AbstractActor
without_block y = record y { held = Nothing }

-- under this order still, if any
abbrev pub under : Option Order → AbstractActor → AbstractActor
under order y = record y { order = order }

-- Each call of a migration on the desk.
pub record CarryingFollowed : Type 0 where
  -- the map ends a promotion's order
  pub maps : (size : ℕ) (actors : List AbstractActor) (a : ℕ) (s : Shared) (order : Order) (os : List (List ℕ)) (c : CBlock) (block : OBlock) (later : List Want) (answer : AbstractAnswer) (buffer : ℕ → Content) →
      GoesTo actors a s (migrating size order os (Promote c) (Desk (Map block c) ∷ later) answer buffer) (Done ∷ Done ∷ [])
      (effect s (Promoting order os) buffer (Map_to order) Done) (under None (migrating size order os (Promote c) later answer buffer))
  -- without memory for the entry it gives back its block, and then its order
  pub has_no_room : (size : ℕ) (actors : List AbstractActor) (a : ℕ) (s : Shared) (order : Order) (os : List (List ℕ)) (c : CBlock) (block : OBlock) (later : List Want) (answer : AbstractAnswer) (buffer : ℕ → Content) → order.block ≡ block.0 →
      GoesTo actors a s (migrating size order os (Promote c) (Desk (Map block c) ∷ later) answer buffer) (Short ∷ []) s
      (migrating size order os (Promote c) (Cell (Release Owned block) ∷ Desk (ReleaseOrder block) ∷ []) AnsweredFailed buffer)
  -- a demotion's order ends, or goes on with the block that follows
  pub unmaps : (size : ℕ) (actors : List AbstractActor) (a : ℕ) (s : Shared) (order : Order) (os : List (List ℕ)) (block : OBlock) (later : List Want) (answer : AbstractAnswer) (buffer : ℕ → Content) →
      GoesTo actors a s (migrating size order os Demote (Desk (Unmap block) ∷ later) answer buffer) (Done ∷ [])
      (effect s (Returning true order os) buffer (Unmap_from order) Done) (under (following order.cache order.next) (migrating size order os Demote later answer buffer))
  pub gives_up : (size : ℕ) (actors : List AbstractActor) (a : ℕ) (s : Shared) (order : Order) (os : List (List ℕ)) (migration : Migration) (block : OBlock) (later : List Want) (answer : AbstractAnswer) (buffer : ℕ → Content) →
      GoesTo actors a s (without_block (migrating size order os migration (Desk (ReleaseOrder block) ∷ later) answer buffer)) (Done ∷ [])
      (effect s (job_under order os migration) buffer (Give_up order) Done) (without_block (under None (migrating size order os migration later answer buffer)))
