-- When a state of a run, where a target stands, is a state of the abstract world; and when what happens there is a run of that world.
use Rattle.std.specs.Prelude.{cond, ◌≡◌, ◌≢◌, ◌⊎◌, ℕ, Bool, true, false, List, [], Option, Some, None, length, replicate, slice_get, slice_set, ◌+◌}
use Rattle.wb_types.specs.declared.mode.Mode.{Mode}
use Rattle.wb_disk.specs.Device.{Content, History}
use Rattle.wb_contents.specs.Devices.{by_block}
use Rattle.wb_contents.specs.Volume.{Locations, changed}
use Rattle.wb_words.specs.SharedWords.{Words}
use Rattle.wb_policy.specs.declared.order.Order.{Order}
use Rattle.wb_devices.specs.declared.devices.Devices.{Devices}
use Rattle.wb_link.specs.Tables.{Script, Order as AbstractOrder}
use Rattle.wb_types.specs.declared.number.OBlock.{OBlock}
use Rattle.wb_tasks.specs.Plan.{Plan}
use Rattle.wb_tasks.specs.declared.step.Migration.{Migration}
use Rattle.wb_promise.specs.declared.job.Job.TheVariants.{Migrate}
use Rattle.wb_simulation.specs.Carried.{held, live_there, IsOf, IsAtMigration}
use Rattle.wb_link.specs.World.{TicketIsCovered, TicketIsUncovered, World, Shared, Block, Mapped, Reserved, removed, block_begun, block_ended, block_given_back, Record, IsAbstractRun, abstract_after_all, AbstractActor}
use Rattle.wb_refines.specs.Models.{WordsAgree}
use Rattle.wb_promise.specs.States.{Actor}
use Rattle.wb_simulation.specs.Actors.{StandsFor}
use Rattle.wb_simulation.specs.Telling.{Telling, IsTold}

-- a sector before anything was written; behind the end of a device there is nothing else
abbrev pub zeros : Content
zeros = replicate 512 0

-- a task that has still something to do before it answers
abbrev pub IsUnfinished : Option Script → Type 0
IsUnfinished None = ⊥
IsUnfinished (Some script) = script.steps ≢ []

-- an order is at an actor or aside
abbrev pub OrderIsThere : World → AbstractOrder → Type 0
OrderIsThere s p = (s.waiting p.cache ≡ Some p) ⊎ ((b : ℕ) × (z : AbstractActor) × (slice_get s.actors b ≡ Some z) × (z.order ≡ Some p))

-- The orders that live at the desk, each in the slot of its cache block, are those that live there, and each is an actor's or aside; what
-- an actor of the run is at under one of them, its abstract actor is at there.
pub record OrdersAgree (size : ℕ) (words : Words) (orders : List (Option Order)) (actors : List Actor) (s : World) : Type 0 where
  -- what lives on a cache block lives there, and nothing else does
  pub live : (c : ℕ) (order : Option Order) → slice_get orders c ≡ Some order → (p : AbstractOrder) → p.cache ≡ c → ((live_there s.shared.mapping c order ≡ Some p) → OrderIsThere s p) × (OrderIsThere s p → live_there s.shared.mapping c order ≡ Some p)
  -- an actor's order is no other actor's, and not aside too
  pub once : (a : ℕ) (y : AbstractActor) (p : AbstractOrder) → slice_get s.actors a ≡ Some y → y.order ≡ Some p → (s.waiting p.cache ≢ Some p) × ((b : ℕ) (z : AbstractActor) (q : AbstractOrder) → slice_get s.actors b ≡ Some z → z.order ≡ Some q → q.cache ≡ p.cache → b ≡ a)
  -- one that is aside is there by its cache block, on which an order lives
  pub waits : (k : ℕ) (p : AbstractOrder) → s.waiting k ≡ Some p → (p.cache ≡ k) × ((order : Order) × (slice_get orders k ≡ Some (Some order)))
  -- an actor's order is one of those that the run's actor has
  pub ours : (a : ℕ) (x : Actor) (y : AbstractActor) (p : AbstractOrder) → slice_get actors a ≡ Some x → slice_get s.actors a ≡ Some y → y.order ≡ Some p → IsOf orders (held x) p
  -- and what the run's actor migrates it migrates there
  pub carried : (a : ℕ) (x : Actor) (y : AbstractActor) (migration : Migration) (block : OBlock) (plan : Plan) → slice_get actors a ≡ Some x → slice_get s.actors a ≡ Some y → x.task ≡ Some (Migrate migration block, plan) → IsAtMigration size words orders migration block plan x y

-- Whether a desk has a commit that runs, whether one was broken, and how many have ended.
pub record Commits : Type 0 where
  pub committing : Bool
  pub broken : Bool
  pub ended : ℕ

abbrev pub none_yet : Commits
none_yet = record { committing = false; broken = false; ended = 0 }

-- the number of the last that began
abbrev pub last_begun : Commits → ℕ
last_begun commits = commits.ended + cond commits.committing 1 0

-- So it is in the abstract world.
pub record CommitsAgree (commits : Commits) (s : Shared) : Type 0 where
  pub runs : s.committing ≡ commits.committing
  pub broken : s.broken ≡ commits.broken
  pub ended : s.ended ≡ commits.ended
  pub began : s.began ≡ last_begun commits

-- one begins, or ends
abbrev pub one_begun : Commits → Commits
one_begun commits = record commits { committing = true }

abbrev pub one_ended : Commits → Commits
one_ended commits = record { committing = false; broken = commits.broken; ended = commits.ended + 1 }

-- a commit of the ticket's number or a later one has ended, or none has
abbrev pub TakesIn : Commits → Option ℕ → Type 0
TakesIn commits = TicketIsCovered commits.ended

abbrev pub IsLeftOut : Commits → Option ℕ → Type 0
IsLeftOut commits = TicketIsUncovered commits.ended

-- none begins, ends or is broken from the one to the other
abbrev pub KeepsNumbers : (s t : Shared) → Type 0
KeepsNumbers s t = (t.broken ≡ s.broken) × (t.began ≡ s.began) × (t.ended ≡ s.ended)

-- Where a run stands, with a target: the target's mode; how many sectors blocks have, and how many nodes an image has at most that is not clean, or is; the target's words, the
-- commits of its desk, and the orders that live there, by cache block; the devices, and the actors.
pub record Situation : Type 0 where
  pub mode : Mode
  pub size : ℕ
  pub most : Bool → ℕ
  pub words : Words
  pub commits : Commits
  pub orders : List (Option Order)
  pub devices : Devices (List History)
  pub actors : List Actor

-- The run stands where this state of the world stands for it, in the same mode. Each actor of the run is one of the world.
pub record Agrees (now : Situation) (s : World) : Type 0 where
  pub words_agree : WordsAgree now.words s.shared
  pub origin : s.shared.origin ≡ by_block now.size zeros now.devices.origin
  pub cache : s.shared.cache ≡ by_block now.size zeros now.devices.cache
  pub mode : s.shared.mode ≡ now.mode
  pub commits : CommitsAgree now.commits s.shared
  -- a commit that was broken runs for good
  pub broken : s.shared.broken ≡ true → s.shared.committing ≡ true
  -- One actor at most leads a commit, while one runs; until it is broken, it has still to end it.
  pub led : (a : ℕ) (y : AbstractActor) → slice_get s.actors a ≡ Some y → y.leads ≡ true → s.shared.committing ≡ true
  pub whole : (a : ℕ) (y : AbstractActor) → slice_get s.actors a ≡ Some y → y.leads ≡ true → IsUnfinished y.task → s.shared.broken ≡ false
  pub one_leads : (a b : ℕ) (y z : AbstractActor) → slice_get s.actors a ≡ Some y → slice_get s.actors b ≡ Some z → y.leads ≡ true → z.leads ≡ true → a ≡ b
  pub many : length s.actors ≡ length now.actors
  pub each : (a : ℕ) (x : Actor) (y : AbstractActor) → slice_get now.actors a ≡ Some x → slice_get s.actors a ≡ Some y → StandsFor now.size now.most now.words x y
  pub orders_agree : OrdersAgree now.size now.words now.orders now.actors s

-- What comes of the desk and of the images that the metadata stand for: they stay; a commit begins, from the desk's mapping, whose root is to be
-- marked clean or not; its root is written, or not; it ends; a cache block is reserved for an order; an order ends by an entry of the mapping that comes, or by one that goes;
-- it is given up.
pub data Turn : Type 0 where
  Stays : Turn
  Begins : (clean : Bool) → Turn
  Puts : (written : Bool) → Turn
  Ends : Turn
  Reserves : (cache : ℕ) → Turn
  Maps : (block cache : ℕ) → Turn
  Unmaps : (block cache : ℕ) (next : Option ℕ) → Turn
  GivesUp : (cache : ℕ) → Turn

-- which blocks an opening of a commit that begins now takes as clean: under a root that is marked so those whose seals are
abbrev pub clean_by : (marked : Bool) → Shared → ℕ → Bool
clean_by true s = λ block. cond (s.seals block).dirty false true
clean_by false s = λ block. false

abbrev pub TurnedTo : Turn → (s t : Shared) → Type 0
TurnedTo (Begins clean) s t = (t.committed ≡ s.committed) × (t.running ≡ s.mapping) × (t.root_written ≡ s.root_written) × (t.committed_clean ≡ s.committed_clean) × (t.running_clean ≡ clean_by clean s)
TurnedTo (Puts written) s t = (t.committed ≡ s.committed) × (t.running ≡ s.running) × (t.root_written ≡ written) × (t.committed_clean ≡ s.committed_clean) × (t.running_clean ≡ s.running_clean)
TurnedTo Ends s t = (t.committed ≡ s.running) × (t.root_written ≡ false) × (t.committed_clean ≡ s.running_clean)
TurnedTo turn s t = (t.committed ≡ s.committed) × (t.running ≡ s.running) × (t.root_written ≡ s.root_written) × (t.committed_clean ≡ s.committed_clean) × (t.running_clean ≡ s.running_clean)

-- where each block is then
abbrev pub mapping_by : Turn → Shared → Locations
mapping_by (Maps block cache) s = changed s.mapping block (Some cache)
mapping_by (Unmaps block cache next) s = changed s.mapping block None
mapping_by turn s = s.mapping

-- and the state of each cache block
abbrev pub blocks_by : Turn → Shared → ℕ → Block
blocks_by (Begins clean) s = λ c. block_begun (s.blocks c)
blocks_by Ends s = λ c. block_ended (s.blocks c)
blocks_by (Reserves cache) s = changed s.blocks cache Reserved
blocks_by (Maps block cache) s = changed s.blocks cache Mapped
blocks_by (Unmaps block cache next) s = changed s.blocks cache (removed next)
blocks_by (GivesUp cache) s = changed s.blocks cache (block_given_back (s.blocks cache))
blocks_by turn s = s.blocks

abbrev pub DeskTurnedTo : Turn → (s t : Shared) → Type 0
DeskTurnedTo turn s t = (t.mapping ≡ mapping_by turn s) × (t.blocks ≡ blocks_by turn s)

-- The world can go on by some records of this actor, to where the run stands now with that actor as this one, and this comes of its desk and
-- images.
pub record WorldFollowsBy (turn : Turn) (telling : Telling) (a : ℕ) (s : World) (now : Situation) (x : Actor) : Type 0 where
  pub records : List Record
  pub run : IsAbstractRun now.size s records
  pub agrees : Agrees (record now { actors = slice_set now.actors a x }) (abstract_after_all s records)
  pub turned : TurnedTo turn s.shared (abstract_after_all s records).shared
  pub desk : DeskTurnedTo turn s.shared (abstract_after_all s records).shared
  pub told : (y : AbstractActor) → slice_get s.actors a ≡ Some y → IsTold telling a y.task records

-- the same, and desk and images stay
abbrev pub WorldFollows : Telling → ℕ → World → Situation → Actor → Type 0
WorldFollows telling a s now x = WorldFollowsBy Stays telling a s now x
