-- What actors are at over a target that stands.
use Rattle.std.specs.Prelude.{ℕ, Bool, true, false, List, [], ◌∷◌, Option, Some, None, is_some, slice_get}
use Rattle.std.specs.List.{list_any}
use Rattle.wb_disk.specs.Device.{Content as Bytes}
use Rattle.wb_policy.specs.declared.order.Order.{Order}
use Rattle.wb_tasks.specs.Plan.{Plan}
use Rattle.wb_words.specs.declared.card.Card.{Card}
use Rattle.wb_stage.specs.declared.share.Share.{Share}
use Rattle.wb_stage.specs.declared.share.Share.TheVariants.{Nothing}
use Rattle.wb_promise.specs.declared.job.Job.{Job}
use Rattle.wb_promise.specs.declared.job.Job.TheVariants.{Suspend}
use Rattle.wb_promise.specs.States.{Actor}

-- what an actor is at, but for its card: what is left of its task, if it has one, the orders that it has, those that wait for a flush of it,
-- what its migration has read last, for each cache block whether its suspend has seen its copy dirty, and what its flush has of the commits
-- that others lead
pub record Member : Type 0 where
  pub task : Option (Job × Plan)
  pub orders : List Order
  pub awaiting : List Order
  pub buffer : List Bytes
  pub seen : List Bool
  pub share : Share

-- who is at what this member is at, with this card
abbrev pub seat : Member → Card → Actor
seat member card = record { task = member.task; card = card; orders = member.orders; awaiting = member.awaiting; buffer = member.buffer; seen = member.seen; share = member.share }

-- each member with its card
abbrev pub with_cards : List Member → List Card → List Actor
with_cards (m ∷ ms) (c ∷ cs) = seat m c ∷ with_cards ms cs
with_cards _ _ = []

-- a member that is at nothing
abbrev pub free : Member
free = record { task = None; orders = []; awaiting = []; buffer = []; seen = []; share = Nothing }

-- this one is there, and at something
abbrev pub works : Option Member → Bool
works None = false
works (Some member) = is_some member.task

abbrev pub works_there : List Member → ℕ → Bool
works_there members a = works (slice_get members a)

-- somebody is at something
abbrev pub is_at_work : Member → Bool
is_at_work member = is_some member.task

abbrev pub somebody_works : List Member → Bool
somebody_works members = list_any is_at_work members

-- ---- who suspends the target

abbrev pub is_suspend : Job → Bool
is_suspend Suspend = true
is_suspend job = false

abbrev pub is_to_suspend : Option (Job × Plan) → Bool
is_to_suspend None = false
is_to_suspend (Some doing) = is_suspend doing.0

abbrev pub suspends : Member → Bool
suspends member = is_to_suspend member.task

abbrev pub somebody_suspends : List Member → Bool
somebody_suspends members = list_any suspends members
