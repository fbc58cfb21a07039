-- An actor that leads a commit goes on, and nobody else leads one.
use Rattle.wb_stage.specs.declared.share.Share.{Share}
use Rattle.std.proofs.Common.{◌≡◌, ◌≢◌, ◌∙◌, inl, inr, ℕ, zero, suc, Bool, true, false, List, [], ◌∷◌, ◌++◌, Some, refl, sym, ap, subst, slice_get, None, Option}
use Rattle.wb_types.specs.declared.mode.Dev.TheVariants.{Metadata}
use Rattle.wb_disk.specs.Device.{History}
use Rattle.wb_contents.specs.Devices.{by_block}
use Rattle.wb_words.specs.SharedWords.{Words, flag}
use Rattle.wb_words.specs.declared.card.Card.{Card}
use Rattle.wb_tasks.specs.Plan.{Plan, want, table, node_writes, root_steps, begun_steps, after_fault_of, first_step}
use Rattle.wb_tasks.specs.declared.step.Answer.{Answer}
use Rattle.wb_tasks.specs.declared.step.DeviceStep.TheVariants.{Sync, WriteNode, WriteRoot}
use Rattle.wb_tasks.specs.declared.step.DeskStep.TheVariants.{EndCommit, Ask}
use Rattle.wb_tasks.specs.declared.step.Want.{Want}
use Rattle.wb_words.specs.declared.word.Word.TheVariants.{Fail}
use Rattle.wb_words.specs.declared.step.CellStep.TheVariants.{Look, SetSuspended}
use Rattle.wb_tasks.specs.declared.step.DeviceStep.{DeviceStep}
use Rattle.wb_tasks.specs.declared.step.Want.TheVariants.{Cell, Device, Desk}
use Rattle.wb_devices.specs.declared.devices.Devices.{Devices}
use Rattle.wb_link.specs.Tables.{Job as AbstractJob, Script}
use Rattle.wb_link.specs.World.{World, Shared, AbstractActor, is_alone, job_alone}
use Rattle.wb_refines.specs.Going.{gone}
use Rattle.wb_refines.specs.Translation.{job_for, wants_of, script_for, with_ticket}
use Rattle.wb_refines.specs.Models.{WordsAgree}
use Rattle.wb_refines.specs.Commits.{IsCommitting, IsOnMetadata, committing, commit_task, CanGoOn}
use Rattle.wb_refines.proofs.Holding.{holds_nothing}
use Rattle.wb_promise.specs.States.{Actor}
use Rattle.wb_simulation.specs.Actors.{IsCommitAt, IsOfCommit, IsEnding, LeadsAt, IsDoing, IsAmong, StandsFor, ticket_in}
use Rattle.wb_simulation.specs.Laws.{flush_or_suspend}
use Rattle.wb_simulation.specs.Telling.{Quietly}
use Rattle.wb_simulation.specs.Worlds.{Situation, zeros, Agrees, Turn, TurnedTo, DeskTurnedTo, WorldFollowsBy, IsUnfinished, KeepsNumbers}
use Rattle.wb_simulation.proofs.Telling.{quiet_are_unnoted}
use Rattle.wb_simulation.proofs.Orders.{MigratesNot, does_none}
use Rattle.wb_simulation.proofs.Among.{goes_by}
use Rattle.wb_types.specs.declared.number.OBlock.{OBlock}
use Rattle.wb_simulation.proofs.Followed.{first, IsWithin, never_late}

-- ---- what is left of a commit

nodes_alone : (count first : ℕ) → IsOnMetadata false (node_writes count first ++ root_steps)
nodes_alone zero first = tt
nodes_alone (suc count) first = nodes_alone count _

nodes_then : (count first : ℕ) → IsOnMetadata true ((node_writes count first ++ root_steps) ++ Cell SetSuspended ∷ [])
nodes_then zero first = tt
nodes_then (suc count) first = nodes_then count _

-- once it has begun, cache and origin are to be synced first
pub begun_on : (clean : Bool) (blocks : List OBlock) (most nodes : ℕ) → IsOfCommit clean most (begun_steps (commit_task clean blocks most) nodes) × LeadsAt true (begun_steps (commit_task clean blocks most) nodes)
begun_on true blocks most nodes = (nodes_then nodes 0, refl)
begun_on false blocks most nodes = (nodes_alone nodes 0, refl)

pub commits_on : (clean : Bool) (most : ℕ) (steps : List Want) → IsOnMetadata clean steps → IsOfCommit clean most steps × LeadsAt true steps
commits_on clean most (Device (WriteNode number) ∷ later) m = (m, refl)
commits_on clean most (Device (Sync Metadata) ∷ later) m = (m, refl)
commits_on clean most (Device WriteRoot ∷ later) m = (m, refl)
commits_on true most (Desk EndCommit ∷ Cell SetSuspended ∷ []) m = (tt, refl)
commits_on false most (Desk EndCommit ∷ []) m = (tt, refl)
commits_on clean most steps m = absurd m

-- once it has ended a suspend has its bit to set
pub ended_on : (clean : Bool) (most : ℕ) (later : List Want) → IsOfCommit clean most (Desk EndCommit ∷ later) → IsOfCommit clean most later × LeadsAt false later
ended_on true most (Cell SetSuspended ∷ []) m = ((refl, refl), refl)
ended_on false most [] m = (tt, tt)
ended_on clean most later m = absurd m

-- after a fault the failed bit is to be set
pub failed_on : (clean : Bool) (blocks : List OBlock) (most : ℕ) (step : DeviceStep) → IsOfCommit clean most (after_fault_of (commit_task clean blocks most) step) × LeadsAt true (after_fault_of (commit_task clean blocks most) step) × (¬ IsEnding (after_fault_of (commit_task clean blocks most) step))
failed_on true blocks most step = (refl, refl, λ n. n)
failed_on false blocks most step = (refl, refl, λ n. n)

pub has_wants : (size : ℕ) (job : AbstractJob) (clean : Bool) (steps : List Want) → IsOnMetadata clean steps → wants_of size None job steps ≢ []
has_wants size job clean (Device (WriteNode number) ∷ later) m = has_wants size job clean later m
has_wants size job clean (Device (Sync Metadata) ∷ later) m = has_wants size job clean later m
has_wants size job clean (Device WriteRoot ∷ later) m = λ e. absurd (cc)
has_wants size job true (Desk EndCommit ∷ later) m = λ e. absurd (cc)
has_wants size job false (Desk EndCommit ∷ later) m = λ e. absurd (cc)
has_wants size job clean steps m = absurd m

pub begins_by_look : (clean : Bool) (blocks : List OBlock) (most : ℕ) → want (table (commit_task clean blocks most)) ≡ Cell (Look Fail)
begins_by_look true blocks most = refl
begins_by_look false blocks most = refl

-- ---- which of both it is

pub is_no_migration : (clean : Bool) → MigratesNot (flush_or_suspend clean)
is_no_migration true = tt
is_no_migration false = tt

pub as_doing : (clean : Bool) (size : ℕ) (most : Bool → ℕ) (failed : Bool) (plan : Plan) (card : Card) (share : Share) (y : AbstractActor) → IsCommitAt size (most clean) failed clean plan share y → IsDoing size most failed (flush_or_suspend clean) plan card share y
as_doing true size most failed plan card share y at = at
as_doing false size most failed plan card share y at = at

pub doing_as : (clean : Bool) (size : ℕ) (most : Bool → ℕ) (failed : Bool) (plan : Plan) (card : Card) (share : Share) (y : AbstractActor) → IsDoing size most failed (flush_or_suspend clean) plan card share y → IsCommitAt size (most clean) failed clean plan share y
doing_as true size most failed plan card share y at = at
doing_as false size most failed plan card share y at = at

-- with a ticket it is at the same job
same_job : (ticket : Option ℕ) (script : Script) → (with_ticket ticket script).job ≡ script.job
same_job None script = refl
same_job (Some number) script = refl

-- a flush is no suspend
flushes_among : (clean : Bool) (size : ℕ) (blocks : List OBlock) (most : ℕ) → IsAmong (flush_or_suspend clean) → job_alone (job_for size [] (commit_task clean blocks most)) ≡ false
flushes_among true size blocks most among = absurd among
flushes_among false size blocks most among = refl

-- ---- where it stands

-- What holds of it with this step next holds of it: it is at the same there, and leads a commit as far as such steps do.
pub by_commit : (size most : ℕ) (failed clean : Bool) (plan : Plan) (next : Want) (share : Share) (y : AbstractActor) → want plan ≡ next → IsWithin next → (f : IsCommitAt size most failed clean plan share y) → (P : Plan → Type 0) →
    ((later : List Want) (leads : Bool) → LeadsAt leads (next ∷ later) → IsOfCommit clean most (next ∷ later) → IsCommitting size [] (committing clean f.blocks most (next ∷ later) plan.answer) (ticket_in next share) leads y → P (committing clean f.blocks most (next ∷ later) plan.answer)) → P plan
by_commit size most failed clean plan next share y e within f P h = elim f.at [
  | inl l ↦ first plan (commit_task clean f.blocks most) next f.job e (λ p. LeadsAt l.leads p.steps → IsOfCommit clean most p.steps → IsCommitting size [] p (ticket_in (want p) share) l.leads y → P p) (λ later k at of is. h later l.leads at of is) (λ k end. absurd (subst IsWithin (sym end) within)) l.at f.steps l.is
  | inr l ↦ absurd (never_late failed plan (commit_task clean f.blocks most) next y f.job (begins_by_look clean f.blocks most) e within l)
]

-- who leads a commit asks with no ticket
pub no_ticket : (plan : Plan) (share : Share) → LeadsAt true plan.steps → ticket_in (want plan) share ≡ None
no_ticket plan share l = by_steps plan.steps l
  where
    by_steps : (steps : List Want) → LeadsAt true steps → ticket_in (first_step steps plan.answer) share ≡ None
    by_steps (Desk (Ask most) ∷ later) l = absurd (cc)
    by_steps steps l = refl

module _ (now : Situation) (clean : Bool) (blocks : List OBlock) (a : ℕ) (x : Actor) (s : World) (y : AbstractActor) (ex : slice_get now.actors a ≡ Some x) (ey : slice_get s.actors a ≡ Some y) (g : Agrees now s) where
  -- who stands there now
  pub stands : (words' : Words) (plan' : Plan) (card' : Card) (seen' : List Bool) (share' : Share) (leads' : Bool) (z : AbstractActor) → plan'.job ≡ commit_task clean blocks (now.most clean) → IsOfCommit clean (now.most clean) plan'.steps → LeadsAt leads' plan'.steps → (leads' ≡ true → IsEnding plan'.steps → flag words'.fail ≡ true) → IsCommitting now.size [] plan' (ticket_in (want plan') share') leads' z →
      StandsFor now.size now.most words' (record x { task = Some (flush_or_suspend clean, plan'); card = card'; seen = seen'; share = share' }) z
  stands words' plan' card' seen' share' leads' z j o l f is = record {
    failed = flag words'.fail;
    has_failed = λ e. e;
    at = as_doing clean now.size now.most (flag words'.fail) plan' card' share' z (record { blocks = blocks; job = j; steps = o; at = inl (record { leads = leads'; at = l; has_failed = f; is = is }) });
    below = holds_nothing z card' (ap (λ (v : AbstractActor). v.held) is.is);
    among_others = λ among. ap (λ (v : AbstractActor). is_alone v.task) is.is ∙ ap job_alone (same_job (ticket_in (want plan') share') (script_for now.size [] None plan')) ∙ ap (λ k. job_alone (job_for now.size [] k)) j ∙ flushes_among clean now.size blocks (now.most clean) among;
  }

  -- nobody else leads a commit
  pub leads_alone : y.leads ≡ true → (b : ℕ) (v : AbstractActor) → b ≢ a → slice_get s.actors b ≡ Some v → v.leads ≢ true
  leads_alone lead b v n ev l = n (g.one_leads b a v y ev ey l lead)

  -- one that leads goes on by a step on a device, and its commit stays whole
  pub goes : (turn : Turn) (devices' : Devices (List History)) (next : Want) (later : List Want) (answer : Answer) (plan' : Plan) (t : Shared) → IsCommitting now.size [] (committing clean blocks (now.most clean) (next ∷ later) answer) None true y → wants_of now.size None (job_for now.size [] (commit_task clean blocks (now.most clean))) (next ∷ later) ≢ [] → CanGoOn now.size [] s.actors a s.shared y t plan' None true →
      plan'.job ≡ commit_task clean blocks (now.most clean) → IsOfCommit clean (now.most clean) plan'.steps → LeadsAt true plan'.steps → (¬ IsEnding plan'.steps) → WordsAgree now.words t → t.origin ≡ by_block now.size zeros devices'.origin → t.cache ≡ by_block now.size zeros devices'.cache → t.mode ≡ s.shared.mode → t.committing ≡ s.shared.committing → KeepsNumbers s.shared t → TurnedTo turn s.shared t → DeskTurnedTo turn s.shared t → t.mapping ≡ s.shared.mapping →
      WorldFollowsBy turn Quietly a s (record now { devices = devices' }) (record x { task = Some (flush_or_suspend clean, plan') })
  goes turn devices' next later answer plan' t is some l j o at unfinished w og ca mo co br turned desk same_map = goes_by now now.words (λ f. f) a x (record x { task = Some (flush_or_suspend clean, plan') }) s y g ex ey turn Quietly devices' l.results t (l.results, quiet_are_unnoted y.task l.results l.quiet, refl) l.may l.shared
      (stands now.words plan' x.card x.seen x.share true (gone y y.task l.results) j o at (λ e n. absurd (unfinished n)) (subst (λ (ticket : Option ℕ). IsCommitting now.size [] plan' ticket true (gone y y.task l.results)) (sym (no_ticket plan' x.share at)) l.at)) (λ k. (ap (λ (v : AbstractActor). v.leads) is.is, λ more. subst (λ (v : AbstractActor). IsUnfinished v.task) (sym is.is) some)) w og ca mo co br turned desk
      (ap (λ (v : AbstractActor). v.order) l.at.is ∙ sym (ap (λ (v : AbstractActor). v.order) is.is)) (λ o h. h) same_map (does_none _ _ _ _ _ (is_no_migration clean))
