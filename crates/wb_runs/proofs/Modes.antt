-- A target keeps the mode in which it was opened.
use Rattle.std.proofs.Common.{◌≡◌, inl, inr, if◌then◌else◌, Bool, true, false, List, Option, Some, None, refl, ap}
use Rattle.wb_types.specs.declared.number.OBlock.{OBlock}
use Rattle.wb_types.specs.declared.number.CBlock.{CBlock}
use Rattle.wb_disk.specs.Device.{Content as Bytes}
use Rattle.wb_policy.specs.declared.order.Order.{Order}
use Rattle.wb_desk.specs.Desks.{DeskState}
use Rattle.wb_desk.specs.Commits.{commit_ended}
use Rattle.wb_stage.specs.Asking.{IsGivenUp, DidUnmap, ended}
use Rattle.wb_tasks.specs.declared.step.DeskStep.{DeskStep}
use Rattle.wb_tasks.specs.declared.step.DeskStep.TheVariants.{Map, Unmap, ReleaseOrder, Arrive, Ask, BeginCommit, EndCommit, BreakCommit}
use Rattle.wb_tasks.specs.declared.step.Want.{Want}
use Rattle.wb_tasks.specs.declared.step.Want.TheVariants.{Cell, Device, Desk, End}
use Rattle.wb_tasks.specs.declared.step.Got.{Got}
use Rattle.wb_tasks.specs.declared.step.Got.TheVariants.{Done, Refused as GotRefused}
use Rattle.wb_promise.specs.declared.job.Job.{Job}
use Rattle.wb_promise.specs.declared.job.Job.TheVariants.{Flush, Migrate, Replace, Invalidate, Write}
use Rattle.wb_promise.specs.States.{Shape, State, Actor, Phase, Stands, Gone, Opens, OfTarget, mode_of, Target}
use Rattle.wb_promise.specs.Happenings.{Chosen, Plain, Orders, Commits, Asks, Gives, DoesMap, DoesUnmap, DoesRelease}
use Rattle.wb_promise.specs.Effects.{desk_then, begun_desk, phase_then, phase_given}
use Rattle.wb_runs.proofs.Desks.{is_unmappable, is_live}

-- a step that is the answer of its task
abbrev pub IsAnswer : Want → Type 0
IsAnswer (End answer) = Unit {0}
IsAnswer next = ⊥

module _ (P A : Type 0) where
  given_up_mode : (desk new : DeskState P) (order : Option Order) → IsGivenUp order desk new → new.mode ≡ desk.mode
  given_up_mode desk new None up = ap (λ (d : DeskState P). d.mode) up
  given_up_mode desk new (Some order) up = elim (is_live desk order) [
    | inl live ↦ ap (λ (d : DeskState P). d.mode) (up.0 live)
    | inr none ↦ ap (λ (d : DeskState P). d.mode) (up.1 none)
  ]

  unmapped_mode : (desk new : DeskState P) (b : OBlock) → DidUnmap (λ policy block. new.policy) b desk new → new.mode ≡ desk.mode
  unmapped_mode desk new b did = elim (is_unmappable desk b) [
    | inl may ↦ ap (λ (d : DeskState P). d.mode) (did.0 may).1
    | inr none ↦ ap (λ (d : DeskState P). d.mode) (did.1 none)
  ]

  ended_mode : (desk : DeskState P) → (ended desk).mode ≡ desk.mode
  ended_mode desk = by desk.space.committing
    where
      by : (t : Bool) → (if t then commit_ended desk else desk).mode ≡ desk.mode
      by true = refl
      by false = refl

  begun_mode : (desk : DeskState P) (chosen : Chosen P A) → (begun_desk chosen desk).mode ≡ desk.mode
  begun_mode desk (Commits commit tree) = refl
  begun_mode desk chosen = refl

  -- the desk of the target that stands is of its mode after this step
  abbrev Keeps : Phase P A → Want → Chosen P A → Type 0
  Keeps (Stands t) next chosen = (desk_then t.desk next chosen).mode ≡ t.desk.mode
  Keeps phase next chosen = Unit {0}

  by_map : (phase : Phase P A) (b : OBlock) (c : CBlock) (got : Got) (chosen : Chosen P A) → OfTarget phase (λ t. DoesMap b c t.desk got chosen) → Keeps phase (Desk (Map b c)) chosen
  by_map (Stands t) b c Done (Asks new) d = ap (λ (x : DeskState P). x.mode) d.2
  by_map (Stands t) b c (GotRefused refusal) Plain d = refl
  by_map (Stands t) b c got chosen d = absurd d
  by_map Gone b c got chosen d = tt
  by_map (Opens mode reading) b c got chosen d = tt

  by_unmap : (phase : Phase P A) (b : OBlock) (chosen : Chosen P A) → OfTarget phase (λ t. DoesUnmap b t.desk chosen) → Keeps phase (Desk (Unmap b)) chosen
  by_unmap (Stands t) b (Asks new) d = unmapped_mode t.desk new b d
  by_unmap (Stands t) b chosen d = absurd d
  by_unmap Gone b chosen d = tt
  by_unmap (Opens mode reading) b chosen d = tt

  by_release : (phase : Phase P A) (orders : List Order) (b : OBlock) (chosen : Chosen P A) → OfTarget phase (λ t. DoesRelease orders b t.desk chosen) → Keeps phase (Desk (ReleaseOrder b)) chosen
  by_release (Stands t) orders b (Asks new) d = given_up_mode t.desk new (Rattle.wb_stage.specs.Asking.order_of b orders) d
  by_release (Stands t) orders b chosen d = absurd d
  by_release Gone orders b chosen d = tt
  by_release (Opens mode reading) orders b chosen d = tt

  -- so where a target stands
  where_stands : (phase : Phase P A) (next : Want) (chosen : Chosen P A) → ((t : Target P) → Keeps (Stands t) next chosen) → Keeps phase next chosen
  where_stands (Stands t) next chosen keeps = keeps t
  where_stands Gone next chosen keeps = tt
  where_stands (Opens mode reading) next chosen keeps = tt

  by_desk : (shape : Shape) (w : State P A) (x : Actor) (job : Job) (step : DeskStep) (got : Got) (read : List Bytes) (chosen : Chosen P A) → Gives shape w x job (Desk step) got read chosen → Keeps w.phase (Desk step) chosen
  by_desk shape w x job (Arrive most) got read chosen g = where_stands w.phase (Desk (Arrive most)) chosen (λ t. begun_mode t.desk chosen)
  by_desk shape w x job (Ask most) got read chosen g = where_stands w.phase (Desk (Ask most)) chosen (λ t. begun_mode t.desk chosen)
  by_desk shape w x job (BeginCommit most) got read chosen g = where_stands w.phase (Desk (BeginCommit most)) chosen (λ t. begun_mode t.desk chosen)
  by_desk shape w x job EndCommit got read chosen g = where_stands w.phase (Desk EndCommit) chosen (λ t. ended_mode t.desk)
  by_desk shape w x job BreakCommit got read chosen g = where_stands w.phase (Desk BreakCommit) chosen (λ t. refl)
  by_desk shape w x (Migrate migration block) (Map b c) got read chosen g = by_map w.phase b c got chosen g.1
  by_desk shape w x (Migrate migration block) (Unmap b) got read chosen g = by_unmap w.phase b chosen g.2
  by_desk shape w x (Write extent content) (Unmap b) got read chosen g = by_unmap w.phase b chosen g.2
  by_desk shape w x (Invalidate block) (Unmap b) got read chosen g = by_unmap w.phase b chosen g.2
  by_desk shape w x (Migrate migration block) (ReleaseOrder b) got read chosen g = by_release w.phase x.orders b chosen g.2
  by_desk shape w x Flush (ReleaseOrder b) got read chosen g = by_release w.phase x.awaiting b chosen g.2
  by_desk shape w x job step got read chosen g = absurd g

  -- a step that is no answer, done or failed
  stays : (phase : Phase P A) (shape : Shape) (next : Want) (got : Got) (chosen : Chosen P A) → ¬ IsAnswer next → Keeps phase next chosen → mode_of (phase_then shape phase next got chosen) ≡ mode_of phase
  stays (Stands t) shape next got chosen o k = k
  stays (Opens mode reading) shape (End answer) got chosen o k = absurd (o tt)
  stays phase shape next got chosen o k = refl

  pub mode_stays : (shape : Shape) (w : State P A) (x : Actor) (job : Job) (next : Want) (got : Got) (read : List Bytes) (chosen : Chosen P A) → ¬ IsAnswer next → Gives shape w x job next got read chosen → mode_of (phase_then shape w.phase next got chosen) ≡ mode_of w.phase
  mode_stays shape w x job (Cell step) got read chosen o g = stays w.phase shape (Cell step) got chosen o (where_stands w.phase (Cell step) chosen (λ t. refl))
  mode_stays shape w x job (Device step) got read chosen o g = stays w.phase shape (Device step) got chosen o (where_stands w.phase (Device step) chosen (λ t. refl))
  mode_stays shape w x job (Desk step) got read chosen o g = stays w.phase shape (Desk step) got chosen o (by_desk shape w x job step got read chosen g)
  mode_stays shape w x job (End answer) got read chosen o g = absurd (o tt)

  pub mode_faults : (shape : Shape) (phase : Phase P A) (step : _) (got : Got) (chosen : Chosen P A) → mode_of (phase_then shape phase (Device step) got chosen) ≡ mode_of phase
  mode_faults shape phase step got chosen = stays phase shape (Device step) got chosen (λ z. z) (where_stands phase (Device step) chosen (λ t. refl))

  -- an order that is given leaves it
  pub mode_given : (phase : Phase P A) (job : Job) (chosen : Chosen P A) → mode_of (phase_given phase job chosen) ≡ mode_of phase
  mode_given (Stands t) (Migrate migration block) (Orders cut cache) = refl
  mode_given (Stands t) (Replace old new) (Orders cut cache) = refl
  mode_given phase job chosen = refl
