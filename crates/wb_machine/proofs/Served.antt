-- What an event does over a target that stands is what wb_promise says.
use Rattle.std.proofs.Common.{◌≡◌, ◌≤◌, inl, inr, ℕ, zero, suc, Bool, true, false, List, [], ◌∷◌, Option, Some, None, Vec, refl, sym, ap, subst, ◌∙◌, if◌then◌else◌, slice_get, slice_set, slice_index_or, length, length-set, replicate, is_none, arith}
use Rattle.std.specs.declared.alloc.Global.{Global}
use Rattle.wb_types.specs.Limits.{most_nodes}
use Rattle.wb_types.specs.declared.geometry.Geometry.{Geometry}
use Rattle.wb_types.specs.declared.version.Version.TheVariants.{Two}
use Rattle.wb_meta.specs.Sizes.{AreSameSizes}
use Rattle.wb_types.specs.declared.mode.Dev.TheVariants.{Metadata}
use Rattle.wb_types.specs.declared.number.OBlock.{OBlock}
use Rattle.wb_types.specs.declared.number.CBlock.{CBlock}
use Rattle.wb_types.specs.declared.mode.Mode.{Mode}
use Rattle.wb_types.specs.declared.mode.Mode.TheVariants.{Writeback, Writethrough, Passthrough}
use Rattle.wb_disk.specs.Device.{Content as Bytes, History}
use Rattle.wb_disk.specs.Crash.{Choice}
use Rattle.wb_disk.specs.Memory.{Memory}
use Rattle.wb_words.specs.Cards.{blank_card}
use Rattle.wb_words.specs.Effects.{card_after}
use Rattle.wb_words.specs.SharedWords.{Words, dirty_in, flag, place_in}
use Rattle.wb_words.specs.declared.word.Word.TheVariants.{Seal as SealWord}
use Rattle.wb_words.specs.declared.step.CellStep.TheVariants.{Look}
use Rattle.wb_words.specs.declared.card.Card.{Card}
use Rattle.wb_cells.specs.Crews.{CrewState}
use Rattle.wb_policy.specs.declared.order.Order.{Order}
use Rattle.wb_policy.specs.Situations.{is_passthrough}
use Rattle.wb_policy.specs.declared.quiet.Quiet.{Quiet}
use Rattle.wb_desk.specs.Commits.{commit_ended}
use Rattle.wb_desk.specs.Desks.{DeskState}
use Rattle.wb_tasks.specs.Tables.{TaskJob, Flushing, Suspending}
use Rattle.wb_tasks.specs.Plan.{Plan, after, want}
use Rattle.wb_tasks.proofs.Readiness.{job_stays}
use Rattle.wb_tasks.specs.declared.step.DeviceStep.{DeviceStep}
use Rattle.wb_tasks.specs.declared.step.DeviceStep.TheVariants.{Sync}
use Rattle.wb_tasks.specs.declared.step.DeskStep.TheVariants.{Map, Unmap, ReleaseOrder, Arrive, Ask, BeginCommit, EndCommit, BreakCommit}
use Rattle.wb_tasks.specs.declared.step.Want.{Want}
use Rattle.wb_tasks.specs.declared.step.Want.TheVariants.{Cell, Device, Desk, End}
use Rattle.wb_tasks.specs.declared.step.Got.{Got}
use Rattle.wb_tasks.specs.declared.step.Got.TheVariants.{Done, Fault, Refused as GotRefused, Word}
use Rattle.wb_devices.specs.declared.devices.Devices.{Devices}
use Rattle.wb_devices.specs.declared.running.RunningCommit.{RunningCommit}
use Rattle.wb_promise.specs.declared.job.Job.{Job}
use Rattle.wb_promise.specs.declared.job.Job.TheVariants.{Write, Flush, Suspend, Open, Invalidate, Migrate, Replace}
use Rattle.wb_promise.specs.declared.event.Event.TheVariants.{Start, Step, FaultStep}
use Rattle.wb_promise.specs.declared.event.What.{What}
use Rattle.wb_promise.specs.declared.event.What.TheVariants.{Refused, Started}
use Rattle.wb_promise.specs.States.{Shape, Actor, Stands, Phase, Target as RunTarget}
use Rattle.wb_promise.specs.Happenings.{Chosen, Plain, Orders, Commits, Asks, OfSome, Awaits, DoesNotApply, DoesMap, DoesRelease, DoesUnmap, Gives, Falters, IsSuspending, MayFailAt, StartGives, StartsAs, most_for}
use Rattle.wb_promise.specs.Effects.{actor_then, after_what, asked_desk, begun_desk, commit_then, desk_then, devices_then, given, job_of, phase_given, seen_then, task_then, went, words_then}
use Rattle.wb_runs.proofs.Desks.{is_live, is_unmappable}
use Rattle.wb_machine.specs.declared.phase.Phase.TheVariants.{Standing}
use Rattle.wb_machine.specs.declared.target.Target.{Target}
use Rattle.wb_machine.specs.Life.{Now, Happens, starts_beside, suits_mode, wants_target}
use Rattle.wb_machine.specs.Members.{Member, free, seat, with_cards}
use Rattle.wb_machine.specs.Serving.{member_given, MemberFails, FailsOrRests, GetsJob, IsPassed, Leads, LeavesStarted, NothingFails, Rests, Starts, StartsIf, Steps, MemberSteps, chosen_at, commit_by, crew_then, desk_given, done_by, failed_by, member_then, noted_read, over, share_after, stood, target_told}
use Rattle.wb_machine.specs.Standing.{AllRoomy, AllowsImages, IsSoundPhase, IsTaskRoomy, IsRoomy}
use Rattle.wb_machine.proofs.Members.{seat_at, set_both, set_task, somebody}
use Rattle.wb_machine.proofs.Openings.{length_replicate, passes}
use Rattle.wb_machine.proofs.Possible.{has_task, the_task}
use Rattle.wb_stage.specs.declared.share.Share.{Share}
use Rattle.wb_stage.specs.Asking.{IsGivenUp, order_of}
use Rattle.wb_stage.specs.Seen.{seen_after, seen_at}
use Rattle.wb_contents.proofs.Lists.{set_same}

-- ---- an actor that is not there, or is at nothing

pub nobody_there : (actors : List Actor) (a : ℕ) (P : Actor → Type 0) → slice_get actors a ≡ None → OfSome (slice_get actors a) P → ⊥
nobody_there actors a P e h = subst (λ (o : Option Actor). OfSome o P) e h

-- ---- a start over a target

-- the mode is passthrough, or it is not
passes_by : (mode : Mode) → is_passthrough mode ≡ true → mode ≡ Passthrough
passes_by Passthrough e = refl
passes_by Writeback e = absurd (cc)
passes_by Writethrough e = absurd (cc)

caches : (mode : Mode) → is_passthrough mode ≡ false → mode ≡ Passthrough → ⊥
caches mode e p = let bad : true ≡ false = sym (ap is_passthrough p) ∙ e in cc

-- one that does not suit it is out of place
pub out_of_mode : (devices : Devices (List History)) (t : Target) (actors : List Actor) (a : ℕ) (job : Job) → suits_mode job t.desk.mode ≡ false → DoesNotApply (over devices t actors) (Start a job)
out_of_mode devices t actors a (Invalidate block) e = inr (inr (inr (caches t.desk.mode e)))
out_of_mode devices t actors a job e = absurd (cc)

-- a job that suits the mode of a target is in its place over it where nobody suspends it, for who is at nothing
pub in_place : (devices : Devices (List History)) (t : Target) (actors : List Actor) (a : ℕ) (job : Job) (x : Actor) → wants_target job ≡ true → suits_mode job t.desk.mode ≡ true → (IsSuspending (over devices t actors) → ⊥) → slice_get actors a ≡ Some x → x.task ≡ None → DoesNotApply (over devices t actors) (Start a job) → ⊥
in_place devices t actors a job x w fits alone at e (inl none) = absurd (let some = at in cc)
in_place devices t actors a job x w fits alone at e (inr (inl h)) = subst (λ (o : Option (Job × Plan)). OfSome o (λ d. Unit {0})) e (subst (λ (o : Option Actor). OfSome o (λ (y : Actor). OfSome y.task (λ d. Unit {0}))) at h)
in_place devices t actors a job x w fits alone at e (inr (inr (inl s))) = alone s
in_place devices t actors a (Invalidate block) x w fits alone at e (inr (inr (inr f))) = f (passes_by t.desk.mode fits)
in_place devices t actors a (Open mode second) x w fits alone at e (inr (inr (inr f))) = absurd (cc)
in_place devices t actors a job x w fits alone at e (inr (inr (inr f))) = f tt

-- a job that starts whatever the others are at is one of a target, and starts so
of_target : (job : Job) → starts_beside job ≡ true → wants_target job ≡ true
of_target (Open mode second) b = absurd (cc)
of_target job b = refl

starts_as : (shape : Shape) (w : Now) (a : ℕ) (job : Job) (what : What) (chosen : Chosen Quiet Global) → starts_beside job ≡ true → StartGives shape w.phase (slice_get w.actors a) job what chosen → StartsAs shape w a job what chosen
starts_as shape w a Suspend what chosen b g = absurd (cc)
starts_as shape w a (Open mode second) what chosen b g = absurd (cc)
starts_as shape w a job what chosen b g = g

-- the desk that an order leaves (a clause that names one case has the last one look at each of the others)
phase_so : (words : Words) (desk : DeskState Quiet) (job : Job) (chosen : Chosen Quiet Global) → Stands (record { words = words; desk = desk_given desk job chosen }) ≡ phase_given {P = Quiet} {A = Global} (Stands (record { words = words; desk = desk })) job chosen
phase_so words desk (Migrate migration block) Plain = refl
phase_so words desk (Replace old new) Plain = refl
phase_so words desk job chosen = refl

-- a job that is no opening clears nothing
pub given_so : (shape : Shape) (devices : Devices (List History)) (t : Target) (actors : List Actor) (a : ℕ) (x : Actor) (job : Job) (chosen : Chosen Quiet Global) → wants_target job ≡ true → slice_get actors a ≡ Some x →
    over devices (record t { desk = desk_given t.desk job chosen }) (slice_set actors a (given {P = Quiet} {A = Global} shape t.desk.mode x job chosen)) ≡ after_what shape (over devices t actors) (Start a job) Started chosen
given_so shape devices t actors a x (Open mode second) chosen w at = absurd (cc)
given_so shape devices t actors a x job chosen w at = rw at (ap (λ (p : Phase Quiet Global). record { devices = devices; commit = t.commit; phase = p; actors = slice_set actors a (given {P = Quiet} {A = Global} shape t.desk.mode x job chosen) })
    (phase_so t.crew.words t.desk job chosen))

-- ---- an actor that is there

module _ (shape : Shape) (devices : Devices (List History)) (t : Target) (members : List Member) (a : ℕ) (m new : Member) (here : slice_get members a ≡ Some m) (many : length members ≤ length t.crew.cards) where
  abbrev actors : List Actor
  actors = with_cards members t.crew.cards

  abbrev before : Now
  before = over devices t actors

  abbrev x : Actor
  x = seat_at m t.crew.cards a

  at : slice_get actors a ≡ Some x
  at = somebody members t.crew.cards a m here many

  -- nothing changed
  stays : new ≡ m → over devices t (with_cards (slice_set members a new) t.crew.cards) ≡ before
  stays e = ap (λ xs. over devices t xs) (set_task members t.crew.cards a new ∙ ap (λ (v : Member). slice_set actors a (seat_at v t.crew.cards a)) e ∙ set_same actors a x at)

  works : (doing : Job × Plan) → m.task ≡ Some doing → (P : Actor → Job × Plan → Type 0) → P x doing → OfSome (slice_get actors a) (λ (y : Actor). OfSome y.task (P y))
  works doing e P p = has_task actors a x doing P at e p

  works_at : (doing : Job × Plan) → m.task ≡ Some doing → (P : Actor → Job → Plan → Type 0) → P x doing.0 doing.1 → OfSome (slice_get actors a) (λ (y : Actor). OfSome y.task (λ d. P y d.0 d.1))
  works_at doing e P p = has_task actors a x doing (λ y d. P y d.0 d.1) at e p

  idles : m.task ≡ None → (P : Job × Plan → Type 0) → OfSome (slice_get actors a) (λ (y : Actor). OfSome y.task P) → ⊥
  idles e P h = subst (λ (o : Option (Job × Plan)). OfSome o P) e (subst (λ (o : Option Actor). OfSome o (λ (y : Actor). OfSome y.task P)) at h)

  -- ---- a start

  -- a start that is not skipped
  job_starts : (job : Job) (what : What) (desk' : DeskState Quiet) → starts_beside job ≡ true → suits_mode job t.desk.mode ≡ true → (IsSuspending before → ⊥) → m.task ≡ None → GetsJob shape t.desk m job what desk' new →
      Happens shape before (Start a job) what [] (over devices (record t { desk = desk' }) (with_cards (slice_set members a new) t.crew.cards))
  job_starts job what desk' b fits alone e g = by_what what g.gives g.leaves
    where
      applies : DoesNotApply before (Start a job) → ⊥
      applies = in_place devices t actors a job x (of_target job b) fits alone at e

      starts : (what : What) → ((words : Words) (card : Card) → StartGives shape (Stands (record { words = words; desk = t.desk })) (Some (seat m card)) job what g.chosen) → StartsAs shape before a job what g.chosen
      starts what gives = starts_as shape before a job what g.chosen b (subst (λ (o : Option Actor). StartGives shape before.phase o job what g.chosen) (sym at) (gives t.crew.words x.card))

      by_what : (what : What) → ((words : Words) (card : Card) → StartGives shape (Stands (record { words = words; desk = t.desk })) (Some (seat m card)) job what g.chosen) → LeavesStarted shape t.desk m job what g.chosen desk' new →
          Happens shape before (Start a job) what [] (over devices (record t { desk = desk' }) (with_cards (slice_set members a new) t.crew.cards))
      by_what Started gives leaves = record {
        chosen = g.chosen;
        may = (refl, applies, starts Started gives);
        leads = ap (λ (d : DeskState Quiet). over devices (record t { desk = d }) (with_cards (slice_set members a new) t.crew.cards)) leaves.0
            ∙ ap (λ xs. over devices (record t { desk = desk_given t.desk job g.chosen }) xs) (set_task members t.crew.cards a new ∙ ap (λ (v : Member). slice_set actors a (seat_at v t.crew.cards a)) leaves.1)
            ∙ given_so shape devices t actors a x job g.chosen (of_target job b) at;
      }
      by_what (Refused refusal) gives leaves = record {
        chosen = g.chosen;
        may = (refl, applies, starts (Refused refusal) gives);
        leads = ap (λ (d : DeskState Quiet). over devices (record t { desk = d }) (with_cards (slice_set members a new) t.crew.cards)) leaves.0 ∙ stays leaves.1;
      }
      by_what what gives leaves = absurd leaves

  -- one that is
  passed_so : (job : Job) (what : What) (desk' : DeskState Quiet) → DoesNotApply before (Start a job) → IsPassed t.desk m what desk' new → Happens shape before (Start a job) what [] (over devices (record t { desk = desk' }) (with_cards (slice_set members a new) t.crew.cards))
  passed_so job what desk' d p = rw (ap (λ (k : DeskState Quiet). over devices (record t { desk = k }) (with_cards (slice_set members a new) t.crew.cards)) p.desk_is ∙ stays p.member_is) (passes shape before (Start a job) what d p.what_is)

  pub start_happens : (job : Job) (what : What) (desk' : DeskState Quiet) → starts_beside job ≡ true → suits_mode job t.desk.mode ≡ true → (IsSuspending before → ⊥) → Starts shape t.desk m job what desk' new →
      Happens shape before (Start a job) what [] (over devices (record t { desk = desk' }) (with_cards (slice_set members a new) t.crew.cards))
  start_happens job what desk' b fits alone s = by_task m.task refl s
    where
      by_task : (o : Option (Job × Plan)) → m.task ≡ o → StartsIf (is_none o) shape t.desk m job what desk' new →
          Happens shape before (Start a job) what [] (over devices (record t { desk = desk' }) (with_cards (slice_set members a new) t.crew.cards))
      by_task None e s = job_starts job what desk' b fits alone e s
      by_task (Some doing) e s = passed_so job what desk' (inr (inl (works doing e (λ y d. Unit {0}) tt))) s

  -- ---- a step

  words_on : (next : Want) → (crew_then t.crew a next).words ≡ words_then t.crew.words next
  words_on (Cell step) = refl
  words_on next = refl

  -- what becomes of the commit does not hang on the phase, where that stays
  commit_on : (next : Want) (got : Got) (chosen : Chosen Quiet Global) → commit_by t.commit next got chosen ≡ commit_then before.phase t.commit next got chosen
  commit_on (Device (Sync Metadata)) got chosen = refl
  commit_on (Desk EndCommit) got chosen = refl
  commit_on next got chosen = refl

  -- who has gone on by a step
  abbrev seat_after : Want → Got → Actor
  seat_after next got = actor_then shape before.phase devices x next got

  cards_on : (next : Want) (got : Got) → new ≡ member_then devices (share_after t.desk m.share next got) m next got →
      with_cards (slice_set members a new) (crew_then t.crew a next).cards ≡ slice_set actors a (seat_after next got)
  cards_on (Cell step) got e = set_both members t.crew.cards a new (card_after t.crew.words step x.card) ∙ ap (λ (v : Member). slice_set actors a (seat v (card_after t.crew.words step x.card))) e
  cards_on next got e = set_task members t.crew.cards a new ∙ ap (λ (v : Member). slice_set actors a (seat v x.card)) e

  -- where it leads, whatever it made of its device
  went_on : (doing : Job × Plan) (next : Want) (got : Got) (chosen : Chosen Quiet Global) (change : Job → List Bytes → DeviceStep → List History → List History) (devices' : Devices (List History)) (t' : Target) → m.task ≡ Some doing →
      Leads (change doing.0 m.buffer) devices t a next got chosen devices' t' → new ≡ member_then devices (share_after t.desk m.share next got) m next got → over devices' t' (with_cards (slice_set members a new) t'.crew.cards) ≡ went shape before a next got chosen change
  went_on doing next got chosen change devices' t' e l is =
      let job : doing.0 ≡ job_of m.task = ap job_of (sym e) in
      rw (at, l.devices_are ∙ ap (λ (j : Job). devices_then (change j m.buffer) devices next) job, l.crew_is, l.desk_is, l.commit_is) (λ i. record {
        devices = devices_then (change (job_of m.task) m.buffer) devices next;
        commit = commit_on next got chosen i;
        phase = Stands (record { words = words_on next i; desk = desk_then t.desk next chosen });
        actors = cards_on next got is i;
      })

  pub step_happens : (what : What) (read : List Bytes) (devices' : Devices (List History)) (t' : Target) → Steps devices t a m what read devices' t' new →
      Happens shape before (Step a) what read (over devices' t' (with_cards (slice_set members a new) t'.crew.cards))
  step_happens what read devices' t' s = by_task m.task refl s
    where
      rests : Rests devices t m what read devices' t' new → DoesNotApply before (Step a) → Happens shape before (Step a) what read (over devices' t' (with_cards (slice_set members a new) t'.crew.cards))
      rests s d = rw (s.devices_are, s.target_is, s.read_is, stays s.member_is) (passes shape before (Step a) what d s.what_is)

      by_task : (o : Option (Job × Plan)) → m.task ≡ o → MemberSteps devices t a m o what read devices' t' new → Happens shape before (Step a) what read (over devices' t' (with_cards (slice_set members a new) t'.crew.cards))
      by_task None e s = rests s (inl (λ h. idles e (λ d. Unit {0}) h))
      by_task (Some doing) e (inl s) = rests s.1 (inr (works_at doing e (λ y job plan. Awaits t.desk y.share (want plan)) s.0))
      by_task (Some doing) e (inr s) = rw (s.what_is, s.read_is) (record {
        chosen = s.performs.chosen;
        may = works_at doing e (λ y job plan. (want doing.1 ≡ want plan) × Gives shape before y job (want doing.1) s.got (noted_read doing.0 (want doing.1) s.given) s.performs.chosen) (refl, s.performs.gives shape actors x (refl, refl, refl));
        leads = went_on doing (want doing.1) s.got s.performs.chosen (λ job buffer. done_by job buffer s.performs.chosen) devices' t' e s.performs.leads s.member_is;
      })

  -- ---- a step that fails

  pub fault_happens : (choice : Choice) (what : What) (devices' : Devices (List History)) (commit' : Option RunningCommit) → t.failed ≡ flag t.crew.words.fail → FailsOrRests choice devices t.commit m what devices' commit' new →
      Happens shape before (FaultStep a choice) what [] (over devices' (record t { commit = commit' }) (with_cards (slice_set members a new) t.crew.cards))
  fault_happens choice what devices' commit' failed f = by_task m.task refl f
    where
      then_so : Now
      then_so = over devices' (record t { commit = commit' }) (with_cards (slice_set members a new) t.crew.cards)

      nothing : NothingFails choice devices t.commit m what devices' commit' new → DoesNotApply before (FaultStep a choice) → Happens shape before (FaultStep a choice) what [] then_so
      nothing f d = rw (f.devices_are, f.commit_is, stays f.member_is) (passes shape before (FaultStep a choice) what d f.what_is)

      by_task : (o : Option (Job × Plan)) → m.task ≡ o → MemberFails choice devices t.commit m o what devices' commit' new → Happens shape before (FaultStep a choice) what [] then_so
      by_task None e f = nothing f (λ h. idles e _ h)
      by_task (Some doing) e (inl f) = rw f.what_is (record {
        chosen = chosen_at f.step devices';
        may = (refl, refl, works_at doing e (λ y job plan. (Device f.step ≡ want plan) × MayFailAt devices choice (Device f.step) × Falters before choice (Device f.step) (chosen_at f.step devices')) (sym f.step_is, f.may, f.fails.falters (target_told t) actors));
        leads = went_on doing (Device f.step) Fault (chosen_at f.step devices') (λ job buffer. failed_by choice job buffer (chosen_at f.step devices')) devices' (record t { commit = commit' }) e
            (record { devices_are = f.fails.devices_are; crew_is = refl; desk_is = refl; commit_is = f.fails.commit_is; failed_is = failed }) (f.member_is ∙ ap (λ next. member_then devices m.share m next Fault) f.step_is);
      })
      by_task (Some doing) e (inr f) = nothing f.0 (λ h. f.1 (the_task actors a x doing (λ y job plan. MayFailAt devices choice (want plan)) at e h))

-- ---- what stays

crew_like : (crew : CrewState) (a : ℕ) (next : Want) → ((crew_then crew a next).blocks ≡ crew.blocks) × (length (crew_then crew a next).cards ≡ length crew.cards)
crew_like crew a (Cell step) = (refl, length-set crew.cards a (card_after crew.words step (slice_index_or crew.cards a blank_card)))
crew_like crew a next = (refl, refl)

begun_sizes : (desk : DeskState Quiet) (chosen : Chosen Quiet Global) → (begun_desk chosen desk).geometry ≡ desk.geometry
begun_sizes desk (Commits commit tree) = refl
begun_sizes desk chosen = refl

ended_sizes : (desk : DeskState Quiet) (b : Bool) → (if b then commit_ended desk else desk).geometry ≡ desk.geometry
ended_sizes desk true = refl
ended_sizes desk false = refl

-- a desk that was asked to map a block, or to give up an order, keeps its geometry
map_sizes : (desk : DeskState Quiet) (b : OBlock) (c : CBlock) (got : Got) (chosen : Chosen Quiet Global) → DoesMap b c desk got chosen → (asked_desk chosen desk).geometry ≡ desk.geometry
map_sizes desk b c Done (Asks new) g = ap (λ (k : DeskState Quiet). k.geometry) g.2
map_sizes desk b c (GotRefused refusal) Plain g = refl
map_sizes desk b c got chosen g = absurd g

given_up_sizes : (desk new : DeskState Quiet) (order : Option Order) → IsGivenUp order desk new → new.geometry ≡ desk.geometry
given_up_sizes desk new None up = ap (λ (k : DeskState Quiet). k.geometry) up
given_up_sizes desk new (Some order) up = elim (is_live desk order) [
  | inl live ↦ ap (λ (k : DeskState Quiet). k.geometry) (up.0 live)
  | inr none ↦ ap (λ (k : DeskState Quiet). k.geometry) (up.1 none)
]

release_sizes : (desk : DeskState Quiet) (orders : List Order) (b : OBlock) (chosen : Chosen Quiet Global) → DoesRelease orders b desk chosen → (asked_desk chosen desk).geometry ≡ desk.geometry
release_sizes desk orders b (Asks new) up = given_up_sizes desk new (order_of b orders) up
release_sizes desk orders b chosen up = absurd up

unmap_sizes : (desk : DeskState Quiet) (b : OBlock) (chosen : Chosen Quiet Global) → DoesUnmap b desk chosen → (asked_desk chosen desk).geometry ≡ desk.geometry
unmap_sizes desk b (Asks new) did = elim (is_unmappable desk b) [
  | inl may ↦ ap (λ (k : DeskState Quiet). k.geometry) (did.0 may).1
  | inr none ↦ ap (λ (k : DeskState Quiet). k.geometry) (did.1 none)
]
unmap_sizes desk b chosen did = absurd did

-- a desk keeps its geometry
module _ (shape : Shape) (devices : Devices (List History)) (commit : Option RunningCommit) (t : RunTarget Quiet) (actors : List Actor) (actor : Actor) (got : Got) (read : List Bytes) (chosen : Chosen Quiet Global) where
  desk_sizes : (job : Job) (next : Want) → Gives shape (stood devices commit t actors) actor job next got read chosen → (desk_then t.desk next chosen).geometry ≡ t.desk.geometry
  desk_sizes (Migrate migration block) (Desk (Map b c)) g = map_sizes t.desk b c got chosen g.1
  desk_sizes (Migrate migration block) (Desk (Unmap b)) g = unmap_sizes t.desk b chosen g.2
  desk_sizes (Write extent content) (Desk (Unmap b)) g = unmap_sizes t.desk b chosen g.2
  desk_sizes (Invalidate block) (Desk (Unmap b)) g = unmap_sizes t.desk b chosen g.2
  desk_sizes (Migrate migration block) (Desk (ReleaseOrder b)) g = release_sizes t.desk actor.orders b chosen g.2
  desk_sizes Flush (Desk (ReleaseOrder b)) g = release_sizes t.desk actor.awaiting b chosen g.2
  desk_sizes job (Desk (Arrive most)) g = begun_sizes t.desk chosen
  desk_sizes job (Desk (Ask most)) g = begun_sizes t.desk chosen
  desk_sizes job (Desk (BeginCommit most)) g = begun_sizes t.desk chosen
  desk_sizes job (Desk BreakCommit) g = refl
  desk_sizes job (Desk EndCommit) g = ended_sizes t.desk t.desk.space.committing
  desk_sizes job (Desk step) g = absurd g
  desk_sizes job next g = refl

-- what a step leaves of a target
pub record Keeps (t t' : Target) : Type 0 where
  pub blocks : t'.crew.blocks ≡ t.crew.blocks
  pub cards : length t'.crew.cards ≡ length t.crew.cards
  pub failed : t'.failed ≡ flag t'.crew.words.fail
  pub sizes : t'.desk.geometry ≡ t.desk.geometry

pub step_keeps : (devices : Devices (List History)) (t : Target) (a : ℕ) (m : Member) (what : What) (read : List Bytes) (devices' : Devices (List History)) (t' : Target) (m' : Member) → t.failed ≡ flag t.crew.words.fail → Steps devices t a m what read devices' t' m' → Keeps t t'
step_keeps devices t a m what read devices' t' m' f s = by_task m.task s
  where
    some_shape : Shape
    some_shape = record { geometry = t.desk.geometry; threshold = 0; actors = 0 }

    rests : Rests devices t m what read devices' t' m' → Keeps t t'
    rests s = rw s.target_is (record { blocks = refl; cards = refl; failed = f; sizes = refl })

    by_task : (o : Option (Job × Plan)) → MemberSteps devices t a m o what read devices' t' m' → Keeps t t'
    by_task None s = rests s
    by_task (Some doing) (inl s) = rests s.1
    by_task (Some doing) (inr s) =
        let leads = s.performs.leads in
        let like = crew_like t.crew a (want doing.1) in
        record {
          blocks = ap (λ (c : CrewState). c.blocks) leads.crew_is ∙ like.0;
          cards = ap (λ (c : CrewState). length c.cards) leads.crew_is ∙ like.1;
          failed = leads.failed_is;
          sizes = ap (λ (d : DeskState Quiet). d.geometry) leads.desk_is
              ∙ desk_sizes some_shape devices t.commit (target_told t) [] (seat m blank_card) s.got (noted_read doing.0 (want doing.1) s.given) s.performs.chosen doing.0 (want doing.1) (s.performs.gives some_shape [] (seat m blank_card) (refl, refl, refl));
        }

-- a start keeps the desk's geometry
pub start_sizes : (shape : Shape) (desk : DeskState Quiet) (m : Member) (job : Job) (what : What) (desk' : DeskState Quiet) (m' : Member) → Starts shape desk m job what desk' m' → desk'.geometry ≡ desk.geometry
start_sizes shape desk m job what desk' m' s = by_test (is_none m.task) s
  where
    given_sizes : (job : Job) (chosen : Chosen Quiet Global) → (desk_given desk job chosen).geometry ≡ desk.geometry
    given_sizes (Migrate migration block) (Orders cut cache) = refl
    given_sizes (Replace old new) (Orders cut cache) = refl
    given_sizes job chosen = refl

    by_what : (what : What) (chosen : Chosen Quiet Global) → LeavesStarted shape desk m job what chosen desk' m' → desk'.geometry ≡ desk.geometry
    by_what Started chosen l = ap (λ (k : DeskState Quiet). k.geometry) l.0 ∙ given_sizes job chosen
    by_what (Refused refusal) chosen l = ap (λ (k : DeskState Quiet). k.geometry) l.0
    by_what what chosen l = absurd l

    by_test : (b : Bool) → StartsIf b shape desk m job what desk' m' → desk'.geometry ≡ desk.geometry
    by_test true p = by_what what p.chosen p.leaves
    by_test false p = ap (λ (k : DeskState Quiet). k.geometry) p.desk_is

-- ---- who commits allows as many nodes as an image may have, and who suspends has a bit for each cache block

-- as many bits are there whatever was seen
as_many_at : (place : Option CBlock) (dirty : Bool) (seen : List Bool) → length (seen_at place dirty seen) ≡ length seen
as_many_at None dirty seen = refl
as_many_at (Some c) dirty seen = length-set seen c.0 dirty

as_many_seen : (next : Want) (got : Got) (seen : List Bool) → length (seen_after next got seen) ≡ length seen
as_many_seen (Cell (Look (SealWord block))) (Word seal) seen = as_many_at (place_in seal) (dirty_in seal) seen
as_many_seen next got seen = refl

bits_then : (next : Want) (got : Got) (seen : List Bool) (job : Job) → length (seen_then seen next got job) ≡ length seen
bits_then next got seen Suspend = as_many_seen next got seen
bits_then next got seen job = refl

allowed_by : (g : Geometry) (seen seen' : List Bool) (job : TaskJob) → length seen' ≡ length seen → AllowsImages g seen job → AllowsImages g seen' job
allowed_by g seen seen' (Flushing serves most) e r = r
allowed_by g seen seen' (Suspending looks most) e r = (r.0, e ∙ r.1)
allowed_by g seen seen' job e r = tt

allowed_then : (g : Geometry) (seen seen' : List Bool) (doing : Job × Plan) (got : Got) → length seen' ≡ length seen → AllowsImages g seen doing.1.job → AllowsImages g seen' (after doing.1 got).job
allowed_then g seen seen' doing got e r = subst (λ (job : TaskJob). AllowsImages g seen' job) (sym (job_stays doing.1 got)) (allowed_by g seen seen' doing.1.job e r)

room_then : (g : Geometry) (seen seen' : List Bool) (doing : Job × Plan) (next : Want) (got : Got) → length seen' ≡ length seen → IsTaskRoomy g seen (Some doing) → IsTaskRoomy g seen' (task_then (Some doing) next got)
room_then g seen seen' doing (End answer) got e r = tt
room_then g seen seen' doing next got e r = allowed_then g seen seen' doing got e r

-- so it is after a step of who is at a task
roomy_then : (g : Geometry) (devices : Devices (List History)) (share : Share) (m : Member) (doing : Job × Plan) (next : Want) (got : Got) → m.task ≡ Some doing → IsRoomy g m → IsRoomy g (member_then devices share m next got)
roomy_then g devices share m doing next got e r =
    let was = subst (λ (k : Option (Job × Plan)). IsTaskRoomy g m.seen k) e r in
    subst (λ (k : Option (Job × Plan)). IsTaskRoomy g (seen_then m.seen next got (job_of k)) (task_then k next got)) (sym e)
    (room_then g m.seen (seen_then m.seen next got doing.0) doing next got (bits_then next got m.seen doing.0) was)

pub step_roomy : (g : Geometry) (devices : Devices (List History)) (t : Target) (a : ℕ) (m : Member) (what : What) (read : List Bytes) (devices' : Devices (List History)) (t' : Target) (m' : Member) → IsRoomy g m → Steps devices t a m what read devices' t' m' → IsRoomy g m'
step_roomy g devices t a m what read devices' t' m' r s = by_task m.task refl s
  where
    by_task : (o : Option (Job × Plan)) → m.task ≡ o → MemberSteps devices t a m o what read devices' t' m' → IsRoomy g m'
    by_task None e s = subst (λ (v : Member). IsRoomy g v) (sym s.member_is) r
    by_task (Some doing) e (inl s) = subst (λ (v : Member). IsRoomy g v) (sym s.1.member_is) r
    by_task (Some doing) e (inr s) = subst (λ (v : Member). IsRoomy g v) (sym s.member_is) (roomy_then g devices (share_after t.desk m.share (want doing.1) s.got) m doing (want doing.1) s.got e r)

pub fault_roomy : (g : Geometry) (choice : Choice) (devices : Devices (List History)) (commit : Option RunningCommit) (m : Member) (what : What) (devices' : Devices (List History)) (commit' : Option RunningCommit) (m' : Member) → IsRoomy g m → FailsOrRests choice devices commit m what devices' commit' m' → IsRoomy g m'
fault_roomy g choice devices commit m what devices' commit' m' r f = by_task m.task refl f
  where
    by_task : (o : Option (Job × Plan)) → m.task ≡ o → MemberFails choice devices commit m o what devices' commit' m' → IsRoomy g m'
    by_task None e f = subst (λ (v : Member). IsRoomy g v) (sym f.member_is) r
    by_task (Some doing) e (inl f) = subst (λ (v : Member). IsRoomy g v) (sym f.member_is) (roomy_then g devices m.share m doing (want doing.1) Fault e r)
    by_task (Some doing) e (inr f) = subst (λ (v : Member). IsRoomy g v) (sym f.0.member_is) r

no_more : (n : ℕ) → n ≤ n
no_more n = omega arith

pub given_roomy : (shape : Shape) (mode : Mode) (m : Member) (job : Job) (chosen : Chosen Quiet Global) → IsRoomy shape.geometry (member_given shape mode m job chosen)
given_roomy shape mode m Flush chosen = no_more (most_for shape.geometry false)
given_roomy shape mode m Suspend chosen = (no_more (most_for shape.geometry true), length_replicate shape.geometry.cache_blocks false)
given_roomy shape mode m job chosen = tt

pub start_roomy : (shape : Shape) (desk : DeskState Quiet) (m : Member) (job : Job) (what : What) (desk' : DeskState Quiet) (m' : Member) → IsRoomy shape.geometry m → Starts shape desk m job what desk' m' → IsRoomy shape.geometry m'
start_roomy shape desk m job what desk' m' r s = by_test (is_none m.task) s
  where
    by_what : (what : What) (chosen : Chosen Quiet Global) → LeavesStarted shape desk m job what chosen desk' m' → IsRoomy shape.geometry m'
    by_what Started chosen l = subst (λ (v : Member). IsRoomy shape.geometry v) (sym l.1) (given_roomy shape desk.mode m job chosen)
    by_what (Refused refusal) chosen l = subst (λ (v : Member). IsRoomy shape.geometry v) (sym l.1) r
    by_what what chosen l = absurd l

    by_test : (b : Bool) → StartsIf b shape desk m job what desk' m' → IsRoomy shape.geometry m'
    by_test true p = by_what what p.chosen p.leaves
    by_test false p = subst (λ (v : Member). IsRoomy shape.geometry v) (sym p.member_is) r

pub roomy_set : (g : Geometry) (members : List Member) (a : ℕ) (m : Member) → AllRoomy g members → IsRoomy g m → AllRoomy g (slice_set members a m)
roomy_set g [] a m all r b x e = absurd (cc)
roomy_set g (y ∷ ys) zero m all r zero x e = let same : m ≡ x = cc in subst (λ (v : Member). IsRoomy g v) same r
roomy_set g (y ∷ ys) zero m all r (suc b) x e = all (suc b) x e
roomy_set g (y ∷ ys) (suc a) m all r zero x e = all zero x e
roomy_set g (y ∷ ys) (suc a) m all r (suc b) x e = roomy_set g ys a m (λ c z h. all (suc c) z h) r b x e

-- So all stays sound over a target that keeps this, once one of its members is another, which is roomy.
pub sound_then : (g : Geometry) (n : ℕ) (devices devices' : Devices Memory) (t t' : Target) (members members' : Vec Member Global) (a : ℕ) (m : Member) → Keeps t t' → members'.items ≡ slice_set members.items a m → length devices'.metadata.contents ≡ length devices.metadata.contents → IsRoomy g m →
    IsSoundPhase g n devices (Standing t members) → IsSoundPhase g n devices' (Standing t' members')
sound_then g n devices devices' t t' members members' a m keeps set size roomy sound = record {
  there = (keeps.cards ∙ sound.there.0, ap length set ∙ length-set members.items a m ∙ sound.there.1);
  whole = size ∙ sound.whole;
  stands = record {
    blocks = keeps.blocks ∙ sound.stands.blocks;
    failed = keeps.failed;
    sizes = subst (λ (f : Geometry). AreSameSizes f g) (sym keeps.sizes) sound.stands.sizes;
    roomy = subst (λ (ms : List Member). AllRoomy g ms) (sym set) (roomy_set g members.items a m sound.stands.roomy roomy);
  };
}

-- for the target's own geometry too, which has the same sizes
pub own_room : (g own : Geometry) (m : Member) → AreSameSizes own g → IsRoomy g m → IsRoomy own m
own_room g own m same roomy = of_task m.task roomy
  where
    of_job : (job : TaskJob) → AllowsImages g m.seen job → AllowsImages own m.seen job
    of_job (Flushing serves most) a = subst (λ (n : ℕ). most_nodes Two false n ≤ most) (sym same.cache_blocks) a
    of_job (Suspending looks most) a = (subst (λ (n : ℕ). most_nodes Two true n ≤ most) (sym same.cache_blocks) a.0, a.1 ∙ sym same.cache_blocks)
    of_job job a = tt

    of_task : (task : Option (Job × Plan)) → IsTaskRoomy g m.seen task → IsTaskRoomy own m.seen task
    of_task None a = tt
    of_task (Some doing) a = of_job doing.1.job a

pub roomy_free : (g : Geometry) (n : ℕ) → AllRoomy g (replicate n free)
roomy_free g zero b x e = absurd (cc)
roomy_free g (suc n) zero x e = let same : free ≡ x = cc in subst (λ (v : Member). IsRoomy g v) same tt
roomy_free g (suc n) (suc b) x e = roomy_free g n b x e
