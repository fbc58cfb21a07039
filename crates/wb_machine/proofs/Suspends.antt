-- What the start of a suspend does over a target that stands is what wb_promise says.
use Rattle.std.proofs.Common.{◌≡◌, ◌≤◌, ◌<◌, inl, inr, ℕ, true, false, List, [], Some, None, refl, sym, ap, subst, ◌∙◌, slice_get, length, length-set, Result, Ok, Err, IfOk, OnErr}
use Rattle.std.proofs.lemmas.Bool.{cases_Bool}
use Rattle.wb_types.specs.declared.refusal.Refusal.TheVariants.{Busy}
use Rattle.wb_disk.specs.Device.{History}
use Rattle.wb_desk.specs.Desks.{DeskState}
use Rattle.wb_devices.specs.declared.devices.Devices.{Devices}
use Rattle.wb_policy.specs.declared.quiet.Quiet.{Quiet}
use Rattle.wb_promise.specs.declared.job.Job.{Job}
use Rattle.wb_promise.specs.declared.job.Job.TheVariants.{Suspend}
use Rattle.wb_promise.specs.declared.event.Event.TheVariants.{Start}
use Rattle.wb_promise.specs.declared.event.What.{What}
use Rattle.wb_promise.specs.declared.event.What.TheVariants.{Skipped, Refused, Started}
use Rattle.wb_promise.specs.States.{Shape, Actor}
use Rattle.wb_promise.specs.Happenings.{Plain, Looks, OfSome, DoesNotApply, IsSuspending}
use Rattle.wb_machine.specs.declared.target.Target.{Target}
use Rattle.wb_machine.specs.Life.{Now, Happens, starts_beside, wants_target}
use Rattle.wb_machine.specs.Members.{Member, is_at_work, with_cards, works, works_there}
use Rattle.wb_machine.specs.Serving.{StartsSuspend, member_given, over}
use Rattle.wb_machine.specs.Standing.{AllRoomy}
use Rattle.wb_machine.proofs.Members.{busy_there, none_at, seat_at, set_task, some_at, somebody, works_so, works_told}
use Rattle.wb_machine.proofs.Openings.{passes}
use Rattle.wb_machine.proofs.Orders.{none_of}
use Rattle.wb_machine.proofs.Served.{given_roomy, given_so, in_place, roomy_set}
use Rattle.wb_contents.proofs.Lists.{there_is}

-- what follows where it was done, and where it was not
pub either : {T E : Type 0} (r : Result T E) (Did : T → Type 0) (Kept P : Type 0) → ((x : T) → Did x → P) → (Kept → P) → IfOk r Did → OnErr r Kept → P
either (Ok x) Did Kept P f g did kept = f x did
either (Err e) Did Kept P f g did kept = g kept

-- it leaves each of the members roomy
pub suspend_roomy : (shape : Shape) (desk : DeskState Quiet) (members : List Member) (a : ℕ) (what : What) (members' : List Member) → AllRoomy shape.geometry members → StartsSuspend shape desk members a what members' → AllRoomy shape.geometry members'
suspend_roomy shape desk members a Skipped members' all s = subst (λ (ms : List Member). AllRoomy shape.geometry ms) (sym s.1) all
suspend_roomy shape desk members a (Refused Busy) members' all s = subst (λ (ms : List Member). AllRoomy shape.geometry ms) (sym s.2) all
suspend_roomy shape desk members a Started members' all s =
    subst (λ (ms : List Member). AllRoomy shape.geometry ms) (sym s.1.2.2) (roomy_set shape.geometry members a _ all (given_roomy shape desk.mode s.1.2.0 Suspend (Looks s.1.0)))
suspend_roomy shape desk members a what members' all s = absurd s

pub suspend_length : (shape : Shape) (desk : DeskState Quiet) (members : List Member) (a : ℕ) (what : What) (members' : List Member) → StartsSuspend shape desk members a what members' → length members' ≡ length members
suspend_length shape desk members a Skipped members' s = ap length s.1
suspend_length shape desk members a (Refused Busy) members' s = ap length s.2
suspend_length shape desk members a Started members' s = ap length s.1.2.2 ∙ length-set members a (member_given shape desk.mode s.1.2.0 Suspend (Looks s.1.0))
suspend_length shape desk members a what members' s = absurd s

module _ (shape : Shape) (devices : Devices (List History)) (t : Target) (members : List Member) (many : length members ≤ length t.crew.cards) (a : ℕ) (job : Job) (w : wants_target job ≡ true) (alone : starts_beside job ≡ false) where
  abbrev standing : List Member → Now
  standing ms = over devices t (with_cards ms t.crew.cards)

  of_suspend : (job : Job) → wants_target job ≡ true → starts_beside job ≡ false → job ≡ Suspend
  of_suspend Suspend w b = refl
  of_suspend job w b = absurd (cc)

  -- who is there and at nothing
  idle_seat : (m : Member) → works_there members a ≡ false → slice_get members a ≡ Some m → (seat_at m t.crew.cards a).task ≡ None
  idle_seat m idle here = none_of m.task (sym (ap works here) ∙ idle)

  pub suspend_happens : a < length members → (IsSuspending (standing members) → ⊥) → (what : What) (members' : List Member) → StartsSuspend shape t.desk members a what members' → Happens shape (standing members) (Start a job) what [] (standing members')
  suspend_happens inside calm what members' s = subst (λ (k : Job). Happens shape (standing members) (Start a k) what [] (standing members')) (sym (of_suspend job w alone)) (by_what what s)
    where
      -- what is free for its start
      applies : works_there members a ≡ false → DoesNotApply (standing members) (Start a Suspend) → ⊥
      applies idle = let m = there_is members a inside in in_place devices t (with_cards members t.crew.cards) a Suspend (seat_at m.0 t.crew.cards a) refl refl calm (somebody members t.crew.cards a m.0 m.1 many) (idle_seat m.0 idle m.1)

      by_what : (what : What) → StartsSuspend shape t.desk members a what members' → Happens shape (standing members) (Start a Suspend) what [] (standing members')
      by_what Skipped s = subst (λ (ms : List Member). Happens shape (standing members) (Start a Suspend) Skipped [] (standing ms)) (sym s.1) (passes shape (standing members) (Start a Suspend) Skipped (inr (inl (busy_there members t.crew.cards a many s.0))) refl)
      by_what (Refused Busy) s = subst (λ (ms : List Member). Happens shape (standing members) (Start a Suspend) (Refused Busy) [] (standing ms)) (sym s.2) (record {
        chosen = Plain;
        may = (refl, applies s.0, λ idle. let one = some_at is_at_work (λ doing. Unit {0}) works_so members t.crew.cards many s.1 in idle one.0 one.1);
        leads = refl;
      })
      by_what Started s =
          let m = s.1.2.0 in
          let here = s.1.2.1 in
          let given_to = member_given shape t.desk.mode m Suspend (Looks s.1.0) in
          let idle : (b : ℕ) → OfSome (slice_get (with_cards members t.crew.cards) b) (λ (x : Actor). OfSome x.task (λ doing. Unit {0})) → ⊥ = λ b h. none_at is_at_work (λ doing. Unit {0}) works_told members t.crew.cards b s.0 h in
          let at = somebody members t.crew.cards a m here many in
          record {
            chosen = Looks s.1.0;
            may = (refl, applies (idle_there_so m here idle), (idle, s.1.1));
            leads = ap standing s.1.2.2 ∙ ap (λ xs. over devices t xs) (set_task members t.crew.cards a given_to) ∙ given_so shape devices t (with_cards members t.crew.cards) a (seat_at m t.crew.cards a) Suspend (Looks s.1.0) refl at;
          }
        where
          idle_there_so : (m : Member) → slice_get members a ≡ Some m → ((b : ℕ) → OfSome (slice_get (with_cards members t.crew.cards) b) (λ (x : Actor). OfSome x.task (λ doing. Unit {0})) → ⊥) → works_there members a ≡ false
          idle_there_so m here idle = elim (cases_Bool (works_there members a)) [
            | inl busy ↦ absurd (idle a (busy_there members t.crew.cards a many busy))
            | inr none ↦ none
          ]
      by_what what s = absurd s
