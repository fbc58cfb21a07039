-- Why no target was opened, from what the stage of its opening kept and how its run ended.
use Rattle.std.proofs.Common.{◌≡◌, ◌≢◌, ◌∙◌, ℕ, Bool, List, Option, Some, None, refl, sym, subst, ap, inl, inr, map}
use Rattle.std.specs.Prelude.{Result, Ok, Err}
use Rattle.wb_types.specs.declared.geometry.Geometry.{Geometry}
use Rattle.wb_types.specs.declared.message.Key.{Key}
use Rattle.wb_types.specs.declared.mode.Dev.{Dev}
use Rattle.wb_types.specs.declared.mode.Dev.TheVariants.{Metadata}
use Rattle.wb_types.specs.declared.mode.Mode.{Mode}
use Rattle.wb_types.specs.declared.refusal.Refusal.{Refusal}
use Rattle.wb_types.specs.declared.refusal.Refusal.TheVariants.{Io}
use Rattle.wb_disk.specs.Device.{History, newest, synced}
use Rattle.wb_tasks.specs.Tables.{Opening as OpeningJob}
use Rattle.wb_tasks.specs.Plan.{table}
use Rattle.wb_tasks.specs.Run.{IsRunOf, Leads}
use Rattle.wb_tasks.specs.declared.step.Answer.{Answer}
use Rattle.wb_tasks.specs.declared.step.Answer.TheVariants.{Done as Finished, Refused as Refuses}
use Rattle.wb_tasks.specs.declared.step.Want.{Want}
use Rattle.wb_tasks.specs.declared.step.Got.{Got}
use Rattle.wb_devices.specs.Openings.{HasNotBegun}
use Rattle.wb_devices.specs.Outcomes.{IsRefused, IsRefusedFor}
use Rattle.wb_devices.specs.declared.devices.Devices.{Devices}
use Rattle.wb_target.specs.Making.{PolicyStarts, MakingGoesOn, WasRun}
use Rattle.wb_target.specs.NotOpened.{IsOfSizes, IsToldOf, AreOnlySynced, WereRefused, WasReadOnly, IsNotOpened}
use Rattle.wb_target.specs.Offices.{OfficeState}
use Rattle.wb_target.specs.declared.making.MakingStage.{MakingStage}
use Rattle.wb_target.proofs.Stopping.{IsNoCause, HasStopped, has_stopped}

-- where nothing is kept, the answer is told
told_answer : {O : Type 0} (made : Option (Result O Refusal)) (answer : Answer) (refusal : Refusal) → IsNoCause made → IsToldOf made answer refusal → answer ≡ Refuses refusal
told_answer None answer refusal free told = told
told_answer (Some (Ok office)) answer refusal free told = told
told_answer (Some (Err cause)) answer refusal free told = absurd (free cause refl)

-- else what is kept
told_cause : {O : Type 0} (made : Option (Result O Refusal)) (answer : Answer) (refusal cause : Refusal) → made ≡ Some (Err cause) → IsToldOf made answer refusal → refusal ≡ cause
told_cause made answer refusal cause kept told = subst (λ m. IsToldOf m answer refusal) kept told

-- of one that made a target, and was done, no refusal is told
told_none : {O : Type 0} (made : Option (Result O Refusal)) (refusal : Refusal) (office : O) → made ≡ Some (Ok office) → IsToldOf made Finished refusal → ⊥
told_none made refusal office there told = let wrong : Finished ≡ Refuses refusal = subst (λ m. IsToldOf m Finished refusal) there told in cc

module _ {D P : Type 0} (tells : Type 0) (size : D → ℕ) (contents : D → List History) (faults : D → ℕ) (starts : PolicyStarts P) (with_setting : P → Key → ℕ → Option P) (mode : Mode) (keys : List (Key × ℕ)) (block : ℕ) (metadata2 : Bool) (devices : Devices D)
    (geometry : Geometry) (asked : IsOfSizes size devices block metadata2 geometry) (left : ℕ) (first last : MakingStage D P) (over : first.stage.devices ≡ devices) (in_mode : first.stage.mode ≡ mode) (of_geometry : first.stage.opening.geometry ≡ geometry)
    (keys_are : first.keys.now ≡ keys) (made_none : first.made ≡ None) (begins : HasNotBegun first.stage.opening) (steps : List (Want × Got)) (leads : Leads (MakingGoesOn tells size contents faults starts with_setting) first steps last) (back : Devices D) (back_is : back ≡ last.stage.devices) where
  abbrev Tried : Answer → Type 0
  Tried answer = WasRun tells size contents faults starts with_setting mode devices answer back

  tried : (answer : Answer) → IsRunOf (table (OpeningJob left)) steps answer → Tried answer
  tried answer r = record { left = left; first = first; last = last; over = over; in_mode = in_mode; not_begun = begins; steps = steps; run = r; leads = leads; back_is = back_is }

  were_refused : (refusal : Refusal) → IsRefused tells contents first.stage last.stage refusal → WereRefused tells size contents mode block metadata2 devices refusal back
  were_refused refusal so = record {
    durable = record {
      metadata = λ t. ap (λ (d : Devices D). contents d.metadata) back_is ∙ so.metadata t ∙ ap (λ (d : Devices D). synced (contents d.metadata)) over;
      copies = λ t. (
        ap (λ (d : Devices D). contents d.cache) back_is ∙ (so.copies t).0 ∙ ap (λ (d : Devices D). synced (contents d.cache)) over,
        ap (λ (d : Devices D). contents d.origin) back_is ∙ (so.copies t).1 ∙ ap (λ (d : Devices D). synced (contents d.origin)) over,
      );
    };
    geometry = geometry;
    asked = asked;
    cause = λ t. subst (λ (d : Devices D). IsRefusedFor mode (map newest (synced (contents d.metadata))) geometry refusal) over
        (subst (λ (g : Geometry). IsRefusedFor mode (map newest (synced (contents first.stage.devices.metadata))) g refusal) of_geometry
        (subst (λ (m : Mode). IsRefusedFor m (map newest (synced (contents first.stage.devices.metadata))) first.stage.opening.geometry refusal) in_mode (so.cause t)));
  }

  abbrev NotOpened : Refusal → Type 0
  NotOpened refusal = IsNotOpened tells size contents faults starts with_setting mode keys block metadata2 devices back refusal

  by_stop : (answered refusal : Refusal) → IsRunOf (table (OpeningJob left)) steps (Refuses answered) → IsToldOf last.made (Refuses answered) refusal → HasStopped tells size contents faults starts with_setting keys devices first last answered → NotOpened refusal
  by_stop answered refusal r told stopped = elim stopped [
    | inl so ↦
        let ends : Refuses answered ≡ Refuses refusal = told_answer last.made (Refuses answered) refusal so.0 told in
        let same : answered ≡ refusal = cc in
        inr (inr (subst (λ (x : Refusal). Tried (Refuses x) × (((device : Dev) → x ≢ Io device) → WereRefused tells size contents mode block metadata2 devices x back)) same (tried (Refuses answered) r, λ no. were_refused answered (so.1 no))))
    | inr not ↦
        let same : refusal ≡ not.cause = told_cause last.made (Refuses answered) refusal not.cause not.kept told in
        inr (inl (subst (λ (x : Refusal). WasReadOnly tells size contents faults starts with_setting mode keys devices x back) (sym same) (record {
          run = tried (Refuses (Io Metadata)) (subst (λ (x : Refusal). IsRunOf (table (OpeningJob left)) steps (Refuses x)) not.io r);
          durable = subst (λ (d : Devices D). AreOnlySynced tells contents devices d) (sym back_is) not.synced_only;
          cause = not.why;
        })))
  ]

  pub not_opened : (answer : Answer) → IsRunOf (table (OpeningJob left)) steps answer → (answer ≡ Finished → (office : OfficeState P) × (last.made ≡ Some (Ok office))) → (refusal : Refusal) → IsToldOf last.made answer refusal → NotOpened refusal
  not_opened Finished r made refusal told = absurd (told_none last.made refusal (made refl).0 (made refl).1 told)
  not_opened (Refuses answered) r made refusal told = by_stop answered refusal r told
      (has_stopped tells size contents faults starts with_setting keys devices first last left steps answered over keys_are made_none begins r leads)
