-- The answer of an opening.
use Rattle.std.proofs.Common.{◌≡◌, ◌<◌, ℕ, zero, suc, true, List, [], Option, Some, None, refl, sym, ap, subst, ◌∙◌, length, length-set, replicate, slice_set}
use Rattle.wb_policy.specs.declared.quiet.Quiet.{Quiet}
use Rattle.std.specs.declared.alloc.Global.{Global}
use Rattle.wb_types.specs.declared.geometry.Geometry.{Geometry}
use Rattle.wb_types.specs.declared.refusal.Refusal.{Refusal}
use Rattle.wb_disk.specs.Memory.{Memory}
use Rattle.wb_words.specs.Cards.{blank_card}
use Rattle.wb_words.specs.SharedWords.{fresh_words}
use Rattle.wb_words.specs.declared.card.Card.{Card}
use Rattle.wb_meta.specs.declared.commit_steps.CommitSteps.TheVariants.{Done as Committed}
use Rattle.wb_meta.specs.declared.read_steps.ReadSteps.{ReadSteps}
use Rattle.wb_meta.specs.declared.read_steps.ReadSteps.TheVariants.{Done as AllRead}
use Rattle.wb_meta.specs.declared.read_steps.State.{State as Stored}
use Rattle.wb_meta.specs.Sizes.{AreSameSizes}
use Rattle.wb_devices.specs.Committing.{is_committed}
use Rattle.wb_stage.specs.Stages.{is_all_done}
use Rattle.wb_devices.specs.declared.devices.Devices.{Devices}
use Rattle.wb_devices.specs.declared.running.RunningCommit.{RunningCommit}
use Rattle.wb_tasks.specs.Plan.{want}
use Rattle.wb_tasks.specs.declared.step.Answer.TheVariants.{Done as Finished, Refused as Refuses}
use Rattle.wb_tasks.specs.declared.step.Want.{Want}
use Rattle.wb_tasks.specs.declared.step.Want.TheVariants.{End}
use Rattle.wb_tasks.specs.declared.step.Got.TheVariants.{Done}
use Rattle.wb_promise.specs.declared.event.Event.TheVariants.{Step}
use Rattle.wb_promise.specs.declared.event.What.{What}
use Rattle.wb_promise.specs.declared.event.What.TheVariants.{Stepped}
use Rattle.wb_stage.specs.declared.share.Share.TheVariants.{Nothing}
use Rattle.wb_promise.specs.declared.job.Job.TheVariants.{Open}
use Rattle.wb_promise.specs.States.{Actor, Gone, Opens, Shape, Stands, Target, resting}
use Rattle.wb_promise.specs.Happenings.{Opened, Plain}
use Rattle.wb_promise.specs.Effects.{card_by, device_done, job_of, seals_of, stepped, target_over, with_actor}
use Rattle.wb_machine.specs.declared.asked.Asked.{Asked}
use Rattle.wb_machine.specs.declared.making.Made.{Made}
use Rattle.wb_machine.specs.declared.opener.Opener.{Opener}
use Rattle.wb_machine.specs.declared.phase.Phase.{Phase}
use Rattle.wb_machine.specs.declared.phase.Phase.TheVariants.{Closed, Underway, Standing}
use Rattle.wb_machine.specs.Life.{Happens, IsThere, Now, actors_of, answered, contents_of, device_step_of, opening_actor, shape_of, stands_by, state_of}
use Rattle.wb_machine.specs.Making.{HasMade, IsMade, read_of, reading_by, reading_of}
use Rattle.wb_machine.specs.Members.{Member, free, with_cards}
use Rattle.wb_desk.specs.Desks.{DeskState}
use Rattle.wb_tasks.specs.Points.{OpenPoint, AtNodes, AtEnd, AtRefusal}
use Rattle.wb_machine.specs.Standing.{AllRoomy, HasCommitted, HasMadeThere, HasReadAll, HasComeTo, StandsAt, StandsSo, plan_from}
use Rattle.wb_machine.proofs.Members.{all_free}
use Rattle.wb_machine.proofs.Served.{roomy_free}
use Rattle.wb_machine.proofs.Openings.{busy, length_replicate, set_replicate, there}
use Rattle.wb_contents.proofs.Lists.{set_twice}

-- the target is the one that was made
target_is : (g : Geometry) (n : ℕ) (a : Asked) (made : Made) → AreSameSizes made.root.geometry g → IsMade n a made → record { words = made.target.crew.words; desk = made.target.desk } ≡ target_over (shape_of g n) a.mode made.target.desk.policy (read_of made)
target_is g n a made same is = rw (← same.origin_blocks, ← is.words_are, ← is.desk_is) refl

sizes : (g : Geometry) (n : ℕ) (a : Asked) (made : Made) → AreSameSizes made.root.geometry g → IsMade n a made → AreSameSizes made.target.desk.geometry g
sizes g n a made same is = subst (λ (f : Geometry). AreSameSizes f g) (sym (ap (λ (d : DeskState Quiet). d.geometry) is.desk_is)) same

module _ (g : Geometry) (n : ℕ) (devices : Devices Memory) (o : Opener) (made : Made) (same : AreSameSizes made.root.geometry g) where
  abbrev shape : Shape
  shape = shape_of g n

  abbrev over : Option Made → Now
  over m = record { devices = contents_of devices; commit = o.opening.commit; phase = Opens o.asked.mode (reading_by m o.opening.reading); actors = actors_of n (Underway o) }

  abbrev standing : Option RunningCommit → Target Quiet → List Actor → Now
  standing commit t xs = record { devices = contents_of devices; commit = commit; phase = Stands t; actors = xs }

  abbrev card : Card
  card = card_by (fresh_words g.origin_blocks) blank_card (seals_of (read_of made))

  -- with nothing to do, and this card
  abbrev rested : Actor
  rested = record { task = None; card = card; orders = []; awaiting = []; buffer = []; seen = []; share = Nothing }

  actors : IsMade n o.asked made → with_cards made.members.items made.target.crew.cards ≡ slice_set (actors_of n (Underway o)) o.asked.actor rested
  actors is = ap (λ (ms : List Member). with_cards ms made.target.crew.cards) is.members_are ∙ ap (λ (cs : List Card). with_cards (replicate n free) cs) (is.cards_are ∙ ap (λ (k : ℕ). slice_set (replicate n blank_card) o.asked.actor (card_by (fresh_words k) blank_card (seals_of (read_of made)))) same.origin_blocks)
      ∙ all_free n o.asked.actor card ∙ sym (set_twice (replicate n resting) o.asked.actor (opening_actor o.asked o.task) rested)

  -- its answer, which is done
  pub opened : o.asked.actor < n → want o.task ≡ End Finished → o.made ≡ Some made → IsMade n o.asked made → is_all_done o.opening.commit ≡ true →
      Happens shape (state_of n devices (Underway o)) (Step o.asked.actor) (Stepped (End Finished) Done) [] (state_of n devices (Standing made.target made.members))
  opened h next made_is is done = subst (λ (m : Option Made). Happens shape (over m) (Step o.asked.actor) (Stepped (End Finished) Done) [] (state_of n devices (Standing made.target made.members))) (sym made_is) (record {
    chosen = Opened made.target.desk.policy;
    may = busy n o _ h (sym next, (refl, refl, (tt, done)));
    leads = ap (λ (commit : Option RunningCommit). standing commit (record { words = made.target.crew.words; desk = made.target.desk }) (with_cards made.members.items made.target.crew.cards)) is.commit_is
        ∙ ap (λ (xs : List Actor). standing None (record { words = made.target.crew.words; desk = made.target.desk }) xs) (actors is)
        ∙ ap (λ (t : Target Quiet). standing None t (slice_set (actors_of n (Underway o)) o.asked.actor rested)) (target_is g n o.asked made same is)
        ∙ sym (ap (λ (x : Option Actor). with_actor (over (Some made)) x (λ y. stepped shape (over (Some made)) o.asked.actor y (End Finished) Done (Opened made.target.desk.policy) (λ step. device_done {P = Quiet} {A = Global} (job_of y.task) y.buffer step (Opened made.target.desk.policy)))) (there n o h));
  })

-- its answer, which is a refusal
pub refused : (shape : Shape) (n : ℕ) (devices : Devices Memory) (o : Opener) → o.asked.actor < n → (refusal : Refusal) (what : What) → want o.task ≡ End (Refuses refusal) → what ≡ Stepped (End (Refuses refusal)) Done →
    Happens shape (state_of n devices (Underway o)) (Step o.asked.actor) what [] (state_of n devices Closed)
refused shape n devices o h refusal what next e = rw e (record {
  chosen = Plain;
  may = busy n o _ h (sym next, ((refl, refl), refl));
  leads = ap (λ xs. record { devices = contents_of devices; commit = None; phase = Gone; actors = xs }) (sym (set_twice (replicate n resting) o.asked.actor (opening_actor o.asked o.task) resting ∙ set_replicate n o.asked.actor resting))
      ∙ sym (ap (λ (x : Option Actor). with_actor (state_of n devices (Underway o)) x (λ y. stepped shape (state_of n devices (Underway o)) o.asked.actor y (End (Refuses refusal)) Done Plain (λ step. device_done {P = Quiet} {A = Global} (Open o.asked.mode o.asked.second) y.buffer step Plain))) (there n o h));
})

-- ---- wherever it stands, where its next step is none on a device

pub record Answers (g : Geometry) (n : ℕ) (devices : Devices Memory) (o : Opener) (next : Phase) : Type 0 where
  pub happens : Happens (shape_of g n) (state_of n devices (Underway o)) (Step o.asked.actor) (Stepped (want o.task) Done) [] (state_of n devices next)
  pub is_there : IsThere n next
  pub so : StandsSo g n next

all_done : (g : Geometry) (reading : Option (ReadSteps Global)) (commit : Option RunningCommit) → HasCommitted g Committed reading commit → is_all_done commit ≡ true
all_done g reading commit come = ap is_all_done come.0.commit_is ∙ ap is_committed come.1

-- what was made is of the sizes of what was read
made_sizes : (g : Geometry) (o : Opener) (made : Made) (commit : Option RunningCommit) → o.made ≡ Some made → HasReadAll g (reading_of o) commit → AreSameSizes made.root.geometry g
made_sizes g o made commit is all =
    let read : Some (AllRead (read_of made)) ≡ Some (AllRead all.state) = ap (λ (m : Option Made). reading_by m o.opening.reading) (sym is) ∙ all.reading_is in
    let same : read_of made ≡ all.state = cc in
    subst (λ (s : Stored Global). AreSameSizes s.root.geometry g) (sym same) all.sizes

answers_done : (g : Geometry) (n : ℕ) (devices : Devices Memory) (o : Opener) → o.asked.actor < n → want o.task ≡ End Finished → HasCommitted g Committed (reading_of o) o.opening.commit → (made : Option Made) → o.made ≡ made → HasMade n o.asked made → Answers g n devices o (answered (Underway o))
answers_done g n devices o h next come None made_is is = absurd is
answers_done g n devices o h next come (Some made) made_is is =
    let same = made_sizes g o made o.opening.commit made_is come.0 in
    let stood : stands_by (want o.task) o.made ≡ Standing made.target made.members = ap (λ (w : Want). stands_by w o.made) next ∙ ap (λ (m : Option Made). stands_by (End Finished) m) made_is in
    subst (Answers g n devices o) (sym stood) (record {
      happens = subst (λ (w : Want). Happens (shape_of g n) (state_of n devices (Underway o)) (Step o.asked.actor) (Stepped w Done) [] (state_of n devices (Standing made.target made.members))) (sym next) (opened g n devices o made same h next made_is is (all_done g (reading_of o) o.opening.commit come));
      is_there = (ap length is.cards_are ∙ length-set (replicate n blank_card) o.asked.actor _ ∙ length_replicate n blank_card, ap length is.members_are ∙ length_replicate n free);
      so = record { blocks = is.blocks_are ∙ same.origin_blocks; failed = is.failed_is; sizes = sizes g n o.asked made same is; roomy = subst (λ (ms : List Member). AllRoomy g ms) (sym is.members_are) (roomy_free g n) };
    })

answers_refused : (g : Geometry) (n : ℕ) (devices : Devices Memory) (o : Opener) → o.asked.actor < n → (refusal : Refusal) → want o.task ≡ End (Refuses refusal) → Answers g n devices o (answered (Underway o))
answers_refused g n devices o h refusal next =
    subst (Answers g n devices o) (sym (ap (λ (w : Want). stands_by w o.made) next)) (record {
      happens = refused (shape_of g n) n devices o h refusal (Stepped (want o.task) Done) next (ap (λ (w : Want). Stepped w Done) next);
      is_there = tt;
      so = tt;
    })

answers_at : (g : Geometry) (n : ℕ) (devices : Devices Memory) (o : Opener) → o.asked.actor < n → (point : OpenPoint) → o.task ≡ plan_from g.meta_sectors point → HasComeTo g point (reading_of o) o.opening.commit → HasMadeThere n point o.asked o.made → device_step_of (want (plan_from g.meta_sectors point)) ≡ None
    → Answers g n devices o (answered (Underway o))
answers_at g n devices o h AtEnd plan come made none = answers_done g n devices o h (ap want plan) come o.made refl made
answers_at g n devices o h (AtRefusal refusal) plan come made none = answers_refused g n devices o h refusal (ap want plan)
answers_at g n devices o h (AtNodes zero from) plan come made none = absurd (cc)
answers_at g n devices o h (AtNodes (suc left) from) plan come made none = absurd (cc)
answers_at g n devices o h point plan come made none = absurd (cc)

pub answers : (g : Geometry) (n : ℕ) (devices : Devices Memory) (o : Opener) → o.asked.actor < n → StandsAt g n o → device_step_of (want o.task) ≡ None → Answers g n devices o (answered (Underway o))
answers g n devices o h at none = answers_at g n devices o h at.point at.plan_is at.come at.made (ap (λ p. device_step_of (want p)) (sym at.plan_is) ∙ none)
