-- Each step of a read or a write, done or failing, and its answer, is followed; what a step of a read is given is the last entry of each of its
-- sectors' histories.
use Rattle.std.proofs.Common.{◌≡◌, ◌∙◌, ◌<◌, ◌≤◌, ◌+◌, ◌*◌, ◌%◌, ℕ, Bool, List, [], ◌∷◌, ◌++◌, Option, Some, None, refl, sym, ap, subst, arith, length, replicate, slice_get, slice_set, mul_comm, suc, All, true, false, cond}
use Rattle.wb_types.specs.declared.number.OBlock.{OBlock}
use Rattle.wb_headline.proofs.Passing.{unmap_goes}
use Rattle.wb_runs.proofs.Passing.{write_own}
use Rattle.wb_tasks.specs.declared.step.DeskStep.TheVariants.{Unmap}
use Rattle.wb_simulation.proofs.Written.{job_written}
use Rattle.std.proofs.Math.Nat.{mul-le-mul_right}
use Rattle.std.proofs.lemmas.List.{length-set}
use Rattle.std.proofs.lemmas.Nat.{div_below}
use Rattle.wb_types.specs.Extents.{rising}
use Rattle.wb_types.specs.declared.extent.Extent.{Extent}
use Rattle.wb_types.specs.declared.mode.Dev.{Dev}
use Rattle.wb_disk.specs.Device.{Content as Bytes, History, grown, added, newest}
use Rattle.wb_disk.specs.Extents.{GivesEach, written_each, written_where}
use Rattle.wb_words.specs.Rule.{LockRule}
use Rattle.wb_policy.specs.declared.order.Order.{Order}
use Rattle.wb_words.specs.SharedWords.{Words}
use Rattle.wb_words.specs.Effects.{result_of, words_after}
use Rattle.wb_words.specs.declared.step.CellStep.{CellStep}
use Rattle.wb_tasks.specs.Tables.{BlockRange, Reading as ReadingPart, Invalidating as InvalidatingPart, OnBlock, TaskJob}
use Rattle.wb_tasks.specs.Plan.{Plan, want, got_of, device_of}
use Rattle.wb_tasks.specs.Ready.{Suits, HoldsBlocks, IsOwnStep}
use Rattle.wb_tasks.specs.declared.step.Answer.{Answer}
use Rattle.wb_tasks.specs.declared.step.Answer.TheVariants.{Done as Finished, Refused as Refuses}
use Rattle.wb_tasks.specs.declared.step.DeviceStep.TheVariants.{Read as ReadExtent, Write as WriteExtent}
use Rattle.wb_tasks.specs.declared.step.Want.{Want}
use Rattle.wb_tasks.specs.declared.step.Want.TheVariants.{Cell, Device, End, Desk}
use Rattle.wb_tasks.specs.declared.step.Got.{Got}
use Rattle.wb_tasks.specs.declared.step.Got.TheVariants.{Done, Fault}
use Rattle.wb_devices.specs.declared.devices.Devices.{Devices}
use Rattle.wb_devices.specs.declared.running.RunningCommit.{RunningCommit}
use Rattle.wb_devices.specs.Moving.{device_in}
use Rattle.wb_promise.specs.declared.job.Job.{Job}
use Rattle.wb_promise.specs.declared.job.Job.TheVariants.{Read, Write, Invalidate}
use Rattle.wb_promise.specs.States.{Shape, State, Actor, Target, Stands, with_device, sector_count}
use Rattle.wb_promise.specs.Happenings.{block_range, Chosen, Gives, Falters, MayFailAt, write_job, Asks}
use Rattle.wb_promise.specs.Effects.{actor_then, orders_then, awaiting_then, device_done, device_failed, stepped, seen_then}
use Rattle.wb_runs.specs.Holding.{cards_of}
use Rattle.wb_promise.specs.Clerk.{Notes, Doing, noted_step, device_note, failing, put, readings_from, sector_for, write_note, enter_each, entering, finished_note, all_raised, Entering, enter, is_entered}
use Rattle.wb_contents.proofs.Lists.{set_there}
use Rattle.wb_runs.proofs.Images.{Images}
use Rattle.wb_runs.proofs.Metadata.{MetadataKept}
use Rattle.wb_runs.proofs.Extents.{may_start, some_sectors}
use Rattle.wb_runs.proofs.Claims.{JobClaim}
use Rattle.wb_link.specs.World.{abstract_after_all}
use Rattle.wb_refines.specs.Translation.{job_for, writing_in, offsets}
use Rattle.wb_simulation.specs.Noting.{NotesAgree}
use Rattle.wb_simulation.specs.Noted.{told, AreNewest}
use Rattle.wb_simulation.specs.Actors.{IsRequestAt, write_of}
use Rattle.wb_simulation.specs.Steps.{AreOfBlock}
use Rattle.wb_simulation.specs.Telling.{Quietly, Reads, Writes, Answers}
use Rattle.wb_simulation.specs.Worlds.{Stays, WorldFollows, zeros}
use Rattle.wb_simulation.specs.Laws.{IsRequestJob, stepped_actor, after_step, job_content}
use Rattle.wb_simulation.proofs.Followed.{begins_by, cell_steps_followed, doing_of}
use Rattle.wb_simulation.proofs.Moving.{extent_steps_followed, same_device}
use Rattle.wb_simulation.proofs.Ending.{answers_followed}
use Rattle.wb_simulation.proofs.Noted.{notes_followed}
use Rattle.std.proofs.lemmas.List.Elements.{All-cons}
use Rattle.wb_contents.specs.Devices.{by_block}
use Rattle.wb_contents.proofs.Devices.{is_there}
use Rattle.wb_promise.specs.Headline.{IsLatest, shown}
use Rattle.wb_headline.proofs.Following.{situation, size, most, Followed, Goes, many}
use Rattle.wb_headline.proofs.Targets.{standing, actor_is, beside, noted_within, stays_on, unnoted}
use Rattle.wb_contents.proofs.Lists.{there_is as there}
use Rattle.wb_headline.proofs.Events.{records_happen, is_right}
use Rattle.wb_types.specs.declared.mode.Dev.TheVariants.{Metadata, Cache, Origin}
use Rattle.wb_disk.specs.Crash.{Choice}
use Rattle.wb_disk.specs.Failing.{lands}
use Rattle.wb_runs.specs.Inside.{StepInside}
use Rattle.wb_runs.proofs.Plans.{own_next}
use Rattle.wb_runs.proofs.Stepping.{data_device}

-- a read or write sees nothing of seals, as a suspend does
seen_still : (seen : List Bool) (job : Job) (next : Want) (got : Got) → IsRequestJob job → seen_then seen next got job ≡ seen
seen_still seen (Read extent) next got q = refl
seen_still seen (Write extent content) next got q = refl
seen_still seen (Invalidate block) next got q = refl
seen_still seen job next got q = absurd q

module _ (P A : Type 0) (shape : Shape) (images : Images) (t : Target P) (commit : Option RunningCommit) (devices : Devices (List History)) (actors : List Actor) (n : Notes) (known : MetadataKept {P = P} {A = A} shape.geometry images (Stands t) commit devices.metadata)
    (f : Followed P A shape images (standing P A shape images t commit devices actors n) n) (rule : LockRule shape.geometry.origin_blocks t.words (cards_of actors)) (a : ℕ) (x : Actor) (ex : slice_get actors a ≡ Some x) (job : Job) (plan : Plan) (xt : x.task ≡ Some (job, plan)) (suits : Suits shape.geometry.origin_blocks plan x.card) where
  -- the state after a step that leaves words, desk and metadata
  abbrev after_it : Words → Devices (List History) → Actor → State P A
  after_it words' devices' y = record { devices = devices'; commit = commit; phase = Stands (record { words = words'; desk = t.desk }); actors = slice_set actors a y }

  -- nothing is noted
  quietly : (words' : Words) (devices' : Devices (List History)) (y : Actor) →
      WorldFollows Quietly a f.site.world (record (situation shape t devices' actors) { words = words' }) y → devices'.metadata ≡ devices.metadata → Goes P A shape (after_it words' devices' y) n
  quietly words' devices' y g same =
      stays_on P A shape images t commit devices actors n known f a x ex Quietly words' devices' y n g
      (unnoted P A shape images t commit devices actors n known f a x ex notes_followed.quiet g f.notes_agree)
      refl refl same

  -- a step on the shared words
  pub on_words : (step : CellStep) → IsRequestJob job → Cell step ≡ want plan → Goes P A shape (after_it (words_after t.words step) devices (actor_then {P = P} {A = A} shape (Stands t) devices x (Cell step) (got_of (result_of t.words step)))) n
  on_words step q e = subst (λ (y : Actor). Goes P A shape (after_it (words_after t.words step) devices y) n) (sym (actor_is P A shape (Stands t) devices x job plan (Cell step) (got_of (result_of t.words step)) xt ∙ (λ i. record (stepped_actor t.words job plan step x) { seen = seen_still x.seen job (Cell step) (got_of (result_of t.words step)) q i })))
      (quietly (words_after t.words step) devices (stepped_actor t.words job plan step x)
      (cell_steps_followed (situation shape t devices actors) shape.geometry.origin_blocks a x job plan step f.site.world q rule (record { here = ex; task = xt; asks = sym e; agrees = f.phase.agrees }) suits) refl)

-- a read or write that is answered leaves its actor the orders that it has
answered_still : (orders awaiting : List Order) (job : Job) (answer : Answer) → IsRequestJob job → (orders_then orders awaiting job (End answer) Done ≡ orders) × (awaiting_then orders awaiting job (End answer) Done ≡ awaiting)
answered_still orders awaiting (Read extent) Finished q = (refl, refl)
answered_still orders awaiting (Write extent content) Finished q = (refl, refl)
answered_still orders awaiting (Invalidate block) Finished q = (refl, refl)
answered_still orders awaiting job (Refuses refusal) q = (refl, refl)
answered_still orders awaiting job answer q = absurd q

module _ (P A : Type 0) (shape : Shape) (images : Images) (t : Target P) (commit : Option RunningCommit) (devices : Devices (List History)) (actors : List Actor) (n : Notes) (known : MetadataKept {P = P} {A = A} shape.geometry images (Stands t) commit devices.metadata)
    (f : Followed P A shape images (standing P A shape images t commit devices actors n) n) (a : ℕ) (x : Actor) (ex : slice_get actors a ≡ Some x) (shown : List Bytes) (doing : Doing) (noted : slice_get n.doings a ≡ Some (Some doing)) where
  -- ---- a read

  module _ (extent : Extent) (plan : Plan) (xt : x.task ≡ Some (Read extent, plan)) (suits : Suits shape.geometry.origin_blocks plan x.card) (job_is : doing.job ≡ Read extent) (claim : JobClaim shape t.desk.mode (Read extent) plan doing) (device : Dev) (e : Extent) (next : Device (ReadExtent device e) ≡ want plan) (holds : HoldsBlocks device) where
    abbrev part : BlockRange
    part = block_range shape t.desk.mode extent claim.cut

    -- what it is told there
    pub read_follows : (contents : List Bytes) → length contents ≡ e.count → GivesEach (device_in device devices) e.first contents →
        WorldFollows (Reads part.block.0 (e.first % size P A shape) contents) a f.site.world (situation shape t devices actors) (after_step (Read extent) plan Done x)
    read_follows contents many gives = extent_steps_followed.read_done (situation shape t devices actors) shape.geometry.origin_blocks a x extent part plan device e contents f.site.world (record { here = ex; task = xt; asks = sym next; agrees = f.phase.agrees }) claim.is_job suits holds many gives

    pub reads : (contents : List Bytes) → length contents ≡ e.count → GivesEach (device_in device devices) e.first contents →
        Goes P A shape (record { devices = devices; commit = commit; phase = Stands (record { words = t.words; desk = t.desk }); actors = slice_set actors a (actor_then {P = P} {A = A} shape (Stands t) devices x (Device (ReadExtent device e)) Done) })
        (noted_step shape t.desk.mode shown n a (Some (Some doing)) (Device (ReadExtent device e)) Done contents)
    reads contents many gives =
        let g = read_follows contents many gives in
        let b = beside P A shape images t commit devices actors n known f a x ex in
        let doing2 : Doing = record doing { readings = doing.readings ++ readings_from n.histories (sector_for shape extent e) contents } in
        let s' = abstract_after_all f.site.world g.records in
        let m' = told f.notes g.records in
        let once = notes_followed.read part.block.0 (e.first % size P A shape) contents Stays a f.site.world _ _ g b.0 n f.notes b.1 (noted_within P A shape images t commit devices actors n known f a x ex) f.notes_agree in
        let first = notes_followed.redone (size P A shape) n s' m' a doing doing once noted refl refl in
        let second = notes_followed.redone (size P A shape) (put n a (Some doing)) s' m' a doing doing2 first (set_there n.doings a (Some doing) (Some doing) noted) refl refl in
        let y = after_step (Read extent) plan Done x in
        let n2 = put (put n a (Some doing)) a (Some doing2) in
        subst (λ (q : Job). Goes P A shape (record { devices = devices; commit = commit; phase = Stands (record { words = t.words; desk = t.desk }); actors = slice_set actors a (actor_then {P = P} {A = A} shape (Stands t) devices x (Device (ReadExtent device e)) Done) }) (device_note shape t.desk.mode (put n a (Some doing)) a doing q (ReadExtent device e) Done contents)) (sym job_is)
        (subst (λ (y : Actor). Goes P A shape (record { devices = devices; commit = commit; phase = Stands (record { words = t.words; desk = t.desk }); actors = slice_set actors a y }) n2) (sym (actor_is P A shape (Stands t) devices x (Read extent) plan (Device (ReadExtent device e)) Done xt))
        (stays_on P A shape images t commit devices actors n known f a x ex (Reads part.block.0 (e.first % size P A shape) contents) t.words devices y n2 g second (length-set (put n a (Some doing)).doings a (Some doing2) ∙ length-set n.doings a (Some doing)) refl refl))

    pub read_fails : (contents : List Bytes) →
        Goes P A shape (record { devices = devices; commit = commit; phase = Stands (record { words = t.words; desk = t.desk }); actors = slice_set actors a (actor_then {P = P} {A = A} shape (Stands t) devices x (Device (ReadExtent device e)) Fault) })
        (noted_step shape t.desk.mode shown n a (Some (Some doing)) (Device (ReadExtent device e)) Fault contents)
    read_fails contents =
        let g = extent_steps_followed.read_fails (situation shape t devices actors) shape.geometry.origin_blocks a x extent part plan device e f.site.world (record { here = ex; task = xt; asks = sym next; agrees = f.phase.agrees }) claim.is_job suits holds in
        let mid = failing doing (ReadExtent device e) Fault in
        let s' = abstract_after_all f.site.world g.records in
        let m' = told f.notes g.records in
        let once = unnoted P A shape images t commit devices actors n known f a x ex notes_followed.quiet g f.notes_agree in
        let first = notes_followed.redone (size P A shape) n s' m' a doing mid once noted refl refl in
        let y = after_step (Read extent) plan Fault x in
        subst (λ (q : Job). Goes P A shape (record { devices = devices; commit = commit; phase = Stands (record { words = t.words; desk = t.desk }); actors = slice_set actors a (actor_then {P = P} {A = A} shape (Stands t) devices x (Device (ReadExtent device e)) Fault) }) (device_note shape t.desk.mode (put n a (Some mid)) a mid q (ReadExtent device e) Fault contents)) (sym job_is)
        (subst (λ (y : Actor). Goes P A shape (record { devices = devices; commit = commit; phase = Stands (record { words = t.words; desk = t.desk }); actors = slice_set actors a y }) (put n a (Some mid))) (sym (actor_is P A shape (Stands t) devices x (Read extent) plan (Device (ReadExtent device e)) Fault xt))
        (stays_on P A shape images t commit devices actors n known f a x ex Quietly t.words devices y (put n a (Some mid)) g first (length-set n.doings a (Some mid)) refl refl))

  -- ---- a write

  module _ (extent : Extent) (content : Bytes) (plan : Plan) (xt : x.task ≡ Some (Write extent content, plan)) (suits : Suits shape.geometry.origin_blocks plan x.card) (job_is : doing.job ≡ Write extent content) (claim : JobClaim shape t.desk.mode (Write extent content) plan doing) (device : Dev) (e : Extent) (next : Device (WriteExtent device e) ≡ want plan) (holds : HoldsBlocks device) where
    abbrev written_part : BlockRange
    written_part = block_range shape t.desk.mode extent claim.cut

    -- the extent is inside its block
    in_block : e.first % size P A shape + e.count ≤ size P A shape
    in_block =
        let b = beside P A shape images t commit devices actors n known f a x ex in
        let r : IsRequestAt (size P A shape) content _ write_of plan x.card b.0 = doing_of (size P A shape) (most P A shape) t.words x b.0 (Write extent content) plan (f.phase.agrees.each a x b.0 ex b.1) xt in
        let first = begins_by plan (Device (WriteExtent device e)) (sym next) (λ answer q. absurd (cc)) in
        (subst (λ (ws : List Want). AreOfBlock (size P A shape) r.part.block.0 ws) first.1 r.of_block).0.room

    -- and on the origin
    in_range : written_part.block.0 * size P A shape + e.first % size P A shape + e.count ≤ length n.histories
    in_range =
        let m = may_start shape extent claim.inside in
        let less : written_part.block.0 < shape.geometry.origin_blocks = div_below extent.first shape.geometry.block shape.geometry.origin_blocks (some_sectors shape extent m) (let i = m.inside in let s = m.some in omega (arith, i, s, mul_comm shape.geometry.block shape.geometry.origin_blocks)) in
        let m1 : (written_part.block.0 + 1) * shape.geometry.block ≤ shape.geometry.origin_blocks * shape.geometry.block = mul-le-mul_right shape.geometry.block (omega (arith, less)) in
        let sectors = f.sized.sectors in
        omega (arith, m1, in_block, sectors, mul_comm shape.geometry.block shape.geometry.origin_blocks)

    -- histories keep their number
    entered_many : (sectors : List ℕ) (en : Entering) → length (enter_each content sectors en).histories ≡ length en.histories
    entered_many [] en = refl
    entered_many (s ∷ sectors) en = entered_many sectors (enter content s en) ∙ by (slice_get en.histories s)
      where
        by : (o : Option History) → length (grown o content en.histories s) ≡ length en.histories
        by None = refl
        by (Some h) = length-set en.histories s (added h content)

    module _ (got : Got) (mid : Doing) (same_entered : mid.entered ≡ doing.entered) (same_then : mid.then_finished ≡ doing.then_finished) (list : List History) where
      abbrev n1 : Notes
      n1 = put n a (Some mid)

      abbrev n2 : Notes
      n2 = write_note n1 a mid (enter_each content (rising (sector_for shape extent e) e.count) (entering n1 mid))

      -- where its sectors are entered
      writes_on : (entered : Bool) → WorldFollows (cond entered (Writes written_part.block.0 (e.first % size P A shape) e.count content) Quietly) a f.site.world (situation shape t (with_device device devices list) actors) (after_step (Write extent content) plan got x) →
          Goes P A shape (record { devices = with_device device devices list; commit = commit; phase = Stands (record { words = t.words; desk = t.desk }); actors = slice_set actors a (after_step (Write extent content) plan got x) }) (cond entered n2 n1)
      writes_on false g =
          let once = unnoted P A shape images t commit devices actors n known f a x ex notes_followed.quiet g f.notes_agree in
          let first = notes_followed.redone (size P A shape) n (abstract_after_all f.site.world g.records) (told f.notes g.records) a doing mid once noted same_entered same_then in
          stays_on P A shape images t commit devices actors n known f a x ex Quietly t.words (with_device device devices list) (after_step (Write extent content) plan got x) n1 g first (length-set n.doings a (Some mid)) refl (data_device device holds devices list)
      writes_on true g =
          let b = beside P A shape images t commit devices actors n known f a x ex in
          let first = notes_followed.redone (size P A shape) n f.site.world f.notes a doing mid f.notes_agree noted same_entered same_then in
          let less1 = subst (λ (k : ℕ). a < k) (sym (length-set n.doings a (Some mid))) (noted_within P A shape images t commit devices actors n known f a x ex) in
          let second = notes_followed.write written_part.block.0 (e.first % size P A shape) e.count content Stays a f.site.world _ _ g b.0 n1 f.notes b.1 less1 first mid
          (set_there n.doings a (Some doing) (Some mid) noted) in_block in_range in
          stays_on P A shape images t commit devices actors n known f a x ex (Writes written_part.block.0 (e.first % size P A shape) e.count content) t.words (with_device device devices list) (after_step (Write extent content) plan got x) n2 g second (length-set n1.doings a _ ∙ length-set n.doings a (Some mid)) (entered_many (rising (sector_for shape extent e) e.count) (entering n1 mid)) (data_device device holds devices list)

    pub writes : (contents : List Bytes) → e.first + e.count ≤ length (device_in device devices) →
        Goes P A shape (record { devices = with_device device devices (written_each (device_in device devices) e.first (replicate e.count content)); commit = commit; phase = Stands (record { words = t.words; desk = t.desk }); actors = slice_set actors a (actor_then {P = P} {A = A} shape (Stands t) devices x (Device (WriteExtent device e)) Done) })
        (noted_step shape t.desk.mode shown n a (Some (Some doing)) (Device (WriteExtent device e)) Done contents)
    writes contents inside =
        let list = written_each (device_in device devices) e.first (replicate e.count content) in
        let g = extent_steps_followed.write_done (situation shape t devices actors) shape.geometry.origin_blocks a x extent content written_part plan device e f.site.world (record { here = ex; task = xt; asks = sym next; agrees = f.phase.agrees }) claim.is_job suits holds inside in
        subst (λ (q : Job). Goes P A shape (record { devices = with_device device devices list; commit = commit; phase = Stands (record { words = t.words; desk = t.desk }); actors = slice_set actors a (actor_then {P = P} {A = A} shape (Stands t) devices x (Device (WriteExtent device e)) Done) }) (device_note shape t.desk.mode (put n a (Some doing)) a doing q (WriteExtent device e) Done contents)) (sym job_is)
        (subst (λ (y : Actor). Goes P A shape (record { devices = with_device device devices list; commit = commit; phase = Stands (record { words = t.words; desk = t.desk }); actors = slice_set actors a y }) (cond (is_entered t.desk.mode device) (write_note (put n a (Some doing)) a doing (enter_each content (rising (sector_for shape extent e) e.count) (entering (put n a (Some doing)) doing))) (put n a (Some doing))))
        (sym (actor_is P A shape (Stands t) devices x (Write extent content) plan (Device (WriteExtent device e)) Done xt)) (writes_on Done doing refl refl list (is_entered t.desk.mode device) g))

    pub write_fails : (contents : List Bytes) (lands : ℕ → Bool) → e.first + e.count ≤ length (device_in device devices) →
        Goes P A shape (record { devices = with_device device devices (written_where lands (device_in device devices) e.first (replicate e.count content)); commit = commit; phase = Stands (record { words = t.words; desk = t.desk }); actors = slice_set actors a (actor_then {P = P} {A = A} shape (Stands t) devices x (Device (WriteExtent device e)) Fault) })
        (noted_step shape t.desk.mode shown n a (Some (Some doing)) (Device (WriteExtent device e)) Fault contents)
    write_fails contents lands inside =
        let list = written_where lands (device_in device devices) e.first (replicate e.count content) in
        let mid = failing doing (WriteExtent device e) Fault in
        let g = extent_steps_followed.write_fails (situation shape t devices actors) shape.geometry.origin_blocks a x extent content written_part plan device e lands f.site.world (record { here = ex; task = xt; asks = sym next; agrees = f.phase.agrees }) claim.is_job suits holds inside in
        subst (λ (q : Job). Goes P A shape (record { devices = with_device device devices list; commit = commit; phase = Stands (record { words = t.words; desk = t.desk }); actors = slice_set actors a (actor_then {P = P} {A = A} shape (Stands t) devices x (Device (WriteExtent device e)) Fault) }) (device_note shape t.desk.mode (put n a (Some mid)) a mid q (WriteExtent device e) Fault contents)) (sym job_is)
        (subst (λ (y : Actor). Goes P A shape (record { devices = with_device device devices list; commit = commit; phase = Stands (record { words = t.words; desk = t.desk }); actors = slice_set actors a y }) (cond (is_entered t.desk.mode device) (write_note (put n a (Some mid)) a mid (enter_each content (rising (sector_for shape extent e) e.count) (entering (put n a (Some mid)) mid))) (put n a (Some mid))))
        (sym (actor_is P A shape (Stands t) devices x (Write extent content) plan (Device (WriteExtent device e)) Fault xt)) (writes_on Fault mid refl refl list (is_entered t.desk.mode device) g))

  -- ---- answers

  module _ (job : Job) (request : IsRequestJob job) (plan : Plan) (xt : x.task ≡ Some (job, plan)) (suits : Suits shape.geometry.origin_blocks plan x.card) (answer : Answer) (next : End answer ≡ want plan) where
    answer_follows : WorldFollows (Answers (job_for (size P A shape) (job_content job) plan.job) answer) a f.site.world (situation shape t devices actors) (record x { task = None })
    answer_follows = answers_followed (situation shape t devices actors) shape.geometry.origin_blocks a x job plan answer f.site.world request (record { here = ex; task = xt; asks = sym next; agrees = f.phase.agrees }) suits

    -- the state and notes then
    abbrev Answered : Notes → Type 0
    Answered n' = Goes P A shape (record { devices = devices; commit = commit; phase = Stands (record { words = t.words; desk = t.desk }); actors = slice_set actors a (actor_then {P = P} {A = A} shape (Stands t) devices x (End answer) Done) }) n'

    answered_with : (there : Answer) (of : Rattle.wb_link.specs.Tables.Job) (n' : Notes) → length n'.doings ≡ length n.doings → length n'.histories ≡ length n.histories → (g : WorldFollows (Answers of there) a f.site.world (situation shape t devices actors) (record x { task = None })) →
        NotesAgree (size P A shape) n' (abstract_after_all f.site.world g.records) (told f.notes g.records) → Answered n'
    answered_with there of n' d h g notes =
        subst (λ (y : Actor). Goes P A shape (record { devices = devices; commit = commit; phase = Stands (record { words = t.words; desk = t.desk }); actors = slice_set actors a y }) n') (sym (actor_is P A shape (Stands t) devices x job plan (End answer) Done xt ∙ (λ i. record { task = None; card = x.card; orders = (answered_still x.orders x.awaiting job answer request).0 i; awaiting = (answered_still x.orders x.awaiting job answer request).1 i; buffer = x.buffer; seen = seen_still x.seen job (End answer) Done request i; share = x.share })))
        (stays_on P A shape images t commit devices actors n known f a x ex (Answers of there) t.words devices (record x { task = None }) n' g notes d h refl)

  -- by its job
  pub answers : (job : Job) → IsRequestJob job → (plan : Plan) → x.task ≡ Some (job, plan) → Suits shape.geometry.origin_blocks plan x.card → doing.job ≡ job → JobClaim shape t.desk.mode job plan doing → (answer : Answer) → End answer ≡ want plan → (contents : List Bytes) →
      Goes P A shape (record { devices = devices; commit = commit; phase = Stands (record { words = t.words; desk = t.desk }); actors = slice_set actors a (actor_then {P = P} {A = A} shape (Stands t) devices x (End answer) Done) }) (noted_step shape t.desk.mode shown n a (Some (Some doing)) (End answer) Done contents)
  answers job q plan xt suits job_is claim (Refuses refusal) next contents =
      let g = answer_follows job q plan xt suits (Refuses refusal) next in
      let b = beside P A shape images t commit devices actors n known f a x ex in
      answered_with job q plan xt suits (Refuses refusal) next (Refuses refusal) _ (put n a None) (length-set n.doings a None) refl g
      (notes_followed.refused (job_for (size P A shape) (job_content job) plan.job) refusal Stays a f.site.world _ _ g b.0 n f.notes b.1 (noted_within P A shape images t commit devices actors n known f a x ex) f.notes_agree)
  answers (Read extent) q plan xt suits job_is claim Finished next contents =
      let part = block_range shape t.desk.mode extent claim.cut in
      let of = job_for (size P A shape) [] (OnBlock (ReadingPart part)) in
      let g = subst (λ (k : TaskJob). WorldFollows (Answers (job_for (size P A shape) [] k) Finished) a f.site.world (situation shape t devices actors) (record x { task = None })) claim.is_job (answer_follows (Read extent) q plan xt suits Finished next) in
      let b = beside P A shape images t commit devices actors n known f a x ex in
      subst (λ (k : Job). Goes P A shape (record { devices = devices; commit = commit; phase = Stands (record { words = t.words; desk = t.desk }); actors = slice_set actors a (actor_then {P = P} {A = A} shape (Stands t) devices x (End Finished) Done) }) (finished_note n a doing k shown)) (sym job_is)
      (answered_with (Read extent) q plan xt suits Finished next Finished of (put n a None) (length-set n.doings a None) refl g
      (notes_followed.read_answered t.desk.mode part.block.0 _ Stays a f.site.world _ _ g b.0 n f.notes b.1 (noted_within P A shape images t commit devices actors n known f a x ex) f.notes_agree))
  answers (Write extent content) q plan xt suits job_is claim Finished next contents =
      let part = block_range shape t.desk.mode extent claim.cut in
      let of = writing_in t.desk.mode part.block.0 (offsets (size P A shape) part.extents) content in
      let g = subst (λ (k : Rattle.wb_link.specs.Tables.Job). WorldFollows (Answers k Finished) a f.site.world (situation shape t devices actors) (record x { task = None })) (ap (λ (k : TaskJob). job_for (size P A shape) content k) claim.is_job ∙ job_written (size P A shape) content part) (answer_follows (Write extent content) q plan xt suits Finished next) in
      let b = beside P A shape images t commit devices actors n known f a x ex in
      subst (λ (k : Job). Goes P A shape (record { devices = devices; commit = commit; phase = Stands (record { words = t.words; desk = t.desk }); actors = slice_set actors a (actor_then {P = P} {A = A} shape (Stands t) devices x (End Finished) Done) }) (finished_note n a doing k shown)) (sym job_is)
      (answered_with (Write extent content) q plan xt suits Finished next Finished of (record n { finished = all_raised n.finished doing.entered; doings = slice_set n.doings a None }) (length-set n.doings a None) refl g
      (notes_followed.write_answered t.desk.mode part.block.0 _ content Stays a f.site.world _ _ g b.0 n f.notes b.1 (noted_within P A shape images t commit devices actors n known f a x ex) f.notes_agree doing noted))
  answers (Invalidate block) q plan xt suits job_is claim Finished next contents =
      let b = beside P A shape images t commit devices actors n known f a x ex in
      let r : IsRequestAt (size P A shape) [] _ InvalidatingPart plan x.card b.0 = doing_of (size P A shape) (most P A shape) t.words x b.0 (Invalidate block) plan (f.phase.agrees.each a x b.0 ex b.1) xt in
      let of = job_for (size P A shape) [] (OnBlock (InvalidatingPart r.part)) in
      let g = subst (λ (k : TaskJob). WorldFollows (Answers (job_for (size P A shape) [] k) Finished) a f.site.world (situation shape t devices actors) (record x { task = None })) r.job (answer_follows (Invalidate block) q plan xt suits Finished next) in
      subst (λ (k : Job). Goes P A shape (record { devices = devices; commit = commit; phase = Stands (record { words = t.words; desk = t.desk }); actors = slice_set actors a (actor_then {P = P} {A = A} shape (Stands t) devices x (End Finished) Done) }) (finished_note n a doing k shown)) (sym job_is)
      (answered_with (Invalidate block) q plan xt suits Finished next Finished of (put n a None) (length-set n.doings a None) refl g
      (notes_followed.invalidation_answered r.part.block.0 Stays a f.site.world _ _ g b.0 n f.notes b.1 (noted_within P A shape images t commit devices actors n known f a x ex) f.notes_agree))
  answers job q plan xt suits job_is claim Finished next contents = absurd q

-- newest by block and offset is latest by sector
newest_latest : (sectors : ℕ) (histories : List History) (b o : ℕ) (contents : List Bytes) → o + length contents ≤ sectors → b * sectors + o + length contents ≤ length histories → AreNewest (by_block sectors zeros histories) b o contents → All IsLatest (readings_from histories (b * sectors + o) contents)
newest_latest sectors histories b o [] room inside all = λ k d l. absurd (omega (arith, l))
newest_latest sectors histories b o (c ∷ contents) room inside all =
    All-cons IsLatest _ (readings_from histories (suc (b * sectors + o)) contents) here
    (subst (λ (k : ℕ). All IsLatest (readings_from histories k contents)) (let e : b * sectors + (o + 1) ≡ suc (b * sectors + o) = omega arith in e)
    (newest_latest sectors histories b (o + 1) contents (omega (arith, room)) (omega (arith, inside)) all.1))
  where
    here : IsLatest (record { sector = b * sectors + o; content = c; latest = Rattle.wb_promise.specs.Clerk.latest_of (slice_get histories (b * sectors + o)) })
    here =
        let h = there histories (b * sectors + o) (omega (arith, inside)) in
        let is : by_block sectors zeros histories b o ≡ h.0 = is_there sectors zeros histories b o h.0 (omega (arith, room)) h.1 in
        ap Rattle.wb_promise.specs.Clerk.latest_of h.1 ∙ ap (λ (g : History). Some (newest g)) (sym is) ∙ ap (λ (x : Bytes). Some x) (sym all.0)

module _ (P A : Type 0) (shape : Shape) (images : Images) (t : Target P) (commit : Option RunningCommit) (devices : Devices (List History)) (actors : List Actor) (n : Notes) (known : MetadataKept {P = P} {A = A} shape.geometry images (Stands t) commit devices.metadata)
    (f : Followed P A shape images (standing P A shape images t commit devices actors n) n) (a : ℕ) (x : Actor) (ex : slice_get actors a ≡ Some x) (plan : Plan) (suits : Suits shape.geometry.origin_blocks plan x.card)
    (doing : Doing) (noted : slice_get n.doings a ≡ Some (Some doing)) (extent : Extent) (xt : x.task ≡ Some (Read extent, plan)) (job_is : doing.job ≡ Read extent) (claim : JobClaim shape t.desk.mode (Read extent) plan doing) (device : Dev) (e : Extent) (next : Device (ReadExtent device e) ≡ want plan) (holds : HoldsBlocks device) where
  pub given_latest : (contents : List Bytes) → length contents ≡ e.count → GivesEach (device_in device devices) e.first contents → All IsLatest (readings_from n.histories (sector_for shape extent e) contents)
  given_latest contents many_read gives =
      let g = read_follows P A shape images t commit devices actors n known f a x ex [] doing noted extent plan xt suits job_is claim device e next holds contents many_read gives in
      let b = beside P A shape images t commit devices actors n known f a x ex in
      let less = noted_within P A shape images t commit devices actors n known f a x ex in
      let part = block_range shape t.desk.mode extent claim.cut in
      let right = is_right (size P A shape) (many P A shape) f.site f.notes f.reached _ (records_happen (size P A shape) f.site g.records f.phase.phase_is g.run) in
      let newest = notes_followed.newest_read Stays part.block.0 (e.first % size P A shape) contents a f.site.world _ _ g b.0 n f.notes b.1 less f.notes_agree right in
      let r : IsRequestAt (size P A shape) [] _ ReadingPart plan x.card b.0 = doing_of (size P A shape) (most P A shape) t.words x b.0 (Read extent) plan (f.phase.agrees.each a x b.0 ex b.1) xt in
      let first = begins_by plan (Device (ReadExtent device e)) (sym next) (λ answer q. absurd (cc)) in
      let room = (subst (λ (ws : List Want). AreOfBlock (size P A shape) r.part.block.0 ws) first.1 r.of_block).0.room in
      let m = may_start shape extent claim.inside in
      let low : part.block.0 < shape.geometry.origin_blocks = div_below extent.first shape.geometry.block shape.geometry.origin_blocks (some_sectors shape extent m) (let i = m.inside in let s = m.some in omega (arith, i, s, mul_comm shape.geometry.block shape.geometry.origin_blocks)) in
      let m1 : (part.block.0 + 1) * shape.geometry.block ≤ shape.geometry.origin_blocks * shape.geometry.block = mul-le-mul_right shape.geometry.block (omega (arith, low)) in
      let sectors = f.sized.sectors in
      newest_latest (size P A shape) n.histories part.block.0 (e.first % size P A shape) contents (omega (arith, room, many_read)) (omega (arith, m1, room, many_read, sectors, mul_comm shape.geometry.block shape.geometry.origin_blocks)) newest

-- ---- any step

module _ (P A : Type 0) (shape : Shape) (images : Images) (t : Target P) (commit : Option RunningCommit) (devices : Devices (List History)) (actors : List Actor) (n : Notes) (known : MetadataKept {P = P} {A = A} shape.geometry images (Stands t) commit devices.metadata)
    (f : Followed P A shape images (standing P A shape images t commit devices actors n) n) (rule : LockRule shape.geometry.origin_blocks t.words (cards_of actors)) (a : ℕ) (x : Actor) (ex : slice_get actors a ≡ Some x) (plan : Plan) (suits : Suits shape.geometry.origin_blocks plan x.card)
    (doing : Doing) (noted : slice_get n.doings a ≡ Some (Some doing)) where
  abbrev w : State P A
  w = standing P A shape images t commit devices actors n

  abbrev Done_by : Job → Want → Got → List Bytes → Chosen P A → Type 0
  Done_by job next got read chosen = Goes P A shape (stepped shape w a x next got chosen (λ step. device_done job x.buffer step chosen))
      (noted_step shape t.desk.mode (shown shape (stepped shape w a x next got chosen (λ step. device_done job x.buffer step chosen))) n a (Some (Some doing)) next got read)

  abbrev Failed_by : Choice → Job → Want → List Bytes → Chosen P A → Type 0
  Failed_by choice job next read chosen = Goes P A shape (stepped shape w a x next Fault chosen (λ step. device_failed (lands (device_of step) choice) job x.buffer step chosen))
      (noted_step shape t.desk.mode (shown shape (stepped shape w a x next Fault chosen (λ step. device_failed (lands (device_of step) choice) job x.buffer step chosen))) n a (Some (Some doing)) next Fault read)

  own : (job : TaskJob) (next : Want) → plan.job ≡ job → next ≡ want plan → IsOwnStep job next
  own job next j h = own_next shape.geometry.origin_blocks plan x.card suits job next j h

  -- ---- reads

  module _ (extent : Extent) (xt : x.task ≡ Some (Read extent, plan)) (job_is : doing.job ≡ Read extent) (claim : JobClaim shape t.desk.mode (Read extent) plan doing) where
    abbrev of_read : TaskJob
    of_read = OnBlock (ReadingPart (block_range shape t.desk.mode extent claim.cut))

    pub read_steps : (next : Want) (got : Got) (read : List Bytes) (chosen : Chosen P A) → next ≡ want plan → Gives shape w x (Read extent) next got read chosen → Done_by (Read extent) next got read chosen
    read_steps (Cell step) got read chosen e g = subst (λ (v : Got). Done_by (Read extent) (Cell step) v read chosen) (sym g.1)
        (on_words P A shape images t commit devices actors n known f rule a x ex (Read extent) plan xt suits step tt e)
    read_steps (Device (ReadExtent d ex')) got read chosen e g = subst (λ (v : Got). Done_by (Read extent) (Device (ReadExtent d ex')) v read chosen) (sym g.2)
        (subst (λ (c : Chosen P A). Done_by (Read extent) (Device (ReadExtent d ex')) Done read c) (sym g.1)
        (subst (λ (ds : Devices (List History)). Goes P A shape (record { devices = ds; commit = commit; phase = Stands t; actors = slice_set actors a (actor_then {P = P} {A = A} shape (Stands t) devices x (Device (ReadExtent d ex')) Done) }) (noted_step shape t.desk.mode [] n a (Some (Some doing)) (Device (ReadExtent d ex')) Done read)) (sym (same_device d devices g.0))
        (reads P A shape images t commit devices actors n known f a x ex [] doing noted extent plan xt suits job_is claim d ex' e g.0 read g.3 g.4)))
    read_steps (End answer) got read chosen e g = subst (λ (v : Got). Done_by (Read extent) (End answer) v read chosen) (sym g.1) (subst (λ (c : Chosen P A). Done_by (Read extent) (End answer) Done read c) (sym g.0.1)
        (answers P A shape images t commit devices actors n known f a x ex _ doing noted (Read extent) tt plan xt suits job_is claim answer e read))
    read_steps (Device (WriteExtent d ex')) got read chosen e g = absurd g
    read_steps next got read chosen e g = absurd (own of_read next claim.is_job e)

    pub read_faults : (choice : Choice) (next : Want) (read : List Bytes) (chosen : Chosen P A) → next ≡ want plan → MayFailAt devices choice next → Falters w choice next chosen → Failed_by choice (Read extent) next read chosen
    read_faults choice (Device (ReadExtent d ex')) read chosen e m g = subst (λ (c : Chosen P A). Failed_by choice (Read extent) (Device (ReadExtent d ex')) read c) (sym g.0)
        (subst (λ (ds : Devices (List History)). Goes P A shape (record { devices = ds; commit = commit; phase = Stands t; actors = slice_set actors a (actor_then {P = P} {A = A} shape (Stands t) devices x (Device (ReadExtent d ex')) Fault) }) (noted_step shape t.desk.mode [] n a (Some (Some doing)) (Device (ReadExtent d ex')) Fault read)) (sym (same_device d devices g.1))
        (read_fails P A shape images t commit devices actors n known f a x ex [] doing noted extent plan xt suits job_is claim d ex' e g.1 read))
    read_faults choice (Device step) read chosen e m g = absurd (own of_read (Device step) claim.is_job e)
    read_faults choice next read chosen e m g = absurd m

  -- ---- writes

  module _ (extent : Extent) (content : Bytes) (xt : x.task ≡ Some (Write extent content, plan)) (job_is : doing.job ≡ Write extent content) (claim : JobClaim shape t.desk.mode (Write extent content) plan doing) where
    abbrev of_write : TaskJob
    of_write = OnBlock (write_job t.desk.mode (block_range shape t.desk.mode extent claim.cut))

    pub write_steps : (next : Want) (got : Got) (read : List Bytes) (chosen : Chosen P A) → next ≡ want plan → Gives shape w x (Write extent content) next got read chosen → Done_by (Write extent content) next got read chosen
    write_steps (Cell step) got read chosen e g = subst (λ (v : Got). Done_by (Write extent content) (Cell step) v read chosen) (sym g.1)
        (on_words P A shape images t commit devices actors n known f rule a x ex (Write extent content) plan xt suits step tt e)
    write_steps (Device (WriteExtent d ex')) got read chosen e g = subst (λ (v : Got). Done_by (Write extent content) (Device (WriteExtent d ex')) v read chosen) (sym g.2)
        (writes P A shape images t commit devices actors n known f a x ex [] doing noted extent content plan xt suits job_is claim d ex' e g.0 read g.3)
    write_steps (End answer) got read chosen e g = subst (λ (v : Got). Done_by (Write extent content) (End answer) v read chosen) (sym g.1) (subst (λ (c : Chosen P A). Done_by (Write extent content) (End answer) Done read c) (sym g.0.1)
        (answers P A shape images t commit devices actors n known f a x ex _ doing noted (Write extent content) tt plan xt suits job_is claim answer e read))
    write_steps (Desk (Unmap bl)) got read (Asks new) e g = subst (λ (v : Got). Done_by (Write extent content) (Desk (Unmap bl)) v read (Asks new)) (sym g.1)
        (unmap_goes P A shape images t commit devices actors n known f a x ex (Write extent content) tt plan xt suits bl new e g.2 refl)
    write_steps (Desk (Unmap bl)) got read chosen e g = absurd g.2
    write_steps (Device (ReadExtent d ex')) got read chosen e g = absurd g
    write_steps next got read chosen e g = absurd (write_own t.desk.mode (block_range shape t.desk.mode extent claim.cut) next (own of_write next claim.is_job e))

    pub write_faults : (choice : Choice) (next : Want) (read : List Bytes) (chosen : Chosen P A) → StepInside shape next → (length devices.cache ≡ Rattle.wb_promise.specs.States.cache_sector_count shape) → (length devices.origin ≡ sector_count shape) → next ≡ want plan → MayFailAt devices choice next → Falters w choice next chosen → Failed_by choice (Write extent content) next read chosen
    write_faults choice (Device (WriteExtent d ex')) read chosen inside cs os e m g = subst (λ (c : Chosen P A). Failed_by choice (Write extent content) (Device (WriteExtent d ex')) read c) (sym g.0)
        (write_fails P A shape images t commit devices actors n known f a x ex [] doing noted extent content plan xt suits job_is claim d ex' e g.1 read (lands d choice) (by d g.1 inside))
      where
        by : (d : Dev) → HoldsBlocks d → StepInside shape (Device (WriteExtent d ex')) → ex'.first + ex'.count ≤ length (device_in d devices)
        by Cache h i = subst (λ (k : ℕ). ex'.first + ex'.count ≤ k) (sym cs) i
        by Origin h i = subst (λ (k : ℕ). ex'.first + ex'.count ≤ k) (sym os) i
        by Metadata h i = absurd h
    write_faults choice (Device step) read chosen inside cs os e m g = absurd (write_own t.desk.mode (block_range shape t.desk.mode extent claim.cut) (Device step) (own of_write (Device step) claim.is_job e))
    write_faults choice next read chosen inside cs os e m g = absurd m

  -- ---- invalidations

  module _ (block : OBlock) (xt : x.task ≡ Some (Invalidate block, plan)) (job_is : doing.job ≡ Invalidate block) where
    -- what it is there
    at_it : (part : BlockRange) × (plan.job ≡ OnBlock (InvalidatingPart part))
    at_it =
        let b = beside P A shape images t commit devices actors n known f a x ex in
        let r : IsRequestAt (size P A shape) [] _ InvalidatingPart plan x.card b.0 = doing_of (size P A shape) (most P A shape) t.words x b.0 (Invalidate block) plan (f.phase.agrees.each a x b.0 ex b.1) xt in
        (r.part, r.job)

    pub invalidation_steps : (next : Want) (got : Got) (read : List Bytes) (chosen : Chosen P A) → next ≡ want plan → Gives shape w x (Invalidate block) next got read chosen → Done_by (Invalidate block) next got read chosen
    invalidation_steps (Cell step) got read chosen e g = subst (λ (v : Got). Done_by (Invalidate block) (Cell step) v read chosen) (sym g.1)
        (on_words P A shape images t commit devices actors n known f rule a x ex (Invalidate block) plan xt suits step tt e)
    invalidation_steps (Desk (Unmap bl)) got read (Asks new) e g = subst (λ (v : Got). Done_by (Invalidate block) (Desk (Unmap bl)) v read (Asks new)) (sym g.1)
        (unmap_goes P A shape images t commit devices actors n known f a x ex (Invalidate block) tt plan xt suits bl new e g.2 refl)
    invalidation_steps (Desk (Unmap bl)) got read chosen e g = absurd g.2
    invalidation_steps (End answer) got read chosen e g = subst (λ (v : Got). Done_by (Invalidate block) (End answer) v read chosen) (sym g.1) (subst (λ (c : Chosen P A). Done_by (Invalidate block) (End answer) Done read c) (sym g.0.1)
        (answers P A shape images t commit devices actors n known f a x ex _ doing noted (Invalidate block) tt plan xt suits job_is tt answer e read))
    invalidation_steps next got read chosen e g = absurd (own (OnBlock (InvalidatingPart at_it.0)) next at_it.1 e)

    pub invalidation_faults : (choice : Choice) (next : Want) (read : List Bytes) (chosen : Chosen P A) → next ≡ want plan → MayFailAt devices choice next → Failed_by choice (Invalidate block) next read chosen
    invalidation_faults choice (Device step) read chosen e m = absurd (own (OnBlock (InvalidatingPart at_it.0)) (Device step) at_it.1 e)
    invalidation_faults choice next read chosen e m = absurd m
