-- Each step of a read or a write on an extent of a device is followed.
use Rattle.std.proofs.Common.{None, zero, suc, Some, ◌%◌, length, replicate, map, ◌≡◌, ◌≤◌, ◌+◌, ◌∙◌, ◌⊎◌, inl, inr, ℕ, Bool, true, false, List, [], ◌∷◌, Option, refl, sym, ap, subst, slice_get}
use Rattle.wb_types.specs.declared.extent.Extent.{Extent}
use Rattle.wb_types.specs.declared.mode.Mode.{Mode}
use Rattle.wb_types.specs.declared.mode.Mode.TheVariants.{Writeback, Writethrough, Passthrough}
use Rattle.wb_types.specs.declared.mode.Dev.{Dev}
use Rattle.wb_types.specs.declared.refusal.Refusal.TheVariants.{Io}
use Rattle.wb_types.specs.declared.mode.Dev.TheVariants.{Metadata, Cache, Origin}
use Rattle.wb_disk.specs.Device.{Content, History}
use Rattle.wb_disk.specs.Extents.{GivesEach, written_each, written_where}
use Rattle.wb_contents.specs.Devices.{by_block}
use Rattle.wb_words.specs.SharedWords.{Words, word_at}
use Rattle.wb_words.specs.declared.card.Card.{Card}
use Rattle.wb_tasks.specs.Tables.{BlockRange, BlockJob, Reading, TaskJob, OnBlock, range_of}
use Rattle.wb_tasks.specs.Plan.{Plan, want, after, first_step, device_of}
use Rattle.wb_tasks.specs.Ready.{Suits, HoldsBlocks}
use Rattle.wb_tasks.specs.declared.step.Answer.{Answer}
use Rattle.wb_tasks.specs.declared.step.DeviceStep.{DeviceStep}
use Rattle.wb_tasks.specs.declared.step.DeviceStep.TheVariants.{Read as ReadExtent, Write as WriteExtent}
use Rattle.wb_tasks.specs.declared.step.Want.{Want}
use Rattle.wb_tasks.specs.declared.step.Want.TheVariants.{Device}
use Rattle.wb_tasks.specs.declared.step.Got.{Got}
use Rattle.wb_tasks.specs.declared.step.Got.TheVariants.{Done, Fault}
use Rattle.wb_devices.specs.declared.devices.Devices.{Devices}
use Rattle.wb_devices.specs.Moving.{device_in}
use Rattle.wb_link.specs.Tables.{Seal, Script, Set_failed, breaking, Job as AbstractJob, Want as AbstractWant, Read_all, Write_all, Io as AnsweredIo, Gave, Got as AbstractGot, Done as DoneThere}
use Rattle.wb_link.specs.World.{World, Shared, AbstractActor, abstract_contents_for, newest_at, is_alone, job_alone}
use Rattle.wb_refines.specs.Going.{records, shared_after}
use Rattle.wb_refines.specs.Translation.{location_at, wants_of, block_in, job_for, writing_in, script_for, answer_for, offsets, offsets_in}
use Rattle.wb_refines.specs.Data.{IsInBlock, IsSide, left_with, SameBeside, DeviceMoves, read_fault, write_fault}
use Rattle.wb_refines.specs.Models.{IsAt, HasStopped, plan_of, SealAgrees, WordsAgree}
use Rattle.wb_refines.proofs.Locks.{has_no_more}
use Rattle.wb_refines.proofs.Modes.{contents_in, read_releases, read_is, write_is}
use Rattle.wb_refines.proofs.Followed.{rest_plain}
use Rattle.wb_refines.proofs.Moving.{unmaps_none, goes_on_at, extents_followed}
use Rattle.wb_promise.specs.declared.job.Job.{Job}
use Rattle.wb_promise.specs.declared.job.Job.TheVariants.{Read, Write}
use Rattle.wb_promise.specs.States.{Actor, with_device}
use Rattle.wb_types.specs.Extents.{rising}
use Rattle.wb_simulation.specs.Steps.{IsPart, AreOfBlock}
use Rattle.wb_simulation.specs.Actors.{write_of, IsLate, IsRequestAt, IsDoing, StandsFor}
use Rattle.wb_simulation.specs.Telling.{Telling, IsTold, Quietly, Reads, NotesAt, IsWriting, reading as reading_script, AreUnnoted}
use Rattle.wb_simulation.specs.Worlds.{Situation, zeros, Agrees, WorldFollows}
use Rattle.wb_simulation.specs.Laws.{ExtentStepsFollowed, after_step, written_as}
use Rattle.wb_simulation.proofs.Orders.{MigratesNot, does_none}
use Rattle.wb_simulation.proofs.Among.{own_there, goes_on}
use Rattle.wb_simulation.proofs.Written.{range_written, job_written}
use Rattle.wb_simulation.proofs.Followed.{doing_of, begins_by}

-- who has a step on a device to take is at its task there
at_device : (size : ℕ) (content : Content) (failed : Bool) (job_on : BlockRange → BlockJob) (part : BlockRange) (step : DeviceStep) (ws : List Want) (answer : Answer) (card : Card) (y : AbstractActor) →
    IsAt size content (plan_of (job_on part) (Device step ∷ ws) answer) card y ⊎ HasStopped failed (plan_of (job_on part) (Device step ∷ ws) answer) card y ⊎ IsLate failed (plan_of (job_on part) (Device step ∷ ws) answer) y →
    IsAt size content (plan_of (job_on part) (Device step ∷ ws) answer) card y
at_device size content failed job_on part step ws answer card y (inl i) = i
at_device size content failed job_on part step ws answer card y (inr (inl k)) = absurd k.over
at_device size content failed job_on part step ws answer card y (inr (inr l)) = elim l.at [
  | inl e ↦ let steps = ap (λ (p : Plan). first_step p.steps p.answer) e in absurd (cc)
  | inr e ↦ let bad : Device step ∷ ws ≡ [] = e.0 in absurd (cc)
]

-- the words tell of the world what they told
pub words_beside : (words : Words) (to : Option ℕ) (s t : Shared) → SameBeside to s t → WordsAgree words s → WordsAgree words t
words_beside words to s t b w = record { fail = b.fail ∙ w.fail; seals = λ block. subst (λ (f : ℕ → Seal). SealAgrees (word_at words.seals block) (f block.0)) (sym b.seals) (w.seals block) }

module _ (now : Situation) (a : ℕ) (x : Actor) (s : World) (y : AbstractActor) (ex : slice_get now.actors a ≡ Some x) (ey : slice_get s.actors a ≡ Some y) (g : Agrees now s) where
  -- the device of a location is its list
  pub side_of : (device : Dev) (e : Extent) → HoldsBlocks device → IsSide now.size zeros (location_at now.size device e) (device_in device now.devices) s.shared
  side_of Cache e h = g.cache
  side_of Origin e h = g.origin
  side_of Metadata e h = absurd h

  -- and where that is another list now, the other device stays
  pub sides : (device : Dev) (e : Extent) → HoldsBlocks device → (list : List History) (t : Shared) → IsSide now.size zeros (location_at now.size device e) list t → SameBeside (location_at now.size device e) s.shared t →
      (t.origin ≡ by_block now.size zeros (with_device device now.devices list).origin) × (t.cache ≡ by_block now.size zeros (with_device device now.devices list).cache)
  sides Cache e h list t side beside = (beside.other ∙ g.origin, side)
  sides Origin e h list t side beside = (side, beside.other ∙ g.cache)
  sides Metadata e h list t side beside = absurd h

  -- an actor of a request has moved an extent, and its device is this list now
  moved : (telling : Telling) (job : Job) (content : Content) (plan : Plan) (device : Dev) (e : Extent) (got : AbstractGot) (list : List History) (z : AbstractActor) → IsTold telling a y.task (records a y.task (got ∷ [])) → HoldsBlocks device →
      DeviceMoves now.size zeros s.actors a s.shared y y.task (location_at now.size device e) got list z → IsAt now.size content plan x.card z → is_alone z.task ≡ false → IsDoing now.size now.most false job plan x.card x.share z →
      y.order ≡ None → MigratesNot job → WorldFollows telling a s (record now { devices = with_device device now.devices list }) (record x { task = Some (job, plan) })
  moved telling job content plan device e got list z told h m at alone doing own other =
      let t = shared_after s.shared y y.task (got ∷ []) in
      let k = m.beside.images in
      let both = sides device e h list t m.side_is m.beside in
      goes_on now now.words (λ f. f) a x (record x { task = Some (job, plan) }) s y g ex ey telling (with_device device now.devices list) (got ∷ []) t told m.may refl
      (subst (λ (v : AbstractActor). StandsFor now.size now.most now.words (record x { task = Some (job, plan) }) v) (sym m.is) (record { failed = false; has_failed = λ e. absurd (cc); at = doing; below = has_no_more now.size content plan x.card z at; among_others = λ among. alone }))
      (λ l. let bad : true ≡ false = sym l ∙ ap (λ (v : AbstractActor). v.leads) (m.is ∙ at.is) in absurd (cc)) (words_beside now.words (location_at now.size device e) s.shared t m.beside g.words_agree)
      both.0 both.1 k.mode k.committing (k.broken, k.began, k.ended) (k.committed, k.running, k.root_written, k.committed_clean, k.running_clean) (k.mapping, k.blocks) (ap (λ (v : AbstractActor). v.order) (m.is ∙ at.is) ∙ sym own) (λ o h. h) (does_none _ _ _ _ _ other)

pub same_device : (device : Dev) (devices : Devices (List History)) → HoldsBlocks device → with_device device devices (device_in device devices) ≡ devices
same_device Cache devices h = refl
same_device Origin devices h = refl
same_device Metadata devices h = absurd h

module _ (now : Situation) (blocks : ℕ) (a : ℕ) (x : Actor) (s : World) (y : AbstractActor) (ex : slice_get now.actors a ≡ Some x) (ey : slice_get s.actors a ≡ Some y) (g : Agrees now s)
    (part : BlockRange) (is_part : IsPart now.size part) (device : Dev) (e : Extent) (ws : List Want) (answer : Answer) (h : HoldsBlocks device) where
  abbrev reading : Plan
  reading = plan_of (Reading part) (Device (ReadExtent device e) ∷ ws) answer

  abbrev writing : Plan
  writing = plan_of (write_of part) (Device (WriteExtent device e) ∷ ws) answer

  abbrev Then : Telling → Devices (List History) → Job → Plan → Got → Type 0
  Then telling devices' job plan got = WorldFollows telling a s (record now { devices = devices' }) (after_step job plan got x)

  abbrev list : List History
  list = device_in device now.devices

  side : IsSide now.size zeros (location_at now.size device e) list s.shared
  side = side_of now a x s y ex ey g device e h

  -- what it does there, whose task this is
  by_task : (content : Content) (plan : Plan) (got : AbstractGot) (list : List History) (z : AbstractActor) (is : IsAt now.size content plan x.card y) → DeviceMoves now.size zeros s.actors a s.shared y (Some (script_for now.size content is.place plan)) (location_at now.size device e) got list z → DeviceMoves now.size zeros s.actors a s.shared y y.task (location_at now.size device e) got list z
  by_task content plan got list z is m = subst (λ (task : Option Script). DeviceMoves now.size zeros s.actors a s.shared y task (location_at now.size device e) got list z) (sym (ap (λ (v : AbstractActor). v.task) is.is)) m

  -- a read's job there is of its block, and is not alone
  abbrev reads : AbstractJob
  reads = job_for now.size [] (OnBlock (Reading part))

  read_block : block_in reads ≡ part.block.0
  read_block = (read_is part.block.0 (offsets now.size part.extents) part.mode).block

  among_reads : job_alone reads ≡ false
  among_reads = (read_is part.block.0 (offsets now.size part.extents) part.mode).among

  read_done : (extent : Extent) (contents : List Content) → AreOfBlock now.size part.block.0 (Device (ReadExtent device e) ∷ ws) → Suits blocks reading x.card → length contents ≡ e.count → GivesEach list e.first contents → IsAt now.size [] reading x.card y → Then (Reads part.block.0 (e.first % now.size) contents) now.devices (Read extent) reading Done
  read_done extent contents o suits n given is =
      let there = newest_at s.shared (location_at now.size device e) part.block.0 in
      let at = goes_on_at now.size [] (Reading part) (ReadExtent device e) ws answer x.card y there (rest_plain (Reading part) suits.1.1.0 ws suits.1.1.1.1) is in
      subst (λ (ds : Devices (List History)). Then (Reads part.block.0 (e.first % now.size) contents) ds (Read extent) reading Done) (same_device device now.devices h)
      (moved now a x s y ex ey g (Reads part.block.0 (e.first % now.size) contents) (Read extent) [] (after reading Done) device e (Gave there) list _
      (record { mode = part.mode; location = location_at now.size device e; all = offsets now.size part.extents; rest = wants_of now.size is.place (job_for now.size [] (OnBlock (Reading part))) ws; answer = answer_for (job_for now.size [] (OnBlock (Reading part))) answer; there = there; given = told_so; at = ap (λ (v : AbstractActor). v.task) is.is ∙ (λ i. Some (reading_script part.mode part.block.0 (offsets now.size part.extents) (Read_all (location_at now.size device e) (read_block i) (offsets_in now.size e) ∷ wants_of now.size is.place (job_for now.size [] (OnBlock (Reading part))) ws) (answer_for (job_for now.size [] (OnBlock (Reading part))) answer))) ∙ ap counted (sym n); told_is = refl })
      h (by_task [] reading (Gave there) list _ is (subst (λ (b : ℕ). DeviceMoves now.size zeros s.actors a s.shared y (Some (record { job = reads; steps = Read_all (location_at now.size device e) b (offsets_in now.size e) ∷ wants_of now.size is.place reads ws; answer = answer_for reads answer })) (location_at now.size device e) (Gave there) list (record y { task = Some (script_for now.size [] is.place (after reading Done)); buffer = there })) (sym read_block)
      (extents_followed.read_done now.size zeros s.actors a s.shared y reads (location_at now.size device e) part.block.0 (offsets_in now.size e) (wants_of now.size is.place reads ws) (answer_for reads answer) list side))) at among_reads
      (record { part = part; job = refl; is_part = is_part; of_block = o.1; at = inl at }) (ap (λ (v : AbstractActor). v.order) is.is) tt)
    where
      told_so : contents ≡ map (newest_at s.shared (location_at now.size device e) part.block.0) (rising (e.first % now.size) (length contents))
      told_so = extents_followed.reads now.size zeros s.shared part.block.0 device e list contents o.0 side n given ∙ (λ i. map (newest_at s.shared (location_at now.size device e) part.block.0) (rising (e.first % now.size) (sym n i)))

      counted : ℕ → Option Script
      counted k = Some (reading_script part.mode part.block.0 (offsets now.size part.extents) (Read_all (location_at now.size device e) part.block.0 (rising (e.first % now.size) k) ∷ wants_of now.size is.place (job_for now.size [] (OnBlock (Reading part))) ws) (answer_for (job_for now.size [] (OnBlock (Reading part))) answer))

  read_fails : (extent : Extent) → AreOfBlock now.size part.block.0 (Device (ReadExtent device e) ∷ ws) → IsAt now.size [] reading x.card y → Then Quietly now.devices (Read extent) reading Fault
  read_fails extent o is =
      let at : IsAt now.size [] (after reading Fault) x.card (record y { task = Some (script_for now.size [] is.place (after reading Fault)) }) = record { place = is.place; buffer = is.buffer; is = ap (λ (v : AbstractActor). record v { task = Some (script_for now.size [] is.place (after reading Fault)) }) is.is; saw = tt; unmaps = unmaps_none is.place (after reading Fault).steps tt } in
      subst (λ (ds : Devices (List History)). Then Quietly ds (Read extent) reading Fault) (same_device device now.devices h)
      (moved now a x s y ex ey g Quietly (Read extent) [] (after reading Fault) device e read_fault list _ (read_fault ∷ [], subst (λ (v : AbstractActor). AreUnnoted v.task (read_fault ∷ [])) (sym is.is) (tt, tt), refl)
      h (by_task [] reading read_fault list _ is (subst (λ (ws : List AbstractWant). DeviceMoves now.size zeros s.actors a s.shared y (Some (script_for now.size [] is.place reading)) (location_at now.size device e) read_fault list (record y { task = Some (record { job = reads; steps = ws; answer = AnsweredIo }) })) (read_releases part.block.0 (offsets now.size part.extents) part.mode)
      (extents_followed.read_fails now.size zeros s.actors a s.shared y reads (location_at now.size device e) (block_in reads) (offsets_in now.size e) _ _ list side))) at among_reads
      (record { part = part; job = refl; is_part = is_part; of_block = tt; at = inl at }) (ap (λ (v : AbstractActor). v.order) is.is) tt)

  -- a write there
  abbrev writes : Content → AbstractJob
  writes content = job_for now.size content (OnBlock (write_of part))

  -- which is one of its mode
  is_written : (content : Content) → writes content ≡ writing_in part.mode part.block.0 (offsets now.size part.extents) content
  is_written content = job_written now.size content part

  own_block : (content : Content) → block_in (writes content) ≡ part.block.0
  own_block content = ap block_in (is_written content) ∙ (write_is part.block.0 (offsets now.size part.extents) content part.mode).block

  -- what it is told as, whatever comes of it: in write-through what goes to the cache is noted no more
  abbrev telling : Content → Telling
  telling content = written_as part.mode device part.block.0 (e.first % now.size) e.count content

  write_told : (content : Content) (got : AbstractGot) → IsAt now.size content writing x.card y → IsTold (telling content) a y.task (records a y.task (got ∷ []))
  write_told content got is = by_mode part.mode refl device refl
    where
      rest : List AbstractWant
      rest = wants_of now.size is.place (writes content) ws

      on_extent : Mode → Dev → Script
      on_extent mode d = record { job = writing_in mode part.block.0 (offsets now.size part.extents) content; steps = Write_all (location_at now.size d e) part.block.0 (offsets_in now.size e) ∷ rest; answer = answer_for (writes content) answer }

      at_extent : (mode : Mode) (d : Dev) → part.mode ≡ mode → device ≡ d → y.task ≡ Some (on_extent mode d)
      at_extent mode d m same = ap (λ (v : AbstractActor). v.task) is.is ∙ (λ i. Some (record { job = (is_written content ∙ ap (λ (k : Mode). writing_in k part.block.0 (offsets now.size part.extents) content) m) i; steps = Write_all (location_at now.size (same i) e) (own_block content i) (offsets_in now.size e) ∷ rest; answer = answer_for (writes content) answer }))

      noted : (mode : Mode) (d : Dev) → part.mode ≡ mode → device ≡ d → NotesAt mode (location_at now.size d e) → IsWriting a part.block.0 (e.first % now.size) e.count content y.task (records a y.task (got ∷ []))
      noted mode d m same n = record { mode = mode; location = location_at now.size d e; notes = n; all = offsets now.size part.extents; rest = rest; answer = answer_for (writes content) answer; got = got; at = at_extent mode d m same; told_is = refl }

      by_mode : (mode : Mode) → part.mode ≡ mode → (d : Dev) → device ≡ d → IsTold (written_as mode d part.block.0 (e.first % now.size) e.count content) a y.task (records a y.task (got ∷ []))
      by_mode Writethrough m Cache same = (got ∷ [], subst (λ (t : Option Script). AreUnnoted t (got ∷ [])) (sym (at_extent Writethrough Cache m same)) (tt, tt), refl)
      by_mode Writethrough m Origin same = noted Writethrough Origin m same tt
      by_mode Writethrough m Metadata same = noted Writethrough Metadata m same tt
      by_mode Writeback m d same = noted Writeback d m same tt
      by_mode Passthrough m d same = noted Passthrough d m same tt

  one_content : (content : Content) (count o : ℕ) → map (λ (i : ℕ). content) (rising o count) ≡ replicate count content
  one_content content zero o = refl
  one_content content (suc count) o = ap (λ cs. content ∷ cs) (one_content content count (o + 1))

  all_content : (content : Content) → map (abstract_contents_for (writes content) y.buffer) (offsets_in now.size e) ≡ replicate e.count content
  all_content content = ap (λ (f : ℕ → Content). map f (offsets_in now.size e)) (ap (λ (j : AbstractJob). abstract_contents_for j y.buffer) (is_written content) ∙ contents_in part.block.0 (offsets now.size part.extents) content part.mode y.buffer) ∙ one_content content e.count (e.first % now.size)

  in_own_block : (content : Content) → IsInBlock now.size part.block.0 device e → IsInBlock now.size (block_in (writes content)) device e
  in_own_block content i = subst (λ (b : ℕ). IsInBlock now.size b device e) (sym (own_block content)) i

  among : (content : Content) → job_alone (writes content) ≡ false
  among content = ap job_alone (is_written content) ∙ (write_is part.block.0 (offsets now.size part.extents) content part.mode).among

  breaks : (content : Content) → breaking (writes content) ≡ Set_failed ∷ []
  breaks content = ap breaking (is_written content) ∙ (write_is part.block.0 (offsets now.size part.extents) content part.mode).breaks

  write_done : (extent : Extent) (content : Content) → AreOfBlock now.size part.block.0 (Device (WriteExtent device e) ∷ ws) → Suits blocks writing x.card → e.first + e.count ≤ length list → IsAt now.size content writing x.card y →
      Then (telling content) (with_device device now.devices (written_each list e.first (replicate e.count content))) (Write extent content) writing Done
  write_done extent content o suits room is =
      let at = goes_on_at now.size content (write_of part) (WriteExtent device e) ws answer x.card y y.buffer (rest_plain (write_of part) suits.1.1.0 ws suits.1.1.1.1) is in
      subst (λ (cs : List Content). Then (telling content) (with_device device now.devices (written_each list e.first cs)) (Write extent content) writing Done) (all_content content)
      (moved now a x s y ex ey g (telling content) (Write extent content) content (after writing Done) device e DoneThere _ _ (write_told content DoneThere is)
      h (by_task content writing DoneThere _ _ is (extents_followed.write_done now.size zeros s.actors a s.shared y _ (block_in (writes content)) device e _ _ list (in_own_block content o.0) side room)) at (among content)
      (record { part = part; job = refl; is_part = is_part; of_block = o.1; at = inl at }) (ap (λ (v : AbstractActor). v.order) is.is) tt)

  write_fails : (extent : Extent) (content : Content) (lands : ℕ → Bool) → AreOfBlock now.size part.block.0 (Device (WriteExtent device e) ∷ ws) → e.first + e.count ≤ length list → IsAt now.size content writing x.card y →
      Then (telling content) (with_device device now.devices (written_where lands list e.first (replicate e.count content))) (Write extent content) writing Fault
  write_fails extent content lands o room is =
      let fault = write_fault now.size (location_at now.size device e) (block_in (writes content)) lands in
      let fallen : IsAt now.size content (after writing Fault) x.card (record y { task = Some (script_for now.size content is.place (after writing Fault)) }) = record { place = is.place; buffer = is.buffer; is = ap (λ (v : AbstractActor). record v { task = Some (script_for now.size content is.place (after writing Fault)) }) is.is; saw = (Io (device_of (WriteExtent device e)), refl); unmaps = unmaps_none is.place (after writing Fault).steps tt } in
      let at = subst (λ (steps : List AbstractWant). IsAt now.size content (after writing Fault) x.card (left_with y (writes content) steps AnsweredIo)) (sym (breaks content)) fallen in
      subst (λ (cs : List Content). Then (telling content) (with_device device now.devices (written_where lands list e.first cs)) (Write extent content) writing Fault) (all_content content)
      (moved now a x s y ex ey g (telling content) (Write extent content) content (after writing Fault) device e fault _ _ (write_told content fault is)
      h (by_task content writing fault _ _ is (extents_followed.write_fails now.size zeros s.actors a s.shared y _ (block_in (writes content)) device e _ _ list lands (in_own_block content o.0) side room)) at (among content)
      (record { part = part; job = refl; is_part = is_part; of_block = tt; at = inl at }) (ap (λ (v : AbstractActor). v.order) is.is) tt)

-- a request of this part whose next step is on a device, as it is there
pub record HasStep (size : ℕ) (content : Content) (job_on : BlockRange → BlockJob) (part : BlockRange) (step : DeviceStep) (plan : Plan) (card : Card) (y : AbstractActor) : Type 0 where
  pub is_part : IsPart size part
  pub later : List Want
  pub is : plan ≡ plan_of (job_on part) (Device step ∷ later) plan.answer
  pub of_block : AreOfBlock size part.block.0 (Device step ∷ later)
  pub at : IsAt size content (plan_of (job_on part) (Device step ∷ later) plan.answer) card y

abbrev part_in : BlockRange → TaskJob → BlockRange
part_in other (OnBlock job) = range_of job
part_in other job = other

has_step : (size : ℕ) (content : Content) (failed : Bool) (job_on : BlockRange → BlockJob) → ((part : BlockRange) → range_of (job_on part) ≡ part) → (part : BlockRange) (step : DeviceStep) (plan : Plan) (card : Card) (y : AbstractActor) → want plan ≡ Device step → plan.job ≡ OnBlock (job_on part) →
    IsRequestAt size content failed job_on plan card y → HasStep size content job_on part step plan card y
has_step size content failed job_on range part step plan card y next of_part r = subst (λ (p : BlockRange). HasStep size content job_on p step plan card y) same (record {
  is_part = r.is_part;
  later = b.0;
  is = is;
  of_block = subst (λ (ws : List Want). AreOfBlock size r.part.block.0 ws) b.1 r.of_block;
  at = at_device size content failed job_on r.part step b.0 plan.answer card y (subst At is r.at);
})
  where
    At : Plan → Type 0
    At p = IsAt size content p card y ⊎ HasStopped failed p card y ⊎ IsLate failed p y

    b : (ws : List Want) × (plan.steps ≡ Device step ∷ ws)
    b = begins_by plan (Device step) next (λ answer k. absurd (cc))

    is : plan ≡ plan_of (job_on r.part) (Device step ∷ b.0) plan.answer
    is = λ i. record { job = r.job i; steps = b.1 i; answer = plan.answer }

    same : r.part ≡ part
    same = sym (range r.part) ∙ ap (part_in part) (sym r.job ∙ of_part) ∙ range part

pub extent_steps_followed : ExtentStepsFollowed
extent_steps_followed = record {
  read_done = λ now blocks a x extent part plan device e contents s wants of_part suits h n given.
      let y = own_there now s wants.agrees a x wants.here in
      let k = has_step now.size [] _ Reading (λ p. refl) part (ReadExtent device e) plan x.card y.0 wants.asks of_part (doing_of now.size now.most now.words x y.0 (Read extent) plan (wants.agrees.each a x y.0 wants.here y.1) wants.task) in
      subst (λ (p : Plan). WorldFollows (Reads part.block.0 (e.first % now.size) contents) a s now (after_step (Read extent) p Done x)) (sym k.is)
      (read_done now blocks a x s y.0 wants.here y.1 wants.agrees part k.is_part device e k.later plan.answer h extent contents k.of_block (subst (λ (p : Plan). Suits blocks p x.card) k.is suits) n given k.at);
  read_fails = λ now blocks a x extent part plan device e s wants of_part suits h.
      let y = own_there now s wants.agrees a x wants.here in
      let k = has_step now.size [] _ Reading (λ p. refl) part (ReadExtent device e) plan x.card y.0 wants.asks of_part (doing_of now.size now.most now.words x y.0 (Read extent) plan (wants.agrees.each a x y.0 wants.here y.1) wants.task) in
      subst (λ (p : Plan). WorldFollows Quietly a s now (after_step (Read extent) p Fault x)) (sym k.is)
      (read_fails now blocks a x s y.0 wants.here y.1 wants.agrees part k.is_part device e k.later plan.answer h extent k.of_block k.at);
  write_done = λ now blocks a x extent content part plan device e s wants of_part suits h room.
      let y = own_there now s wants.agrees a x wants.here in
      let k = has_step now.size content _ write_of range_written part (WriteExtent device e) plan x.card y.0 wants.asks of_part (doing_of now.size now.most now.words x y.0 (Write extent content) plan (wants.agrees.each a x y.0 wants.here y.1) wants.task) in
      subst (λ (p : Plan). WorldFollows (written_as part.mode device part.block.0 (e.first % now.size) e.count content) a s (record now { devices = with_device device now.devices (written_each (device_in device now.devices) e.first (replicate e.count content)) }) (after_step (Write extent content) p Done x)) (sym k.is)
      (write_done now blocks a x s y.0 wants.here y.1 wants.agrees part k.is_part device e k.later plan.answer h extent content k.of_block (subst (λ (p : Plan). Suits blocks p x.card) k.is suits) room k.at);
  write_fails = λ now blocks a x extent content part plan device e lands s wants of_part suits h room.
      let y = own_there now s wants.agrees a x wants.here in
      let k = has_step now.size content _ write_of range_written part (WriteExtent device e) plan x.card y.0 wants.asks of_part (doing_of now.size now.most now.words x y.0 (Write extent content) plan (wants.agrees.each a x y.0 wants.here y.1) wants.task) in
      subst (λ (p : Plan). WorldFollows (written_as part.mode device part.block.0 (e.first % now.size) e.count content) a s (record now { devices = with_device device now.devices (written_where lands (device_in device now.devices) e.first (replicate e.count content)) }) (after_step (Write extent content) p Fault x)) (sym k.is)
      (write_fails now blocks a x s y.0 wants.here y.1 wants.agrees part k.is_part device e k.later plan.answer h extent content lands k.of_block room k.at);
}
