-- A migration's steps on extents are followed.
use Rattle.std.proofs.Common.{◌≡◌, ◌≤◌, ◌+◌, ◌∙◌, ◌⊎◌, inl, inr, ℕ, zero, suc, Bool, false, List, [], ◌∷◌, Option, Some, refl, sym, ap, subst, arith, length, map, take, drop, slice_get, Contains}
use Rattle.wb_types.specs.Extents.{rising}
use Rattle.wb_types.specs.declared.extent.Extent.{Extent}
use Rattle.wb_types.specs.declared.mode.Dev.{Dev}
use Rattle.wb_types.specs.declared.mode.Dev.TheVariants.{Metadata}
use Rattle.wb_types.specs.declared.refusal.Refusal.TheVariants.{Io}
use Rattle.wb_disk.specs.Device.{Content, History, newest}
use Rattle.wb_disk.specs.Extents.{GivesEach, written_each, written_where}
use Rattle.wb_types.specs.declared.number.OBlock.{OBlock}
use Rattle.wb_words.specs.declared.word.Access.TheVariants.{Owned}
use Rattle.wb_words.specs.declared.step.CellStep.TheVariants.{Release, SetFailed}
use Rattle.wb_tasks.specs.Tables.{BlockRange, Migrating}
use Rattle.wb_tasks.specs.Ready.{Suits, HoldsBlocks, source_of, target_of}
use Rattle.wb_tasks.specs.declared.step.Answer.{Answer}
use Rattle.wb_tasks.specs.declared.step.Answer.TheVariants.{Refused as Refuses}
use Rattle.wb_tasks.specs.declared.step.DeviceStep.{DeviceStep}
use Rattle.wb_tasks.specs.declared.step.DeviceStep.TheVariants.{Read, Write}
use Rattle.wb_tasks.specs.declared.step.DeskStep.TheVariants.{ReleaseOrder}
use Rattle.wb_tasks.specs.declared.step.Migration.{Migration}
use Rattle.wb_tasks.specs.declared.step.Migration.TheVariants.{Promote, Demote, Clean}
use Rattle.wb_tasks.specs.declared.step.Want.{Want}
use Rattle.wb_tasks.specs.declared.step.Want.TheVariants.{Cell, Device, Desk}
use Rattle.wb_devices.specs.declared.devices.Devices.{Devices}
use Rattle.wb_devices.specs.Moving.{device_in}
use Rattle.wb_link.specs.Tables.{Order as AbstractOrder, Job as AbstractJob, Script, Want as AbstractWant, Got as AbstractGot, Done as DoneThere, Answer as AbstractAnswer, Io as AnsweredIo, breaking}
use Rattle.wb_link.specs.World.{World, Shared, Held as Having, Owns, AbstractActor, newest_at, abstract_contents_for}
use Rattle.wb_refines.specs.Going.{shared_after, gone, MayGo}
use Rattle.wb_contents.specs.Devices.{by_block}
use Rattle.wb_refines.specs.Translation.{location_at, offsets, offsets_in}
use Rattle.wb_refines.specs.Data.{IsSide, DeviceMoves, left_with as left_there, read_fault, write_fault}
use Rattle.wb_refines.specs.Models.{SawSeal, SameImages, WordsAgree, plan_of, held_of, held_for}
use Rattle.wb_refines.specs.Migrations.{order_on, migration_wants, job_under, migrating}
use Rattle.wb_refines.specs.Carried.{IsMigrationAt, AnswersAlike}
use Rattle.wb_refines.proofs.Cells.{held_plain, saw_plain}
use Rattle.wb_refines.proofs.Followed.{rest_plain}
use Rattle.wb_refines.proofs.Moving.{extents_followed}
use Rattle.wb_refines.proofs.Migrating.{migration_tables_agree}
use Rattle.wb_promise.specs.declared.job.Job.TheVariants.{Migrate}
use Rattle.wb_promise.specs.Effects.{contents_at}
use Rattle.wb_promise.specs.States.{Actor, with_device}
use Rattle.wb_simulation.specs.Steps.{IsNoWrite, IsTail, IsWrittenNext}
use Rattle.wb_simulation.specs.Carried.{order_there, ActorHasRead, IsCarried}
use Rattle.wb_simulation.proofs.Orders.{GoesOn, carried_again}
use Rattle.wb_simulation.proofs.Carrying.{carry_on, carried_job, carried_order}
use Rattle.wb_simulation.specs.Worlds.{Situation, zeros, Agrees, Stays}
use Rattle.wb_simulation.specs.Migrating.{Carried}
use Rattle.wb_simulation.proofs.Moving.{words_beside, side_of, sides, same_device}

-- ---- what a read of a device gives

given_behind : (h : History) (device : List History) (at : ℕ) (cs : List Content) → GivesEach device at cs → GivesEach (h ∷ device) (suc at) cs
given_behind h device at [] g = tt
given_behind h device at (c ∷ cs) g = ((g.0.0, g.0.1, g.0.2), given_behind h device (suc at) cs g.1)

given_from : (device : List History) (at count : ℕ) → at + count ≤ length device → (length (map newest (take count (drop at device))) ≡ count) × GivesEach device at (map newest (take count (drop at device)))
given_from [] zero zero l = (refl, tt)
given_from [] zero (suc n) l = absurd (omega (arith, l))
given_from [] (suc at) count l = absurd (omega (arith, l))
given_from (h ∷ hs) zero zero l = (refl, tt)
given_from (h ∷ hs) zero (suc n) l = let later = given_from hs zero n (omega (arith, l)) in (ap suc later.0, ((h, refl, refl), given_behind h hs zero (map newest (take n hs)) later.1))
given_from (h ∷ hs) (suc at) count l = let later = given_from hs at count (omega (arith, l)) in (later.0, given_behind h hs at (map newest (take count (drop at hs))) later.1)

-- what is no write has nothing to have been read
pub no_write_read : (size : ℕ) (steps : List Want) (buffer : List Content) (there : ℕ → Content) → IsNoWrite steps → ActorHasRead size steps buffer there
no_write_read size (Device (Write device e) ∷ ws) buffer there n = absurd n
no_write_read size steps buffer there n = tt

-- what is read for a write next is what that writes
written_next : (size : ℕ) (e : Extent) (ws : List Want) (buffer : List Content) (there : ℕ → Content) → IsWrittenNext size e ws → buffer ≡ map there (offsets_in size e) → ActorHasRead size ws buffer there
written_next size e (Device (Write to r) ∷ later) buffer there w is = is ∙ sym (λ i. map there (rising (w.1 i) (w.0 i)))
written_next size e ws buffer there w is = absurd w

-- a migration reads and writes where blocks stand, and writes what it has read
blocks_are : (migration : Migration) (device : Dev) → (device ≡ source_of migration) ⊎ (device ≡ target_of migration) → HoldsBlocks device
blocks_are (Promote k) Metadata e = elim e [ inl f ↦ absurd (cc) | inr f ↦ absurd (cc) ]
blocks_are Demote Metadata e = elim e [ inl f ↦ absurd (cc) | inr f ↦ absurd (cc) ]
blocks_are Clean Metadata e = elim e [ inl f ↦ absurd (cc) | inr f ↦ absurd (cc) ]
blocks_are migration device e = tt

writes_read : (order : AbstractOrder) (os : List (List ℕ)) (migration : Migration) (buffer : ℕ → Content) → abstract_contents_for (job_under order os migration) buffer ≡ buffer
writes_read order os (Promote c) buffer = refl
writes_read order os migration buffer = refl

module _ (now : Situation) (a : ℕ) (x : Actor) (s : World) (y : AbstractActor) (g : Agrees now s) (ex : slice_get now.actors a ≡ Some x) (ey : slice_get s.actors a ≡ Some y)
    (migration : Migration) (block : OBlock) (part : BlockRange) (next : Want) (ws : List Want) (answer : Answer) (f : IsCarried now.size now.orders migration block part (next ∷ ws) answer x y) where
  abbrev own : AbstractOrder
  own = order_on part f.c f.next

  abbrev os : List (List ℕ)
  os = offsets now.size part.extents

  -- Where more is left than its seal and its block, its order is live.
  module _ (no_tail : ¬ IsTail (next ∷ ws)) where
    its_order : (slice_get now.orders f.c.0 ≡ Some (Some f.order)) × (f.kept ≡ Some own) × Contains x.orders f.order
    its_order = elim f.has [ inl l ↦ l | inr t ↦ absurd (no_tail t) ]

    pub lives : slice_get now.orders f.c.0 ≡ Some (Some f.order)
    lives = its_order.0

    pub live_is : f.kept ≡ Some own
    live_is = its_order.1

    pub its_own : Contains x.orders f.order
    its_own = its_order.2

    -- and is what lives there
    pub order_is : order_there s.shared.mapping f.c.0 f.order ≡ own
    order_is = let there = (g.orders_agree.live f.c.0 (Some f.order) lives own refl).1 (inr (a, y, ey, carried_order now.size now.orders migration block part (next ∷ ws) answer x y f ∙ live_is)) in cc

    -- its abstract actor, that has this
    pub y_has : (held : Having) → held_for (next ∷ ws) x.card ≡ held → y ≡ record (migrating now.size own os migration (next ∷ ws) f.at.answer f.at.buffer) { held = held }
    y_has held is = f.at.is ∙ (λ i. record {
      task = Some (record { job = job_under own (offsets (sym f.is_part.sized i) part.extents) migration; steps = migration_wants (sym f.is_part.sized i) own (offsets (sym f.is_part.sized i) part.extents) migration (next ∷ ws); answer = f.at.answer });
      held = is i;
      order = live_is i;
      leads = false;
      buffer = f.at.buffer;
    })

    -- or its block
    pub y_is : held_for (next ∷ ws) x.card ≡ Owns part.block.0 → y ≡ migrating now.size own os migration (next ∷ ws) f.at.answer f.at.buffer
    y_is holds = y_has (Owns part.block.0) holds

  -- and what it is then
  pub at_again : (z : AbstractActor) (us : List Want) (told : AbstractAnswer) (buffer : ℕ → Content) (kept : Option AbstractOrder) (then_answer : Answer) → z ≡ record (migrating now.size own os migration us told buffer) { held = held_for us x.card; order = kept } → AnswersAlike then_answer told → SawSeal (plan_of (Migrating migration part) us then_answer) us x.card →
      IsMigrationAt part f.c f.next migration kept (plan_of (Migrating migration part) us then_answer) x.card z
  at_again z us told buffer kept then_answer e alike saw = record {
    answer = told;
    buffer = buffer;
    is = e ∙ (λ i. record {
      task = Some (record { job = job_under own (offsets (f.is_part.sized i) part.extents) migration; steps = migration_wants (f.is_part.sized i) own (offsets (f.is_part.sized i) part.extents) migration us; answer = told });
      held = held_for us x.card;
      order = kept;
      leads = false;
      buffer = buffer;
    });
    alike = alike;
    saw = saw;
  }

  abbrev left_with : List Want → Answer → List Content → Actor
  left_with us then_answer buffer = record x { task = Some (Migrate migration block, plan_of (Migrating migration part) us then_answer); buffer = buffer }

  -- It has done something there, under its order, and both are at the same then.
  pub carry_so : ¬ IsTail (next ∷ ws) → (us : List Want) (then_answer : Answer) (buffer : List Content) (devices' : Devices (List History)) (results : List AbstractGot) (t : Shared) (z : AbstractActor) → MayGo s.actors a s.shared y y.task results → shared_after s.shared y y.task results ≡ t → gone y y.task results ≡ z →
      IsMigrationAt part f.c f.next migration f.kept (plan_of (Migrating migration part) us then_answer) x.card z → GoesOn now.size part us buffer z.buffer →
      WordsAgree now.words t → t.origin ≡ by_block now.size zeros devices'.origin → t.cache ≡ by_block now.size zeros devices'.cache → SameImages s.shared t →
      Carried Stays a s (record now { devices = devices' }) (left_with us then_answer buffer)
  carry_so no_tail us then_answer buffer devices' results t z may shared_is gone_is at on w origin cache_is k =
      let x' = left_with us then_answer buffer in
      let is = carried_again now.size now.orders now.orders migration block part (next ∷ ws) us answer then_answer x x' y z f f.kept (inl (lives no_tail, live_is no_tail, its_own no_tail)) at on in
      carry_on now now.words (λ e. e) devices' a x x' s y g ex ey migration block part (plan_of (Migrating migration part) us then_answer) refl refl (carried_job now.size now.orders migration block part (next ∷ ws) answer x y f) results t may shared_is w origin cache_is
      (subst (λ (v : AbstractActor). IsCarried now.size now.orders migration block part us then_answer x' v) (sym gone_is) is)
      (ap (λ (v : AbstractActor). v.order) gone_is ∙ ap (λ (v : AbstractActor). v.order) at.is ∙ sym (carried_order now.size now.orders migration block part (next ∷ ws) answer x y f)) (λ o h. h) k

-- ---- steps on extents

module _ (now : Situation) (blocks : ℕ) (a : ℕ) (x : Actor) (s : World) (y : AbstractActor) (g : Agrees now s) (ex : slice_get now.actors a ≡ Some x) (ey : slice_get s.actors a ≡ Some y)
    (migration : Migration) (block : OBlock) (part : BlockRange) (device : Dev) (e : Extent) (answer : Answer) where
  abbrev list : List History
  list = device_in device now.devices

  module _ (step : DeviceStep) (ws : List Want) (f : IsCarried now.size now.orders migration block part (Device step ∷ ws) answer x y) (h : HoldsBlocks device) where
    abbrev own_now : AbstractOrder
    own_now = order_on part f.c f.next

    abbrev all : List (List ℕ)
    all = offsets now.size part.extents

    abbrev its_job : AbstractJob
    its_job = job_under own_now all migration

    abbrev wants : List Want → List AbstractWant
    wants us = migration_wants now.size own_now all migration us

    abbrev Went : Option Script → AbstractGot → List History → List AbstractWant → AbstractAnswer → (ℕ → Content) → Type 0
    Went task got after steps told there = DeviceMoves now.size zeros s.actors a s.shared y task (location_at now.size device e) got after (record (left_there y its_job steps told) { buffer = there })

    -- it has moved an extent, or failed at that, and this is left
    moves_on : (us : List Want) (told : AbstractAnswer) (then_answer : Answer) (buffer : List Content) (there : ℕ → Content) (got : AbstractGot) (after : List History) → Went (Some (record { job = its_job; steps = wants (Device step ∷ ws); answer = f.at.answer })) got after (wants us) told there →
        held_for us x.card ≡ held_of x.card.hold → AnswersAlike then_answer told → SawSeal (plan_of (Migrating migration part) us then_answer) us x.card → GoesOn now.size part us buffer there →
        Carried Stays a s (record now { devices = with_device device now.devices after }) (record x { task = Some (Migrate migration block, plan_of (Migrating migration part) us then_answer); buffer = buffer })
    moves_on us told then_answer buffer there got after went held alike saw on =
        let is = y_has now a x s y g ex ey migration block part (Device step) ws answer f (λ n. n) (held_of x.card.hold) refl in
        let live = live_is now a x s y g ex ey migration block part (Device step) ws answer f (λ n. n) in
        let m = subst (λ (task : Option Script). Went task got after (wants us) told there) (sym (ap (λ (v : AbstractActor). v.task) is)) went in
        let t = shared_after s.shared y y.task (got ∷ []) in
        let z = gone y y.task (got ∷ []) in
        let both = sides now a x s y ex ey g device e h after t m.side_is m.beside in
        carry_so now a x s y g ex ey migration block part (Device step) ws answer f (λ n. n) us then_answer buffer (with_device device now.devices after) (got ∷ []) t z m.may refl refl
        (at_again now a x s y g ex ey migration block part (Device step) ws answer f z us told there f.kept then_answer
        (m.is ∙ ap (λ (v : AbstractActor). record (left_there v its_job (wants us) told) { buffer = there }) is ∙ (λ i. record (migrating now.size own_now all migration us told there) { held = sym held i; order = sym live i })) alike saw)
        (subst (λ (c : ℕ → Content). GoesOn now.size part us buffer c) (sym (ap (λ (v : AbstractActor). v.buffer) m.is)) on) (words_beside now.words (location_at now.size device e) s.shared t m.beside g.words_agree) both.0 both.1 m.beside.images

  module _ (ws : List Want) (f : IsCarried now.size now.orders migration block part (Device (Read device e) ∷ ws) answer x y) (suits : Suits blocks (plan_of (Migrating migration part) (Device (Read device e) ∷ ws) answer) x.card) where
    abbrev reads_at : HoldsBlocks device
    reads_at = blocks_are migration device (inl suits.1.1.1.0)

    side_read : IsSide now.size zeros (location_at now.size device e) list s.shared
    side_read = side_of now a x s y ex ey g device e reads_at

    plain_next : (us : List Want) → IsWrittenNext now.size e us → (held_for us x.card ≡ held_of x.card.hold) × SawSeal (plan_of (Migrating migration part) us answer) us x.card
    plain_next (Device (Write to r) ∷ later) w = (refl, tt)
    plain_next us w = absurd w

    -- what is to be written next is what was read
    pub reads : e.first + e.count ≤ length list → Carried Stays a s now (record x { task = Some (Migrate migration block, plan_of (Migrating migration part) ws answer); buffer = contents_at list e })
    reads room =
        let given = given_from list e.first e.count room in
        let next = plain_next ws f.paired.0 in
        subst (λ (ds : Devices (List History)). Carried Stays a s (record now { devices = ds }) (record x { task = Some (Migrate migration block, plan_of (Migrating migration part) ws answer); buffer = contents_at list e })) (same_device device now.devices reads_at)
        (moves_on (Read device e) ws f reads_at ws f.at.answer answer (contents_at list e) (newest_at s.shared (location_at now.size device e) part.block.0) _ list
        (extents_followed.read_done now.size zeros s.actors a s.shared y _ (location_at now.size device e) part.block.0 (offsets_in now.size e) _ f.at.answer list side_read)
        next.0 f.at.alike next.1 (record { of_block = f.of_block.1; paired = f.paired.1; read = written_next now.size e ws (contents_at list e) _ f.paired.0 (extents_followed.reads now.size zeros s.shared part.block.0 device e list (contents_at list e) f.of_block.0 side_read given.0 given.1) }))

    pub read_falls : Carried Stays a s now (record x { task = Some (Migrate migration block, plan_of (Migrating migration part) (Cell (Release Owned part.block) ∷ Desk (ReleaseOrder part.block) ∷ []) (Refuses (Io device))) })
    read_falls =
        let back = Cell (Release Owned part.block) ∷ Desk (ReleaseOrder part.block) ∷ [] in
        subst (λ (ds : Devices (List History)). Carried Stays a s (record now { devices = ds }) (record x { task = Some (Migrate migration block, plan_of (Migrating migration part) back (Refuses (Io device))) })) (same_device device now.devices reads_at)
        (moves_on (Read device e) ws f reads_at back AnsweredIo (Refuses (Io device)) x.buffer y.buffer read_fault list
        (subst (λ (us : List AbstractWant). Went (Read device e) ws f reads_at (Some (record { job = its_job (Read device e) ws f reads_at; steps = wants (Read device e) ws f reads_at (Device (Read device e) ∷ ws); answer = f.at.answer })) read_fault list us AnsweredIo y.buffer) (sym (migration_tables_agree.lets_go now.size part f.c f.next migration (offsets now.size part.extents)))
        (extents_followed.read_fails now.size zeros s.actors a s.shared y _ (location_at now.size device e) part.block.0 (offsets_in now.size e) _ f.at.answer list side_read))
        refl (λ n. absurd (cc)) tt (record { of_block = tt; paired = (tt, (tt, tt)); read = tt }))

  module _ (ws : List Want) (f : IsCarried now.size now.orders migration block part (Device (Write device e) ∷ ws) answer x y) (suits : Suits blocks (plan_of (Migrating migration part) (Device (Write device e) ∷ ws) answer) x.card) (room : e.first + e.count ≤ length list) where
    abbrev writes_at : HoldsBlocks device
    writes_at = blocks_are migration device (inr suits.1.1.1.0)

    side_written : IsSide now.size zeros (location_at now.size device e) list s.shared
    side_written = side_of now a x s y ex ey g device e writes_at

    -- what is written is what was read
    written_is : map (abstract_contents_for (job_under (order_on part f.c f.next) (offsets now.size part.extents) migration) y.buffer) (offsets_in now.size e) ≡ x.buffer
    written_is = ap (λ (there : ℕ → Content). map there (offsets_in now.size e)) (writes_read (order_on part f.c f.next) (offsets now.size part.extents) migration y.buffer) ∙ sym f.read

    pub writes : Carried Stays a s (record now { devices = with_device device now.devices (written_each list e.first x.buffer) }) (record x { task = Some (Migrate migration block, plan_of (Migrating migration part) ws answer) })
    writes =
        let plain = rest_plain (Migrating migration part) suits.1.1.0 ws suits.1.1.1.1 in
        moves_on (Write device e) ws f writes_at ws f.at.answer answer x.buffer y.buffer _ (written_each list e.first x.buffer)
        (subst (λ (cs : List Content). Went (Write device e) ws f writes_at (Some (record { job = its_job (Write device e) ws f writes_at; steps = wants (Write device e) ws f writes_at (Device (Write device e) ∷ ws); answer = f.at.answer })) DoneThere (written_each list e.first cs) (wants (Write device e) ws f writes_at ws) f.at.answer y.buffer) written_is
        (extents_followed.write_done now.size zeros s.actors a s.shared y _ part.block.0 device e _ f.at.answer list f.of_block.0 side_written room))
        (held_plain ws x.card plain) f.at.alike (saw_plain (plan_of (Migrating migration part) ws answer) ws x.card plain) (record { of_block = f.of_block.1; paired = f.paired.1; read = no_write_read now.size ws x.buffer y.buffer f.paired.0 })

    pub write_falls : (lands : ℕ → Bool) → Carried Stays a s (record now { devices = with_device device now.devices (written_where lands list e.first x.buffer) }) (record x { task = Some (Migrate migration block, plan_of (Migrating migration part) (Cell SetFailed ∷ []) (Refuses (Io device))) })
    write_falls lands =
        let fault = write_fault now.size (location_at now.size device e) part.block.0 lands in
        moves_on (Write device e) ws f writes_at (Cell SetFailed ∷ []) AnsweredIo (Refuses (Io device)) x.buffer y.buffer fault (written_where lands list e.first x.buffer)
        (subst (λ (us : List AbstractWant). Went (Write device e) ws f writes_at (Some (record { job = its_job (Write device e) ws f writes_at; steps = wants (Write device e) ws f writes_at (Device (Write device e) ∷ ws); answer = f.at.answer })) fault (written_where lands list e.first x.buffer) us AnsweredIo y.buffer) (sym (migration_tables_agree.fails now.size part f.c f.next migration (offsets now.size part.extents)))
        (subst (λ (cs : List Content). Went (Write device e) ws f writes_at (Some (record { job = its_job (Write device e) ws f writes_at; steps = wants (Write device e) ws f writes_at (Device (Write device e) ∷ ws); answer = f.at.answer })) fault (written_where lands list e.first cs) (breaking (its_job (Write device e) ws f writes_at)) AnsweredIo y.buffer) written_is
        (extents_followed.write_fails now.size zeros s.actors a s.shared y _ part.block.0 device e _ f.at.answer list lands f.of_block.0 side_written room)))
        refl (λ n. absurd (cc)) (Io device, refl) (record { of_block = tt; paired = (tt, tt); read = tt })
