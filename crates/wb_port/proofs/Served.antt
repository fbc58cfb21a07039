-- What a request that was answered done has done to a client's hand.
use Rattle.std.proofs.Common.{◌≡◌, ◌≤◌, ◌+◌, ◌%◌, ℕ, Bool, true, false, List, [], ◌∷◌, ◌++◌, Option, Some, None, length, refl, sym, ap, ◌∙◌, subst, arith}
use Rattle.std.proofs.lemmas.List.{take_all}
use Rattle.wb_types.specs.declared.extent.Extent.{Extent}
use Rattle.wb_types.specs.Extents.{pieces}
use Rattle.wb_types.specs.declared.mode.Mode.{Mode}
use Rattle.wb_types.specs.declared.mode.Mode.TheVariants.{Writeback, Writethrough, Passthrough}
use Rattle.wb_types.specs.declared.refusal.Refusal.TheVariants.{Defer}
use Rattle.wb_types.specs.declared.number.OBlock.{OBlock}
use Rattle.wb_types.specs.declared.number.CBlock.{CBlock}
use Rattle.wb_disk.specs.Device.{History, Content}
use Rattle.wb_disk.specs.Extents.{GivesEach}
use Rattle.wb_words.specs.declared.word.Access.TheVariants.{Shared, Owned}
use Rattle.wb_words.specs.declared.card.Hold.TheVariants.{Nothing}
use Rattle.wb_words.specs.declared.card.Card.{Card}
use Rattle.wb_words.specs.SharedWords.{place_in, dirty_in, seal_word}
use Rattle.wb_words.specs.Cards.{holding, sealing, finishing, counting}
use Rattle.wb_words.specs.declared.step.CellStep.TheVariants.{Release, Seal, Finish, Count}
use Rattle.wb_cells.specs.Passes.{PassState}
use Rattle.wb_tasks.specs.Tables.{BlockRange, BlockJob, OnBlock, Reading, Writing, device_at, read_step, write_step, place_read, places_written, read_count, write_count, writes, writing, dirtying, is_deferred}
use Rattle.wb_tasks.specs.Plan.{Plan, table, deferring, IsStep}
use Rattle.wb_tasks.specs.Run.{IsRunOf, Leads}
use Rattle.wb_tasks.specs.declared.step.Answer.TheVariants.{Done as Finished}
use Rattle.wb_tasks.specs.declared.step.Want.{Want}
use Rattle.wb_tasks.specs.declared.step.Want.TheVariants.{Cell}
use Rattle.wb_tasks.specs.declared.step.Got.{Got}
use Rattle.wb_tasks.specs.declared.step.Got.TheVariants.{Done}
use Rattle.wb_tasks.proofs.Modes.{writes_out, IsWriting, deferred_or_not}
use Rattle.wb_devices.specs.Moving.{OthersStay, device_in}
use Rattle.wb_devices.specs.declared.devices.Devices.{Devices}
use Rattle.wb_port.specs.declared.moving.TheConstants.{LONGEST}
use Rattle.wb_port.specs.Hands.{ReadStep, WriteStep, ReadLed, WriteLed, begins_at}
use Rattle.wb_port.specs.Requests.{part_of, first_at, read_kind, write_kind, taking_card, dirtied, WrittenAtEach, WasRead, WasWritten}
use Rattle.wb_port.specs.declared.moving.ReadStage.{ReadStage}
use Rattle.wb_port.specs.declared.moving.WriteStage.{WriteStage}
use Rattle.wb_port.proofs.Led.{reading_at, writing_at, steps_read, steps_written}
use Rattle.wb_port.proofs.Letting.{not_done}
use Rattle.wb_port.proofs.Readying.{kept_by}
use Rattle.wb_port.proofs.Paths.{going, going_to, done, at_end, OnlyDone, only_release, only_seal, only_finish, only_count, only_read, only_write, acquired, acquired_keeps, each_moved, all_moved, by_one, mapped, one_moved}
use Rattle.wb_port.proofs.Passing.{with_card, by_taking, by_step}
use Rattle.wb_port.proofs.Moved.{ReadSoFar, read_more, none_within, WrittenThere, none_there, all_there, WrittenSoFar, write_more, ThroughSoFar, through_more, through_each, others-stay}

count_read : (place : Option CBlock) → read_count place ≡ Cell (Count (read_kind place))
count_read None = refl
count_read (Some c) = refl

count_written : (place : Option CBlock) → write_count place ≡ Cell (Count (write_kind place))
count_written None = refl
count_written (Some c) = refl

reads_step : (part : BlockRange) (place : Option CBlock) (e : Extent) → IsStep (read_step part place e)
reads_step part None e = tt
reads_step part (Some c) e = tt

writes_step : (part : BlockRange) (place : Option CBlock) (e : Extent) → IsStep (write_step part place e)
writes_step part None e = tt
writes_step part (Some c) e = tt

reads_only : (part : BlockRange) (place : Option CBlock) (e : Extent) (ws : List Want) → OnlyDone (Reading part) (read_step part place e) ws
reads_only part None e ws = only_read (Reading part) tt _ _ ws
reads_only part (Some c) e ws = only_read (Reading part) tt _ _ ws

writes_only : (part : BlockRange) (place : Option CBlock) (e : Extent) (ws : List Want) → OnlyDone (Writing part) (write_step part place e) ws
writes_only part None e ws = only_write (Writing part) tt _ _ ws
writes_only part (Some c) e ws = only_write (Writing part) tt _ _ ws

-- all sectors, from the first on
from_first : (steps : Extent → List Want → List Want) (sectors : Extent) (ws : List Want) → each_moved steps (pieces LONGEST sectors) ws ≡ each_moved steps (pieces LONGEST (record { first = sectors.first + 0; count = sectors.count })) ws
from_first steps sectors ws = let same : sectors.first ≡ sectors.first + 0 = omega arith in ap (λ (at : ℕ). each_moved steps (pieces LONGEST (record { first = at; count = sectors.count })) ws) same

-- each extent is written at one place, or on the origin and then in the cache
abbrev by_both : BlockRange → CBlock → Extent → List Want → List Want
by_both part c e later = write_step part None e ∷ write_step part (Some c) e ∷ later

at_one_place : (part : BlockRange) (place : Option CBlock) (es : List Extent) (ws : List Want) → writes part (place ∷ []) es ++ ws ≡ each_moved (by_one (write_step part place)) es ws
at_one_place part place [] ws = refl
at_one_place part place (e ∷ es) ws = ap (λ (later : List Want). write_step part place e ∷ later) (at_one_place part place es ws)

at_both_places : (part : BlockRange) (c : CBlock) (es : List Extent) (ws : List Want) → writes part (None ∷ Some c ∷ []) es ++ ws ≡ each_moved (by_both part c) es ws
at_both_places part c [] ws = refl
at_both_places part c (e ∷ es) ws = ap (λ (later : List Want). by_both part c e later) (at_both_places part c es ws)

module _ {D : Type 0} (tells : Type 0) (size : D → ℕ) (contents : D → List History) (faults : D → ℕ) (block_sectors : ℕ) (block : OBlock) (sectors : Extent) where
  abbrev part : Mode → BlockRange
  part mode = part_of mode block_sectors block sectors

  abbrev read_led : ReadStage D → Want → Got → ReadStage D → Type 0
  read_led = ReadLed tells size contents faults

  abbrev write_led : WriteStage D → Want → Got → WriteStage D → Type 0
  write_led = WriteLed tells size contents faults

  -- a read that is answered done
  pub read_whole : (steps : List (Want × Got)) (old new : ReadStage D) → old.moved ≡ 0 → length old.out.now ≡ sectors.count → sectors.first % block_sectors + sectors.count ≤ block_sectors
      → IsRunOf (table (OnBlock (Reading (part old.hand.now.mode)))) steps Finished → Leads read_led old steps new → WasRead tells size contents faults old.cells.now.blocks block_sectors block sectors old.out.now new.out.now old.hand.now new.hand.now
  read_whole steps old new unmoved fits inside r l =
      let p : BlockRange = part old.hand.now.mode in
      let job : BlockJob = Reading p in
      let a = acquired read_led job steps old new r l in
      let place : Option CBlock = place_read old.hand.now.mode (place_in a.seal) in
      let devices = acquired_keeps read_led job old new (λ s. s.hand.now.devices) (λ s step got t h. h.into.0) a in
      let out = acquired_keeps read_led job old new (λ s. s.out.now) (λ s step got t h. h.into.1) a in
      let moved = acquired_keeps read_led job old new (λ s. s.moved) (λ s step got t h. h.into.2) a in
      let took = by_taking old.cells.now.blocks a.s1.cells.now.blocks a.s2.cells.now.blocks a.s3.cells.now.blocks a.s4.cells.now.blocks Shared block a.lock a.seal a.number old.hand.now.pass a.s1.hand.now.pass a.s2.hand.now.pass a.s3.hand.now.pass a.s4.hand.now.pass a.s5.hand.now.pass
      a.not_failed.by_pass a.free.by_pass a.took.by_pass a.sealed.by_pass a.numbered.by_pass in
      let tail : List Want = read_count place ∷ Cell (Release Shared block) ∷ [] in
      let many : length a.s5.out.now ≡ sectors.count = ap length out ∙ fits in
      let start : ReadSoFar tells size contents faults p place sectors.first a.s5.hand.now.pass old.hand.now.devices sectors.count 0 a.s5 = record {
        pass_is = refl;
        moved = moved ∙ unmoved;
        many = many;
        others = subst (OthersStay (device_at place) old.hand.now.devices) (sym devices) (others-stay (device_at place) old.hand.now.devices);
        sized = ap (λ (ds : Devices D). size (device_in (device_at place) ds)) devices;
        inside = λ told. none_within size block_sectors sectors.first place old.hand.now.devices;
        given = λ told. tt;
        same = λ told. ap (λ (ds : Devices D). contents (device_in (device_at place) ds)) devices;
        no_fault = λ told. ap (λ (ds : Devices D). faults (device_in (device_at place) ds)) devices;
      } in
      let so_far : ℕ → ReadStage D → Type 0 = ReadSoFar tells size contents faults p place sectors.first a.s5.hand.now.pass old.hand.now.devices sectors.count in
      let step : Extent → List Want → List Want = by_one (read_step p place) in
      let all = all_moved read_led job step LONGEST sectors.first sectors.count (omega arith) so_far
      (one_moved read_led job (read_step p place) (reads_step p place) (reads_only p place) so_far sectors.first sectors.count (read_more tells size contents faults p place sectors.first a.s5.hand.now.pass old.hand.now.devices sectors.count sectors.count (omega arith) inside))
      sectors.count sectors.count 0 tail a.rest a.s5 new (omega arith) (omega arith) start
      (subst (λ (ws : List Want). IsRunOf (going job ws) a.rest Finished) (mapped (read_step p place) p.extents tail ∙ from_first step sectors tail) a.run) a.leads in
      let known = all.known in
      let release : List Want = Cell (Release Shared block) ∷ [] in
      let c = done read_led job (Cell (Count (read_kind place))) release all.rest all.mid new tt (only_count job (read_kind place) release) (subst (λ (w : Want). IsRunOf (going job (w ∷ release)) all.rest Finished) (count_read place) all.run) all.leads in
      let e = done read_led job (Cell (Release Shared block)) [] c.rest c.mid new tt (only_release job Shared block []) c.run c.leads in
      let z : e.mid ≡ new = at_end read_led job e.rest e.mid new e.run e.leads in
      let last : ReadLed tells size contents faults c.mid (Cell (Release Shared block)) Done new = subst (read_led c.mid (Cell (Release Shared block)) Done) z e.did in
      let counted = by_step all.mid.cells.now.blocks all.mid.hand.now.pass c.mid.hand.now.pass (Count (read_kind place)) (counting (read_kind place)) (λ words. refl) refl c.did.by_pass in
      let released = by_step c.mid.cells.now.blocks c.mid.hand.now.pass new.hand.now.pass (Release Shared block) (holding Nothing) (λ words. refl) refl last.by_pass in
      let ds : new.hand.now.devices ≡ all.mid.hand.now.devices = last.into.0 ∙ c.did.into.0 in
      let os : new.out.now ≡ all.mid.out.now = last.into.1 ∙ c.did.into.1 in
      let moved_all : new.moved ≡ sectors.count = last.into.2 ∙ (c.did.into.2 ∙ known.moved) in
      let before : all.mid.hand.now.pass ≡ with_card old.hand.now.pass (taking_card Shared block a.lock a.seal a.number old.hand.now.pass.card) = known.pass_is ∙ took.0 in record {
        lock = a.lock;
        seal = a.seal;
        number = a.number;
        same_mode = kept_by read_led (λ s. s.hand.now.mode) (λ s w g t h. h.same_mode) old steps new l;
        pass_is = released ∙ (ap (λ (p : PassState). with_card p (holding Nothing p.card)) counted ∙ ap (λ (p : PassState). with_card p (holding Nothing (counting (read_kind place) p.card))) before);
        least = took.1;
        others = subst (OthersStay (device_at place) old.hand.now.devices) (sym ds) known.others;
        sized = ap (λ (x : Devices D). size (device_in (device_at place) x)) ds ∙ known.sized;
        inside = known.inside;
        given = λ told. subst (GivesEach (contents (device_in (device_at place) old.hand.now.devices)) (first_at block_sectors place sectors.first)) (take_all sectors.count all.mid.out.now (omega (arith, known.many)) ∙ sym os) (known.given told);
        same = λ told. ap (λ (x : Devices D). contents (device_in (device_at place) x)) ds ∙ known.same told;
        no_fault = λ told. ap (λ (x : Devices D). faults (device_in (device_at place) x)) ds ∙ known.no_fault told;
        run = (
          steps,
          r,
          subst (λ (n : ℕ). Leads (ReadStep tells size contents faults old.cells.now.blocks) (record { hand = old.hand.now; out = old.out.now; moved = 0 }) steps (record { hand = new.hand.now; out = new.out.now; moved = n })) moved_all
              (subst (λ (n : ℕ). Leads (ReadStep tells size contents faults old.cells.now.blocks) (record { hand = old.hand.now; out = old.out.now; moved = n }) steps (reading_at new)) unmoved (steps_read tells size contents faults steps old new l)),
        );
      }

  -- In write-back a mapped block is sealed dirty where its copy was clean; then the sectors are to be written.
  record Dirtied (mode : Mode) (place : Option CBlock) (dirty : Bool) (ws : List Want) (old new : WriteStage D) : Type 0 where
    mid : WriteStage D
    rest : List (Want × Got)
    pass_is : mid.hand.now.pass ≡ with_card old.hand.now.pass (dirtied mode block place dirty old.hand.now.pass.card)
    devices : mid.hand.now.devices ≡ old.hand.now.devices
    same_mode : mid.hand.now.mode ≡ old.hand.now.mode
    moved : mid.moved ≡ old.moved
    slice : mid.from ≡ old.from
    run : IsRunOf (going (Writing (part mode)) ws) rest Finished
    leads : Leads write_led mid rest new

  undirtied : (mode : Mode) (place : Option CBlock) (dirty : Bool) (ws : List Want) (steps : List (Want × Got)) (old new : WriteStage D) → dirtied mode block place dirty old.hand.now.pass.card ≡ old.hand.now.pass.card → IsRunOf (going (Writing (part mode)) ws) steps Finished → Leads write_led old steps new
      → Dirtied mode place dirty ws old new
  undirtied mode place dirty ws steps old new same r l = record {
    mid = old;
    rest = steps;
    pass_is = ap (λ (c : Card). with_card old.hand.now.pass c) (sym same);
    devices = refl;
    same_mode = refl;
    moved = refl;
    slice = refl;
    run = r;
    leads = l;
  }

  dirties : (mode : Mode) (place : Option CBlock) (dirty : Bool) (ws : List Want) (steps : List (Want × Got)) (old new : WriteStage D) → IsRunOf (going (Writing (part mode)) (dirtying mode block place dirty ++ ws)) steps Finished → Leads write_led old steps new → Dirtied mode place dirty ws old new
  dirties Writeback None dirty ws steps old new r l = undirtied Writeback None dirty ws steps old new refl r l
  dirties Writeback (Some c) true ws steps old new r l = undirtied Writeback (Some c) true ws steps old new refl r l
  dirties Writeback (Some c) false ws steps old new r l =
      let job : BlockJob = Writing (part Writeback) in
      let d = done write_led job (Cell (Seal block (Some c) true)) ws steps old new tt (only_seal job block (Some c) true ws) r l in record {
        mid = d.mid;
        rest = d.rest;
        pass_is = by_step old.cells.now.blocks old.hand.now.pass d.mid.hand.now.pass (Seal block (Some c) true) (sealing block (seal_word (Some c) true)) (λ words. refl) refl d.did.by_pass;
        devices = d.did.from.0;
        same_mode = d.did.same_mode;
        moved = d.did.from.1;
        slice = d.did.same_slice;
        run = d.run;
        leads = d.leads;
      }
  dirties Writethrough place dirty ws steps old new r l = undirtied Writethrough place dirty ws steps old new refl r l
  dirties Passthrough place dirty ws steps old new r l = undirtied Passthrough place dirty ws steps old new refl r l

  -- a write that is answered done was not deferred
  undeferred : (mode : Mode) (place : Option CBlock) (dirty : Bool) (rest : List (Want × Got)) → IsRunOf (going_to (deferring mode place Finished) (Writing (part mode)) (writing mode (part mode) place dirty)) rest Finished
      → IsRunOf (going (Writing (part mode)) (dirtying mode block place dirty ++ (writes (part mode) (places_written mode place) (part mode).extents ++ Cell (Finish block) ∷ write_count place ∷ Cell (Release Owned block) ∷ []))) rest Finished
  undeferred mode place dirty rest r = by_deferral (is_deferred mode place) (deferred_or_not mode (part mode) place dirty)
    where
      by_deferral : (waits : Bool) → IsWriting waits mode (part mode) place dirty → IsRunOf (going (Writing (part mode)) (dirtying mode block place dirty ++ writes_out (part mode) (places_written mode place) place)) rest Finished
      by_deferral false is = subst (λ (s : Plan). IsRunOf s rest Finished) (λ i. going_to (is.1 i) (Writing (part mode)) (is.0 i)) r
      by_deferral true is = absurd (not_done (going (Writing (part mode)) []) (Cell (Release Owned block) ∷ []) Defer tt rest (subst (λ (s : Plan). IsRunOf s rest Finished) (λ i. going_to (is.1 i) (Writing (part mode)) (is.0 i)) r))

  -- The sectors were written at each of these places.
  record AllWritten (mode : Mode) (places : List (Option CBlock)) (ws : List Want) (old new : WriteStage D) : Type 0 where
    mid : WriteStage D
    rest : List (Want × Got)
    pass_is : mid.hand.now.pass ≡ old.hand.now.pass
    moved : mid.moved ≡ sectors.count
    written : WrittenAtEach tells size contents faults block_sectors sectors.first old.from.now places old.hand.now.devices mid.hand.now.devices
    run : IsRunOf (going (Writing (part mode)) ws) rest Finished
    leads : Leads write_led mid rest new

  module _ (ws : List Want) (steps : List (Want × Got)) (old new : WriteStage D) (unmoved : old.moved ≡ 0) (fits : length old.from.now ≡ sectors.count) (inside : sectors.first % block_sectors + sectors.count ≤ block_sectors) (l : Leads write_led old steps new) where
    abbrev written_at : Mode → List (Option CBlock) → Type 0
    written_at mode places = IsRunOf (going (Writing (part mode)) (writes (part mode) places (part mode).extents ++ ws)) steps Finished → AllWritten mode places ws old new

    few : sectors.count ≤ length old.from.now
    few = omega (arith, fits)

    at_one : (mode : Mode) (place : Option CBlock) → old.hand.now.mode ≡ mode → ((count moved : ℕ) → begins_at mode (device_at place) count moved ≡ moved) → written_at mode (place ∷ [])
    at_one mode place is first r =
        let p : BlockRange = part mode in
        let job : BlockJob = Writing p in
        let from : List Content = old.from.now in
        let devices : Devices D = old.hand.now.devices in
        let so_far : ℕ → WriteStage D → Type 0 = WrittenSoFar tells size contents faults p sectors.first from sectors.count few inside old.hand.now.pass mode place devices in
        let step : Extent → List Want → List Want = by_one (write_step p place) in
        let all = all_moved write_led job step LONGEST sectors.first sectors.count (omega arith) so_far
        (one_moved write_led job (write_step p place) (writes_step p place) (writes_only p place) so_far sectors.first sectors.count (write_more tells size contents faults p sectors.first from sectors.count few inside old.hand.now.pass mode place devices first))
        sectors.count sectors.count 0 ws steps old new (omega arith) (omega arith)
        (record { pass_is = refl; mode_is = is; moved = unmoved; slice = refl; others = others-stay (device_at place) devices; there = none_there tells size contents faults p sectors.first from place devices devices refl })
        (subst (λ (us : List Want). IsRunOf (going job us) steps Finished) (at_one_place p place p.extents ws ∙ from_first step sectors ws) r) l in record {
          mid = all.mid;
          rest = all.rest;
          pass_is = all.known.pass_is;
          moved = all.known.moved;
          written = (all.mid.hand.now.devices, all_there tells size contents faults p sectors.first from place sectors.count devices all.mid.hand.now.devices fits all.known.others all.known.there, refl);
          run = all.run;
          leads = all.leads;
        }

    at_both : (c : CBlock) → old.hand.now.mode ≡ Writethrough → written_at Writethrough (None ∷ Some c ∷ [])
    at_both c is r =
        let p : BlockRange = part Writethrough in
        let job : BlockJob = Writing p in
        let from : List Content = old.from.now in
        let pass = old.hand.now.pass in
        let devices : Devices D = old.hand.now.devices in
        let so_far : ℕ → WriteStage D → Type 0 = λ m s. ThroughSoFar tells size contents faults p sectors.first from sectors.count few inside pass c devices m m s in
        let none : (place : Option CBlock) → WrittenThere tells size contents faults p sectors.first from place 0 devices devices = λ place. none_there tells size contents faults p sectors.first from place devices devices refl in
        let all = all_moved write_led job (by_both p c) LONGEST sectors.first sectors.count (omega arith) so_far
        (λ m j later rest s t some among known run leads.
        let e : Extent = record { first = sectors.first + m; count = j } in
        let home = done write_led job (write_step p None e) (write_step p (Some c) e ∷ later) rest s t tt (writes_only p None e (write_step p (Some c) e ∷ later)) run leads in
        let cached = done write_led job (write_step p (Some c) e) later home.rest home.mid t tt (writes_only p (Some c) e later) home.run home.leads in record {
          mid = cached.mid;
          rest = cached.rest;
          known = through_more tells size contents faults p sectors.first from sectors.count few inside pass c devices m j s home.mid cached.mid some among known home.did cached.did;
          run = cached.run;
          leads = cached.leads;
        })
        sectors.count sectors.count 0 ws steps old new (omega arith) (omega arith)
        (record { pass_is = refl; mode_is = is; moved = unmoved; slice = refl; metadata = refl; home = none None; cached = none (Some c) })
        (subst (λ (us : List Want). IsRunOf (going job us) steps Finished) (at_both_places p c p.extents ws ∙ from_first (by_both p c) sectors ws) r) l in record {
          mid = all.mid;
          rest = all.rest;
          pass_is = all.known.pass_is;
          moved = all.known.moved;
          written = through_each tells size contents faults p sectors.first from sectors.count few inside pass c devices all.mid fits all.known;
          run = all.run;
          leads = all.leads;
        }

    written_all : (mode : Mode) (place : Option CBlock) → old.hand.now.mode ≡ mode → written_at mode (places_written mode place)
    written_all Writeback place is = at_one Writeback place is (λ count moved. refl)
    written_all Writethrough None is = at_one Writethrough None is (λ count moved. refl)
    written_all Writethrough (Some c) is = at_both c is
    written_all Passthrough place is = at_one Passthrough None is (λ count moved. refl)

  -- a write that is answered done
  pub write_whole : (steps : List (Want × Got)) (old new : WriteStage D) → old.moved ≡ 0 → length old.from.now ≡ sectors.count → sectors.first % block_sectors + sectors.count ≤ block_sectors
      → IsRunOf (table (OnBlock (Writing (part old.hand.now.mode)))) steps Finished → Leads write_led old steps new → WasWritten tells size contents faults old.cells.now.blocks block_sectors block sectors old.from.now old.hand.now new.hand.now
  write_whole steps old new unmoved fits inside r l =
      let mode : Mode = old.hand.now.mode in
      let job : BlockJob = Writing (part mode) in
      let a = acquired write_led job steps old new r l in
      let place : Option CBlock = place_in a.seal in
      let dirty : Bool = dirty_in a.seal in
      let p = old.hand.now.pass in
      let devices = acquired_keeps write_led job old new (λ s. s.hand.now.devices) (λ s step got t h. h.from.0) a in
      let kept = acquired_keeps write_led job old new (λ s. s.hand.now.mode) (λ s step got t h. h.same_mode) a in
      let moved = acquired_keeps write_led job old new (λ s. s.moved) (λ s step got t h. h.from.1) a in
      let slice = acquired_keeps write_led job old new (λ s. s.from) (λ s step got t h. h.same_slice) a in
      let took = by_taking old.cells.now.blocks a.s1.cells.now.blocks a.s2.cells.now.blocks a.s3.cells.now.blocks a.s4.cells.now.blocks Owned block a.lock a.seal a.number p a.s1.hand.now.pass a.s2.hand.now.pass a.s3.hand.now.pass a.s4.hand.now.pass a.s5.hand.now.pass
      a.not_failed.by_pass a.free.by_pass a.took.by_pass a.sealed.by_pass a.numbered.by_pass in
      let release : List Want = Cell (Release Owned block) ∷ [] in
      let tail : List Want = Cell (Finish block) ∷ write_count place ∷ release in
      let d = dirties mode place dirty (writes (part mode) (places_written mode place) (part mode).extents ++ tail) a.rest a.s5 new
      (undeferred mode place dirty a.rest a.run) a.leads in
      let ds = d.devices ∙ devices in
      let same_slice : d.mid.from ≡ old.from = d.slice ∙ slice in
      let all = written_all tail d.rest d.mid new (d.moved ∙ (moved ∙ unmoved)) (ap (λ f. length f.now) same_slice ∙ fits) inside d.leads mode place (d.same_mode ∙ kept) d.run in
      let b = done write_led job (Cell (Finish block)) (write_count place ∷ release) all.rest all.mid new tt (only_finish job block (write_count place ∷ release)) all.run all.leads in
      let c = done write_led job (Cell (Count (write_kind place))) release b.rest b.mid new tt (only_count job (write_kind place) release) (subst (λ (w : Want). IsRunOf (going job (w ∷ release)) b.rest Finished) (count_written place) b.run) b.leads in
      let e = done write_led job (Cell (Release Owned block)) [] c.rest c.mid new tt (only_release job Owned block []) c.run c.leads in
      let z : e.mid ≡ new = at_end write_led job e.rest e.mid new e.run e.leads in
      let last : WriteLed tells size contents faults c.mid (Cell (Release Owned block)) Done new = subst (write_led c.mid (Cell (Release Owned block)) Done) z e.did in
      let finished = by_step all.mid.cells.now.blocks all.mid.hand.now.pass b.mid.hand.now.pass (Finish block) (finishing block) (λ words. refl) refl b.did.by_pass in
      let counted = by_step b.mid.cells.now.blocks b.mid.hand.now.pass c.mid.hand.now.pass (Count (write_kind place)) (counting (write_kind place)) (λ words. refl) refl c.did.by_pass in
      let released = by_step c.mid.cells.now.blocks c.mid.hand.now.pass new.hand.now.pass (Release Owned block) (holding Nothing) (λ words. refl) refl last.by_pass in
      let after : new.hand.now.devices ≡ all.mid.hand.now.devices = last.from.0 ∙ (c.did.from.0 ∙ b.did.from.0) in
      let moved_all : new.moved ≡ sectors.count = last.from.1 ∙ (c.did.from.1 ∙ (b.did.from.1 ∙ all.moved)) in
      let sealed : all.mid.hand.now.pass ≡ with_card p (dirtied mode block place dirty (taking_card Owned block a.lock a.seal a.number p.card)) =
      all.pass_is ∙ (d.pass_is ∙ ap (λ (q : PassState). with_card q (dirtied mode block place dirty q.card)) took.0) in
      let at_each : List Content → Devices D → Devices D → Type 0 = λ from x y. WrittenAtEach tells size contents faults block_sectors sectors.first from (places_written mode place) x y in record {
        lock = a.lock;
        seal = a.seal;
        number = a.number;
        same_mode = kept_by write_led (λ s. s.hand.now.mode) (λ s w g t h. h.same_mode) old steps new l;
        pass_is = released ∙ (ap (λ (q : PassState). with_card q (holding Nothing q.card)) counted
            ∙ (ap (λ (q : PassState). with_card q (holding Nothing (counting (write_kind place) q.card))) finished
            ∙ ap (λ (q : PassState). with_card q (holding Nothing (counting (write_kind place) (finishing block q.card)))) sealed));
        least = took.1;
        written = subst (at_each old.from.now old.hand.now.devices) (sym after) (subst (λ (x : Devices D). at_each old.from.now x all.mid.hand.now.devices) ds (subst (λ f. at_each f.now d.mid.hand.now.devices all.mid.hand.now.devices) same_slice all.written));
        run = (
          steps,
          r,
          subst (λ (n : ℕ). Leads (WriteStep tells size contents faults old.cells.now.blocks old.from.now) (record { hand = old.hand.now; moved = 0 }) steps (record { hand = new.hand.now; moved = n })) moved_all
              (subst (λ (n : ℕ). Leads (WriteStep tells size contents faults old.cells.now.blocks old.from.now) (record { hand = old.hand.now; moved = n }) steps (writing_at new)) unmoved (steps_written tells size contents faults steps old new l)),
        );
      }
