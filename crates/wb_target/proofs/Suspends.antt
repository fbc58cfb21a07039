-- A stage of a suspend is ready for each of its steps, and from its run to what is told of it.
use Rattle.std.proofs.Common.{◌⊎◌, inl, inr, ◌≡◌, ◌∙◌, ◌<◌, ℕ, zero, suc, Bool, false, List, [], ◌∷◌, Option, Some, None, length, refl, sym, ap, subst}
use Rattle.std.proofs.lemmas.List.Elements.{All-nil, All-cons, All-append}
use Rattle.std.specs.Prelude.{All, replicate, slice_set}
use Rattle.wb_types.specs.declared.entry.Entry.{Entry}
use Rattle.wb_types.specs.declared.number.CBlock.{CBlock}
use Rattle.wb_types.specs.declared.number.OBlock.{OBlock}
use Rattle.wb_tree.specs.Mapping.{Mapping, entry_at}
use Rattle.wb_disk.specs.Device.{History}
use Rattle.wb_words.specs.declared.word.Word.TheVariants.{Seal as SealWord}
use Rattle.wb_words.specs.declared.step.CellStep.{CellStep}
use Rattle.wb_words.specs.declared.step.CellStep.TheVariants.{Look, SetFailed, SetSuspended}
use Rattle.wb_words.specs.SharedWords.{place_in, dirty_in}
use Rattle.wb_tasks.specs.Tables.{TaskJob, Suspending}
use Rattle.wb_tasks.specs.Plan.{Plan, table, want}
use Rattle.wb_tasks.specs.Ready.{AreBelow, AreFirst, IsOwnStep, IsSuspends, Suits, left_by}
use Rattle.wb_tasks.specs.Run.{IsRunOf, Leads}
use Rattle.wb_tasks.specs.declared.step.Want.{Want}
use Rattle.wb_tasks.specs.declared.step.Want.TheVariants.{Cell, Desk}
use Rattle.wb_tasks.specs.declared.step.Got.{Got}
use Rattle.wb_tasks.specs.declared.step.Got.TheVariants.{Word, Began, Refused}
use Rattle.wb_tasks.proofs.Readiness.{suspend_begins, is_ready, is_own_step}
use Rattle.wb_devices.specs.declared.running.RunningCommit.{RunningCommit}
use Rattle.wb_desk.specs.Desks.{DeskState}
use Rattle.wb_cells.specs.Passes.{PassState}
use Rattle.wb_tasks.specs.declared.step.DeskStep.{DeskStep}
use Rattle.wb_tasks.specs.declared.step.DeskStep.TheVariants.{BeginCommit, EndCommit, BreakCommit}
use Rattle.wb_stage.specs.declared.share.Share.TheVariants.{Nothing as Unshared}
use Rattle.wb_target.proofs.Asking.{commit_asked}
use Rattle.wb_stage.specs.Stages.{DidAsk, DidBeginWith}
use Rattle.wb_target.specs.Works.{DidAskDesk}
use Rattle.wb_stage.specs.Seen.{seen_at, seen_after}
use Rattle.wb_stage.proofs.Readying.{same_job}
use Rattle.wb_port.specs.Kinds.{LeavesHolds}
use Rattle.wb_port.proofs.Passing.{made_by_pass}
use Rattle.wb_port.proofs.Readying.{kept_by, suits_there}
use Rattle.wb_devices.specs.declared.devices.Devices.{Devices}
use Rattle.wb_tasks.specs.declared.step.Answer.{Answer}
use Rattle.wb_tasks.specs.declared.step.Answer.TheVariants.{Done as Finished}
use Rattle.wb_target.specs.Carried.{AreSynced}
use Rattle.wb_target.specs.Offices.{OfficeState}
use Rattle.wb_target.proofs.Syncing.{suspended_synced}
use Rattle.wb_target.specs.Suspends.{AskedWith, DeskGoes, RanSuspend, WasSuspended, SuspendLed, SuspendStep, IsReadyToSuspend, suspending_at, mapped_block, mapped_blocks}
use Rattle.wb_target.specs.declared.suspending.SuspendStage.{SuspendStage}

-- its steps on the words take and let go no block
pub free_of : (all : List OBlock) (most : ℕ) (step : CellStep) → IsSuspends all most (Cell step) → LeavesHolds step
free_of all most (Look word) h = tt
free_of all most SetFailed h = tt
free_of all most SetSuspended h = tt
free_of all most step h = absurd h

-- a bit more or less leaves as many
set_length : (bits : List Bool) (at : ℕ) (bit : Bool) → length (slice_set bits at bit) ≡ length bits
set_length [] at bit = refl
set_length (b ∷ bits) zero bit = refl
set_length (b ∷ bits) (suc at) bit = ap suc (set_length bits at bit)

seen_length : (w : Want) (g : Got) (bits : List Bool) → length (seen_after w g bits) ≡ length bits
seen_length (Cell (Look (SealWord block))) (Word seal) bits = by_place (place_in seal)
  where
    by_place : (place : Option CBlock) → length (seen_at place (dirty_in seal) bits) ≡ length bits
    by_place None = refl
    by_place (Some c) = set_length bits c.0 (dirty_in seal)
seen_length w g bits = refl

-- the blocks that it looks at are there
abbrev Below : ℕ → OBlock → Type 0
Below count block = block.0 < count

one_below : (count : ℕ) (entry : Option Entry) → ((e : Entry) → entry ≡ Some e → e.origin.0 < count) → All (Below count) (mapped_block entry)
one_below count None there = All-nil (Below count)
one_below count (Some entry) there = All-cons (Below count) entry.origin [] (there entry refl) (All-nil (Below count))

all_below : (count : ℕ) (tree : Mapping) (c : ℕ) → ((k : ℕ) (e : Entry) → entry_at tree k ≡ Some e → e.origin.0 < count) → All (Below count) (mapped_blocks tree c)
all_below count tree zero there = All-nil (Below count)
all_below count tree (suc c) there = All-append (Below count) (mapped_blocks tree c) (mapped_block (entry_at tree c)) (all_below count tree c there) (one_below count (entry_at tree c) (there c))

pub below : (count : ℕ) (tree : Mapping) (c : ℕ) → ((k : ℕ) (e : Entry) → entry_at tree k ≡ Some e → e.origin.0 < count) → AreBelow count (mapped_blocks tree c)
below count tree c there block m = subst (Below count) m.2 (all_below count tree c there m.0 block m.1)

-- ---- the desk

module _ {P : Type 0} (hint_of : P → ℕ → ℕ) (with_entry : P → ℕ → ℕ → P) (without_entry : P → ℕ → P) where
  -- a clean commit begins, or is refused
  pub begun_works : (seen : List Bool) (step : DeskStep) (most : ℕ) (got : Got) (old new : DeskState P) (commit commit' : Option RunningCommit) → step ≡ BeginCommit most
      → DidBeginWith hint_of seen most got old commit new commit' → DidAskDesk step got commit commit' × AskedWith hint_of with_entry without_entry seen step got commit commit'
  begun_works seen step most got old new commit commit' is did = rw is (asked got did, (old, (new, did)))
    where
      asked : (got : Got) → DidBeginWith hint_of seen most got old commit new commit' → DidAskDesk (BeginCommit most) got commit commit'
      asked (Began nodes) d = (d.0, d.1, d.2, d.3)
      asked (Refused refusal) d = d.0
      asked got d = absurd d

  -- a commit ends, or is broken
  pub ended_works : (seen : List Bool) (step : DeskStep) (got : Got) (old new : DeskState P) (commit commit' : Option RunningCommit) → (step ≡ EndCommit) ⊎ (step ≡ BreakCommit)
      → DidAsk with_entry without_entry [] step Unshared got old commit new commit' → DidAskDesk step got commit commit' × AskedWith hint_of with_entry without_entry seen step got commit commit'
  ended_works seen step got old new commit commit' which did = (commit_asked with_entry without_entry [] step Unshared got old new commit commit' did, by which)
    where
      by : (step ≡ EndCommit) ⊎ (step ≡ BreakCommit) → AskedWith hint_of with_entry without_entry seen step got commit commit'
      by (inl is) = rw is (old, (new, subst (λ (x : DeskStep). DidAsk with_entry without_entry [] x Unshared got old commit new commit') is did))
      by (inr is) = rw is (old, (new, subst (λ (x : DeskStep). DidAsk with_entry without_entry [] x Unshared got old commit new commit') is did))

module _ {P : Type 0} (hint_of : P → ℕ → ℕ) (with_entry : P → ℕ → ℕ → P) (without_entry : P → ℕ → P) where
  -- and so the desk goes
  pub begun_goes : (seen : List Bool) (step : DeskStep) (most : ℕ) (got : Got) (old new : DeskState P) (commit commit' : Option RunningCommit) → step ≡ BeginCommit most
      → DidBeginWith hint_of seen most got old commit new commit' → DeskGoes hint_of with_entry without_entry seen (Desk step) got old commit new commit'
  begun_goes seen step most got old new commit commit' is did = rw is did

  pub ended_goes : (seen : List Bool) (step : DeskStep) (got : Got) (old new : DeskState P) (commit commit' : Option RunningCommit) → (step ≡ EndCommit) ⊎ (step ≡ BreakCommit)
      → DidAsk with_entry without_entry [] step Unshared got old commit new commit' → DeskGoes hint_of with_entry without_entry seen (Desk step) got old commit new commit'
  ended_goes seen step got old new commit commit' (inl is) did = rw is (subst (λ (x : DeskStep). DidAsk with_entry without_entry [] x Unshared got old commit new commit') is did)
  ended_goes seen step got old new commit commit' (inr is) did = rw is (subst (λ (x : DeskStep). DidAsk with_entry without_entry [] x Unshared got old commit new commit') is did)

module _ {D P : Type 0} (tells : Type 0) (size : D → ℕ) (contents : D → List History) (faults : D → ℕ) (hint_of : P → ℕ → ℕ) (with_entry : P → ℕ → ℕ → P) (without_entry : P → ℕ → P) where
  abbrev led : SuspendStage D P → Want → Got → SuspendStage D P → Type 0
  led = SuspendLed tells size contents faults hint_of with_entry without_entry

  -- a run of it is by the same seat on the same desk, and keeps the sizes of both
  pub keeps_watch : (old new : SuspendStage D P) (steps : List (Want × Got)) → Leads led old steps new → new.watch.ghost_name ≡ old.watch.ghost_name
  keeps_watch old new steps l = kept_by led (λ x. x.watch.ghost_name) (λ x w g y h. h.same_watch) old steps new l

  pub keeps_desk : (old new : SuspendStage D P) (steps : List (Want × Got)) → Leads led old steps new → new.desk.ghost_name ≡ old.desk.ghost_name
  keeps_desk old new steps l = kept_by led (λ x. x.desk.ghost_name) (λ x w g y h. h.same_desk) old steps new l

  pub keeps_devices : (old new : SuspendStage D P) (steps : List (Want × Got)) → Leads led old steps new → new.devices.ghost_name ≡ old.devices.ghost_name
  keeps_devices old new steps l = kept_by led (λ x. x.devices.ghost_name) (λ x w g y h. h.same_devices) old steps new l

  pub keeps_words : (old new : SuspendStage D P) (steps : List (Want × Got)) → Leads led old steps new → new.watch.now.geometry ≡ old.watch.now.geometry
  keeps_words old new steps l = kept_by led (λ x. x.watch.now.geometry) (λ x w g y h. h.words) old steps new l

  pub keeps_cache : (old new : SuspendStage D P) (steps : List (Want × Got)) → Leads led old steps new → new.desk.now.geometry ≡ old.desk.now.geometry
  keeps_cache old new steps l = kept_by led (λ x. x.desk.now.geometry) (λ x w g y h. h.cache) old steps new l

  pub suspend_ready : (all : List OBlock) (most : ℕ) (s : Plan) (old : SuspendStage D P) → s ≡ table (Suspending all most) → AreBelow old.watch.now.geometry.origin_blocks all → length old.seen.now ≡ old.desk.now.geometry.cache_blocks
      → (steps : List (Want × Got)) (mid : SuspendStage D P) → AreFirst s steps → Leads led old steps mid → IsReadyToSuspend mid (want (left_by s steps))
  suspend_ready all most s old begun there bits steps mid f l =
      let words = keeps_words old mid steps l in
      let cache = keeps_cache old mid steps l in
      let many : length mid.seen.now ≡ length old.seen.now = kept_by led (λ x. length x.seen.now) (λ x w g y h. ap length h.did.1 ∙ seen_length w g x.seen.now) old steps mid l in
      let count : ℕ = old.watch.now.geometry.origin_blocks in
      let suits : Suits count (left_by s steps) mid.watch.now.pass.card =
      suits_there led (λ x. x.watch.now.pass.card) (λ x w g y h. made_by_pass x.watch.now.geometry.origin_blocks x.watch.now.pass y.watch.now.pass w g h.did.0) count s old steps mid
      (subst (λ (t : Plan). Suits count t old.watch.now.pass.card) (sym begun) (suspend_begins count all most old.watch.now.pass.card there old.watch.now.idle)) f l in
      let same : (left_by s steps).job ≡ Suspending all most = same_job s steps ∙ ap (λ (t : Plan). t.job) begun in (
        subst (λ g. Rattle.wb_tasks.specs.Ready.MayTake g.origin_blocks mid.watch.now.pass.card (want (left_by s steps))) (sym words) (is_ready count (left_by s steps) mid.watch.now.pass.card suits),
        (all, most, subst (λ (j : TaskJob). IsOwnStep j (want (left_by s steps))) same (is_own_step count (left_by s steps) mid.watch.now.pass.card suits)),
        many ∙ (bits ∙ ap (λ g. g.cache_blocks) (sym cache)),
      )

  -- a run of the stage is one of what it stands for
  pub plainly : (count : ℕ) (old : SuspendStage D P) (steps : List (Want × Got)) (new : SuspendStage D P) → old.watch.now.geometry.origin_blocks ≡ count → Leads led old steps new
      → Leads (SuspendStep tells size contents faults hint_of with_entry without_entry count) (suspending_at old) steps (suspending_at new)
  plainly count old [] new is e = ap (λ (x : SuspendStage D P). suspending_at x) e
  plainly count old (step ∷ steps) new is l = (
    suspending_at l.0,
    subst (λ (n : ℕ). SuspendStep tells size contents faults hint_of with_entry without_entry n (suspending_at old) step.0 step.1 (suspending_at l.0)) is l.1.did,
    plainly count l.0 steps new (ap (λ g. g.origin_blocks) l.1.words ∙ is) l.2,
  )

  pub ran : (pass : PassState) (desk : DeskState P) (plan : Plan) (answer : Answer) (old new : SuspendStage D P) → old.watch.now.pass ≡ pass → old.desk.now ≡ desk → (steps : List (Want × Got)) × IsRunOf plan steps answer × Leads led old steps new → (bits : List Bool) (devices : Devices D) (count : ℕ) → old.devices.now ≡ devices → old.seen.now ≡ bits → old.commit.now ≡ None → old.watch.now.geometry.origin_blocks ≡ count
      → RanSuspend pass desk tells size contents faults hint_of with_entry without_entry count plan bits devices answer new.devices.now
  ran pass desk plan answer old new by_pass on_desk run bits devices count over unseen unbegun words = record { first = suspending_at old; last = suspending_at new; by_pass = by_pass; on_desk = on_desk; over = over; unseen = unseen; unbegun = unbegun; steps = run.0; run = run.1; leads = plainly count old run.0 new words run.2; back_is = refl }

  pub was : (pass : PassState) (desk : DeskState P) (count most : ℕ) (plan : Plan) (bits : List Bool) (devices : Devices D) (answer answer' : Answer) (back : Devices D) → RanSuspend pass desk tells size contents faults hint_of with_entry without_entry count plan bits devices answer back
      → plan ≡ table (Suspending (mapped_blocks desk.tree desk.geometry.cache_blocks) most) → bits ≡ replicate desk.geometry.cache_blocks false → answer ≡ answer' → WasSuspended pass desk tells size contents faults hint_of with_entry without_entry devices answer' back
  was pass desk count most plan bits devices answer answer' back ran is unseen ends = record {
    count = count;
    most = most;
    ran = subst (λ (a : Answer). RanSuspend pass desk tells size contents faults hint_of with_entry without_entry count (table (Suspending (mapped_blocks desk.tree desk.geometry.cache_blocks) most)) (replicate desk.geometry.cache_blocks false) devices a back) ends
        (subst (λ (b : List Bool). RanSuspend pass desk tells size contents faults hint_of with_entry without_entry count (table (Suspending (mapped_blocks desk.tree desk.geometry.cache_blocks) most)) b devices answer back) unseen
        (subst (λ (p : Plan). RanSuspend pass desk tells size contents faults hint_of with_entry without_entry count p bits devices answer back) is ran));
  }

  -- what was so of an office is so of it as it is seen
  pub as_seen : {devices back : Devices D} {answer : Answer} (inside seen : OfficeState P) → inside ≡ seen → WasSuspended inside.watch.pass inside.desk tells size contents faults hint_of with_entry without_entry devices answer back
      → WasSuspended seen.watch.pass seen.desk tells size contents faults hint_of with_entry without_entry devices answer back
  as_seen {devices} {back} {answer} inside seen is h = subst (λ (o : OfficeState P). WasSuspended o.watch.pass o.desk tells size contents faults hint_of with_entry without_entry devices answer back) is h

  pub synced_then : (pass : PassState) (desk : DeskState P) (devices back : Devices D) (told : tells) → WasSuspended pass desk tells size contents faults hint_of with_entry without_entry devices Finished back → AreSynced contents back
  synced_then pass desk devices back told h =
      subst (λ (ds : Devices D). AreSynced contents ds) (sym h.ran.back_is) (suspended_synced tells size contents faults hint_of with_entry without_entry h.count told (mapped_blocks desk.tree desk.geometry.cache_blocks) h.most h.ran.steps h.ran.first h.ran.last h.ran.run h.ran.leads)
