-- Each step of a flush, or of a suspend, is followed.
use Rattle.wb_stage.specs.declared.share.Share.TheVariants.{Waiting}
use Rattle.wb_stage.specs.declared.share.Share.{Share}
use Rattle.wb_tasks.specs.declared.step.DeskStep.{DeskStep}
use Rattle.std.proofs.Common.{◌≡◌, ◌≢◌, ◌+◌, ◌*◌, ◌==◌, ◌∙◌, inr, if◌then◌else◌, ℕ, Bool, true, false, List, [], ◌∷◌, Some, None, refl, sym, ap, subst, slice_get, slice_set, Option, cond, arith}
use Rattle.wb_types.specs.declared.mode.Dev.{Dev}
use Rattle.wb_types.specs.declared.mode.Dev.TheVariants.{Metadata, Cache, Origin}
use Rattle.wb_types.specs.declared.refusal.Refusal.{Refusal}
use Rattle.wb_types.specs.declared.refusal.Refusal.TheVariants.{Failed, Busy, Memory, GenerationEnd}
use Rattle.wb_disk.specs.Device.{History, synced}
use Rattle.wb_disk.specs.Failing.{synced_where}
use Rattle.wb_contents.proofs.Devices.{sync_is_act, failed_sync_is_act}
use Rattle.wb_contents.specs.Acts.{all_synced, partly_synced}
use Rattle.wb_words.specs.SharedWords.{flag, fail_word, word_at}
use Rattle.wb_words.specs.Effects.{words_after, card_after}
use Rattle.wb_words.specs.declared.card.Card.{Card}
use Rattle.wb_words.specs.declared.step.CellStep.TheVariants.{Look, SetFailed, SetSuspended}
use Rattle.wb_words.specs.declared.word.Word.TheVariants.{Fail, Seal as SealWord}
use Rattle.wb_policy.specs.declared.order.Order.{Order}
use Rattle.wb_tasks.specs.Plan.{Plan, after, begun_steps, device_of, release_orders, want, first_step, failed_commit, lets_go_unless_failed}
use Rattle.wb_tasks.specs.declared.step.Answer.{Answer}
use Rattle.wb_tasks.specs.declared.step.Answer.TheVariants.{Refused as Refuses}
use Rattle.wb_tasks.specs.declared.step.DeviceStep.{DeviceStep}
use Rattle.wb_tasks.specs.declared.step.DeviceStep.TheVariants.{Sync, WriteNode, WriteRoot}
use Rattle.wb_tasks.specs.declared.step.DeskStep.TheVariants.{BeginCommit, EndCommit, ReleaseOrder, Arrive, Ask, BreakCommit}
use Rattle.wb_tasks.specs.declared.step.Want.{Want}
use Rattle.wb_tasks.specs.declared.step.Want.TheVariants.{Cell, Device, Desk}
use Rattle.wb_tasks.specs.declared.step.Got.TheVariants.{Done, Fault, Word, Began, Refused, Ticket, Served}
use Rattle.wb_devices.specs.declared.devices.Devices.{Devices}
use Rattle.wb_devices.specs.Moving.{device_in}
use Rattle.wb_tasks.specs.Ready.{HoldsBlocks}
use Rattle.wb_link.specs.Tables.{End_running, Done as DoneThere, Begin, Begin_clean, Flushing as FlushingFor, Suspending as SuspendingThere}
use Rattle.wb_link.specs.World.{World, Shared, AbstractActor, effect, is_alone, TicketIsCovered, TicketIsUncovered, Serves, Unserved}
use Rattle.wb_refines.specs.Going.{gone, AreQuiet, shared_after}
use Rattle.wb_refines.specs.Translation.{wants_of, job_for}
use Rattle.wb_refines.specs.Models.{WordsAgree, SealAgrees}
use Rattle.wb_refines.specs.Commits.{IsCommitting, IsToBegin, IsOnMetadata, IsNoBegin, IsWrittenAfter, commit_task, commit_there, committing, CanGoOn, IsToLead}
use Rattle.wb_refines.proofs.Cells.{flag_set}
use Rattle.wb_refines.proofs.Committing.{commit_steps_followed as followed_alone}
use Rattle.wb_promise.specs.declared.job.Job.TheVariants.{Flush, Suspend}
use Rattle.wb_promise.specs.States.{Actor, with_device}
use Rattle.wb_simulation.specs.Actors.{IsLate, IsOfCommit, IsEnding, LeadsAt, StandsFor, AreReleases, AreAmongOthers, ticket_in}
use Rattle.wb_simulation.specs.Telling.{Quietly, Releases}
use Rattle.wb_simulation.specs.Worlds.{Situation, zeros, Agrees, Turn, Stays, Begins, Puts, Ends, GivesUp, TurnedTo, DeskTurnedTo, WorldFollowsBy, WorldFollows, IsUnfinished, KeepsNumbers, one_begun, one_ended, last_begun, TakesIn, IsLeftOut}
use Rattle.wb_simulation.specs.Laws.{turn_of, flush_or_suspend, stepped_actor, IsOnlyOf}
use Rattle.wb_simulation.proofs.Telling.{unnoted_none, quiet_are_unnoted}
use Rattle.wb_types.specs.declared.number.OBlock.{OBlock}
use Rattle.wb_simulation.proofs.Orders.{does_none}
use Rattle.wb_simulation.proofs.Among.{goes_on, goes_leading, stays_there}
use Rattle.wb_simulation.proofs.Releasing.{released_there}
use Rattle.wb_simulation.proofs.Steps.{finds_failed}
use Rattle.wb_simulation.proofs.Leading.{begun_on, commits_on, ended_on, failed_on, has_wants, is_no_migration, as_doing, stands, leads_alone, goes, no_ticket}

some_on : (clean : Bool) (steps : List Want) → IsOnMetadata clean steps → IsEnding steps → ⊥
some_on clean [] m e = m
some_on false (Desk BreakCommit ∷ later) m e = m
some_on true (Desk BreakCommit ∷ later) m e = m
some_on clean steps m e = e

-- the beginning of a commit changes nothing but the desk, its commits and the image that it is to write
record IsBegun (clean : Bool) (s t : Shared) : Type 0 where
  origin : t.origin ≡ s.origin
  cache : t.cache ≡ s.cache
  seals : t.seals ≡ s.seals
  fail : t.fail ≡ s.fail
  mode : t.mode ≡ s.mode
  broken : t.broken ≡ s.broken
  ended : t.ended ≡ s.ended
  began : t.began ≡ s.began + 1
  commits : t.committing ≡ true
  turned : TurnedTo (Begins clean) s t
  desk : DeskTurnedTo (Begins clean) s t
  mapping : t.mapping ≡ s.mapping

suspend_begun : (s : Shared) → IsBegun true s (effect s SuspendingThere (λ o. []) Begin_clean DoneThere)
suspend_begun s = record { origin = refl; cache = refl; seals = refl; fail = refl; mode = refl; broken = refl; ended = refl; began = refl; commits = refl; turned = (refl, refl, refl, refl, refl); desk = (refl, refl); mapping = refl }

flush_begun : (s : Shared) → IsBegun false s (effect s (FlushingFor None) (λ o. []) (Begin None) DoneThere)
flush_begun s = record { origin = refl; cache = refl; seals = refl; fail = refl; mode = refl; broken = refl; ended = refl; began = refl; commits = refl; turned = (refl, refl, refl, refl, refl); desk = (refl, refl); mapping = refl }

-- before its commit begins it leads none, and has no ticket
to_begin : (clean : Bool) (most : ℕ) (steps : List Want) → IsToBegin clean most steps → IsOfCommit clean most steps × LeadsAt false steps × ((answer : Answer) (share : Share) → ticket_in (first_step steps answer) share ≡ None)
to_begin false most (Desk (Arrive nodes) ∷ later) b = ((refl, b.0, b.1), refl, (λ answer share. refl))
to_begin true most (Desk (BeginCommit nodes) ∷ later) b = ((refl, b.0, b.1), refl, (λ answer share. refl))
to_begin true most (Cell (Look (SealWord block)) ∷ later) b = ((refl, b), refl, (λ answer share. refl))
to_begin clean most steps b = absurd b

-- nor does a flush that gives up orders, as long as any is left
of_releases : (clean : Bool) (most : ℕ) → clean ≡ false → (ws : List Want) → AreReleases ws → IsOfCommit clean most ws × LeadsAt false ws × ((answer : Answer) (share : Share) → ticket_in (first_step ws answer) share ≡ None)
of_releases clean most e [] a = (tt, tt, (λ answer share. refl))
of_releases clean most e (Desk (ReleaseOrder b) ∷ ws) a = ((e, a), refl, (λ answer share. refl))
of_releases clean most e ws a = absurd a

module _ (now : Situation) (clean : Bool) (blocks : List OBlock) (a : ℕ) (x : Actor) (s : World) (y : AbstractActor) (ex : slice_get now.actors a ≡ Some x) (ey : slice_get s.actors a ≡ Some y) (g : Agrees now s) where
  -- what is left of it
  abbrev left : List Want → Answer → Plan
  left steps answer = committing clean blocks (now.most clean) steps answer

  -- a step on a device, done, with this left
  abbrev OnBy : Turn → Devices (List History) → Plan → Type 0
  OnBy turn devices' plan' = WorldFollowsBy turn Quietly a s (record now { devices = devices' }) (record x { task = Some (flush_or_suspend clean, plan') })

  -- and the images stay
  abbrev On : Devices (List History) → Plan → Type 0
  On devices' plan' = WorldFollows Quietly a s (record now { devices = devices' }) (record x { task = Some (flush_or_suspend clean, plan') })

  -- who leads, where that is known of the step
  pub leading : (next : Want) (later : List Want) (answer : Answer) (leads : Bool) → leads ≡ true → IsCommitting now.size [] (left (next ∷ later) answer) None leads y → IsCommitting now.size [] (left (next ∷ later) answer) None true y
  leading next later answer leads e is = subst (λ (b : Bool). IsCommitting now.size [] (left (next ∷ later) answer) None b y) e is

  -- cache and origin are synced, or one of them fails
  pub syncs : (device : Dev) → HoldsBlocks device → (later : List Want) (answer : Answer) → IsOfCommit clean (now.most clean) (Device (Sync device) ∷ later) → IsCommitting now.size [] (left (Device (Sync device) ∷ later) answer) None true y →
      On (with_device device now.devices (synced (device_in device now.devices))) (after (left (Device (Sync device) ∷ later) answer) Done)
  syncs Cache h (Device (Sync Origin) ∷ ws) answer o is =
      goes now clean blocks a x s y ex ey g Stays (with_device Cache now.devices (synced now.devices.cache)) (Device (Sync Cache)) (Device (Sync Origin) ∷ ws) answer _ _ is (λ e. absurd (cc)) (followed_alone.syncs_cache clean (Device (Sync Origin) ∷ ws) now.size blocks (now.most clean) [] s.actors a s.shared y answer is) refl o refl (λ n. n)
      (record { fail = g.words_agree.fail; seals = g.words_agree.seals }) g.origin (ap all_synced g.cache ∙ sym (sync_is_act now.size zeros now.devices.cache)) refl refl (refl, refl, refl) (refl, refl, refl, refl, refl) (refl, refl) refl
  syncs Cache h later answer o is = absurd o
  syncs Origin h later answer o is =
      goes now clean blocks a x s y ex ey g Stays (with_device Origin now.devices (synced now.devices.origin)) (Device (Sync Origin)) later answer (left later answer) (record s.shared { origin = all_synced s.shared.origin }) is (λ e. absurd (cc)) (followed_alone.syncs_origin clean later now.size blocks (now.most clean) [] s.actors a s.shared y answer is) refl (commits_on clean (now.most clean) later o).0 (commits_on clean (now.most clean) later o).1 (some_on clean later o)
      (record { fail = g.words_agree.fail; seals = g.words_agree.seals }) (ap all_synced g.origin ∙ sym (sync_is_act now.size zeros now.devices.origin)) g.cache refl refl (refl, refl, refl) (refl, refl, refl, refl, refl) (refl, refl) refl
  syncs Metadata h later answer o is = absurd h

  pub sync_falls : (lands : ℕ → Bool) (device : Dev) → HoldsBlocks device → (later : List Want) (answer : Answer) → IsCommitting now.size [] (left (Device (Sync device) ∷ later) answer) None true y →
      On (with_device device now.devices (synced_where lands (device_in device now.devices))) (after (left (Device (Sync device) ∷ later) answer) Fault)
  sync_falls lands Cache h later answer is =
      let f = failed_on clean blocks (now.most clean) (Sync Cache) in
      goes now clean blocks a x s y ex ey g Stays (with_device Cache now.devices (synced_where lands now.devices.cache)) (Device (Sync Cache)) later answer (after (left (Device (Sync Cache) ∷ later) answer) Fault) (record s.shared { cache = partly_synced (λ b o. lands (b * now.size + o)) s.shared.cache }) is (λ e. absurd (cc))
      (followed_alone.fails_cache clean (λ b o. lands (b * now.size + o)) later now.size blocks (now.most clean) [] s.actors a s.shared y answer is) refl f.0 f.1 f.2
      (record { fail = g.words_agree.fail; seals = g.words_agree.seals }) g.origin (ap (partly_synced (λ b o. lands (b * now.size + o))) g.cache ∙ sym (failed_sync_is_act now.size zeros lands now.devices.cache)) refl refl (refl, refl, refl) (refl, refl, refl, refl, refl) (refl, refl) refl
  sync_falls lands Origin h later answer is =
      let f = failed_on clean blocks (now.most clean) (Sync Origin) in
      goes now clean blocks a x s y ex ey g Stays (with_device Origin now.devices (synced_where lands now.devices.origin)) (Device (Sync Origin)) later answer (after (left (Device (Sync Origin) ∷ later) answer) Fault) (record s.shared { origin = partly_synced (λ b o. lands (b * now.size + o)) s.shared.origin }) is (λ e. absurd (cc))
      (followed_alone.fails_origin clean (λ b o. lands (b * now.size + o)) later now.size blocks (now.most clean) [] s.actors a s.shared y answer is) refl f.0 f.1 f.2
      (record { fail = g.words_agree.fail; seals = g.words_agree.seals }) (ap (partly_synced (λ b o. lands (b * now.size + o))) g.origin ∙ sym (failed_sync_is_act now.size zeros lands now.devices.origin)) g.cache refl refl (refl, refl, refl) (refl, refl, refl, refl, refl) (refl, refl) refl
  sync_falls lands Metadata h later answer is = absurd h

  -- a step on the metadata is done, or fails; the data devices are as they were
  metadata_goes : (turn : Turn) (metadata : List History) (step : DeviceStep) (later : List Want) (answer : Answer) (t : Shared) → IsOnMetadata clean (Device step ∷ later) → IsOnMetadata clean later → IsCommitting now.size [] (left (Device step ∷ later) answer) None true y → CanGoOn now.size [] s.actors a s.shared y t (left later answer) None true →
      WordsAgree now.words t → t.origin ≡ s.shared.origin → t.cache ≡ s.shared.cache → t.mode ≡ s.shared.mode → t.committing ≡ s.shared.committing → KeepsNumbers s.shared t → TurnedTo turn s.shared t → DeskTurnedTo turn s.shared t → t.mapping ≡ s.shared.mapping → OnBy turn (with_device Metadata now.devices metadata) (left later answer)
  metadata_goes turn metadata step later answer t on m is l w og ca mo co br turned desk same_map =
      goes now clean blocks a x s y ex ey g turn (with_device Metadata now.devices metadata) (Device step) later answer (left later answer) t is (has_wants now.size (job_for now.size [] (commit_task clean blocks (now.most clean))) clean (Device step ∷ later) on) l refl (commits_on clean (now.most clean) later m).0 (commits_on clean (now.most clean) later m).1 (some_on clean later m) w (og ∙ g.origin) (ca ∙ g.cache) mo co br turned desk same_map

  pub metadata_done : (metadata : List History) (step : DeviceStep) (later : List Want) (answer : Answer) → device_of step ≡ Metadata → IsOfCommit clean (now.most clean) (Device step ∷ later) → IsCommitting now.size [] (left (Device step ∷ later) answer) None true y → OnBy (turn_of step) (with_device Metadata now.devices metadata) (after (left (Device step ∷ later) answer) Done)
  metadata_done metadata (WriteNode number) later answer d o is = metadata_goes Stays metadata (WriteNode number) later answer s.shared o o is (followed_alone.nodes clean number later now.size blocks (now.most clean) [] s.actors a s.shared y answer is) g.words_agree refl refl refl refl (refl, refl, refl) (refl, refl, refl, refl, refl) (refl, refl) refl
  metadata_done metadata (Sync Metadata) later answer d o is = metadata_goes Stays metadata (Sync Metadata) later answer s.shared o o is (followed_alone.syncs_metadata clean later now.size blocks (now.most clean) [] s.actors a s.shared y answer is) g.words_agree refl refl refl refl (refl, refl, refl) (refl, refl, refl, refl, refl) (refl, refl) refl
  metadata_done metadata (Sync Cache) later answer d o is = absurd (cc)
  metadata_done metadata (Sync Origin) later answer d o is = absurd (cc)
  metadata_done metadata WriteRoot later answer d o is = metadata_goes (Puts true) metadata WriteRoot later answer (record s.shared { root_written = true }) o o is (followed_alone.writes_root clean later now.size blocks (now.most clean) [] s.actors a s.shared y answer is) (record { fail = g.words_agree.fail; seals = g.words_agree.seals }) refl refl refl refl (refl, refl, refl) (refl, refl, refl, refl, refl) (refl, refl) refl
  metadata_done metadata step later answer d o is = absurd o

  pub metadata_failed : (metadata : List History) (step : DeviceStep) (later : List Want) (answer : Answer) → IsOnMetadata clean (Device step ∷ later) → IsCommitting now.size [] (left (Device step ∷ later) answer) None true y → (written : Bool) × IsWrittenAfter step s.shared.root_written written × OnBy (Puts written) (with_device Metadata now.devices metadata) (after (left (Device step ∷ later) answer) Fault)
  metadata_failed metadata step later answer m is =
      let l = followed_alone.fails_metadata clean now.size blocks (now.most clean) step [] s.actors a s.shared y later answer m is in
      let f = failed_on clean blocks (now.most clean) step in (
        l.0,
        l.1,
        goes now clean blocks a x s y ex ey g (Puts l.0) (with_device Metadata now.devices metadata) (Device step) later answer (after (left (Device step ∷ later) answer) Fault) (record s.shared { root_written = l.0 }) is (has_wants now.size (job_for now.size [] (commit_task clean blocks (now.most clean))) clean (Device step ∷ later) m) l.2 refl f.0 f.1 f.2
            (record { fail = g.words_agree.fail; seals = g.words_agree.seals }) g.origin g.cache refl refl (refl, refl, refl) (refl, refl, refl, refl, refl) (refl, refl) refl,
      )

  pub is_on_metadata : (step : DeviceStep) (later : List Want) → device_of step ≡ Metadata → IsOfCommit clean (now.most clean) (Device step ∷ later) → IsOnMetadata clean (Device step ∷ later)
  is_on_metadata (WriteNode number) later d o = o
  is_on_metadata (Sync Metadata) later d o = o
  is_on_metadata (Sync Cache) later d o = absurd (cc)
  is_on_metadata (Sync Origin) later d o = absurd (cc)
  is_on_metadata WriteRoot later d o = o
  is_on_metadata step later d o = absurd o

  -- ---- the desk and the words

  -- it leads no commit before it and after it
  follows_alone : (seen' : List Bool) (share' : Share) (plan' : Plan) (card' : Card) (ticket : Option ℕ) → plan'.job ≡ commit_task clean blocks (now.most clean) → IsOfCommit clean (now.most clean) plan'.steps → LeadsAt false plan'.steps → ticket_in (want plan') share' ≡ ticket → CanGoOn now.size [] s.actors a s.shared y s.shared plan' ticket false →
      y.order ≡ None → WorldFollows Quietly a s now (record x { task = Some (flush_or_suspend clean, plan'); card = card'; seen = seen'; share = share' })
  follows_alone seen' share' plan' card' ticket j o at has l own =
      goes_on now now.words (λ f. f) a x (record x { task = Some (flush_or_suspend clean, plan'); card = card'; seen = seen'; share = share' }) s y g ex ey Quietly now.devices l.results s.shared (l.results, quiet_are_unnoted y.task l.results l.quiet, refl) l.may l.shared
      (stands now clean blocks a x s y ex ey g now.words plan' card' seen' share' false (gone y y.task l.results) j o at (λ e n. absurd (cc)) (subst (λ (k : Option ℕ). IsCommitting now.size [] plan' k false (gone y y.task l.results)) (sym has) l.at))
      (λ k. let bad : true ≡ false = sym k ∙ ap (λ (v : AbstractActor). v.leads) l.at.is in absurd (cc)) g.words_agree g.origin g.cache refl refl (refl, refl, refl) (refl, refl, refl, refl, refl) (refl, refl) (ap (λ (v : AbstractActor). v.order) l.at.is ∙ sym own) (λ o h. h) (does_none _ _ _ _ _ (is_no_migration clean))

  -- where nothing is left but orders to give up, it leads no commit
  released : (orders : List OBlock) → AreReleases (release_orders orders)
  released [] = tt
  released (b ∷ bs) = released bs

  -- no order is given up, which is nothing there
  pub releases : (block : OBlock) (later : List Want) (answer : Answer) → (clean ≡ false) × AreReleases later → IsCommitting now.size [] (left (Desk (ReleaseOrder block) ∷ later) answer) None false y → On now.devices (left later answer)
  releases block later answer are is = let left_so = of_releases clean (now.most clean) are.0 later are.1 in follows_alone x.seen x.share (left later answer) x.card None refl left_so.0 left_so.1 (left_so.2 answer x.share)
      (record { results = []; may = tt; quiet = subst (λ (v : AbstractActor). AreQuiet v.task []) (sym is.is) tt; shared = ap (λ (v : AbstractActor). shared_after s.shared v v.task []) is.is; at = record { buffer = is.buffer; is = ap (λ (v : AbstractActor). gone v v.task []) is.is } }) (ap (λ (v : AbstractActor). v.order) is.is)

  -- a commit begins, which nobody has led
  begins_by : (share' : Share) (nodes : ℕ) (t : Shared) (plan' : Plan) → plan' ≡ left (begun_steps (commit_task clean blocks (now.most clean)) nodes) plan'.answer → now.commits.committing ≡ false → y.order ≡ None → IsBegun clean s.shared t → CanGoOn now.size [] s.actors a s.shared y t plan' None true →
      WorldFollowsBy (Begins clean) Quietly a s (record now { commits = one_begun now.commits }) (record x { task = Some (flush_or_suspend clean, plan'); share = share' })
  begins_by share' nodes t plan' p quiet own b l =
      let on = begun_on clean blocks (now.most clean) nodes in
      let steps = ap (λ (q : Plan). q.steps) p in
      let leads : LeadsAt true plan'.steps = subst (λ (ws : List Want). LeadsAt true ws) (sym steps) on.1 in
      goes_leading now now.words (λ f. f) a x (record x { task = Some (flush_or_suspend clean, plan'); share = share' }) s y g ex ey (Begins clean) (one_begun now.commits) l.results t (l.results, quiet_are_unnoted y.task l.results l.quiet, refl) l.may l.shared
      (stands now clean blocks a x s y ex ey g now.words plan' x.card x.seen share' true (gone y y.task l.results) (ap (λ (q : Plan). q.job) p) (subst (λ (ws : List Want). IsOfCommit clean (now.most clean) ws) (sym steps) on.0) leads (λ e n. absurd (goes_far clean (subst IsEnding steps n)))
      (subst (λ (k : Option ℕ). IsCommitting now.size [] plan' k true (gone y y.task l.results)) (sym (no_ticket plan' share' leads)) l.at))
      (record { fail = b.fail ∙ g.words_agree.fail; seals = λ block. subst (λ f. SealAgrees (word_at now.words.seals block) (f block.0)) (sym b.seals) (g.words_agree.seals block) }) b.origin b.cache b.mode
      (record { runs = b.commits; broken = b.broken ∙ g.commits.broken; ended = b.ended ∙ g.commits.ended; began = b.began ∙ ap (λ (n : ℕ). n + 1) g.commits.began ∙ one_more }) (λ e. b.commits) (λ d v n ev k. runs (g.led d v ev k)) (λ k. (b.commits, λ u. b.broken ∙ by_broken s.shared.broken refl)) b.turned b.desk (ap (λ (v : AbstractActor). v.order) l.at.is ∙ sym own) refl b.mapping (is_no_migration clean)
    where
      one_more : last_begun now.commits + 1 ≡ last_begun (one_begun now.commits)
      one_more = ap (λ (c : Bool). now.commits.ended + cond c 1 0 + 1) quiet ∙ omega arith

      runs : s.shared.committing ≡ true → ⊥
      runs e = let bad : true ≡ false = sym e ∙ g.commits.runs ∙ quiet in absurd (cc)

      by_broken : (t : Bool) → s.shared.broken ≡ t → s.shared.broken ≡ false
      by_broken false e = e
      by_broken true e = absurd (runs (g.broken e))

      goes_far : (clean : Bool) → IsEnding (begun_steps (commit_task clean blocks (now.most clean)) nodes) → ⊥
      goes_far true n = n
      goes_far false n = n

  -- the commit ends, and nobody leads one
  pub ends : (later : List Want) (answer : Answer) → IsOfCommit clean (now.most clean) (Desk EndCommit ∷ later) → IsCommitting now.size [] (left (Desk EndCommit ∷ later) answer) None true y → WorldFollowsBy Ends Quietly a s (record now { commits = one_ended now.commits }) (record x { task = Some (flush_or_suspend clean, after (left (Desk EndCommit ∷ later) answer) Done) })
  ends later answer o is =
      let plan' = after (left (Desk EndCommit ∷ later) answer) Done in
      let l = followed_alone.ends clean later now.size blocks (now.most clean) [] s.actors a s.shared y answer is in
      let on = ended_on clean (now.most clean) later o in
      let lead : y.leads ≡ true = ap (λ (v : AbstractActor). v.leads) is.is in
      let some : wants_of now.size None (job_for now.size [] (commit_task clean blocks (now.most clean))) (Desk EndCommit ∷ later) ≢ [] = (λ e. absurd (cc)) in
      let whole : s.shared.broken ≡ false = g.whole a y ey lead (subst (λ (v : AbstractActor). IsUnfinished v.task) (sym is.is) some) in
      goes_leading now now.words (λ f. f) a x (record x { task = Some (flush_or_suspend clean, plan') }) s y g ex ey Ends (one_ended now.commits) l.results (effect s.shared (commit_there clean) (λ o. []) End_running DoneThere) (l.results, quiet_are_unnoted y.task l.results l.quiet, refl) l.may l.shared
      (stands now clean blocks a x s y ex ey g now.words plan' x.card x.seen x.share false (gone y y.task l.results) refl on.0 on.1 (λ e n. absurd (cc)) (subst (λ (k : Option ℕ). IsCommitting now.size [] plan' k false (gone y y.task l.results)) (sym (over clean later o)) l.at))
      (record { fail = g.words_agree.fail; seals = g.words_agree.seals }) refl refl refl (record { runs = refl; broken = g.commits.broken; ended = numbered; began = numbered ∙ omega arith }) (λ e. let bad : true ≡ false = sym e ∙ whole in absurd (cc)) (leads_alone now clean blocks a x s y ex ey g lead)
      (λ k. let bad : true ≡ false = sym k ∙ ap (λ (v : AbstractActor). v.leads) l.at.is in absurd (cc)) (refl, refl, refl) (refl, refl) (ap (λ (v : AbstractActor). v.order) l.at.is ∙ sym (ap (λ (v : AbstractActor). v.order) is.is)) refl refl (is_no_migration clean)
    where
      -- what follows it asks with no ticket
      over : (clean : Bool) (later : List Want) → IsOfCommit clean (now.most clean) (Desk EndCommit ∷ later) → ticket_in (first_step later answer) x.share ≡ None
      over true (Cell SetSuspended ∷ []) o = refl
      over false [] o = refl
      over clean later o = absurd o

      -- the number of the one that ran
      numbered : s.shared.began ≡ now.commits.ended + 1
      numbered = g.commits.began ∙ ap (λ (c : Bool). now.commits.ended + cond c 1 0) (sym g.commits.runs ∙ g.led a y ey (ap (λ (v : AbstractActor). v.leads) is.is))

  -- the failed bit is set
  pub fails : (failures suspensions : ℕ) (answer : Answer) → now.words.fail ≡ fail_word failures suspensions → IsCommitting now.size [] (left failed_commit answer) None true y →
      WorldFollows Quietly a s (record now { words = words_after now.words SetFailed }) (record x { task = Some (flush_or_suspend clean, after (left failed_commit answer) Done); card = card_after now.words SetFailed x.card })
  fails f z answer e is =
      let plan' = after (left failed_commit answer) Done in
      let failed : flag (words_after now.words SetFailed).fail ≡ true = flag_set false now.words.fail f z e in
      let l = followed_alone.fails clean now.size blocks (now.most clean) [] s.actors a s.shared y answer is in
      goes_on now (words_after now.words SetFailed) (λ k. failed) a x (record x { task = Some (flush_or_suspend clean, plan'); card = card_after now.words SetFailed x.card }) s y g ex ey Quietly now.devices l.results (record s.shared { fail = true }) (l.results, quiet_are_unnoted y.task l.results l.quiet, refl) l.may l.shared
      (stands now clean blocks a x s y ex ey g (words_after now.words SetFailed) plan' (card_after now.words SetFailed x.card) x.seen x.share true (gone y y.task l.results) refl refl refl (λ k n. failed) l.at)
      (λ k. (ap (λ (v : AbstractActor). v.leads) is.is, λ more. subst (λ (v : AbstractActor). IsUnfinished v.task) (sym is.is) (λ none. absurd (cc)))) (record { fail = sym failed; seals = g.words_agree.seals }) g.origin g.cache refl refl (refl, refl, refl) (refl, refl, refl, refl, refl) (refl, refl) (ap (λ (v : AbstractActor). v.order) l.at.is ∙ sym (ap (λ (v : AbstractActor). v.order) is.is)) (λ o h. h) (does_none _ _ _ _ _ (is_no_migration clean))

  -- and then the commit is broken; who led it has failed
  pub breaks : (answer : Answer) → flag now.words.fail ≡ true → IsCommitting now.size [] (left (Desk BreakCommit ∷ []) answer) None true y →
      WorldFollows Quietly a s (record now { commits = record now.commits { broken = true } }) (record x { task = Some (flush_or_suspend clean, after (left (Desk BreakCommit ∷ []) answer) Done) })
  breaks answer failed is =
      let plan' = after (left (Desk BreakCommit ∷ []) answer) Done in
      let l = followed_alone.breaks clean now.size blocks (now.most clean) [] s.actors a s.shared y answer is in
      let lead : y.leads ≡ true = ap (λ (v : AbstractActor). v.leads) is.is in
      let runs = g.led a y ey lead in
      goes_leading now now.words (λ k. k) a x (record x { task = Some (flush_or_suspend clean, plan') }) s y g ex ey Stays (record now.commits { broken = true }) l.results (record s.shared { broken = true }) (l.results, quiet_are_unnoted y.task l.results l.quiet, refl) l.may l.shared
      (stands now clean blocks a x s y ex ey g now.words plan' x.card x.seen x.share true (gone y y.task l.results) refl tt tt (λ k n. failed) l.at)
      (record { fail = g.words_agree.fail; seals = g.words_agree.seals }) refl refl refl (record { runs = g.commits.runs; broken = refl; ended = g.commits.ended; began = g.commits.began }) (λ k. runs) (leads_alone now clean blocks a x s y ex ey g lead) (λ k. (runs, λ u. absurd (subst (λ (v : AbstractActor). IsUnfinished v.task) l.at.is u refl)))
      (refl, refl, refl, refl, refl) (refl, refl) (ap (λ (v : AbstractActor). v.order) l.at.is ∙ sym (ap (λ (v : AbstractActor). v.order) is.is)) refl refl (is_no_migration clean)

  -- ---- its look at the fail word, and its answer

  pub looks : (later : List Want) (answer : Answer) → IsToBegin clean (now.most clean) later → IsCommitting now.size [] (left (Cell (Look Fail) ∷ later) answer) None false y →
      WorldFollows Quietly a s now (stepped_actor now.words (flush_or_suspend clean) (left (Cell (Look Fail) ∷ later) answer) (Look Fail) x)
  looks later answer n is =
      let k = by_test (now.words.fail == 0) in follows_alone x.seen x.share (after (left (Cell (Look Fail) ∷ later) answer) (Word now.words.fail)) _ None k.2 k.0 k.1 k.3 (followed_alone.looks clean now.size blocks (now.most clean) now.words.fail [] s.actors a s.shared y later answer g.words_agree.fail is) (ap (λ (v : AbstractActor). v.order) is.is)
    where
      then_left : Bool → Plan
      then_left t = if t then left later answer else left [] (Refuses Failed)

      by_test : (t : Bool) → IsOfCommit clean (now.most clean) (then_left t).steps × LeadsAt false (then_left t).steps × ((then_left t).job ≡ commit_task clean blocks (now.most clean)) × (ticket_in (want (then_left t)) x.share ≡ None)
      by_test true = let b = to_begin clean (now.most clean) later n in (b.0, b.1, refl, b.2 answer x.share)
      by_test false = (tt, tt, refl, refl)

module _ (now : Situation) (blocks : List OBlock) (a : ℕ) (x : Actor) (s : World) (y : AbstractActor) (ex : slice_get now.actors a ≡ Some x) (ey : slice_get s.actors a ≡ Some y) (g : Agrees now s) where
  -- an order that waits for a flush is given up there: it is aside
  pub gives_up : (block : OBlock) (later : List Want) (answer : Answer) → AreReleases later → IsCommitting now.size [] (committing false blocks (now.most false) (Desk (ReleaseOrder block) ∷ later) answer) None false y → (c : ℕ) (order : Order) (awaiting' : List Order) → AreAmongOthers now.actors → slice_get now.orders c ≡ Some (Some order) → IsOnlyOf now.actors a order →
      WorldFollowsBy (GivesUp c) Releases a s (record now { orders = slice_set now.orders c None }) (record x { task = Some (Flush, committing false blocks (now.most false) later answer); awaiting = awaiting' })
  gives_up block later answer are is c order awaiting' among slot only = released_there now a x (record x { task = Some (Flush, committing false blocks (now.most false) later answer); awaiting = awaiting' }) s y ex ey g among c order slot only (ap (λ (v : AbstractActor). v.order) is.is)
      (let r = stands now false blocks a x s y ex ey g now.words (committing false blocks (now.most false) later answer) x.card x.seen x.share false y refl (of_releases false (now.most false) refl later are).0 (of_releases false (now.most false) refl later are).1 (λ e n. absurd (cc))
      (subst (λ (k : Option ℕ). IsCommitting now.size [] (committing false blocks (now.most false) later answer) k false y) (sym ((of_releases false (now.most false) refl later are).2 answer x.share)) (record { buffer = is.buffer; is = is.is })) in record { failed = r.failed; has_failed = r.has_failed; at = r.at; below = r.below; among_others = r.among_others }) tt

  -- a suspend has seen a seal, which is nothing there
  pub sees : (block : OBlock) (seen' : List Bool) (later : List Want) (answer : Answer) → IsToBegin true (now.most true) later → IsCommitting now.size [] (committing true blocks (now.most true) (Cell (Look (SealWord block)) ∷ later) answer) None false y →
      WorldFollows Quietly a s now (record (stepped_actor now.words Suspend (committing true blocks (now.most true) (Cell (Look (SealWord block)) ∷ later) answer) (Look (SealWord block)) x) { seen = seen' })
  sees block seen' later answer n is =
      let b = to_begin true (now.most true) later n in
      follows_alone now true blocks a x s y ex ey g seen' x.share (after (committing true blocks (now.most true) (Cell (Look (SealWord block)) ∷ later) answer) (Word (word_at now.words.seals block))) (card_after now.words (Look (SealWord block)) x.card) None refl b.0 b.1 (b.2 answer x.share)
      (followed_alone.sees now.size blocks (now.most true) (word_at now.words.seals block) [] s.actors a s.shared y block later answer n is) (ap (λ (v : AbstractActor). v.order) is.is)

  -- it sets the bit that says so, and the target serves no more
  pub suspends : (failures suspensions : ℕ) (answer : Answer) → now.words.fail ≡ fail_word failures suspensions → IsCommitting now.size [] (committing true blocks (now.most true) (Cell SetSuspended ∷ []) answer) None false y →
      WorldFollows Quietly a s (record now { words = words_after now.words SetSuspended }) (stepped_actor now.words Suspend (committing true blocks (now.most true) (Cell SetSuspended ∷ []) answer) SetSuspended x)
  suspends f z answer e is =
      let plan' = after (committing true blocks (now.most true) (Cell SetSuspended ∷ []) answer) Done in
      let card' = card_after now.words SetSuspended x.card in
      let over : flag (words_after now.words SetSuspended).fail ≡ true = flag_set true now.words.fail f z e in
      let l = followed_alone.suspends now.size blocks (now.most true) [] s.actors a s.shared y answer is in
      goes_on now (words_after now.words SetSuspended) (λ k. over) a x (record x { task = Some (Suspend, plan'); card = card' }) s y g ex ey Quietly now.devices l.results (record s.shared { fail = true }) (l.results, quiet_are_unnoted y.task l.results l.quiet, refl) l.may l.shared
      (stands now true blocks a x s y ex ey g (words_after now.words SetSuspended) plan' card' x.seen x.share false (gone y y.task l.results) refl tt tt (λ k n. absurd (cc)) l.at)
      (λ k. let bad : true ≡ false = sym k ∙ ap (λ (v : AbstractActor). v.leads) l.at.is in absurd (cc)) (record { fail = sym over; seals = g.words_agree.seals }) g.origin g.cache refl refl (refl, refl, refl) (refl, refl, refl, refl, refl) (refl, refl) (ap (λ (v : AbstractActor). v.order) l.at.is ∙ sym (ap (λ (v : AbstractActor). v.order) is.is)) (λ o h. h) (does_none _ _ _ _ _ tt)

-- a suspend begins its commit, or is refused it
module _ (now : Situation) (blocks : List OBlock) (a : ℕ) (x : Actor) (s : World) (y : AbstractActor) (ex : slice_get now.actors a ≡ Some x) (ey : slice_get s.actors a ≡ Some y) (g : Agrees now s) where
  pub begins : (allowed nodes : ℕ) (answer : Answer) → now.commits.committing ≡ false → IsCommitting now.size [] (committing true blocks (now.most true) (Desk (BeginCommit allowed) ∷ []) answer) None false y →
      WorldFollowsBy (Begins true) Quietly a s (record now { commits = one_begun now.commits }) (record x { task = Some (Suspend, after (committing true blocks (now.most true) (Desk (BeginCommit allowed) ∷ []) answer) (Began nodes)) })
  begins allowed nodes answer quiet is = begins_by now true blocks a x s y ex ey g x.share nodes (effect s.shared SuspendingThere (λ o. []) Begin_clean DoneThere) (after (committing true blocks (now.most true) (Desk (BeginCommit allowed) ∷ []) answer) (Began nodes)) refl quiet (ap (λ (v : AbstractActor). v.order) is.is) (suspend_begun s.shared)
      (followed_alone.begins allowed nodes now.size blocks (now.most true) [] s.actors a s.shared y answer (g.commits.runs ∙ quiet) is)

  pub is_refused : (allowed : ℕ) (refusal : Refusal) (answer : Answer) → IsNoBegin refusal → IsCommitting now.size [] (committing true blocks (now.most true) (Desk (BeginCommit allowed) ∷ []) answer) None false y →
      WorldFollows Quietly a s now (record x { task = Some (Suspend, after (committing true blocks (now.most true) (Desk (BeginCommit allowed) ∷ []) answer) (Refused refusal)) })
  is_refused allowed refusal answer n is = follows_alone now true blocks a x s y ex ey g x.seen x.share (after (committing true blocks (now.most true) (Desk (BeginCommit allowed) ∷ []) answer) (Refused refusal)) x.card None refl tt tt refl
      (followed_alone.is_refused allowed refusal n now.size blocks (now.most true) [] s.actors a s.shared y answer is) (ap (λ (v : AbstractActor). v.order) is.is)

-- a flush asks to lead one
module _ (now : Situation) (blocks : List OBlock) (a : ℕ) (x : Actor) (s : World) (y : AbstractActor) (ex : slice_get now.actors a ≡ Some x) (ey : slice_get s.actors a ≡ Some y) (g : Agrees now s) (step : DeskStep) (share' : Share) (answer : Answer) (ticket : Option ℕ) (asks : IsToLead (now.most false) step)
    (is : IsCommitting now.size [] (committing false blocks (now.most false) (Desk step ∷ []) answer) ticket false y) where
  abbrev p : Plan
  p = committing false blocks (now.most false) (Desk step ∷ []) answer

  -- it is left out, or taken in, there as here
  left_out : IsLeftOut now.commits ticket → Unserved s.shared ticket
  left_out = subst (λ (ended : ℕ). TicketIsUncovered ended ticket) (sym g.commits.ended)

  taken_in : TakesIn now.commits ticket → Serves s.shared ticket
  taken_in = subst (λ (ended : ℕ). TicketIsCovered ended ticket) (sym g.commits.ended)

  pub leads : (nodes : ℕ) → now.commits.committing ≡ false → now.commits.broken ≡ false → IsLeftOut now.commits ticket →
      WorldFollowsBy (Begins false) Quietly a s (record now { commits = one_begun now.commits }) (record x { task = Some (Flush, after p (Began nodes)); share = share' })
  leads nodes quiet whole out = begins_by now false blocks a x s y ex ey g share' nodes (effect s.shared (FlushingFor None) (λ o. []) (Begin None) DoneThere) (after p (Began nodes)) refl quiet (ap (λ (v : AbstractActor). v.order) is.is) (flush_begun s.shared)
      (followed_alone.leads nodes now.size blocks (now.most false) [] s.actors a s.shared y ticket step answer asks (g.commits.runs ∙ quiet, g.commits.broken ∙ whole, left_out out) is)

  pub is_not_led : (refusal : Refusal) → IsNoBegin refusal → IsLeftOut now.commits ticket → WorldFollows Quietly a s now (record x { task = Some (Flush, after p (Refused refusal)); share = share' })
  is_not_led refusal n out = let k = by_step step asks refusal n in
      follows_alone now false blocks a x s y ex ey g x.seen share' (after p (Refused refusal)) x.card None k.0 k.1 k.2 k.3
      (followed_alone.is_not_led refusal n now.size blocks (now.most false) [] s.actors a s.shared y ticket step answer asks (left_out out) is) (ap (λ (v : AbstractActor). v.order) is.is)
    where
      -- once it is refused, nothing is left but orders to give up
      OfRefused : DeskStep → Refusal → Type 0
      OfRefused step refusal = ((after (committing false blocks (now.most false) (Desk step ∷ []) answer) (Refused refusal)).job ≡ commit_task false blocks (now.most false)) × IsOfCommit false (now.most false) (after (committing false blocks (now.most false) (Desk step ∷ []) answer) (Refused refusal)).steps
          × LeadsAt false (after (committing false blocks (now.most false) (Desk step ∷ []) answer) (Refused refusal)).steps × (ticket_in (want (after (committing false blocks (now.most false) (Desk step ∷ []) answer) (Refused refusal))) share' ≡ None)

      given : (refusal : Refusal) → (release_orders blocks ≡ lets_go_unless_failed (commit_task false blocks (now.most false)) refusal) → IsOfCommit false (now.most false) (lets_go_unless_failed (commit_task false blocks (now.most false)) refusal) × LeadsAt false (lets_go_unless_failed (commit_task false blocks (now.most false)) refusal) × (ticket_in (first_step (lets_go_unless_failed (commit_task false blocks (now.most false)) refusal) (Refuses refusal)) share' ≡ None)
      given refusal e = let r = of_releases false (now.most false) refl (release_orders blocks) (released now false blocks a x s y ex ey g blocks) in
          subst (λ (ws : List Want). IsOfCommit false (now.most false) ws × LeadsAt false ws × (ticket_in (first_step ws (Refuses refusal)) share' ≡ None)) e (r.0, r.1, r.2 (Refuses refusal) share')

      by_refusal : (refusal : Refusal) → IsNoBegin refusal → IsOfCommit false (now.most false) (lets_go_unless_failed (commit_task false blocks (now.most false)) refusal) × LeadsAt false (lets_go_unless_failed (commit_task false blocks (now.most false)) refusal) × (ticket_in (first_step (lets_go_unless_failed (commit_task false blocks (now.most false)) refusal) (Refuses refusal)) share' ≡ None)
      by_refusal Busy n = given Busy refl
      by_refusal Memory n = given Memory refl
      by_refusal GenerationEnd n = given GenerationEnd refl
      by_refusal refusal n = absurd n

      by_step : (step : DeskStep) → IsToLead (now.most false) step → (refusal : Refusal) → IsNoBegin refusal → OfRefused step refusal
      by_step (Arrive nodes) l refusal n = let k = by_refusal refusal n in (refl, k.0, k.1, k.2)
      by_step (Ask nodes) l refusal n = let k = by_refusal refusal n in (refl, k.0, k.1, k.2)
      by_step step l refusal n = absurd l

  pub is_broken : now.commits.broken ≡ true → IsLeftOut now.commits ticket → WorldFollows Quietly a s now (record x { task = Some (Flush, after p (Refused Failed)); share = share' })
  is_broken broken out = let k = by_step step asks in
      follows_alone now false blocks a x s y ex ey g x.seen share' (after p (Refused Failed)) x.card None k.0 k.1 k.2 k.3
      (followed_alone.is_broken now.size blocks (now.most false) [] s.actors a s.shared y ticket step answer asks (g.commits.broken ∙ broken, left_out out) is) (ap (λ (v : AbstractActor). v.order) is.is)
    where
      by_step : (step : DeskStep) → IsToLead (now.most false) step → ((after (committing false blocks (now.most false) (Desk step ∷ []) answer) (Refused Failed)).job ≡ commit_task false blocks (now.most false)) × IsOfCommit false (now.most false) (after (committing false blocks (now.most false) (Desk step ∷ []) answer) (Refused Failed)).steps
          × LeadsAt false (after (committing false blocks (now.most false) (Desk step ∷ []) answer) (Refused Failed)).steps × (ticket_in (want (after (committing false blocks (now.most false) (Desk step ∷ []) answer) (Refused Failed))) share' ≡ None)
      by_step (Arrive nodes) l = (refl, tt, tt, refl)
      by_step (Ask nodes) l = (refl, tt, tt, refl)
      by_step step l = absurd l

  pub is_served : TakesIn now.commits ticket → WorldFollows Quietly a s now (record x { task = Some (Flush, after p Served); share = share' })
  is_served taken = follows_alone now false blocks a x s y ex ey g x.seen share' (after p Served) x.card None refl tt tt refl
      (followed_alone.is_served now.size blocks (now.most false) [] s.actors a s.shared y ticket step answer asks (taken_in taken) is) (ap (λ (v : AbstractActor). v.order) is.is)

-- it gets a ticket of the commit that comes after the one that runs
module _ (now : Situation) (blocks : List OBlock) (a : ℕ) (x : Actor) (s : World) (y : AbstractActor) (ex : slice_get now.actors a ≡ Some x) (ey : slice_get s.actors a ≡ Some y) (g : Agrees now s) where
  pub gets_ticket : (answer : Answer) → now.commits.committing ≡ true → now.commits.broken ≡ false → IsCommitting now.size [] (committing false blocks (now.most false) (Desk (Arrive (now.most false)) ∷ []) answer) None false y →
      WorldFollows Quietly a s now (record x { task = Some (Flush, after (committing false blocks (now.most false) (Desk (Arrive (now.most false)) ∷ []) answer) Ticket); share = Waiting (now.commits.ended + 2) })
  gets_ticket answer busy whole is = follows_alone now false blocks a x s y ex ey g x.seen (Waiting (now.commits.ended + 2)) (after (committing false blocks (now.most false) (Desk (Arrive (now.most false)) ∷ []) answer) Ticket) x.card (Some (s.shared.began + 1)) refl (refl, refl, refl) refl numbered
      (followed_alone.gets_ticket (now.most false) now.size blocks [] s.actors a s.shared y answer (g.commits.runs ∙ busy) (g.commits.broken ∙ whole) is) (ap (λ (v : AbstractActor). v.order) is.is)
    where
      numbered : Some (now.commits.ended + 2) ≡ Some (s.shared.began + 1)
      numbered = ap (λ (n : ℕ). Some n) (let e = g.commits.began ∙ ap (λ (c : Bool). now.commits.ended + cond c 1 0) busy in omega (arith, e))

-- one that is late has no task there
pub late_looks : (now : Situation) (clean : Bool) (blocks : List OBlock) (a : ℕ) (x : Actor) (s : World) (y : AbstractActor) → slice_get now.actors a ≡ Some x → slice_get s.actors a ≡ Some y → Agrees now s →
    (later : List Want) (answer : Answer) (st : StandsFor now.size now.most now.words x y) → IsLate st.failed (committing clean blocks (now.most clean) (Cell (Look Fail) ∷ later) answer) y →
    WorldFollows Quietly a s now (stepped_actor now.words (flush_or_suspend clean) (committing clean blocks (now.most clean) (Cell (Look Fail) ∷ later) answer) (Look Fail) x)
late_looks now clean blocks a x s y ex ey g later answer st l = subst (λ (p : Plan). WorldFollows Quietly a s now (record x { task = Some (flush_or_suspend clean, p); card = card_after now.words (Look Fail) x.card })) (sym (finds_failed now.words (commit_task clean blocks (now.most clean)) later answer (st.has_failed l.has_failed)))
    (stays_there now a x (record x { task = Some (flush_or_suspend clean, committing clean blocks (now.most clean) [] (Refuses Failed)); card = card_after now.words (Look Fail) x.card }) s y g ex ey Quietly ([], unnoted_none y.task, refl)
    (record {
      failed = st.failed;
      has_failed = st.has_failed;
      at = as_doing clean now.size now.most st.failed (committing clean blocks (now.most clean) [] (Refuses Failed)) (card_after now.words (Look Fail) x.card) x.share y (record { blocks = blocks; job = refl; steps = tt; at = inr (record { has_failed = l.has_failed; nothing = l.nothing; at = inr (refl, λ e. absurd (cc)) }) });
      below = record { owned = st.below.owned; shared = st.below.shared };
      among_others = λ among. ap is_alone l.nothing;
    }) (λ o h. h) (does_none _ _ _ _ _ (is_no_migration clean)))
