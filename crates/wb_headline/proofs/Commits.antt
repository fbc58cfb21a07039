-- Each step of a flush, or of a suspend, with each result that it may have, is followed; so is one that fails.
use Rattle.std.proofs.Common.{◌≡◌, ◌∙◌, ◌≤◌, ◌<◌, ◌⊎◌, inl, inr, ℕ, zero, suc, Bool, true, false, List, Option, Some, None, refl, sym, ap, subst, arith, length, slice_get, slice_set}
use Rattle.std.proofs.lemmas.List.Elements.{Contains-append_right}
use Rattle.wb_types.specs.declared.number.OBlock.{OBlock}
use Rattle.wb_types.specs.declared.mode.Dev.TheVariants.{Metadata, Cache, Origin}
use Rattle.wb_disk.specs.Device.{Content as Bytes, History}
use Rattle.wb_disk.specs.Failing.{lands}
use Rattle.wb_words.specs.Rule.{LockRule}
use Rattle.wb_words.specs.SharedWords.{word_at, place_in}
use Rattle.wb_words.specs.Effects.{result_of, words_after}
use Rattle.wb_words.specs.declared.step.CellStep.TheVariants.{Look, SetFailed, SetSuspended}
use Rattle.wb_words.specs.declared.word.Word.TheVariants.{Fail, Seal as SealWord}
use Rattle.wb_tree.specs.Mapping.{Mapping}
use Rattle.wb_meta.specs.declared.commit_steps.CommitSteps.TheVariants.{NodesWritten}
use Rattle.wb_policy.specs.declared.order.Order.{Order}
use Rattle.wb_desk.specs.Desks.{DeskState}
use Rattle.wb_desk.specs.Calls.{released}
use Rattle.wb_desk.specs.Commits.{HasBegun, commit_begun}
use Rattle.wb_tasks.specs.Plan.{Plan, want, after, got_of}
use Rattle.wb_tasks.specs.Ready.{Suits}
use Rattle.wb_tasks.specs.declared.step.Answer.TheVariants.{Done as Finished}
use Rattle.wb_tasks.specs.declared.step.DeviceStep.TheVariants.{Sync, WriteNode, WriteRoot, ReadMetadata}
use Rattle.wb_tasks.specs.declared.step.DeskStep.TheVariants.{Arrive, Ask, BeginCommit, BreakCommit, EndCommit, ReleaseOrder}
use Rattle.wb_tasks.specs.declared.step.DeskStep.{DeskStep}
use Rattle.wb_tasks.specs.declared.step.Want.{Want}
use Rattle.wb_tasks.specs.declared.step.Want.TheVariants.{Cell, Device, Desk, End}
use Rattle.wb_tasks.specs.declared.step.Got.{Got}
use Rattle.wb_tasks.specs.declared.step.Got.TheVariants.{Done, Began, Ticket, Served, Refused as GotRefused}
use Rattle.wb_devices.specs.declared.devices.Devices.{Devices}
use Rattle.wb_devices.specs.declared.running.RunningCommit.{RunningCommit}
use Rattle.wb_stage.specs.declared.share.Share.{Share}
use Rattle.wb_stage.specs.declared.share.Share.TheVariants.{Waiting}
use Rattle.wb_stage.specs.Sharing.{ShareIsCovered, share_then}
use Rattle.wb_stage.specs.Asking.{DidRelease, IsGivenUp, ended}
use Rattle.wb_promise.specs.declared.job.Job.TheVariants.{Flush, Suspend}
use Rattle.wb_promise.specs.States.{Shape, Actor, Target, Stands}
use Rattle.wb_promise.specs.Effects.{actor_then, dropped}
use Rattle.wb_runs.specs.Holding.{cards_of, AllSuited}
use Rattle.wb_promise.specs.Clerk.{Notes, Doing}
use Rattle.wb_runs.proofs.Desks.{given_up_stands}
use Rattle.wb_runs.proofs.Owning.{Owned}
use Rattle.wb_runs.proofs.Images.{Images, later_of}
use Rattle.wb_runs.proofs.Metadata.{MetadataKept, AtDesk, kept_readable}
use Rattle.wb_link.specs.World.{abstract_after_all}
use Rattle.wb_simulation.specs.Actors.{IsCommitAt, AreAmongOthers}
use Rattle.wb_simulation.proofs.Followed.{doing_of}
use Rattle.wb_simulation.specs.Sites.{StateTakesClean}
use Rattle.wb_simulation.specs.Telling.{Quietly, Releases}
use Rattle.wb_simulation.specs.Worlds.{GivesUp, IsLeftOut, TakesIn}
use Rattle.wb_simulation.specs.Laws.{WantsNext, AsksToLead, flush_or_suspend, stepped_actor, after_step}
use Rattle.wb_simulation.proofs.Commits.{commit_steps_followed}
use Rattle.wb_simulation.proofs.Noted.{notes_followed}
use Rattle.wb_simulation.proofs.Opening.{images_followed}
use Rattle.wb_headline.specs.Desks.{live_orders}
use Rattle.wb_headline.proofs.Desking.{desk_releases}
use Rattle.wb_headline.proofs.Following.{situation, commits_of, size, most, Followed, Goes}
use Rattle.wb_headline.proofs.Suspends.{AllSeen, Saw, saw_all}
use Rattle.std.proofs.lemmas.Bool.{cases_eq}
use Rattle.wb_headline.proofs.Keeping.{KeepingAt, saw_now, all_told}
use Rattle.wb_simulation.specs.Actors.{IsOfCommit, IsAmongOthers, ticket_in}
use Rattle.wb_simulation.proofs.Followed.{begins_by}
use Rattle.wb_stage.specs.Seen.{seen_with}
use Rattle.wb_promise.specs.Headline.{place_of}
use Rattle.wb_promise.specs.Sealed.{number_of}
use Rattle.wb_headline.proofs.Seeing.{orders_set, slot_there, slot_within}
use Rattle.wb_headline.proofs.Orders.{found_of, none_dropped}
use Rattle.wb_headline.proofs.Targets.{standing, actor_is, beside, leads_on, stays_on, unnoted}
use Rattle.wb_disk.specs.Crash.{Choice}
use Rattle.wb_promise.specs.Happenings.{Chosen, Plain, Commits, Asks, Gives, Falters, MayFailAt}
use Rattle.wb_headline.proofs.Advancing.{by_end, by_put, by_sync, by_put_fault, syncs, by_sync_fault, Failed_by, Done_by, mine, sync_fails, goes_still, asked_then, begins, begin_refused, lead_refused, is_served, gets_ticket, breaks, told_so, told_still, looks_at_fail, sets_failed, answers}

module _ (P A : Type 0) (shape : Shape) (images : Images) (t : Target P) (commit : Option RunningCommit) (devices : Devices (List History)) (actors : List Actor) (n : Notes) (known : MetadataKept {P = P} {A = A} shape.geometry images (Stands t) commit devices.metadata)
    (f : Followed P A shape images (standing P A shape images t commit devices actors n) n) (rule : LockRule shape.geometry.origin_blocks t.words (cards_of actors)) (all_suited : AllSuited shape.geometry.origin_blocks actors) (k : KeepingAt t actors) (a : ℕ) (x : Actor) (ex : slice_get actors a ≡ Some x) (plan : Plan)
    (doing : Doing) (noted : slice_get n.doings a ≡ Some (Some doing)) (suits : Suits shape.geometry.origin_blocks plan x.card) where
  -- ---- orders that a flush gives up

  gives_up : (xt : x.task ≡ Some (Flush, plan)) → doing.job ≡ Flush → (block : OBlock) (new : DeskState P) → Desk (ReleaseOrder block) ≡ want plan → DidRelease x.awaiting block t.desk new →
      Goes P A shape (record { devices = devices; commit = commit; phase = Stands (record { words = t.words; desk = new }); actors = slice_set actors a (actor_then {P = P} {A = A} shape (Stands t) devices x (Desk (ReleaseOrder block)) Done) }) n
  gives_up xt job_is block new next did =
      subst (λ (v : Actor). Goes P A shape (record { devices = devices; commit = commit; phase = Stands (record { words = t.words; desk = new }); actors = slice_set actors a v }) n) (sym (actor_is P A shape (Stands t) devices x Flush plan (Desk (ReleaseOrder block)) Done xt))
      (by_order (Rattle.wb_stage.specs.Asking.order_of block x.awaiting) refl did)
    where
      owned : Owned t.desk actors
      owned = k.owned

      wanted : WantsNext (situation shape t devices actors) a x f.site.world Flush plan (Desk (ReleaseOrder block))
      wanted = record { here = ex; task = xt; asks = sym next; agrees = f.phase.agrees }

      -- nobody suspends while it is at work
      among : AreAmongOthers actors
      among c z ez = elim (k.alone c z ez) [
        | inl o ↦ o
        | inr rest ↦ elim (cases_eq a c) [
          | inl same ↦ (let both : Some z ≡ Some x = sym ez ∙ ap (slice_get actors) (sym same) ∙ ex in let is : z ≡ x = cc in subst (λ (v : Actor). IsAmongOthers v.task) (sym is) (subst IsAmongOthers (sym xt) tt))
          | inr away ↦ absurd (let bad : None ≡ Some (Flush, plan) = sym (rest a x away ex) ∙ xt in cc)
        ]
      ]

      To : DeskState P → Type 0
      To d = Goes P A shape (record { devices = devices; commit = commit; phase = Stands (record { words = t.words; desk = d }); actors = slice_set actors a (record x { task = Some (Flush, after plan Done); awaiting = dropped block x.awaiting }) }) n

      by_order : (o : Option Order) → Rattle.wb_stage.specs.Asking.order_of block x.awaiting ≡ o → IsGivenUp o t.desk new → To new
      by_order None e d =
          let g = commit_steps_followed.releases false (situation shape t devices actors) block a x plan f.site.world wanted in
          subst To (sym d) (subst (λ (os : List Order). Goes P A shape (record { devices = devices; commit = commit; phase = Stands t; actors = slice_set actors a (record x { task = Some (Flush, after plan Done); awaiting = os }) }) n) (sym (none_dropped block x.awaiting e))
          (stays_on P A shape images t commit devices actors n known f a x ex Quietly t.words devices (after_step Flush plan Done x) n g (unnoted P A shape images t commit devices actors n known f a x ex notes_followed.quiet g f.notes_agree) refl refl refl))
      by_order (Some order) e d =
          let y : Actor = record x { task = Some (Flush, after plan Done); awaiting = dropped block x.awaiting } in
          let mine = found_of block x.awaiting order e in
          let had = Contains-append_right x.orders x.awaiting order mine.0 in
          let l = owned.live a x order ex had in
          let is : new ≡ released t.desk l.cache = d.0 l in
          let here : slice_get (live_orders t.desk) l.cache.0 ≡ Some (Some order) = slot_there t.desk.orders.slots l.cache.0 l.live l.there ∙ ap (λ (q : Order). Some (Some q)) l.same in
          let inside = slot_within t.desk.orders.slots l.cache.0 l.live l.there in
          let many_slots = known.is.kept.slots in
          let many_blocks = known.is.kept.blocks in
          let g = commit_steps_followed.gives_up (situation shape t devices actors) block a x plan l.cache.0 order (dropped block x.awaiting) f.site.world among wanted here
          (λ c z ez h. owned.one c a z x order ez ex h had) in
          let s' = (abstract_after_all f.site.world g.records).shared in
          let readable = kept_readable shape.geometry images devices.metadata P A (Stands t) commit known in
          subst To (sym is) (leads_on P A shape images t commit devices actors n known f a x ex (GivesUp l.cache.0) Releases (record { words = t.words; desk = released t.desk l.cache }) commit devices y n images (slice_set (live_orders t.desk) l.cache.0 None) g
          (unnoted P A shape images t commit devices actors n known f a x ex notes_followed.released g f.notes_agree)
          refl refl (subst (λ (v : DeskState P). AtDesk shape.geometry images v commit devices.metadata) is (given_up_stands P shape.geometry images t.desk commit devices.metadata new order known d))
          (sym (orders_set t.desk.orders.slots l.cache.0 None)) (desk_releases P t.desk f.site.world.shared s' f.phase.desk l.cache (omega (arith, inside, many_slots, many_blocks)) g.desk.0 g.desk.1)
          (images_followed.stay shape.geometry images.committed (later_of images) devices.metadata devices.metadata f.site.world.shared s' f.phase.images_agree g.turned readable.read) (λ state e. let r = f.phase.running state e in (g.turned.1 ∙ r.0, subst (StateTakesClean state) (sym g.turned.4) r.1)))

  -- ---- what a suspend sees, and the bit that it sets

  sees : (xt : x.task ≡ Some (Suspend, plan)) → doing.job ≡ Suspend → (block : OBlock) → Cell (Look (SealWord block)) ≡ want plan →
      Goes P A shape (record { devices = devices; commit = commit; phase = Stands t; actors = slice_set actors a (actor_then {P = P} {A = A} shape (Stands t) devices x (Cell (Look (SealWord block))) (got_of (result_of t.words (Look (SealWord block))))) }) n
  sees xt job_is block next =
      let seen' = seen_with (word_at t.words.seals block) x.seen in
      told_so P A shape images t commit devices actors n known f rule a x ex true plan xt doing noted job_is (Look (SealWord block)) (record (stepped_actor t.words Suspend plan (Look (SealWord block)) x) { seen = seen' })
      (actor_is P A shape (Stands t) devices x Suspend plan (Cell (Look (SealWord block))) (got_of (result_of t.words (Look (SealWord block)))) xt)
      (commit_steps_followed.sees (situation shape t devices actors) block seen' a x plan f.site.world (record { here = ex; task = xt; asks = sym next; agrees = f.phase.agrees }))

  sets_suspended : (xt : x.task ≡ Some (Suspend, plan)) → doing.job ≡ Suspend → Cell SetSuspended ≡ want plan →
      Goes P A shape (record { devices = devices; commit = commit; phase = Stands (record { words = words_after t.words SetSuspended; desk = t.desk }); actors = slice_set actors a (actor_then {P = P} {A = A} shape (Stands t) devices x (Cell SetSuspended) (got_of (result_of t.words SetSuspended))) }) n
  sets_suspended xt job_is next =
      told_still P A shape images t commit devices actors n known f rule a x ex true plan xt doing noted job_is SetSuspended tt
      (commit_steps_followed.suspends (situation shape t devices actors) _ _ a x plan f.site.world rule.logs.fail (record { here = ex; task = xt; asks = sym next; agrees = f.phase.agrees }))

  -- once it asks for its commit it has seen all, and the seals tell
  has_seen : (xt : x.task ≡ Some (Suspend, plan)) → (allowed : ℕ) → Desk (BeginCommit allowed) ≡ want plan → AllSeen t.words t.desk.tree.entries x.seen × ((block : OBlock) → number_of (place_in (word_at t.words.seals block)) ≡ place_of t.desk.tree.entries block.0)
  has_seen xt allowed next =
      let first = begins_by plan (Desk (BeginCommit allowed)) (sym next) (λ v q. absurd (cc)) in
      let b = beside P A shape images t commit devices actors n known f a x ex in
      let r : IsCommitAt (size P A shape) (most P A shape true) _ true plan x.share b.0 = doing_of (size P A shape) (most P A shape) t.words x b.0 Suspend plan (f.phase.agrees.each a x b.0 ex b.1) xt in
      let none = (subst (λ (ws : List Want). IsOfCommit true (most P A shape true) ws) first.1 r.steps).2 in (
        saw_all t.words t.desk.tree.entries x.seen allowed first.0 none (subst (λ (ws : List Want). Saw t.words t.desk.tree.entries x.seen ws) first.1 (saw_now P A shape images t commit devices actors n known f rule all_suited k a x ex Suspend plan xt refl)),
        all_told P A shape images t commit devices actors n known f rule all_suited k a x ex Suspend plan xt refl (Desk (BeginCommit allowed)) next (λ b p d q. absurd (cc)),
      )

  -- a suspend begins its commit
  suspends_by : (xt : x.task ≡ Some (Suspend, plan)) → doing.job ≡ Suspend → (allowed nodes : ℕ) (c : RunningCommit) (tree : Mapping) → Desk (BeginCommit allowed) ≡ want plan → c.steps ≡ NodesWritten 0 → (hint_of : P → ℕ → ℕ) → HasBegun hint_of (Some x.seen) t.desk c.image (commit_begun t.desk tree c.image) →
      Goes P A shape (record { devices = devices; commit = Some c; phase = Stands (record { words = t.words; desk = commit_begun t.desk tree c.image }); actors = slice_set actors a (actor_then {P = P} {A = A} shape (Stands t) devices x (Desk (BeginCommit allowed)) (Began nodes)) }) n
  suspends_by xt job_is allowed nodes c tree e steps hint_of begun =
      begins P A shape images t commit devices actors n known f rule a x ex true plan xt doing noted job_is (BeginCommit allowed) nodes c tree _ (goes_still P A shape images t commit devices actors n known f rule a x ex true plan xt doing noted job_is (Desk (BeginCommit allowed)) (Began nodes) tt) steps hint_of begun (λ q. has_seen xt allowed e)
      (commit_steps_followed.begins (situation shape t devices actors) nodes allowed a x plan f.site.world (record { here = ex; task = xt; asks = sym e; agrees = f.phase.agrees }) begun.may.idle)

  -- a flush leads one
  leads_by : (xt : x.task ≡ Some (Flush, plan)) → doing.job ≡ Flush → (step : DeskStep) (nodes : ℕ) (c : RunningCommit) (tree : Mapping) (asks : AsksToLead step) → Desk step ≡ want plan → t.desk.broken ≡ false → c.steps ≡ NodesWritten 0 → (hint_of : P → ℕ → ℕ) → HasBegun hint_of None t.desk c.image (commit_begun t.desk tree c.image) → IsLeftOut (commits_of t.desk) (ticket_in (Desk step) x.share) →
      Goes P A shape (record { devices = devices; commit = Some c; phase = Stands (record { words = t.words; desk = commit_begun t.desk tree c.image }); actors = slice_set actors a (actor_then {P = P} {A = A} shape (Stands t) devices x (Desk step) (Began nodes)) }) n
  leads_by xt job_is step nodes c tree asks e whole steps hint_of begun out =
      begins P A shape images t commit devices actors n known f rule a x ex false plan xt doing noted job_is step nodes c tree _ (asked_then P A shape images t commit devices actors n known f rule a x ex false plan xt doing noted job_is step (Began nodes) asks refl) steps hint_of begun (λ q. absurd (cc))
      (commit_steps_followed.leads (situation shape t devices actors) nodes step (share_then t.desk x.share step (Began nodes)) a x plan f.site.world asks (record { here = ex; task = xt; asks = sym e; agrees = f.phase.agrees }) begun.may.idle whole out)

  -- one that asks with a ticket is served, or not, as the desk says
  left_out : (allowed : ℕ) (share : Share) → ¬ ShareIsCovered t.desk share → IsLeftOut (commits_of t.desk) (ticket_in (Desk (Ask allowed)) share)
  left_out allowed (Waiting number) uncovered = not_covered (compare number t.desk.ended)
    where
      not_covered : (number ≤ t.desk.ended) ⊎ (t.desk.ended < number) → t.desk.ended < number
      not_covered (inl covered) = absurd (uncovered covered)
      not_covered (inr out) = out

      compare : (n m : ℕ) → (n ≤ m) ⊎ (m < n)
      compare zero m = inl (omega arith)
      compare (suc n) zero = inr (omega arith)
      compare (suc n) (suc m) = elim (compare n m) [ inl l ↦ inl (omega (arith, l)) | inr g ↦ inr (omega (arith, g)) ]
  left_out allowed share uncovered = tt

  taken_in : (allowed : ℕ) (share : Share) → ShareIsCovered t.desk share → TakesIn (commits_of t.desk) (ticket_in (Desk (Ask allowed)) share)
  taken_in allowed (Waiting number) covered = covered
  taken_in allowed share covered = absurd covered

  -- ---- any step

  abbrev Any_done : (clean : Bool) → x.task ≡ Some (flush_or_suspend clean, plan) → doing.job ≡ flush_or_suspend clean → Want → Got → List Bytes → Chosen P A → Type 0
  Any_done clean xt job_is next got read chosen = Done_by P A shape images t commit devices actors n known f rule a x ex clean plan xt doing noted job_is suits next got read chosen

  -- what a suspend meets as a flush does
  abbrev IsCommon : Want → Type 0
  IsCommon (Cell step) = Unit {0}
  IsCommon (Device step) = Unit {0}
  IsCommon (Desk EndCommit) = Unit {0}
  IsCommon (Desk BreakCommit) = Unit {0}
  IsCommon (End answer) = Unit {0}
  IsCommon next = ⊥

  as_flush : (clean : Bool) (next : Want) (got : Got) (read : List Bytes) (chosen : Chosen P A) → IsCommon next
      → Gives shape (standing P A shape images t commit devices actors n) x (flush_or_suspend clean) next got read chosen → Gives shape (standing P A shape images t commit devices actors n) x Flush next got read chosen
  as_flush false next got read chosen common g = g
  as_flush true (Cell step) got read chosen common g = g
  as_flush true (Device (Sync Metadata)) got read chosen common g = g
  as_flush true (Device step) got read chosen common g = g
  as_flush true (Desk EndCommit) got read chosen common g = g
  as_flush true (Desk BreakCommit) got read chosen common g = g
  as_flush true (End Finished) got read chosen common g = g
  as_flush true (End answer) got read chosen common g = g
  as_flush true next got read chosen common g = absurd common

  pub commit_steps : (clean : Bool) (xt : x.task ≡ Some (flush_or_suspend clean, plan)) (job_is : doing.job ≡ flush_or_suspend clean) (next : Want) (got : Got) (read : List Bytes) (chosen : Chosen P A) → length doing.then_finished ≡ length n.floors → next ≡ want plan →
      Gives shape (standing P A shape images t commit devices actors n) x (flush_or_suspend clean) next got read chosen → Any_done clean xt job_is next got read chosen
  commit_steps clean xt job_is (Cell (Look Fail)) got read chosen asked e g =
      let h = as_flush clean (Cell (Look Fail)) got read chosen tt g in
      subst (λ (v : Got). Any_done clean xt job_is (Cell (Look Fail)) v read chosen) (sym h.1) (looks_at_fail P A shape images t commit devices actors n known f rule a x ex clean plan xt doing noted job_is e)
  commit_steps clean xt job_is (Cell SetFailed) got read chosen asked e g =
      let h = as_flush clean (Cell SetFailed) got read chosen tt g in
      subst (λ (v : Got). Any_done clean xt job_is (Cell SetFailed) v read chosen) (sym h.1) (sets_failed P A shape images t commit devices actors n known f rule a x ex clean plan xt doing noted job_is e)
  commit_steps true xt job_is (Cell (Look (SealWord block))) got read chosen asked e g = subst (λ (v : Got). Any_done true xt job_is (Cell (Look (SealWord block))) v read chosen) (sym g.1) (sees xt job_is block e)
  commit_steps true xt job_is (Cell SetSuspended) got read chosen asked e g = subst (λ (v : Got). Any_done true xt job_is (Cell SetSuspended) v read chosen) (sym g.1) (sets_suspended xt job_is e)
  commit_steps true xt job_is (Cell step) got read chosen asked e g = absurd (mine P A shape images t commit devices actors n known f rule a x ex true plan xt doing noted job_is suits (Cell step) e)
  commit_steps false xt job_is (Cell step) got read chosen asked e g = absurd (mine P A shape images t commit devices actors n known f rule a x ex false plan xt doing noted job_is suits (Cell step) e)
  commit_steps clean xt job_is (Device (Sync Cache)) got read chosen asked e g =
      let h = as_flush clean (Device (Sync Cache)) got read chosen tt g in
      subst (λ (v : Got). Any_done clean xt job_is (Device (Sync Cache)) v read chosen) (sym h.1) (syncs P A shape images t commit devices actors n known f rule a x ex clean plan xt doing noted job_is Cache tt e read)
  commit_steps clean xt job_is (Device (Sync Origin)) got read chosen asked e g =
      let h = as_flush clean (Device (Sync Origin)) got read chosen tt g in
      subst (λ (v : Got). Any_done clean xt job_is (Device (Sync Origin)) v read chosen) (sym h.1) (syncs P A shape images t commit devices actors n known f rule a x ex clean plan xt doing noted job_is Origin tt e read)
  commit_steps clean xt job_is (Device (Sync Metadata)) got read chosen asked e g =
      let h = as_flush clean (Device (Sync Metadata)) got read chosen tt g in
      subst (λ (v : Got). Any_done clean xt job_is (Device (Sync Metadata)) v read chosen) (sym h.1) (by_sync P A shape images t commit devices actors n known f rule a x ex clean plan xt doing noted job_is suits read chosen commit refl h.2 e)
  commit_steps clean xt job_is (Device (WriteNode k)) got read chosen asked e g =
      let h = as_flush clean (Device (WriteNode k)) got read chosen tt g in
      let p = by_put P A shape images t commit devices actors n known f rule a x ex clean plan xt doing noted job_is suits (WriteNode k) refl e read tt chosen commit refl h.2 in
      subst (λ (v : Got). Any_done clean xt job_is (Device (WriteNode k)) v read chosen) (sym h.1) (subst (λ (c : Chosen P A). Any_done clean xt job_is (Device (WriteNode k)) Done read c) (sym p.1) p.2)
  commit_steps clean xt job_is (Device WriteRoot) got read chosen asked e g =
      let h = as_flush clean (Device WriteRoot) got read chosen tt g in
      let p = by_put P A shape images t commit devices actors n known f rule a x ex clean plan xt doing noted job_is suits WriteRoot refl e read tt chosen commit refl h.2 in
      subst (λ (v : Got). Any_done clean xt job_is (Device WriteRoot) v read chosen) (sym h.1) (subst (λ (c : Chosen P A). Any_done clean xt job_is (Device WriteRoot) Done read c) (sym p.1) p.2)
  commit_steps true xt job_is (Desk (BeginCommit allowed)) (Began nodes) read (Commits c tree) asked e g = suspends_by xt job_is allowed nodes c tree e g.1.2 g.1.3.0 g.1.3.1
  commit_steps true xt job_is (Desk (BeginCommit allowed)) (GotRefused refusal) read Plain asked e g = begin_refused P A shape images t commit devices actors n known f rule a x ex true plan xt doing noted job_is refusal allowed e refl g.1
  commit_steps true xt job_is (Desk (BeginCommit allowed)) got read chosen asked e g = absurd g.1
  commit_steps false xt job_is (Desk (BeginCommit allowed)) got read chosen asked e g = absurd (mine P A shape images t commit devices actors n known f rule a x ex false plan xt doing noted job_is suits (Desk (BeginCommit allowed)) e)
  commit_steps false xt job_is (Desk (Arrive allowed)) Ticket read Plain asked e g = gets_ticket P A shape images t commit devices actors n known f rule a x ex false plan xt doing noted job_is allowed e refl g.1.0 g.1.1
  commit_steps false xt job_is (Desk (Arrive allowed)) (Began nodes) read (Commits c tree) asked e g = leads_by xt job_is (Arrive allowed) nodes c tree tt e g.1.0 g.1.1.2 g.1.1.3.0 g.1.1.3.1 tt
  commit_steps false xt job_is (Desk (Arrive allowed)) (GotRefused refusal) read Plain asked e g = lead_refused P A shape images t commit devices actors n known f rule a x ex false plan xt doing noted job_is (Arrive allowed) refusal tt e refl g.1 tt
  commit_steps false xt job_is (Desk (Arrive allowed)) got read chosen asked e g = absurd g.1
  commit_steps false xt job_is (Desk (Ask allowed)) Served read Plain asked e g = is_served P A shape images t commit devices actors n known f rule a x ex false plan xt doing noted job_is (Ask allowed) tt e refl (taken_in allowed x.share g.1)
  commit_steps false xt job_is (Desk (Ask allowed)) (Began nodes) read (Commits c tree) asked e g = leads_by xt job_is (Ask allowed) nodes c tree tt e g.1.1.0 g.1.1.1.2 g.1.1.1.3.0 g.1.1.1.3.1 (left_out allowed x.share g.1.0)
  commit_steps false xt job_is (Desk (Ask allowed)) (GotRefused refusal) read Plain asked e g = lead_refused P A shape images t commit devices actors n known f rule a x ex false plan xt doing noted job_is (Ask allowed) refusal tt e refl g.1.1 (left_out allowed x.share g.1.0)
  commit_steps false xt job_is (Desk (Ask allowed)) got read chosen asked e g = absurd g.1.1
  commit_steps true xt job_is (Desk (Arrive allowed)) got read chosen asked e g = absurd (mine P A shape images t commit devices actors n known f rule a x ex true plan xt doing noted job_is suits (Desk (Arrive allowed)) e)
  commit_steps true xt job_is (Desk (Ask allowed)) got read chosen asked e g = absurd (mine P A shape images t commit devices actors n known f rule a x ex true plan xt doing noted job_is suits (Desk (Ask allowed)) e)
  commit_steps clean xt job_is (Desk BreakCommit) got read chosen asked e g =
      let h = as_flush clean (Desk BreakCommit) got read chosen tt g in
      subst (λ (v : Got). Any_done clean xt job_is (Desk BreakCommit) v read chosen) (sym h.1) (breaks P A shape images t commit devices actors n known f rule a x ex clean plan xt doing noted job_is e)
  commit_steps clean xt job_is (Desk EndCommit) got read chosen asked e g =
      let h = as_flush clean (Desk EndCommit) got read chosen tt g in
      subst (λ (v : Got). Any_done clean xt job_is (Desk EndCommit) v read chosen) (sym h.1) (by_end P A shape images t commit devices actors n known f rule a x ex clean plan xt doing noted job_is suits read commit refl h.2 e chosen)
  commit_steps clean xt job_is (End answer) got read chosen asked e g =
      let h = as_flush clean (End answer) got read chosen tt g in
      subst (λ (v : Got). Any_done clean xt job_is (End answer) v read chosen) (sym h.1) (subst (λ (c : Chosen P A). Any_done clean xt job_is (End answer) Done read c) (sym h.0.1) (answers P A shape images t commit devices actors n known f rule a x ex clean plan xt doing noted job_is answer _ read e asked))
  commit_steps true xt job_is (Device (ReadMetadata k)) got read chosen asked e g = absurd (mine P A shape images t commit devices actors n known f rule a x ex true plan xt doing noted job_is suits (Device (ReadMetadata k)) e)
  commit_steps false xt job_is (Device (ReadMetadata k)) got read chosen asked e g = absurd (mine P A shape images t commit devices actors n known f rule a x ex false plan xt doing noted job_is suits (Device (ReadMetadata k)) e)
  commit_steps false xt job_is (Desk (ReleaseOrder b)) got read (Asks new) asked e g = subst (λ (v : Got). Any_done false xt job_is (Desk (ReleaseOrder b)) v read (Asks new)) (sym g.1) (gives_up xt job_is b new e g.2)
  commit_steps false xt job_is (Desk (ReleaseOrder b)) got read chosen asked e g = absurd g.2
  commit_steps true xt job_is next got read chosen asked e g = absurd g
  commit_steps false xt job_is next got read chosen asked e g = absurd g

  abbrev Any_failed : (clean : Bool) → x.task ≡ Some (flush_or_suspend clean, plan) → doing.job ≡ flush_or_suspend clean → Choice → Want → List Bytes → Chosen P A → Type 0
  Any_failed clean xt job_is choice next read chosen = Failed_by P A shape images t commit devices actors n known f rule a x ex clean plan xt doing noted job_is suits choice next read chosen

  pub commit_faults : (clean : Bool) (xt : x.task ≡ Some (flush_or_suspend clean, plan)) (job_is : doing.job ≡ flush_or_suspend clean) (choice : Choice) (next : Want) (read : List Bytes) (chosen : Chosen P A) → next ≡ want plan → MayFailAt devices choice next → Falters (standing P A shape images t commit devices actors n) choice next chosen → Any_failed clean xt job_is choice next read chosen
  commit_faults clean xt job_is choice (Device (Sync Cache)) read chosen e m g = sync_fails P A shape images t commit devices actors n known f rule a x ex clean plan xt doing noted job_is Cache tt e read (lands Cache choice)
  commit_faults clean xt job_is choice (Device (Sync Origin)) read chosen e m g = sync_fails P A shape images t commit devices actors n known f rule a x ex clean plan xt doing noted job_is Origin tt e read (lands Origin choice)
  commit_faults clean xt job_is choice (Device (Sync Metadata)) read chosen e m g = subst (λ (c : Chosen P A). Any_failed clean xt job_is choice (Device (Sync Metadata)) read c) (sym g.0) (by_sync_fault P A shape images t commit devices actors n known f rule a x ex clean plan xt doing noted job_is suits choice read commit refl g.1 e)
  commit_faults clean xt job_is choice (Device (WriteNode k)) read chosen e m g = (let p = by_put_fault P A shape images t commit devices actors n known f rule a x ex clean plan xt doing noted job_is suits (WriteNode k) refl e read tt tt choice chosen commit refl g in subst (λ (c : Chosen P A). Any_failed clean xt job_is choice (Device (WriteNode k)) read c) (sym p.1) p.2)
  commit_faults clean xt job_is choice (Device WriteRoot) read chosen e m g = (let p = by_put_fault P A shape images t commit devices actors n known f rule a x ex clean plan xt doing noted job_is suits WriteRoot refl e read tt tt choice chosen commit refl g in subst (λ (c : Chosen P A). Any_failed clean xt job_is choice (Device WriteRoot) read c) (sym p.1) p.2)
  commit_faults true xt job_is choice (Device step) read chosen e m g = absurd (mine P A shape images t commit devices actors n known f rule a x ex true plan xt doing noted job_is suits (Device step) e)
  commit_faults false xt job_is choice (Device step) read chosen e m g = absurd (mine P A shape images t commit devices actors n known f rule a x ex false plan xt doing noted job_is suits (Device step) e)
  commit_faults clean xt job_is choice next read chosen e m g = absurd m
