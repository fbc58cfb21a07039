-- Each step of a flush, or of a suspend, is followed, whatever it comes to.
use Rattle.wb_stage.specs.declared.share.Share.TheVariants.{Waiting}
use Rattle.wb_types.specs.declared.refusal.Refusal.TheVariants.{Failed}
use Rattle.wb_tasks.specs.declared.step.DeskStep.{DeskStep}
use Rattle.std.proofs.Common.{Contains, ◌++◌, ◌≡◌, ◌∙◌, ◌⊎◌, inl, inr, ℕ, Bool, true, false, List, [], ◌∷◌, None, refl, sym, ap, subst, slice_set, Option, ◌+◌}
use Rattle.wb_types.specs.declared.mode.Dev.TheVariants.{Metadata}
use Rattle.wb_disk.specs.Device.{synced}
use Rattle.wb_disk.specs.Failing.{synced_where}
use Rattle.wb_words.specs.SharedWords.{flag}
use Rattle.wb_words.specs.Effects.{words_after}
use Rattle.wb_words.specs.declared.step.CellStep.TheVariants.{Look, SetFailed, SetSuspended}
use Rattle.wb_words.specs.declared.word.Word.TheVariants.{Fail, Seal as SealWord}
use Rattle.wb_policy.specs.declared.order.Order.{Order}
use Rattle.wb_tasks.specs.Plan.{Plan, want, table}
use Rattle.wb_tasks.specs.declared.step.Answer.{Answer}
use Rattle.wb_tasks.specs.declared.step.DeviceStep.TheVariants.{Sync}
use Rattle.wb_tasks.specs.declared.step.DeskStep.TheVariants.{BeginCommit, EndCommit, ReleaseOrder, Arrive, Ask, BreakCommit}
use Rattle.wb_tasks.specs.declared.step.Want.{Want}
use Rattle.wb_tasks.specs.declared.step.Want.TheVariants.{Cell, Device, Desk, End}
use Rattle.wb_tasks.specs.declared.step.Got.TheVariants.{Done, Fault, Began, Refused, Ticket, Served}
use Rattle.wb_devices.specs.Moving.{device_in}
use Rattle.wb_link.specs.World.{World, Nothing, AbstractActor}
use Rattle.wb_refines.specs.Commits.{IsCommitting, IsToBegin, IsWrittenAfter, committing, commit_task, commit_there, IsToLead}
use Rattle.wb_promise.specs.declared.job.Job.TheVariants.{Flush, Suspend}
use Rattle.wb_promise.specs.States.{Actor, with_device}
use Rattle.wb_simulation.specs.Actors.{IsLate, IsCommitAt, IsLeading, IsOfCommit, IsEnding, LeadsAt, ticket_in}
use Rattle.wb_link.specs.Tables.{Job as AbstractJob}
use Rattle.wb_refines.specs.Translation.{job_for}
use Rattle.wb_refines.proofs.Committing.{job_is}
use Rattle.wb_simulation.specs.Telling.{Quietly, Answers, AnswersSo, Releases}
use Rattle.wb_simulation.specs.Worlds.{Situation, Begins, Puts, Ends, GivesUp, WorldFollowsBy, WorldFollows, one_begun, one_ended}
use Rattle.wb_simulation.specs.Laws.{WantsNext, CommitStepsFollowed, flush_or_suspend, after_step, turn_of, stepped_actor, AsksToLead}
use Rattle.wb_types.specs.declared.number.OBlock.{OBlock}
use Rattle.wb_simulation.specs.Carried.{held}
use Rattle.wb_simulation.proofs.Among.{StandsThere, own_there}
use Rattle.wb_simulation.proofs.Followed.{doing_of, begins_by, first, answers_by, IsWithin}
use Rattle.wb_simulation.proofs.Ending.{IsNothingLeft, late_over, answers}
use Rattle.wb_simulation.proofs.Telling.{answers_at, late_answers_so}
use Rattle.wb_simulation.proofs.Leading.{by_commit, doing_as}
use Rattle.wb_simulation.proofs.Committing.{leading, syncs, sync_falls, metadata_done, metadata_failed, is_on_metadata, is_refused, begins, leads, is_not_led, is_broken, is_served, gets_ticket, ends, releases, gives_up, fails, breaks, sees, suspends, looks, late_looks}

module _ (clean : Bool) (now : Situation) (a : ℕ) (x : Actor) (plan : Plan) (s : World) (next : Want) (wants : WantsNext now a x s (flush_or_suspend clean) plan next) where
  its : StandsThere now s a x
  its = own_there now s wants.agrees a x wants.here

  abbrev y : AbstractActor
  y = its.0

  f : IsCommitAt now.size (now.most clean) its.2.failed clean plan x.share its.0
  f = doing_as clean now.size now.most its.2.failed plan x.card x.share its.0 (doing_of now.size now.most now.words x its.0 (flush_or_suspend clean) plan its.2 wants.task)

  abbrev blocks : List OBlock
  blocks = f.blocks

  -- what is left of it
  abbrev left : List Want → Plan
  left steps = committing clean blocks (now.most clean) steps plan.answer

  -- what holds of what is left, with this step next, holds of it
  at_commit : IsWithin next → (P : Plan → Type 0) → ((later : List Want) (leads : Bool) → LeadsAt leads (next ∷ later) → IsOfCommit clean (now.most clean) (next ∷ later) → IsCommitting now.size [] (left (next ∷ later)) (ticket_in next x.share) leads y → P (left (next ∷ later))) → P plan
  at_commit within P h = by_commit now.size (now.most clean) its.2.failed clean plan next x.share y wants.asks within f P h

  -- where it leads no commit
  not_leading : (next : Want) (later : List Want) (ticket : Option ℕ) (leads : Bool) → leads ≡ false → IsCommitting now.size [] (left (next ∷ later)) ticket leads y → IsCommitting now.size [] (left (next ∷ later)) ticket false y
  not_leading next later ticket leads l is = subst (λ (b : Bool). IsCommitting now.size [] (left (next ∷ later)) ticket b y) l is

  -- it has this alone to do before it answers
  at_last : (step : Want) (rest : List Want) → want plan ≡ step → IsWithin step → ((later : List Want) → IsOfCommit clean (now.most clean) (step ∷ later) → later ≡ rest) → (P : Plan → Type 0) → ((leads : Bool) → LeadsAt leads (step ∷ rest) → IsCommitting now.size [] (left (step ∷ rest)) (ticket_in step x.share) leads y → P (left (step ∷ rest))) → P plan
  at_last step rest e within last P h = by_commit now.size (now.most clean) its.2.failed clean plan step x.share y e within f P (λ later leads l o is.
      subst (λ (ws : List Want). LeadsAt leads (step ∷ ws) → IsCommitting now.size [] (left (step ∷ ws)) (ticket_in step x.share) leads y → P (left (step ∷ ws))) (sym (last later o)) (h leads) l is)

  look : want plan ≡ Cell (Look Fail) → WorldFollows Quietly a s now (stepped_actor now.words (flush_or_suspend clean) plan (Look Fail) x)
  look e = first plan (commit_task clean blocks (now.most clean)) (Cell (Look Fail)) f.job e (λ p. IsOfCommit clean (now.most clean) p.steps → At p → WorldFollows Quietly a s now (stepped_actor now.words (flush_or_suspend clean) p (Look Fail) x)) (λ later k o at. by later o at) (λ k q. absurd (cc)) f.steps f.at
    where
      At : Plan → Type 0
      At p = IsLeading now.size its.2.failed p (ticket_in (want p) x.share) y ⊎ IsLate its.2.failed p y

      by : (later : List Want) → IsToBegin clean (now.most clean) later → At (left (Cell (Look Fail) ∷ later)) → WorldFollows Quietly a s now (stepped_actor now.words (flush_or_suspend clean) (left (Cell (Look Fail) ∷ later)) (Look Fail) x)
      by later o (inl l) = looks now clean blocks a x s y wants.here its.1 wants.agrees later plan.answer o (not_leading (Cell (Look Fail)) later None l.leads l.at l.is)
      by later o (inr l) = late_looks now clean blocks a x s y wants.here its.1 wants.agrees later plan.answer its.2 l

  -- it breaks its commit next, so the target has failed
  failed_before : want plan ≡ Desk BreakCommit → flag now.words.fail ≡ true
  failed_before e = by f.at
    where
      steps : (later : List Want) × (plan.steps ≡ Desk BreakCommit ∷ later)
      steps = begins_by plan (Desk BreakCommit) e (λ v q. absurd (cc))

      by : IsLeading now.size its.2.failed plan (ticket_in (want plan) x.share) y ⊎ IsLate its.2.failed plan y → flag now.words.fail ≡ true
      by (inl l) = its.2.has_failed (l.has_failed (subst (λ (ws : List Want). LeadsAt l.leads ws) steps.1 l.at) (subst IsEnding (sym steps.1) tt))
      by (inr l) = its.2.has_failed l.has_failed

  -- it answers; one that leads a commit still has failed
  answered : (orders' awaiting' : List Order) → ((o : Order) → Contains (held x) o → Contains (orders' ++ awaiting') o) → (answer : Answer) → want plan ≡ End answer → WorldFollows (Answers (commit_there clean) answer) a s now (record x { task = None; orders = orders'; awaiting = awaiting' })
  answered orders' awaiting' keeps answer e = answers_by plan (commit_task clean blocks (now.most clean)) answer f.job e (λ later k. no_end clean later (subst (λ (us : List Want). IsOfCommit clean (now.most clean) us) k f.steps)) (λ p. IsLeading now.size its.2.failed p (ticket_in (want p) x.share) y ⊎ IsLate its.2.failed p y → Goal) by f.at
    where
      p : Plan
      p = committing clean blocks (now.most clean) [] answer

      no_end : (clean : Bool) (later : List Want) → IsOfCommit clean (now.most clean) (End answer ∷ later) → ⊥
      no_end true later o = o
      no_end false later o = o

      Goal : Type 0
      Goal = WorldFollows (Answers (commit_there clean) answer) a s now (record x { task = None; orders = orders'; awaiting = awaiting' })

      told_so : AnswersSo (job_for now.size [] (commit_task clean blocks (now.most clean))) answer y.task → AnswersSo (commit_there clean) answer y.task
      told_so t = subst (λ (j : AbstractJob). AnswersSo j answer y.task) (job_is now.size [] clean blocks (now.most clean)) t

      by : IsLeading now.size its.2.failed p None y ⊎ IsLate its.2.failed p y → Goal
      by (inl l) = answers now a x s y wants.here its.1 wants.agrees its.2 orders' awaiting' keeps (Answers (commit_there clean) answer) (told_so (answers_at now.size [] None (commit_task clean blocks (now.most clean)) answer y (ap (λ (v : AbstractActor). v.task) l.is.is)), refl)
          (record { steps = subst (λ (v : AbstractActor). IsNothingLeft v.task) (sym l.is.is) refl; free = by_lead l.leads refl })
        where
          by_lead : (b : Bool) → l.leads ≡ b → ((y.held ≡ Nothing) × (y.leads ≡ false)) ⊎ (flag now.words.fail ≡ true)
          by_lead false k = inl (ap (λ (v : AbstractActor). v.held) l.is.is, ap (λ (v : AbstractActor). v.leads) l.is.is ∙ k)
          by_lead true k = inr (its.2.has_failed (l.has_failed k tt))
      by (inr l) = answers now a x s y wants.here its.1 wants.agrees its.2 orders' awaiting' keeps (Answers (commit_there clean) answer) (late_answers_so (commit_there clean) its.2.failed p answer y refl (λ t. never_begun clean (ap (λ (q : Plan). q.steps) t)) l, refl) (late_over now.words its.2.failed its.2.has_failed p y l)
        where
          never_begun : (clean : Bool) → [] ≡ (table (commit_task clean blocks (now.most clean))).steps → ⊥
          never_begun true t = absurd (cc)
          never_begun false t = absurd (cc)

-- a flush asks to lead a commit
asked : (now : Situation) (a : ℕ) (x : Actor) (plan : Plan) (s : World) (step : DeskStep) (wants : WantsNext now a x s Flush plan (Desk step)) → AsksToLead step → (P : Plan → Type 0) →
    (IsToLead (now.most false) step → IsCommitting now.size [] (committing false (blocks false now a x plan s _ wants) (now.most false) (Desk step ∷ []) plan.answer) (ticket_in (Desk step) x.share) false (its false now a x plan s _ wants).0 → P (committing false (blocks false now a x plan s _ wants) (now.most false) (Desk step ∷ []) plan.answer)) → P plan
asked now a x plan s (Arrive nodes) wants asks P h = at_commit false now a x plan s _ wants tt P (λ later leads l o is. subst (λ (ws : List Want). IsCommitting now.size [] (committing false (blocks false now a x plan s _ wants) (now.most false) (Desk (Arrive nodes) ∷ ws) plan.answer) None leads (its false now a x plan s _ wants).0 → P (committing false (blocks false now a x plan s _ wants) (now.most false) (Desk (Arrive nodes) ∷ ws) plan.answer)) (sym o.2)
    (λ is. h o.1 (not_leading false now a x plan s _ wants (Desk (Arrive nodes)) [] None leads l is)) is)
asked now a x plan s (Ask nodes) wants asks P h = at_commit false now a x plan s _ wants tt P (λ later leads l o is. subst (λ (ws : List Want). IsCommitting now.size [] (committing false (blocks false now a x plan s _ wants) (now.most false) (Desk (Ask nodes) ∷ ws) plan.answer) (ticket_in (Desk (Ask nodes)) x.share) leads (its false now a x plan s _ wants).0 → P (committing false (blocks false now a x plan s _ wants) (now.most false) (Desk (Ask nodes) ∷ ws) plan.answer)) (sym o.2)
    (λ is. h o.1 (not_leading false now a x plan s _ wants (Desk (Ask nodes)) [] (ticket_in (Desk (Ask nodes)) x.share) leads l is)) is)
asked now a x plan s step wants asks P h = absurd asks

pub commit_steps_followed : CommitStepsFollowed
commit_steps_followed = record {
  looks = λ clean now a x plan s wants. look clean now a x plan s _ wants wants.asks;
  sees = λ now block seen' a x plan s wants.
      let u = its true now a x plan s _ wants in let n = blocks true now a x plan s _ wants in
      at_commit true now a x plan s _ wants tt (λ p. WorldFollows Quietly a s now (record (stepped_actor now.words Suspend p (Look (SealWord block)) x) { seen = seen' }))
      (λ later leads l o is. sees now n a x s u.0 wants.here u.1 wants.agrees block seen' later plan.answer o.1 (not_leading true now a x plan s _ wants (Cell (Look (SealWord block))) later None leads l is));
  begins = λ now nodes allowed a x plan s wants idle.
      let u = its true now a x plan s _ wants in let n = blocks true now a x plan s _ wants in
      at_last true now a x plan s _ wants (Desk (BeginCommit allowed)) [] wants.asks tt (λ later o. o.2) (λ p. WorldFollowsBy (Begins true) Quietly a s (record now { commits = one_begun now.commits }) (after_step Suspend p (Began nodes) x))
      (λ leads l is. begins now n a x s u.0 wants.here u.1 wants.agrees allowed nodes plan.answer idle (not_leading true now a x plan s _ wants (Desk (BeginCommit allowed)) [] None leads l is));
  is_refused = λ now allowed refusal a x plan s no wants.
      let u = its true now a x plan s _ wants in let n = blocks true now a x plan s _ wants in
      at_last true now a x plan s _ wants (Desk (BeginCommit allowed)) [] wants.asks tt (λ later o. o.2) (λ p. WorldFollows Quietly a s now (after_step Suspend p (Refused refusal) x))
      (λ leads l is. is_refused now n a x s u.0 wants.here u.1 wants.agrees allowed refusal plan.answer no (not_leading true now a x plan s _ wants (Desk (BeginCommit allowed)) [] None leads l is));
  leads = λ now nodes step share a x plan s asks wants quiet whole out.
      asked now a x plan s step wants asks (λ p. WorldFollowsBy (Begins false) Quietly a s (record now { commits = one_begun now.commits }) (record (after_step Flush p (Began nodes) x) { share = share }))
      (λ to is. let u = its false now a x plan s _ wants in leads now (blocks false now a x plan s _ wants) a x s u.0 wants.here u.1 wants.agrees step share plan.answer (ticket_in (Desk step) x.share) to is nodes quiet whole out);
  is_not_led = λ now refusal step share a x plan s asks no wants out.
      asked now a x plan s step wants asks (λ p. WorldFollows Quietly a s now (record (after_step Flush p (Refused refusal) x) { share = share }))
      (λ to is. let u = its false now a x plan s _ wants in is_not_led now (blocks false now a x plan s _ wants) a x s u.0 wants.here u.1 wants.agrees step share plan.answer (ticket_in (Desk step) x.share) to is refusal no out);
  is_broken = λ now step share a x plan s asks wants broken out.
      asked now a x plan s step wants asks (λ p. WorldFollows Quietly a s now (record (after_step Flush p (Refused Failed) x) { share = share }))
      (λ to is. let u = its false now a x plan s _ wants in is_broken now (blocks false now a x plan s _ wants) a x s u.0 wants.here u.1 wants.agrees step share plan.answer (ticket_in (Desk step) x.share) to is broken out);
  is_served = λ now step share a x plan s asks wants taken.
      asked now a x plan s step wants asks (λ p. WorldFollows Quietly a s now (record (after_step Flush p Served x) { share = share }))
      (λ to is. let u = its false now a x plan s _ wants in is_served now (blocks false now a x plan s _ wants) a x s u.0 wants.here u.1 wants.agrees step share plan.answer (ticket_in (Desk step) x.share) to is taken);
  gets_ticket = λ now allowed a x plan s wants busy whole.
      let u = its false now a x plan s _ wants in let n = blocks false now a x plan s _ wants in
      at_commit false now a x plan s _ wants tt (λ p. WorldFollows Quietly a s now (record (after_step Flush p Ticket x) { share = Waiting (now.commits.ended + 2) }))
      (λ later leads l o is.
      let same : committing false n (now.most false) (Desk (Arrive (now.most false)) ∷ []) plan.answer ≡ committing false n (now.most false) (Desk (Arrive allowed) ∷ later) plan.answer = (λ i. committing false n (now.most false) (Desk (Arrive (sym o.1 i)) ∷ sym o.2 i) plan.answer) in
      subst (λ (p : Plan). WorldFollows Quietly a s now (record (after_step Flush p Ticket x) { share = Waiting (now.commits.ended + 2) })) same
      (gets_ticket now n a x s u.0 wants.here u.1 wants.agrees plan.answer busy whole (subst (λ (p : Plan). IsCommitting now.size [] p None false u.0) (sym same) (not_leading false now a x plan s _ wants (Desk (Arrive allowed)) later None leads l is))));
  syncs = λ clean now device a x plan s h wants.
      let u = its clean now a x plan s _ wants in let n = blocks clean now a x plan s _ wants in
      at_commit clean now a x plan s _ wants tt (λ p. WorldFollows Quietly a s (record now { devices = with_device device now.devices (synced (device_in device now.devices)) }) (after_step (flush_or_suspend clean) p Done x))
      (λ later leads l o is. syncs now clean n a x s u.0 wants.here u.1 wants.agrees device h later plan.answer o (leading now clean n a x s u.0 wants.here u.1 wants.agrees (Device (Sync device)) later plan.answer leads l is));
  sync_fails = λ clean now device lands a x plan s h wants.
      let u = its clean now a x plan s _ wants in let n = blocks clean now a x plan s _ wants in
      at_commit clean now a x plan s _ wants tt (λ p. WorldFollows Quietly a s (record now { devices = with_device device now.devices (synced_where lands (device_in device now.devices)) }) (after_step (flush_or_suspend clean) p Fault x))
      (λ later leads l o is. sync_falls now clean n a x s u.0 wants.here u.1 wants.agrees lands device h later plan.answer (leading now clean n a x s u.0 wants.here u.1 wants.agrees (Device (Sync device)) later plan.answer leads l is));
  on_metadata = λ clean now step metadata a x plan s d wants.
      let u = its clean now a x plan s _ wants in let n = blocks clean now a x plan s _ wants in
      at_commit clean now a x plan s _ wants tt (λ p. WorldFollowsBy (turn_of step) Quietly a s (record now { devices = with_device Metadata now.devices metadata }) (after_step (flush_or_suspend clean) p Done x))
      (λ later leads l o is. metadata_done now clean n a x s u.0 wants.here u.1 wants.agrees metadata step later plan.answer d o (leading now clean n a x s u.0 wants.here u.1 wants.agrees (Device step) later plan.answer leads l is));
  metadata_fails = λ clean now step metadata a x plan s d wants.
      let u = its clean now a x plan s _ wants in let n = blocks clean now a x plan s _ wants in
      at_commit clean now a x plan s _ wants tt (λ p. (written : Bool) × IsWrittenAfter step s.shared.root_written written × WorldFollowsBy (Puts written) Quietly a s (record now { devices = with_device Metadata now.devices metadata }) (after_step (flush_or_suspend clean) p Fault x))
      (λ later leads l o is. metadata_failed now clean n a x s u.0 wants.here u.1 wants.agrees metadata step later plan.answer (is_on_metadata now clean n a x s u.0 wants.here u.1 wants.agrees step later d o) (leading now clean n a x s u.0 wants.here u.1 wants.agrees (Device step) later plan.answer leads l is));
  ends = λ clean now a x plan s wants.
      let u = its clean now a x plan s _ wants in let n = blocks clean now a x plan s _ wants in
      at_commit clean now a x plan s _ wants tt (λ p. WorldFollowsBy Ends Quietly a s (record now { commits = one_ended now.commits }) (after_step (flush_or_suspend clean) p Done x))
      (λ later leads l o is. ends now clean n a x s u.0 wants.here u.1 wants.agrees later plan.answer o (leading now clean n a x s u.0 wants.here u.1 wants.agrees (Desk EndCommit) later plan.answer leads l is));
  releases = λ clean now block a x plan s wants.
      let u = its clean now a x plan s _ wants in let n = blocks clean now a x plan s _ wants in
      at_commit clean now a x plan s _ wants tt (λ p. WorldFollows Quietly a s now (after_step (flush_or_suspend clean) p Done x))
      (λ later leads l o is. releases now clean n a x s u.0 wants.here u.1 wants.agrees block later plan.answer o (not_leading clean now a x plan s _ wants (Desk (ReleaseOrder block)) later None leads l is));
  gives_up = λ now block a x plan c order awaiting' s among wants slot only.
      let u = its false now a x plan s _ wants in let n = blocks false now a x plan s _ wants in
      at_commit false now a x plan s _ wants tt (λ p. WorldFollowsBy (GivesUp c) Releases a s (record now { orders = slice_set now.orders c None }) (record (after_step Flush p Done x) { awaiting = awaiting' }))
      (λ later leads l o is. gives_up now n a x s u.0 wants.here u.1 wants.agrees block later plan.answer o.1 (not_leading false now a x plan s _ wants (Desk (ReleaseOrder block)) later None leads l is) c order awaiting' among slot only);
  fails = λ clean now failures suspensions a x plan s w wants.
      let u = its clean now a x plan s _ wants in let n = blocks clean now a x plan s _ wants in
      at_last clean now a x plan s _ wants (Cell SetFailed) (Desk BreakCommit ∷ []) wants.asks tt (λ later o. o) (λ p. WorldFollows Quietly a s (record now { words = words_after now.words SetFailed }) (stepped_actor now.words (flush_or_suspend clean) p SetFailed x))
      (λ leads l is. fails now clean n a x s u.0 wants.here u.1 wants.agrees failures suspensions plan.answer w (leading now clean n a x s u.0 wants.here u.1 wants.agrees (Cell SetFailed) (Desk BreakCommit ∷ []) plan.answer leads l is));
  breaks = λ clean now a x plan s wants.
      let u = its clean now a x plan s _ wants in let n = blocks clean now a x plan s _ wants in
      at_last clean now a x plan s _ wants (Desk BreakCommit) [] wants.asks tt (λ later o. o) (λ p. WorldFollows Quietly a s (record now { commits = record now.commits { broken = true } }) (after_step (flush_or_suspend clean) p Done x))
      (λ leads l is. breaks now clean n a x s u.0 wants.here u.1 wants.agrees plan.answer (failed_before clean now a x plan s _ wants wants.asks) (leading now clean n a x s u.0 wants.here u.1 wants.agrees (Desk BreakCommit) [] plan.answer leads l is));
  suspends = λ now failures suspensions a x plan s w wants.
      let u = its true now a x plan s _ wants in let n = blocks true now a x plan s _ wants in
      at_last true now a x plan s _ wants (Cell SetSuspended) [] wants.asks tt (λ later o. o.1) (λ p. WorldFollows Quietly a s (record now { words = words_after now.words SetSuspended }) (stepped_actor now.words Suspend p SetSuspended x))
      (λ leads l is. suspends now n a x s u.0 wants.here u.1 wants.agrees failures suspensions plan.answer w (not_leading true now a x plan s _ wants (Cell SetSuspended) [] None leads l is));
  answers = λ clean now answer a x plan orders' awaiting' s wants keeps. answered clean now a x plan s _ wants orders' awaiting' keeps answer wants.asks;
}
