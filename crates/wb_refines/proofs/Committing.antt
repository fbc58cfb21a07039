-- Each step of a commit is followed.
use Rattle.std.proofs.Common.{◌≡◌, ◌∙◌, ◌==◌, ◌+◌, ℕ, zero, suc, Bool, true, false, cond, if◌then◌else◌, List, [], ◌∷◌, ◌++◌, Option, Some, None, refl, sym, ap, subst}
use Rattle.wb_types.specs.declared.mode.Dev.{Dev}
use Rattle.wb_types.specs.declared.mode.Dev.TheVariants.{Metadata, Cache, Origin}
use Rattle.wb_types.specs.declared.refusal.Refusal.{Refusal}
use Rattle.wb_types.specs.declared.refusal.Refusal.TheVariants.{Busy, Memory, GenerationEnd, Failed, Io}
use Rattle.wb_disk.specs.Device.{Content}
use Rattle.wb_contents.specs.Acts.{partly_synced}
use Rattle.wb_words.specs.declared.word.Word.TheVariants.{Fail, Seal as SealWord}
use Rattle.wb_words.specs.declared.step.CellStep.TheVariants.{Look, SetSuspended}
use Rattle.wb_words.specs.SharedWords.{flag}
use Rattle.wb_tasks.specs.Plan.{Plan, after, failed_commit, lets_go_unless_failed, commit_steps, node_writes, root_steps, release_orders}
use Rattle.wb_tasks.specs.declared.step.Answer.{Answer}
use Rattle.wb_tasks.specs.declared.step.Answer.TheVariants.{Done as AnswersDone, Refused as Refuses}
use Rattle.wb_tasks.specs.declared.step.DeviceStep.{DeviceStep}
use Rattle.wb_tasks.specs.declared.step.DeviceStep.TheVariants.{Sync, WriteNode, WriteRoot}
use Rattle.wb_tasks.specs.declared.step.DeskStep.{DeskStep}
use Rattle.wb_tasks.specs.declared.step.DeskStep.TheVariants.{Arrive, Ask, BeginCommit, EndCommit, BreakCommit}
use Rattle.wb_tasks.specs.declared.step.Want.{Want}
use Rattle.wb_tasks.specs.declared.step.Want.TheVariants.{Cell, Device, Desk}
use Rattle.wb_tasks.specs.declared.step.Got.TheVariants.{Done, Word, Fault, Refused, Began}
use Rattle.wb_link.specs.Tables.{Flag, Short, Broken, Served, Ticket as TicketThere, Begin, Begin_clean, Flushing as FlushingFor, Suspending as SuspendingThere, Done as DoneThere, Fault as FaultThere, Job as JobThere, Want as AbstractWant, Sync_cache_device, Sync_origin_device, Answer as AnswerThere, Failed as AnsweredFailed, abstract_acquire}
use Rattle.wb_link.specs.World.{Shared, Nothing, AbstractActor, Serves, Unserved, effect}
use Rattle.wb_refines.specs.Translation.{wants_of, answer_for, job_for, script_for, with_ticket}
use Rattle.wb_refines.specs.Going.{AreQuiet, shared_after, gone}
use Rattle.wb_refines.specs.Commits.{commit_task, commit_there, committing, IsCommitting, CanGoOn, IsToLead, IsToBegin, IsOnMetadata, IsNoBegin, IsWrittenAfter, CommitStepsRefined}
use Rattle.wb_types.specs.declared.number.OBlock.{OBlock}
use Rattle.wb_refines.proofs.Cells.{flag_of}

-- what it is to do there
pub job_is : (size : ℕ) (content : Content) (clean : Bool) (blocks : List OBlock) (most : ℕ) → job_for size content (commit_task clean blocks most) ≡ commit_there clean
job_is size content true blocks most = refl
job_is size content false blocks most = refl

-- nodes are nothing in the abstract world
nodes_are : (size : ℕ) (job : JobThere) (count first : ℕ) (ws vs : List Want) → wants_of size None job ((node_writes count first ++ ws) ++ vs) ≡ wants_of size None job (ws ++ vs)
nodes_are size job zero first ws vs = refl
nodes_are size job (suc count) first ws vs = nodes_are size job count (first + 1) ws vs

nodes_alone : (size : ℕ) (job : JobThere) (count first : ℕ) (ws : List Want) → wants_of size None job (node_writes count first ++ ws) ≡ wants_of size None job ws
nodes_alone size job zero first ws = refl
nodes_alone size job (suc count) first ws = nodes_alone size job count (first + 1) ws

-- nor are the orders that it gives up
releases_are : (size : ℕ) (job : JobThere) (blocks : List OBlock) → wants_of size None job (release_orders blocks) ≡ []
releases_are size job [] = refl
releases_are size job (b ∷ bs) = releases_are size job bs

-- before its commit begins, all of it is left there
pub acquire_is : (size : ℕ) (job : JobThere) (clean : Bool) (most : ℕ) (steps : List Want) → IsToBegin clean most steps → wants_of size None job steps ≡ abstract_acquire job
acquire_is size job false most (Desk (Arrive nodes) ∷ later) b = refl
acquire_is size job true most (Desk (BeginCommit nodes) ∷ later) b = refl
acquire_is size job true most (Cell (Look (SealWord block)) ∷ later) b = refl
acquire_is size job clean most steps b = absurd b

module _ (size : ℕ) (clean : Bool) (blocks : List OBlock) (most : ℕ) (content : Content) (actors : List AbstractActor) (a : ℕ) (s : Shared) (buffer : ℕ → Content) where
  abbrev there : JobThere
  there = job_for size content (commit_task clean blocks most)

  -- an actor with these steps of it
  abbrev pub asking : List AbstractWant → AnswerThere → Bool → AbstractActor
  asking steps answer leads = record { task = Some (record { job = there; steps = steps; answer = answer }); held = Nothing; order = None; leads = leads; buffer = buffer }

  abbrev committer : List Want → Answer → Bool → AbstractActor
  committer steps answer leads = asking (wants_of size None there steps) (answer_for there answer) leads

  looks_at : (word : ℕ) (later : List Want) (answer : Answer) → s.fail ≡ flag word →
      CanGoOn size content actors a s (committer (Cell (Look Fail) ∷ later) answer false) s (after (committing clean blocks most (Cell (Look Fail) ∷ later) answer) (Word word)) None false
  looks_at word later answer f = by_test (word == 0) (flag_of word (word == 0) refl)
    where
      by_test : (t : Bool) → flag word ≡ cond t false true →
          CanGoOn size content actors a s (committer (Cell (Look Fail) ∷ later) answer false) s (if t then committing clean blocks most later answer else committing clean blocks most [] (Refuses Failed)) None false
      by_test true e = record { results = Flag false ∷ []; may = (sym (f ∙ e), tt, tt); quiet = (tt, tt); shared = refl; at = record { buffer = buffer; is = refl } }
      by_test false e = record { results = Flag true ∷ []; may = (sym (f ∙ e), tt, tt); quiet = (tt, tt); shared = refl; at = record { buffer = buffer; is = refl } }

-- a fault of whatever step on the metadata
module _ (size : ℕ) (blocks : List OBlock) (most : ℕ) (content : Content) (actors : List AbstractActor) (a : ℕ) (s : Shared) (buffer : ℕ → Content) where
  abbrev Falls : (clean : Bool) → List Want → AnswerThere → Dev → Type 0
  Falls clean steps answer device = (written : Bool) × (s.root_written ≡ true → written ≡ true) × CanGoOn size content actors a s (asking size clean blocks most content actors a s buffer (wants_of size None (job_for size content (commit_task clean blocks most)) steps) answer true) (record s { root_written = written }) (committing clean blocks most failed_commit (Refuses (Io device))) None true

  on_metadata : (clean : Bool) (steps : List Want) (answer : AnswerThere) (device : Dev) → IsOnMetadata clean steps → Falls clean steps answer device
  on_metadata clean (Device (WriteNode number) ∷ later) answer d m = on_metadata clean later answer d m
  on_metadata clean (Device (Sync Metadata) ∷ later) answer d m = on_metadata clean later answer d m
  on_metadata true (Device WriteRoot ∷ later) answer d m = (true, (λ e. refl), record { results = FaultThere (λ b o. false) ∷ []; may = (tt, tt, tt); quiet = (tt, tt); shared = refl; at = record { buffer = buffer; is = refl } })
  on_metadata false (Device WriteRoot ∷ later) answer d m = (true, (λ e. refl), record { results = FaultThere (λ b o. false) ∷ []; may = (tt, tt, tt); quiet = (tt, tt); shared = refl; at = record { buffer = buffer; is = refl } })
  on_metadata true (Desk EndCommit ∷ Cell SetSuspended ∷ []) answer d m = (s.root_written, (λ e. e), record { results = FaultThere (λ b o. false) ∷ []; may = (tt, tt, tt); quiet = (tt, tt); shared = refl; at = record { buffer = buffer; is = refl } })
  on_metadata false (Desk EndCommit ∷ []) answer d m = (s.root_written, (λ e. e), record { results = FaultThere (λ b o. false) ∷ []; may = (tt, tt, tt); quiet = (tt, tt); shared = refl; at = record { buffer = buffer; is = refl } })
  on_metadata clean steps answer d m = absurd m

  abbrev FailsOn : (clean : Bool) → DeviceStep → List Want → Answer → Type 0
  FailsOn clean step later answer = (written : Bool) × IsWrittenAfter step s.root_written written × CanGoOn size content actors a s (committer size clean blocks most content actors a s buffer (Device step ∷ later) answer true) (record s { root_written = written }) (after (committing clean blocks most (Device step ∷ later) answer) Fault) None true

  fails_on : (clean : Bool) (step : DeviceStep) (later : List Want) (answer : Answer) → IsOnMetadata clean (Device step ∷ later) → FailsOn clean step later answer
  fails_on true (WriteNode number) later answer m = on_metadata true later (answer_for (job_for size content (commit_task true blocks most)) answer) Metadata m
  fails_on false (WriteNode number) later answer m = on_metadata false later (answer_for (job_for size content (commit_task false blocks most)) answer) Metadata m
  fails_on true (Sync Metadata) later answer m = on_metadata true later (answer_for (job_for size content (commit_task true blocks most)) answer) Metadata m
  fails_on false (Sync Metadata) later answer m = on_metadata false later (answer_for (job_for size content (commit_task false blocks most)) answer) Metadata m
  fails_on true WriteRoot later answer m = (true, refl, record { results = FaultThere (λ b o. false) ∷ []; may = (tt, tt, tt); quiet = (tt, tt); shared = refl; at = record { buffer = buffer; is = refl } })
  fails_on false WriteRoot later answer m = (true, refl, record { results = FaultThere (λ b o. false) ∷ []; may = (tt, tt, tt); quiet = (tt, tt); shared = refl; at = record { buffer = buffer; is = refl } })
  fails_on clean step later answer m = absurd m

-- a suspend begins its commit, or is refused it
module _ (size : ℕ) (blocks : List OBlock) (most : ℕ) (content : Content) (actors : List AbstractActor) (a : ℕ) (s : Shared) (buffer : ℕ → Content) where
  suspend_refused : (allowed : ℕ) (refusal : Refusal) (answer : Answer) → IsNoBegin refusal →
      CanGoOn size content actors a s (committer size true blocks most content actors a s buffer (Desk (BeginCommit allowed) ∷ []) answer false) s (after (committing true blocks most (Desk (BeginCommit allowed) ∷ []) answer) (Refused refusal)) None false
  suspend_refused allowed Busy answer n = record { results = Short ∷ []; may = (tt, tt, tt); quiet = (tt, tt); shared = refl; at = record { buffer = buffer; is = refl } }
  suspend_refused allowed Memory answer n = record { results = Short ∷ []; may = (tt, tt, tt); quiet = (tt, tt); shared = refl; at = record { buffer = buffer; is = refl } }
  suspend_refused allowed GenerationEnd answer n = record { results = Short ∷ []; may = (tt, tt, tt); quiet = (tt, tt); shared = refl; at = record { buffer = buffer; is = refl } }
  suspend_refused allowed refusal answer n = absurd n

  suspend_begins : (allowed nodes : ℕ) (answer : Answer) → s.committing ≡ false →
      CanGoOn size content actors a s (committer size true blocks most content actors a s buffer (Desk (BeginCommit allowed) ∷ []) answer false) (effect s SuspendingThere (λ o. []) Begin_clean DoneThere) (after (committing true blocks most (Desk (BeginCommit allowed) ∷ []) answer) (Began nodes)) None true
  suspend_begins allowed nodes answer c = record { results = DoneThere ∷ []; may = (c, tt, tt); quiet = (tt, tt); shared = refl; at = record { buffer = buffer; is = λ i. asking size true blocks most content actors a s buffer (Sync_cache_device ∷ Sync_origin_device ∷ sym (nodes_are size (commit_there true) nodes 0 root_steps (Cell SetSuspended ∷ [])) i) (answer_for (commit_there true) answer) true } }

  -- a flush that asks to lead one, with this ticket, if any
  abbrev asker : Option ℕ → DeskStep → Answer → AbstractActor
  asker ticket step answer = record { task = Some (with_ticket ticket (script_for size content None (committing false blocks most (Desk step ∷ []) answer))); held = Nothing; order = None; leads = false; buffer = buffer }

  abbrev asks : Option ℕ → Answer → AbstractActor
  asks ticket answer = asking size false blocks most content actors a s buffer (Begin ticket ∷ Sync_cache_device ∷ Sync_origin_device ∷ wants_of size None (commit_there false) root_steps) (answer_for (commit_there false) answer) false

  asker_is : (ticket : Option ℕ) (step : DeskStep) (answer : Answer) → IsToLead most step → asker ticket step answer ≡ asks ticket answer
  asker_is None (Arrive n) answer l = refl
  asker_is None (Ask n) answer l = refl
  asker_is (Some k) (Arrive n) answer l = refl
  asker_is (Some k) (Ask n) answer l = refl
  asker_is ticket step answer l = absurd l

  flush_leads : (nodes : ℕ) (ticket : Option ℕ) (answer : Answer) → (s.committing ≡ false) × (s.broken ≡ false) × Unserved s ticket →
      CanGoOn size content actors a s (asks ticket answer) (effect s (FlushingFor None) (λ o. []) (Begin None) DoneThere) (committing false blocks most (commit_steps nodes) answer) None true
  flush_leads nodes ticket answer h = record { results = DoneThere ∷ []; may = (h, tt, tt); quiet = (tt, tt); shared = refl; at = record { buffer = buffer; is = λ i. asking size false blocks most content actors a s buffer (Sync_cache_device ∷ Sync_origin_device ∷ sym (nodes_alone size (commit_there false) nodes 0 root_steps) i) (answer_for (commit_there false) answer) true } }

  flush_refused : (refusal : Refusal) (ticket : Option ℕ) (answer : Answer) → IsNoBegin refusal → Unserved s ticket →
      CanGoOn size content actors a s (asks ticket answer) s (committing false blocks most (lets_go_unless_failed (commit_task false blocks most) refusal) (Refuses refusal)) None false
  flush_refused refusal ticket answer n h = by_refusal refusal n
    where
      let_go : (refusal : Refusal) → answer_for (commit_there false) (Refuses refusal) ≡ AnsweredFailed → asking size false blocks most content actors a s buffer [] AnsweredFailed false
          ≡ asking size false blocks most content actors a s buffer (wants_of size None (commit_there false) (release_orders blocks)) (answer_for (commit_there false) (Refuses refusal)) false
      let_go refusal e i = asking size false blocks most content actors a s buffer (sym (releases_are size (commit_there false) blocks) i) (sym e i) false

      by_refusal : (refusal : Refusal) → IsNoBegin refusal → CanGoOn size content actors a s (asks ticket answer) s (committing false blocks most (lets_go_unless_failed (commit_task false blocks most) refusal) (Refuses refusal)) None false
      by_refusal Busy n = record { results = Short ∷ []; may = (h, tt, tt); quiet = (tt, tt); shared = refl; at = record { buffer = buffer; is = let_go Busy refl } }
      by_refusal Memory n = record { results = Short ∷ []; may = (h, tt, tt); quiet = (tt, tt); shared = refl; at = record { buffer = buffer; is = let_go Memory refl } }
      by_refusal GenerationEnd n = record { results = Short ∷ []; may = (h, tt, tt); quiet = (tt, tt); shared = refl; at = record { buffer = buffer; is = let_go GenerationEnd refl } }
      by_refusal refusal n = absurd n

  flush_broken : (ticket : Option ℕ) (answer : Answer) → (s.broken ≡ true) × Unserved s ticket → CanGoOn size content actors a s (asks ticket answer) s (committing false blocks most [] (Refuses Failed)) None false
  flush_broken ticket answer h = record { results = Broken ∷ []; may = (h, tt, tt); quiet = (tt, tt); shared = refl; at = record { buffer = buffer; is = refl } }

  flush_served : (ticket : Option ℕ) (answer : Answer) → Serves s ticket → CanGoOn size content actors a s (asks ticket answer) s (committing false blocks most [] AnswersDone) None false
  flush_served ticket answer h = record { results = Served ∷ []; may = (h, tt, tt); quiet = (tt, tt); shared = refl; at = record { buffer = buffer; is = refl } }

  gets_ticket : (answer : Answer) → s.committing ≡ true → s.broken ≡ false → CanGoOn size content actors a s (asks None answer) s (committing false blocks most (Desk (Ask most) ∷ []) answer) (Some (s.began + 1)) false
  gets_ticket answer c b = record { results = TicketThere (s.began + 1) ∷ []; may = ((refl, c, b, refl), tt, tt); quiet = (tt, tt); shared = refl; at = record { buffer = buffer; is = refl } }

moved : {size : ℕ} {content : Content} {actors : List AbstractActor} {a : ℕ} {s t : Shared} {plan : Plan} {ticket : Option ℕ} {leads : Bool} {y z : AbstractActor} → y ≡ z → CanGoOn size content actors a s z t plan ticket leads → CanGoOn size content actors a s y t plan ticket leads
moved {size} {content} {actors} {a} {s} {t} {plan} {ticket} {leads} e l = subst (λ (v : AbstractActor). CanGoOn size content actors a s v t plan ticket leads) (sym e) l

-- one that does nothing there
idles : {size : ℕ} {content : Content} {actors : List AbstractActor} {a : ℕ} {s : Shared} {plan : Plan} {leads : Bool} {y : AbstractActor} → IsCommitting size content plan None leads y → CanGoOn size content actors a s y s plan None leads
idles {size} {content} {actors} {a} {s} {plan} {leads} {y} is = record { results = []; may = tt; quiet = subst (λ (v : AbstractActor). AreQuiet v.task []) (sym is.is) tt; shared = ap (λ (v : AbstractActor). shared_after s v v.task []) is.is; at = record { buffer = is.buffer; is = ap (λ (v : AbstractActor). gone v v.task []) is.is } }

pub commit_steps_followed : CommitStepsRefined
commit_steps_followed = record {
  looks = λ clean size blocks most word content actors a s y later answer f is. moved is.is (looks_at size clean blocks most content actors a s is.buffer word later answer f);
  sees = λ size blocks most word content actors a s y block later answer b is. idles (record { buffer = is.buffer; is = is.is ∙ (λ i. asking size true blocks most content actors a s is.buffer (sym (acquire_is size (commit_there true) true most later b) i) (answer_for (commit_there true) answer) false) });
  begins = λ allowed nodes size blocks most content actors a s y answer c is. moved is.is (suspend_begins size blocks most content actors a s is.buffer allowed nodes answer c);
  is_refused = λ allowed refusal n size blocks most content actors a s y answer is. moved is.is (suspend_refused size blocks most content actors a s is.buffer allowed refusal answer n);
  leads = λ nodes size blocks most content actors a s y ticket step answer l h is. moved (is.is ∙ asker_is size blocks most content actors a s is.buffer ticket step answer l) (flush_leads size blocks most content actors a s is.buffer nodes ticket answer h);
  is_not_led = λ refusal n size blocks most content actors a s y ticket step answer l h is. moved (is.is ∙ asker_is size blocks most content actors a s is.buffer ticket step answer l) (by_step answer step l refusal (flush_refused size blocks most content actors a s is.buffer refusal ticket answer n h));
  is_broken = λ size blocks most content actors a s y ticket step answer l h is. moved (is.is ∙ asker_is size blocks most content actors a s is.buffer ticket step answer l) (by_step answer step l Failed (flush_broken size blocks most content actors a s is.buffer ticket answer h));
  is_served = λ size blocks most content actors a s y ticket step answer l h is. moved (is.is ∙ asker_is size blocks most content actors a s is.buffer ticket step answer l) (flush_served size blocks most content actors a s is.buffer ticket answer h);
  gets_ticket = λ most size blocks content actors a s y answer c b is. moved (is.is ∙ asker_is size blocks most content actors a s is.buffer None (Arrive most) answer refl) (gets_ticket size blocks most content actors a s is.buffer answer c b);
  syncs_cache = λ clean later size blocks most content actors a s y answer is. moved is.is (record { results = DoneThere ∷ []; may = (tt, tt, tt); quiet = (tt, tt); shared = refl; at = record { buffer = is.buffer; is = refl } });
  syncs_origin = λ clean later size blocks most content actors a s y answer is. moved is.is (record { results = DoneThere ∷ []; may = (tt, tt, tt); quiet = (tt, tt); shared = refl; at = record { buffer = is.buffer; is = refl } });
  nodes = λ clean number later size blocks most content actors a s y answer is. idles (record { buffer = is.buffer; is = is.is });
  syncs_metadata = λ clean later size blocks most content actors a s y answer is. idles (record { buffer = is.buffer; is = is.is });
  writes_root = λ clean later size blocks most content actors a s y answer is. moved is.is (record { results = DoneThere ∷ []; may = (tt, tt, tt); quiet = (tt, tt); shared = refl; at = record { buffer = is.buffer; is = refl } });
  ends = λ clean later size blocks most content actors a s y answer is. moved is.is (record { results = DoneThere ∷ DoneThere ∷ []; may = (tt, tt, (tt, tt, tt)); quiet = (tt, (tt, tt)); shared = refl; at = record { buffer = is.buffer; is = refl } });
  suspends = λ size blocks most content actors a s y answer is. moved is.is (record { results = DoneThere ∷ []; may = (tt, tt, tt); quiet = (tt, tt); shared = refl; at = record { buffer = is.buffer; is = refl } });
  fails_cache = λ clean settled later size blocks most content actors a s y answer is. moved is.is (cache_falls clean size blocks most content actors a s is.buffer settled later answer);
  fails_origin = λ clean settled later size blocks most content actors a s y answer is. moved is.is (origin_falls clean size blocks most content actors a s is.buffer settled later answer);
  fails_metadata = λ clean size blocks most step content actors a s y later answer m is. let one = fails_on size blocks most content actors a s is.buffer clean step later answer m in (one.0, one.1, moved is.is one.2);
  fails = λ clean size blocks most content actors a s y answer is. moved is.is (sets_failed clean size blocks most content actors a s is.buffer answer);
  breaks = λ clean size blocks most content actors a s y answer is. moved is.is (breaks clean size blocks most content actors a s is.buffer answer);
}
  where
    -- a refusal leaves the same on arriving and with a ticket
    by_step : {size : ℕ} {blocks : List OBlock} {most : ℕ} {content : Content} {actors : List AbstractActor} {a : ℕ} {s : Shared} {y : AbstractActor} (answer : Answer) (step : DeskStep) → IsToLead most step → (refusal : Refusal) →
        CanGoOn size content actors a s y s (committing false blocks most (lets_go_unless_failed (commit_task false blocks most) refusal) (Refuses refusal)) None false →
        CanGoOn size content actors a s y s (after (committing false blocks most (Desk step ∷ []) answer) (Refused refusal)) None false
    by_step answer (Arrive n) l refusal g = g
    by_step answer (Ask n) l refusal g = g
    by_step answer step l refusal g = absurd l

    -- a sync that fails is one there
    cache_falls : (clean : Bool) (size : ℕ) (blocks : List OBlock) (most : ℕ) (content : Content) (actors : List AbstractActor) (a : ℕ) (s : Shared) (buffer : ℕ → Content) (settled : ℕ → ℕ → Bool) (later : List Want) (answer : Answer) →
        CanGoOn size content actors a s (committer size clean blocks most content actors a s buffer (Device (Sync Cache) ∷ later) answer true) (record s { cache = partly_synced settled s.cache }) (after (committing clean blocks most (Device (Sync Cache) ∷ later) answer) Fault) None true
    cache_falls true size blocks most content actors a s buffer settled later answer = record { results = FaultThere settled ∷ []; may = (tt, tt, tt); quiet = (tt, tt); shared = refl; at = record { buffer = buffer; is = refl } }
    cache_falls false size blocks most content actors a s buffer settled later answer = record { results = FaultThere settled ∷ []; may = (tt, tt, tt); quiet = (tt, tt); shared = refl; at = record { buffer = buffer; is = refl } }

    origin_falls : (clean : Bool) (size : ℕ) (blocks : List OBlock) (most : ℕ) (content : Content) (actors : List AbstractActor) (a : ℕ) (s : Shared) (buffer : ℕ → Content) (settled : ℕ → ℕ → Bool) (later : List Want) (answer : Answer) →
        CanGoOn size content actors a s (committer size clean blocks most content actors a s buffer (Device (Sync Origin) ∷ later) answer true) (record s { origin = partly_synced settled s.origin }) (after (committing clean blocks most (Device (Sync Origin) ∷ later) answer) Fault) None true
    origin_falls true size blocks most content actors a s buffer settled later answer = record { results = FaultThere settled ∷ []; may = (tt, tt, tt); quiet = (tt, tt); shared = refl; at = record { buffer = buffer; is = refl } }
    origin_falls false size blocks most content actors a s buffer settled later answer = record { results = FaultThere settled ∷ []; may = (tt, tt, tt); quiet = (tt, tt); shared = refl; at = record { buffer = buffer; is = refl } }

    sets_failed : (clean : Bool) (size : ℕ) (blocks : List OBlock) (most : ℕ) (content : Content) (actors : List AbstractActor) (a : ℕ) (s : Shared) (buffer : ℕ → Content) (answer : Answer) →
        CanGoOn size content actors a s (committer size clean blocks most content actors a s buffer failed_commit answer true) (record s { fail = true }) (after (committing clean blocks most failed_commit answer) Done) None true
    sets_failed true size blocks most content actors a s buffer answer = record { results = DoneThere ∷ []; may = (tt, tt, tt); quiet = (tt, tt); shared = refl; at = record { buffer = buffer; is = refl } }
    sets_failed false size blocks most content actors a s buffer answer = record { results = DoneThere ∷ []; may = (tt, tt, tt); quiet = (tt, tt); shared = refl; at = record { buffer = buffer; is = refl } }

    breaks : (clean : Bool) (size : ℕ) (blocks : List OBlock) (most : ℕ) (content : Content) (actors : List AbstractActor) (a : ℕ) (s : Shared) (buffer : ℕ → Content) (answer : Answer) →
        CanGoOn size content actors a s (committer size clean blocks most content actors a s buffer (Desk BreakCommit ∷ []) answer true) (record s { broken = true }) (after (committing clean blocks most (Desk BreakCommit ∷ []) answer) Done) None true
    breaks true size blocks most content actors a s buffer answer = record { results = DoneThere ∷ []; may = (tt, tt, tt); quiet = (tt, tt); shared = refl; at = record { buffer = buffer; is = refl } }
    breaks false size blocks most content actors a s buffer answer = record { results = DoneThere ∷ []; may = (tt, tt, tt); quiet = (tt, tt); shared = refl; at = record { buffer = buffer; is = refl } }
