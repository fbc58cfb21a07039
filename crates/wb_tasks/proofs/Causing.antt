-- A task refuses for a cause alone.
use Rattle.std.proofs.Common.{◌≡◌, ◌≢◌, ◌==◌, ◌+◌, ◌⊎◌, inl, inr, ℕ, zero, suc, Bool, true, false, List, [], ◌∷◌, ◌++◌, Option, Some, None, if◌then◌else◌, refl, sym, subst}
use Rattle.std.proofs.lemmas.Bool.{eq-eqb}
use Rattle.wb_types.specs.declared.mode.Dev.TheVariants.{Metadata}
use Rattle.wb_types.specs.declared.number.OBlock.{OBlock}
use Rattle.wb_types.specs.declared.number.CBlock.{CBlock}
use Rattle.wb_types.specs.declared.refusal.Refusal.{Refusal}
use Rattle.wb_types.specs.declared.refusal.Refusal.TheVariants.{Busy, Defer, Failed, Memory, Worn, NotFormatted, Damaged, Mismatch, NotClean, GenerationEnd, Io}
use Rattle.wb_words.specs.declared.word.Word.TheVariants.{Cell as LockWord, Seal as SealWord, Number, Count as CountWord, Fail}
use Rattle.wb_words.specs.SharedWords.{place_in, dirty_in}
use Rattle.wb_types.specs.declared.extent.Extent.{Extent}
use Rattle.wb_words.specs.declared.word.Access.TheVariants.{Shared, Owned}
use Rattle.wb_tasks.specs.Tables.{BlockJob, Reading, Writing, Displacing, Invalidating, Migrating, TaskJob, OnBlock, Flushing, Suspending, Opening, is_deferred, place_read, read_step, read_count, write_count, writing, work}
use Rattle.wb_tasks.proofs.Modes.{IsWriting, deferred_or_not}
use Rattle.wb_tasks.proofs.Working.{Works, work_has, parting_has}
use Rattle.wb_tasks.specs.Plan.{Plan, after, table, first_step, refused, gives_back, gives_up, release_orders, node_writes, root_steps, opening_root, begun_steps, seal_looks, steps_seeing, deferring, answer_seeing, lets_go, after_fault_of, exchange, may_take, is_worn, Fits}
use Rattle.wb_tasks.specs.Run.{IsRunOf}
use Rattle.wb_tasks.proofs.Driving.{no_result}
use Rattle.wb_tasks.specs.Causes.{Causes, GaveCause}
use Rattle.wb_words.specs.declared.step.CellStep.TheVariants.{Look, Take, Release, Seal, Finish, Count, SetFailed, SetSuspended}
use Rattle.wb_tasks.specs.declared.step.DeviceStep.{DeviceStep}
use Rattle.wb_tasks.specs.declared.step.DeviceStep.TheVariants.{Read, Write, Sync, ReadMetadata, WriteNode, WriteRoot}
use Rattle.wb_tasks.specs.declared.step.DeskStep.TheVariants.{Map, Unmap, ReleaseOrder, Arrive, Ask, BeginCommit, EndCommit, BreakCommit}
use Rattle.wb_tasks.specs.declared.step.Migration.TheVariants.{Promote, Demote, Clean}
use Rattle.wb_tasks.specs.declared.step.Want.{Want}
use Rattle.wb_tasks.specs.declared.step.Want.TheVariants.{Cell, Device, Desk, End}
use Rattle.wb_tasks.specs.declared.step.Got.{Got}
use Rattle.wb_tasks.specs.declared.step.Got.TheVariants.{Done, Word, Lost, Fault, Refused, Began, Ticket, Served, More}
use Rattle.wb_tasks.specs.declared.step.Answer.TheVariants.{Done as Finished, Refused as Refuses}

-- steps, and no answer among them
abbrev AreOwn : List Want → Type 0
AreOwn [] = Unit {0}
AreOwn (End answer ∷ ws) = ⊥
AreOwn (w ∷ ws) = AreOwn ws

-- those of a job's work
own_work : (job : BlockJob) (place : Option CBlock) (dirty : Bool) → AreOwn (work job place dirty)
own_work job = work_has (λ place dirty ws. AreOwn ws) job (by_job job)
  where
    by_job : (job : BlockJob) → Works (λ place dirty ws. AreOwn ws) job
    by_job (Reading part) = record { each = λ place dirty e ws m r. from (place_read part.mode place) e ws r; last = λ place dirty. counted (place_read part.mode place) }
      where
        from : (place : Option CBlock) (e : Extent) (ws : List Want) → AreOwn ws → AreOwn (read_step part place e ∷ ws)
        from None e ws r = r
        from (Some c) e ws r = r

        counted : (place : Option CBlock) → AreOwn (read_count place ∷ Cell (Release Shared part.block) ∷ [])
        counted None = tt
        counted (Some c) = tt
    by_job (Writing part) = record { seal = λ c ws back r. r; home = λ dirty e ws m r. r; cached = λ c dirty e ws sealed m r. r; through = λ c dirty e ws other m r. r; defers = λ c dirty past. tt; last = λ place dirty. counted place }
      where
        counted : (place : Option CBlock) → AreOwn (Cell (Finish part.block) ∷ write_count place ∷ Cell (Release Owned part.block) ∷ [])
        counted None = tt
        counted (Some c) = tt
    by_job (Displacing part) = record { drops = λ c dirty ws r. r; each = λ dirty e ws m r. r; last = λ was dirty. counted was }
      where
        counted : (place : Option CBlock) → AreOwn (Cell (Finish part.block) ∷ write_count place ∷ Cell (Release Owned part.block) ∷ [])
        counted None = tt
        counted (Some c) = tt
    by_job (Invalidating part) = record { drops = λ c dirty ws r. r; last = λ dirty. tt }
    by_job (Migrating (Promote c) part) = record { each = λ place dirty e ws m r. r; last = λ place dirty. tt }
    by_job (Migrating Demote part) = record { each = λ c e ws m r. r; last = λ place dirty. tt }
    by_job (Migrating Clean part) = record { each = λ c e ws m r. r; last = λ place dirty. tt }

own_exchange : (job : TaskJob) (seen : ℕ) → AreOwn (exchange job seen)
own_exchange (OnBlock job) seen = tt
own_exchange (Flushing serves most) seen = tt
own_exchange (Suspending blocks most) seen = tt
own_exchange (Opening left) seen = tt

own_nodes : (nodes first : ℕ) → AreOwn (node_writes nodes first ++ root_steps)
own_nodes zero first = tt
own_nodes (suc nodes) first = own_nodes nodes (first + 1)

own_closing : (nodes first : ℕ) → AreOwn ((node_writes nodes first ++ root_steps) ++ Cell SetSuspended ∷ [])
own_closing zero first = tt
own_closing (suc nodes) first = own_closing nodes (first + 1)

own_opened : (nodes first : ℕ) → AreOwn (node_writes nodes first ++ Device (Sync Metadata) ∷ opening_root)
own_opened zero first = tt
own_opened (suc nodes) first = own_opened nodes (first + 1)

own_begun : (job : TaskJob) (nodes : ℕ) → AreOwn (begun_steps job nodes)
own_begun (OnBlock job) nodes = own_nodes nodes 0
own_begun (Flushing serves most) nodes = own_nodes nodes 0
own_begun (Suspending blocks most) nodes = own_closing nodes 0
own_begun (Opening left) nodes = own_opened nodes 0

own_looks : (blocks : List OBlock) (ws : List Want) → AreOwn ws → AreOwn (seal_looks blocks ++ ws)
own_looks [] ws own = own
own_looks (block ∷ blocks) ws own = own_looks blocks ws own

own_table : (job : TaskJob) → AreOwn ((table job).steps)
own_table (OnBlock job) = tt
own_table (Flushing serves most) = tt
own_table (Suspending blocks most) = own_looks blocks _ tt
own_table (Opening left) = tt

-- steps that can only be done: what a refused task lets go
abbrev AreCalm : List Want → Type 0
AreCalm [] = Unit {0}
AreCalm (Cell (Release access block) ∷ ws) = AreCalm ws
AreCalm (Cell SetFailed ∷ ws) = AreCalm ws
AreCalm (Desk (ReleaseOrder block) ∷ ws) = AreCalm ws
AreCalm (Desk BreakCommit ∷ ws) = AreCalm ws
AreCalm (w ∷ ws) = ⊥

calm_orders : (blocks : List OBlock) → AreCalm (release_orders blocks)
calm_orders [] = tt
calm_orders (block ∷ blocks) = calm_orders blocks

calm_parting : (job : BlockJob) → AreCalm (gives_up job)
calm_parting job = parting_has AreCalm job tt (λ block. tt)

calm_lets_go : (job : TaskJob) → AreCalm (lets_go job)
calm_lets_go (OnBlock job) = calm_parting job
calm_lets_go (Flushing serves most) = calm_orders serves
calm_lets_go (Suspending blocks most) = tt
calm_lets_go (Opening left) = tt

calm_gives_back : (job : TaskJob) → AreCalm (gives_back job)
calm_gives_back (OnBlock job) = tt
calm_gives_back (Flushing serves most) = tt
calm_gives_back (Suspending blocks most) = tt
calm_gives_back (Opening left) = tt

calm_fault : (job : TaskJob) (step : DeviceStep) → AreCalm (after_fault_of job step)
calm_fault (OnBlock job) (Read device e) = calm_parting job
calm_fault (OnBlock job) (Write device e) = tt
calm_fault (OnBlock job) (Sync device) = tt
calm_fault (OnBlock job) (ReadMetadata left) = tt
calm_fault (OnBlock job) (WriteNode number) = tt
calm_fault (OnBlock job) WriteRoot = tt
calm_fault (Flushing serves most) step = tt
calm_fault (Suspending blocks most) step = tt
calm_fault (Opening left) step = tt

only_done : (w : Want) (ws : List Want) (g : Got) → AreCalm (w ∷ ws) → Fits w g → (g ≡ Done) × AreCalm ws
only_done (Cell (Release access block)) ws Done calm f = (refl, calm)
only_done (Cell SetFailed) ws Done calm f = (refl, calm)
only_done (Desk (ReleaseOrder block)) ws Done calm f = (refl, calm)
only_done (Desk BreakCommit) ws Done calm f = (refl, calm)
only_done (Cell (Release access block)) ws g calm f = absurd f
only_done (Cell SetFailed) ws g calm f = absurd f
only_done (Desk (ReleaseOrder block)) ws g calm f = absurd f
only_done (Desk BreakCommit) ws g calm f = absurd f
only_done w ws g calm f = absurd calm

no_answer : (w : Want) (ws : List Want) (x : Refusal) → AreCalm (w ∷ ws) → w ≢ End (Refuses x)
no_answer (Cell step) ws x calm e = cc
no_answer (Device step) ws x calm e = cc
no_answer (Desk step) ws x calm e = cc
no_answer (End answer) ws x calm e = calm

-- after them this refusal alone is answered
answered : (s : Plan) (ws : List Want) (x : Refusal) → AreCalm ws → (steps : List (Want × Got)) (r : Refusal) → IsRunOf (refused s ws x) steps (Refuses r) → x ≡ r
answered s [] x calm [] r e = cc
answered s [] x calm (step ∷ steps) r h = absurd (no_result (Refuses x) step.1 (subst (λ (w : Want). Fits w step.1) h.0 h.1))
answered s (w ∷ ws) x calm [] r e = absurd (no_answer w ws r calm e)
answered s (w ∷ ws) x calm (step ∷ steps) r h =
    let done = only_done w ws step.1 calm (subst (λ (v : Want). Fits v step.1) h.0 h.1) in
    answered s ws x done.1 steps r (subst (λ (g : Got). IsRunOf (after (refused s (w ∷ ws) x) g) steps (Refuses r)) done.0 h.2)

abbrev going : TaskJob → List Want → Plan
going job ws = record { job = job; steps = ws; answer = Finished }

-- it refuses so, or for a cause to come
abbrev Refusing : TaskJob → Refusal → Plan → Type 0
Refusing job x s = (steps : List (Want × Got)) (r : Refusal) → IsRunOf s steps (Refuses r) → (x ≡ r) ⊎ GaveCause job r steps

answers : (s : Plan) (ws : List Want) (x : Refusal) → AreCalm ws → Refusing s.job x (refused s ws x)
answers s ws x calm steps r h = inl (answered s ws x calm steps r h)

-- a step gives the cause of a refusal, or the job goes on
abbrev Outcome : TaskJob → Want → Got → Plan → Type 0
Outcome job w g s =
    ((x : Refusal) × Causes job x w g × Refusing job x s)
    ⊎ ((ws : List Want) × AreOwn ws × (s ≡ going job ws))

by_fail_word : (job : TaskJob) (ws : List Want) (value : ℕ) → AreOwn ws → (b : Bool) → (value == 0) ≡ b → Outcome job (Cell (Look Fail)) (Word value) (if b then going job ws else refused (going job ws) [] Failed)
by_fail_word job ws value own true e = inr (ws, own, refl)
by_fail_word job ws value own false e = inl (Failed, λ zero. absurd (let yes = eq-eqb value 0 zero in cc), answers (going job ws) [] Failed tt)

by_lock_word : (job : TaskJob) (block : OBlock) (ws : List Want) (value : ℕ) → (b : Bool) → may_take job value ≡ b → Outcome job (Cell (Look (LockWord block))) (Word value) (if b then going job (exchange job value) else refused (going job ws) [] Busy)
by_lock_word job block ws value true e = inr (exchange job value, own_exchange job value, refl)
by_lock_word job block ws value false e = inl (Busy, e, answers (going job ws) [] Busy tt)

by_number : (job : TaskJob) (block : OBlock) (ws : List Want) (value : ℕ) → AreOwn ws → (b : Bool) → is_worn job value ≡ b → Outcome job (Cell (Look (Number block))) (Word value) (if b then refused (going job ws) (gives_back job) Worn else going job ws)
by_number job block ws value own false e = inr (ws, own, refl)
by_number job block ws value own true e = inl (Worn, e, answers (going job ws) (gives_back job) Worn (calm_gives_back job))

-- A write whose number is worn answers so, also where it would be deferred.
abbrev deferred : TaskJob → OBlock → OBlock → Plan
deferred job block b = record { job = job; steps = Cell (Look (Number block)) ∷ Cell (Release Owned b) ∷ []; answer = Refuses Defer }

number_seen : (job : TaskJob) (block b : OBlock) (g : Got) (steps : List (Want × Got)) (r : Refusal) → Fits (Cell (Look (Number block))) g → IsRunOf (after (deferred job block b) g) steps (Refuses r) → (Defer ≡ r) ⊎ Causes job r (Cell (Look (Number block))) g
number_seen job block b (Word value) steps r f run = by_test (is_worn job value) refl run
  where
    by_test : (t : Bool) → is_worn job value ≡ t → IsRunOf (if t then refused (deferred job block b) (gives_back job) Worn else refused (deferred job block b) (Cell (Release Owned b) ∷ []) Defer) steps (Refuses r) → (Defer ≡ r) ⊎ Causes job r (Cell (Look (Number block))) (Word value)
    by_test true e run = inr (subst (λ (x : Refusal). Causes job x (Cell (Look (Number block))) (Word value)) (answered (deferred job block b) (gives_back job) Worn (calm_gives_back job) steps r run) e)
    by_test false e run = inl (answered (deferred job block b) (Cell (Release Owned b) ∷ []) Defer tt steps r run)
number_seen job block b g steps r f run = absurd f

defers : (job : TaskJob) (block b : OBlock) → Refusing job Defer (deferred job block b)
defers job block b [] r e = absurd (cc)
defers job block b (step ∷ steps) r h =
    elim (number_seen job block b step.1 steps r (subst (λ (w : Want). Fits w step.1) h.0 h.1) h.2) [
      | inl e ↦ inl e
      | inr c ↦ inr (inl (subst (λ (w : Want). Causes job r w step.1) (sym h.0) c))
    ]

by_seal : (job : TaskJob) (block : OBlock) (ws : List Want) (value : ℕ) → AreOwn ws → Outcome job (Cell (Look (SealWord block))) (Word value) (record { job = job; steps = steps_seeing job block value ws; answer = answer_seeing job value Finished })
by_seal (OnBlock (Writing part)) block ws value own = by_deferral (is_deferred part.mode (place_in value)) (deferred_or_not part.mode part (place_in value) (dirty_in value))
  where
    does : List Want
    does = writing part.mode part (place_in value) (dirty_in value)

    by_deferral : (waits : Bool) → IsWriting waits part.mode part (place_in value) (dirty_in value)
        → Outcome (OnBlock (Writing part)) (Cell (Look (SealWord block))) (Word value) (record { job = OnBlock (Writing part); steps = Cell (Look (Number block)) ∷ does; answer = deferring part.mode (place_in value) Finished })
    by_deferral false is = inr (Cell (Look (Number block)) ∷ does, own_work (Writing part) (place_in value) (dirty_in value), λ i. record { job = OnBlock (Writing part); steps = Cell (Look (Number block)) ∷ does; answer = is.1 i })
    by_deferral true is = inl (Defer, is.1, subst (Refusing (OnBlock (Writing part)) Defer) (λ i. record { job = OnBlock (Writing part); steps = Cell (Look (Number block)) ∷ sym is.0 i; answer = sym is.1 i }) (defers (OnBlock (Writing part)) block part.block))
by_seal (OnBlock (Reading part)) block ws value own = inr (_, own_work (Reading part) (place_in value) (dirty_in value), refl)
by_seal (OnBlock (Displacing part)) block ws value own = inr (_, own_work (Displacing part) (place_in value) (dirty_in value), refl)
by_seal (OnBlock (Invalidating part)) block ws value own = inr (_, own_work (Invalidating part) (place_in value) (dirty_in value), refl)
by_seal (OnBlock (Migrating migration part)) block ws value own = inr (_, own_work (Migrating migration part) (place_in value) (dirty_in value), refl)
by_seal (Flushing serves most) block ws value own = inr (ws, own, refl)
by_seal (Suspending blocks most) block ws value own = inr (ws, own, refl)
by_seal (Opening left) block ws value own = inr (ws, own, refl)

outcome : (job : TaskJob) (ws : List Want) (g : Got) → AreOwn ws → Fits (first_step ws Finished) g → Outcome job (first_step ws Finished) g (after (going job ws) g)
outcome job [] g own h = absurd (no_result Finished g h)
outcome job (Cell (Look Fail) ∷ ws) (Word value) own h = by_fail_word job ws value own (value == 0) refl
outcome job (Cell (Look (LockWord block)) ∷ ws) (Word value) own h = by_lock_word job block ws value (may_take job value) refl
outcome job (Cell (Look (SealWord block)) ∷ ws) (Word value) own h = by_seal job block ws value own
outcome job (Cell (Look (Number block)) ∷ ws) (Word value) own h = by_number job block ws value own (is_worn job value) refl
outcome job (Cell (Look (CountWord kind)) ∷ ws) (Word value) own h = inr (ws, own, refl)
outcome job (Cell (Take access block seen) ∷ ws) Done own h = inr (ws, own, refl)
outcome job (Cell (Take access block seen) ∷ ws) Lost own h = inl (Busy, tt, answers (going job ws) [] Busy tt)
outcome job (Cell (Release access block) ∷ ws) Done own h = inr (ws, own, refl)
outcome job (Cell (Seal block place dirty) ∷ ws) Done own h = inr (ws, own, refl)
outcome job (Cell (Finish block) ∷ ws) Done own h = inr (ws, own, refl)
outcome job (Cell (Count kind) ∷ ws) Done own h = inr (ws, own, refl)
outcome job (Cell SetFailed ∷ ws) Done own h = inr (ws, own, refl)
outcome job (Cell SetSuspended ∷ ws) Done own h = inr (ws, own, refl)
outcome job (Device step ∷ ws) Done own h = inr (ws, own, refl)
outcome job (Device step ∷ ws) Fault own h = inl (Io _, refl, answers (going job ws) (after_fault_of job step) _ (calm_fault job step))
outcome job (Device (ReadMetadata left) ∷ ws) More own h = inr (Device (ReadMetadata _) ∷ ws, own, refl)
outcome job (Device (ReadMetadata left) ∷ ws) (Began nodes) own h = inr (begun_steps job nodes, own_begun job nodes, refl)
outcome job (Device (ReadMetadata left) ∷ ws) (Refused Memory) own h = inl (Memory, refl, answers (going job ws) [] Memory tt)
outcome job (Device (ReadMetadata left) ∷ ws) (Refused NotFormatted) own h = inl (NotFormatted, refl, answers (going job ws) [] NotFormatted tt)
outcome job (Device (ReadMetadata left) ∷ ws) (Refused (Damaged place)) own h = inl (Damaged place, refl, answers (going job ws) [] (Damaged place) tt)
outcome job (Device (ReadMetadata left) ∷ ws) (Refused Mismatch) own h = inl (Mismatch, refl, answers (going job ws) [] Mismatch tt)
outcome job (Device (ReadMetadata left) ∷ ws) (Refused NotClean) own h = inl (NotClean, refl, answers (going job ws) [] NotClean tt)
outcome job (Device (ReadMetadata left) ∷ ws) (Refused GenerationEnd) own h = inl (GenerationEnd, refl, answers (going job ws) [] GenerationEnd tt)
outcome job (Desk (Map block place) ∷ ws) Done own h = inr (ws, own, refl)
outcome job (Desk (Map block place) ∷ ws) (Refused Memory) own h = inl (Memory, refl, answers (going job ws) (lets_go job) Memory (calm_lets_go job))
outcome job (Desk (Unmap block) ∷ ws) Done own h = inr (ws, own, refl)
outcome job (Desk (ReleaseOrder block) ∷ ws) Done own h = inr (ws, own, refl)
outcome job (Desk (Arrive most) ∷ ws) (Refused Failed) own h = inl (Failed, refl, answers (going job ws) [] Failed tt)
outcome job (Desk (Ask most) ∷ ws) (Refused Failed) own h = inl (Failed, refl, answers (going job ws) [] Failed tt)
outcome job (Desk (BeginCommit most) ∷ ws) (Refused Busy) own h = inl (Busy, refl, answers (going job ws) (lets_go job) Busy (calm_lets_go job))
outcome job (Desk (Arrive most) ∷ ws) (Refused Memory) own h = inl (Memory, refl, answers (going job ws) (lets_go job) Memory (calm_lets_go job))
outcome job (Desk (Ask most) ∷ ws) (Refused Memory) own h = inl (Memory, refl, answers (going job ws) (lets_go job) Memory (calm_lets_go job))
outcome job (Desk (BeginCommit most) ∷ ws) (Refused Memory) own h = inl (Memory, refl, answers (going job ws) (lets_go job) Memory (calm_lets_go job))
outcome job (Desk (Arrive most) ∷ ws) (Refused GenerationEnd) own h = inl (GenerationEnd, refl, answers (going job ws) (lets_go job) GenerationEnd (calm_lets_go job))
outcome job (Desk (Ask most) ∷ ws) (Refused GenerationEnd) own h = inl (GenerationEnd, refl, answers (going job ws) (lets_go job) GenerationEnd (calm_lets_go job))
outcome job (Desk (BeginCommit most) ∷ ws) (Refused GenerationEnd) own h = inl (GenerationEnd, refl, answers (going job ws) (lets_go job) GenerationEnd (calm_lets_go job))
outcome job (Desk (Arrive most) ∷ ws) (Began nodes) own h = inr (begun_steps job nodes, own_begun job nodes, refl)
outcome job (Desk (Ask most) ∷ ws) (Began nodes) own h = inr (begun_steps job nodes, own_begun job nodes, refl)
outcome job (Desk (BeginCommit most) ∷ ws) (Began nodes) own h = inr (begun_steps job nodes, own_begun job nodes, refl)
outcome job (Desk (Arrive most) ∷ ws) Ticket own h = inr (Desk (Ask most) ∷ [], tt, refl)
outcome job (Desk (Ask most) ∷ ws) Served own h = inr ([], tt, refl)
outcome job (Desk EndCommit ∷ ws) Done own h = inr (ws, own, refl)
outcome job (Desk BreakCommit ∷ ws) Done own h = inr (ws, own, refl)
outcome job (End b ∷ ws) g own h = absurd own
outcome job (w ∷ ws) g own h = absurd h

no_refusal : (ws : List Want) (r : Refusal) → AreOwn ws → first_step ws Finished ≢ End (Refuses r)
no_refusal [] r own e = cc
no_refusal (Cell step ∷ ws) r own e = cc
no_refusal (Device step ∷ ws) r own e = cc
no_refusal (Desk step ∷ ws) r own e = cc
no_refusal (End a ∷ ws) r own e = own

caused : (job : TaskJob) (ws : List Want) (steps : List (Want × Got)) (r : Refusal) → AreOwn ws → IsRunOf (going job ws) steps (Refuses r) → GaveCause job r steps
caused job ws [] r own e = no_refusal ws r own e
caused job ws (step ∷ steps) r own h =
    let w = first_step ws Finished in
    let fits : Fits w step.1 = subst (λ (v : Want). Fits v step.1) h.0 h.1 in
    elim (outcome job ws step.1 own fits) [
      | inl o ↦ elim (o.2 steps r h.2) [
        | inl e ↦ inl (subst (λ (v : Want). Causes job r v step.1) (sym h.0) (subst (λ (x : Refusal). Causes job x w step.1) e o.1))
        | inr later ↦ inr later
      ]
      | inr o ↦ inr (caused job o.0 steps r o.1 (subst (λ (s : Plan). IsRunOf s steps (Refuses r)) o.2 h.2))
    ]

-- a task refuses for a cause alone
pub refuses_for_cause : (job : TaskJob) (steps : List (Want × Got)) (r : Refusal) → IsRunOf (table job) steps (Refuses r) → GaveCause job r steps
refuses_for_cause job steps r h = caused job _ steps r (own_table job) h
