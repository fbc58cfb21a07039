-- A flush writes nodes and a root by the commit that it runs, once cache and origin are durable.
use Rattle.std.proofs.Common.{◌≡◌, ◌∙◌, ◌==◌, ◌+◌, ◌++◌, ℕ, zero, suc, Bool, true, false, List, [], ◌∷◌, Option, Some, None, if◌then◌else◌, refl, sym, subst}
use Rattle.wb_types.specs.declared.mode.Dev.TheVariants.{Metadata, Cache, Origin}
use Rattle.wb_types.specs.declared.number.OBlock.{OBlock}
use Rattle.wb_types.specs.declared.refusal.Refusal.TheVariants.{Failed, Memory, GenerationEnd}
use Rattle.wb_disk.specs.Device.{History, Content as Bytes}
use Rattle.wb_words.specs.declared.word.Word.TheVariants.{Fail}
use Rattle.wb_words.specs.declared.step.CellStep.TheVariants.{Look, SetFailed}
use Rattle.wb_tasks.specs.Tables.{BlockJob, OnBlock, Reading, Flushing}
use Rattle.wb_tasks.specs.Plan.{Plan, want, after, first_step, refused, release_orders, node_writes, root_steps, Fits}
use Rattle.wb_tasks.specs.Run.{Leads}
use Rattle.wb_tasks.specs.Ready.{AreFirst, IsFlushs, IsOwnStep, left_by}
use Rattle.wb_tasks.specs.declared.step.DeviceStep.{DeviceStep}
use Rattle.wb_tasks.specs.declared.step.DeviceStep.TheVariants.{Read, Write, Sync, ReadMetadata, WriteNode, WriteRoot}
use Rattle.wb_tasks.specs.declared.step.DeskStep.TheVariants.{Map, Unmap, ReleaseOrder, Arrive, Ask, BeginCommit, EndCommit, BreakCommit}
use Rattle.wb_tasks.specs.declared.step.Answer.{Answer}
use Rattle.wb_tasks.specs.declared.step.Want.{Want}
use Rattle.wb_tasks.specs.declared.step.Want.TheVariants.{Cell, Device, Desk, End}
use Rattle.wb_tasks.specs.declared.step.Got.{Got}
use Rattle.wb_tasks.specs.declared.step.Got.TheVariants.{Done, Word, Fault, Refused, Began, Ticket, Served}
use Rattle.wb_tasks.proofs.Driving.{no_result}
use Rattle.wb_tasks.proofs.Readiness.{job_stays}
use Rattle.wb_devices.specs.Stepping.{Goes}
use Rattle.wb_devices.specs.declared.devices.Devices.{Devices}
use Rattle.wb_devices.specs.declared.running.RunningCommit.{RunningCommit}
use Rattle.wb_port.specs.Moves.{IsSynced}
use Rattle.wb_target.specs.Works.{DeskTold, WorksOn, WritesUnderCommit}
use Rattle.wb_target.proofs.Syncing.{synced_now}

-- So much is known where these steps come: what each node or root that is to be written asks for, each sync being known from
-- then on, and no commit once it has ended.
abbrev pub CommitsFrom : (C O R : Type 0) → List Want → Type 0
CommitsFrom C O R [] = Unit {0}
CommitsFrom C O R (Device (Sync Cache) ∷ ws) = CommitsFrom (Unit {0}) O R ws
CommitsFrom C O R (Device (Sync Origin) ∷ ws) = CommitsFrom C (Unit {0}) R ws
CommitsFrom C O R (Device (WriteNode number) ∷ ws) = (C × O × R) × CommitsFrom C O R ws
CommitsFrom C O R (Device WriteRoot ∷ ws) = (C × O × R) × CommitsFrom C O R ws
CommitsFrom C O R (Desk EndCommit ∷ ws) = CommitsFrom C O ⊥ ws
CommitsFrom C O R (Desk BreakCommit ∷ ws) = CommitsFrom C O R ws
CommitsFrom C O R (Desk (Arrive most) ∷ ws) = Unit {0}
CommitsFrom C O R (Desk (Ask most) ∷ ws) = Unit {0}
CommitsFrom C O R (Desk (BeginCommit most) ∷ ws) = Unit {0}
CommitsFrom C O R (next ∷ ws) = CommitsFrom C O R ws

-- who knows more knows that
weaken : (C O R C' O' R' : Type 0) → (C → C') → (O → O') → (R → R') → (ws : List Want) → CommitsFrom C O R ws → CommitsFrom C' O' R' ws
weaken C O R C' O' R' c o r [] k = tt
weaken C O R C' O' R' c o r (Device (Sync Cache) ∷ ws) k = weaken (Unit {0}) O R (Unit {0}) O' R' (λ u. u) o r ws k
weaken C O R C' O' R' c o r (Device (Sync Origin) ∷ ws) k = weaken C (Unit {0}) R C' (Unit {0}) R' c (λ u. u) r ws k
weaken C O R C' O' R' c o r (Device (WriteNode number) ∷ ws) k = ((c k.0.0, o k.0.1, r k.0.2), weaken C O R C' O' R' c o r ws k.1)
weaken C O R C' O' R' c o r (Device WriteRoot ∷ ws) k = ((c k.0.0, o k.0.1, r k.0.2), weaken C O R C' O' R' c o r ws k.1)
weaken C O R C' O' R' c o r (Desk EndCommit ∷ ws) k = weaken C O ⊥ C' O' ⊥ c o (λ u. u) ws k
weaken C O R C' O' R' c o r (Desk (Arrive most) ∷ ws) k = tt
weaken C O R C' O' R' c o r (Desk (Ask most) ∷ ws) k = tt
weaken C O R C' O' R' c o r (Desk (BeginCommit most) ∷ ws) k = tt
weaken C O R C' O' R' c o r (w ∷ ws) k = weaken C O R C' O' R' c o r ws k

nodes_from : (C O R : Type 0) → C → O → R → (nodes first : ℕ) → CommitsFrom C O R (node_writes nodes first ++ root_steps)
nodes_from C O R c o r zero first = ((c, o, r), tt)
nodes_from C O R c o r (suc nodes) first = ((c, o, r), nodes_from C O R c o r nodes (first + 1))

orders_from : (C O R : Type 0) (blocks : List OBlock) → CommitsFrom C O R (release_orders blocks)
orders_from C O R [] = tt
orders_from C O R (b ∷ blocks) = orders_from C O R blocks

abbrev pub IsRunning : Option RunningCommit → Type 0
IsRunning commit = (is : RunningCommit) × (commit ≡ Some is)

still_runs : (size : ℕ) (commit commit' : Option RunningCommit) (step : DeviceStep) (got : Got) → Goes size commit step got commit' → IsRunning commit → IsRunning commit'
still_runs size None commit' step got g r = absurd (cc)
still_runs size (Some commit) commit' step got g r = (g.0, g.1)

module _ {D S : Type 0} (tells : Type 0) (size : D → ℕ) (contents : D → List History) (faults : D → ℕ) (asked : S → DeskTold) (devices : S → Devices D) (buffer : S → List Bytes) (commit : S → Option RunningCommit) where
  abbrev C : S → Type 0
  C s = tells → IsSynced (contents (devices s).cache)

  abbrev O : S → Type 0
  O s = tells → IsSynced (contents (devices s).origin)

  abbrev R : S → Type 0
  R s = IsRunning (commit s)

  abbrev Knows : S → List Want → Type 0
  Knows s = CommitsFrom (C s) (O s) (R s)

  abbrev Did : S → Want → Got → S → Type 0
  Did s w g t = WorksOn tells size contents faults (asked s) (devices s) (buffer s) (commit s) w g (devices t) (buffer t) (commit t)

  same_devices : (s t : S) (ws : List Want) → devices t ≡ devices s → (R s → R t) → Knows s ws → Knows t ws
  same_devices s t ws e r = weaken (C s) (O s) (R s) (C t) (O t) (R t) (subst (λ (ds : Devices D). tells → IsSynced (contents ds.cache)) (sym e)) (subst (λ (ds : Devices D). tells → IsSynced (contents ds.origin)) (sym e)) r ws

  same_copies : (s t : S) (ws : List Want) → (devices t).cache ≡ (devices s).cache → (devices t).origin ≡ (devices s).origin → (R s → R t) → Knows s ws → Knows t ws
  same_copies s t ws c o r = weaken (C s) (O s) (R s) (C t) (O t) (R t) (subst (λ (d : D). tells → IsSynced (contents d)) (sym c)) (subst (λ (d : D). tells → IsSynced (contents d)) (sym o)) r ws

  commits_on : (serves : List OBlock) (most : ℕ) (s t : S) (answer : Answer) (ws : List Want) (got : Got) → IsFlushs serves most (first_step ws answer) → Knows s ws → Fits (first_step ws answer) got → Did s (first_step ws answer) got t →
      Knows t (after (record { job = Flushing serves most; steps = ws; answer = answer }) got).steps
  commits_on serves most s t answer [] got o k f d = absurd (no_result answer got f)
  commits_on serves most s t answer (Cell (Look Fail) ∷ ws) (Word value) o k f d = by_test (value == 0)
    where
      by_test : (b : Bool) → Knows t (if b then (record { job = Flushing serves most; steps = ws; answer = answer }) else (refused (record { job = Flushing serves most; steps = Cell (Look Fail) ∷ ws; answer = answer }) [] Failed)).steps
      by_test true = same_devices s t ws d.0 (subst IsRunning (sym d.2)) k
      by_test false = tt
  commits_on serves most s t answer (Cell SetFailed ∷ ws) Done o k f d = same_devices s t ws d.0 (subst IsRunning (sym d.2)) k
  commits_on serves most s t answer (Device (Sync Cache) ∷ ws) Done o k f d =
      weaken (Unit {0}) (O s) (R s) (C t) (O t) (R t) (λ u told. subst IsSynced (sym (d.4 told).0) (synced_now (contents (devices s).cache))) (subst (λ (x : D). tells → IsSynced (contents x)) (sym d.0.1)) (subst IsRunning (sym d.3)) ws k
  commits_on serves most s t answer (Device (Sync Origin) ∷ ws) Done o k f d =
      weaken (C s) (Unit {0}) (R s) (C t) (O t) (R t) (subst (λ (x : D). tells → IsSynced (contents x)) (sym d.0.1)) (λ u told. subst IsSynced (sym (d.4 told).0) (synced_now (contents (devices s).origin))) (subst IsRunning (sym d.3)) ws k
  commits_on serves most s t answer (Device (Sync Metadata) ∷ ws) Done o k f d = same_copies s t ws d.0.0 d.0.1 (still_runs (size (devices s).metadata) (commit s) (commit t) (Sync Metadata) Done d.3) k
  commits_on serves most s t answer (Device (WriteNode number) ∷ ws) Done o k f d = same_copies s t ws d.0.0 d.0.1 (still_runs (size (devices s).metadata) (commit s) (commit t) (WriteNode number) Done d.3) k.1
  commits_on serves most s t answer (Device WriteRoot ∷ ws) Done o k f d = same_copies s t ws d.0.0 d.0.1 (still_runs (size (devices s).metadata) (commit s) (commit t) WriteRoot Done d.3) k.1
  commits_on serves most s t answer (Device (Sync device) ∷ ws) Fault o k f d = tt
  commits_on serves most s t answer (Device (WriteNode number) ∷ ws) Fault o k f d = tt
  commits_on serves most s t answer (Device WriteRoot ∷ ws) Fault o k f d = tt
  commits_on serves most s t answer (Desk (Arrive nodes) ∷ ws) (Began n) o k f d = nodes_from (Unit {0}) (Unit {0}) (R t) tt tt (d.2.0, d.2.1) n 0
  commits_on serves most s t answer (Desk (Arrive nodes) ∷ ws) (Refused Failed) o k f d = tt
  commits_on serves most s t answer (Desk (Arrive nodes) ∷ ws) (Refused Memory) o k f d = orders_from (C t) (O t) (R t) serves
  commits_on serves most s t answer (Desk (Arrive nodes) ∷ ws) (Refused GenerationEnd) o k f d = orders_from (C t) (O t) (R t) serves
  commits_on serves most s t answer (Desk (Ask nodes) ∷ ws) (Began n) o k f d = nodes_from (Unit {0}) (Unit {0}) (R t) tt tt (d.2.0, d.2.1) n 0
  commits_on serves most s t answer (Desk (Ask nodes) ∷ ws) (Refused Failed) o k f d = tt
  commits_on serves most s t answer (Desk (Ask nodes) ∷ ws) (Refused Memory) o k f d = orders_from (C t) (O t) (R t) serves
  commits_on serves most s t answer (Desk (Ask nodes) ∷ ws) (Refused GenerationEnd) o k f d = orders_from (C t) (O t) (R t) serves
  commits_on serves most s t answer (Desk (Arrive nodes) ∷ ws) Ticket o k f d = tt
  commits_on serves most s t answer (Desk (Ask nodes) ∷ ws) Served o k f d = tt
  commits_on serves most s t answer (Desk (BeginCommit nodes) ∷ ws) got o k f d = absurd o
  commits_on serves most s t answer (Desk BreakCommit ∷ ws) Done o k f d = same_devices s t ws d.0 (subst IsRunning (sym d.2)) k
  commits_on serves most s t answer (Desk EndCommit ∷ ws) Done o k f d =
      weaken (C s) (O s) ⊥ (C t) (O t) (R t) (subst (λ (ds : Devices D). tells → IsSynced (contents ds.cache)) (sym d.0)) (subst (λ (ds : Devices D). tells → IsSynced (contents ds.origin)) (sym d.0)) (λ n. absurd n) ws k
  commits_on serves most s t answer (Desk (ReleaseOrder b) ∷ ws) Done o k f d = same_devices s t ws d.0 (subst IsRunning (sym d.2)) k
  commits_on serves most s t answer (End a ∷ ws) got o k f d = absurd (no_result a got f)
  commits_on serves most s t answer (Device (Read device e) ∷ ws) got o k f d = absurd o
  commits_on serves most s t answer (Device (Write device e) ∷ ws) got o k f d = absurd o
  commits_on serves most s t answer (Device (ReadMetadata left) ∷ ws) got o k f d = absurd o
  commits_on serves most s t answer (Desk (Map b place) ∷ ws) got o k f d = absurd o
  commits_on serves most s t answer (Desk (Unmap b) ∷ ws) got o k f d = absurd o
  commits_on serves most s t answer (Cell (Look Fail) ∷ ws) got o k f d = absurd f
  commits_on serves most s t answer (Cell SetFailed ∷ ws) got o k f d = absurd f
  commits_on serves most s t answer (Cell step ∷ ws) got o k f d = absurd o
  commits_on serves most s t answer (w ∷ ws) got o k f d = absurd f

  may_commit : (s : S) (ws : List Want) (answer : Answer) → Knows s ws → WritesUnderCommit tells contents (devices s) (commit s) (first_step ws answer)
  may_commit s [] answer k = tt
  may_commit s (Cell step ∷ ws) answer k = tt
  may_commit s (Desk step ∷ ws) answer k = tt
  may_commit s (End a ∷ ws) answer k = tt
  may_commit s (Device (Read device e) ∷ ws) answer k = tt
  may_commit s (Device (Write device e) ∷ ws) answer k = tt
  may_commit s (Device (Sync device) ∷ ws) answer k = tt
  may_commit s (Device (ReadMetadata left) ∷ ws) answer k = tt
  may_commit s (Device (WriteNode number) ∷ ws) answer k = record { commit_is = k.0.2.0; runs = k.0.2.1; cache = k.0.0; origin = k.0.1 }
  may_commit s (Device WriteRoot ∷ ws) answer k = record { commit_is = k.0.2.0; runs = k.0.2.1; cache = k.0.0; origin = k.0.1 }

  -- ---- wherever the steps have led

  module _ (led : S → Want → Got → S → Type 0) (does : (s : S) (w : Want) (g : Got) (t : S) → led s w g t → Did s w g t) (serves : List OBlock) (most : ℕ) where
    pub commits_there : (s : Plan) (old : S) (steps : List (Want × Got)) (mid : S) → s.job ≡ Flushing serves most → ((done : List (Want × Got)) (at : S) → AreFirst s done → Leads led old done at → IsOwnStep (Flushing serves most) (want (left_by s done))) → Knows old s.steps → AreFirst s steps → Leads led old steps mid
        → WritesUnderCommit tells contents (devices mid) (commit mid) (want (left_by s steps))
    commits_there s old [] mid on own k f e = subst (λ (x : S). WritesUnderCommit tells contents (devices x) (commit x) (want s)) e (may_commit old s.steps s.answer k)
    commits_there s old (step ∷ steps) mid on own k f h =
        let fits : Fits (want s) step.1 = subst (λ (w : Want). Fits w step.1) f.0 f.1 in
        let did : Did old (want s) step.1 h.0 = subst (λ (w : Want). Did old w step.1 h.0) f.0 (does old step.0 step.1 h.0 h.1) in
        let same : s ≡ record { job = Flushing serves most; steps = s.steps; answer = s.answer } = (λ i. record { job = on i; steps = s.steps; answer = s.answer }) in
        let known : Knows h.0 (after s step.1).steps = subst (λ (t : Plan). Knows h.0 (after t step.1).steps) (sym same) (commits_on serves most old h.0 s.answer s.steps step.1 (own [] old tt refl) k fits did) in
        commits_there (after s step.1) h.0 steps mid (job_stays s step.1 ∙ on) (λ done at g l. own (step ∷ done) at (f.0, f.1, g) (h.0, h.1, l)) known f.2 h.2

-- a job on a block writes none
pub block_commits : {D : Type 0} (tells : Type 0) (contents : D → List History) (devices : Devices D) (commit : Option RunningCommit) (job : BlockJob) (w : Want) → IsOwnStep (OnBlock job) w → WritesUnderCommit tells contents devices commit w
block_commits tells contents devices commit (Reading part) (Device (WriteNode number)) o = absurd o
block_commits tells contents devices commit job (Device (WriteNode number)) o = absurd o
block_commits tells contents devices commit (Reading part) (Device WriteRoot) o = absurd o
block_commits tells contents devices commit job (Device WriteRoot) o = absurd o
block_commits tells contents devices commit job w o = tt
