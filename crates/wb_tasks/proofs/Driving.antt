-- A run of a task, step by step, and how long it can be.
use Rattle.std.proofs.Common.{◌≡◌, ◌≢◌, ◌+◌, ◌*◌, ◌<◌, ◌≤◌, ℕ, zero, suc, Bool, true, false, List, [], ◌∷◌, ◌++◌, Option, Some, None, length, map, max, ◌==◌, if◌then◌else◌, refl, sym, ap, subst, arith, append_assoc}
use Rattle.wb_types.specs.declared.mode.Dev.TheVariants.{Metadata}
use Rattle.wb_types.specs.declared.number.CBlock.{CBlock}
use Rattle.wb_words.specs.declared.word.Access.TheVariants.{Shared, Owned}
use Rattle.wb_types.specs.declared.number.OBlock.{OBlock}
use Rattle.wb_types.specs.declared.refusal.Refusal.TheVariants.{Busy, Failed, Memory, Worn, GenerationEnd}
use Rattle.wb_words.specs.declared.word.Word.{Word as WordName}
use Rattle.wb_words.specs.declared.word.Word.TheVariants.{Cell as LockWord, Seal as SealWord, Number, Count as CountWord, Fail}
use Rattle.wb_words.specs.SharedWords.{place_in, dirty_in}
use Rattle.wb_types.specs.declared.extent.Extent.{Extent}
use Rattle.wb_tasks.specs.Tables.{BlockRange, BlockJob, TaskJob, OnBlock, Flushing, Suspending, Opening, Reading, Writing, Displacing, Invalidating, Migrating, work, copies, ending, place_read, writes, read_step, read_count, write_count}
use Rattle.wb_tasks.specs.Plan.{Plan, want, after, after_look, gives_back, gives_up, release_orders, lets_go, after_fault_of, exchange, may_take, node_writes, root_steps, opening_root, begun_steps, Fits, IsStep, first_step, is_worn}
use Rattle.wb_tasks.specs.Ready.{AreFirst, left_by}
use Rattle.wb_tasks.specs.Run.{IsRunOf, Leads}
use Rattle.wb_tasks.specs.Length.{most_written, longest_work, longest_failing, longest_begun, longest_of, longest}
use Rattle.wb_tasks.proofs.Modes.{writes_out, SealsDirty, WritesCopy, WritesHome, at_least_once, in_some_way}
use Rattle.wb_words.specs.declared.step.CellStep.TheVariants.{Look, Take, Release, Seal, Finish, Count, SetFailed, SetSuspended}
use Rattle.wb_tasks.specs.declared.step.DeviceStep.{DeviceStep}
use Rattle.wb_tasks.specs.declared.step.DeviceStep.TheVariants.{Read, Write, Sync, ReadMetadata, WriteNode, WriteRoot}
use Rattle.wb_tasks.specs.declared.step.DeskStep.TheVariants.{Map, Unmap, ReleaseOrder, Arrive, Ask, BeginCommit, EndCommit, BreakCommit}
use Rattle.wb_tasks.specs.declared.step.Migration.TheVariants.{Promote, Demote, Clean}
use Rattle.wb_tasks.specs.declared.step.Want.{Want}
use Rattle.wb_tasks.specs.declared.step.Want.TheVariants.{Cell, Device, Desk, End}
use Rattle.wb_tasks.specs.declared.step.Got.{Got}
use Rattle.wb_tasks.specs.declared.step.Got.TheVariants.{Begin, Done, Word, Lost, Fault, Refused, Began, Ticket, Served, More}
use Rattle.wb_tasks.specs.declared.step.Answer.{Answer}
use Rattle.wb_tasks.specs.declared.step.Answer.TheVariants.{Refused as Refuses}

-- what is no answer is a step
pub IsStep-no_answer : (w : Want) → ((answer : Answer) → w ≢ End answer) → IsStep w
IsStep-no_answer (Cell step) h = tt
IsStep-no_answer (Device step) h = tt
IsStep-no_answer (Desk step) h = tt
IsStep-no_answer (End answer) h = absurd (h answer refl)

-- and an answer gives nothing
pub no_result : (a : Answer) (g : Got) → Fits (End a) g → ⊥
no_result a Begin h = h
no_result a Done h = h
no_result a (Word value) h = h
no_result a Lost h = h
no_result a Fault h = h
no_result a (Refused refusal) h = h
no_result a (Began nodes) h = h
no_result a Ticket h = h
no_result a Served h = h
no_result a More h = h

-- the answer is a step too
pub longest_of-some : (job : TaskJob) (ws : List Want) → 1 ≤ longest_of job ws
longest_of-some job [] = omega arith
longest_of-some job (Cell (Look (LockWord b)) ∷ ws) = omega arith
longest_of-some job (Cell (Look (SealWord b)) ∷ ws) = omega arith
longest_of-some job (Cell (Look (Number b)) ∷ ws) = omega arith
longest_of-some job (Cell (Look (CountWord k)) ∷ ws) = omega arith
longest_of-some job (Cell (Look Fail) ∷ ws) = omega arith
longest_of-some job (Cell (Take a b seen) ∷ ws) = omega arith
longest_of-some job (Cell (Release a b) ∷ ws) = omega arith
longest_of-some job (Cell (Seal b p d) ∷ ws) = omega arith
longest_of-some job (Cell (Finish b) ∷ ws) = omega arith
longest_of-some job (Cell (Count k) ∷ ws) = omega arith
longest_of-some job (Cell SetFailed ∷ ws) = omega arith
longest_of-some job (Cell SetSuspended ∷ ws) = omega arith
longest_of-some job (Device (Read d e) ∷ ws) = omega arith
longest_of-some job (Device (Write d e) ∷ ws) = omega arith
longest_of-some job (Device (Sync d) ∷ ws) = omega arith
longest_of-some job (Device (ReadMetadata left) ∷ ws) = omega arith
longest_of-some job (Device (WriteNode number) ∷ ws) = omega arith
longest_of-some job (Device WriteRoot ∷ ws) = omega arith
longest_of-some job (Desk (Map b c) ∷ ws) = omega arith
longest_of-some job (Desk (Unmap b) ∷ ws) = omega arith
longest_of-some job (Desk (ReleaseOrder b) ∷ ws) = omega arith
longest_of-some job (Desk (Arrive most) ∷ ws) = omega arith
longest_of-some job (Desk (Ask most) ∷ ws) = omega arith
longest_of-some job (Desk (BeginCommit most) ∷ ws) = omega arith
longest_of-some job (Desk EndCommit ∷ ws) = omega arith
longest_of-some job (Desk BreakCommit ∷ ws) = omega arith
longest_of-some job (End a ∷ ws) = omega arith

-- a step for each extent, before others that take as long as a failure
longest_of-reads : (job : BlockJob) (part : BlockRange) (place : Option CBlock) (extents : List Extent) (ws : List Want) → longest_failing (OnBlock job) ≤ longest_of (OnBlock job) ws → longest_of (OnBlock job) (map (read_step part place) extents ++ ws) ≡ length extents + longest_of (OnBlock job) ws
longest_of-reads job part place [] ws h = omega arith
longest_of-reads job part None (e ∷ extents) ws h = omega (arith, h, longest_of-reads job part None extents ws h)
longest_of-reads job part (Some c) (e ∷ extents) ws h = omega (arith, h, longest_of-reads job part (Some c) extents ws h)

-- so where each is written to one place, and two where each is written to two
longest_of-writes : (job : BlockJob) (part : BlockRange) (place : Option CBlock) (extents : List Extent) (ws : List Want) → longest_failing (OnBlock job) ≤ longest_of (OnBlock job) ws → longest_of (OnBlock job) (writes part (place ∷ []) extents ++ ws) ≡ length extents + longest_of (OnBlock job) ws
longest_of-writes job part place [] ws h = omega arith
longest_of-writes job part None (e ∷ extents) ws h = omega (arith, h, longest_of-writes job part None extents ws h)
longest_of-writes job part (Some c) (e ∷ extents) ws h = omega (arith, h, longest_of-writes job part (Some c) extents ws h)

longest_of-writes_through : (job : BlockJob) (part : BlockRange) (c : CBlock) (extents : List Extent) (ws : List Want) → longest_failing (OnBlock job) ≤ longest_of (OnBlock job) ws → longest_of (OnBlock job) (writes part (None ∷ Some c ∷ []) extents ++ ws) ≡ 2 * length extents + longest_of (OnBlock job) ws
longest_of-writes_through job part c [] ws h = omega arith
longest_of-writes_through job part c (e ∷ extents) ws h = omega (arith, h, longest_of-writes_through job part c extents ws h)

-- and where each is copied
longest_of-copies : (job : BlockJob) (part : BlockRange) (from to : Option CBlock) (extents : List Extent) (ws : List Want) → longest_failing (OnBlock job) ≤ longest_of (OnBlock job) ws → longest_of (OnBlock job) (copies part from to extents ++ ws) ≡ 2 * length extents + longest_of (OnBlock job) ws
longest_of-copies job part from to [] ws h = omega arith
longest_of-copies job part None None (e ∷ extents) ws h = omega (arith, h, longest_of-copies job part None None extents ws h)
longest_of-copies job part None (Some c) (e ∷ extents) ws h = omega (arith, h, longest_of-copies job part None (Some c) extents ws h)
longest_of-copies job part (Some c) None (e ∷ extents) ws h = omega (arith, h, longest_of-copies job part (Some c) None extents ws h)
longest_of-copies job part (Some c) (Some d) (e ∷ extents) ws h = omega (arith, h, longest_of-copies job part (Some c) (Some d) extents ws h)

-- what a job does takes no longer than it says, wherever its block stands
longest_of-work : (job : BlockJob) (place : Option CBlock) (dirty : Bool) → longest_of (OnBlock job) (work job place dirty) ≤ longest_work job
longest_of-work (Reading part) place dirty = by_place (place_read part.mode place)
  where
    by_place : (from : Option CBlock) → longest_of (OnBlock (Reading part)) (map (read_step part from) part.extents ++ read_count from ∷ Cell (Release Shared part.block) ∷ []) ≤ longest_work (Reading part)
    by_place None = omega (arith, longest_of-reads (Reading part) part None part.extents (read_count None ∷ Cell (Release Shared part.block) ∷ []) (omega arith))
    by_place (Some c) = omega (arith, longest_of-reads (Reading part) part (Some c) part.extents (read_count (Some c) ∷ Cell (Release Shared part.block) ∷ []) (omega arith))
longest_of-work (Writing part) place dirty = in_some_way Few part.mode part (record { home = home; cached = cached; sealed = sealed; both = both; deferred = λ c dirty back. omega arith }) place dirty
  where
    Few : Option CBlock → Bool → List Want → Type 0
    Few place dirty ws = longest_of (OnBlock (Writing part)) ws ≤ longest_work (Writing part)

    ends : Option CBlock → List Want
    ends place = Cell (Finish part.block) ∷ write_count place ∷ Cell (Release Owned part.block) ∷ []

    once : length part.extents ≤ most_written part.mode * length part.extents
    once = at_least_once part.mode (length part.extents)

    home : (dirty : Bool) → Few None dirty (writes_out part (None ∷ []) None)
    home dirty = omega (arith, once, longest_of-writes (Writing part) part None part.extents (ends None) (omega arith))

    cached : (c : CBlock) → WritesCopy part.mode true → Few (Some c) true (writes_out part (Some c ∷ []) (Some c))
    cached c copy = omega (arith, once, longest_of-writes (Writing part) part (Some c) part.extents (ends (Some c)) (omega arith))

    sealed : (c : CBlock) → SealsDirty part.mode → WritesCopy part.mode true → Few (Some c) false (Cell (Seal part.block (Some c) true) ∷ writes_out part (Some c ∷ []) (Some c))
    sealed c seals copy = omega (arith, once, longest_of-writes (Writing part) part (Some c) part.extents (ends (Some c)) (omega arith))

    both : (c : CBlock) (dirty : Bool) → most_written part.mode ≡ 2 → WritesHome part.mode → WritesCopy part.mode dirty → Few (Some c) dirty (writes_out part (None ∷ Some c ∷ []) (Some c))
    both c dirty twice other copy = omega (arith, ap (λ (k : ℕ). k * length part.extents) twice, longest_of-writes_through (Writing part) part c part.extents (ends (Some c)) (omega arith))
longest_of-work (Displacing part) place dirty = by_place place
  where
    ends : Option CBlock → List Want
    ends was = Cell (Finish part.block) ∷ write_count was ∷ Cell (Release Owned part.block) ∷ []

    by_place : (place : Option CBlock) → longest_of (OnBlock (Displacing part)) (work (Displacing part) place dirty) ≤ longest_work (Displacing part)
    by_place None = omega (arith, longest_of-writes (Displacing part) part None part.extents (ends None) (omega arith))
    by_place (Some c) = omega (arith, longest_of-writes (Displacing part) part None part.extents (ends (Some c)) (omega arith))
longest_of-work (Invalidating part) None dirty = omega arith
longest_of-work (Invalidating part) (Some c) dirty = omega arith
longest_of-work (Migrating (Promote c) part) place dirty = omega (arith, longest_of-copies (Migrating (Promote c) part) part None (Some c) part.extents (ending (Promote c) part.block place) (omega arith))
longest_of-work (Migrating Demote part) None dirty = omega arith
longest_of-work (Migrating Demote part) (Some c) true = omega (arith, longest_of-copies (Migrating Demote part) part (Some c) None part.extents (ending Demote part.block (Some c)) (omega arith))
longest_of-work (Migrating Demote part) (Some c) false = omega arith
longest_of-work (Migrating Clean part) None dirty = omega arith
longest_of-work (Migrating Clean part) (Some c) true = omega (arith, longest_of-copies (Migrating Clean part) part (Some c) None part.extents (ending Clean part.block (Some c)) (omega arith))
longest_of-work (Migrating Clean part) (Some c) false = omega arith

some_work : (job : BlockJob) → 2 ≤ longest_work job
some_work (Reading part) = omega arith
some_work (Writing part) = omega arith
some_work (Displacing part) = omega arith
some_work (Invalidating part) = omega arith
some_work (Migrating migration part) = omega arith

-- a failure leaves a step and the answer, or the block, the order and the answer
some_failing : (job : BlockJob) → 2 ≤ longest_failing (OnBlock job)
some_failing (Reading part) = omega arith
some_failing (Writing part) = omega arith
some_failing (Displacing part) = omega arith
some_failing (Invalidating part) = omega arith
some_failing (Migrating migration part) = omega arith

longest_of-parting : (job : BlockJob) → 1 + longest_of (OnBlock job) (gives_up job) ≤ longest_failing (OnBlock job)
longest_of-parting (Reading part) = omega arith
longest_of-parting (Writing part) = omega arith
longest_of-parting (Displacing part) = omega arith
longest_of-parting (Invalidating part) = omega arith
longest_of-parting (Migrating migration part) = omega arith

longest_of-orders : (job : TaskJob) (blocks : List OBlock) → longest_of job (release_orders blocks) ≡ length (release_orders blocks) + 1
longest_of-orders job [] = omega arith
longest_of-orders job (block ∷ blocks) = omega (arith, longest_of-orders job blocks)

-- what is let go takes a step each, and the answer
longest_of-let_go : (job : TaskJob) → longest_of job (lets_go job) ≤ length (lets_go job) + 1
longest_of-let_go (OnBlock (Reading part)) = omega arith
longest_of-let_go (OnBlock (Writing part)) = omega arith
longest_of-let_go (OnBlock (Displacing part)) = omega arith
longest_of-let_go (OnBlock (Invalidating part)) = omega arith
longest_of-let_go (OnBlock (Migrating migration part)) = omega arith
longest_of-let_go (Flushing serves most) = omega (arith, longest_of-orders (Flushing serves most) serves)
longest_of-let_go (Suspending blocks most) = omega arith
longest_of-let_go (Opening left) = omega arith

-- what is left after a fault on a device
longest_of-fault : (job : TaskJob) (step : DeviceStep) → longest_of job (after_fault_of job step) ≤ longest_failing job
longest_of-fault (OnBlock job) (Read device e) = omega (arith, longest_of-parting job)
longest_of-fault (OnBlock job) (Write device e) = omega (arith, some_failing job)
longest_of-fault (OnBlock job) (Sync device) = omega (arith, some_failing job)
longest_of-fault (OnBlock job) (ReadMetadata left) = omega (arith, some_failing job)
longest_of-fault (OnBlock job) (WriteNode number) = omega (arith, some_failing job)
longest_of-fault (OnBlock job) WriteRoot = omega (arith, some_failing job)
longest_of-fault (Flushing serves most) step = omega arith
longest_of-fault (Suspending blocks most) step = omega arith
longest_of-fault (Opening left) step = omega arith

-- an image, once it began
longest_of-nodes : (job : TaskJob) (nodes first : ℕ) (ws : List Want) → longest_failing job ≤ longest_of job ws → longest_of job (node_writes nodes first ++ ws) ≡ nodes + longest_of job ws
longest_of-nodes job zero first ws h = omega arith
longest_of-nodes job (suc nodes) first ws h = let more = longest_of-nodes job nodes (first + 1) ws h in omega (arith, more, h)

-- of a suspend the bit follows
longest_of-closing : (blocks : List OBlock) (most nodes first : ℕ) → longest_of (Suspending blocks most) ((node_writes nodes first ++ root_steps) ++ Cell SetSuspended ∷ []) ≡ nodes + 6
longest_of-closing blocks most zero first = omega arith
longest_of-closing blocks most (suc nodes) first = omega (arith, longest_of-closing blocks most nodes (first + 1))

longest_of-begun : (job : TaskJob) (nodes : ℕ) → longest_of job (begun_steps job nodes) ≡ longest_begun job nodes
longest_of-begun (OnBlock job) nodes = let more = longest_of-nodes (OnBlock job) nodes 0 root_steps (omega arith) in omega (arith, more)
longest_of-begun (Flushing serves most) nodes = let more = longest_of-nodes (Flushing serves most) nodes 0 root_steps (omega arith) in omega (arith, more)
longest_of-begun (Suspending blocks most) nodes = omega (arith, longest_of-closing blocks most nodes 0)
longest_of-begun (Opening left) nodes = let more = longest_of-nodes (Opening left) nodes 0 (Device (Sync Metadata) ∷ opening_root) (omega arith) in omega (arith, more)

-- a look leaves less
falls_look : (job : TaskJob) (word : WordName) (ws : List Want) (a : Answer) (value : ℕ) → longest (after_look (record { job = job; steps = Cell (Look word) ∷ ws; answer = a }) (Cell (Look word)) value) < longest_of job (Cell (Look word) ∷ ws)
falls_look job Fail ws a value = elim (value == 0) as (λ (b : Bool). longest (if b then (record { job = job; steps = ws; answer = a }) else (record { job = job; steps = []; answer = Refuses Failed })) < 1 + longest_of job ws) [ true ↦ omega arith | false ↦ omega (arith, longest_of-some job ws) ]
falls_look (Flushing serves most) (LockWord block) ws a value = omega arith
falls_look (Suspending blocks most) (LockWord block) ws a value = omega arith
falls_look (Opening left) (LockWord block) ws a value = omega arith
falls_look (Flushing serves most) (SealWord block) ws a value = omega arith
falls_look (Suspending blocks most) (SealWord block) ws a value = omega arith
falls_look (Opening left) (SealWord block) ws a value = omega arith
falls_look (Flushing serves most) (Number block) ws a value = omega arith
falls_look (Suspending blocks most) (Number block) ws a value = omega arith
falls_look (Opening left) (Number block) ws a value = omega arith
falls_look (OnBlock job) (LockWord block) ws a value = elim (may_take (OnBlock job) value) as (λ (b : Bool). longest (if b then (record { job = OnBlock job; steps = exchange (OnBlock job) value; answer = a }) else (record { job = OnBlock job; steps = []; answer = Refuses Busy })) < 4 + longest_work job) [ true ↦ omega arith | false ↦ omega arith ]
falls_look (OnBlock job) (SealWord block) ws a value = omega (arith, longest_of-work job (place_in value) (dirty_in value), some_work job)
falls_look (OnBlock job) (Number block) ws a value = elim (is_worn (OnBlock job) value) as (λ (b : Bool). longest (if b then (record { job = OnBlock job; steps = gives_back (OnBlock job); answer = Refuses Worn }) else (record { job = OnBlock job; steps = ws; answer = a })) < 1 + max 2 (longest_of (OnBlock job) ws)) [ true ↦ omega arith | false ↦ omega arith ]
falls_look job (CountWord kind) ws a value = omega arith

-- a step leaves less
pub falls : (job : TaskJob) (ws : List Want) (a : Answer) (g : Got) → Fits (first_step ws a) g → longest (after (record { job = job; steps = ws; answer = a }) g) < longest_of job ws
falls job [] a g h = absurd (no_result a g h)
falls job (Cell (Look word) ∷ ws) a (Word value) h = falls_look job word ws a value
falls job (Cell (Take access block seen) ∷ ws) a Done h = omega arith
falls job (Cell (Take access block seen) ∷ ws) a Lost h = omega (arith, longest_of-some job ws)
falls job (Cell (Release access block) ∷ ws) a Done h = omega arith
falls job (Cell (Seal block place dirty) ∷ ws) a Done h = omega arith
falls job (Cell (Finish block) ∷ ws) a Done h = omega arith
falls job (Cell (Count kind) ∷ ws) a Done h = omega arith
falls job (Cell SetFailed ∷ ws) a Done h = omega arith
falls job (Cell SetSuspended ∷ ws) a Done h = omega arith
falls job (Device (Read device e) ∷ ws) a Done h = omega arith
falls job (Device (Write device e) ∷ ws) a Done h = omega arith
falls job (Device (Sync device) ∷ ws) a Done h = omega arith
falls job (Device (ReadMetadata left) ∷ ws) a Done h = omega arith
falls job (Device (WriteNode number) ∷ ws) a Done h = omega arith
falls job (Device WriteRoot ∷ ws) a Done h = omega arith
falls job (Device (Read device e) ∷ ws) a Fault h = omega (arith, longest_of-fault job (Read device e))
falls job (Device (Write device e) ∷ ws) a Fault h = omega (arith, longest_of-fault job (Write device e))
falls job (Device (Sync device) ∷ ws) a Fault h = omega (arith, longest_of-fault job (Sync device))
falls job (Device (ReadMetadata left) ∷ ws) a Fault h = omega (arith, longest_of-fault job (ReadMetadata left))
falls job (Device (WriteNode number) ∷ ws) a Fault h = omega (arith, longest_of-fault job (WriteNode number))
falls job (Device WriteRoot ∷ ws) a Fault h = omega (arith, longest_of-fault job WriteRoot)
falls job (Device (ReadMetadata left) ∷ ws) a (Refused refusal) h = omega (arith, longest_of-some job ws)
falls job (Device (ReadMetadata left) ∷ ws) a More h = omega (arith, h)
falls job (Device (ReadMetadata left) ∷ ws) a (Began nodes) h = omega (arith, longest_of-begun job nodes, h)
falls job (Desk (Map block place) ∷ ws) a Done h = omega arith
falls job (Desk (Unmap block) ∷ ws) a Done h = omega arith
falls job (Desk (ReleaseOrder block) ∷ ws) a Done h = omega arith
falls job (Desk EndCommit ∷ ws) a Done h = omega arith
falls job (Desk BreakCommit ∷ ws) a Done h = omega arith
falls job (Desk (Map block place) ∷ ws) a (Refused refusal) h = omega (arith, longest_of-let_go job)
falls job (Desk (Arrive most) ∷ ws) a (Refused Failed) h = omega arith
falls job (Desk (Ask most) ∷ ws) a (Refused Failed) h = omega arith
falls job (Desk (BeginCommit most) ∷ ws) a (Refused Busy) h = omega (arith, longest_of-let_go job)
falls job (Desk (Arrive most) ∷ ws) a (Refused Memory) h = omega (arith, longest_of-let_go job)
falls job (Desk (Ask most) ∷ ws) a (Refused Memory) h = omega (arith, longest_of-let_go job)
falls job (Desk (BeginCommit most) ∷ ws) a (Refused Memory) h = omega (arith, longest_of-let_go job)
falls job (Desk (Arrive most) ∷ ws) a (Refused GenerationEnd) h = omega (arith, longest_of-let_go job)
falls job (Desk (Ask most) ∷ ws) a (Refused GenerationEnd) h = omega (arith, longest_of-let_go job)
falls job (Desk (BeginCommit most) ∷ ws) a (Refused GenerationEnd) h = omega (arith, longest_of-let_go job)
falls job (Desk (Arrive most) ∷ ws) a (Began nodes) h = omega (arith, longest_of-begun job nodes, h)
falls job (Desk (Ask most) ∷ ws) a (Began nodes) h = omega (arith, longest_of-begun job nodes, h)
falls job (Desk (BeginCommit most) ∷ ws) a (Began nodes) h = omega (arith, longest_of-begun job nodes, h)
falls job (Desk (Arrive most) ∷ ws) a Ticket h = omega arith
falls job (Desk (Ask most) ∷ ws) a Served h = omega arith
falls job (End b ∷ ws) a g h = absurd (no_result b g h)
falls job (w ∷ ws) a g h = absurd h

-- one step more
pub leads_more : {S : Type 0} (led : S → Want → Got → S → Type 0) (old : S) (steps : List (Want × Got)) (mid : S) (w : Want) (g : Got) (new : S) → Leads led old steps mid → led mid w g new → Leads led old (steps ++ (w, g) ∷ []) new
leads_more {S} led old [] mid w g new e h = (new, subst (λ (x : S). led x w g new) (sym e) h, refl)
leads_more led old (step ∷ steps) mid w g new e h = (e.0, e.1, leads_more led e.0 steps mid w g new e.2 h)

-- These steps lead to what is left, whichever way it ends.
abbrev pub Leaves : Plan → List (Want × Got) → Plan → Type 0
Leaves s steps t = (more : List (Want × Got)) (a : Answer) → IsRunOf t more a → IsRunOf s (steps ++ more) a

pub leaves_more : (s : Plan) (steps : List (Want × Got)) (t : Plan) (g : Got) → Leaves s steps t → Fits (want t) g → Leaves s (steps ++ (want t, g) ∷ []) (after t g)
leaves_more s steps t g e h more a r = rw append_assoc (e ((want t, g) ∷ more) a (refl, h, r))

-- they are the first steps of the task, and one more
pub first_more : (s : Plan) (steps : List (Want × Got)) (g : Got) → AreFirst s steps → Fits (want (left_by s steps)) g → AreFirst s (steps ++ (want (left_by s steps), g) ∷ [])
first_more s [] g f h = (refl, h, tt)
first_more s (step ∷ steps) g f h = (f.0, f.1, first_more (after s step.1) steps g f.2 h)

pub left_more : (s : Plan) (steps : List (Want × Got)) (w : Want) (g : Got) → left_by s (steps ++ (w, g) ∷ []) ≡ after (left_by s steps) g
left_more s [] w g = refl
left_more s (step ∷ steps) w g = left_more (after s step.1) steps w g

-- a whole run is made of first steps
pub run_first : (s : Plan) (steps : List (Want × Got)) (answer : Answer) → IsRunOf s steps answer → AreFirst s steps × (want (left_by s steps) ≡ End answer)
run_first s [] answer r = (tt, r)
run_first s (step ∷ steps) answer r = let more = run_first (after s step.1) steps answer r.2 in ((r.0, r.1, more.0), more.1)
