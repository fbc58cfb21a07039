-- Each step on an extent that is left of a task is one of sectors that are there, as long as the seals name cache blocks that are.
use Rattle.std.proofs.Common.{◌≡◌, ◌∙◌, ◌≤◌, ◌<◌, ◌+◌, ◌-◌, ◌*◌, ◌/◌, ◌%◌, ◌==◌, ◌^◌, ◌++◌, ℕ, zero, suc, Bool, true, false, if◌then◌else◌, List, [], ◌∷◌, Option, Some, None, Contains, refl, sym, ap, subst, arith, slice_get, slice_set, replicate, length}
use Rattle.std.specs.Prelude.{unwrap_or}
use Rattle.wb_types.proofs.Lists.{Contains-first, Contains-behind}
use Rattle.wb_types.specs.declared.entry.Entry.{Entry}
use Rattle.wb_types.specs.declared.mode.Mode.{Mode}
use Rattle.wb_types.specs.declared.mode.Mode.TheVariants.{Writeback, Writethrough, Passthrough}
use Rattle.wb_types.specs.declared.extent.Extent.{Extent}
use Rattle.wb_types.specs.declared.mode.Dev.TheVariants.{Metadata}
use Rattle.wb_types.specs.declared.number.OBlock.{OBlock}
use Rattle.wb_types.specs.declared.number.CBlock.{CBlock}
use Rattle.wb_types.specs.declared.refusal.Refusal.{Refusal}
use Rattle.wb_types.specs.declared.refusal.Refusal.TheVariants.{Failed, Busy}
use Rattle.wb_words.specs.declared.word.Word.TheVariants.{Cell as LockWord, Seal as SealWord, Number, Fail}
use Rattle.wb_words.specs.declared.word.Kind.TheVariants.{ReadHit, ReadMiss, WriteHit, WriteMiss}
use Rattle.wb_words.specs.declared.word.Access.TheVariants.{Shared, Owned}
use Rattle.wb_words.specs.declared.step.CellStep.{CellStep}
use Rattle.wb_words.specs.declared.step.CellStep.TheVariants.{Look, Take, Release, Seal, Finish, Count, SetFailed, SetSuspended}
use Rattle.wb_words.specs.SharedWords.{Words, word_at, place_in, dirty_in, seal_word, cached_at}
use Rattle.wb_words.specs.Effects.{words_after}
use Rattle.wb_tasks.specs.declared.step.Migration.{Migration}
use Rattle.wb_tasks.specs.declared.step.Migration.TheVariants.{Promote, Demote, Clean}
use Rattle.wb_tasks.specs.Tables.{BlockRange, BlockJob, Reading, Writing, Displacing, Invalidating, Migrating, TaskJob, OnBlock, Flushing, Suspending, Opening, cache_extent, place_read, read_step, write_step, read_count, write_count, copies, ending, work}
use Rattle.wb_tasks.proofs.Working.{work_has}
use Rattle.wb_tasks.specs.Plan.{Plan, want, after, after_look, after_fault, after_refusal, after_more, after_ticket, node_writes, opening_root, root_steps, begun_steps, steps_seeing, release_orders, lets_go, gives_up, may_take, exchange, is_worn, gives_back, work_of, seal_looks}
use Rattle.wb_tasks.specs.declared.step.Answer.{Answer}
use Rattle.wb_tasks.specs.declared.step.DeviceStep.{DeviceStep}
use Rattle.wb_tasks.specs.declared.step.DeviceStep.TheVariants.{Read as ReadExtent, Sync, ReadMetadata}
use Rattle.wb_tasks.specs.declared.step.DeskStep.TheVariants.{Arrive, Ask, BeginCommit}
use Rattle.wb_tasks.specs.declared.step.Want.{Want}
use Rattle.wb_tasks.specs.declared.step.Want.TheVariants.{Cell, Device, Desk, End}
use Rattle.wb_tasks.specs.declared.step.Got.{Got}
use Rattle.wb_tasks.specs.declared.step.Got.TheVariants.{Begin, Done, Word, Lost, Fault, Refused as GotRefused, Began, Ticket, Served, More}
use Rattle.wb_promise.specs.States.{Shape, block_size, sector_count, cache_sector_count}
use Rattle.wb_promise.specs.Effects.{sealing_steps, words_by}
use Rattle.wb_runs.specs.Inside.{StepInside}
use Rattle.wb_runs.proofs.Plans.{plan_of}

-- ---- seals

-- a seal that names a cache block that is there, or none
abbrev pub SealInside : ℕ → ℕ → Type 0
SealInside n seal = (c : CBlock) → place_in seal ≡ Some c → c.0 < n

abbrev pub SealsInside : ℕ → List ℕ → Type 0
SealsInside n seals = (i : ℕ) → SealInside n (unwrap_or (slice_get seals i) 0)

abbrev pub PlaceInside : ℕ → Option CBlock → Type 0
PlaceInside n None = Unit {0}
PlaceInside n (Some c) = c.0 < n

cached_is : (k : ℕ) (c : CBlock) → cached_at (suc k) ≡ Some c → c.0 ≡ k
cached_is k c e = by_test (Rattle.std.specs.Prelude.nat_lt k (2 ^ 32)) e
  where
    by_test : (t : Bool) → (if t then Some (let b : CBlock = record { 0 = k } in b) else None) ≡ Some c → c.0 ≡ k
    by_test true e = let same : (let b : CBlock = record { 0 = k } in b) ≡ c = cc in ap (λ (b : CBlock). b.0) (sym same)
    by_test false e = absurd (cc)

seal_of_inside : (n : ℕ) (place : Option CBlock) (dirty : Bool) → PlaceInside n place → SealInside n (seal_word place dirty)
seal_of_inside n None true p c e = absurd (cc)
seal_of_inside n None false p c e = absurd (cc)
seal_of_inside n (Some k) true p c e = let half : (2 * (k.0 + 1) + 1) / 2 ≡ suc k.0 = omega arith in let same = cached_is k.0 c (ap cached_at (sym half) ∙ e) in omega (arith, same, p)
seal_of_inside n (Some k) false p c e = let half : (2 * (k.0 + 1) + 0) / 2 ≡ suc k.0 = omega arith in let same = cached_is k.0 c (ap cached_at (sym half) ∙ e) in omega (arith, same, p)

set_inside : (n : ℕ) (seals : List ℕ) (i v : ℕ) → SealInside n v → SealsInside n seals → SealsInside n (slice_set seals i v)
set_inside n [] i v s all j = all j
set_inside n (x ∷ xs) zero v s all zero = s
set_inside n (x ∷ xs) zero v s all (suc j) = all (suc j)
set_inside n (x ∷ xs) (suc i) v s all zero = all zero
set_inside n (x ∷ xs) (suc i) v s all (suc j) = set_inside n xs i v s (λ k. all (suc k)) j

pub seals_after : (shape : Shape) (words : Words) (step : CellStep) → StepInside shape (Cell step) → SealsInside shape.geometry.cache_blocks words.seals → SealsInside shape.geometry.cache_blocks (words_after words step).seals
seals_after shape words (Look word) i all = all
seals_after shape words (Take access b seen) i all = by_test (word_at words.cells b == seen)
  where
    by_test : (t : Bool) → SealsInside shape.geometry.cache_blocks (if t then Rattle.wb_words.specs.SharedWords.with_cell words b (Rattle.wb_words.specs.SharedWords.taken access seen) else words).seals
    by_test true = all
    by_test false = all
seals_after shape words (Release access b) i all = all
seals_after shape words (Seal b None dirty) i all = set_inside shape.geometry.cache_blocks words.seals b.0 (seal_word None dirty) (seal_of_inside shape.geometry.cache_blocks None dirty tt) all
seals_after shape words (Seal b (Some c) dirty) i all = set_inside shape.geometry.cache_blocks words.seals b.0 (seal_word (Some c) dirty) (seal_of_inside shape.geometry.cache_blocks (Some c) dirty i) all
seals_after shape words (Finish b) i all = all
seals_after shape words (Count ReadHit) i all = all
seals_after shape words (Count ReadMiss) i all = all
seals_after shape words (Count WriteHit) i all = all
seals_after shape words (Count WriteMiss) i all = all
seals_after shape words SetFailed i all = all
seals_after shape words SetSuspended i all = all

pub fresh_inside : (n k : ℕ) → SealsInside n (replicate k 0)
fresh_inside n (suc k) (suc i) c e = fresh_inside n k i c e
fresh_inside n k i c e = absurd (cc)

-- who opens a target seals within the cache
pub sealed_inside : (shape : Shape) (clean : Bool) (c : ℕ) (entries : List (Option Entry)) (words : Words) → c + length entries ≤ shape.geometry.cache_blocks → SealsInside shape.geometry.cache_blocks words.seals → SealsInside shape.geometry.cache_blocks (words_by words (sealing_steps clean c entries)).seals
sealed_inside shape clean c [] words l all = all
sealed_inside shape clean c (None ∷ entries) words l all = sealed_inside shape clean (suc c) entries words (omega (arith, l)) all
sealed_inside shape clean c (Some entry ∷ entries) words l all =
    let b = entry.origin in
    let w1 = words_after words (Take Owned b 0) in
    let s = Seal b (Some (record { 0 = c })) (Rattle.std.specs.Prelude.cond clean entry.dirty true) in
    let w2 = words_after w1 s in
    sealed_inside shape clean (suc c) entries (words_after w2 (Release Owned b)) (omega (arith, l))
    (seals_after shape w2 (Release Owned b) tt (seals_after shape w1 s (omega (arith, l)) (seals_after shape words (Take Owned b 0) tt all)))

-- ---- the steps of a table

abbrev pub AllInside : Shape → List Want → Type 0
AllInside shape [] = Unit {0}
AllInside shape (w ∷ ws) = StepInside shape w × AllInside shape ws

-- an extent lies in the origin, and in one block
pub record ExtentInside (shape : Shape) (e : Extent) : Type 0 where
  pub inside : e.first + e.count ≤ sector_count shape
  pub in_block : e.first % block_size shape + e.count ≤ block_size shape

pub record PartInside (shape : Shape) (part : BlockRange) : Type 0 where
  pub size : part.block_sectors ≡ block_size shape
  pub each : (e : Extent) → Contains part.extents e → ExtentInside shape e

abbrev pub MigrationInside : Shape → Migration → Type 0
MigrationInside shape (Promote c) = c.0 < shape.geometry.cache_blocks
MigrationInside shape Demote = Unit {0}
MigrationInside shape Clean = Unit {0}

abbrev pub JobInside : Shape → TaskJob → Type 0
JobInside shape (OnBlock (Reading part)) = PartInside shape part
JobInside shape (OnBlock (Writing part)) = PartInside shape part
JobInside shape (OnBlock (Displacing part)) = PartInside shape part
JobInside shape (OnBlock (Invalidating part)) = Unit {0}
JobInside shape (OnBlock (Migrating migration part)) = PartInside shape part × MigrationInside shape migration
JobInside shape (Flushing serves most) = Unit {0}
JobInside shape (Suspending blocks most) = Unit {0}
JobInside shape (Opening left) = Unit {0}

-- a sector in a block of the cache is one of the cache
in_cache : (b c n x : ℕ) → c < n → x ≤ b → c * b + x ≤ b * n
in_cache b c zero x l m = absurd (omega (arith, l))
in_cache b zero (suc n) x l m = omega (arith, m, Rattle.std.proofs.Common.mul_comm b (suc n))
in_cache b (suc c) (suc n) x l m = let r = in_cache b c n x (omega (arith, l)) m in omega (arith, r, Rattle.std.proofs.Common.mul_comm b (suc n), Rattle.std.proofs.Common.mul_comm b n)

module _ (shape : Shape) (part : BlockRange) (p : PartInside shape part) where
  n : ℕ
  n = shape.geometry.cache_blocks

  cached : (c : CBlock) (e : Extent) → c.0 < shape.geometry.cache_blocks → ExtentInside shape e → (cache_extent part c e).first + e.count ≤ cache_sector_count shape
  cached c e l i = subst (λ (b : ℕ). c.0 * b + e.first % b + e.count ≤ cache_sector_count shape) (sym p.size)
      (let r = in_cache (block_size shape) c.0 shape.geometry.cache_blocks (e.first % block_size shape + e.count) l i.in_block in omega (arith, r))

  one_read : (place : Option CBlock) (e : Extent) → PlaceInside shape.geometry.cache_blocks place → ExtentInside shape e → StepInside shape (read_step part place e)
  one_read None e l i = i.inside
  one_read (Some c) e l i = cached c e l i

  one_write : (place : Option CBlock) (e : Extent) → PlaceInside shape.geometry.cache_blocks place → ExtentInside shape e → StepInside shape (write_step part place e)
  one_write None e l i = i.inside
  one_write (Some c) e l i = cached c e l i

  copies_in : (from to : Option CBlock) (es : List Extent) (ws : List Want) → PlaceInside shape.geometry.cache_blocks from → PlaceInside shape.geometry.cache_blocks to → ((e : Extent) → Contains es e → ExtentInside shape e) → AllInside shape ws → AllInside shape (copies part from to es ++ ws)
  copies_in from to [] ws l m i a = a
  copies_in from to (e ∷ es) ws l m i a = (one_read from e l (i e (Contains-first e es)), (one_write to e m (i e (Contains-first e es)), copies_in from to es ws l m (λ x k. i x (Contains-behind e es x k)) a))

  read_ends : (place : Option CBlock) → AllInside shape (read_count place ∷ Cell (Release Shared part.block) ∷ [])
  read_ends None = (tt, (tt, tt))
  read_ends (Some c) = (tt, (tt, tt))

  write_ends : (place : Option CBlock) → AllInside shape (Cell (Finish part.block) ∷ write_count place ∷ Cell (Release Owned part.block) ∷ [])
  write_ends None = (tt, (tt, (tt, tt)))
  write_ends (Some c) = (tt, (tt, (tt, tt)))

  ending_in : (migration : Migration) (place : Option CBlock) → MigrationInside shape migration → PlaceInside shape.geometry.cache_blocks place → AllInside shape (ending migration part.block place)
  ending_in (Promote c) place m l = (tt, (m, (tt, tt)))
  ending_in Demote place m l = (tt, (tt, (tt, tt)))
  ending_in Clean None m l = (tt, (tt, (tt, tt)))
  ending_in Clean (Some c) m l = (l, (tt, (tt, tt)))

  -- a read takes its extents from where its block stands, or from the origin
  taken_inside : (mode : Mode) (place : Option CBlock) → PlaceInside shape.geometry.cache_blocks place → PlaceInside shape.geometry.cache_blocks (place_read mode place)
  taken_inside Writeback place l = l
  taken_inside Writethrough place l = l
  taken_inside Passthrough place l = tt

  work_reads : (place : Option CBlock) (dirty : Bool) → PlaceInside shape.geometry.cache_blocks place → AllInside shape (work (Reading part) place dirty)
  work_reads = work_has (λ place dirty ws. PlaceInside shape.geometry.cache_blocks place → AllInside shape ws) (Reading part) (record {
    each = λ place dirty e ws m r l. (one_read (place_read part.mode place) e (taken_inside part.mode place l) (p.each e m), r l);
    last = λ place dirty l. read_ends (place_read part.mode place);
  })

  work_writes : (place : Option CBlock) (dirty : Bool) → PlaceInside shape.geometry.cache_blocks place → AllInside shape (work (Writing part) place dirty)
  work_writes = work_has (λ place dirty ws. PlaceInside shape.geometry.cache_blocks place → AllInside shape ws) (Writing part) (record {
    seal = λ c ws back r l. (l, r l);
    home = λ dirty e ws m r l. (one_write None e tt (p.each e m), r l);
    cached = λ c dirty e ws sealed m r l. (one_write (Some c) e l (p.each e m), r l);
    through = λ c dirty e ws other m r l. (one_write None e tt (p.each e m), r l);
    defers = λ c dirty past l. (tt, tt);
    last = λ place dirty l. write_ends place;
  })

  work_displaces : (place : Option CBlock) (dirty : Bool) → PlaceInside shape.geometry.cache_blocks place → AllInside shape (work (Displacing part) place dirty)
  work_displaces = work_has (λ place dirty ws. PlaceInside shape.geometry.cache_blocks place → AllInside shape ws) (Displacing part) (record {
    drops = λ c dirty ws r l. (tt, (tt, r tt));
    each = λ dirty e ws m r l. (one_write None e tt (p.each e m), r l);
    last = λ was dirty l. write_ends was;
  })

  work_migrates : (migration : Migration) (place : Option CBlock) (dirty : Bool) → MigrationInside shape migration → PlaceInside shape.geometry.cache_blocks place → AllInside shape (work (Migrating migration part) place dirty)
  work_migrates (Promote c) place dirty m l = copies_in None (Some c) part.extents _ tt m p.each (ending_in (Promote c) place m l)
  work_migrates Demote (Some c) true m l = copies_in (Some c) None part.extents _ l tt p.each (ending_in Demote (Some c) m l)
  work_migrates Demote (Some c) false m l = ending_in Demote (Some c) m l
  work_migrates Demote None dirty m l = ending_in Demote None m l
  work_migrates Clean (Some c) true m l = copies_in (Some c) None part.extents _ l tt p.each (ending_in Clean (Some c) m l)
  work_migrates Clean (Some c) false m l = ending_in Clean (Some c) m l
  work_migrates Clean None dirty m l = ending_in Clean None m l

place_inside : (n seal : ℕ) → SealInside n seal → PlaceInside n (place_in seal)
place_inside n seal s = by_place (place_in seal) refl
  where
    by_place : (o : Option CBlock) → place_in seal ≡ o → PlaceInside n o
    by_place None e = tt
    by_place (Some c) e = s c e

module _ (shape : Shape) where
  work_inside : (job : TaskJob) (seal : ℕ) → JobInside shape job → SealInside shape.geometry.cache_blocks seal → AllInside shape (work_of job seal)
  work_inside (OnBlock (Reading part)) seal j s = work_reads shape part j (place_in seal) (dirty_in seal) (place_inside shape.geometry.cache_blocks seal s)
  work_inside (OnBlock (Writing part)) seal j s = work_writes shape part j (place_in seal) (dirty_in seal) (place_inside shape.geometry.cache_blocks seal s)
  work_inside (OnBlock (Displacing part)) seal j s = work_displaces shape part j (place_in seal) (dirty_in seal) (place_inside shape.geometry.cache_blocks seal s)
  work_inside (OnBlock (Invalidating part)) seal j s = work_has (λ place dirty ws. AllInside shape ws) (Invalidating part) (record { drops = λ c dirty ws r. (tt, (tt, r)); last = λ dirty. (tt, tt) }) (place_in seal) (dirty_in seal)
  work_inside (OnBlock (Migrating migration part)) seal j s = work_migrates shape part j.0 migration (place_in seal) (dirty_in seal) j.1 (place_inside shape.geometry.cache_blocks seal s)
  work_inside job seal j s = tt

  -- what a suspend has to look at
  pub looks_inside : (blocks : List OBlock) (most : ℕ) → AllInside shape (seal_looks blocks ++ Desk (BeginCommit most) ∷ [])
  looks_inside [] most = (tt, tt)
  looks_inside (b ∷ bs) most = (tt, looks_inside bs most)

  -- what is left once the seal was looked at
  seeing_inside : (job : TaskJob) (b : OBlock) (seal : ℕ) (ws : List Want) → JobInside shape job → SealInside shape.geometry.cache_blocks seal → AllInside shape ws → AllInside shape (steps_seeing job b seal ws)
  seeing_inside (OnBlock job) b seal ws j s a = (tt, work_inside (OnBlock job) seal j s)
  seeing_inside job b seal ws j s a = a

  gives_up_inside : (job : BlockJob) → AllInside shape (gives_up job)
  gives_up_inside (Migrating migration part) = (tt, tt)
  gives_up_inside job = tt

  orders_inside : (blocks : List OBlock) → AllInside shape (release_orders blocks)
  orders_inside [] = tt
  orders_inside (b ∷ bs) = (tt, orders_inside bs)

  lets_go_inside : (job : TaskJob) → AllInside shape (lets_go job)
  lets_go_inside (OnBlock job) = (tt, gives_up_inside job)
  lets_go_inside (Flushing serves most) = orders_inside serves
  lets_go_inside (Suspending blocks most) = tt
  lets_go_inside (Opening left) = tt

  gives_back_inside : (job : TaskJob) → AllInside shape (gives_back job)
  gives_back_inside (OnBlock job) = (tt, tt)
  gives_back_inside job = tt

  exchange_inside : (job : TaskJob) (seen : ℕ) → AllInside shape (exchange job seen)
  exchange_inside (OnBlock job) seen = (tt, (tt, tt))
  exchange_inside job seen = tt

  nodes_inside : (count first : ℕ) → AllInside shape (node_writes count first ++ root_steps)
  nodes_inside zero first = (tt, (tt, (tt, (tt, tt))))
  nodes_inside (suc count) first = (tt, nodes_inside count (first + 1))

  closing_inside : (count first : ℕ) → AllInside shape ((node_writes count first ++ root_steps) ++ Cell SetSuspended ∷ [])
  closing_inside zero first = (tt, (tt, (tt, (tt, (tt, tt)))))
  closing_inside (suc count) first = (tt, closing_inside count (first + 1))

  -- an opening's nodes, and its root
  anew_inside : (count first : ℕ) → AllInside shape (node_writes count first ++ Device (Sync Metadata) ∷ opening_root)
  anew_inside zero first = (tt, (tt, (tt, tt)))
  anew_inside (suc count) first = (tt, anew_inside count (first + 1))

  begun_inside : (job : TaskJob) (nodes : ℕ) → AllInside shape (begun_steps job nodes)
  begun_inside (OnBlock job) nodes = (tt, (tt, nodes_inside nodes 0))
  begun_inside (Flushing serves most) nodes = (tt, (tt, nodes_inside nodes 0))
  begun_inside (Suspending blocks most) nodes = (tt, (tt, closing_inside nodes 0))
  begun_inside (Opening left) nodes = anew_inside nodes 0

  fault_inside : (job : TaskJob) (step : DeviceStep) → AllInside shape (Rattle.wb_tasks.specs.Plan.after_fault_of job step)
  fault_inside (OnBlock job) (ReadExtent d e) = (tt, gives_up_inside job)
  fault_inside (Flushing serves most) step = (tt, (tt, tt))
  fault_inside (Suspending blocks most) step = (tt, (tt, tt))
  fault_inside (Opening left) step = tt
  fault_inside (OnBlock job) step = (tt, tt)

  begin_refused : (job : TaskJob) (refusal : Refusal) → AllInside shape (Rattle.wb_tasks.specs.Plan.lets_go_unless_failed job refusal)
  begin_refused job Failed = tt
  begin_refused job refusal = lets_go_inside job

  -- after a look at a word
  look_inside : (job : TaskJob) (w : Want) (ws : List Want) (answer : Answer) (value : ℕ) → JobInside shape job → AllInside shape (w ∷ ws) → ((b : OBlock) → w ≡ Cell (Look (SealWord b)) → SealInside shape.geometry.cache_blocks value) → AllInside shape (after_look (plan_of job (w ∷ ws) answer) w value).steps
  look_inside job (Cell (Look Fail)) ws answer value j a s = by_test (value == 0)
    where
      by_test : (t : Bool) → AllInside shape (if t then Rattle.wb_tasks.specs.Plan.onward (plan_of job (Cell (Look Fail) ∷ ws) answer) else Rattle.wb_tasks.specs.Plan.refused (plan_of job (Cell (Look Fail) ∷ ws) answer) [] Rattle.wb_types.specs.declared.refusal.Refusal.TheVariants.Failed).steps
      by_test true = a.1
      by_test false = tt
  look_inside job (Cell (Look (LockWord b))) ws answer value j a s = by_test (may_take job value)
    where
      by_test : (t : Bool) → AllInside shape (if t then record (plan_of job (Cell (Look (LockWord b)) ∷ ws) answer) { steps = exchange job value } else Rattle.wb_tasks.specs.Plan.refused (plan_of job (Cell (Look (LockWord b)) ∷ ws) answer) [] Busy).steps
      by_test true = exchange_inside job value
      by_test false = tt
  look_inside job (Cell (Look (SealWord b))) ws answer value j a s = seeing_inside job b value ws j (s b refl) a.1
  look_inside job (Cell (Look (Number b))) ws answer value j a s = by_test (is_worn job value)
    where
      by_test : (t : Bool) → AllInside shape (if t then Rattle.wb_tasks.specs.Plan.refused (plan_of job (Cell (Look (Number b)) ∷ ws) answer) (gives_back job) Rattle.wb_types.specs.declared.refusal.Refusal.TheVariants.Worn else Rattle.wb_tasks.specs.Plan.onward (plan_of job (Cell (Look (Number b)) ∷ ws) answer)).steps
      by_test true = gives_back_inside job
      by_test false = a.1
  look_inside job w ws answer value j a s = a.1

  fault_of : (job : TaskJob) (w : Want) (ws : List Want) (answer : Answer) → AllInside shape (w ∷ ws) → AllInside shape (after_fault (plan_of job (w ∷ ws) answer) w).steps
  fault_of job (Device step) ws answer a = fault_inside job step
  fault_of job w ws answer a = a

  refusal_of : (job : TaskJob) (w : Want) (ws : List Want) (answer : Answer) (refusal : Refusal) → AllInside shape (w ∷ ws) → AllInside shape (after_refusal (plan_of job (w ∷ ws) answer) w refusal).steps
  refusal_of job (Desk (Arrive most)) ws answer refusal a = begin_refused job refusal
  refusal_of job (Desk (Ask most)) ws answer refusal a = begin_refused job refusal
  refusal_of job (Cell step) ws answer refusal a = tt
  refusal_of job (Device step) ws answer refusal a = tt
  refusal_of job (End end) ws answer refusal a = tt
  refusal_of job w ws answer refusal a = lets_go_inside job

  more_of : (job : TaskJob) (w : Want) (ws : List Want) (answer : Answer) → AllInside shape (w ∷ ws) → AllInside shape (after_more (plan_of job (w ∷ ws) answer) w).steps
  more_of job (Device (ReadMetadata left)) ws answer a = (tt, a.1)
  more_of job w ws answer a = a.1

  ticket_of : (job : TaskJob) (w : Want) (ws : List Want) (answer : Answer) → AllInside shape (w ∷ ws) → AllInside shape (after_ticket (plan_of job (w ∷ ws) answer) w).steps
  ticket_of job (Desk (Arrive most)) ws answer a = (tt, tt)
  ticket_of job w ws answer a = a.1

  -- whatever a step gives, what is left is inside
  by_got : (job : TaskJob) (w : Want) (ws : List Want) (answer : Answer) (got : Got) → JobInside shape job → AllInside shape (w ∷ ws) → ((b : OBlock) (v : ℕ) → w ≡ Cell (Look (SealWord b)) → got ≡ Word v → SealInside shape.geometry.cache_blocks v) → AllInside shape (after (plan_of job (w ∷ ws) answer) got).steps
  by_got job w ws answer Begin j a s = a
  by_got job w ws answer Done j a s = a.1
  by_got job w ws answer (Word value) j a s = look_inside job w ws answer value j a (λ b e. s b value e refl)
  by_got job w ws answer Lost j a s = tt
  by_got job w ws answer Fault j a s = fault_of job w ws answer a
  by_got job w ws answer (GotRefused refusal) j a s = refusal_of job w ws answer refusal a
  by_got job w ws answer (Began nodes) j a s = begun_inside job nodes
  by_got job w ws answer Ticket j a s = ticket_of job w ws answer a
  by_got job w ws answer Served j a s = tt
  by_got job w ws answer More j a s = more_of job w ws answer a

  pub inside_after : (plan : Plan) (got : Got) → JobInside shape plan.job → AllInside shape plan.steps → ((b : OBlock) (v : ℕ) → want plan ≡ Cell (Look (SealWord b)) → got ≡ Word v → SealInside shape.geometry.cache_blocks v) → ((answer : Answer) → Rattle.std.proofs.Common.◌≢◌ (want plan) (End answer)) →
      AllInside shape (after plan got).steps
  inside_after plan got j a s o = by_steps plan.steps refl a
    where
      is : (steps : List Want) → plan.steps ≡ steps → plan ≡ plan_of plan.job steps plan.answer
      is steps e = λ k. record { job = plan.job; steps = e k; answer = plan.answer }

      by_steps : (steps : List Want) → plan.steps ≡ steps → AllInside shape steps → AllInside shape (after plan got).steps
      by_steps [] e a = absurd (o plan.answer (ap want (is [] e)))
      by_steps (w ∷ ws) e a = subst (λ (p : Plan). AllInside shape (after p got).steps) (sym (is (w ∷ ws) e)) (by_got plan.job w ws plan.answer got j a (λ b v f g. s b v (ap want (is (w ∷ ws) e) ∙ f) g))
