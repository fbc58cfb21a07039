-- An actor has what the next step of its task needs, and each step keeps it so; after the answer it holds nothing.
use Rattle.std.specs.List.{Contains}
use Rattle.wb_types.proofs.Lists.{Contains-first, Contains-behind}
use Rattle.std.proofs.Common.{◌≡◌, ◌∙◌, ◌==◌, ◌+◌, ◌<◌, ◌≤◌, arith, zero, suc, ◌-◌, ◌^◌, ◌++◌, ℕ, Bool, true, false, cond, eqb, List, [], ◌∷◌, Option, Some, None, refl, sym, ap, subst, if◌then◌else◌}
use Rattle.std.proofs.lemmas.Bool.{eq-eqb, true≢false}
use Rattle.wb_types.specs.declared.mode.Dev.{Dev}
use Rattle.wb_types.specs.declared.mode.Dev.TheVariants.{Metadata}
use Rattle.wb_types.specs.declared.number.OBlock.{OBlock}
use Rattle.wb_types.specs.declared.number.CBlock.{CBlock}
use Rattle.wb_types.specs.declared.refusal.Refusal.{Refusal}
use Rattle.wb_types.specs.declared.refusal.Refusal.TheVariants.{Busy, Failed, Memory, Worn, GenerationEnd, Io}
use Rattle.wb_words.specs.declared.word.Access.{Access}
use Rattle.wb_words.specs.declared.word.Access.TheVariants.{Shared, Owned}
use Rattle.wb_words.specs.declared.word.Word.{Word as WordName}
use Rattle.wb_words.specs.declared.word.Word.TheVariants.{Cell as LockWord, Seal as SealWord, Number, Count as CountWord, Fail}
use Rattle.wb_words.specs.declared.card.Hold.{Hold}
use Rattle.wb_words.specs.declared.card.Hold.TheVariants.{Nothing, Held}
use Rattle.wb_words.specs.declared.card.Card.{Card}
use Rattle.wb_words.specs.declared.step.CellStep.TheVariants.{Look, Take, Release, Seal, Finish, Count, SetFailed, SetSuspended}
use Rattle.wb_words.specs.SharedWords.{word_at, value_of, place_in, dirty_in}
use Rattle.wb_words.specs.Cards.{losing, holding, failing_at, is_own_number}
use Rattle.wb_words.specs.Ready.{HasNext}
use Rattle.wb_types.specs.declared.extent.Extent.{Extent}
use Rattle.wb_tasks.specs.Tables.{BlockJob, Reading, Writing, Displacing, Invalidating, Migrating, TaskJob, OnBlock, Flushing, Suspending, Opening, is_write, access_of, work, place_read, read_step, read_count, write_count}
use Rattle.wb_tasks.proofs.Driving.{no_result}
use Rattle.wb_tasks.proofs.Working.{Works, work_has}
use Rattle.wb_tasks.specs.Ready.{MayTake, MayMake, block_of, HasBlock, KnowsNext, IsJobs, IsAsked, IsOwnStep, AreOwnSteps, IsParting, IsRest, Has, AreBelow, SuitsJob, Suits}
use Rattle.wb_tasks.specs.Plan.{Plan, table, want, after, first_step, gives_back, gives_up, release_orders, node_writes, root_steps, opening_root, commit_steps, seal_looks, answer_at, lets_go, exchange, may_take, is_worn, Fits, got_of, after_look, after_fault, after_refusal, after_ticket, after_more}
use Rattle.wb_tasks.specs.declared.step.Answer.{Answer}
use Rattle.wb_tasks.specs.declared.step.Answer.TheVariants.{Refused as Refuses}
use Rattle.wb_tasks.specs.declared.step.DeskStep.TheVariants.{Map, Unmap, ReleaseOrder, Arrive, Ask, BeginCommit, EndCommit, BreakCommit}
use Rattle.wb_tasks.specs.declared.step.DeviceStep.{DeviceStep}
use Rattle.wb_tasks.specs.declared.step.DeviceStep.TheVariants.{Read, Write, Sync, ReadMetadata, WriteNode, WriteRoot}
use Rattle.wb_tasks.specs.declared.step.Migration.TheVariants.{Promote, Demote, Clean}
use Rattle.wb_tasks.specs.declared.step.Want.{Want}
use Rattle.wb_tasks.specs.declared.step.Want.TheVariants.{Cell, Device, Desk, End}
use Rattle.wb_tasks.specs.declared.step.Got.{Got}
use Rattle.wb_tasks.specs.declared.step.Got.TheVariants.{Done, Word, Fault, Refused, Began, Ticket, Served, More}

-- the work of a job is of its own steps
rest_work : (job : BlockJob) (place : Option CBlock) (dirty : Bool) → IsRest job true (work job place dirty)
rest_work job = work_has (λ place dirty ws. IsRest job true ws) job (by_job job)
  where
    by_job : (job : BlockJob) → Works (λ place dirty ws. IsRest job true ws) job
    by_job (Reading part) = record { each = each; last = last }
      where
        from : (place : Option CBlock) (e : Extent) (ws : List Want) → IsRest (Reading part) true ws → IsRest (Reading part) true (read_step part place e ∷ ws)
        from None e ws r = (tt, r)
        from (Some c) e ws r = (tt, r)

        each : (place : Option CBlock) (dirty : Bool) (e : Extent) (ws : List Want) → Contains part.extents e → IsRest (Reading part) true ws → IsRest (Reading part) true (read_step part (place_read part.mode place) e ∷ ws)
        each place dirty e ws m r = from (place_read part.mode place) e ws r

        counted : (place : Option CBlock) → IsRest (Reading part) true (read_count place ∷ Cell (Release Shared part.block) ∷ [])
        counted None = (refl, refl, tt)
        counted (Some c) = (refl, refl, tt)

        last : (place : Option CBlock) (dirty : Bool) → IsRest (Reading part) true (read_count (place_read part.mode place) ∷ Cell (Release Shared part.block) ∷ [])
        last place dirty = counted (place_read part.mode place)
    by_job (Writing part) = record { seal = λ c ws back r. (refl, refl, r); home = λ dirty e ws m r. (tt, r); cached = λ c dirty e ws sealed m r. (tt, r); through = λ c dirty e ws other m r. (tt, r); defers = λ c dirty past. (refl, refl, tt); last = last }
      where
        last : (place : Option CBlock) (dirty : Bool) → IsRest (Writing part) true (Cell (Finish part.block) ∷ write_count place ∷ Cell (Release Owned part.block) ∷ [])
        last None dirty = (refl, refl, refl, (refl, refl, tt))
        last (Some c) dirty = (refl, refl, refl, (refl, refl, tt))
    by_job (Displacing part) = record { drops = λ c dirty ws r. (refl, (refl, refl, r)); each = λ dirty e ws m r. (refl, r); last = last }
      where
        last : (was : Option CBlock) (dirty : Bool) → IsRest (Displacing part) true (Cell (Finish part.block) ∷ write_count was ∷ Cell (Release Owned part.block) ∷ [])
        last None dirty = (refl, refl, refl, (refl, refl, tt))
        last (Some c) dirty = (refl, refl, refl, (refl, refl, tt))
    by_job (Invalidating part) = record { drops = λ c dirty ws r. (refl, (refl, refl, r)); last = λ dirty. (refl, refl, tt) }
    by_job (Migrating (Promote c) part) = record { each = λ place dirty e ws m r. (refl, (refl, r)); last = λ place dirty. ((refl, refl), (refl, refl, (refl, refl, tt))) }
    by_job (Migrating Demote part) = record { each = λ c e ws m r. (refl, (refl, r)); last = λ place dirty. ((refl, refl), (refl, refl, (refl, refl, tt))) }
    by_job (Migrating Clean part) = record { each = λ c e ws m r. (refl, (refl, r)); last = λ place dirty. (refl, refl, (refl, refl, refl)) }

-- what is left of the work is all that is left
has_rest : (job : BlockJob) (card : Card) (next : Bool) (ws : List Want) → IsRest job next ws → HasBlock job card → KnowsNext job next card.number → Has job card ws
has_rest job card next (Device step ∷ ws) r h k = (h, (next, r, k))
has_rest job card next (Cell (Seal block place dirty) ∷ ws) r h k = (h, (next, r, k))
has_rest job card next (Cell (Finish block) ∷ ws) r h k = (h, (next, r, k))
has_rest job card next (Cell (Count kind) ∷ ws) r h k = (h, (next, r, k))
has_rest job card next (Cell (Release access block) ∷ ws) r h k = (h, (next, r, k))
has_rest job card next (Desk (Map block place) ∷ ws) r h k = (h, (next, r, k))
has_rest job card next (Desk (Unmap block) ∷ ws) r h k = (h, (next, r, k))
has_rest job card next [] r h k = absurd r
has_rest job card next (Cell (Look word) ∷ ws) r h k = absurd r
has_rest job card next (Cell (Take access block seen) ∷ ws) r h k = absurd r
has_rest job card next (Cell SetFailed ∷ ws) r h k = absurd r
has_rest job card next (Cell SetSuspended ∷ ws) r h k = absurd r
has_rest job card next (Desk step ∷ ws) r h k = absurd r
has_rest job card next (End answer ∷ ws) r h k = absurd r

-- one of two plans, by a test
either : (P : Plan → Type 0) (b : Bool) (s t : Plan) → (b ≡ true → P s) → (b ≡ false → P t) → P (if b then s else t)
either P true s t p q = p refl
either P false s t p q = q refl

-- a number that is not worn has a next one
known : (job : BlockJob) (value : ℕ) → is_worn (OnBlock job) value ≡ false → KnowsNext job true (Some value)
known (Reading part) value e = tt
known (Migrating migration part) value e = tt
known (Invalidating part) value e = tt
known (Displacing part) value e = (value, refl, λ worn. absurd (true≢false (sym (eq-eqb value (2 ^ 64 - 1) worn) ∙ e)))
known (Writing part) value e = (value, refl, λ worn. absurd (true≢false (sym (eq-eqb value (2 ^ 64 - 1) worn) ∙ e)))

knows_less : (job : BlockJob) (known : Option ℕ) → KnowsNext job false known
knows_less (Reading part) known = tt
knows_less (Writing part) known = tt
knows_less (Displacing part) known = tt
knows_less (Invalidating part) known = tt
knows_less (Migrating migration part) known = tt

suits : (blocks : ℕ) (job : BlockJob) (card : Card) (ws : List Want) (answer : Answer) → (block_of job).0 < blocks → Has job card ws → Suits blocks (record { job = OnBlock job; steps = ws; answer = answer }) card
suits blocks job card ws answer l h = (l, h)

give_back : (blocks : ℕ) (job : BlockJob) (card : Card) (answer : Answer) → (block_of job).0 < blocks → HasBlock job card → Suits blocks (record { job = OnBlock job; steps = gives_back (OnBlock job); answer = answer }) card
give_back blocks job card answer l h = suits blocks job card (gives_back (OnBlock job)) answer l (h, (false, (refl, refl, tt), knows_less job card.number))

parting : (job : BlockJob) → IsParting job (gives_up job)
parting (Reading part) = tt
parting (Writing part) = tt
parting (Displacing part) = tt
parting (Invalidating part) = tt
parting (Migrating migration part) = refl

let_go : (blocks : ℕ) (job : BlockJob) (card : Card) (answer : Answer) → (block_of job).0 < blocks → HasBlock job card → Suits blocks (record { job = OnBlock job; steps = lets_go (OnBlock job); answer = answer }) card
let_go blocks job card answer l h = suits blocks job card (lets_go (OnBlock job)) answer l (h, (false, (refl, refl, parting job), knows_less job card.number))

-- with the block given back there may be an order to give up
parted : (job : BlockJob) (card : Card) (ws : List Want) → IsParting job ws → card.hold ≡ Nothing → Has job card ws
parted job card [] p h = h
parted job card (Desk (ReleaseOrder block) ∷ []) p h = (h, p, refl)
parted job card (Desk (ReleaseOrder block) ∷ (w ∷ ws)) p h = absurd p
parted job card (Desk (Map block place) ∷ ws) p h = absurd p
parted job card (Desk (Unmap block) ∷ ws) p h = absurd p
parted job card (Desk (Arrive most) ∷ ws) p h = absurd p
parted job card (Desk (Ask most) ∷ ws) p h = absurd p
parted job card (Desk (BeginCommit most) ∷ ws) p h = absurd p
parted job card (Desk EndCommit ∷ ws) p h = absurd p
parted job card (Desk BreakCommit ∷ ws) p h = absurd p
parted job card (Cell step ∷ ws) p h = absurd p
parted job card (Device step ∷ ws) p h = absurd p
parted job card (End answer ∷ ws) p h = absurd p

-- who writes owns its block
writes_owned : (job : BlockJob) (device : Dev) (e : Extent) → IsJobs job (Write device e) → access_of job ≡ Owned
writes_owned (Writing part) device e i = refl
writes_owned (Displacing part) device e i = refl
writes_owned (Invalidating part) device e i = absurd i
writes_owned (Migrating migration part) device e i = refl
writes_owned (Reading part) device e i = absurd i

abbrev pub IsExtentStep : DeviceStep → Type 0
IsExtentStep (Read device e) = Unit {0}
IsExtentStep (Write device e) = Unit {0}
IsExtentStep step = ⊥

-- on the devices a job on a block reads and writes extents
pub reads_or_writes : (job : BlockJob) (step : DeviceStep) → IsJobs job step → IsExtentStep step
reads_or_writes job (Read device e) i = tt
reads_or_writes job (Write device e) i = tt
reads_or_writes (Reading part) step i = absurd i
reads_or_writes (Writing part) step i = absurd i
reads_or_writes (Displacing part) step i = absurd i
reads_or_writes (Invalidating part) step i = absurd i
reads_or_writes (Migrating migration part) step i = absurd i

-- and so does who enters or removes its block
maps_owned : (job : BlockJob) (block : OBlock) (place : CBlock) → IsAsked job (Map block place) → (access_of job ≡ Owned) × (block ≡ block_of job)
maps_owned (Migrating migration part) block place i = (refl, i.0)
maps_owned (Reading part) block place i = absurd i
maps_owned (Writing part) block place i = absurd i
maps_owned (Displacing part) block place i = absurd i
maps_owned (Invalidating part) block place i = absurd i

unmaps_owned : (job : BlockJob) (block : OBlock) → IsAsked job (Unmap block) → (access_of job ≡ Owned) × (block ≡ block_of job)
unmaps_owned (Migrating migration part) block i = (refl, i.0)
unmaps_owned (Reading part) block i = absurd i
unmaps_owned (Writing part) block i = absurd i
unmaps_owned (Displacing part) block i = (refl, i)
unmaps_owned (Invalidating part) block i = (refl, i)

-- who looks at a number of its own block knows it then
own_number : (access : Access) (a b : OBlock) (hold : Hold) → hold ≡ Held access a → b ≡ a → is_own_number hold (Number b) ≡ true
own_number access a b hold e f = ap (λ h. is_own_number h (Number b)) e ∙ (ap (λ (z : OBlock). eqb z.0 a.0) f ∙ eq-eqb a.0 a.0 refl)

word_is : (x y : ℕ) → Word x ≡ Word y → x ≡ y
word_is x y e = cc

-- One step of a task, what came of it, and what became of its actor's card.
module _ (blocks : ℕ) (job : BlockJob) (card card' : Card) (answer : Answer) (inside : (block_of job).0 < blocks) where
  abbrev Then : Want → List Want → Got → Type 0
  Then next ws got = Suits blocks (after (record { job = OnBlock job; steps = next ∷ ws; answer = answer }) got) card'

  -- an exchange that was won, or lost
  took : (access : Access) (b : OBlock) (seen : ℕ) (ws : List Want) (got : Got) → Has job card (Cell (Take access b seen) ∷ ws) → Fits (Cell (Take access b seen)) got → MayMake (Cell (Take access b seen)) got card card' → Then (Cell (Take access b seen)) ws got
  took access b seen ws got h f made = by_test (eqb (word_at made.0.cells b) seen) made.1 made.2 got f
    where
      won : card' ≡ holding (Held access b) card → Has job card' ws
      won is = subst (λ (z : List Want). Has job card' z) (sym h.4) (ap (λ (c : Card). c.hold) is ∙ (λ i. Held (h.1 i) (h.2 i)), h.2)

      by_test : (t : Bool) → got ≡ got_of (if t then Rattle.wb_words.specs.declared.step.CellResult.TheVariants.Done else Rattle.wb_words.specs.declared.step.CellResult.TheVariants.Lost) → card' ≡ (if t then holding (Held access b) card else losing b (word_at made.0.cells b) card)
          → (g : Got) → Fits (Cell (Take access b seen)) g → Suits blocks (after (record { job = OnBlock job; steps = Cell (Take access b seen) ∷ ws; answer = answer }) got) card'
      by_test true e is g f = rw e (suits blocks job card' ws answer inside (won is))
      by_test false e is g f = rw e (suits blocks job card' [] (Refuses Busy) inside (ap (λ (c : Card). c.hold) is ∙ h.0))

  -- a look
  saw : (word : WordName) (ws : List Want) (value : ℕ) → Has job card (Cell (Look word) ∷ ws) → MayMake (Cell (Look word)) (Word value) card card' → Then (Cell (Look word)) ws (Word value)
  saw Fail ws value h made = let hold : card'.hold ≡ Nothing = ap (λ (c : Card). c.hold) made.2 ∙ h.0 in
      either (λ (s : Plan). Suits blocks s card') (value == 0) _ _
      (λ _. suits blocks job card' ws answer inside (subst (λ (z : List Want). Has job card' z) (sym h.1) (hold, refl, refl)))
      (λ _. suits blocks job card' [] (Refuses Failed) inside hold)
  saw (LockWord b) ws value h made = let hold : card'.hold ≡ Nothing = ap (λ (c : Card). c.hold) made.2 ∙ h.0 in
      either (λ (s : Plan). Suits blocks s card') (may_take (OnBlock job) value) _ _
      (λ can. suits blocks job card' (exchange (OnBlock job) value) answer inside (hold, refl, refl, can, refl))
      (λ _. suits blocks job card' [] (Refuses Busy) inside hold)
  saw (SealWord b) ws value h made = let has : HasBlock job card' = ap (λ (c : Card). c.hold) made.2 ∙ h.0 in
      suits blocks job card' (Cell (Look (Number b)) ∷ work job (place_in value) (dirty_in value)) (answer_at job (place_in value) answer) inside (has, h.1, rest_work job (place_in value) (dirty_in value))
  saw (Number b) ws value h made = let has : HasBlock job card' = ap (λ (c : Card). c.hold) made.2 ∙ h.0 in
      let found : ℕ = value_of made.0 (Number b) in
      let learnt : card'.number ≡ Some value = ap (λ (c : Card). c.number) made.2 ∙ (ap (λ (t : Bool). cond t (Some found) card.number) (own_number (access_of job) (block_of job) b card.hold h.0 h.1) ∙ ap (λ z. Some z) (sym (word_is value found made.1))) in
      either (λ (s : Plan). Suits blocks s card') (is_worn (OnBlock job) value) _ _
      (λ _. give_back blocks job card' (Refuses Worn) inside has)
      (λ fine. suits blocks job card' ws answer inside (has_rest job card' true ws h.2 has (subst (KnowsNext job true) (sym learnt) (known job value fine))))
  saw (CountWord kind) ws value h made = absurd h.1.1

  -- the work
  kept_hold : HasBlock job card → card' ≡ card → HasBlock job card'
  kept_hold h e = ap (λ (c : Card). c.hold) e ∙ h

  kept_number : (next : Bool) → card'.number ≡ card.number → KnowsNext job next card.number → KnowsNext job next card'.number
  kept_number next e k = subst (KnowsNext job next) (sym e) k

  pub keeps_on : (ws : List Want) (got : Got) → Has job card ws → Fits (first_step ws answer) got → MayMake (first_step ws answer) got card card' → Suits blocks (after (record { job = OnBlock job; steps = ws; answer = answer }) got) card'
  keeps_on [] got h f made = absurd (no_result answer got f)
  keeps_on (Cell (Look word) ∷ ws) (Word value) h f made = saw word ws value h made
  keeps_on (Cell (Take access b seen) ∷ ws) got h f made = took access b seen ws got h f made
  keeps_on (Cell SetFailed ∷ ws) Done h f made =
      let gone : card'.hold ≡ Nothing = ap (λ (c : Card). c.hold) made.2 ∙ ap (λ (z : Hold). (failing_at z card).hold) h.0 in
      suits blocks job card' ws answer inside (subst (λ (z : List Want). Has job card' z) (sym h.1) gone)
  keeps_on (Device (Read device e) ∷ ws) Done h f made = let r = h.1 in
      suits blocks job card' ws answer inside (has_rest job card' r.0 ws r.1.1 (kept_hold h.0 made) (kept_number r.0 (ap (λ (c : Card). c.number) made) r.2))
  keeps_on (Device (Read device e) ∷ ws) Fault h f made = let_go blocks job card' (Refuses (Io device)) inside (kept_hold h.0 made)
  keeps_on (Device (Write device e) ∷ ws) Done h f made = let r = h.1 in
      suits blocks job card' ws answer inside (has_rest job card' r.0 ws r.1.1 (kept_hold h.0 made) (kept_number r.0 (ap (λ (c : Card). c.number) made) r.2))
  keeps_on (Device (Write device e) ∷ ws) Fault h f made =
      suits blocks job card' (Cell SetFailed ∷ []) (Refuses (Io device)) inside (kept_hold h.0 made ∙ ap (λ access. Held access (block_of job)) (writes_owned job device e h.1.1.0), refl)
  keeps_on (Cell (Seal b place dirty) ∷ ws) Done h f made = let r = h.1 in
      suits blocks job card' ws answer inside (has_rest job card' r.0 ws r.1.2 (ap (λ (c : Card). c.hold) made.2 ∙ h.0) (kept_number r.0 (ap (λ (c : Card). c.number) made.2) r.2))
  keeps_on (Cell (Finish b) ∷ ws) Done h f made = let r = h.1 in
      suits blocks job card' ws answer inside (has_rest job card' false ws r.1.3 (ap (λ (c : Card). c.hold) made.2 ∙ h.0) (knows_less job card'.number))
  keeps_on (Cell (Count kind) ∷ ws) Done h f made = let r = h.1 in
      suits blocks job card' ws answer inside (has_rest job card' r.0 ws r.1 (ap (λ (c : Card). c.hold) made.2 ∙ h.0) (kept_number r.0 (ap (λ (c : Card). c.number) made.2) r.2))
  keeps_on (Cell (Release access b) ∷ ws) Done h f made = suits blocks job card' ws answer inside (parted job card' ws h.1.1.2 (ap (λ (c : Card). c.hold) made.2))
  keeps_on (Desk (Map b place) ∷ ws) Done h f made = let r = h.1 in
      suits blocks job card' ws answer inside (has_rest job card' r.0 ws r.1.1 (kept_hold h.0 made) (kept_number r.0 (ap (λ (c : Card). c.number) made) r.2))
  keeps_on (Desk (Map b place) ∷ ws) (Refused Memory) h f made = let_go blocks job card' (Refuses Memory) inside (kept_hold h.0 made)
  keeps_on (Desk (Unmap b) ∷ ws) Done h f made = let r = h.1 in
      suits blocks job card' ws answer inside (has_rest job card' r.0 ws r.1.1 (kept_hold h.0 made) (kept_number r.0 (ap (λ (c : Card). c.number) made) r.2))
  keeps_on (Desk (ReleaseOrder b) ∷ ws) Done h f made =
      suits blocks job card' ws answer inside (subst (λ (z : List Want). Has job card' z) (sym h.2) (ap (λ (c : Card). c.hold) made ∙ h.0))
  keeps_on (Desk (Arrive most) ∷ ws) got h f made = absurd h.1.1
  keeps_on (Desk (Ask most) ∷ ws) got h f made = absurd h.1.1
  keeps_on (Desk (BeginCommit most) ∷ ws) got h f made = absurd h.1.1
  keeps_on (Desk EndCommit ∷ ws) got h f made = absurd h.1.1
  keeps_on (Desk BreakCommit ∷ ws) got h f made = absurd h.1.1
  keeps_on (Cell SetSuspended ∷ ws) got h f made = absurd h.1.1
  keeps_on (Device (Sync device) ∷ ws) got h f made = absurd (reads_or_writes job (Sync device) h.1.1.0)
  keeps_on (Device (ReadMetadata left) ∷ ws) got h f made = absurd (reads_or_writes job (ReadMetadata left) h.1.1.0)
  keeps_on (Device (WriteNode number) ∷ ws) got h f made = absurd (reads_or_writes job (WriteNode number) h.1.1.0)
  keeps_on (Device WriteRoot ∷ ws) got h f made = absurd (reads_or_writes job WriteRoot h.1.1.0)
  keeps_on (End b ∷ ws) got h f made = absurd (no_result b got f)
  keeps_on (w ∷ ws) got h f made = absurd f

-- A flush and an opening hold no block, and have their own steps alone.
orders_own : (serves : List OBlock) (most : ℕ) (blocks : List OBlock) → ((b : OBlock) → Contains blocks b → Contains serves b) → AreOwnSteps (Flushing serves most) (release_orders blocks)
orders_own serves most [] each = tt
orders_own serves most (b ∷ blocks) each = (each b (Contains-first b blocks), orders_own serves most blocks (λ x c. each x (Contains-behind b blocks x c)))

nodes_own : (serves : List OBlock) (most nodes first : ℕ) (ws : List Want) → first + nodes ≤ most → AreOwnSteps (Flushing serves most) ws → AreOwnSteps (Flushing serves most) (node_writes nodes first ++ ws)
nodes_own serves most zero first ws l o = o
nodes_own serves most (suc nodes) first ws l o = (omega (arith, l), nodes_own serves most nodes (first + 1) ws (omega (arith, l)) o)

commit_own : (serves : List OBlock) (most nodes : ℕ) → nodes ≤ most → AreOwnSteps (Flushing serves most) (commit_steps nodes)
commit_own serves most nodes l = (tt, (tt, nodes_own serves most nodes 0 root_steps (omega (arith, l)) (tt, (tt, (tt, (tt, tt))))))

-- one of two plans of a job without a block
one_of : (blocks : ℕ) (job : TaskJob) (card : Card) (b : Bool) (ws : List Want) (answer refusal : Answer) → SuitsJob blocks job card ws → SuitsJob blocks job card [] →
    Suits blocks (if b then (record { job = job; steps = ws; answer = answer }) else (record { job = job; steps = []; answer = refusal })) card
one_of blocks job card true ws answer refusal s t = s
one_of blocks job card false ws answer refusal s t = t

flush_keeps : (blocks : ℕ) (serves : List OBlock) (most : ℕ) (card card' : Card) (answer : Answer) (ws : List Want) (got : Got) → card.hold ≡ Nothing → AreOwnSteps (Flushing serves most) ws → Fits (first_step ws answer) got →
    MayMake (first_step ws answer) got card card' → Suits blocks (after (record { job = Flushing serves most; steps = ws; answer = answer }) got) card'
flush_keeps blocks serves most card card' answer (Cell (Look Fail) ∷ ws) (Word value) h o f made = let free : card'.hold ≡ Nothing = ap (λ (c : Card). c.hold) made.2 ∙ h in
    one_of blocks (Flushing serves most) card' (value == 0) ws answer (Refuses Failed) (free, o.1) (free, tt)
flush_keeps blocks serves most card card' answer (Cell SetFailed ∷ ws) Done h o f made = (ap (λ (c : Card). c.hold) made.2 ∙ (ap (λ (z : Hold). (failing_at z card).hold) h ∙ h), o.1)
flush_keeps blocks serves most card card' answer (Device (Sync device) ∷ ws) Done h o f made = (ap (λ (c : Card). c.hold) made ∙ h, o.1)
flush_keeps blocks serves most card card' answer (Device (Sync device) ∷ ws) Fault h o f made = (ap (λ (c : Card). c.hold) made ∙ h, (tt, (tt, tt)))
flush_keeps blocks serves most card card' answer (Device (WriteNode number) ∷ ws) Done h o f made = (ap (λ (c : Card). c.hold) made ∙ h, o.1)
flush_keeps blocks serves most card card' answer (Device (WriteNode number) ∷ ws) Fault h o f made = (ap (λ (c : Card). c.hold) made ∙ h, (tt, (tt, tt)))
flush_keeps blocks serves most card card' answer (Device WriteRoot ∷ ws) Done h o f made = (ap (λ (c : Card). c.hold) made ∙ h, o.1)
flush_keeps blocks serves most card card' answer (Device WriteRoot ∷ ws) Fault h o f made = (ap (λ (c : Card). c.hold) made ∙ h, (tt, (tt, tt)))
flush_keeps blocks serves most card card' answer (Desk (Arrive nodes) ∷ ws) (Began n) h o f made = (ap (λ (c : Card). c.hold) made ∙ h, commit_own serves most n (subst (λ (m : ℕ). n ≤ m) o.0 f))
flush_keeps blocks serves most card card' answer (Desk (Arrive nodes) ∷ ws) Ticket h o f made = (ap (λ (c : Card). c.hold) made ∙ h, (o.0, tt))
flush_keeps blocks serves most card card' answer (Desk (Ask nodes) ∷ ws) (Began n) h o f made = (ap (λ (c : Card). c.hold) made ∙ h, commit_own serves most n (subst (λ (m : ℕ). n ≤ m) o.0 f))
flush_keeps blocks serves most card card' answer (Desk (Ask nodes) ∷ ws) Served h o f made = (ap (λ (c : Card). c.hold) made ∙ h, tt)
flush_keeps blocks serves most card card' answer (Desk (BeginCommit nodes) ∷ ws) got h o f made = absurd o.0
flush_keeps blocks serves most card card' answer (Desk (Arrive nodes) ∷ ws) (Refused Failed) h o f made = (ap (λ (c : Card). c.hold) made ∙ h, tt)
flush_keeps blocks serves most card card' answer (Desk (Ask nodes) ∷ ws) (Refused Failed) h o f made = (ap (λ (c : Card). c.hold) made ∙ h, tt)
flush_keeps blocks serves most card card' answer (Desk (Arrive nodes) ∷ ws) (Refused Memory) h o f made = (ap (λ (c : Card). c.hold) made ∙ h, orders_own serves most serves (λ b c. c))
flush_keeps blocks serves most card card' answer (Desk (Ask nodes) ∷ ws) (Refused Memory) h o f made = (ap (λ (c : Card). c.hold) made ∙ h, orders_own serves most serves (λ b c. c))
flush_keeps blocks serves most card card' answer (Desk (Arrive nodes) ∷ ws) (Refused GenerationEnd) h o f made = (ap (λ (c : Card). c.hold) made ∙ h, orders_own serves most serves (λ b c. c))
flush_keeps blocks serves most card card' answer (Desk (Ask nodes) ∷ ws) (Refused GenerationEnd) h o f made = (ap (λ (c : Card). c.hold) made ∙ h, orders_own serves most serves (λ b c. c))
flush_keeps blocks serves most card card' answer (Desk EndCommit ∷ ws) Done h o f made = (ap (λ (c : Card). c.hold) made ∙ h, o.1)
flush_keeps blocks serves most card card' answer (Desk BreakCommit ∷ ws) Done h o f made = (ap (λ (c : Card). c.hold) made ∙ h, o.1)
flush_keeps blocks serves most card card' answer (Desk (ReleaseOrder b) ∷ ws) Done h o f made = (ap (λ (c : Card). c.hold) made ∙ h, o.1)
flush_keeps blocks serves most card card' answer [] got h o f made = absurd (no_result answer got f)
flush_keeps blocks serves most card card' answer (Cell (Look (LockWord b)) ∷ ws) got h o f made = absurd o.0
flush_keeps blocks serves most card card' answer (Cell (Look (SealWord b)) ∷ ws) got h o f made = absurd o.0
flush_keeps blocks serves most card card' answer (Cell (Look (Number b)) ∷ ws) got h o f made = absurd o.0
flush_keeps blocks serves most card card' answer (Cell (Look (CountWord kind)) ∷ ws) got h o f made = absurd o.0
flush_keeps blocks serves most card card' answer (Cell (Take access b seen) ∷ ws) got h o f made = absurd o.0
flush_keeps blocks serves most card card' answer (Cell (Release access b) ∷ ws) got h o f made = absurd o.0
flush_keeps blocks serves most card card' answer (Cell (Seal b place dirty) ∷ ws) got h o f made = absurd o.0
flush_keeps blocks serves most card card' answer (Cell (Finish b) ∷ ws) got h o f made = absurd o.0
flush_keeps blocks serves most card card' answer (Cell (Count kind) ∷ ws) got h o f made = absurd o.0
flush_keeps blocks serves most card card' answer (Cell SetSuspended ∷ ws) got h o f made = absurd o.0
flush_keeps blocks serves most card card' answer (Device (Read device e) ∷ ws) got h o f made = absurd o.0
flush_keeps blocks serves most card card' answer (Device (Write device e) ∷ ws) got h o f made = absurd o.0
flush_keeps blocks serves most card card' answer (Device (ReadMetadata left) ∷ ws) got h o f made = absurd o.0
flush_keeps blocks serves most card card' answer (Desk (Map b place) ∷ ws) got h o f made = absurd o.0
flush_keeps blocks serves most card card' answer (Desk (Unmap b) ∷ ws) got h o f made = absurd o.0
flush_keeps blocks serves most card card' answer (End b ∷ ws) got h o f made = absurd (no_result b got f)
flush_keeps blocks serves most card card' answer (w ∷ ws) got h o f made = absurd f

-- so has a suspend
looks_own : (all : List OBlock) (most : ℕ) (blocks : List OBlock) (ws : List Want) → ((b : OBlock) → Contains blocks b → Contains all b) → AreOwnSteps (Suspending all most) ws → AreOwnSteps (Suspending all most) (seal_looks blocks ++ ws)
looks_own all most [] ws each o = o
looks_own all most (b ∷ blocks) ws each o = (each b (Contains-first b blocks), looks_own all most blocks ws (λ x c. each x (Contains-behind b blocks x c)) o)

closing_own : (all : List OBlock) (most nodes first : ℕ) → first + nodes ≤ most → AreOwnSteps (Suspending all most) ((node_writes nodes first ++ root_steps) ++ Cell SetSuspended ∷ [])
closing_own all most zero first l = (tt, (tt, (tt, (tt, (tt, tt)))))
closing_own all most (suc nodes) first l = (omega (arith, l), closing_own all most nodes (first + 1) (omega (arith, l)))

suspend_keeps : (count : ℕ) (all : List OBlock) (most : ℕ) (card card' : Card) (answer : Answer) (ws : List Want) (got : Got) → card.hold ≡ Nothing → AreBelow count all → AreOwnSteps (Suspending all most) ws → Fits (first_step ws answer) got →
    MayMake (first_step ws answer) got card card' → Suits count (after (record { job = Suspending all most; steps = ws; answer = answer }) got) card'
suspend_keeps count all most card card' answer (Cell (Look Fail) ∷ ws) (Word value) h below o f made = let free : card'.hold ≡ Nothing = ap (λ (c : Card). c.hold) made.2 ∙ h in
    one_of count (Suspending all most) card' (value == 0) ws answer (Refuses Failed) (free, below, o.1) (free, below, tt)
suspend_keeps count all most card card' answer (Cell (Look (SealWord b)) ∷ ws) (Word value) h below o f made = (ap (λ (c : Card). c.hold) made.2 ∙ h, below, o.1)
suspend_keeps count all most card card' answer (Cell SetFailed ∷ ws) Done h below o f made = (ap (λ (c : Card). c.hold) made.2 ∙ (ap (λ (z : Hold). (failing_at z card).hold) h ∙ h), below, o.1)
suspend_keeps count all most card card' answer (Cell SetSuspended ∷ ws) Done h below o f made = (ap (λ (c : Card). c.hold) made.2 ∙ (ap (λ (z : Hold). (failing_at z card).hold) h ∙ h), below, o.1)
suspend_keeps count all most card card' answer (Device (Sync device) ∷ ws) Done h below o f made = (ap (λ (c : Card). c.hold) made ∙ h, below, o.1)
suspend_keeps count all most card card' answer (Device (Sync device) ∷ ws) Fault h below o f made = (ap (λ (c : Card). c.hold) made ∙ h, below, (tt, (tt, tt)))
suspend_keeps count all most card card' answer (Device (WriteNode number) ∷ ws) Done h below o f made = (ap (λ (c : Card). c.hold) made ∙ h, below, o.1)
suspend_keeps count all most card card' answer (Device (WriteNode number) ∷ ws) Fault h below o f made = (ap (λ (c : Card). c.hold) made ∙ h, below, (tt, (tt, tt)))
suspend_keeps count all most card card' answer (Device WriteRoot ∷ ws) Done h below o f made = (ap (λ (c : Card). c.hold) made ∙ h, below, o.1)
suspend_keeps count all most card card' answer (Device WriteRoot ∷ ws) Fault h below o f made = (ap (λ (c : Card). c.hold) made ∙ h, below, (tt, (tt, tt)))
suspend_keeps count all most card card' answer (Desk (Arrive nodes) ∷ ws) got h below o f made = absurd o.0
suspend_keeps count all most card card' answer (Desk (Ask nodes) ∷ ws) got h below o f made = absurd o.0
suspend_keeps count all most card card' answer (Desk (BeginCommit nodes) ∷ ws) (Began n) h below o f made = (ap (λ (c : Card). c.hold) made ∙ h, below, (tt, (tt, closing_own all most n 0 (omega (arith, subst (λ (m : ℕ). n ≤ m) o.0 f)))))
suspend_keeps count all most card card' answer (Desk (BeginCommit nodes) ∷ ws) (Refused Busy) h below o f made = (ap (λ (c : Card). c.hold) made ∙ h, below, tt)
suspend_keeps count all most card card' answer (Desk (BeginCommit nodes) ∷ ws) (Refused Memory) h below o f made = (ap (λ (c : Card). c.hold) made ∙ h, below, tt)
suspend_keeps count all most card card' answer (Desk (BeginCommit nodes) ∷ ws) (Refused GenerationEnd) h below o f made = (ap (λ (c : Card). c.hold) made ∙ h, below, tt)
suspend_keeps count all most card card' answer (Desk EndCommit ∷ ws) Done h below o f made = (ap (λ (c : Card). c.hold) made ∙ h, below, o.1)
suspend_keeps count all most card card' answer (Desk BreakCommit ∷ ws) Done h below o f made = (ap (λ (c : Card). c.hold) made ∙ h, below, o.1)
suspend_keeps count all most card card' answer [] got h below o f made = absurd (no_result answer got f)
suspend_keeps count all most card card' answer (Cell (Look (LockWord b)) ∷ ws) got h below o f made = absurd o.0
suspend_keeps count all most card card' answer (Cell (Look (Number b)) ∷ ws) got h below o f made = absurd o.0
suspend_keeps count all most card card' answer (Cell (Look (CountWord kind)) ∷ ws) got h below o f made = absurd o.0
suspend_keeps count all most card card' answer (Cell (Take access b seen) ∷ ws) got h below o f made = absurd o.0
suspend_keeps count all most card card' answer (Cell (Release access b) ∷ ws) got h below o f made = absurd o.0
suspend_keeps count all most card card' answer (Cell (Seal b place dirty) ∷ ws) got h below o f made = absurd o.0
suspend_keeps count all most card card' answer (Cell (Finish b) ∷ ws) got h below o f made = absurd o.0
suspend_keeps count all most card card' answer (Cell (Count kind) ∷ ws) got h below o f made = absurd o.0
suspend_keeps count all most card card' answer (Device (Read device e) ∷ ws) got h below o f made = absurd o.0
suspend_keeps count all most card card' answer (Device (Write device e) ∷ ws) got h below o f made = absurd o.0
suspend_keeps count all most card card' answer (Device (ReadMetadata left) ∷ ws) got h below o f made = absurd o.0
suspend_keeps count all most card card' answer (Desk (Map b place) ∷ ws) got h below o f made = absurd o.0
suspend_keeps count all most card card' answer (Desk (Unmap b) ∷ ws) got h below o f made = absurd o.0
suspend_keeps count all most card card' answer (Desk (ReleaseOrder b) ∷ ws) got h below o f made = absurd o.0
suspend_keeps count all most card card' answer (End b ∷ ws) got h below o f made = absurd (no_result b got f)
suspend_keeps count all most card card' answer (w ∷ ws) got h below o f made = absurd f

opened_own : (left nodes first : ℕ) → AreOwnSteps (Opening left) (node_writes nodes first ++ Device (Sync Metadata) ∷ opening_root)
opened_own left zero first = (tt, (tt, (tt, tt)))
opened_own left (suc nodes) first = (tt, opened_own left nodes (first + 1))

opening_keeps : (blocks left : ℕ) (card card' : Card) (answer : Answer) (ws : List Want) (got : Got) → card.hold ≡ Nothing → AreOwnSteps (Opening left) ws → Fits (first_step ws answer) got →
    MayMake (first_step ws answer) got card card' → Suits blocks (after (record { job = Opening left; steps = ws; answer = answer }) got) card'
opening_keeps blocks left card card' answer (Device (Sync device) ∷ ws) Done h o f made = (ap (λ (c : Card). c.hold) made ∙ h, o.1)
opening_keeps blocks left card card' answer (Device (Sync device) ∷ ws) Fault h o f made = (ap (λ (c : Card). c.hold) made ∙ h, tt)
opening_keeps blocks left card card' answer (Device WriteRoot ∷ ws) Done h o f made = (ap (λ (c : Card). c.hold) made ∙ h, o.1)
opening_keeps blocks left card card' answer (Device WriteRoot ∷ ws) Fault h o f made = (ap (λ (c : Card). c.hold) made ∙ h, tt)
opening_keeps blocks left card card' answer (Device (ReadMetadata more) ∷ ws) Done h o f made = (ap (λ (c : Card). c.hold) made ∙ h, o.1)
opening_keeps blocks left card card' answer (Device (ReadMetadata more) ∷ ws) Fault h o f made = (ap (λ (c : Card). c.hold) made ∙ h, tt)
opening_keeps blocks left card card' answer (Device (ReadMetadata more) ∷ ws) (Refused refusal) h o f made = (ap (λ (c : Card). c.hold) made ∙ h, tt)
opening_keeps blocks left card card' answer (Device (ReadMetadata more) ∷ ws) More h o f made = (ap (λ (c : Card). c.hold) made ∙ h, (tt, o.1))
opening_keeps blocks left card card' answer (Device (ReadMetadata more) ∷ ws) (Began nodes) h o f made = (ap (λ (c : Card). c.hold) made ∙ h, opened_own left nodes 0)
opening_keeps blocks left card card' answer (Device (WriteNode number) ∷ ws) Done h o f made = (ap (λ (c : Card). c.hold) made ∙ h, o.1)
opening_keeps blocks left card card' answer (Device (WriteNode number) ∷ ws) Fault h o f made = (ap (λ (c : Card). c.hold) made ∙ h, tt)
opening_keeps blocks left card card' answer [] got h o f made = absurd (no_result answer got f)
opening_keeps blocks left card card' answer (Cell step ∷ ws) got h o f made = absurd o.0
opening_keeps blocks left card card' answer (Desk step ∷ ws) got h o f made = absurd o.0
opening_keeps blocks left card card' answer (Device (Read device e) ∷ ws) got h o f made = absurd o.0
opening_keeps blocks left card card' answer (Device (Write device e) ∷ ws) got h o f made = absurd o.0
opening_keeps blocks left card card' answer (End b ∷ ws) got h o f made = absurd (no_result b got f)
opening_keeps blocks left card card' answer (w ∷ ws) got h o f made = absurd f

pub keeps_ready : (blocks : ℕ) (s : Plan) (card card' : Card) (got : Got) → Suits blocks s card → Fits (want s) got → MayMake (want s) got card card' → Suits blocks (after s got) card'
keeps_ready blocks s card card' got h f made = by_job s.job s.steps s.answer h f made
  where
    by_job : (job : TaskJob) (ws : List Want) (answer : Answer) → SuitsJob blocks job card ws → Fits (first_step ws answer) got → MayMake (first_step ws answer) got card card' → Suits blocks (after (record { job = job; steps = ws; answer = answer }) got) card'
    by_job (OnBlock job) ws answer h f made = keeps_on blocks job card card' answer h.0 ws got h.1 f made
    by_job (Flushing serves most) ws answer h f made = flush_keeps blocks serves most card card' answer ws got h.0 h.1 f made
    by_job (Suspending all most) ws answer h f made = suspend_keeps blocks all most card card' answer ws got h.0 h.1 h.2 f made
    by_job (Opening left) ws answer h f made = opening_keeps blocks left card card' answer ws got h.0 h.1 f made

-- What comes next.

knows_next : (job : BlockJob) (next : Bool) (number : Option ℕ) → is_write job ≡ true → next ≡ true → KnowsNext job next number → (access_of job ≡ Owned) × HasNext number
knows_next (Writing part) true number i n k = (refl, k)
knows_next (Writing part) false number i n k = absurd (cc)
knows_next (Displacing part) true number i n k = (refl, k)
knows_next (Displacing part) false number i n k = absurd (cc)
knows_next (Invalidating part) next number i n k = absurd (cc)
knows_next (Reading part) next number i n k = absurd (cc)
knows_next (Migrating migration part) next number i n k = absurd (cc)

owned : (job : BlockJob) (card : Card) → HasBlock job card → access_of job ≡ Owned → card.hold ≡ Held Owned (block_of job)
owned job card h o = h ∙ ap (λ access. Held access (block_of job)) o

below : (blocks : ℕ) (a b : OBlock) → a ≡ b → b.0 < blocks → a.0 < blocks
below blocks a b e l = subst (λ (z : OBlock). z.0 < blocks) (sym e) l

ready_for : (blocks : ℕ) (job : BlockJob) (card : Card) (ws : List Want) (answer : Answer) → (block_of job).0 < blocks → Has job card ws → MayTake blocks card (first_step ws answer)
ready_for blocks job card [] answer l h = tt
ready_for blocks job card (Cell (Look Fail) ∷ ws) answer l h = tt
ready_for blocks job card (Cell (Look (LockWord b)) ∷ ws) answer l h = below blocks b (block_of job) h.1 l
ready_for blocks job card (Cell (Look (SealWord b)) ∷ ws) answer l h = below blocks b (block_of job) h.1 l
ready_for blocks job card (Cell (Look (Number b)) ∷ ws) answer l h = below blocks b (block_of job) h.1 l
ready_for blocks job card (Cell (Look (CountWord kind)) ∷ ws) answer l h = tt
ready_for blocks job card (Cell (Take access b seen) ∷ ws) answer l h = (below blocks b (block_of job) h.2 l, h.0, h.3)
ready_for blocks job card (Cell (Release access b) ∷ ws) answer l h = rw (h.1.1.0, h.1.1.1) (l, h.0)
ready_for blocks job card (Cell (Seal b place dirty) ∷ ws) answer l h = rw h.1.1.0 (l, owned job card h.0 h.1.1.1)
ready_for blocks job card (Cell (Finish b) ∷ ws) answer l h = let k = knows_next job h.1.0 card.number h.1.1.1 h.1.1.2 h.1.2 in rw h.1.1.0 (l, owned job card h.0 k.0, k.1)
ready_for blocks job card (Cell (Count kind) ∷ ws) answer l h = tt
ready_for blocks job card (Cell SetFailed ∷ ws) answer l h = tt
ready_for blocks job card (Cell SetSuspended ∷ ws) answer l h = tt
ready_for blocks job card (Device step ∷ ws) answer l h = tt
ready_for blocks job card (Desk (Map b place) ∷ ws) answer l h = let m = maps_owned job b place h.1.1.0 in rw m.1 (owned job card h.0 m.0)
ready_for blocks job card (Desk (Unmap b) ∷ ws) answer l h = let m = unmaps_owned job b h.1.1.0 in rw m.1 (owned job card h.0 m.0)
ready_for blocks job card (Desk (ReleaseOrder b) ∷ ws) answer l h = h.0
ready_for blocks job card (Desk (Arrive most) ∷ ws) answer l h = absurd h.1.1
ready_for blocks job card (Desk (Ask most) ∷ ws) answer l h = absurd h.1.1
ready_for blocks job card (Desk (BeginCommit most) ∷ ws) answer l h = absurd h.1.1
ready_for blocks job card (Desk EndCommit ∷ ws) answer l h = absurd h.1.1
ready_for blocks job card (Desk BreakCommit ∷ ws) answer l h = absurd h.1.1
ready_for blocks job card (End a ∷ ws) answer l h = tt

free_for : (blocks : ℕ) (serves : List OBlock) (most : ℕ) (card : Card) (ws : List Want) (answer : Answer) → card.hold ≡ Nothing → AreOwnSteps (Flushing serves most) ws → MayTake blocks card (first_step ws answer)
free_for blocks serves most card [] answer h o = tt
free_for blocks serves most card (Cell (Look Fail) ∷ ws) answer h o = tt
free_for blocks serves most card (Cell SetFailed ∷ ws) answer h o = tt
free_for blocks serves most card (Device step ∷ ws) answer h o = tt
free_for blocks serves most card (Desk (Arrive nodes) ∷ ws) answer h o = h
free_for blocks serves most card (Desk (Ask nodes) ∷ ws) answer h o = h
free_for blocks serves most card (Desk EndCommit ∷ ws) answer h o = h
free_for blocks serves most card (Desk BreakCommit ∷ ws) answer h o = h
free_for blocks serves most card (Desk (ReleaseOrder b) ∷ ws) answer h o = h
free_for blocks serves most card (End a ∷ ws) answer h o = tt
free_for blocks serves most card (w ∷ ws) answer h o = absurd o.0

suspends_for : (count : ℕ) (all : List OBlock) (most : ℕ) (card : Card) (ws : List Want) (answer : Answer) → card.hold ≡ Nothing → AreBelow count all → AreOwnSteps (Suspending all most) ws → MayTake count card (first_step ws answer)
suspends_for count all most card [] answer h below o = tt
suspends_for count all most card (Cell (Look Fail) ∷ ws) answer h below o = tt
suspends_for count all most card (Cell (Look (SealWord b)) ∷ ws) answer h below o = below b o.0
suspends_for count all most card (Cell SetFailed ∷ ws) answer h below o = tt
suspends_for count all most card (Cell SetSuspended ∷ ws) answer h below o = tt
suspends_for count all most card (Device step ∷ ws) answer h below o = tt
suspends_for count all most card (Desk (BeginCommit nodes) ∷ ws) answer h below o = h
suspends_for count all most card (Desk EndCommit ∷ ws) answer h below o = h
suspends_for count all most card (Desk BreakCommit ∷ ws) answer h below o = h
suspends_for count all most card (End a ∷ ws) answer h below o = tt
suspends_for count all most card (w ∷ ws) answer h below o = absurd o.0

opens_for : (blocks left : ℕ) (card : Card) (ws : List Want) (answer : Answer) → AreOwnSteps (Opening left) ws → MayTake blocks card (first_step ws answer)
opens_for blocks left card [] answer o = tt
opens_for blocks left card (Device step ∷ ws) answer o = tt
opens_for blocks left card (End a ∷ ws) answer o = tt
opens_for blocks left card (Cell step ∷ ws) answer o = absurd o.0
opens_for blocks left card (Desk step ∷ ws) answer o = absurd o.0

pub is_ready : (blocks : ℕ) (s : Plan) (card : Card) → Suits blocks s card → MayTake blocks card (want s)
is_ready blocks s card h = by_job s.job h
  where
    by_job : (job : TaskJob) → SuitsJob blocks job card s.steps → MayTake blocks card (first_step s.steps s.answer)
    by_job (OnBlock job) h = ready_for blocks job card s.steps s.answer h.0 h.1
    by_job (Flushing serves most) h = free_for blocks serves most card s.steps s.answer h.0 h.1
    by_job (Suspending all most) h = suspends_for blocks all most card s.steps s.answer h.0 h.1 h.2
    by_job (Opening left) h = opens_for blocks left card s.steps s.answer h.1

-- each step on a device or the desk is one of the job's own
own_step : (job : BlockJob) (card : Card) (ws : List Want) (answer : Answer) → Has job card ws → IsOwnStep (OnBlock job) (first_step ws answer)
own_step job card [] answer h = tt
own_step job card (Cell step ∷ ws) answer h = tt
own_step job card (Device step ∷ ws) answer h = h.1.1.0
own_step job card (Desk (Map b place) ∷ ws) answer h = h.1.1.0
own_step job card (Desk (Unmap b) ∷ ws) answer h = h.1.1.0
own_step job card (Desk (ReleaseOrder b) ∷ ws) answer h = h.1
own_step job card (Desk (Arrive most) ∷ ws) answer h = absurd h.1.1
own_step job card (Desk (Ask most) ∷ ws) answer h = absurd h.1.1
own_step job card (Desk (BeginCommit most) ∷ ws) answer h = absurd h.1.1
own_step job card (Desk EndCommit ∷ ws) answer h = absurd h.1.1
own_step job card (Desk BreakCommit ∷ ws) answer h = absurd h.1.1
own_step job card (End a ∷ ws) answer h = tt

own_first : (job : TaskJob) (ws : List Want) (answer : Answer) → IsOwnStep job (End answer) → AreOwnSteps job ws → IsOwnStep job (first_step ws answer)
own_first job [] answer e o = e
own_first job (w ∷ ws) answer e o = o.0

pub is_own_step : (blocks : ℕ) (s : Plan) (card : Card) → Suits blocks s card → IsOwnStep s.job (want s)
is_own_step blocks s card h = by_job s.job h
  where
    by_job : (job : TaskJob) → SuitsJob blocks job card s.steps → IsOwnStep job (first_step s.steps s.answer)
    by_job (OnBlock job) h = own_step job card s.steps s.answer h.1
    by_job (Flushing serves most) h = own_first (Flushing serves most) s.steps s.answer tt h.1
    by_job (Suspending all most) h = own_first (Suspending all most) s.steps s.answer tt h.2
    by_job (Opening left) h = own_first (Opening left) s.steps s.answer tt h.1

-- no result turns a task to another job
by_either : (job : TaskJob) (b : Bool) (s t : Plan) → s.job ≡ job → t.job ≡ job → (if b then s else t).job ≡ job
by_either job true s t p q = p
by_either job false s t p q = q

look_stays : (s : Plan) (w : Want) (word : ℕ) → (after_look s w word).job ≡ s.job
look_stays s (Cell (Look Fail)) word = by_either s.job (word == 0) _ _ refl refl
look_stays s (Cell (Look (LockWord block))) word = by_either s.job (may_take s.job word) _ _ refl refl
look_stays s (Cell (Look (Number block))) word = by_either s.job (is_worn s.job word) _ _ refl refl
look_stays s w word = refl

fault_stays : (s : Plan) (w : Want) → (after_fault s w).job ≡ s.job
fault_stays s (Device step) = refl
fault_stays s w = refl

refusal_stays : (s : Plan) (w : Want) (refusal : Refusal) → (after_refusal s w refusal).job ≡ s.job
refusal_stays s (Desk (Arrive most)) refusal = refl
refusal_stays s (Desk (Ask most)) refusal = refl
refusal_stays s w refusal = refl

ticket_stays : (s : Plan) (w : Want) → (after_ticket s w).job ≡ s.job
ticket_stays s (Desk (Arrive most)) = refl
ticket_stays s w = refl

more_stays : (s : Plan) (w : Want) → (after_more s w).job ≡ s.job
more_stays s (Device (ReadMetadata left)) = refl
more_stays s w = refl

pub job_stays : (s : Plan) (got : Got) → (after s got).job ≡ s.job
job_stays s (Word word) = look_stays s (want s) word
job_stays s Fault = fault_stays s (want s)
job_stays s (Refused refusal) = refusal_stays s (want s) refusal
job_stays s Ticket = ticket_stays s (want s)
job_stays s More = more_stays s (want s)
job_stays s got = refl

pub flush_begins : (blocks : ℕ) (serves : List OBlock) (most : ℕ) (card : Card) → card.hold ≡ Nothing → Suits blocks (table (Flushing serves most)) card
flush_begins blocks serves most card h = (h, (tt, (refl, tt)))

pub suspend_begins : (count : ℕ) (blocks : List OBlock) (most : ℕ) (card : Card) → AreBelow count blocks → card.hold ≡ Nothing → Suits count (table (Suspending blocks most)) card
suspend_begins count blocks most card below h = (h, below, (tt, looks_own blocks most blocks _ (λ b c. c) (refl, tt)))

pub opening_begins : (blocks left : ℕ) (card : Card) → card.hold ≡ Nothing → Suits blocks (table (Opening left)) card
opening_begins blocks left card h = (h, (tt, (tt, (tt, (tt, (tt, (tt, tt)))))))

pub begins_ready : (blocks : ℕ) (job : BlockJob) (card : Card) → (block_of job).0 < blocks → card.hold ≡ Nothing → Suits blocks (table (OnBlock job)) card
begins_ready blocks job card l h = (l, (h, refl))

-- At the end.
ended : (job : BlockJob) (card : Card) (ws : List Want) (answer end : Answer) → Has job card ws → first_step ws answer ≡ End end → card.hold ≡ Nothing
ended job card [] answer end h e = h
ended job card (Cell step ∷ ws) answer end h e = absurd (cc)
ended job card (Device step ∷ ws) answer end h e = absurd (cc)
ended job card (Desk step ∷ ws) answer end h e = absurd (cc)
ended job card (End a ∷ ws) answer end h e = absurd h.1.1

pub ends_holding_nothing : (blocks : ℕ) (s : Plan) (card : Card) (end : Answer) → Suits blocks s card → want s ≡ End end → card.hold ≡ Nothing
ends_holding_nothing blocks s card end h e = by_job s.job h
  where
    by_job : (job : TaskJob) → SuitsJob blocks job card s.steps → card.hold ≡ Nothing
    by_job (OnBlock job) h = ended job card s.steps s.answer end h.1 e
    by_job (Flushing serves most) h = h.0
    by_job (Suspending blocks most) h = h.0
    by_job (Opening left) h = h.0
