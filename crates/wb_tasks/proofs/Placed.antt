-- Wherever a job on a block moves an extent or sets a seal, it knows by its card where its block stands.
use Rattle.std.proofs.Common.{◌≡◌, ◌∙◌, ◌<◌, ◌==◌, ◌⊎◌, if◌then◌else◌, inl, inr, ℕ, Bool, true, false, cond, List, [], ◌∷◌, Option, Some, refl, sym, ap, subst}
use Rattle.std.proofs.lemmas.Bool.{eq-eqb}
use Rattle.wb_types.specs.declared.number.OBlock.{OBlock}
use Rattle.wb_types.specs.declared.number.CBlock.{CBlock}
use Rattle.wb_types.specs.declared.refusal.Refusal.TheVariants.{Busy, Failed, Worn}
use Rattle.wb_words.specs.declared.word.Access.{Access}
use Rattle.wb_words.specs.declared.word.Word.{Word as WordName}
use Rattle.wb_words.specs.declared.word.Word.TheVariants.{Cell as LockWord, Seal as SealWord, Number, Count as CountWord, Fail}
use Rattle.wb_words.specs.declared.card.Hold.{Hold}
use Rattle.wb_words.specs.declared.card.Hold.TheVariants.{Nothing, Held}
use Rattle.wb_words.specs.declared.card.Card.{Card}
use Rattle.wb_words.specs.declared.step.CellResult.TheVariants.{Done as Won, Lost as NotWon}
use Rattle.wb_words.specs.declared.step.CellStep.{CellStep}
use Rattle.wb_words.specs.declared.step.CellStep.TheVariants.{Look, Take, Release, Seal, Finish, Count, SetFailed, SetSuspended}
use Rattle.wb_words.specs.SharedWords.{Words, word_at, value_of, place_in, dirty_in, seal_word}
use Rattle.wb_words.specs.Cards.{is_own_seal, looked}
use Rattle.wb_words.specs.Effects.{result_of, card_after}
use Rattle.wb_tasks.specs.Tables.{BlockJob, Displacing, Invalidating, Migrating, OnBlock, TaskJob, access_of, work}
use Rattle.wb_tasks.specs.Plan.{Plan, table, want, after, after_fault_of, refused, got_of, exchange, gives_back, gives_up, may_take, is_worn, first_step, Fits}
use Rattle.wb_tasks.specs.Run.{Leads}
use Rattle.wb_tasks.specs.Ready.{AreFirst, Has, HasBlock, Suits, SuitsJob, IsOwnStep, IsAsked, MayMake, block_of, left_by}
use Rattle.wb_tasks.specs.declared.step.DeviceStep.{DeviceStep}
use Rattle.wb_tasks.specs.declared.step.DeviceStep.TheVariants.{Read, Write, Sync, ReadMetadata, WriteNode, WriteRoot}
use Rattle.wb_tasks.specs.declared.step.DeskStep.{DeskStep}
use Rattle.wb_tasks.specs.declared.step.DeskStep.TheVariants.{Map, Unmap, ReleaseOrder, Arrive, Ask, BeginCommit, EndCommit, BreakCommit}
use Rattle.wb_tasks.specs.declared.step.Answer.{Answer}
use Rattle.wb_tasks.specs.declared.step.Want.{Want}
use Rattle.wb_tasks.specs.declared.step.Want.TheVariants.{Cell, Device, Desk, End}
use Rattle.wb_tasks.specs.declared.step.Got.{Got}
use Rattle.wb_tasks.specs.declared.step.Got.TheVariants.{Done, Fault, Refused}
use Rattle.wb_tasks.proofs.Driving.{no_result}
use Rattle.wb_tasks.proofs.Readiness.{begins_ready, keeps_ready, reads_or_writes, is_own_step, job_stays}
use Rattle.wb_tasks.proofs.Seals.{seal_tells}
use Rattle.wb_tasks.proofs.Working.{OfSteps, Works, work_has, parting_has}

-- Of a step that moves an extent or sets a seal, where the block stands at this place, its copy in the cache being dirty or not.
abbrev pub OfStep : Type 1
OfStep = Option CBlock → Bool → Want → Type 0

-- nothing is moved or sealed
abbrev pub IsStill : List Want → Type 0
IsStill [] = Unit {0}
IsStill (Device step ∷ later) = ⊥
IsStill (Cell (Seal block place dirty) ∷ later) = ⊥
IsStill (next ∷ later) = IsStill later

-- It holds of each that moves or seals, the block standing at this place, or where it is sealed anew; once it is given back nothing is moved or sealed.
abbrev pub IsFollowed : OfStep → Option CBlock → Bool → List Want → Type 0
IsFollowed P place dirty [] = Unit {0}
IsFollowed P place dirty (Device step ∷ later) = P place dirty (Device step) × IsFollowed P place dirty later
IsFollowed P place dirty (Cell (Seal block at d) ∷ later) = P place dirty (Cell (Seal block at d)) × IsFollowed P (place_in (seal_word at d)) (dirty_in (seal_word at d)) later
IsFollowed P place dirty (Cell (Take access block seen) ∷ later) = IsStill later
IsFollowed P place dirty (Cell (Release access block) ∷ later) = IsStill later
IsFollowed P place dirty (Cell SetFailed ∷ later) = IsStill later
IsFollowed P place dirty (Cell SetSuspended ∷ later) = IsStill later
IsFollowed P place dirty (next ∷ later) = IsFollowed P place dirty later

-- where a seal can tell that place
abbrev pub Followed : OfStep → OfSteps
Followed P place dirty steps = ((d : Bool) → place_in (seal_word place d) ≡ place) → IsFollowed P place dirty steps

-- where these steps move or seal, its card knows the block's seal, and it holds where that tells
abbrev pub IsPlaced : OfStep → Card → List Want → Type 0
IsPlaced P card steps = IsStill steps ⊎ ((seal : ℕ) × (card.seal ≡ Some seal) × IsFollowed P (place_in seal) (dirty_in seal) steps)

-- The next step moves or seals nothing but where its actor has the block, at the place that its seal tells.
abbrev pub IsThere : OfStep → BlockJob → Card → Want → Type 0
IsThere P job card (Device step) = HasBlock job card × ((seal : ℕ) × (card.seal ≡ Some seal) × P (place_in seal) (dirty_in seal) (Device step))
IsThere P job card (Cell (Seal block at d)) = HasBlock job card × ((seal : ℕ) × (card.seal ≡ Some seal) × P (place_in seal) (dirty_in seal) (Cell (Seal block at d)))
IsThere P job card next = Unit {0}

-- a look at another word leaves the seal that is known
looked_same : (word : WordName) (x : ℕ) (card : Card) → is_own_seal card.hold word ≡ false → (looked word x card).seal ≡ card.seal
looked_same word x card e = ap (λ (t : Bool). cond t (Some x) card.seal) e

not_seal : (hold : Hold) (word : WordName) → ((b : OBlock) → word ≡ SealWord b → ⊥) → is_own_seal hold word ≡ false
not_seal (Held access b) (SealWord a) n = absurd (n a refl)
not_seal hold word n = refl

own_seal : (hold : Hold) (access : Access) (a b : OBlock) → hold ≡ Held access a → b ≡ a → is_own_seal hold (SealWord b) ≡ true
own_seal hold access a b e f = ap (λ (h : Hold). is_own_seal h (SealWord b)) e ∙ (ap (λ (z : OBlock). z.0 == a.0) f ∙ eq-eqb a.0 a.0 refl)

-- of the desk a job on a block asks what concerns its block alone
abbrev IsOfBlock : DeskStep → Type 0
IsOfBlock (Map block place) = Unit {0}
IsOfBlock (Unmap block) = Unit {0}
IsOfBlock (ReleaseOrder block) = Unit {0}
IsOfBlock step = ⊥

asked_of_block : (job : BlockJob) (step : DeskStep) → IsAsked job step → IsOfBlock step
asked_of_block (Displacing part) (Unmap block) a = tt
asked_of_block (Invalidating part) (Unmap block) a = tt
asked_of_block (Migrating migration part) (Map block place) a = tt
asked_of_block (Migrating migration part) (Unmap block) a = tt
asked_of_block (Migrating migration part) (ReleaseOrder block) a = tt
asked_of_block job step a = absurd a

gives_up_still : (job : BlockJob) → IsStill (gives_up job)
gives_up_still job = parting_has IsStill job tt (λ block. tt)

lets_go_still : (job : BlockJob) (step : DeviceStep) → IsStill (after_fault_of (OnBlock job) step)
lets_go_still job (Read device e) = gives_up_still job
lets_go_still job step = tt

module _ (P : OfStep) (job : BlockJob) (works : Works (Followed P) job) where
  -- what it does once it has seen its block's seal
  sealed : (seal : ℕ) → IsFollowed P (place_in seal) (dirty_in seal) (work job (place_in seal) (dirty_in seal))
  sealed seal = work_has (Followed P) job works (place_in seal) (dirty_in seal) (λ d. seal_tells seal d)

  module _ (words : Words) (card : Card) (answer : Answer) where
    abbrev of : List Want → Plan
    of steps = record { job = OnBlock job; steps = steps; answer = answer }

    -- with the card then
    abbrev Then : CellStep → List Want → Type 0
    Then step ws = IsPlaced P (card_after words step card) (after (of (Cell step ∷ ws)) (got_of (result_of words step))).steps

    -- it goes on, and knows the seal that it knew
    onward : (ws : List Want) (card' : Card) (next : Want) → (IsStill (next ∷ ws) → IsStill ws) → ((place : Option CBlock) (dirty : Bool) → IsFollowed P place dirty (next ∷ ws) → IsFollowed P place dirty ws) → card'.seal ≡ card.seal → IsPlaced P card (next ∷ ws) → IsPlaced P card' ws
    onward ws card' next still there same (inl n) = inl (still n)
    onward ws card' next still there same (inr w) = inr (w.0, same ∙ w.1, there (place_in w.0) (dirty_in w.0) w.2)

    look_same : (word : WordName) → ((b : OBlock) → word ≡ SealWord b → ⊥) → (looked word (value_of words word) card).seal ≡ card.seal
    look_same word n = looked_same word (value_of words word) card (not_seal card.hold word n)

    -- nothing is left to move
    no_more : (ws : List Want) (next : Want) → (IsStill (next ∷ ws) → IsStill ws) → ((place : Option CBlock) (dirty : Bool) → IsFollowed P place dirty (next ∷ ws) → IsStill ws) → IsPlaced P card (next ∷ ws) → IsStill ws
    no_more ws next still there (inl n) = still n
    no_more ws next still there (inr w) = there (place_in w.0) (dirty_in w.0) w.2

    on_words : (step : CellStep) (ws : List Want) → Has job card (Cell step ∷ ws) → IsPlaced P card (Cell step ∷ ws) → Then step ws
    on_words (Look Fail) ws h p = by_test (words.fail == 0)
      where
        by_test : (t : Bool) → IsPlaced P (looked Fail (value_of words Fail) card) (if t then of ws else refused (of (Cell (Look Fail) ∷ ws)) [] Failed).steps
        by_test true = onward ws (looked Fail (value_of words Fail) card) (Cell (Look Fail)) (λ n. n) (λ place dirty w. w) (look_same Fail (λ b e. absurd (cc))) p
        by_test false = inl tt
    on_words (Look (LockWord b)) ws h p = by_test (may_take (OnBlock job) (word_at words.cells b))
      where
        by_test : (t : Bool) → IsPlaced P (looked (LockWord b) (value_of words (LockWord b)) card) (if t then of (exchange (OnBlock job) (word_at words.cells b)) else refused (of (Cell (Look (LockWord b)) ∷ ws)) [] Busy).steps
        by_test true = inl tt
        by_test false = inl tt
    on_words (Look (SealWord b)) ws h p =
        inr (word_at words.seals b, ap (λ (t : Bool). cond t (Some (word_at words.seals b)) card.seal) (own_seal card.hold (access_of job) (block_of job) b h.0 h.1), sealed (word_at words.seals b))
    on_words (Look (Number b)) ws h p = by_test (is_worn (OnBlock job) (word_at words.numbers b))
      where
        by_test : (t : Bool) → IsPlaced P (looked (Number b) (value_of words (Number b)) card) (if t then refused (of (Cell (Look (Number b)) ∷ ws)) (gives_back (OnBlock job)) Worn else of ws).steps
        by_test true = inl tt
        by_test false = onward ws (looked (Number b) (value_of words (Number b)) card) (Cell (Look (Number b))) (λ n. n) (λ place dirty w. w) (look_same (Number b) (λ o e. absurd (cc))) p
    on_words (Look (CountWord kind)) ws h p = onward ws (looked (CountWord kind) (value_of words (CountWord kind)) card) (Cell (Look (CountWord kind))) (λ n. n) (λ place dirty w. w) (look_same (CountWord kind) (λ o e. absurd (cc))) p
    on_words (Take access b seen) ws h p = by_test (word_at words.cells b == seen)
      where
        by_test : (t : Bool) → IsPlaced P (card_after words (Take access b seen) card) (after (of (Cell (Take access b seen) ∷ ws)) (got_of (if t then Won else NotWon))).steps
        by_test true = inl (no_more ws (Cell (Take access b seen)) (λ n. n) (λ place dirty w. w) p)
        by_test false = inl tt
    on_words (Seal b place dirty) ws h (inl n) = absurd n
    on_words (Seal b place dirty) ws h (inr w) = inr (seal_word place dirty, refl, w.2.1)
    on_words (Finish b) ws h p = onward ws (card_after words (Finish b) card) (Cell (Finish b)) (λ n. n) (λ place dirty w. w) refl p
    on_words (Count kind) ws h p = onward ws (card_after words (Count kind) card) (Cell (Count kind)) (λ n. n) (λ place dirty w. w) refl p
    on_words step ws h p = inl (no_more ws (Cell step) (λ n. n) (λ place dirty w. w) p)

  -- an extent was moved, or the desk was asked
  passed : (card card' : Card) (next : Want) (ws : List Want) → (IsStill (next ∷ ws) → IsStill ws) → ((place : Option CBlock) (dirty : Bool) → IsFollowed P place dirty (next ∷ ws) → IsFollowed P place dirty ws) → card' ≡ card → IsPlaced P card (next ∷ ws) → IsPlaced P card' ws
  passed card card' next ws still there same (inl m) = inl (still m)
  passed card card' next ws still there same (inr w) = inr (w.0, ap (λ (c : Card). c.seal) same ∙ w.1, there (place_in w.0) (dirty_in w.0) w.2)

  placed_on : (card card' : Card) (answer : Answer) (ws : List Want) (got : Got) → Has job card ws → IsOwnStep (OnBlock job) (first_step ws answer) → IsPlaced P card ws → Fits (first_step ws answer) got → MayMake (first_step ws answer) got card card' →
      IsPlaced P card' (after (record { job = OnBlock job; steps = ws; answer = answer }) got).steps
  placed_on card card' answer [] got h o p f made = absurd (no_result answer got f)
  placed_on card card' answer (Cell step ∷ ws) got h o p f made =
      subst (λ (c : Card). IsPlaced P c (after (record { job = OnBlock job; steps = Cell step ∷ ws; answer = answer }) got).steps) (sym made.2)
      (subst (λ (g : Got). IsPlaced P (card_after made.0 step card) (after (record { job = OnBlock job; steps = Cell step ∷ ws; answer = answer }) g).steps) (sym made.1) (on_words made.0 card answer step ws h p))
  placed_on card card' answer (Device (Read device e) ∷ ws) Done h o p f made = passed card card' (Device (Read device e)) ws (λ n. absurd n) (λ place dirty w. w.1) made p
  placed_on card card' answer (Device (Read device e) ∷ ws) Fault h o p f made = inl (lets_go_still job (Read device e))
  placed_on card card' answer (Device (Write device e) ∷ ws) Done h o p f made = passed card card' (Device (Write device e)) ws (λ n. absurd n) (λ place dirty w. w.1) made p
  placed_on card card' answer (Device (Write device e) ∷ ws) Fault h o p f made = inl (lets_go_still job (Write device e))
  placed_on card card' answer (Device (Sync device) ∷ ws) got h o p f made = absurd (reads_or_writes job (Sync device) o)
  placed_on card card' answer (Device (ReadMetadata left) ∷ ws) got h o p f made = absurd (reads_or_writes job (ReadMetadata left) o)
  placed_on card card' answer (Device (WriteNode number) ∷ ws) got h o p f made = absurd (reads_or_writes job (WriteNode number) o)
  placed_on card card' answer (Device WriteRoot ∷ ws) got h o p f made = absurd (reads_or_writes job WriteRoot o)
  placed_on card card' answer (Desk (Map b place) ∷ ws) Done h o p f made = passed card card' (Desk (Map b place)) ws (λ n. n) (λ place dirty w. w) made p
  placed_on card card' answer (Desk (Map b place) ∷ ws) (Refused refusal) h o p f made = inl (gives_up_still job)
  placed_on card card' answer (Desk (Unmap b) ∷ ws) Done h o p f made = passed card card' (Desk (Unmap b)) ws (λ n. n) (λ place dirty w. w) made p
  placed_on card card' answer (Desk (ReleaseOrder b) ∷ ws) Done h o p f made = passed card card' (Desk (ReleaseOrder b)) ws (λ n. n) (λ place dirty w. w) made p
  placed_on card card' answer (Desk (Arrive most) ∷ ws) got h o p f made = absurd (asked_of_block job (Arrive most) o)
  placed_on card card' answer (Desk (Ask most) ∷ ws) got h o p f made = absurd (asked_of_block job (Ask most) o)
  placed_on card card' answer (Desk (BeginCommit most) ∷ ws) got h o p f made = absurd (asked_of_block job (BeginCommit most) o)
  placed_on card card' answer (Desk EndCommit ∷ ws) got h o p f made = absurd (asked_of_block job EndCommit o)
  placed_on card card' answer (Desk BreakCommit ∷ ws) got h o p f made = absurd (asked_of_block job BreakCommit o)
  placed_on card card' answer (End a ∷ ws) got h o p f made = absurd (no_result a got f)
  placed_on card card' answer (w ∷ ws) got h o p f made = absurd f

  is_there : (card : Card) (ws : List Want) (answer : Answer) → Has job card ws → IsPlaced P card ws → IsThere P job card (first_step ws answer)
  is_there card [] answer h p = tt
  is_there card (Device step ∷ ws) answer h (inl n) = absurd n
  is_there card (Device step ∷ ws) answer h (inr w) = (h.0, (w.0, w.1, w.2.0))
  is_there card (Cell (Seal b place dirty) ∷ ws) answer h (inl n) = absurd n
  is_there card (Cell (Seal b place dirty) ∷ ws) answer h (inr w) = (h.0, (w.0, w.1, w.2.0))
  is_there card (next ∷ ws) answer h p = tt

  -- ---- wherever the steps have led

  -- what is left of the job, with this card
  pub record IsLeft (blocks : ℕ) (s : Plan) (card : Card) : Type 0 where
    pub on : s.job ≡ OnBlock job
    pub suits : Suits blocks s card
    pub placed : IsPlaced P card s.steps

  module _ (blocks : ℕ) (s : Plan) (card : Card) (l : IsLeft blocks s card) where
    has : Has job card s.steps
    has = (subst (λ (j : TaskJob). SuitsJob blocks j card s.steps) l.on l.suits).1

    pub next_there : IsThere P job card (want s)
    next_there = is_there card s.steps s.answer has l.placed

    -- each step keeps it so
    pub stays_left : (card' : Card) (got : Got) → Fits (want s) got → MayMake (want s) got card card' → IsLeft blocks (after s got) card'
    stays_left card' got f made = record {
      on = job_stays s got ∙ l.on;
      suits = keeps_ready blocks s card card' got l.suits f made;
      placed = subst (λ (t : Plan). IsPlaced P card' (after t got).steps) (sym same) (placed_on card card' s.answer s.steps got has (subst (λ (j : TaskJob). IsOwnStep j (want s)) l.on (is_own_step blocks s card l.suits)) l.placed f made);
    }
      where
        same : s ≡ record { job = OnBlock job; steps = s.steps; answer = s.answer }
        same = λ i. record { job = l.on i; steps = s.steps; answer = s.answer }

  -- who begins the job without a block
  pub begins_left : (blocks : ℕ) (s : Plan) (card : Card) → s ≡ table (OnBlock job) → (block_of job).0 < blocks → card.hold ≡ Nothing → IsLeft blocks s card
  begins_left blocks s card begun there idle = subst (λ (t : Plan). IsLeft blocks t card) (sym begun) (record { on = refl; suits = begins_ready blocks job card there idle; placed = inl tt })

  module _ {S : Type 0} (led : S → Want → Got → S → Type 0) (card : S → Card) (makes : (s : S) (w : Want) (g : Got) (t : S) → led s w g t → MayMake w g (card s) (card t)) (blocks : ℕ) where
    left_there : (s : Plan) (old : S) (steps : List (Want × Got)) (mid : S) → IsLeft blocks s (card old) → AreFirst s steps → Leads led old steps mid → IsLeft blocks (left_by s steps) (card mid)
    left_there s old [] mid l f e = subst (λ (x : S). IsLeft blocks s (card x)) e l
    left_there s old (step ∷ steps) mid l f h =
        let fits : Fits (want s) step.1 = subst (λ (w : Want). Fits w step.1) f.0 f.1 in
        let made : MayMake (want s) step.1 (card old) (card h.0) = subst (λ (w : Want). MayMake w step.1 (card old) (card h.0)) f.0 (makes old step.0 step.1 h.0 h.1) in
        left_there (after s step.1) h.0 steps mid (stays_left blocks s (card old) l (card h.0) step.1 fits made) f.2 h.2

    -- moves and seals nothing but there, wherever its steps have led
    pub moves_there : (s : Plan) (old : S) → s ≡ table (OnBlock job) → (block_of job).0 < blocks → (card old).hold ≡ Nothing → (steps : List (Want × Got)) (mid : S) → AreFirst s steps → Leads led old steps mid → IsThere P job (card mid) (want (left_by s steps))
    moves_there s old begun there idle steps mid f h = next_there blocks (left_by s steps) (card mid) (left_there s old steps mid (begins_left blocks s (card old) begun there idle) f h)
