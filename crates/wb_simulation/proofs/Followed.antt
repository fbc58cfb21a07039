-- Each step of a read or a write on the shared words is followed.
use Rattle.std.proofs.Common.{false, true, Bool, ◌≡◌, ◌≢◌, ◌∙◌, ◌⊎◌, inl, inr, ℕ, List, [], ◌∷◌, Option, Some, refl, sym, ap, subst, slice_get, None, ◌++◌, map, if◌then◌else◌}
use Rattle.wb_refines.proofs.Moving.{unmaps_later, unmaps_none}
use Rattle.wb_words.specs.declared.word.Access.TheVariants.{Shared}
use Rattle.wb_types.specs.declared.refusal.Refusal.TheVariants.{Worn}
use Rattle.wb_types.specs.declared.mode.Mode.TheVariants.{Writeback}
use Rattle.wb_types.specs.declared.mode.Mode.{Mode}
use Rattle.wb_types.specs.declared.extent.Extent.{Extent}
use Rattle.wb_simulation.proofs.Written.{is_request, range_written}
use Rattle.wb_types.specs.declared.number.OBlock.{OBlock}
use Rattle.wb_types.specs.declared.number.CBlock.{CBlock}
use Rattle.wb_disk.specs.Device.{Content}
use Rattle.wb_words.specs.SharedWords.{Words, word_at, place_in, dirty_in}
use Rattle.wb_words.specs.Rule.{LockRule}
use Rattle.wb_words.specs.Effects.{result_of, words_after, card_after}
use Rattle.wb_words.specs.declared.card.Card.{Card}
use Rattle.wb_words.specs.declared.step.CellStep.{CellStep}
use Rattle.wb_words.specs.declared.step.CellStep.TheVariants.{Look, Release, Take, Seal, Finish, Count, SetFailed, SetSuspended}
use Rattle.wb_words.specs.declared.word.Word.TheVariants.{Fail, Cell as LockWord, Seal as SealWord, Number, Count as CountWord}
use Rattle.wb_tasks.specs.Tables.{BlockRange, BlockJob, TaskJob, Reading, Writing, OnBlock, range_of, Invalidating, Displacing, Migrating, work, place_read, read_step, write_step, read_count, writes, writing}
use Rattle.wb_tasks.specs.Plan.{Plan, table, want, after, got_of, first_step, work_of, exchange, gives_back, is_worn, refused, onward}
use Rattle.wb_tasks.specs.Ready.{Suits}
use Rattle.wb_tasks.specs.declared.step.Want.{Want}
use Rattle.wb_tasks.specs.declared.step.Answer.{Answer}
use Rattle.wb_tasks.specs.declared.step.Want.TheVariants.{Cell, End}
use Rattle.wb_tasks.proofs.Readiness.{job_stays}
use Rattle.wb_link.specs.Tables.{Job as AbstractJob}
use Rattle.wb_link.specs.World.{World, AbstractActor, is_alone}
use Rattle.wb_refines.specs.Going.{records, shared_after, gone}
use Rattle.wb_refines.specs.Models.{IsRequest, IsAt, HasStopped, OnlyParts, TellsPlace, plan_of, UnmapNothing, MayUnmap}
use Rattle.wb_refines.specs.Roles.{Role, IsAs, request_role}
use Rattle.wb_refines.proofs.Roles.{requests_play, as_request, at_request, placed, placed_seal}
use Rattle.wb_promise.specs.declared.job.Job.{Job}
use Rattle.wb_promise.specs.declared.job.Job.TheVariants.{Read, Write, Invalidate}
use Rattle.wb_promise.specs.States.{Actor}
use Rattle.wb_runs.specs.Holding.{cards_of}
use Rattle.wb_simulation.specs.Steps.{IsPart, AreOfBlock}
use Rattle.wb_simulation.specs.Actors.{IsLate, IsRequestAt, IsDoing, IsBusyAt, IsAmongOthers, StandsFor, write_of}
use Rattle.wb_simulation.specs.Telling.{Telling, Quietly, IsTold}
use Rattle.wb_simulation.specs.Worlds.{Situation, Agrees, WorldFollows}
use Rattle.wb_simulation.specs.Laws.{CellStepsFollowed, IsRequestJob, stepped_actor}
use Rattle.wb_simulation.proofs.Telling.{quiet_are_unnoted}
use Rattle.wb_simulation.proofs.Steps.{read_of_block, after_cell, written_of_block, invalidating_of_block}
use Rattle.wb_simulation.proofs.Cells.{Acted, acts_in_role, acts_over, tells, StoppedAs}
use Rattle.wb_simulation.proofs.Orders.{MigratesNot, IsDone, does_none}
use Rattle.wb_simulation.proofs.Among.{card_there, own_there, takes, failed_stays, goes_on}

-- who does a read or write is at it
pub doing_of : (size : ℕ) (most : Bool → ℕ) (words : Words) (x : Actor) (y : AbstractActor) (job : Job) (plan : Plan) (st : StandsFor size most words x y) → x.task ≡ Some (job, plan) → IsDoing size most st.failed job plan x.card x.share y
doing_of size most words x y job plan st e = subst (λ (t : Option (Job × Plan)). IsBusyAt size most st.failed t x.card x.share y) e st.at

-- What holds of a plan of this job: with its next step first, for whatever comes after it; or with nothing left, where that is its answer.
pub first : (plan : Plan) (job : TaskJob) (next : Want) → plan.job ≡ job → want plan ≡ next → (P : Plan → Type 0) → ((rest : List Want) → plan.steps ≡ next ∷ rest → P (record { job = job; steps = next ∷ rest; answer = plan.answer })) → (plan.steps ≡ [] → End plan.answer ≡ next → P (record { job = job; steps = []; answer = plan.answer })) → P plan
first plan job next j e P some none = by plan.steps refl
  where
    is : (steps : List Want) → plan.steps ≡ steps → P (record { job = job; steps = steps; answer = plan.answer }) → P plan
    is steps k h = subst P (λ i. record { job = sym j i; steps = sym k i; answer = plan.answer }) h

    by : (steps : List Want) → plan.steps ≡ steps → P plan
    by [] k = is [] k (none k (sym (ap (λ (us : List Want). first_step us plan.answer) k) ∙ e))
    by (v ∷ ws) k = let now : plan.steps ≡ next ∷ ws = k ∙ ap (λ (u : Want). u ∷ ws) (sym (ap (λ (us : List Want). first_step us plan.answer) k) ∙ e) in is (next ∷ ws) now (some ws now)

pub begins_by : (plan : Plan) (next : Want) → want plan ≡ next → ((answer : Answer) → next ≢ End answer) → (ws : List Want) × (plan.steps ≡ next ∷ ws)
begins_by plan next e n = first plan plan.job next refl e (λ p. (ws : List Want) × (p.steps ≡ next ∷ ws)) (λ rest k. (rest, refl)) (λ k is. absurd (n plan.answer (sym is)))

-- a step that neither begins a task nor gives a block back, and no answer
abbrev pub IsWithin : Want → Type 0
IsWithin (Cell (Look Fail)) = ⊥
IsWithin (Cell (Release access block)) = ⊥
IsWithin (End answer) = ⊥
IsWithin next = Unit {0}

-- who is late takes none, nor who has only to answer
pub never_late : (failed : Bool) (plan : Plan) (job : TaskJob) (next : Want) (y : AbstractActor) → plan.job ≡ job → want (table job) ≡ Cell (Look Fail) → want plan ≡ next → IsWithin next → IsLate failed plan y → ⊥
never_late failed plan job next y j begins e within l = elim l.at [
  | inl t ↦ subst IsWithin (sym e ∙ ap want (t ∙ ap (λ k. table k) j) ∙ begins) within
  | inr n ↦ subst IsWithin (sym e ∙ ap (λ (ws : List Want). first_step ws plan.answer) n.0) within
]

pub never_over : (plan : Plan) (next : Want) → want plan ≡ next → IsWithin next → OnlyParts plan.steps → ⊥
never_over plan next e within over = by plan.steps over (subst IsWithin (sym e) within)
  where
    by : (ws : List Want) → OnlyParts ws → IsWithin (first_step ws plan.answer) → ⊥
    by [] o w = w
    by (Cell (Release access b) ∷ []) o w = w
    by ws o w = o

-- of one that answers if nothing is left, if no answer is among its steps
pub answers_by : (plan : Plan) (job : TaskJob) (answer : Answer) → plan.job ≡ job → want plan ≡ End answer → ((ws : List Want) → plan.steps ≢ End answer ∷ ws) → (P : Plan → Type 0) → P (record { job = job; steps = []; answer = answer }) → P plan
answers_by plan job answer j e never P h = first plan job (End answer) j e P (λ rest k. absurd (never rest k)) (λ k is. let same : answer ≡ plan.answer = cc in subst (λ (v : Answer). P (record { job = job; steps = []; answer = v })) same h)

-- A request in its role, and at what place its block is to be found.
record Playing (words : Words) (size : ℕ) (content : Content) (job : BlockJob) (step : CellStep) (plan : Plan) (card : Card) (y : AbstractActor) : Type 0 where
  pub place : Option CBlock
  pub is : IsAs (request_role size content place job) plan card y
  pub unmaps : MayUnmap place (after plan (got_of (result_of words step))).steps
  pub finds : (block : OBlock) → step ≡ Look (Number block) → (seal : ℕ) → card.seal ≡ Some seal → place_in seal ≡ place

-- a request's work unmaps its block where it stands in a cache block alone
writes_nothing : (part : BlockRange) (places : List (Option CBlock)) (es : List Extent) (ws : List Want) → UnmapNothing ws → UnmapNothing (writes part places es ++ ws)
writes_nothing part places [] ws n = n
writes_nothing part places (e ∷ es) ws n = by places (writes_nothing part places es ws n)
  where
    by : (ps : List (Option CBlock)) → UnmapNothing (writes part places es ++ ws) → UnmapNothing ((map (λ place. write_step part place e) ps ++ writes part places es) ++ ws)
    by [] later = later
    by (None ∷ ps) later = by ps later
    by (Some c ∷ ps) later = by ps later

reads_nothing : (part : BlockRange) (place : Option CBlock) (es : List Extent) (ws : List Want) → UnmapNothing ws → UnmapNothing (map (read_step part place) es ++ ws)
reads_nothing part place [] ws n = n
reads_nothing part None (e ∷ es) ws n = reads_nothing part None es ws n
reads_nothing part (Some c) (e ∷ es) ws n = reads_nothing part (Some c) es ws n

work_unmaps : (job : BlockJob) → IsRequest job → (place : Option CBlock) (dirty : Bool) → MayUnmap place (work job place dirty)
work_unmaps job request (Some c) dirty = tt
work_unmaps (Reading part) request None dirty = by part.mode
  where
    by : (mode : Mode) → UnmapNothing (map (read_step part (place_read mode None)) part.extents ++ read_count (place_read mode None) ∷ Cell (Release Shared part.block) ∷ [])
    by Writeback = reads_nothing part None part.extents _ tt
    by mode = reads_nothing part None part.extents _ tt
work_unmaps (Writing part) request None dirty = by part.mode
  where
    by : (mode : Mode) → UnmapNothing (writing mode part None dirty)
    by Writeback = writes_nothing part (None ∷ []) part.extents _ tt
    by mode = writes_nothing part (None ∷ []) part.extents _ tt
work_unmaps (Displacing part) request None dirty = writes_nothing part (None ∷ []) part.extents _ tt
work_unmaps (Invalidating part) request None dirty = tt
work_unmaps (Migrating migration part) request None dirty = absurd request

-- who looks at neither its seal nor its number finds no other place
keeps : (words : Words) (size : ℕ) (content : Content) (job : BlockJob) (step : CellStep) (rest : List Want) (answer : Answer) (card : Card) (y : AbstractActor) → ((block : OBlock) → step ≡ Look (SealWord block) → ⊥) → ((block : OBlock) → step ≡ Look (Number block) → ⊥) →
    IsAt size content (plan_of job (Cell step ∷ rest) answer) card y → Playing words size content job step (plan_of job (Cell step ∷ rest) answer) card y
keeps words size content job step rest answer card y seal number i = record {
  place = i.place;
  is = as_request size content job (Cell step ∷ rest) answer card y i;
  unmaps = after_cell (MayUnmap i.place) (OnBlock job) words step rest answer (unmaps_none i.place [] tt) (unmaps_later i.place (Cell step) rest i.unmaps) (λ seen. unmaps_none i.place (exchange (OnBlock job) seen) tt) (λ b e. absurd (seal b e)) (unmaps_none i.place (gives_back (OnBlock job)) tt);
  finds = λ block e. absurd (number block e);
}

-- In its role, with its block at the place that its seal tells, or told where its number is looked at.
playing : (words : Words) (size : ℕ) (content : Content) (job : BlockJob) → IsRequest job → (step : CellStep) (rest : List Want) (answer : Answer) (card : Card) (y : AbstractActor) → IsAt size content (plan_of job (Cell step ∷ rest) answer) card y → Playing words size content job step (plan_of job (Cell step ∷ rest) answer) card y
playing words size content job request (Look (Number b)) rest answer card y i = record {
  place = place_in i.saw.0;
  is = placed size content (place_in i.saw.0) job b rest answer card y i;
  unmaps = by_test (is_worn (OnBlock job) (word_at words.numbers b));
  finds = λ block e seal k. let both : Some seal ≡ Some i.saw.0 = sym k ∙ i.saw.1 in let same : seal ≡ i.saw.0 = cc in ap place_in same;
}
  where
    p : Plan
    p = plan_of job (Cell (Look (Number b)) ∷ rest) answer

    by_test : (t : Bool) → MayUnmap (place_in i.saw.0) (if t then refused p (gives_back (OnBlock job)) Worn else onward p).steps
    by_test true = unmaps_none (place_in i.saw.0) (gives_back (OnBlock job)) tt
    by_test false = subst (λ (ws : List Want). MayUnmap (place_in i.saw.0) ws) (sym i.saw.2) (work_unmaps job request (place_in i.saw.0) (dirty_in i.saw.0))
playing words size content job request (Look (SealWord b)) rest answer card y i = let seal = word_at words.seals b in record {
  place = place_in seal;
  is = placed_seal size content (place_in seal) job b rest answer card y i;
  unmaps = looked (place_in seal) (work job (place_in seal) (dirty_in seal)) (work_unmaps job request (place_in seal) (dirty_in seal));
  finds = λ block e. absurd (cc);
}
  where
    looked : (place : Option CBlock) (ws : List Want) → MayUnmap place ws → MayUnmap place (Cell (Look (Number b)) ∷ ws)
    looked None ws m = m
    looked (Some c) ws m = tt
playing words size content job request (Look Fail) rest answer card y i = keeps words size content job (Look Fail) rest answer card y (λ block e. absurd (cc)) (λ block e. absurd (cc)) i
playing words size content job request (Look (LockWord b)) rest answer card y i = keeps words size content job (Look (LockWord b)) rest answer card y (λ block e. absurd (cc)) (λ block e. absurd (cc)) i
playing words size content job request (Look (CountWord kind)) rest answer card y i = keeps words size content job (Look (CountWord kind)) rest answer card y (λ block e. absurd (cc)) (λ block e. absurd (cc)) i
playing words size content job request (Take access b seen) rest answer card y i = keeps words size content job (Take access b seen) rest answer card y (λ block e. absurd (cc)) (λ block e. absurd (cc)) i
playing words size content job request (Release access b) rest answer card y i = keeps words size content job (Release access b) rest answer card y (λ block e. absurd (cc)) (λ block e. absurd (cc)) i
playing words size content job request (Seal b place dirty) rest answer card y i = keeps words size content job (Seal b place dirty) rest answer card y (λ block e. absurd (cc)) (λ block e. absurd (cc)) i
playing words size content job request (Finish b) rest answer card y i = keeps words size content job (Finish b) rest answer card y (λ block e. absurd (cc)) (λ block e. absurd (cc)) i
playing words size content job request (Count kind) rest answer card y i = keeps words size content job (Count kind) rest answer card y (λ block e. absurd (cc)) (λ block e. absurd (cc)) i
playing words size content job request SetFailed rest answer card y i = keeps words size content job SetFailed rest answer card y (λ block e. absurd (cc)) (λ block e. absurd (cc)) i
playing words size content job request SetSuspended rest answer card y i = keeps words size content job SetSuspended rest answer card y (λ block e. absurd (cc)) (λ block e. absurd (cc)) i

module _ (now : Situation) (blocks : ℕ) (a : ℕ) (x : Actor) (job : Job) (step : CellStep) (s : World) (y : AbstractActor)
    (rule : LockRule blocks now.words (cards_of now.actors)) (ex : slice_get now.actors a ≡ Some x) (ey : slice_get s.actors a ≡ Some y) (g : Agrees now s) where
  -- what its actor did on the words, among all others
  pub among_all : {At : AbstractActor → Type 0} {Is : AbstractJob → Type 0} (plan : Plan) (telling : Telling) (acted : Acted At Is s.actors a s.shared y (words_after now.words step) (after plan (got_of (result_of now.words step))) (card_after now.words step x.card)) → IsTold telling a y.task (records a y.task acted.results) →
      IsDoing now.size now.most acted.failed job (after plan (got_of (result_of now.words step))) (card_after now.words step x.card) x.share (gone y y.task acted.results) → IsDone now.size (words_after now.words step) now.orders (stepped_actor now.words job plan step x) (gone y y.task acted.results) →
      WorldFollows telling a s (record now { words = words_after now.words step }) (stepped_actor now.words job plan step x)
  among_all plan telling acted told doing its =
      let k = acted.same.images in
      goes_on now (words_after now.words step) (failed_stays now.words step _ _ rule.logs.fail) a x (stepped_actor now.words job plan step x) s y g ex ey telling now.devices acted.results (shared_after s.shared y y.task acted.results) told acted.may refl
      (record { failed = acted.failed; has_failed = acted.has_failed; at = doing; below = acted.below; among_others = λ among. acted.among_others }) acted.leads acted.words_agree (acted.same.origin ∙ g.origin) (acted.same.cache ∙ g.cache) k.mode k.committing (k.broken, k.began, k.ended) (k.committed, k.running, k.root_written, k.committed_clean, k.running_clean) (k.mapping, k.blocks) acted.order (λ o h. h) its

  abbrev Goal : Plan → Type 0
  Goal plan = WorldFollows Quietly a s (record now { words = words_after now.words step }) (stepped_actor now.words job plan step x)

  -- a request's
  of_request : (content : Content) (job_on : BlockRange → BlockJob) → ((part : BlockRange) → IsRequest (job_on part) × (range_of (job_on part) ≡ part)) → ((part : BlockRange) → IsPart now.size part → (seal : ℕ) → AreOfBlock now.size part.block.0 (work_of (OnBlock (job_on part)) seal)) →
      ((failed : Bool) (p : Plan) (card : Card) (z : AbstractActor) → IsRequestAt now.size content failed job_on p card z → IsDoing now.size now.most failed job p card x.share z) → MigratesNot job → is_alone y.task ≡ false → (plan : Plan) → Suits blocks plan x.card → want plan ≡ Cell step → (st : StandsFor now.size now.most now.words x y) → IsRequestAt now.size content st.failed job_on plan x.card y → Goal plan
  of_request content job_on request works does other among plan suits next st r = first plan (OnBlock (job_on r.part)) (Cell step) r.job next (λ p. Suits blocks p x.card → AreOfBlock now.size r.part.block.0 p.steps → At p → Goal p)
      (λ rest k suits of at. by rest suits (tells now.size r.part.block.0 step rest of) at) (λ k q. absurd (cc)) suits r.of_block r.at
    where
      At : Plan → Type 0
      At p = IsAt now.size content p x.card y ⊎ HasStopped st.failed p x.card y ⊎ IsLate st.failed p y

      sized : now.size ≡ (range_of (job_on r.part)).block_sectors
      sized = r.is_part.sized ∙ ap (λ (p : BlockRange). p.block_sectors) (sym (request r.part).1)

      by : (rest : List Want) → Suits blocks (plan_of (job_on r.part) (Cell step ∷ rest) plan.answer) x.card → TellsPlace step × AreOfBlock now.size r.part.block.0 rest → At (plan_of (job_on r.part) (Cell step ∷ rest) plan.answer) → Goal (plan_of (job_on r.part) (Cell step ∷ rest) plan.answer)
      by rest suits t at = acts at
        where
          of : Plan
          of = plan_of (job_on r.part) (Cell step ∷ rest) plan.answer

          then_plan : Plan
          then_plan = after of (got_of (result_of now.words step))

          then_card : Card
          then_card = card_after now.words step x.card

          same_job : then_plan.job ≡ OnBlock (job_on r.part)
          same_job = job_stays of (got_of (result_of now.words step))

          role : Option CBlock → Role
          role place = request_role now.size content place (job_on r.part)

          went : (place : Option CBlock) → MayUnmap place then_plan.steps → Acted (IsAs (role place) then_plan then_card) (λ j. Unit {0}) s.actors a s.shared y (words_after now.words step) then_plan then_card → Goal of
          went place unmaps acted = among_all of Quietly acted (acted.results, quiet_are_unnoted y.task acted.results acted.quiet, refl) (does acted.failed then_plan then_card _ (record {
            part = r.part;
            job = same_job;
            is_part = r.is_part;
            of_block = after_cell (AreOfBlock now.size r.part.block.0) (OnBlock (job_on r.part)) now.words step rest plan.answer tt t.1 (λ seen. tt) (λ b e. works r.part r.is_part (word_at now.words.seals b)) tt;
            at = elim acted.at [ inl i ↦ inl (at_request now.size content place (job_on r.part) then_plan then_card _ same_job unmaps i) | inr o ↦ inr (elim o [ inl k ↦ inl k.0 | inr l ↦ inr l ]) ];
          })) (does_none _ _ _ _ _ other)

          over : StoppedAs (λ j. Unit {0}) st.failed of x.card y ⊎ IsLate st.failed of y → Goal of
          over stopped = went (Some (record { 0 = 0 })) tt (acts_over (job_on r.part) (λ j. Unit {0}) now.words s.actors a x.card s.shared y plan.answer g.words_agree st.failed st.has_failed step rest st.below among stopped)

          acts : At of → Goal of
          acts (inl i) = let k = playing now.words now.size content (job_on r.part) (request r.part).0 step rest plan.answer x.card y i in
              went k.place k.unmaps (acts_in_role (job_on r.part) (λ j. Unit {0}) now.words s.actors a x.card s.shared y plan.answer g.words_agree (role k.place) (requests_play now.size content k.place (job_on r.part) (request r.part).0 r.is_part.some sized) tt blocks (cards_of now.actors) step rest rule (card_there now.actors a x ex)
              (takes now s g (role k.place) a x.card step k.finds) t.0 suits k.is)
          acts (inr (inl k)) = over (inl (k, tt))
          acts (inr (inr l)) = over (inr l)

followed : (now : Situation) (blocks : ℕ) (a : ℕ) (x : Actor) (job : Job) (plan : Plan) (step : CellStep) (s : World) (y : AbstractActor) →
    LockRule blocks now.words (cards_of now.actors) → slice_get now.actors a ≡ Some x → slice_get s.actors a ≡ Some y → IsRequestJob job → Suits blocks plan x.card → want plan ≡ Cell step → Agrees now s → (st : StandsFor now.size now.most now.words x y) → x.task ≡ Some (job, plan) → IsDoing now.size now.most st.failed job plan x.card x.share y →
    WorldFollows Quietly a s (record now { words = words_after now.words step }) (stepped_actor now.words job plan step x)
followed now blocks a x (Read extent) plan step s y rule ex ey q suits next g st task d = of_request now blocks a x (Read extent) step s y rule ex ey g [] Reading (λ part. (tt, refl)) (read_of_block now.size) (λ failed p card z r. r) tt (st.among_others (subst IsAmongOthers (sym task) tt)) plan suits next st d
followed now blocks a x (Write extent content) plan step s y rule ex ey q suits next g st task d = of_request now blocks a x (Write extent content) step s y rule ex ey g content write_of (λ part. (is_request part, range_written part)) (written_of_block now.size) (λ failed p card z r. r) tt (st.among_others (subst IsAmongOthers (sym task) tt)) plan suits next st d
followed now blocks a x (Invalidate block) plan step s y rule ex ey q suits next g st task d = of_request now blocks a x (Invalidate block) step s y rule ex ey g [] Invalidating (λ part. (tt, refl)) (invalidating_of_block now.size) (λ failed p card z r. r) tt (st.among_others (subst IsAmongOthers (sym task) tt)) plan suits next st d
followed now blocks a x job plan step s y rule ex ey q suits next g st task d = absurd q

pub cell_steps_followed : CellStepsFollowed
cell_steps_followed now blocks a x job plan step s q rule wants suits =
    let y = own_there now s wants.agrees a x wants.here in
    followed now blocks a x job plan step s y.0 rule wants.here y.1 q suits wants.asks wants.agrees y.2 wants.task (doing_of now.size now.most now.words x y.0 job plan y.2 wants.task)
