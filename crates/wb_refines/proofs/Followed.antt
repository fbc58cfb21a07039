-- Each step of a job on a block on the shared words is followed, by what its actor has where so much is left.
use Rattle.std.proofs.Common.{arith, length, ◌≡◌, ◌<◌, ◌==◌, ◌∙◌, ◌⊎◌, cond, inl, inr, ℕ, Bool, true, false, if◌then◌else◌, List, [], ◌∷◌, ◌++◌, map, Option, Some, None, refl, sym, ap, subst, slice_get}
use Rattle.wb_types.specs.declared.number.OBlock.{OBlock}
use Rattle.wb_types.specs.declared.number.CBlock.{CBlock}
use Rattle.wb_types.specs.declared.mode.Mode.{Mode}
use Rattle.wb_types.specs.declared.mode.Mode.TheVariants.{Writeback, Writethrough, Passthrough}
use Rattle.wb_types.specs.declared.extent.Extent.{Extent}
use Rattle.wb_types.specs.declared.refusal.Refusal.{Refusal}
use Rattle.wb_types.specs.declared.refusal.Refusal.TheVariants.{Busy, Failed, Worn}
use Rattle.wb_disk.specs.Device.{Content}
use Rattle.wb_contents.specs.Volume.{changed}
use Rattle.wb_words.specs.declared.word.Access.{Access}
use Rattle.wb_words.specs.declared.word.Access.TheVariants.{Shared as Sharing, Owned}
use Rattle.wb_words.specs.declared.word.Word.TheVariants.{Cell as LockWord, Seal as SealWord, Number, Count as CountWord, Fail}
use Rattle.wb_words.specs.declared.word.Kind.{Kind}
use Rattle.wb_words.specs.declared.card.Hold.TheVariants.{Nothing as HoldsNothing, Held as HoldsBlock}
use Rattle.wb_words.specs.declared.card.Card.{Card}
use Rattle.wb_words.specs.declared.step.CellStep.{CellStep}
use Rattle.wb_words.specs.declared.step.CellStep.TheVariants.{Look, Take, Release, Seal, Finish, Count, SetFailed, SetSuspended}
use Rattle.wb_words.specs.declared.step.CellResult.TheVariants.{Done as Won, Lost as NotWon}
use Rattle.wb_words.specs.SharedWords.{Words, word_at, flag, taken, with_cell, place_in, dirty_in, fail_word, seal_word}
use Rattle.wb_words.specs.Rule.{LockRule}
use Rattle.wb_words.specs.Cards.{looked, holding, losing, finishing, counting, sealing}
use Rattle.wb_words.specs.Effects.{result_of, words_after, card_after}
use Rattle.wb_words.proofs.Totals.{at_slice}
use Rattle.wb_tasks.specs.Tables.{BlockJob, BlockRange, Reading, Writing, Displacing, Invalidating, Migrating, OnBlock, access_of, work, place_read, places_written, read_step, read_count, write_count, writes, dirtying, writing, copies}
use Rattle.wb_tasks.specs.Plan.{Plan, after, got_of, may_take, exchange, is_worn, gives_back, work_of}
use Rattle.wb_tasks.specs.Ready.{Has, IsRest, IsParting, block_of}
use Rattle.wb_tasks.specs.declared.step.Answer.{Answer}
use Rattle.wb_tasks.specs.declared.step.Answer.TheVariants.{Done as AnswersDone, Refused as Refuses}
use Rattle.wb_tasks.specs.declared.step.DeskStep.TheVariants.{ReleaseOrder}
use Rattle.wb_tasks.specs.declared.step.Migration.TheVariants.{Promote, Demote, Clean}
use Rattle.wb_tasks.specs.declared.step.Want.{Want}
use Rattle.wb_tasks.specs.declared.step.Want.TheVariants.{Cell, Desk}
use Rattle.wb_link.specs.Tables.{Done, Lost, Flag, Seen, Look_fail, Look_seal, Set_failed, abstract_acquire, abstract_work as work_there, Want as AbstractWant, Answer as AbstractAnswer, Busy as AnsweredBusy, Failed as AnsweredFailed}
use Rattle.wb_link.specs.World.{Shared, Held, Nothing, AbstractActor}
use Rattle.wb_refines.specs.Translation.{number_of, cell_wants}
use Rattle.wb_refines.specs.Going.{WinsBeside}
use Rattle.wb_refines.specs.Models.{SealAgrees, WordsAgree, HasStopped, TellsPlace, held_of, held_for, SawSeal, plan_of}
use Rattle.wb_refines.specs.Roles.{Role, acting, IsAs, Plays, claim, DoesToo, TakesBeside, StepsFollowed}
use Rattle.wb_refines.proofs.Cells.{words_else, same_else, flag_of, own_seal, IsPlain, held_plain, saw_plain, flag_set, counted_agree, sealed_agree}
use Rattle.wb_refines.proofs.Holding.{holds_nothing, keeps_owned}
use Rattle.wb_refines.proofs.Locks.{wins}

copies_plain : (part : BlockRange) (from to : Option CBlock) (es : List Extent) (ws : List Want) → IsPlain ws → IsPlain (copies part from to es ++ ws)
copies_plain part from to [] ws p = p
copies_plain part None to (e ∷ es) ws p = tt
copies_plain part (Some c) to (e ∷ es) ws p = tt

-- so it is where a job begins its work
work_plain : (job : BlockJob) (place : Option CBlock) (dirty : Bool) → IsPlain (work job place dirty)
work_plain (Reading part) place dirty = by_extents part.extents (place_read part.mode place)
  where
    by_extents : (es : List Extent) (place : Option CBlock) → IsPlain (map (read_step part place) es ++ read_count place ∷ Cell (Release Sharing part.block) ∷ [])
    by_extents [] None = tt
    by_extents [] (Some c) = tt
    by_extents (e ∷ es) None = tt
    by_extents (e ∷ es) (Some c) = tt
work_plain (Writing part) place dirty = by_writing part.mode place dirty
  where
    by_mode : (mode : Mode) (es : List Extent) (place : Option CBlock) (dirty : Bool) → IsPlain (dirtying mode part.block place dirty ++ writes part (places_written mode place) es ++ Cell (Finish part.block) ∷ write_count place ∷ Cell (Release Owned part.block) ∷ [])
    by_mode Writeback [] None dirty = tt
    by_mode Writeback (e ∷ es) None dirty = tt
    by_mode Writeback es (Some c) false = tt
    by_mode Writeback [] (Some c) true = tt
    by_mode Writeback (e ∷ es) (Some c) true = tt
    by_mode Writethrough [] place dirty = tt
    by_mode Writethrough (e ∷ es) None dirty = tt
    by_mode Writethrough (e ∷ es) (Some c) dirty = tt
    by_mode Passthrough [] place dirty = tt
    by_mode Passthrough (e ∷ es) place dirty = tt

    by_writing : (mode : Mode) (place : Option CBlock) (dirty : Bool) → IsPlain (writing mode part place dirty)
    by_writing Writeback place dirty = by_mode Writeback part.extents place dirty
    by_writing Writethrough place dirty = by_mode Writethrough part.extents place dirty
    by_writing Passthrough None dirty = by_mode Passthrough part.extents None dirty
    by_writing Passthrough (Some c) dirty = tt
work_plain (Displacing part) (Some c) dirty = tt
work_plain (Displacing part) None dirty = by_extents part.extents
  where
    by_extents : (es : List Extent) → IsPlain (writes part (None ∷ []) es ++ Cell (Finish part.block) ∷ write_count None ∷ Cell (Release Owned part.block) ∷ [])
    by_extents [] = tt
    by_extents (e ∷ es) = tt
work_plain (Invalidating part) None dirty = tt
work_plain (Invalidating part) (Some c) dirty = tt
work_plain (Migrating (Promote c) part) place dirty = copies_plain part None (Some c) part.extents _ tt
work_plain (Migrating Demote part) (Some c) true = copies_plain part (Some c) None part.extents _ tt
work_plain (Migrating Clean part) (Some c) true = copies_plain part (Some c) None part.extents _ tt
work_plain (Migrating Demote part) None dirty = tt
work_plain (Migrating Demote part) (Some c) false = tt
work_plain (Migrating Clean part) None dirty = tt
work_plain (Migrating Clean part) (Some c) false = tt

-- where it has work still, and where it parts from its block
pub rest_plain : (job : BlockJob) (next : Bool) (ws : List Want) → IsRest job next ws → IsPlain ws
rest_plain job next (Cell (Look (SealWord b)) ∷ ws) r = absurd r
rest_plain job next (Cell (Look (Number b)) ∷ ws) r = absurd r
rest_plain job next (Cell SetFailed ∷ ws) r = absurd r
rest_plain job next ws r = tt

parting_plain : (job : BlockJob) (ws : List Want) → IsParting job ws → IsPlain ws
parting_plain job [] p = tt
parting_plain job (Desk (ReleaseOrder b) ∷ []) p = tt
parting_plain job ws p = absurd p

-- Of a job that plays this role each step on the words is followed.
module _ (role : Role) (job : BlockJob) (plays : Plays role job) (actors : List AbstractActor) (a : ℕ) (s : Shared) (words : Words) (card : Card) (answer : Answer) (told : AbstractAnswer) (buffer : ℕ → Content) (alike : role.alike answer told) (w : WordsAgree words s) where
  abbrev block : OBlock
  block = block_of job

  -- the actor with these steps to come
  abbrev on : List AbstractWant → Held → AbstractActor
  on steps held = acting role steps told held buffer

  abbrev Goal : CellStep → List Want → Type 0
  Goal step ws = DoesToo role actors a s (on (role.wants (Cell step ∷ ws)) (held_for (Cell step ∷ ws) card)) (words_after words step) (after (plan_of job (Cell step ∷ ws) answer) (got_of (result_of words step))) (card_after words step card)

  -- what its steps are there
  by : {steps steps' : List AbstractWant} {held : Held} {words' : Words} {plan' : Plan} {card' : Card} → steps ≡ steps' → DoesToo role actors a s (on steps' held) words' plan' card' → DoesToo role actors a s (on steps held) words' plan' card'
  by {steps} {steps'} {held} {words'} {plan'} {card'} e f = subst (λ (us : List AbstractWant). DoesToo role actors a s (on us held) words' plan' card') (sym e) f

  -- it does nothing there
  still : {steps : List AbstractWant} {held : Held} (words' : Words) (ws' : List Want) (card' : Card) → WordsAgree words' s → steps ≡ role.wants ws' → held ≡ held_for ws' card' → SawSeal (plan_of job ws' answer) ws' card' → DoesToo role actors a s (on steps held) words' (plan_of job ws' answer) card'
  still words' ws' card' w' same holds saw = record { results = []; may = tt; quiet = tt; words_agree = w'; same = same_else s; order = refl; at = inl (record { answer = told; buffer = buffer; is = λ i. on (same i) (holds i); alike = alike; saw = saw }) }

  -- it is lost there, and stands so then
  lost : (access : Access) (held : Held) (words' : Words) (plan' : Plan) (card' : Card) → WordsAgree words' s → IsAs role plan' card' (acting role [] AnsweredBusy held buffer) ⊎ ((k : HasStopped (flag words'.fail) plan' card' (acting role [] AnsweredBusy held buffer)) × (k.script.job ≡ role.job)) →
      DoesToo role actors a s (on (claim access block ∷ Look_seal block.0 ∷ []) held) words' plan' card'
  lost Sharing held words' plan' card' w' at = record { results = Lost ∷ []; may = (tt, tt, tt); quiet = (tt, tt); words_agree = w'; same = same_else s; order = refl; at = at }
  lost Owned held words' plan' card' w' at = record { results = Lost ∷ []; may = (tt, tt, tt); quiet = (tt, tt); words_agree = w'; same = same_else s; order = refl; at = at }

  -- so where it does not get its block
  is_lost : {steps : List AbstractWant} (words' : Words) (card' : Card) → WordsAgree words' s → steps ≡ abstract_acquire role.job → card'.hold ≡ card.hold → DoesToo role actors a s (on steps (held_of card.hold)) words' (plan_of job [] (Refuses Busy)) card'
  is_lost words' card' w' e h = by (e ∙ plays.begins) (lost (access_of job) (held_of card.hold) words' (plan_of job [] (Refuses Busy)) card' w' (inl (record { answer = AnsweredBusy; buffer = buffer; is = λ i. acting role (sym plays.ends i) AnsweredBusy (held_of (sym h i)) buffer; alike = plays.busy; saw = tt })))

  -- the fail word is looked at
  looks_fail : Goal (Look Fail) (Cell (Look (LockWord block)) ∷ [])
  looks_fail = by (plays.steps (Look Fail) _) (by_test (words.fail == 0) (flag_of words.fail (words.fail == 0) refl))
    where
      ws : List Want
      ws = Cell (Look (LockWord block)) ∷ []

      by_test : (t : Bool) → flag words.fail ≡ cond t false true → DoesToo role actors a s (on (Look_fail ∷ role.wants ws) (held_of card.hold)) words (if t then plan_of job ws answer else plan_of job [] (Refuses Failed)) (looked Fail words.fail card)
      by_test true f = record { results = Flag false ∷ []; may = (sym (w.fail ∙ f), tt, tt); quiet = (tt, tt); words_agree = w; same = same_else s; order = refl; at = inl (record { answer = told; buffer = buffer; is = refl; alike = alike; saw = tt }) }
      by_test false f = record { results = Flag true ∷ []; may = (sym (w.fail ∙ f), tt, tt); quiet = (tt, tt); words_agree = w; same = same_else s; order = refl; at = inl (record { answer = AnsweredFailed; buffer = buffer; is = λ i. acting role (sym plays.ends i) AnsweredFailed (held_of card.hold) buffer; alike = plays.failed; saw = tt }) }

  -- The lock word rules the exchange out, or it is tried next.
  looks_lock : Goal (Look (LockWord block)) []
  looks_lock = by_test (may_take (OnBlock job) (word_at words.cells block))
    where
      by_test : (t : Bool) → DoesToo role actors a s (on (role.wants (Cell (Look (LockWord block)) ∷ [])) (held_of card.hold)) words (if t then plan_of job (exchange (OnBlock job) (word_at words.cells block)) answer else plan_of job [] (Refuses Busy)) (looked (LockWord block) (word_at words.cells block) card)
      by_test true = still words (exchange (OnBlock job) (word_at words.cells block)) (looked (LockWord block) (word_at words.cells block) card) w (plays.steps (Look (LockWord block)) [] ∙ sym (plays.steps (Take (access_of job) block (word_at words.cells block)) _ ∙ plays.steps (Look (SealWord block)) [])) refl tt
      by_test false = is_lost words (looked (LockWord block) (word_at words.cells block) card) w (plays.steps (Look (LockWord block)) []) refl

  -- The exchange is won, and the abstract actor has still to take the block; or it is lost.
  takes : (access : Access) (seen : ℕ) → card.hold ≡ HoldsNothing → Goal (Take access block seen) (Cell (Look (SealWord block)) ∷ [])
  takes access seen h = by (plays.steps (Take access block seen) _) (by_test (word_at words.cells block == seen))
    where
      ws : List Want
      ws = Cell (Look (SealWord block)) ∷ []

      by_test : (t : Bool) → DoesToo role actors a s (on (role.wants ws) (held_of card.hold)) (if t then with_cell words block (taken access seen) else words) (after (plan_of job (Cell (Take access block seen) ∷ ws) answer) (got_of (if t then Won else NotWon))) (if t then holding (HoldsBlock access block) card else losing block (word_at words.cells block) card)
      by_test true = still (with_cell words block (taken access seen)) ws (holding (HoldsBlock access block) card) (record { fail = w.fail; seals = w.seals }) refl (ap held_of h) tt
      by_test false = is_lost words (losing block (word_at words.cells block) card) w (plays.steps (Look (SealWord block)) []) refl

  -- the seal is looked at; the abstract actor sees it with the number
  looks_seal : (access : Access) (ws : List Want) → card.hold ≡ HoldsBlock access block → Goal (Look (SealWord block)) ws
  looks_seal access ws h = subst (λ (told : Answer). DoesToo role actors a s (on (role.wants (Cell (Look (SealWord block)) ∷ ws)) (held_for (Cell (Look (SealWord block)) ∷ ws) card)) words (plan_of job (Cell (Look (Number block)) ∷ work_of (OnBlock job) (word_at words.seals block)) told) (looked (SealWord block) (word_at words.seals block) card))
      (sym (plays.undeferred (word_at words.seals block) answer)) (still words (Cell (Look (Number block)) ∷ work_of (OnBlock job) (word_at words.seals block)) (looked (SealWord block) (word_at words.seals block) card) w (plays.steps (Look (SealWord block)) ws ∙ sym (plays.steps (Look (Number block)) _)) refl (word_at words.seals block, own_seal access block (word_at words.seals block) card h, refl))

  -- The number is looked at: a worn write gives its block back, which the abstract actor has not taken; else that takes it, and
  -- sees the seal.
  looks_number : (seen : ℕ) → role.finds seen → card.hold ≡ HoldsBlock (access_of job) block → word_at words.seals block ≡ seen → WinsBeside actors a Nothing (claim (access_of job) block) Done → Goal (Look (Number block)) (work_of (OnBlock job) seen)
  looks_number seen finds h k wins = by (plays.steps (Look (Number block)) _ ∙ plays.begins) (by_test (is_worn (OnBlock job) (word_at words.numbers block)))
    where
      ws : List Want
      ws = work_of (OnBlock job) seen

      card' : Card
      card' = looked (Number block) (word_at words.numbers block) card

      plain : IsPlain ws
      plain = work_plain job (place_in seen) (dirty_in seen)

      same_work : work_there role.job (s.seals block.0) ≡ role.wants ws
      same_work = plays.works seen (s.seals block.0) finds (subst (λ (n : ℕ). SealAgrees n (s.seals block.0)) k (w.seals block))

      won : (access : Access) → card.hold ≡ HoldsBlock access block → WinsBeside actors a Nothing (claim access block) Done → DoesToo role actors a s (on (claim access block ∷ Look_seal block.0 ∷ []) Nothing) words (plan_of job ws answer) card'
      won Sharing h wins = record { results = Done ∷ Seen (s.seals block.0) ∷ []; may = (tt, wins, (refl, tt, tt)); quiet = (tt, (tt, tt)); words_agree = w; same = same_else s; order = refl; at = inl (record { answer = told; buffer = buffer; is = λ i. on (same_work i) ((ap held_of (sym h) ∙ sym (held_plain ws card' plain)) i); alike = alike; saw = saw_plain (plan_of job ws answer) ws card' plain }) }
      won Owned h wins = record { results = Done ∷ Seen (s.seals block.0) ∷ []; may = (tt, wins, (refl, tt, tt)); quiet = (tt, (tt, tt)); words_agree = w; same = same_else s; order = refl; at = inl (record { answer = told; buffer = buffer; is = λ i. on (same_work i) ((ap held_of (sym h) ∙ sym (held_plain ws card' plain)) i); alike = alike; saw = saw_plain (plan_of job ws answer) ws card' plain }) }

      by_test : (t : Bool) → DoesToo role actors a s (on (claim (access_of job) block ∷ Look_seal block.0 ∷ []) Nothing) words (if t then plan_of job (gives_back (OnBlock job)) (Refuses Worn) else plan_of job ws answer) card'
      by_test true = lost (access_of job) Nothing words _ card' w (inr (record { over = tt; refused = λ f. absurd (cc); script = record { job = role.job; steps = []; answer = AnsweredBusy }; task = refl; nothing = refl; undone = λ f. absurd (cc); among_others = plays.among_others; leads = refl; below = holds_nothing _ _ refl; free = refl }, refl))
      by_test false = won (access_of job) h wins

  -- the failed bit is set, and what is owned is kept
  fails : (refusal : Refusal) (failures suspensions : ℕ) → answer ≡ Refuses refusal → words.fail ≡ fail_word failures suspensions → Goal SetFailed []
  fails refusal f z is e = by (plays.steps SetFailed [] ∙ ap (λ (later : List AbstractWant). Set_failed ∷ later) plays.ends) (record {
    results = Done ∷ [];
    may = (tt, tt, tt);
    quiet = (tt, tt);
    words_agree = record { fail = sym (flag_set false words.fail f z e); seals = w.seals };
    same = words_else s s.seals true;
    order = refl;
    at = inr (record { over = tt; refused = λ k. let bad : Refuses refusal ≡ AnswersDone = sym is ∙ k in absurd (cc); script = _; task = refl; nothing = refl; undone = plays.undone refusal told (subst (λ (v : Answer). role.alike v told) is alike); among_others = plays.among_others; leads = refl; below = keeps_owned _ card refl; free = inr (flag_set false words.fail f z e) }, refl);
  })

  -- a block is given back
  releases : (access : Access) (b : OBlock) (ws : List Want) → IsParting job ws → Goal (Release access b) ws
  releases access b ws p = by (plays.steps (Release access b) ws) (back access)
    where
      its : IsAs role (plan_of job ws answer) (holding HoldsNothing card) (on (role.wants ws) Nothing)
      its = record { answer = told; buffer = buffer; is = λ i. on (role.wants ws) (sym (held_plain ws (holding HoldsNothing card) (parting_plain job ws p)) i); alike = alike; saw = saw_plain (plan_of job ws answer) ws _ (parting_plain job ws p) }

      back : (access : Access) → DoesToo role actors a s (on (cell_wants role.job (Release access b) (role.wants ws)) (held_of card.hold)) (words_after words (Release access b)) (plan_of job ws answer) (holding HoldsNothing card)
      back Sharing = record { results = Done ∷ []; may = (tt, tt, tt); quiet = (tt, tt); words_agree = record { fail = w.fail; seals = w.seals }; same = same_else s; order = refl; at = inl its }
      back Owned = record { results = Done ∷ []; may = (tt, tt, tt); quiet = (tt, tt); words_agree = record { fail = w.fail; seals = w.seals }; same = same_else s; order = refl; at = inl its }

  -- a write is finished, and what was done is counted; nothing of the abstract world is
  finishes : (b : OBlock) (ws : List Want) → IsPlain ws → Goal (Finish b) ws
  finishes b ws p = still (words_after words (Finish b)) ws (finishing b card) (record { fail = w.fail; seals = w.seals }) (plays.steps (Finish b) ws) (sym (held_plain ws (finishing b card) p)) (saw_plain (plan_of job ws answer) ws _ p)

  counts : (kind : Kind) (ws : List Want) → IsPlain ws → Goal (Count kind) ws
  counts kind ws p = still (words_after words (Count kind)) ws (counting kind card) (counted_agree words kind s w) (plays.steps (Count kind) ws) (sym (held_plain ws (counting kind card) p)) (saw_plain (plan_of job ws answer) ws _ p)

  -- a block is sealed
  seals : (b : OBlock) (place : Option CBlock) (dirty : Bool) (ws : List Want) → IsPlain ws → b.0 < length words.seals → place_in (seal_word place dirty) ≡ place → Goal (Seal b place dirty) ws
  seals b place dirty ws p inside tells = by (plays.steps (Seal b place dirty) ws) (record {
    results = Done ∷ [];
    may = (tt, tt, tt);
    quiet = (tt, tt);
    words_agree = sealed_agree words s b place dirty inside tells w;
    same = words_else s (changed s.seals b.0 (record { location = number_of place; dirty = dirty })) s.fail;
    order = refl;
    at = inl (record { answer = told; buffer = buffer; is = λ i. on (role.wants ws) (sym (held_plain ws (sealing b (seal_word place dirty) card) p) i); alike = alike; saw = saw_plain (plan_of job ws answer) ws _ p });
  })

  -- by what its actor has where so much is left
  cell : (blocks : ℕ) (cards : List Card) → LockRule blocks words cards → slice_get cards a ≡ Some card → block.0 < blocks → (step : CellStep) (ws : List Want) → TakesBeside role step actors cards a card → TellsPlace step → Has job card (Cell step ∷ ws) → SawSeal (plan_of job (Cell step ∷ ws) answer) (Cell step ∷ ws) card → Goal step ws
  cell blocks cards rule here inside (Look Fail) ws below t h saw = subst (λ (v : List Want). Goal (Look Fail) v) (sym h.1) looks_fail
  cell blocks cards rule here inside (Look (LockWord b)) ws below t h saw = subst (λ (v : List Want). Goal (Look (LockWord b)) v) (sym h.2) (subst (λ (v : OBlock). Goal (Look (LockWord v)) []) (sym h.1) looks_lock)
  cell blocks cards rule here inside (Look (SealWord b)) ws below t h saw = subst (λ (v : OBlock). Goal (Look (SealWord v)) ws) (sym h.1) (looks_seal (access_of job) ws h.0)
  cell blocks cards rule here inside (Look (Number b)) ws below t h saw = subst (λ (v : List Want). Goal (Look (Number b)) v) (sym saw.2) (subst (λ (v : OBlock). Goal (Look (Number v)) (work_of (OnBlock job) saw.0)) (sym h.1)
      (looks_number saw.0 (below.1 saw.0 saw.1) h.0 ((rule.knows a card (at_slice cards a card here)).seal (access_of job) block saw.0 h.0 saw.1) (wins blocks words cards actors a card block rule inside here below.0 (access_of job) h.0)))
  cell blocks cards rule here inside (Look (CountWord kind)) ws below t h saw = absurd h.1.1
  cell blocks cards rule here inside (Take access b seen) ws below t h saw = subst (λ (v : List Want). Goal (Take access b seen) v) (sym h.4) (subst (λ (v : OBlock). Goal (Take access v seen) (Cell (Look (SealWord v)) ∷ [])) (sym h.2) (takes access seen h.0))
  cell blocks cards rule here inside (Release access b) ws below t h saw = releases access b ws h.1.1.2
  cell blocks cards rule here inside (Seal b place dirty) ws below t h saw = seals b place dirty ws (rest_plain job h.1.0 ws h.1.1.2) (let same : b.0 ≡ block.0 = ap (λ (v : OBlock). v.0) h.1.1.0 in let wide = rule.seals_are in omega (arith, same, wide, inside)) t
  cell blocks cards rule here inside (Finish b) ws below t h saw = finishes b ws (rest_plain job false ws h.1.1.3)
  cell blocks cards rule here inside (Count kind) ws below t h saw = counts kind ws (rest_plain job h.1.0 ws h.1.1)
  cell blocks cards rule here inside SetFailed ws below t h saw = subst (λ (v : List Want). Goal SetFailed v) (sym h.1) (fails saw.0 _ _ saw.1 rule.logs.fail)
  cell blocks cards rule here inside SetSuspended ws below t h saw = absurd h.1.1

pub cell_steps_followed : (role : Role) (job : BlockJob) → Plays role job → StepsFollowed role job
cell_steps_followed role job plays blocks words cards actors a card s y step later answer rule here below w t suits is =
    subst (λ (v : AbstractActor). DoesToo role actors a s v (words_after words step) (after (plan_of job (Cell step ∷ later) answer) (got_of (result_of words step))) (card_after words step card)) (sym is.is)
    (cell role job plays actors a s words card answer is.answer is.buffer is.alike w blocks cards rule here suits.0 step later below t suits.1 is.saw)
