-- Each seal that is left of a task is right when it comes; and whoever owns a block has it alone.
use Rattle.std.proofs.Common.{◌≡◌, ◌≢◌, ◌∙◌, ◌<◌, ◌==◌, ◌++◌, if◌then◌else◌, ℕ, Bool, true, false, cond, List, [], ◌∷◌, Option, Some, None, refl, sym, ap, subst, arith, slice_get}
use Rattle.std.proofs.lemmas.Bool.{eq-eqb}
use Rattle.wb_types.specs.declared.extent.Extent.{Extent}
use Rattle.wb_types.specs.declared.number.OBlock.{OBlock}
use Rattle.wb_types.specs.declared.number.CBlock.{CBlock}
use Rattle.wb_types.specs.declared.refusal.Refusal.TheVariants.{Worn}
use Rattle.wb_words.specs.declared.word.Access.{Access}
use Rattle.wb_words.specs.declared.word.Access.TheVariants.{Shared, Owned}
use Rattle.wb_words.specs.declared.word.Word.TheVariants.{Cell as LockWord, Seal as SealWord, Number, Fail}
use Rattle.wb_words.specs.declared.card.Hold.{Hold}
use Rattle.wb_words.specs.declared.card.Hold.TheVariants.{Nothing, Held}
use Rattle.wb_words.specs.declared.card.Card.{Card}
use Rattle.wb_words.specs.declared.step.CellResult.TheVariants.{Done as Won, Lost as NotWon}
use Rattle.wb_words.specs.declared.step.CellStep.{CellStep}
use Rattle.wb_words.specs.declared.step.CellStep.TheVariants.{Look, Take, Release, Seal, Finish, SetFailed, SetSuspended}
use Rattle.wb_words.specs.SharedWords.{Words, word_at, place_in, dirty_in}
use Rattle.wb_words.specs.Cards.{owners, sharers, owns, shares}
use Rattle.wb_words.specs.Effects.{result_of, card_after}
use Rattle.wb_words.specs.Rule.{LockRule}
use Rattle.wb_words.proofs.Totals.{total_at, total_two}
use Rattle.wb_tasks.specs.Tables.{BlockRange, BlockJob, Reading, Writing, Displacing, Invalidating, Migrating, OnBlock, place_read, read_step, read_count, write_count, copies, ending, work}
use Rattle.wb_tasks.proofs.Working.{work_has}
use Rattle.wb_tasks.specs.Plan.{Plan, after, refused, got_of, gives_back, gives_up, is_worn}
use Rattle.wb_tasks.specs.Ready.{Has, block_of}
use Rattle.wb_tasks.specs.declared.step.DeskStep.TheVariants.{Map, Unmap}
use Rattle.wb_tasks.specs.declared.step.Answer.{Answer}
use Rattle.wb_tasks.specs.declared.step.Migration.{Migration}
use Rattle.wb_tasks.specs.declared.step.Migration.TheVariants.{Promote, Demote, Clean}
use Rattle.wb_tasks.specs.declared.step.Want.{Want}
use Rattle.wb_tasks.specs.declared.step.Want.TheVariants.{Cell, Desk}
use Rattle.wb_promise.specs.States.{Actor}
use Rattle.wb_runs.specs.Holding.{cards_of}
use Rattle.wb_promise.specs.Sealed.{number_of}
use Rattle.wb_runs.proofs.Ruling.{card_at}

-- ---- steps

-- the next step seals this block at this place
abbrev pub IsSealed : OBlock → Option CBlock → List Want → Type 0
IsSealed b place (Cell (Seal block at dirty) ∷ later) = (block ≡ b) × (at ≡ place)
IsSealed b place steps = ⊥

-- Where the desk has the block here, each seal tells where the desk has it when it comes; and who maps or unmaps the block seals it next.
abbrev pub SealsRight : Option ℕ → List Want → Type 0
SealsRight here [] = Unit {0}
SealsRight here (Cell (Seal block place dirty) ∷ later) = (number_of place ≡ here) × SealsRight here later
SealsRight here (Desk (Map block c) ∷ later) = IsSealed block (Some c) later × SealsRight (Some c.0) later
SealsRight here (Desk (Unmap block) ∷ later) = IsSealed block None later × SealsRight None later
SealsRight here (next ∷ later) = SealsRight here later

module _ (here : Option ℕ) (part : BlockRange) where
  copies_right : (from to : Option CBlock) (es : List Extent) (ws : List Want) → SealsRight here ws → SealsRight here (copies part from to es ++ ws)
  copies_right from to [] ws r = r
  copies_right None None (e ∷ es) ws r = copies_right None None es ws r
  copies_right None (Some c) (e ∷ es) ws r = copies_right None (Some c) es ws r
  copies_right (Some c) None (e ∷ es) ws r = copies_right (Some c) None es ws r
  copies_right (Some c) (Some d) (e ∷ es) ws r = copies_right (Some c) (Some d) es ws r

  -- what is done with a block that is where its seal says
  reading_right : (place : Option CBlock) (dirty : Bool) → SealsRight here (work (Reading part) place dirty)
  reading_right = work_has (λ place dirty ws. SealsRight here ws) (Reading part) (record { each = λ place dirty e ws m r. each (place_read part.mode place) e ws r; last = λ place dirty. last (place_read part.mode place) })
    where
      each : (place : Option CBlock) (e : Extent) (ws : List Want) → SealsRight here ws → SealsRight here (read_step part place e ∷ ws)
      each None e ws r = r
      each (Some c) e ws r = r

      last : (place : Option CBlock) → SealsRight here (read_count place ∷ Cell (Release Shared part.block) ∷ [])
      last None = tt
      last (Some c) = tt

  writing_right : (place : Option CBlock) (dirty : Bool) → number_of place ≡ here → SealsRight here (work (Writing part) place dirty)
  writing_right = work_has (λ place dirty ws. number_of place ≡ here → SealsRight here ws) (Writing part)
      (record { seal = λ c ws back r e. (e, r e); home = λ dirty x ws m r. r; cached = λ c dirty x ws sealed m r. r; through = λ c dirty x ws other m r. r; defers = λ c dirty past e. tt; last = last })
    where
      last : (place : Option CBlock) (dirty : Bool) → number_of place ≡ here → SealsRight here (Cell (Finish part.block) ∷ write_count place ∷ Cell (Release Owned part.block) ∷ [])
      last None dirty e = tt
      last (Some c) dirty e = tt

  -- or was taken out of the cache
  displacing_right : (place : Option CBlock) (dirty : Bool) → SealsRight (number_of place) (work (Displacing part) place dirty)
  displacing_right = work_has (λ place dirty ws. SealsRight (number_of place) ws) (Displacing part) (record { drops = λ c dirty ws r. ((refl, refl), (refl, r)); each = λ dirty x ws m r. r; last = last })
    where
      last : (was : Option CBlock) (dirty : Bool) → SealsRight None (Cell (Finish part.block) ∷ write_count was ∷ Cell (Release Owned part.block) ∷ [])
      last None dirty = tt
      last (Some c) dirty = tt

  invalidating_right : (place : Option CBlock) (dirty : Bool) → SealsRight (number_of place) (work (Invalidating part) place dirty)
  invalidating_right = work_has (λ place dirty ws. SealsRight (number_of place) ws) (Invalidating part) (record { drops = λ c dirty ws r. ((refl, refl), (refl, r)); last = λ dirty. tt })

  ending_right : (m : Migration) (place : Option CBlock) → number_of place ≡ here → SealsRight here (ending m part.block place)
  ending_right (Promote c) place e = ((refl, refl), (refl, tt))
  ending_right Demote place e = ((refl, refl), (refl, tt))
  ending_right Clean place e = (e, tt)

  migrating_right : (m : Migration) (place : Option CBlock) (dirty : Bool) → number_of place ≡ here → SealsRight here (work (Migrating m part) place dirty)
  migrating_right (Promote c) place dirty e = copies_right None (Some c) part.extents (ending (Promote c) part.block place) (ending_right (Promote c) place e)
  migrating_right Demote (Some c) true e = copies_right (Some c) None part.extents (ending Demote part.block (Some c)) (ending_right Demote (Some c) e)
  migrating_right Clean (Some c) true e = copies_right (Some c) None part.extents (ending Clean part.block (Some c)) (ending_right Clean (Some c) e)
  migrating_right m place dirty e = ending_right m place e

work_right : (here : Option ℕ) (job : BlockJob) (place : Option CBlock) (dirty : Bool) → number_of place ≡ here → SealsRight here (work job place dirty)
work_right here (Reading part) place dirty e = reading_right here part place dirty
work_right here (Writing part) place dirty e = writing_right here part place dirty e
work_right here (Displacing part) place dirty e = subst (λ (h : Option ℕ). SealsRight h (work (Displacing part) place dirty)) e (displacing_right here part place dirty)
work_right here (Invalidating part) place dirty e = subst (λ (h : Option ℕ). SealsRight h (work (Invalidating part) place dirty)) e (invalidating_right here part place dirty)
work_right here (Migrating m part) place dirty e = migrating_right here part m place dirty e

-- what a job lets go seals nothing
pub lets_go_right : (here : Option ℕ) (job : BlockJob) (access : Access) (b : OBlock) → SealsRight here (Cell (Release access b) ∷ gives_up job)
lets_go_right here (Reading part) access b = tt
lets_go_right here job access b = tt

-- ---- a step on the words

-- what is left of who holds a block is right where the desk has that block
abbrev pub RightWhere : (ℕ → Option ℕ) → Card → List Want → Type 0
RightWhere places card steps = (access : Access) (b : OBlock) → card.hold ≡ Held access b → SealsRight (places b.0) steps

nothing_held : (hold : Hold) (access : Access) (b : OBlock) → hold ≡ Nothing → hold ≡ Held access b → ⊥
nothing_held hold access b n h = let bad : Nothing ≡ Held access b = sym n ∙ h in cc

module _ (places : ℕ → Option ℕ) (job : BlockJob) (words : Words) (card : Card) (answer : Answer) where
  abbrev of : List Want → Plan
  of steps = record { job = OnBlock job; steps = steps; answer = answer }

  abbrev Then : CellStep → List Want → Type 0
  Then step ws = RightWhere places (card_after words step card) (after (of (Cell step ∷ ws)) (got_of (result_of words step))).steps

  pub on_words : (step : CellStep) (ws : List Want) → Has job card (Cell step ∷ ws) → ((b : OBlock) → step ≡ Look (SealWord b) → number_of (place_in (word_at words.seals b)) ≡ places b.0) → RightWhere places card (Cell step ∷ ws) → Then step ws
  on_words (Look Fail) ws h sees r access b e = absurd (nothing_held card.hold access b h.0 e)
  on_words (Look (LockWord l)) ws h sees r access b e = absurd (nothing_held card.hold access b h.0 e)
  on_words (Look (SealWord s)) ws h sees r access b e =
      let both : Held (Rattle.wb_tasks.specs.Tables.access_of job) (block_of job) ≡ Held access b = sym h.0 ∙ e in
      let same : b ≡ s = (let is : block_of job ≡ b = cc in sym is ∙ sym h.1) in
      work_right (places b.0) job (place_in (word_at words.seals s)) (dirty_in (word_at words.seals s)) (sees s refl ∙ ap (λ (o : OBlock). places o.0) (sym same))
  on_words (Look (Number o)) ws h sees r access b e = by_test (is_worn (OnBlock job) (word_at words.numbers o))
    where
      by_test : (t : Bool) → SealsRight (places b.0) (if t then refused (of (Cell (Look (Number o)) ∷ ws)) (gives_back (OnBlock job)) Worn else of ws).steps
      by_test true = tt
      by_test false = r access b e
  on_words (Take taken o seen) ws h sees r access b e = by_test (word_at words.cells o == seen)
    where
      by_test : (t : Bool) → SealsRight (places b.0) (after (of (Cell (Take taken o seen) ∷ ws)) (got_of (if t then Won else NotWon))).steps
      by_test true = subst (λ (us : List Want). SealsRight (places b.0) us) (sym h.4) tt
      by_test false = tt
  on_words (Release given o) ws h sees r access b e = absurd (nothing_held Nothing access b refl e)
  on_words (Seal o place dirty) ws h sees r access b e = (r access b e).1
  on_words SetFailed ws h sees r access b e = subst (λ (us : List Want). SealsRight (places b.0) us) (sym h.1) tt
  on_words SetSuspended ws h sees r access b e = absurd h.1.1
  on_words step ws h sees r access b e = r access b e

-- ---- who owns a block has it alone

owns_one : (hold : Hold) (b : OBlock) → hold ≡ Held Owned b → owns b.0 hold ≡ 1
owns_one hold b e = ap (λ (h : Hold). owns b.0 h) e ∙ ap (λ (t : Bool). cond t 1 0) (eq-eqb b.0 b.0 refl)

shares_one : (hold : Hold) (b : OBlock) → hold ≡ Held Shared b → shares b.0 hold ≡ 1
shares_one hold b e = ap (λ (h : Hold). shares b.0 h) e ∙ ap (λ (t : Bool). cond t 1 0) (eq-eqb b.0 b.0 refl)

pub owned_alone : (blocks : ℕ) (words : Words) (actors : List Actor) → LockRule blocks words (cards_of actors) → (a c : ℕ) (x z : Actor) → slice_get actors a ≡ Some x → slice_get actors c ≡ Some z → c ≢ a → (b : OBlock) → b.0 < blocks → x.card.hold ≡ Held Owned b → (access : Access) → z.card.hold ≡ Held access b → ⊥
owned_alone blocks words actors rule a c x z ex ez n b less hx Owned hz =
    let lock = rule.cells b.0 less in
    let two = total_two (owners b.0) (cards_of actors) c a z.card x.card n (card_at actors c z ez) (card_at actors a x ex) in
    let one = lock.one in
    omega (arith, two, one, owns_one x.card.hold b hx, owns_one z.card.hold b hz)
owned_alone blocks words actors rule a c x z ex ez n b less hx Shared hz =
    let lock = rule.cells b.0 less in
    let own = total_at (owners b.0) (cards_of actors) a x.card (card_at actors a x ex) in
    let share = total_at (sharers b.0) (cards_of actors) c z.card (card_at actors c z ez) in
    let here = owns_one x.card.hold b hx in
    let none = lock.apart (omega (arith, own, here)) in
    omega (arith, share, none, shares_one z.card.hold b hz)
