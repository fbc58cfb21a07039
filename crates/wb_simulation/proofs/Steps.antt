-- The steps of a read or write of one block are of that block.
use Rattle.std.proofs.Common.{cond, ◌==◌, mod-lt, ◌≡◌, ◌≤◌, ◌<◌, ◌+◌, ◌*◌, ◌%◌, ◌^◌, ◌++◌, ◌∙◌, if◌then◌else◌, ℕ, Bool, true, false, List, [], ◌∷◌, Option, Some, None, refl, sym, ap, subst, Contains}
use Rattle.wb_simulation.specs.Actors.{write_of}
use Rattle.wb_promise.specs.Happenings.{write_job}
use Rattle.wb_types.specs.declared.mode.Mode.TheVariants.{Writeback, Writethrough, Passthrough}
use Rattle.wb_types.specs.declared.mode.Mode.{Mode}
use Rattle.std.proofs.lemmas.Nat.{div-add-mod', mod-mul-add}
use Rattle.wb_types.proofs.Lists.{Contains-first, Contains-behind}
use Rattle.wb_types.specs.declared.extent.Extent.{Extent}
use Rattle.wb_types.specs.declared.mode.Dev.TheVariants.{Cache, Origin}
use Rattle.wb_types.specs.declared.number.CBlock.{CBlock}
use Rattle.wb_words.specs.SharedWords.{flag, place_in, seal_word, dirty_in}
use Rattle.wb_words.specs.SharedWords.{Words, word_at}
use Rattle.wb_words.specs.Effects.{result_of}
use Rattle.wb_words.specs.declared.step.CellResult.TheVariants.{Done as Won, Lost as NotWon}
use Rattle.wb_words.specs.declared.word.Word.TheVariants.{Cell as LockWord, Seal as SealWord, Number, Fail}
use Rattle.wb_types.specs.declared.number.OBlock.{OBlock}
use Rattle.wb_types.specs.declared.refusal.Refusal.TheVariants.{Failed, Worn, Busy}
use Rattle.wb_tasks.specs.Tables.{TaskJob, BlockRange, Reading, Writing, Migrating, OnBlock, place_read, read_step, read_count, write_count, cache_extent, copies, ending, work, Displacing, Invalidating, writes}
use Rattle.wb_tasks.specs.Plan.{work_of, after, got_of, onward, refused, may_take, exchange, is_worn, gives_back, steps_seeing}
use Rattle.wb_tasks.specs.declared.step.Answer.{Answer}
use Rattle.wb_tasks.specs.declared.step.Migration.TheVariants.{Promote, Demote, Clean}
use Rattle.wb_tasks.specs.declared.step.Migration.{Migration}
use Rattle.wb_tasks.specs.declared.step.Want.{Want}
use Rattle.wb_tasks.specs.declared.step.Want.TheVariants.{Cell}
use Rattle.wb_words.specs.declared.word.Access.TheVariants.{Shared, Owned}
use Rattle.wb_words.specs.declared.step.CellStep.{CellStep}
use Rattle.wb_words.specs.declared.step.CellStep.TheVariants.{Look, Take, Release, Finish}
use Rattle.wb_tasks.proofs.Seals.{place_told, seal_tells}
use Rattle.wb_tasks.proofs.Working.{OfSteps, work_has}
use Rattle.wb_refines.specs.Data.{IsInBlock}
use Rattle.wb_refines.specs.Migrations.{Fills, IsWhere}
use Rattle.wb_tasks.specs.declared.step.Got.TheVariants.{Word}
use Rattle.wb_tasks.specs.declared.step.Answer.TheVariants.{Refused as Refuses}
use Rattle.wb_refines.proofs.Cells.{flag_of}
use Rattle.wb_simulation.specs.Steps.{IsOfBlock, IsPart, AreOfBlock, ArePaired, IsNoWrite}

module _ (size : ℕ) (part : BlockRange) (is : IsPart size part) where
  on_origin : (e : Extent) → IsOfBlock size part.block.0 e → IsInBlock size part.block.0 Origin e
  on_origin e o = record { first = sym (ap (λ b. b * size + e.first % size) (sym o.block_is) ∙ div-add-mod' e.first size); room = o.room; some = o.some }

  on_cache : (c : CBlock) (e : Extent) → IsOfBlock size part.block.0 e → IsInBlock size part.block.0 Cache (cache_extent part c e)
  on_cache c e o = record {
    first = sym (div-add-mod' (cache_extent part c e).first size);
    room = subst (λ n. n + e.count ≤ size) (sym same) o.room;
    some = o.some;
  }
    where
      same : (c.0 * part.block_sectors + e.first % part.block_sectors) % size ≡ e.first % size
      same = ap (λ n. (c.0 * n + e.first % n) % size) (sym is.sized) ∙ mod-mul-add c.0 size (e.first % size) (mod-lt e.first is.some)

  -- what a read or write does once it has seen its block's seal
  pub read_of_block : (seal : ℕ) → AreOfBlock size part.block.0 (work_of (OnBlock (Reading part)) seal)
  read_of_block seal = work_has (λ place dirty ws. AreOfBlock size part.block.0 ws) (Reading part) (record { each = λ place dirty e ws m w. each (place_read part.mode place) e ws m w; last = λ place dirty. last (place_read part.mode place) }) (place_in seal) (dirty_in seal)
    where
      each : (place : Option CBlock) (e : Extent) (ws : List Want) → Contains part.extents e → AreOfBlock size part.block.0 ws → AreOfBlock size part.block.0 (read_step part place e ∷ ws)
      each None e ws m w = (on_origin e (is.each e m), w)
      each (Some c) e ws m w = (on_cache c e (is.each e m), w)

      last : (place : Option CBlock) → AreOfBlock size part.block.0 (read_count place ∷ Cell (Release Shared part.block) ∷ [])
      last None = tt
      last (Some c) = tt

  pub write_of_block : (seal : ℕ) → AreOfBlock size part.block.0 (work_of (OnBlock (Writing part)) seal)
  write_of_block seal = work_has Of (Writing part) (record { seal = λ c ws back w t. (t true, w t); home = λ dirty e ws m w t. (on_origin e (is.each e m), w t); cached = λ c dirty e ws sealed m w t. (on_cache c e (is.each e m), w t); through = λ c dirty e ws other m w t. (on_origin e (is.each e m), w t); defers = λ c dirty past t. tt; last = last })
      (place_in seal) (dirty_in seal) (λ d. seal_tells seal d)
    where
      -- where a seal can tell that place
      Of : OfSteps
      Of place dirty ws = ((d : Bool) → place_in (seal_word place d) ≡ place) → AreOfBlock size part.block.0 ws

      last : (place : Option CBlock) (dirty : Bool) → Of place dirty (Cell (Finish part.block) ∷ write_count place ∷ Cell (Release Owned part.block) ∷ [])
      last None dirty t = tt
      last (Some c) dirty t = tt

  -- a write that displaces its block unmaps it, seals it to the origin, and writes there
  origin_writes : (es : List Extent) (ws : List Want) → ((e : Extent) → Contains es e → IsOfBlock size part.block.0 e) → AreOfBlock size part.block.0 ws → AreOfBlock size part.block.0 (writes part (None ∷ []) es ++ ws)
  origin_writes [] ws each w = w
  origin_writes (e ∷ es) ws each w = (on_origin e (each e (Contains-first e es)), origin_writes es ws (λ f m. each f (Contains-behind e es f m)) w)

  displacing_of_block : (place : Option CBlock) (dirty : Bool) → AreOfBlock size part.block.0 (work (Displacing part) place dirty)
  displacing_of_block None dirty = origin_writes part.extents _ is.each tt
  displacing_of_block (Some c) dirty = (refl, origin_writes part.extents _ is.each tt)

  -- what a write does in its mode, and what an invalidation does
  pub written_of_block : (seal : ℕ) → AreOfBlock size part.block.0 (work_of (OnBlock (write_of part)) seal)
  written_of_block seal = by_mode part.mode
    where
      by_mode : (mode : Mode) → AreOfBlock size part.block.0 (work_of (OnBlock (write_job mode part)) seal)
      by_mode Writeback = write_of_block seal
      by_mode Writethrough = write_of_block seal
      by_mode Passthrough = displacing_of_block (place_in seal) (dirty_in seal)

  pub invalidating_of_block : (seal : ℕ) → AreOfBlock size part.block.0 (work_of (OnBlock (Invalidating part)) seal)
  invalidating_of_block seal = by (place_in seal)
    where
      by : (place : Option CBlock) → AreOfBlock size part.block.0 (work (Invalidating part) place (dirty_in seal))
      by None = tt
      by (Some c) = (refl, tt)

-- ---- what a migration has still to do

-- It is of the block, and each extent is written once it was read, the next step being no write.
abbrev pub AreCopies : ℕ → ℕ → List Want → Type 0
AreCopies size block steps = AreOfBlock size block steps × ArePaired size steps × IsNoWrite steps

-- What is left after a step on the words is what was left, or one of these.
pub after_cell : (P : List Want → Type 0) (job : TaskJob) (words : Words) (step : CellStep) (ws : List Want) (answer : Answer) → P [] → P ws → ((seen : ℕ) → P (exchange job seen)) → ((block : OBlock) → step ≡ Look (SealWord block) → P (Cell (Look (Number block)) ∷ work_of job (word_at words.seals block))) → P (gives_back job) →
    P (after (record { job = job; steps = Cell step ∷ ws; answer = answer }) (got_of (result_of words step))).steps
after_cell P job words (Look Fail) ws answer none stays exchanges works back = by_test (words.fail == 0)
  where
    by_test : (t : Bool) → P (if t then onward (record { job = job; steps = Cell (Look Fail) ∷ ws; answer = answer }) else refused (record { job = job; steps = Cell (Look Fail) ∷ ws; answer = answer }) [] Failed).steps
    by_test true = stays
    by_test false = none
after_cell P job words (Look (LockWord b)) ws answer none stays exchanges works back = by_test (may_take job (word_at words.cells b))
  where
    by_test : (t : Bool) → P (if t then record (record { job = job; steps = Cell (Look (LockWord b)) ∷ ws; answer = answer }) { steps = exchange job (word_at words.cells b) } else refused (record { job = job; steps = Cell (Look (LockWord b)) ∷ ws; answer = answer }) [] Busy).steps
    by_test true = exchanges (word_at words.cells b)
    by_test false = none
after_cell P job words (Look (SealWord b)) ws answer none stays exchanges works back = by_job job (works b refl)
  where
    by_job : (job : TaskJob) → P (Cell (Look (Number b)) ∷ work_of job (word_at words.seals b)) → P (steps_seeing job b (word_at words.seals b) ws)
    by_job (OnBlock job) w = w
    by_job job w = stays
after_cell P job words (Look (Number b)) ws answer none stays exchanges works back = by_test (is_worn job (word_at words.numbers b))
  where
    by_test : (t : Bool) → P (if t then refused (record { job = job; steps = Cell (Look (Number b)) ∷ ws; answer = answer }) (gives_back job) Worn else onward (record { job = job; steps = Cell (Look (Number b)) ∷ ws; answer = answer })).steps
    by_test true = back
    by_test false = stays
after_cell P job words (Take access b seen) ws answer none stays exchanges works back = by_test (word_at words.cells b == seen)
  where
    by_test : (t : Bool) → P (after (record { job = job; steps = Cell (Take access b seen) ∷ ws; answer = answer }) (got_of (if t then Won else NotWon))).steps
    by_test true = stays
    by_test false = none
after_cell P job words step ws answer none stays exchanges works back = stays

-- where the target has failed, whoever looks at the fail word is refused
pub finds_failed : (words : Words) (job : TaskJob) (ws : List Want) (answer : Answer) → flag words.fail ≡ true → after (record { job = job; steps = Cell (Look Fail) ∷ ws; answer = answer }) (Word words.fail) ≡ record { job = job; steps = []; answer = Refuses Failed }
finds_failed words job ws answer f = by_test (words.fail == 0) (flag_of words.fail (words.fail == 0) refl)
  where
    by_test : (t : Bool) → flag words.fail ≡ cond t false true → (if t then onward (record { job = job; steps = Cell (Look Fail) ∷ ws; answer = answer }) else refused (record { job = job; steps = Cell (Look Fail) ∷ ws; answer = answer }) [] Failed) ≡ record { job = job; steps = []; answer = Refuses Failed }
    by_test true e = let bad : true ≡ false = sym f ∙ e in absurd (cc)
    by_test false e = refl

module _ (size : ℕ) (part : BlockRange) (is : IsPart size part) where
  abbrev Copies : List Want → Type 0
  Copies ws = AreCopies size part.block.0 ws

  abbrev AreOf : List Extent → Type 0
  AreOf es = (e : Extent) → Contains es e → IsOfBlock size part.block.0 e

  -- an extent of the origin, and where it is in the cache
  paired_extent : (c : CBlock) (e : Extent) → (cache_extent part c e).first % size ≡ e.first % size
  paired_extent c e = ap (λ n. (c.0 * n + e.first % n) % size) (sym is.sized) ∙ mod-mul-add c.0 size (e.first % size) (mod-lt e.first is.some)

  copied_in : (c : CBlock) (es : List Extent) (ws : List Want) → AreOf es → Copies ws → Copies (copies part None (Some c) es ++ ws)
  copied_in c [] ws each w = w
  copied_in c (e ∷ es) ws each w =
      let later = copied_in c es ws (λ f m. each f (Contains-behind e es f m)) w in
      let mine = each e (Contains-first e es) in
      ((on_origin size part is e mine, (on_cache size part is c e mine, later.0)), ((refl, paired_extent c e), (later.2, later.1)), tt)

  copied_home : (c : CBlock) (es : List Extent) (ws : List Want) → AreOf es → Copies ws → Copies (copies part (Some c) None es ++ ws)
  copied_home c [] ws each w = w
  copied_home c (e ∷ es) ws each w =
      let later = copied_home c es ws (λ f m. each f (Contains-behind e es f m)) w in
      let mine = each e (Contains-first e es) in
      ((on_cache size part is c e mine, (on_origin size part is e mine, later.0)), ((refl, sym (paired_extent c e)), (later.2, later.1)), tt)

  demotion_works : (c : CBlock) (dirty : Bool) → Copies (work (Migrating Demote part) (Some c) dirty)
  demotion_works c true = copied_home c part.extents (ending Demote part.block (Some c)) is.each ((refl, tt), (tt, tt, (tt, (tt, tt))), tt)
  demotion_works c false = ((refl, tt), (tt, tt, (tt, (tt, tt))), tt)

  cleaning_works : (c : CBlock) → c.0 < 2 ^ 32 → (dirty : Bool) → Copies (work (Migrating Clean part) (Some c) dirty)
  cleaning_works c small true = copied_home c part.extents (ending Clean part.block (Some c)) is.each ((place_told c.0 false small, tt), (tt, (tt, (tt, tt))), tt)
  cleaning_works c small false = ((place_told c.0 false small, tt), (tt, (tt, (tt, tt))), tt)

  -- what a migration does once it has its block, where it is to find it
  pub migration_works : (migration : Migration) (c : CBlock) → Fills migration c → c.0 < 2 ^ 32 → (seal : ℕ) → IsWhere migration c (place_in seal) → Copies (work_of (OnBlock (Migrating migration part)) seal)
  migration_works (Promote k) c fills small seal where_is = copied_in k part.extents (ending (Promote k) part.block (place_in seal)) is.each ((place_told k.0 false (subst (λ (v : CBlock). v.0 < 2 ^ 32) (sym fills) small), tt), (tt, tt, (tt, (tt, tt))), tt)
  migration_works Demote c fills small seal where_is = subst (λ (place : Option CBlock). Copies (work (Migrating Demote part) place (dirty_in seal))) (sym where_is) (demotion_works c (dirty_in seal))
  migration_works Clean c fills small seal where_is = subst (λ (place : Option CBlock). Copies (work (Migrating Clean part) place (dirty_in seal))) (sym where_is) (cleaning_works c small (dirty_in seal))
