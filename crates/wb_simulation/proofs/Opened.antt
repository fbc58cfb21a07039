-- The words of a target that an opening has made tell what the tree that it read has.
use Rattle.std.proofs.Common.{◌≡◌, ◌≢◌, ◌<◌, ◌≤◌, ◌+◌, ◌^◌, ◌==◌, ◌∙◌, inl, ℕ, zero, suc, Bool, true, false, cond, if◌then◌else◌, List, [], ◌∷◌, Option, Some, None, length, replicate, refl, sym, ap, subst, arith, slice_get, slice_set, slice_index_or, unwrap_or, inr}
use Rattle.std.proofs.lemmas.Bool.{eqb-true, eq-eqb}
use Rattle.std.proofs.lemmas.List.{length-replicate, length-set}
use Rattle.wb_types.specs.declared.entry.Entry.{Entry}
use Rattle.wb_types.specs.declared.number.OBlock.{OBlock}
use Rattle.wb_words.specs.declared.word.Access.TheVariants.{Owned}
use Rattle.wb_words.specs.declared.step.CellStep.TheVariants.{Take, Seal as SealBlock, Release}
use Rattle.wb_words.specs.SharedWords.{Words, word_at, fresh_words, seal_word, flag, with_cell, taken}
use Rattle.wb_words.specs.Effects.{words_after}
use Rattle.wb_tree.specs.Mapping.{IsMapping}
use Rattle.wb_link.specs.World.{Shared, AbstractActor, abstract_resting as idle}
use Rattle.wb_contents.proofs.Lists.{replicated, none_there}
use Rattle.wb_refines.specs.Models.{SealAgrees}
use Rattle.wb_refines.specs.Translation.{number_of}
use Rattle.wb_refines.proofs.Cells.{tells_dirty}
use Rattle.wb_refines.proofs.Holding.{holds_nothing}
use Rattle.wb_promise.specs.Effects.{sealing_steps, words_by}
use Rattle.wb_promise.specs.Headline.{cached_from, place_of}
use Rattle.wb_simulation.specs.Actors.{StandsFor, IsBusyAt}
use Rattle.wb_promise.specs.declared.job.Job.TheVariants.{Migrate}
use Rattle.wb_link.specs.Tables.{Order as AbstractOrder}
use Rattle.wb_simulation.specs.Carried.{live_there}
use Rattle.wb_simulation.specs.Worlds.{OrdersAgree, OrderIsThere}
use Rattle.wb_promise.specs.States.{Actor}
use Rattle.wb_link.specs.Openings.{opened_on}
use Rattle.wb_simulation.specs.Opened.{OpenedFollowed, is_clean_in, TakesClean}
use Rattle.wb_runs.proofs.Sealing.{fresh_taken}
use Rattle.wb_tasks.proofs.Seals.{place_told}

-- ---- the seals once each entry was sealed

abbrev sealed : Bool → ℕ → List (Option Entry) → List ℕ → List ℕ
sealed clean c [] seals = seals
sealed clean c (None ∷ entries) seals = sealed clean (suc c) entries seals
sealed clean c (Some entry ∷ entries) seals = sealed clean (suc c) entries (slice_set seals entry.origin.0 (seal_word (Some (record { 0 = c })) (cond clean entry.dirty true)))

-- a block that is taken changes neither seals nor failed bit
taking_keeps : (words : Words) (block : OBlock) → ((words_after words (Take Owned block 0)).seals ≡ words.seals) × ((words_after words (Take Owned block 0)).fail ≡ words.fail)
taking_keeps words block = by (word_at words.cells block == 0)
  where
    by : (t : Bool) → ((if t then with_cell words block (taken Owned 0) else words).seals ≡ words.seals) × ((if t then with_cell words block (taken Owned 0) else words).fail ≡ words.fail)
    by true = (refl, refl)
    by false = (refl, refl)

-- the words after one entry's three steps
abbrev sealed_one : Words → OBlock → ℕ → Bool → Words
sealed_one words block c dirty = words_after (words_after (words_after words (Take Owned block 0)) (SealBlock block (Some (record { 0 = c })) dirty)) (Release Owned block)

seals_are : (clean : Bool) (entries : List (Option Entry)) (c : ℕ) (words : Words) → (words_by words (sealing_steps clean c entries)).seals ≡ sealed clean c entries words.seals
seals_are clean [] c words = refl
seals_are clean (None ∷ entries) c words = seals_are clean entries (suc c) words
seals_are clean (Some entry ∷ entries) c words =
    seals_are clean entries (suc c) (sealed_one words entry.origin c (cond clean entry.dirty true))
    ∙ ap (λ (seals : List ℕ). sealed clean (suc c) entries (slice_set seals entry.origin.0 (seal_word (Some (record { 0 = c })) (cond clean entry.dirty true)))) (taking_keeps words entry.origin).0

fail_is : (clean : Bool) (entries : List (Option Entry)) (c : ℕ) (words : Words) → (words_by words (sealing_steps clean c entries)).fail ≡ words.fail
fail_is clean [] c words = refl
fail_is clean (None ∷ entries) c words = fail_is clean entries (suc c) words
fail_is clean (Some entry ∷ entries) c words = fail_is clean entries (suc c) (sealed_one words entry.origin c (cond clean entry.dirty true)) ∙ (taking_keeps words entry.origin).1

-- ---- of one block

set_beside : (seals : List ℕ) (i : ℕ) (v : ℕ) (block : OBlock) → block.0 ≢ i → word_at (slice_set seals i v) block ≡ word_at seals block
set_beside seals i v block n = by seals i block.0 n
  where
    by : (xs : List ℕ) (i k : ℕ) → k ≢ i → unwrap_or (slice_get (slice_set xs i v) k) 0 ≡ unwrap_or (slice_get xs k) 0
    by (x ∷ xs) zero zero n = absurd (n refl)
    by (x ∷ xs) (suc i) (suc k) n = by xs i k (λ e. n (ap suc e))
    by xs i k n = refl

set_here : (seals : List ℕ) (v : ℕ) (block : OBlock) → block.0 < length seals → word_at (slice_set seals block.0 v) block ≡ v
set_here seals v block l = by seals block.0 l
  where
    by : (xs : List ℕ) (k : ℕ) → k < length xs → unwrap_or (slice_get (slice_set xs k v) k) 0 ≡ v
    by [] k l = absurd (omega (arith, l))
    by (x ∷ xs) zero l = refl
    by (x ∷ xs) (suc k) l = by xs k (omega (arith, l))

-- a block that no entry has keeps its word
unsealed : (clean : Bool) (entries : List (Option Entry)) (c : ℕ) (seals : List ℕ) (block : OBlock) → cached_from block.0 c entries ≡ None → word_at (sealed clean c entries seals) block ≡ word_at seals block
unsealed clean [] c seals block e = refl
unsealed clean (None ∷ entries) c seals block e = unsealed clean entries (suc c) seals block e
unsealed clean (Some entry ∷ entries) c seals block e =
    by (entry.origin.0 == block.0) refl e (unsealed clean entries (suc c) (slice_set seals entry.origin.0 (seal_word (Some (record { 0 = c })) (cond clean entry.dirty true))) block)
  where
    word : ℕ
    word = seal_word (Some (record { 0 = c })) (cond clean entry.dirty true)

    by : (t : Bool) → (entry.origin.0 == block.0) ≡ t → (if t then Some c else cached_from block.0 (suc c) entries) ≡ None →
        (cached_from block.0 (suc c) entries ≡ None → word_at (sealed clean (suc c) entries (slice_set seals entry.origin.0 word)) block ≡ word_at (slice_set seals entry.origin.0 word) block) → word_at (sealed clean c (Some entry ∷ entries) seals) block ≡ word_at seals block
    by true same e later = absurd (cc)
    by false same e later = later e ∙ set_beside seals entry.origin.0 word block (λ k. let bad : true ≡ false = sym (eq-eqb entry.origin.0 block.0 (sym k)) ∙ same in absurd (cc))

-- no block stands in two entries
abbrev AreOnce : List (Option Entry) → Type 0
AreOnce [] = Unit {0}
AreOnce (None ∷ entries) = AreOnce entries
AreOnce (Some entry ∷ entries) = ((c : ℕ) → cached_from entry.origin.0 c entries ≡ None) × AreOnce entries

-- what a seal's bit is, where an entry has this one
bits : (clean dirty : Bool) → cond clean dirty true ≡ cond (cond clean (cond dirty false true) false) false true
bits true true = refl
bits clean dirty = refl

-- a block that one has is sealed there, clean where its entry is and all are not taken as dirty
pub record SealedAt (word k : ℕ) (clean its : Bool) : Type 0 where
  pub dirty : Bool
  pub is : word ≡ seal_word (Some (record { 0 = k })) dirty
  pub same : dirty ≡ cond (cond clean its false) false true

sealed_there : (clean : Bool) (entries : List (Option Entry)) (c : ℕ) (seals : List ℕ) (block : OBlock) (k : ℕ) → AreOnce entries → block.0 < length seals → cached_from block.0 c entries ≡ Some k → SealedAt (word_at (sealed clean c entries seals) block) k clean (is_clean_in entries block.0)
sealed_there clean [] c seals block k once l e = absurd (cc)
sealed_there clean (None ∷ entries) c seals block k once l e = sealed_there clean entries (suc c) seals block k once l e
sealed_there clean (Some entry ∷ entries) c seals block k once l e =
    by (entry.origin.0 == block.0) refl e (sealed_there clean entries (suc c) (slice_set seals entry.origin.0 (seal_word (Some (record { 0 = c })) (cond clean entry.dirty true))) block k once.1
    (subst (λ (n : ℕ). block.0 < n) (sym (length-set seals entry.origin.0 (seal_word (Some (record { 0 = c })) (cond clean entry.dirty true)))) l))
  where
    word : ℕ
    word = seal_word (Some (record { 0 = c })) (cond clean entry.dirty true)

    by : (t : Bool) → (entry.origin.0 == block.0) ≡ t → (if t then Some c else cached_from block.0 (suc c) entries) ≡ Some k →
        (cached_from block.0 (suc c) entries ≡ Some k → SealedAt (word_at (sealed clean (suc c) entries (slice_set seals entry.origin.0 word)) block) k clean (is_clean_in entries block.0)) → SealedAt (word_at (sealed clean c (Some entry ∷ entries) seals) block) k clean (if t then cond entry.dirty false true else is_clean_in entries block.0)
    by true same e later =
        let at : entry.origin.0 ≡ block.0 = eqb-true entry.origin.0 block.0 same in
        let is : c ≡ k = cc in
        record {
          dirty = cond clean entry.dirty true;
          is = unsealed clean entries (suc c) (slice_set seals entry.origin.0 word) block (subst (λ (b : ℕ). cached_from b (suc c) entries ≡ None) at (once.0 (suc c)))
              ∙ ap (λ (i : ℕ). word_at (slice_set seals i word) block) at ∙ set_here seals word block l ∙ ap (λ (i : ℕ). seal_word (Some (record { 0 = i })) (cond clean entry.dirty true)) is;
          same = bits clean entry.dirty;
        }
    by false same e later = later e

-- ---- what a mapping says of its entries

pub found_at : (entries : List (Option Entry)) (block c k : ℕ) → cached_from block c entries ≡ Some k → (i : ℕ) × (entry : Entry) × (k ≡ c + i) × (i < length entries) × (slice_index_or entries i None ≡ Some entry) × (entry.origin.0 ≡ block)
found_at [] block c k e = absurd (cc)
found_at (None ∷ entries) block c k e = let f = found_at entries block (suc c) k e in (suc f.0, f.1, (let is = f.2 in omega (arith, is)), (let l = f.3 in omega (arith, l)), f.4, f.5)
found_at (Some entry ∷ entries) block c k e = by (entry.origin.0 == block) refl e (found_at entries block (suc c) k)
  where
    by : (t : Bool) → (entry.origin.0 == block) ≡ t → (if t then Some c else cached_from block (suc c) entries) ≡ Some k → (cached_from block (suc c) entries ≡ Some k → (i : ℕ) × (found : Entry) × (k ≡ suc c + i) × (i < length entries) × (slice_index_or entries i None ≡ Some found) × (found.origin.0 ≡ block)) →
        (i : ℕ) × (found : Entry) × (k ≡ c + i) × (i < length (Some entry ∷ entries)) × (slice_index_or (Some entry ∷ entries) i None ≡ Some found) × (found.origin.0 ≡ block)
    by true same e later = let is : c ≡ k = cc in (zero, entry, omega (arith, is), omega arith, refl, eqb-true entry.origin.0 block same)
    by false same e later = let f = later e in (suc f.0, f.1, (let is = f.2 in omega (arith, is)), (let l = f.3 in omega (arith, l)), f.4, f.5)

once_of : (entries : List (Option Entry)) → ((i j : ℕ) (entry other : Entry) → slice_index_or entries i None ≡ Some entry → slice_index_or entries j None ≡ Some other → entry.origin ≡ other.origin → i ≡ j) → AreOnce entries
once_of [] once = tt
once_of (None ∷ entries) once = once_of entries (λ i j entry other e f same. let is = once (suc i) (suc j) entry other e f same in omega (arith, is))
once_of (Some entry ∷ entries) once = (
  λ c. none_there (cached_from entry.origin.0 c entries) (λ k e.
      let f = found_at entries entry.origin.0 c k e in
      let same : entry.origin ≡ f.1.origin = (λ i. record { 0 = sym f.5 i }) in
      let is = once zero (suc f.0) entry f.1 refl f.4 same in omega (arith, is)),
  once_of entries (λ i j e1 e2 f g same. let is = once (suc i) (suc j) e1 e2 f g same in omega (arith, is)),
)

-- ---- what a seal tells

-- no block is sealed at first
pub fresh_at : (blocks : ℕ) (block : OBlock) → word_at (replicate blocks 0) block ≡ 0
fresh_at blocks block = fresh_taken blocks block.0

-- and tells that it is on the origin
pub nowhere : (dirty : Bool) → SealAgrees 0 (record { location = None; dirty = dirty })
nowhere dirty = record { location = refl; dirty = λ c e. let bad : None ≡ Some c = e in absurd (cc) }

module _ (origin_blocks cache_blocks : ℕ) (clean : Bool) (entries : List (Option Entry)) (learnt : ℕ → Bool) (mapping : IsMapping cache_blocks origin_blocks entries) (few : cache_blocks ≤ 2 ^ 32) (takes : TakesClean clean entries learnt) where
  seal_is : (block : OBlock) → SealAgrees (word_at (sealed clean 0 entries (replicate origin_blocks 0)) block) (record { location = place_of entries block.0; dirty = cond (learnt block.0) false true })
  seal_is block = by (place_of entries block.0) refl
    where
      by : (o : Option ℕ) → place_of entries block.0 ≡ o → SealAgrees (word_at (sealed clean 0 entries (replicate origin_blocks 0)) block) (record { location = o; dirty = cond (learnt block.0) false true })
      by None e = subst (λ (w : ℕ). SealAgrees w (record { location = None; dirty = cond (learnt block.0) false true })) (sym (unsealed clean entries 0 (replicate origin_blocks 0) block e ∙ fresh_at origin_blocks block)) (nowhere (cond (learnt block.0) false true))
      by (Some k) e =
          let f = found_at entries block.0 0 k e in
          let inside : block.0 < origin_blocks = subst (λ (b : ℕ). b < origin_blocks) f.5 (mapping.within f.0 f.1 f.4).0 in
          let s = sealed_there clean entries 0 (replicate origin_blocks 0) block k (once_of entries mapping.once) (subst (λ (n : ℕ). block.0 < n) (sym (length-replicate origin_blocks 0)) inside) e in
          let small : k < 2 ^ 32 = (let is = f.2 in let l = f.3 in let size = mapping.size in omega (arith, is, l, size, few)) in
          let told = place_told k s.dirty small in
          subst (λ (w : ℕ). SealAgrees w (record { location = Some k; dirty = cond (learnt block.0) false true })) (sym s.is) (record {
            location = sym (ap number_of told);
            dirty = λ c place. sym (tells_dirty (Some (record { 0 = k })) s.dirty ∙ s.same ∙ ap (λ (t : Bool). cond t false true) (sym (takes block.0 k e)));
          })

-- nobody has an order, nor is any aside, and none lives
pub no_orders : (size : ℕ) (words : Words) (actors : List Actor) (caches many : ℕ) (t : Shared) → ((a : ℕ) (x : Actor) → slice_get actors a ≡ Some x → x.task ≡ None) → OrdersAgree size words (replicate caches None) actors (record { shared = t; actors = replicate many idle; waiting = λ k. None })
no_orders size words actors caches many t rest = record {
  live = λ c o e p at. let none = replicated caches c None o e in (λ l. let bad : None ≡ Some p = ap (live_there t.mapping c) none ∙ l in absurd (cc), λ h. absurd (nothing p h));
  once = λ a y p e f. absurd (nobody a y p e f);
  waits = λ k p w. absurd (let bad : None ≡ Some p = w in cc);
  ours = λ a x y p e f h. absurd (nobody a y p f h);
  carried = λ a x y migration block plan e f t. absurd (let bad : None ≡ Some (Migrate migration block, plan) = sym (rest a x e) ∙ t in cc);
}
  where
    nobody : (a : ℕ) (y : AbstractActor) (p : AbstractOrder) → slice_get (replicate many idle) a ≡ Some y → y.order ≡ Some p → ⊥
    nobody a y p e h = let bad : None ≡ Some p = ap (λ (v : AbstractActor). v.order) (replicated many a idle y e) ∙ h in absurd (cc)

    nothing : (p : AbstractOrder) → OrderIsThere (record { shared = t; actors = replicate many idle; waiting = λ k. None }) p → ⊥
    nothing p (inl w) = let bad : None ≡ Some p = w in absurd (cc)
    nothing p (inr h) = nobody h.0 h.1 p h.2 h.3

pub opened_followed : OpenedFollowed
opened_followed mode size most origin_blocks cache_blocks clean entries learnt blocks s devices actors mapping few located takes origin cache rest = record {
  words_agree = record {
    fail = sym (ap flag (fail_is clean entries 0 (fresh_words origin_blocks)));
    seals = λ block. subst (λ (w : List ℕ). SealAgrees (word_at w block) (record { location = learnt.locations block.0; dirty = cond (learnt.clean block.0) false true })) (sym (seals_are clean entries 0 (fresh_words origin_blocks)))
        (subst (λ (l : Option ℕ). SealAgrees (word_at (sealed clean 0 entries (replicate origin_blocks 0)) block) (record { location = l; dirty = cond (learnt.clean block.0) false true })) (sym (ap (λ (f : ℕ → Option ℕ). f block.0) located))
        (seal_is origin_blocks cache_blocks clean entries learnt.clean mapping few takes block));
  };
  origin = origin;
  cache = cache;
  mode = refl;
  commits = record { runs = refl; broken = refl; ended = refl; began = refl };
  broken = λ e. absurd (cc);
  led = λ a y e l. absurd (nobody a y e l);
  whole = λ a y e l u. absurd (nobody a y e l);
  one_leads = λ a b y z e f l m. absurd (nobody a y e l);
  many = length-replicate (length actors) idle;
  each = λ a x y e f. subst (λ (v : AbstractActor). StandsFor size most words x v) (replicated (length actors) a idle y f) (record {
    failed = false;
    has_failed = λ e. absurd (cc);
    at = subst (λ t. IsBusyAt size most false t x.card x.share idle) (sym (rest a x e)) (refl, inl (record { task = refl; held = refl; leads = refl }));
    below = holds_nothing idle x.card refl;
    among_others = λ among. refl;
  });
  orders_agree = no_orders size words actors cache_blocks (length actors) (opened_on s mode learnt blocks) rest;
}
  where
    words : Words
    words = words_by (fresh_words origin_blocks) (sealing_steps clean 0 entries)

    nobody : (a : ℕ) (y : AbstractActor) → slice_get (replicate (length actors) idle) a ≡ Some y → y.leads ≡ true → ⊥
    nobody a y e l = let same = replicated (length actors) a idle y e in let bad : true ≡ false = sym l ∙ ap (λ (v : AbstractActor). v.leads) (sym same) in absurd (cc)
