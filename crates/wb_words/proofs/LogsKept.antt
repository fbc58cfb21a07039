-- Each kind of step keeps the rule of the logs: what a card notes is no more than what all cards did.
use Rattle.std.proofs.Common.{◌≡◌, ◌≢◌, ℕ, zero, suc, ◌+◌, ◌<◌, ◌≤◌, Bool, true, false, cond, eqb, eq-eqb, ne_eqb, List, [], ◌∷◌, length, set, sym, refl, ap, ◌∙◌, subst, ⊎_elim, inl, inr, arith, Some, bit_or}
use mathlib.Core.Logic.{dite}
use mathlib.Core.Option.{some}
use native.Mathlib.Decide.{ℕ_discrete}
use lib.ListN.{get_elem?}
use Rattle.wb_types.specs.declared.number.OBlock.{OBlock}
use Rattle.wb_words.specs.declared.word.Access.TheVariants.{Shared, Owned}
use Rattle.wb_words.specs.declared.word.Kind.{Kind}
use Rattle.wb_words.specs.declared.word.FailBit.{FailBit}
use Rattle.wb_words.specs.declared.word.FailBit.TheVariants.{Failed, Suspended}
use Rattle.wb_words.specs.declared.word.Word.{Word as WordName}
use Rattle.wb_words.specs.declared.word.Word.TheVariants.{Cell as LockWord, Seal as SealWord, Number, Count as CountWord, Fail}
use Rattle.wb_words.specs.SharedWords.{Words, word_at, value_of, put, fail_word, bit_word, IsWord}
use Rattle.wb_words.specs.declared.card.Hold.{Hold}
use Rattle.wb_words.specs.declared.card.Hold.TheVariants.{Nothing, Held}
use Rattle.wb_words.specs.declared.card.Card.{Card}
use Rattle.wb_words.specs.Cards.{blank_card, total, is_block, is_seal, seal_times, seal_count, newest_seal, is_there, is_newest, with_seal, is_share, is_own, is_bit, is_count, shares, owns, sharers, owners, counts_of, stores, seals_on, ends, shared_of, owned_of, times_set, looked, losing, holding, sealing, finishing, counting, failing_at, failing}
use Rattle.wb_words.specs.Rule.{block, WasLock, WasSeal, IsLast, MayHaveFound, LooksAllowed, LossesAllowed, NotesWhatWas, LogRule, LockRule}
use Rattle.wb_words.proofs.Totals.{total-set, total-same, total_at, at_set, total_most}
use Rattle.wb_words.proofs.Values.{word_at_set, word_at_else}

-- One card did no less than another, and all cards no less than all others.
pub record NoLess (c d : Card) : Type 0 where
  pub shared : (b : ℕ) → shared_of b c ≤ shared_of b d
  pub owned : (b : ℕ) → owned_of b c ≤ owned_of b d
  pub stored : (b x : ℕ) → stores b x c ≤ stores b x d
  pub counts : (kind : Kind) → counts_of kind c ≤ counts_of kind d
  pub bits : (bit : FailBit) → times_set bit c ≤ times_set bit d

pub record AllNoLess (cs ds : List Card) : Type 0 where
  pub shared : (b : ℕ) → total (shared_of b) cs ≤ total (shared_of b) ds
  pub owned : (b : ℕ) → total (owned_of b) cs ≤ total (owned_of b) ds
  pub stored : (b x : ℕ) → total (stores b x) cs ≤ total (stores b x) ds
  pub counts : (kind : Kind) → total (counts_of kind) cs ≤ total (counts_of kind) ds
  pub bits : (bit : FailBit) → total (times_set bit) cs ≤ total (times_set bit) ds

set_up : (f : Card → ℕ) (cs : List Card) (p : ℕ) (c d : Card) → get_elem? cs p ≡ some c → f c ≤ f d → total f cs ≤ total f (set cs p d)
set_up f cs p c d at l = let t = total-set f cs p c d at in omega arith

no_less_set : (cs : List Card) (p : ℕ) (c d : Card) → get_elem? cs p ≡ some c → NoLess c d → AllNoLess cs (set cs p d)
no_less_set cs p c d at l = record {
  shared = λ b. set_up (shared_of b) cs p c d at (l.shared b);
  owned = λ b. set_up (owned_of b) cs p c d at (l.owned b);
  stored = λ b x. set_up (stores b x) cs p c d at (l.stored b x);
  counts = λ kind. set_up (counts_of kind) cs p c d at (l.counts kind);
  bits = λ bit. set_up (times_set bit) cs p c d at (l.bits bit);
}

-- what there can have been stays so where all cards did no less
module _ (cs ds : List Card) (l : AllNoLess cs ds) where
  lock_on : (b x : ℕ) → WasLock cs b x → WasLock ds b x
  lock_on b x w = let s = l.shared b in let o = l.owned b in record { sharing = w.sharing; owning = w.owning; lock = w.lock; shared = omega (arith, w.shared); owned = omega (arith, w.owned) }

  pub seal_on : (b x : ℕ) → WasSeal cs b x → WasSeal ds b x
  seal_on b x w = ⊎_elim (λ z. inl z) (λ h. let s = l.stored b x in inr (omega arith)) w

  found_on : (word : WordName) (x : ℕ) → MayHaveFound cs word x → MayHaveFound ds word x
  found_on (LockWord b) x w = lock_on b.0 x w
  found_on (SealWord b) x w = seal_on b.0 x w
  found_on (Number b) x w = tt
  found_on (CountWord kind) x w = let c = l.counts kind in let m = w.1 in (w.0, omega arith, w.2)
  found_on Fail x w = let f = l.bits Failed in let s = l.bits Suspended in
      record { failures = w.failures; suspensions = w.suspensions; is = w.is; failed = omega (arith, w.failed); suspended = omega (arith, w.suspended) }

  pub looks_on : (looks : List (WordName × ℕ)) → LooksAllowed cs looks → LooksAllowed ds looks
  looks_on [] w = tt
  looks_on (look ∷ looks) w = (found_on look.0 look.1 w.0, looks_on looks w.1)

  pub losses_on : (losses : List (OBlock × ℕ)) → LossesAllowed cs losses → LossesAllowed ds losses
  losses_on [] w = tt
  losses_on (loss ∷ losses) w = (lock_on loss.0.0 loss.1 w.0, losses_on losses w.1)

  pub notes_on : (c : Card) → NotesWhatWas cs c → NotesWhatWas ds c
  notes_on c k = record { looks = looks_on c.saw k.looks; losses = losses_on c.lost k.losses; shared = k.shared; owned = k.owned; sealed = k.sealed; kept = k.kept }

-- a log with the seal of another block has the same newest one
newest_else : (a : ℕ) (b : OBlock) (x : ℕ) (log : List (OBlock × ℕ)) → b.0 ≢ a → newest_seal a ((b, x) ∷ log) ≡ newest_seal a log
newest_else a b x log ne = ap (λ (t : Bool). cond t (Some x) (newest_seal a log)) (ne_eqb b.0 a ne)

newest_own : (b : OBlock) (x : ℕ) (log : List (OBlock × ℕ)) → is_newest b.0 x ((b, x) ∷ log) ≡ 1
newest_own b x log = ap (λ (t : Bool). is_there x (cond t (Some x) (newest_seal b.0 log))) (eq-eqb b.0 b.0 refl) ∙ ap (λ (t : Bool). cond t 1 0) (eq-eqb x x refl)

-- what one seal more makes of the logs
seal_adds : (g : List (OBlock × ℕ) → ℕ) (one : ℕ) (b : OBlock) (x : ℕ) (logs : List (List (OBlock × ℕ))) → ((log : List (OBlock × ℕ)) → g ((b, x) ∷ log) ≡ one + g log) → g [] ≡ 0 → total g (with_seal b x logs) ≡ one + total g logs
seal_adds g one b x [] more none = let m = more [] in omega arith
seal_adds g one b x (log ∷ logs) more none = let m = more log in omega arith

seal_ends : (b : OBlock) (x : ℕ) (logs : List (List (OBlock × ℕ))) → 0 < total (is_newest b.0 x) (with_seal b x logs)
seal_ends b x [] = let one = newest_own b x [] in omega arith
seal_ends b x (log ∷ logs) = let one = newest_own b x log in omega arith

-- the newest seal is one of those stored
newest_stored : (b x : ℕ) (log : List (OBlock × ℕ)) → is_newest b x log ≤ seal_times b x log
newest_stored b x [] = omega arith
newest_stored b x (s ∷ log) = by_test (eqb s.0.0 b) (newest_stored b x log)
  where
    by_test : (t : Bool) → is_newest b x log ≤ seal_times b x log → is_there x (cond t (Some s.1) (newest_seal b log)) ≤ cond t (cond (eqb s.1 x) 1 0) 0 + seal_times b x log
    by_test true r = omega arith
    by_test false r = omega arith

pub last_same : (cs ds : List Card) (b x : ℕ) → total (seals_on b) ds ≡ total (seals_on b) cs → total (ends b x) ds ≡ total (ends b x) cs → IsLast cs b x → IsLast ds b x
last_same cs ds b x sealed same w = ⊎_elim (λ t. inl (t.0, sealed ∙ t.1)) (λ h. inr (omega arith)) w

last_was : (cs : List Card) (b x : ℕ) → IsLast cs b x → WasSeal cs b x
last_was cs b x w = ⊎_elim (λ t. inl t.0) (λ h. let m = total_most (ends b x) (stores b x) cs (λ p c at. total_most (is_newest b x) (seal_times b x) c.stored (λ q log there. newest_stored b x log)) in inr (omega arith)) w

-- what a look finds now
module _ (n : ℕ) (w : Words) (cs : List Card) (r : LockRule n w cs) where
  pub lock_now : (b : OBlock) → b.0 < n → WasLock cs b.0 (word_at w.cells b)
  lock_now b inside = record {
    sharing = total (sharers b.0) cs;
    owning = total (owners b.0) cs;
    lock = r.cells b.0 inside;
    shared = total_most (sharers b.0) (shared_of b.0) cs (λ p c at. (r.logs.notes p c at).shared b.0);
    owned = total_most (owners b.0) (owned_of b.0) cs (λ p c at. (r.logs.notes p c at).owned b.0);
  }

  found_now : (word : WordName) → IsWord n word → MayHaveFound cs word (value_of w word)
  found_now (LockWord b) inside = lock_now b inside
  found_now (SealWord b) inside = last_was cs b.0 (word_at w.seals b) (r.logs.seals b.0 inside)
  found_now (Number b) inside = tt
  found_now (CountWord kind) inside = (total (counts_of kind) cs, omega arith, r.counts kind)
  found_now Fail inside = record { failures = total (times_set Failed) cs; suspensions = total (times_set Suspended) cs; is = r.logs.fail; failed = omega arith; suspended = omega arith }

-- what a card of a hold has taken
hold_took : (h : Hold) (c : Card) (b : ℕ) → (shared_of b (holding h c) ≡ shares b h + shared_of b c) × (owned_of b (holding h c) ≡ owns b h + owned_of b c)
hold_took Nothing c b = (omega arith, omega arith)
hold_took (Held access a) c b = (refl, refl)

-- a fail word with one bit more
or_bit : (f s : ℕ) → (bit_or (fail_word f s) 1 ≡ fail_word (suc f) s) × (bit_or (fail_word f s) 2 ≡ fail_word f (suc s))
or_bit zero zero = (refl, refl)
or_bit zero (suc s) = (refl, refl)
or_bit (suc f) zero = (refl, refl)
or_bit (suc f) (suc s) = (refl, refl)

-- what a failure leaves of a card, by what it held
failed_logs : (h : Hold) (c : Card) → ((failing_at h c).saw ≡ c.saw) × ((failing_at h c).lost ≡ c.lost) × ((failing_at h c).took ≡ c.took) × ((failing_at h c).stored ≡ c.stored) × ((failing_at h c).added ≡ c.added)
failed_logs Nothing c = (refl, refl, refl, refl, refl)
failed_logs (Held Shared b) c = (refl, refl, refl, refl, refl)
failed_logs (Held Owned b) c = (refl, refl, refl, refl, refl)

failed_sums : (h : Hold) (c : Card) (b : ℕ) → c.hold ≡ h
    → (sharers b (failing_at h c) ≡ sharers b c) × (owners b (failing_at h c) ≡ owners b c) × (total (is_block b) (failing_at h c).kept ≤ 1 + total (is_block b) c.kept)
failed_sums Nothing c b is = (refl, refl, omega arith)
failed_sums (Held Shared a) c b is = (refl, refl, omega arith)
failed_sums (Held Owned a) c b is = (sym (ap (shares b) is), (let e : owns b c.hold ≡ is_block b a = ap (owns b) is in omega arith), at_most (eqb a.0 b))
  where
    at_most : (t : Bool) → cond t 1 0 + total (is_block b) c.kept ≤ 1 + total (is_block b) c.kept
    at_most true = omega arith
    at_most false = omega arith

module _ (n : ℕ) (w : Words) (cs : List Card) (p : ℕ) (c : Card) (r : LockRule n w cs) (at : get_elem? cs p ≡ some c) where
  mine : NotesWhatWas cs c
  mine = r.logs.notes p c at

  -- the notes of all cards where one is replaced
  notes_set : (d : Card) → NoLess c d → NotesWhatWas (set cs p d) d → (q : ℕ) (e : Card) → get_elem? (set cs p d) q ≡ some e → NotesWhatWas (set cs p d) e
  notes_set d l new q e h = ⊎_elim (λ (t : (q ≡ p) × (d ≡ e)). subst (NotesWhatWas (set cs p d)) t.1 new)
      (λ (t : (q ≢ p) × (get_elem? cs q ≡ some e)). notes_on cs (set cs p d) (no_less_set cs p c d at l) e (r.logs.notes q e t.1)) (at_set cs p q d e h)

  last_still : (d : Card) → d.stored ≡ c.stored → (b x : ℕ) → IsLast cs b x → IsLast (set cs p d) b x
  last_still d stored b x = last_same cs (set cs p d) b x (total-same (seals_on b) cs p c d at (ap (total (seal_count b)) stored)) (total-same (ends b x) cs p c d at (ap (total (is_newest b x)) stored))

  -- a step that neither seals nor sets a bit
  quiet : (u : Words) (d : Card) → u.seals ≡ w.seals → u.fail ≡ w.fail → d.set ≡ c.set → d.stored ≡ c.stored → NoLess c d → NotesWhatWas (set cs p d) d → LogRule n u (set cs p d)
  quiet u d seals fail same stored l new = record {
    seals = λ b inside. subst (λ (z : List ℕ). IsLast (set cs p d) b (word_at z (block b))) (sym seals) (last_still d stored b (word_at w.seals (block b)) (r.logs.seals b inside));
    fail = fail ∙ (r.logs.fail ∙ (λ j. fail_word (sym (bits Failed) j) (sym (bits Suspended) j)));
    notes = notes_set d l new;
  }
    where
      bits : (bit : FailBit) → total (times_set bit) (set cs p d) ≡ total (times_set bit) cs
      bits bit = total-same (times_set bit) cs p c d at (ap (total (is_bit bit)) same)

  -- the notes of the card that made the step
  notes_so : (d : Card) → NoLess c d → LooksAllowed cs d.saw → LossesAllowed cs d.lost → ((b : ℕ) → sharers b d ≤ shared_of b d) → ((b : ℕ) → owners b d ≤ owned_of b d) → ((b : ℕ) → 0 < seals_on b d → 0 < owned_of b d)
      → ((b : ℕ) → total (is_block b) d.kept ≤ times_set Failed d + times_set Suspended d) → NotesWhatWas (set cs p d) d
  notes_so d l looks losses shared owned sealed kept = let up = no_less_set cs p c d at l in
      record { looks = looks_on cs (set cs p d) up d.saw looks; losses = losses_on cs (set cs p d) up d.lost losses; shared = shared; owned = owned; sealed = sealed; kept = kept }

  pub look_logs : (word : WordName) → IsWord n word → LogRule n w (set cs p (looked word (value_of w word) c))
  look_logs word inside = let d : Card = looked word (value_of w word) c in
      let l : NoLess c d = record { shared = λ b. omega arith; owned = λ b. omega arith; stored = λ b x. omega arith; counts = λ kind. omega arith; bits = λ bit. omega arith } in
      quiet w d refl refl refl refl l (notes_so d l (found_now n w cs r word inside, mine.looks) mine.losses mine.shared mine.owned mine.sealed mine.kept)

  pub loss_logs : (b : OBlock) → b.0 < n → LogRule n w (set cs p (losing b (word_at w.cells b) c))
  loss_logs b inside = let d : Card = losing b (word_at w.cells b) c in
      let l : NoLess c d = record { shared = λ a. omega arith; owned = λ a. omega arith; stored = λ a x. omega arith; counts = λ kind. omega arith; bits = λ bit. omega arith } in
      quiet w d refl refl refl refl l (notes_so d l mine.looks (lock_now n w cs r b inside, mine.losses) mine.shared mine.owned mine.sealed mine.kept)

  pub hold_logs : (u : Words) (h : Hold) → u.seals ≡ w.seals → u.fail ≡ w.fail → LogRule n u (set cs p (holding h c))
  hold_logs u h seals fail = let d : Card = holding h c in
      let l : NoLess c d = record {
        shared = λ a. let t = (hold_took h c a).0 in omega arith;
        owned = λ a. let t = (hold_took h c a).1 in omega arith;
        stored = λ a x. omega arith;
        counts = λ kind. omega arith;
        bits = λ bit. omega arith;
      } in
      quiet u d seals fail refl refl l (notes_so d l mine.looks mine.losses (λ a. let t = (hold_took h c a).0 in omega arith) (λ a. let t = (hold_took h c a).1 in let m = mine.owned a in omega arith)
      (λ a has. let t = (hold_took h c a).1 in let m = mine.sealed a has in omega arith) mine.kept)

  pub seal_logs : (b : OBlock) (x : ℕ) → b.0 < length w.seals → c.hold ≡ Held Owned b → LogRule n (put w (SealWord b) x) (set cs p (sealing b x c))
  seal_logs b x inside own = let d : Card = sealing b x c in let u : Words = put w (SealWord b) x in
      let l : NoLess c d = record { shared = λ a. omega arith; owned = λ a. omega arith; stored = λ a y. let t = seal_adds (seal_times a y) (is_seal a y (b, x)) b x c.stored (λ log. refl) refl in omega arith; counts = λ kind. omega arith; bits = λ bit. omega arith } in record {
        seals = λ a low. dite (ℕ_discrete a b.0)
            (λ e. subst (λ (z : ℕ). IsLast (set cs p d) z (word_at u.seals (block z))) (sym e) (subst (IsLast (set cs p d) b.0) (sym (word_at_set w.seals b x inside)) (inr stands)))
            (λ ne. subst (IsLast (set cs p d) a) (sym (word_at_else w.seals (block a) b x ne)) (last_same cs (set cs p d) a (word_at w.seals (block a))
            (total-same (seals_on a) cs p c d at (let t = seal_adds (seal_count a) (is_block a b) b x c.stored (λ log. refl) refl in let z : is_block a b ≡ 0 = ap (λ (t : Bool). cond t 1 0) (ne_eqb b.0 a (λ e. ne (sym e))) in omega arith))
            (total-same (ends a (word_at w.seals (block a))) cs p c d at (ends_else a (word_at w.seals (block a)) c.stored (λ e. ne (sym e)))) (r.logs.seals a low)));
        fail = r.logs.fail ∙ (λ j. fail_word (sym (total-same (times_set Failed) cs p c d at (omega arith)) j) (sym (total-same (times_set Suspended) cs p c d at (omega arith)) j));
        notes = notes_set d l (notes_so d l mine.looks mine.losses mine.shared mine.owned owner mine.kept);
      }
    where
      stands : 0 < total (ends b.0 x) (set cs p (sealing b x c))
      stands = let t = total-set (ends b.0 x) cs p c (sealing b x c) at in let low = total_at (ends b.0 x) cs p c at in let one = seal_ends b x c.stored in omega arith

      ends_else : (a y : ℕ) (logs : List (List (OBlock × ℕ))) → b.0 ≢ a → total (is_newest a y) (with_seal b x logs) ≡ total (is_newest a y) logs
      ends_else a y [] ne = let e = ap (is_there y) (newest_else a b x [] ne) in omega arith
      ends_else a y (log ∷ logs) ne = let e = ap (is_there y) (newest_else a b x log ne) in omega arith

      owner : (a : ℕ) → 0 < seals_on a (sealing b x c) → 0 < owned_of a c
      owner a h = let o = mine.owned a in let t = seal_adds (seal_count a) (is_block a b) b x c.stored (λ log. refl) refl in let e : owns a c.hold ≡ is_block a b = ap (owns a) own in
          dite (ℕ_discrete (seals_on a c) 0) (λ none. omega arith) (λ more. mine.sealed a (omega arith))

  pub finish_logs : (u : Words) (b : OBlock) → u.seals ≡ w.seals → u.fail ≡ w.fail → LogRule n u (set cs p (finishing b c))
  finish_logs u b seals fail = let d : Card = finishing b c in
      let l : NoLess c d = record { shared = λ a. omega arith; owned = λ a. omega arith; stored = λ a x. omega arith; counts = λ kind. omega arith; bits = λ bit. omega arith } in
      quiet u d seals fail refl refl l (notes_so d l mine.looks mine.losses mine.shared mine.owned mine.sealed mine.kept)

  pub count_logs : (u : Words) (kind : Kind) → u.seals ≡ w.seals → u.fail ≡ w.fail → LogRule n u (set cs p (counting kind c))
  count_logs u kind seals fail = let d : Card = counting kind c in
      let l : NoLess c d = record { shared = λ a. omega arith; owned = λ a. omega arith; stored = λ a x. omega arith; counts = λ k. omega arith; bits = λ bit. omega arith } in
      quiet u d seals fail refl refl l (notes_so d l mine.looks mine.losses mine.shared mine.owned mine.sealed mine.kept)

  pub fail_logs : (bit : FailBit) → LogRule n (put w Fail (bit_or w.fail (bit_word bit))) (set cs p (failing bit c))
  fail_logs bit = let d : Card = failing bit c in let u : Words = put w Fail (bit_or w.fail (bit_word bit)) in let f = failed_logs c.hold c in
      let l : NoLess c d = record {
        shared = λ a. let e = ap (total (is_share a)) f.2 in omega arith;
        owned = λ a. let e = ap (total (is_own a)) f.2 in omega arith;
        stored = λ a x. let e = ap (total (seal_times a x)) f.3 in omega arith;
        counts = λ kind. let e = ap (total (is_count kind)) f.4 in omega arith;
        bits = λ other. omega arith;
      } in record {
        seals = λ b inside. last_still d f.3 b (word_at w.seals (block b)) (r.logs.seals b inside);
        fail = is_so bit;
        notes = notes_set d l (notes_so d l (subst (LooksAllowed cs) (sym f.0) mine.looks) (subst (LossesAllowed cs) (sym f.1) mine.losses)
            (λ a. let s = failed_sums c.hold c a refl in let e = ap (total (is_share a)) f.2 in let m = mine.shared a in let q = s.0 in omega arith)
            (λ a. let s = failed_sums c.hold c a refl in let e = ap (total (is_own a)) f.2 in let m = mine.owned a in let q = s.1 in omega arith)
            (λ a h. let e = ap (total (is_own a)) f.2 in let g = ap (total (seal_count a)) f.3 in let m = mine.sealed a (omega arith) in omega arith)
            (λ a. let s = failed_sums c.hold c a refl in let m = mine.kept a in let q = s.2 in let one = bit_counts bit in omega arith));
      }
    where
      bit_counts : (b : FailBit) → is_bit Failed b + is_bit Suspended b ≡ 1
      bit_counts Failed = refl
      bit_counts Suspended = refl

      is_so : (b : FailBit) → bit_or w.fail (bit_word b) ≡ fail_word (total (times_set Failed) (set cs p (failing b c))) (total (times_set Suspended) (set cs p (failing b c)))
      is_so Failed = let d : Card = failing Failed c in let t = total-set (times_set Failed) cs p c d at in
          let up : total (times_set Failed) (set cs p d) ≡ suc (total (times_set Failed) cs) = omega arith in
          ap (λ (z : ℕ). bit_or z 1) r.logs.fail ∙ ((or_bit _ _).0 ∙ (λ j. fail_word (sym up j) (sym (total-same (times_set Suspended) cs p c d at (omega arith)) j)))
      is_so Suspended = let d : Card = failing Suspended c in let t = total-set (times_set Suspended) cs p c d at in
          let up : total (times_set Suspended) (set cs p d) ≡ suc (total (times_set Suspended) cs) = omega arith in
          ap (λ (z : ℕ). bit_or z 2) r.logs.fail ∙ ((or_bit _ _).1 ∙ (λ j. fail_word (sym (total-same (times_set Failed) cs p c d at (omega arith)) j) (sym up j)))

-- who has noted nothing
pub blank_notes : (cs : List Card) → NotesWhatWas cs blank_card
blank_notes cs = record { looks = tt; losses = tt; shared = λ b. omega arith; owned = λ b. omega arith; sealed = λ b h. h; kept = λ b. omega arith }
