-- Each kind of step keeps the rule over all cards.
use Rattle.std.proofs.Common.{◌≡◌, ◌≢◌, ◌⊎◌, ℕ, ◌+◌, ◌-◌, ◌%◌, ◌^◌, ◌<◌, ◌≤◌, Bool, true, false, cond, if◌then◌else◌, eqb, eq-eqb, ne_eqb, List, [], ◌∷◌, length, set, replicate, zero, suc, sym, refl, ap, ◌∙◌, subst, ⊎_elim, inl, inr, arith, Option, Some, None, option_map, length-set, bit_or}
use Rattle.std.proofs.lemmas.List.{get_or-replicate, length-replicate}
use Rattle.std.proofs.lemmas.Bool.{eqb-true, ltb-true, false≢true}
use Rattle.std.proofs.lemmas.Option.{none-some}
use mathlib.Core.Logic.{dite}
use mathlib.Core.Option.{some, some-injective, some-ne-none}
use native.Mathlib.Decide.{ℕ_discrete}
use lib.ListN.{get_elem?}
use Rattle.wb_types.specs.declared.number.OBlock.{OBlock}
use Rattle.wb_words.specs.declared.word.Access.{Access}
use Rattle.wb_words.specs.declared.word.Access.TheVariants.{Shared, Owned}
use Rattle.wb_words.specs.declared.word.Kind.{Kind}
use Rattle.wb_words.specs.declared.word.Kind.TheVariants.{ReadHit, ReadMiss, WriteHit, WriteMiss}
use Rattle.wb_words.specs.declared.word.Word.{Word as WordName}
use Rattle.wb_words.specs.declared.word.Word.TheVariants.{Cell as LockWord, Seal as SealWord, Number, Count as CountWord, Fail}
use Rattle.wb_words.specs.SharedWords.{Words, word_at, value_of, count_in, with_cell, can_take, taken, given_back, one_more, put, kind_number, seal_word, fresh_words, fail_word, bit_word, IsWord}
use Rattle.wb_words.specs.declared.card.Hold.{Hold}
use Rattle.wb_words.specs.declared.card.Hold.TheVariants.{Nothing, Held}
use Rattle.wb_words.specs.declared.card.Card.{Card}
use Rattle.wb_words.specs.declared.word.FailBit.{FailBit}
use Rattle.wb_words.specs.declared.word.FailBit.TheVariants.{Failed, Suspended}
use Rattle.wb_words.specs.Cards.{blank_card, total, is_block, count_of_write, is_count, shares, owns, sharers, owners, writes_on, counts_of, seals_on, times_set, is_own_seal, is_own_number, looked, losing, holding, sealing, finishing, counting, failing_at, failing}
use Rattle.wb_words.specs.Rule.{block, IsLock, SawNoMore, AllSawNoMore, Knows, NotesWhatWas, LogRule, LockRule}
use Rattle.wb_words.specs.declared.step.CellStep.{CellStep}
use Rattle.wb_words.specs.declared.step.CellStep.TheVariants.{Look, Take, Release, Seal, Finish, Count, SetFailed, SetSuspended}
use Rattle.wb_words.specs.Looks.{SawAtMost, Finds}
use Rattle.wb_words.specs.Effects.{words_after, card_after}
use Rattle.wb_words.specs.Ready.{IsReady}
use Rattle.wb_words.proofs.Totals.{total-set, total_at, total_two, total-same, total-replicate, at_set}
use Rattle.wb_words.proofs.LogsKept.{look_logs, loss_logs, hold_logs, seal_logs, finish_logs, count_logs, fail_logs, blank_notes}
use Rattle.wb_words.proofs.Values.{word_at_is, word_at_set, word_at_else, put_count}
use Rattle.wb_types.proofs.Truth.{and_true}

is_same : (a : OBlock) → is_block a.0 a ≡ 1
is_same a = ap (λ t. cond t 1 0) (eq-eqb a.0 a.0 refl)

is_other : (b : ℕ) (a : OBlock) → a.0 ≢ b → is_block b a ≡ 0
is_other b a ne = ap (λ t. cond t 1 0) (ne_eqb a.0 b ne)

-- what is held
held_is : (a b : Access) (x y : OBlock) → Held a x ≡ Held b y → (a ≡ b) × (x ≡ y)
held_is a b x y e = (cc, cc)

nothing_held : (a : Access) (x : OBlock) → Nothing ≡ Held a x → ⊥
nothing_held a x e = cc

some_is : (a b : ℕ) → Some a ≡ Some b → a ≡ b
some_is a b e = cc

holds_one : (access : Access) (b : OBlock) → shares b.0 (Held access b) + owns b.0 (Held access b) ≡ 1
holds_one Shared b = let e = is_same b in omega arith
holds_one Owned b = let e = is_same b in omega arith

-- what a card saw, where no number fell
saw_on_one : (w u : Words) (word : WordName) (x : ℕ) → ((b : OBlock) → word_at w.numbers b ≤ word_at u.numbers b) → SawNoMore w word x → SawNoMore u word x
saw_on_one w u (LockWord b) x up h = tt
saw_on_one w u (SealWord b) x up h = tt
saw_on_one w u (Number b) x up h = let m = up b in omega arith
saw_on_one w u (CountWord kind) x up h = tt
saw_on_one w u Fail x up h = tt

saw_on : (w u : Words) (l : List (WordName × ℕ)) → ((b : OBlock) → word_at w.numbers b ≤ word_at u.numbers b) → AllSawNoMore w l → AllSawNoMore u l
saw_on w u [] up h = tt
saw_on w u (q ∷ qs) up h = (saw_on_one w u q.0 q.1 up h.0, saw_on w u qs up h.1)

-- words that stay keep what a card knows
pub still : (w u : Words) (d : Card) → ((b : OBlock) → word_at u.seals b ≡ word_at w.seals b) → ((b : OBlock) → word_at u.numbers b ≡ word_at w.numbers b) → Knows w d → Knows u d
still w u d seals numbers k = record {
  seal = λ a b x held is. seals b ∙ k.seal a b x held is;
  number = λ a b x held is. numbers b ∙ k.number a b x held is;
  saw = saw_on w u d.saw (λ b. let e = numbers b in omega arith) k.saw;
}

-- a card that knows neither seal nor number
pub knows_none : (w u : Words) (c d : Card) → d.seal ≡ None → d.number ≡ None → d.saw ≡ c.saw → ((b : OBlock) → word_at w.numbers b ≤ word_at u.numbers b) → Knows w c → Knows u d
knows_none w u c d seal number saw up k = record {
  seal = λ a b x _ is. absurd (none-some x (sym seal ∙ is));
  number = λ a b x _ is. absurd (none-some x (sym number ∙ is));
  saw = saw_on w u d.saw up (subst (AllSawNoMore w) (sym saw) k.saw);
}

-- a look
most : (w : Words) (b : OBlock) (l : List (WordName × ℕ)) → AllSawNoMore w l → SawAtMost b (word_at w.numbers b) l
most w b [] h = tt
most w b (q ∷ qs) h = ((λ is. subst (λ (z : WordName). SawNoMore w z q.1) is h.0), most w b qs h.1)

pub finds : (w : Words) (word : WordName) (c : Card) → Knows w c → Finds word (value_of w word) c
finds w word c k = record {
  seal = λ a b y held e is. ap (value_of w) e ∙ k.seal a b y held is;
  number = λ a b y held e is. ap (value_of w) e ∙ k.number a b y held is;
  grows = λ b e. subst (λ (z : ℕ). SawAtMost b z c.saw) (ap (value_of w) (sym e)) (most w b c.saw k.saw);
}

same_at : (l : List ℕ) (x y : OBlock) → x.0 ≡ y.0 → word_at l x ≡ word_at l y
same_at l x y e = ap (λ (z : ℕ). word_at l (block z)) e

own_seal : (h : Hold) (access : Access) (b : OBlock) (word : WordName) → h ≡ Held access b → is_own_seal h word ≡ true → (w : Words) → value_of w word ≡ word_at w.seals b
own_seal Nothing access b word e t w = absurd (nothing_held access b e)
own_seal (Held own a) access b (SealWord c) e t w = let same = (held_is own access a b e).1 in same_at w.seals c a (eqb-true c.0 a.0 t) ∙ ap (word_at w.seals) same
own_seal (Held own a) access b (LockWord c) e t w = absurd (false≢true t)
own_seal (Held own a) access b (Number c) e t w = absurd (false≢true t)
own_seal (Held own a) access b (CountWord c) e t w = absurd (false≢true t)
own_seal (Held own a) access b Fail e t w = absurd (false≢true t)

own_number : (h : Hold) (access : Access) (b : OBlock) (word : WordName) → h ≡ Held access b → is_own_number h word ≡ true → (w : Words) → value_of w word ≡ word_at w.numbers b
own_number Nothing access b word e t w = absurd (nothing_held access b e)
own_number (Held own a) access b (Number c) e t w = let same = (held_is own access a b e).1 in same_at w.numbers c a (eqb-true c.0 a.0 t) ∙ ap (word_at w.numbers) same
own_number (Held own a) access b (LockWord c) e t w = absurd (false≢true t)
own_number (Held own a) access b (SealWord c) e t w = absurd (false≢true t)
own_number (Held own a) access b (CountWord c) e t w = absurd (false≢true t)
own_number (Held own a) access b Fail e t w = absurd (false≢true t)

learnt_is : (t : Bool) (x y : ℕ) (old : Option ℕ) → cond t (Some x) old ≡ Some y → ((t ≡ true) × (x ≡ y)) ⊎ (old ≡ Some y)
learnt_is true x y old e = inl (refl, some_is x y e)
learnt_is false x y old e = inr e

saw_now : (w : Words) (word : WordName) → SawNoMore w word (value_of w word)
saw_now w (LockWord b) = tt
saw_now w (SealWord b) = tt
saw_now w (Number b) = omega arith
saw_now w (CountWord kind) = tt
saw_now w Fail = tt

knows_look : (w : Words) (word : WordName) (c : Card) → Knows w c → Knows w (looked word (value_of w word) c)
knows_look w word c k = record {
  seal = λ a b x held is. ⊎_elim (λ t. sym (own_seal c.hold a b word held t.0 w) ∙ t.1) (k.seal a b x held) (learnt_is (is_own_seal c.hold word) (value_of w word) x c.seal is);
  number = λ a b x held is. ⊎_elim (λ t. sym (own_number c.hold a b word held t.0 w) ∙ t.1) (k.number a b x held) (learnt_is (is_own_number c.hold word) (value_of w word) x c.number is);
  saw = (saw_now w word, k.saw);
}

-- a failure
fail_at : (h : Hold) (a : ℕ) (c : Card) → c.hold ≡ h → (shares a (failing_at h c).hold ≡ shares a h) × (owns a (failing_at h c).hold + total (is_block a) (failing_at h c).kept ≡ owns a h + total (is_block a) c.kept) × ((failing_at h c).added ≡ c.added)
fail_at Nothing a c is = (ap (shares a) is, ap (λ (h : Hold). owns a h + total (is_block a) c.kept) is, refl)
fail_at (Held Shared b) a c is = (ap (shares a) is, ap (λ (h : Hold). owns a h + total (is_block a) c.kept) is, refl)
fail_at (Held Owned b) a c is = (refl, omega arith, refl)

fail_knows_at : (w u : Words) (h : Hold) (c : Card) → ((b : OBlock) → word_at u.seals b ≡ word_at w.seals b) → ((b : OBlock) → word_at u.numbers b ≡ word_at w.numbers b) → Knows w c → Knows u (failing_at h c)
fail_knows_at w u Nothing c seals numbers k = still w u c seals numbers k
fail_knows_at w u (Held Shared b) c seals numbers k = still w u c seals numbers k
fail_knows_at w u (Held Owned b) c seals numbers k = knows_none w u c (failing_at (Held Owned b) c) refl refl refl (λ b. let e = numbers b in omega arith) k

module _ (n : ℕ) (w : Words) (cs : List Card) (p : ℕ) (c : Card) (r : LockRule n w cs) (at : get_elem? cs p ≡ some c) where
  mine : Knows w c
  mine = r.knows p c at

  locks : (d : Card) → ((b : ℕ) → sharers b d ≡ sharers b c) → ((b : ℕ) → owners b d ≡ owners b c) → (b : ℕ) → b < n → IsLock (word_at w.cells (block b)) (total (sharers b) (set cs p d)) (total (owners b) (set cs p d))
  locks d sh ow b l = subst (λ (z : ℕ × ℕ). IsLock (word_at w.cells (block b)) z.0 z.1) (λ j. (sym (total-same (sharers b) cs p c d at (sh b)) j, sym (total-same (owners b) cs p c d at (ow b)) j)) (r.cells b l)

  numbered : (d : Card) → ((b : ℕ) → writes_on b d ≡ writes_on b c) → (b : ℕ) → b < n → word_at w.numbers (block b) ≡ total (writes_on b) (set cs p d)
  numbered d same b l = r.numbers b l ∙ sym (total-same (writes_on b) cs p c d at (same b))

  counted_so : (d : Card) → ((kind : Kind) → counts_of kind d ≡ counts_of kind c) → (kind : Kind) → count_in w kind ≡ total (counts_of kind) (set cs p d) % 2 ^ 64
  counted_so d same kind = r.counts kind ∙ ap (λ (z : ℕ). z % 2 ^ 64) (sym (total-same (counts_of kind) cs p c d at (same kind)))

  known_after : (u : Words) (d : Card) → Knows u d → ((q : ℕ) (e : Card) → q ≢ p → get_elem? cs q ≡ some e → Knows u e) → (q : ℕ) (e : Card) → get_elem? (set cs p d) q ≡ some e → Knows u e
  known_after u d own others q e h = ⊎_elim (λ (t : (q ≡ p) × (d ≡ e)). subst (Knows u) t.1 own) (λ (t : (q ≢ p) × (get_elem? cs q ≡ some e)). others q e t.0 t.1) (at_set cs p q d e h)

  -- a step that changes no word
  unmoved : (d : Card) → d.hold ≡ c.hold → d.kept ≡ c.kept → d.added ≡ c.added → Knows w d → LogRule n w (set cs p d) → LockRule n w (set cs p d)
  unmoved d hold kept added known logs = record {
    cells_are = r.cells_are;
    seals_are = r.seals_are;
    numbers_are = r.numbers_are;
    cells = locks d (λ b. ap (shares b) hold) (λ b t. owns b (hold t) + total (is_block b) (kept t));
    numbers = numbered d (λ b. ap (total (count_of_write b)) added);
    fits = r.fits;
    counts = counted_so d (λ kind. ap (total (is_count kind)) added);
    knows = known_after w d known (λ q e _ g. r.knows q e g);
    logs = logs;
  }

  pub look_keeps : (word : WordName) → IsWord n word → LockRule n w (set cs p (looked word (value_of w word) c))
  look_keeps word inside = unmoved (looked word (value_of w word) c) refl refl refl (knows_look w word c mine) (look_logs n w cs p c r at word inside)

  pub loss_keeps : (b : OBlock) → b.0 < n → LockRule n w (set cs p (losing b (word_at w.cells b) c))
  loss_keeps b inside = unmoved (losing b (word_at w.cells b) c) refl refl refl record { seal = mine.seal; number = mine.number; saw = mine.saw } (loss_logs n w cs p c r at b inside)

  -- a step on the lock word of b
  lock_step : (b : OBlock) (x : ℕ) (h : Hold) → b.0 < n → ((a : ℕ) → a ≢ b.0 → (shares a h ≡ shares a c.hold) × (owns a h ≡ owns a c.hold))
      → IsLock x (total (sharers b.0) (set cs p (holding h c))) (total (owners b.0) (set cs p (holding h c))) → LockRule n (with_cell w b x) (set cs p (holding h c))
  lock_step b x h inside others lock = let d : Card = holding h c in let u : Words = with_cell w b x in let wide = r.cells_are in record {
    cells_are = length-set w.cells b.0 x ∙ r.cells_are;
    seals_are = r.seals_are;
    numbers_are = r.numbers_are;
    cells = λ a l. dite (ℕ_discrete a b.0)
        (λ e. subst (λ (z : ℕ). IsLock (word_at u.cells (block z)) (total (sharers z) (set cs p d)) (total (owners z) (set cs p d))) (sym e)
        (subst (λ (z : ℕ). IsLock z (total (sharers b.0) (set cs p d)) (total (owners b.0) (set cs p d))) (sym (word_at_set w.cells b x (omega arith))) lock))
        (λ ne. subst (λ (z : ℕ × (ℕ × ℕ)). IsLock z.0 z.1.0 z.1.1)
        (λ j. (
          sym (word_at_else w.cells (block a) b x ne) j,
          (sym (total-same (sharers a) cs p c d at (others a ne).0) j, sym (total-same (owners a) cs p c d at (ap (λ (z : ℕ). z + total (is_block a) c.kept) (others a ne).1)) j),
        )) (r.cells a l));
    numbers = numbered d (λ b. refl);
    fits = r.fits;
    counts = counted_so d (λ kind. refl);
    knows = known_after u d (knows_none w u c d refl refl refl (λ b. omega arith) mine) (λ q e _ g. still w u e (λ b. refl) (λ b. refl) (r.knows q e g));
    logs = hold_logs n w cs p c r at u h refl refl;
  }

  share_keeps : (b : OBlock) (x : ℕ) → b.0 < n → c.hold ≡ Nothing → word_at w.cells b ≡ x → x % 2 ≡ 0 → x < 2097150 → LockRule n (with_cell w b (x + 2)) (set cs p (holding (Held Shared b) c))
  share_keeps b x inside idle is even room =
      let d : Card = holding (Held Shared b) c in let lock = r.cells b.0 inside in
      let s = total-set (sharers b.0) cs p c d at in let o = total-same (owners b.0) cs p c d at (ap (λ (h : Hold). owns b.0 h + total (is_block b.0) c.kept) (sym idle)) in
      let one : sharers b.0 d ≡ 1 = is_same b in let none : sharers b.0 c ≡ 0 = ap (shares b.0) idle in
      lock_step b (x + 2) (Held Shared b) inside (λ a ne. (is_other a b (λ e. ne (sym e)) ∙ ap (shares a) (sym idle), ap (owns a) (sym idle)))
      record { is = omega (arith, lock.is); one = omega (arith, lock.one); apart = λ h. absurd (omega (arith, lock.is, lock.one)); room = omega (arith, lock.is, lock.one) }

  own_keeps : (b : OBlock) → b.0 < n → c.hold ≡ Nothing → word_at w.cells b ≡ 0 → LockRule n (with_cell w b 1) (set cs p (holding (Held Owned b) c))
  own_keeps b inside idle is =
      let d : Card = holding (Held Owned b) c in let lock = r.cells b.0 inside in
      let o = total-set (owners b.0) cs p c d at in let s = total-same (sharers b.0) cs p c d at (ap (shares b.0) (sym idle)) in
      let one : owners b.0 d ≡ 1 + total (is_block b.0) c.kept = ap (λ (z : ℕ). z + total (is_block b.0) c.kept) (is_same b) in
      let none : owners b.0 c ≡ 0 + total (is_block b.0) c.kept = ap (λ (h : Hold). owns b.0 h + total (is_block b.0) c.kept) idle in
      lock_step b 1 (Held Owned b) inside (λ a ne. (ap (shares a) (sym idle), is_other a b (λ e. ne (sym e)) ∙ ap (owns a) (sym idle)))
      record { is = omega (arith, lock.is); one = omega (arith, lock.is); apart = λ h. omega (arith, lock.is); room = omega (arith, lock.is) }

  -- an exchange that found the word that it expected
  pub take_keeps : (access : Access) (b : OBlock) (x : ℕ) → b.0 < n → c.hold ≡ Nothing → word_at w.cells b ≡ x → can_take access x ≡ true → LockRule n (with_cell w b (taken access x)) (set cs p (holding (Held access b) c))
  take_keeps Shared b x inside idle is can = let t = and_true _ _ can in share_keeps b x inside idle is (eqb-true (x % 2) 0 t.0) (ltb-true x 2097150 t.1)
  take_keeps Owned b x inside idle is can = own_keeps b inside idle (is ∙ eqb-true x 0 can)

  leave_keeps : (b : OBlock) → b.0 < n → c.hold ≡ Held Shared b → LockRule n (with_cell w b (word_at w.cells b - 2)) (set cs p (holding Nothing c)) × ((word_at w.cells b + (2 ^ 64 - 2)) % 2 ^ 64 ≡ word_at w.cells b - 2)
  leave_keeps b inside own =
      let d : Card = holding Nothing c in let lock = r.cells b.0 inside in let x : ℕ = word_at w.cells b in
      let s = total-set (sharers b.0) cs p c d at in let o = total-same (owners b.0) cs p c d at (ap (λ (h : Hold). owns b.0 h + total (is_block b.0) c.kept) (sym own)) in
      let one : sharers b.0 c ≡ 1 = ap (shares b.0) own ∙ is_same b in let none : sharers b.0 d ≡ 0 = refl in
      let here = total_at (sharers b.0) cs p c at in
      let free : total (owners b.0) cs ≡ 0 = dite (ℕ_discrete (total (owners b.0) cs) 0) (λ e. e) (λ ne. let z = lock.apart (omega arith) in absurd (omega arith)) in
      let less : (x + 18446744073709551614) % 18446744073709551616 ≡ x - 2 = omega (arith, lock.is, lock.room) in (
        lock_step b (x - 2) Nothing inside (λ a ne. (sym (ap (shares a) own ∙ is_other a b (λ e. ne (sym e))), sym (ap (owns a) own)))
            record { is = omega (arith, lock.is); one = omega arith; apart = λ h. absurd (omega arith); room = omega (arith, lock.room) },
        less,
      )

  disown_keeps : (b : OBlock) → b.0 < n → c.hold ≡ Held Owned b → LockRule n (with_cell w b 0) (set cs p (holding Nothing c)) × ((word_at w.cells b + (2 ^ 64 - 1)) % 2 ^ 64 ≡ 0)
  disown_keeps b inside own =
      let d : Card = holding Nothing c in let lock = r.cells b.0 inside in let x : ℕ = word_at w.cells b in
      let o = total-set (owners b.0) cs p c d at in let s = total-same (sharers b.0) cs p c d at (ap (shares b.0) (sym own)) in
      let one : owners b.0 c ≡ 1 + total (is_block b.0) c.kept = ap (λ (h : Hold). owns b.0 h + total (is_block b.0) c.kept) own ∙ ap (λ (z : ℕ). z + total (is_block b.0) c.kept) (is_same b) in
      let none : owners b.0 d ≡ 0 + total (is_block b.0) c.kept = refl in
      let here = total_at (owners b.0) cs p c at in let apart = lock.apart (omega (arith, lock.one)) in
      let less : (x + 18446744073709551615) % 18446744073709551616 ≡ 0 = omega (arith, lock.is, lock.one) in (
        lock_step b 0 Nothing inside (λ a ne. (sym (ap (shares a) own), sym (ap (owns a) own ∙ is_other a b (λ e. ne (sym e)))))
            record { is = omega (arith, lock.is, lock.one); one = omega (arith, lock.one); apart = λ h. omega arith; room = omega arith },
        less,
      )

  pub release_keeps : (access : Access) (b : OBlock) → b.0 < n → c.hold ≡ Held access b
      → LockRule n (with_cell w b (given_back access (word_at w.cells b))) (set cs p (holding Nothing c)) × ((word_at w.cells b + (2 ^ 64 - taken access 0)) % 2 ^ 64 ≡ given_back access (word_at w.cells b))
  release_keeps Shared b inside own = leave_keeps b inside own
  release_keeps Owned b inside own = disown_keeps b inside own

  -- another card does not hold a block that this one owns
  sole : (b : OBlock) (q : ℕ) (e : Card) (access : Access) (a : OBlock) → b.0 < n → c.hold ≡ Held Owned b → q ≢ p → get_elem? cs q ≡ some e → e.hold ≡ Held access a → a.0 ≡ b.0 → ⊥
  sole b q e access a inside own other there held same =
      let lock = r.cells b.0 inside in let one : owners b.0 c ≡ 1 + total (is_block b.0) c.kept = ap (λ (h : Hold). owns b.0 h + total (is_block b.0) c.kept) own ∙ ap (λ (z : ℕ). z + total (is_block b.0) c.kept) (is_same b) in
      let here = total_at (owners b.0) cs p c at in let apart = lock.apart (omega arith) in let s = total_at (sharers b.0) cs q e there in
      let two = total_two (owners b.0) cs q p e c other there at in
      let h : shares b.0 e.hold + owns b.0 e.hold ≡ 1 = ap (λ (h : Hold). shares b.0 h + owns b.0 h) held ∙ (ap (λ (z : ℕ). shares z (Held access a) + owns z (Held access a)) (sym same) ∙ holds_one access a) in omega (arith, lock.one)

  pub seal_keeps : (b : OBlock) (x : ℕ) → b.0 < n → c.hold ≡ Held Owned b → LockRule n (put w (SealWord b) x) (set cs p (sealing b x c))
  seal_keeps b x inside own = let d : Card = sealing b x c in let u : Words = put w (SealWord b) x in let wide = r.seals_are in record {
    cells_are = r.cells_are;
    seals_are = length-set w.seals b.0 x ∙ r.seals_are;
    numbers_are = r.numbers_are;
    cells = locks d (λ b. refl) (λ b. refl);
    numbers = numbered d (λ b. refl);
    fits = r.fits;
    counts = counted_so d (λ kind. refl);
    knows = known_after u d record {
      seal = λ access a y held is. subst (λ (z : OBlock). word_at u.seals z ≡ y) (held_is Owned access b a (sym own ∙ held)).1 (word_at_set w.seals b x (omega arith) ∙ some_is x y is);
      number = mine.number;
      saw = saw_on w u c.saw (λ b. omega arith) mine.saw;
    } (λ q e ne g. let k = r.knows q e g in record {
      seal = λ access a y held is. dite (ℕ_discrete a.0 b.0) (λ same. absurd (sole b q e access a inside own ne g held same)) (λ other. word_at_else w.seals a b x other ∙ k.seal access a y held is);
      number = k.number;
      saw = saw_on w u e.saw (λ b. omega arith) k.saw;
    });
    logs = seal_logs n w cs p c r at b x (omega arith) own;
  }

  pub finish_keeps : (b : OBlock) (x : ℕ) → b.0 < n → c.hold ≡ Held Owned b → c.number ≡ Some x → x < 18446744073709551615
      → LockRule n (put w (Number b) (one_more (word_at w.numbers b))) (set cs p (finishing b c))
  finish_keeps b x inside own is_x small = let d : Card = finishing b c in let y : ℕ = word_at w.numbers b in
      let now : y ≡ x = mine.number Owned b x own is_x in let next : (y + 1) % 18446744073709551616 ≡ y + 1 = omega arith in
      let u : Words = put w (Number b) (one_more y) in let wide = r.numbers_are in
      let new : word_at u.numbers b ≡ y + 1 = word_at_set w.numbers b (one_more y) (omega arith) ∙ next in
      let others : (a : OBlock) → a.0 ≢ b.0 → word_at u.numbers a ≡ word_at w.numbers a = λ a ne. word_at_else w.numbers a b (one_more y) ne in
      let up : (a : OBlock) → word_at w.numbers a ≤ word_at u.numbers a = λ a. dite (ℕ_discrete a.0 b.0)
      (λ e. subst (λ (z : ℕ). word_at w.numbers (block z) ≤ word_at u.numbers (block z)) (sym e) (omega arith)) (λ ne. let o = others a ne in omega arith) in record {
        cells_are = r.cells_are;
        seals_are = r.seals_are;
        numbers_are = length-set w.numbers b.0 (one_more y) ∙ r.numbers_are;
        cells = locks d (λ b. refl) (λ b. refl);
        numbers = λ a l. dite (ℕ_discrete a b.0)
            (λ e. subst (λ (z : ℕ). word_at u.numbers (block z) ≡ total (writes_on z) (set cs p d)) (sym e)
            (let t = total-set (writes_on b.0) cs p c d at in let one : writes_on b.0 d ≡ 1 + writes_on b.0 c = ap (λ (z : ℕ). z + writes_on b.0 c) (is_same b) in let old = r.numbers b.0 inside in omega arith))
            (λ ne. others (block a) ne ∙ (r.numbers a l ∙ sym (total-same (writes_on a) cs p c d at (let z = is_other a b (λ e. ne (sym e)) in omega arith))));
        fits = λ a l. dite (ℕ_discrete a b.0) (λ e. subst (λ (z : ℕ). word_at u.numbers (block z) < 2 ^ 64) (sym e) (let wrap : (y + 1) % 18446744073709551616 < 18446744073709551616 = omega arith in omega (arith, new, next))) (λ ne. let o = others (block a) ne in let old = r.fits a l in omega (arith, o, old));
        counts = counted_so d (λ kind. omega arith);
        knows = known_after u d record {
          seal = mine.seal;
          number = λ access a z held is. subst (λ (m : OBlock). word_at u.numbers m ≡ z) (held_is Owned access b a (sym own ∙ held)).1
              (new ∙ (ap (λ (m : ℕ). m + 1) now ∙ some_is (x + 1) z (sym (ap (option_map (λ (m : ℕ). m + 1)) is_x) ∙ is)));
          saw = saw_on w u c.saw up mine.saw;
        } (λ q e ne g. let k = r.knows q e g in record {
          seal = k.seal;
          number = λ access a z held is. dite (ℕ_discrete a.0 b.0) (λ same. absurd (sole b q e access a inside own ne g held same)) (λ other. others a other ∙ k.number access a z held is);
          saw = saw_on w u e.saw up k.saw;
        });
        logs = finish_logs n w cs p c r at u b refl refl;
      }

  -- a step on the fail word or on a statistics word
  low_step : (u : Words) (d : Card) → u.cells ≡ w.cells → u.seals ≡ w.seals → u.numbers ≡ w.numbers → ((a : ℕ) → sharers a d ≡ sharers a c) → ((a : ℕ) → owners a d ≡ owners a c) → ((a : ℕ) → writes_on a d ≡ writes_on a c)
      → ((kind : Kind) → count_in u kind ≡ total (counts_of kind) (set cs p d) % 2 ^ 64) → Knows u d → LogRule n u (set cs p d) → LockRule n u (set cs p d)
  low_step u d ce se nu sh ow wr counts known logs = record {
    cells_are = ap length ce ∙ r.cells_are;
    seals_are = ap length se ∙ r.seals_are;
    numbers_are = ap length nu ∙ r.numbers_are;
    cells = λ b l. subst (λ (z : List ℕ). IsLock (word_at z (block b)) (total (sharers b) (set cs p d)) (total (owners b) (set cs p d))) (sym ce) (locks d sh ow b l);
    numbers = λ b l. ap (λ (z : List ℕ). word_at z (block b)) nu ∙ numbered d wr b l;
    fits = λ b l. subst (λ (z : List ℕ). word_at z (block b) < 2 ^ 64) (sym nu) (r.fits b l);
    counts = counts;
    knows = known_after u d known (λ q e _ g. still w u e (λ b. ap (λ (z : List ℕ). word_at z b) se) (λ b. ap (λ (z : List ℕ). word_at z b) nu) (r.knows q e g));
    logs = logs;
  }

  pub fail_keeps : (bit : FailBit) → LockRule n (put w Fail (bit_or w.fail (bit_word bit))) (set cs p (failing bit c))
  fail_keeps bit = let d : Card = failing bit c in let u : Words = put w Fail (bit_or w.fail (bit_word bit)) in let known = fail_knows_at w u c.hold c (λ b. refl) (λ b. refl) mine in
      low_step u d refl refl refl (λ a. (fail_at c.hold a c refl).0) (λ a. (fail_at c.hold a c refl).1) (λ a. ap (total (count_of_write a)) (fail_at c.hold a c refl).2)
      counts_stay record { seal = known.seal; number = known.number; saw = known.saw } (fail_logs n w cs p c r at bit)
    where
      still_counted : (kind : Kind) → count_in w kind ≡ total (counts_of kind) (set cs p (failing bit c)) % 2 ^ 64
      still_counted = counted_so (failing bit c) (λ kind. ap (total (is_count kind)) (fail_at c.hold 0 c refl).2)

      counts_stay : (kind : Kind) → count_in w kind ≡ total (counts_of kind) (set cs p (failing bit c)) % 2 ^ 64
      counts_stay ReadHit = still_counted ReadHit
      counts_stay ReadMiss = still_counted ReadMiss
      counts_stay WriteHit = still_counted WriteHit
      counts_stay WriteMiss = still_counted WriteMiss

  -- the count of one kind rises, that of another stays
  more : (kind : Kind) → (total (counts_of kind) cs + 1) % 2 ^ 64 ≡ total (counts_of kind) (set cs p (counting kind c)) % 2 ^ 64
  more kind = let d : Card = counting kind c in let t = total-set (counts_of kind) cs p c d at in
      let one : counts_of kind d ≡ 1 + counts_of kind c = ap (λ (t : Bool). cond t 1 0 + counts_of kind c) (eq-eqb (kind_number kind) (kind_number kind) refl) in
      ap (λ (z : ℕ). z % 2 ^ 64) (omega arith)

  risen : (kind : Kind) (x : ℕ) → x ≡ count_in w kind → one_more x ≡ total (counts_of kind) (set cs p (counting kind c)) % 2 ^ 64
  risen kind x is = let old = r.counts kind in let m = more kind in let t : ℕ = total (counts_of kind) cs in
      let wrap : (x + 1) % 18446744073709551616 ≡ (t + 1) % 18446744073709551616 = omega arith in wrap ∙ m

  stays : (kind other : Kind) → kind_number kind ≢ kind_number other → count_in w other ≡ total (counts_of other) (set cs p (counting kind c)) % 2 ^ 64
  stays kind other ne = r.counts other ∙ ap (λ (z : ℕ). z % 2 ^ 64)
      (sym (total-same (counts_of other) cs p c (counting kind c) at (let z : is_count other (CountWord kind) ≡ 0 = ap (λ (t : Bool). cond t 1 0) (ne_eqb (kind_number kind) (kind_number other) ne) in omega arith)))

  counts_on : (kind other : Kind) → count_in (put w (CountWord kind) (one_more (count_in w kind))) other ≡ total (counts_of other) (set cs p (counting kind c)) % 2 ^ 64
  counts_on ReadHit ReadHit = risen ReadHit _ refl
  counts_on ReadHit ReadMiss = stays ReadHit ReadMiss (λ e. omega arith)
  counts_on ReadHit WriteHit = stays ReadHit WriteHit (λ e. omega arith)
  counts_on ReadHit WriteMiss = stays ReadHit WriteMiss (λ e. omega arith)
  counts_on ReadMiss ReadHit = stays ReadMiss ReadHit (λ e. omega arith)
  counts_on ReadMiss ReadMiss = risen ReadMiss _ refl
  counts_on ReadMiss WriteHit = stays ReadMiss WriteHit (λ e. omega arith)
  counts_on ReadMiss WriteMiss = stays ReadMiss WriteMiss (λ e. omega arith)
  counts_on WriteHit ReadHit = stays WriteHit ReadHit (λ e. omega arith)
  counts_on WriteHit ReadMiss = stays WriteHit ReadMiss (λ e. omega arith)
  counts_on WriteHit WriteHit = risen WriteHit _ refl
  counts_on WriteHit WriteMiss = stays WriteHit WriteMiss (λ e. omega arith)
  counts_on WriteMiss ReadHit = stays WriteMiss ReadHit (λ e. omega arith)
  counts_on WriteMiss ReadMiss = stays WriteMiss ReadMiss (λ e. omega arith)
  counts_on WriteMiss WriteHit = stays WriteMiss WriteHit (λ e. omega arith)
  counts_on WriteMiss WriteMiss = risen WriteMiss _ refl

  kept_by_count : (kind : Kind) (x : ℕ) → ((put w (CountWord kind) x).cells ≡ w.cells) × ((put w (CountWord kind) x).seals ≡ w.seals) × ((put w (CountWord kind) x).numbers ≡ w.numbers) × ((put w (CountWord kind) x).fail ≡ w.fail)
  kept_by_count ReadHit x = (refl, refl, refl, refl)
  kept_by_count ReadMiss x = (refl, refl, refl, refl)
  kept_by_count WriteHit x = (refl, refl, refl, refl)
  kept_by_count WriteMiss x = (refl, refl, refl, refl)

  pub count_keeps : (kind : Kind) → LockRule n (put w (CountWord kind) (one_more (count_in w kind))) (set cs p (counting kind c))
  count_keeps kind = let u : Words = put w (CountWord kind) (one_more (count_in w kind)) in let k = kept_by_count kind (one_more (count_in w kind)) in
      let known = still w u c (λ b. ap (λ (z : List ℕ). word_at z b) k.1) (λ b. ap (λ (z : List ℕ). word_at z b) k.2) mine in
      low_step u (counting kind c) k.0 k.1 k.2 (λ a. refl) (λ a. refl) (λ a. omega arith) (counts_on kind) record { seal = known.seal; number = known.number; saw = known.saw }
      (count_logs n w cs p c r at u kind k.1 k.3)

-- a number that is known and not the greatest has room for one more
pub has_room : (n : ℕ) (w : Words) (cs : List Card) (p : ℕ) (c : Card) → LockRule n w cs → get_elem? cs p ≡ some c → (b : OBlock) (x : ℕ) → b.0 < n → c.hold ≡ Held Owned b → c.number ≡ Some x → x ≢ 18446744073709551615 → x < 18446744073709551615
has_room n w cs p c r at b x inside own known other = let is : word_at w.numbers b ≡ x = (r.knows p c at).number Owned b x own known in let small : word_at w.numbers b < 18446744073709551616 = r.fits b.0 inside in
    dite (ℕ_discrete x 18446744073709551615) (λ e. absurd (other e)) (λ ne. omega (arith, is, small))

-- any step that its actor is ready for keeps the rule
pub step_keeps : (n : ℕ) (w : Words) (cs : List Card) (p : ℕ) (c : Card) (step : CellStep) → LockRule n w cs → get_elem? cs p ≡ some c → IsReady n c step → LockRule n (words_after w step) (set cs p (card_after w step c))
step_keeps n w cs p c (Look word) r at ready = look_keeps n w cs p c r at word ready
step_keeps n w cs p c (Take access b seen) r at ready = by_test (eqb (word_at w.cells b) seen) refl
  where
    by_test : (t : Bool) → eqb (word_at w.cells b) seen ≡ t → LockRule n (if t then with_cell w b (taken access seen) else w) (set cs p (if t then holding (Held access b) c else losing b (word_at w.cells b) c))
    by_test true e = take_keeps n w cs p c r at access b seen ready.0 ready.1 (eqb-true (word_at w.cells b) seen e) ready.2
    by_test false e = loss_keeps n w cs p c r at b ready.0
step_keeps n w cs p c (Release access b) r at ready = (release_keeps n w cs p c r at access b ready.0 ready.1).0
step_keeps n w cs p c (Seal b place dirty) r at ready = seal_keeps n w cs p c r at b (seal_word place dirty) ready.0 ready.1
step_keeps n w cs p c (Finish b) r at ready = let known = ready.2 in finish_keeps n w cs p c r at b known.0 ready.0 ready.1 known.1 (has_room n w cs p c r at b known.0 ready.0 ready.1 known.1 known.2)
step_keeps n w cs p c (Count kind) r at ready = subst (λ (u : Words). LockRule n u (set cs p (counting kind c))) (put_count w kind) (count_keeps n w cs p c r at kind)
step_keeps n w cs p c SetFailed r at ready = fail_keeps n w cs p c r at Failed
step_keeps n w cs p c SetSuspended r at ready = fail_keeps n w cs p c r at Suspended

-- With all words 0 and nobody holding anything, the rule holds.
all_blank : (m p : ℕ) (c : Card) → get_elem? (replicate m blank_card) p ≡ some c → c ≡ blank_card
all_blank zero p c e = absurd (some-ne-none c (sym e))
all_blank (suc m) zero c e = sym (some-injective blank_card c e)
all_blank (suc m) (suc p) c e = all_blank m p c e

pub blank_knows : (w : Words) → Knows w blank_card
blank_knows w = record { seal = λ a b x e is. absurd (nothing_held a b e); number = λ a b x e is. absurd (nothing_held a b e); saw = tt }

pub fresh_rule : (n m : ℕ) → LockRule n (fresh_words n) (replicate m blank_card)
fresh_rule n m = let zero_at : (b : ℕ) → b < n → word_at (replicate n 0) (block b) ≡ 0 = λ b l. word_at_is (replicate n 0) (block b) ∙ get_or-replicate n b 0 0 l in record {
  cells_are = length-replicate n 0;
  seals_are = length-replicate n 0;
  numbers_are = length-replicate n 0;
  cells = λ b l. let z = zero_at b l in let s = total-replicate (sharers b) m blank_card refl in let o = total-replicate (owners b) m blank_card refl in
      record { is = omega arith; one = omega arith; apart = λ h. omega arith; room = omega arith };
  numbers = λ b l. zero_at b l ∙ sym (total-replicate (writes_on b) m blank_card refl);
  fits = λ b l. let z = zero_at b l in omega arith;
  counts = none_counted;
  knows = λ p c e. subst (Knows (fresh_words n)) (sym (all_blank m p c e)) (blank_knows (fresh_words n));
  logs = record {
    seals = λ b l. inl (zero_at b l, total-replicate (seals_on b) m blank_card refl);
    fail = λ j. fail_word (sym (total-replicate (times_set Failed) m blank_card refl) j) (sym (total-replicate (times_set Suspended) m blank_card refl) j);
    notes = λ p c e. subst (NotesWhatWas (replicate m blank_card)) (sym (all_blank m p c e)) (blank_notes (replicate m blank_card));
  };
}
  where
    none_at : (kind : Kind) → 0 ≡ total (counts_of kind) (replicate m blank_card) % 2 ^ 64
    none_at kind = ap (λ (z : ℕ). z % 2 ^ 64) (sym (total-replicate (counts_of kind) m blank_card refl))

    none_counted : (kind : Kind) → count_in (fresh_words n) kind ≡ total (counts_of kind) (replicate m blank_card) % 2 ^ 64
    none_counted ReadHit = none_at ReadHit
    none_counted ReadMiss = none_at ReadMiss
    none_counted WriteHit = none_at WriteHit
    none_counted WriteMiss = none_at WriteMiss
