-- One event more, of a history that a ledger tells.
use Rattle.std.proofs.Common.{◌≡◌, ◌≤◌, ◌+◌, ◌⊎◌, inl, inr, ◌∙◌, ℕ, suc, true, false, List, [], ◌∷◌, refl, sym, ap, subst, arith}
use Rattle.wb_files.specs.Events.{Event, Wrote, Began, EndedWell, Failed, has_write, has_failure, BeganSince, IsCovered}
use Rattle.wb_files.specs.Ledgers.{IsTold}
use Rattle.wb_files.specs.declared.ledger.SyncLedger.{SyncLedger}

-- no write ended in the event
abbrev since_on : (e : Event) (events : List Event) (number : ℕ) → (b : BeganSince events number) → has_write (e ∷ b.after) ≡ false → BeganSince (e ∷ events) number
since_on e events number b w = record { after = e ∷ b.after; before = b.before; began = ap (λ (rest : List Event). e ∷ rest) b.began; unwritten = w }

-- nor did a sync fail in it
covered_on : (e : Event) (events : List Event) → (c : IsCovered events) → has_write (e ∷ c.since.after) ≡ false → has_failure (e ∷ events) ≡ false → IsCovered (e ∷ events)
covered_on e events c w s = record { number = c.number; since = since_on e events c.number c.since w; well = (suc c.well.0, omega (arith, c.well.1), c.well.2); sound = s }

-- of the numbers up to the next
next_or_less : (n m : ℕ) → n ≤ m + 1 → (n ≤ m) ⊎ (n ≡ m + 1)
next_or_less n m l = grind arith

pub true_is_not_false : true ≡ false → ⊥
true_is_not_false e = grind (arith, e)

-- nothing is known of who wrote before
pub told_new : (new : SyncLedger) → new.begun ≡ 0 → new.written ≡ 0 → new.synced ≡ 0 → new.has_failed ≡ false → IsTold (Wrote ∷ []) new
told_new new b w s f = record {
  begun = b;
  sound = λ ok. refl;
  since = λ n above below. absurd (omega (arith, above, below, b, w));
  covered = λ c. absurd (omega (arith, c.0, w, s));
}

-- a write is noted by the number of the last sync, behind which it came
pub told_wrote : (events : List Event) (old new : SyncLedger) → new.begun ≡ old.begun → new.written ≡ old.begun → new.synced ≡ old.synced → new.has_failed ≡ old.has_failed
    → old.synced ≤ old.begun → IsTold events old → IsTold (Wrote ∷ events) new
told_wrote events old new b w s f within told = record {
  begun = b ∙ told.begun;
  sound = λ ok. told.sound (sym f ∙ ok);
  since = λ n above below. absurd (omega (arith, above, below, b, w));
  covered = λ c. absurd (omega (arith, c.0, w, s, within));
}

-- a sync that begins has the next number
pub told_began : (events : List Event) (old new : SyncLedger) → new.begun ≡ old.begun + 1 → new.written ≡ old.written → new.synced ≡ old.synced → new.has_failed ≡ old.has_failed
    → IsTold events old → IsTold (Began new.begun ∷ events) new
told_began events old new b w s f told = record {
  begun = b ∙ ap (λ (n : ℕ). n + 1) told.begun;
  sound = λ ok. told.sound (sym f ∙ ok);
  since = λ n above below. elim (next_or_less n old.begun (omega (arith, below, b))) [
    | inl l ↦ let x = told.since n (omega (arith, above, w)) l in since_on (Began new.begun) events n x x.unwritten
    | inr e ↦ subst (λ (k : ℕ). BeganSince (Began new.begun ∷ events) k) (b ∙ sym e) (record { after = []; before = events; began = refl; unwritten = refl })
  ];
  covered = λ by. let c = told.covered (omega (arith, by.0, w, s), sym f ∙ by.1) in covered_on (Began new.begun) events c c.since.unwritten c.sound;
}

-- A sync that ended well counts where its number is greater than that of each before. One that began behind the last write has made it durable.
pub told_ended : (events : List Event) (old new : SyncLedger) (number : ℕ) → new.begun ≡ old.begun → new.written ≡ old.written → new.synced ≡ number → new.has_failed ≡ old.has_failed
    → number ≤ old.begun → IsTold events old → IsTold (EndedWell number ∷ events) new
told_ended events old new number b w s f within told = record {
  begun = b ∙ told.begun;
  sound = λ ok. told.sound (sym f ∙ ok);
  since = λ n above below. let x = told.since n (omega (arith, above, w)) (omega (arith, below, b)) in since_on (EndedWell number) events n x x.unwritten;
  covered = λ by.
      let x = told.since number (omega (arith, by.0, w, s)) within in
      record { number = number; since = since_on (EndedWell number) events number x x.unwritten; well = (0, omega arith, refl); sound = told.sound (sym f ∙ by.1) };
}

-- a smaller one changes no number
pub told_ended_late : (events : List Event) (ledger : SyncLedger) (number : ℕ) → IsTold events ledger → IsTold (EndedWell number ∷ events) ledger
told_ended_late events ledger number told = record {
  begun = told.begun;
  sound = told.sound;
  since = λ n above below. let x = told.since n above below in since_on (EndedWell number) events n x x.unwritten;
  covered = λ by. let c = told.covered by in covered_on (EndedWell number) events c c.since.unwritten c.sound;
}

-- once a sync has failed none is left out
pub told_failed : (events : List Event) (old new : SyncLedger) → new.begun ≡ old.begun → new.written ≡ old.written → new.has_failed ≡ true → IsTold events old → IsTold (Failed ∷ events) new
told_failed events old new b w f told = record {
  begun = b ∙ told.begun;
  sound = λ ok. absurd (true_is_not_false (sym f ∙ ok));
  since = λ n above below. let x = told.since n (omega (arith, above, w)) (omega (arith, below, b)) in since_on Failed events n x x.unwritten;
  covered = λ by. absurd (true_is_not_false (sym f ∙ by.1));
}
