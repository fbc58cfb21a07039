-- The steps of a grip of who has the whole.
use Rattle.std.proofs.Common.{◌≡◌, ◌≢◌, ◌⊎◌, ℕ, zero, suc, ◌<◌, Bool, true, false, cond, eqb, eq-eqb, List, [], ◌∷◌, sym, refl, ap, ◌∙◌, subst, inl, inr, arith}
use Rattle.std.proofs.lemmas.Bool.{eqb-true, true≢false}
use Rattle.std.proofs.lemmas.Nat.Bits.{bit_at-zero}
use Rattle.wb_types.specs.declared.number.OBlock.{OBlock}
use Rattle.wb_types.specs.declared.refusal.Refusal.TheVariants.{Busy, Failed}
use Rattle.wb_words.specs.declared.word.Access.{Access}
use Rattle.wb_words.specs.declared.word.Access.TheVariants.{Shared, Owned}
use Rattle.wb_words.specs.declared.word.FailBit.{FailBit}
use Rattle.wb_words.specs.declared.word.FailBit.TheVariants.{Failed as FailedBit, Suspended as SuspendedBit}
use Rattle.wb_words.specs.SharedWords.{Words, word_at, can_take, fail_word, bit_number, HasBits}
use Rattle.wb_words.specs.declared.card.Hold.TheVariants.{Nothing}
use Rattle.wb_words.specs.declared.card.Card.{Card}
use Rattle.wb_words.specs.declared.grip.GripStage.{GripStage}
use Rattle.wb_words.specs.declared.grip.GripStage.TheVariants.{LookFail, LookLock, Exchange, LookSeal, LookNumber}
use Rattle.wb_words.specs.declared.grip.Grip.{Grip}
use Rattle.wb_words.specs.declared.grip.Gripped.{Gripped}
use Rattle.wb_words.specs.declared.grip.Gripped.TheVariants.{More, Shared as GrippedShared, Owned as GrippedOwned, Refused}
use Rattle.wb_words.specs.Cards.{total, is_bit, shares, owns, times_set}
use Rattle.wb_words.specs.Rule.{LockRule}
use Rattle.wb_words.specs.Effects.{found_by}
use Rattle.wb_words.specs.Grips.{told_held, told_at, stage_after, step_at, IsReadyAt, GripStep, IsMore, EndsAlone}
use Rattle.wb_cells.proofs.Gripping.{Reached, OnTheWay}

-- a fail word with a bit is not 0
pub no_bits : (bits : List FailBit) → HasBits 0 bits → bits ≡ []
no_bits [] h = refl
no_bits (bit ∷ bits) h = let none = bit_at-zero (bit_number bit) in absurd (let one = h.0 in omega arith)

fail_zero : (f s : ℕ) → fail_word f s ≡ 0 → (f ≡ 0) × (s ≡ 0)
fail_zero zero zero e = (refl, refl)
fail_zero zero (suc s) e = absurd (omega arith)
fail_zero (suc f) zero e = absurd (omega arith)
fail_zero (suc f) (suc s) e = absurd (omega arith)

none_set : (bits : List FailBit) → total (is_bit FailedBit) bits ≡ 0 → total (is_bit SuspendedBit) bits ≡ 0 → bits ≡ []
none_set [] f s = refl
none_set (FailedBit ∷ bits) f s = absurd (omega arith)
none_set (SuspendedBit ∷ bits) f s = absurd (omega arith)

-- what is known of the card of who is alone, where its grip has come to a stage
abbrev pub AloneAt : GripStage → Card → Type 0
AloneAt LookFail card = Unit {0}
AloneAt LookLock card = card.set ≡ []
AloneAt (Exchange seen) card = (card.set ≡ []) × (seen ≡ 0)
AloneAt LookSeal card = card.set ≡ []
AloneAt (LookNumber seal) card = card.set ≡ []

abbrev Goes : Gripped → GripStage → Card → Type 0
Goes (More x) stage card = AloneAt stage card
Goes (GrippedShared share) stage card = card.set ≡ []
Goes (GrippedOwned own) stage card = card.set ≡ []
Goes (Refused refusal) stage card = (refusal ≡ Failed) × (card.set ≢ [])

goes_more : (r : Gripped) (stage : GripStage) (card : Card) → IsMore r → Goes r stage card → AloneAt stage card
goes_more (More x) stage card m g = g
goes_more (GrippedShared share) stage card m g = absurd m
goes_more (GrippedOwned own) stage card m g = absurd m
goes_more (Refused refusal) stage card m g = absurd m

goes_ends : (r : Gripped) (stage : GripStage) (card : Card) → (IsMore r → ⊥) → Goes r stage card → EndsAlone r card
goes_ends (More x) stage card m g = m tt
goes_ends (GrippedShared share) stage card m g = g
goes_ends (GrippedOwned own) stage card m g = g
goes_ends (Refused refusal) stage card m g = g

module _ (blocks : ℕ) (access : Access) (block : OBlock) (inside : block.0 < blocks) (c d : Card) (x : ℕ) (w : Words) (r : LockRule blocks w (d ∷ [])) where
  set_is : (stage : GripStage) → Reached access block stage c d → d.set ≡ c.set
  set_is LookFail h = ap (λ (z : Card). z.set) h
  set_is LookLock h = ap (λ (z : Card). z.set) h
  set_is (Exchange seen) h = ap (λ (z : Card). z.set) h
  set_is LookSeal h = ap (λ (z : Card). z.set) h.1
  set_is (LookNumber seal) h = ap (λ (z : Card). z.set) h.1

  fail_is : w.fail ≡ fail_word (times_set FailedBit d) (times_set SuspendedBit d)
  fail_is = r.logs.fail ∙ (λ j. fail_word (sum (times_set FailedBit) j) (sum (times_set SuspendedBit) j))
    where
      sum : (f : Card → ℕ) → total f (d ∷ []) ≡ f d
      sum f = omega arith

  lock_is : d.hold ≡ Nothing → d.set ≡ [] → word_at w.cells block ≡ 0
  lock_is idle none = let lock = r.cells block.0 inside in let is = lock.is in let k = (r.logs.notes 0 d refl).kept block.0 in
      let s = ap (shares block.0) idle in let o = ap (owns block.0) idle in let f = ap (total (is_bit FailedBit)) none in let g = ap (total (is_bit SuspendedBit)) none in omega arith

  alone_so : (stage : GripStage) → Reached access block stage c d → IsReadyAt access block stage d → AloneAt stage c → x ≡ found_by w (step_at access block stage) → Goes (told_at access block stage x) (stage_after access stage x) c
  alone_so LookFail h fits known is = by_test (eqb x 0) refl
    where
      by_test : (t : Bool) → eqb x 0 ≡ t → Goes (cond t (More x) (Refused Failed)) (cond t LookLock LookFail) c
      by_test true z = let none = fail_zero _ _ (sym fail_is ∙ (sym is ∙ eqb-true x 0 z)) in sym (set_is LookFail h) ∙ none_set d.set none.0 none.1
      by_test false z = (
        refl,
        λ none. let no : d.set ≡ [] = set_is LookFail h ∙ none in
            let zero_now : x ≡ 0 = is ∙ (fail_is ∙ (λ j. fail_word (ap (total (is_bit FailedBit)) no j) (ap (total (is_bit SuspendedBit)) no j))) in true≢false (sym (eq-eqb x 0 zero_now) ∙ z),
      )
  alone_so LookLock h fits known is = let none : x ≡ 0 = is ∙ lock_is fits (set_is LookLock h ∙ known) in
      subst (λ (t : Bool). Goes (cond t (More x) (Refused Busy)) (cond t (Exchange x) LookFail) c) (sym (ap (can_take access) none ∙ free access)) (known, none)
    where
      free : (a : Access) → can_take a 0 ≡ true
      free Shared = refl
      free Owned = refl
  alone_so (Exchange seen) h fits known is = let none : x ≡ 0 = is ∙ lock_is fits.0 (set_is (Exchange seen) h ∙ known.0) in
      subst (λ (t : Bool). Goes (cond t (More x) (Refused Busy)) (cond t LookSeal LookFail) c) (sym (eq-eqb x seen (none ∙ sym known.1))) known.0
  alone_so LookSeal h fits known is = known
  alone_so (LookNumber seal) h fits known is = held access
    where
      held : (a : Access) → Goes (told_held a block seal x) LookFail c
      held Shared = known
      held Owned = known

module _ (blocks : ℕ) (alone : Type 0) (access : Access) (block : OBlock) (card : Card) (grip next : Grip) (now after : Card) (result : Gripped) (inside : block.0 < blocks) (so : alone) (way : OnTheWay access block card grip now) (s : GripStep blocks alone grip now result next after) (known : AloneAt grip.stage card) where
  goes : Goes result next.stage card
  goes = let told : result ≡ told_at access block grip.stage s.found = s.told ∙ (λ i. told_at (way.access_is i) (way.block_is i) grip.stage s.found) in
      let stage : next.stage ≡ stage_after access grip.stage s.found = ap (λ (g : Grip). g.stage) s.next_is ∙ (λ i. stage_after (way.access_is i) grip.stage s.found) in
      let found : s.found ≡ found_by s.at.words (step_at access block grip.stage) = s.found_is ∙ (λ i. found_by s.at.words (step_at (way.access_is i) (way.block_is i) grip.stage)) in
      let rule : LockRule blocks s.at.words (now ∷ []) = subst (λ (cs : List Card). LockRule blocks s.at.words cs) (s.at.only so) s.at.rule in
      subst (λ (z : Gripped × GripStage). Goes z.0 z.1 card) (λ i. (sym told i, sym stage i))
      (alone_so blocks access block inside card now s.found s.at.words rule grip.stage way.reached way.fits known found)

  -- on its way it knows so
  pub alone_on : IsMore result → AloneAt next.stage card
  alone_on more = goes_more result next.stage card more goes

  -- and at its end
  pub alone_ends : (IsMore result → ⊥) → EndsAlone result card
  alone_ends ends = goes_ends result next.stage card ends goes

pub none_or : (bits : List FailBit) → (bits ≡ []) ⊎ (bits ≢ [])
none_or [] = inl refl
none_or (bit ∷ bits) = inr (λ e. cc)
