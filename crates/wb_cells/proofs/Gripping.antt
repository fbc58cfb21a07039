-- The steps of a grip, put together.
use Rattle.std.proofs.Common.{◌≡◌, ℕ, ◌<◌, Bool, true, false, cond, if◌then◌else◌, eqb, eq-eqb, List, ◌∷◌, sym, refl, ap, ◌∙◌, subst, inl, inr, arith, Some}
use Rattle.std.proofs.lemmas.Bool.{eqb-true, true≢false}
use Rattle.wb_types.specs.declared.number.OBlock.{OBlock}
use Rattle.wb_words.specs.declared.word.Access.{Access}
use Rattle.wb_words.specs.declared.word.Access.TheVariants.{Shared, Owned}
use Rattle.wb_words.specs.declared.word.Word.{Word as WordName}
use Rattle.wb_words.specs.declared.word.Word.TheVariants.{Cell as LockWord, Seal as SealWord, Number, Fail}
use Rattle.wb_types.specs.declared.refusal.Refusal.TheVariants.{Busy, Failed}
use Rattle.wb_words.specs.SharedWords.{can_take, place_in, dirty_in}
use Rattle.wb_words.specs.declared.card.Hold.{Hold}
use Rattle.wb_words.specs.declared.card.Hold.TheVariants.{Held}
use Rattle.wb_words.specs.declared.card.Card.{Card}
use Rattle.wb_words.specs.declared.grip.GripStage.{GripStage}
use Rattle.wb_words.specs.declared.grip.GripStage.TheVariants.{LookFail, LookLock, Exchange, LookSeal, LookNumber}
use Rattle.wb_words.specs.declared.grip.Grip.{Grip}
use Rattle.wb_words.specs.declared.grip.Gripped.{Gripped}
use Rattle.wb_words.specs.declared.grip.Gripped.TheVariants.{More, Shared as GrippedShared, Owned as GrippedOwned, Refused}
use Rattle.wb_words.specs.Cards.{looked, losing, holding, is_own_seal, is_own_number}
use Rattle.wb_words.specs.Looks.{Finds, SawAtMost}
use Rattle.wb_words.specs.Grips.{told_held, told_at, stage_after, card_having_found, FindsAt, IsReadyAt, GripStep, IsMore, stages_left, tried, TellsHeld, Stays, EndsAs}

-- what the card of a grip that has come to a stage has become
abbrev pub Reached : Access → OBlock → GripStage → Card → Card → Type 0
Reached access block LookFail card after = after ≡ card
Reached access block LookLock card after = after ≡ looked Fail 0 card
Reached access block (Exchange seen) card after = after ≡ tried block seen card
Reached access block LookSeal card after = (w : ℕ) × (after ≡ holding (Held access block) (tried block w card))
Reached access block (LookNumber seal) card after = (w : ℕ) × (after ≡ looked (SealWord block) seal (holding (Held access block) (tried block w card)))

-- a grip on its way
pub record OnTheWay (access : Access) (block : OBlock) (card : Card) (grip : Grip) (now : Card) : Type 0 where
  pub access_is : grip.access ≡ access
  pub block_is : grip.block ≡ block
  pub fits : IsReadyAt access block grip.stage now
  pub reached : Reached access block grip.stage card now

module _ (access : Access) (block : OBlock) (c d e : Card) (x : ℕ) where
  goes_on : (stage : GripStage) → Reached access block stage c d → e ≡ card_having_found access block stage x d → IsMore (told_at access block stage x) → Reached access block (stage_after access stage x) c e
  goes_on LookFail r is more = by_test (eqb x 0) refl more
    where
      by_test : (t : Bool) → eqb x 0 ≡ t → IsMore (cond t (More x) (Refused Failed)) → Reached access block (cond t LookLock LookFail) c e
      by_test true z m = is ∙ (λ i. looked Fail (eqb-true x 0 z i) (r i))
      by_test false z m = absurd m
  goes_on LookLock r is more = by_test (can_take access x) more
    where
      by_test : (t : Bool) → IsMore (cond t (More x) (Refused Busy)) → Reached access block (cond t (Exchange x) LookFail) c e
      by_test true m = is ∙ ap (looked (LockWord block) x) r
      by_test false m = absurd m
  goes_on (Exchange seen) r is more = by_test (eqb x seen) is more
    where
      by_test : (t : Bool) → e ≡ (if t then holding (Held access block) d else losing block x d) → IsMore (cond t (More x) (Refused Busy)) → Reached access block (cond t LookSeal LookFail) c e
      by_test true i m = (seen, i ∙ ap (holding (Held access block)) r)
      by_test false i m = absurd m
  goes_on LookSeal r is more = (r.0, is ∙ ap (looked (SealWord block) x) r.1)
  goes_on (LookNumber seal) r is more = absurd (never access more)
    where
      never : (a : Access) → IsMore (told_held a block seal x) → ⊥
      never Shared m = m
      never Owned m = m

  fewer : (stage : GripStage) → IsMore (told_at access block stage x) → stages_left (stage_after access stage x) < stages_left stage
  fewer LookFail more = by_test (eqb x 0) more
    where
      by_test : (t : Bool) → IsMore (cond t (More x) (Refused Failed)) → stages_left (cond t LookLock LookFail) < 5
      by_test true m = omega arith
      by_test false m = absurd m
  fewer LookLock more = by_test (can_take access x) more
    where
      by_test : (t : Bool) → IsMore (cond t (More x) (Refused Busy)) → stages_left (cond t (Exchange x) LookFail) < 4
      by_test true m = omega arith
      by_test false m = absurd m
  fewer (Exchange seen) more = by_test (eqb x seen) more
    where
      by_test : (t : Bool) → IsMore (cond t (More x) (Refused Busy)) → stages_left (cond t LookSeal LookFail) < 3
      by_test true m = omega arith
      by_test false m = absurd m
  fewer LookSeal more = omega arith
  fewer (LookNumber seal) more = absurd (never access more)
    where
      never : (a : Access) → IsMore (told_held a block seal x) → ⊥
      never Shared m = m
      never Owned m = m

  -- what is told of the block at last
  holds_at : (seal w : ℕ) → d ≡ looked (SealWord block) seal (holding (Held access block) (tried block w c)) → d.hold ≡ Held access block → d.seal ≡ Some seal → e ≡ looked (Number block) x d → Finds (Number block) x d
      → TellsHeld access block (place_in seal) (dirty_in seal) x c e
  holds_at seal w was hold known is finds = let saw : d.saw ≡ (SealWord block, seal) ∷ ((LockWord block, w) ∷ ((Fail, 0) ∷ c.saw)) = ap (λ (z : Card). z.saw) was in
      let least : SawAtMost block x ((SealWord block, seal) ∷ ((LockWord block, w) ∷ ((Fail, 0) ∷ c.saw))) = subst (SawAtMost block x) saw (finds.grows block refl) in record {
        hold = ap (λ (z : Card). z.hold) is ∙ hold;
        found = seal;
        stored = ap (λ (z : Card). z.stored) is ∙ ap (λ (z : Card). z.stored) was;
        seal = (ap (λ (z : Card). z.seal) is ∙ (ap (λ (h : Hold). cond (is_own_seal h (Number block)) (Some x) d.seal) hold ∙ known), refl, refl);
        number_is = ap (λ (z : Card). z.number) is ∙ (ap (λ (h : Hold). cond (is_own_number h (Number block)) (Some x) d.number) hold ∙ ap (λ (t : Bool). cond t (Some x) d.number) (eq-eqb block.0 block.0 refl));
        kept = ap (λ (z : Card). z.kept) is ∙ ap (λ (z : Card). z.kept) was;
        added = ap (λ (z : Card). z.added) is ∙ ap (λ (z : Card). z.added) was;
        took = ap (λ (z : Card). z.took) is ∙ ap (λ (z : Card). z.took) was;
        set = ap (λ (z : Card). z.set) is ∙ ap (λ (z : Card). z.set) was;
        lost = ap (λ (z : Card). z.lost) is ∙ ap (λ (z : Card). z.lost) was;
        saw = (w, ap (λ (z : Card). z.saw) is ∙ ap (λ (l : List (WordName × ℕ)). (Number block, x) ∷ l) saw);
        least = least.1.1.1;
      }

  stays_so : (z : Card) → e ≡ z → z.hold ≡ c.hold → z.kept ≡ c.kept → z.added ≡ c.added → z.stored ≡ c.stored → Stays c e
  stays_so z is h k a s = record { hold = ap (λ (y : Card). y.hold) is ∙ h; kept = ap (λ (y : Card). y.kept) is ∙ k; added = ap (λ (y : Card). y.added) is ∙ a; stored = ap (λ (y : Card). y.stored) is ∙ s }

  ends_so : (stage : GripStage) → Reached access block stage c d → IsReadyAt access block stage d → e ≡ card_having_found access block stage x d → FindsAt block stage x d → (IsMore (told_at access block stage x) → ⊥)
      → EndsAs access block (told_at access block stage x) c e
  ends_so LookFail r fits is finds ends = by_test (eqb x 0) refl ends
    where
      by_test : (t : Bool) → eqb x 0 ≡ t → (IsMore (cond t (More x) (Refused Failed)) → ⊥) → EndsAs access block (cond t (More x) (Refused Failed)) c e
      by_test true z n = absurd (n tt)
      by_test false z n = let now : e ≡ looked Fail x c = is ∙ ap (looked Fail x) r in
          (stays_so (looked Fail x c) now refl refl refl refl, inr (refl, (x, (λ h. true≢false (sym (eq-eqb x 0 h) ∙ z)), now)))
  ends_so LookLock r fits is finds ends = by_test (can_take access x) refl ends
    where
      by_test : (t : Bool) → can_take access x ≡ t → (IsMore (cond t (More x) (Refused Busy)) → ⊥) → EndsAs access block (cond t (More x) (Refused Busy)) c e
      by_test true z n = absurd (n tt)
      by_test false z n = let now : e ≡ tried block x c = is ∙ ap (looked (LockWord block) x) r in (stays_so (tried block x c) now refl refl refl refl, inl (refl, (x, inl (z, now))))
  ends_so (Exchange seen) r fits is finds ends = by_test (eqb x seen) refl is ends
    where
      by_test : (t : Bool) → eqb x seen ≡ t → e ≡ (if t then holding (Held access block) d else losing block x d) → (IsMore (cond t (More x) (Refused Busy)) → ⊥) → EndsAs access block (cond t (More x) (Refused Busy)) c e
      by_test true z i n = absurd (n tt)
      by_test false z i n = let now : e ≡ losing block x (tried block seen c) = i ∙ ap (losing block x) r in
          (stays_so (losing block x (tried block seen c)) now refl refl refl refl, inl (refl, (seen, inr (fits.1, (x, (λ h. true≢false (sym (eq-eqb x seen h) ∙ z)), now)))))
  ends_so LookSeal r fits is finds ends = absurd (ends tt)
  ends_so (LookNumber seal) r fits is finds ends = told_of access (holds_at seal r.0 r.1 fits.0 fits.1 is finds)
    where
      told_of : (a : Access) → TellsHeld a block (place_in seal) (dirty_in seal) x c e → EndsAs a block (told_held a block seal x) c e
      told_of Shared h = (refl, refl, h)
      told_of Owned h = (refl, refl, h)

-- the way of a grip through one step
pub on_the_way : {blocks : ℕ} {alone : Type 0} (access : Access) (block : OBlock) (card : Card) (grip next : Grip) (now after : Card) (result : Gripped) → OnTheWay access block card grip now → GripStep blocks alone grip now result next after
    → IsMore result → IsReadyAt next.access next.block next.stage after → OnTheWay access block card next after
on_the_way access block card grip next now after result way s more fits =
    let stage : next.stage ≡ stage_after grip.access grip.stage s.found = ap (λ (g : Grip). g.stage) s.next_is in
    let same_access : next.access ≡ access = ap (λ (g : Grip). g.access) s.next_is ∙ way.access_is in let same_block : next.block ≡ block = ap (λ (g : Grip). g.block) s.next_is ∙ way.block_is in
    let stage_now : next.stage ≡ stage_after access grip.stage s.found = stage ∙ ap (λ (a : Access). stage_after a grip.stage s.found) way.access_is in
    let is : after ≡ card_having_found access block grip.stage s.found now = s.after_is ∙ (λ i. card_having_found (way.access_is i) (way.block_is i) grip.stage s.found now) in
    let went : IsMore (told_at access block grip.stage s.found) = subst IsMore (s.told ∙ (λ i. told_at (way.access_is i) (way.block_is i) grip.stage s.found)) more in record {
      access_is = same_access;
      block_is = same_block;
      fits = subst (λ (z : Access × OBlock). IsReadyAt z.0 z.1 next.stage after) (λ i. (same_access i, same_block i)) fits;
      reached = subst (λ (z : GripStage). Reached access block z card after) (sym stage_now) (goes_on access block card now after s.found grip.stage way.reached is went);
    }

-- where it ends
pub way_ends : {blocks : ℕ} {alone : Type 0} (access : Access) (block : OBlock) (card : Card) (grip next : Grip) (now after : Card) (result : Gripped) → OnTheWay access block card grip now → GripStep blocks alone grip now result next after
    → (IsMore result → ⊥) → EndsAs access block result card after
way_ends access block card grip next now after result way s ends =
    let told : result ≡ told_at access block grip.stage s.found = s.told ∙ (λ i. told_at (way.access_is i) (way.block_is i) grip.stage s.found) in
    let is : after ≡ card_having_found access block grip.stage s.found now = s.after_is ∙ (λ i. card_having_found (way.access_is i) (way.block_is i) grip.stage s.found now) in
    subst (λ (z : Gripped). EndsAs access block z card after) (sym told)
    (ends_so access block card now after s.found grip.stage way.reached way.fits is (subst (λ (b : OBlock). FindsAt b grip.stage s.found now) way.block_is s.finds) (λ m. ends (subst IsMore (sym told) m)))

pub not_more : (r : Gripped) → ((x : ℕ) → r ≡ More x → ⊥) → IsMore r → ⊥
not_more (More x) n m = n x refl
not_more (GrippedShared share) n m = m
not_more (GrippedOwned own) n m = m
not_more (Refused refusal) n m = m
