use Rattle.std.proofs.Common.{◌≡◌, inl, inr, ℕ, zero, suc, [], ◌∷◌, Bool, true, false, cond, Option, Some, None, refl, sym, ap, subst, ◌∙◌, arith, Contains}
use Rattle.wb_contents.proofs.Sectors.{by_sector, elsewhere_is}
use Rattle.std.proofs.lemmas.Bool.{cases_eq}
use Rattle.wb_contents.proofs.Positions.{changed_other}
use Rattle.wb_contents.specs.Examples.{blank_volume, nothing, one, one_kept, Breaks, suspend_root_before_its_syncs, flush_by_an_older_commit, flush_of_syncs_alone, root_before_its_syncs, opening_without_the_origin_sync, committed_cache_block_filled, dirty_block_removed_uncopied, passthrough_over_a_dirty_block, two, two_lives, a_third_life, flushed_one, stale_copy}
use Rattle.wb_disk.specs.Device.{Content, History, entries, newest, added, only}
use Rattle.wb_contents.specs.Acts.{all_synced, volume_after_all}
use Rattle.wb_types.specs.declared.mode.Mode.TheVariants.{Writeback}
use Rattle.wb_contents.specs.Volume.{Standing, Whole, Half, changed, changed_at}
use Rattle.wb_contents.specs.Promises.{IsEntryFrom, first_volume, IsConsistent}
use Rattle.wb_contents.specs.Conditions.{IsRunOfActs}

-- Runs that leave out one condition each, and break what holds.

pub apart : nothing ≡ one → ⊥
apart e = absurd (cc)

-- the first content is not the second entry
pub older : IsEntryFrom 1 (added (only []) (1 ∷ [])) [] → ⊥
older (zero, l, e) = absurd (omega (arith, l))
older (suc zero, l, e) = absurd (cc)
older (suc (suc p), l, e) = absurd (cc)

-- nor is a content of no life's history
pub foreign : IsEntryFrom 0 (only (1 ∷ [])) [] → ⊥
foreign (zero, l, e) = absurd (cc)
foreign (suc p, l, e) = absurd (cc)

pub early_suspend_breaks : Breaks suspend_root_before_its_syncs
early_suspend_breaks h = apart (h.latest 0 0 refl)

pub late_flush_breaks : Breaks flush_by_an_older_commit
late_flush_breaks h = older (h.committed_allowed 0 0 [] (0, omega arith, refl))

pub mere_syncs_breaks : Breaks flush_of_syncs_alone
mere_syncs_breaks h = older (h.committed_allowed 0 0 [] (0, omega arith, refl))

pub early_root_breaks : Breaks root_before_its_syncs
early_root_breaks h = older (h.committed_allowed 0 0 [] (0, omega arith, refl))

pub hasty_opening_breaks : Breaks opening_without_the_origin_sync
hasty_opening_breaks h = foreign (h.committed_allowed 0 0 [] (0, omega arith, refl))

pub early_fill_breaks : Breaks committed_cache_block_filled
early_fill_breaks h = older (h.committed_allowed 0 0 [] (1, omega arith, refl))

pub lost_copy_breaks : Breaks dirty_block_removed_uncopied
lost_copy_breaks h = apart (h.latest 0 0 refl)

pub blind_pass_breaks : Breaks passthrough_over_a_dirty_block
blind_pass_breaks h = apart (h.latest 0 0 refl)

abbrev pub zeros : ℕ → ℕ → History
zeros k o = only []

abbrev pub with_one : ℕ → ℕ → History
with_one = changed_at zeros 0 0 (added (only []) one)

abbrev pub with_two : ℕ → ℕ → History
with_two = changed_at (all_synced with_one) 0 0 (added (all_synced with_one 0 0) two)

pub may_keep : (k o : ℕ) → Contains (entries (with_two k o)) (one_kept k o)
may_keep = by_sector (λ k o. Contains (entries (with_two k o)) (one_kept k o)) 0 0 (0, omega arith, refl)
    (λ k o n. let e : with_two k o ≡ only [] = elsewhere_is (all_synced with_one) 0 0 k o (added (all_synced with_one 0 0) two) n ∙ ap (λ (h : History). only (newest h)) (elsewhere_is zeros 0 0 k o (added (only []) one) n) in
    let f : one_kept k o ≡ nothing = elsewhere_is blank_volume 0 0 k o one n in
    subst (λ (h : History). Contains (entries h) (one_kept k o)) (sym e) (subst (λ (c : Content). Contains (entries (only [])) c) (sym f) (0, omega arith, refl)))

pub two_lives_run : IsRunOfActs (first_volume Writeback blank_volume) two_lives
two_lives_run = (
  (refl, ((λ b e. absurd (cc)), (λ b e. absurd (cc)), (λ b e. absurd (cc))), refl, (λ o. refl)),
  (
    refl,
    (
      (refl, inr refl),
      (
        refl,
        (
          tt,
          (
            (refl, refl),
            (
              tt,
              (
                tt,
                (
                  (refl, refl),
                  (
                    refl,
                    (
                      omega arith,
                      (
                        (refl, inr refl),
                        (
                          ((λ e. absurd (cc)), (λ b o. (0, omega arith, refl)), may_keep),
                          (
                            (λ e. absurd (cc)),
                            (
                              tt,
                              (
                                tt,
                                (
                                  (refl, refl),
                                  (
                                    (refl, refl, refl, tt),
                                    (
                                      refl,
                                      (
                                        (refl, refl),
                                        (refl, tt),
                                      ),
                                    ),
                                  ),
                                ),
                              ),
                            ),
                          ),
                        ),
                      ),
                    ),
                  ),
                ),
              ),
            ),
          ),
        ),
      ),
    ),
  ),
)

abbrev pub mid : ℕ → ℕ → History
mid k o = only (one_kept k o)

pub copied : (o : ℕ) → newest (changed_at mid 0 0 (added (mid 0 0) two) 0 o) ≡ newest (changed_at zeros 0 0 (added (only []) two) 0 o)
copied o = elim (cases_eq o 0) [
  | inl e ↦ subst (λ (v : ℕ). newest (changed_at mid 0 0 (added (mid 0 0) two) 0 v) ≡ newest (changed_at zeros 0 0 (added (only []) two) 0 v)) (sym e) refl
  | inr n ↦ ap newest (elsewhere_is mid 0 0 0 o (added (mid 0 0) two) (inr n)) ∙ elsewhere_is blank_volume 0 0 0 o one (inr n) ∙ sym (ap newest (elsewhere_is zeros 0 0 0 o (added (only []) two) (inr n)))
]

abbrev pub whole : ℕ → ℕ → Standing
whole b o = Whole

pub all_whole : (b o : ℕ) → changed_at (changed_at whole 0 0 Half) 0 0 Whole b o ≡ Whole
all_whole = by_sector (λ b o. changed_at (changed_at whole 0 0 Half) 0 0 Whole b o ≡ Whole) 0 0 refl
    (λ b o n. elsewhere_is (changed_at whole 0 0 Half) 0 0 b o Whole n ∙ elsewhere_is whole 0 0 b o Half n)

abbrev pub nowhere : ℕ → Option ℕ
nowhere b = None

abbrev pub marked_dirty : ℕ → Bool
marked_dirty b = true

pub admitted : (b k : ℕ) → changed nowhere 0 (Some 0) b ≡ Some k → cond (changed marked_dirty 0 false b) false true ≡ true
admitted b k e = elim (cases_eq b 0) [
  | inl s ↦ subst (λ (v : ℕ). cond (changed marked_dirty 0 false v) false true ≡ true) (sym s) refl
  | inr n ↦ let bad : None ≡ Some k = sym (changed_other nowhere 0 b (Some 0) n) ∙ e in absurd (cc)
]

pub a_third_life_runs : IsRunOfActs (volume_after_all (first_volume Writeback blank_volume) two_lives) a_third_life
a_third_life_runs = (
  (refl, (0, refl, inr copied)),
  (
    (refl, refl, all_whole),
    (
      tt,
      (
        tt,
        (
          (refl, refl),
          (
            refl,
            (
              (λ e. absurd (cc)),
              (
                tt,
                (
                  tt,
                  (
                    (refl, refl),
                    (
                      (refl, refl, refl, admitted),
                      (
                        (refl, (0, refl, inr (refl, (λ o. refl)))),
                        (
                          (refl, inl refl),
                          (refl, tt),
                        ),
                      ),
                    ),
                  ),
                ),
              ),
            ),
          ),
        ),
      ),
    ),
  ),
)

pub stale_copy_breaks : IsEntryFrom 0 (flushed_one.histories 0 0) nothing × (IsConsistent stale_copy → ⊥)
stale_copy_breaks = ((0, omega arith, refl), (λ h. older (h.committed_allowed 0 0 nothing (1, omega arith, refl))))
