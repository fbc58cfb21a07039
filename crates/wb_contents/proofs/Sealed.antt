use Rattle.std.proofs.Common.{◌≡◌, ◌+◌, inl, inr, ℕ, Bool, true, false, cond, Some, refl, sym, ap, subst, ◌∙◌, Contains}
use Rattle.wb_disk.specs.Device.{Content, History, entries, newest, only}
use Rattle.wb_contents.specs.Volume.{Volume, at_location, Image, unclean}
use Rattle.wb_contents.specs.Conditions.{IsAllWhole}
use Rattle.wb_contents.specs.Acts.{life_ended, all_synced}
use Rattle.wb_contents.proofs.Positions.{only_one}
use Rattle.wb_contents.proofs.Floors.{IsShorter}
use Rattle.wb_disk.proofs.Leaving.{newest_there}
use Rattle.wb_contents.proofs.Images.{IsWithin, IsQuiet}
use Rattle.wb_contents.proofs.Sectors.{KeepsLatest, shorter_newest, was_false}

-- two sectors hold one content, whichever a crash leaves
abbrev pub IsSameContent : History → History → Type 0
IsSameContent g h = (x y : Content) → Contains (entries g) x → Contains (entries h) y → x ≡ y

-- what holds of an image's clean blocks
abbrev pub IsSameOnClean : (origin cache : ℕ → ℕ → History) → Image → Type 0
IsSameOnClean origin cache image = (b k : ℕ) → image.clean b ≡ true → image.locations b ≡ Some k → (o : ℕ) → IsSameContent (cache k o) (origin b o)

abbrev pub IsEqualOnClean : (origin cache : ℕ → ℕ → History) → Image → Type 0
IsEqualOnClean origin cache image = (b k : ℕ) → image.clean b ≡ true → image.locations b ≡ Some k → (o : ℕ) → newest (cache k o) ≡ newest (origin b o)

pub record KeepsClean (d : Volume) : Type 0 where
  -- while a target stands no image takes a block as clean
  pub open_committed : d.live ≡ true → (b : ℕ) → d.committed.clean b ≡ false
  pub open_running : d.live ≡ true → (b : ℕ) → d.running.clean b ≡ false
  -- a clean block of an image that a crash may leave has one content on both, whatever the crash leaves of it
  pub committed_same : IsSameOnClean d.origin d.cache d.committed
  pub running_equal : IsEqualOnClean d.origin d.cache d.running
  pub running_same : d.root_written ≡ true → IsSameOnClean d.origin d.cache d.running
  -- with no target, nothing is added after a sync
  pub quiet_cache : d.live ≡ false → d.cache_synced ≡ true → (k o : ℕ) → IsQuiet (d.cache k o)
  pub quiet_origin : d.live ≡ false → d.origin_synced ≡ true → (b o : ℕ) → IsQuiet (d.origin b o)

pub same_newest : (g h : History) → IsSameContent g h → newest g ≡ newest h
same_newest g h s = s (newest g) (newest h) (newest_there g) (newest_there h)

pub same_within : (g h g' h' : History) → IsWithin g' g → IsWithin h' h → IsSameContent g h → IsSameContent g' h'
same_within g h g' h' wg wh s x y m n = s x y (wg x m) (wh y n)

pub same_quiet : (g h : History) → IsQuiet g → IsQuiet h → newest g ≡ newest h → IsSameContent g h
same_quiet g h qg qh e x y m n = qg x m ∙ e ∙ sym (qh y n)

pub shorter_within : (f g : ℕ → ℕ → History) → IsShorter f g → (i o : ℕ) → IsWithin (g i o) (f i o)
shorter_within f g s i o c m = elim (s i o) [
  | inl e ↦ subst (λ (h : History). Contains (entries h) c) e m
  | inr e ↦ subst (λ (x : Content). Contains (entries (f i o)) x) (only_one (newest (f i o)) c (subst (λ (h : History). Contains (entries h) c) e m)) (newest_there (f i o))
]

pub quiet_only : (c : Content) → IsQuiet (only c)
quiet_only c x m = sym (only_one c x m)

pub quiet_within : (g h : History) → IsWithin g h → newest g ≡ newest h → IsQuiet h → IsQuiet g
quiet_within g h w e q c m = q c (w c m) ∙ sym e

-- while a target stands
pub sealed_live : (d : Volume) → d.live ≡ true → ((b : ℕ) → d.committed.clean b ≡ false) → ((b : ℕ) → d.running.clean b ≡ false) → KeepsClean d
sealed_live d l oc or = record {
  open_committed = λ e. oc;
  open_running = λ e. or;
  committed_same = λ b k f. let bad : true ≡ false = sym f ∙ oc b in absurd (cc);
  running_equal = λ b k f. let bad : true ≡ false = sym f ∙ or b in absurd (cc);
  running_same = λ r b k f. let bad : true ≡ false = sym f ∙ or b in absurd (cc);
  quiet_cache = λ e. let bad : true ≡ false = sym l ∙ e in absurd (cc);
  quiet_origin = λ e. let bad : true ≡ false = sym l ∙ e in absurd (cc);
}

pub shorter_sealed : (d : Volume) (origin cache : ℕ → ℕ → History) → IsShorter d.origin origin → IsShorter d.cache cache → KeepsClean d → KeepsClean (record d { origin = origin; cache = cache })
shorter_sealed d origin cache so sc i = record {
  open_committed = i.open_committed;
  open_running = i.open_running;
  committed_same = λ b k f e o. same_within (d.cache k o) (d.origin b o) (cache k o) (origin b o) (shorter_within d.cache cache sc k o) (shorter_within d.origin origin so b o) (i.committed_same b k f e o);
  running_equal = λ b k f e o. shorter_newest d.cache cache sc k o ∙ i.running_equal b k f e o ∙ sym (shorter_newest d.origin origin so b o);
  running_same = λ r b k f e o. same_within (d.cache k o) (d.origin b o) (cache k o) (origin b o) (shorter_within d.cache cache sc k o) (shorter_within d.origin origin so b o) (i.running_same r b k f e o);
  quiet_cache = λ l s k o. quiet_within (cache k o) (d.cache k o) (shorter_within d.cache cache sc k o) (shorter_newest d.cache cache sc k o) (i.quiet_cache l s k o);
  quiet_origin = λ l s b o. quiet_within (origin b o) (d.origin b o) (shorter_within d.origin origin so b o) (shorter_newest d.origin origin so b o) (i.quiet_origin l s b o);
}

pub cache_sealed : (d : Volume) → KeepsClean (record d { cache = all_synced d.cache }) → KeepsClean (record d { cache = all_synced d.cache; cache_synced = true })
cache_sealed d i = record {
  open_committed = i.open_committed;
  open_running = i.open_running;
  committed_same = i.committed_same;
  running_equal = i.running_equal;
  running_same = i.running_same;
  quiet_cache = λ l s k o. quiet_only (newest (d.cache k o));
  quiet_origin = i.quiet_origin;
}

pub origin_sealed : (d : Volume) → KeepsClean (record d { origin = all_synced d.origin }) → KeepsClean (record d { origin = all_synced d.origin; origin_synced = true })
origin_sealed d i = record {
  open_committed = i.open_committed;
  open_running = i.open_running;
  committed_same = i.committed_same;
  running_equal = i.running_equal;
  running_same = i.running_same;
  quiet_cache = i.quiet_cache;
  quiet_origin = λ l s b o. quiet_only (newest (d.origin b o));
}

pub suspend_sealed : (d : Volume) → d.live ≡ true → d.root_written ≡ false → ((b : ℕ) → IsAllWhole d b) → KeepsLatest d → KeepsClean d →
    KeepsClean (record d { began = d.began + 1; running = record { locations = d.mapping; clean = λ b. cond (d.dirty b) false true }; running_floor = d.finished; cache_synced = false; origin_synced = false; live = false })
suspend_sealed d l unrooted whole j i = record {
  open_committed = λ e. absurd (cc);
  open_running = λ e. absurd (cc);
  committed_same = i.committed_same;
  running_equal = λ b k f e o. ap (λ p. newest (at_location d.origin d.cache p b o)) (sym e) ∙ (j.sectors b o).clean (was_false (d.dirty b) f) (whole b o);
  running_same = λ r. let bad : true ≡ false = sym r ∙ unrooted in absurd (cc);
  quiet_cache = λ e s. absurd (cc);
  quiet_origin = λ e s. absurd (cc);
}

-- both devices were synced when the root is written
pub root_same : (d : Volume) (t : Bool) → d.live ≡ t → d.cache_synced ≡ true → d.origin_synced ≡ true → KeepsClean d → IsSameOnClean d.origin d.cache d.running
root_same d true l s t i b k f = let bad : true ≡ false = sym f ∙ i.open_running l b in absurd (cc)
root_same d false l s t i b k f = λ e o. same_quiet (d.cache k o) (d.origin b o) (i.quiet_cache l s k o) (i.quiet_origin l t b o) (i.running_equal b k f e o)

pub root_sealed : (d : Volume) → d.cache_synced ≡ true → d.origin_synced ≡ true → KeepsClean d → KeepsClean (record d { root_written = true })
root_sealed d s t i = record {
  open_committed = i.open_committed;
  open_running = i.open_running;
  committed_same = i.committed_same;
  running_equal = i.running_equal;
  running_same = λ r. root_same d d.live refl s t i;
  quiet_cache = i.quiet_cache;
  quiet_origin = i.quiet_origin;
}

pub end_sealed : (d : Volume) → d.root_written ≡ true → KeepsClean d → KeepsClean (record d { ended = d.began; committed = d.running; committed_floor = d.running_floor; root_written = false })
end_sealed d r i = record {
  open_committed = i.open_running;
  open_running = i.open_running;
  committed_same = i.running_same r;
  running_equal = i.running_equal;
  running_same = λ e. absurd (cc);
  quiet_cache = i.quiet_cache;
  quiet_origin = i.quiet_origin;
}

pub ended_clean : (d : Volume) (origin cache : ℕ → ℕ → History) (image : Image) → IsSameOnClean d.origin d.cache image → ((b o : ℕ) → IsWithin (origin b o) (d.origin b o)) → ((k o : ℕ) → IsWithin (cache k o) (d.cache k o)) → KeepsClean (life_ended d origin cache image)
ended_clean d origin cache image same wo wc = record {
  open_committed = λ e. absurd (cc);
  open_running = λ e. absurd (cc);
  committed_same = all;
  running_equal = λ b k f e o. same_newest (cache k o) (origin b o) (all b k f e o);
  running_same = λ r. absurd (cc);
  quiet_cache = λ e s. absurd (cc);
  quiet_origin = λ e s. absurd (cc);
} where
  all : IsSameOnClean origin cache image
  all b k f e o = same_within (d.cache k o) (d.origin b o) (cache k o) (origin b o) (wc k o) (wo b o) (same b k f e o)

pub open_root_sealed : (d : Volume) → KeepsClean d → KeepsClean (record d { running = unclean d.committed; running_floor = d.committed_floor; root_written = true; then_finished = λ a b o. 0 })
open_root_sealed d i = record {
  open_committed = i.open_committed;
  open_running = λ l b. refl;
  committed_same = i.committed_same;
  running_equal = λ b k f. absurd (cc);
  running_same = λ r b k f. absurd (cc);
  quiet_cache = i.quiet_cache;
  quiet_origin = i.quiet_origin;
}
