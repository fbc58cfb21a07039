use Rattle.std.proofs.Common.{◌≡◌, ◌≢◌, ◌⊎◌, inl, inr, ℕ, Bool, true, false, cond, Option, Some, None, refl, sym, ap, subst, ◌∙◌}
use Rattle.std.proofs.lemmas.Bool.{cases_eq}
use Rattle.wb_disk.specs.Device.{Content, History, newest, added}
use Rattle.wb_contents.specs.Volume.{Locations, Volume, Standing, Whole, Half, Torn, at_location, location, changed, changed_at, Image}
use Rattle.wb_types.specs.declared.mode.Mode.{Mode}
use Rattle.wb_types.specs.declared.mode.Mode.TheVariants.{Writeback, Passthrough}
use Rattle.wb_contents.specs.Acts.{sector_written, written_through, life_ended, life_begun}
use Rattle.wb_contents.specs.Conditions.{IsUnnamed, IsCopied, IsAllWhole, Admits}
use Rattle.wb_contents.proofs.Positions.{changed_same, changed_other, last_of-append}
use Rattle.wb_contents.proofs.Floors.{HasHomes, IsShorter}

-- the newest contents of a sector: on the location that the mapping names, on the origin, in the history
pub record Sector (here origin book : Content) (s : Standing) (dirty : Bool) : Type 0 where
  pub latest : s ≡ Whole → here ≡ book
  pub half : s ≡ Half → origin ≡ book
  pub clean : dirty ≡ false → s ≡ Whole → here ≡ origin

pub record KeepsLatest (d : Volume) : Type 0 where
  pub sectors : (b o : ℕ) → Sector (newest (location d d.mapping b o)) (newest (d.origin b o)) (newest (d.histories b o)) (d.standing b o) (d.dirty b)
  pub passed : d.mode ≡ Passthrough → (b k : ℕ) → d.mapping b ≡ Some k → d.dirty b ≡ false

abbrev pub Elsewhere : ℕ → ℕ → ℕ → ℕ → Type 0
Elsewhere b o b' o' = (b' ≢ b) ⊎ (o' ≢ o)

pub here_is : {X : Type 0} (f : ℕ → ℕ → X) (i o : ℕ) (x : X) → changed_at f i o x i o ≡ x
here_is f i o x = ap (λ g. g o) (changed_same f i (changed (f i) o x)) ∙ changed_same (f i) o x

pub elsewhere_is : {X : Type 0} (f : ℕ → ℕ → X) (i o i' o' : ℕ) (x : X) → Elsewhere i o i' o' → changed_at f i o x i' o' ≡ f i' o'
elsewhere_is f i o i' o' x (inl n) = ap (λ g. g o') (changed_other f i i' (changed (f i) o x) n)
elsewhere_is f i o i' o' x (inr n) = elim (cases_eq i' i) [
  | inr m ↦ ap (λ g. g o') (changed_other f i i' (changed (f i) o x) m)
  | inl e ↦ subst (λ (j : ℕ). changed_at f i o x j o' ≡ f j o') (sym e) (ap (λ g. g o') (changed_same f i (changed (f i) o x)) ∙ changed_other (f i) o o' x n)
]

pub by_sector : (P : ℕ → ℕ → Type 0) (b o : ℕ) → P b o → ((b' o' : ℕ) → Elsewhere b o b' o' → P b' o') → (b' o' : ℕ) → P b' o'
by_sector P b o here there b' o' = elim (cases_eq b' b) [
  | inr n ↦ there b' o' (inl n)
  | inl e ↦ elim (cases_eq o' o) [
    | inr n ↦ there b' o' (inr n)
    | inl s ↦ subst (λ (v : ℕ). P v o') (sym e) (subst (λ (v : ℕ). P b v) (sym s) here)
  ]
]

pub by_block : (P : ℕ → Type 0) (b : ℕ) → P b → ((b' : ℕ) → b' ≢ b → P b') → (b' : ℕ) → P b'
by_block P b here there b' = elim (cases_eq b' b) [
  | inr n ↦ there b' n
  | inl e ↦ subst (λ (v : ℕ). P v) (sym e) here
]

pub same_sector : (h h' o o' g g' : Content) (s s' : Standing) (x x' : Bool) → h' ≡ h → o' ≡ o → g' ≡ g → s' ≡ s → x' ≡ x → Sector h o g s x → Sector h' o' g' s' x'
same_sector h h' o o' g g' s s' x x' eh eo eg es ex i = record {
  latest = λ e. eh ∙ i.latest (sym es ∙ e) ∙ sym eg;
  half = λ e. eo ∙ i.half (sym es ∙ e) ∙ sym eg;
  clean = λ f e. eh ∙ i.clean (sym ex ∙ f) (sym es ∙ e) ∙ sym eo;
}

-- a location whose list stays
pub place_is : (origin cache origin' cache' : ℕ → ℕ → History) (p : Option ℕ) (b o : ℕ) → newest (origin' b o) ≡ newest (origin b o) → ((k : ℕ) → p ≡ Some k → newest (cache' k o) ≡ newest (cache k o)) → newest (at_location origin' cache' p b o) ≡ newest (at_location origin cache p b o)
place_is origin cache origin' cache' None b o eo ec = eo
place_is origin cache origin' cache' (Some k) b o eo ec = ec k refl

-- two sectors of blocks stand on different sectors of the cache
pub away : (home : ℕ → Option ℕ) (mapping : Locations) (b o k b' o' j : ℕ) → HasHomes home mapping → mapping b ≡ Some k → mapping b' ≡ Some j → Elsewhere b o b' o' → Elsewhere k o j o'
away home mapping b o k b' o' j homes e e' (inr n) = inr n
away home mapping b o k b' o' j homes e e' (inl n) = elim (cases_eq j k) [
  | inr m ↦ inl m
  | inl s ↦ let one : Some b' ≡ Some b = sym (homes b' j e') ∙ ap home s ∙ homes b k e in let same : b' ≡ b = cc in absurd (n same)
]

pub not_half : Half ≢ Whole
not_half e = absurd (cc)

pub write_origin_latest : (d : Volume) (b o : ℕ) (c : Content) → d.mapping b ≡ None → KeepsLatest d → KeepsLatest (sector_written d None b o c)
write_origin_latest d b o c m i = record {
  sectors = by_sector (λ b' o'. Sector (newest (at_location origin' d.cache (d.mapping b') b' o')) (newest (origin' b' o')) (newest (books' b' o')) (standing' b' o') (d.dirty b')) b o
      (let now : newest (origin' b o) ≡ c = ap newest (here_is d.origin b o (added (d.origin b o) c)) ∙ last_of-append (d.origin b o).first c (d.origin b o).later in
      let book : newest (books' b o) ≡ c = ap newest (here_is d.histories b o (added (d.histories b o) c)) ∙ last_of-append (d.histories b o).first c (d.histories b o).later in
      let here : newest (at_location origin' d.cache (d.mapping b) b o) ≡ newest (origin' b o) = ap (λ p. newest (at_location origin' d.cache p b o)) m in
      record { latest = λ e. here ∙ now ∙ sym book; half = λ e. now ∙ sym book; clean = λ f e. here })
      (λ b' o' n.
      let eo : newest (origin' b' o') ≡ newest (d.origin b' o') = ap newest (elsewhere_is d.origin b o b' o' (added (d.origin b o) c) n) in
      same_sector (newest (location d d.mapping b' o')) (newest (at_location origin' d.cache (d.mapping b') b' o')) (newest (d.origin b' o')) (newest (origin' b' o')) (newest (d.histories b' o')) (newest (books' b' o')) (d.standing b' o') (standing' b' o') (d.dirty b') (d.dirty b')
      (place_is d.origin d.cache origin' d.cache (d.mapping b') b' o' eo (λ k e. refl)) eo
      (ap newest (elsewhere_is d.histories b o b' o' (added (d.histories b o) c) n)) (elsewhere_is d.standing b o b' o' Whole n) refl (i.sectors b' o'));
  passed = i.passed;
} where
  origin' : ℕ → ℕ → History
  origin' = changed_at d.origin b o (added (d.origin b o) c)

  books' : ℕ → ℕ → History
  books' = changed_at d.histories b o (added (d.histories b o) c)

  standing' : ℕ → ℕ → Standing
  standing' = changed_at d.standing b o Whole

-- One sector changed: there it is sound, and elsewhere nothing changed.
pub at_one : (d : Volume) (b o : ℕ) (origin' cache' books' : ℕ → ℕ → History) (standing' : ℕ → ℕ → Standing) →
    Sector (newest (at_location origin' cache' (d.mapping b) b o)) (newest (origin' b o)) (newest (books' b o)) (standing' b o) (d.dirty b) →
    ((b' o' : ℕ) → Elsewhere b o b' o' → newest (origin' b' o') ≡ newest (d.origin b' o')) →
    ((b' o' k : ℕ) → Elsewhere b o b' o' → d.mapping b' ≡ Some k → newest (cache' k o') ≡ newest (d.cache k o')) →
    ((b' o' : ℕ) → Elsewhere b o b' o' → newest (books' b' o') ≡ newest (d.histories b' o')) →
    ((b' o' : ℕ) → Elsewhere b o b' o' → standing' b' o' ≡ d.standing b' o') →
    KeepsLatest d → KeepsLatest (record d { origin = origin'; cache = cache'; histories = books'; standing = standing' })
at_one d b o origin' cache' books' standing' here eo ec eb es i = record {
  sectors = by_sector (λ b' o'. Sector (newest (at_location origin' cache' (d.mapping b') b' o')) (newest (origin' b' o')) (newest (books' b' o')) (standing' b' o') (d.dirty b')) b o here
      (λ b' o' n. same_sector (newest (location d d.mapping b' o')) (newest (at_location origin' cache' (d.mapping b') b' o')) (newest (d.origin b' o')) (newest (origin' b' o')) (newest (d.histories b' o')) (newest (books' b' o')) (d.standing b' o') (standing' b' o') (d.dirty b') (d.dirty b')
      (place_is d.origin d.cache origin' cache' (d.mapping b') b' o' (eo b' o' n) (λ k e. ec b' o' k n e)) (eo b' o' n) (eb b' o' n) (es b' o' n) refl (i.sectors b' o'));
  passed = i.passed;
}

pub newest_here : (f : ℕ → ℕ → History) (b o : ℕ) (c : Content) → newest (changed_at f b o (added (f b o) c) b o) ≡ c
newest_here f b o c = ap newest (here_is f b o (added (f b o) c)) ∙ last_of-append (f b o).first c (f b o).later

pub newest_elsewhere : (f : ℕ → ℕ → History) (b o b' o' : ℕ) (h : History) → Elsewhere b o b' o' → newest (changed_at f b o h b' o') ≡ newest (f b' o')
newest_elsewhere f b o b' o' h n = ap newest (elsewhere_is f b o b' o' h n)

pub write_cache_latest : (d : Volume) (b o k : ℕ) (c : Content) (home : ℕ → Option ℕ) → HasHomes home d.mapping → d.mapping b ≡ Some k → d.dirty b ≡ true → KeepsLatest d → KeepsLatest (sector_written d (Some k) b o c)
write_cache_latest d b o k c home homes m marked_dirty i = at_one d b o d.origin cache' (changed_at d.histories b o (added (d.histories b o) c)) standing'
    (record {
      latest = λ e. ap (λ p. newest (at_location d.origin cache' p b o)) m ∙ newest_here d.cache k o c ∙ sym (newest_here d.histories b o c);
      half = λ e. let whole : standing' b o ≡ Whole = here_is d.standing b o Whole in let bad : Half ≡ Whole = sym e ∙ whole in absurd (not_half bad);
      clean = λ f e. let bad : true ≡ false = sym marked_dirty ∙ f in absurd (cc);
    })
    (λ b' o' n. refl)
    (λ b' o' j n e. newest_elsewhere d.cache k o j o' (added (d.cache k o) c) (away home d.mapping b o k b' o' j homes m e n))
    (λ b' o' n. newest_elsewhere d.histories b o b' o' (added (d.histories b o) c) n)
    (λ b' o' n. elsewhere_is d.standing b o b' o' Whole n) i where
      cache' : ℕ → ℕ → History
      cache' = changed_at d.cache k o (added (d.cache k o) c)

      standing' : ℕ → ℕ → Standing
      standing' = changed_at d.standing b o Whole

pub through_latest : (d : Volume) (b o k : ℕ) (home : ℕ → Option ℕ) → HasHomes home d.mapping → d.mapping b ≡ Some k → d.standing b o ≡ Half → KeepsLatest d → KeepsLatest (written_through d (Some k) b o)
through_latest d b o k home homes m half i = at_one d b o d.origin cache' d.histories standing'
    (let now : newest (at_location d.origin cache' (d.mapping b) b o) ≡ newest (d.histories b o) = ap (λ p. newest (at_location d.origin cache' p b o)) m ∙ newest_here d.cache k o (newest (d.histories b o)) in record {
      latest = λ e. now;
      half = λ e. (i.sectors b o).half half;
      clean = λ f e. now ∙ sym ((i.sectors b o).half half);
    })
    (λ b' o' n. refl)
    (λ b' o' j n e. newest_elsewhere d.cache k o j o' (added (d.cache k o) (newest (d.histories b o))) (away home d.mapping b o k b' o' j homes m e n))
    (λ b' o' n. refl)
    (λ b' o' n. elsewhere_is d.standing b o b' o' Whole n) i where
      cache' : ℕ → ℕ → History
      cache' = changed_at d.cache k o (added (d.cache k o) (newest (d.histories b o)))

      standing' : ℕ → ℕ → Standing
      standing' = changed_at d.standing b o Whole

pub half_write_latest : (d : Volume) (b o : ℕ) (c : Content) → KeepsLatest d → KeepsLatest (record d { origin = changed_at d.origin b o (added (d.origin b o) c); histories = changed_at d.histories b o (added (d.histories b o) c); standing = changed_at d.standing b o Half })
half_write_latest d b o c i = at_one d b o (changed_at d.origin b o (added (d.origin b o) c)) d.cache (changed_at d.histories b o (added (d.histories b o) c)) (changed_at d.standing b o Half)
    (record {
      latest = λ e. let bad : Half ≡ Whole = sym (here_is d.standing b o Half) ∙ e in absurd (not_half bad);
      half = λ e. newest_here d.origin b o c ∙ sym (newest_here d.histories b o c);
      clean = λ f e. let bad : Half ≡ Whole = sym (here_is d.standing b o Half) ∙ e in absurd (not_half bad);
    })
    (λ b' o' n. newest_elsewhere d.origin b o b' o' (added (d.origin b o) c) n) (λ b' o' j n e. refl)
    (λ b' o' n. newest_elsewhere d.histories b o b' o' (added (d.histories b o) c) n)
    (λ b' o' n. elsewhere_is d.standing b o b' o' Half n) i

pub failed_write_latest : (d : Volume) (b o : ℕ) (c : Content) → KeepsLatest d → KeepsLatest (record d { histories = changed_at d.histories b o (added (d.histories b o) c); standing = changed_at d.standing b o Torn })
failed_write_latest d b o c i = at_one d b o d.origin d.cache (changed_at d.histories b o (added (d.histories b o) c)) (changed_at d.standing b o Torn)
    (record {
      latest = λ e. let bad : Torn ≡ Whole = sym (here_is d.standing b o Torn) ∙ e in absurd (cc);
      half = λ e. let bad : Torn ≡ Half = sym (here_is d.standing b o Torn) ∙ e in absurd (cc);
      clean = λ f e. let bad : Torn ≡ Whole = sym (here_is d.standing b o Torn) ∙ e in absurd (cc);
    })
    (λ b' o' n. refl) (λ b' o' j n e. refl)
    (λ b' o' n. newest_elsewhere d.histories b o b' o' (added (d.histories b o) c) n)
    (λ b' o' n. elsewhere_is d.standing b o b' o' Torn n) i

-- a sector that is whole is copied to the origin
pub copied_back_latest : (d : Volume) (b o : ℕ) → d.standing b o ≡ Whole → KeepsLatest d → KeepsLatest (record d { origin = changed_at d.origin b o (added (d.origin b o) (newest (location d d.mapping b o))) })
copied_back_latest d b o whole i = at_one d b o origin' d.cache d.histories d.standing
    (let now : newest (origin' b o) ≡ x = newest_here d.origin b o x in let same : newest (at_location origin' d.cache (d.mapping b) b o) ≡ x = go (d.mapping b) refl in record {
      latest = λ e. same ∙ (i.sectors b o).latest whole;
      half = λ e. let bad : Half ≡ Whole = sym e ∙ whole in absurd (not_half bad);
      clean = λ f e. same ∙ sym now;
    })
    (λ b' o' n. newest_elsewhere d.origin b o b' o' (added (d.origin b o) x) n) (λ b' o' j n e. refl) (λ b' o' n. refl) (λ b' o' n. refl) i where
      x : Content
      x = newest (location d d.mapping b o)

      origin' : ℕ → ℕ → History
      origin' = changed_at d.origin b o (added (d.origin b o) x)

      go : (p : Option ℕ) → d.mapping b ≡ p → newest (at_location origin' d.cache p b o) ≡ x
      go None e = newest_here d.origin b o x
      go (Some k) e = ap (λ p. newest (at_location d.origin d.cache p b o)) (sym e)

-- devices whose newest contents stay where the mapping looks
pub newest_stays : (d : Volume) (origin' cache' : ℕ → ℕ → History) → ((b o : ℕ) → newest (origin' b o) ≡ newest (d.origin b o)) → ((b k o : ℕ) → d.mapping b ≡ Some k → newest (cache' k o) ≡ newest (d.cache k o)) → KeepsLatest d → KeepsLatest (record d { origin = origin'; cache = cache' })
newest_stays d origin' cache' eo ec i = record {
  sectors = λ b o. same_sector (newest (location d d.mapping b o)) (newest (at_location origin' cache' (d.mapping b) b o)) (newest (d.origin b o)) (newest (origin' b o)) (newest (d.histories b o)) (newest (d.histories b o)) (d.standing b o) (d.standing b o) (d.dirty b) (d.dirty b)
      (place_is d.origin d.cache origin' cache' (d.mapping b) b o (eo b o) (λ k e. ec b k o e)) (eo b o) refl refl refl (i.sectors b o);
  passed = i.passed;
}

pub shorter_newest : (f g : ℕ → ℕ → History) → IsShorter f g → (i o : ℕ) → newest (g i o) ≡ newest (f i o)
shorter_newest f g s i o = elim (s i o) [ inl e ↦ ap newest e | inr e ↦ ap newest e ]

pub shorter_latest : (d : Volume) (origin' cache' : ℕ → ℕ → History) → IsShorter d.origin origin' → IsShorter d.cache cache' → KeepsLatest d → KeepsLatest (record d { origin = origin'; cache = cache' })
shorter_latest d origin' cache' so sc i = newest_stays d origin' cache' (shorter_newest d.origin origin' so) (λ b k o e. shorter_newest d.cache cache' sc k o) i

pub fill_latest : (d : Volume) (k o : ℕ) (c : Content) → IsUnnamed d.mapping k → KeepsLatest d → KeepsLatest (record d { cache = changed_at d.cache k o (added (d.cache k o) c) })
fill_latest d k o c free i = newest_stays d d.origin (changed_at d.cache k o (added (d.cache k o) c)) (λ b o'. refl)
    (λ b j o' e. newest_elsewhere d.cache k o j o' (added (d.cache k o) c) (inl (λ s. free b (e ∙ ap (λ v. Some v) s)))) i

-- what is equal where a block is clean and whole
pub clean_copied : (d : Volume) (b k : ℕ) → KeepsLatest d → d.mapping b ≡ Some k → d.dirty b ≡ false → IsAllWhole d b → IsCopied d b k
clean_copied d b k i m f w o = ap (λ p. newest (at_location d.origin d.cache p b o)) (sym m) ∙ (i.sectors b o).clean f (w o)

-- a block moves: what is read of it stays
abbrev pub moved : Volume → ℕ → Option ℕ → (ℕ → Bool) → Volume
moved d b p dirty = record d { mapping = changed d.mapping b p; dirty = dirty }

pub map_latest : (d : Volume) (b k : ℕ) → d.mapping b ≡ None → IsCopied d b k → KeepsLatest d → KeepsLatest (record d { mapping = changed d.mapping b (Some k); dirty = changed d.dirty b false })
map_latest d b k m copied i = record {
  sectors = by_block (λ b'. (o : ℕ) → Sector (newest (at_location d.origin d.cache (changed d.mapping b (Some k) b') b' o)) (newest (d.origin b' o)) (newest (d.histories b' o)) (d.standing b' o) (changed d.dirty b false b')) b
      (λ o. let here : newest (at_location d.origin d.cache (changed d.mapping b (Some k) b) b o) ≡ newest (d.origin b o) = ap (λ p. newest (at_location d.origin d.cache p b o)) (changed_same d.mapping b (Some k)) ∙ copied o in
      let was : newest (location d d.mapping b o) ≡ newest (d.origin b o) = ap (λ p. newest (at_location d.origin d.cache p b o)) m in record {
        latest = λ e. here ∙ sym was ∙ (i.sectors b o).latest e;
        half = (i.sectors b o).half;
        clean = λ f e. here;
      })
      (λ b' n o. same_sector (newest (location d d.mapping b' o)) (newest (at_location d.origin d.cache (changed d.mapping b (Some k) b') b' o)) (newest (d.origin b' o)) (newest (d.origin b' o)) (newest (d.histories b' o)) (newest (d.histories b' o)) (d.standing b' o) (d.standing b' o) (d.dirty b') (changed d.dirty b false b')
      (ap (λ p. newest (at_location d.origin d.cache p b' o)) (changed_other d.mapping b b' (Some k) n)) refl refl refl (changed_other d.dirty b b' false n) (i.sectors b' o));
  passed = λ pass. by_block (λ b'. (j : ℕ) → changed d.mapping b (Some k) b' ≡ Some j → changed d.dirty b false b' ≡ false) b
      (λ j e. changed_same d.dirty b false) (λ b' n j e. changed_other d.dirty b b' false n ∙ i.passed pass b' j (sym (changed_other d.mapping b b' (Some k) n) ∙ e));
}

pub unmap_latest : (d : Volume) (b k : ℕ) → d.mapping b ≡ Some k → IsCopied d b k → KeepsLatest d → KeepsLatest (record d { mapping = changed d.mapping b None })
unmap_latest d b k m copied i = record {
  sectors = by_block (λ b'. (o : ℕ) → Sector (newest (at_location d.origin d.cache (changed d.mapping b None b') b' o)) (newest (d.origin b' o)) (newest (d.histories b' o)) (d.standing b' o) (d.dirty b')) b
      (λ o. let here : newest (at_location d.origin d.cache (changed d.mapping b None b) b o) ≡ newest (d.origin b o) = ap (λ p. newest (at_location d.origin d.cache p b o)) (changed_same d.mapping b None) in
      let was : newest (location d d.mapping b o) ≡ newest (d.origin b o) = ap (λ p. newest (at_location d.origin d.cache p b o)) m ∙ copied o in record {
        latest = λ e. here ∙ sym was ∙ (i.sectors b o).latest e;
        half = (i.sectors b o).half;
        clean = λ f e. here;
      })
      (λ b' n o. same_sector (newest (location d d.mapping b' o)) (newest (at_location d.origin d.cache (changed d.mapping b None b') b' o)) (newest (d.origin b' o)) (newest (d.origin b' o)) (newest (d.histories b' o)) (newest (d.histories b' o)) (d.standing b' o) (d.standing b' o) (d.dirty b') (d.dirty b')
      (ap (λ p. newest (at_location d.origin d.cache p b' o)) (changed_other d.mapping b b' None n)) refl refl refl refl (i.sectors b' o));
  passed = λ pass. by_block (λ b'. (j : ℕ) → changed d.mapping b None b' ≡ Some j → d.dirty b' ≡ false) b
      (λ j e. let bad : None ≡ Some j = sym (changed_same d.mapping b None) ∙ e in absurd (cc)) (λ b' n j e. i.passed pass b' j (sym (changed_other d.mapping b b' None n) ∙ e));
}

pub made_dirty_latest : (d : Volume) (b : ℕ) → d.mode ≡ Writeback → KeepsLatest d → KeepsLatest (record d { dirty = changed d.dirty b true })
made_dirty_latest d b back i = record {
  sectors = by_block (λ b'. (o : ℕ) → Sector (newest (location d d.mapping b' o)) (newest (d.origin b' o)) (newest (d.histories b' o)) (d.standing b' o) (changed d.dirty b true b')) b
      (λ o. record { latest = (i.sectors b o).latest; half = (i.sectors b o).half; clean = λ f e. let bad : true ≡ false = sym (changed_same d.dirty b true) ∙ f in absurd (cc) })
      (λ b' n o. record { latest = (i.sectors b' o).latest; half = (i.sectors b' o).half; clean = λ f e. (i.sectors b' o).clean (sym (changed_other d.dirty b b' true n) ∙ f) e });
  passed = λ pass. let bad : Writeback ≡ Passthrough = sym back ∙ pass in absurd (cc);
}

pub made_clean_latest : (d : Volume) (b k : ℕ) → d.mapping b ≡ Some k → (d.dirty b ≡ false) ⊎ IsCopied d b k → KeepsLatest d → KeepsLatest (record d { dirty = changed d.dirty b false })
made_clean_latest d b k m washed i = record {
  sectors = by_block (λ b'. (o : ℕ) → Sector (newest (location d d.mapping b' o)) (newest (d.origin b' o)) (newest (d.histories b' o)) (d.standing b' o) (changed d.dirty b false b')) b
      (λ o. record { latest = (i.sectors b o).latest; half = (i.sectors b o).half; clean = λ f e. elim washed [ inl was ↦ (i.sectors b o).clean was e | inr copied ↦ ap (λ p. newest (at_location d.origin d.cache p b o)) m ∙ copied o ] })
      (λ b' n o. record { latest = (i.sectors b' o).latest; half = (i.sectors b' o).half; clean = λ f e. (i.sectors b' o).clean (sym (changed_other d.dirty b b' false n) ∙ f) e });
  passed = λ pass. by_block (λ b'. (j : ℕ) → d.mapping b' ≡ Some j → changed d.dirty b false b' ≡ false) b
      (λ j e. changed_same d.dirty b false) (λ b' n j e. changed_other d.dirty b b' false n ∙ i.passed pass b' j e);
}

pub ended_latest : (d : Volume) (origin cache : ℕ → ℕ → History) (image : Image) → KeepsLatest (life_ended d origin cache image)
ended_latest d origin cache image = record {
  sectors = λ b o. record { latest = λ e. absurd (cc); half = λ e. absurd (cc); clean = λ f e. absurd (cc) };
  passed = λ pass. absurd (cc);
}

pub was_clean : (t : Bool) → cond t false true ≡ false → t ≡ true
was_clean true e = refl
was_clean false e = absurd (cc)

pub was_false : (t : Bool) → cond t false true ≡ true → t ≡ false
was_false true e = absurd (cc)
was_false false e = refl

pub opened_latest : (d : Volume) (m : Mode) → ((b k : ℕ) → d.committed.clean b ≡ true → d.committed.locations b ≡ Some k → (o : ℕ) → newest (d.cache k o) ≡ newest (d.origin b o)) → Admits m d.committed → KeepsLatest (life_begun d m)
opened_latest d m equal admits = record {
  sectors = λ b o. record {
    latest = λ e. refl;
    half = λ e. absurd (cc);
    clean = λ f e. go b o (was_clean (d.committed.clean b) f) (d.committed.locations b) refl;
  };
  passed = λ pass b k e. let all = subst (λ (x : Mode). Admits x d.committed) pass admits in ap (λ t. cond t false true) (all b k e);
} where
  go : (b o : ℕ) → d.committed.clean b ≡ true → (p : Option ℕ) → d.committed.locations b ≡ p → newest (at_location d.origin d.cache p b o) ≡ newest (d.origin b o)
  go b o f None e = refl
  go b o f (Some k) e = equal b k f e o
