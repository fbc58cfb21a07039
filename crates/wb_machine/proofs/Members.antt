-- Members and their cards.
use Rattle.std.proofs.Common.{◌≡◌, ◌≤◌, ◌||◌, inl, inr, ℕ, zero, suc, Bool, true, false, List, [], ◌∷◌, Option, Some, None, refl, sym, ap, ◌∙◌, arith, slice_get, slice_set, slice_index_or, length, replicate, is_some}
use Rattle.std.specs.List.{list_any}
use Rattle.std.proofs.lemmas.Bool.{cases_Bool, or_cases}
use Rattle.wb_words.specs.declared.card.Card.{Card}
use Rattle.wb_words.specs.Cards.{blank_card}
use Rattle.wb_tasks.specs.Plan.{Plan}
use Rattle.wb_stage.specs.declared.share.Share.TheVariants.{Nothing}
use Rattle.wb_promise.specs.declared.job.Job.{Job}
use Rattle.wb_promise.specs.declared.job.Job.TheVariants.{Suspend}
use Rattle.wb_promise.specs.States.{Actor, resting}
use Rattle.wb_promise.specs.Happenings.{OfSome}
use Rattle.wb_machine.specs.Members.{Member, free, is_at_work, is_suspend, is_to_suspend, seat, suspends, with_cards as seated, works_there}
use Rattle.wb_contents.proofs.Lists.{set_same}

-- what was lent out and comes back as it was
pub put_back : {X : Type 0} (xs : List X) (i : ℕ) (x y : X) → slice_get xs i ≡ Some x → y ≡ x → slice_set xs i y ≡ xs
put_back xs i x y e same = ap (λ z. slice_set xs i z) same ∙ set_same xs i x e

pub length_seated : (members : List Member) (cards : List Card) → length members ≡ length cards → length (seated members cards) ≡ length cards
length_seated [] [] e = refl
length_seated [] (c ∷ cs) e = absurd (omega arith)
length_seated (m ∷ ms) [] e = absurd (omega arith)
length_seated (m ∷ ms) (c ∷ cs) e = ap suc (length_seated ms cs (omega arith))

pub absent : (members : List Member) (cards : List Card) (a : ℕ) → slice_get members a ≡ None → slice_get (seated members cards) a ≡ None
absent [] cards a e = refl
absent (m ∷ ms) [] a e = refl
absent (m ∷ ms) (c ∷ cs) zero e = absurd (cc)
absent (m ∷ ms) (c ∷ cs) (suc a) e = absent ms cs a e

-- the member at this place, with the card there
abbrev pub seat_at : Member → List Card → ℕ → Actor
seat_at m cards a = seat m (slice_index_or cards a blank_card)

pub somebody : (members : List Member) (cards : List Card) (a : ℕ) (m : Member) → slice_get members a ≡ Some m → length members ≤ length cards → slice_get (seated members cards) a ≡ Some (seat_at m cards a)
somebody [] cards a m e l = absurd (cc)
somebody (n ∷ ms) [] a m e l = absurd (omega arith)
somebody (n ∷ ms) (c ∷ cs) zero m e l = let same : n ≡ m = cc in ap (λ (v : Member). Some (seat v c)) same
somebody (n ∷ ms) (c ∷ cs) (suc a) m e l = somebody ms cs a m e (omega arith)

pub set_both : (members : List Member) (cards : List Card) (a : ℕ) (m : Member) (c : Card) → seated (slice_set members a m) (slice_set cards a c) ≡ slice_set (seated members cards) a (seat m c)
set_both [] cards a m c = refl
set_both (n ∷ ms) [] zero m c = refl
set_both (n ∷ ms) [] (suc a) m c = refl
set_both (n ∷ ms) (d ∷ cs) zero m c = refl
set_both (n ∷ ms) (d ∷ cs) (suc a) m c = ap (λ xs. seat n d ∷ xs) (set_both ms cs a m c)

pub set_task : (members : List Member) (cards : List Card) (a : ℕ) (m : Member) → seated (slice_set members a m) cards ≡ slice_set (seated members cards) a (seat_at m cards a)
set_task [] cards a m = refl
set_task (n ∷ ms) [] zero m = refl
set_task (n ∷ ms) [] (suc a) m = refl
set_task (n ∷ ms) (d ∷ cs) zero m = refl
set_task (n ∷ ms) (d ∷ cs) (suc a) m = ap (λ xs. seat n d ∷ xs) (set_task ms cs a m)

-- where nobody is at anything, one with this card rests beside others that have none
pub all_free : (n a : ℕ) (card : Card) → seated (replicate n free) (slice_set (replicate n blank_card) a card) ≡ slice_set (replicate n resting) a (record { task = None; card = card; orders = []; awaiting = []; buffer = []; seen = []; share = Nothing })
all_free zero a card = refl
all_free (suc n) zero card = ap (λ xs. record { task = None; card = card; orders = []; awaiting = []; buffer = []; seen = []; share = Nothing } ∷ xs) (none_set n)
  where
    none_set : (k : ℕ) → seated (replicate k free) (replicate k blank_card) ≡ replicate k resting
    none_set zero = refl
    none_set (suc k) = ap (λ xs. resting ∷ xs) (none_set k)
all_free (suc n) (suc a) card = ap (λ xs. resting ∷ xs) (all_free n a card)

-- ---- who works

works_not : (m : Member) (P : Job × Plan → Type 0) → is_some m.task ≡ false → OfSome m.task P → ⊥
works_not m P e h = by_task m.task e h
  where
    by_task : (t : Option (Job × Plan)) → is_some t ≡ false → OfSome t P → ⊥
    by_task None e h = h
    by_task (Some doing) e h = absurd (cc)

pub idle_there : (members : List Member) (cards : List Card) (a : ℕ) (P : Job × Plan → Type 0) → works_there members a ≡ false → OfSome (slice_get (seated members cards) a) (λ (x : Actor). OfSome x.task P) → ⊥
idle_there [] cards a P e h = h
idle_there (m ∷ ms) [] a P e h = h
idle_there (m ∷ ms) (c ∷ cs) zero P e h = works_not m P e h
idle_there (m ∷ ms) (c ∷ cs) (suc a) P e h = idle_there ms cs a P e h

pub works_so : (m : Member) → is_some m.task ≡ true → OfSome m.task (λ doing. Unit {0})
works_so m e = by_task m.task e
  where
    by_task : (t : Option (Job × Plan)) → is_some t ≡ true → OfSome t (λ doing. Unit {0})
    by_task None e = absurd (cc)
    by_task (Some doing) e = tt

pub busy_there : (members : List Member) (cards : List Card) (a : ℕ) → length members ≤ length cards → works_there members a ≡ true → OfSome (slice_get (seated members cards) a) (λ (x : Actor). OfSome x.task (λ doing. Unit {0}))
busy_there [] cards a l e = absurd (cc)
busy_there (m ∷ ms) [] a l e = absurd (omega arith)
busy_there (m ∷ ms) (c ∷ cs) zero l e = works_so m e
busy_there (m ∷ ms) (c ∷ cs) (suc a) l e = busy_there ms cs a (omega arith) e

-- ---- one of all

-- one of whom the test says so is there, and is at what it tells of
pub some_at : (test : Member → Bool) (P : Job × Plan → Type 0) → ((m : Member) → test m ≡ true → OfSome m.task P) → (members : List Member) (cards : List Card) → length members ≤ length cards → list_any test members ≡ true
    → (a : ℕ) × OfSome (slice_get (seated members cards) a) (λ (x : Actor). OfSome x.task P)
some_at test P tells [] cards l e = absurd (cc)
some_at test P tells (m ∷ ms) [] l e = absurd (omega arith)
some_at test P tells (m ∷ ms) (c ∷ cs) l e = elim (or_cases (test m) (list_any test ms) e) [
  | inl here ↦ (0, tells m here)
  | inr later ↦ let there = some_at test P tells ms cs (omega arith) later in (suc there.0, there.1)
]

or_late : (b c : Bool) → c ≡ true → b || c ≡ true
or_late true c e = refl
or_late false c e = e

-- and where it says so of none nobody is
pub none_at : (test : Member → Bool) (P : Job × Plan → Type 0) → ((m : Member) → OfSome m.task P → test m ≡ true) → (members : List Member) (cards : List Card) (a : ℕ) → list_any test members ≡ false
    → OfSome (slice_get (seated members cards) a) (λ (x : Actor). OfSome x.task P) → ⊥
none_at test P tells [] cards a e h = h
none_at test P tells (m ∷ ms) [] a e h = h
none_at test P tells (m ∷ ms) (c ∷ cs) zero e h = let bad : true ≡ false = sym (ap (λ (b : Bool). b || list_any test ms) (tells m h)) ∙ e in cc
none_at test P tells (m ∷ ms) (c ∷ cs) (suc a) e h = elim (cases_Bool (list_any test ms)) [
  | inl later ↦ absurd (let bad : true ≡ false = sym (or_late (test m) (list_any test ms) later) ∙ e in cc)
  | inr none ↦ none_at test P tells ms cs a none h
]

-- ---- who is at something, and who suspends

pub works_told : (m : Member) → OfSome m.task (λ doing. Unit {0}) → is_at_work m ≡ true
works_told m h = by_task m.task h
  where
    by_task : (t : Option (Job × Plan)) → OfSome t (λ doing. Unit {0}) → is_some t ≡ true
    by_task None h = absurd h
    by_task (Some doing) h = refl

pub suspends_told : (m : Member) → OfSome m.task (λ doing. doing.0 ≡ Suspend) → suspends m ≡ true
suspends_told m h = by_task m.task h
  where
    by_task : (t : Option (Job × Plan)) → OfSome t (λ doing. doing.0 ≡ Suspend) → is_to_suspend t ≡ true
    by_task None h = absurd h
    by_task (Some doing) h = ap is_suspend h

pub suspends_so : (m : Member) → suspends m ≡ true → OfSome m.task (λ doing. doing.0 ≡ Suspend)
suspends_so m e = by_task m.task e
  where
    by_job : (job : Job) → is_suspend job ≡ true → job ≡ Suspend
    by_job Suspend e = refl
    by_job job e = absurd (cc)

    by_task : (t : Option (Job × Plan)) → is_to_suspend t ≡ true → OfSome t (λ doing. doing.0 ≡ Suspend)
    by_task None e = absurd (cc)
    by_task (Some doing) e = by_job doing.0 e
