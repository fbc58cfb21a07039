use Rattle.std.proofs.Common.{◌≡◌, ◌≢◌, ◌≤◌, ◌⊎◌, inl, inr, ℕ, length, refl, sym, ap, subst, ◌∙◌, arith, Contains}
use Rattle.std.proofs.lemmas.Bool.{cases_eq}
use Rattle.wb_disk.specs.Device.{Content, History, entries, newest, added, only}
use Rattle.wb_contents.specs.Promises.{IsEntryFrom, AllEntriesFrom}
use Rattle.wb_contents.specs.Volume.{changed, changed_at}
use Rattle.wb_disk.proofs.Leaving.{newest_there}
use Rattle.wb_contents.proofs.Positions.{last_of-append, at_more, at_last, at_lower, changed_same, changed_other, more_cases, only_one}

-- A history and a list go on: no position is lost, and what is new in the list stands from this position on.
pub record IsNoWorse (f : ℕ) (g h g' h' : History) : Type 0 where
  pub book : (k : ℕ) (c : Content) → IsEntryFrom k g c → IsEntryFrom k g' c
  pub contents : (c : Content) → Contains (entries h') c → Contains (entries h) c ⊎ IsEntryFrom f g' c
  pub last : (newest h' ≡ newest h) ⊎ IsEntryFrom f g' (newest h')

pub all_better : (k f : ℕ) (g h g' h' : History) → k ≤ f → IsNoWorse f g h g' h' → AllEntriesFrom k g h → AllEntriesFrom k g' h'
all_better k f g h g' h' b i a c m = elim (i.contents c m) [
  | inl old ↦ i.book k c (a c old)
  | inr new ↦ at_lower k f g' c b new
]

pub newest_better : (k f : ℕ) (g h g' h' : History) → k ≤ f → IsNoWorse f g h g' h' → IsEntryFrom k g (newest h) → IsEntryFrom k g' (newest h')
newest_better k f g h g' h' b i a = elim i.last [
  | inl same ↦ subst (λ (x : Content). IsEntryFrom k g' x) (sym same) (i.book k (newest h) a)
  | inr new ↦ at_lower k f g' (newest h') b new
]

pub better_same : (f : ℕ) (g h : History) → IsNoWorse f g h g h
better_same f g h = record { book = λ k c a. a; contents = λ c m. inl m; last = inl refl }

pub better_noted : (f : ℕ) (g h : History) (x : Content) → IsNoWorse f g h (added g x) h
better_noted f g h x = record { book = λ k c a. at_more k g c x a; contents = λ c m. inl m; last = inl refl }

pub better_added : (f : ℕ) (g h : History) (x : Content) → f ≤ length g.later → IsNoWorse f g h (added g x) (added h x)
better_added f g h x b = record {
  book = λ k c a. at_more k g c x a;
  contents = λ c m. elim (more_cases h x c m) [ inl old ↦ inl old | inr new ↦ inr (subst (λ (y : Content). IsEntryFrom f (added g x) y) new (at_last f g x (omega arith))) ];
  last = inr (rw (last_of-append h.first x h.later) (at_last f g x (omega arith)));
}

pub better_copied : (f : ℕ) (g h : History) (x : Content) → IsEntryFrom f g x → IsNoWorse f g h g (added h x)
better_copied f g h x a = record {
  book = λ k c a. a;
  contents = λ c m. elim (more_cases h x c m) [ inl old ↦ inl old | inr new ↦ inr (subst (λ (y : Content). IsEntryFrom f g y) new a) ];
  last = inr (rw (last_of-append h.first x h.later) a);
}

pub better_synced : (f : ℕ) (g h : History) → IsNoWorse f g h g (only (newest h))
better_synced f g h = record {
  book = λ k c a. a;
  contents = λ c m. inl (subst (λ (y : Content). Contains (entries h) y) (only_one (newest h) c m) (newest_there h));
  last = inl refl;
}

pub changed_at_same : (f : ℕ → ℕ → History) (i o : ℕ) (h : History) → changed_at f i o h i o ≡ h
changed_at_same f i o h = ap (λ (g : ℕ → History). g o) (changed_same f i (changed (f i) o h)) ∙ changed_same (f i) o h

pub changed_at_row : (f : ℕ → ℕ → History) (i o i' o' : ℕ) (h : History) → i' ≢ i → changed_at f i o h i' o' ≡ f i' o'
changed_at_row f i o i' o' h n = ap (λ (g : ℕ → History). g o') (changed_other f i i' (changed (f i) o h) n)

pub changed_at_column : (f : ℕ → ℕ → History) (i o o' : ℕ) (h : History) → o' ≢ o → changed_at f i o h i o' ≡ f i o'
changed_at_column f i o o' h n = ap (λ (g : ℕ → History). g o') (changed_same f i (changed (f i) o h)) ∙ changed_other (f i) o o' h n

-- one location changed: there, and elsewhere
pub by_place : (P : ℕ → ℕ → History → Type 0) (f : ℕ → ℕ → History) (i o i' o' : ℕ) (h : History) → (i' ≡ i → o' ≡ o → P i o h) → ((i' ≢ i) ⊎ (o' ≢ o) → P i' o' (f i' o')) → P i' o' (changed_at f i o h i' o')
by_place P f i o i' o' h here there = elim (cases_eq i' i) [
  | inr n ↦ subst (λ (x : History). P i' o' x) (sym (changed_at_row f i o i' o' h n)) (there (inl n))
  | inl e ↦ elim (cases_eq o' o) [
    | inl s ↦ subst (λ (j : ℕ). P j o' (changed_at f i o h j o')) (sym e) (subst (λ (p : ℕ). P i p (changed_at f i o h i p)) (sym s) (subst (λ (x : History). P i o x) (sym (changed_at_same f i o h)) (here e s)))
    | inr n ↦ subst (λ (j : ℕ). P j o' (changed_at f i o h j o')) (sym e) (subst (λ (x : History). P i o' x) (sym (changed_at_column f i o o' h n)) (subst (λ (j : ℕ). P j o' (f j o')) e (there (inr n))))
  ]
]
