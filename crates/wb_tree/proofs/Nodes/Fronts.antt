-- Entries, and the marks of their origin blocks, as far as a reading has come.
use Rattle.std.proofs.Common.{◌≡◌, ◌≤◌, ◌<◌, ◌+◌, ◌∙◌, sym, ap, refl, ℕ, zero, suc, Bool, true, false, List, [], ◌∷◌, Option, Some, None, length, take, drop, get_or, set, replicate, is_some, arith, get_or-set_other, ◌*◌, ◌^◌}
use Rattle.std.specs.List.{list_any}
use Rattle.std.proofs.lemmas.Bool.{or_parts, false≢true}
use Rattle.wb_types.specs.declared.entry.Entry.{Entry}
use Rattle.wb_tree.specs.Mapping.{exists}
use Rattle.wb_tree.specs.Whole.{marked}

-- the entries of the first so many cache blocks, and none behind them
pub shown : ℕ → List (Option Entry) → List (Option Entry)
shown count [] = []
shown zero (entry ∷ entries) = None ∷ shown zero entries
shown (suc count) (entry ∷ entries) = entry ∷ shown count entries

-- none of them
pub shown-none : (entries : List (Option Entry)) → replicate (length entries) None ≡ shown 0 entries
unfolding shown
shown-none [] = refl
shown-none (entry ∷ entries) = ap (λ (rest : List (Option Entry)). None ∷ rest) (shown-none entries)

-- all of them
pub shown-all : (count : ℕ) (entries : List (Option Entry)) → length entries ≤ count → shown count entries ≡ entries
unfolding shown
shown-all count [] h = refl
shown-all zero (entry ∷ entries) h = absurd (omega arith)
shown-all (suc count) (entry ∷ entries) h = ap (λ (rest : List (Option Entry)). entry ∷ rest) (shown-all count entries (omega arith))

-- one entry more
pub shown-set : (count : ℕ) (entries : List (Option Entry)) (entry : Option Entry) → get_or entries count None ≡ entry → set (shown count entries) count entry ≡ shown (suc count) entries
unfolding shown
shown-set count [] entry e = refl
shown-set zero (first ∷ entries) entry e = ap (λ (one : Option Entry). one ∷ shown zero entries) (sym e)
shown-set (suc count) (first ∷ entries) entry e = ap (λ (rest : List (Option Entry)). first ∷ rest) (shown-set count entries entry e)

-- no entry more
pub shown-skip : (count : ℕ) (entries : List (Option Entry)) → get_or entries count None ≡ None → shown (suc count) entries ≡ shown count entries
unfolding shown
shown-skip count [] e = refl
shown-skip zero (first ∷ entries) e = ap (λ (one : Option Entry). one ∷ shown zero entries) e
shown-skip (suc count) (first ∷ entries) e = ap (λ (rest : List (Option Entry)). first ∷ rest) (shown-skip count entries e)

-- marks, with that of one entry
pub with_mark : Option Entry → List Bool → List Bool
with_mark None marks = marks
with_mark (Some entry) marks = set marks entry.origin.0 true

-- marks, with those of the first so many entries
pub marks_to : ℕ → List (Option Entry) → List Bool → List Bool
marks_to count [] marks = marks
marks_to zero (entry ∷ entries) marks = marks
marks_to (suc count) (entry ∷ entries) marks = marks_to count entries (with_mark entry marks)

-- with none of them
pub marks_to-none : (entries : List (Option Entry)) (marks : List Bool) → marks_to 0 entries marks ≡ marks
unfolding marks_to
marks_to-none [] marks = refl
marks_to-none (entry ∷ entries) marks = refl

-- with all of them
pub marks_to-all : (count : ℕ) (entries : List (Option Entry)) (marks : List Bool) → length entries ≤ count → marks_to count entries marks ≡ marked entries marks
unfolding marks_to with_mark marked
marks_to-all count [] marks h = refl
marks_to-all zero (entry ∷ entries) marks h = absurd (omega arith)
marks_to-all (suc count) (None ∷ entries) marks h = marks_to-all count entries marks (omega arith)
marks_to-all (suc count) (Some entry ∷ entries) marks h = marks_to-all count entries (set marks entry.origin.0 true) (omega arith)

marks_to-next : (count : ℕ) (entries : List (Option Entry)) (marks : List Bool) → marks_to (suc count) entries marks ≡ with_mark (get_or entries count None) (marks_to count entries marks)
unfolding marks_to with_mark
marks_to-next count [] marks = refl
marks_to-next zero (entry ∷ entries) marks = marks_to-none entries (with_mark entry marks)
marks_to-next (suc count) (entry ∷ entries) marks = marks_to-next count entries (with_mark entry marks)

-- one entry more
pub marks_to-set : (count : ℕ) (entries : List (Option Entry)) (marks : List Bool) (entry : Entry) → get_or entries count None ≡ Some entry
    → set (marks_to count entries marks) entry.origin.0 true ≡ marks_to (suc count) entries marks
unfolding with_mark
marks_to-set count entries marks entry e = sym (marks_to-next count entries marks ∙ ap (λ (o : Option Entry). with_mark o (marks_to count entries marks)) e)

-- no entry more
pub marks_to-skip : (count : ℕ) (entries : List (Option Entry)) (marks : List Bool) → get_or entries count None ≡ None → marks_to (suc count) entries marks ≡ marks_to count entries marks
unfolding with_mark
marks_to-skip count entries marks e = marks_to-next count entries marks ∙ ap (λ (o : Option Entry). with_mark o (marks_to count entries marks)) e

-- an origin block without a mark that is in none of the entries has no mark
pub unmarked : (count : ℕ) (entries : List (Option Entry)) (marks : List Bool) (origin : ℕ)
    → ((block : ℕ) (entry : Entry) → block < count → get_or entries block None ≡ Some entry → entry.origin.0 ≡ origin → ⊥)
    → get_or marks origin false ≡ false → get_or (marks_to count entries marks) origin false ≡ false
unfolding marks_to with_mark
unmarked count [] marks origin none h = h
unmarked zero (entry ∷ entries) marks origin none h = h
unmarked (suc count) (None ∷ entries) marks origin none h = unmarked count entries marks origin (λ block entry below e same. none (suc block) entry (omega arith) e same) h
unmarked (suc count) (Some first ∷ entries) marks origin none h =
    unmarked count entries (set marks first.origin.0 true) origin (λ block entry below e same. none (suc block) entry (omega arith) e same)
    (get_or-set_other marks first.origin.0 origin true false (λ same. none 0 first (omega arith) refl (sym same)) ∙ h)

-- ---- where no entry lies

pub none_is : (o : Option Entry) → is_some o ≡ false → o ≡ None
none_is None h = refl
none_is (Some entry) h = absurd cc

-- where no entry is found none lies
pub none_there : (entries : List (Option Entry)) (first count block : ℕ) → list_any is_some (take count (drop first entries)) ≡ false → first ≤ block → block < first + count → get_or entries block None ≡ None
none_there [] first count block h low high = refl
none_there (entry ∷ entries) zero zero block h low high = absurd (omega arith)
none_there (entry ∷ entries) zero (suc count) zero h low high = none_is entry (or_parts (is_some entry) (list_any is_some (take count entries)) h).0
none_there (entry ∷ entries) zero (suc count) (suc block) h low high =
    none_there entries zero count block (or_parts (is_some entry) (list_any is_some (take count entries)) h).1 (omega arith) (omega arith)
none_there (entry ∷ entries) (suc first) count zero h low high = absurd (omega arith)
none_there (entry ∷ entries) (suc first) count (suc block) h low high = none_there entries first count block h (omega arith) (omega arith)

-- below a node that does not exist there is no entry
pub nothing_below : (entries : List (Option Entry)) (level index block : ℕ) → exists entries level index ≡ false → index * 32 ^ level ≤ block → block < index * 32 ^ level + 32 ^ level → get_or entries block None ≡ None
unfolding exists
nothing_below entries level index block h low high = none_there entries (index * 32 ^ level) (32 ^ level) block h low high

some_there : (entries : List (Option Entry)) (first count : ℕ) → list_any is_some (take count (drop first entries)) ≡ true → first < length entries
some_there [] zero zero h = absurd (false≢true h)
some_there [] zero (suc count) h = absurd (false≢true h)
some_there [] (suc first) zero h = absurd (false≢true h)
some_there [] (suc first) (suc count) h = absurd (false≢true h)
some_there (entry ∷ entries) zero count h = omega arith
some_there (entry ∷ entries) (suc first) count h = let rest = some_there entries first count h in omega arith

-- a node that exists begins before the end of the entries
pub begins_inside : (entries : List (Option Entry)) (level index : ℕ) → exists entries level index ≡ true → index * 32 ^ level < length entries
unfolding exists
begins_inside entries level index h = some_there entries (index * 32 ^ level) (32 ^ level) h
