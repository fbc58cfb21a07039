-- Elements that leave the chosen ones, one after the other.
use Rattle.std.proofs.Common.{◌≡◌, ◌<◌, ◌+◌, ◌^◌, ℕ, zero, suc, List, [], ◌∷◌, Bool, true, false, not, cond, Option, Some, None, length, map, get_or, set, replicate, refl, sym, ap, ◌∙◌, arith, nat_lt}
use Rattle.std.specs.List.{position, position_or_len, prefix_len}
use Rattle.std.specs.Option.{IfSome}
use Rattle.std.proofs.lemmas.List.{length-map, ext_get_or, get_or-replicate, length-replicate}
use Rattle.std.proofs.lemmas.List.Quantifiers.{position-Some}
use Rattle.wb_bits.proofs.Least.{none_at_all}

-- how many are chosen
abbrev pub chosen : {X : Type 0} → (X → Bool) → List X → ℕ
chosen p [] = 0
chosen p (x ∷ xs) = cond (p x) (suc (chosen p xs)) (chosen p xs)

one_fewer : (b : Bool) (m n : ℕ) → suc m ≡ n → suc (cond b (suc m) m) ≡ cond b (suc n) n
one_fewer true m n e = ap suc e
one_fewer false m n e = e

pub fewer_chosen : {X : Type 0} (p : X → Bool) (xs : List X) (i : ℕ) (y d : X) → i < length xs → p (get_or xs i d) ≡ true → p y ≡ false → suc (chosen p (set xs i y)) ≡ chosen p xs
fewer_chosen p [] i y d l t f = absurd (omega arith)
fewer_chosen p (x ∷ xs) zero y d l t f = ap (λ (b : Bool). suc (cond b (suc (chosen p xs)) (chosen p xs))) f ∙ sym (ap (λ (b : Bool). cond b (suc (chosen p xs)) (chosen p xs)) t)
fewer_chosen p (x ∷ xs) (suc i) y d l t f = one_fewer (p x) (chosen p (set xs i y)) (chosen p xs) (fewer_chosen p xs i y d (omega arith) t f)

prefix-map : {X : Type 0} (p : X → Bool) (xs : List X) → prefix_len (λ b. not b) (map p xs) ≡ prefix_len (λ x. not (p x)) xs
prefix-map p [] = refl
prefix-map p (x ∷ xs) = ap (λ (n : ℕ). cond (not (p x)) (1 + n) 0) (prefix-map p xs)

-- the first chosen one, by the list of who is chosen
pub position-map : {X : Type 0} (p : X → Bool) (xs : List X) → position (λ b. b) (map p xs) ≡ position p xs
position-map p xs = ap (λ (n : ℕ). cond (nat_lt n (length (map p xs))) (Some n) None) (prefix-map p xs)
    ∙ ap (λ (m : ℕ). cond (nat_lt (position_or_len p xs) m) (Some (position_or_len p xs)) None) (length-map xs p)

unchanged_by : {X : Type 0} (p : X → Bool) (f : X → X) → ((x : X) → p x ≡ false → f x ≡ x) → (xs : List X) → ((k : ℕ) → get_or (map p xs) k false ≡ false) → map f xs ≡ xs
unchanged_by p f h [] n = refl
unchanged_by p f h (x ∷ xs) n = ap (λ y. y ∷ map f xs) (h x (n zero)) ∙ ap (λ l. x ∷ l) (unchanged_by p f h xs (λ k. n (suc k)))

-- where none is chosen, what changes the chosen ones alone changes nothing
pub none_changed : {X : Type 0} (p : X → Bool) (f : X → X) → ((x : X) → p x ≡ false → f x ≡ x) → (xs : List X) → position p xs ≡ None → map f xs ≡ xs
none_changed p f h xs e = unchanged_by p f h xs (none_at_all (map p xs) (position-map p xs ∙ e))

pub none_left : (xs : List Bool) → position (λ b. b) xs ≡ None → xs ≡ replicate (length xs) false
none_left xs e = ext_get_or false xs (replicate (length xs) false) (sym (length-replicate {A = Bool} (length xs) false)) (λ k l. none_at_all xs e k ∙ sym (get_or-replicate {A = Bool} (length xs) k false false l))

pub none_of : (o : Option ℕ) → ((i : ℕ) → o ≡ Some i → ⊥) → o ≡ None
none_of None h = refl
none_of (Some i) h = absurd (h i refl)

pub first_small : {X : Type 0} (p : X → Bool) (xs : List X) (o : Option ℕ) → o ≡ position p xs → length xs < 2 ^ 32 → IfSome o (λ c. c < 2 ^ 32)
first_small p [] None e s = tt
first_small p (x ∷ xs) None e s = tt
first_small p [] (Some c) e s = absurd (cc)
first_small p (x ∷ xs) (Some c) e s = let at = position-Some p (x ∷ xs) c x (sym e) in omega (arith, at.0, s)
