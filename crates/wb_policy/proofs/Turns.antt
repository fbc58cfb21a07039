-- The list of dirty blocks in turn, and what is found in it.
use Rattle.std.proofs.Common.{◌≡◌, ℕ, suc, ◌+◌, ◌<◌, ◌≤◌, inl, inr, Bool, true, false, cond, not, ◌&&◌, leb, nat_lt, List, [], ◌∷◌, ◌++◌, length, take, drop, get_or, Option, Some, None, refl, sym, ap, subst, ◌∙◌, arith}
use Rattle.std.specs.Prelude.{nat_le}
use Rattle.std.specs.List.{find, filter, All, Contains}
use Rattle.std.specs.List.Sorted.{IsPartitionPoint}
use Rattle.std.proofs.lemmas.Bool.Decides.{nat_tests}
use Rattle.std.proofs.lemmas.List.{take_more, take-append-drop, get_or-take, get_or-drop, length-take, length-drop, append-nil}
use Rattle.std.proofs.lemmas.List.Elements.{filter-append, Contains-append_cases}
use Rattle.std.proofs.lemmas.List.Folds.{find-append}
use Rattle.lru.proofs.Splits.{Contains-head, Contains-tail, Contains-cons}
use Rattle.wb_types.specs.declared.number.CBlock.{CBlock}
use Rattle.wb_types.specs.declared.number.OBlock.{OBlock}
use Rattle.wb_policy.specs.declared.order.Order.TheVariants.{Clean}
use Rattle.wb_policy.specs.declared.situation.Tick.{Tick}
use Rattle.wb_policy.specs.Law.{Holdings, AreMapped, IsLawful}
use Rattle.wb_policy.specs.Situations.{is_passthrough}
use Rattle.wb_policy.specs.Cleaner.{Progress, in_turn, is_waiting, next_in_turn, chosen}
use Rattle.wb_policy.proofs.Laws.{find_passes}
use Rattle.wb_policy.proofs.Lawful.{not_so, not_passthrough}
use Rattle.wb_types.proofs.Truth.{and_true}

abbrev Dirty : Type 0
Dirty = List (CBlock × OBlock)

-- the first that passes stands where none before it does
pub found_at : {X : Type 0} (p : X → Bool) (xs : List X) (i : ℕ) (d : X) → find p (take i xs) ≡ None → i < length xs → p (get_or xs i d) ≡ true
    → Some (get_or xs i d) ≡ find p xs
found_at p xs i d none within passes =
    let e : find p (take (i + 1) xs) ≡ Some (get_or xs i d) =
    ap (find p) (take_more xs i d within) ∙ (find-append p (take i xs) (get_or xs i d ∷ []) ∙ rw (none, passes) refl) in
    sym (ap (find p) (sym (take-append-drop (i + 1) xs)) ∙ (find-append p (take (i + 1) xs) (drop (i + 1) xs) ∙ rw e refl))

pub none_yet : {X : Type 0} (p : X → Bool) (xs : List X) (i : ℕ) (d : X) → find p (take i xs) ≡ None → i < length xs → p (get_or xs i d) ≡ false
    → find p (take (i + 1) xs) ≡ None
none_yet p xs i d none within fails =
    ap (find p) (take_more xs i d within) ∙ (find-append p (take i xs) (get_or xs i d ∷ []) ∙ rw (none, fails) refl)

filter_all : {X : Type 0} (p : X → Bool) (xs : List X) → All (λ x. p x ≡ true) xs → filter p xs ≡ xs
filter_all p [] all = refl
filter_all p (x ∷ xs) all =
    let here : p x ≡ true = all 0 x (omega arith) in
    rw here (ap (λ l. x ∷ l) (filter_all p xs (λ k d h. all (suc k) d (omega arith))))

filter_none : {X : Type 0} (p : X → Bool) (xs : List X) → All (λ x. p x ≡ false) xs → filter p xs ≡ []
filter_none p [] all = refl
filter_none p (x ∷ xs) all =
    let here : p x ≡ false = all 0 x (omega arith) in
    rw here (filter_none p xs (λ k d h. all (suc k) d (omega arith)))

past : (last at : ℕ) → leb at last ≡ false → nat_lt last at ≡ true
past last at h = grind (arith, nat_tests)

up_to : (last at : ℕ) → leb at last ≡ true → nat_lt last at ≡ false
up_to last at h = grind (arith, nat_tests)

-- behind the last one first
pub turn-is : (last : ℕ) (xs : Dirty) (i : ℕ) → i ≤ length xs
    → IsPartitionPoint (λ y. leb y.0.0 last ≡ true) (λ y. leb y.0.0 last ≡ false) xs i → in_turn (Some last) xs ≡ drop i xs ++ take i xs
turn-is last xs i within split =
    let later : CBlock × OBlock → Bool = λ e. nat_lt last e.0.0 in
    let first : All (λ e. nat_lt last e.0.0 ≡ false) (take i xs) =
    λ k d h. (let n : k < i = omega (arith, length-take i xs) in rw (get_or-take i xs k d n) (up_to last _ (split.0 k d (omega arith) n))) in
    let rest : All (λ e. nat_lt last e.0.0 ≡ true) (drop i xs) =
    λ k d h. (let n : i + k < length xs = omega (arith, length-drop i xs) in rw (get_or-drop i xs k d) (past last _ (split.1 (i + k) d (omega arith) n))) in
    let whole = take-append-drop i xs in
    let behind : filter (λ e. nat_lt last e.0.0) xs ≡ drop i xs =
    ap (filter (λ e. nat_lt last e.0.0)) (sym whole) ∙ (filter-append (λ e. nat_lt last e.0.0) (take i xs) (drop i xs)
    ∙ rw (filter_none (λ e. nat_lt last e.0.0) (take i xs) first, filter_all (λ e. nat_lt last e.0.0) (drop i xs) rest) refl) in
    let others : filter (λ e. not (nat_lt last e.0.0)) xs ≡ take i xs =
    ap (filter (λ e. not (nat_lt last e.0.0))) (sym whole) ∙ (filter-append (λ e. not (nat_lt last e.0.0)) (take i xs) (drop i xs)
    ∙ rw (filter_all (λ e. not (nat_lt last e.0.0)) (take i xs) (λ k d h. ap not (first k d h)), filter_none (λ e. not (nat_lt last e.0.0)) (drop i xs) (λ k d h. ap not (rest k d h))) (append-nil (take i xs))) in
    rw (behind, others) refl

pub found_behind : (busy : List Bool) (last : ℕ) (xs : Dirty) (i : ℕ) (e : CBlock × OBlock) → in_turn (Some last) xs ≡ drop i xs ++ take i xs
    → find (is_waiting busy) (drop i xs) ≡ Some e → Some e ≡ find (is_waiting busy) (in_turn (Some last) xs)
found_behind busy last xs i e turn found =
    sym (ap (find (is_waiting busy)) turn ∙ (find-append (is_waiting busy) (drop i xs) (take i xs) ∙ rw found refl))

pub found_before : (busy : List Bool) (last : ℕ) (xs : Dirty) (i : ℕ) → in_turn (Some last) xs ≡ drop i xs ++ take i xs
    → find (is_waiting busy) (drop i xs) ≡ None → find (is_waiting busy) (take i xs) ≡ find (is_waiting busy) (in_turn (Some last) xs)
found_before busy last xs i turn none =
    sym (ap (find (is_waiting busy)) turn ∙ (find-append (is_waiting busy) (drop i xs) (take i xs) ∙ rw none refl))

filtered_from : {X : Type 0} (p : X → Bool) (xs : List X) (e : X) → Contains (filter p xs) e → Contains xs e
filtered_from p [] e h = h
filtered_from {X} p (f ∷ xs) e h = by (p f) h (filtered_from p xs e)
  where
    by : (b : Bool) → Contains (cond b (f ∷ filter p xs) (filter p xs)) e → (Contains (filter p xs) e → Contains xs e) → Contains (f ∷ xs) e
    by true h more = elim (Contains-cons f (filter p xs) e h) [
      | inl same ↦ subst (Contains (f ∷ xs)) same (Contains-head f xs)
      | inr later ↦ Contains-tail f xs e (more later)
    ]
    by false h more = Contains-tail f xs e (more h)

turn_from : (last : Option ℕ) (xs : Dirty) (e : CBlock × OBlock) → Contains (in_turn last xs) e → Contains xs e
turn_from None xs e h = h
turn_from (Some last) xs e h = elim (Contains-append_cases (filter (λ e. nat_lt last e.0.0) xs) (filter (λ e. not (nat_lt last e.0.0)) xs) e h) [
  | inl behind ↦ filtered_from _ xs e behind
  | inr before ↦ filtered_from _ xs e before
]

-- what the cleaner orders keeps the law
pub lawful-chosen : (m : Holdings) (p : Progress) (t : Tick) (e : CBlock × OBlock) → AreMapped m t.dirty.now → chosen p t ≡ Some e
    → IsLawful t.mode m None t.busy.now (Clean e.1)
lawful-chosen m p t e mapped h = by (not (is_passthrough t.mode) && nat_le p.block_sectors t.room) refl h
  where
    by : (b : Bool) → (not (is_passthrough t.mode) && nat_le p.block_sectors t.room) ≡ b → cond b (next_in_turn p t) None ≡ Some e
        → IsLawful t.mode m None t.busy.now (Clean e.1)
    by true may found =
        let on = find_passes (is_waiting t.busy.now) (in_turn p.last t.dirty.now) e found in
        record {
          allowed = not_passthrough t.mode (and_true _ _ may).0;
          names = (e.0.0, mapped e.0 e.1 (turn_from p.last t.dirty.now e on.0));
          idle = not_so _ on.1;
        }
    by false may found = cc
