-- A sketch says no more than the exact frequency of a block that is alone in a row and has a door of its own.
use Rattle.std.proofs.Common.{◌≡◌, ◌≤◌, ◌<◌, ◌≢◌, inl, inr, ◌+◌, ◌^◌, ℕ, true, false, List, [], ◌∷◌, length, replicate, get_or, set, refl, sym, subst, ◌∙◌, arith}
use Rattle.std.proofs.lemmas.List.{length-replicate, get_or-set_other, get_or-replicate, get_or_past}
use Rattle.std.proofs.lemmas.Bool.{cases_eq, cases_lt, cases_Bool, both_ways}
use Rattle.wb_sketch.specs.Sizes.{row_bits, sample_limit}
use Rattle.wb_sketch.specs.Places.{row_place, door_place, door_constant1, door_constant2}
use Rattle.wb_sketch.specs.Frequencies.{Frequencies, empty, least_of, is_member, estimate_of, raised, admitted, counted, accessed, after, after_accesses}
use Rattle.wb_sketch.specs.Exact.{Exact, none, noted, counted_exactly, after_exactly, frequency_in, exact_frequency}
use Rattle.wb_sketch.specs.Alone.{EachBlock, LeavesRow, LeavesDoor, IsAloneInARow, HasOwnDoor}
use Rattle.wb_sketch.proofs.Counters.{get_or-halved, length-halved}
use Rattle.wb_sketch.proofs.Shapes.{length-raised_at}
use Rattle.wb_sketch.proofs.Steps.{accessed-known, accessed-new, estimate-known, estimate-new}
use Rattle.wb_sketch.proofs.Raising.{raised_at-other, raised_at-bounded}
use Rattle.wb_sketch.proofs.Noting.{noted-other, noted-known, noted-rises, noted-bounded, noted-self, noted-member, noted-sample, exact-more, exact-full}
use Rattle.wb_sketch.proofs.Covering.{IsRow, IsRow-1, IsRow-2, IsRow-3, IsRow-4, at_more, at_full, row_within, cache_raised, cache_admitted, cache_counted, cache_accessed, raised-door, admitted-door, member-parts, sample_raised, sample_admitted, sample_counted, Covers, Covers-accesses, least-covers, empty-cache}
use Rattle.wb_types.proofs.Lists.{replicate_at}

-- one of the doorkeeper's two places, by its constant
abbrev IsDoor : ℕ → Type 0
IsDoor constant = (f : Frequencies) (block : ℕ) → is_member f block ≡ true → get_or f.doorkeeper (door_place constant f.cache_blocks block) false ≡ true

IsDoor-1 : IsDoor door_constant1
IsDoor-1 f block m = let parts = member-parts f block m in parts.0

IsDoor-2 : IsDoor door_constant2
IsDoor-2 f block m = let parts = member-parts f block m in parts.1

-- of one block, a row and a door say no more than its number and its membership
record Meets (door constant : ℕ) (row : Frequencies → List ℕ) (x : ℕ) (f : Frequencies) (e : Exact) : Type 0 where
  places : length (row f) ≡ 2 ^ row_bits f.cache_blocks
  counter : get_or (row f) (row_place constant f.cache_blocks x) 0 ≤ e.number x
  known : get_or f.doorkeeper (door_place door f.cache_blocks x) false ≡ true → e.member x ≡ true
  number : e.number x ≤ 15
  sample : f.sample ≡ e.sample

Meets-raised_self : (door constant : ℕ) (row : Frequencies → List ℕ) (x : ℕ) (f : Frequencies) (e : Exact) → IsRow constant row → IsDoor door
    → is_member f x ≡ true → Meets door constant row x f e → Meets door constant row x (raised f x) (noted e x)
Meets-raised_self door constant row x f e r d m h =
    let within : row_place constant f.cache_blocks x < length (row f) = row_within constant row f x h.places in
    let k : e.member x ≡ true = h.known (d f x m) in
    record {
      places = rw (r.raised_row f x, cache_raised f x) (length-raised_at _ _ _ ∙ h.places);
      counter = rw (r.raised_row f x, cache_raised f x, noted-known e x k) (raised_at-bounded (least_of f x) (row_place constant f.cache_blocks x) (row f) (e.number x) within h.counter h.number);
      known = λ _. noted-self e x;
      number = noted-bounded e x x h.number;
      sample = sample_raised f x ∙ h.sample ∙ sym (noted-sample e x);
    }

Meets-raised_other : (door constant : ℕ) (row : Frequencies → List ℕ) (x : ℕ) (f : Frequencies) (e : Exact) (block : ℕ) → IsRow constant row
    → block ≢ x → LeavesRow constant f.cache_blocks x block → Meets door constant row x f e → Meets door constant row x (raised f block) (noted e block)
Meets-raised_other door constant row x f e block r n leaves h =
    let n' : x ≢ block = λ q. n (sym q) in
    let apart : row_place constant f.cache_blocks x ≢ row_place constant f.cache_blocks block = λ q. leaves n (sym q) in
    record {
      places = rw (r.raised_row f block, cache_raised f block) (length-raised_at _ _ _ ∙ h.places);
      counter = rw (r.raised_row f block, cache_raised f block, noted-other e block x n', raised_at-other (least_of f block) (row_place constant f.cache_blocks block) (row f) (row_place constant f.cache_blocks x) apart) h.counter;
      known = λ k. noted-member e block x (h.known (rw (raised-door f block, cache_raised f block) at k));
      number = noted-bounded e block x h.number;
      sample = sample_raised f block ∙ h.sample ∙ sym (noted-sample e block);
    }

Meets-raised : (door constant : ℕ) (row : Frequencies → List ℕ) (x : ℕ) (f : Frequencies) (e : Exact) (block : ℕ) → IsRow constant row → IsDoor door
    → is_member f block ≡ true → LeavesRow constant f.cache_blocks x block → Meets door constant row x f e → Meets door constant row x (raised f block) (noted e block)
Meets-raised door constant row x f e block r d m leaves h =
    elim (cases_eq block x) [
      | inl s ↦
          let m' : is_member f x ≡ true = rw (← s) m in
          subst (λ b. Meets door constant row x (raised f b) (noted e b)) (sym s) (Meets-raised_self door constant row x f e r d m' h)
      | inr n ↦ Meets-raised_other door constant row x f e block r n leaves h
    ]

admitted-elsewhere : (door : ℕ) (x : ℕ) (f : Frequencies) (block : ℕ) → block ≢ x → LeavesDoor door f.cache_blocks x block
    → get_or (admitted f block).doorkeeper (door_place door f.cache_blocks x) false ≡ get_or f.doorkeeper (door_place door f.cache_blocks x) false
admitted-elsewhere door x f block n leaves =
    let parts = leaves n in
    let apart1 : door_place door f.cache_blocks x ≢ door_place door_constant1 f.cache_blocks block = λ q. parts.0 (sym q) in
    let apart2 : door_place door f.cache_blocks x ≢ door_place door_constant2 f.cache_blocks block = λ q. parts.1 (sym q) in
    rw (admitted-door f block)
    (get_or-set_other (set f.doorkeeper (door_place door_constant1 f.cache_blocks block) true) (door_place door_constant2 f.cache_blocks block) (door_place door f.cache_blocks x) true false apart2
    ∙ get_or-set_other f.doorkeeper (door_place door_constant1 f.cache_blocks block) (door_place door f.cache_blocks x) true false apart1)

Meets-admitted : (door constant : ℕ) (row : Frequencies → List ℕ) (x : ℕ) (f : Frequencies) (e : Exact) (block : ℕ) → IsRow constant row
    → LeavesDoor door f.cache_blocks x block → Meets door constant row x f e → Meets door constant row x (admitted f block) (noted e block)
Meets-admitted door constant row x f e block r leaves h = record {
  places = rw (r.admitted_row f block, cache_admitted f block) h.places;
  counter = rw (r.admitted_row f block, cache_admitted f block) (omega (arith, h.counter, noted-rises e block x h.number));
  known = λ k.
      elim (cases_eq block x) [
        | inl s ↦ rw s (noted-self e x)
        | inr n ↦
            let here : get_or (admitted f block).doorkeeper (door_place door f.cache_blocks x) false ≡ true = rw (cache_admitted f block) at k in
            noted-member e block x (h.known (sym (admitted-elsewhere door x f block n leaves) ∙ here))
      ];
  number = noted-bounded e block x h.number;
  sample = sample_admitted f block ∙ h.sample ∙ sym (noted-sample e block);
}

Meets-counted : (door constant : ℕ) (row : Frequencies → List ℕ) (x : ℕ) (f : Frequencies) (e : Exact) → IsRow constant row
    → Meets door constant row x f e → Meets door constant row x (counted f) (counted_exactly f.cache_blocks e)
Meets-counted door constant row x f e r h =
    elim (cases_lt (f.sample + 1) (sample_limit f.cache_blocks)) [
      | inl l ↦
          let l' : e.sample + 1 < sample_limit f.cache_blocks = rw (← h.sample) l in
          let bits : (counted f).doorkeeper ≡ f.doorkeeper = at_more (λ f. f.doorkeeper) f l in
          record {
            places = rw (r.more_row f l, cache_counted f) h.places;
            counter = rw (exact-more f.cache_blocks e l', r.more_row f l, cache_counted f) h.counter;
            known = λ k. rw (exact-more f.cache_blocks e l') (h.known (rw (bits, cache_counted f) at k));
            number = rw (exact-more f.cache_blocks e l') h.number;
            sample = sample_counted f e h.sample;
          }
      | inr l ↦
          let l' : sample_limit f.cache_blocks ≤ e.sample + 1 = rw (← h.sample) l in
          let bits : (counted f).doorkeeper ≡ replicate (length f.doorkeeper) false = at_full (λ f. f.doorkeeper) f l in
          record {
            places = rw (r.full_row f l, cache_counted f) (length-halved _ ∙ h.places);
            counter = rw (exact-full f.cache_blocks e l', r.full_row f l, cache_counted f, get_or-halved) (omega (arith, h.counter));
            known = λ k. absurd (both_ways _ (replicate_at (length f.doorkeeper) (door_place door (counted f).cache_blocks x) false) (rw bits at k));
            number = rw (exact-full f.cache_blocks e l') (omega (arith, h.number));
            sample = sample_counted f e h.sample;
          }
    ]

Meets-accessed : (door constant : ℕ) (row : Frequencies → List ℕ) (x : ℕ) (f : Frequencies) (e : Exact) (block cache_blocks : ℕ) → IsRow constant row → IsDoor door
    → f.cache_blocks ≡ cache_blocks → LeavesRow constant cache_blocks x block → LeavesDoor door cache_blocks x block
    → Meets door constant row x f e → Meets door constant row x (accessed f block) (counted_exactly cache_blocks (noted e block))
Meets-accessed door constant row x f e block cache_blocks r d same leaves_row leaves_door h =
    let here_row : LeavesRow constant f.cache_blocks x block = subst (λ n. LeavesRow constant n x block) (sym same) leaves_row in
    let here_door : LeavesDoor door f.cache_blocks x block = subst (λ n. LeavesDoor door n x block) (sym same) leaves_door in
    elim (cases_Bool (is_member f block)) [
      | inl m ↦
          let all : Meets door constant row x (counted (raised f block)) (counted_exactly (raised f block).cache_blocks (noted e block)) = Meets-counted door constant row x (raised f block) (noted e block) r (Meets-raised door constant row x f e block r d m here_row h) in
          subst (λ g. Meets door constant row x g (counted_exactly cache_blocks (noted e block))) (accessed-known f block m)
          (subst (λ n. Meets door constant row x (counted (raised f block)) (counted_exactly n (noted e block))) (cache_raised f block ∙ same) all)
      | inr m ↦
          let all : Meets door constant row x (counted (admitted f block)) (counted_exactly (admitted f block).cache_blocks (noted e block)) = Meets-counted door constant row x (admitted f block) (noted e block) r (Meets-admitted door constant row x f e block r here_door h) in
          subst (λ g. Meets door constant row x g (counted_exactly cache_blocks (noted e block))) (accessed-new f block m)
          (subst (λ n. Meets door constant row x (counted (admitted f block)) (counted_exactly n (noted e block))) (cache_admitted f block ∙ same) all)
    ]

Meets-after : (door constant : ℕ) (row : Frequencies → List ℕ) (x : ℕ) → IsRow constant row → IsDoor door → (blocks : List ℕ) (f : Frequencies) (e : Exact) (cache_blocks : ℕ) → f.cache_blocks ≡ cache_blocks
    → EachBlock (LeavesRow constant cache_blocks x) blocks → EachBlock (LeavesDoor door cache_blocks x) blocks
    → Meets door constant row x f e → Meets door constant row x (after f blocks) (after_exactly cache_blocks e blocks)
unfolding after after_exactly
Meets-after door constant row x r d [] f e cache_blocks same rows doors h = h
Meets-after door constant row x r d (block ∷ blocks) f e cache_blocks same rows doors h =
    Meets-after door constant row x r d blocks (accessed f block) (counted_exactly cache_blocks (noted e block)) cache_blocks
    (cache_accessed f block ∙ same) rows.1 doors.1
    (Meets-accessed door constant row x f e block cache_blocks r d same rows.0 doors.0 h)

zero-at : (n k : ℕ) → ◌≡◌ {A = ℕ} (get_or (replicate n 0) k 0) 0
zero-at n k =
    elim (cases_lt k n) [
      | inl l ↦ get_or-replicate n k 0 0 l
      | inr l ↦ get_or_past (replicate n 0) k 0 (rw length-replicate l)
    ]

Meets-empty : (door constant : ℕ) (row : Frequencies → List ℕ) (x cache_blocks : ℕ) → row (empty cache_blocks) ≡ replicate (2 ^ row_bits cache_blocks) 0
    → Meets door constant row x (empty cache_blocks) none
unfolding empty none
Meets-empty door constant row x cache_blocks blank = record {
  places = rw blank (length-replicate _ _);
  counter = rw blank (omega (arith, zero-at (2 ^ row_bits cache_blocks) (row_place constant cache_blocks x)));
  known = λ k. absurd (both_ways _ (replicate_at (2 ^ (row_bits cache_blocks + 3)) (door_place door cache_blocks x) false) k);
  number = omega arith;
  sample = refl;
}

blank-1 : (cache_blocks : ℕ) → (empty cache_blocks).row1 ≡ replicate (2 ^ row_bits cache_blocks) 0
unfolding empty
blank-1 cache_blocks = refl

blank-2 : (cache_blocks : ℕ) → (empty cache_blocks).row2 ≡ replicate (2 ^ row_bits cache_blocks) 0
unfolding empty
blank-2 cache_blocks = refl

blank-3 : (cache_blocks : ℕ) → (empty cache_blocks).row3 ≡ replicate (2 ^ row_bits cache_blocks) 0
unfolding empty
blank-3 cache_blocks = refl

blank-4 : (cache_blocks : ℕ) → (empty cache_blocks).row4 ≡ replicate (2 ^ row_bits cache_blocks) 0
unfolding empty
blank-4 cache_blocks = refl

-- what covers all blocks and meets one is exact of that block
exact-of : (door constant : ℕ) (row : Frequencies → List ℕ) (x : ℕ) (f : Frequencies) (e : Exact) → IsRow constant row → IsDoor door
    → Covers f e → Meets door constant row x f e → estimate_of f x ≡ frequency_in e x
unfolding frequency_in
exact-of door constant row x f e r d c h =
    let same : least_of f x ≡ e.number x = omega (arith, least-covers f e x c, r.least_row f x, h.counter) in
    elim (cases_Bool (is_member f x)) [
      | inl m ↦
          let k : e.member x ≡ true = h.known (d f x m) in
          rw (estimate-known f x m, k, same) refl
      | inr m ↦
          let k : e.member x ≡ false = elim (cases_Bool (e.member x)) [ inl k ↦ absurd (both_ways _ m (c.door.covers x k)) | inr k ↦ k ] in
          rw (estimate-new f x m, k, same) refl
    ]

exact-by : (door constant : ℕ) (row : Frequencies → List ℕ) (x cache_blocks : ℕ) (blocks : List ℕ) → IsRow constant row → IsDoor door
    → row (empty cache_blocks) ≡ replicate (2 ^ row_bits cache_blocks) 0
    → EachBlock (LeavesRow constant cache_blocks x) blocks → EachBlock (LeavesDoor door cache_blocks x) blocks
    → estimate_of (after_accesses cache_blocks blocks) x ≡ exact_frequency cache_blocks blocks x
unfolding after_accesses exact_frequency
exact-by door constant row x cache_blocks blocks r d blank rows doors =
    let all : Covers (after (empty cache_blocks) blocks) (after_exactly cache_blocks none blocks) = Covers-accesses cache_blocks blocks in
    exact-of door constant row x _ _ r d all
    (Meets-after door constant row x r d blocks (empty cache_blocks) none cache_blocks (empty-cache cache_blocks) rows doors (Meets-empty door constant row x cache_blocks blank))

exact-door : (door x cache_blocks : ℕ) (blocks : List ℕ) → IsDoor door → IsAloneInARow cache_blocks blocks x → EachBlock (LeavesDoor door cache_blocks x) blocks
    → estimate_of (after_accesses cache_blocks blocks) x ≡ exact_frequency cache_blocks blocks x
exact-door door x cache_blocks blocks d alone doors =
    elim alone [
      | inl half ↦ elim half [
        | inl rows ↦ exact-by door _ (λ f. f.row1) x cache_blocks blocks IsRow-1 d (blank-1 cache_blocks) rows doors
        | inr rows ↦ exact-by door _ (λ f. f.row2) x cache_blocks blocks IsRow-2 d (blank-2 cache_blocks) rows doors
      ]
      | inr half ↦ elim half [
        | inl rows ↦ exact-by door _ (λ f. f.row3) x cache_blocks blocks IsRow-3 d (blank-3 cache_blocks) rows doors
        | inr rows ↦ exact-by door _ (λ f. f.row4) x cache_blocks blocks IsRow-4 d (blank-4 cache_blocks) rows doors
      ]
    ]

pub estimate-meets : (cache_blocks : ℕ) (blocks : List ℕ) (block : ℕ) → IsAloneInARow cache_blocks blocks block → HasOwnDoor cache_blocks blocks block
    → estimate_of (after_accesses cache_blocks blocks) block ≡ exact_frequency cache_blocks blocks block
estimate-meets cache_blocks blocks block alone own =
    elim own [
      | inl doors ↦ exact-door door_constant1 block cache_blocks blocks IsDoor-1 alone doors
      | inr doors ↦ exact-door door_constant2 block cache_blocks blocks IsDoor-2 alone doors
    ]
