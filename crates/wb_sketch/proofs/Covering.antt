-- A sketch never says less than the exact frequencies.
use Rattle.std.proofs.Common.{◌≡◌, ◌≤◌, ◌<◌, inl, inr, ◌+◌, ◌/◌, ◌^◌, ℕ, true, false, List, [], ◌∷◌, length, replicate, get_or, set, refl, sym, ap, subst, ◌∙◌, arith}
use Rattle.std.proofs.lemmas.List.{length-set, length-replicate}
use Rattle.std.proofs.lemmas.Bool.{cases_eq, cases_lt, cases_Bool, and_parts, both_ways}
use Rattle.wb_sketch.specs.Sizes.{row_bits, sample_limit}
use Rattle.wb_sketch.specs.Places.{row_place, door_place, row_constant1, row_constant2, row_constant3, row_constant4, door_constant1, door_constant2}
use Rattle.wb_sketch.specs.Frequencies.{Frequencies, frequencies, empty, counter1, counter2, counter3, counter4, least_of, is_member, estimate_of, raised_at, raised, admitted, halved, counted, accessed, after, after_accesses}
use Rattle.wb_sketch.specs.Exact.{Exact, none, noted, counted_exactly, after_exactly, frequency_in, exact_frequency}
use Rattle.wb_sketch.proofs.Places.{place_of-below}
use Rattle.wb_sketch.proofs.Counters.{get_or-halved, length-halved}
use Rattle.wb_sketch.proofs.Shapes.{length-raised_at}
use Rattle.wb_sketch.proofs.Sizes.{row_bits-to}
use Rattle.wb_sketch.proofs.Steps.{accessed-known, accessed-new, counted-more, counted-full, estimate-known, estimate-new}
use Rattle.wb_sketch.proofs.Raising.{raised_at-rises, raised_at-keeps, set-at, set-keeps}
use Rattle.wb_sketch.proofs.Noting.{noted-other, noted-known, noted-new, noted-members, noted-sample, exact-more, exact-full}

-- one of the four rows, by its constant
pub record IsRow (constant : ℕ) (row : Frequencies → List ℕ) : Type 0 where
  pub raised_row : (f : Frequencies) (block : ℕ) → row (raised f block) ≡ raised_at (least_of f block) (row_place constant f.cache_blocks block) (row f)
  pub admitted_row : (f : Frequencies) (block : ℕ) → row (admitted f block) ≡ row f
  pub more_row : (f : Frequencies) → f.sample + 1 < sample_limit f.cache_blocks → row (counted f) ≡ row f
  pub full_row : (f : Frequencies) → sample_limit f.cache_blocks ≤ f.sample + 1 → row (counted f) ≡ halved (row f)
  pub least_row : (f : Frequencies) (block : ℕ) → least_of f block ≤ get_or (row f) (row_place constant f.cache_blocks block) 0

pub at_more : {A : Type 0} (part : Frequencies → A) (f : Frequencies) → f.sample + 1 < sample_limit f.cache_blocks
    → part (counted f) ≡ part (frequencies f.cache_blocks f.row1 f.row2 f.row3 f.row4 f.doorkeeper (f.sample + 1))
at_more part f h = ap part (sym (counted-more f h))

pub at_full : {A : Type 0} (part : Frequencies → A) (f : Frequencies) → sample_limit f.cache_blocks ≤ f.sample + 1
    → part (counted f) ≡ part (frequencies f.cache_blocks (halved f.row1) (halved f.row2) (halved f.row3) (halved f.row4) (replicate (length f.doorkeeper) false) ((f.sample + 1) / 2))
at_full part f h = ap part (sym (counted-full f _ _ _ _ _ h refl refl refl refl refl))

pub IsRow-1 : IsRow row_constant1 (λ f. f.row1)
unfolding raised admitted least_of counter1
IsRow-1 = record {
  raised_row = λ f block. refl;
  admitted_row = λ f block. refl;
  more_row = at_more (λ f. f.row1);
  full_row = at_full (λ f. f.row1);
  least_row = λ f block. omega arith;
}

pub IsRow-2 : IsRow row_constant2 (λ f. f.row2)
unfolding raised admitted least_of counter2
IsRow-2 = record {
  raised_row = λ f block. refl;
  admitted_row = λ f block. refl;
  more_row = at_more (λ f. f.row2);
  full_row = at_full (λ f. f.row2);
  least_row = λ f block. omega arith;
}

pub IsRow-3 : IsRow row_constant3 (λ f. f.row3)
unfolding raised admitted least_of counter3
IsRow-3 = record {
  raised_row = λ f block. refl;
  admitted_row = λ f block. refl;
  more_row = at_more (λ f. f.row3);
  full_row = at_full (λ f. f.row3);
  least_row = λ f block. omega arith;
}

pub IsRow-4 : IsRow row_constant4 (λ f. f.row4)
unfolding raised admitted least_of counter4
IsRow-4 = record {
  raised_row = λ f block. refl;
  admitted_row = λ f block. refl;
  more_row = at_more (λ f. f.row4);
  full_row = at_full (λ f. f.row4);
  least_row = λ f block. omega arith;
}

-- a row has its places, and its counters say no less than the numbers
pub record RowCovers (constant : ℕ) (row : Frequencies → List ℕ) (f : Frequencies) (e : Exact) : Type 0 where
  pub places : length (row f) ≡ 2 ^ row_bits f.cache_blocks
  pub covers : (block : ℕ) → e.number block ≤ get_or (row f) (row_place constant f.cache_blocks block) 0

pub row_within : (constant : ℕ) (row : Frequencies → List ℕ) (f : Frequencies) (block : ℕ) → length (row f) ≡ 2 ^ row_bits f.cache_blocks → row_place constant f.cache_blocks block < length (row f)
row_within constant row f block e =
    let to : row_bits f.cache_blocks ≤ 64 = omega (arith, row_bits-to f.cache_blocks) in
    rw e (place_of-below constant (row_bits f.cache_blocks) block to)

pub cache_raised : (f : Frequencies) (block : ℕ) → (raised f block).cache_blocks ≡ f.cache_blocks
unfolding raised
cache_raised f block = refl

pub cache_admitted : (f : Frequencies) (block : ℕ) → (admitted f block).cache_blocks ≡ f.cache_blocks
unfolding admitted
cache_admitted f block = refl

pub cache_counted : (f : Frequencies) → (counted f).cache_blocks ≡ f.cache_blocks
cache_counted f =
    elim (cases_lt (f.sample + 1) (sample_limit f.cache_blocks)) [
      | inl l ↦ at_more (λ f. f.cache_blocks) f l
      | inr l ↦ at_full (λ f. f.cache_blocks) f l
    ]

pub cache_accessed : (f : Frequencies) (block : ℕ) → (accessed f block).cache_blocks ≡ f.cache_blocks
cache_accessed f block =
    elim (cases_Bool (is_member f block)) [
      | inl m ↦ rw (← accessed-known f block m) (cache_counted (raised f block) ∙ cache_raised f block)
      | inr m ↦ rw (← accessed-new f block m) (cache_counted (admitted f block) ∙ cache_admitted f block)
    ]

RowCovers-raised : (constant : ℕ) (row : Frequencies → List ℕ) (f : Frequencies) (e : Exact) (block : ℕ) → IsRow constant row
    → e.number block ≤ least_of f block → RowCovers constant row f e → RowCovers constant row (raised f block) (noted e block)
RowCovers-raised constant row f e block r below h =
    let within : row_place constant f.cache_blocks block < length (row f) = row_within constant row f block h.places in
    record {
      places = rw (r.raised_row f block, cache_raised f block) (length-raised_at _ _ _ ∙ h.places);
      covers = λ other.
          rw (r.raised_row f block, cache_raised f block)
          (elim (cases_Bool (e.member block)) [
            | inl m ↦ elim (cases_eq other block) [
              | inl s ↦ rw (s, noted-known e block m) (omega (arith, below, raised_at-rises (least_of f block) (row_place constant f.cache_blocks block) (row f) within (r.least_row f block)))
              | inr n ↦ rw (noted-other e block other n) (omega (arith, h.covers other, raised_at-keeps (least_of f block) (row_place constant f.cache_blocks block) (row f) (row_place constant f.cache_blocks other) within))
            ]
            | inr m ↦ rw (noted-new e block other m) (omega (arith, h.covers other, raised_at-keeps (least_of f block) (row_place constant f.cache_blocks block) (row f) (row_place constant f.cache_blocks other) within))
          ]);
    }

RowCovers-admitted : (constant : ℕ) (row : Frequencies → List ℕ) (f : Frequencies) (e : Exact) (block : ℕ) → IsRow constant row
    → e.member block ≡ false → RowCovers constant row f e → RowCovers constant row (admitted f block) (noted e block)
RowCovers-admitted constant row f e block r new h = record {
  places = rw (r.admitted_row f block, cache_admitted f block) h.places;
  covers = λ other. rw (r.admitted_row f block, cache_admitted f block, noted-new e block other new) (h.covers other);
}

RowCovers-counted : (constant : ℕ) (row : Frequencies → List ℕ) (f : Frequencies) (e : Exact) → IsRow constant row
    → f.sample ≡ e.sample → RowCovers constant row f e → RowCovers constant row (counted f) (counted_exactly f.cache_blocks e)
RowCovers-counted constant row f e r same h =
    elim (cases_lt (f.sample + 1) (sample_limit f.cache_blocks)) [
      | inl l ↦
          let l' : e.sample + 1 < sample_limit f.cache_blocks = rw (← same) l in
          record {
            places = rw (r.more_row f l, cache_counted f) h.places;
            covers = λ other. rw (exact-more f.cache_blocks e l', r.more_row f l, cache_counted f) (h.covers other);
          }
      | inr l ↦
          let l' : sample_limit f.cache_blocks ≤ e.sample + 1 = rw (← same) l in
          record {
            places = rw (r.full_row f l, cache_counted f) (length-halved _ ∙ h.places);
            covers = λ other. rw (exact-full f.cache_blocks e l', r.full_row f l, cache_counted f, get_or-halved) (omega (arith, h.covers other));
          }
    ]

-- both of a block's doorkeeper bits
pub member-parts : (f : Frequencies) (block : ℕ) → is_member f block ≡ true
    → (get_or f.doorkeeper (door_place door_constant1 f.cache_blocks block) false ≡ true) × (get_or f.doorkeeper (door_place door_constant2 f.cache_blocks block) false ≡ true)
unfolding is_member
member-parts f block m = and_parts _ _ m

member-from : (f : Frequencies) (block : ℕ) → get_or f.doorkeeper (door_place door_constant1 f.cache_blocks block) false ≡ true
    → get_or f.doorkeeper (door_place door_constant2 f.cache_blocks block) false ≡ true → is_member f block ≡ true
unfolding is_member
member-from f block a b = rw (a, b) refl

-- the doorkeeper has its places, and knows every member
pub record DoorCovers (f : Frequencies) (e : Exact) : Type 0 where
  pub places : length f.doorkeeper ≡ 2 ^ (row_bits f.cache_blocks + 3)
  pub covers : (block : ℕ) → e.member block ≡ true → is_member f block ≡ true

door_within : (constant : ℕ) (f : Frequencies) (block : ℕ) → length f.doorkeeper ≡ 2 ^ (row_bits f.cache_blocks + 3) → door_place constant f.cache_blocks block < length f.doorkeeper
door_within constant f block e =
    let to : row_bits f.cache_blocks + 3 ≤ 64 = omega (arith, row_bits-to f.cache_blocks) in
    rw e (place_of-below constant (row_bits f.cache_blocks + 3) block to)

raised-member : (f : Frequencies) (block other : ℕ) → is_member (raised f block) other ≡ is_member f other
unfolding raised is_member
raised-member f block other = refl

pub raised-door : (f : Frequencies) (block : ℕ) → (raised f block).doorkeeper ≡ f.doorkeeper
unfolding raised
raised-door f block = refl

pub admitted-door : (f : Frequencies) (block : ℕ) → (admitted f block).doorkeeper ≡ set (set f.doorkeeper (door_place door_constant1 f.cache_blocks block) true) (door_place door_constant2 f.cache_blocks block) true
unfolding admitted
admitted-door f block = refl

DoorCovers-raised : (f : Frequencies) (e : Exact) (block : ℕ) → is_member f block ≡ true → DoorCovers f e → DoorCovers (raised f block) (noted e block)
DoorCovers-raised f e block m h = record {
  places = rw (raised-door f block, cache_raised f block) h.places;
  covers = λ other k.
      rw (raised-member f block other)
      (elim (noted-members e block other k) [
        | inl s ↦ rw s m
        | inr k' ↦ h.covers other k'
      ]);
}

DoorCovers-admitted : (f : Frequencies) (e : Exact) (block : ℕ) → DoorCovers f e → DoorCovers (admitted f block) (noted e block)
DoorCovers-admitted f e block h =
    let d1 : ℕ = door_place door_constant1 f.cache_blocks block in
    let d2 : ℕ = door_place door_constant2 f.cache_blocks block in
    let w1 : d1 < length f.doorkeeper = door_within door_constant1 f block h.places in
    let same : length (set f.doorkeeper d1 true) ≡ length f.doorkeeper = length-set f.doorkeeper d1 true in
    let w2 : d2 < length (set f.doorkeeper d1 true) = rw same (door_within door_constant2 f block h.places) in
    let keeps : (q : ℕ) → get_or f.doorkeeper q false ≡ true → get_or (set (set f.doorkeeper d1 true) d2 true) q false ≡ true = λ q k. set-keeps (set f.doorkeeper d1 true) d2 q w2 (set-keeps f.doorkeeper d1 q w1 k) in
    record {
      places = rw (admitted-door f block, cache_admitted f block) (length-set _ _ _ ∙ same ∙ h.places);
      covers = λ other k.
          elim (noted-members e block other k) [
            | inl s ↦ rw s (member-from (admitted f block) block
                (rw (admitted-door f block, cache_admitted f block) (set-keeps (set f.doorkeeper d1 true) d2 d1 w2 (set-at f.doorkeeper d1 w1)))
                (rw (admitted-door f block, cache_admitted f block) (set-at (set f.doorkeeper d1 true) d2 w2)))
            | inr k' ↦
                let parts = member-parts f other (h.covers other k') in
                member-from (admitted f block) other
                (rw (admitted-door f block, cache_admitted f block) (keeps _ parts.0))
                (rw (admitted-door f block, cache_admitted f block) (keeps _ parts.1))
          ];
    }

more-member : (f : Frequencies) (n block : ℕ) → is_member (frequencies f.cache_blocks f.row1 f.row2 f.row3 f.row4 f.doorkeeper n) block ≡ is_member f block
unfolding is_member
more-member f n block = refl

DoorCovers-counted : (f : Frequencies) (e : Exact) → f.sample ≡ e.sample → DoorCovers f e → DoorCovers (counted f) (counted_exactly f.cache_blocks e)
DoorCovers-counted f e same h =
    elim (cases_lt (f.sample + 1) (sample_limit f.cache_blocks)) [
      | inl l ↦
          let l' : e.sample + 1 < sample_limit f.cache_blocks = rw (← same) l in
          record {
            places = rw (cache_counted f) (ap length (at_more (λ f. f.doorkeeper) f l) ∙ h.places);
            covers = λ other k. at_more (λ g. is_member g other) f l ∙ more-member f (f.sample + 1) other ∙ h.covers other (rw (exact-more f.cache_blocks e l') at k);
          }
      | inr l ↦
          let l' : sample_limit f.cache_blocks ≤ e.sample + 1 = rw (← same) l in
          record {
            places = rw (cache_counted f) (ap length (at_full (λ f. f.doorkeeper) f l) ∙ length-replicate _ _ ∙ h.places);
            covers = λ other k. let k' = rw (exact-full f.cache_blocks e l') at k in (cc);
          }
    ]

-- A sketch that says no less than the exact frequencies.
pub record Covers (f : Frequencies) (e : Exact) : Type 0 where
  pub row1 : RowCovers row_constant1 (λ f. f.row1) f e
  pub row2 : RowCovers row_constant2 (λ f. f.row2) f e
  pub row3 : RowCovers row_constant3 (λ f. f.row3) f e
  pub row4 : RowCovers row_constant4 (λ f. f.row4) f e
  pub door : DoorCovers f e
  pub sample : f.sample ≡ e.sample

pub least-covers : (f : Frequencies) (e : Exact) (block : ℕ) → Covers f e → e.number block ≤ least_of f block
unfolding least_of counter1 counter2 counter3 counter4
least-covers f e block h = omega (arith, h.row1.covers block, h.row2.covers block, h.row3.covers block, h.row4.covers block)

pub sample_raised : (f : Frequencies) (block : ℕ) → (raised f block).sample ≡ f.sample
unfolding raised
sample_raised f block = refl

pub sample_admitted : (f : Frequencies) (block : ℕ) → (admitted f block).sample ≡ f.sample
unfolding admitted
sample_admitted f block = refl

pub sample_counted : (f : Frequencies) (e : Exact) → f.sample ≡ e.sample → (counted f).sample ≡ (counted_exactly f.cache_blocks e).sample
sample_counted f e same =
    elim (cases_lt (f.sample + 1) (sample_limit f.cache_blocks)) [
      | inl l ↦
          let l' : e.sample + 1 < sample_limit f.cache_blocks = rw (← same) l in
          rw (exact-more f.cache_blocks e l') (at_more (λ f. f.sample) f l ∙ ap (λ n. n + 1) same)
      | inr l ↦
          let l' : sample_limit f.cache_blocks ≤ e.sample + 1 = rw (← same) l in
          rw (exact-full f.cache_blocks e l') (at_full (λ f. f.sample) f l ∙ ap (λ n. (n + 1) / 2) same)
    ]

Covers-raised : (f : Frequencies) (e : Exact) (block : ℕ) → is_member f block ≡ true → Covers f e → Covers (raised f block) (noted e block)
Covers-raised f e block m h =
    let below = least-covers f e block h in
    record {
      row1 = RowCovers-raised _ _ f e block IsRow-1 below h.row1;
      row2 = RowCovers-raised _ _ f e block IsRow-2 below h.row2;
      row3 = RowCovers-raised _ _ f e block IsRow-3 below h.row3;
      row4 = RowCovers-raised _ _ f e block IsRow-4 below h.row4;
      door = DoorCovers-raised f e block m h.door;
      sample = sample_raised f block ∙ h.sample ∙ sym (noted-sample e block);
    }

Covers-admitted : (f : Frequencies) (e : Exact) (block : ℕ) → is_member f block ≡ false → Covers f e → Covers (admitted f block) (noted e block)
Covers-admitted f e block m h =
    let new : e.member block ≡ false = elim (cases_Bool (e.member block)) [ inl k ↦ absurd (both_ways _ m (h.door.covers block k)) | inr k ↦ k ] in
    record {
      row1 = RowCovers-admitted _ _ f e block IsRow-1 new h.row1;
      row2 = RowCovers-admitted _ _ f e block IsRow-2 new h.row2;
      row3 = RowCovers-admitted _ _ f e block IsRow-3 new h.row3;
      row4 = RowCovers-admitted _ _ f e block IsRow-4 new h.row4;
      door = DoorCovers-admitted f e block h.door;
      sample = sample_admitted f block ∙ h.sample ∙ sym (noted-sample e block);
    }

Covers-counted : (f : Frequencies) (e : Exact) → Covers f e → Covers (counted f) (counted_exactly f.cache_blocks e)
Covers-counted f e h = record {
  row1 = RowCovers-counted _ _ f e IsRow-1 h.sample h.row1;
  row2 = RowCovers-counted _ _ f e IsRow-2 h.sample h.row2;
  row3 = RowCovers-counted _ _ f e IsRow-3 h.sample h.row3;
  row4 = RowCovers-counted _ _ f e IsRow-4 h.sample h.row4;
  door = DoorCovers-counted f e h.sample h.door;
  sample = sample_counted f e h.sample;
}

pub Covers-accessed : (f : Frequencies) (e : Exact) (block cache_blocks : ℕ) → f.cache_blocks ≡ cache_blocks → Covers f e → Covers (accessed f block) (counted_exactly cache_blocks (noted e block))
Covers-accessed f e block cache_blocks same h =
    elim (cases_Bool (is_member f block)) [
      | inl m ↦
          let all : Covers (counted (raised f block)) (counted_exactly (raised f block).cache_blocks (noted e block)) = Covers-counted (raised f block) (noted e block) (Covers-raised f e block m h) in
          subst (λ g. Covers g (counted_exactly cache_blocks (noted e block))) (accessed-known f block m)
          (subst (λ n. Covers (counted (raised f block)) (counted_exactly n (noted e block))) (cache_raised f block ∙ same) all)
      | inr m ↦
          let all : Covers (counted (admitted f block)) (counted_exactly (admitted f block).cache_blocks (noted e block)) = Covers-counted (admitted f block) (noted e block) (Covers-admitted f e block m h) in
          subst (λ g. Covers g (counted_exactly cache_blocks (noted e block))) (accessed-new f block m)
          (subst (λ n. Covers (counted (admitted f block)) (counted_exactly n (noted e block))) (cache_admitted f block ∙ same) all)
    ]

Covers-after : (blocks : List ℕ) (f : Frequencies) (e : Exact) (cache_blocks : ℕ) → f.cache_blocks ≡ cache_blocks → Covers f e → Covers (after f blocks) (after_exactly cache_blocks e blocks)
unfolding after after_exactly
Covers-after [] f e cache_blocks same h = h
Covers-after (block ∷ blocks) f e cache_blocks same h =
    Covers-after blocks (accessed f block) (counted_exactly cache_blocks (noted e block)) cache_blocks
    (cache_accessed f block ∙ same) (Covers-accessed f e block cache_blocks same h)

Covers-empty : (cache_blocks : ℕ) → Covers (empty cache_blocks) none
unfolding empty none
Covers-empty cache_blocks =
    let none_less : (n : ℕ) → 0 ≤ n = λ n. omega arith in
    record {
      row1 = record { places = length-replicate _ _; covers = λ block. none_less _ };
      row2 = record { places = length-replicate _ _; covers = λ block. none_less _ };
      row3 = record { places = length-replicate _ _; covers = λ block. none_less _ };
      row4 = record { places = length-replicate _ _; covers = λ block. none_less _ };
      door = record { places = length-replicate _ _; covers = λ block k. (cc) };
      sample = refl;
    }

pub empty-cache : (cache_blocks : ℕ) → (empty cache_blocks).cache_blocks ≡ cache_blocks
unfolding empty
empty-cache cache_blocks = refl

pub Covers-accesses : (cache_blocks : ℕ) (blocks : List ℕ) → Covers (after_accesses cache_blocks blocks) (after_exactly cache_blocks none blocks)
unfolding after_accesses
Covers-accesses cache_blocks blocks = Covers-after blocks (empty cache_blocks) none cache_blocks (empty-cache cache_blocks) (Covers-empty cache_blocks)

frequency-covers : (f : Frequencies) (e : Exact) (block : ℕ) → Covers f e → frequency_in e block ≤ estimate_of f block
unfolding frequency_in
frequency-covers f e block h =
    let below : e.number block ≤ least_of f block = least-covers f e block h in
    elim (cases_Bool (e.member block)) [
      | inl k ↦ rw (k, estimate-known f block (h.door.covers block k)) (omega arith)
      | inr k ↦ rw k (elim (cases_Bool (is_member f block)) [
        | inl m ↦ rw (estimate-known f block m) (omega arith)
        | inr m ↦ rw (estimate-new f block m) (omega arith)
      ])
    ]

pub estimate-covers : (cache_blocks : ℕ) (blocks : List ℕ) (block : ℕ) → exact_frequency cache_blocks blocks block ≤ estimate_of (after_accesses cache_blocks blocks) block
unfolding exact_frequency
estimate-covers cache_blocks blocks block = frequency-covers _ _ block (Covers-accesses cache_blocks blocks)
