-- Every root has a spelling, and a sector spells a root or none.
use Rattle.std.proofs.Common.{◌≡◌, ◌∙◌, ◌≤◌, ◌<◌, ◌+◌, ◌-◌, ◌*◌, ◌%◌, ◌^◌, ◌++◌, ◌⊎◌, inl, inr, ℕ, zero, suc, Bool, true, false, cond, List, [], ◌∷◌, Option, Some, None, refl, sym, ap, subst, arith, length, replicate, slice_index}
use Rattle.std.specs.Prelude.{slice_range, All}
use Rattle.std.proofs.lemmas.Bool.{cases_eq, cases_lt, false≢true}
use Rattle.std.proofs.lemmas.List.{get_or-append_right}
use Rattle.std.proofs.lemmas.List.Elements.{All-cons, All-nil, All-from_recursion, recursion_from_All}
use Rattle.std.specs.Int.{bytes_low_first}
use Rattle.wb_types.specs.Limits.{IsWithinLimits, HasRoom, dirty_nodes, node_count}
use Rattle.wb_types.specs.declared.geometry.Geometry.{Geometry}
use Rattle.wb_types.specs.declared.number.Place.{Place}
use Rattle.wb_format.specs.Bytes.{IsSector, number_at}
use Rattle.wb_format.specs.Sizes.{IsTop, MayNameDirty, SpellsGeometry, top_number}
use Rattle.wb_types.specs.Versions.{version_number}
use Rattle.wb_format.specs.Letters.{root_magic}
use Rattle.wb_format.specs.Layout.{SpellsRoot}
use Rattle.wb_format.specs.declared.root.Root.{Root}
use Rattle.wb_types.specs.declared.version.Version.{Version}
use Rattle.wb_types.specs.declared.version.Version.TheVariants.{One, Two}
use Rattle.wb_types.proofs.Versions.{one_version}
use Rattle.wb_format.proofs.Values.{one_flag}
use Rattle.wb_format.proofs.Numbers.{number_at-written, zero-from_bytes, zeros_all, little_bytes-below}

-- ---- a root is spelled

-- bytes behind bytes are bytes
pub below_append : (xs ys : List ℕ) → ((k : ℕ) → slice_index xs k < 256) → ((k : ℕ) → slice_index ys k < 256) → (k : ℕ) → slice_index (xs ++ ys) k < 256
below_append [] ys f g k = g k
below_append (x ∷ xs) ys f g zero = f 0
below_append (x ∷ xs) ys f g (suc k) = below_append xs ys (λ j. f (suc j)) g k

small_top : (sectors : ℕ) (top : Option Place) → IsTop sectors top → sectors ≤ 4294967295 → top_number top < 256 ^ 4
small_top sectors None i l = omega arith
small_top sectors (Some p) i l = let b = i p refl in omega (arith, b.1, l)

-- a number's eight bytes, and its four
abbrev pub eight : ℕ → List ℕ
eight n = bytes_low_first 0 8 n

abbrev pub four : ℕ → List ℕ
four n = bytes_low_first 0 4 n

abbrev zeros : List ℕ
zeros = replicate 464 0

abbrev from_dirty : Root → List ℕ
from_dirty r = four (top_number r.top_dirty) ++ zeros

abbrev from_top : Root → List ℕ
from_top r = four (top_number r.top) ++ from_dirty r

abbrev from_meta : Root → List ℕ
from_meta r = four r.geometry.meta_sectors ++ from_top r

abbrev from_origin : Root → List ℕ
from_origin r = four r.geometry.origin_blocks ++ from_meta r

abbrev from_cache : Root → List ℕ
from_cache r = four r.geometry.cache_blocks ++ from_origin r

abbrev from_block : Root → List ℕ
from_block r = four r.geometry.block ++ from_cache r

abbrev from_flags : Root → List ℕ
from_flags r = four (cond r.clean 1 0) ++ from_block r

abbrev from_version : Root → List ℕ
from_version r = four (version_number r.version) ++ from_flags r

abbrev from_generation : Root → List ℕ
from_generation r = eight r.generation ++ from_version r

abbrev pub spelling : Root → List ℕ
spelling r = eight root_magic ++ from_generation r

pub spelled_root : (r : Root) → r.generation < 2 ^ 64 → SpellsRoot (spelling r) r
spelled_root r fits = record {
  bytes = record {
    size = refl;
    bytes = below_append (eight root_magic) (from_generation r) (little_bytes-below 0 8 root_magic) (below_append (eight r.generation) (from_version r) (little_bytes-below 0 8 r.generation)
        (below_append (four (version_number r.version)) (from_flags r) (little_bytes-below 0 4 (version_number r.version)) (below_append (four (cond r.clean 1 0)) (from_block r) (little_bytes-below 0 4 (cond r.clean 1 0))
        (below_append (four g.block) (from_cache r) (little_bytes-below 0 4 g.block) (below_append (four g.cache_blocks) (from_origin r) (little_bytes-below 0 4 g.cache_blocks)
        (below_append (four g.origin_blocks) (from_meta r) (little_bytes-below 0 4 g.origin_blocks) (below_append (four g.meta_sectors) (from_top r) (little_bytes-below 0 4 g.meta_sectors)
        (below_append (four (top_number r.top)) (from_dirty r) (little_bytes-below 0 4 (top_number r.top))
        (below_append (four (top_number r.top_dirty)) (zeros) (little_bytes-below 0 4 (top_number r.top_dirty)) (λ k. let z = zeros_all 464 k in omega (arith, z)))))))))));
  };
  magic = number_at-written [] (from_generation r) 0 8 root_magic refl (omega arith);
  generation = number_at-written (eight root_magic) (from_version r) 8 8 r.generation refl (omega (arith, fits));
  version = version;
  flags = number_at-written (f16 ++ four (version_number r.version)) (from_block r) 20 4 (cond r.clean 1 0) refl (small_flag r.clean);
  geometry = record {
    block = number_at-written f24 (from_cache r) 24 4 g.block refl (omega (arith, g.within.block_to));
    cache_blocks = number_at-written (f24 ++ four g.block) (from_origin r) 28 4 g.cache_blocks refl (omega (arith, g.within.cache_to));
    origin_blocks = number_at-written (f24 ++ (four g.block ++ four g.cache_blocks)) (from_meta r) 32 4 g.origin_blocks refl (omega (arith, g.within.origin_to));
    meta_sectors = number_at-written (f24 ++ (four g.block ++ (four g.cache_blocks ++ four g.origin_blocks))) (from_top r) 36 4 g.meta_sectors refl (omega (arith, g.within.meta_to));
    version = version ∙ r.same_version;
  };
  top = number_at-written (f24 ++ (four g.block ++ (four g.cache_blocks ++ (four g.origin_blocks ++ four g.meta_sectors)))) (from_dirty r) 40 4 (top_number r.top) refl (small_top g.meta_sectors r.top r.top_inside g.within.meta_to);
  top_dirty = number_at-written f44 (zeros) 44 4 (top_number r.top_dirty) refl (small_top g.meta_sectors r.top_dirty r.dirty_inside g.within.meta_to);
  rest = zero-from_bytes (spelling r) 48 512 (λ k from to. get_or-append_right f48 zeros 48 k 0 refl from ∙ zeros_all 464 (k - 48));
}
  where
    g : Geometry
    g = r.geometry

    f16 : List ℕ
    f16 = eight root_magic ++ eight r.generation

    f24 : List ℕ
    f24 = f16 ++ (four (version_number r.version) ++ four (cond r.clean 1 0))

    f44 : List ℕ
    f44 = f24 ++ (four g.block ++ (four g.cache_blocks ++ (four g.origin_blocks ++ (four g.meta_sectors ++ four (top_number r.top)))))

    f48 : List ℕ
    f48 = f24 ++ (four g.block ++ (four g.cache_blocks ++ (four g.origin_blocks ++ (four g.meta_sectors ++ (four (top_number r.top) ++ four (top_number r.top_dirty))))))

    small_version : (v : Version) → version_number v < 256 ^ 4
    small_version One = omega arith
    small_version Two = omega arith

    version : number_at (spelling r) 16 4 ≡ version_number r.version
    version = number_at-written f16 (from_flags r) 16 4 (version_number r.version) refl (small_version r.version)

    small_flag : (b : Bool) → ◌<◌ (cond b 1 0) (256 ^ 4)
    small_flag true = omega arith
    small_flag false = omega arith

-- ---- a sector spells a root or none

-- this holds or it does not
abbrev pub Decided : Type 0 → Type 0
Decided X = X ⊎ (¬ X)

bytes_small : (s : List ℕ) → Decided ((at : ℕ) → slice_index s at < 256)
bytes_small [] = inl (λ at. omega arith)
bytes_small (x ∷ xs) = elim (cases_lt x 256) [
  | inl small ↦ elim (bytes_small xs) [
    | inl all ↦ inl (both small all)
    | inr none ↦ inr (λ f. none (λ at. f (suc at)))
  ]
  | inr big ↦ inr (λ f. let b = f 0 in omega (arith, b, big))
]
  where
    both : x < 256 → ((at : ℕ) → slice_index xs at < 256) → (at : ℕ) → slice_index (x ∷ xs) at < 256
    both small all zero = small
    both small all (suc at) = all at

is_sector : (s : List ℕ) → Decided (IsSector s)
is_sector s = elim (cases_eq (length s) 512) [
  | inl size ↦ elim (bytes_small s) [
    | inl small ↦ inl (record { size = size; bytes = small })
    | inr big ↦ inr (λ i. big i.bytes)
  ]
  | inr other ↦ inr (λ i. other i.size)
]

all_zero : (s : List ℕ) → Decided (All (λ (byte : ℕ). byte ≡ 0) s)
all_zero [] = inl (All-nil (λ (byte : ℕ). byte ≡ 0))
all_zero (x ∷ xs) = elim (cases_eq x 0) [
  | inl here ↦ elim (all_zero xs) [
    | inl rest ↦ inl (All-cons (λ (byte : ℕ). byte ≡ 0) x xs here rest)
    | inr none ↦ inr (λ a. none (rest_of a))
  ]
  | inr other ↦ inr (λ a. other (recursion_from_All (λ (byte : ℕ). byte ≡ 0) (x ∷ xs) a).0)
]
  where
    rest_of : All (λ (byte : ℕ). byte ≡ 0) (x ∷ xs) → All (λ (byte : ℕ). byte ≡ 0) xs
    rest_of a = All-from_recursion (λ (byte : ℕ). byte ≡ 0) xs (recursion_from_All (λ (byte : ℕ). byte ≡ 0) (x ∷ xs) a).1

pub at_most : (a b : ℕ) → Decided (a ≤ b)
at_most a b = elim (cases_lt b a) [
  | inl more ↦ inr (λ l. omega (arith, l, more))
  | inr few ↦ inl few
]

pub two_of : {X Y : Type 0} → Decided X → Decided Y → Decided (X × Y)
two_of (inl x) (inl y) = inl (x, y)
two_of (inl x) (inr n) = inr (λ p. n p.1)
two_of (inr n) y = inr (λ p. n p.0)

within_limits : (b c o m : ℕ) → Decided (IsWithinLimits b c o m)
within_limits b c o m = elim (two_of (two_of (two_of (at_most 64 b) (at_most b 2097152)) (cases_eq (b % 64) 0)) (two_of (two_of (two_of (at_most 1 c) (at_most c 1048575)) (two_of (at_most 1 o) (at_most o 1048576))) (two_of (at_most (2 + 2 * node_count c) m) (at_most m 4294967295)))) [
  | inl d ↦ inl (record { block_from = d.0.0.0; block_to = d.0.0.1; block_step = d.0.1; cache_from = d.1.0.0.0; cache_to = d.1.0.0.1; origin_from = d.1.0.1.0; origin_to = d.1.0.1.1; meta_from = d.1.1.0; meta_to = d.1.1.1 })
  | inr n ↦ inr (λ i. n (((i.block_from, i.block_to), i.block_step), (((i.cache_from, i.cache_to), (i.origin_from, i.origin_to)), (i.meta_from, i.meta_to))))
]

-- the place that a number of a top node names
top_in : (m n : ℕ) → Decided ((top : Option Place) × IsTop m top × (n ≡ top_number top))
top_in m zero = inl (None, (λ p e. absurd (cc)), refl)
top_in m (suc n) = elim (two_of (at_most 2 (suc n)) (at_most (suc (suc n)) m)) [
  | inl d ↦ inl (Some (record { 0 = suc n }), (λ p e. let same : record { 0 = suc n } ≡ p = cc in subst (λ (q : Place). (2 ≤ q.0) × (q.0 < m)) same (d.0, omega (arith, d.1))), refl)
  | inr out ↦ inr (λ x. out (bound x.0 x.1 x.2))
]
  where
    bound : (top : Option Place) → IsTop m top → suc n ≡ top_number top → (2 ≤ suc n) × (suc (suc n) ≤ m)
    bound None i e = absurd (omega (arith, e))
    bound (Some p) i e = let b = i p refl in (omega (arith, b.0, e), omega (arith, b.1, e))

flag_in : (n : ℕ) → Decided ((clean : Bool) × (◌≡◌ {A = ℕ} n (cond clean 1 0)))
flag_in zero = inl (false, refl)
flag_in (suc zero) = inl (true, refl)
flag_in (suc (suc n)) = inr (λ x. bad x.0 x.1)
  where
    bad : (b : Bool) → ◌≡◌ {A = ℕ} (suc (suc n)) (cond b 1 0) → ⊥
    bad true e = omega (arith, e)
    bad false e = omega (arith, e)

-- a version's room
room_of : (v : Version) (c m : ℕ) → Decided (HasRoom v c m)
room_of One c m = at_most (2 + 2 * node_count c + dirty_nodes One c) m
room_of Two c m = at_most (2 + 2 * node_count c + dirty_nodes Two c) m

is_true : (b : Bool) → Decided (b ≡ true)
is_true true = inl refl
is_true false = inr (λ e. false≢true e)

-- a root of this version with this flag may name this top of dirty bits
may_name : (v : Version) (clean : Bool) (top : Option Place) → Decided (MayNameDirty v clean top)
may_name v clean None = inl (λ p e. absurd cc)
may_name v clean (Some place) = elim (two_of (cases_eq (version_number v) 2) (is_true clean)) [
  | inl d ↦ inl (λ p e. d)
  | inr n ↦ inr (λ f. n (f place refl))
]

-- the number of a top says which it is
same_top : (a b : Option Place) (m : ℕ) → IsTop m a → IsTop m b → ◌≡◌ {A = ℕ} (top_number a) (top_number b) → a ≡ b
same_top None None m i k e = refl
same_top None (Some p) m i k e = absurd (let low = (k p refl).0 in omega (arith, e, low))
same_top (Some p) None m i k e = absurd (let low = (i p refl).0 in omega (arith, e, low))
same_top (Some p) (Some q) m i k e = ap (λ (n : ℕ). Some (record { 0 = n })) e

-- What the numbers of a sector say of a root of a version: the flag, the sizes and the two tops, and what a root of them keeps to.
record HasFields (v : Version) (s : List ℕ) : Type 0 where
  clean : Bool
  top : Option Place
  top_dirty : Option Place
  bytes : IsSector s
  magic : number_at s 0 8 ≡ root_magic
  version : number_at s 16 4 ≡ version_number v
  rest : All (λ (byte : ℕ). byte ≡ 0) (slice_range s 48 512)
  flag : number_at s 20 4 ≡ cond clean 1 0
  within : IsWithinLimits (number_at s 24 4) (number_at s 28 4) (number_at s 32 4) (number_at s 36 4)
  room : HasRoom v (number_at s 28 4) (number_at s 36 4)
  top_inside : IsTop (number_at s 36 4) top
  top_is : number_at s 40 4 ≡ top_number top
  dirty_inside : IsTop (number_at s 36 4) top_dirty
  dirty_is : number_at s 44 4 ≡ top_number top_dirty
  may : MayNameDirty v clean top_dirty

fields_in : (v : Version) (s : List ℕ) → Decided (HasFields v s)
fields_in v s = elim (two_of (two_of (two_of (is_sector s) (cases_eq (number_at s 0 8) root_magic)) (two_of (cases_eq (number_at s 16 4) (version_number v)) (all_zero (slice_range s 48 512))))
    (two_of (two_of (flag_in (number_at s 20 4)) (within_limits (number_at s 24 4) (number_at s 28 4) (number_at s 32 4) (number_at s 36 4)))
    (two_of (room_of v (number_at s 28 4) (number_at s 36 4)) (two_of (top_in (number_at s 36 4) (number_at s 40 4)) (top_in (number_at s 36 4) (number_at s 44 4)))))) [
      | inl d ↦ elim (may_name v d.1.0.0.0 d.1.1.1.1.0) [
        | inl may ↦ inl (record {
          clean = d.1.0.0.0;
          top = d.1.1.1.0.0;
          top_dirty = d.1.1.1.1.0;
          bytes = d.0.0.0;
          magic = d.0.0.1;
          version = d.0.1.0;
          rest = d.0.1.1;
          flag = d.1.0.0.1;
          within = d.1.0.1;
          room = d.1.1.0;
          top_inside = d.1.1.1.0.1;
          top_is = d.1.1.1.0.2;
          dirty_inside = d.1.1.1.1.1;
          dirty_is = d.1.1.1.1.2;
          may = may;
        })
        | inr none ↦ inr (λ h. none (subst (λ (c : Bool). MayNameDirty v c d.1.1.1.1.0) (one_flag h.clean d.1.0.0.0 (sym h.flag ∙ d.1.0.0.1))
            (subst (λ (t : Option Place). MayNameDirty v h.clean t) (same_top h.top_dirty d.1.1.1.1.0 (number_at s 36 4) h.dirty_inside d.1.1.1.1.1 (sym h.dirty_is ∙ d.1.1.1.1.2)) h.may)))
      ]
      | inr none ↦ inr (λ h. none (((h.bytes, h.magic), (h.version, h.rest)), (((h.clean, h.flag), h.within), (h.room, ((h.top, h.top_inside, h.top_is), (h.top_dirty, h.dirty_inside, h.dirty_is))))))
    ]

-- the sizes and the root that such numbers tell
abbrev geometry_of : (v : Version) (s : List ℕ) → HasFields v s → Geometry
geometry_of v s h = record { block = number_at s 24 4; cache_blocks = number_at s 28 4; origin_blocks = number_at s 32 4; meta_sectors = number_at s 36 4; version = v; within = h.within; room = h.room }

abbrev root_of : (v : Version) (s : List ℕ) → HasFields v s → Root
root_of v s h =
    let sizes = geometry_of v s h in
    record { generation = number_at s 8 8; version = v; clean = h.clean; geometry = sizes; top = h.top; top_dirty = h.top_dirty; same_version = refl; top_inside = h.top_inside; dirty_inside = h.dirty_inside; dirty_clean = h.may }

-- a sector with such numbers spells a root of this version, and what spells one has them
root_with : (v : Version) (s : List ℕ) → HasFields v s → (r : Root) × SpellsRoot s r
root_with v s h = (
  root_of v s h,
  let sizes : SpellsGeometry s (geometry_of v s h) = record { block = refl; cache_blocks = refl; origin_blocks = refl; meta_sectors = refl; version = h.version } in
      record { bytes = h.bytes; magic = h.magic; generation = refl; version = h.version; flags = h.flag; geometry = sizes; top = h.top_is; top_dirty = h.dirty_is; rest = h.rest },
)

has_fields : (s : List ℕ) (r : Root) → SpellsRoot s r → HasFields r.version s
has_fields s r p =
    let g = p.geometry in
    let within : IsWithinLimits (number_at s 24 4) (number_at s 28 4) (number_at s 32 4) (number_at s 36 4) = rw (g.block, g.cache_blocks, g.origin_blocks, g.meta_sectors) r.geometry.within in
    let of_version = subst (λ (v : Version). HasRoom v r.geometry.cache_blocks r.geometry.meta_sectors) (sym (one_version r.version r.geometry.version r.same_version)) r.geometry.room in
    let room : HasRoom r.version (number_at s 28 4) (number_at s 36 4) = rw (g.cache_blocks, g.meta_sectors) of_version in
    let inside = subst (λ (m : ℕ). IsTop m r.top) (sym g.meta_sectors) r.top_inside in
    let dirty_inside = subst (λ (m : ℕ). IsTop m r.top_dirty) (sym g.meta_sectors) r.dirty_inside in
    record { clean = r.clean; top = r.top; top_dirty = r.top_dirty; bytes = p.bytes; magic = p.magic; version = p.version; rest = p.rest; flag = p.flags; within = within; room = room; top_inside = inside; top_is = p.top; dirty_inside = dirty_inside; dirty_is = p.top_dirty; may = r.dirty_clean }

-- a sector spells a root or none
pub root_or_none : (s : List ℕ) → ((r : Root) × SpellsRoot s r) ⊎ ((r : Root) → ¬ SpellsRoot s r)
root_or_none s = elim (fields_in One s) [
  | inl first ↦ inl (root_with One s first)
  | inr no_first ↦ elim (fields_in Two s) [
    | inl second ↦ inl (root_with Two s second)
    | inr no_second ↦ inr (λ r p. neither r.version no_first no_second (has_fields s r p))
  ]
]
  where
    neither : (v : Version) → (¬ HasFields One s) → (¬ HasFields Two s) → HasFields v s → ⊥
    neither One a b h = a h
    neither Two a b h = b h
