-- Numbers in the bytes of a sector: which bytes one depends on, and which it fixes.
use Rattle.std.proofs.Common.{◌≡◌, ◌≤◌, ◌<◌, ◌+◌, ◌-◌, ◌/◌, ◌^◌, ◌++◌, ℕ, zero, suc, List, length, get_or, drop, take, slice_index, replicate, append_assoc, refl, sym, ap, ◌∙◌, inl, inr, arith, length-append}
use Rattle.std.proofs.lemmas.Bool.{cases_lt}
use Rattle.std.proofs.lemmas.List.{drop_at, get_or-drop, get_or-take, get_or_append_left, get_or-append_right, get_or_past, length-take, length-drop, ext_get_or}
use Rattle.std.proofs.lemmas.List.Elements.{All-from_get_or, All-get_or}
use Rattle.std.specs.Prelude.{slice_range}
use borrow.Rule.Slice.PartMut.{put_mid, mid_of, post_of, same_len_mid}
use Rattle.byteorder.specs.Endian.{little_from, little_bytes}
use Rattle.byteorder.specs.Numbers.{little_number-reads_back}
use Rattle.std.specs.Int.{byte_at, bytes_low_first}
use Rattle.std.proofs.Math.Nat.{mod-lt}
use Rattle.wb_format.specs.Bytes.{IsSector, number_at, SameBytes, IsZero}

-- a number depends on its own bytes alone
little_from-same : (i w : ℕ) (s t : List ℕ) → ((k : ℕ) → i ≤ k → k < i + w → slice_index s k ≡ slice_index t k) → little_from i w s ≡ little_from i w t
little_from-same i zero s t h = refl
little_from-same i (suc w) s t h =
    let here = h i (omega arith) (omega arith) in
    let rest = little_from-same (suc i) w s t (λ k from to. h k (omega arith) (omega arith)) in
    rw (here, rest) refl

-- a number fixes its own bytes
little_from-fixes : (i w : ℕ) (s t : List ℕ) → ((k : ℕ) → slice_index s k < 256) → ((k : ℕ) → slice_index t k < 256) → little_from i w s ≡ little_from i w t → (k : ℕ) → i ≤ k → k < i + w → slice_index s k ≡ slice_index t k
little_from-fixes i zero s t hs ht e k from to = absurd (omega arith)
little_from-fixes i (suc w) s t hs ht e k from to =
    let a = hs i in
    let b = ht i in
    let here : slice_index s i ≡ slice_index t i = omega arith in
    let rest : little_from (suc i) w s ≡ little_from (suc i) w t = omega arith in
    elim (cases_lt i k) [
      | inl more ↦ little_from-fixes (suc i) w s t hs ht rest k (omega arith) (omega arith)
      | inr same ↦ let eq : k ≡ i = omega arith in rw eq here
    ]

pub number_at-same : (s t : List ℕ) (offset width : ℕ) → SameBytes s t offset (offset + width) → number_at s offset width ≡ number_at t offset width
unfolding number_at
number_at-same s t offset width h =
    little_from-same 0 width (drop offset s) (drop offset t) (λ k from to. rw (get_or-drop offset s k 0, get_or-drop offset t k 0) (h (offset + k) (omega arith) (omega arith)))

get_or_at : (s : List ℕ) (k offset : ℕ) → offset + (k - offset) ≡ k → get_or (drop offset s) (k - offset) 0 ≡ get_or s k 0
get_or_at s k offset there = get_or-drop offset s (k - offset) 0 ∙ ap (λ i. get_or s i 0) there

pub number_at-fixes : (s t : List ℕ) (offset width : ℕ) → IsSector s → IsSector t → number_at s offset width ≡ number_at t offset width → SameBytes s t offset (offset + width)
unfolding number_at
number_at-fixes s t offset width hs ht e k from to =
    let there : offset + (k - offset) ≡ k = omega arith in
    let same : get_or (drop offset s) (k - offset) 0 ≡ get_or (drop offset t) (k - offset) 0 =
    little_from-fixes 0 width (drop offset s) (drop offset t) (λ i. rw (get_or-drop offset s i 0) (hs.bytes (offset + i))) (λ i. rw (get_or-drop offset t i 0) (ht.bytes (offset + i))) e (k - offset) (omega arith) (omega arith) in
    rw (sym (get_or_at s k offset there), sym (get_or_at t k offset there)) same

-- what was written is read
pub number_at-written : (front rest : List ℕ) (offset width number : ℕ) → length front ≡ offset → number < 256 ^ width → number_at (front ++ (little_bytes width number ++ rest)) offset width ≡ number
unfolding number_at
number_at-written front rest offset width number len fits =
    rw (drop_at front (little_bytes width number ++ rest) offset len) (little_number-reads_back width number rest fits)

-- ---- ranges of bytes

-- what two pairs of sectors share, the outer two share
pub same-join : (a b c : List ℕ) (f t g u from to : ℕ) → SameBytes a b f t → SameBytes b c g u → f ≤ from → g ≤ from → to ≤ t → to ≤ u → SameBytes a c from to
same-join a b c f t g u from to p q l1 l2 l3 l4 k low high = p k (omega arith) (omega arith) ∙ q k (omega arith) (omega arith)

-- the bytes before, and those after, a point that two pairs of sectors share, the outer two share
pub same-before : (a b c : List ℕ) (t u : ℕ) → SameBytes a b 0 t → SameBytes b c 0 u → u ≤ t → SameBytes a c 0 u
same-before a b c t u p q l k low high = p k low (omega arith) ∙ q k low high

pub same-after : (a b c : List ℕ) (f g : ℕ) → SameBytes a b f 512 → SameBytes b c g 512 → g ≤ f → SameBytes a c f 512
same-after a b c f g p q l k low high = p k low high ∙ q k (omega arith) high

-- the same bytes before one offset, and from another on
pub record SameAround (one other : List ℕ) (from to : ℕ) : Type 0 where
  pub before : SameBytes one other 0 from
  pub after : SameBytes one other to 512

-- one write more, in front of the others
pub same-around : (a b c : List ℕ) (from to f g : ℕ) → SameAround a b from to → SameBytes b c 0 f → SameBytes b c g 512 → f ≤ from → g ≤ to → SameAround a c f to
same-around a b c from to f g around before after low high = record {
  before = same-before a b c from f around.before before low;
  after = same-after a b c to g around.after after high;
}

-- two ranges that touch
pub same-beside : (s t : List ℕ) (from mid to : ℕ) → SameBytes s t from mid → SameBytes s t mid to → SameBytes s t from to
same-beside s t from mid to p q k low high = elim (cases_lt k mid) [ inl below ↦ p k low below | inr above ↦ q k above high ]

-- a number is kept where its bytes are
pub number_at-kept : (new old : List ℕ) (from to offset width number : ℕ) → SameBytes new old from to → from ≤ offset → offset + width ≤ to → number_at old offset width ≡ number → number_at new offset width ≡ number
number_at-kept new old from to offset width number same low high e =
    number_at-same new old offset width (λ k f t. same k (omega arith) (omega arith)) ∙ e

-- sectors with the same bytes throughout are the same
pub same_sectors : (s t : List ℕ) → IsSector s → IsSector t → SameBytes s t 0 512 → s ≡ t
same_sectors s t hs ht same = ext_get_or 0 s t (hs.size ∙ sym ht.size) (λ k below. same k (omega arith) (omega (arith, hs.size)))

-- ---- zeros

pub zero-from_bytes : (s : List ℕ) (from to : ℕ) → ((k : ℕ) → from ≤ k → k < to → slice_index s k ≡ 0) → IsZero s from to
zero-from_bytes s from to h =
    All-from_get_or (λ byte. byte ≡ 0) (slice_range s from to) 0 (λ i below.
    let inside : i < to - from = omega (arith, length-take (to - from) (drop from s)) in
    rw (get_or-take (to - from) (drop from s) i 0 inside, get_or-drop from s i 0) (h (from + i) (omega arith) (omega arith)))

pub zero-bytes : (s : List ℕ) (from to : ℕ) → to ≤ length s → IsZero s from to → (k : ℕ) → from ≤ k → k < to → slice_index s k ≡ 0
zero-bytes s from to end zs k low high =
    let inside : k - from < to - from = omega arith in
    let there : from + (k - from) ≡ k = omega arith in
    let at : get_or (slice_range s from to) (k - from) 0 ≡ 0 = All-get_or (λ byte. byte ≡ 0) (slice_range s from to) (k - from) 0 (omega (arith, length-take (to - from) (drop from s), length-drop from s)) zs in
    sym (get_or_at s k from there) ∙ (sym (get_or-take (to - from) (drop from s) (k - from) 0 inside) ∙ at)

-- zeros that two sectors have
pub zero-same : (s t : List ℕ) (from to : ℕ) → IsSector s → IsSector t → to ≤ 512 → IsZero s from to → IsZero t from to → SameBytes s t from to
zero-same s t from to hs ht end zs zt k low high =
    zero-bytes s from to (omega (arith, hs.size)) zs k low high ∙ sym (zero-bytes t from to (omega (arith, ht.size)) zt k low high)

-- zeros that are kept
pub zero-kept : (new old : List ℕ) (from to : ℕ) → SameBytes new old from to → ((k : ℕ) → slice_index old k ≡ 0) → IsZero new from to
zero-kept new old from to same zeros = zero-from_bytes new from to (λ k low high. same k low high ∙ zeros k)

pub zeros_all : (n k : ℕ) → slice_index (replicate n 0) k ≡ 0
zeros_all zero k = refl
zeros_all (suc n) zero = refl
zeros_all (suc n) (suc k) = zeros_all n k

-- ---- a write

-- the number that was written behind a front is read
pub put-number : (old new : List ℕ) (offset width number k : ℕ) (rest : List ℕ) → offset ≤ length old → number < 256 ^ width → new ≡ little_bytes width number ++ rest → number_at (put_mid offset k old new) offset width ≡ number
put-number old new offset width number k rest inside fits e =
    let len : length (take offset old) ≡ offset = omega (arith, length-take offset old) in
    let shape : put_mid offset k old new ≡ take offset old ++ (little_bytes width number ++ (rest ++ post_of offset k old)) =
    ap (λ (x : List ℕ). take offset old ++ (x ++ post_of offset k old)) e ∙ ap (λ (x : List ℕ). take offset old ++ x) (append_assoc (little_bytes width number) rest (post_of offset k old)) in
    ap (λ (x : List ℕ). number_at x offset width) shape ∙ number_at-written (take offset old) (rest ++ post_of offset k old) offset width number len fits

-- the bytes behind the number are kept
pub put-after : (old new bytes : List ℕ) (offset width : ℕ) → length old ≡ 512 → offset + width ≤ 512 → length bytes ≡ width → new ≡ bytes ++ drop width (mid_of offset (512 - offset) old) → SameBytes (put_mid offset (512 - offset) old new) old (offset + width) 512
put-after old new bytes offset width size inside len e k low high =
    let rest = drop width (mid_of offset (512 - offset) old) in
    let post = post_of offset (512 - offset) old in
    let front : length (take offset old) ≡ offset = omega (arith, length-take offset old) in
    let shape : put_mid offset (512 - offset) old new ≡ take offset old ++ (bytes ++ (rest ++ post)) =
    ap (λ (x : List ℕ). take offset old ++ (x ++ post)) e ∙ ap (λ (x : List ℕ). take offset old ++ x) (append_assoc bytes rest post) in
    let middle : length (mid_of offset (512 - offset) old) ≡ 512 - offset = omega (arith, length-take (512 - offset) (drop offset old), length-drop offset old) in
    let enough : k - offset - width < length rest = omega (arith, length-drop width (mid_of offset (512 - offset) old)) in
    let there : offset + (width + (k - offset - width)) ≡ k = omega arith in
    ap (λ (x : List ℕ). get_or x k 0) shape
    ∙ (get_or-append_right (take offset old) (bytes ++ (rest ++ post)) offset k 0 front (omega arith)
    ∙ (get_or-append_right bytes (rest ++ post) width (k - offset) 0 len (omega arith)
    ∙ (get_or_append_left rest post 0 (k - offset - width) enough
    ∙ (get_or-drop width (mid_of offset (512 - offset) old) (k - offset - width) 0
    ∙ (get_or-take (512 - offset) (drop offset old) (width + (k - offset - width)) 0 (omega arith)
    ∙ (get_or-drop offset old (width + (k - offset - width)) 0 ∙ ap (λ i. get_or old i 0) there))))))

-- the bytes of a number are bytes
byte_at-below : (i x : ℕ) → byte_at i x < 256
byte_at-below zero x = mod-lt x (omega arith)
byte_at-below (suc i) x = mod-lt (x / 256 ^ suc i) (omega arith)

pub little_bytes-below : (i n x k : ℕ) → slice_index (bytes_low_first i n x) k < 256
little_bytes-below i zero x k = omega arith
little_bytes-below i (suc n) x zero = byte_at-below i x
little_bytes-below i (suc n) x (suc k) = little_bytes-below (suc i) n x k

-- a sector stays a sector
pub put-sector : (old new bytes : List ℕ) (offset width : ℕ) → IsSector old → offset + width ≤ 512 → length bytes ≡ width → ((k : ℕ) → slice_index bytes k < 256)
    → new ≡ bytes ++ drop width (mid_of offset (512 - offset) old) → IsSector (put_mid offset (512 - offset) old new)
put-sector old new bytes offset width whole inside len small e =
    let rest = drop width (mid_of offset (512 - offset) old) in
    let post = post_of offset (512 - offset) old in
    let size : length old ≡ 512 = whole.size in
    let middle : length (mid_of offset (512 - offset) old) ≡ 512 - offset = omega (arith, length-take (512 - offset) (drop offset old), length-drop offset old) in
    let front : length (take offset old) ≡ offset = omega (arith, length-take offset old) in
    let long : length new ≡ length (mid_of offset (512 - offset) old) = ap length e ∙ omega (arith, length-append bytes rest, length-drop width (mid_of offset (512 - offset) old)) in
    let shape : put_mid offset (512 - offset) old new ≡ take offset old ++ (bytes ++ (rest ++ post)) =
    ap (λ (x : List ℕ). take offset old ++ (x ++ post)) e ∙ ap (λ (x : List ℕ). take offset old ++ x) (append_assoc bytes rest post) in
    let total : length (put_mid offset (512 - offset) old new) ≡ 512 = same_len_mid offset (512 - offset) old new long ∙ size in
    record {
      size = total;
      bytes = λ k. elim (cases_lt k offset) [
        | inl before ↦
            let same : slice_index (put_mid offset (512 - offset) old new) k ≡ slice_index old k = get_or_append_left (take offset old) (new ++ post) 0 k (omega arith) ∙ get_or-take offset old k 0 before in
            rw same (whole.bytes k)
        | inr behind ↦ elim (cases_lt k (offset + width)) [
          | inl here ↦
              let same : slice_index (put_mid offset (512 - offset) old new) k ≡ slice_index bytes (k - offset) =
              ap (λ (x : List ℕ). get_or x k 0) shape
              ∙ (get_or-append_right (take offset old) (bytes ++ (rest ++ post)) offset k 0 front behind ∙ get_or_append_left bytes (rest ++ post) 0 (k - offset) (omega arith)) in
              rw same (small (k - offset))
          | inr after ↦ elim (cases_lt k 512) [
            | inl within ↦ let same = put-after old new bytes offset width size inside len e k after within in rw same (whole.bytes k)
            | inr past ↦ rw (get_or_past (put_mid offset (512 - offset) old new) k 0 (omega arith)) (omega arith)
          ]
        ]
      ];
    }
