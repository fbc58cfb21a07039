-- What the calls do to the parts of a sketch, as steps of its frequencies.
use Rattle.std.proofs.Common.{◌≡◌, ◌≤◌, ◌<◌, ◌+◌, ◌/◌, ◌^◌, ℕ, Bool, true, false, ◌&&◌, nat_lt, List, length, replicate, get_or, set, refl, ◌∙◌, arith}
use Rattle.std.proofs.lemmas.Bool.Decides.{nat_tests}
use Rattle.wb_sketch.specs.Sizes.{row_bits, sample_limit}
use Rattle.wb_sketch.specs.declared.place.Places.{Places}
use Rattle.wb_sketch.specs.Places.{place_of, places_of, door_constant1, door_constant2}
use Rattle.wb_sketch.specs.Frequencies.{Frequencies, frequencies, empty, counter1, counter2, counter3, counter4, least_at, least_of, is_member, estimate_of, raised_at, raised, admitted, halved, reset, counted, accessed}

pub member-is : (f : Frequencies) (bits block d1 d2 : ℕ) → bits ≡ row_bits f.cache_blocks
    → d1 ≡ place_of door_constant1 (bits + 3) block → d2 ≡ place_of door_constant2 (bits + 3) block
    → (get_or f.doorkeeper d1 false && get_or f.doorkeeper d2 false) ≡ is_member f block
unfolding is_member
member-is f bits block d1 d2 b p1 p2 = rw (p1, p2, b) refl

pub least-is : (f : Frequencies) (block : ℕ) (at : Places) → at ≡ places_of f.cache_blocks block → least_at f at ≡ least_of f block
unfolding least_of least_at places_of counter1 counter2 counter3 counter4
least-is f block at e = rw e refl

pub raised-is : (f : Frequencies) (block least : ℕ) (at : Places) (n1 n2 n3 n4 : List ℕ)
    → at ≡ places_of f.cache_blocks block → least ≡ least_at f at
    → n1 ≡ raised_at least at.row1 f.row1 → n2 ≡ raised_at least at.row2 f.row2 → n3 ≡ raised_at least at.row3 f.row3 → n4 ≡ raised_at least at.row4 f.row4
    → frequencies f.cache_blocks n1 n2 n3 n4 f.doorkeeper f.sample ≡ raised f block
unfolding raised places_of
raised-is f block least at n1 n2 n3 n4 p l e1 e2 e3 e4 = rw (e1, e2, e3, e4, l ∙ least-is f block at p, p) refl

pub admitted-is : (f : Frequencies) (bits block d1 d2 : ℕ) (once twice : List Bool) → bits ≡ row_bits f.cache_blocks
    → d1 ≡ place_of door_constant1 (bits + 3) block → d2 ≡ place_of door_constant2 (bits + 3) block
    → once ≡ set f.doorkeeper d1 true → twice ≡ set once d2 true
    → frequencies f.cache_blocks f.row1 f.row2 f.row3 f.row4 twice f.sample ≡ admitted f block
unfolding admitted
admitted-is f bits block d1 d2 once twice b q1 q2 e1 e2 = rw (e2, e1, q1, q2, b) refl

pub counted-more : (f : Frequencies) → f.sample + 1 < sample_limit f.cache_blocks
    → frequencies f.cache_blocks f.row1 f.row2 f.row3 f.row4 f.doorkeeper (f.sample + 1) ≡ counted f
unfolding counted
counted-more f h =
    let t : nat_lt (f.sample + 1) (sample_limit f.cache_blocks) ≡ true = grind (arith, nat_tests) in
    rw t refl

pub counted-full : (f : Frequencies) (n1 n2 n3 n4 : List ℕ) (bits : List Bool) → sample_limit f.cache_blocks ≤ f.sample + 1
    → n1 ≡ halved f.row1 → n2 ≡ halved f.row2 → n3 ≡ halved f.row3 → n4 ≡ halved f.row4
    → bits ≡ replicate (length f.doorkeeper) false
    → frequencies f.cache_blocks n1 n2 n3 n4 bits ((f.sample + 1) / 2) ≡ counted f
unfolding counted reset
counted-full f n1 n2 n3 n4 bits h e1 e2 e3 e4 e5 =
    let t : nat_lt (f.sample + 1) (sample_limit f.cache_blocks) ≡ false = grind (arith, nat_tests) in
    rw (e1, e2, e3, e4, e5, t) refl

pub accessed-known : (f : Frequencies) (block : ℕ) → is_member f block ≡ true → counted (raised f block) ≡ accessed f block
unfolding accessed
accessed-known f block m = rw m refl

pub accessed-new : (f : Frequencies) (block : ℕ) → is_member f block ≡ false → counted (admitted f block) ≡ accessed f block
unfolding accessed
accessed-new f block m = rw m refl

pub estimate-known : (f : Frequencies) (block : ℕ) → is_member f block ≡ true → estimate_of f block ≡ least_of f block + 1
unfolding estimate_of
estimate-known f block m = rw m refl

pub estimate-new : (f : Frequencies) (block : ℕ) → is_member f block ≡ false → estimate_of f block ≡ least_of f block
unfolding estimate_of
estimate-new f block m = rw m refl

pub empty-is : (blocks bits : ℕ) → bits ≡ row_bits blocks
    → frequencies blocks (replicate (2 ^ bits) 0) (replicate (2 ^ bits) 0) (replicate (2 ^ bits) 0) (replicate (2 ^ bits) 0) (replicate (2 ^ (bits + 3)) false) 0 ≡ empty blocks
unfolding empty
empty-is blocks bits b = rw b refl
