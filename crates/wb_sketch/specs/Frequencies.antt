-- The frequency sketch: counters, doorkeeper, sample, and what an access makes of them.
use Rattle.std.specs.Prelude.{◌≡◌, ◌≤◌, ◌<◌, ◌+◌, ◌/◌, ◌^◌, ℕ, min, Bool, true, false, ◌&&◌, ◌==◌, nat_lt, if◌then◌else◌, List, [], ◌∷◌, length, map, replicate, get_or, slice_index, slice_set, set}
use Rattle.wb_sketch.specs.Sizes.{row_bits, sample_limit}
use Rattle.wb_sketch.specs.declared.place.Places.{Places}
use Rattle.wb_sketch.specs.Places.{row_place, door_place, row_constant1, row_constant2, row_constant3, row_constant4, door_constant1, door_constant2}

-- What a sketch says of the accesses since it was made: four rows of counters, each 0 to 15, a doorkeeper,
-- and how many accesses count.
pub record Frequencies : Type 0 where
  pub cache_blocks : ℕ
  pub row1 : List ℕ
  pub row2 : List ℕ
  pub row3 : List ℕ
  pub row4 : List ℕ
  pub doorkeeper : List Bool
  pub sample : ℕ

-- the frequencies of these parts
abbrev pub frequencies : ℕ → List ℕ → List ℕ → List ℕ → List ℕ → List Bool → ℕ → Frequencies
frequencies cache_blocks row1 row2 row3 row4 doorkeeper sample = record {
  cache_blocks = cache_blocks;
  row1 = row1;
  row2 = row2;
  row3 = row3;
  row4 = row4;
  doorkeeper = doorkeeper;
  sample = sample;
}

-- before any access
unfoldable pub empty : ℕ → Frequencies
empty cache_blocks =
    let row : List ℕ = replicate (2 ^ row_bits cache_blocks) 0 in
    record {
      cache_blocks = cache_blocks;
      row1 = row;
      row2 = row;
      row3 = row;
      row4 = row;
      doorkeeper = replicate (2 ^ (row_bits cache_blocks + 3)) false;
      sample = 0;
    }

-- the row of a number from 1 to 4
unfoldable pub row_of : Frequencies → ℕ → List ℕ
row_of f number = if number == 1 then f.row1 else if number == 2 then f.row2 else if number == 3 then f.row3 else f.row4

-- the counters of a block
unfoldable pub counter1 : Frequencies → ℕ → ℕ
counter1 f block = slice_index f.row1 (row_place row_constant1 f.cache_blocks block)

unfoldable pub counter2 : Frequencies → ℕ → ℕ
counter2 f block = slice_index f.row2 (row_place row_constant2 f.cache_blocks block)

unfoldable pub counter3 : Frequencies → ℕ → ℕ
counter3 f block = slice_index f.row3 (row_place row_constant3 f.cache_blocks block)

unfoldable pub counter4 : Frequencies → ℕ → ℕ
counter4 f block = slice_index f.row4 (row_place row_constant4 f.cache_blocks block)

-- these places, one in each row, are places of it
pub record AreWithin (f : Frequencies) (at : Places) : Type 0 where
  pub row1 : at.row1 < length f.row1
  pub row2 : at.row2 < length f.row2
  pub row3 : at.row3 < length f.row3
  pub row4 : at.row4 < length f.row4

-- the least of the counters there
unfoldable pub least_at : Frequencies → Places → ℕ
least_at f at = min (min (slice_index f.row1 at.row1) (slice_index f.row2 at.row2)) (min (slice_index f.row3 at.row3) (slice_index f.row4 at.row4))

-- the least of a block's four counters
unfoldable pub least_of : Frequencies → ℕ → ℕ
least_of f block = min (min (counter1 f block) (counter2 f block)) (min (counter3 f block) (counter4 f block))

-- the doorkeeper knows a block when both of its bits are set
unfoldable pub is_member : Frequencies → ℕ → Bool
is_member f block =
    get_or f.doorkeeper (door_place door_constant1 f.cache_blocks block) false
    && get_or f.doorkeeper (door_place door_constant2 f.cache_blocks block) false

-- how often a block was accessed, as far as the sketch knows: the least counter, and one more for a member
unfoldable pub estimate_of : Frequencies → ℕ → ℕ
estimate_of f block = if is_member f block then least_of f block + 1 else least_of f block

-- a row whose counter at a place is raised by one if it is the least of its block's, but not above 15
unfoldable pub raised_at : ℕ → ℕ → List ℕ → List ℕ
raised_at least place row =
    if (slice_index row place == least) && nat_lt least 15 then slice_set row place (least + 1) else row

-- those of a block's counters that equal their least value are raised by one
unfoldable pub raised : Frequencies → ℕ → Frequencies
raised f block =
    let least = least_of f block in
    record f {
      row1 = raised_at least (row_place row_constant1 f.cache_blocks block) f.row1;
      row2 = raised_at least (row_place row_constant2 f.cache_blocks block) f.row2;
      row3 = raised_at least (row_place row_constant3 f.cache_blocks block) f.row3;
      row4 = raised_at least (row_place row_constant4 f.cache_blocks block) f.row4;
    }

-- both of a block's doorkeeper bits are set
unfoldable pub admitted : Frequencies → ℕ → Frequencies
admitted f block = record f {
  doorkeeper = set (set f.doorkeeper (door_place door_constant1 f.cache_blocks block) true) (door_place door_constant2 f.cache_blocks block) true;
}

-- each counter of a row is halved, rounded down
unfoldable pub halved : List ℕ → List ℕ
halved row = map (λ counter. counter / 2) row

-- the sample and all counters are halved, and the doorkeeper is cleared
unfoldable pub reset : Frequencies → Frequencies
reset f = record f {
  row1 = halved f.row1;
  row2 = halved f.row2;
  row3 = halved f.row3;
  row4 = halved f.row4;
  doorkeeper = replicate (length f.doorkeeper) false;
  sample = f.sample / 2;
}

-- one more access counts; at the limit all is reset
unfoldable pub counted : Frequencies → Frequencies
counted f =
    let more : Frequencies = record f { sample = f.sample + 1 } in
    if nat_lt more.sample (sample_limit f.cache_blocks) then more else reset more

-- after an access: a member's least counters rise, another block becomes a member, and the access counts
unfoldable pub accessed : Frequencies → ℕ → Frequencies
accessed f block = counted (if is_member f block then raised f block else admitted f block)

-- after further accesses, in their order
unfoldable pub after : Frequencies → List ℕ → Frequencies
after f [] = f
after f (block ∷ blocks) = after (accessed f block) blocks

-- after these accesses since the sketch was made
unfoldable pub after_accesses : ℕ → List ℕ → Frequencies
after_accesses cache_blocks blocks = after (empty cache_blocks) blocks

-- The sizes of a sketch whose places in a row have so many bits: its rows and its doorkeeper have all their
-- places, and the sample is below the limit.
pub record IsShaped (bits : ℕ) (f : Frequencies) : Type 0 where
  pub bits_are : bits ≡ row_bits f.cache_blocks
  pub bits_from : 4 ≤ bits
  pub bits_to : bits ≤ 20
  pub cache_to : f.cache_blocks ≤ 1048575
  pub row1 : length f.row1 ≡ 2 ^ bits
  pub row2 : length f.row2 ≡ 2 ^ bits
  pub row3 : length f.row3 ≡ 2 ^ bits
  pub row4 : length f.row4 ≡ 2 ^ bits
  pub doorkeeper : length f.doorkeeper ≡ 2 ^ (bits + 3)
  pub sample : f.sample < sample_limit f.cache_blocks
