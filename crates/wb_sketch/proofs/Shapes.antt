-- A sketch keeps its sizes.
use Rattle.std.proofs.Common.{◌≡◌, ◌≤◌, ◌<◌, ◌+◌, ◌/◌, ℕ, Bool, true, false, cond, List, length, replicate, refl, ap, ◌∙◌, arith}
use Rattle.std.proofs.lemmas.List.{length-set, length-replicate}
use Rattle.wb_sketch.specs.Sizes.{row_bits, sample_limit}
use Rattle.wb_sketch.specs.Frequencies.{Frequencies, IsShaped, frequencies, empty, raised_at, raised, halved}
use Rattle.wb_sketch.proofs.Counters.{length-halved}
use Rattle.wb_sketch.proofs.Sizes.{sample_limit-from}

length-either : (b : Bool) (xs ys : List ℕ) → length xs ≡ length ys → length (cond b xs ys) ≡ length ys
length-either true xs ys e = e
length-either false xs ys e = refl

pub length-raised_at : (least place : ℕ) (row : List ℕ) → length (raised_at least place row) ≡ length row
unfolding raised_at
length-raised_at least place row = length-either _ _ _ (length-set row place (least + 1))

pub shaped-raised : (bits : ℕ) (f : Frequencies) (block : ℕ) → IsShaped bits f → IsShaped bits (raised f block)
unfolding raised
shaped-raised bits f block h = record {
  bits_are = h.bits_are;
  bits_from = h.bits_from;
  bits_to = h.bits_to;
  cache_to = h.cache_to;
  row1 = length-raised_at _ _ _ ∙ h.row1;
  row2 = length-raised_at _ _ _ ∙ h.row2;
  row3 = length-raised_at _ _ _ ∙ h.row3;
  row4 = length-raised_at _ _ _ ∙ h.row4;
  doorkeeper = h.doorkeeper;
  sample = h.sample;
}

-- halved and cleared
pub shaped-reset : (bits : ℕ) (f : Frequencies) (n1 n2 n3 n4 : List ℕ) (doorkeeper : List Bool) → IsShaped bits f
    → n1 ≡ halved f.row1 → n2 ≡ halved f.row2 → n3 ≡ halved f.row3 → n4 ≡ halved f.row4
    → doorkeeper ≡ replicate (length f.doorkeeper) false
    → IsShaped bits (frequencies f.cache_blocks n1 n2 n3 n4 doorkeeper ((f.sample + 1) / 2))
shaped-reset bits f n1 n2 n3 n4 doorkeeper h e1 e2 e3 e4 e5 =
    let from : 64 ≤ sample_limit f.cache_blocks = sample_limit-from f.cache_blocks in
    let below : f.sample < sample_limit f.cache_blocks = h.sample in
    record {
      bits_are = h.bits_are;
      bits_from = h.bits_from;
      bits_to = h.bits_to;
      cache_to = h.cache_to;
      row1 = ap length e1 ∙ length-halved _ ∙ h.row1;
      row2 = ap length e2 ∙ length-halved _ ∙ h.row2;
      row3 = ap length e3 ∙ length-halved _ ∙ h.row3;
      row4 = ap length e4 ∙ length-halved _ ∙ h.row4;
      doorkeeper = ap length e5 ∙ length-replicate _ _ ∙ h.doorkeeper;
      sample = omega arith;
    }

pub shaped-empty : (blocks bits : ℕ) → bits ≡ row_bits blocks → 4 ≤ bits → bits ≤ 20 → blocks ≤ 1048575 → IsShaped bits (empty blocks)
unfolding empty
shaped-empty blocks bits b from to c =
    let some : 64 ≤ sample_limit blocks = sample_limit-from blocks in
    record {
      bits_are = b;
      bits_from = from;
      bits_to = to;
      cache_to = c;
      row1 = rw b (length-replicate _ _);
      row2 = rw b (length-replicate _ _);
      row3 = rw b (length-replicate _ _);
      row4 = rw b (length-replicate _ _);
      doorkeeper = rw b (length-replicate _ _);
      sample = omega arith;
    }
