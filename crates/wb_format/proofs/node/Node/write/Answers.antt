use Rattle.std.proofs.Common.{◌∙◌, ℕ, List, replicate, arith}
use Rattle.wb_format.specs.Bytes.{SameBytes}
use Rattle.wb_format.proofs.Numbers.{same-before, same-after, number_at-kept, zero-kept, zeros_all}
use Rattle.wb_format.proofs.node.Node.write.Goals as goal

pub returns : goal.returns
returns c =
    let zeros : List ℕ = replicate 512 0 in
    let s1 : List ℕ = c.put_u64.new.content in
    let s2 : List ℕ = c.put_u64-2.new.content in
    let s3 : List ℕ = c.put_u32.new.content in
    let s4 : List ℕ = c.put_u32-2.new.content in
    let s5 : List ℕ = c.put_words.new.content in
    let k4 : SameBytes s5 s4 0 32 = c.put_words.ensures.before in
    let k3 : SameBytes s5 s3 0 20 = same-before s5 s4 s3 32 20 k4 c.put_u32-2.ensures.before (omega arith) in
    let k2 : SameBytes s5 s2 0 16 = same-before s5 s3 s2 20 16 k3 c.put_u32.ensures.before (omega arith) in
    let k1 : SameBytes s5 s1 0 8 = same-before s5 s2 s1 16 8 k2 c.put_u64-2.ensures.before (omega arith) in
    let r4 : SameBytes s5 s4 288 512 = c.put_words.ensures.after in
    let r3 : SameBytes s5 s3 288 512 = same-after s5 s4 s3 288 24 r4 c.put_u32-2.ensures.after (omega arith) in
    let r2 : SameBytes s5 s2 288 512 = same-after s5 s3 s2 288 20 r3 c.put_u32.ensures.after (omega arith) in
    let r1 : SameBytes s5 s1 288 512 = same-after s5 s2 s1 288 16 r2 c.put_u64-2.ensures.after (omega arith) in
    let r0 : SameBytes s5 zeros 288 512 = same-after s5 s1 zeros 288 8 r1 c.put_u64.ensures.after (omega arith) in
    let g2 : SameBytes s4 s2 24 512 = same-after s4 s3 s2 24 20 c.put_u32-2.ensures.after c.put_u32.ensures.after (omega arith) in
    let g1 : SameBytes s4 s1 24 512 = same-after s4 s2 s1 24 16 g2 c.put_u64-2.ensures.after (omega arith) in
    let g0 : SameBytes s4 zeros 24 512 = same-after s4 s1 zeros 24 8 g1 c.put_u64.ensures.after (omega arith) in
    let gap : SameBytes s5 zeros 24 32 = λ k low high. k4 k (omega arith) high ∙ g0 k low (omega arith) in
    record {
      bytes = c.put_words.ensures.bytes;
      magic = number_at-kept s5 s1 0 8 0 8 _ k1 (omega arith) (omega arith) (c.put_u64.ensures.number ∙ c.magic_of.ensures);
      generation = number_at-kept s5 s2 0 16 8 8 _ k2 (omega arith) (omega arith) c.put_u64-2.ensures.number;
      level = number_at-kept s5 s3 0 20 16 4 _ k3 (omega arith) (omega arith) c.put_u32.ensures.number;
      index = number_at-kept s5 s4 0 32 20 4 _ k4 (omega arith) (omega arith) c.put_u32-2.ensures.number;
      gap = zero-kept s5 zeros 24 32 gap (zeros_all 512);
      words = c.put_words.ensures.words;
      rest = zero-kept s5 zeros 288 512 r0 (zeros_all 512);
    }
