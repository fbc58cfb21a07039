use Rattle.std.proofs.Common.{◌≡◌, ◌+◌, ◌*◌, slice_index, refl, subst, arith, inl, inr}
use Rattle.std.proofs.lemmas.Bool.{cases_lt}
use Rattle.wb_format.specs.Bytes.{number_at, SameBytes}
use Rattle.wb_format.proofs.Numbers.{number_at-kept, same-join}
use Rattle.wb_format.proofs.node.put_words.Goals as goal

pub loop-j-preserved : goal.loop-j-preserved
loop-j-preserved c =
    let inv = c.loop-j.invariant in
    let put = c.put_u64.ensures in
    let before : SameBytes c.put_u64.new.content c.loop-j.content 0 (32 + 8 * c.loop-j.j) = put.before in
    let after : SameBytes c.put_u64.new.content c.loop-j.content (32 + 8 * c.loop-j.j + 8) 512 = put.after in
    record {
      bytes = put.bytes;
      words = λ k below. elim (cases_lt k c.loop-j.j) [
        | inl earlier ↦ number_at-kept c.put_u64.new.content c.loop-j.content 0 (32 + 8 * c.loop-j.j) (32 + 8 * k) 8 _ before (omega arith) (omega arith) (inv.words k earlier)
        | inr last ↦
            let e : c.loop-j.j ≡ k = omega arith in
            subst (λ n. number_at c.put_u64.new.content (32 + 8 * n) 8 ≡ slice_index c.args.words.now n) e put.number
      ];
      before = same-join c.put_u64.new.content c.loop-j.content c.args.content.now 0 (32 + 8 * c.loop-j.j) 0 32 0 32 before inv.before (omega arith) (omega arith) (omega arith) (omega arith);
      after = same-join c.put_u64.new.content c.loop-j.content c.args.content.now (32 + 8 * c.loop-j.j + 8) 512 288 512 288 512 after inv.after (omega arith) (omega arith) (omega arith) (omega arith);
    }

pub loop-j-init : goal.loop-j-init
loop-j-init c = record {
  bytes = record { size = c.told-content; bytes = c.fits-content };
  words = λ k below. absurd (omega arith);
  before = λ k low high. refl;
  after = λ k low high. refl;
}
