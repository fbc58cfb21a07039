use Rattle.std.proofs.Common.{◌≡◌, ◌<◌, ◌+◌, ◌*◌, length, sym, ◌∙◌, arith}
use Rattle.std.proofs.lemmas.List.{length-set}
use Rattle.wb_format.specs.Bytes.{number_at}
use Rattle.wb_format.specs.NodeWords.{IsNodeWordOf}
use Rattle.wb_format.proofs.WordLemmas.{set_more, IsWord-everywhere}
use Rattle.wb_format.proofs.node.words_at.Goals as goal

pub loop-j-preserved : goal.loop-j-preserved
loop-j-preserved c =
    let inv = c.loop-j.invariant in
    let inside : c.loop-j.j < length c.loop-j.words = omega arith in
    record {
      size = length-set c.loop-j.words c.loop-j.j c.u64_at-word.result ∙ inv.size;
      read = set_more (λ k word. number_at c.args.content.now (32 + 8 * k) 8 ≡ word) c.loop-j.words c.loop-j.j c.u64_at-word.result inside inv.read (sym c.u64_at-word.ensures);
      spelled = set_more (λ k word. IsNodeWordOf c.args.version c.args.dirty c.args.level word) c.loop-j.words c.loop-j.j c.u64_at-word.result inside inv.spelled (c.is_word.ensures.0 c.if-not-is_word.false);
    }

pub returns-clause-found : goal.returns-clause-found
returns-clause-found c = record {
  size = c.loop-j.invariant.size;
  each = λ k below. c.loop-j.invariant.read k (omega arith);
}

pub returns-clause-spelled : goal.returns-clause-spelled
returns-clause-spelled c =
    IsWord-everywhere c.args.version c.args.dirty c.args.level c.loop-j.words (λ k below. c.loop-j.invariant.spelled k (omega (arith, c.loop-j.invariant.size)))
