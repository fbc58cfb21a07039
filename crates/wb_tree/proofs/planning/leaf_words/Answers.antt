use Rattle.std.proofs.Common.{◌≡◌, ◌<◌, ◌+◌, ◌*◌, length, sym, ap, ◌∙◌, arith}
use Rattle.std.proofs.lemmas.List.{length-set}
use Rattle.wb_format.specs.NodeWords.{IsLeafWord, entry_word, kept}
use Rattle.wb_tree.specs.Mapping.{entry_at}
use Rattle.wb_tree.proofs.Images.PlanWords.{words_everywhere, IsLeafWord-zero, spelled-entry_word, may_spell}
use Rattle.wb_format.proofs.WordLemmas.{set_more}
use Rattle.wb_tree.proofs.planning.leaf_words.Goals as goal

pub word_of-requires : goal.word_of-requires
word_of-requires g c = may_spell c.entry_at.result (λ entry e. c.requires.entries (32 * c.args.index + c.loop-j.j) entry (sym c.entry_at.ensures ∙ e))

pub loop-j-preserved : goal.loop-j-preserved
loop-j-preserved g c =
    let inv = c.loop-j.invariant in
    let inside : c.loop-j.j < length c.loop-j.words = omega arith in
    record {
      size = length-set c.loop-j.words c.loop-j.j c.word_of.result ∙ inv.size;
      words = set_more (λ k word. word ≡ entry_word (kept c.args.version (entry_at c.args.tree.now (32 * c.args.index + k)))) c.loop-j.words c.loop-j.j c.word_of.result inside inv.words
          (spelled-entry_word c.word_of.result (kept c.args.version c.entry_at.result) c.word_of.ensures.spelled ∙ ap (λ entry. entry_word (kept c.args.version entry)) c.entry_at.ensures);
      spelled = set_more (λ k word. IsLeafWord word) c.loop-j.words c.loop-j.j c.word_of.result inside inv.spelled c.word_of.ensures.readable.leaf;
    }

pub returns-clause-spelled : goal.returns-clause-spelled
returns-clause-spelled g c =
    words_everywhere IsLeafWord c.loop-j.words (λ k below. c.loop-j.invariant.spelled k (omega (arith, c.loop-j.invariant.size))) IsLeafWord-zero
