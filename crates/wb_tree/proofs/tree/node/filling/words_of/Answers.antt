use Rattle.std.proofs.Common.{◌+◌, ◌*◌, None, refl, sym, subst, get_or, arith}
use Rattle.wb_tree.proofs.Branching.Filling.{AreCopied, end_copied, none_copied, one_copied}
use Rattle.wb_tree.proofs.tree.node.filling.words_of.Goals.{then-first-j, else-first-j}
use Rattle.wb_tree.proofs.tree.node.filling.words_of.Goals as goal

pub loop-j-init : goal.loop-j-init
loop-j-init c = none_copied c.args.entries.now (32 * c.args.index) 32 _ refl refl

pub loop-j-preserved : goal.loop-j-preserved
loop-j-preserved c =
    let es = c.args.entries.now in
    let first = 32 * c.args.index in
    let j = c.loop-j.j in
    elim c.if-first-j.branch [
      | then-first-j w ↦ subst (AreCopied es first (j + 1)) (sym w.words-is) (one_copied es first j c.loop-j.words (get_or es (first + j) None) c.loop-j-test.true c.loop-j.invariant refl)
      | else-first-j w ↦ subst (AreCopied es first (j + 1)) (sym w.words-is) (end_copied es first j c.loop-j.words c.loop-j.invariant (let off = w.if-first-j.false in omega arith))
    ]
