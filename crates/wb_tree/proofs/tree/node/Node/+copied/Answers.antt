use Rattle.std.proofs.Common.{◌≡◌, ◌+◌, ◌++◌, ◌∙◌, List, Option, Some, Box, drop, ap, sym}
use Rattle.wb_tree.specs.Branches.{Branch}
use Rattle.wb_tree.proofs.Branching.Copied.{value_in, values, one_copied, all_copied, node_alike, branch_alike}
use Rattle.wb_tree.proofs.tree.node.Node.+copied.Goals.{in-Some+in_ok-copied-in-Some, in-None}
use Rattle.wb_tree.proofs.tree.node.Node.+copied.Goals as goal

pub loop-kid-init : goal.loop-kid-init
loop-kid-init g t c = ap (λ (ks : List (Option (Box Branch _))). values ks ++ values c.deref-kid-items.result.now) c.in_ok-kids.ensures.items

pub loop-kid-preserved : goal.loop-kid-preserved
loop-kid-preserved g t c =
    let same : value_in c.match-kid.copy ≡ value_in c.kid-item.result = elim c.match-kid.branch [
      | in-Some+in_ok-copied-in-Some w ↦ ap (λ (o : Option (Box Branch _)). value_in o) w.copy-is
          ∙ ap (λ (b : Branch). Some b) (w.in_ok-copied-in-Some.ensures ∙ w.deref.ensures) ∙ sym (ap (λ (o : Option (Box Branch _)). value_in o) w.in-Some.is)
      | in-None w ↦ ap (λ (o : Option (Box Branch _)). value_in o) w.copy-is ∙ sym (ap (λ (o : Option (Box Branch _)). value_in o) w.in-None.is)
    ] in
    ap (λ (ks : List (Option (Box Branch _))). values ks ++ values (drop (c.loop-kid.kid-index + 1) c.deref-kid-items.result.now)) c.in_ok-push.ensures.items
    ∙ one_copied c.deref-kid-items.result.now c.loop-kid.kids.items c.loop-kid.kid-index c.kid-item.result c.match-kid.copy c.loop-kid-test.true c.kid-item.is same c.loop-kid.invariant

pub invariant_of-node : goal.invariant_of-node
invariant_of-node g t c = node_alike c.self.inside.level c.self.inside.index c.self.inside.words c.self.inside.kids.items c.loop-kid.kids.items
    (ap (λ (ks : List (Option (Box Branch _))). values ks) (sym c.deref-kid-items.ensures.value) ∙ all_copied c.deref-kid-items.result.now c.loop-kid.kids.items c.loop-kid.kid-index c.loop-kid-test.false c.loop-kid.invariant) c.self.invariant

pub returns : goal.returns
returns g t c = c.in_ok-new.ensures.ok ∙ sym (branch_alike c.self.inside.level c.self.inside.index c.self.inside.place c.self.inside.words c.self.inside.kids.items c.loop-kid.kids.items
    (ap (λ (ks : List (Option (Box Branch _))). values ks) (sym c.deref-kid-items.ensures.value) ∙ all_copied c.deref-kid-items.result.now c.loop-kid.kids.items c.loop-kid.kid-index c.loop-kid-test.false c.loop-kid.invariant)) ∙ c.self.view_is
