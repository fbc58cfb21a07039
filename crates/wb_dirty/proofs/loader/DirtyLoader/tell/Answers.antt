use Rattle.std.proofs.Common.{◌≡◌, ◌∙◌, sym, ap, subst, Some, false}
use Rattle.wb_tree.proofs.Reading.LoaderSteps.{handed_wrong}
use Rattle.wb_dirty.specs.Reading.{is_dirty_node}
use Rattle.wb_dirty.specs.Loading.{DirtyLoading, outcome_of}
use Rattle.wb_dirty.proofs.Loads.{outcome-wrong}
use Rattle.wb_dirty.proofs.loader.DirtyLoader.tell.Goals as goal

pub returns-in_err-node-clause-err : goal.returns-in_err-node-clause-err
returns-in_err-node-clause-err c =
    let here : c.args.self.wanted ≡ Some c.in-Some.wanted = sym (ap (λ (m : DirtyLoading). m.wanted) c.self.view_is) ∙ c.in-Some.is in
    let w = c.in-Some.wanted in
    handed_wrong c.from_residual.result c.in_err-node.field-0.0 c.args.self.wanted w c.args.node (λ n node. is_dirty_node c.args.self.asked.root n.level n.index node) (outcome_of c.args.self) c.from_residual.ensures.1 here c.in_err-node.ensures.refused
    (λ node some. subst (λ (m : DirtyLoading). is_dirty_node m.asked.root w.level w.index node ≡ false) c.self.view_is (c.in_err-node.ensures.other node some)) (outcome-wrong c.args.self)
