use Rattle.std.proofs.Common.{◌≡◌, ◌∙◌, sym, ap, subst, Some, false}
use Rattle.std.proofs.lemmas.Result.{IfOk-weaker}
use Rattle.wb_tree.specs.declared.placed.PlacedNode.{PlacedNode}
use Rattle.wb_tree.specs.Reading.{is_node_of}
use Rattle.wb_tree.specs.Loading.{Loading, outcome}
use Rattle.wb_tree.proofs.Reading.LoaderSteps.{outcome-wrong, handed_wrong, same_wanted}
use Rattle.wb_tree.proofs.loader.Loader.tell.Goals as goal

pub returns-in_err-node-clause-err : goal.returns-in_err-node-clause-err
returns-in_err-node-clause-err g c =
    let here : c.args.self.wanted ≡ Some c.in-Some.wanted = sym (ap (λ (m : Loading). m.wanted) c.self.view_is) ∙ c.in-Some.is in
    let w = c.in-Some.wanted in
    handed_wrong c.from_residual.result c.in_err-node.field-0.0 c.args.self.wanted w c.args.node (λ n node. is_node_of c.args.self.root n.level n.index node) (outcome c.args.self) c.from_residual.ensures.1 here c.in_err-node.ensures.refused
    (λ node some. subst (λ (m : Loading). is_node_of m.root w.level w.index node ≡ false) c.self.view_is (c.in_err-node.ensures.other node some)) (outcome-wrong c.args.self)

pub returns-clause-goes_on : goal.returns-clause-goes_on
returns-clause-goes_on g c =
    let here : c.args.self.wanted ≡ Some c.in-Some.wanted = sym (ap (λ (m : Loading). m.wanted) c.self.view_is) ∙ c.in-Some.is in
    IfOk-weaker c.enter.result _ _
    (λ l h wanted nodes e told. h nodes (ap (λ (w : PlacedNode). nodes w.place.0) (same_wanted c.in-Some.wanted wanted (sym here ∙ e)) ∙ (told ∙ c.in_ok-node.ensures.told))) c.enter.ensures.goes_on
