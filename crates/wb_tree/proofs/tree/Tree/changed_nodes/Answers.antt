use Rattle.std.proofs.Common.{◌≡◌, ◌∙◌, sym, ap, length}
use Rattle.wb_tree.specs.Mapping.{Mapping, changed}
use Rattle.wb_tree.specs.Planning.{levels}
use Rattle.wb_tree.proofs.Branching.Settled.{levels-boxes}
use Rattle.wb_tree.proofs.tree.Tree.changed_nodes.Goals as goal

pub returns : goal.returns
returns g c =
    let b = c.self.inside in
    let deep : b.depth ≡ levels c.args.self.now = sym (levels-boxes b.cache_blocks b.depth b.root c.self.invariant.boxes) ∙ ap (λ (n : Mapping). levels n) c.self.view_is in
    c.count_changed.ensures.count ∙ ap (λ d. length (changed c.args.self.now d)) deep
