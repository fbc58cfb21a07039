use Rattle.std.proofs.Common.{◌<◌, ◌/◌, ◌^◌, ◌-◌, ◌∙◌, sym, ap, subst, arith, length}
use Rattle.wb_types.specs.Limits.{depth_of}
use Rattle.wb_tree.specs.Mapping.{Mapping}
use Rattle.wb_tree.specs.Planning.{levels}
use Rattle.wb_tree.proofs.Branching.Known.{few-entries, index-above}
use Rattle.wb_tree.proofs.Branching.Settled.{levels-boxes}
use Rattle.wb_tree.proofs.tree.Tree.place_above.Goals as goal

pub look-requires-clause-index : goal.look-requires-clause-index
look-requires-clause-index g c =
    let b = c.self.inside in
    let m = c.args.self.now in
    let deep = sym (levels-boxes b.cache_blocks b.depth b.root c.self.invariant.boxes) ∙ ap (λ (n : Mapping). levels n) c.self.view_is in
    let few = few-entries b.cache_blocks b.depth b.root m c.self.invariant.boxes c.self.view_is in
    subst (λ s. c.args.block / s < 32 ^ (depth_of (length m.entries) - c.args.level)) (sym c.span_of.ensures.value)
    (index-above m.entries c.args.block c.args.level few c.requires.block (omega (arith, deep, c.if-level-self.false)))
