use Rattle.std.proofs.Common.{◌+◌, ◌-◌, ◌∙◌, ap, ℕ, min, length, take, drop}
use Rattle.wb_tree.proofs.Nodes.Parts.{part-is}
use Rattle.wb_tree.proofs.below.part_of.Goals as goal

pub returns : goal.returns
returns c =
    ap (λ (e : ℕ). take (e - c.min.result) (drop c.min.result c.args.entries.now)) c.min-end.ensures
    ∙ (ap (λ (m : ℕ). take (min (c.args.first + c.args.count) (length c.args.entries.now) - m) (drop m c.args.entries.now)) c.min.ensures
    ∙ part-is c.args.entries.now c.args.first c.args.count)
