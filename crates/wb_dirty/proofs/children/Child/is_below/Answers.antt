use Rattle.std.proofs.Common.{◌≤◌, ◌∙◌, sym, arith}
use Rattle.std.proofs.lemmas.Bool.{le-ltb}
use Rattle.wb_dirty.proofs.Steps.{first_past}
use Rattle.wb_dirty.proofs.children.Child.is_below.Goals as goal

pub returns-else-self-from : goal.returns-else-self-from
returns-else-self-from c =
    let past : c.args.cache_blocks ≤ c.args.self.now.index = omega (arith, c.if-self-from.false, c.from.ensures) in
    let after : c.from.result ≤ c.args.self.now.index = omega (arith, c.if-self-from.false) in
    le-ltb c.args.self.now.index c.from.result after ∙ sym (first_past c.args.self.now.index c.args.self.now.level c.args.cache_blocks past)
