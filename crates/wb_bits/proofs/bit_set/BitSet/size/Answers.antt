use Rattle.std.proofs.Common.{length, sym, ap, ◌∙◌}
use Rattle.wb_bits.specs.Deeper.{length-members}
use Rattle.wb_bits.proofs.bit_set.BitSet.size.Goals as goal

pub returns : goal.returns
returns c = sym (length-members c.self.inside.bound c.self.inside.words.items) ∙ ap length c.self.view_is
