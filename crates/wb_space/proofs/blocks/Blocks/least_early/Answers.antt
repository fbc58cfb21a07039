use Rattle.std.proofs.Common.{ap, ◌∙◌}
use Rattle.std.specs.List.{position}
use Rattle.wb_space.specs.Blocks.{is_early}
use Rattle.wb_bits.proofs.Chosen.{position-map}
use Rattle.wb_space.proofs.blocks.Blocks.least_early.Goals as goal

pub returns : goal.returns
returns c = c.least.ensures ∙ ap (position (λ b. b)) c.self.invariant.early ∙ position-map is_early c.self.inside.states.items ∙ ap (position is_early) c.self.view_is
