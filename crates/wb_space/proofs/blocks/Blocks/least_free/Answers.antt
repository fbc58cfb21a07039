use Rattle.std.proofs.Common.{ap, ◌∙◌}
use Rattle.std.specs.List.{position}
use Rattle.wb_space.specs.Blocks.{is_free}
use Rattle.wb_bits.proofs.Chosen.{position-map, first_small}
use Rattle.wb_space.proofs.blocks.Blocks.least_free.Goals as goal

pub returns-clause-value : goal.returns-clause-value
returns-clause-value c = c.least.ensures ∙ ap (position (λ b. b)) c.self.invariant.free ∙ position-map is_free c.self.inside.states.items ∙ ap (position is_free) c.self.view_is

pub returns-clause-small : goal.returns-clause-small
returns-clause-small c = first_small is_free c.self.inside.states.items c.least.result (c.least.ensures ∙ ap (position (λ b. b)) c.self.invariant.free ∙ position-map is_free c.self.inside.states.items) c.self.invariant.small
