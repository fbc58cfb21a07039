use Rattle.std.proofs.Common.{◌≡◌, ◌+◌, ◌-◌}
use Rattle.wb_desk.specs.Desks.{DeskState}
use Rattle.wb_desk.specs.Safety.{ComesByCalls}
use Rattle.wb_desk.specs.Settling.{IsTicked}
use Rattle.wb_desk.proofs.desk.Desk.tick.Given as goal

-- The mapping stays, and the desk comes from the first one by decisions. What is left of the tick makes of the desk, all of it makes of the first one.
abbrev pub invariant-loop-given : goal.invariant-loop-given
invariant-loop-given g l = record {
  tree : l.self.tree ≡ l.fn.self.tree;
  calls : ComesByCalls g.P.Policy.knows l.fn.self l.self;
  told : (new : DeskState _) → IsTicked g.P.Policy.cleaned g.P.Policy.ticked l.dirty (l.fn.self.geometry.cache_blocks + 1 - l.given) l.given l.self new
      → IsTicked g.P.Policy.cleaned g.P.Policy.ticked l.dirty (l.fn.self.geometry.cache_blocks + 1) 0 l.fn.self new;
}
