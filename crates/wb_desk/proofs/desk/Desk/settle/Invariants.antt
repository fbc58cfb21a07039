use Rattle.std.proofs.Common.{drop}
use Rattle.wb_desk.specs.Desks.{DeskState}
use Rattle.wb_desk.specs.Safety.{ComesByCalls}
use Rattle.wb_desk.specs.Settling.{AreSettled}
use Rattle.wb_desk.proofs.desk.Desk.settle.Given as goal

-- The desk comes from the first one by decisions. What the accesses that are left make of the desk, all make of the first one.
abbrev pub invariant-loop-block : goal.invariant-loop-block
invariant-loop-block g l = record {
  calls : ComesByCalls g.P.Policy.knows l.fn.self l.self;
  settled : (new : DeskState _) → AreSettled g.P.Policy.ordered g.P.Policy.settled l.self (drop l.block-index l.blocks) new
      → AreSettled g.P.Policy.ordered g.P.Policy.settled l.fn.self l.blocks new;
}
