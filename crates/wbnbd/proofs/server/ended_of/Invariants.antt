use Rattle.std.proofs.Common.{◌≡◌, None, drop}
use Rattle.std.specs.Prelude.{All}
use Rattle.wbnbd.specs.Endings.{DidServe, EndedWell}
use Rattle.wbnbd.proofs.server.ended_of.Given as goal

abbrev pub invariant-loop-one : goal.invariant-loop-one
invariant-loop-one l = record {
  well : l.refused ≡ None → All EndedWell (drop l.one-index l.told) → All EndedWell l.told;
  served : l.unserved ≡ None → DidServe l.told;
}
