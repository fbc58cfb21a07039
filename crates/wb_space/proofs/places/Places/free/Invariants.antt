use Rattle.std.proofs.Common.{◌-◌, length}
use Rattle.wb_space.proofs.Listing.{AreListed}
use Rattle.wb_space.proofs.places.Places.free.Given as goal

abbrev pub invariant-loop-at : goal.invariant-loop-at
invariant-loop-at l = AreListed l.self.in_use l.n l.from l.places.items

abbrev pub decreases-loop-at : goal.decreases-loop-at
decreases-loop-at l = length l.self.in_use.committed - l.from
