use Rattle.std.proofs.Common.{arith}
use Rattle.wb_space.proofs.Listing.{listed_next, none_left}
use Rattle.wb_space.proofs.places.Places.free.Goals as goal

pub loop-at-preserved : goal.loop-at-preserved
loop-at-preserved c = rw c.in_ok-push.ensures.items (listed_next c.args.self.now.in_use c.args.n c.loop-at.from c.in-Some.at c.loop-at.places.items
    c.in-Some.ensures.inside (omega (arith, c.loop-at-test.true, c.len.ensures)) c.in-Some.ensures.found c.loop-at.invariant)

pub returns-in_default : goal.returns-in_default
returns-in_default c = none_left c.args.self.now.in_use c.args.n c.loop-at.from c.loop-at.places.items c.in_default.ensures.none c.loop-at.invariant
