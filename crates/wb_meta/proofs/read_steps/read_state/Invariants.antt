use Rattle.std.proofs.Common.{◌≡◌, map}
use Rattle.wb_disk.specs.Device.{newest}
use Rattle.wb_meta.specs.Reads.{AreStepsOn, HasRead, steps_left}
use Rattle.wb_meta.proofs.read_steps.read_state.Given as goal

abbrev pub invariant-loop-steps : goal.invariant-loop-steps
invariant-loop-steps g l =
    let contents = g.D.Disk.contents in
    record {
      size : g.D.Disk.size l.disk ≡ g.D.Disk.size l.fn.disk;
      stored : g.D.Disk.tells → contents l.disk ≡ contents l.fn.disk;
      on : AreStepsOn (g.D.Disk.size l.fn.disk) l.steps;
      read : g.D.Disk.tells → HasRead (map newest (contents l.fn.disk)) l.steps;
      no_fault : g.D.Disk.tells → g.D.Disk.faults l.disk ≡ g.D.Disk.faults l.fn.disk;
    }

abbrev pub decreases-loop-steps : goal.decreases-loop-steps
decreases-loop-steps g l = steps_left (g.D.Disk.size l.fn.disk) l.steps
