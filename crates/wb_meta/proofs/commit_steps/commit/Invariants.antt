use Rattle.std.proofs.Common.{◌≡◌, length}
use Rattle.wb_meta.specs.Commits.{CommitHasCome, steps_left}
use Rattle.wb_meta.proofs.commit_steps.commit.Given as goal

abbrev pub invariant-loop-steps : goal.invariant-loop-steps
invariant-loop-steps g l =
    (g.D.Disk.size l.disk ≡ g.D.Disk.size l.fn.disk)
    × (g.D.Disk.tells → CommitHasCome l.fn.image (g.D.Disk.contents l.fn.disk) l.steps (g.D.Disk.contents l.disk))
    × (g.D.Disk.tells → g.D.Disk.faults l.disk ≡ g.D.Disk.faults l.fn.disk)

abbrev pub decreases-loop-steps : goal.decreases-loop-steps
decreases-loop-steps g l = steps_left (length l.fn.image.nodes.items) l.steps
