use Rattle.wb_meta.proofs.CleanImaging.{image_places, may_commit_bits}
use Rattle.wb_meta.proofs.Imaging.{may_commit, come_next, failed_next, done_next}
use Rattle.wb_meta.proofs.law.image_law.Goals as goal

pub returns-clause-places : goal.returns-clause-places
returns-clause-places c = image_places

pub returns-clause-may : goal.returns-clause-may
returns-clause-may c = may_commit

pub returns-clause-with_bits : goal.returns-clause-with_bits
returns-clause-with_bits c bits m n plan image device old marked next = may_commit_bits bits m n plan image device old marked next

pub returns-clause-during : goal.returns-clause-during
returns-clause-during c m n plan image device now steps old next = come_next m n plan image device old next now steps

pub returns-clause-failed : goal.returns-clause-failed
returns-clause-failed c m n plan image device now steps old next = failed_next m n plan image device old next now steps

pub returns-clause-done : goal.returns-clause-done
returns-clause-done c m n plan image device now old next = done_next m n plan image device old next now
