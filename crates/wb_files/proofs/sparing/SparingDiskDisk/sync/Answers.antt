use Rattle.wb_files.proofs.Syncing.{synced_again}
use Rattle.wb_files.proofs.sparing.SparingDiskDisk.sync.Goals as goal

pub invariant_of-self-in-Ok : goal.invariant_of-self-in-Ok
invariant_of-self-in-Ok g c = record { kept = λ tells alone covered. synced_again _ _ (c.in-Ok.ensures.ok tells) }
