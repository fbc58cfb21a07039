use Rattle.std.proofs.Common.{[], ap}
use Rattle.std.proofs.lemmas.Result.{IfOk-weaker}
use Rattle.wb_target.specs.Carried.{share_of}
use Rattle.wb_target.proofs.Syncing.{synced_after}
use Rattle.wb_target.proofs.client.Client.flush.Goals as goal

pub returns-clause-synced : goal.returns-clause-synced
returns-clause-synced g c = IfOk-weaker c.flush.result _ _ (λ flushed done led. synced_after g.D.Disk.tells g.D.Disk.size g.D.Disk.contents g.D.Disk.faults g.P.Policy.with_entry g.P.Policy.without_entry [] _ _ _ (share_of flushed) _ _ done (ap share_of led)) c.flush.ensures.done
