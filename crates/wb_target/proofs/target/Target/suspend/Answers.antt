use Rattle.std.proofs.lemmas.Result.{on_ok_weaker}
use Rattle.wb_tasks.specs.declared.step.Answer.TheVariants.{Done}
use Rattle.wb_target.specs.Suspends.{WasSuspended}
use Rattle.wb_target.proofs.Suspends.{synced_then}
use Rattle.wb_target.proofs.target.Target.suspend.Goals as goal

pub returns-clause-synced : goal.returns-clause-synced
returns-clause-synced g c =
    on_ok_weaker c.suspend.result.1
    (λ (w : WasSuspended c.deref_mut.result.now.watch.pass c.deref_mut.result.now.desk g.D.Disk.tells g.D.Disk.size g.D.Disk.contents g.D.Disk.faults g.P.Policy.hint_of g.P.Policy.with_entry g.P.Policy.without_entry c.args.devices Done c.suspend.result.0) told. synced_then g.D.Disk.tells g.D.Disk.size g.D.Disk.contents g.D.Disk.faults g.P.Policy.hint_of g.P.Policy.with_entry g.P.Policy.without_entry _ _ c.args.devices c.suspend.result.0 told w)
    c.suspend.ensures.suspended

pub returns-clause-clients : goal.returns-clause-clients
returns-clause-clients g c = (c.deref_mut.result.now, c.suspend.ensures.clients)

pub returns-clause-refused : goal.returns-clause-refused
returns-clause-refused g c = (c.deref_mut.result.now, c.suspend.ensures.refused)

pub returns-clause-suspended : goal.returns-clause-suspended
returns-clause-suspended g c = (c.deref_mut.result.now, c.suspend.ensures.suspended)
