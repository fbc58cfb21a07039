use Rattle.std.proofs.Common.{[], ◌∙◌, Some, None, length, sym, subst}
use Rattle.wb_types.specs.declared.refusal.Refusal.TheVariants.{Busy}
use Rattle.wb_target.specs.Works.{WasAsked}
use Rattle.wb_target.specs.Blocking.{WriteCame, CameTo}
use Rattle.wb_target.proofs.Tries.{again}
use Rattle.wb_target.proofs.client.Client.write_block.Goals as goal

pub loop-preserved : goal.loop-preserved
loop-preserved g c = record {
  target = c.write_once.ensures.target ∙ c.loop.invariant.target;
  geometry = c.write_once.ensures.geometry ∙ c.loop.invariant.geometry;
  settled = c.in-Err.ensures.kept ∙ c.loop.invariant.settled;
  tried = again (WriteCame g.D.Disk.tells g.D.Disk.size g.D.Disk.contents g.D.Disk.faults (WasAsked g.P.Policy.with_entry g.P.Policy.without_entry []) c.args.self.now.port.geometry (Some Busy) (record { first = c.args.at.0; count = length c.args.from.now })) (c.args.self.now.port.hand, c.args.from.now) (c.loop.self.port.hand, c.args.from.now) (c.write_once.new.self.port.hand, c.args.from.now) c.loop.invariant.tried
      (subst (λ refusal. WriteCame g.D.Disk.tells g.D.Disk.size g.D.Disk.contents g.D.Disk.faults (WasAsked g.P.Policy.with_entry g.P.Policy.without_entry []) c.args.self.now.port.geometry (Some refusal) (record { first = c.args.at.0; count = length c.args.from.now }) (c.loop.self.port.hand, c.args.from.now) (c.write_once.new.self.port.hand, c.args.from.now)) c.if-is_busy.ensures.busy
      (subst (λ geometry. WriteCame g.D.Disk.tells g.D.Disk.size g.D.Disk.contents g.D.Disk.faults (WasAsked g.P.Policy.with_entry g.P.Policy.without_entry []) geometry (Some c.in-Err.refusal) (record { first = c.args.at.0; count = length c.args.from.now }) (c.loop.self.port.hand, c.args.from.now) (c.write_once.new.self.port.hand, c.args.from.now)) c.loop.invariant.geometry c.in-Err.ensures.refused.1));
}

pub returns-in-Err-clause-waits : goal.returns-in-Err-clause-waits
returns-in-Err-clause-waits g c = c.if-is_busy.ensures.other

pub returns-in-Err-clause-refused : goal.returns-in-Err-clause-refused
returns-in-Err-clause-refused g c = (
  c.in-Err.ensures.refused.0,
  record {
    tries = c.loop.invariant.tried.0;
    before = (c.loop.self.port.hand, c.args.from.now);
    tried = c.loop.invariant.tried.1;
    ended = subst (λ geometry. WriteCame g.D.Disk.tells g.D.Disk.size g.D.Disk.contents g.D.Disk.faults (WasAsked g.P.Policy.with_entry g.P.Policy.without_entry []) geometry (Some c.in-Err.refusal) (record { first = c.args.at.0; count = length c.args.from.now }) (c.loop.self.port.hand, c.args.from.now) (c.write_once.new.self.port.hand, c.args.from.now)) c.loop.invariant.geometry c.in-Err.ensures.refused.1;
  },
)

pub returns-in-Ok-clause-written : goal.returns-in-Ok-clause-written
returns-in-Ok-clause-written g c =
    subst (λ hand. CameTo (WriteCame g.D.Disk.tells g.D.Disk.size g.D.Disk.contents g.D.Disk.faults (WasAsked g.P.Policy.with_entry g.P.Policy.without_entry []) c.args.self.now.port.geometry) None (record { first = c.args.at.0; count = length c.args.from.now }) (c.args.self.now.port.hand, c.args.from.now) (hand, c.args.from.now)) (sym c.settle-in-Ok.ensures.hand) (record {
      tries = c.loop.invariant.tried.0;
      before = (c.loop.self.port.hand, c.args.from.now);
      tried = c.loop.invariant.tried.1;
      ended = subst (λ geometry. WriteCame g.D.Disk.tells g.D.Disk.size g.D.Disk.contents g.D.Disk.faults (WasAsked g.P.Policy.with_entry g.P.Policy.without_entry []) geometry None (record { first = c.args.at.0; count = length c.args.from.now }) (c.loop.self.port.hand, c.args.from.now) (c.write_once.new.self.port.hand, c.args.from.now)) c.loop.invariant.geometry c.in-Ok.ensures.written;
    })
