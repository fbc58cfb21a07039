use Rattle.std.proofs.Common.{◌∙◌, List, Some, None, length, sym, ap, subst}
use Rattle.wb_types.specs.declared.refusal.Refusal.TheVariants.{Busy}
use Rattle.wb_target.specs.Blocking.{ReadCame, CameTo}
use Rattle.wb_target.proofs.Tries.{again}
use Rattle.wb_target.proofs.Trying.{read_refused, was_read, not_range}
use Rattle.wb_target.proofs.client.Client.read_block.Goals as goal

pub loop-preserved : goal.loop-preserved
loop-preserved g c = record {
  target = c.loop.invariant.target;
  geometry = c.try_read.ensures.geometry ∙ c.loop.invariant.geometry;
  settled = ap (λ accesses. accesses.items) c.in-Err.ensures.kept ∙ c.loop.invariant.settled;
  many = c.try_read.ensures.many ∙ c.loop.invariant.many;
  tried = again (ReadCame g.D.Disk.tells g.D.Disk.size g.D.Disk.contents g.D.Disk.faults c.args.self.now.port.geometry (Some Busy) (record { first = c.args.at.0; count = length c.args.out.now })) (c.args.self.now.port.hand, c.args.out.now) (c.loop.self.port.hand, c.loop.out) (c.try_read.new.self.hand, c.try_read.new.out) c.loop.invariant.tried
      (subst (λ refusal. ReadCame g.D.Disk.tells g.D.Disk.size g.D.Disk.contents g.D.Disk.faults c.args.self.now.port.geometry (Some refusal) (record { first = c.args.at.0; count = length c.args.out.now }) (c.loop.self.port.hand, c.loop.out) (c.try_read.new.self.hand, c.try_read.new.out)) c.if-is_busy.ensures.busy
      (read_refused g.D.Disk.tells g.D.Disk.size g.D.Disk.contents g.D.Disk.faults c.loop.self.port c.try_read.new.self c.args.self.now.port.geometry c.loop.invariant.geometry c.loop.self.port.sized (ap (λ (xs : List _). length xs) c.loop.invariant.settled) c.args.at.0 (length c.args.out.now) c.requires.inside c.requires.fits c.loop.out c.try_read.new.out c.in-Err.refusal c.loop.invariant.many c.in-Err.ensures.refused));
}

pub returns-in-Err-clause-waits : goal.returns-in-Err-clause-waits
returns-in-Err-clause-waits g c = c.if-is_busy.ensures.other

pub returns-in-Err-clause-refused : goal.returns-in-Err-clause-refused
returns-in-Err-clause-refused g c = (
  not_range c.args.self.now.port.geometry c.loop.self.port.geometry c.args.at.0 (length c.args.out.now) (length c.loop.out) c.in-Err.refusal c.loop.invariant.geometry c.loop.invariant.many c.requires.inside c.in-Err.ensures.range,
  record {
    tries = c.loop.invariant.tried.0;
    before = (c.loop.self.port.hand, c.loop.out);
    tried = c.loop.invariant.tried.1;
    ended = read_refused g.D.Disk.tells g.D.Disk.size g.D.Disk.contents g.D.Disk.faults c.loop.self.port c.try_read.new.self c.args.self.now.port.geometry c.loop.invariant.geometry c.loop.self.port.sized (ap (λ (xs : List _). length xs) c.loop.invariant.settled) c.args.at.0 (length c.args.out.now) c.requires.inside c.requires.fits c.loop.out c.try_read.new.out c.in-Err.refusal c.loop.invariant.many c.in-Err.ensures.refused;
  },
)

pub returns-in-Ok-clause-read : goal.returns-in-Ok-clause-read
returns-in-Ok-clause-read g c =
    subst (λ hand. CameTo (ReadCame g.D.Disk.tells g.D.Disk.size g.D.Disk.contents g.D.Disk.faults c.args.self.now.port.geometry) None (record { first = c.args.at.0; count = length c.args.out.now }) (c.args.self.now.port.hand, c.args.out.now) (hand, c.try_read.new.out)) (sym c.settle-in-Ok.ensures.hand) (record {
      tries = c.loop.invariant.tried.0;
      before = (c.loop.self.port.hand, c.loop.out);
      tried = c.loop.invariant.tried.1;
      ended = was_read g.D.Disk.tells g.D.Disk.size g.D.Disk.contents g.D.Disk.faults c.loop.self.port c.try_read.new.self c.args.self.now.port.geometry c.loop.invariant.geometry c.loop.self.port.sized (ap (λ (xs : List _). length xs) c.loop.invariant.settled) c.args.at.0 (length c.args.out.now) c.requires.inside c.requires.fits c.loop.out c.try_read.new.out c.loop.invariant.many c.in-Ok.ensures.read;
    })
