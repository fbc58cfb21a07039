use Rattle.std.proofs.Common.{arith}
use Rattle.std.proofs.lemmas.List.{length-take-le}
use Rattle.wb_checks.proofs.Pieces.{before_on, same_more, sizes_on}
use Rattle.wb_checks.proofs.comparing.is_same_on_both.Goals as goal

pub pieces-preserved : goal.pieces-preserved
pieces-preserved g c = record {
  within = omega arith;
  sizes = sizes_on g.D.Disk.size c.args.devices.now c.pieces.devices c.is_same_piece.new.devices c.pieces.invariant.sizes c.in_ok-is_same_piece.ensures.sizes;
  kept = λ tells. before_on g.D.Disk.contents c.args.devices.now c.pieces.devices c.is_same_piece.new.devices (c.pieces.invariant.kept tells) (c.in_ok-is_same_piece.ensures.kept tells);
  same = λ tells.
      let before = c.pieces.invariant.kept tells in
      let one = g.D.Disk.contents in
      same_more (one c.args.devices.now.cache) (one c.args.devices.now.origin) (one c.pieces.devices.cache) (one c.pieces.devices.origin) c.start-cache.result c.start-origin.result
      c.pieces.done c.from-from.result c.min-count.result _ before.cache before.origin c.from-from.ensures (length-take-le c.min-count.result c.pieces.left (omega arith)) (c.pieces.invariant.same tells) ((c.in_ok-is_same_piece.ensures.same tells).0 c.if-not-branch.false);
}
