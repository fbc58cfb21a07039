use Rattle.wb_checks.proofs.Pieces.{before_on, failed_io, same_block_more, same_blocks, sizes_on}
use Rattle.wb_checks.proofs.stale.first_stale.Goals as goal

pub returns-in_err-is_same_on_both-clause-refused : goal.returns-in_err-is_same_on_both-clause-refused
returns-in_err-is_same_on_both-clause-refused g c =
    failed_io c.from_residual-in_err-is_same_on_both.result c.in_err-is_same_on_both.field-0.0 c.from_residual-in_err-is_same_on_both.ensures.1 c.in_err-is_same_on_both.ensures.refused

pub blocks-2-preserved : goal.blocks-2-preserved
blocks-2-preserved g c = record {
  sizes = sizes_on g.D.Disk.size c.args.devices.now c.blocks-2.devices c.is_same_on_both.new.devices c.blocks-2.invariant.sizes c.in_ok-is_same_on_both.ensures.sizes;
  kept = λ tells. before_on g.D.Disk.contents c.args.devices.now c.blocks-2.devices c.is_same_on_both.new.devices (c.blocks-2.invariant.kept tells) (c.in_ok-is_same_on_both.ensures.kept tells);
  same = λ tells.
      let before = c.blocks-2.invariant.kept tells in
      let held = g.D.Disk.contents in
      same_block_more (held c.args.devices.now.cache) (held c.args.devices.now.origin) (held c.blocks-2.devices.cache) (held c.blocks-2.devices.origin) c.args.size c.args.drawn.now
      c.blocks-2.block-index _ c.in_ok-is_same_on_both.field-0 before.cache before.origin c.blocks-2-test.true c.if-not-branch.false (c.blocks-2.invariant.same tells)
      (c.in_ok-is_same_on_both.ensures.same tells);
  left = c.blocks-2.invariant.left;
  right = c.blocks-2.invariant.right;
}

pub returns-clause-none : goal.returns-clause-none
returns-clause-none g c = λ tells.
    same_blocks (g.D.Disk.contents c.args.devices.now.cache) (g.D.Disk.contents c.args.devices.now.origin) c.args.size c.args.drawn.now c.blocks-2.block-index c.blocks-2-test.false
    (c.blocks-2.invariant.same tells)
