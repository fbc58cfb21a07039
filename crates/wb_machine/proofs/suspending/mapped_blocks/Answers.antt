use Rattle.std.proofs.Common.{◌+◌, List, ap, arith, subst, sym}
use Rattle.wb_types.specs.declared.geometry.Geometry.{Geometry}
use Rattle.wb_types.specs.declared.number.OBlock.{OBlock}
use Rattle.wb_machine.proofs.Mapped.{AreListed, all_listed, listed_next, none_listed}
use Rattle.wb_machine.proofs.suspending.mapped_blocks.Goals as goal

pub loop-c-init : goal.loop-c-init
loop-c-init g c = subst (λ (bs : List OBlock). AreListed c.args.desk.now.tree.entries 0 bs) (sym c.new-blocks.ensures.items) (none_listed c.args.desk.now.tree.entries)

pub loop-c-preserved : goal.loop-c-preserved
loop-c-preserved g c = subst (λ (bs : List OBlock). AreListed c.args.desk.now.tree.entries (c.loop-c.c + 1) bs) (sym c.in_ok-list.ensures.ok) (listed_next c.args.desk.now.tree.entries c.loop-c.c c.loop-c.blocks.items _ c.entry.ensures c.loop-c.invariant)

pub returns-clause-ok : goal.returns-clause-ok
returns-clause-ok g c = all_listed c.args.desk.now c.args.desk.now.geometry.cache_blocks c.args.desk.now.geometry.origin_blocks c.loop-c.c c.loop-c.blocks.items c.see_desk.ensures.mapping (omega (arith, c.loop-c-test.false, ap (λ (x : Geometry). x.cache_blocks) c.geometry-c-end.ensures)) c.loop-c.invariant
