use Rattle.std.proofs.Common.{◌∙◌, map, arith, subst, List, ℕ}
use Rattle.std.specs.Prelude.{IfSome}
use Rattle.wb_types.specs.Limits.{depth_of}
use Rattle.wb_types.specs.declared.entry.Entry.{Entry}
use Rattle.wb_disk.specs.Device.{newest, History}
use Rattle.wb_checks.specs.Samples.{Leads}
use Rattle.wb_checks.proofs.Drawing.{still_clean}
use Rattle.wb_checks.proofs.walk.draw_by_walks.Goals as goal

pub walks-preserved : goal.walks-preserved
walks-preserved g c = record {
  size = c.entry_below.ensures.size ∙ c.walks.invariant.size;
  same = λ t. c.entry_below.ensures.same t ∙ c.walks.invariant.same t;
  no_fault = λ t. c.in_ok-entry.ensures.no_fault t ∙ c.walks.invariant.no_fault t;
  most = omega arith;
  clean = λ t is_newest.
      let leads = subst (λ (d : ℕ). IfSome c.in_ok-entry.entry (λ (entry : Entry). Leads c.args.root.now (map newest (g.D.Disk.contents c.walks.metadata)) c.draw_below.result entry d c.in-Some.top.0)) c.depth.ensures.value (c.in_ok-entry.ensures.leads t) in
      still_clean (map newest (g.D.Disk.contents c.args.metadata.now)) c.args.root.now c.in-Some.top _ c.in_ok-entry.entry c.walks.drawn.items c.take_in.new.drawn.items
      is_newest c.requires.flag c.requires.no_bits c.in-Some.is
      (subst (λ (device : List History). IfSome c.in_ok-entry.entry (λ (entry : Entry). Leads c.args.root.now (map newest device) c.draw_below.result entry (depth_of c.args.root.now.geometry.cache_blocks) c.in-Some.top.0)) (c.walks.invariant.same t) leads)
      c.in_ok-take_in.ensures.taken (c.walks.invariant.clean t is_newest);
}
