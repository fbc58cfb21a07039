use Rattle.std.proofs.Common.{◌≡◌, ◌+◌, ◌-◌, ◌∙◌, inr, Some, None, length, take, drop, subst, arith}
use Rattle.std.proofs.lemmas.Slice.{take-put_mid_below, drop-put_mid, between-put_mid}
use borrow.Rule.Slice.PartMut.{put_mid}
use Rattle.wb_target.specs.Blocking.{ReadCame, CameTo}
use Rattle.wb_target.proofs.Parts.{part_done, part_refused, all_done, taken, placed_many}
use Rattle.wb_target.proofs.client.Client.read.Goals as goal

pub returns-in-Err-clause-stopped : goal.returns-in-Err-clause-stopped
returns-in-Err-clause-stopped g c =
    let out = c.loop-from.out in
    let from = c.loop-from.from in
    let end = c.part_end-end.result in
    let e = c.part_end-end.ensures in
    let ys = c.read_block.new.out in
    let many : length ys ≡ end - from = c.read_block.ensures.many ∙ taken from end out e.later e.within in
    inr (
      c.in_ok-in_range.ensures.inside,
      c.in-Err.ensures.refused.0,
      part_refused (ReadCame g.D.Disk.tells g.D.Disk.size g.D.Disk.contents g.D.Disk.faults c.args.self.now.port.geometry) c.args.self.now.port.geometry.block c.args.at.0 c.args.self.now.port.hand c.args.out.now c.loop-from.done c.loop-from.from c.loop-from.self.port.hand c.loop-from.out c.loop-from.invariant.parts c.read_block.new.self.port.hand (put_mid from (end - from) out ys) ys _ end c.from-size.ensures e.end e.later e.within (take-put_mid_below from (end - from) out ys from (omega arith) (omega (arith, e.later, e.within))) (drop-put_mid from (end - from) out ys end (omega (arith, e.later)) (omega (arith, e.later, e.within)) many) (between-put_mid from (end - from) out ys end (omega (arith, e.later, e.within)) many) c.in-Err.refusal
          (subst (λ geometry. CameTo (ReadCame g.D.Disk.tells g.D.Disk.size g.D.Disk.contents g.D.Disk.faults geometry) (Some c.in-Err.refusal) (record { first = c.args.at.0 + from; count = length (take (end - from) (drop from out)) }) (c.loop-from.self.port.hand, take (end - from) (drop from out)) (c.read_block.new.self.port.hand, ys)) c.loop-from.invariant.geometry c.in-Err.ensures.refused.1),
    )

pub loop-from-preserved : goal.loop-from-preserved
loop-from-preserved g c =
    let out = c.loop-from.out in
    let from = c.loop-from.from in
    let end = c.part_end-end.result in
    let e = c.part_end-end.ensures in
    let ys = c.read_block.new.out in
    let many : length ys ≡ end - from = c.read_block.ensures.many ∙ taken from end out e.later e.within in
    record {
      target = c.read_block.ensures.target ∙ c.loop-from.invariant.target;
      geometry = c.read_block.ensures.geometry ∙ c.loop-from.invariant.geometry;
      many = placed_many from end out ys e.later e.within many ∙ c.loop-from.invariant.many;
      within = omega (arith, e.within, c.loop-from.invariant.many);
      done = omega (arith, c.loop-from.invariant.done, e.later);
      parts = part_done (ReadCame g.D.Disk.tells g.D.Disk.size g.D.Disk.contents g.D.Disk.faults c.args.self.now.port.geometry) c.args.self.now.port.geometry.block c.args.at.0 c.args.self.now.port.hand c.args.out.now c.loop-from.done c.loop-from.from c.loop-from.self.port.hand c.loop-from.out c.loop-from.invariant.parts c.read_block.new.self.port.hand (put_mid from (end - from) out ys) ys _ end c.from-size.ensures e.end e.later e.within (take-put_mid_below from (end - from) out ys from (omega arith) (omega (arith, e.later, e.within))) (drop-put_mid from (end - from) out ys end (omega (arith, e.later)) (omega (arith, e.later, e.within)) many) (between-put_mid from (end - from) out ys end (omega (arith, e.later, e.within)) many)
          (subst (λ geometry. CameTo (ReadCame g.D.Disk.tells g.D.Disk.size g.D.Disk.contents g.D.Disk.faults geometry) None (record { first = c.args.at.0 + from; count = length (take (end - from) (drop from out)) }) (c.loop-from.self.port.hand, take (end - from) (drop from out)) (c.read_block.new.self.port.hand, ys)) c.loop-from.invariant.geometry c.in-Ok.ensures.read);
    }

pub returns-clause-read : goal.returns-clause-read
returns-clause-read g c = (c.loop-from.done, all_done (ReadCame g.D.Disk.tells g.D.Disk.size g.D.Disk.contents g.D.Disk.faults c.args.self.now.port.geometry) c.args.self.now.port.geometry.block c.args.at.0 c.args.self.now.port.hand c.args.out.now c.loop-from.done c.loop-from.from c.loop-from.self.port.hand c.loop-from.out (omega (arith, c.loop-from-test.false)) c.loop-from.invariant.parts)
