use Rattle.std.proofs.Common.{[], ◌+◌, ◌-◌, ◌∙◌, inr, Some, None, length, take, drop, refl, subst, arith}
use Rattle.wb_target.specs.Works.{WasAsked}
use Rattle.wb_target.specs.Blocking.{WriteCame, CameTo}
use Rattle.wb_target.proofs.Parts.{part_done, part_refused, all_done}
use Rattle.wb_target.proofs.client.Client.write.Goals as goal

pub returns-in-Err-clause-stopped : goal.returns-in-Err-clause-stopped
returns-in-Err-clause-stopped g c =
    let out = c.args.from.now in
    let from = c.loop-sent.sent in
    let end = c.part_end-end.result in
    let e = c.part_end-end.ensures in
    inr (
      c.in_ok-in_range.ensures.inside,
      c.in-Err.ensures.refused.0,
      part_refused (WriteCame g.D.Disk.tells g.D.Disk.size g.D.Disk.contents g.D.Disk.faults (WasAsked g.P.Policy.with_entry g.P.Policy.without_entry []) c.args.self.now.port.geometry) c.args.self.now.port.geometry.block c.args.at.0 c.args.self.now.port.hand c.args.from.now c.loop-sent.done c.loop-sent.sent c.loop-sent.self.port.hand c.args.from.now c.loop-sent.invariant.parts c.write_block.new.self.port.hand out (take (end - from) (drop from out)) _ end c.from-size.ensures e.end e.later e.within refl refl refl c.in-Err.refusal
          (subst (λ geometry. CameTo (WriteCame g.D.Disk.tells g.D.Disk.size g.D.Disk.contents g.D.Disk.faults (WasAsked g.P.Policy.with_entry g.P.Policy.without_entry []) geometry) (Some c.in-Err.refusal) (record { first = c.args.at.0 + from; count = length (take (end - from) (drop from out)) }) (c.loop-sent.self.port.hand, take (end - from) (drop from out)) (c.write_block.new.self.port.hand, (take (end - from) (drop from out)))) c.loop-sent.invariant.geometry c.in-Err.ensures.refused.1),
    )

pub loop-sent-preserved : goal.loop-sent-preserved
loop-sent-preserved g c =
    let out = c.args.from.now in
    let from = c.loop-sent.sent in
    let end = c.part_end-end.result in
    let e = c.part_end-end.ensures in
    record {
      target = c.write_block.ensures.target ∙ c.loop-sent.invariant.target;
      geometry = c.write_block.ensures.geometry ∙ c.loop-sent.invariant.geometry;
      within = e.within;
      done = omega (arith, c.loop-sent.invariant.done, e.later);
      parts = part_done (WriteCame g.D.Disk.tells g.D.Disk.size g.D.Disk.contents g.D.Disk.faults (WasAsked g.P.Policy.with_entry g.P.Policy.without_entry []) c.args.self.now.port.geometry) c.args.self.now.port.geometry.block c.args.at.0 c.args.self.now.port.hand c.args.from.now c.loop-sent.done c.loop-sent.sent c.loop-sent.self.port.hand c.args.from.now c.loop-sent.invariant.parts c.write_block.new.self.port.hand out (take (end - from) (drop from out)) _ end c.from-size.ensures e.end e.later e.within refl refl refl
          (subst (λ geometry. CameTo (WriteCame g.D.Disk.tells g.D.Disk.size g.D.Disk.contents g.D.Disk.faults (WasAsked g.P.Policy.with_entry g.P.Policy.without_entry []) geometry) None (record { first = c.args.at.0 + from; count = length (take (end - from) (drop from out)) }) (c.loop-sent.self.port.hand, take (end - from) (drop from out)) (c.write_block.new.self.port.hand, (take (end - from) (drop from out)))) c.loop-sent.invariant.geometry c.in-Ok.ensures.written);
    }

pub returns-clause-written : goal.returns-clause-written
returns-clause-written g c = all_done (WriteCame g.D.Disk.tells g.D.Disk.size g.D.Disk.contents g.D.Disk.faults (WasAsked g.P.Policy.with_entry g.P.Policy.without_entry []) c.args.self.now.port.geometry) c.args.self.now.port.geometry.block c.args.at.0 c.args.self.now.port.hand c.args.from.now c.loop-sent.done c.loop-sent.sent c.loop-sent.self.port.hand c.args.from.now (omega (arith, c.loop-sent-test.false)) c.loop-sent.invariant.parts
