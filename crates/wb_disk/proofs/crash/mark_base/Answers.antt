use Rattle.std.proofs.Common.{◌≡◌, ◌∙◌, Some, map, take, get_or, add-one, arith, ap, sym}
use Rattle.std.proofs.lemmas.List.{take_all}
use Rattle.std.proofs.lemmas.Option.{slice_get-get_or}
use Rattle.std.specs.List.{slice_get}
use Rattle.wb_disk.specs.Crash.{base_position}
use Rattle.wb_disk.specs.Stored.{history, capacity_of, marks}
use Rattle.wb_disk.proofs.Sectors.{map-set_same, mapped_more, drop-set_more, map-map}
use Rattle.wb_disk.proofs.crash.mark_base.Goals as goal

pub loop-pending-preserved : goal.loop-pending-preserved
loop-pending-preserved c =
    let i = c.loop-pending.pending-index in
    let ps = c.loop-pending.sectors in
    let p = get_or ps i c.pending-item.result in
    let here : slice_get ps i ≡ Some p = slice_get-get_or ps i c.pending-item.result (omega arith) in
    record {
      marks = rw add-one (mapped_more (λ q. q.mark) (λ q. base_position c.args.base (history q)) ps c.args.sectors.now i p c.mark_base.new.self here c.loop-pending.invariant.rest c.loop-pending.invariant.marks c.mark_base.ensures.mark);
      contents = map-set_same history ps i p c.mark_base.new.self here c.mark_base.ensures.contents ∙ c.loop-pending.invariant.contents;
      capacity = map-set_same capacity_of ps i p c.mark_base.new.self here c.mark_base.ensures.capacity ∙ c.loop-pending.invariant.capacity;
      rest = drop-set_more ps c.args.sectors.now i c.mark_base.new.self c.loop-pending.invariant.rest;
    }

pub returns-clause-marks : goal.returns-clause-marks
returns-clause-marks c =
    let ps = c.args.sectors.now in
    let qs = c.loop-pending.sectors in
    let all_new : take c.loop-pending.pending-index qs ≡ qs = take_all c.loop-pending.pending-index qs (omega arith) in
    let all_old : take c.loop-pending.pending-index ps ≡ ps = take_all c.loop-pending.pending-index ps (omega arith) in
    ap marks (sym all_new)
    ∙ c.loop-pending.invariant.marks
    ∙ ap (λ rs. map (λ p. base_position c.args.base (history p)) rs) all_old
    ∙ map-map (base_position c.args.base) history ps
