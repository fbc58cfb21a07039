use Rattle.std.proofs.Common.{◌≡◌, ◌∙◌, Some, map, get_or, add-one, arith, ap, sym}
use Rattle.std.proofs.lemmas.List.{take_all}
use Rattle.std.proofs.lemmas.Option.{slice_get-get_or}
use Rattle.std.specs.List.{slice_get}
use Rattle.wb_disk.specs.Stored.{history, histories, capacity_of, cut_at_mark}
use Rattle.wb_disk.proofs.Sectors.{map-set_same, mapped_more, drop-set_more}
use Rattle.wb_disk.proofs.memory.cut_all.Goals as goal

pub loop-pending-preserved : goal.loop-pending-preserved
loop-pending-preserved c =
    let i = c.loop-pending.pending-index in
    let ps = c.loop-pending.sectors in
    let p = get_or ps i c.pending-item.result in
    let here : slice_get ps i ≡ Some p = slice_get-get_or ps i c.pending-item.result (omega arith) in
    record {
      cut = rw add-one (mapped_more history cut_at_mark ps c.args.sectors.now i p c.cut.new.self here c.loop-pending.invariant.rest c.loop-pending.invariant.cut c.cut.ensures.contents);
      capacity = map-set_same capacity_of ps i p c.cut.new.self here c.cut.ensures.capacity ∙ c.loop-pending.invariant.capacity;
      rest = drop-set_more ps c.args.sectors.now i c.cut.new.self c.loop-pending.invariant.rest;
    }

pub returns-clause-contents : goal.returns-clause-contents
returns-clause-contents c =
    let i = c.loop-pending.pending-index in
    let all_new = take_all i c.loop-pending.sectors (omega arith) in
    let all_old = take_all i c.args.sectors.now (omega arith) in
    ap (λ rs. histories rs) (sym all_new) ∙ c.loop-pending.invariant.cut ∙ ap (λ rs. map cut_at_mark rs) all_old
