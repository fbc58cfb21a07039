use Rattle.std.proofs.Common.{◌≡◌, ◌∙◌, map, arith, ap, sym, subst, List}
use Rattle.std.specs.Vec.{with_items}
use Rattle.std.proofs.lemmas.List.{with_items_is}
use Rattle.wb_disk.specs.Device.{History, Crashed}
use Rattle.wb_disk.specs.Crash.{crashed}
use Rattle.wb_disk.specs.Stored.{histories, capacities, cut_at_mark, IsNoted}
use Rattle.wb_disk.specs.declared.pending.Pending.{Pending}
use Rattle.wb_disk.proofs.Sectors.{shown-changed}
use Rattle.wb_disk.proofs.Crashes.{crashed-marked, Crashed-crashed_from}
use Rattle.wb_disk.proofs.Noting.{noted-cut}
use Rattle.wb_disk.proofs.memory.MemDisk.stop.Goals as goal

pub invariant_of-self-2 : goal.invariant_of-self-2
invariant_of-self-2 c =
    let ps = c.self.inside.sectors.items in
    let ms = c.mark_chosen.new.sectors in
    let qs = c.cut_all.new.sectors in
    let marked_all : (with_items c.self.inside.sectors ms).items ≡ ms = with_items_is c.self.inside.sectors ms (omega arith) in
    let put : (with_items (with_items c.self.inside.sectors ms) qs).items ≡ qs = with_items_is (with_items c.self.inside.sectors ms) qs (omega arith) in
    let cut = c.cut_all.ensures.contents ∙ ap (λ rs. map cut_at_mark rs) (c.deref_mut-2.ensures.value ∙ marked_all) in
    let kept : histories ms ≡ histories ps = c.mark_chosen.ensures.contents ∙ ap (λ rs. histories rs) c.deref_mut.ensures.value in
    subst (λ (rs : List Pending). IsNoted (histories rs) c.clear.new.self) (sym put) (rw c.clear.ensures (noted-cut c.self.inside.unsynced (histories ps) (histories qs) ms cut kept c.self.invariant.size))

pub returns-clause-crashed : goal.returns-clause-crashed
returns-clause-crashed c =
    let choice = c.args.choice.now in
    let ps = c.self.inside.sectors.items in
    let ms = c.mark_chosen.new.sectors in
    let qs = c.cut_all.new.sectors in
    let marked_all : (with_items c.self.inside.sectors ms).items ≡ ms = with_items_is c.self.inside.sectors ms (omega arith) in
    let put : (with_items (with_items c.self.inside.sectors ms) qs).items ≡ qs = with_items_is (with_items c.self.inside.sectors ms) qs (omega arith) in
    let seen = c.deref_mut-2.ensures.value ∙ marked_all in
    let was = c.deref_mut.ensures.value in
    let cut : histories qs ≡ crashed c.args.device choice (histories ps) =
    c.cut_all.ensures.contents
    ∙ ap (λ rs. map cut_at_mark rs) seen
    ∙ crashed-marked c.args.device choice ms (c.mark_chosen.ensures.marked c.if-not-mark_chosen.false)
    ∙ ap (crashed c.args.device choice) (c.mark_chosen.ensures.contents ∙ ap (λ rs. histories rs) was) in
    let capacity : capacities qs ≡ capacities ps =
    c.cut_all.ensures.capacity ∙ ap (λ rs. capacities rs) seen ∙ c.mark_chosen.ensures.capacity ∙ ap (λ rs. capacities rs) was in
    rw put (shown-changed (crashed c.args.device choice) ps qs c.self.inside.faults c.args.self.now c.self.view_is cut capacity)

pub returns-clause-outcome : goal.returns-clause-outcome
returns-clause-outcome c =
    let new = ap (λ m. m.contents) (returns-clause-crashed c) in
    let P : List History → Type 0 = Crashed c.args.self.now.contents in
    subst P (sym new) (Crashed-crashed_from c.args.device c.args.choice.now 0 c.args.self.now.contents)
