use Rattle.std.proofs.Common.{◌≡◌, ◌∙◌, true, List, arith, ap, sym, subst}
use Rattle.std.proofs.lemmas.List.{with_items_is}
use Rattle.wb_disk.specs.Device.{synced}
use Rattle.wb_disk.specs.Failing.{synced_where}
use Rattle.wb_disk.specs.Stored.{histories, capacities, IsNoted}
use Rattle.wb_disk.specs.declared.pending.Pending.{Pending}
use Rattle.wb_disk.proofs.Sectors.{shown-changed}
use Rattle.wb_disk.proofs.Noting.{noted-synced, synced_everywhere}
use Rattle.wb_disk.proofs.memory.MemDiskDisk.sync.Goals as goal

pub invariant_of-self : goal.invariant_of-self
invariant_of-self c =
    let ps = c.self.inside.sectors.items in
    let qs = c.settle_where.new.sectors in
    let put = with_items_is c.self.inside.sectors qs (omega arith) in
    let settled : histories qs ≡ synced (histories ps) = c.settle_where.ensures.contents ∙ ap (λ rs. synced_where (λ k. true) (histories rs)) c.deref_mut.ensures.value ∙ synced_everywhere 0 (histories ps) in
    subst (λ (rs : List Pending). IsNoted (histories rs) c.clear.new.self) (sym put) (rw c.clear.ensures (noted-synced c.self.inside.unsynced (histories ps) (histories qs) settled c.self.invariant.size))

pub returns-clause-synced : goal.returns-clause-synced
returns-clause-synced c =
    let ps = c.self.inside.sectors.items in
    let qs = c.settle_where.new.sectors in
    let put = with_items_is c.self.inside.sectors qs (omega arith) in
    let settled : histories qs ≡ synced (histories ps) = c.settle_where.ensures.contents ∙ ap (λ rs. synced_where (λ k. true) (histories rs)) c.deref_mut.ensures.value ∙ synced_everywhere 0 (histories ps) in
    let capacity = c.settle_where.ensures.capacity ∙ ap (λ rs. capacities rs) c.deref_mut.ensures.value in
    rw put (shown-changed synced ps qs c.self.inside.faults c.args.self.now c.self.view_is settled capacity)
