use Rattle.std.proofs.Common.{◌∙◌, ap, arith, length, ℕ, Bool}
use Rattle.std.proofs.lemmas.List.{with_items_is}
use Rattle.wb_disk.specs.Failing.{lands, synced_where}
use Rattle.wb_disk.specs.Stored.{histories}
use Rattle.wb_disk.proofs.FailedSyncs.{length-synced_from}
use Rattle.wb_disk.proofs.memory.MemDisk.sync_where.Goals as goal

pub returns-clause-contents : goal.returns-clause-contents
returns-clause-contents c =
    let landed : ℕ → Bool = lands c.args.device c.args.choice.now in
    let put = with_items_is c.self.inside.sectors c.settle_where.new.sectors (omega arith) in
    rw put (c.settle_where.ensures.contents ∙ ap (λ rs. synced_where landed (histories rs)) c.deref_mut.ensures.value ∙ ap (λ m. synced_where landed m.contents) c.self.view_is)

pub returns-clause-size : goal.returns-clause-size
returns-clause-size c = ap length (returns-clause-contents c) ∙ length-synced_from (lands c.args.device c.args.choice.now) 0 c.args.self.now.contents
