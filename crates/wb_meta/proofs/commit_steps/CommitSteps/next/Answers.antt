use Rattle.std.proofs.Common.{◌≡◌, ◌%◌, ℕ, Some, List, length, refl, sym, subst, arith}
use Rattle.std.specs.List.{slice_get}
use Rattle.std.proofs.lemmas.Option.{slice_get_read}
use Rattle.wb_format.specs.Layout.{SpellsNode, SpellsRoot}
use Rattle.wb_meta.specs.Steps.{Puts, PutSo}
use Rattle.wb_disk.specs.Extents.{Syncing}
use Rattle.wb_disk.proofs.FailedSyncs.{partly_so}
use Rattle.wb_meta.proofs.Failing.{put_left}
use Rattle.wb_disk.specs.Device.{History}
use Rattle.wb_tree.specs.declared.image.Image.{Image}
use Rattle.wb_meta.specs.Commits.{CommitHasCome, HasFailed}
use Rattle.wb_meta.specs.declared.commit_steps.CommitSteps.{CommitSteps}
use Rattle.wb_meta.proofs.Stepping.{node_written, node_failed, nodes_synced, nodes_unsynced, root_written, root_failed, root_synced, root_unsynced}
use Rattle.wb_meta.proofs.commit_steps.CommitSteps.next.Goals as goal
use Rattle.wb_types.proofs.Truth.{on_err}

-- a failure where the steps stood
failed_at : (image : Image) (before now : List History) (self steps : CommitSteps) → self ≡ steps → HasFailed image before steps now → HasFailed image before self now
failed_at image before now self steps is failed = subst (λ (s : CommitSteps). HasFailed image before s now) (sym is) failed

pub returns-in_err-put_node-in-NodesWritten-clause-failed : goal.returns-in_err-put_node-in-NodesWritten-clause-failed
returns-in_err-put_node-in-NodesWritten-clause-failed g c tells =
    on_err c.from_residual.result (λ before come.
    let now = g.D.Disk.contents c.args.disk.now in
    let P : CommitSteps → Type 0 = λ s. CommitHasCome c.args.image.now before s now in
    let so_far = subst P c.in-NodesWritten.is come in
    let nodes = c.args.image.now.nodes.items in
    let listed : slice_get nodes c.in-NodesWritten.count ≡ Some c.index.result.now = slice_get_read nodes (length nodes) c.in-NodesWritten.count c.index.result.now refl (omega arith) c.index.ensures in
    failed_at c.args.image.now before _ c.args.self.now _ c.in-NodesWritten.is (node_failed c.args.image.now before now (g.D.Disk.contents c.put_node.new.disk) c.in-NodesWritten.count c.index.result.now listed so_far (put_left (g.D.Disk.falters c.args.disk.now) (λ content. SpellsNode content c.index.result.now.1) _ now (g.D.Disk.contents c.put_node.new.disk) (subst (λ (at : ℕ). PutSo (g.D.Disk.falters c.args.disk.now) (λ content. SpellsNode content c.index.result.now.1) at now (g.D.Disk.contents c.put_node.new.disk)) c.from.ensures (c.in_err-put_node-in-NodesWritten.ensures.how tells)))))

pub returns-in_err-sync-in-NodesWritten-clause-failed : goal.returns-in_err-sync-in-NodesWritten-clause-failed
returns-in_err-sync-in-NodesWritten-clause-failed g c tells =
    on_err c.from_residual-in_err-sync-in-NodesWritten.result (λ before come.
    let now = g.D.Disk.contents c.args.disk.now in
    let P : CommitSteps → Type 0 = λ s. CommitHasCome c.args.image.now before s now in
    let so_far = subst P c.in-NodesWritten.is come in
    failed_at c.args.image.now before _ c.args.self.now _ c.in-NodesWritten.is (nodes_unsynced c.args.image.now before now (g.D.Disk.contents c.sync.new.disk) c.in-NodesWritten.count so_far (partly_so (g.D.Disk.falters c.args.disk.now Syncing) now (g.D.Disk.contents c.sync.new.disk) (c.in_err-sync-in-NodesWritten.ensures.how tells))))

pub returns-in_err-put_root-in-NodesSynced-clause-failed : goal.returns-in_err-put_root-in-NodesSynced-clause-failed
returns-in_err-put_root-in-NodesSynced-clause-failed g c tells =
    on_err c.from_residual-in_err-put_root-in-NodesSynced.result (λ before come.
    let now = g.D.Disk.contents c.args.disk.now in
    let P : CommitSteps → Type 0 = λ s. CommitHasCome c.args.image.now before s now in
    let so_far = subst P c.in-NodesSynced.is come in
    let slot : c.slot-slot.result.0 ≡ c.args.image.now.root.generation % 2 = c.slot-slot.ensures in
    failed_at c.args.image.now before _ c.args.self.now _ c.in-NodesSynced.is (root_failed c.args.image.now (g.D.Disk.size c.args.disk.now) before now (g.D.Disk.contents c.put_root.new.disk) c.slot-slot.result.0 c.requires slot so_far (put_left (g.D.Disk.falters c.args.disk.now) (λ content. SpellsRoot content c.args.image.now.root) _ now (g.D.Disk.contents c.put_root.new.disk) (subst (λ (at : ℕ). PutSo (g.D.Disk.falters c.args.disk.now) (λ content. SpellsRoot content c.args.image.now.root) at now (g.D.Disk.contents c.put_root.new.disk)) c.from-in-NodesSynced.ensures (c.in_err-put_root-in-NodesSynced.ensures.how tells)))))

pub returns-in_err-sync-in-RootWritten-clause-failed : goal.returns-in_err-sync-in-RootWritten-clause-failed
returns-in_err-sync-in-RootWritten-clause-failed g c tells =
    on_err c.from_residual-in_err-sync-in-RootWritten.result (λ before come.
    let now = g.D.Disk.contents c.args.disk.now in
    let P : CommitSteps → Type 0 = λ s. CommitHasCome c.args.image.now before s now in
    let so_far = subst P c.in-RootWritten.is come in
    failed_at c.args.image.now before _ c.args.self.now _ c.in-RootWritten.is (root_unsynced c.args.image.now before now (g.D.Disk.contents c.sync-in-RootWritten.new.disk) so_far (partly_so (g.D.Disk.falters c.args.disk.now Syncing) now (g.D.Disk.contents c.sync-in-RootWritten.new.disk) (c.in_err-sync-in-RootWritten.ensures.how tells))))

pub returns-in_ok-put_node-in-NodesWritten-clause-come : goal.returns-in_ok-put_node-in-NodesWritten-clause-come
returns-in_ok-put_node-in-NodesWritten-clause-come g c tells before come =
    let now = g.D.Disk.contents c.args.disk.now in
    let P : CommitSteps → Type 0 = λ s. CommitHasCome c.args.image.now before s now in
    let so_far = subst P c.in-NodesWritten.is come in
    let nodes = c.args.image.now.nodes.items in
    let listed : slice_get nodes c.in-NodesWritten.count ≡ Some c.index.result.now = slice_get_read nodes (length nodes) c.in-NodesWritten.count c.index.result.now refl (omega arith) c.index.ensures in
    node_written c.args.image.now (g.D.Disk.size c.args.disk.now) before now (g.D.Disk.contents c.put_node.new.disk) c.in-NodesWritten.count c.index.result.now c.requires listed so_far (subst (λ (at : ℕ). Puts (λ content. SpellsNode content c.index.result.now.1) at now (g.D.Disk.contents c.put_node.new.disk)) c.from.ensures (c.in_ok-put_node-in-NodesWritten.ensures.ok tells))

pub returns-in_ok-sync-in-NodesWritten-clause-come : goal.returns-in_ok-sync-in-NodesWritten-clause-come
returns-in_ok-sync-in-NodesWritten-clause-come g c tells before come =
    let now = g.D.Disk.contents c.args.disk.now in
    let P : CommitSteps → Type 0 = λ s. CommitHasCome c.args.image.now before s now in
    let so_far = subst P c.in-NodesWritten.is come in
    nodes_synced c.args.image.now before now (g.D.Disk.contents c.sync.new.disk) c.in-NodesWritten.count (omega arith) so_far (c.in_ok-sync-in-NodesWritten.ensures.ok tells)

pub returns-in_ok-put_root-in-NodesSynced-clause-come : goal.returns-in_ok-put_root-in-NodesSynced-clause-come
returns-in_ok-put_root-in-NodesSynced-clause-come g c tells before come =
    let now = g.D.Disk.contents c.args.disk.now in
    let P : CommitSteps → Type 0 = λ s. CommitHasCome c.args.image.now before s now in
    let so_far = subst P c.in-NodesSynced.is come in
    let slot : c.slot-slot.result.0 ≡ c.args.image.now.root.generation % 2 = c.slot-slot.ensures in
    root_written c.args.image.now (g.D.Disk.size c.args.disk.now) before now (g.D.Disk.contents c.put_root.new.disk) c.slot-slot.result.0 c.requires slot so_far (subst (λ (at : ℕ). Puts (λ content. SpellsRoot content c.args.image.now.root) at now (g.D.Disk.contents c.put_root.new.disk)) c.from-in-NodesSynced.ensures (c.in_ok-put_root-in-NodesSynced.ensures.ok tells))

pub returns-in_ok-sync-in-RootWritten-clause-come : goal.returns-in_ok-sync-in-RootWritten-clause-come
returns-in_ok-sync-in-RootWritten-clause-come g c tells before come =
    let now = g.D.Disk.contents c.args.disk.now in
    let P : CommitSteps → Type 0 = λ s. CommitHasCome c.args.image.now before s now in
    let so_far = subst P c.in-RootWritten.is come in
    root_synced c.args.image.now before now (g.D.Disk.contents c.sync-in-RootWritten.new.disk) so_far (c.in_ok-sync-in-RootWritten.ensures.ok tells)
