use Rattle.std.proofs.Common.{◌≡◌, ◌⊎◌, [], true, map}
use Rattle.std.specs.Prelude.{All}
use Rattle.wb_disk.specs.Device.{newest}
use Rattle.wb_devices.specs.Clean.{entries_of}
use Rattle.wb_checks.specs.Samples.{IsCleanIn, IsMappedClean}
use Rattle.wb_checks.proofs.Drawing.{all_read_clean, ok_both}
use Rattle.wb_checks.proofs.whole.draw_from_all.Goals as goal

pub returns-in-Ok-clause-clean : goal.returns-in-Ok-clause-clean
returns-in-Ok-clause-clean g c told =
    let state = c.in-Ok.state in
    let sectors = map newest (g.D.Disk.contents c.args.metadata.now) in
    ok_both c.draw_from_state-drawn.result (λ drawn. All (IsCleanIn (entries_of state)) drawn.items) (λ drawn. (state.root.clean ≡ true) ⊎ (drawn.items ≡ [])) (λ drawn. All (IsMappedClean sectors) drawn.items)
    (λ drawn clean flag. all_read_clean sectors state.root state.tree state.dirty state.used.items drawn.items (c.in-Ok.ensures.read told) flag clean)
    c.draw_from_state-drawn.ensures.clean c.draw_from_state-drawn.ensures.flag
