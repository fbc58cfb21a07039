use Rattle.std.proofs.Common.{◌≡◌, ◌≤◌, length, refl, arith}
use Rattle.std.proofs.lemmas.Result.{on_ok_weaker}
use Rattle.wb_meta.proofs.Formatted.{formatted_left, slots_alone}
use Rattle.wb_meta.proofs.formatting.format.Goals as goal

pub returns-clause-empty : goal.returns-clause-empty
returns-clause-empty g c tells =
    let d0 = g.D.Disk.contents c.args.disk.now in
    let whole : length d0 ≡ g.D.Disk.size c.args.disk.now = g.met.D.Disk.whole c.args.disk.now tells in
    let slots : 2 ≤ c.args.geometry.now.meta_sectors = omega (arith, c.args.geometry.now.within.meta_from) in
    let size : 2 ≤ length d0 = omega (arith, whole, slots, c.sectors.ensures, c.from.ensures, c.if-sectors-from.false) in
    on_ok_weaker c.sync-2.result
    (λ s5. formatted_left c.args.geometry.now _ d0 (g.D.Disk.contents c.put_zeros.new.disk) (g.D.Disk.contents c.put_zeros-2.new.disk) (g.D.Disk.contents c.sync.new.disk) (g.D.Disk.contents c.put_root.new.disk) (g.D.Disk.contents c.sync-2.new.disk)
    (record { generation = refl; clean = refl; geometry_is = refl; top = refl; top_dirty = refl }) size
    (c.in_ok-put_zeros.ensures.ok tells) (c.in_ok-put_zeros-2.ensures.ok tells) (c.in_ok-sync.ensures.ok tells) (c.in_ok-put_root.ensures.ok tells) s5)
    (c.sync-2.ensures.ok tells)

pub returns-clause-slots : goal.returns-clause-slots
returns-clause-slots g c tells =
    on_ok_weaker c.sync-2.result
    (λ s5. slots_alone _ (g.D.Disk.contents c.args.disk.now) (g.D.Disk.contents c.put_zeros.new.disk) (g.D.Disk.contents c.put_zeros-2.new.disk) (g.D.Disk.contents c.sync.new.disk) (g.D.Disk.contents c.put_root.new.disk) (g.D.Disk.contents c.sync-2.new.disk)
    (c.in_ok-put_zeros.ensures.ok tells) (c.in_ok-put_zeros-2.ensures.ok tells) (c.in_ok-sync.ensures.ok tells) (c.in_ok-put_root.ensures.ok tells) s5)
    (c.sync-2.ensures.ok tells)
