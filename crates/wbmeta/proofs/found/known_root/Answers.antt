use Rattle.wbmeta.proofs.found.known_root.Goals as goal

pub next-requires : goal.next-requires
next-requires g c = c.new.ensures.on (g.D.Disk.size c.args.disk.now)
