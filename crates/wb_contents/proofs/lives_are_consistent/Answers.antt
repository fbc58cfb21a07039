use Rattle.wb_contents.specs.Promises.{first_volume}
use Rattle.wb_contents.specs.Acts.{volume_after_all}
use Rattle.wb_contents.proofs.Run.{holds, all_kept, first_kept}
use Rattle.wb_contents.proofs.lives_are_consistent.Goals as goal

pub returns : goal.returns
returns g m c xs run = holds (volume_after_all (first_volume m c) xs) (all_kept (first_volume m c) xs run (first_kept m c))
