use Rattle.std.proofs.Common.{refl, arith}
use Rattle.wb_disk.proofs.faltering.make_room.Goals as goal

pub loop-k-init : goal.loop-k-init
loop-k-init c = record { room = λ i l. absurd (omega (arith, l)); contents = refl; faults = refl; stays = λ all. refl }
