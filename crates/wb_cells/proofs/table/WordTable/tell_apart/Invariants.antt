use Rattle.std.proofs.Common.{◌≡◌}
use Rattle.wb_cells.specs.Moves.{card_at}
use Rattle.wb_cells.specs.Passes.{Excludes}
use Rattle.wb_cells.proofs.table.WordTable.tell_apart.Given as goal

abbrev pub ghosts-load : goal.ghosts-load
ghosts-load a = record { then = λ st m x after. (after ≡ m) × Excludes m.0.blocks (card_at 0 m.0) (card_at 1 m.0) × Excludes m.0.blocks (card_at 1 m.0) (card_at 0 m.0) }
