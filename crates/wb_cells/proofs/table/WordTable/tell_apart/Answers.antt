use Rattle.std.proofs.Common.{ℕ, ◌≡◌, subst, sym}
use Rattle.atomic_table.specs.Table.{Allows}
use Rattle.wb_cells.specs.Views.{Ruled}
use Rattle.wb_cells.specs.Moves.{card_at}
use Rattle.wb_cells.specs.Passes.{Excludes}
use Rattle.wb_cells.proofs.Pairs.{tells_apart}
use Rattle.wb_cells.proofs.table.WordTable.tell_apart.Goals as goal

pub load-requires-clause-rule : goal.load-requires-clause-rule
load-requires-clause-rule c = let m = c.args.seat.now.me in
    subst (λ (n : ℕ). Allows (Ruled c.args.self.now.blocks) c.args.self.now.table.shared.table_id.slots c.args.seat.now.id m 0 (λ x. x)
    (λ x after. (after ≡ m) × Excludes n (card_at 0 m.0) (card_at 1 m.0) × Excludes n (card_at 1 m.0) (card_at 0 m.0)))
    (sym c.requires.sized)
    (tells_apart c.args.self.now.blocks c.args.self.now.table.shared.table_id.slots c.args.seat.now.id m (card_at 0 m.0) (card_at 1 m.0) c.requires.two c.requires.sized)
