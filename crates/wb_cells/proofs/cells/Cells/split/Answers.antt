use Rattle.std.proofs.Common.{◌≡◌, ap, sym, ◌∙◌, arith}
use Rattle.wb_cells.specs.Passes.{PassState, CellsState}
use Rattle.wb_cells.proofs.Passing.{splits}
use Rattle.wb_cells.proofs.cells.Cells.split.Goals as goal

pub split_seat-other-requires : goal.split_seat-other-requires
split_seat-other-requires c = let sized = c.self.inside.words.sized in let fits = c.pass.invariant.sized in
    let at : c.pass.inside.seat.table_id ≡ c.self.inside.words.table.shared.table_id = ap (λ (p : PassState). p.table) c.pass.view_is ∙ (c.requires.at ∙ ap (λ (s : CellsState). s.table) (sym c.self.view_is)) in
    (at, omega arith, splits _ _ c.pass.inside.seat.me.0 _ c.pass.invariant.one)
