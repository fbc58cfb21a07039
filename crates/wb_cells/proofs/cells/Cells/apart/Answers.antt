use Rattle.std.proofs.Common.{◌≡◌, ℕ, ap, sym, ◌∙◌, subst, arith}
use Rattle.atomic_table.specs.Table.{Me, Splits}
use Rattle.wb_cells.specs.declared.view.View.{View}
use Rattle.wb_cells.specs.Views.{Ruled, seated, side_view}
use Rattle.wb_cells.specs.Moves.{card_at}
use Rattle.wb_cells.specs.Passes.{PassState, CellsState}
use Rattle.wb_cells.proofs.Pairs.{sits, stands}
use Rattle.wb_cells.proofs.cells.Cells.apart.Goals as goal

pub join_seat-requires : goal.join_seat-requires
join_seat-requires c = let sized = c.self.inside.words.sized in let fits = c.pass.invariant.sized in
    let at : c.pass.inside.seat.table_id ≡ c.self.inside.words.table.shared.table_id = ap (λ (p : PassState). p.table) c.pass.view_is ∙ (c.requires.at.0 ∙ ap (λ (s : CellsState). s.table) (sym c.self.view_is)) in (
      at,
      ap (λ (p : PassState). p.table) c.other.view_is ∙ (c.requires.at.1 ∙ ap (λ (s : CellsState). s.table) (sym c.self.view_is)),
      c.other.invariant.bare,
      omega arith,
      sits c.self.inside.words.table.shared.key.blocks c.pass.inside.seat.id c.pass.inside.seat.me.0 c.other.inside.seat.me.0 (card_at 0 c.pass.inside.seat.me.0) (card_at 0 c.other.inside.seat.me.0) c.pass.invariant.one c.other.invariant.one c.other.inside.seat.id,
    )

pub split_seat-second-requires : goal.split_seat-second-requires
split_seat-second-requires c = let sized = c.self.inside.words.sized in let fits = c.pass.invariant.sized in
    let at : c.pass.inside.seat.table_id ≡ c.self.inside.words.table.shared.table_id = ap (λ (p : PassState). p.table) c.pass.view_is ∙ (c.requires.at.0 ∙ ap (λ (s : CellsState). s.table) (sym c.self.view_is)) in
    let me : c.tell_apart.new.seat.me.0 ≡ seated c.pass.inside.seat.me.0 c.other.inside.seat.me.0 = ap (λ (m : Me ℕ View). m.0) (c.tell_apart.ensures.at.2 ∙ c.join_seat.ensures.2) in (
      c.tell_apart.ensures.at.0 ∙ (c.join_seat.ensures.0 ∙ at),
      omega arith,
      subst (λ (v : View). Splits (Ruled c.self.inside.words.table.shared.key.blocks) c.tell_apart.new.seat.id v (side_view 0 v) (side_view 1 v)) (sym me)
          (stands c.self.inside.words.table.shared.key.blocks c.tell_apart.new.seat.id c.pass.inside.seat.me.0 c.other.inside.seat.me.0 (card_at 0 c.pass.inside.seat.me.0) (card_at 0 c.other.inside.seat.me.0) c.pass.invariant.one c.other.invariant.one),
    )
