use Rattle.std.proofs.Common.{◌≡◌, ap, sym, ◌∙◌, arith, ℕ}
use Rattle.atomic_table.specs.Table.{Me}
use Rattle.wb_cells.specs.declared.view.View.{View}
use Rattle.wb_words.specs.Cards.{counts_of, writes_on}
use Rattle.wb_cells.specs.Moves.{card_at}
use Rattle.wb_cells.specs.Passes.{PassState, CellsState}
use Rattle.wb_cells.proofs.Passing.{joins, joined_card, merged_counts, merged_writes}
use Rattle.wb_cells.proofs.cells.Cells.join.Goals as goal

pub join_seat-requires : goal.join_seat-requires
join_seat-requires c = let sized = c.self.inside.words.sized in let fits = c.pass.invariant.sized in
    let at : c.pass.inside.seat.table_id ≡ c.self.inside.words.table.shared.table_id = ap (λ (p : PassState). p.table) c.pass.view_is ∙ (c.requires.at.0 ∙ ap (λ (s : CellsState). s.table) (sym c.self.view_is)) in (
      at,
      ap (λ (p : PassState). p.table) c.other.view_is ∙ (c.requires.at.1 ∙ ap (λ (s : CellsState). s.table) (sym c.self.view_is)),
      c.other.invariant.bare,
      omega arith,
      joins _ _ c.pass.inside.seat.me.0 _ c.other.inside.seat.me.0 _ _ c.pass.invariant.one c.other.invariant.one
          (ap (λ (p : PassState). p.card.hold) c.pass.view_is ∙ c.requires.idle.0) (ap (λ (p : PassState). p.card.hold) c.other.view_is ∙ c.requires.idle.1),
    )

pub returns-clause-counts : goal.returns-clause-counts
returns-clause-counts c kind = let v : View = c.pass.inside.seat.me.0 in let w : View = c.other.inside.seat.me.0 in
    let e = ap (λ (m : Me ℕ View). counts_of kind (card_at 0 m.0)) c.join_seat.ensures.2 in
    let j = ap (counts_of kind) (joined_card v w (card_at 0 v) (card_at 0 w) c.pass.invariant.one c.other.invariant.one) in
    let s = merged_counts (card_at 0 v) (card_at 0 w) kind in
    let a : counts_of kind (card_at 0 v) ≡ counts_of kind c.args.pass.card = ap (λ (p : PassState). counts_of kind p.card) c.pass.view_is in
    let b : counts_of kind (card_at 0 w) ≡ counts_of kind c.args.other.card = ap (λ (p : PassState). counts_of kind p.card) c.other.view_is in e ∙ (j ∙ (s ∙ omega arith))

pub returns-clause-writes : goal.returns-clause-writes
returns-clause-writes c block = let v : View = c.pass.inside.seat.me.0 in let w : View = c.other.inside.seat.me.0 in
    let e = ap (λ (m : Me ℕ View). writes_on block (card_at 0 m.0)) c.join_seat.ensures.2 in
    let j = ap (writes_on block) (joined_card v w (card_at 0 v) (card_at 0 w) c.pass.invariant.one c.other.invariant.one) in
    let s = merged_writes (card_at 0 v) (card_at 0 w) block in
    let a : writes_on block (card_at 0 v) ≡ writes_on block c.args.pass.card = ap (λ (p : PassState). writes_on block p.card) c.pass.view_is in
    let b : writes_on block (card_at 0 w) ≡ writes_on block c.args.other.card = ap (λ (p : PassState). writes_on block p.card) c.other.view_is in e ∙ (j ∙ (s ∙ omega arith))
