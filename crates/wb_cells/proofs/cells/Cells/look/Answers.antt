use Rattle.std.proofs.Common.{◌≡◌, ap, sym, subst, ◌∙◌, ◌+◌, ◌*◌}
use Rattle.wb_words.specs.SharedWords.{value_of}
use Rattle.wb_words.specs.Moments.{Moment}
use Rattle.wb_cells.specs.Fractions.{IsWhole}
use Rattle.wb_cells.specs.Passes.{PassState, CellsState}
use Rattle.wb_cells.proofs.Passing.{moment_of}
use Rattle.wb_cells.proofs.cells.Cells.look.Goals as goal

pub returns-clause-found : goal.returns-clause-found
returns-clause-found c = let at : c.pass.inside.seat.table_id ≡ c.self.inside.words.table.shared.table_id = ap (λ (p : PassState). p.table) c.pass.view_is ∙ (c.requires.at ∙ ap (λ (s : CellsState). s.table) (sym c.self.view_is)) in
    let sized : c.pass.inside.seat.table_id.words ≡ 3 * c.args.self.now.blocks + 5 = ap (λ t. t.words) at ∙ (c.self.inside.words.sized.0 ∙ ap (λ (s : CellsState). 3 * s.blocks + 5) c.self.view_is) in
    let f = moment_of c.pass.inside.seat.table_id.words c.args.self.now.blocks c.pass.inside.seat.me c.look.new.seat.me c.pass.invariant sized c.look.ensures.step in
    subst (λ (p : PassState). (m : Moment c.args.self.now.blocks (IsWhole p.fraction) p.card) × (c.look.result ≡ value_of m.words c.args.word)) c.pass.view_is (f.0, f.2.0)
