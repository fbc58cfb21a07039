use Rattle.std.proofs.Common.{rules, ◌≡◌, ◌+◌, ◌*◌, ℕ, List, [], replicate, subst, sym}
use Rattle.atomic_table.specs.Table.{opening}
use Rattle.wb_cells.specs.Views.{Ruled, first_view}
use Rattle.wb_cells.proofs.Allowed.{starts}
use Rattle.wb_cells.proofs.table.WordTable.new.Goals as goal

pub of_words-requires : goal.of_words-requires
of_words-requires c = let e : c.as_slice.result.now ≡ replicate (3 * c.args.blocks + 5) 0 = search rules in
    subst (λ (l : List ℕ). Ruled c.args.blocks (opening l [] (first_view c.args.blocks c.args.actors))) (sym e) (starts c.args.blocks c.args.actors)
