use Rattle.std.proofs.Common.{Result, Ok, Err}
use Rattle.std.specs.Prelude.{OnOk}
use Rattle.wb_tree.proofs.Stored.Edited.{places-edited}
use Rattle.wb_trial.proofs.change.Goals as goal

on_ok : {T E P : Type 0} (r : Result T E) → P → OnOk r P
on_ok (Ok x) p = p
on_ok (Err e) p = tt

pub returns-clause-stays : goal.returns-clause-stays
returns-clause-stays c = on_ok c.set.result (λ place is. places-edited c.args.tree.now c.set.new.self place c.set.ensures.edited is)
