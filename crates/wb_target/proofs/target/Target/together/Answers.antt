use Rattle.wb_target.proofs.target.Target.together.Goals as goal
use Rattle.std.proofs.Common.{[], ◌∷◌}
use denote.RattleType.{RattleType}
use denote.Param.{param}
use denote.Param.Send.{IsSync, sendable}
use denote.Param.SendFields.{declared_sync, as_row_sync}
use denote.Struct.Field.{row_field, shr_ref_field}
use denote.Struct.Tuple.{type_at, TupleAt}
use mir.Syntax.{named}
use Rattle.std.below.core.specs.contracts.marker.ClosureMark as Mark
use Rattle.wb_target.specs.contracts.target.Target as Target
use Rattle.wb_target.proofs.Sending.{target_shared}

-- what lends three things that threads may share
three_shared : (A B C : RattleType) → IsSync A → IsSync B → IsSync C → IsSync (TupleAt [] (A ∷ B ∷ C ∷ []))
three_shared A B C a b c = declared_sync (type_at [] (A ∷ B ∷ C ∷ [])) (as_row_sync (row_field A) a, (as_row_sync (row_field B) b, (as_row_sync (row_field C) c, tt)))

-- the closure's captures: a runtime and a target, lent, and a mark of what an errand tells
pub map_vec-requires-sync-F : goal.map_vec-requires-sync-F
map_vec-requires-sync-F g c κs within =
    let t = target_shared (param 0 g.row.P) g.P.Policy c.type_bounds.send-P in
    let r = c.type_bounds.sync-R in
    let A : RattleType = (shr_ref_field (record { mir = named 7; lft = κs.1.1.1.1.1.1.1.0 }) (param 1 g.row.R) tt).row in
    let B : RattleType = (shr_ref_field (record { mir = named 8; lft = κs.1.1.1.1.1.1.1.1.0 }) (Target.the_row (param 0 g.row.P) g.P.Policy) tt).row in
    let C : RattleType = Mark.the_row (TupleAt (40 ∷ 95 ∷ 44 ∷ 41 ∷ []) (param 4 g.row.E-Told ∷ [])) in
    let all = three_shared A B C (search (sendable, r)) (search (sendable, t)) (search sendable) in
    record { shared = all.shared }
