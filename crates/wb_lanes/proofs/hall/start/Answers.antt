use Rattle.std.proofs.Common.{[], ◌∷◌}
use Rattle.std.proofs.Crossing.{crosses}
use Rattle.std.proofs.option.Option.TheSendSync as option
use Rattle.std.specs.contracts.option.Option as Option
use Rattle.std.specs.contracts.sync.Mutex as Mutex
use denote.RattleType.{RattleType}
use denote.Param.{param}
use denote.Param.Send.{IsSend, IsSync, param_send, sendable}
use denote.Param.SendFields.{declared_send, as_row_send}
use denote.Struct.Field.{row_field, shr_ref_field, u64-field}
use denote.Struct.Tuple.{type_at, TupleAt}
use mir.Syntax.{named}
use Rattle.wb_port.proofs.port.Port.TheSendSync as port
use Rattle.wb_target.specs.contracts.client.Client as Client
use Rattle.wb_target.proofs.Sending.{target_shared}
use Rattle.wb_lanes.proofs.hall.start.Lts as Lts
use Rattle.wb_lanes.proofs.hall.start.Goals as goal

-- four things that may cross to a thread together
four_sent : (A B C D : RattleType) → IsSend A → IsSend B → IsSend C → IsSend D → IsSend (TupleAt [] (A ∷ B ∷ C ∷ D ∷ []))
four_sent A B C D a b c d = declared_send (type_at [] (A ∷ B ∷ C ∷ D ∷ [])) (as_row_send (row_field A) a, (as_row_send (row_field B) b, (as_row_send (row_field C) c, (as_row_send (row_field D) d, tt))))

-- the closure's captures: a runtime, the slot of a client and the lanes, lent, and a number
pub spawn-requires-send-F : goal.spawn-requires-send-F
spawn-requires-send-F g c κs within =
    let t = target_shared (param 3 g.row.P) g.P.Policy c.type_bounds.send-P in
    let r = c.type_bounds.sync-T in
    let l = c.type_bounds.sync-L in
    let p = port.the_send (param 2 g.row.D) c.type_bounds.send-D in
    let client : IsSend (Client.the_row (record { mir = named 7; lft = κs.1.1.1.1.1.1.1.0 }) (param 2 g.row.D) (param 3 g.row.P) g.P.Policy) =
    declared_send (Client.the_type (record { mir = named 7; lft = κs.1.1.1.1.1.1.1.0 }) (param 2 g.row.D) (param 3 g.row.P) g.P.Policy) (search (sendable, t), (search (sendable, p), tt)) in
    let slot : IsSync (Mutex.the_row (Option.the_row (Client.the_row (record { mir = named 7; lft = κs.1.1.1.1.1.1.1.0 }) (param 2 g.row.D) (param 3 g.row.P) g.P.Policy))) =
    search (sendable, crosses, option.the_send _ client) in
    let A : RattleType = (shr_ref_field (record { mir = named 5; lft = κs.1.1.1.1.1.0 }) (param 1 g.row.T) tt).row in
    let B : RattleType = (shr_ref_field (record { mir = named 6; lft = κs.1.1.1.1.1.1.0 }) (Mutex.the_row (Option.the_row (Client.the_row (record { mir = named 7; lft = κs.1.1.1.1.1.1.1.0 }) (param 2 g.row.D) (param 3 g.row.P) g.P.Policy))) tt).row in
    let C : RattleType = (shr_ref_field (record { mir = named 8; lft = κs.1.1.1.1.1.1.1.1.0 }) (param 4 g.row.L) tt).row in
    let all = four_sent A B C u64-field.row (search (sendable, r)) (search (sendable, slot)) (search (sendable, l)) (search sendable) in
    param_send 1 (Lts.arg-0-1 g.row.E g.row.T g.row.D g.row.P g.row.L g.E.laws g.T.laws g.D.laws g.P.laws g.L.laws g.T.Threads g.T.Threads-dict g.T.Wait g.T.Wait-dict g.D.Disk g.D.Disk-dict g.P.Policy g.P.Policy-dict g.L.Lanes g.L.Lanes-dict g.D.Destruct-dict g.P.Destruct-dict κs) (record { owned = all.owned; leaving = all.leaving })
