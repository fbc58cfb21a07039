use Rattle.std.proofs.Common.{ℕ, List}
use Rattle.wb_types.specs.declared.message.Key.{Key}
use Rattle.wb_types.specs.declared.refusal.Refusal.{Refusal}
use Rattle.wb_devices.specs.declared.devices.Devices.{Devices}
use Rattle.wb_target.specs.NotOpened.{IsNotOpened}
use Rattle.wb_opened.specs.Looks.{WereLookedAt}
use Rattle.wb_opened.specs.Tables.{Lists}
use Rattle.wb_opened.specs.Unserved.{IsToldFor}
use Rattle.wb_opened.proofs.Looks.{behind_a_look, err_of, ok_of_three}
use Rattle.wb_opened.proofs.opening.open_inspected.Goals as goal

-- what the inspector left
pub returns-in-Ok-clause-opened : goal.returns-in-Ok-clause-opened
returns-in-Ok-clause-opened g c =
    ok_of_three c.open_target.result.1 _ _ _ _
    (λ target sizes run opened. (c.inspect.new.devices, record { sizes = c.inspect.ensures.sizes; kept = c.inspect.ensures.kept }, sizes, run, opened))
    c.open_target.ensures.sizes c.open_target.ensures.run c.open_target.ensures.opened

pub returns-in-Ok-clause-refused : goal.returns-in-Ok-clause-refused
returns-in-Ok-clause-refused g c =
    let table = c.args.table.now in
    err_of c.open_target.result.1 _ _
    (λ unserved refused. behind_a_look (λ looked. WereLookedAt g.D.Disk.tells g.D.Disk.size g.D.Disk.contents c.args.devices looked)
    (λ looked. (keys : List (Key × ℕ)) × (back : Devices g.row.D.Denot) × (refusal : Refusal) × Lists keys table.keys
    × IsNotOpened g.D.Disk.tells g.D.Disk.size g.D.Disk.contents g.D.Disk.faults g.P.Policy.begun g.P.Policy.with_setting table.mode keys table.block table.metadata2 looked back refusal × IsToldFor unserved refusal)
    c.inspect.new.devices (record { sizes = c.inspect.ensures.sizes; kept = c.inspect.ensures.kept }) refused)
    c.open_target.ensures.refused
