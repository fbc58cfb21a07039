use Rattle.std.proofs.Common.{ℕ, List, inr, subst, sym}
use Rattle.std.proofs.lemmas.Result.{IfErr-at_err}
use Rattle.wb_types.specs.declared.message.Key.{Key}
use Rattle.wb_target.specs.NotOpened.{IsNotOpened}
use Rattle.wb_opened.specs.Tables.{Lists}
use Rattle.wb_opened.proofs.opening.open_target.Goals as goal

-- the opening was refused so, with the keys of the table
pub returns-clause-refused : goal.returns-clause-refused
returns-clause-refused g c =
    let table = c.args.table.now in
    let keys = c.as_slice.result.now in
    let back = c.open-devices.result.0 in
    inr (
      keys,
      back,
      c.in-Err-opened.refusal,
      subst (λ (list : List (Key × ℕ)). Lists list table.keys) (sym c.as_slice.ensures.value) c.in-Ok.ensures.listed,
      IfErr-at_err (λ refusal. IsNotOpened g.D.Disk.tells g.D.Disk.size g.D.Disk.contents g.D.Disk.faults g.P.Policy.begun g.P.Policy.with_setting table.mode keys table.block table.metadata2 c.args.devices back refusal) c.in-Err-opened.is c.open-devices.ensures.refused,
      c.unserved_of-unserved.ensures.told,
    )
