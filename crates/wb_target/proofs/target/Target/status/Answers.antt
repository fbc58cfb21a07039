use Rattle.std.proofs.Common.{◌≡◌, ◌++◌}
use Rattle.std.specs.Prelude.{string_bytes}
use Rattle.std.proofs.lemmas.Result.{on_ok_weaker}
use Rattle.wb_table.specs.Status.{status_line}
use Rattle.wb_target.proofs.target.Target.status.Goals as goal

pub returns-clause-line : goal.returns-clause-line
returns-clause-line g c =
    on_ok_weaker c.status_text.result
    (λ (is : string_bytes c.status_text.new.text ≡ string_bytes c.args.text.now ++ status_line c.fields-fields.result). (c.fields-fields.result, (c.deref_mut.result.now, (c.fields-fields.new.self, c.fields-fields.ensures.shown, c.fields-fields.ensures.looked, is))))
    c.status_text.ensures.line
