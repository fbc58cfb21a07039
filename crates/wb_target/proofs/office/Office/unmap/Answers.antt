use Rattle.std.proofs.Common.{subst}
use Rattle.wb_stage.specs.Asking.{DidUnmap}
use Rattle.wb_target.specs.Offices.{OfficeState}
use Rattle.wb_target.proofs.office.Office.unmap.Goals as goal

pub returns : goal.returns
returns g c = subst (λ (office : OfficeState g.row.P.Denot). DidUnmap g.P.Policy.without_entry c.args.block office.desk c.unmap.new.desk) c.self.view_is c.unmap.ensures
