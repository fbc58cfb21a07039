use Rattle.wb_flow.proofs.Requests.{refused_flush}
use Rattle.wb_flow.proofs.committing.CommitTaskSteps.after_refusal.Goals as goal

pub returns-in_default : goal.returns-in_default
returns-in_default c = refused_flush c.self.inside c.args.refusal c.in-Flush.is c.in_default.not-Failed c.self.view_is c.requires
