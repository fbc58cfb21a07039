use Rattle.wb_flow.proofs.Requests.{asks, began, is_served}
use Rattle.wb_flow.proofs.committing.CommitTaskSteps.after_rare.Goals as goal

pub returns-in-Ticket : goal.returns-in-Ticket
returns-in-Ticket c = asks c.self.inside c.args.got c.in-Ticket.is c.self.view_is c.requires.fits

pub returns-in-Served : goal.returns-in-Served
returns-in-Served c = is_served c.self.inside c.args.got c.in-Served.is c.self.view_is c.requires.fits

pub returns-in_default : goal.returns-in_default
returns-in_default c = began c.self.inside c.args.got c.begun.result c.begun.ensures.steps c.in_default.not-Ticket c.in_default.not-Served c.requires.rare c.self.view_is c.requires.fits
