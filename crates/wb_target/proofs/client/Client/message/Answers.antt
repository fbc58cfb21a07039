use Rattle.std.proofs.Common.{[], OnOk, IfErr, sym, subst}
use Rattle.wb_types.specs.declared.message.Message.{Message}
use Rattle.wb_target.specs.Works.{WasAsked}
use Rattle.wb_target.specs.Messages.{MessageDid, MessageRefused}
use Rattle.wb_target.proofs.client.Client.message.Goals as goal

pub returns-in-Set-clause-did : goal.returns-in-Set-clause-did
returns-in-Set-clause-did g c = subst (λ (message : Message). OnOk c.set.result (MessageDid g.P.Policy.with_setting (WasAsked g.P.Policy.with_entry g.P.Policy.without_entry []) c.args.self.now.port.geometry message c.args.self.now.port.hand c.set.new.self.port.hand)) (sym c.in-Set.is) c.set.ensures.did

pub returns-in-Set-clause-refused : goal.returns-in-Set-clause-refused
returns-in-Set-clause-refused g c = subst (λ (message : Message). IfErr c.set.result (λ refusal. MessageRefused g.P.Policy.with_setting (WasAsked g.P.Policy.with_entry g.P.Policy.without_entry []) c.args.self.now.port.geometry message refusal c.args.self.now.port.hand c.set.new.self.port.hand)) (sym c.in-Set.is) c.set.ensures.refused
