use Rattle.std.proofs.Common.{true, false, eq-eqb}
use Rattle.std.proofs.lemmas.Bool.{ne_eqb}
use Rattle.wb_cells.proofs.Meeting.{looks, exchanges}
use Rattle.wb_cells.proofs.cells.Cells.step.Goals as goal

pub returns-in-Look : goal.returns-in-Look
returns-in-Look c = let e = c.look.ensures in record { step = looks c.args.self.now.blocks c.args.pass.now c.look.new.pass c.args.step c.look.result c.in-Look.word c.in-Look.is e.pass (e.known, e.failed, e.sums) e.found }

pub returns-then-exchange-seen : goal.returns-then-exchange-seen
returns-then-exchange-seen c =
    let e = c.exchange.ensures in
    let t = c.in-Take in
    record { step = exchanges c.args.self.now.blocks c.args.pass.now c.exchange.new.pass c.args.step c.exchange.result t.access t.block t.seen t.is e.pass e.found true (eq-eqb c.exchange.result t.seen c.if-exchange-seen.true) }

pub returns-else-exchange-seen : goal.returns-else-exchange-seen
returns-else-exchange-seen c =
    let e = c.exchange.ensures in
    let t = c.in-Take in
    record { step = exchanges c.args.self.now.blocks c.args.pass.now c.exchange.new.pass c.args.step c.exchange.result t.access t.block t.seen t.is e.pass e.found false (ne_eqb c.exchange.result t.seen c.if-exchange-seen.false) }
