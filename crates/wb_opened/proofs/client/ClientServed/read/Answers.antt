use Rattle.wb_opened.proofs.client.ClientServed.read.Goals as goal

pub returns-in-Ok-clause-done : goal.returns-in-Ok-clause-done
returns-in-Ok-clause-done g c = (c.in-Ok.ensures.read.0, c.args.out.now, c.in-Ok.ensures.read.1)
