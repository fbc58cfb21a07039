use Rattle.wb_opened.proofs.client.ClientServed.tick.Goals as goal

pub returns-in-Ok-clause-done : goal.returns-in-Ok-clause-done
returns-in-Ok-clause-done g c = (c.in-Ok.ensures.ticked, c.in-Ok.field-0, c.in-Ok.ensures.flushed, c.in-Ok.ensures.synced)
