use Rattle.wb_machine.proofs.machine.happen.Goals as goal

pub returns-in-Stop-clause-sound : goal.returns-in-Stop-clause-sound
returns-in-Stop-clause-sound c = c.stop.ensures.sound c.args.geometry.now c.requires.sound
