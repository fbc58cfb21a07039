use Rattle.wb_machine.proofs.asking.see_begun.Goals as goal

pub returns-in_default : goal.returns-in_default
returns-in_default c nodes e = absurd (c.in_default.not-Began nodes e)
