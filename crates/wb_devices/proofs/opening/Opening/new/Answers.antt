use Rattle.std.proofs.Common.{refl}
use Rattle.wb_devices.proofs.opening.Opening.new.Goals as goal

pub returns-clause-goes_on : goal.returns-clause-goes_on
returns-clause-goes_on c = c.new.ensures.on

pub returns-clause-begins : goal.returns-clause-begins
returns-clause-begins c = record { reading = c.new.result; reading_is = refl; begins = c.new.ensures.begins; commit = refl }
