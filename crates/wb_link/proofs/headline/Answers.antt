use Rattle.wb_link.proofs.Lives.{headline}
use Rattle.wb_link.proofs.headline.Goals as goal

pub returns : goal.returns
returns g size many z es run = headline size many z es run
