use Rattle.wb_dirty.proofs.DirtyBits.{found-below, none-below}
use Rattle.wb_dirty.proofs.planning.is_any_below.Goals as goal

pub returns-in-Some : goal.returns-in-Some
returns-in-Some c = found-below c.args.dirty.now c.args.level c.args.index c.words_below-span.result c.in-Some.block c.words_below-span.ensures.value c.in-Some.ensures.found

pub returns-in-None : goal.returns-in-None
returns-in-None c = none-below c.args.dirty.now c.args.level c.args.index c.words_below-span.result c.words_below-span.ensures.value c.in-None.ensures.none
