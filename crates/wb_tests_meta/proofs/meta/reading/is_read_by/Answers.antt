use Rattle.wb_tests_meta.proofs.meta.reading.is_read_by.Goals as goal

pub loop-sector-init : goal.loop-sector-init
loop-sector-init c = c.new-steps.ensures.on _
