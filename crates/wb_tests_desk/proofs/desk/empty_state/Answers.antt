use Rattle.std.proofs.Common.{◌∙◌, ℕ, None, replicate, sym, ap}
use Rattle.wb_desk.proofs.Empty.{no_entry}
use Rattle.wb_tests_desk.proofs.desk.empty_state.Goals as goal

pub returns-clause-fits : goal.returns-clause-fits
returns-clause-fits c = rw c.new-2.ensures.items (no_entry _ c.new.result
    (c.new.ensures.entries ∙ ap (λ (n : ℕ). replicate n None) (ap (λ g. g.cache_blocks) (sym c.root.ensures))) c.new.ensures.known c.new.ensures.sound)
