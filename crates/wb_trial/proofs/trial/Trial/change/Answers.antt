use Rattle.wb_trial.proofs.Trials.{trial_changed}
use Rattle.wb_trial.proofs.trial.Trial.change.Goals as goal

pub invariant_of-self : goal.invariant_of-self
invariant_of-self c =
    let t = c.self.inside in
    trial_changed t.geometry t.tree c.change.new.tree t.next c.change.result c.self.invariant c.change.ensures.size c.change.ensures.own c.change.ensures.stays c.change.ensures.err
