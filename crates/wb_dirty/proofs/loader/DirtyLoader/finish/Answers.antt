use Rattle.std.proofs.Common.{◌≡◌, ◌∙◌, ap, subst, None, Ok}
use Rattle.wb_dirty.specs.Loading.{DirtyLoading, outcome_of}
use Rattle.wb_dirty.proofs.Loads.{outcome-ended}
use Rattle.wb_dirty.proofs.loader.DirtyLoader.finish.Goals as goal

pub returns-clause-read : goal.returns-clause-read
returns-clause-read c nodes =
    let none : _ ≡ None = ap (λ (m : DirtyLoading). m.wanted) c.self.view_is ∙ c.requires in
    subst (λ (l : DirtyLoading). outcome_of l nodes ≡ Ok l.marks) c.self.view_is (outcome-ended _ nodes none (c.self.invariant.ended none))
