use Rattle.std.proofs.Common.{◌≡◌, rules, refl}
use Rattle.std.specs.Bool.{Decides}
use Rattle.std.proofs.lemmas.Bool.Decides.{Decides-eqb}
use Rattle.std.proofs.lemmas.Slice.Eq.{slice_eq-Decides}
use Rattle.wb_checks.proofs.comparing.are_equal.Goals as goal

pub returns : goal.returns
returns c =
    let same : Decides c.eq.result (c.args.left.now ≡ c.args.right.now) = slice_eq-Decides (λ a b. slice_eq-Decides Decides-eqb a b _ refl) _ _ _ c.eq.ensures in
    search rules
