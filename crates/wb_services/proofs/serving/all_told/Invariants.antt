use Rattle.std.proofs.Common.{◌≡◌, map}
use Rattle.wb_services.proofs.serving.all_told.Given as goal

abbrev pub invariant-loop-one : goal.invariant-loop-one
invariant-loop-one g l = l.all.items ≡ map (λ one. one.told) l.yielded
