use Rattle.std.proofs.Common.{◌≡◌, length}
use Rattle.wb_services.proofs.serving.errands_of.Given as goal

abbrev pub invariant-loop-service : goal.invariant-loop-service
invariant-loop-service g l = length l.errands.items ≡ length l.yielded
