use Rattle.wb_desk.proofs.Acts.{all_kept, stays, opened_kept, unnamed}
use Rattle.wb_desk.proofs.law.allocation_keeps_its_invariant.Goals as goal

pub returns : goal.returns
returns g = record { rule = λ d i acts run. all_kept d acts run i; quarantine = λ d a may c. stays d a may c; opening = λ m n once. opened_kept m n once; unnamed = λ d i c s b. unnamed d i c s b }
