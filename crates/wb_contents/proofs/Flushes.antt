use Rattle.std.proofs.Common.{◌≡◌, ◌≤◌, ◌+◌, inl, inr, ℕ, max, ap, subst, ◌∙◌, arith}
use Rattle.std.proofs.lemmas.Bool.{cases_eq}
use Rattle.wb_contents.specs.Volume.{changed, changed_at}
use Rattle.wb_contents.proofs.Positions.{changed_same, changed_other}
use Rattle.wb_contents.proofs.Images.{rose}

-- What acknowledgements rest on: positions and numbers of commits alone.
pub record Tally : Type 0 where
  pub finished : ℕ → ℕ → ℕ
  pub running_floor : ℕ → ℕ → ℕ
  pub committed_floor : ℕ → ℕ → ℕ
  pub began : ℕ
  pub ended : ℕ
  pub ticket : ℕ → ℕ
  pub then_finished : ℕ → ℕ → ℕ → ℕ
  pub floor : ℕ → ℕ → ℕ

pub record KeepsFlushes (d : Tally) : Type 0 where
  pub waiting : (a b o : ℕ) → d.then_finished a b o ≤ d.finished b o
  pub covered : (a b o : ℕ) → d.ticket a ≤ d.began → d.then_finished a b o ≤ d.running_floor b o
  pub served : (a b o : ℕ) → d.ticket a ≤ d.ended → d.then_finished a b o ≤ d.committed_floor b o
  pub floor_committed : (b o : ℕ) → d.floor b o ≤ d.committed_floor b o
  pub numbers : d.ended ≤ d.began

pub finish_flushes : (d : Tally) (b o f : ℕ) → d.finished b o ≤ f → KeepsFlushes d → KeepsFlushes (record d { finished = changed_at d.finished b o f })
finish_flushes d b o f m i = record {
  waiting = λ a b' o'. let w = i.waiting a b' o' in let r = rose d.finished b o f m b' o' in omega arith;
  covered = i.covered;
  served = i.served;
  floor_committed = i.floor_committed;
  numbers = i.numbers;
}

pub begin_flushes : (d : Tally) → KeepsFlushes d → KeepsFlushes (record d { running_floor = d.finished; began = d.began + 1 })
begin_flushes d i = record { waiting = i.waiting; covered = λ a b o t. i.waiting a b o; served = i.served; floor_committed = i.floor_committed; numbers = let n = i.numbers in omega arith }

pub end_flushes : (d : Tally) → ((b o : ℕ) → d.committed_floor b o ≤ d.running_floor b o) → KeepsFlushes d → KeepsFlushes (record d { ended = d.began; committed_floor = d.running_floor })
end_flushes d m i = record { waiting = i.waiting; covered = i.covered; served = i.covered; floor_committed = λ b o. let l = m b o in let k = i.floor_committed b o in omega arith; numbers = omega arith }

-- no flush is left
pub ended_flushes : (d : Tally) → KeepsFlushes d → KeepsFlushes (record d { finished = d.committed_floor; running_floor = d.committed_floor; began = 0; ended = 0; ticket = λ a. 0; then_finished = λ a b o. 0 })
ended_flushes d i = record { waiting = λ a b o. omega arith; covered = λ a b o t. omega arith; served = λ a b o t. omega arith; floor_committed = i.floor_committed; numbers = omega arith }

pub root_flushes : (d : Tally) → KeepsFlushes d → KeepsFlushes (record d { running_floor = d.committed_floor; then_finished = λ a b o. 0 })
root_flushes d i = record { waiting = λ a b o. omega arith; covered = λ a b o t. omega arith; served = λ a b o t. omega arith; floor_committed = i.floor_committed; numbers = i.numbers }

pub first_flushes : KeepsFlushes (record { finished = λ b o. 0; running_floor = λ b o. 0; committed_floor = λ b o. 0; began = 0; ended = 0; ticket = λ a. 0; then_finished = λ a b o. 0; floor = λ b o. 0 })
first_flushes = record { waiting = λ a b o. omega arith; covered = λ a b o t. omega arith; served = λ a b o t. omega arith; floor_committed = λ b o. omega arith; numbers = omega arith }

pub start_flushes : (d : Tally) (a : ℕ) → KeepsFlushes d → KeepsFlushes (record d { ticket = changed d.ticket a (d.began + 1); then_finished = changed d.then_finished a d.finished })
start_flushes d a i = record {
  waiting = λ a' b o. elim (cases_eq a' a) [
    | inl e ↦ rw (e, changed_same d.then_finished a d.finished) (omega arith)
    | inr n ↦ rw (changed_other d.then_finished a a' d.finished n) (i.waiting a' b o)
  ];
  covered = λ a' b o t. elim (cases_eq a' a) [
    | inl e ↦ let now : changed d.ticket a (d.began + 1) a' ≡ d.began + 1 = ap (changed d.ticket a (d.began + 1)) e ∙ changed_same d.ticket a (d.began + 1) in absurd (omega arith)
    | inr n ↦ rw (changed_other d.then_finished a a' d.finished n) (i.covered a' b o (subst (λ (x : ℕ). x ≤ d.began) (changed_other d.ticket a a' (d.began + 1) n) t))
  ];
  served = λ a' b o t. elim (cases_eq a' a) [
    | inl e ↦ let now : changed d.ticket a (d.began + 1) a' ≡ d.began + 1 = ap (changed d.ticket a (d.began + 1)) e ∙ changed_same d.ticket a (d.began + 1) in let n = i.numbers in absurd (omega arith)
    | inr n ↦ rw (changed_other d.then_finished a a' d.finished n) (i.served a' b o (subst (λ (x : ℕ). x ≤ d.ended) (changed_other d.ticket a a' (d.began + 1) n) t))
  ];
  floor_committed = i.floor_committed;
  numbers = i.numbers;
}

pub answer_flushes : (d : Tally) (a : ℕ) → d.ticket a ≤ d.ended → KeepsFlushes d → KeepsFlushes (record d { floor = λ b o. max (d.floor b o) (d.then_finished a b o) })
answer_flushes d a t i = record {
  waiting = i.waiting;
  covered = i.covered;
  served = i.served;
  floor_committed = λ b o. let s = i.served a b o t in let k = i.floor_committed b o in omega arith;
  numbers = i.numbers;
}
