use Rattle.std.proofs.Common.{◌≡◌, ◌∙◌, ◌+◌, ℕ, Bool, ap, sym, arith, is_some, if◌then◌else◌}
use Rattle.wb_target.proofs.Seals.{saw_next}
use Rattle.wb_target.proofs.office.Office.count_dirty.Goals.{then-is_some, else-is_some}
use Rattle.wb_target.proofs.office.Office.count_dirty.Goals as goal

pub loop-c-preserved : goal.loop-c-preserved
loop-c-preserved g c =
    let first = c.args.self.now in
    let mid = c.loop-c.self in
    let new = c.dirty_at.new.self in
    let bit : ℕ = (if is_some c.dirty_at.result then 1 else 0) in
    let desk = c.dirty_at.ensures.desk ∙ c.loop-c.invariant.desk in
    let seen = λ (all : ℕ) (sum : all ≡ c.loop-c.dirty + bit). saw_next first.desk.tree c.loop-c.c first.watch.pass.card mid.watch.pass.card new.watch.pass.card c.loop-c.dirty bit all mid.desk.tree
    (ap (λ desk. desk.tree) c.loop-c.invariant.desk) sum c.loop-c.invariant.seen c.dirty_at.ensures.looked in
    elim c.if-is_some.branch [
      | then-is_some w ↦
          let here : bit ≡ 1 = ap (λ (b : Bool). if b then 1 else 0) (sym c.is_some.ensures ∙ w.if-is_some.true) in
          record { desk = desk; few = omega (arith, w.dirty-is, c.loop-c.invariant.few); seen = seen c.if-is_some.dirty (omega (arith, w.dirty-is, here)) }
      | else-is_some w ↦
          let here : bit ≡ 0 = ap (λ (b : Bool). if b then 1 else 0) (sym c.is_some.ensures ∙ w.if-is_some.false) in
          record { desk = desk; few = omega (arith, w.dirty-is, c.loop-c.invariant.few); seen = seen c.if-is_some.dirty (omega (arith, w.dirty-is, here)) }
    ]
