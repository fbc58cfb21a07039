use Rattle.std.proofs.Common.{ℕ, ◌∙◌, sym, ap, ◌++◌, ◌∷◌, [], rules}
use Rattle.std.proofs.lemmas.List.{append_assoc}
use Rattle.wb_policy.specs.Recency.{is_idle}
use Rattle.wb_policy.proofs.Uses.{walk_finds, walk_goes_on}
use Rattle.wb_policy.proofs.recency.Recency.least_idle.Goals as goal

pub returns-then-not-is_busy : goal.returns-then-not-is_busy
returns-then-not-is_busy c =
    let i = c.loop-block.invariant in
    sym (walk_finds (is_idle c.args.busy.now) _ c.next.new.self.iter i.0 (c.in-Some.block.now, c.in-Some.at.now)
    (i.1 ∙ ap (λ xs. xs ++ i.0) c.in-Some.ensures.steps) i.2 (search rules))

pub loop-block-preserved : goal.loop-block-preserved
loop-block-preserved c =
    let i = c.loop-block.invariant in
    let e : ℕ × ℕ = (c.in-Some.block.now, c.in-Some.at.now) in (
      e ∷ i.0,
      i.1 ∙ (ap (λ xs. xs ++ i.0) c.in-Some.ensures.steps ∙ append_assoc c.next.new.self.iter (e ∷ []) i.0),
      walk_goes_on (is_idle c.args.busy.now) i.0 e i.2 (search rules),
    )
