use Rattle.std.proofs.Common.{ℕ, ◌∙◌, sym, ap, ◌++◌, ◌∷◌, [], rules}
use Rattle.std.proofs.lemmas.List.{append_assoc}
use Rattle.wb_policy.specs.Recency.{is_dirty_and_idle}
use Rattle.wb_policy.proofs.Uses.{walk_finds, walk_goes_on, none_dirty}
use Rattle.wb_policy.proofs.recency.Recency.least_dirty.Goals as goal

pub returns-then-is_empty : goal.returns-then-is_empty
returns-then-is_empty c = sym (none_dirty c.args.tick.now.busy.now _ c.args.self.now (search rules))

pub returns-then-is_to_clean : goal.returns-then-is_to_clean
returns-then-is_to_clean c =
    let i = c.loop-number.invariant in
    sym (walk_finds (is_dirty_and_idle c.args.tick.now.busy.now c.args.tick.now.dirty.now) _ c.next.new.self.iter i.0 (c.in-Some.number.now, c.in-Some.place.now)
    (i.1 ∙ ap (λ xs. xs ++ i.0) c.in-Some.ensures.steps) i.2 (search rules))

pub loop-number-preserved : goal.loop-number-preserved
loop-number-preserved c =
    let i = c.loop-number.invariant in
    let e : ℕ × ℕ = (c.in-Some.number.now, c.in-Some.place.now) in (
      e ∷ i.0,
      i.1 ∙ (ap (λ xs. xs ++ i.0) c.in-Some.ensures.steps ∙ append_assoc c.next.new.self.iter (e ∷ []) i.0),
      walk_goes_on (is_dirty_and_idle c.args.tick.now.busy.now c.args.tick.now.dirty.now) i.0 e i.2 (search rules),
    )
