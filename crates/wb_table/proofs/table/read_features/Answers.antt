use Rattle.std.proofs.Common.{◌≡◌, ℕ, List, [], ◌∷◌, subst, refl, ap, ◌∙◌}
use Rattle.std.proofs.lemmas.Option.{IfSome_then}
use Rattle.wb_table.specs.Numbers.{SpellsNumber}
use Rattle.wb_table.proofs.table.read_features.Goals as goal

read_at : (word : List ℕ) (read number : ℕ) → SpellsNumber word read → read ≡ number → SpellsNumber word number
read_at word read number s e = subst (λ n. SpellsNumber word n) e s

pub returns-in-0-clause-found : goal.returns-in-0-clause-found
returns-in-0-clause-found c = (c.in_ok-next.field-0.now ∷ [], c.in_ok-next.ensures.steps, (read_at c.in_ok-next.field-0.now _ 0 c.in_ok-read_number.ensures.found c.in-0.is, (refl, refl)))

pub returns-in_ok-next-in-1-clause-found : goal.returns-in_ok-next-in-1-clause-found
returns-in_ok-next-in-1-clause-found c =
    let number = c.in_ok-next.field-0.now in
    let feature = c.in_ok-next-in-1.field-0.now in
    let spelled = c.in_ok-next.ensures.steps ∙ ap (λ words. number ∷ words) c.in_ok-next-in-1.ensures.steps in
    IfSome_then c.read_feature.result c.read_feature.ensures.found (λ read chosen. (number ∷ feature ∷ [], spelled, (read_at number _ 1 c.in_ok-read_number.ensures.found c.in-1.is, chosen)))

pub returns-in_ok-second-in-2-clause-found : goal.returns-in_ok-second-in-2-clause-found
returns-in_ok-second-in-2-clause-found c =
    let number = c.in_ok-next.field-0.now in
    let first = c.in_ok-first-in-2.first.now in
    let second = c.in_ok-second-in-2.second.now in
    let behind = c.in_ok-first-in-2.ensures.steps ∙ ap (λ words. first ∷ words) c.in_ok-second-in-2.ensures.steps in
    let spelled = c.in_ok-next.ensures.steps ∙ ap (λ words. number ∷ words) behind in
    IfSome_then c.read_two_features.result c.read_two_features.ensures.found (λ read chosen. (number ∷ first ∷ second ∷ [], spelled, (read_at number _ 2 c.in_ok-read_number.ensures.found c.in-2.is, chosen)))
