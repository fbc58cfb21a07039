use Rattle.std.proofs.Common.{◌≡◌, ◌∙◌, false, length, set, refl, sym, ap, arith}
use Rattle.std.proofs.lemmas.List.{length-set}
use Rattle.std.proofs.lemmas.List.Quantifiers.{position-Some}
use Rattle.wb_bits.proofs.Chosen.{chosen, fewer_chosen, none_left, none_of}
use Rattle.wb_space.specs.Places.{unused, with_running, without}
use Rattle.wb_space.proofs.Differing.{none_leaves, one_left}
use Rattle.wb_space.proofs.places.Places.leave.Goals as goal

pub loop-at-smaller : goal.loop-at-smaller
loop-at-smaller c =
    let found = position-Some (λ b. b) c.loop-at.left c.in-Some.at false (sym c.least.ensures ∙ c.in-Some.is) in
    omega (arith, ap (chosen (λ b. b)) c.remove.ensures, fewer_chosen (λ b. b) c.loop-at.left c.in-Some.at false false found.0 found.1 refl)

pub loop-at-preserved : goal.loop-at-preserved
loop-at-preserved c =
    let found = position-Some (λ b. b) c.loop-at.left c.in-Some.at false (sym c.least.ensures ∙ c.in-Some.is) in
    rw (c.put.ensures, c.remove.ensures) (record {
      places = ap (λ places. with_running places (set c.loop-at.self.in_use.running c.in-Some.at false)) c.loop-at.invariant.places;
      running = one_left c.loop-at.left c.loop-at.self.in_use.running c.in-Some.at found.1 ∙ c.loop-at.invariant.running;
      size = length-set c.loop-at.left c.in-Some.at false ∙ c.loop-at.invariant.size;
    })

pub returns-clause-places : goal.returns-clause-places
returns-clause-places c =
    let none : c.loop-at.left ≡ unused (length c.loop-at.left) = none_left c.loop-at.left (sym c.least.ensures ∙ none_of c.least.result c.in_default.not-Some) in
    let left : without c.loop-at.left c.loop-at.self.in_use.running ≡ c.loop-at.self.in_use.running =
    ap (λ left. without left c.loop-at.self.in_use.running) none ∙ none_leaves (length c.loop-at.left) c.loop-at.self.in_use.running in
    c.loop-at.invariant.places ∙ ap (with_running c.args.self.now) (sym left ∙ c.loop-at.invariant.running)

pub returns-clause-left : goal.returns-clause-left
returns-clause-left c = none_left c.loop-at.left (sym c.least.ensures ∙ none_of c.least.result c.in_default.not-Some) ∙ ap unused c.loop-at.invariant.size
