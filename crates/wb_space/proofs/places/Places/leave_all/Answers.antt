use Rattle.std.proofs.Common.{◌≡◌, ◌∙◌, false, length, set, refl, sym, ap, arith}
use Rattle.std.proofs.lemmas.List.{length-set}
use Rattle.std.proofs.lemmas.List.Quantifiers.{position-Some}
use Rattle.wb_bits.proofs.Chosen.{chosen, fewer_chosen, none_left, none_of}
use Rattle.wb_space.specs.Places.{unused, with_running}
use Rattle.wb_space.proofs.places.Places.leave_all.Goals as goal

pub loop-at-smaller : goal.loop-at-smaller
loop-at-smaller c =
    let found = position-Some (λ b. b) c.loop-at.self.in_use.running c.in-Some.at false (sym c.least_running.ensures.least ∙ c.in-Some.is) in
    omega (arith, ap (λ places. chosen (λ b. b) places.in_use.running) c.put.ensures, fewer_chosen (λ b. b) c.loop-at.self.in_use.running c.in-Some.at false false found.0 found.1 refl)

pub loop-at-preserved : goal.loop-at-preserved
loop-at-preserved c = rw c.put.ensures (record {
  places = ap (λ places. with_running places (set c.loop-at.self.in_use.running c.in-Some.at false)) c.loop-at.invariant.places;
  size = length-set c.loop-at.self.in_use.running c.in-Some.at false ∙ c.loop-at.invariant.size;
})

pub returns : goal.returns
returns c =
    let none : c.loop-at.self.in_use.running ≡ unused (length c.loop-at.self.in_use.running) =
    none_left c.loop-at.self.in_use.running (sym c.least_running.ensures.least ∙ none_of c.least_running.result c.in_default.not-Some) in
    c.loop-at.invariant.places ∙ ap (with_running c.args.self.now) (none ∙ ap unused c.loop-at.invariant.size)
