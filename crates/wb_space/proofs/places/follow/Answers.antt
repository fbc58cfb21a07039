use Rattle.std.proofs.Common.{◌≡◌, ◌∙◌, false, not, get_or, map, refl, sym, ap, arith}
use Rattle.std.proofs.lemmas.List.{get_or-map, length-map, length-set}
use Rattle.std.proofs.lemmas.List.Quantifiers.{position-Some}
use Rattle.std.proofs.lemmas.Option.{get_or_from_slice_get}
use Rattle.wb_bits.proofs.Chosen.{chosen, fewer_chosen, none_left, none_of}
use Rattle.wb_bits.proofs.Least.{none_at_all}
use Rattle.wb_space.specs.Places.{unused}
use Rattle.wb_space.proofs.Differing.{differ_less, same_unmarked}
use Rattle.wb_space.proofs.places.follow.Goals as goal

pub loop-at-smaller : goal.loop-at-smaller
loop-at-smaller c =
    let found = position-Some (λ b. b) c.loop-at.changed c.in-Some.at false (sym c.least.ensures ∙ c.in-Some.is) in
    omega (arith, ap (chosen (λ b. b)) c.remove.ensures, fewer_chosen (λ b. b) c.loop-at.changed c.in-Some.at false false found.0 found.1 refl)

pub set-requires-in-Some : goal.set-requires-in-Some
set-requires-in-Some c =
    let found = position-Some (λ b. b) c.loop-at.changed c.in-Some.at false (sym c.least.ensures ∙ c.in-Some.is) in
    omega (arith, found.0, c.loop-at.invariant.span, c.loop-at.invariant.marks)

pub loop-at-preserved : goal.loop-at-preserved
loop-at-preserved c =
    let found = position-Some (λ b. b) c.loop-at.changed c.in-Some.at false (sym c.least.ensures ∙ c.in-Some.is) in
    let used : c.contains-used.result ≡ get_or c.args.followed.now c.in-Some.at false =
    sym (get_or_from_slice_get c.args.followed.now c.in-Some.at c.contains-used.result false c.contains-used.ensures) in
    rw (c.set.ensures, c.set-in-Some.ensures, c.remove.ensures) (record {
      even = length-set c.loop-at.follower c.in-Some.at c.contains-used.result ∙ c.loop-at.invariant.even;
      span = length-set c.loop-at.others c.in-Some.at (not c.contains-used.result) ∙ c.loop-at.invariant.span;
      marks = length-set c.loop-at.changed c.in-Some.at false ∙ c.loop-at.invariant.marks;
      elsewhere = differ_less c.loop-at.changed c.loop-at.follower c.args.followed.now c.in-Some.at c.contains-used.result (omega (arith, found.0, c.loop-at.invariant.even, c.loop-at.invariant.marks))
          used c.loop-at.invariant.elsewhere;
      opposite = differ_less c.loop-at.changed c.loop-at.others (map not c.args.followed.now) c.in-Some.at (not c.contains-used.result) (omega (arith, found.0, c.loop-at.invariant.span, c.loop-at.invariant.marks))
          (ap not used ∙ sym (get_or-map not c.args.followed.now c.in-Some.at false false (omega (arith, found.0, c.loop-at.invariant.marks)))) c.loop-at.invariant.opposite;
    })

pub returns-clause-follower : goal.returns-clause-follower
returns-clause-follower c = same_unmarked c.loop-at.changed c.loop-at.follower c.args.followed.now c.loop-at.invariant.even
    (none_at_all c.loop-at.changed (sym c.least.ensures ∙ none_of c.least.result c.in_default.not-Some)) c.loop-at.invariant.elsewhere

pub returns-clause-others : goal.returns-clause-others
returns-clause-others c = same_unmarked c.loop-at.changed c.loop-at.others (map not c.args.followed.now) (c.loop-at.invariant.span ∙ sym (length-map c.args.followed.now not))
    (none_at_all c.loop-at.changed (sym c.least.ensures ∙ none_of c.least.result c.in_default.not-Some)) c.loop-at.invariant.opposite

pub returns-clause-changed : goal.returns-clause-changed
returns-clause-changed c = none_left c.loop-at.changed (sym c.least.ensures ∙ none_of c.least.result c.in_default.not-Some) ∙ ap unused c.loop-at.invariant.marks
