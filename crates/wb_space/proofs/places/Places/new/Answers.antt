use Rattle.std.proofs.Common.{◌≡◌, Bool, false, not, length, refl, ap, arith}
use Rattle.std.proofs.lemmas.List.{length-map, length-replicate}
use Rattle.wb_space.specs.Places.{noted, unused}
use Rattle.wb_space.proofs.Freeing.{free_of_one}
use Rattle.wb_space.proofs.Noted.{length-noted_alone}
use Rattle.wb_space.proofs.places.Places.new.Goals as goal

pub others_of-requires : goal.others_of-requires
others_of-requires c = omega (arith, ap length c.in_ok-committed.ensures, length-noted_alone c.args.used.now c.args.bound, c.requires)

pub invariant_of-result : goal.invariant_of-result
invariant_of-result c =
    let count : length (noted c.args.used.now (unused c.args.bound)) ≡ c.args.bound = length-noted_alone c.args.used.now c.args.bound in
    rw (c.in_ok-committed.ensures, c.in_ok-newest.ensures, c.in_ok-changed.ensures, c.in_ok-free.ensures, c.in_ok-committed.ensures) (record {
      small = omega (arith, count, c.requires);
      even = refl;
      marks = omega (arith, count, length-replicate {A = Bool} c.args.bound false);
      elsewhere = λ k none. refl;
      span = length-map (noted c.args.used.now (unused c.args.bound)) not;
      free = free_of_one (noted c.args.used.now (unused c.args.bound));
      idle = λ idle. rw count refl;
    })

pub returns : goal.returns
returns c = rw (c.in_ok-committed.ensures, length-noted_alone c.args.used.now c.args.bound) refl
