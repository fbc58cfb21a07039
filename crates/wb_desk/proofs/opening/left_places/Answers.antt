use Rattle.wb_tree.specs.Mapping.{IsPlaceOf, used_places}
use Rattle.wb_space.specs.Places.{place_count}
use Rattle.wb_space.proofs.Changing.{opened_left}
use Rattle.wb_desk.proofs.opening.left_places.Goals as goal

pub returns-clause-left : goal.returns-clause-left
returns-clause-left c = rw (c.in_ok-left.ensures, c.place_count.ensures.count, c.deref.ensures.value, c.in_ok-known.ensures.places)
    (opened_left (IsPlaceOf c.args.tree.now) (used_places c.args.tree.now) c.args.used.now (place_count c.args.geometry.now) c.in_ok-known.ensures.used.are)
