use Rattle.std.proofs.Common.{◌≤◌, Option, is_some, length, subst}
use Rattle.wb_tree.specs.Images.{AreFree}
use Rattle.wb_tree.proofs.Stored.Edited.{edited-none, inside-edited}
use Rattle.wb_desk.specs.InUse.{places_for, places_wanted}
use Rattle.wb_desk.proofs.Beside.{of_clean}
use Rattle.wb_desk.proofs.desk.imaging.plan.Goals as goal

pub plan_as_it_is-requires-clause-free : goal.plan_as_it_is-requires-clause-free
plan_as_it_is-requires-clause-free g c = subst (λ (clean : Option _). AreFree c.args.tree.now c.args.geometry.now (places_for c.args.tree.now c.args.geometry.now (is_some clean) c.args.space.now.places)) c.in-None.is
    (c.requires.free _ (edited-none _) c.requires.mapping.size)

pub clean_image-requires-clause-free : goal.clean_image-requires-clause-free
clean_image-requires-clause-free g c = subst (λ (clean : Option _). AreFree c.in_ok-imaged-in-Some.imaged c.args.geometry.now (places_for c.in_ok-imaged-in-Some.imaged c.args.geometry.now (is_some clean) c.args.space.now.places)) c.in-Some.is
    (c.requires.free _ c.in_ok-imaged-in-Some.ensures.marked.edited c.in_ok-imaged-in-Some.ensures.mapping.size)

pub clean_image-requires-clause-enough : goal.clean_image-requires-clause-enough
clean_image-requires-clause-enough g c = subst (λ (clean : Option _). places_wanted c.in_ok-imaged-in-Some.imaged c.args.geometry.now (is_some clean)
    ≤ length (places_for c.in_ok-imaged-in-Some.imaged c.args.geometry.now (is_some clean) c.args.space.now.places)) c.in-Some.is
    (c.requires.enough _ c.in_ok-imaged-in-Some.ensures.mapping.size)

pub clean_image-requires-clause-inside : goal.clean_image-requires-clause-inside
clean_image-requires-clause-inside g c = inside-edited _ _ _ c.in_ok-imaged-in-Some.ensures.marked.edited c.requires.inside

pub returns-in_ok-used-in-Some-clause-image : goal.returns-in_ok-used-in-Some-clause-image
returns-in_ok-used-in-Some-clause-image g c = of_clean (λ dirty. dirty.now) c.args.geometry.now.version _ c.args.clean c.in-Some.dirty c.tree_bits.result.now c.args.tree.now c.in_ok-imaged-in-Some.imaged _
    (λ flag m. record { geometry = c.args.geometry.now; generation = c.args.generation; clean = flag; free = places_for m c.args.geometry.now flag c.args.space.now.places })
    c.in_ok-image-in-Some.image c.in-Some.is c.tree_bits.ensures c.in_ok-imaged-in-Some.ensures.marked c.in_ok-image-in-Some.ensures.image
