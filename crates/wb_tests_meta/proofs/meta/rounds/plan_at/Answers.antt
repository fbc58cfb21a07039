use Rattle.std.proofs.Common.{◌≡◌, ◌≤◌, ◌∙◌, ℕ, true, ap, length, arith}
use Rattle.wb_types.specs.Limits.{depth_of}
use Rattle.wb_tree.specs.Mapping.{Mapping, changed}
use Rattle.std.proofs.lemmas.Result.{IfOk-weaker}
use Rattle.wb_tree.specs.Images.{AreFree, ImagePlan}
use Rattle.wb_meta.proofs.Imaging.{have_places}
use Rattle.wb_meta.proofs.Round.{free_of_unused}
use Rattle.wb_tests_meta.proofs.OwnPlaces.{places-unused}
use Rattle.wb_tests_meta.proofs.meta.rounds.plan_at.Goals as goal

enough_for : (m : Mapping) (cache_blocks result count : ℕ) → length m.entries ≡ cache_blocks → result ≡ length (changed m (depth_of (length m.entries))) → result ≤ count → length (changed m (depth_of cache_blocks)) ≤ count
enough_for m cache_blocks result count size is less =
    let same : length (changed m (depth_of (length m.entries))) ≡ length (changed m (depth_of cache_blocks)) = ap (λ n. length (changed m (depth_of n))) size in
    omega (arith, is, same, less)

pub plan-requires-clause-free : goal.plan-requires-clause-free
plan-requires-clause-free c =
    free_of_unused c.args.tree.now c.args.geometry.now c.args.used.now c.deref.result.now c.requires.used
    (places-unused c.args.geometry.now (length (changed c.args.tree.now (depth_of c.args.geometry.now.cache_blocks))) c.from-first.result c.from-count.result c.deref.result.now (c.deref.ensures.value ∙ c.in_ok-places.ensures)
    c.args.used.now (c.are_outside.ensures c.if-not-are_outside.false) (omega arith) (enough_for c.args.tree.now c.args.geometry.now.cache_blocks c.changed_nodes.result c.from-count.result c.requires.size c.changed_nodes.ensures (omega arith)) (omega arith))

pub returns-clause-fits : goal.returns-clause-fits
returns-clause-fits c =
    let plan : ImagePlan = record { geometry = c.args.geometry.now; generation = c.args.generation; clean = true; free = c.deref.result.now } in
    let free : AreFree c.args.tree.now c.args.geometry.now c.deref.result.now = free_of_unused c.args.tree.now c.args.geometry.now c.args.used.now c.deref.result.now c.requires.used
    (places-unused c.args.geometry.now (length (changed c.args.tree.now (depth_of c.args.geometry.now.cache_blocks))) c.from-first.result c.from-count.result c.deref.result.now (c.deref.ensures.value ∙ c.in_ok-places.ensures)
    c.args.used.now (c.are_outside.ensures c.if-not-are_outside.false) (omega arith) (enough_for c.args.tree.now c.args.geometry.now.cache_blocks c.changed_nodes.result c.from-count.result c.requires.size c.changed_nodes.ensures (omega arith)) (omega arith)) in
    IfOk-weaker c.plan.result _ _ (λ image h. have_places c.args.tree.now c.plan.new.self plan image free h) c.plan.ensures.image
