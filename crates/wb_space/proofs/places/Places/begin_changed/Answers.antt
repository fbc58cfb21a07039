use Rattle.std.proofs.Common.{◌≡◌, ◌∙◌, false, map, refl, sym, ap, arith}
use Rattle.std.proofs.lemmas.List.{at_drop_all}
use Rattle.wb_space.specs.Places.{noted, without}
use Rattle.wb_space.proofs.Differing.{idle_same}
use Rattle.wb_space.proofs.places.Places.begin_changed.Goals as goal

pub returns-clause-places : goal.returns-clause-places
returns-clause-places g c =
    let committed : c.self.inside.committed ≡ c.args.self.now.in_use.committed = ap (λ places. places.in_use.committed) c.self.view_is in
    let idle : c.self.inside.committing ≡ false = ap (λ places. places.committing) c.self.view_is ∙ c.requires.idle in
    let newest : c.self.inside.newest ≡ c.args.self.now.in_use.committed = idle_same c.self.inside c.self.invariant idle ∙ committed in
    let left : c.leave.new.self.in_use.running ≡ without c.args.left.now c.args.self.now.in_use.committed =
    ap (λ places. places.in_use.running) c.leave.ensures.places ∙ ap (without c.args.left.now) newest in
    let all : c.loop-node.self.in_use.running ≡ noted (map (λ node. node.0) c.args.added.now) (without c.args.left.now c.args.self.now.in_use.committed) =
    sym (at_drop_all (λ nodes. noted (map (λ node. node.0) nodes) c.loop-node.self.in_use.running) c.args.added.now c.loop-node.node-index (omega (arith, c.loop-node.auto.node-index-end, c.loop-node-test.false)))
    ∙ c.loop-node.invariant.running ∙ ap (noted (map (λ node. node.0) c.args.added.now)) left in
    c.loop-node.invariant.places ∙ rw (all, c.leave.ensures.places, committed) refl
