use Rattle.std.proofs.Common.{◌≡◌, ◌+◌, ◌-◌, ◌*◌, ℕ, List, Err, true, false, sym, ap, subst, ◌∙◌, arith, slice_index}
use Rattle.wb_tree.specs.declared.placed.PlacedNode.{PlacedNode}
use Rattle.wb_tree.specs.declared.frame.Frame.{Frame}
use Rattle.wb_tree.specs.Reading.{names_child, ReadOutcome, ◌then◌, each_step, node_read}
use Rattle.wb_tree.specs.Loading.{frame_step}
use Rattle.wb_tree.proofs.Reading.Steps.{each_step-next, each_step-none, child_read-zero, child_read-named, child_read-unnamed, same_node_read}
use Rattle.wb_tree.proofs.frame.Frame.next_child.Goals as goal

pub returns-in-Some-clause-child : goal.returns-in-Some-clause-child
returns-in-Some-clause-child c nodes found e =
    let root = c.args.root.now in
    let frame : Frame = c.loop-j.self in
    let node : PlacedNode = frame.node in
    let word : ℕ = slice_index frame.words c.loop-j.j in
    let named = subst (λ (reached : List PlacedNode). names_child root reached (node.level - 1) (32 * node.index + c.loop-j.j) word ≡ true) (sym e) c.in-Some.ensures.named in
    let step = child_read-named root node.place (node.level - 1) (32 * node.index + c.loop-j.j) (node_read root nodes (node.level - 1)) word found c.if-word-ne0.true named in
    let child = sym (same_node_read root nodes c.in-Some.child.level (node.level - 1) c.in-Some.child.index (32 * node.index + c.loop-j.j) c.in-Some.child.place (record { 0 = word }) found c.in-Some.ensures.level c.in-Some.ensures.index c.in-Some.ensures.place) in
    c.loop-j.invariant.passed nodes found e
    ∙ (each_step-next (frame_step root nodes frame) c.loop-j.j found c.loop-j-test.true
    ∙ ap (λ (reading : ReadOutcome). reading then each_step (frame_step root nodes frame) (32 - (c.loop-j.j + 1)) (c.loop-j.j + 1)) (step ∙ child))

pub returns-in-Some-clause-level : goal.returns-in-Some-clause-level
returns-in-Some-clause-level c =
    let same : c.loop-j.self.node.level ≡ c.args.self.now.node.level = ap (λ (f : Frame). f.node.level) c.loop-j.invariant.same in
    let from = c.args.self.now.level_from in
    omega (arith, c.in-Some.ensures.level)

pub returns-in-None-clause-fault : goal.returns-in-None-clause-fault
returns-in-None-clause-fault c nodes found e =
    let root = c.args.root.now in
    let frame : Frame = c.loop-j.self in
    let node : PlacedNode = frame.node in
    let word : ℕ = slice_index frame.words c.loop-j.j in
    let unnamed = subst (λ (reached : List PlacedNode). names_child root reached (node.level - 1) (32 * node.index + c.loop-j.j) word ≡ false) (sym e) c.in-None.ensures.none in
    let step = child_read-unnamed root node.place (node.level - 1) (32 * node.index + c.loop-j.j) (node_read root nodes (node.level - 1)) word found c.if-word-ne0.true unnamed in
    let fault : Frame → ReadOutcome = λ f. Err f.node.place in
    let place_same = ap fault c.loop-j.invariant.same in
    c.loop-j.invariant.passed nodes found e
    ∙ (each_step-next (frame_step root nodes frame) c.loop-j.j found c.loop-j-test.true
    ∙ (ap (λ (reading : ReadOutcome). reading then each_step (frame_step root nodes frame) (32 - (c.loop-j.j + 1)) (c.loop-j.j + 1)) step
    ∙ place_same))

pub loop-j-preserved : goal.loop-j-preserved
loop-j-preserved c =
    let root = c.args.root.now in
    let frame : Frame = c.loop-j.self in
    let node : PlacedNode = frame.node in
    let word : ℕ = slice_index frame.words c.loop-j.j in
    record {
      same = c.loop-j.invariant.same;
      passed = λ nodes found e.
          c.loop-j.invariant.passed nodes found e
          ∙ (each_step-next (frame_step root nodes frame) c.loop-j.j found c.loop-j-test.true
          ∙ ap (λ (reading : ReadOutcome). reading then each_step (frame_step root nodes frame) (32 - (c.loop-j.j + 1)) (c.loop-j.j + 1))
          (child_read-zero root node.place (node.level - 1) (32 * node.index + c.loop-j.j) (node_read root nodes (node.level - 1)) word found c.if-word-ne0.false));
    }

pub returns-clause-child : goal.returns-clause-child
returns-clause-child c nodes found e =
    c.loop-j.invariant.passed nodes found e ∙ each_step-none (frame_step c.args.root.now nodes c.loop-j.self) c.loop-j.j found c.loop-j-test.false
