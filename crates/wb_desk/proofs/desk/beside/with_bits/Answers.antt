use Rattle.std.proofs.Common.{◌+◌, ◌-◌, length, arith, ap}
use Rattle.std.specs.Prelude.{List, Bool}
use Rattle.std.proofs.lemmas.List.{length-drop}
use Rattle.std.proofs.lemmas.Result.{IfOk-weaker}
use Rattle.wb_desk.proofs.Beside.{behind_free, few_names, free_behind, image_beside, length-bits, top_free}
use Rattle.wb_desk.proofs.desk.beside.with_bits.Goals as goal

pub plan_dirty-requires-clause-few : goal.plan_dirty-requires-clause-few
plan_dirty-requires-clause-few c = omega (arith, ap (λ (bits : List Bool). length bits) c.in_ok-bits.ensures.bits, length-bits c.args.dirty.now c.args.tree.now.entries, c.requires.size, c.args.image.root.geometry.within.cache_to)

pub plan_dirty-requires-clause-enough : goal.plan_dirty-requires-clause-enough
plan_dirty-requires-clause-enough c = omega (
  arith,
  few_names c.args.dirty.now c.in_ok-bits.bits c.args.tree.now.entries c.args.image.root.geometry.cache_blocks c.in_ok-bits.ensures.bits c.requires.size,
  ap length (behind_free c.len.result c.args.free.now),
  length-drop c.len.result c.args.free.now,
  c.len.ensures,
  c.requires.enough,
)

pub plan_dirty-requires-clause-behind : goal.plan_dirty-requires-clause-behind
plan_dirty-requires-clause-behind c = λ i place e. c.requires.behind (c.len.result + i) place (free_behind (length c.args.free.now - c.len.result) c.len.result c.args.free.now i place e)

pub image_with_bits-requires-clause-top : goal.image_with_bits-requires-clause-top
image_with_bits-requires-clause-top c = λ place top.
    let t = top_free c.in_ok-bits.bits c.args.image.root.generation _ c.in_ok-marks.marks place c.in_ok-marks.ensures.plan top in
    let there = free_behind (length c.args.free.now - c.len.result) c.len.result c.args.free.now t.0 place t.1 in
    (c.requires.behind (c.len.result + t.0) place there, c.requires.inside (c.len.result + t.0) place there)

pub returns-clause-image : goal.returns-clause-image
returns-clause-image c = IfOk-weaker c.image_with_bits.result _ _ (λ whole law. image_beside c.args.dirty.now c.in_ok-bits.bits c.args.image whole c.in_ok-marks.marks c.args.free.now c.len.result c.args.tree.now
    c.in_ok-bits.ensures.bits (omega (arith, c.len.ensures, c.args.image.nodes.ok)) c.in_ok-marks.ensures.plan law) c.image_with_bits.ensures.image
