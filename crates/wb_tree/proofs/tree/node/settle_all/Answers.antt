use Rattle.std.proofs.Common.{◌≤◌, ◌<◌, ◌+◌, ◌-◌, ◌^◌, ◌∙◌, List, Option, ap, sym, subst, take, slice_index_or}
use Rattle.std.proofs.lemmas.Option.{slice_get-get_or}
use Rattle.std.proofs.lemmas.List.{take_more}
use Rattle.wb_types.specs.declared.entry.Entry.{Entry}
use Rattle.wb_tree.specs.declared.placed.PlacedNode.{PlacedNode}
use Rattle.wb_tree.specs.Mapping.{exists, place_in}
use Rattle.wb_tree.proofs.Branching.Settled.{apart_front, first_name, next_unknown, settled_more, settled_none}
use Rattle.wb_tree.proofs.tree.node.settle_all.Goals as goal

nobody : PlacedNode
nobody = record { level = 0; index = 0; place = record { 0 = 0 } }

pub loop-node-init : goal.loop-node-init
loop-node-init g c = settled_none c.args.top.now (apart_front c.args.top.now.known c.args.nodes.now c.requires.apart)

pub settle-requires-clause-from : goal.settle-requires-clause-from
unfolding nobody
settle-requires-clause-from g c =
    let i = c.loop-node.node-index in
    (c.requires.each i (slice_index_or c.args.nodes.now i nobody) (slice_get-get_or c.args.nodes.now i nobody c.loop-node-test.true)).from

pub settle-requires-clause-to : goal.settle-requires-clause-to
unfolding nobody
settle-requires-clause-to g c =
    let i = c.loop-node.node-index in
    let named = c.requires.each i (slice_index_or c.args.nodes.now i nobody) (slice_get-get_or c.args.nodes.now i nobody c.loop-node-test.true) in
    subst (λ n. (slice_index_or c.args.nodes.now i nobody).level ≤ n) (sym c.loop-node.invariant.level_same) named.to

pub settle-requires-clause-index : goal.settle-requires-clause-index
unfolding nobody
settle-requires-clause-index g c =
    let i = c.loop-node.node-index in
    let node = slice_index_or c.args.nodes.now i nobody in
    let named = c.requires.each i node (slice_get-get_or c.args.nodes.now i nobody c.loop-node-test.true) in
    subst (λ n. node.index < 32 ^ (n - node.level)) (sym c.loop-node.invariant.level_same) named.inside

pub settle-requires-clause-there : goal.settle-requires-clause-there
unfolding nobody
settle-requires-clause-there g c =
    let i = c.loop-node.node-index in
    let node = slice_index_or c.args.nodes.now i nobody in
    let named = c.requires.each i node (slice_get-get_or c.args.nodes.now i nobody c.loop-node-test.true) in
    ap (λ (es : List (Option Entry)). exists es node.level node.index) c.loop-node.invariant.entries_same ∙ named.there

pub settle-requires-clause-unknown : goal.settle-requires-clause-unknown
unfolding nobody
settle-requires-clause-unknown g c =
    let i = c.loop-node.node-index in
    let node = slice_index_or c.args.nodes.now i nobody in
    let top = c.loop-node.top in
    let inv = c.loop-node.invariant in
    ap (λ k. place_in top.known node.level k) (first_name top.index (32 ^ (top.level - node.level)) node.index (inv.index_same ∙ c.requires.first))
    ∙ (inv.places node.level node.index ∙ next_unknown c.args.top.now.known c.args.nodes.now i node c.requires.apart (slice_get-get_or c.args.nodes.now i nobody c.loop-node-test.true))

pub loop-node-preserved : goal.loop-node-preserved
unfolding nobody
loop-node-preserved g c =
    let i = c.loop-node.node-index in
    let node = slice_index_or c.args.nodes.now i nobody in
    let at = slice_get-get_or c.args.nodes.now i nobody c.loop-node-test.true in
    settled_more c.args.top.now c.loop-node.top c.settle.new.self (take i c.args.nodes.now) (take (i + 1) c.args.nodes.now) node c.requires.first c.loop-node.invariant (c.requires.each i node at)
    (next_unknown c.args.top.now.known c.args.nodes.now i node c.requires.apart at) c.settle.ensures (take_more c.args.nodes.now i nobody c.loop-node-test.true)
