use Rattle.std.proofs.Common.{◌++◌, ◌∙◌, sym, ap, subst, List, Option, length}
use Rattle.wb_types.specs.declared.entry.Entry.{Entry}
use Rattle.wb_tree.specs.declared.placed.PlacedNode.{PlacedNode}
use Rattle.wb_tree.specs.Mapping.{IsSound, place_in}
use Rattle.wb_tree.specs.Fields.{AreApart}
use Rattle.wb_tree.specs.Branches.{known_in}
use Rattle.wb_tree.proofs.Branching.Edits.{first_fits}
use Rattle.wb_tree.proofs.Branching.Filling.{boxes_filled, entries_filled}
use Rattle.wb_tree.proofs.tree.Tree.of_entries.Goals as goal

pub filled-requires-clause-index : goal.filled-requires-clause-index
filled-requires-clause-index g c = first_fits c.depth_for-depth.result c.depth_for-depth.ensures.from c.depth_for-depth.ensures.to

pub invariant_of-tree : goal.invariant_of-tree
invariant_of-tree g c =
    let d = c.depth_for-depth in
    record {
      boxes = boxes_filled c.args.entries.now c.args.cache_blocks d.result c.in_ok-root.root c.in_ok-root.ensures c.requires.size d.ensures.value c.requires.few d.ensures.from d.ensures.to d.ensures.enough;
      many = sym (ap (λ (ks : List PlacedNode). length ks) c.in_ok-root.ensures.unknown);
    }

pub settle-requires-clause-apart : goal.settle-requires-clause-apart
settle-requires-clause-apart g c = subst (λ (ks : List PlacedNode). AreApart (ks ++ c.args.known.now)) (sym c.in_ok-root.ensures.unknown) c.requires.apart

pub settle-requires-clause-sound : goal.settle-requires-clause-sound
settle-requires-clause-sound g c =
    let d = c.depth_for-depth in
    subst (λ (es : List (Option Entry)). IsSound (record { entries = es; known = known_in c.in_ok-root.root ++ c.args.known.now }))
    (sym (entries_filled c.args.entries.now c.args.cache_blocks d.result c.in_ok-root.root c.in_ok-root.ensures c.requires.size d.ensures.enough))
    (subst (λ (ks : List PlacedNode). IsSound (record { entries = c.args.entries.now; known = ks ++ c.args.known.now })) (sym c.in_ok-root.ensures.unknown) c.requires.sound)

pub returns-clause-entries : goal.returns-clause-entries
returns-clause-entries g c =
    let d = c.depth_for-depth in
    c.settle.ensures.entries ∙ entries_filled c.args.entries.now c.args.cache_blocks d.result c.in_ok-root.root c.in_ok-root.ensures c.requires.size d.ensures.enough

pub returns-clause-places : goal.returns-clause-places
returns-clause-places g c level index =
    c.settle.ensures.places level index ∙ ap (λ (ks : List PlacedNode). place_in (ks ++ c.args.known.now) level index) c.in_ok-root.ensures.unknown
