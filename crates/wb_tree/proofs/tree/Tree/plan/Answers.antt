use Rattle.std.proofs.Common.{◌≡◌, ◌++◌, ◌∙◌, sym, ap, subst, refl, List, map, length, arith}
use Rattle.std.proofs.lemmas.List.{length-append, length-map}
use Rattle.wb_types.specs.Limits.{depth_of}
use Rattle.wb_types.specs.declared.number.Place.{Place}
use Rattle.wb_format.specs.declared.node.Node.{Node}
use Rattle.wb_tree.specs.declared.placed.PlacedNode.{PlacedNode}
use Rattle.wb_tree.specs.Mapping.{Mapping, IsSound, changed, place_of, used_places}
use Rattle.wb_tree.specs.Images.{AreUsed}
use Rattle.wb_tree.specs.Planning.{planned, levels, names}
use Rattle.wb_tree.specs.Fields.{AreApart}
use Rattle.wb_tree.proofs.Nodes.Alike.{AreAlike, image-alike, inside-alike}
use Rattle.wb_tree.proofs.Images.Imaging.{image-is, used-places}
use Rattle.wb_tree.proofs.Images.Planned.{CanPlace, known_node, may-plan, planned-alike, planned-comes, planned-complete, planned-inside, planned-more, planned-sound, planned-with, with-planned, written_is}
use Rattle.wb_tree.proofs.Branching.Settled.{levels-boxes}
use Rattle.wb_tree.proofs.tree.Tree.plan.Goals as goal

pub plan_node-requires-clause-can : goal.plan_node-requires-clause-can
plan_node-requires-clause-can g c =
    let m = c.args.self.now in
    let b = c.self.inside in
    let free = c.args.free.now in
    let geometry = c.args.geometry.now in
    let can : CanPlace m geometry free = record {
      size = c.requires.mapping.size;
      sound = subst IsSound c.self.view_is c.self.invariant.boxes.sound;
      once = subst (λ (n : Mapping). AreApart n.known) c.self.view_is c.self.invariant.boxes.once;
      inside = c.requires.inside;
      are = c.requires.free;
    } in
    may-plan m geometry free can c.requires.mapping

pub settle-requires-clause-apart : goal.settle-requires-clause-apart
settle-requires-clause-apart g c =
    let m = c.args.self.now in
    let b = c.self.inside in
    let free = c.args.free.now in
    let geometry = c.args.geometry.now in
    let can : CanPlace m geometry free = record {
      size = c.requires.mapping.size;
      sound = subst IsSound c.self.view_is c.self.invariant.boxes.sound;
      once = subst (λ (n : Mapping). AreApart n.known) c.self.view_is c.self.invariant.boxes.once;
      inside = c.requires.inside;
      are = c.requires.free;
    } in
    let deep : b.depth ≡ levels m = sym (levels-boxes b.cache_blocks b.depth b.root c.self.invariant.boxes) ∙ ap (λ (n : Mapping). levels n) c.self.view_is in
    let nodes = c.plan_node.new.nodes.items in
    let ns : names nodes ≡ changed m (levels m) = c.in_ok-top.ensures.names ∙ (ap (λ (xs : List (Place × Node)). names xs ++ changed m b.depth) c.new-nodes.ensures.items ∙ ap (changed m) deep) in
    let added : c.in_ok-settled.settled.items ≡ map known_node nodes = c.in_ok-settled.ensures.known ∙ ap (λ (xs : List (Place × Node)). map known_node xs) c.deref.ensures.value in
    let whole : m.known ++ c.deref-2.result.now ≡ (planned m free).known = with-planned geometry.version m c.args.generation free nodes c.deref-2.result.now (c.deref-2.ensures.value ∙ added) ns c.in_ok-top.ensures.planned in
    let complete = planned-complete m geometry free can in
    subst AreApart (sym whole) complete.once

pub settle-requires-clause-sound : goal.settle-requires-clause-sound
settle-requires-clause-sound g c =
    let m = c.args.self.now in
    let b = c.self.inside in
    let free = c.args.free.now in
    let geometry = c.args.geometry.now in
    let can : CanPlace m geometry free = record {
      size = c.requires.mapping.size;
      sound = subst IsSound c.self.view_is c.self.invariant.boxes.sound;
      once = subst (λ (n : Mapping). AreApart n.known) c.self.view_is c.self.invariant.boxes.once;
      inside = c.requires.inside;
      are = c.requires.free;
    } in
    let deep : b.depth ≡ levels m = sym (levels-boxes b.cache_blocks b.depth b.root c.self.invariant.boxes) ∙ ap (λ (n : Mapping). levels n) c.self.view_is in
    let nodes = c.plan_node.new.nodes.items in
    let ns : names nodes ≡ changed m (levels m) = c.in_ok-top.ensures.names ∙ (ap (λ (xs : List (Place × Node)). names xs ++ changed m b.depth) c.new-nodes.ensures.items ∙ ap (changed m) deep) in
    let added : c.in_ok-settled.settled.items ≡ map known_node nodes = c.in_ok-settled.ensures.known ∙ ap (λ (xs : List (Place × Node)). map known_node xs) c.deref.ensures.value in
    let whole : m.known ++ c.deref-2.result.now ≡ (planned m free).known = with-planned geometry.version m c.args.generation free nodes c.deref-2.result.now (c.deref-2.ensures.value ∙ added) ns c.in_ok-top.ensures.planned in
    subst IsSound (planned-with m free (m.known ++ c.deref-2.result.now) whole) (planned-sound m geometry free can)

pub invariant_of-root : goal.invariant_of-root
invariant_of-root g c =
    let m = c.args.self.now in
    let b = c.self.inside in
    let free = c.args.free.now in
    let geometry = c.args.geometry.now in
    let can : CanPlace m geometry free = record {
      size = c.requires.mapping.size;
      sound = subst IsSound c.self.view_is c.self.invariant.boxes.sound;
      once = subst (λ (n : Mapping). AreApart n.known) c.self.view_is c.self.invariant.boxes.once;
      inside = c.requires.inside;
      are = c.requires.free;
    } in
    record { same_version = refl; top_inside = λ place top. planned-inside m geometry free can place (record { level = b.depth; index = 0; known = sym c.in_ok-top.ensures.place ∙ top }); dirty_inside = λ place top. absurd cc; dirty_clean = λ place top. absurd cc }

pub returns-clause-image : goal.returns-clause-image
returns-clause-image g c =
    let m = c.args.self.now in
    let b = c.self.inside in
    let free = c.args.free.now in
    let geometry = c.args.geometry.now in
    let can : CanPlace m geometry free = record {
      size = c.requires.mapping.size;
      sound = subst IsSound c.self.view_is c.self.invariant.boxes.sound;
      once = subst (λ (n : Mapping). AreApart n.known) c.self.view_is c.self.invariant.boxes.once;
      inside = c.requires.inside;
      are = c.requires.free;
    } in
    let deep : b.depth ≡ levels m = sym (levels-boxes b.cache_blocks b.depth b.root c.self.invariant.boxes) ∙ ap (λ (n : Mapping). levels n) c.self.view_is in
    let nodes = c.plan_node.new.nodes.items in
    let ns : names nodes ≡ changed m (levels m) = c.in_ok-top.ensures.names ∙ (ap (λ (xs : List (Place × Node)). names xs ++ changed m b.depth) c.new-nodes.ensures.items ∙ ap (changed m) deep) in
    let added : c.in_ok-settled.settled.items ≡ map known_node nodes = c.in_ok-settled.ensures.known ∙ ap (λ (xs : List (Place × Node)). map known_node xs) c.deref.ensures.value in
    let whole : m.known ++ c.deref-2.result.now ≡ (planned m free).known = with-planned geometry.version m c.args.generation free nodes c.deref-2.result.now (c.deref-2.ensures.value ∙ added) ns c.in_ok-top.ensures.planned in
    let alike : AreAlike (planned m free) c.settle.new.self = planned-alike m c.settle.new.self free (m.known ++ c.deref-2.result.now) whole c.settle.ensures.entries c.settle.ensures.places in
    let top : c.in_ok-top.top ≡ place_of (planned m free) (depth_of geometry.cache_blocks) 0 =
    c.in_ok-top.ensures.place ∙ (ap (λ d. place_of (planned m free) d 0) deep ∙ ap (λ n. place_of (planned m free) (depth_of n) 0) can.size) in
    let complete = planned-complete m geometry free can in
    let new = c.settle.new.self in
    let long : length new.known ≡ length (planned m free).known =
    c.settle.ensures.more ∙ (sym (length-append m.known c.deref-2.result.now) ∙ ap (λ (ks : List PlacedNode). length ks) whole) in
    let used : AreUsed geometry.cache_blocks new = used-places new geometry.cache_blocks c.settle.ensures.sound c.settle.ensures.once (omega (arith, complete.few, long)) in
    let more : length (used_places new) ≡ length (used_places (planned m free)) = length-map new.known (λ (n : PlacedNode). n.place) ∙ (long ∙ sym (length-map (planned m free).known (λ (n : PlacedNode). n.place))) in
    let written = written_is m geometry c.args.generation free nodes can ns c.in_ok-top.ensures.planned in
    image-alike m (planned m free) new _ _ alike used more
    (image-is m (planned m free) geometry c.args.generation c.args.clean free _ written complete.all (used-places (planned m free) geometry.cache_blocks (planned-sound m geometry free can) complete.once complete.few)
    (planned-comes m free nodes ns c.in_ok-top.ensures.planned.places) (planned-more geometry.version m c.args.generation free nodes ns c.in_ok-top.ensures.planned) refl refl refl top refl)

pub returns-clause-inside : goal.returns-clause-inside
returns-clause-inside g c =
    let m = c.args.self.now in
    let b = c.self.inside in
    let free = c.args.free.now in
    let geometry = c.args.geometry.now in
    let can : CanPlace m geometry free = record {
      size = c.requires.mapping.size;
      sound = subst IsSound c.self.view_is c.self.invariant.boxes.sound;
      once = subst (λ (n : Mapping). AreApart n.known) c.self.view_is c.self.invariant.boxes.once;
      inside = c.requires.inside;
      are = c.requires.free;
    } in
    let deep : b.depth ≡ levels m = sym (levels-boxes b.cache_blocks b.depth b.root c.self.invariant.boxes) ∙ ap (λ (n : Mapping). levels n) c.self.view_is in
    let nodes = c.plan_node.new.nodes.items in
    let ns : names nodes ≡ changed m (levels m) = c.in_ok-top.ensures.names ∙ (ap (λ (xs : List (Place × Node)). names xs ++ changed m b.depth) c.new-nodes.ensures.items ∙ ap (changed m) deep) in
    let added : c.in_ok-settled.settled.items ≡ map known_node nodes = c.in_ok-settled.ensures.known ∙ ap (λ (xs : List (Place × Node)). map known_node xs) c.deref.ensures.value in
    let whole : m.known ++ c.deref-2.result.now ≡ (planned m free).known = with-planned geometry.version m c.args.generation free nodes c.deref-2.result.now (c.deref-2.ensures.value ∙ added) ns c.in_ok-top.ensures.planned in
    inside-alike geometry.meta_sectors (planned m free) c.settle.new.self (planned-alike m c.settle.new.self free (m.known ++ c.deref-2.result.now) whole c.settle.ensures.entries c.settle.ensures.places) (planned-inside m geometry free can)
