use Rattle.std.proofs.Common.{◌≡◌, ◌∙◌, ◌<◌, ◌+◌, ◌^◌, ℕ, rules, false, Some, refl, subst, ap, List, length}
use Rattle.wb_types.specs.Limits.{depth_of}
use Rattle.wb_types.specs.declared.number.Place.{Place}
use Rattle.wb_tree.specs.Images.{ImagePlan, IsImage}
use Rattle.wb_tree.specs.Mapping.{Mapping, changed}
use Rattle.wb_meta.specs.Conversions.{written_anew}
use Rattle.wb_meta.specs.declared.read_steps.State.{State}
use Rattle.wb_meta.specs.Imaging.{AreUnusedFor}
use Rattle.wb_devices.specs.Converting.{least_unused, places_anew}
use Rattle.wb_devices.proofs.Converted.{converted, few_anew, free_anew, mapping_anew, nodes_anew, unused_anew}
use Rattle.wb_devices.proofs.converting.convert.Goals as goal

pub unused_places-requires-clause-enough : goal.unused_places-requires-clause-enough
unused_places-requires-clause-enough g c =
    let mapping = mapping_anew c.args.state.root.geometry c.args.asked.now c.args.state.tree c.in_ok-tree.tree c.requires.sizes c.requires.fits.mapping c.in_ok-tree.ensures.anew in
    rw c.changed_nodes.ensures (few_anew c.args.asked.now c.in_ok-tree.tree mapping)

pub plan-requires-clause-mapping : goal.plan-requires-clause-mapping
plan-requires-clause-mapping g c = mapping_anew c.args.state.root.geometry c.args.asked.now c.args.state.tree c.in_ok-tree.tree c.requires.sizes c.requires.fits.mapping c.in_ok-tree.ensures.anew

pub plan-requires-clause-free : goal.plan-requires-clause-free
plan-requires-clause-free g c =
    let mapping = mapping_anew c.args.state.root.geometry c.args.asked.now c.args.state.tree c.in_ok-tree.tree c.requires.sizes c.requires.fits.mapping c.in_ok-tree.ensures.anew in
    let none = ap (λ (t : Mapping). t.known) c.in_ok-tree.ensures.anew in
    free_anew c.args.asked.now c.in_ok-tree.tree c.deref.result.now c.deref-2.result.now none
    (unused_anew c.args.asked.now c.in_ok-tree.tree c.deref.result.now c.in_ok-free.free.items c.deref-2.result.now c.changed_nodes.result mapping c.changed_nodes.ensures c.deref-2.ensures.value c.in_ok-free.ensures.unused)

pub returns-clause-converted : goal.returns-clause-converted
returns-clause-converted g c =
    let asked = c.args.asked.now in
    let old = c.args.state in
    let tree = c.in_ok-tree.tree in
    let made : State g.row.A.Denot = record { root = c.roots_of-image.result.0; tree = c.plan.new.self; dirty = Some c.in_ok-dirty.dirty; used = c.in_ok-used.used; nodes = c.len-nodes.result } in
    let mapping = mapping_anew old.root.geometry asked old.tree tree c.requires.sizes c.requires.fits.mapping c.in_ok-tree.ensures.anew in
    let next : c.in-Some.generation ≡ old.root.generation + 1 = search rules in
    let below : c.in-Some.generation < 2 ^ 64 = search rules in
    let nodes : c.changed_nodes.result ≡ length (changed (written_anew old.tree) (depth_of asked.cache_blocks)) =
    c.changed_nodes.ensures ∙ nodes_anew asked tree mapping ∙ ap (λ (t : Mapping). length (changed t (depth_of asked.cache_blocks))) c.in_ok-tree.ensures.anew in
    let free : c.deref-2.result.now ≡ places_anew asked (written_anew old.tree) old.used.items =
    c.deref-2.ensures.value ∙ c.in_ok-free.ensures.least ∙ ap (λ (n : ℕ). least_unused asked c.deref.result.now n) nodes ∙ ap (λ (used : List Place). places_anew asked (written_anew old.tree) used) c.deref.ensures.value in
    let unused : AreUnusedFor tree asked old.used.items c.deref-2.result.now = subst (λ (used : List Place). AreUnusedFor tree asked used c.deref-2.result.now) c.deref.ensures.value
    (unused_anew asked tree c.deref.result.now c.in_ok-free.free.items c.deref-2.result.now c.changed_nodes.result mapping c.changed_nodes.ensures c.deref-2.ensures.value c.in_ok-free.ensures.unused) in
    let planned : ImagePlan = record { geometry = asked; generation = c.in-Some.generation; clean = false; free = c.deref-2.result.now } in
    let is : IsImage tree c.plan.new.self planned c.roots_of-image.result.1 = c.roots_of-image.ensures.image tree c.plan.new.self planned refl c.in_ok-planned.ensures.image in
    converted asked old made c.roots_of-image.result.1 c.requires.fits c.requires.second c.requires.sizes (record {
      tree = tree;
      free = c.deref-2.result.now;
      tree_is = c.in_ok-tree.ensures.anew;
      free_is = free;
      unused = unused;
      image_is = subst (λ (generation : ℕ). IsImage tree c.plan.new.self (record { geometry = asked; generation = generation; clean = false; free = c.deref-2.result.now }) c.roots_of-image.result.1) next is;
      sound = c.plan.ensures.sound;
      inside = c.plan.ensures.inside;
      opens = c.roots_of-image.ensures.opens;
      generation_is = c.roots_of-image.ensures.generation;
      clean_is = c.roots_of-image.ensures.clean;
      geometry_is = c.roots_of-image.ensures.geometry ∙ c.in_ok-planned.ensures.image.root_geometry;
      no_bits = c.roots_of-image.ensures.no_bits;
      dirty_is = ap Some c.in_ok-dirty.ensures.bits;
      used_are = c.in_ok-used.ensures.places;
      nodes_are = search rules;
    }) c.requires.in_tree (subst (λ (generation : ℕ). generation < 2 ^ 64) next below)
