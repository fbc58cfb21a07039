use Rattle.std.proofs.Common.{◌≡◌, ◌≤◌, ◌∙◌, sym, ap, subst, refl, true, false, List, Option, None, Ok}
use Rattle.std.specs.Prelude.{All}
use Rattle.wb_tree.specs.declared.placed.PlacedNode.{PlacedNode}
use Rattle.wb_types.specs.declared.entry.Entry.{Entry}
use Rattle.wb_tree.specs.Mapping.{Mapping, IsMapping, IsSound}
use Rattle.wb_tree.specs.Fields.{AreApart}
use Rattle.wb_tree.specs.Loaded.{IsLoaded}
use Rattle.wb_tree.specs.Reading.{tree_read}
use Rattle.wb_tree.specs.Loading.{Loading, loading_of}
use Rattle.wb_tree.proofs.Reading.LoaderSteps.{told-read}
use Rattle.wb_tree.proofs.Reading.Loaded.{loaded_all, loaded_none, none_sound, reached_apart, reached_levels, reached_sound, same_exist}
use Rattle.wb_tree.proofs.Reading.MappingRead.{mapping_read}
use Rattle.wb_tree.proofs.Nodes.Alike.{AreAlike, loaded-alike}
use Rattle.wb_tree.proofs.loader.Loader.finish.Goals.{then-all_exist, else-all_exist}
use Rattle.wb_tree.proofs.loader.Loader.finish.Goals as goal

pub all_exist-requires : goal.all_exist-requires
all_exist-requires g c =
    let l : Loading = loading_of c.self.inside.root c.self.inside.reached c.self.inside.entries.items c.self.inside.mapped.items c.self.inside.frames.items c.self.inside.wanted in
    let none : l.wanted ≡ None = ap (λ (m : Loading). m.wanted) c.self.view_is ∙ c.requires in
    let reads : tree_read l.root c.self.invariant.told ≡ Ok l.found = told-read l c.self.invariant none in
    subst (λ nodes. All (λ (node : PlacedNode). node.level ≤ 4) nodes) (sym (c.deref-3.ensures.value ∙ c.into_items-nodes.ensures)) (reached_levels l.root c.self.invariant.told l.found reads)

pub of_entries-requires-clause-apart : goal.of_entries-requires-clause-apart
of_entries-requires-clause-apart g c =
    let l : Loading = loading_of c.self.inside.root c.self.inside.reached c.self.inside.entries.items c.self.inside.mapped.items c.self.inside.frames.items c.self.inside.wanted in
    let none : l.wanted ≡ None = ap (λ (m : Loading). m.wanted) c.self.view_is ∙ c.requires in
    let reads : tree_read l.root c.self.invariant.told ≡ Ok l.found = told-read l c.self.invariant none in
    elim c.if-all_exist.branch [
      | then-all_exist w ↦ subst AreApart (sym (c.deref-5.ensures.value ∙ (ap (λ v. v.items) w.known-is ∙ c.into_items-nodes.ensures))) (reached_apart l.root c.self.invariant.told l.found reads)
      | else-all_exist w ↦ subst AreApart (sym (c.deref-5.ensures.value ∙ (ap (λ v. v.items) w.known-is ∙ w.new-known.ensures.items))) tt
    ]

pub of_entries-requires-clause-sound : goal.of_entries-requires-clause-sound
of_entries-requires-clause-sound g c =
    let l : Loading = loading_of c.self.inside.root c.self.inside.reached c.self.inside.entries.items c.self.inside.mapped.items c.self.inside.frames.items c.self.inside.wanted in
    let none : l.wanted ≡ None = ap (λ (m : Loading). m.wanted) c.self.view_is ∙ c.requires in
    let reads : tree_read l.root c.self.invariant.told ≡ Ok l.found = told-read l c.self.invariant none in
    subst (λ (es : List (Option Entry)). IsSound (record { entries = es; known = c.deref-5.result.now })) (sym c.deref-4.ensures.value) (
    elim c.if-all_exist.branch [
      | then-all_exist w ↦ subst (λ (ks : List PlacedNode). IsSound (record { entries = l.found.entries; known = ks })) (sym (c.deref-5.ensures.value ∙ (ap (λ v. v.items) w.known-is ∙ c.into_items-nodes.ensures))) (reached_sound l.root c.self.invariant.told l.found reads
          (same_exist c.deref-2.result.now c.self.inside.entries.items c.deref-3.result.now c.self.inside.reached c.deref-2.ensures.value (c.deref-3.ensures.value ∙ c.into_items-nodes.ensures) (c.all_exist.ensures.0 w.if-all_exist.true)))
      | else-all_exist w ↦ subst (λ (ks : List PlacedNode). IsSound (record { entries = l.found.entries; known = ks })) (sym (c.deref-5.ensures.value ∙ (ap (λ v. v.items) w.known-is ∙ w.new-known.ensures.items))) (none_sound l.found.entries)
    ])

pub returns-clause-mapping : goal.returns-clause-mapping
returns-clause-mapping g c =
    let l : Loading = loading_of c.self.inside.root c.self.inside.reached c.self.inside.entries.items c.self.inside.mapped.items c.self.inside.frames.items c.self.inside.wanted in
    let none : l.wanted ≡ None = ap (λ (m : Loading). m.wanted) c.self.view_is ∙ c.requires in
    let reads : tree_read l.root c.self.invariant.told ≡ Ok l.found = told-read l c.self.invariant none in
    let mapping : IsMapping l.root.geometry.cache_blocks l.root.geometry.origin_blocks l.found.entries = mapping_read l.root c.self.invariant.told l.found reads in
    subst (λ es. IsMapping c.args.self.root.geometry.cache_blocks c.args.self.root.geometry.origin_blocks es) (sym (c.in_ok-tree.ensures.entries ∙ c.deref-4.ensures.value))
    (subst (λ (m : Loading). IsMapping m.root.geometry.cache_blocks m.root.geometry.origin_blocks c.self.inside.entries.items) c.self.view_is mapping)

pub returns-clause-known : goal.returns-clause-known
returns-clause-known g c =
    let l : Loading = loading_of c.self.inside.root c.self.inside.reached c.self.inside.entries.items c.self.inside.mapped.items c.self.inside.frames.items c.self.inside.wanted in
    let none : l.wanted ≡ None = ap (λ (m : Loading). m.wanted) c.self.view_is ∙ c.requires in
    let reads : tree_read l.root c.self.invariant.told ≡ Ok l.found = told-read l c.self.invariant none in
    let m : Mapping = record { entries = l.found.entries; known = c.deref-5.result.now } in
    let alike : AreAlike m c.in_ok-tree.tree = record { entries = c.in_ok-tree.ensures.entries ∙ c.deref-4.ensures.value; places = c.in_ok-tree.ensures.places } in
    subst (λ (k : Loading). IsLoaded k.root k.found c.in_ok-tree.tree) c.self.view_is (loaded-alike l.root l.found m c.in_ok-tree.tree alike (
    elim c.if-all_exist.branch [
      | then-all_exist w ↦ loaded_all l.root c.self.invariant.told l.found m reads refl (c.deref-5.ensures.value ∙ (ap (λ v. v.items) w.known-is ∙ c.into_items-nodes.ensures))
          (same_exist c.deref-2.result.now c.self.inside.entries.items c.deref-3.result.now c.self.inside.reached c.deref-2.ensures.value (c.deref-3.ensures.value ∙ c.into_items-nodes.ensures) (c.all_exist.ensures.0 w.if-all_exist.true))
      | else-all_exist w ↦ loaded_none l.root c.self.invariant.told l.found m reads refl (c.deref-5.ensures.value ∙ (ap (λ v. v.items) w.known-is ∙ w.new-known.ensures.items)) (λ whole.
          let all = c.all_exist.ensures.1 (same_exist c.self.inside.entries.items c.deref-2.result.now c.self.inside.reached c.deref-3.result.now (sym c.deref-2.ensures.value) (sym (c.deref-3.ensures.value ∙ c.into_items-nodes.ensures)) whole) in
          let both : true ≡ false = sym all ∙ w.if-all_exist.false in
          cc)
    ]))
