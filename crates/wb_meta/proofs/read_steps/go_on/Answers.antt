use Rattle.std.proofs.Common.{◌≡◌, ◌≤◌, ◌∙◌, ◌++◌, List, Option, Some, None, is_some, false, refl, Ok, ap, sym, subst, length, arith}
use Rattle.std.specs.Prelude.{Contains}
use Rattle.std.proofs.lemmas.List.{append-nil, length-map}
use Rattle.wb_tree.specs.declared.placed.PlacedNode.{PlacedNode}
use Rattle.wb_meta.proofs.Round.{reached-listed}
use Rattle.wb_types.specs.Versions.{version_number}
use Rattle.wb_types.proofs.Versions.{one_version}
use Rattle.wb_types.specs.declared.number.Place.{Place}
use Rattle.wb_types.specs.declared.version.Version.TheVariants.{One}
use Rattle.wb_format.specs.declared.root.Root.{Root}
use Rattle.wb_tree.specs.Mapping.{IsMapping, AreInside}
use Rattle.wb_tree.specs.Reading.{tree_read}
use Rattle.wb_tree.specs.Loaded.{IsLoaded}
use Rattle.wb_dirty.specs.ImageReading.{image_read}
use Rattle.wb_dirty.specs.ImageLoading.{mapping_found, bits_reached}
use Rattle.wb_meta.specs.States.{places_of}
use Rattle.wb_meta.specs.Representing.{all_of}
use Rattle.wb_meta.specs.Reads.{AreApartPlaces}
use Rattle.wb_meta.proofs.Counting.{apart_front, slots-apart}
use Rattle.wb_meta.proofs.ImageFraming.{both_found, both_read, mapping_among}
use Rattle.wb_meta.proofs.Reading.{read_stores}
use Rattle.wb_meta.proofs.Telling.{kept_read}
use Rattle.wb_meta.proofs.Versions.{first_no_bits}
use Rattle.wb_meta.proofs.read_steps.go_on.Goals as goal

not_there : {X : Type 0} (o : Option X) → is_some o ≡ false → o ≡ None
not_there None e = refl
not_there (Some x) e = absurd cc

pub returns-clause-on : goal.returns-clause-on
returns-clause-on g c sectors on =
    let l = c.args.loader in
    let mapping = mapping_found l.part in
    let told = c.in_ok-tree.ensures in
    let tree = c.in_ok-tree.tree in
    let loaded : IsLoaded c.args.root mapping tree = subst (λ (r : Root). IsLoaded r mapping tree) on.root_is told.known in
    let apart : AreApartPlaces sectors (places_of mapping.reached) = apart_front sectors l.found.reached mapping.reached (bits_reached l.part) told.reached on.used in
    let from = c.args.root.geometry.within.meta_from in
    let two : 2 ≤ sectors = omega (arith, from, on.size) in
    let all = slots-apart sectors (places_of l.found.reached) two on.used in
    let many : length (places_of l.found.reached) ≡ length l.found.reached = length-map l.found.reached (λ (node : PlacedNode). node.place) in (
      record {
        size = on.size;
        mapping = subst (λ (r : Root). IsMapping r.geometry.cache_blocks r.geometry.origin_blocks tree.entries) on.root_is told.mapping;
        sound = loaded.sound;
        inside = subst (λ n. AreInside n tree) on.size loaded.inside;
        known_used = λ place is. subst (λ (places : List Place). Contains places place) (sym told.places) (reached-listed mapping.reached place (loaded.reached place is));
        used_are = subst (λ (places : List Place). AreApartPlaces sectors places) (sym told.places) apart;
        keeps = kept_read c.args.root l on.told tree mapping told.mapping_entries (told.read_mapping on.told.nodes);
        used_few = omega (arith, loaded.few, length-map mapping.reached (λ (node : PlacedNode). node.place), ap (λ (places : List Place). length places) told.places);
      },
      omega (arith, all, many, c.requires),
      λ first.
          let none : l.root.top_dirty ≡ None = ap (λ (r : Root). r.top_dirty) on.root_is ∙ first_no_bits c.args.root (one_version c.args.root.version One (c.args.root.same_version ∙ ap version_number first)) in
          let alone = ap (λ (nodes : List PlacedNode). length nodes) (told.reached ∙ ap (λ (bits : List PlacedNode). mapping.reached ++ bits) (told.alone none) ∙ append-nil mapping.reached) in
          omega (arith, alone, loaded.few, c.requires),
      λ first.
          let none : l.root.top_dirty ≡ None = ap (λ (r : Root). r.top_dirty) on.root_is ∙ first_no_bits c.args.root (one_version c.args.root.version One (c.args.root.same_version ∙ ap version_number first)) in
          not_there c.in_ok-tree.dirty (told.bits ∙ ap (λ (top : Option Place). is_some top) none),
    )

pub returns-clause-read : goal.returns-clause-read
returns-clause-read g c sectors on has =
    let l = c.args.loader in
    let mapping = mapping_found l.part in
    let told = c.in_ok-tree.ensures in
    let tree = c.in_ok-tree.tree in
    let loaded : IsLoaded c.args.root mapping tree = subst (λ (r : Root). IsLoaded r mapping tree) on.root_is told.known in
    let first : tree_read c.args.root has.nodes ≡ Ok mapping = sym (has.mapping has.nodes has.reached) ∙ told.read_mapping has.nodes in
    let reads : image_read c.args.root has.nodes ≡ Ok l.found = sym (has.rest has.nodes has.reached) ∙ told.read has.nodes in
    let whole = both_found mapping l.found in
    let all : image_read c.args.root has.nodes ≡ Ok (all_of whole) = both_read c.args.root has.nodes mapping l.found reads first in
    record {
      found = whole;
      represents = record { newest = has.newest; nodes = has.nodes; reached = has.reached; reads = all; mapping = first };
      size = on.size;
      entries = told.entries;
      mapping_entries = told.mapping_entries;
      used_are = told.places;
      loaded = loaded;
      stores = read_stores c.args.root.version sectors has.nodes tree c.args.root.generation (loaded.read has.nodes first)
          (λ place known. has.reached place.0 (mapping_among c.args.root has.nodes whole all first place.0 (loaded.reached place known)));
    }
