use Rattle.std.proofs.Common.{◌≡◌, ◌∙◌, subst, refl, Bool, false, List, rules, length, is_some, map, ap}
use Rattle.std.specs.List.{count_by}
use Rattle.wb_space.specs.Blocks.{opened_block}
use Rattle.wb_tree.specs.Mapping.{IsPlaceOf}
use Rattle.wb_space.specs.Places.{HaveLeft, noted, unused, place_count}
use Rattle.wb_types.specs.declared.number.Place.{Place}
use Rattle.wb_desk.proofs.Index.{count_list}
use Rattle.wb_desk.proofs.Opened.{opened_parts}
use Rattle.wb_desk.proofs.desk.Desk.new.Goals as goal

pub invariant_of-result : goal.invariant_of-result
invariant_of-result g c =
    let n : c.len.result ≡ length c.args.state.used.items = search rules in
    let k : c.count_mapped-count.result ≡ count_by is_some c.args.state.tree.entries =
    c.count_mapped-count.ensures ∙ ap (λ (xs : List Bool). count_by (λ m. m) xs) (c.deref.ensures.value ∙ c.in_ok-mapped.ensures) ∙ count_list c.args.state.tree.entries in
    let s : c.in_ok-new.field-0 ≡ record {
      blocks = map opened_block (map is_some c.args.state.tree.entries);
      places = record {
        committed = noted c.args.state.used.items (unused (place_count c.args.state.root.geometry));
        running = unused (place_count c.args.state.root.geometry);
      };
      committing = false;
    } = c.in_ok-new.ensures.ok ∙ rw (c.deref-2.ensures.value ∙ c.in_ok-mapped.ensures, c.deref-3.ensures.value) refl in
    let have : HaveLeft (IsPlaceOf c.args.state.tree) (noted c.args.state.used.items (unused (place_count c.args.state.root.geometry))) c.in_ok-left_places.field-0 =
    subst (λ (used : List Place). HaveLeft (IsPlaceOf c.args.state.tree) (noted used (unused (place_count c.args.state.root.geometry))) c.in_ok-left_places.field-0) c.deref-4.ensures.value c.in_ok-left_places.ensures.left in
    rw (s, c.in_ok-new-2.ensures.ok, n) (opened_parts g.P.Policy.knows c.args.state.root c.args.state.tree c.args.state.used.items c.args.mode c.set_policy.new.policy c.unwrap_or-threshold.result
    c.count_mapped-count.result c.in_ok-cached.cached.items c.in_ok-left_places.field-0 c.args.state.root.geometry.room c.requires.fits (c.set_policy.ensures.knows _ c.requires.knows) k c.in_ok-cached.ensures have)
