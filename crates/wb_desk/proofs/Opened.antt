-- What holds of a desk that has just been opened.
use Rattle.std.proofs.Common.{◌≡◌, ◌<◌, ◌+◌, ◌%◌, ◌^◌, ℕ, Bool, false, is_some, List, [], Option, Some, None, map, get_or, refl, sym, ap, subst, ◌∙◌, arith}
use Rattle.std.specs.List.{count_by}
use Rattle.std.proofs.lemmas.List.{length-map, length-replicate, get_or-replicate, get_or-map}
use Rattle.wb_types.specs.Limits.{HasRoom}
use Rattle.wb_types.specs.declared.entry.Entry.{Entry}
use Rattle.wb_types.specs.declared.geometry.Geometry.{Geometry}
use Rattle.wb_types.specs.declared.mode.Mode.{Mode}
use Rattle.wb_types.specs.declared.number.Place.{Place}
use Rattle.wb_format.specs.declared.root.Root.{Root}
use Rattle.wb_tree.specs.Mapping.{Mapping, IsPlaceOf}
use Rattle.wb_meta.specs.Reads.{FitsDevice}
use Rattle.wb_policy.specs.Law.{Holdings, origins}
use Rattle.wb_space.specs.declared.block.Block.{Block}
use Rattle.wb_space.specs.declared.block.Block.TheVariants.{Free}
use Rattle.wb_space.specs.Blocks.{state, opened_block}
use Rattle.wb_orders.specs.declared.live_order.LiveOrder.{LiveOrder}
use Rattle.wb_desk.specs.Desks.{DeskInvariant, IsRight}
use Rattle.wb_types.specs.declared.number.CBlock.{CBlock}
use Rattle.wb_space.specs.Places.{HaveLeft, noted, place_count, unused}
use Rattle.wb_desk.specs.Fields.{AreParts, IsIndex}
use Rattle.wb_desk.specs.Opening.{opened}

opened_right : (mapping : Holdings) (c : ℕ) (entry : Option Entry) → IsRight mapping c entry (opened_block (is_some entry)) None
opened_right mapping c None = record { filled = refl; held = λ h. h; stands = tt }
opened_right mapping c (Some e) = record { filled = refl; held = λ h. h; stands = tt }

pub opened_kept : {P : Type 0} (knows : P → Holdings → Type 0) (root : Root) (tree : Mapping) (used : List Place) (mode : Mode) (policy : P) (threshold mapped : ℕ)
    → HasRoom root.geometry.version root.geometry.cache_blocks root.geometry.meta_sectors → FitsDevice root.geometry.meta_sectors root tree used → knows policy (origins tree.entries)
    → mapped ≡ count_by is_some tree.entries → DeskInvariant knows (opened root.geometry root.generation tree used mode policy threshold mapped)
opened_kept knows root tree used mode policy threshold mapped room fits known count = record {
  mapping = fits.mapping;
  keeps = fits.keeps;
  blocks = length-map (map is_some tree.entries) opened_block ∙ length-map tree.entries is_some ∙ fits.mapping.size;
  slots = length-replicate {A = Option LiveOrder} geometry.cache_blocks None;
  busy = length-replicate {A = Bool} geometry.origin_blocks false;
  places = record {
    room = room;
    inside = fits.inside;
    committed = record { used = used; are = refl; many = refl; few = omega (arith, fits.used_few) };
    running = record { used = []; are = refl; many = refl; few = omega arith };
    known = fits.known_used;
    idle = λ e. refl;
  };
  next = λ e. absurd cc;
  each = λ c l.
      subst (λ (s : Option LiveOrder). IsRight (origins tree.entries) c (get_or tree.entries c None) (state (map opened_block (map is_some tree.entries)) c) s)
      (sym (get_or-replicate {A = Option LiveOrder} geometry.cache_blocks c None None l))
      (subst (λ (b : Block). IsRight (origins tree.entries) c (get_or tree.entries c None) b None) (sym (block c l))
      (opened_right (origins tree.entries) c (get_or tree.entries c None)));
  counted = ap (λ (n : ℕ). (n + 0) % 2 ^ 64) count;
  numbered = omega arith;
  known = known;
}
  where
    geometry : Geometry
    geometry = root.geometry

    block : (c : ℕ) → c < geometry.cache_blocks → state (map opened_block (map is_some tree.entries)) c ≡ opened_block (is_some (get_or tree.entries c None))
    block c l = get_or-map opened_block (map is_some tree.entries) c false Free (omega (arith, length-map tree.entries is_some, fits.mapping.size))
        ∙ ap opened_block (get_or-map is_some tree.entries c None false (omega (arith, fits.mapping.size)))

pub opened_parts : {P : Type 0} (knows : P → Holdings → Type 0) (root : Root) (tree : Mapping) (used : List Place) (mode : Mode) (policy : P) (threshold mapped : ℕ) (cached : List (Option CBlock)) (left : List Bool)
    → HasRoom root.geometry.version root.geometry.cache_blocks root.geometry.meta_sectors → FitsDevice root.geometry.meta_sectors root tree used → knows policy (origins tree.entries)
    → mapped ≡ count_by is_some tree.entries → IsIndex root.geometry.origin_blocks (origins tree.entries) cached
    → HaveLeft (IsPlaceOf tree) (noted used (unused (place_count root.geometry))) left
    → AreParts knows (opened root.geometry root.generation tree used mode policy threshold mapped) cached left mapped
opened_parts knows root tree used mode policy threshold mapped cached left room fits known count index have = record {
  desk = opened_kept knows root tree used mode policy threshold mapped room fits known count;
  sound = fits.sound;
  index = index;
  have_left = have;
  count = count;
}
