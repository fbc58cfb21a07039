-- What a desk is at an opening.
use Rattle.std.specs.Prelude.{◌≡◌, ℕ, Bool, true, false, if◌then◌else◌, List, [], ◌∷◌, Option, Some, None, is_some, length, map}
use Rattle.wb_types.specs.declared.mode.Mode.{Mode}
use Rattle.wb_types.specs.declared.message.Key.{Key}
use Rattle.wb_types.specs.declared.message.Key.TheVariants.{MigrationThreshold, PromoteMin}
use Rattle.wb_types.specs.declared.geometry.Geometry.{Geometry}
use Rattle.wb_types.specs.declared.number.Place.{Place}
use Rattle.wb_tree.specs.Mapping.{Mapping}
use Rattle.wb_space.specs.Blocks.{opened_block}
use Rattle.wb_space.specs.Places.{noted, unused, place_count}
use Rattle.wb_orders.specs.Orders.{no_orders}
use Rattle.wb_desk.specs.Desks.{DeskState}

abbrev pub is_key : Key → Key → Bool
is_key MigrationThreshold MigrationThreshold = true
is_key MigrationThreshold PromoteMin = false
is_key PromoteMin MigrationThreshold = false
is_key PromoteMin PromoteMin = true

-- the last value of a key, if any, else the one found before
abbrev pub value_after : Key → Option ℕ → List (Key × ℕ) → Option ℕ
value_after wanted found [] = found
value_after wanted found (k ∷ ks) = value_after wanted (if is_key wanted k.0 then Some k.1 else found) ks

abbrev pub last_value : Key → List (Key × ℕ) → Option ℕ
last_value wanted keys = value_after wanted None keys

-- the threshold where none is named
abbrev pub threshold_of : Option ℕ → ℕ
threshold_of None = 2048
threshold_of (Some value) = value

-- a desk that has just been opened over this state, with this policy and threshold
abbrev pub opened : {P : Type 0} → Geometry → ℕ → Mapping → List Place → Mode → P → ℕ → ℕ → DeskState P
opened geometry generation tree used mode policy threshold mapped = record {
  geometry = geometry;
  mode = mode;
  tree = tree;
  space = record {
    blocks = map opened_block (map is_some tree.entries);
    places = record { committed = noted used (unused (place_count geometry)); running = unused (place_count geometry) };
    committing = false;
  };
  orders = no_orders geometry.cache_blocks geometry.origin_blocks;
  policy = policy;
  threshold = threshold;
  generation = generation;
  nodes = length used;
  coming = 0;
  at_opening = mapped;
  promotions = 0;
  demotions = 0;
  ended = 0;
  broken = false;
}

-- the policy with the value of its setting, if one is named
abbrev pub IsSet : {P : Type 0} → (P → Key → ℕ → Option P) → P → Option ℕ → P → Type 0
IsSet with_setting old None new = new ≡ old
IsSet with_setting old (Some value) new = with_setting old PromoteMin value ≡ Some new

-- it is one that the policy does not take
abbrev pub IsBad : {P : Type 0} → (P → Key → ℕ → Option P) → P → Option ℕ → Type 0
IsBad with_setting old None = ⊥
IsBad with_setting old (Some value) = with_setting old PromoteMin value ≡ None
