-- What the fields of a desk hold beside what a caller sees.
use Rattle.std.specs.Prelude.{◌≡◌, ℕ, Bool, if◌then◌else◌, List, Option, Some, None, length, slice_get}
use Rattle.wb_tree.specs.Mapping.{IsPlaceOf, IsSound}
use Rattle.wb_space.specs.Places.{HaveLeft}
use Rattle.wb_space.specs.Spaces.{Spaces}
use Rattle.wb_types.specs.declared.number.CBlock.{CBlock}
use Rattle.wb_policy.specs.Law.{Holdings, IsMappedAt, IsUnmapped}
use Rattle.wb_desk.specs.Desks.{DeskState, DeskInvariant, holdings, mapped_now}

-- the places of the newest image: the running one, or where none runs, the committed one
abbrev pub newest_places : Spaces → List Bool
newest_places space = if space.committing then space.places.running else space.places.committed

-- where each origin block is cached
pub record IsIndex (origin_blocks : ℕ) (mapping : Holdings) (cached : List (Option CBlock)) : Type 0 where
  pub size : length cached ≡ origin_blocks
  pub found : (b : ℕ) (c : CBlock) → slice_get cached b ≡ Some (Some c) → IsMappedAt mapping b c.0
  pub missing : (b : ℕ) → slice_get cached b ≡ Some None → IsUnmapped mapping b

pub record AreParts {P : Type 0} (knows : P → Holdings → Type 0) (d : DeskState P) (cached : List (Option CBlock)) (left : List Bool) (mapped : ℕ) : Type 0 where
  pub desk : DeskInvariant knows d
  pub sound : IsSound d.tree
  pub index : IsIndex d.geometry.origin_blocks (holdings d) cached
  -- the places of the newest image at which no node of the tree is known to stand
  pub have_left : HaveLeft (IsPlaceOf d.tree) (newest_places d.space) left
  pub count : mapped ≡ mapped_now d
