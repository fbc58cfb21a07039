-- The root that an opening writes.
use Rattle.std.specs.Prelude.{◌≡◌, ◌+◌, false, Some, None, []}
use Rattle.wb_types.specs.declared.number.Place.{Place}
use Rattle.wb_format.specs.declared.root.Root.{Root}
use Rattle.wb_tree.specs.declared.image.Image.{Image}

-- what stands at no place
pub nowhere : {P : Type 0} {place : Place} → None ≡ Some place → P
nowhere here = absurd cc

-- a root of the next generation, not clean, over the same tree; so it names no tree of dirty bits
abbrev pub reopened : Root → Root
reopened root = record root {
  generation = root.generation + 1;
  clean = false;
  top_dirty = None;
  dirty_inside = λ place here. nowhere here;
  dirty_clean = λ place here. nowhere here;
}

-- the image has that root, and no node
pub record IsOpening (image : Image) (root : Root) : Type 0 where
  pub root_is : image.root ≡ reopened root
  pub no_nodes : image.nodes.items ≡ []
