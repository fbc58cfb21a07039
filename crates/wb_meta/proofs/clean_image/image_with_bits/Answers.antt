use Rattle.std.proofs.Common.{refl}
use Rattle.wb_meta.proofs.clean_image.image_with_bits.Goals as goal

pub returns-clause-image : goal.returns-clause-image
returns-clause-image c bits m n plan is marks bits_are = record {
  tree = c.args.image;
  marks = c.args.marks;
  tree_is = is;
  marks_are = marks;
  bits_are = bits_are;
  nodes_are = c.in_ok-append.ensures.items;
  root_version = c.requires.second;
  root_generation = is.root_generation;
  root_clean = is.root_clean;
  root_geometry = is.root_geometry;
  root_top = refl;
  root_bits = refl;
}
