-- Metadata whose root names no tree, as that of formatted ones does.
use Rattle.std.proofs.Common.{◌≡◌, ◌<◌, ◌+◌, ◌^◌, List, None, sym, subst, arith, length, map}
use Rattle.wb_types.specs.declared.geometry.Geometry.{Geometry}
use Rattle.wb_disk.specs.Device.{Content as Bytes, History, newest, synced}
use Rattle.wb_disk.specs.Crashes.{AfterEveryCrash}
use Rattle.wb_disk.proofs.Leaving.{read-left, left-synced}
use Rattle.wb_format.specs.declared.root.Root.{Root}
use Rattle.wb_tree.specs.Reading.{nothing_found}
use Rattle.wb_meta.specs.Formats.{IsFormatted}
use Rattle.wb_meta.specs.Representing.{Represents, alone}
use Rattle.wb_meta.proofs.Sizes.{alike_sizes}
use Rattle.wb_runs.proofs.Images.{Images, one_image}
use Rattle.wb_runs.proofs.Underway.{Readable}

-- whatever a crash leaves of them, metadata represent this root of no tree and no dirty bits, behind which there are two generations more
pub record HasNoTree (g : Geometry) (device : List History) : Type 0 where
  pub root : Root
  pub geometry_is : root.geometry ≡ g
  pub top : root.top ≡ None
  pub no_bits : root.top_dirty ≡ None
  pub more : root.generation + 2 < 2 ^ 64
  pub represents : AfterEveryCrash (λ sectors. Represents sectors root (alone (nothing_found root))) device

-- formatted metadata do
abbrev pub formatted_none : (g : Geometry) (device : List History) → IsFormatted g device → HasNoTree g device
formatted_none g device f = record { root = f.root; geometry_is = f.first.geometry_is; top = f.first.top; no_bits = f.first.top_dirty; more = omega (arith, f.first.generation); represents = f.represents }

-- and so do they once they were synced
abbrev pub synced_none : (g : Geometry) (device : List History) → HasNoTree g device → HasNoTree g (synced device)
synced_none g device b = record {
  root = b.root;
  geometry_is = b.geometry_is;
  top = b.top;
  no_bits = b.no_bits;
  more = b.more;
  represents = λ sectors left. subst (λ (s : List Bytes). Represents s b.root (alone (nothing_found b.root))) (sym (left-synced device sectors left)) (b.represents (map newest device) (read-left device));
}

-- what they are read as
abbrev pub none_images : (g : Geometry) (device : List History) → HasNoTree g device → Images
none_images g device b = one_image (record { root = b.root; found = alone (nothing_found b.root) })

-- what is known of them where no target stands
pub none_readable : (g : Geometry) (device : List History) (b : HasNoTree g device) → length device ≡ g.meta_sectors → Readable g (none_images g device b) device
none_readable g device b size = record {
  read = record { size = size; sizes = alike_sizes b.root.geometry g b.geometry_is; later_sizes = tt; represents = b.represents };
}
