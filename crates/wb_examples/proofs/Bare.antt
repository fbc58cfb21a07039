-- A tree in which nothing is cached has no node, so none of its images has one.
use Rattle.std.proofs.Common.{◌≡◌, ◌*◌, ◌^◌, ℕ, zero, suc, false, List, [], Option, None, refl, sym, subst, replicate, take, drop, is_some}
use Rattle.std.specs.List.{list_any}
use Rattle.wb_types.specs.declared.entry.Entry.{Entry}
use Rattle.wb_types.specs.declared.geometry.Geometry.{Geometry}
use Rattle.wb_tree.specs.Mapping.{Mapping, exists, changed}
use Rattle.wb_tree.proofs.Images.PlanSteps.{shut_below}
use Rattle.wb_disk.specs.Device.{History}
use Rattle.wb_desk.specs.Desks.{DeskState}
use Rattle.wb_runs.proofs.Images.{Images}
use Rattle.wb_runs.proofs.Metadata.{AtDesk}

-- no cache block has an entry
abbrev pub no_entries : Geometry → List (Option Entry)
no_entries g = replicate g.cache_blocks None

-- a desk of this geometry without entries, where no commit runs
pub record BareDesk (P : Type 0) (g : Geometry) (desk : DeskState P) (device : List History) : Type 0 where
  pub images : Images
  pub known : AtDesk g images desk None device
  pub geometry : desk.geometry ≡ g
  pub entries : desk.tree.entries ≡ no_entries g

abbrev blanks : ℕ → List (Option Entry)
blanks n = replicate n None

none_taken : (n k : ℕ) → list_any is_some (take k (blanks n)) ≡ false
none_taken n zero = refl
none_taken zero (suc k) = refl
none_taken (suc n) (suc k) = none_taken n k

none_left : (n j k : ℕ) → list_any is_some (take k (drop j (blanks n))) ≡ false
none_left n zero k = none_taken n k
none_left zero (suc j) zero = refl
none_left zero (suc j) (suc k) = refl
none_left (suc n) (suc j) k = none_left n j k

pub nothing_exists : (n level index : ℕ) → exists (replicate n None) level index ≡ false
unfolding exists
nothing_exists n level index = none_left n (index * 32 ^ level) (32 ^ level)

pub nothing_changed : (g : Geometry) (m : Mapping) (depth : ℕ) → m.entries ≡ no_entries g → changed m depth ≡ []
nothing_changed g m depth e = shut_below m depth 0 (subst (λ (es : List (Option Entry)). exists es depth 0 ≡ false) (sym e) (nothing_exists g.cache_blocks depth 0))
