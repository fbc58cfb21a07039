-- What an opening of a target keeps: its reading, where it is still there, and that what was read fits the root that is written.
use Rattle.wb_disk.specs.Device.{History}
use Rattle.std.proofs.Common.{◌≡◌, ◌≤◌, ℕ, List, [], ◌∷◌, Option, Some, length, sym, subst}
use Rattle.std.specs.Prelude.{IfSome}
use Rattle.std.specs.Global.{Global}
use Rattle.wb_types.specs.Limits.{node_count}
use Rattle.wb_types.specs.declared.geometry.Geometry.{Geometry}
use Rattle.wb_format.specs.declared.root.Root.{Root}
use Rattle.wb_tree.specs.Images.{kept_tree}
use Rattle.wb_tree.specs.Mapping.{IsMapping}
use Rattle.wb_meta.specs.Reads.{FitsDevice, AreStepsOn}
use Rattle.wb_meta.specs.declared.read_steps.ReadSteps.{ReadSteps}
use Rattle.wb_meta.specs.declared.read_steps.ReadSteps.TheVariants.{Done}
use Rattle.wb_meta.specs.declared.read_steps.State.{State}
use Rattle.wb_tasks.specs.Run.{Leads}
use Rattle.wb_tasks.specs.declared.step.Want.{Want}
use Rattle.wb_tasks.specs.declared.step.Got.{Got}
use Rattle.wb_devices.specs.Openings.{MayGoOn}
use Rattle.wb_target.specs.Making.{PolicyStarts, MakingGoesOn}
use Rattle.wb_types.specs.declared.message.Key.{Key}
use Rattle.wb_target.specs.declared.making.MakingStage.{MakingStage}

-- by the size that a root of the same geometry has
same_fits : (sectors : ℕ) (state : State Global) (root : Root) → state.root.geometry ≡ root.geometry → FitsDevice sectors state.root state.tree state.used.items → FitsDevice root.geometry.meta_sectors root state.tree state.used.items
same_fits sectors state root same fits = subst (λ (n : ℕ). FitsDevice n root state.tree state.used.items) (sym size) (record { size = size; mapping = mapping; sound = fits.sound; inside = fits.inside; known_used = fits.known_used; used_are = fits.used_are; used_few = few; keeps = keeps })
  where
    size : root.geometry.meta_sectors ≡ sectors
    size = subst (λ (geometry : Geometry). geometry.meta_sectors ≡ sectors) same fits.size

    mapping : IsMapping root.geometry.cache_blocks root.geometry.origin_blocks state.tree.entries
    mapping = subst (λ (geometry : Geometry). IsMapping geometry.cache_blocks geometry.origin_blocks state.tree.entries) same fits.mapping

    few : length state.used.items ≤ node_count root.geometry.cache_blocks
    few = subst (λ (geometry : Geometry). length state.used.items ≤ node_count geometry.cache_blocks) same fits.used_few

    keeps : kept_tree root.geometry.version state.tree ≡ state.tree
    keeps = subst (λ (geometry : Geometry). kept_tree geometry.version state.tree ≡ state.tree) same fits.keeps

pub fits_written : (sectors : ℕ) (reading : Option (ReadSteps Global)) (state : State Global) (root : Root) → reading ≡ Some (Done state) → IfSome reading (AreStepsOn sectors) → state.root.geometry ≡ root.geometry
    → FitsDevice root.geometry.meta_sectors root state.tree state.used.items
fits_written sectors reading state root is steps same = same_fits sectors state root same (subst (λ (r : Option (ReadSteps Global)). IfSome r (AreStepsOn sectors)) is steps).0

pub goes_on_making : {D P : Type 0} (tells : Type 0) (size : D → ℕ) (contents : D → List History) (faults : D → ℕ) (starts : PolicyStarts P) (with_setting : P → Key → ℕ → Option P) (old : MakingStage D P) (steps : List (Want × Got)) (new : MakingStage D P) → MayGoOn (size old.stage.devices.metadata) old.stage.opening → Leads (MakingGoesOn tells size contents faults starts with_setting) old steps new
    → MayGoOn (size new.stage.devices.metadata) new.stage.opening
goes_on_making {D} {P} tells size contents faults starts with_setting old [] new h e = subst (λ (s : MakingStage D P). MayGoOn (size s.stage.devices.metadata) s.stage.opening) e h
goes_on_making tells size contents faults starts with_setting old (step ∷ steps) new h l = goes_on_making tells size contents faults starts with_setting l.0 steps new l.1.0 l.2
