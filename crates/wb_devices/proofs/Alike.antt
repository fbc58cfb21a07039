-- Metadata of the geometry that is asked for serve; others of its sizes want a conversion.
use Rattle.std.proofs.Common.{◌≡◌, ◌∙◌, ap, inl, inr, refl, sym}
use Rattle.wb_types.specs.declared.geometry.Geometry.{Geometry}
use Rattle.wb_types.specs.declared.version.Version.{Version}
use Rattle.wb_types.specs.declared.version.Version.TheVariants.{One, Two}
use Rattle.wb_meta.specs.Sizes.{AreSameSizes}
use Rattle.wb_meta.specs.declared.read_steps.State.{State}
use Rattle.wb_meta.specs.declared.read_steps.ReadSteps.TheVariants.{Done as AllRead}
use Rattle.wb_devices.specs.Converting.{WantsConversion}
use Rattle.wb_devices.specs.Sizes.{IsServedBy}

pub serves_alike : (found asked : Geometry) → found ≡ asked → IsServedBy found asked
serves_alike found asked same = record {
  sizes = record {
    block = ap (λ (g : Geometry). g.block) same;
    cache_blocks = ap (λ (g : Geometry). g.cache_blocks) same;
    origin_blocks = ap (λ (g : Geometry). g.origin_blocks) same;
    meta_sectors = ap (λ (g : Geometry). g.meta_sectors) same;
  };
  version = inl (ap (λ (g : Geometry). g.version) same);
}

-- what has the same sizes and does not serve is of the first version, where the second is asked for
pub wants_conversion : {A : Type 0} (asked : Geometry) (state : State A) → AreSameSizes state.root.geometry asked → ¬ IsServedBy state.root.geometry asked → WantsConversion asked (AllRead state) state
wants_conversion {A} asked state sizes unserved = by state.root.geometry.version asked.version refl refl
  where
    by : (found wanted : Version) → state.root.geometry.version ≡ found → asked.version ≡ wanted → WantsConversion asked (AllRead state) state
    by One Two f w = record { all_read = refl; first = f; second = w }
    by One One f w = absurd (unserved (record { sizes = sizes; version = inl (f ∙ sym w) }))
    by Two wanted f w = absurd (unserved (record { sizes = sizes; version = inr f }))
