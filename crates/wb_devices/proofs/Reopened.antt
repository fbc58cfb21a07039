-- The state that an opening leaves fits its device.
use Rattle.std.proofs.Common.{◌≡◌, ℕ, Option, Some, IfSome, sym, subst}
use Rattle.std.specs.declared.alloc.Global.{Global}
use Rattle.wb_format.specs.declared.root.Root.{Root}
use Rattle.wb_meta.specs.Openings.{reopened}
use Rattle.wb_meta.specs.Reads.{FitsDevice}
use Rattle.wb_meta.specs.declared.read_steps.State.{State}
use Rattle.wb_devices.specs.Outcomes.{IsOpen, opened_state}
use Rattle.wb_devices.specs.declared.opening.Opening.{Opening}

-- it has the geometry of the root that was read
pub fits_on : {sectors : ℕ} {opening : Opening} (opened : IsOpen sectors opening) (state : Option (State Global)) → state ≡ Some (opened_state opened) → IfSome state (λ s. FitsDevice sectors s.root s.tree s.used.items)
fits_on {sectors} {opening} opened state is =
    let fits = opened.fits in
    let again : FitsDevice sectors (reopened opened.state.root) opened.state.tree opened.state.used.items = record {
      size = fits.size;
      mapping = fits.mapping;
      sound = fits.sound;
      inside = fits.inside;
      known_used = fits.known_used;
      used_are = fits.used_are;
      used_few = fits.used_few;
      keeps = fits.keeps;
    } in
    let so : FitsDevice sectors opened.next.image.root opened.state.tree opened.state.used.items = subst (λ (r : Root). FitsDevice sectors r opened.state.tree opened.state.used.items) (sym opened.opens) again in
    subst (λ (o : Option (State Global)). IfSome o (λ s. FitsDevice sectors s.root s.tree s.used.items)) (sym is) so
