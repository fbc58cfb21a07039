-- What is left of an invalidation is safe, from its start on. It runs in passthrough alone.
use Rattle.std.proofs.Common.{◌≡◌, ℕ, false, [], ◌∷◌, Option, Some, None, refl, sym, ap, ◌∙◌}
use Rattle.wb_disk.specs.Device.{Content}
use Rattle.wb_contents.specs.Volume.{Volume}
use Rattle.wb_types.specs.declared.mode.Mode.TheVariants.{Passthrough}
use Rattle.wb_link.specs.Tables.{Invalidating, Finished, Look_fail, Own, Look_seal, Disown, Seal, dropping}
use Rattle.wb_link.specs.World.{Shared, Nothing, Owns}
use Rattle.wb_link.proofs.Link.{RestsAt, Safe}
use Rattle.wb_link.proofs.Moved.{dropped}
use Rattle.wb_link.proofs.Calm.{disowned, beginning}
use Rattle.wb_link.proofs.Givings.{at_work, Life}

worked : (n size a b : ℕ) (p : Option ℕ) (c : ℕ → Content) (s : Shared) (d : Volume) → Life Passthrough d → RestsAt s d b → p ≡ (s.seals b).location → Safe n size a (at_work (Invalidating b) (dropping b p (Disown b ∷ [])) Finished (Owns b) None false c) s d
worked n size a b None c s d l k is = disowned n size a (Invalidating b) tt b Finished None c s d k
worked n size a b (Some j) c s d l k is = dropped size a (Invalidating b) tt b None c (Disown b ∷ []) refl (λ l k. refl) (λ l. refl) n j s d l k (sym (is ∙ k.location)) (λ n t e life rests gone. disowned n size a (Invalidating b) tt b Finished None c t e rests)

pub invalidating_safe : (n size a b : ℕ) (c : ℕ → Content) (s : Shared) (d : Volume) → d.mode ≡ Passthrough → Safe n size a (at_work (Invalidating b) (Look_fail ∷ Own b ∷ Look_seal b ∷ []) Finished Nothing None false c) s d
invalidating_safe n size a b c s d l = beginning size a (Invalidating b) tt b None c (λ t e. e.mode ≡ Passthrough) (λ y s t d e h o k. o.mode ∙ k)
    (λ n seal t e g k live rests is. worked n size a b seal.location c t e (live, k) rests (ap (λ (w : Seal). w.location) is)) n s d l
