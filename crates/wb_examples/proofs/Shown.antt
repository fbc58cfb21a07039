-- What is shown where nothing is cached.
use Rattle.std.proofs.Common.{◌≡◌, ◌∙◌, ◌+◌, ◌/◌, ℕ, zero, suc, Bool, List, [], ◌∷◌, Option, Some, None, refl, sym, ap, arith, length, slice_get, map, replicate, unwrap_or}
use Rattle.wb_types.specs.declared.entry.Entry.{Entry}
use Rattle.wb_types.specs.Extents.{rising}
use Rattle.wb_disk.specs.Device.{Content as Bytes, History, added, written}
use Rattle.wb_promise.specs.States.{Shape, sector_count, block_size}
use Rattle.wb_promise.specs.Effects.{sealing_steps}
use Rattle.wb_promise.specs.Headline.{cached_from, place_of, content_of, shown_by}
use Rattle.wb_contents.proofs.Lists.{set_there}

pub written_same : (device : List History) (at : ℕ) (h : History) (c : Bytes) → slice_get device at ≡ Some h → slice_get (written device at c) at ≡ Some (added h c)
written_same device at h c e = rw e (set_there device at h (added h c) e)

-- nothing is cached: no block is sealed, and what is shown is the origin
pub no_seals : (clean : Bool) (c k : ℕ) → sealing_steps clean c (replicate k None) ≡ []
no_seals clean c zero = refl
no_seals clean c (suc k) = no_seals clean (suc c) k

pub nowhere : (block c k : ℕ) → cached_from block c (replicate k None) ≡ None
nowhere block c zero = refl
nowhere block c (suc k) = nowhere block (suc c) k

listed : {X : Type 0} (xs : List X) (f : ℕ → X) (first : ℕ) → ((i : ℕ) (x : X) → slice_get xs i ≡ Some x → f (first + i) ≡ x) → map f (rising first (length xs)) ≡ xs
listed [] f first h = refl
listed (x ∷ xs) f first h =
    let here : f first ≡ x = (let same : first ≡ first + 0 = omega arith in ap f same) ∙ h 0 x refl in
    let rest = listed xs f (first + 1) (λ i y e. (let same : first + 1 + i ≡ first + suc i = omega arith in ap f same) ∙ h (suc i) y e) in
    ap (λ y. y ∷ map f (rising (first + 1) (length xs))) here ∙ ap (λ ys. x ∷ ys) rest

pub origin_shown : (shape : Shape) (entries : List (Option Entry)) (cache origin : List Bytes) (k : ℕ) → entries ≡ replicate k None → length origin ≡ sector_count shape → shown_by shape entries cache origin ≡ origin
origin_shown shape entries cache origin k e size =
    ap (λ (es : List (Option Entry)). shown_by shape es cache origin) e
    ∙ ap (λ many. map (λ at. unwrap_or (content_of shape (place_of (replicate k None) (at / block_size shape)) cache origin at) []) (rising 0 many)) (sym size)
    ∙ listed origin (λ at. unwrap_or (content_of shape (place_of (replicate k None) (at / block_size shape)) cache origin at) []) 0
    (λ i x f. ap (λ (p : Option ℕ). unwrap_or (content_of shape p cache origin (0 + i)) []) (nowhere ((0 + i) / block_size shape) 0 k) ∙ (let same : 0 + i ≡ i = omega arith in ap (λ j. unwrap_or (slice_get origin j) []) same) ∙ ap (λ (o : Option Bytes). unwrap_or o []) f)
