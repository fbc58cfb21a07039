-- Contents chosen one by one.
use Rattle.std.proofs.Common.{◌≡◌, ℕ, zero, suc, List, [], ◌∷◌, Some, length, refl, ap, subst}
use Rattle.std.specs.List.{slice_get}
use Rattle.wb_disk.specs.Device.{Content}

-- contents, one for each of other contents, each as it is wanted
pub record Chosen (Fits : ℕ → Content → Content → Type 0) (xs : List Content) : Type 0 where
  pub list : List Content
  pub size : length list ≡ length xs
  pub each : (at : ℕ) (x y : Content) → slice_get xs at ≡ Some x → slice_get list at ≡ Some y → Fits at x y

chosen_at : (Fits : ℕ → Content → Content → Type 0) (x y : Content) (xs ys : List Content) → Fits 0 x y → ((at : ℕ) (a b : Content) → slice_get xs at ≡ Some a → slice_get ys at ≡ Some b → Fits (suc at) a b)
    → (at : ℕ) (a b : Content) → slice_get (x ∷ xs) at ≡ Some a → slice_get (y ∷ ys) at ≡ Some b → Fits at a b
chosen_at Fits x y xs ys first rest zero a b e f =
    let old : x ≡ a = cc in
    let new : y ≡ b = cc in
    let P : Content → Type 0 = λ c. Fits zero c y in
    let Q : Content → Type 0 = λ c. Fits zero a c in
    subst Q new (subst P old first)
chosen_at Fits x y xs ys first rest (suc at) a b e f = rest at a b e f

pub chosen : (Fits : ℕ → Content → Content → Type 0) (xs : List Content) → ((at : ℕ) (x : Content) → slice_get xs at ≡ Some x → (y : Content) × Fits at x y) → Chosen Fits xs
chosen Fits [] choose = record { list = []; size = refl; each = λ at x y e f. absurd (cc) }
chosen Fits (x ∷ xs) choose =
    let first = choose 0 x refl in
    let rest = chosen (λ at. Fits (suc at)) xs (λ at a e. choose (suc at) a e) in
    record {
      list = first.0 ∷ rest.list;
      size = ap (λ n. suc n) rest.size;
      each = chosen_at Fits x first.0 xs rest.list first.1 rest.each;
    }
