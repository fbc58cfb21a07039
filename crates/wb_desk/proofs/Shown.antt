-- What an image says of the entries leaves their origin blocks, wherever it has their dirty bits.
use Rattle.std.proofs.Common.{◌≡◌, ℕ, Bool, false, List, [], ◌∷◌, Option, Some, None, refl, sym, ap, ◌∙◌}
use Rattle.std.specs.Option.{option_map}
use Rattle.wb_types.specs.declared.entry.Entry.{Entry}
use Rattle.wb_dirty.specs.ImageReading.{entries_with, entry_with, with_bits}
use Rattle.wb_policy.specs.Law.{origins}
use Rattle.wb_desk.specs.Marks.{entries_shown}
use Rattle.wb_desk.proofs.Marking.{origins-marked}

origin-with : (bit : Bool) (e : Option Entry) → option_map (λ (x : Entry). x.origin.0) (entry_with bit e) ≡ option_map (λ (x : Entry). x.origin.0) e
origin-with bit None = refl
origin-with bit (Some e) = refl

one_more : (bit : Bool) (e : Option Entry) (es fs : List (Option Entry)) → origins es ≡ origins fs → origins (entry_with bit e ∷ es) ≡ origins (e ∷ fs)
one_more bit e es fs same = ap (λ (x : Option ℕ). x ∷ origins es) (origin-with bit e) ∙ ap (λ (xs : List (Option ℕ)). option_map (λ (x : Entry). x.origin.0) e ∷ xs) same

origins-with : (bits : List Bool) (es : List (Option Entry)) → origins (entries_with bits es) ≡ origins es
unfolding entries_with
origins-with bits [] = refl
origins-with [] (e ∷ es) = one_more false e (entries_with [] es) es (origins-with [] es)
origins-with (bit ∷ bits) (e ∷ es) = one_more bit e (entries_with bits es) es (origins-with bits es)

origins-beside : (bits : Option (List Bool)) (es : List (Option Entry)) → origins (with_bits bits es) ≡ origins es
origins-beside None es = refl
origins-beside (Some bits) es = origins-with bits es

origins-shown : (hint : ℕ → ℕ) (clean : Option (List Bool)) (es : List (Option Entry)) → origins (entries_shown hint clean es) ≡ origins es
origins-shown hint None es = refl
origins-shown hint (Some dirty) es = origins-marked hint dirty es

pub same_origins : (bits : Option (List Bool)) (hint : ℕ → ℕ) (clean : Option (List Bool)) (new old : List (Option Entry)) → with_bits bits new ≡ entries_shown hint clean old → origins new ≡ origins old
same_origins bits hint clean new old shown = sym (origins-beside bits new) ∙ ap origins shown ∙ origins-shown hint clean old
