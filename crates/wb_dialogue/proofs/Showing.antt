-- Lines of sectors, one behind the other.
use Rattle.std.proofs.Common.{◌≡◌, ◌+◌, ◌++◌, ℕ, List, [], ◌∷◌, refl, sym, ap, subst, ◌∙◌, append_assoc, append-nil, length, arith}
use Rattle.std.proofs.lemmas.List.{nil_from_length}
use Rattle.wb_dialogue.specs.Shown.{AreLinesOf}

-- what is behind the lines so far makes lines of all
abbrev pub Leads : List ℕ → ℕ → List (List ℕ) → ℕ → List (List ℕ) → Type 0
Leads sent sector rest first all = (more : List ℕ) → AreLinesOf more sector rest → AreLinesOf (sent ++ more) first all

-- lines of some sectors, and behind them those of the next ones
pub appended : (lines more : List ℕ) (sector next : ℕ) (some others : List (List ℕ)) → next ≡ sector + length some → AreLinesOf lines sector some → AreLinesOf more next others → AreLinesOf (lines ++ more) sector (some ++ others)
appended lines more sector next [] others n l m =
    let same : next ≡ sector = omega (arith, n) in
    let none : lines ++ more ≡ more = ap (λ t. t ++ more) l in
    subst (λ (at : ℕ). AreLinesOf (lines ++ more) at others) same (subst (λ (t : List ℕ). AreLinesOf t next others) (sym none) m)
appended lines more sector next (content ∷ some) others n (line, rest, is, are, e) m =
    let same : next ≡ (sector + 1) + length some = omega (arith, n) in
    (line, rest ++ more, is, appended rest more (sector + 1) next some others same are m, ap (λ t. t ++ more) e ∙ append_assoc line rest more)

pub some_more : (old before after sent lines : List ℕ) (sector next first : ℕ) (left group rest all : List (List ℕ)) → left ≡ group ++ rest → next ≡ sector + length group → before ≡ old ++ sent → Leads sent sector left first all → AreLinesOf lines sector group → after ≡ before ++ lines → (now : List ℕ) × (after ≡ old ++ now) × Leads now next rest first all
some_more old before after sent lines sector next first left group rest all l n b leads are a = (
  sent ++ lines,
  a ∙ ap (λ t. t ++ lines) b ∙ append_assoc old sent lines,
  λ more behind. subst (λ (t : List ℕ). AreLinesOf t first all) (sym (append_assoc sent lines more))
      (leads (lines ++ more) (subst (λ (some : List (List ℕ)). AreLinesOf (lines ++ more) sector some) (sym l) (appended lines more sector next group rest n are behind))),
)

pub all_shown : (sent : List ℕ) (sector first : ℕ) (left all : List (List ℕ)) → length left ≡ 0 → Leads sent sector left first all → AreLinesOf sent first all
all_shown sent sector first left all l leads =
    subst (λ (t : List ℕ). AreLinesOf t first all) (append-nil sent) (leads [] (subst (λ (some : List (List ℕ)). AreLinesOf [] sector some) (sym (nil_from_length left l)) refl))
