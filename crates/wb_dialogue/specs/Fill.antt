-- What is printed of the content of a sector.
use Rattle.std.specs.Prelude.{◌≡◌, ℕ, List, All}
use Rattle.wb_dialogue.specs.declared.fill.Fill.{Fill}
use Rattle.wb_dialogue.specs.declared.fill.Fill.TheVariants.{Uniform, Mixed}

-- What a user is shown of a content: the byte that fills it, or that no one byte does.
abbrev pub Shows : Fill → List ℕ → Type 0
Shows (Uniform byte) content = All (λ b. b ≡ byte) content
Shows Mixed content = (byte : ℕ) → ¬ All (λ b. b ≡ byte) content
