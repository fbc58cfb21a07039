-- Words that name contents, one behind the other.
use Rattle.std.proofs.Common.{◌++◌, ℕ, List, [], ◌∷◌}
use Rattle.wb_disk.specs.declared.crash_choice.NamedContent.{NamedContent}
use Rattle.wb_lines.specs.Lines.{SpellsNamed, SpellsAllNamed}

-- one more
pub SpellsAllNamed-more : (words : List (List ℕ)) (all : List NamedContent) (word : List ℕ) (named : NamedContent) → SpellsAllNamed words all → SpellsNamed word named → SpellsAllNamed (words ++ word ∷ []) (all ++ named ∷ [])
SpellsAllNamed-more [] [] word named s n = (n, tt)
SpellsAllNamed-more [] (m ∷ ms) word named s n = absurd s
SpellsAllNamed-more (w ∷ ws) [] word named s n = absurd s
SpellsAllNamed-more (w ∷ ws) (m ∷ ms) word named s n = (s.0, SpellsAllNamed-more ws ms word named s.1 n)

-- each word among them names one
pub SpellsAllNamed-at : (before : List (List ℕ)) (word : List ℕ) (behind : List (List ℕ)) (all : List NamedContent) → SpellsAllNamed (before ++ word ∷ behind) all → (named : NamedContent) × SpellsNamed word named
SpellsAllNamed-at [] word behind [] s = absurd s
SpellsAllNamed-at [] word behind (m ∷ ms) s = (m, s.0)
SpellsAllNamed-at (w ∷ ws) word behind [] s = absurd s
SpellsAllNamed-at (w ∷ ws) word behind (m ∷ ms) s = SpellsAllNamed-at ws word behind ms s.1
