-- The words and all views: what holds between any two steps.
use Rattle.std.specs.Prelude.{◌≡◌, ◌≢◌, ℕ, ◌+◌, ◌*◌, ◌≤◌, List, [], ◌∷◌, ◌++◌, length, replicate, slice_index_or, Option, Some, None}
use mathlib.Core.Option.{some}
use lib.ListN.{get_elem?}
use Rattle.atomic_table.specs.Table.{State}
use Rattle.wb_words.specs.SharedWords.{Words, HasBits}
use Rattle.wb_words.specs.declared.card.Card.{Card}
use Rattle.wb_cells.specs.declared.view.View.{View}
use Rattle.wb_cells.specs.declared.view.Side.{Side}
use Rattle.wb_cells.specs.Flat.{decode}
use Rattle.wb_words.specs.Cards.{blank_card, total, merged}
use Rattle.wb_words.specs.Rule.{LockRule}
use Rattle.wb_cells.specs.Fractions.{doubled, pieces_at, IsWhole, the_whole, no_fraction, half, together}

abbrev pub all_cards : List View → List Card
all_cards [] = []
all_cards (v ∷ vs) = v.cards ++ all_cards vs

abbrev pub view_pieces : ℕ → View → ℕ
view_pieces d v = pieces_at d v.fraction

-- The parts of the views make one whole, halved so many times that each part is so many pieces of it.
pub record MakeWhole (views : List View) : Type 0 where
  pub depth : ℕ
  pub deep : (j : ℕ) (v : View) → get_elem? views j ≡ some v → v.fraction.halvings ≤ depth
  pub sum : total (view_pieces depth) views ≡ doubled 1 depth

-- each side of a seat that sits for two passes has a part
abbrev pub AllHaveParts : List Side → Type 0
AllHaveParts [] = Unit {0}
AllHaveParts (side ∷ sides) = (side.fraction.pieces ≢ 0) × AllHaveParts sides

pub record Ruled (n : ℕ) (s : State ℕ View) : Type 0 where
  pub wide : length s.words ≡ 3 * n + 5
  pub rule : LockRule n (decode s.words) (all_cards s.views)
  pub parts : MakeWhole s.views
  pub bare : (j : ℕ) (v : View) → get_elem? s.views j ≡ some v → v.fraction.pieces ≡ 0 → v.cards ≡ []
  pub sized : (j : ℕ) (v : View) → get_elem? s.views j ≡ some v → (v.fraction.pieces ≡ 0 → ⊥) → v.blocks ≡ n
  pub floor : (j : ℕ) (v : View) → get_elem? s.views j ≡ some v → HasBits (decode s.words).fail v.fail
  pub sides : (j : ℕ) (v : View) → get_elem? s.views j ≡ some v → AllHaveParts v.sides
  pub known : (j : ℕ) (v : View) (ws : List ℕ) → get_elem? s.views j ≡ some v → v.words ≡ Some ws → (ws ≡ s.words) × IsWhole v.fraction

-- the first view, which has the whole and knows that all words are 0
abbrev pub first_view : ℕ → ℕ → View
first_view n actors = record { fraction = the_whole; blocks = n; cards = replicate actors blank_card; fail = []; words = Some (replicate (3 * n + 5) 0); sides = [] }

abbrev pub words_or : Option (List ℕ) → List ℕ
words_or None = []
words_or (Some ws) = ws

-- all words, where they are known
abbrev pub known_words : View → Words
known_words v = decode (words_or v.words)

-- a view is cut in two halves: the second has a card of its own
abbrev pub cut_left : View → View
cut_left v = record v { fraction = half v.fraction; words = None }

abbrev pub cut_right : View → View
cut_right v = record { fraction = half v.fraction; blocks = v.blocks; cards = blank_card ∷ []; fail = v.fail; words = None; sides = [] }

abbrev pub merged_cards : List Card → List Card → List Card
merged_cards (c ∷ cs) (d ∷ ds) = merged c d ∷ []
merged_cards [] ds = ds
merged_cards (c ∷ cs) [] = c ∷ cs

abbrev pub joined : View → View → View
joined v w = record { fraction = together v.fraction w.fraction; blocks = v.blocks; cards = merged_cards v.cards w.cards; fail = v.fail ++ w.fail; words = None; sides = [] }

abbrev pub spent : View
spent = record { fraction = no_fraction; blocks = 0; cards = []; fail = []; words = None; sides = [] }

-- Two views in one seat, which sits for both with both their cards; and each of them again.

abbrev pub side_of : View → Side
side_of v = record { fraction = v.fraction; fail = v.fail }

abbrev pub seated : View → View → View
seated v w = record { fraction = together v.fraction w.fraction; blocks = v.blocks; cards = v.cards ++ w.cards; fail = v.fail ++ w.fail; words = None; sides = side_of v ∷ side_of w ∷ [] }

abbrev pub side_at : ℕ → View → Side
side_at k v = slice_index_or v.sides k (record { fraction = no_fraction; fail = [] })

abbrev pub side_view : ℕ → View → View
side_view k v = record { fraction = (side_at k v).fraction; blocks = v.blocks; cards = slice_index_or v.cards k blank_card ∷ []; fail = (side_at k v).fail; words = None; sides = [] }
