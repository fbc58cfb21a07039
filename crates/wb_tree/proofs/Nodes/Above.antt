-- The known nodes above a cache block: how many a change of its entry forgets, and which places it leaves.
use Rattle.std.proofs.Common.{◌≡◌, ◌≤◌, ◌<◌, ◌+◌, ◌/◌, ◌^◌, ◌&&◌, ◌==◌, ◌∙◌, sym, ap, subst, refl, ℕ, zero, suc, true, false, cond, is_some, List, [], ◌∷◌, Some, None, length, count_by, arith, inl, inr}
use Rattle.std.specs.Prelude.{Contains, slice_index_or}
use Rattle.std.proofs.lemmas.Bool.{cases_Bool, cases_eq, eqb-true}
use Rattle.wb_types.specs.declared.number.Place.{Place}
use Rattle.wb_types.proofs.Truth.{and_true, yes}
use Rattle.wb_tree.specs.declared.placed.PlacedNode.{PlacedNode}
use Rattle.wb_tree.specs.Mapping.{Mapping, IsOnPath, IsSound, place_in, place_of, places_above}
use Rattle.wb_tree.specs.Branches.{forget}
use Rattle.wb_tree.specs.Edits.{LeavesAbove}
use Rattle.wb_tree.specs.Fields.{AreApart}
use Rattle.wb_tree.proofs.Nodes.Few.{levels_four}
use Rattle.wb_tree.proofs.Nodes.Knowing.{known-behind, none_or_some, same_names}

-- how many of the nodes above a cache block, up to a level, are known
pub known_up_to : ℕ → List PlacedNode → ℕ → ℕ
known_up_to block known zero = 0
known_up_to block known (suc level) = known_up_to block known level + cond (is_some (place_in known (suc level) (block / 32 ^ suc level))) 1 0

-- a node that is not above the cache block, or above the level, adds nothing
beside : (block : ℕ) (node : PlacedNode) (known : List PlacedNode) (top : ℕ) → ((level : ℕ) → level ≤ top → ((node.level == level) && (node.index == block / 32 ^ level)) ≡ false)
    → known_up_to block (node ∷ known) top ≡ known_up_to block known top
unfolding known_up_to
beside block node known zero off = refl
beside block node known (suc level) off = rw (off (suc level) (omega arith)) (ap (λ n. n + cond (is_some (place_in known (suc level) (block / 32 ^ suc level))) 1 0) (beside block node known level (λ l to. off l (omega arith))))

names_differ : (block level : ℕ) (node : PlacedNode) → (node.level ≡ level → ⊥) → ((node.level == level) && (node.index == block / 32 ^ level)) ≡ false
names_differ block level node other = elim (cases_Bool ((node.level == level) && (node.index == block / 32 ^ level))) [
  | inl same ↦ absurd (other (eqb-true node.level level (and_true (node.level == level) (node.index == block / 32 ^ level) same).0))
  | inr differs ↦ differs
]

-- one that is above it adds one
above_one : (block : ℕ) (node : PlacedNode) (known : List PlacedNode) (top : ℕ) → 1 ≤ node.level → node.level ≤ top → block / 32 ^ node.level ≡ node.index → place_in known node.level node.index ≡ None
    → known_up_to block (node ∷ known) top ≡ known_up_to block known top + 1
unfolding known_up_to
above_one block node known zero from to on none = absurd (omega arith)
above_one block node known (suc level) from to on none = elim (cases_eq node.level (suc level)) [
  | inl here ↦
      let index : node.index ≡ block / 32 ^ suc level = sym on ∙ ap (λ l. block / 32 ^ l) here in
      let same : ((node.level == suc level) && (node.index == block / 32 ^ suc level)) ≡ true =
      ap (λ l. (l == suc level) && (node.index == block / 32 ^ suc level)) here ∙ (ap (λ i. (suc level == suc level) && (i == block / 32 ^ suc level)) index ∙ rw (yes (suc level), yes (block / 32 ^ suc level)) refl) in
      let gone : place_in known (suc level) (block / 32 ^ suc level) ≡ None = subst (λ i. place_in known (suc level) i ≡ None) index (subst (λ l. place_in known l node.index ≡ None) here none) in
      let below = beside block node known level (λ l to. names_differ block l node (λ e. omega (arith, e, here))) in
      rw (same, gone) (omega (arith, below))
  | inr other ↦
      let below = above_one block node known level from (omega (arith, other)) on none in
      rw (names_differ block (suc level) node other) (omega (arith, below))
]

-- a change of the entry of a cache block forgets the known nodes above it
pub forgotten-nodes : (block : ℕ) (known : List PlacedNode) → AreApart known → ((level index : ℕ) (place : Place) → place_in known level index ≡ Some place → (1 ≤ level) × (level ≤ 4))
    → length (forget block known) + known_up_to block known 4 ≡ length known
unfolding known_up_to
forgotten-nodes block [] apart levels = refl
forgotten-nodes block (node ∷ known) apart levels =
    let here : place_in (node ∷ known) node.level node.index ≡ Some node.place = rw (yes node.level, yes node.index) refl in
    let own = levels node.level node.index node.place here in
    let rest = forgotten-nodes block known apart.1 (λ level index place h. levels level index place (known-behind node known level index place apart.0 h)) in
    elim (cases_Bool (block / 32 ^ node.level == node.index)) [
      | inl above ↦
          let one = above_one block node known 4 own.0 own.1 (eqb-true (block / 32 ^ node.level) node.index above) apart.0 in
          rw above (omega (arith, one, rest))
      | inr off ↦
          let none = beside block node known 4 (λ level to. not_named level off) in
          rw off (omega (arith, none, rest))
    ]
  where
    not_named : (level : ℕ) → (block / 32 ^ node.level == node.index) ≡ false → ((node.level == level) && (node.index == block / 32 ^ level)) ≡ false
    not_named level off = elim (cases_Bool ((node.level == level) && (node.index == block / 32 ^ level))) [
      | inl same ↦
          let e = same_names node.level level node.index (block / 32 ^ level) same in
          let on : block / 32 ^ node.level ≡ node.index = ap (λ l. block / 32 ^ l) e.0 ∙ sym e.1 in
          let there : (block / 32 ^ node.level == node.index) ≡ true = ap (λ n. n == node.index) on ∙ yes node.index in
          absurd (let both : true ≡ false = sym there ∙ off in cc)
      | inr differs ↦ differs
    ]

-- the so many that are counted
pub counted-above : (m : Mapping) (block : ℕ) → IsSound m → AreApart m.known → length (forget block m.known) + count_by is_some (places_above m block) ≡ length m.known
unfolding known_up_to
counted-above m block sound apart = forgotten-nodes block m.known apart (λ level index place h.
    let level = sound.known_level level index place h in
    (level.0, omega (arith, level.1, levels_four (length m.entries))))

-- ---- the places that are left

on_path : (m : Mapping) (block level : ℕ) (place : Place) → 1 ≤ level → level ≤ 4 → place_of m level (block / 32 ^ level) ≡ Some place → Contains (places_above m block) (Some place)
on_path m block zero place from to h = absurd (omega arith)
on_path m block (suc zero) place from to h = (0, omega arith, h)
on_path m block (suc (suc zero)) place from to h = (1, omega arith, h)
on_path m block (suc (suc (suc zero))) place from to h = (2, omega arith, h)
on_path m block (suc (suc (suc (suc zero)))) place from to h = (3, omega arith, h)
on_path m block (suc (suc (suc (suc (suc level))))) place from to h = absurd (omega arith)

-- the level at which a place above a cache block stands
above_at : (m : Mapping) (block : ℕ) (place : Place) → Contains (places_above m block) (Some place) → (level : ℕ) × (1 ≤ level) × (place_of m level (block / 32 ^ level) ≡ Some place)
above_at m block place has = at has.0 has.1 has.2
  where
    at : (k : ℕ) → k < 4 → slice_index_or (places_above m block) k (Some place) ≡ Some place → (level : ℕ) × (1 ≤ level) × (place_of m level (block / 32 ^ level) ≡ Some place)
    at zero below h = (1, omega arith, h)
    at (suc zero) below h = (2, omega arith, h)
    at (suc (suc zero)) below h = (3, omega arith, h)
    at (suc (suc (suc zero))) below h = (4, omega arith, h)
    at (suc (suc (suc (suc k)))) below h = absurd (omega arith)

-- after a change of the entry of a cache block nodes stand where they stood, but for those above it
pub leaves-above : LeavesAbove
leaves-above old new block sound forgets others place = (
  λ is.
      let was = forgets.stays is.level is.index place is.known in (
        record { level = is.level; index = is.index; known = was },
        λ above.
            let a = above_at old block place above in
            let same = sound.apart is.level is.index a.0 (block / 32 ^ a.0) place was a.2 in
            let on : block / 32 ^ is.level ≡ is.index = ap (λ l. block / 32 ^ l) same.0 ∙ sym same.1 in
            none_or_some (place_of new is.level is.index) place (forgets.path is.level is.index (sound.known_level is.level is.index place was).0 on) is.known,
      ),
  λ both.
      let was = both.0 in
      let level = sound.known_level was.level was.index place was.known in
      let off : IsOnPath block was.level was.index → ⊥ = λ on.
      both.1 (on_path old block was.level place level.0 (omega (arith, level.1, levels_four (length old.entries))) (ap (λ i. place_of old was.level i) on ∙ was.known)) in
      record { level = was.level; index = was.index; known = others was.level was.index off ∙ was.known },
)
