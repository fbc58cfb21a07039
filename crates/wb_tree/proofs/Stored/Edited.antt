-- An edit of one entry leaves what is known of the tree as it is, or unknown.
use Rattle.std.proofs.Common.{◌≡◌, ◌≤◌, ◌<◌, ◌⊎◌, ◌+◌, ◌*◌, ◌/◌, ◌^◌, ◌∙◌, sym, ap, refl, ℕ, suc, Bool, true, false, List, Option, Some, None, take, drop, set, slice_set, arith, add-one, get_or, ◌-◌, inl, inr}
use Rattle.std.specs.Prelude.{IsSome, is_some}
use Rattle.std.specs.List.{list_any}
use Rattle.std.proofs.lemmas.Bool.{cases_lt, cases_Bool}
use Rattle.std.proofs.lemmas.List.{take-set-le, drop-set-lt, drop-set-add, get_or-set_other}
use Rattle.std.proofs.lemmas.Nat.{div-mul-add}
use Rattle.wb_types.specs.declared.entry.Entry.{Entry}
use Rattle.wb_types.specs.declared.number.Place.{Place}
use Rattle.wb_format.specs.declared.node.Node.{Node}
use Rattle.wb_tree.specs.Mapping.{Mapping, NodeName, IsSound, IsPlaceOf, IsOnPath, AreInside, Forgets, exists, place_of}
use Rattle.wb_tree.specs.Images.{Stores, IsNodeOf, word_at}
use Rattle.wb_tree.specs.Edits.{IsEdited}
use Rattle.wb_tree.proofs.Reading.Grown.{up_block, word_same, no_place}
use Rattle.wb_tree.proofs.Reading.PlacedLists.{option_cases, some_of}
use Rattle.wb_tree.proofs.Nodes.Knowing.{none_or_some}

-- ---- entries

-- an edit before some cells, or behind them, leaves them
cells_same : (entries : List (Option Entry)) (block : ℕ) (entry : Option Entry) (first count : ℕ) → (block < first) ⊎ (first + count ≤ block)
    → take count (drop first (set entries block entry)) ≡ take count (drop first entries)
cells_same entries block entry first count (inl before) = ap (λ es. take count es) (drop-set-lt first entries block entry before)
cells_same entries block entry first count (inr behind) =
    let at : block ≡ first + (block - first) = omega arith in
    ap (λ i. take count (drop first (set entries i entry))) at
    ∙ (ap (λ es. take count es) (drop-set-add first entries (block - first) entry) ∙ take-set-le count (drop first entries) (block - first) entry (omega arith))

-- a block that is not below a node lies before its cells or behind them
beside_node : (block index width : ℕ) → (block / width ≡ index → ⊥) → (block < index * width) ⊎ (index * width + width ≤ block)
beside_node block index width off = elim (cases_lt block (index * width)) [
  | inl before ↦ inl before
  | inr from ↦ elim (cases_lt block (index * width + width)) [
    | inl to ↦
        let e : index * width + (block - index * width) ≡ block = omega arith in
        absurd (off (ap (λ b. b / width) (sym e) ∙ div-mul-add index width (block - index * width) (omega arith)))
    | inr behind ↦ inr behind
  ]
]

-- whether a node exists depends on the entries below it alone
pub exists-set : (entries : List (Option Entry)) (block : ℕ) (entry : Option Entry) (level index : ℕ) → (IsOnPath block level index → ⊥) → exists (slice_set entries block entry) level index ≡ exists entries level index
unfolding exists
exists-set entries block entry level index off =
    ap (λ es. list_any is_some es) (cells_same entries block entry (index * 32 ^ level) (32 ^ level) (beside_node block index (32 ^ level) off))

-- ---- words

-- a node that is still known is not above the block
off_path : (old new : Mapping) (block level index : ℕ) (place : Place) → Forgets old new block → 1 ≤ level → place_of new level index ≡ Some place → IsOnPath block level index → ⊥
off_path old new block level index place forgets from known on = none_or_some (place_of new level index) place (forgets.path level index from on) known

missing_exist : (o : Option Place) → o ≡ None → IsSome o → ⊥
missing_exist o none some = let w = some_of o some in none_or_some o w.0 none w.1

yes_and_no : (b : Bool) → b ≡ true → b ≡ false → ⊥
yes_and_no b p q = absurd cc

-- a child of a node that is still known is known where it was
child_same : (old new : Mapping) (block : ℕ) (entry : Option Entry) → IsSound old → IsSound new → new.entries ≡ slice_set old.entries block entry → Forgets old new block
    → (level index child : ℕ) (place : Place) → 1 ≤ level → place_of new (level + 1) index ≡ Some place → child / 32 ≡ index → place_of old level child ≡ place_of new level child
child_same old new block entry sound sound' is forgets level index child place from known below = elim (option_cases (place_of new level child)) [
  | inl some ↦ forgets.stays level child some.0 some.1 ∙ sym some.1
  | inr none ↦
      let off : IsOnPath block level child → ⊥ = λ on. off_path old new block (level + 1) index place forgets (omega arith) known (ap (λ n. block / 32 ^ n) (add-one level) ∙ (up_block block level ∙ (ap (λ n. n / 32) on ∙ below))) in
      let gone : exists new.entries level child ≡ false = elim (cases_Bool (exists new.entries level child)) [
        | inl there ↦ absurd (missing_exist (place_of new level child) none (sound'.known_below level index child place from known below there))
        | inr not ↦ not
      ] in
      let before : exists old.entries level child ≡ false = sym (ap (λ es. exists es level child) is ∙ exists-set old.entries block entry level child off) ∙ gone in
      no_place (place_of old level child) (λ p h. yes_and_no (exists old.entries level child) (sound.known_exist level child p h) before) ∙ sym none
]

leaf_block : (block index j : ℕ) → j < 32 → 32 * index + j ≡ block → block / 32 ^ 1 ≡ index
leaf_block block index j less e = omega arith

-- a node that is still known has the words that it had
words_same : (old new : Mapping) (block : ℕ) (entry : Option Entry) → IsSound old → IsSound new → new.entries ≡ slice_set old.entries block entry → Forgets old new block
    → (level index j : ℕ) (place : Place) → place_of new level index ≡ Some place → j < 32 → word_at old level index j ≡ word_at new level index j
words_same old new block entry sound sound' is forgets level index j place known less =
    let from = (sound'.known_level level index place known).0 in
    word_same old new level index j
    (λ leaf. sym (ap (λ es. get_or es (32 * index + j) None) is ∙ get_or-set_other old.entries block (32 * index + j) entry None
    (λ e. off_path old new block level index place forgets from known (ap (λ l. block / 32 ^ l) leaf ∙ leaf_block block index j less e))))
    (λ k inner. child_same old new block entry sound sound' is forgets (suc k) index (32 * index + j) place (omega arith)
    (ap (λ l. place_of new l index) (add-one (suc k) ∙ sym inner) ∙ known) (omega arith))

-- ---- what edits leave

-- one edit
pub edited-once : (old new : Mapping) (block : ℕ) (entry : Option Entry) → IsSound old → IsSound new → new.entries ≡ slice_set old.entries block entry → Forgets old new block → IsEdited old new
edited-once old new block entry sound sound' is forgets = record {
  stays = forgets.stays;
  words = λ level index j place known less. words_same old new block entry sound sound' is forgets level index j place known less;
}

-- none
pub edited-none : (m : Mapping) → IsEdited m m
edited-none m = record { stays = λ level index place known. known; words = λ level index j place known less. refl }

-- some, and some more
pub edited-more : (a b c : Mapping) → IsEdited a b → IsEdited b c → IsEdited a c
edited-more a b c first next = record {
  stays = λ level index place known. first.stays level index place (next.stays level index place known);
  words = λ level index j place known less. first.words level index j place (next.stays level index place known) less ∙ next.words level index j place known less;
}

node_edited : (old new : Mapping) → IsEdited old new → (generation level index : ℕ) (place : Place) (node : Node) → place_of new level index ≡ Some place → IsNodeOf old generation level index node → IsNodeOf new generation level index node
node_edited old new edited generation level index place node known right =
    let l : node.level ≡ level = ap (λ (n : NodeName). n.level) right.name in
    let i : node.index ≡ index = ap (λ (n : NodeName). n.index) right.name in
    let here : place_of new node.level node.index ≡ Some place = ap (λ k. place_of new k node.index) l ∙ (ap (λ k. place_of new level k) i ∙ known) in
    record {
      mapping = right.mapping;
      name = right.name;
      not_newer = right.not_newer;
      words = λ j less. right.words j less ∙ edited.words node.level node.index j place here less;
    }

pub stored-edited : (old new : Mapping) (sectors : List (List ℕ)) (generation : ℕ) → IsEdited old new → Stores sectors old generation → Stores sectors new generation
stored-edited old new sectors generation edited stores level index place known =
    let k = stores level index place (edited.stays level index place known) in
    record {
      sector = k.sector;
      there = k.there;
      node = k.node;
      spelled = k.spelled;
      right = node_edited old new edited generation level index place k.node known k.right;
    }

pub places-edited : (old new : Mapping) (place : Place) → IsEdited old new → IsPlaceOf new place → IsPlaceOf old place
places-edited old new place edited is = record { level = is.level; index = is.index; known = edited.stays is.level is.index place is.known }

pub inside-edited : (old new : Mapping) (meta_sectors : ℕ) → IsEdited old new → AreInside meta_sectors old → AreInside meta_sectors new
inside-edited old new meta_sectors edited inside place is = inside place (places-edited old new place edited is)
