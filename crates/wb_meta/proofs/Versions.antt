-- Which nodes and trees metadata of a version have.
use Rattle.std.proofs.Common.{◌≡◌, ◌∙◌, ◌+◌, ◌*◌, ◌/◌, ◌%◌, ℕ, Bool, false, cond, List, [], ◌∷◌, Option, Some, None, length, refl, sym, ap, subst, map, slice_index, arith, inl, inr}
use Rattle.std.specs.Prelude.{slice_index_or}
use Rattle.std.proofs.lemmas.Bool.{cases_lt}
use Rattle.std.proofs.lemmas.List.{get_or_past}
use Rattle.wb_types.specs.Versions.{version_number}
use Rattle.wb_types.specs.declared.version.Version.{Version}
use Rattle.wb_types.specs.declared.version.Version.TheVariants.{One, Two}
use Rattle.wb_types.specs.declared.entry.Entry.{Entry}
use Rattle.wb_types.specs.declared.geometry.Geometry.{Geometry}
use Rattle.wb_format.specs.declared.node.Node.{Node}
use Rattle.wb_format.specs.declared.root.Root.{Root}
use Rattle.wb_format.specs.NodeWords.{entry_word, kept}
use Rattle.wb_format.specs.Layout.{IsOfVersion, SpellsNode}
use Rattle.wb_types.proofs.Versions.{one_version}
use Rattle.wb_tree.specs.Mapping.{Mapping, entry_at}
use Rattle.wb_tree.proofs.Images.PlanSteps.{kept_at}
use Rattle.wb_tree.specs.Images.{HasWordsOf, kept_tree, word_at}
use Rattle.wb_types.specs.declared.number.Place.{Place}

-- a root has the version of its geometry
pub version_of : (root : Root) (geometry : Geometry) → root.geometry ≡ geometry → root.version ≡ geometry.version
version_of root geometry e = one_version root.version geometry.version (root.same_version ∙ ap (λ (g : Geometry). version_number g.version) e)

-- roots of one geometry have one version
pub same_version : (a b : Root) → a.geometry ≡ b.geometry → a.version ≡ b.version
same_version a b e = version_of a b.geometry e ∙ sym (version_of b b.geometry refl)

entries_kept : (entries : List (Option Entry)) → map (kept One) entries ≡ entries
entries_kept [] = refl
entries_kept (entry ∷ entries) = ap (λ (es : List (Option Entry)). entry ∷ es) (entries_kept entries)

-- the words of the first version keep a tree as it is
pub first_keeps : (version : Version) (m : Mapping) → version ≡ One → kept_tree version m ≡ m
first_keeps version m one = ap (λ (v : Version). kept_tree v m) one ∙ ap (λ (es : List (Option Entry)). record { entries = es; known = m.known }) (entries_kept m.entries)

-- ---- nodes

-- the word of an entry that the second version keeps has no dirty bit
clean_entry : (entry : Entry) → kept Two (Some entry) ≡ Some entry → entry.dirty ≡ false
clean_entry entry same = ap (λ (o : Option Entry). dirty_in o) (sym same)
  where
    dirty_in : Option Entry → Bool
    dirty_in None = false
    dirty_in (Some e) = e.dirty

clean_word : (entry : Option Entry) → kept Two entry ≡ entry → entry_word entry / 2 % 2 ≡ 0
clean_word None same = refl
clean_word (Some entry) same =
    let none : ◌≡◌ {A = ℕ} (cond entry.dirty 1 0) 0 = ap (λ (b : Bool). cond b 1 0) (clean_entry entry same) in
    omega (arith, none)

no_dirty_word : (version : Version) (m : Mapping) (node : Node) → kept_tree version m ≡ m → length node.words ≡ 32 → HasWordsOf m node → node.level ≡ 1 → version ≡ Two → (j : ℕ) → slice_index node.words j / 2 % 2 ≡ 0
no_dirty_word version m node keeps size words level two j = elim (cases_lt j (length node.words)) [
  | inl inside ↦
      let entry = entry_at m (32 * node.index + j) in
      let same : kept version entry ≡ entry = sym (kept_at version m.entries (32 * node.index + j)) ∙ ap (λ (t : Mapping). slice_index_or t.entries (32 * node.index + j) None) keeps in
      ap (λ (word : ℕ). word / 2 % 2) (words j (omega (arith, inside, size)) ∙ ap (λ l. word_at m l node.index j) level)
      ∙ clean_word entry (subst (λ (v : Version). kept v entry ≡ entry) two same)
  | inr past ↦ ap (λ (word : ℕ). word / 2 % 2) (get_or_past node.words j 0 past)
]

-- metadata of a version have each node of a mapping, where its words say all of the mapping's entries
pub has_kept : (version : Version) (sector : List ℕ) (m : Mapping) (node : Node) → kept_tree version m ≡ m → SpellsNode sector node → HasWordsOf m node → node.dirty ≡ false → IsOfVersion version node
has_kept version sector m node keeps spelled words mapping = record {
  first = λ e. mapping;
  leaf = λ e level j. record { leaf = (node.spelled j).leaf mapping level; no_dirty_bit = λ two. no_dirty_word version m node keeps spelled.words.size words level two j };
}

-- ---- the first version

-- a root of it names no dirty bits
pub first_no_bits : (root : Root) → root.version ≡ One → root.top_dirty ≡ None
first_no_bits root one = by root.top_dirty refl
  where
    by : (top : Option Place) → root.top_dirty ≡ top → top ≡ None
    by None e = refl
    by (Some place) e =
        let two = (root.dirty_clean place e).0 in
        let same : ◌≡◌ {A = ℕ} 1 2 = ap version_number (sym one) ∙ two in
        absurd (omega (arith, same))
