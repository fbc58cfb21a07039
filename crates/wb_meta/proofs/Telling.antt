-- Nodes of a root's version that a reading was told: the words of that version say all of the entries that were read.
use Rattle.std.proofs.Common.{◌≡◌, ◌∙◌, sym, ap, subst, refl, ℕ, Bool, true, false, cond, nat_eq, List, [], ◌∷◌, ◌++◌, Option, Some, None, Ok, map}
use Rattle.std.specs.Prelude.{IfSome}
use Rattle.std.proofs.lemmas.Bool.{eqb-true, false≢true}
use Rattle.wb_types.specs.declared.entry.Entry.{Entry}
use Rattle.wb_types.specs.declared.version.Version.{Version}
use Rattle.wb_types.proofs.Truth.{yes}
use Rattle.wb_format.specs.declared.node.Node.{Node}
use Rattle.wb_format.specs.declared.root.Root.{Root}
use Rattle.wb_format.specs.Layout.{IsOfVersion}
use Rattle.wb_format.specs.NodeWords.{kept}
use Rattle.wb_tree.specs.declared.placed.PlacedNode.{PlacedNode}
use Rattle.wb_tree.specs.Mapping.{Mapping}
use Rattle.wb_tree.specs.Images.{kept_tree}
use Rattle.wb_tree.specs.Loading.{AgreeAt}
use Rattle.wb_tree.specs.Reading.{Found, Nodes, is_reached, tree_read}
use Rattle.wb_dirty.specs.ImageLoading.{ImageLoading, mapping_outcome}
use Rattle.wb_meta.specs.Reads.{WasTold}
use Rattle.wb_meta.proofs.Framing.{reached_before, reached_last}
use Rattle.wb_meta.proofs.Keeping.{read_kept}
use Rattle.wb_meta.proofs.Loaded.{with_node}
use Rattle.wb_meta.proofs.Versions.{version_of}

-- nothing was told
pub told_none : (root : Root) (l : ImageLoading) → ((nodes : Nodes) → mapping_outcome l nodes ≡ tree_read root nodes) → WasTold root l
told_none root l begun = record {
  nodes = λ _. None;
  version_has = λ place node e. absurd cc;
  mapping = λ others agree. begun others;
}

has_version : (version : Version) (is : Option Node) (node : Node) → IfSome is (IsOfVersion version) → is ≡ Some node → IsOfVersion version node
has_version version None node has e = absurd cc
has_version version (Some other) node has e = let same : other ≡ node = cc in subst (IsOfVersion version) same has

-- one node more was told
pub told_more : (root : Root) (l more : ImageLoading) (wanted : PlacedNode) (is : Option Node) → WasTold root l → is_reached wanted.place.0 l.found.reached ≡ false → IfSome is (IsOfVersion root.version)
    → more.found.reached ≡ l.found.reached ++ wanted ∷ [] → ((nodes : Nodes) → nodes wanted.place.0 ≡ is → mapping_outcome more nodes ≡ mapping_outcome l nodes) → WasTold root more
told_more root l more wanted is told unread has reached goes = record {
  nodes = with_node told.nodes wanted.place.0 is;
  version_has = λ place node e. of_version place node (nat_eq wanted.place.0 place) e;
  mapping = λ others agree.
      let all = subst (λ (nodes : List PlacedNode). AgreeAt nodes (with_node told.nodes wanted.place.0 is) others) reached agree in
      let here = all wanted.place.0 (reached_last wanted l.found.reached) in
      let last : others wanted.place.0 ≡ is = sym here ∙ ap (λ (test : Bool). cond test is (told.nodes wanted.place.0)) (yes wanted.place.0) in
      goes others last ∙ told.mapping others (λ place r. before place r (nat_eq wanted.place.0 place) refl ∙ all place (reached_before place l.found.reached wanted r));
}
  where
    of_version : (place : ℕ) (node : Node) (test : Bool) → cond test is (told.nodes place) ≡ Some node → IsOfVersion root.version node
    of_version place node true e = has_version root.version is node has e
    of_version place node false e = told.version_has place node e

    before : (place : ℕ) → is_reached place l.found.reached ≡ true → (test : Bool) → nat_eq wanted.place.0 place ≡ test → told.nodes place ≡ with_node told.nodes wanted.place.0 is place
    before place r true e = absurd (false≢true (sym unread ∙ (ap (λ n. is_reached n l.found.reached) (eqb-true wanted.place.0 place e) ∙ r)))
    before place r false e = ap (λ (test : Bool). cond test is (told.nodes place)) (sym e)

-- where all was told, the words of the version say all of the tree's entries
pub kept_read : (root : Root) (l : ImageLoading) (told : WasTold root l) (tree : Mapping) (mapping : Found) → tree.entries ≡ mapping.entries → mapping_outcome l told.nodes ≡ Ok mapping → kept_tree root.geometry.version tree ≡ tree
kept_read root l told tree mapping entries read =
    let all : tree_read root told.nodes ≡ Ok mapping = sym (told.mapping told.nodes (λ place r. refl)) ∙ read in
    let same : map (kept root.version) mapping.entries ≡ mapping.entries = read_kept root.version root told.nodes told.version_has mapping all in
    let is : map (kept root.version) tree.entries ≡ tree.entries = subst (λ (es : List (Option Entry)). map (kept root.version) es ≡ es) (sym entries) same in
    let keeps : kept_tree root.version tree ≡ tree = ap (λ (es : List (Option Entry)). record { entries = es; known = tree.known }) is in
    subst (λ (v : Version). kept_tree v tree ≡ tree) (version_of root root.geometry refl) keeps
