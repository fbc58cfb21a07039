-- What each step of a commit leaves.
use Rattle.std.proofs.Common.{◌≡◌, ◌≢◌, ◌≤◌, ◌<◌, ◌+◌, ◌%◌, ℕ, List, Option, Some, None, length, refl, sym, ◌∙◌, ap, arith, subst, inl, inr}
use Rattle.std.specs.List.{slice_get}
use Rattle.std.proofs.lemmas.Option.{slice_get_cases}
use Rattle.wb_types.specs.declared.number.Place.{Place}
use Rattle.wb_disk.specs.Device.{Content, History, written, synced, PartlySynced}
use Rattle.wb_format.specs.declared.node.Node.{Node}
use Rattle.wb_format.specs.Layout.{SpellsNode, SpellsRoot}
use Rattle.wb_tree.specs.declared.image.Image.{Image}
use Rattle.wb_meta.specs.declared.commit_steps.CommitSteps.{CommitSteps}
use Rattle.wb_meta.specs.declared.commit_steps.CommitSteps.TheVariants.{NodesWritten, NodesSynced, RootWritten, Done}
use Rattle.wb_meta.specs.Steps.{Puts, MayPut, DoesStep, FailsStep, NodeOrSync, MayNodeOrSync, after_node, slot_of, steps_after}
use Rattle.wb_meta.specs.Placing.{HavePlaces, IsNodeHere, IsOfImage, FitsNodes, FitsRoot}
use Rattle.wb_meta.specs.Commits.{Newest, Grew, WroteNodes, SyncedNodes, MayHaveRoot, WroteRoot, SyncedRoot, CommitHasCome, HasFailed}
use Rattle.wb_meta.proofs.Histories.{Newest-every, Every-written, Newest-written, Every-synced, Every-partly, Grew-wider, Grew-written, Grew-synced, Grew-partly}

none_listed : (nodes : List (Place × Node)) (count : ℕ) → slice_get nodes count ≡ None → length nodes ≤ count
none_listed nodes count none = elim (slice_get_cases nodes count).1 [
  | inl there ↦ absurd (let both : Some there.0 ≡ None = sym there.2 ∙ none in cc)
  | inr past ↦ past.0
]

same_node : (nodes : List (Place × Node)) (i j : ℕ) (node other : Place × Node) → slice_get nodes i ≡ Some node → slice_get nodes j ≡ Some other → i ≡ j → node ≡ other
same_node nodes i j node other e f same =
    let both : Some node ≡ Some other = sym e ∙ ap (λ n. slice_get nodes n) same ∙ f in
    cc

Grew-node : (image : Image) (before now new : List History) (number : ℕ) (node : Place × Node) → slice_get image.nodes.items number ≡ Some node → Grew (IsNodeHere image.nodes.items) before now
    → Puts (λ content. SpellsNode content node.1) node.0.0 now new → Grew (IsNodeHere image.nodes.items) before new
Grew-node image before now new number node listed grew puts =
    let P : List History → Type 0 = λ d. Grew (IsNodeHere image.nodes.items) before d in
    subst P (sym puts.wrote) (Grew-written (IsNodeHere image.nodes.items) before now node.0.0 puts.content grew
    (record { number = number; node = node; listed = listed; here = refl; spelled = puts.spelled }))

-- a node was written
pub node_written : (image : Image) (sectors : ℕ) (before now new : List History) (count : ℕ) (node : Place × Node) → HavePlaces image.nodes.items sectors → slice_get image.nodes.items count ≡ Some node
    → WroteNodes image before count now → Puts (λ content. SpellsNode content node.1) node.0.0 now new → WroteNodes image before (count + 1) new
node_written image sectors before now new count node places listed so_far puts =
    let nodes = image.nodes.items in
    let P : List History → Type 0 = λ d. Newest (FitsNodes nodes (count + 1)) d in
    record {
      grew = Grew-node image before now new count node listed so_far.grew puts;
      nodes = subst P (sym puts.wrote) (Newest-written (FitsNodes nodes count) (FitsNodes nodes (count + 1)) now node.0.0 puts.content so_far.nodes
          (λ i c off fits j other b l here.
          let not_this : j ≢ count = λ e. off (sym here ∙ ap (λ (n : Place × Node). n.0.0) (same_node nodes j count other node l listed e)) in
          fits j other (omega (arith, not_this, b)) l here)
          (λ j other b l here.
          let this : other ≡ node = same_node nodes j count other node l listed (places.apart j count other node l listed here) in
          let Q : Place × Node → Type 0 = λ n. SpellsNode puts.content n.1 in
          subst Q (sym this) puts.spelled));
    }

pub node_failed : (image : Image) (before now new : List History) (count : ℕ) (node : Place × Node) → slice_get image.nodes.items count ≡ Some node
    → WroteNodes image before count now → MayPut (λ content. SpellsNode content node.1) node.0.0 now new → Grew (IsNodeHere image.nodes.items) before new
node_failed image before now new count node listed so_far may = elim may [
  | inl same ↦ let P : List History → Type 0 = λ d. Grew (IsNodeHere image.nodes.items) before d in subst P (sym same) so_far.grew
  | inr puts ↦ Grew-node image before now new count node listed so_far.grew puts
]

-- the nodes were synced
pub nodes_synced : (image : Image) (before now new : List History) (count : ℕ) → length image.nodes.items ≤ count → WroteNodes image before count now → new ≡ synced now → SyncedNodes image before new
nodes_synced image before now new count all so_far is =
    let nodes = image.nodes.items in
    let P : List History → Type 0 = λ d. SyncedNodes image before d in
    subst P (sym is) (record {
      grew = Grew-synced (IsNodeHere nodes) before now so_far.grew;
      nodes = Every-synced (FitsNodes nodes (length nodes)) now (λ at h e i node b l here. so_far.nodes at h e i node (omega (arith, all, b)) l here);
    })

pub nodes_unsynced : (image : Image) (before now new : List History) (count : ℕ) → WroteNodes image before count now → PartlySynced now new → Grew (IsNodeHere image.nodes.items) before new
nodes_unsynced image before now new count so_far partly = Grew-partly (IsNodeHere image.nodes.items) before now new so_far.grew partly

-- the nodes do not stand in a slot
FitsNodes-slot : (nodes : List (Place × Node)) (sectors at : ℕ) (content : Content) → HavePlaces nodes sectors → at < 2 → FitsNodes nodes (length nodes) at content
FitsNodes-slot nodes sectors at content places slot i node b l here = absurd (omega (arith, slot, here, places.from i node l))

MayHaveRoot-before : (image : Image) (before now : List History) → SyncedNodes image before now → MayHaveRoot image before now
MayHaveRoot-before image before now so_far = record {
  grew = Grew-wider (IsNodeHere image.nodes.items) (IsOfImage image) before now (λ at c h. inl h) so_far.grew;
  nodes = so_far.nodes;
}

MayHaveRoot-put : (image : Image) (sectors : ℕ) (before now : List History) (slot : ℕ) (content : Content) → HavePlaces image.nodes.items sectors → slot ≡ image.root.generation % 2 → SpellsRoot content image.root
    → SyncedNodes image before now → MayHaveRoot image before (written now slot content)
MayHaveRoot-put image sectors before now slot content places here spelled so_far =
    let nodes = image.nodes.items in
    record {
      grew = Grew-written (IsOfImage image) before now slot content (MayHaveRoot-before image before now so_far).grew (inr (record { here = here; spelled = spelled }));
      nodes = Every-written (FitsNodes nodes (length nodes)) now slot content so_far.nodes (FitsNodes-slot nodes sectors slot content places (omega (arith, here)));
    }

-- the root was written
pub root_written : (image : Image) (sectors : ℕ) (before now new : List History) (slot : ℕ) → HavePlaces image.nodes.items sectors → slot ≡ image.root.generation % 2
    → SyncedNodes image before now → Puts (λ content. SpellsRoot content image.root) slot now new → WroteRoot image before new
root_written image sectors before now new slot places here so_far puts =
    let P : List History → Type 0 = λ d. WroteRoot image before d in
    subst P (sym puts.wrote) (record {
      safe = MayHaveRoot-put image sectors before now slot puts.content places here puts.spelled so_far;
      root = Newest-written (λ i c. Unit {0}) (FitsRoot image.root) now slot puts.content (λ at h e. tt) (λ i c off was is. absurd (off (is ∙ sym here))) (λ is. puts.spelled);
    })

pub root_failed : (image : Image) (sectors : ℕ) (before now new : List History) (slot : ℕ) → HavePlaces image.nodes.items sectors → slot ≡ image.root.generation % 2
    → SyncedNodes image before now → MayPut (λ content. SpellsRoot content image.root) slot now new → MayHaveRoot image before new
root_failed image sectors before now new slot places here so_far may =
    let P : List History → Type 0 = λ d. MayHaveRoot image before d in
    elim may [
      | inl same ↦ subst P (sym same) (MayHaveRoot-before image before now so_far)
      | inr puts ↦ subst P (sym puts.wrote) (MayHaveRoot-put image sectors before now slot puts.content places here puts.spelled so_far)
    ]

-- the root was synced
pub root_synced : (image : Image) (before now new : List History) → WroteRoot image before now → new ≡ synced now → SyncedRoot image before new
root_synced image before now new so_far is =
    let nodes = image.nodes.items in
    let P : List History → Type 0 = λ d. SyncedRoot image before d in
    subst P (sym is) (record {
      safe = record {
        grew = Grew-synced (IsOfImage image) before now so_far.safe.grew;
        nodes = Every-synced (FitsNodes nodes (length nodes)) now (Newest-every (FitsNodes nodes (length nodes)) now so_far.safe.nodes);
      };
      root = Every-synced (FitsRoot image.root) now so_far.root;
    })

pub root_unsynced : (image : Image) (before now new : List History) → WroteRoot image before now → PartlySynced now new → MayHaveRoot image before new
root_unsynced image before now new so_far partly =
    let nodes = image.nodes.items in
    record {
      grew = Grew-partly (IsOfImage image) before now new so_far.safe.grew partly;
      nodes = Every-partly (FitsNodes nodes (length nodes)) now new so_far.safe.nodes partly;
    }

-- ---- any step

node_goes_on : (image : Image) (sectors : ℕ) (before now new : List History) (count : ℕ) (o : Option (Place × Node)) → slice_get image.nodes.items count ≡ o → HavePlaces image.nodes.items sectors → WroteNodes image before count now
    → NodeOrSync o now new → CommitHasCome image before (after_node o count) new
node_goes_on image sectors before now new count (Some node) listed places come does = node_written image sectors before now new count node places listed come does
node_goes_on image sectors before now new count None listed places come does = nodes_synced image before now new count (none_listed image.nodes.items count listed) come does

pub goes_on : (image : Image) (sectors : ℕ) (before now new : List History) (steps : CommitSteps) → HavePlaces image.nodes.items sectors → CommitHasCome image before steps now → DoesStep image steps now new → CommitHasCome image before (steps_after image steps) new
goes_on image sectors before now new (NodesWritten count) places come does = node_goes_on image sectors before now new count (slice_get image.nodes.items count) refl places come does
goes_on image sectors before now new NodesSynced places come does = root_written image sectors before now new (slot_of image.root).0 places refl come does
goes_on image sectors before now new RootWritten places come does = root_synced image before now new come does
goes_on image sectors before now new Done places come does = subst (λ (d : List History). SyncedRoot image before d) (sym does) come

node_fails : (image : Image) (before now new : List History) (count : ℕ) (o : Option (Place × Node)) → slice_get image.nodes.items count ≡ o → WroteNodes image before count now → MayNodeOrSync o now new → Grew (IsNodeHere image.nodes.items) before new
node_fails image before now new count (Some node) listed come fails = node_failed image before now new count node listed come fails
node_fails image before now new count None listed come fails = nodes_unsynced image before now new count come fails

pub fails : (image : Image) (sectors : ℕ) (before now new : List History) (steps : CommitSteps) → HavePlaces image.nodes.items sectors → CommitHasCome image before steps now → FailsStep image steps now new → HasFailed image before steps new
fails image sectors before now new (NodesWritten count) places come failed = node_fails image before now new count (slice_get image.nodes.items count) refl come failed
fails image sectors before now new NodesSynced places come failed = root_failed image sectors before now new (slot_of image.root).0 places refl come failed
fails image sectors before now new RootWritten places come failed = root_unsynced image before now new come failed
fails image sectors before now new Done places come failed = absurd failed
