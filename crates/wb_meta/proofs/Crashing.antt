-- What the sectors represent after a crash within a commit.
use Rattle.std.proofs.Common.{◌≡◌, ◌<◌, ◌%◌, ◌⊎◌, ℕ, true, false, List, Some, None, length, refl, sym, ◌∙◌, ap, arith, subst, inl, inr}
use Rattle.std.specs.Prelude.{Contains}
use Rattle.std.specs.List.{slice_get}
use Rattle.std.proofs.lemmas.Option.{slice_get_cases}
use Rattle.wb_disk.specs.Device.{Content, History, entries}
use Rattle.wb_tree.specs.Reading.{ReadsAs, is_reached}
use Rattle.wb_tree.specs.declared.image.Image.{Image}
use Rattle.wb_meta.specs.declared.commit_steps.CommitSteps.{CommitSteps}
use Rattle.wb_meta.specs.declared.commit_steps.CommitSteps.TheVariants.{NodesWritten, NodesSynced, RootWritten, Done}
use Rattle.wb_disk.specs.Crashes.{MayLeave, AfterEveryCrash}
use Rattle.wb_meta.specs.Representing.{Represents, RepresentsOr, Stored}
use Rattle.wb_meta.specs.Placing.{HavePlaces, IsNodeHere, IsRootHere, IsOfImage, FitsNodes, FitsRoot, MayCommit}
use Rattle.wb_meta.specs.Commits.{WasThere, Grew, MayHaveRoot, SyncedRoot, CommitHasCome, HasFailed, IsBeforeRoot}
use Rattle.wb_types.proofs.Lists.{element_beside, Contains-first}
use Rattle.wb_meta.proofs.Lists.{Chosen, chosen}
use Rattle.wb_meta.proofs.Histories.{Every-left}

-- a content that was there before, which is this one unless this one is new
record Shade (before : List History) (by : ℕ → Content → Type 0) (at : ℕ) (content shade : Content) : Type 0 where
  pub was : WasThere before at shade
  pub same : (shade ≡ content) ⊎ by at content

there_alone : (before : List History) (at : ℕ) (h : History) → slice_get before at ≡ Some h → WasThere before at h.first
there_alone before at h e g f =
    let same : h ≡ g = (let both : Some h ≡ Some g = sym e ∙ f in cc) in
    let P : History → Type 0 = λ x. Contains (entries x) h.first in
    subst P same (Contains-first h.first h.later)

-- sectors that a crash might have left before, and that differ only where there is something new
shaded : (before : List History) (by : ℕ → Content → Type 0) (sectors : List Content) → length sectors ≡ length before
    → ((at : ℕ) (c : Content) → slice_get sectors at ≡ Some c → WasThere before at c ⊎ by at c) → Chosen (Shade before by) sectors
shaded before by sectors size each = chosen (Shade before by) sectors (λ at c e. elim (each at c e) [
  | inl was ↦ (c, record { was = was; same = inl refl })
  | inr new ↦
      let w = element_beside sectors before at c (sym size) e in
      (w.0.first, record { was = there_alone before at w.0 w.1; same = inr new })
])

shade_left : (before : List History) (by : ℕ → Content → Type 0) (sectors : List Content) → length sectors ≡ length before → (shade : Chosen (Shade before by) sectors) → MayLeave before shade.list
shade_left before by sectors size shade = record {
  size = shade.size ∙ size;
  each = λ at h c e f.
      let w = element_beside shade.list sectors at c (sym shade.size) f in
      (shade.each at w.0 c w.1 f).was h e;
}

-- what stands in a slot of the shade stands in that of the sectors, and the other way round
slot_stored : (image : Image) (sectors_of : ℕ) (before : List History) (sectors : List Content) (shade : Chosen (Shade before (IsNodeHere image.nodes.items)) sectors) → HavePlaces image.nodes.items sectors_of
    → (at : ℕ) (c : Content) → at < 2 → slice_get shade.list at ≡ Some c → slice_get sectors at ≡ Some c
slot_stored image sectors_of before sectors shade places at c slot e =
    let w = element_beside shade.list sectors at c (sym shade.size) e in
    elim (shade.each at w.0 c w.1 e).same [
      | inl same ↦ w.1 ∙ ap (λ x. Some x) (sym same)
      | inr new ↦ absurd (omega (arith, slot, new.here, places.from new.number new.node new.listed))
    ]

slot_was : (image : Image) (sectors_of : ℕ) (before : List History) (sectors : List Content) (shade : Chosen (Shade before (IsNodeHere image.nodes.items)) sectors) → HavePlaces image.nodes.items sectors_of
    → (at : ℕ) (c : Content) → at < 2 → slice_get sectors at ≡ Some c → slice_get shade.list at ≡ Some c
slot_was image sectors_of before sectors shade places at c slot e =
    let w = element_beside sectors shade.list at c shade.size e in
    elim (shade.each at c w.0 e w.1).same [
      | inl same ↦ w.1 ∙ ap (λ x. Some x) same
      | inr new ↦ absurd (omega (arith, slot, new.here, places.from new.number new.node new.listed))
    ]

-- with nothing new but nodes, the old mapping is there
old_left : (image : Image) (sectors_of : ℕ) (before : List History) (old : Stored) (New : List Content → Type 0) (sectors : List Content) → HavePlaces image.nodes.items sectors_of → MayCommit image before old New
    → length sectors ≡ length before → ((at : ℕ) (c : Content) → slice_get sectors at ≡ Some c → WasThere before at c ⊎ IsNodeHere image.nodes.items at c) → Represents sectors old.root old.found
old_left image sectors_of before old New sectors places may size each =
    let by = IsNodeHere image.nodes.items in
    let shade = shaded before by sectors size each in
    let held = may.represents shade.list (shade_left before by sectors size shade) in
    record {
      newest = record {
        slot = held.newest.slot;
        sector = held.newest.sector;
        there = slot_stored image sectors_of before sectors shade places held.newest.slot held.newest.sector (omega (arith, held.newest.valid.parity)) held.newest.there;
        valid = held.newest.valid;
        newest = λ other another older off e valid.
            held.newest.newest other another older off (slot_was image sectors_of before sectors shade places other another (omega (arith, valid.parity)) e) valid;
      };
      nodes = held.nodes;
      reached = λ place r.
          let there = held.reached place r in
          let w = element_beside shade.list sectors place there.sector (sym shade.size) there.there in
          let P : Content → Type 0 = λ x. ReadsAs old.root.version x (held.nodes place) in
          elim (shade.each place w.0 there.sector w.1 there.there).same [
            | inl same ↦ record { sector = w.0; there = w.1; reads = subst P same there.reads }
            | inr new ↦ absurd (
                let out : is_reached place old.found.reached ≡ false = ap (λ n. is_reached n old.found.reached) (sym new.here) ∙ may.outside new.number new.node new.listed in
                let both : true ≡ false = sym r ∙ out in
                cc)
          ];
      reads = held.reads;
      mapping = held.mapping;
    }

-- with all nodes and the root, the image's mapping is there
new_left : (image : Image) (before : List History) (old : Stored) (New : List Content → Type 0) (sectors : List Content) → MayCommit image before old New
    → length sectors ≡ length before → ((at : ℕ) (c : Content) → slice_get sectors at ≡ Some c → WasThere before at c ⊎ IsOfImage image at c)
    → ((at : ℕ) (c : Content) → slice_get sectors at ≡ Some c → FitsNodes image.nodes.items (length image.nodes.items) at c)
    → ((at : ℕ) (c : Content) → slice_get sectors at ≡ Some c → FitsRoot image.root at c) → New sectors
new_left image before old New sectors may size each nodes in_slot =
    let by = IsOfImage image in
    let shade = shaded before by sectors size each in
    may.new shade.list sectors (shade_left before by sectors size shade) (record {
      size = sym shade.size;
      nodes = nodes;
      root = in_slot;
      others = λ at c e.
          let w = element_beside sectors shade.list at c shade.size e in
          elim (shade.each at c w.0 e w.1).same [
            | inl same ↦ inl (w.1 ∙ ap (λ x. Some x) same)
            | inr new ↦ inr new
          ];
    })

same_content : (sectors : List Content) (i j : ℕ) (c d : Content) → slice_get sectors i ≡ Some c → slice_get sectors j ≡ Some d → i ≡ j → c ≡ d
same_content sectors i j c d e f same =
    let both : Some c ≡ Some d = sym e ∙ ap (λ n. slice_get sectors n) same ∙ f in
    cc

-- before the root was written
pub nodes_crash : (image : Image) (sectors_of : ℕ) (before now : List History) (old : Stored) (New : List Content → Type 0) → HavePlaces image.nodes.items sectors_of → MayCommit image before old New
    → Grew (IsNodeHere image.nodes.items) before now → AfterEveryCrash (λ sectors. Represents sectors old.root old.found) now
nodes_crash image sectors_of before now old New places may grew sectors left =
    old_left image sectors_of before old New sectors places may (left.size ∙ grew.size)
    (Every-left (λ at c. WasThere before at c ⊎ IsNodeHere image.nodes.items at c) now sectors grew.each left)

-- the root's slot is not there, or has this content
no_root : (image : Image) (before : List History) (sectors : List Content) → ((at : ℕ) (c : Content) → slice_get sectors at ≡ Some c → at ≡ image.root.generation % 2 → WasThere before at c)
    → ((at : ℕ) (c : Content) → slice_get sectors at ≡ Some c → WasThere before at c ⊎ IsOfImage image at c)
    → (at : ℕ) (c : Content) → slice_get sectors at ≡ Some c → WasThere before at c ⊎ IsNodeHere image.nodes.items at c
no_root image before sectors in_slot each at c e = elim (each at c e) [
  | inl was ↦ inl was
  | inr new ↦ elim new [
    | inl node ↦ inr node
    | inr here ↦ inl (in_slot at c e here.here)
  ]
]

-- when the root may have been written
pub root_crash : (image : Image) (sectors_of : ℕ) (before now : List History) (old : Stored) (New : List Content → Type 0) → HavePlaces image.nodes.items sectors_of → MayCommit image before old New
    → MayHaveRoot image before now → AfterEveryCrash (RepresentsOr old New) now
root_crash image sectors_of before now old New places may safe sectors left =
    let slot = image.root.generation % 2 in
    let size : length sectors ≡ length before = left.size ∙ safe.grew.size in
    let each = Every-left (λ at c. WasThere before at c ⊎ IsOfImage image at c) now sectors safe.grew.each left in
    let former = λ (in_slot : (at : ℕ) (c : Content) → slice_get sectors at ≡ Some c → at ≡ image.root.generation % 2 → WasThere before at c).
    old_left image sectors_of before old New sectors places may size (no_root image before sectors in_slot each) in
    elim (slice_get_cases sectors slot).1 [
      | inl w ↦ elim (each slot w.0 w.2) [
        | inl was ↦ inl (former (λ at c e here.
            let same : w.0 ≡ c = same_content sectors slot at w.0 c w.2 e (sym here) in
            let P : Content → Type 0 = λ x. WasThere before at x in
            let Q : ℕ → Type 0 = λ n. WasThere before n w.0 in
            subst P same (subst Q (sym here) was)))
        | inr new ↦ elim new [
          | inl node ↦ absurd (
              let low : slot < 2 = omega arith in
              omega (arith, low, node.here, places.from node.number node.node node.listed))
          | inr here ↦ inr (new_left image before old New sectors may size each
              (Every-left (FitsNodes image.nodes.items (length image.nodes.items)) now sectors safe.nodes left)
              (λ at c e is.
              let same : w.0 ≡ c = same_content sectors slot at w.0 c w.2 e (sym is) in
              let P : Content → Type 0 = λ x. IsRootHere image.root slot x in
              (subst P same here).spelled))
        ]
      ]
      | inr w ↦ inl (former (λ at c e here. absurd (
          let both : Some c ≡ slice_get sectors slot = sym e ∙ ap (λ n. slice_get sectors n) here in
          let none : Some c ≡ None = both ∙ w.1 in
          cc)))
    ]

-- when the root is safe
pub done_crash : (image : Image) (before now : List History) (old : Stored) (New : List Content → Type 0) → MayCommit image before old New
    → SyncedRoot image before now → AfterEveryCrash New now
done_crash image before now old New may done sectors left =
    new_left image before old New sectors may (left.size ∙ done.safe.grew.size)
    (Every-left (λ at c. WasThere before at c ⊎ IsOfImage image at c) now sectors done.safe.grew.each left)
    (Every-left (FitsNodes image.nodes.items (length image.nodes.items)) now sectors done.safe.nodes left)
    (Every-left (FitsRoot image.root) now sectors done.root left)

-- at any moment
pub come_crash : (image : Image) (sectors_of : ℕ) (before now : List History) (steps : CommitSteps) (old : Stored) (New : List Content → Type 0) → HavePlaces image.nodes.items sectors_of → MayCommit image before old New
    → CommitHasCome image before steps now → AfterEveryCrash (RepresentsOr old New) now
come_crash image sectors_of before now (NodesWritten count) old New places may come sectors left = inl (nodes_crash image sectors_of before now old New places may come.grew sectors left)
come_crash image sectors_of before now NodesSynced old New places may come sectors left = inl (nodes_crash image sectors_of before now old New places may come.grew sectors left)
come_crash image sectors_of before now RootWritten old New places may come sectors left = root_crash image sectors_of before now old New places may come.safe sectors left
come_crash image sectors_of before now Done old New places may come sectors left = root_crash image sectors_of before now old New places may come.safe sectors left

-- at any moment before the root is written
pub early_crash : (image : Image) (sectors_of : ℕ) (before now : List History) (steps : CommitSteps) (old : Stored) (New : List Content → Type 0) → HavePlaces image.nodes.items sectors_of → MayCommit image before old New
    → IsBeforeRoot steps → CommitHasCome image before steps now → AfterEveryCrash (λ sectors. Represents sectors old.root old.found) now
early_crash image sectors_of before now (NodesWritten count) old New places may early come = nodes_crash image sectors_of before now old New places may come.grew
early_crash image sectors_of before now NodesSynced old New places may early come = nodes_crash image sectors_of before now old New places may come.grew
early_crash image sectors_of before now RootWritten old New places may early come = absurd early
early_crash image sectors_of before now Done old New places may early come = absurd early

-- after a failure
pub failed_crash : (image : Image) (sectors_of : ℕ) (before now : List History) (steps : CommitSteps) (old : Stored) (New : List Content → Type 0) → HavePlaces image.nodes.items sectors_of → MayCommit image before old New
    → HasFailed image before steps now → AfterEveryCrash (RepresentsOr old New) now
failed_crash image sectors_of before now (NodesWritten count) old New places may failed sectors left = inl (nodes_crash image sectors_of before now old New places may failed sectors left)
failed_crash image sectors_of before now NodesSynced old New places may failed sectors left = root_crash image sectors_of before now old New places may failed sectors left
failed_crash image sectors_of before now RootWritten old New places may failed sectors left = root_crash image sectors_of before now old New places may failed sectors left
failed_crash image sectors_of before now Done old New places may failed sectors left = absurd failed
