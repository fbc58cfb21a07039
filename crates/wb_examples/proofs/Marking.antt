-- The commit of a suspend over a cache of one block, whose copy is dirty or clean: its image has one node, in which the block's entry has that dirty bit.
use Rattle.std.proofs.Common.{◌≡◌, ◌∙◌, ◌≤◌, ◌<◌, ◌+◌, ◌*◌, ◌^◌, ℕ, zero, suc, true, List, [], ◌∷◌, Some, None, refl, sym, ap, subst, arith, replicate, take, slice_index, slice_index_or, Bool, false}
use Rattle.std.proofs.lemmas.List.Elements.{All-cons, All-nil}
use Rattle.wb_types.specs.Limits.{depth_of, node_count, nodes_up_to}
use Rattle.wb_types.specs.declared.entry.Entry.{Entry}
use Rattle.wb_types.specs.declared.geometry.Geometry.{Geometry}
use Rattle.wb_types.specs.declared.version.Version.TheVariants.{One}
use Rattle.wb_examples.proofs.Beginning.{no_top}
use Rattle.wb_types.specs.declared.number.Place.{Place}
use Rattle.wb_types.specs.declared.mode.Mode.TheVariants.{Writeback}
use Rattle.wb_format.specs.declared.node.Node.{Node}
use Rattle.wb_format.specs.declared.root.Root.{Root}
use Rattle.wb_format.specs.Sizes.{IsTop}
use Rattle.wb_format.specs.NodeWords.{IsLeafWord, entry_word}
use Rattle.wb_format.proofs.WordLemmas.{IsWord-everywhere}
use Rattle.wb_format.proofs.Numbers.{zeros_all}
use Rattle.wb_tree.specs.declared.image.Image.{Image}
use Rattle.wb_tree.specs.declared.placed.PlacedNode.{PlacedNode}
use Rattle.wb_tree.specs.Mapping.{Mapping, IsMapping, IsSound, AreInside, changed, each_from, entry_at, exists, nodes_below, place_of}
use Rattle.wb_tree.specs.Images.{ImagePlan, IsImage, word_at}
use Rattle.wb_tree.specs.Planning.{planned, levels, IsWritten, AreWritten}
use Rattle.wb_tree.proofs.Branching.Edits.{changed-edit as changed_edit, changed-sound}
use Rattle.wb_tree.proofs.Images.Imaging.{image-is, used-places}
use Rattle.wb_tree.proofs.Images.Planned.{CanPlace, planned-comes, planned-complete, planned-inside, planned-more, planned-sound, written_is}
use Rattle.wb_tree.proofs.Images.PlanWords.{IsLeafWord-zero}
use Rattle.wb_meta.specs.declared.commit_steps.CommitSteps.TheVariants.{NodesWritten}
use Rattle.wb_meta.proofs.Imaging.{have_places}
use Rattle.wb_meta.proofs.CleanImaging.{image_places}
use Rattle.wb_desk.specs.Desks.{DeskState, DeskInvariant}
use Rattle.wb_desk.specs.Commits.{MayBegin, next_plan}
use Rattle.wb_desk.specs.Marks.{AreMarked}
use Rattle.wb_desk.proofs.Committing.{free_for, has_begun}
use Rattle.wb_devices.specs.declared.running.RunningCommit.{RunningCommit}
use Rattle.wb_tasks.specs.declared.step.Got.TheVariants.{Began}
use denote.RawPtr.{null_ptr}
use Rattle.wb_promise.specs.Happenings.{Commits, DoesBegin, IsWholeNode, most_for}
use Rattle.wb_runs.proofs.Metadata.{unknowing}
use Rattle.wb_examples.specs.Possible.{first_block}
use Rattle.wb_examples.proofs.Desks.{Setting, geometry_of, stood, stood_sound}
use Rattle.wb_examples.proofs.Scenes.{Tiny, formatted_of, setting}

-- ---- the tree

abbrev pub seen_entry : Bool → Entry
seen_entry dirty = record { origin = first_block; dirty = dirty; hint = 0 }

-- its one node, which is a leaf
abbrev pub leaf_place : Place
leaf_place = record { 0 = 2 }

abbrev pub leaf : PlacedNode
leaf = record { level = 1; index = 0; place = leaf_place }

-- the tree with the dirty bit, before its node stands anywhere and then
abbrev pub marked_tree : Bool → Mapping
marked_tree dirty = record { entries = Some (seen_entry dirty) ∷ []; known = [] }

abbrev pub stored_tree : Bool → Mapping
stored_tree dirty = record { entries = Some (seen_entry dirty) ∷ []; known = leaf ∷ [] }

pub stored_mapping : (dirty : Bool) → IsMapping 1 1 (stored_tree dirty).entries
stored_mapping dirty = record { size = refl; within = within; once = once }
  where
    within : (block : ℕ) (entry : Entry) → slice_index_or (Some (seen_entry dirty) ∷ []) block None ≡ Some entry → (entry.origin.0 < 1) × (entry.hint ≤ 16)
    within zero entry e = let same : seen_entry dirty ≡ entry = cc in subst (λ (x : Entry). (x.origin.0 < 1) × (x.hint ≤ 16)) same (omega arith, omega arith)
    within (suc block) entry e = absurd (cc)

    once : (block other : ℕ) (entry same : Entry) → slice_index_or (Some (seen_entry dirty) ∷ []) block None ≡ Some entry → slice_index_or (Some (seen_entry dirty) ∷ []) other None ≡ Some same → entry.origin ≡ same.origin → block ≡ other
    once zero zero entry same e f h = refl
    once zero (suc other) entry same e f h = absurd (cc)
    once (suc block) other entry same e f h = absurd (cc)

-- ---- its words

abbrev pub leaf_words : Bool → List ℕ
leaf_words dirty = entry_word (Some (seen_entry dirty)) ∷ replicate 31 0

words_are : (dirty : Bool) (j : ℕ) → slice_index (leaf_words dirty) j ≡ word_at (stored_tree dirty) 1 0 j
words_are dirty zero = refl
words_are dirty (suc j) = zeros_all 31 j ∙ sym (let same : 32 * 0 + suc j ≡ suc j = omega arith in ap (λ (k : ℕ). entry_word (entry_at (stored_tree dirty) k)) same)

pub leaf_word : (dirty : Bool) (k : ℕ) → IsLeafWord (slice_index (leaf_words dirty) k)
leaf_word true zero = record { present = λ n. refl; bits_2_and_3 = refl; hint = omega arith; bits_9_to_15 = refl; bits_from_36 = refl }
leaf_word false zero = record { present = λ n. refl; bits_2_and_3 = refl; hint = omega arith; bits_9_to_15 = refl; bits_from_36 = refl }
leaf_word dirty (suc k) = subst IsLeafWord (sym (zeros_all 31 k)) IsLeafWord-zero

abbrev pub leaf_node : Bool → ℕ → Node
leaf_node dirty generation = record {
  generation = generation;
  dirty = false;
  level = 1;
  index = 0;
  words = leaf_words dirty;
  level_from = omega arith;
  level_to = omega arith;
  dirty_to = λ e. absurd (cc);
  spelled = λ j. (IsWord-everywhere One false 1 (leaf_words dirty) (λ k below. record { any = record { leaf = λ mapping e. leaf_word dirty k; inner = λ o. absurd (o refl) }; leaf = λ mapping e. record { leaf = leaf_word dirty k; no_dirty_bit = λ two. absurd (cc) } }) j).any;
}

pub leaf_whole : (dirty : Bool) (generation : ℕ) → generation < 2 ^ 64 → IsWholeNode (leaf_node dirty generation)
leaf_whole dirty generation fits = record { words = refl; each_word = small; index = omega arith; generation = fits }
  where
    first_small : (b : Bool) → entry_word (Some (seen_entry b)) < 2 ^ 64
    first_small true = omega arith
    first_small false = omega arith

    small : (j : ℕ) → slice_index (leaf_words dirty) j < 2 ^ 64
    small zero = first_small dirty
    small (suc j) = let none = zeros_all 31 j in omega (arith, none)

pub one_node : node_count 1 ≡ 1
unfolding node_count depth_of nodes_up_to
one_node = refl

pub one_level : depth_of 1 ≡ 1
unfolding depth_of
one_level = refl

-- the tree has no other node
pub none_changed : (dirty : Bool) → changed (stored_tree dirty) (depth_of 1) ≡ []
unfolding depth_of exists nodes_below each_from
none_changed dirty = refl

-- ---- the image

module _ (P A : Type 0) (t : Tiny P A) where
  abbrev pub s : Setting P 0 Writeback
  s = setting P A 0 Writeback (formatted_of t)

  abbrev pub geometry : Geometry
  geometry = geometry_of 0 s.sizes

  abbrev pub stood0 : DeskState P
  stood0 = stood P 0 Writeback s

  pub roomy : leaf_place.0 < t.meta_sectors
  roomy = omega (arith, t.within.meta_from, one_node)

  pub top_inside : IsTop t.meta_sectors (Some leaf_place)
  top_inside place e = let same : leaf_place ≡ place = cc in subst (λ (p : Place). (2 ≤ p.0) × (p.0 < t.meta_sectors)) same (omega arith, roomy)

  module _ (dirty : Bool) where
    abbrev pub plan : ImagePlan
    plan = next_plan stood0 (marked_tree dirty) true

    abbrev pub root : Root
    root = record {
      generation = s.generation + 1;
      version = One;
      clean = true;
      geometry = geometry;
      top = Some leaf_place;
      top_dirty = None;
      same_version = refl;
      top_inside = top_inside;
      dirty_inside = no_top t.meta_sectors;
      dirty_clean = λ place e. absurd (cc);
    }

    abbrev pub nodes : List (Place × Node)
    nodes = (leaf_place, leaf_node dirty (s.generation + 1)) ∷ []

    abbrev pub image : Image
    image = record { root = root; nodes = record { ptr = null_ptr; len = 1; cap = 1; alloc = t.global; items = nodes; ok = (refl, omega arith); small = omega arith } }

    marks : AreMarked (λ (b : ℕ). 0) (dirty ∷ []) stood0.tree (marked_tree dirty)
    marks = record {
      entries = refl;
      edited = (changed_edit stood0.tree 0 (Some (seen_entry dirty)) (stood_sound P 0 Writeback s)).edited;
      stays = λ level index same. refl;
      sound = changed-sound stood0.tree 0 (Some (seen_entry dirty)) (stood_sound P 0 Writeback s);
    }

    free_is : plan.free ≡ leaf_place ∷ []
    unfolding depth_of node_count nodes_up_to exists nodes_below each_from
    free_is = refl

    changed_is : changed (marked_tree dirty) (levels (marked_tree dirty)) ≡ record { level = 1; index = 0 } ∷ []
    unfolding depth_of exists nodes_below each_from
    changed_is = refl

    planned_is : planned (marked_tree dirty) plan.free ≡ (stored_tree dirty)
    unfolding planned depth_of node_count nodes_up_to exists nodes_below each_from
    planned_is = refl

    pub top_is : root.top ≡ place_of (stored_tree dirty) (depth_of 1) 0
    unfolding depth_of
    top_is = refl

    module _ (kept : DeskInvariant unknowing stood0) where
      pub can : CanPlace (marked_tree dirty) geometry plan.free
      can = record { size = refl; sound = marks.sound; once = tt; inside = λ place at. absurd (let h = at.known in cc); are = free_for unknowing stood0 true kept refl (λ e. omega arith) (marked_tree dirty) marks.edited refl }

      written : AreWritten One (stored_tree dirty) plan.generation plan.free nodes
      written = record {
        places = sym (ap (λ (ps : List Place). take 1 ps) free_is);
        each = All-cons (IsWritten One (stored_tree dirty) plan.generation) (leaf_place, leaf_node dirty (s.generation + 1)) [] (record { stands = refl; written_in = refl; mapping = refl; words = λ j below. words_are dirty j }) (All-nil _);
      }

      pub image_is : IsImage (marked_tree dirty) (stored_tree dirty) plan image
      image_is =
          let n = planned (marked_tree dirty) plan.free in
          let complete = planned-complete (marked_tree dirty) geometry plan.free can in
          let named = sym changed_is in
          let there : AreWritten One n plan.generation plan.free nodes = subst (λ (m : Mapping). AreWritten One m plan.generation plan.free nodes) (sym planned_is) written in
          subst (λ (m : Mapping). IsImage (marked_tree dirty) m plan image) planned_is (
          image-is (marked_tree dirty) n geometry plan.generation true plan.free image (written_is (marked_tree dirty) geometry plan.generation plan.free nodes can named there) complete.all
          (used-places n 1 (planned-sound (marked_tree dirty) geometry plan.free can) complete.once complete.few) (planned-comes (marked_tree dirty) plan.free nodes named there.places)
          (planned-more One (marked_tree dirty) plan.generation plan.free nodes named there) refl refl refl (top_is ∙ ap (λ (m : Mapping). place_of m (depth_of 1) 0) (sym planned_is)) refl)

      stored_sound : IsSound (stored_tree dirty)
      stored_sound = subst IsSound planned_is (planned-sound (marked_tree dirty) geometry plan.free can)

      stored_inside : AreInside t.meta_sectors (stored_tree dirty)
      stored_inside = subst (λ (m : Mapping). AreInside t.meta_sectors m) planned_is (planned-inside (marked_tree dirty) geometry plan.free can)

      abbrev pub commit : RunningCommit
      commit = record { image = image; steps = NodesWritten 0; placed = have_places (marked_tree dirty) (stored_tree dirty) plan image can.are image_is }

      -- it begins, once the block was seen dirty
      pub begins : MayBegin stood0 → DoesBegin {P = P} {A = A} (Some (dirty ∷ [])) (most_for geometry true) stood0 (Began 1) (Commits commit (stored_tree dirty))
      begins may = (
        omega (arith, one_node),
        refl,
        refl,
        (
          (λ policy block. 0),
          has_begun unknowing (λ (bits : List Bool). bits) stood0 (λ policy block. 0) (Some (dirty ∷ [])) (stored_tree dirty) plan.generation image kept may refl (λ e. omega arith) image_places ((marked_tree dirty), marks, image_is)
              (stored_mapping dirty) stored_sound stored_inside,
        ),
        All-cons (λ (n : Place × Node). IsWholeNode n.1) (leaf_place, leaf_node dirty (s.generation + 1)) [] (leaf_whole dirty (s.generation + 1) may.next) (All-nil _),
      )
