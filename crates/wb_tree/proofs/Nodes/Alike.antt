-- Trees with the same entries of which the same nodes are known, in whatever order they are kept.
use Rattle.std.proofs.Common.{◌≡◌, ◌≤◌, ◌+◌, ◌*◌, ◌∙◌, sym, ap, subst, refl, ℕ, zero, suc, List, [], ◌∷◌, Option, Some, None, length, map}
use Rattle.std.specs.Prelude.{IsSome, slice_index_or}
use Rattle.std.proofs.lemmas.List.Elements.{All-weaker}
use Rattle.wb_types.specs.Limits.{depth_of}
use Rattle.wb_types.specs.declared.entry.Entry.{Entry}
use Rattle.wb_types.specs.declared.number.Place.{Place}
use Rattle.wb_types.specs.declared.version.Version.{Version}
use Rattle.wb_format.specs.NodeWords.{entry_word, kept}
use Rattle.wb_format.specs.declared.node.Node.{Node}
use Rattle.wb_format.specs.declared.root.Root.{Root}
use Rattle.wb_tree.specs.declared.image.Image.{Image}
use Rattle.wb_tree.specs.Mapping.{Mapping, NodeName, IsSound, IsPlaceOf, AreInside, exists, nodes_of, changed, changed_of, place_of, used_places}
use Rattle.wb_tree.specs.Images.{AreUsed, HasWordsOf, ImagePlan, IsImage, kept_tree, levels_of, place_word, word_at}
use Rattle.wb_tree.specs.Reading.{Found}
use Rattle.wb_tree.specs.Loaded.{IsLoaded}

pub record AreAlike (m n : Mapping) : Type 0 where
  pub entries : n.entries ≡ m.entries
  pub places : (level index : ℕ) → place_of n level index ≡ place_of m level index

pub sound-alike : (m n : Mapping) → AreAlike m n → IsSound m → IsSound n
sound-alike m n alike sound = record {
  known_level = λ level index place h. subst (λ (es : List (Option Entry)). (1 ≤ level) × (level ≤ depth_of (length es))) (sym alike.entries) (sound.known_level level index place (sym (alike.places level index) ∙ h));
  known_exist = λ level index place h. ap (λ (es : List (Option Entry)). exists es level index) alike.entries ∙ sound.known_exist level index place (sym (alike.places level index) ∙ h);
  known_below = λ level index child place from h below there.
      subst IsSome (sym (alike.places level child))
      (sound.known_below level index child place from (sym (alike.places (level + 1) index) ∙ h) below (ap (λ (es : List (Option Entry)). exists es level child) (sym alike.entries) ∙ there));
  apart = λ level index level' index' place h h'. sound.apart level index level' index' place (sym (alike.places level index) ∙ h) (sym (alike.places level' index') ∙ h');
}

there-alike : (m n : Mapping) → AreAlike m n → (place : Place) → IsPlaceOf n place → IsPlaceOf m place
there-alike m n alike place h = record { level = h.level; index = h.index; known = sym (alike.places h.level h.index) ∙ h.known }

pub inside-alike : (meta_sectors : ℕ) (m n : Mapping) → AreAlike m n → AreInside meta_sectors m → AreInside meta_sectors n
inside-alike meta_sectors m n alike inside place h = inside place (there-alike m n alike place h)

changed_of-alike : (m n : Mapping) → AreAlike m n → (nodes : List NodeName) → changed_of n nodes ≡ changed_of m nodes
changed_of-alike m n alike [] = refl
changed_of-alike m n alike (node ∷ nodes) = rw (alike.places node.level node.index, changed_of-alike m n alike nodes) refl

changed-alike : (m n : Mapping) → AreAlike m n → (depth : ℕ) → changed n depth ≡ changed m depth
changed-alike m n alike depth = ap (λ (es : List (Option Entry)). changed_of n (nodes_of es depth)) alike.entries ∙ changed_of-alike m n alike (nodes_of m.entries depth)

word-alike : (m n : Mapping) → AreAlike m n → (level index j : ℕ) → word_at n level index j ≡ word_at m level index j
word-alike m n alike zero index j = refl
word-alike m n alike (suc zero) index j = ap (λ (es : List (Option Entry)). entry_word (slice_index_or es (32 * index + j) None)) alike.entries
word-alike m n alike (suc (suc level)) index j = ap place_word (alike.places (suc level) (32 * index + j))

words-alike : (m n : Mapping) → AreAlike m n → (node : Node) → HasWordsOf m node → HasWordsOf n node
words-alike m n alike node h j below = h j below ∙ sym (word-alike m n alike node.level node.index j)

kept-alike : (version : Version) (m n : Mapping) → AreAlike m n → AreAlike (kept_tree version m) (kept_tree version n)
kept-alike version m n alike = record { entries = ap (map (kept version)) alike.entries; places = alike.places }

-- the image leads to the tree in another order as well, whose used places are told of it
pub image-alike : (m n k : Mapping) (plan : ImagePlan) (image : Image) → AreAlike n k → AreUsed plan.geometry.cache_blocks k → length (used_places k) ≡ length (used_places n) → IsImage m n plan image → IsImage m k plan image
image-alike m n k plan image alike used long is = record {
  same_entries = alike.entries ∙ is.same_entries;
  stays = λ level index place h. alike.places level index ∙ is.stays level index place h;
  none_changed = changed-alike n k alike (levels_of plan) ∙ is.none_changed;
  nodes_are = is.nodes_are;
  places_are = is.places_are;
  stands = All-weaker (λ (node : Place × Node). place_of n node.1.level node.1.index ≡ Some node.0) (λ (node : Place × Node). place_of k node.1.level node.1.index ≡ Some node.0) (λ node w. alike.places node.1.level node.1.index ∙ w) image.nodes.items is.stands;
  generations = is.generations;
  mappings = is.mappings;
  words = All-weaker (λ (node : Place × Node). HasWordsOf (kept_tree plan.geometry.version n) node.1) (λ (node : Place × Node). HasWordsOf (kept_tree plan.geometry.version k) node.1)
      (λ node w. words-alike (kept_tree plan.geometry.version n) (kept_tree plan.geometry.version k) (kept-alike plan.geometry.version n k alike) node.1 w) image.nodes.items is.words;
  used = used;
  comes = λ place h. is.comes place (there-alike n k alike place h);
  used_more = long ∙ is.used_more;
  root_generation = is.root_generation;
  root_clean = is.root_clean;
  root_geometry = is.root_geometry;
  root_top = is.root_top ∙ sym (alike.places (levels_of plan) 0);
  root_no_bits = is.root_no_bits;
}

pub loaded-alike : (root : Root) (found : Found) (m n : Mapping) → AreAlike m n → IsLoaded root found m → IsLoaded root found n
loaded-alike root found m n alike is = record {
  sound = sound-alike m n alike is.sound;
  inside = inside-alike root.geometry.meta_sectors m n alike is.inside;
  reached = λ place h. is.reached place (there-alike m n alike place h);
  read = λ nodes reads level index place h.
      let w = is.read nodes reads level index place (sym (alike.places level index) ∙ h) in
      record { node = w.node; reads = w.reads; right = record { mapping = w.right.mapping; name = w.right.name; not_newer = w.right.not_newer; words = words-alike m n alike w.node w.right.words } };
  few = is.few;
  none_changed = λ whole. changed-alike m n alike (depth_of root.geometry.cache_blocks) ∙ is.none_changed whole;
}
