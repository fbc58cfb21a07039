-- Every node has a spelling, where its words are 32 and its numbers small enough for their bytes.
use Rattle.std.proofs.Common.{◌≡◌, ◌∙◌, ◌<◌, ◌+◌, ◌-◌, ◌*◌, ◌^◌, ◌++◌, ℕ, zero, suc, Bool, true, false, List, [], ◌∷◌, Some, refl, sym, ap, arith, length, replicate, slice_get, slice_index}
use Rattle.std.proofs.lemmas.List.{append_assoc, get_or-append_right, get_or_append_left, length-append}
use Rattle.wb_types.specs.declared.number.Place.{Place}
use Rattle.wb_format.specs.Bytes.{number_at}
use Rattle.wb_format.specs.Letters.{node_magic}
use Rattle.wb_format.specs.Layout.{SpellsNode}
use Rattle.wb_format.specs.declared.node.Node.{Node}
use Rattle.wb_format.proofs.Numbers.{number_at-written, zero-from_bytes, zeros_all, little_bytes-below}
use Rattle.wb_tree.specs.declared.image.Image.{Image}
use Rattle.wb_promise.specs.Happenings.{IsWholeNode}
use Rattle.wb_runs.proofs.Spelling.{below_append, eight, four}

-- an image whose root and nodes can be spelled
pub record IsSmall (image : Image) : Type 0 where
  pub root : image.root.generation < 2 ^ 64
  pub nodes : (k : ℕ) (node : Place × Node) → slice_get image.nodes.items k ≡ Some node → IsWholeNode node.1

-- the bytes of words
abbrev pub word_bytes : List ℕ → List ℕ
word_bytes [] = []
word_bytes (w ∷ ws) = eight w ++ word_bytes ws

length-words : (ws : List ℕ) → length (word_bytes ws) ≡ 8 * length ws
length-words [] = refl
length-words (w ∷ ws) = omega (arith, length-words ws, length-append (eight w) (word_bytes ws), (let e : length (eight w) ≡ 8 = refl in e))

below_words : (ws : List ℕ) (k : ℕ) → slice_index (word_bytes ws) k < 256
below_words [] k = omega arith
below_words (w ∷ ws) k = below_append (eight w) (word_bytes ws) (little_bytes-below 0 8 w) (below_words ws) k

-- each word stands at its place, whatever stands before and behind
words_there : (front ws rest : List ℕ) (offset j : ℕ) → length front ≡ offset → ((i : ℕ) → slice_index ws i < 256 ^ 8) → j < length ws → number_at (front ++ (word_bytes ws ++ rest)) (offset + 8 * j) 8 ≡ slice_index ws j
words_there front [] rest offset j e small l = absurd (omega (arith, l))
words_there front (w ∷ ws) rest offset zero e small l =
    let at : offset + 8 * 0 ≡ offset = omega arith in
    ap (λ (o : ℕ). number_at (front ++ (word_bytes (w ∷ ws) ++ rest)) o 8) at
    ∙ ap (λ (xs : List ℕ). number_at (front ++ xs) offset 8) (append_assoc (eight w) (word_bytes ws) rest)
    ∙ number_at-written front (word_bytes ws ++ rest) offset 8 w e (small 0)
words_there front (w ∷ ws) rest offset (suc j) e small l =
    let at : offset + 8 * suc j ≡ offset + 8 + 8 * j = omega arith in
    ap (λ (o : ℕ). number_at (front ++ (word_bytes (w ∷ ws) ++ rest)) o 8) at
    ∙ ap (λ (xs : List ℕ). number_at xs (offset + 8 + 8 * j) 8) (ap (λ (xs : List ℕ). front ++ xs) (append_assoc (eight w) (word_bytes ws) rest) ∙ sym (append_assoc front (eight w) (word_bytes ws ++ rest)))
    ∙ words_there (front ++ eight w) ws rest (offset + 8) j (length-append front (eight w) ∙ (let s : length (eight w) ≡ 8 = refl in omega (arith, e, s))) (λ i. small (suc i)) (omega (arith, l))

-- the letters of a node fit eight bytes
small_magic : (dirty : Bool) → node_magic dirty < 256 ^ 8
small_magic true = omega arith
small_magic false = omega arith

module _ (n : Node) where
  abbrev zeros : List ℕ
  zeros = replicate 224 0

  abbrev from_words : List ℕ
  from_words = word_bytes n.words ++ zeros

  abbrev from_gap : List ℕ
  from_gap = replicate 8 0 ++ from_words

  abbrev from_index : List ℕ
  from_index = four n.index ++ from_gap

  abbrev from_level : List ℕ
  from_level = four n.level ++ from_index

  abbrev from_generation : List ℕ
  from_generation = eight n.generation ++ from_level

  abbrev pub node_spelling : List ℕ
  node_spelling = eight (node_magic n.dirty) ++ from_generation

  abbrev before_gap : List ℕ
  before_gap = eight (node_magic n.dirty) ++ (eight n.generation ++ (four n.level ++ four n.index))

  abbrev before_words : List ℕ
  before_words = eight (node_magic n.dirty) ++ (eight n.generation ++ (four n.level ++ (four n.index ++ replicate 8 0)))

  parted : node_spelling ≡ before_words ++ from_words
  parted = refl

  words_end : IsWholeNode n → length (before_words ++ word_bytes n.words) ≡ 288
  words_end small = let b : length before_words ≡ 32 = refl in omega (arith, b, length-append before_words (word_bytes n.words), length-words n.words, small.words)

  pub spelled_node : IsWholeNode n → SpellsNode node_spelling n
  spelled_node small = record {
    bytes = record {
      size = ap (λ (xs : List ℕ). length xs) parted ∙ length-append before_words from_words ∙ (let b : length before_words ≡ 32 = refl in omega (arith, b, length-append (word_bytes n.words) zeros, length-words n.words, small.words, (let z : length zeros ≡ 224 = refl in z)));
      bytes = below_append (eight (node_magic n.dirty)) from_generation (little_bytes-below 0 8 (node_magic n.dirty)) (below_append (eight n.generation) from_level (little_bytes-below 0 8 n.generation)
          (below_append (four n.level) from_index (little_bytes-below 0 4 n.level) (below_append (four n.index) from_gap (little_bytes-below 0 4 n.index)
          (below_append (replicate 8 0) from_words (λ k. let z = zeros_all 8 k in omega (arith, z)) (below_append (word_bytes n.words) zeros (below_words n.words) (λ k. let z = zeros_all 224 k in omega (arith, z)))))));
    };
    magic = number_at-written [] from_generation 0 8 (node_magic n.dirty) refl (small_magic n.dirty);
    generation = number_at-written (eight (node_magic n.dirty)) from_level 8 8 n.generation refl (omega (arith, small.generation));
    level = number_at-written (eight (node_magic n.dirty) ++ eight n.generation) from_index 16 4 n.level refl (omega (arith, n.level_to));
    index = number_at-written (eight (node_magic n.dirty) ++ (eight n.generation ++ four n.level)) from_gap 20 4 n.index refl (omega (arith, small.index));
    gap = zero-from_bytes node_spelling 24 32 (λ k from to. get_or-append_right before_gap from_gap 24 k 0 refl from ∙ (get_or_append_left (replicate 8 0) from_words 0 (k - 24) (let e : length (replicate {A = ℕ} 8 0) ≡ 8 = refl in omega (arith, e, from, to)) ∙ zeros_all 8 (k - 24)));
    words = record { size = small.words; each = λ j l. words_there before_words n.words zeros 32 j refl (λ i. let fits = small.each_word i in omega (arith, fits)) (omega (arith, l, small.words)) };
    rest = zero-from_bytes node_spelling 288 512 (λ k from to. ap (λ (xs : List ℕ). slice_index xs k) (sym (append_assoc before_words (word_bytes n.words) zeros)) ∙ get_or-append_right (before_words ++ word_bytes n.words) zeros 288 k 0 (words_end small) from ∙ zeros_all 224 (k - 288));
  }
