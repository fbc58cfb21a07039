-- A plan that was stored is read back.
use Rattle.std.proofs.Common.{◌≡◌, ◌≢◌, ◌≤◌, ◌<◌, ◌+◌, ◌-◌, ◌*◌, ◌^◌, ◌&&◌, ◌==◌, ◌∙◌, sym, ap, subst, refl, ℕ, zero, suc, Bool, true, false, not, nat_le, nat_lt, List, [], ◌∷◌, ◌++◌, Option, Some, None, Ok, length, map, take, get_or, replicate, append_assoc, slice_index, arith, inl, inr}
use Rattle.std.specs.Prelude.{Contains, slice_get}
use Rattle.std.specs.List.{range_with_len}
use Rattle.std.specs.Cmp.{both_ways}
use Rattle.std.proofs.lemmas.Bool.{cond-true, false≢true, false_from_ne_true, eqb-true, eq-eqb, ne_eqb, le-leb, lt-ltb}
use Rattle.std.proofs.lemmas.List.{append-nil, length-append}
use Rattle.std.proofs.Math.Nat.{add-mul, one-mul, pow-suc, mul_comm, mul_assoc}
use Rattle.wb_types.specs.declared.number.Place.{Place}
use Rattle.wb_types.specs.Limits.{dirty_depth_of}
use Rattle.wb_types.proofs.Truth.{or_true, either_true}
use Rattle.wb_bits.specs.BitWords.{is_member}
use Rattle.wb_format.specs.declared.node.Node.{Node}
use Rattle.wb_format.specs.declared.root.Root.{Root}
use Rattle.wb_tree.specs.declared.placed.PlacedNode.{PlacedNode}
use Rattle.wb_tree.specs.Mapping.{NodeName, each_from}
use Rattle.wb_tree.specs.Images.{place_word}
use Rattle.wb_tree.specs.Planning.{names}
use Rattle.wb_tree.specs.Reading.{Nodes, ◌then◌}
use Rattle.wb_tree.proofs.Nodes.Names.{AreApart, has, either_had, itself_had, had_left, had_right}
use Rattle.wb_dirty.specs.declared.children.Child.{Child}
use Rattle.wb_dirty.specs.declared.planning.DirtyPlan.{DirtyPlan}
use Rattle.wb_dirty.specs.Reading.{Asked, Marks, MarksOutcome, each, is_among, bit_read, bits_read, children_from, names_node, is_dirty_node, node_read, dirty_top_read, none_dirty}
use Rattle.wb_dirty.specs.Loading.{left_read}
use Rattle.wb_dirty.specs.Planning.{has_dirty, dirty_below, dirty_names, StandsAt, IsPlaceIfNeeded, IsNamedBy, IsPlanned, IsDirtyPlan}
use Rattle.wb_dirty.specs.ReadBack.{MayBeRead, taken_places, IsStoredPlan, IsReadBack, PlanIsReadBack, TakenPlacesMayBeRead}
use Rattle.wb_dirty.proofs.TakenBits.{marks_of}
use Rattle.wb_dirty.proofs.Steps.{each-first, dirty_child_read-named, node_read-leaf, node_read-inner}
use Rattle.wb_tree.proofs.Reading.ReachedLemmas.{is_one_at-push}
use Rattle.wb_dirty.proofs.DirtyBits.{dirty_to, dirty_to-none, dirty_to-all, dirty_to-set, dirty_to-skip, dirty_to-skip_many, has_dirty-begins, has_dirty-none, depth-holds}
use Rattle.wb_dirty.proofs.DirtyNames.{dirty_each-apart, dirty_open-apart, dirty_below-apart, apart-not_both, had_only, contained-had, stands-once, contained-place, place-once, is_among-append, contained-among, among-contained}
use Rattle.wb_dirty.proofs.PlanSteps.{dirty_below-none, dirty_below-some, leaf_needs_none, length-names}

-- what stands in some nodes is read, of a set of dirty blocks
record IsReadable (asked : Asked) (nodes : Nodes) (dirty : List Bool) (generation : ℕ) (all : List (Place × Node)) : Type 0 where
  blocks : length dirty ≡ asked.root.geometry.cache_blocks
  not_newer : generation ≤ asked.root.generation
  stored : (node : Place × Node) → Contains all node → nodes node.0.0 ≡ Some node.1
  planned : (node : Place × Node) → Contains all node → IsPlanned dirty generation all node.1
  behind : (node : Place × Node) → Contains all node → 2 ≤ node.0.0
  inside : (node : Place × Node) → Contains all node → node.0.0 < asked.root.geometry.meta_sectors
  same : (level index level' index' : ℕ) (one other : Place) → StandsAt all level index one → StandsAt all level' index' other → one.0 ≡ other.0 → (level ≡ level') × (index ≡ index')
  once : (level index : ℕ) (one other : Place) → StandsAt all level index one → StandsAt all level index other → one ≡ other
  entries : (block : ℕ) → get_or dirty block false ≡ true → get_or asked.mapped block false ≡ true

-- a place of one of the nodes of these names
record IsOneOf (all : List (Place × Node)) (some : List NodeName) (number : ℕ) : Type 0 where
  level : ℕ
  index : ℕ
  place : Place
  had : has some level index ≡ true
  stands : StandsAt all level index place
  is : place.0 ≡ number

-- none of the nodes of these names was reached
Fresh : List (Place × Node) → List NodeName → List Place → Type 0
Fresh all some reached = (level index : ℕ) (place : Place) → has some level index ≡ true → StandsAt all level index place → is_among place.0 reached ≡ false

-- a reading reaches the nodes of these names, and has then taken in the dirty blocks before one
record IsRead (dirty : List Bool) (all : List (Place × Node)) (some : List NodeName) (reached : List Place) (to : ℕ) (reading : MarksOutcome) : Type 0 where
  places : List Place
  read : reading ≡ Ok (marks_of (reached ++ places) (dirty_to to dirty))
  among : (number : ℕ) → is_among number places ≡ true → IsOneOf all some number
  every : (level index : ℕ) (place : Place) → has some level index ≡ true → StandsAt all level index place → is_among place.0 places ≡ true
  many : length places ≡ length some

-- the marks that a reading begins with
start : List Bool → List Place → ℕ → Marks
start dirty reached from = marks_of reached (dirty_to from dirty)

-- ---- readings one after the other

read-none : (dirty : List Bool) (all : List (Place × Node)) (reached : List Place) (to : ℕ) (reading : MarksOutcome) → reading ≡ Ok (marks_of reached (dirty_to to dirty)) → IsRead dirty all [] reached to reading
read-none dirty all reached to reading e = record {
  places = [];
  read = e ∙ ap (λ (ps : List Place). Ok (marks_of ps (dirty_to to dirty))) (sym (append-nil reached));
  among = λ number h. absurd (false≢true h);
  every = λ level index place h s. absurd (false≢true h);
  many = refl;
}

one_left : (all : List (Place × Node)) (xs ys : List NodeName) (number : ℕ) → IsOneOf all xs number → IsOneOf all (xs ++ ys) number
one_left all xs ys number o = record { level = o.level; index = o.index; place = o.place; had = had_left xs ys o.level o.index o.had; stands = o.stands; is = o.is }

one_right : (all : List (Place × Node)) (xs ys : List NodeName) (number : ℕ) → IsOneOf all ys number → IsOneOf all (xs ++ ys) number
one_right all xs ys number o = record { level = o.level; index = o.index; place = o.place; had = had_right xs ys o.level o.index o.had; stands = o.stands; is = o.is }

read-then : (dirty : List Bool) (all : List (Place × Node)) (xs ys : List NodeName) (reached : List Place) (middle to : ℕ) (first : MarksOutcome) (rest : Marks → MarksOutcome)
    → (one : IsRead dirty all xs reached middle first) → IsRead dirty all ys (reached ++ one.places) to (rest (marks_of (reached ++ one.places) (dirty_to middle dirty))) → IsRead dirty all (xs ++ ys) reached to (first then rest)
read-then dirty all xs ys reached middle to first rest one two = record {
  places = one.places ++ two.places;
  read =
      ap (λ (o : MarksOutcome). o then rest) one.read
      ∙ (two.read ∙ ap (λ (ps : List Place). Ok (marks_of ps (dirty_to to dirty))) (append_assoc reached one.places two.places));
  among = λ number h. elim (either_true (is_among number one.places) (is_among number two.places) (sym (is_among-append number one.places two.places) ∙ h)) [
    | inl a ↦ one_left all xs ys number (one.among number a)
    | inr b ↦ one_right all xs ys number (two.among number b)
  ];
  every = λ level index place h s. is_among-append place.0 one.places two.places ∙ (elim (either_had xs ys level index h) [
    | inl a ↦ cond-true (is_among place.0 one.places) true (is_among place.0 two.places) (one.every level index place a s)
    | inr b ↦ or_true (is_among place.0 one.places) (is_among place.0 two.places) (two.every level index place b s)
  ]);
  many = length-append one.places two.places ∙ (omega (arith, one.many, two.many, length-append xs ys));
}

-- what is left is as fresh as it was
fresh-rest : (asked : Asked) (nodes : Nodes) (dirty : List Bool) (generation : ℕ) (all : List (Place × Node)) (xs ys : List NodeName) (reached : List Place) (to : ℕ) (reading : MarksOutcome)
    → IsReadable asked nodes dirty generation all → AreApart (xs ++ ys) → Fresh all (xs ++ ys) reached → (one : IsRead dirty all xs reached to reading) → Fresh all ys (reached ++ one.places)
unfolding Fresh
fresh-rest asked nodes dirty generation all xs ys reached to reading r apart fresh one = λ level index place h s.
    is_among-append place.0 reached one.places
    ∙ (rw (fresh level index place (had_right xs ys level index h) s) (false_from_ne_true (is_among place.0 one.places) (λ t.
    let o = one.among place.0 t in
    let same = r.same o.level o.index level index o.place place o.stands s o.is in
    apart-not_both xs ys level index apart (subst (λ l. has xs l index ≡ true) same.0 (subst (λ i. has xs o.level i ≡ true) same.1 o.had)) h)))

-- ---- a leaf

bit-taken : (asked : Asked) (here : Place) (block : ℕ) (bit : Bool) (reached : List Place) (dirty : List Bool) → bit ≡ get_or dirty block false → ((b : ℕ) → get_or dirty b false ≡ true → get_or asked.mapped b false ≡ true)
    → bit_read asked here block bit (marks_of reached (dirty_to block dirty)) ≡ Ok (marks_of reached (dirty_to (suc block) dirty))
bit-taken asked here block true reached dirty e entries = rw (entries block (sym e)) (ap (λ (d : List Bool). Ok (marks_of reached d)) (dirty_to-set block dirty (sym e)))
bit-taken asked here block false reached dirty e entries = ap (λ (d : List Bool). Ok (marks_of reached d)) (dirty_to-skip block dirty (sym e))

bits-taken : (asked : Asked) (here : Place) (index : ℕ) (words : List ℕ) (reached : List Place) (dirty : List Bool) → ((k : ℕ) → k < 2048 → is_member words k ≡ get_or dirty (2048 * index + k) false)
    → ((b : ℕ) → get_or dirty b false ≡ true → get_or asked.mapped b false ≡ true) → (count k block : ℕ) → block ≡ 2048 * index + k → k + count ≤ 2048
    → each (λ j. bit_read asked here (2048 * index + j) (is_member words j)) (range_with_len k count) (marks_of reached (dirty_to block dirty)) ≡ Ok (marks_of reached (dirty_to (block + count) dirty))
unfolding each
bits-taken asked here index words reached dirty bits entries zero k block e room = ap (λ n. Ok (marks_of reached (dirty_to n dirty))) (omega arith)
bits-taken asked here index words reached dirty bits entries (suc count) k block e room =
    let one : bit_read asked here (2048 * index + k) (is_member words k) (marks_of reached (dirty_to block dirty)) ≡ Ok (marks_of reached (dirty_to (suc block) dirty)) =
    subst (λ n. bit_read asked here n (is_member words k) (marks_of reached (dirty_to block dirty)) ≡ Ok (marks_of reached (dirty_to (suc block) dirty))) e
    (bit-taken asked here block (is_member words k) reached dirty (bits k (omega (arith, room)) ∙ ap (λ n. get_or dirty n false) (sym e)) entries) in
    ap (λ (o : MarksOutcome). o then each (λ j. bit_read asked here (2048 * index + j) (is_member words j)) (range_with_len (k + 1) count)) one
    ∙ (bits-taken asked here index words reached dirty bits entries count (k + 1) (suc block) (omega (arith, e)) (omega (arith, room)) ∙ ap (λ n. Ok (marks_of reached (dirty_to n dirty))) (omega arith))

all_four : (a b c d : Bool) → a ≡ true → b ≡ true → c ≡ true → d ≡ true → (a && b && c && d) ≡ true
all_four a b c d p q r s = rw (p, q, r, s) refl

-- a node that is planned is the one that is read at its place
right-node : (asked : Asked) (nodes : Nodes) (dirty : List Bool) (generation : ℕ) (all : List (Place × Node)) (level index : ℕ) (here : Place) → IsReadable asked nodes dirty generation all → (s : StandsAt all level index here)
    → is_dirty_node asked.root level index s.node ≡ true
right-node asked nodes dirty generation all level index here r s =
    let p = r.planned (here, s.node) s.there in
    all_four s.node.dirty (s.node.level == level) (s.node.index == index) (nat_le s.node.generation asked.root.generation) p.of_bits (eq-eqb s.node.level level s.level_is) (eq-eqb s.node.index index s.index_is)
    (le-leb s.node.generation asked.root.generation (omega (arith, p.written_in, r.not_newer)))

-- the place of a node is reached, and then those of its children
read-node : (asked : Asked) (nodes : Nodes) (dirty : List Bool) (generation : ℕ) (all : List (Place × Node)) (level index : ℕ) (here : Place) (children : List NodeName) (reached : List Place) (to : ℕ) (reading below : MarksOutcome)
    → IsReadable asked nodes dirty generation all → StandsAt all level index here → reading ≡ below → IsRead dirty all children (reached ++ here ∷ []) to below
    → IsRead dirty all (children ++ record { level = level; index = index } ∷ []) reached to reading
read-node asked nodes dirty generation all level index here children reached to reading below r s e c = record {
  places = here ∷ c.places;
  read = e ∙ (c.read ∙ ap (λ (ps : List Place). Ok (marks_of ps (dirty_to to dirty))) (append_assoc reached (here ∷ []) c.places));
  among = λ number h. elim (either_true (here.0 == number) (is_among number c.places) h) [
    | inl a ↦ record { level = level; index = index; place = here; had = had_right children (record { level = level; index = index } ∷ []) level index (itself_had level index); stands = s; is = eqb-true here.0 number a }
    | inr b ↦ one_left all children (record { level = level; index = index } ∷ []) number (c.among number b)
  ];
  every = λ l i place h t. elim (either_had children (record { level = level; index = index } ∷ []) l i h) [
    | inl a ↦ or_true (here.0 == place.0) (is_among place.0 c.places) (c.every l i place a t)
    | inr b ↦
        let only = had_only level index l i b in
        let there : StandsAt all level index place = subst (λ n. StandsAt all n index place) (sym only.0) (subst (λ n. StandsAt all l n place) (sym only.1) t) in
        cond-true (here.0 == place.0) true (is_among place.0 c.places) (eq-eqb here.0 place.0 (ap (λ (p : Place). p.0) (r.once level index here place s there)))
  ];
  many = omega (arith, c.many, length-append children (record { level = level; index = index } ∷ []));
}

-- the children of a node are fresh behind it
fresh-below : (asked : Asked) (nodes : Nodes) (dirty : List Bool) (generation : ℕ) (all : List (Place × Node)) (level index : ℕ) (here : Place) (children : List NodeName) (reached : List Place)
    → IsReadable asked nodes dirty generation all → StandsAt all level index here → AreApart (children ++ record { level = level; index = index } ∷ []) → Fresh all (children ++ record { level = level; index = index } ∷ []) reached
    → Fresh all children (reached ++ here ∷ [])
unfolding Fresh
fresh-below asked nodes dirty generation all level index here children reached r s apart fresh = λ l i place h t.
    is_one_at-push (λ (p : Place). p) place.0 reached here
    ∙ (rw (
      fresh l i place (had_left children (record { level = level; index = index } ∷ []) l i h) t,
      false_from_ne_true (here.0 == place.0) (λ e.
          let same = r.same l i level index place here t s (sym (eqb-true here.0 place.0 e)) in
          apart-not_both children (record { level = level; index = index } ∷ []) level index apart (subst (λ n. has children n index ≡ true) same.0 (subst (λ n. has children l n ≡ true) same.1 h)) (itself_had level index)),
    ) refl)

-- a leaf
leaf-read : (asked : Asked) (nodes : Nodes) (dirty : List Bool) (generation : ℕ) (all : List (Place × Node)) (index : ℕ) (here : Place) (reached : List Place) → IsReadable asked nodes dirty generation all → StandsAt all 1 index here
    → has_dirty dirty 1 index ≡ true → IsRead dirty all (dirty_below dirty 1 index) reached (64 * ((index + 1) * 32 ^ 1)) (node_read asked nodes 1 index here (start dirty reached (64 * (index * 32 ^ 1))))
unfolding start
leaf-read asked nodes dirty generation all index here reached r s some =
    let p = r.planned (here, s.node) s.there in
    let first : 64 * (index * 32 ^ 1) ≡ 2048 * index + 0 = omega arith in
    let last : 64 * (index * 32 ^ 1) + 2048 ≡ 64 * ((index + 1) * 32 ^ 1) = omega arith in
    let bits : (k : ℕ) → k < 2048 → is_member s.node.words k ≡ get_or dirty (2048 * index + k) false =
    subst (λ i. (k : ℕ) → k < 2048 → is_member s.node.words k ≡ get_or dirty (2048 * i + k) false) s.index_is (p.words.leaf s.level_is) in
    let leaf : PlacedNode = record { level = 1; index = index; place = here } in
    let children : List NodeName = each_from (dirty_below dirty (1 - 1)) 32 (32 * index) in
    let none : children ≡ [] = leaf_needs_none dirty 1 (32 * index) refl in
    let now = reached ++ here ∷ [] in
    let below : MarksOutcome = bits_read asked here index s.node.words (marks_of now (dirty_to (64 * (index * 32 ^ 1)) dirty)) in
    let taken : below ≡ Ok (marks_of now (dirty_to (64 * ((index + 1) * 32 ^ 1)) dirty)) =
    bits-taken asked here index s.node.words now dirty bits r.entries 2048 0 (64 * (index * 32 ^ 1)) first (omega arith) ∙ ap (λ n. Ok (marks_of now (dirty_to n dirty))) last in
    subst (λ (ns : List NodeName). IsRead dirty all ns reached (64 * ((index + 1) * 32 ^ 1)) (node_read asked nodes 1 index here (marks_of reached (dirty_to (64 * (index * 32 ^ 1)) dirty))))
    (sym (dirty_below-some dirty 1 index (omega arith) some))
    (read-node asked nodes dirty generation all 1 index here children reached (64 * ((index + 1) * 32 ^ 1)) _ below r s
    (node_read-leaf asked nodes leaf s.node (marks_of reached (dirty_to (64 * (index * 32 ^ 1)) dirty)) refl (r.stored (here, s.node) s.there) (right-node asked nodes dirty generation all 1 index here r s))
    (subst (λ (ns : List NodeName). IsRead dirty all ns now (64 * ((index + 1) * 32 ^ 1)) below) (sym none) (read-none dirty all now (64 * ((index + 1) * 32 ^ 1)) below taken)))

-- ---- the children of a node

read-as : (dirty : List Bool) (all : List (Place × Node)) (some some' : List NodeName) (reached : List Place) (to to' : ℕ) (reading reading' : MarksOutcome) → some ≡ some' → to ≡ to' → reading ≡ reading'
    → IsRead dirty all some reached to reading → IsRead dirty all some' reached to' reading'
read-as dirty all some some' reached to to' reading reading' a b c r =
    subst (λ (ns : List NodeName). IsRead dirty all ns reached to' reading') a (subst (λ n. IsRead dirty all some reached n reading') b (subst (λ (o : MarksOutcome). IsRead dirty all some reached to o) c r))

children-pass : (count level index : ℕ) (here : Place) (words : List ℕ) (j : ℕ) → slice_index words j ≡ 0 → children_from (suc count) level index here words j ≡ children_from count level index here words (j + 1)
unfolding children_from
children-pass count level index here words j e = rw e refl

children-take : (count level index : ℕ) (here : Place) (words : List ℕ) (j : ℕ) → slice_index words j ≢ 0
    → children_from (suc count) level index here words j ≡ record { level = level; index = 32 * index + j; word = slice_index words j; from = here } ∷ children_from count level index here words (j + 1)
unfolding children_from
children-take count level index here words j e = rw (ne_eqb (slice_index words j) 0 e) refl

-- a word names a node that is planned
child-named : (asked : Asked) (nodes : Nodes) (dirty : List Bool) (generation : ℕ) (all : List (Place × Node)) (level index : ℕ) (place from : Place) (reached : List Place) → IsReadable asked nodes dirty generation all
    → StandsAt all level index place → has_dirty dirty level index ≡ true → is_among place.0 reached ≡ false → names_node asked.root reached (record { level = level; index = index; word = place.0; from = from }) ≡ true
child-named asked nodes dirty generation all level index place from reached r s some unread =
    all_four (nat_le 2 place.0) (nat_lt place.0 asked.root.geometry.meta_sectors) (not (is_among place.0 reached)) (nat_lt (64 * (index * 32 ^ level)) asked.root.geometry.cache_blocks)
    (le-leb 2 place.0 (r.behind (place, s.node) s.there)) (lt-ltb place.0 asked.root.geometry.meta_sectors (r.inside (place, s.node) s.there)) (rw unread refl)
    (lt-ltb (64 * (index * 32 ^ level)) asked.root.geometry.cache_blocks (omega (arith, r.blocks, has_dirty-begins dirty level index some)))

one_past : (i power : ℕ) → 64 * (i * power) + 64 * power ≡ 64 * ((i + 1) * power)
one_past i power = omega (arith, add-mul i 1 power, one-mul power)

-- the readings of nodes of a level, wherever they begin
ReadsLevel : Asked → Nodes → List Bool → List (Place × Node) → ℕ → Type 0
ReadsLevel asked nodes dirty all level = (i : ℕ) (place : Place) (reached : List Place) → StandsAt all level i place → has_dirty dirty level i ≡ true → Fresh all (dirty_below dirty level i) reached
    → IsRead dirty all (dirty_below dirty level i) reached (64 * ((i + 1) * 32 ^ level)) (node_read asked nodes level i place (start dirty reached (64 * (i * 32 ^ level))))

-- the readings of so many children from one on
ReadsChildren : Asked → Nodes → List Bool → List (Place × Node) → ℕ → ℕ → Place → List ℕ → ℕ → ℕ → ℕ → Type 0
ReadsChildren asked nodes dirty all level index here words count j i = (reached : List Place) → Fresh all (each_from (dirty_below dirty level) count i) reached
    → IsRead dirty all (each_from (dirty_below dirty level) count i) reached (64 * ((i + count) * 32 ^ level)) (each (left_read asked nodes) (children_from count level index here words j) (start dirty reached (64 * (i * 32 ^ level))))

-- the next word, and then the others
child-next : (asked : Asked) (nodes : Nodes) (dirty : List Bool) (generation : ℕ) (all : List (Place × Node)) (level index : ℕ) (here : Place) (words : List ℕ) (count j i : ℕ) (place : Option Place) → IsReadable asked nodes dirty generation all → 1 ≤ level
    → ReadsLevel asked nodes dirty all level → i ≡ 32 * index + j → IsPlaceIfNeeded dirty all level (32 * index + j) place → slice_index words j ≡ place_word place
    → ReadsChildren asked nodes dirty all level index here words count (j + 1) (i + 1) → ReadsChildren asked nodes dirty all level index here words (suc count) j i
unfolding ReadsLevel ReadsChildren each_from start Fresh
child-next asked nodes dirty generation all level index here words count j i None r from child e placed word rest reached fresh =
    let shut : has_dirty dirty level i ≡ false = ap (λ n. has_dirty dirty level n) e ∙ placed in
    let none : dirty_below dirty level i ≡ [] = dirty_below-none dirty level i shut in
    let names_are : each_from (dirty_below dirty level) count (i + 1) ≡ dirty_below dirty level i ++ each_from (dirty_below dirty level) count (i + 1) =
    ap (λ (ns : List NodeName). ns ++ each_from (dirty_below dirty level) count (i + 1)) (sym none) in
    let same : dirty_to (64 * (i * 32 ^ level)) dirty ≡ dirty_to (64 * ((i + 1) * 32 ^ level)) dirty =
    dirty_to-skip_many (64 * 32 ^ level) (64 * (i * 32 ^ level)) dirty (λ block low high. has_dirty-none dirty level i block shut low high) ∙ ap (λ n. dirty_to n dirty) (one_past i (32 ^ level)) in
    let to : 64 * ((i + 1 + count) * 32 ^ level) ≡ 64 * ((i + suc count) * 32 ^ level) = ap (λ n. 64 * (n * 32 ^ level)) (omega arith) in
    read-as dirty all (each_from (dirty_below dirty level) count (i + 1)) (dirty_below dirty level i ++ each_from (dirty_below dirty level) count (i + 1)) reached _ _ _ _ names_are to
    (ap (λ (cs : List Child). each (left_read asked nodes) cs (marks_of reached (dirty_to (64 * ((i + 1) * 32 ^ level)) dirty))) (sym (children-pass count level index here words j word))
    ∙ ap (λ (d : List Bool). each (left_read asked nodes) (children_from (suc count) level index here words j) (marks_of reached d)) (sym same))
    (rest reached (λ l k place h s. fresh l k place (had_right (dirty_below dirty level i) (each_from (dirty_below dirty level) count (i + 1)) l k h) s))
child-next asked nodes dirty generation all level index here words count j i (Some place) r from child e placed word rest reached fresh =
    let some : has_dirty dirty level i ≡ true = ap (λ n. has_dirty dirty level n) e ∙ placed.0 in
    let s : StandsAt all level i place = subst (λ n. StandsAt all level n place) (sym e) placed.1 in
    let xs : List NodeName = dirty_below dirty level i in
    let ys : List NodeName = each_from (dirty_below dirty level) count (i + 1) in
    let one = child i place reached s some (λ l k p h t. fresh l k p (had_left (dirty_below dirty level i) (each_from (dirty_below dirty level) count (i + 1)) l k h) t) in
    let self : has (dirty_below dirty level i) level i ≡ true =
    ap (λ (ns : List NodeName). has ns level i) (dirty_below-some dirty level i from some) ∙ had_right (each_from (dirty_below dirty (level - 1)) 32 (32 * i)) (record { level = level; index = i } ∷ []) level i (itself_had level i) in
    let unread : is_among place.0 reached ≡ false = fresh level i place (had_left (dirty_below dirty level i) (each_from (dirty_below dirty level) count (i + 1)) level i self) s in
    let made : ℕ → ℕ → Child = λ n w. record { level = level; index = n; word = w; from = here } in
    let same : made (32 * index + j) (slice_index words j) ≡ made i place.0 = ap (λ n. made n (slice_index words j)) (sym e) ∙ ap (λ w. made i w) word in
    let marks : Marks = marks_of reached (dirty_to (64 * (i * 32 ^ level)) dirty) in
    let first : node_read asked nodes level i place marks ≡ left_read asked nodes (made (32 * index + j) (slice_index words j)) marks =
    sym (ap (λ (c : Child). left_read asked nodes c marks) same
    ∙ dirty_child_read-named asked.root (node_read asked nodes level) (made i place.0) marks (child-named asked nodes dirty generation all level i place here reached r s some unread)) in
    let low = r.behind (place, s.node) s.there in
    let named : slice_index words j ≢ 0 = λ z. absurd (omega (arith, low, z, word)) in
    let to : 64 * ((i + 1 + count) * 32 ^ level) ≡ 64 * ((i + suc count) * 32 ^ level) = ap (λ n. 64 * (n * 32 ^ level)) (omega arith) in
    read-as dirty all (dirty_below dirty level i ++ each_from (dirty_below dirty level) count (i + 1)) (dirty_below dirty level i ++ each_from (dirty_below dirty level) count (i + 1)) reached _ _ _ _ refl to
    (ap (λ (o : MarksOutcome). o then each (left_read asked nodes) (children_from count level index here words (j + 1))) first
    ∙ (sym (each-first (left_read asked nodes) (made (32 * index + j) (slice_index words j)) (children_from count level index here words (j + 1)) marks)
    ∙ ap (λ (cs : List Child). each (left_read asked nodes) cs marks) (sym (children-take count level index here words j named))))
    (read-then dirty all (dirty_below dirty level i) (each_from (dirty_below dirty level) count (i + 1)) reached (64 * ((i + 1) * 32 ^ level)) (64 * ((i + 1 + count) * 32 ^ level)) (node_read asked nodes level i place marks)
    (each (left_read asked nodes) (children_from count level index here words (j + 1))) one
    (rest (reached ++ one.places)
    (fresh-rest asked nodes dirty generation all (dirty_below dirty level i) (each_from (dirty_below dirty level) count (i + 1)) reached (64 * ((i + 1) * 32 ^ level)) (node_read asked nodes level i place marks) r
    (each-apart dirty level count i) fresh one)))
  where
    each-apart : (dirty : List Bool) (level count i : ℕ) → AreApart (dirty_below dirty level i ++ each_from (dirty_below dirty level) count (i + 1))
    each-apart dirty level count i = dirty_each-apart dirty level (suc count) i

-- no word is left
no-children : (asked : Asked) (nodes : Nodes) (dirty : List Bool) (all : List (Place × Node)) (level index : ℕ) (here : Place) (words : List ℕ) (j i : ℕ) → ReadsChildren asked nodes dirty all level index here words zero j i
unfolding ReadsChildren each_from children_from each start
no-children asked nodes dirty all level index here words j i reached fresh =
    read-none dirty all reached (64 * ((i + 0) * 32 ^ level)) (Ok (marks_of reached (dirty_to (64 * (i * 32 ^ level)) dirty))) (ap (λ n. Ok (marks_of reached (dirty_to (64 * (n * 32 ^ level)) dirty))) (omega arith))

-- what the readings of children give
children_of : (asked : Asked) (nodes : Nodes) (dirty : List Bool) (all : List (Place × Node)) (level index : ℕ) (here : Place) (words : List ℕ) → ReadsChildren asked nodes dirty all level index here words 32 0 (32 * index)
    → (reached : List Place) → Fresh all (each_from (dirty_below dirty level) 32 (32 * index)) reached
    → IsRead dirty all (each_from (dirty_below dirty level) 32 (32 * index)) reached (64 * ((32 * index + 32) * 32 ^ level)) (each (left_read asked nodes) (children_from 32 level index here words 0) (marks_of reached (dirty_to (64 * (32 * index * 32 ^ level)) dirty)))
unfolding ReadsChildren start
children_of asked nodes dirty all level index here words c reached fresh = c reached fresh

-- all words
children-read : (asked : Asked) (nodes : Nodes) (dirty : List Bool) (generation : ℕ) (all : List (Place × Node)) (level index : ℕ) (here : Place) (words : List ℕ) → IsReadable asked nodes dirty generation all → 1 ≤ level
    → ReadsLevel asked nodes dirty all level → ((j : ℕ) → j < 32 → IsNamedBy dirty all level (32 * index + j) (slice_index words j))
    → (count j i : ℕ) → i ≡ 32 * index + j → j + count ≡ 32 → ReadsChildren asked nodes dirty all level index here words count j i
children-read asked nodes dirty generation all level index here words r from child named zero j i e f = no-children asked nodes dirty all level index here words j i
children-read asked nodes dirty generation all level index here words r from child named (suc count) j i e f =
    let n = named j (omega (arith, f)) in
    child-next asked nodes dirty generation all level index here words count j i n.place r from child e n.placed n.spelled
    (children-read asked nodes dirty generation all level index here words r from child named count (j + 1) (i + 1) (omega (arith, e)) (omega (arith, f)))

-- ---- a node

up : (level x : ℕ) → x * 32 ^ suc level ≡ 32 * x * 32 ^ level
up level x =
    ap (λ n. x * n) (pow-suc 32 level ∙ mul_comm (32 ^ level) 32) ∙ (sym (mul_assoc x 32 (32 ^ level)) ∙ ap (λ n. n * 32 ^ level) (omega arith))

-- a node above the leaves
inner-read : (asked : Asked) (nodes : Nodes) (dirty : List Bool) (generation : ℕ) (all : List (Place × Node)) (level : ℕ) → IsReadable asked nodes dirty generation all → 1 ≤ level → ReadsLevel asked nodes dirty all level
    → ReadsLevel asked nodes dirty all (suc level)
unfolding ReadsLevel start
inner-read asked nodes dirty generation all level r from child index here reached s some fresh =
    let p = r.planned (here, s.node) s.there in
    let below : suc level - 1 ≡ level = omega arith in
    let children : List NodeName = each_from (dirty_below dirty level) 32 (32 * index) in
    let self : List NodeName = record { level = suc level; index = index } ∷ [] in
    let opened : dirty_below dirty (suc level) index ≡ children ++ self =
    dirty_below-some dirty (suc level) index (omega arith) some ∙ ap (λ l. each_from (dirty_below dirty l) 32 (32 * index) ++ self) below in
    let apart : AreApart (each_from (dirty_below dirty level) 32 (32 * index) ++ record { level = suc level; index = index } ∷ []) =
    subst (λ l. AreApart (each_from (dirty_below dirty l) 32 (32 * index) ++ record { level = suc level; index = index } ∷ [])) below (dirty_open-apart dirty (suc level) index (omega arith)) in
    let fresh' : Fresh all (each_from (dirty_below dirty level) 32 (32 * index) ++ record { level = suc level; index = index } ∷ []) reached = subst (λ (ns : List NodeName). Fresh all ns reached) opened fresh in
    let now : List Place = reached ++ here ∷ [] in
    let above : s.node.level ≢ 1 = λ one. absurd (omega (arith, one, s.level_is, from)) in
    let named : (j : ℕ) → j < 32 → IsNamedBy dirty all level (32 * index + j) (slice_index s.node.words j) = λ j less.
    subst (λ l. IsNamedBy dirty all l (32 * index + j) (slice_index s.node.words j)) (ap (λ n. n - 1) s.level_is ∙ below)
    (subst (λ n. IsNamedBy dirty all (s.node.level - 1) (32 * n + j) (slice_index s.node.words j)) s.index_is (p.words.inner above j less)) in
    let first : 64 * (32 * index * 32 ^ level) ≡ 64 * (index * 32 ^ suc level) = ap (λ n. 64 * n) (sym (up level index)) in
    let last : 64 * ((32 * index + 32) * 32 ^ level) ≡ 64 * ((index + 1) * 32 ^ suc level) =
    ap (λ n. 64 * (n * 32 ^ level)) (omega arith) ∙ ap (λ n. 64 * n) (sym (up level (index + 1))) in
    let inner : PlacedNode = record { level = suc level; index = index; place = here } in
    let c = children-read asked nodes dirty generation all level index here s.node.words r from child named 32 0 (32 * index) (omega arith) refl in
    let marks : Marks = marks_of reached (dirty_to (64 * (index * 32 ^ suc level)) dirty) in
    let reading : node_read asked nodes (suc level) index here marks
    ≡ each (left_read asked nodes) (children_from 32 level index here s.node.words 0) (marks_of (reached ++ here ∷ []) (dirty_to (64 * (32 * index * 32 ^ level)) dirty)) =
    node_read-inner asked nodes inner s.node marks (omega (arith, from)) (r.stored (here, s.node) s.there) (right-node asked nodes dirty generation all (suc level) index here r s)
    ∙ (ap (λ l. each (left_read asked nodes) (children_from 32 l index here s.node.words 0) (marks_of (reached ++ here ∷ []) (dirty_to (64 * (index * 32 ^ suc level)) dirty))) below
    ∙ ap (λ n. each (left_read asked nodes) (children_from 32 level index here s.node.words 0) (marks_of (reached ++ here ∷ []) (dirty_to n dirty))) (sym first)) in
    read-as dirty all (each_from (dirty_below dirty level) 32 (32 * index) ++ record { level = suc level; index = index } ∷ []) (dirty_below dirty (suc level) index) reached _ _ _ _ (sym opened) last refl
    (read-node asked nodes dirty generation all (suc level) index here (each_from (dirty_below dirty level) 32 (32 * index)) reached (64 * ((32 * index + 32) * 32 ^ level)) _ _ r s reading
    (children_of asked nodes dirty all level index here s.node.words c (reached ++ here ∷ [])
    (fresh-below asked nodes dirty generation all (suc level) index here (each_from (dirty_below dirty level) 32 (32 * index)) reached r s apart fresh')))

node-reads : (asked : Asked) (nodes : Nodes) (dirty : List Bool) (generation : ℕ) (all : List (Place × Node)) → IsReadable asked nodes dirty generation all → (level : ℕ) → ReadsLevel asked nodes dirty all level
unfolding ReadsLevel
node-reads asked nodes dirty generation all r zero index here reached s some fresh = absurd (omega (arith, s.node.level_from, s.level_is))
node-reads asked nodes dirty generation all r (suc zero) index here reached s some fresh = leaf-read asked nodes dirty generation all index here reached r s some
node-reads asked nodes dirty generation all r (suc (suc level)) index here reached s some fresh =
    inner-read asked nodes dirty generation all (suc level) r (omega arith) (node-reads asked nodes dirty generation all r (suc level)) index here reached s some fresh

-- ---- the plan

readable : (root : Root) (nodes : Nodes) (reached : List Place) (mapped dirty : List Bool) (generation : ℕ) (free : List Place) (plan : DirtyPlan)
    → IsDirtyPlan dirty generation free plan → IsStoredPlan root nodes reached mapped dirty generation plan → IsReadable (record { root = root; mapped = mapped }) nodes dirty generation plan.nodes.items
readable root nodes reached mapped dirty generation free plan p st = record {
  blocks = st.blocks;
  not_newer = st.not_newer;
  stored = st.stored;
  planned = p.planned.each;
  behind = λ node there. (st.may.each there.0 node.0 (contained-place plan.nodes.items node there)).behind;
  inside = λ node there. (st.may.each there.0 node.0 (contained-place plan.nodes.items node there)).inside;
  same = λ level index level' index' one other a b e. place-once root reached plan.nodes.items level index level' index' one other st.may a b e;
  once = λ level index one other a b.
      stands-once plan.nodes.items level index one other (subst (λ (ns : List NodeName). AreApart ns) (sym p.nodes_are) (dirty_below-apart dirty (dirty_depth_of (length dirty)) 0)) a b;
  entries = st.entries;
}

all_fresh : (root : Root) (nodes : Nodes) (reached : List Place) (mapped dirty : List Bool) (generation : ℕ) (plan : DirtyPlan) (some : List NodeName) → IsStoredPlan root nodes reached mapped dirty generation plan → Fresh plan.nodes.items some reached
unfolding Fresh
all_fresh root nodes reached mapped dirty generation plan some st =
    λ level index place h s. (st.may.each s.there.0 place (contained-place plan.nodes.items (place, s.node) s.there)).unread

nothing_named : (nodes : List (Place × Node)) → names nodes ≡ [] → nodes ≡ []
nothing_named [] e = refl
nothing_named (node ∷ nodes) e = absurd cc

-- before anything of it was read
begins : (mapped dirty : List Bool) (place : ℕ) → length mapped ≡ length dirty → place ≡ 0 → replicate (length mapped) false ≡ dirty_to place dirty
begins mapped dirty place size e = ap (λ n. replicate n false) size ∙ (dirty_to-none dirty ∙ ap (λ n. dirty_to n dirty) (sym e))

-- all of it
ends : (root : Root) (dirty : List Bool) → length dirty ≡ root.geometry.cache_blocks → dirty_to (64 * ((0 + 1) * 32 ^ dirty_depth_of (length dirty))) dirty ≡ dirty
ends root dirty e =
    let most = root.geometry.within.cache_to in
    let holds = depth-holds (length dirty) (omega (arith, e, most)) in
    dirty_to-all (64 * ((0 + 1) * 32 ^ dirty_depth_of (length dirty))) dirty (omega (arith, holds, one-mul (32 ^ dirty_depth_of (length dirty))))

top-none : (asked : Asked) (nodes : Nodes) (depth : ℕ) (top : Option Place) (marks : Marks) → top ≡ None → dirty_top_read asked nodes depth top marks ≡ Ok marks
top-none asked nodes depth top marks e = ap (λ (o : Option Place). dirty_top_read asked nodes depth o marks) e

top-some : (asked : Asked) (nodes : Nodes) (depth : ℕ) (top : Option Place) (place : Place) (marks : Marks) → top ≡ Some place → is_among place.0 marks.reached ≡ false → dirty_top_read asked nodes depth top marks ≡ node_read asked nodes depth 0 place marks
top-some asked nodes depth top place marks e unread = ap (λ (o : Option Place). dirty_top_read asked nodes depth o marks) e ∙ rw unread refl

-- one without a top: no block is dirty
read-back-none : (root : Root) (nodes : Nodes) (reached : List Place) (mapped dirty : List Bool) (generation : ℕ) (free : List Place) (plan : DirtyPlan) → IsDirtyPlan dirty generation free plan
    → IsStoredPlan root nodes reached mapped dirty generation plan → plan.top ≡ None → has_dirty dirty (dirty_depth_of (length dirty)) 0 ≡ false → IsReadBack root nodes reached mapped dirty plan
read-back-none root nodes reached mapped dirty generation free plan p st top shut =
    let depth = dirty_depth_of (length dirty) in
    let power : ℕ = 32 ^ dirty_depth_of (length dirty) in
    let asked : Asked = record { root = root; mapped = mapped } in
    let empty : plan.nodes.items ≡ [] = nothing_named plan.nodes.items (p.nodes_are ∙ dirty_below-none dirty (dirty_depth_of (length dirty)) 0 shut) in
    let first : 64 * (0 * power) ≡ 0 = omega arith in
    let last : 64 * (0 * power) + 64 * power ≡ 64 * ((0 + 1) * power) = one_past 0 power in
    let all : dirty_to (64 * (0 * power)) dirty ≡ dirty_to (64 * ((0 + 1) * power)) dirty =
    dirty_to-skip_many (64 * power) (64 * (0 * power)) dirty (λ block low high. has_dirty-none dirty (dirty_depth_of (length dirty)) 0 block shut low high) ∙ ap (λ n. dirty_to n dirty) last in
    let is : replicate (length mapped) false ≡ dirty = begins mapped dirty (64 * (0 * power)) st.size first ∙ (all ∙ ends root dirty st.blocks) in
    record {
      places = [];
      read =
          top-none asked nodes (dirty_depth_of root.geometry.cache_blocks) root.top_dirty (none_dirty asked reached) (st.has_top ∙ top)
          ∙ (ap (λ (d : List Bool). Ok (marks_of reached d)) is ∙ ap (λ (ps : List Place). Ok (marks_of ps dirty)) (sym (append-nil reached)));
      same = λ number. ap (λ (ns : List (Place × Node)). is_among number (map (λ (n : Place × Node). n.0) ns)) (sym empty);
      many = ap length (sym empty);
    }

-- one with a top
read-back-some : (root : Root) (nodes : Nodes) (reached : List Place) (mapped dirty : List Bool) (generation : ℕ) (free : List Place) (plan : DirtyPlan) (top : Place) → IsDirtyPlan dirty generation free plan
    → IsStoredPlan root nodes reached mapped dirty generation plan → plan.top ≡ Some top → has_dirty dirty (dirty_depth_of (length dirty)) 0 ≡ true → StandsAt plan.nodes.items (dirty_depth_of (length dirty)) 0 top
    → IsReadBack root nodes reached mapped dirty plan
unfolding ReadsLevel start
read-back-some root nodes reached mapped dirty generation free plan top p st e some s =
    let asked : Asked = record { root = root; mapped = mapped } in
    let all : List (Place × Node) = plan.nodes.items in
    let power : ℕ = 32 ^ dirty_depth_of (length dirty) in
    let r = readable root nodes reached mapped dirty generation free plan p st in
    let w = node-reads asked nodes dirty generation plan.nodes.items r (dirty_depth_of (length dirty)) 0 top reached s some (all_fresh root nodes reached mapped dirty generation plan (dirty_below dirty (dirty_depth_of (length dirty)) 0) st) in
    let unread = (st.may.each s.there.0 top (contained-place plan.nodes.items (top, s.node) s.there)).unread in
    let first : 64 * (0 * power) ≡ 0 = omega arith in
    record {
      places = w.places;
      read =
          top-some asked nodes (dirty_depth_of root.geometry.cache_blocks) root.top_dirty top (none_dirty asked reached) (st.has_top ∙ e) unread
          ∙ (ap (λ n. node_read asked nodes (dirty_depth_of n) 0 top (none_dirty asked reached)) (sym st.blocks)
          ∙ (ap (λ (d : List Bool). node_read asked nodes (dirty_depth_of (length dirty)) 0 top (marks_of reached d)) (begins mapped dirty (64 * (0 * power)) st.size first)
          ∙ (w.read ∙ ap (λ (d : List Bool). Ok (marks_of (reached ++ w.places) d)) (ends root dirty st.blocks))));
      same = λ number. both_ways (is_among number w.places) (is_among number (taken_places plan))
          (λ h. let o = w.among number h in subst (λ n. is_among n (taken_places plan) ≡ true) o.is (contained-among plan.nodes.items (o.place, o.stands.node) o.stands.there))
          (λ h.
          let one = among-contained plan.nodes.items number h in
          let had : has (dirty_names dirty) one.node.1.level one.node.1.index ≡ true =
          subst (λ (ns : List NodeName). has ns one.node.1.level one.node.1.index ≡ true) p.nodes_are (contained-had plan.nodes.items one.node one.there) in
          subst (λ n. is_among n w.places ≡ true) one.is
          (w.every one.node.1.level one.node.1.index one.node.0 had (record { node = one.node.1; there = one.there; level_is = refl; index_is = refl })));
      many = w.many ∙ (ap length (sym p.nodes_are) ∙ length-names plan.nodes.items);
    }

by-top : (root : Root) (nodes : Nodes) (reached : List Place) (mapped dirty : List Bool) (generation : ℕ) (free : List Place) (plan : DirtyPlan) (top : Option Place) → IsDirtyPlan dirty generation free plan
    → IsStoredPlan root nodes reached mapped dirty generation plan → plan.top ≡ top → IsPlaceIfNeeded dirty plan.nodes.items (dirty_depth_of (length dirty)) 0 top → IsReadBack root nodes reached mapped dirty plan
by-top root nodes reached mapped dirty generation free plan None p st e placed = read-back-none root nodes reached mapped dirty generation free plan p st e placed
by-top root nodes reached mapped dirty generation free plan (Some top) p st e placed = read-back-some root nodes reached mapped dirty generation free plan top p st e placed.0 placed.1

pub plan-is-read-back : PlanIsReadBack
plan-is-read-back root nodes reached mapped dirty generation free plan p st = by-top root nodes reached mapped dirty generation free plan plan.top p st refl p.top

-- ---- places

slice_get-take : {X : Type 0} (xs : List X) (n i : ℕ) (x : X) → slice_get (take n xs) i ≡ Some x → slice_get xs i ≡ Some x
slice_get-take {X} [] zero i x e = e
slice_get-take {X} [] (suc n) i x e = e
slice_get-take {X} (y ∷ xs) zero i x e = absurd cc
slice_get-take {X} (y ∷ xs) (suc n) zero x e = e
slice_get-take {X} (y ∷ xs) (suc n) (suc i) x e = slice_get-take xs n i x e

-- from places that may be read a plan takes places that may
pub taken-may : TakenPlacesMayBeRead
taken-may root reached dirty generation free plan p may = subst (λ (ps : List Place). MayBeRead root reached ps) (sym p.planned.places) (record {
  apart = λ i j place a b. may.apart i j place (slice_get-take free (length plan.nodes.items) i place a) (slice_get-take free (length plan.nodes.items) j place b);
  each = λ i place a. may.each i place (slice_get-take free (length plan.nodes.items) i place a);
})
