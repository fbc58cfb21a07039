-- Steps of a reading of dirty bits, one after the other, and a node that is read, by its level.
use Rattle.std.proofs.Common.{◌≡◌, ◌≢◌, ◌≤◌, ◌<◌, ◌+◌, ◌-◌, ◌*◌, ◌^◌, ◌∙◌, sym, ap, subst, refl, ℕ, zero, suc, Bool, true, false, nat_eq, ltb, List, [], ◌∷◌, ◌++◌, reverse, Some, None, Ok, Err, arith, slice_index, add-one}
use Rattle.std.specs.Prelude.{if◌then◌else◌}
use Rattle.std.specs.List.{AllByRecursion}
use Rattle.std.proofs.lemmas.Bool.{ne_eqb, le-ltb}
use Rattle.std.proofs.lemmas.List.{reverse-append}
use Rattle.std.proofs.Math.Nat.{one-le-pow, mul-le-mul_left}
use Rattle.wb_types.specs.declared.number.Place.{Place}
use Rattle.wb_format.specs.declared.root.Root.{Root}
use Rattle.wb_format.specs.declared.node.Node.{Node}
use Rattle.wb_tree.specs.Reading.{Nodes, ◌then◌}
use Rattle.wb_tree.proofs.Reading.Steps.{IsNaming, names_with-is, index_below, same_read}
use Rattle.wb_tree.specs.declared.placed.PlacedNode.{PlacedNode}
use Rattle.wb_dirty.specs.declared.children.Child.{Child}
use Rattle.wb_dirty.specs.Reading.{Asked, Marks, MarksOutcome, each, is_among, bits_read, children_from, names_node, dirty_child_read, is_dirty_node, reached_also, node_read}
use Rattle.wb_dirty.specs.Loading.{left_read, rest_read}

-- ---- one after the other

pub each-none : {X : Type 0} (step : X → Marks → MarksOutcome) (marks : Marks) → each step [] marks ≡ Ok marks
unfolding each
each-none {X} step marks = refl

pub each-first : {X : Type 0} (step : X → Marks → MarksOutcome) (x : X) (xs : List X) (marks : Marks) → each step (x ∷ xs) marks ≡ (step x marks then each step xs)
unfolding each
each-first {X} step x xs marks = refl

then-then : (a : MarksOutcome) (f g : Marks → MarksOutcome) → ((a then f) then g) ≡ (a then (λ m. f m then g))
then-then (Ok marks) f g = refl
then-then (Err place) f g = refl

pub then-same : (a : MarksOutcome) (f g : Marks → MarksOutcome) → ((m : Marks) → f m ≡ g m) → (a then f) ≡ (a then g)
then-same (Ok marks) f g same = same marks
then-same (Err place) f g same = refl

pub each-append : {X : Type 0} (step : X → Marks → MarksOutcome) (xs ys : List X) (marks : Marks) → each step (xs ++ ys) marks ≡ (each step xs marks then each step ys)
unfolding each
each-append {X} step [] ys marks = refl
each-append {X} step (x ∷ xs) ys marks =
    then-same (step x marks) (each step (xs ++ ys)) (λ m. each step xs m then each step ys) (each-append step xs ys)
    ∙ sym (then-then (step x marks) (each step xs) (each step ys))

-- ---- children

-- a list with one child more, or not
either_list : (P : Child → Type 0) (b : Bool) (child : Child) (children : List Child) → P child → AllByRecursion P children → AllByRecursion P (if b then children else child ∷ children)
either_list P true child children one rest = rest
either_list P false child children one rest = (one, rest)

-- the words of a node name nodes of one level
pub children-level : (count level index : ℕ) (here : Place) (words : List ℕ) (j : ℕ) → AllByRecursion (λ (child : Child). child.level ≡ level) (children_from count level index here words j)
unfolding children_from
children-level zero level index here words j = tt
children-level (suc count) level index here words j =
    either_list (λ (child : Child). child.level ≡ level) (nat_eq (slice_index words j) 0) (record { level = level; index = 32 * index + j; word = slice_index words j; from = here }) (children_from count level index here words (j + 1)) refl
    (children-level count level index here words (j + 1))

-- so they are read as children that are left are
pub children-left : (asked : Asked) (nodes : Nodes) (level : ℕ) (children : List Child) (marks : Marks) → AllByRecursion (λ (child : Child). child.level ≡ level) children
    → each (dirty_child_read asked.root (node_read asked nodes level)) children marks ≡ each (left_read asked nodes) children marks
unfolding each
children-left asked nodes level [] marks all = refl
children-left asked nodes level (child ∷ children) marks all =
    ap (λ l. dirty_child_read asked.root (node_read asked nodes l) child marks then each (dirty_child_read asked.root (node_read asked nodes level)) children) (sym all.0)
    ∙ then-same (left_read asked nodes child marks) (each (dirty_child_read asked.root (node_read asked nodes level)) children) (each (left_read asked nodes) children)
    (λ m. children-left asked nodes level children m all.1)

pub dirty_child_read-named : (root : Root) (read : ℕ → Place → Marks → MarksOutcome) (child : Child) (marks : Marks) → names_node root marks.reached child ≡ true
    → dirty_child_read root read child marks ≡ read child.index (record { 0 = child.word }) marks
dirty_child_read-named root read child marks e = rw e refl

pub dirty_child_read-unnamed : (root : Root) (read : ℕ → Place → Marks → MarksOutcome) (child : Child) (marks : Marks) → names_node root marks.reached child ≡ false
    → dirty_child_read root read child marks ≡ Err child.from
dirty_child_read-unnamed root read child marks e = rw e refl

pub names_node-is : (root : Root) (reached : List Place) (child : Child) → names_node root reached child ≡ true
    → IsNaming root (is_among child.word reached) child.word (64 * (child.index * 32 ^ child.level))
names_node-is root reached child h = names_with-is root (is_among child.word reached) child.word (64 * (child.index * 32 ^ child.level)) h

-- a node has no more nodes before it than there are cache blocks
pub index_first : (index level blocks : ℕ) → 64 * (index * 32 ^ level) < blocks → index < blocks
index_first index level blocks h = index_below index level blocks (omega (arith, h))

pub same_node_read : (asked : Asked) (nodes : Nodes) (level level' index index' : ℕ) (place place' : Place) (marks : Marks) → level ≡ level' → index ≡ index' → place.0 ≡ place'.0
    → node_read asked nodes level index place marks ≡ node_read asked nodes level' index' place' marks
same_node_read asked nodes level level' index index' place place' marks a b c =
    ap (λ read. read marks) (same_read (node_read asked nodes) level level' index index' place place' a b c)

-- ---- a node, by its level

-- nothing is spelled there
pub node_read-none : (asked : Asked) (nodes : Nodes) (level index : ℕ) (here : Place) (marks : Marks) → nodes here.0 ≡ None → node_read asked nodes level index here marks ≡ Err here
unfolding node_read
node_read-none asked nodes zero index here marks e = refl
node_read-none asked nodes (suc zero) index here marks e = rw e refl
node_read-none asked nodes (suc (suc level)) index here marks e = rw e refl

-- another node is spelled there
pub node_read-other : (asked : Asked) (nodes : Nodes) (level index : ℕ) (here : Place) (node : Node) (marks : Marks) → nodes here.0 ≡ Some node → is_dirty_node asked.root level index node ≡ false
    → node_read asked nodes level index here marks ≡ Err here
unfolding node_read
node_read-other asked nodes zero index here node marks e wrong = refl
node_read-other asked nodes (suc zero) index here node marks e wrong = rw (e, wrong) refl
node_read-other asked nodes (suc (suc level)) index here node marks e wrong = rw (e, wrong) refl

-- a leaf
pub node_read-leaf : (asked : Asked) (nodes : Nodes) (leaf : PlacedNode) (node : Node) (marks : Marks) → leaf.level ≡ 1 → nodes leaf.place.0 ≡ Some node → is_dirty_node asked.root leaf.level leaf.index node ≡ true
    → node_read asked nodes leaf.level leaf.index leaf.place marks ≡ bits_read asked leaf.place leaf.index node.words (reached_also leaf.place marks)
unfolding node_read
node_read-leaf asked nodes leaf node marks one e right =
    let right' : is_dirty_node asked.root 1 leaf.index node ≡ true = subst (λ l. is_dirty_node asked.root l leaf.index node ≡ true) one right in
    subst (λ l. node_read asked nodes l leaf.index leaf.place marks ≡ bits_read asked leaf.place leaf.index node.words (reached_also leaf.place marks)) (sym one) (rw (e, right') refl)

above_leaves : (asked : Asked) (nodes : Nodes) (level index : ℕ) (here : Place) (node : Node) (marks : Marks) → nodes here.0 ≡ Some node → is_dirty_node asked.root (suc (suc level)) index node ≡ true
    → node_read asked nodes (suc (suc level)) index here marks
    ≡ each (dirty_child_read asked.root (node_read asked nodes (suc level))) (children_from 32 (suc level) index here node.words 0) (reached_also here marks)
unfolding node_read
above_leaves asked nodes level index here node marks e right = rw (e, right) refl

-- a node above the leaves
pub node_read-inner : (asked : Asked) (nodes : Nodes) (inner : PlacedNode) (node : Node) (marks : Marks) → 2 ≤ inner.level → nodes inner.place.0 ≡ Some node → is_dirty_node asked.root inner.level inner.index node ≡ true
    → node_read asked nodes inner.level inner.index inner.place marks
    ≡ each (left_read asked nodes) (children_from 32 (inner.level - 1) inner.index inner.place node.words 0) (reached_also inner.place marks)
node_read-inner asked nodes inner node marks two e right =
    let level : inner.level ≡ suc (suc (inner.level - 2)) = omega arith in
    let below : suc (inner.level - 2) ≡ inner.level - 1 = omega arith in
    let right' : is_dirty_node asked.root (suc (suc (inner.level - 2))) inner.index node ≡ true = subst (λ l. is_dirty_node asked.root l inner.index node ≡ true) level right in
    let children : ℕ → List Child = λ l. children_from 32 l inner.index inner.place node.words 0 in
    ap (λ l. node_read asked nodes l inner.index inner.place marks) level
    ∙ (above_leaves asked nodes (inner.level - 2) inner.index inner.place node marks e right'
    ∙ (children-left asked nodes (suc (inner.level - 2)) (children (suc (inner.level - 2))) (reached_also inner.place marks) (children-level 32 (suc (inner.level - 2)) inner.index inner.place node.words 0)
    ∙ ap (λ l. each (left_read asked nodes) (children l) (reached_also inner.place marks)) below))

-- ---- what is left

-- the next child, and then the others
pub rest_read-next : (asked : Asked) (nodes : Nodes) (items rest : List Child) (child : Child) (marks : Marks) → items ≡ rest ++ child ∷ []
    → rest_read asked nodes items marks ≡ (left_read asked nodes child marks then rest_read asked nodes rest)
unfolding each
rest_read-next asked nodes items rest child marks e = ap (λ (xs : List Child). each (left_read asked nodes) xs marks) (ap (λ (xs : List Child). reverse xs) e ∙ reverse-append rest (child ∷ []))

-- ---- words that are put on top, the first last

-- one word more
pub children-next : (k level index : ℕ) (here : Place) (words : List ℕ) (rest left left' : List Child) (child : Child) → k < 32
    → reverse left ≡ children_from k level index here words (32 - k) ++ rest → slice_index words (31 - k) ≢ 0 → child ≡ record { level = level; index = 32 * index + (31 - k); word = slice_index words (31 - k); from = here }
    → left' ≡ left ++ child ∷ [] → reverse left' ≡ children_from (k + 1) level index here words (32 - (k + 1)) ++ rest
unfolding children_from
children-next k level index here words rest left left' child below before some is put =
    let at : 32 - (k + 1) ≡ 31 - k = omega arith in
    let after : 31 - k + 1 ≡ 32 - k = omega arith in
    let not_none : nat_eq (slice_index words (31 - k)) 0 ≡ false = ne_eqb (slice_index words (31 - k)) 0 some in
    let made : Child = record { level = level; index = 32 * index + (31 - k); word = slice_index words (31 - k); from = here } in
    let all : children_from (k + 1) level index here words (31 - k) ≡ made ∷ children_from k level index here words (32 - k) =
    ap (λ n. children_from n level index here words (31 - k)) (add-one k) ∙ (rw not_none refl ∙ ap (λ n. made ∷ children_from k level index here words n) after) in
    ap (λ (xs : List Child). reverse xs) put
    ∙ (reverse-append left (child ∷ [])
    ∙ (ap (λ (xs : List Child). child ∷ xs) before
    ∙ (ap (λ (c : Child). c ∷ children_from k level index here words (32 - k) ++ rest) is
    ∙ (ap (λ (xs : List Child). xs ++ rest) (sym all) ∙ ap (λ n. children_from (k + 1) level index here words n ++ rest) (sym at)))))

-- a word that names none
pub children-skip : (k level index : ℕ) (here : Place) (words : List ℕ) (rest left left' : List Child) → k < 32
    → reverse left ≡ children_from k level index here words (32 - k) ++ rest → slice_index words (31 - k) ≡ 0 → left' ≡ left → reverse left' ≡ children_from (k + 1) level index here words (32 - (k + 1)) ++ rest
unfolding children_from
children-skip k level index here words rest left left' below before none put =
    let at : 32 - (k + 1) ≡ 31 - k = omega arith in
    let after : 31 - k + 1 ≡ 32 - k = omega arith in
    let all : children_from (k + 1) level index here words (31 - k) ≡ children_from k level index here words (32 - k) =
    ap (λ n. children_from n level index here words (31 - k)) (add-one k) ∙ (rw none refl ∙ ap (λ n. children_from k level index here words n) after) in
    ap (λ (xs : List Child). reverse xs) put ∙ (before ∙ (ap (λ (xs : List Child). xs ++ rest) (sym all) ∙ ap (λ n. children_from (k + 1) level index here words n ++ rest) (sym at)))

-- all words
pub children-all : (k level index : ℕ) (here : Place) (words : List ℕ) (rest left : List Child) → 32 ≤ k → k ≤ 32
    → reverse left ≡ children_from k level index here words (32 - k) ++ rest → reverse left ≡ children_from 32 level index here words 0 ++ rest
children-all k level index here words rest left from to before =
    let e : k ≡ 32 = omega arith in
    before ∙ ap (λ n. children_from n level index here words (32 - n) ++ rest) e

-- ---- past the last cache block

pub first_past : (index level blocks : ℕ) → blocks ≤ index → ltb (64 * (index * 32 ^ level)) blocks ≡ false
first_past index level blocks past =
    let some : 1 ≤ 32 ^ level = one-le-pow level 32 (omega arith) in
    let more : index * 1 ≤ index * 32 ^ level = mul-le-mul_left index some in
    let far : blocks ≤ 64 * (index * 32 ^ level) = omega arith in
    le-ltb (64 * (index * 32 ^ level)) blocks far

-- no word yet
pub children-zero : (level index : ℕ) (here : Place) (words : List ℕ) (rest : List Child) → children_from 0 level index here words 32 ++ rest ≡ rest
unfolding children_from
children-zero level index here words rest = refl
