-- A reading that goes on with the node that is wanted.
use Rattle.std.proofs.Common.{zero, suc, ◌≡◌, ◌≤◌, ◌-◌, ◌∙◌, sym, ap, subst, refl, ℕ, Bool, true, false, List, [], ◌∷◌, ◌++◌, Option, Some, None, Ok, Err, reverse, arith}
use Rattle.std.specs.Prelude.{All}
use Rattle.std.proofs.lemmas.List.Elements.{All-append}
use Rattle.wb_types.specs.declared.number.Place.{Place}
use Rattle.wb_format.specs.declared.node.Node.{Node}
use Rattle.wb_tree.specs.declared.placed.PlacedNode.{PlacedNode}
use Rattle.wb_tree.specs.Reading.{Nodes, ◌then◌}
use Rattle.wb_tree.proofs.Reading.Steps.{then_nothing}
use Rattle.wb_tree.proofs.Reading.LoaderSteps.{by_told}
use Rattle.wb_dirty.specs.declared.children.Child.{Child}
use Rattle.wb_dirty.specs.Reading.{Asked, Marks, MarksOutcome, each, is_among, bits_read, children_from, names_node, is_dirty_node, reached_also, node_read, dirty_top_read}
use Rattle.wb_dirty.specs.Loading.{DirtyLoading, outcome_of, wanted_read, rest_read, left_read}
use Rattle.wb_dirty.proofs.Steps.{each-none, each-append, then-same, rest_read-next, dirty_child_read-named, dirty_child_read-unnamed, same_node_read, node_read-none, node_read-other, node_read-leaf, node_read-inner}

-- the node that is wanted, and then what is left
pub outcome-wanted : (l : DirtyLoading) (wanted : PlacedNode) (nodes : Nodes) → l.wanted ≡ Some wanted → outcome_of l nodes ≡ wanted_read l.asked nodes l.left (Some wanted) l.marks
outcome-wanted l wanted nodes e = ap (λ (o : Option PlacedNode). wanted_read l.asked nodes l.left o l.marks) e

rest_of : Asked → Nodes → List Child → MarksOutcome → MarksOutcome
rest_of asked nodes left reading = reading then rest_read asked nodes left

-- nothing, or another node, is spelled there
outcome-none : (l : DirtyLoading) (wanted : PlacedNode) (nodes : Nodes) → l.wanted ≡ Some wanted → nodes wanted.place.0 ≡ None → outcome_of l nodes ≡ Err wanted.place
unfolding rest_of
outcome-none l wanted nodes e none = outcome-wanted l wanted nodes e ∙ ap (rest_of l.asked nodes l.left) (node_read-none l.asked nodes wanted.level wanted.index wanted.place l.marks none)

outcome-other : (l : DirtyLoading) (wanted : PlacedNode) (nodes : Nodes) (node : Node) → l.wanted ≡ Some wanted → nodes wanted.place.0 ≡ Some node → is_dirty_node l.asked.root wanted.level wanted.index node ≡ false
    → outcome_of l nodes ≡ Err wanted.place
unfolding rest_of
outcome-other l wanted nodes node e some wrong = outcome-wanted l wanted nodes e ∙ ap (rest_of l.asked nodes l.left) (node_read-other l.asked nodes wanted.level wanted.index wanted.place node l.marks some wrong)

-- what is spelled there is not what is wanted
pub outcome-wrong : (l : DirtyLoading) (wanted : PlacedNode) (nodes : Nodes) → l.wanted ≡ Some wanted → ((node : Node) → nodes wanted.place.0 ≡ Some node → is_dirty_node l.asked.root wanted.level wanted.index node ≡ false)
    → outcome_of l nodes ≡ Err wanted.place
outcome-wrong l wanted nodes e = by_told (nodes wanted.place.0) _ (outcome-none l wanted nodes e) (λ node some wrong. outcome-other l wanted nodes node e some wrong)

-- a leaf that is wanted, with what its bits give
pub rest-leaf : (asked : Asked) (nodes : Nodes) (left : List Child) (wanted : PlacedNode) (node : Node) (marks : Marks) (reading : MarksOutcome) → wanted.level ≡ 1 → nodes wanted.place.0 ≡ Some node
    → is_dirty_node asked.root wanted.level wanted.index node ≡ true → bits_read asked wanted.place wanted.index node.words (reached_also wanted.place marks) ≡ reading
    → wanted_read asked nodes left (Some wanted) marks ≡ (reading then rest_read asked nodes left)
unfolding rest_of
rest-leaf asked nodes left wanted node marks reading one some right read = ap (rest_of asked nodes left) (node_read-leaf asked nodes wanted node marks one some right ∙ read)

-- a node above the leaves, whose words were put on top of what is left
pub rest-inner : (asked : Asked) (nodes : Nodes) (left left' : List Child) (wanted : PlacedNode) (node : Node) (marks : Marks) → 2 ≤ wanted.level → nodes wanted.place.0 ≡ Some node
    → is_dirty_node asked.root wanted.level wanted.index node ≡ true → reverse left' ≡ children_from 32 (wanted.level - 1) wanted.index wanted.place node.words 0 ++ reverse left
    → wanted_read asked nodes left (Some wanted) marks ≡ rest_read asked nodes left' (reached_also wanted.place marks)
unfolding rest_of
rest-inner asked nodes left left' wanted node marks two some right put =
    ap (rest_of asked nodes left) (node_read-inner asked nodes wanted node marks two some right)
    ∙ (sym (each-append (left_read asked nodes) (children_from 32 (wanted.level - 1) wanted.index wanted.place node.words 0) (reverse left) (reached_also wanted.place marks))
    ∙ ap (λ (xs : List Child). each (left_read asked nodes) xs (reached_also wanted.place marks)) (sym put))

-- the next word names a node
pub rest-named : (asked : Asked) (nodes : Nodes) (items rest : List Child) (child : Child) (node : PlacedNode) (marks : Marks) → items ≡ rest ++ child ∷ [] → names_node asked.root marks.reached child ≡ true
    → node.level ≡ child.level → node.index ≡ child.index → node.place.0 ≡ child.word → rest_read asked nodes items marks ≡ wanted_read asked nodes rest (Some node) marks
unfolding rest_of
rest-named asked nodes items rest child node marks e named level index place =
    rest_read-next asked nodes items rest child marks e
    ∙ ap (rest_of asked nodes rest) (dirty_child_read-named asked.root (node_read asked nodes child.level) child marks named
    ∙ sym (same_node_read asked nodes node.level child.level node.index child.index node.place (record { 0 = child.word }) marks level index place))

-- or none
pub rest-unnamed : (asked : Asked) (nodes : Nodes) (items rest : List Child) (child : Child) (marks : Marks) → items ≡ rest ++ child ∷ [] → names_node asked.root marks.reached child ≡ false
    → rest_read asked nodes items marks ≡ Err child.from
unfolding rest_of
rest-unnamed asked nodes items rest child marks e unnamed =
    rest_read-next asked nodes items rest child marks e ∙ ap (rest_of asked nodes rest) (dirty_child_read-unnamed asked.root (node_read asked nodes child.level) child marks unnamed)

-- no word is left
pub rest-none : (asked : Asked) (nodes : Nodes) (items : List Child) (marks : Marks) → items ≡ [] → rest_read asked nodes items marks ≡ Ok marks
rest-none asked nodes items marks e = ap (λ (xs : List Child). rest_read asked nodes xs marks) e ∙ each-none (left_read asked nodes) marks

-- a reading that has ended
pub outcome-ended : (l : DirtyLoading) (nodes : Nodes) → l.wanted ≡ None → l.left ≡ [] → outcome_of l nodes ≡ Ok l.marks
outcome-ended l nodes wanted left =
    ap (λ (o : Option PlacedNode). wanted_read l.asked nodes l.left o l.marks) wanted ∙ rest-none l.asked nodes l.left l.marks left

-- ---- a node that is taken in

-- a leaf
pub taken-leaf : (asked : Asked) (nodes : Nodes) (left left' : List Child) (wanted : PlacedNode) (node : Node) (reached : List Place) (dirty dirty' dirty'' : List Bool) → wanted.level ≡ 1 → nodes wanted.place.0 ≡ Some node
    → is_dirty_node asked.root wanted.level wanted.index node ≡ true
    → bits_read asked wanted.place wanted.index node.words (record { reached = reached ++ wanted.place ∷ []; dirty = dirty }) ≡ Ok (record { reached = reached ++ wanted.place ∷ []; dirty = dirty' })
    → left' ≡ left → dirty'' ≡ dirty'
    → wanted_read asked nodes left (Some wanted) (record { reached = reached; dirty = dirty }) ≡ rest_read asked nodes left' (record { reached = reached ++ wanted.place ∷ []; dirty = dirty'' })
taken-leaf asked nodes left left' wanted node reached dirty dirty' dirty'' one some right read same now =
    rest-leaf asked nodes left wanted node (record { reached = reached; dirty = dirty }) (Ok (record { reached = reached ++ wanted.place ∷ []; dirty = dirty' })) one some right read
    ∙ (ap (λ (d : List Bool). rest_read asked nodes left (record { reached = reached ++ wanted.place ∷ []; dirty = d })) (sym now)
    ∙ ap (λ (xs : List Child). rest_read asked nodes xs (record { reached = reached ++ wanted.place ∷ []; dirty = dirty'' })) (sym same))

-- what holds of a list and of one item behind it
pub all_push : {X : Type 0} (P : X → Type 0) (xs ys : List X) (x : X) → All P xs → P x → ys ≡ xs ++ x ∷ [] → All P ys
all_push {X} P xs ys x all here e = subst (All P) (sym e) (All-append P xs (x ∷ []) all (alone P x here))
  where
    alone : {X : Type 0} (P : X → Type 0) (x : X) → P x → All P (x ∷ [])
    alone {X} P x here zero d below = here
    alone {X} P x here (suc k) d below = absurd (omega (arith, below))

-- what was told is one reading's
pub top_wanted : (asked : Asked) (nodes : Nodes) (node : PlacedNode) (marks : Marks) → wanted_read asked nodes [] (Some node) marks ≡ node_read asked nodes node.level node.index node.place marks
top_wanted asked nodes node marks =
    then-same (node_read asked nodes node.level node.index node.place marks) (rest_read asked nodes []) (λ (m : Marks). Ok m) (λ m. rest-none asked nodes [] m refl)
    ∙ then_nothing (node_read asked nodes node.level node.index node.place marks)

pub all_none : {X : Type 0} (P : X → Type 0) → All P []
all_none {X} P k d below = absurd (omega (arith, below))

-- ---- the top

-- a root that names none
pub top-none : (asked : Asked) (nodes : Nodes) (depth : ℕ) (top : Option Place) (marks : Marks) → top ≡ None → rest_read asked nodes [] marks ≡ dirty_top_read asked nodes depth top marks
top-none asked nodes depth None marks e = rest-none asked nodes [] marks refl
top-none asked nodes depth (Some place) marks e = absurd cc

-- one whose top was not reached yet
pub top-some : (asked : Asked) (nodes : Nodes) (depth : ℕ) (o : Option Place) (top : Place) (node : PlacedNode) (marks : Marks) → o ≡ Some top → node ≡ record { level = depth; index = 0; place = top } → is_among top.0 marks.reached ≡ false
    → wanted_read asked nodes [] (Some node) marks ≡ dirty_top_read asked nodes depth o marks
top-some asked nodes depth None top node marks e is unread = absurd cc
top-some asked nodes depth (Some place) top node marks e is unread =
    let same : place ≡ top = cc in
    let unread' : is_among place.0 marks.reached ≡ false = subst (λ (p : Place). is_among p.0 marks.reached ≡ false) (sym same) unread in
    top_wanted asked nodes node marks
    ∙ (ap (λ (n : PlacedNode). node_read asked nodes n.level n.index n.place marks) is
    ∙ (ap (λ (p : Place). node_read asked nodes depth 0 p marks) (sym same) ∙ rw unread' refl))
