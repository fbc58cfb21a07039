-- A reading that goes on with the node that is wanted.
use Rattle.std.proofs.Common.{nat_eq, ◌==◌, ◌-◌, take, replicate, ◌≡◌, ◌≤◌, ◌∙◌, sym, ap, subst, refl, ℕ, Bool, true, false, cond, List, [], ◌∷◌, ◌++◌, Option, Some, None, Result, Ok, Err, reverse, arith, leb}
use Rattle.std.specs.Prelude.{if◌then◌else◌, IfSome, IfErr, IsSome, IsErrAnd}
use Rattle.std.proofs.lemmas.Bool.{ne_eqb}
use Rattle.std.proofs.lemmas.List.{take_all}
use Rattle.std.proofs.lemmas.Bool.Decides.{nat_tests}
use Rattle.wb_types.specs.Limits.{depth_of}
use Rattle.wb_types.specs.declared.number.Place.{Place}
use Rattle.wb_types.specs.declared.entry.Entry.{Entry}
use Rattle.wb_types.specs.declared.refusal.Refusal.{Refusal}
use Rattle.wb_types.specs.declared.refusal.Refusal.TheVariants.{Damaged}
use Rattle.wb_format.specs.declared.root.Root.{Root}
use Rattle.wb_format.specs.declared.node.Node.{Node}
use Rattle.wb_tree.specs.declared.placed.PlacedNode.{PlacedNode}
use Rattle.wb_tree.specs.declared.frame.Frame.{Frame}
use Rattle.wb_tree.specs.Reading.{Found, ReadOutcome, Nodes, ◌then◌, is_node_of, is_reached, reached_at, node_read, nothing_found, top_read, tree_read}
use Rattle.wb_tree.specs.Loading.{Loading, outcome, wanted_rest, frames_rest, leaf_read, found_with, node_on_top, top_node, IsFresh, IsLoading, FailsBy, AgreeAt}
use Rattle.wb_tree.proofs.Reading.FrameSteps.{frames_rest-lowest}
use Rattle.wb_tree.proofs.Reading.ReachedLemmas.{is_reached-push}
use Rattle.wb_tree.proofs.Reading.Steps.{then_nothing}
use Rattle.wb_tree.proofs.Reading.NodeSteps.{node_read-none, node_read-other, node_read-leaf, node_read-inner}

-- the node that is wanted, and then what is left
pub outcome-wanted : (l : Loading) (wanted : PlacedNode) (nodes : Nodes) → l.wanted ≡ Some wanted → outcome l nodes ≡ wanted_rest l.root nodes (reverse l.frames) (Some wanted) l.found
outcome-wanted l wanted nodes e = ap (λ (o : Option PlacedNode). wanted_rest l.root nodes (reverse l.frames) o l.found) e

rest_of : Root → Nodes → List Frame → ReadOutcome → ReadOutcome
rest_of root nodes frames reading = reading then frames_rest root nodes frames

-- nothing, or another node, is spelled there
outcome-none : (l : Loading) (wanted : PlacedNode) (nodes : Nodes) → l.wanted ≡ Some wanted → nodes wanted.place.0 ≡ None → outcome l nodes ≡ Err wanted.place
unfolding rest_of
outcome-none l wanted nodes e none = outcome-wanted l wanted nodes e ∙ ap (rest_of l.root nodes (reverse l.frames)) (node_read-none l.root nodes wanted.level wanted.index wanted.place l.found none)

outcome-other : (l : Loading) (wanted : PlacedNode) (nodes : Nodes) (node : Node) → l.wanted ≡ Some wanted → nodes wanted.place.0 ≡ Some node → is_node_of l.root wanted.level wanted.index node ≡ false
    → outcome l nodes ≡ Err wanted.place
unfolding rest_of
outcome-other l wanted nodes node e some wrong = outcome-wanted l wanted nodes e ∙ ap (rest_of l.root nodes (reverse l.frames)) (node_read-other l.root nodes wanted.level wanted.index wanted.place node l.found some wrong)

-- what holds where none is spelled and where another node is, holds where no right one is
pub by_told : {P : Type 0} (o : Option Node) (right : Node → Bool) → (o ≡ None → P) → ((node : Node) → o ≡ Some node → right node ≡ false → P) → ((node : Node) → o ≡ Some node → right node ≡ false) → P
by_told {P} None right none other wrong = none refl
by_told {P} (Some node) right none other wrong = other node refl (wrong node refl)

-- what is spelled there is not what is wanted
pub outcome-wrong : (l : Loading) (wanted : PlacedNode) (nodes : Nodes) → l.wanted ≡ Some wanted → ((node : Node) → nodes wanted.place.0 ≡ Some node → is_node_of l.root wanted.level wanted.index node ≡ false)
    → outcome l nodes ≡ Err wanted.place
outcome-wrong l wanted nodes e = by_told (nodes wanted.place.0) _ (outcome-none l wanted nodes e) (λ node some wrong. outcome-other l wanted nodes node e some wrong)

-- a leaf that is wanted
pub rest-leaf : (root : Root) (nodes : Nodes) (frames : List Frame) (wanted : PlacedNode) (node : Node) (found : Found) → wanted.level ≡ 1 → nodes wanted.place.0 ≡ Some node
    → is_node_of root wanted.level wanted.index node ≡ true
    → wanted_rest root nodes frames (Some wanted) found ≡ (leaf_read root wanted node.words (reached_at wanted.level wanted.index wanted.place found) then frames_rest root nodes frames)
unfolding rest_of
rest-leaf root nodes frames wanted node found one some right = ap (rest_of root nodes frames) (node_read-leaf root nodes wanted node found one some right)

-- with what its words give
pub rest-leaf_read : (root : Root) (nodes : Nodes) (frames : List Frame) (wanted : PlacedNode) (node : Node) (found : Found) (reading : ReadOutcome) → wanted.level ≡ 1 → nodes wanted.place.0 ≡ Some node
    → is_node_of root wanted.level wanted.index node ≡ true → leaf_read root wanted node.words (reached_at wanted.level wanted.index wanted.place found) ≡ reading
    → wanted_rest root nodes frames (Some wanted) found ≡ (reading then frames_rest root nodes frames)
unfolding rest_of
rest-leaf_read root nodes frames wanted node found reading one some right read = rest-leaf root nodes frames wanted node found one some right ∙ ap (rest_of root nodes frames) read

-- a node above the leaves
pub rest-inner : (root : Root) (nodes : Nodes) (node : Node) (frame : Frame) (before after : List Frame) (found : Found) → after ≡ before ++ frame ∷ [] → frame.next ≡ 0 → frame.words ≡ node.words
    → nodes frame.node.place.0 ≡ Some node → is_node_of root frame.node.level frame.node.index node ≡ true
    → wanted_rest root nodes (reverse before) (Some frame.node) found ≡ frames_rest root nodes (reverse after) (reached_at frame.node.level frame.node.index frame.node.place found)
unfolding rest_of
rest-inner root nodes node frame before after found pushed next words some right =
    ap (rest_of root nodes (reverse before)) (node_read-inner root nodes frame node found frame.level_from next words some right)
    ∙ sym (frames_rest-lowest root nodes after before frame (reached_at frame.node.level frame.node.index frame.node.place found) pushed)

-- ---- the same parts

pub pushed_same : {X : Type 0} (xs ys zs : List X) (x : X) → zs ≡ xs ++ x ∷ [] → xs ≡ ys → zs ≡ ys ++ x ∷ []
pushed_same {X} xs ys zs x e same = e ∙ ap (λ (list : List X). list ++ x ∷ []) same

pub found_same : (reached reached' : List PlacedNode) (entries entries' : List (Option Entry)) (mapped mapped' : List Bool) → reached ≡ reached' → entries ≡ entries' → mapped ≡ mapped'
    → found_with reached entries mapped ≡ found_with reached' entries' mapped'
found_same reached reached' entries entries' mapped mapped' a b c =
    ap (λ (r : List PlacedNode). found_with r entries mapped) a ∙ (ap (λ (es : List (Option Entry)). found_with reached' es mapped) b ∙ ap (λ (ms : List Bool). found_with reached' entries' ms) c)

-- what is wanted is one node
pub same_wanted : (a b : PlacedNode) → ◌≡◌ {A = Option PlacedNode} (Some a) (Some b) → a ≡ b
same_wanted a b e = cc

-- a refusal that names the place of the fault
pub fails_there : {X : Type 0} (refusal : Refusal) (place : Place) (reading : Result X Place) → refusal ≡ Damaged place → reading ≡ Err place → FailsBy refusal reading
fails_there {X} refusal place reading e h = rw e h

-- what holds of the refusal that a `?` hands on
pub handed : {T E : Type 0} (r : Result T E) (refusal : E) (P : E → Type 0) → IsErrAnd r (λ e. e ≡ refusal) → P refusal → IfErr r P
handed (Ok x) refusal P is h = tt
handed (Err e) refusal P is h = subst P (sym is) h

-- a `?` hands on that what is spelled at the wanted place is not what is wanted
pub handed_wrong : {T X : Type 0} (r : Result T Refusal) (refusal : Refusal) (now : Option PlacedNode) (here : PlacedNode) (told : Option Node) (right : PlacedNode → Node → Bool) (reading : Nodes → Result X Place)
    → IsErrAnd r (λ e. e ≡ refusal) → now ≡ Some here → refusal ≡ Damaged here.place → ((node : Node) → told ≡ Some node → right here node ≡ false)
    → ((wanted : PlacedNode) (nodes : Nodes) → now ≡ Some wanted → ((node : Node) → nodes wanted.place.0 ≡ Some node → right wanted node ≡ false) → reading nodes ≡ Err wanted.place)
    → IfErr r (λ e. IsSome now × ((wanted : PlacedNode) (nodes : Nodes) → now ≡ Some wanted → nodes wanted.place.0 ≡ told → FailsBy e (reading nodes)))
handed_wrong r refusal now here told right reading is wants damaged other wrong =
    handed r refusal _ is (
      subst IsSome (sym wants) refl,
      λ wanted nodes e as_told.
          let same = same_wanted here wanted (sym wants ∙ e) in
          fails_there refusal wanted.place (reading nodes) (damaged ∙ ap (λ (w : PlacedNode). Damaged w.place) same)
          (wrong wanted nodes e (λ node some. subst (λ (w : PlacedNode). right w node ≡ false) same (other node (sym as_told ∙ some)))),
    )

-- ---- the top

either : (P : ℕ → Type 0) (b : Bool) (x y : ℕ) → P x → P y → P (cond b x y)
either P true x y p q = p
either P false x y p q = q

abbrev pub IsLevel : ℕ → Type 0
IsLevel n = (1 ≤ n) × (n ≤ 4)

-- a tree has one to four levels
pub depth_range : (blocks : ℕ) → IsLevel (depth_of blocks)
unfolding depth_of
depth_range blocks =
    either IsLevel (leb blocks 32) 1 (cond (leb blocks 1024) 2 (cond (leb blocks 32768) 3 4)) (omega arith, omega arith)
    (either IsLevel (leb blocks 1024) 2 (cond (leb blocks 32768) 3 4) (omega arith, omega arith) (either IsLevel (leb blocks 32768) 3 4 (omega arith, omega arith) (omega arith, omega arith)))

pub record IsTopNode (root : Root) (node : PlacedNode) : Type 0 where
  pub from : 1 ≤ node.level
  pub to : node.level ≤ 4
  pub fresh : IsFresh root [] node.place

top_is : (root : Root) (t : Option Place) (node : PlacedNode) → root.top ≡ t → node_on_top root t ≡ Some node → IsTopNode root node
top_is root None node e h = absurd cc
top_is root (Some place) node e h =
    let top : PlacedNode = record { level = depth_of root.geometry.cache_blocks; index = 0; place = place } in
    let range = depth_range root.geometry.cache_blocks in
    let inside = root.top_inside place e in
    let made : IsTopNode root top = record { from = range.0; to = range.1; fresh = record { behind = inside.0; inside = inside.1; unread = refl } } in
    let same : top ≡ node = cc in
    subst (IsTopNode root) same made

pub top_node-is : (root : Root) (node : PlacedNode) → top_node root ≡ Some node → IsTopNode root node
top_node-is root node h = top_is root root.top node refl h

-- ---- what was told

from_top : (root : Root) (nodes : Nodes) (top : Option Place) → wanted_rest root nodes [] (node_on_top root top) (nothing_found root) ≡ top_read root nodes top
from_top root nodes None = refl
from_top root nodes (Some place) = then_nothing (node_read root nodes (depth_of root.geometry.cache_blocks) 0 place (nothing_found root))

-- a reading that has not begun
pub outcome-new : (l : Loading) (nodes : Nodes) → l.wanted ≡ top_node l.root → l.frames ≡ [] → l.found ≡ nothing_found l.root → outcome l nodes ≡ tree_read l.root nodes
outcome-new l nodes wanted frames found =
    ap (λ (fs : List Frame). wanted_rest l.root nodes (reverse fs) l.wanted l.found) frames
    ∙ (ap (λ (o : Option PlacedNode). wanted_rest l.root nodes [] o l.found) wanted
    ∙ (ap (wanted_rest l.root nodes [] (top_node l.root)) found ∙ from_top l.root nodes l.root.top))

-- what was told, and what is told now
pub told_also : Nodes → Place → Node → Nodes
told_also told here node place = if here.0 == place then Some node else told place

told_here : (told : Nodes) (here : Place) (node : Node) → told_also told here node here.0 ≡ Some node
unfolding told_also
told_here told here node = let yes : nat_eq here.0 here.0 ≡ true = grind (arith, nat_tests) in rw yes refl

told_there : (told : Nodes) (here : Place) (node : Node) (place : ℕ) → nat_eq here.0 place ≡ false → told_also told here node place ≡ told place
unfolding told_also
told_there told here node place e = rw e refl

-- where one node more was reached, others that agree with all that was told agree with what was told before
pub told_before : (told others : Nodes) (reached : List PlacedNode) (wanted : PlacedNode) (node : Node) → is_reached wanted.place.0 reached ≡ false → AgreeAt (reached ++ wanted ∷ []) (told_also told wanted.place node) others
    → AgreeAt reached told others × (others wanted.place.0 ≡ Some node)
told_before told others reached wanted node unread agree = (
  λ place r.
      let there : is_reached place (reached ++ wanted ∷ []) ≡ true = is_reached-push place reached wanted ∙ both_true (nat_eq wanted.place.0 place) (is_reached place reached) r in
      sym (told_there told wanted.place node place (other_place wanted.place.0 place reached unread r)) ∙ agree place there,
  sym (agree wanted.place.0 (is_reached-push wanted.place.0 reached wanted ∙ (let yes : nat_eq wanted.place.0 wanted.place.0 ≡ true = grind (arith, nat_tests) in rw yes refl))) ∙ told_here told wanted.place node,
)
  where
    both_true : (t r : Bool) → r ≡ true → cond t true r ≡ true
    both_true true r e = refl
    both_true false r e = e

    other_place : (here place : ℕ) (reached : List PlacedNode) → is_reached here reached ≡ false → is_reached place reached ≡ true → nat_eq here place ≡ false
    other_place here place reached unread r = ne_eqb here place (λ same. let both : true ≡ false = sym r ∙ (ap (λ p. is_reached p reached) (sym same) ∙ unread) in cc)

-- what holds of an item, where there is one
pub if_some : {X : Type 0} (P : X → Type 0) (o : Option X) (x : X) → IfSome o P → o ≡ Some x → P x
if_some {X} P None x h e = absurd cc
if_some {X} P (Some y) x h e = let same : y ≡ x = cc in subst P same h

-- an empty list that grew to so many items
pub grown_empty : {X : Type 0} (xs : List X) (len count : ℕ) (x : X) → xs ≡ [] → len ≡ 0 → take count xs ++ replicate (count - len) x ≡ replicate count x
grown_empty {X} [] len count x e none =
    let all : count - len ≡ count = omega (arith, none) in
    ap (λ (ys : List X). ys ++ replicate (count - len) x) (take_all count [] (omega arith)) ∙ ap (λ n. replicate n x) all
grown_empty {X} (y ∷ xs) len count x e none = absurd cc

-- a reading that has ended
pub outcome-ended : (l : Loading) (nodes : Nodes) → l.wanted ≡ None → l.frames ≡ [] → outcome l nodes ≡ Ok l.found
outcome-ended l nodes wanted frames =
    ap (λ (o : Option PlacedNode). wanted_rest l.root nodes (reverse l.frames) o l.found) wanted ∙ ap (λ (fs : List Frame). frames_rest l.root nodes (reverse fs) l.found) frames

-- what was told is what the tree was read from
pub told-read : (l : Loading) → (loading : IsLoading l) → l.wanted ≡ None → tree_read l.root loading.told ≡ Ok l.found
told-read l loading none = sym (loading.goes_on loading.told (λ place r. refl)) ∙ outcome-ended l loading.told none (loading.ended none)
