-- What is read of dirty bits depends on the places that it reaches beside those that were reached before.
use Rattle.std.proofs.Common.{◌≡◌, ◌+◌, ◌*◌, ℕ, zero, suc, Bool, true, false, cond, nat_eq, List, [], ◌∷◌, ◌++◌, Option, Some, None, Ok, Err, refl, sym, ◌∙◌, ap, subst}
use Rattle.std.specs.Prelude.{if◌then◌else◌}
use Rattle.std.specs.List.{range_with_len}
use Rattle.std.proofs.lemmas.List.{append_assoc, append-nil}
use Rattle.std.proofs.lemmas.Bool.{false_from_ne_true, false≢true}
use Rattle.wb_types.proofs.Truth.{or_true, yes}
use Rattle.wb_types.specs.declared.number.Place.{Place}
use Rattle.wb_format.specs.declared.node.Node.{Node}
use Rattle.wb_format.specs.declared.root.Root.{Root}
use Rattle.wb_tree.specs.Reading.{Nodes, ◌then◌}
use Rattle.wb_tree.proofs.Reading.Steps.{then_ok}
use Rattle.wb_dirty.specs.declared.children.Child.{Child}
use Rattle.wb_dirty.specs.Reading.{Asked, Marks, MarksOutcome, each, is_among, bit_read, bits_read, children_from, names_node, dirty_child_read, is_dirty_node, reached_also, dirty_words_read, node_read, dirty_top_read, slot_of_root, none_dirty, dirty_read}
use Rattle.wb_types.specs.Limits.{dirty_depth_of}
use Rattle.wb_dirty.proofs.Steps.{each-none, each-first, names_node-is}
use Rattle.wb_bits.specs.BitWords.{is_member}

-- ---- places

pub either_here : (here s t : Bool) → cond here true s ≡ true → (s ≡ true → t ≡ true) → cond here true t ≡ true
either_here true s t r rest = refl
either_here false s t r rest = rest r

pub among_first : (place : ℕ) (xs ys : List Place) → is_among place xs ≡ true → is_among place (xs ++ ys) ≡ true
among_first place [] ys r = absurd (false≢true r)
among_first place (x ∷ xs) ys r = either_here (nat_eq x.0 place) (is_among place xs) (is_among place (xs ++ ys)) r (λ rest. among_first place xs ys rest)

pub among_last : (place : Place) (xs : List Place) → is_among place.0 (xs ++ place ∷ []) ≡ true
among_last place [] = ap (λ (here : Bool). cond here true false) (yes place.0)
among_last place (x ∷ xs) = or_true (nat_eq x.0 place.0) (is_among place.0 (xs ++ place ∷ [])) (among_last place xs)

-- ---- readings

-- the same is read at the places that were reached, but for those that were before
abbrev pub AgreeBeside : List Place → List Place → Nodes → Nodes → Type 0
AgreeBeside start reached a b = (place : ℕ) → is_among place reached ≡ true → is_among place start ≡ false → a place ≡ b place

-- those were reached
abbrev Has : List Place → List Place → Type 0
Has start reached = (place : ℕ) → is_among place start ≡ true → is_among place reached ≡ true

-- what was reached is still reached, and where the same is read there, another reading gives the same
record Leads (start : List Place) (a b : Nodes) (other : MarksOutcome) (marks after : Marks) : Type 0 where
  pub rest : List Place
  pub grown : after.reached ≡ marks.reached ++ rest
  pub same : AgreeBeside start after.reached a b → other ≡ Ok after

abbrev Leading : List Place → Nodes → Nodes → (Marks → MarksOutcome) → (Marks → MarksOutcome) → Type 0
Leading start a b read other = (marks after : Marks) → Has start marks.reached → read marks ≡ Ok after → Leads start a b (other marks) marks after

more : (start : List Place) (a b : Nodes) (other : MarksOutcome) (marks after : Marks) → Leads start a b other marks after → (place : ℕ) → is_among place marks.reached ≡ true → is_among place after.reached ≡ true
more start a b other marks after leads place r = subst (λ (reached : List Place). is_among place reached ≡ true) (sym leads.grown) (among_first place marks.reached leads.rest r)

-- nothing was reached
stays : (start : List Place) (a b : Nodes) (other : MarksOutcome) (marks after : Marks) → after.reached ≡ marks.reached → other ≡ Ok after → Leads start a b other marks after
stays start a b other marks after same e = record { rest = []; grown = same ∙ sym (append-nil marks.reached); same = λ agree. e }

each_leading : {X : Type 0} (start : List Place) (a b : Nodes) (step other : X → Marks → MarksOutcome) → ((x : X) → Leading start a b (step x) (other x)) → (xs : List X) → Leading start a b (each step xs) (each other xs)
each_leading start a b step other h [] marks after has e =
    let both : ◌≡◌ {A = MarksOutcome} (Ok marks) (Ok after) = sym (each-none step marks) ∙ e in
    let same : marks ≡ after = cc in
    stays start a b (each other [] marks) marks after (sym (ap (λ (m : Marks). m.reached) same)) (each-none other marks ∙ both)
each_leading start a b step other h (x ∷ xs) marks after has e =
    let w = then_ok (step x marks) (each step xs) after (sym (each-first step x xs marks) ∙ e) in
    let one = h x marks w.0 has w.1 in
    let rest = each_leading start a b step other h xs w.0 after (λ place s. more start a b (other x marks) marks w.0 one place (has place s)) w.2 in
    record {
      rest = one.rest ++ rest.rest;
      grown = rest.grown ∙ (ap (λ (reached : List Place). reached ++ rest.rest) one.grown ∙ append_assoc marks.reached one.rest rest.rest);
      same = λ agree.
          each-first other x xs marks
          ∙ (ap (λ (reading : MarksOutcome). reading then each other xs) (one.same (λ place r s. agree place (more start a b (each other xs w.0) w.0 after rest place r) s)) ∙ rest.same agree);
    }

-- a bit reaches nothing
bit_by : (start : List Place) (a b : Nodes) (test : Bool) (here : Place) (marks made after : Marks) → made.reached ≡ marks.reached → (if test then Ok made else Err here) ≡ Ok after
    → Leads start a b (if test then Ok made else Err here) marks after
bit_by start a b true here marks made after same e = let is : made ≡ after = cc in stays start a b (Ok made) marks after (sym (ap (λ (m : Marks). m.reached) is) ∙ same) e
bit_by start a b false here marks made after same e = absurd cc

bit_leading : (start : List Place) (a b : Nodes) (asked : Asked) (here : Place) (block : ℕ) (bit : Bool) → Leading start a b (bit_read asked here block bit) (bit_read asked here block bit)
bit_leading start a b asked here block false marks after has e = let same : marks ≡ after = cc in stays start a b (Ok marks) marks after (sym (ap (λ (m : Marks). m.reached) same)) e
bit_leading start a b asked here block true marks after has e = bit_by start a b _ here marks _ after refl e

-- a child is read where its place was not reached
child_by : (start : List Place) (a b : Nodes) (read other : ℕ → Place → Marks → MarksOutcome) → ((index : ℕ) (here : Place) (marks after : Marks) → Has start marks.reached → is_among here.0 marks.reached ≡ false → read index here marks ≡ Ok after
    → Leads start a b (other index here marks) marks after) → (test : Bool) (child : Child) (marks after : Marks) → Has start marks.reached → (test ≡ true → is_among child.word marks.reached ≡ false)
    → (if test then read child.index (record { 0 = child.word }) marks else Err child.from) ≡ Ok after → Leads start a b (if test then other child.index (record { 0 = child.word }) marks else Err child.from) marks after
child_by start a b read other h true child marks after has fresh e = h child.index (record { 0 = child.word }) marks after has (fresh refl) e
child_by start a b read other h false child marks after has fresh e = absurd cc

-- what is spelled here
words_by : (start : List Place) (a b : Nodes) (root : Root) (level index : ℕ) (here : Place) (read other : Node → Marks → MarksOutcome) → ((node : Node) → Leading start a b (read node) (other node)) → (test : Bool) (node : Node) (marks after : Marks)
    → Has start marks.reached → (if test then read node (reached_also here marks) else Err here) ≡ Ok after → Leads start a b (if test then other node (reached_also here marks) else Err here) (reached_also here marks) after
words_by start a b root level index here read other h true node marks after has e = h node (reached_also here marks) after (λ place s. among_first place marks.reached (here ∷ []) (has place s)) e
words_by start a b root level index here read other h false node marks after has e = absurd cc

words_leading : (start : List Place) (a b : Nodes) (root : Root) (level index : ℕ) (here : Place) (read other : Node → Marks → MarksOutcome) → ((node : Node) → Leading start a b (read node) (other node)) → (was : Option Node) → a here.0 ≡ was → (marks after : Marks)
    → Has start marks.reached → is_among here.0 marks.reached ≡ false → dirty_words_read root level index here read was marks ≡ Ok after → Leads start a b (dirty_words_read root level index here other (b here.0) marks) marks after
words_leading start a b root level index here read other h None is marks after has fresh e = absurd cc
words_leading start a b root level index here read other h (Some node) is marks after has fresh e =
    let rest = words_by start a b root level index here read other h (is_dirty_node root level index node) node marks after has e in
    record {
      rest = here ∷ rest.rest;
      grown = rest.grown ∙ append_assoc marks.reached (here ∷ []) rest.rest;
      same = λ agree.
          let beside : is_among here.0 start ≡ false = false_from_ne_true (is_among here.0 start) (λ s. false≢true (sym fresh ∙ has here.0 s)) in
          let among : is_among here.0 after.reached ≡ true = more start a b _ (reached_also here marks) after rest here.0 (among_last here marks.reached) in
          let there : b here.0 ≡ Some node = sym (agree here.0 among beside) ∙ is in
          ap (λ (o : Option Node). dirty_words_read root level index here other o marks) there ∙ rest.same agree;
    }

node_leading : (start : List Place) (a b : Nodes) (asked : Asked) (level index : ℕ) (here : Place) (marks after : Marks) → Has start marks.reached → is_among here.0 marks.reached ≡ false → node_read asked a level index here marks ≡ Ok after
    → Leads start a b (node_read asked b level index here marks) marks after
unfolding node_read
node_leading start a b asked zero index here marks after has fresh e = absurd cc
node_leading start a b asked (suc zero) index here marks after has fresh e =
    words_leading start a b asked.root 1 index here (λ node. bits_read asked here index node.words) (λ node. bits_read asked here index node.words)
    (λ node. each_leading start a b _ _ (λ k. bit_leading start a b asked here (2048 * index + k) (is_member node.words k)) (range_with_len 0 2048)) (a here.0) refl marks after has fresh e
node_leading start a b asked (suc (suc level)) index here marks after has fresh e =
    words_leading start a b asked.root (suc (suc level)) index here _ _
    (λ node. each_leading start a b (dirty_child_read asked.root (node_read asked a (suc level))) (dirty_child_read asked.root (node_read asked b (suc level)))
    (λ child marks after has e. child_by start a b (node_read asked a (suc level)) (node_read asked b (suc level)) (λ i place m n h f r. node_leading start a b asked (suc level) i place m n h f r)
    (names_node asked.root marks.reached child) child marks after has (λ named. (names_node-is asked.root marks.reached child named).unread) e)
    (children_from 32 (suc level) index here node.words 0)) (a here.0) refl marks after has fresh e

top_by : (start : List Place) (a b : Nodes) (asked : Asked) (depth : ℕ) (top : Place) (test : Bool) (marks after : Marks) → is_among top.0 marks.reached ≡ test → Has start marks.reached
    → (if test then Err (slot_of_root asked.root) else node_read asked a depth 0 top marks) ≡ Ok after → Leads start a b (if test then Err (slot_of_root asked.root) else node_read asked b depth 0 top marks) marks after
top_by start a b asked depth top true marks after is has e = absurd cc
top_by start a b asked depth top false marks after is has e = node_leading start a b asked depth 0 top marks after has is e

top_leading : (start : List Place) (a b : Nodes) (asked : Asked) (depth : ℕ) (top : Option Place) → Leading start a b (dirty_top_read asked a depth top) (dirty_top_read asked b depth top)
top_leading start a b asked depth None marks after has e = let same : marks ≡ after = cc in stays start a b (Ok marks) marks after (sym (ap (λ (m : Marks). m.reached) same)) e
top_leading start a b asked depth (Some top) marks after has e = top_by start a b asked depth top (is_among top.0 marks.reached) marks after refl has e

-- what is read of dirty bits is read where the same is read at the places beside those that were reached before
pub record DirtyFollows (asked : Asked) (a b : Nodes) (reached : List Place) (marks : Marks) : Type 0 where
  pub rest : List Place
  pub grown : marks.reached ≡ reached ++ rest
  pub same : AgreeBeside reached marks.reached a b → dirty_read asked b reached ≡ Ok marks

pub dirty_following : (asked : Asked) (a b : Nodes) (reached : List Place) (marks : Marks) → dirty_read asked a reached ≡ Ok marks → DirtyFollows asked a b reached marks
dirty_following asked a b reached marks e =
    let leads = top_leading reached a b asked (dirty_depth_of asked.root.geometry.cache_blocks) asked.root.top_dirty (none_dirty asked reached) marks (λ place s. s) e in
    record { rest = leads.rest; grown = leads.grown; same = leads.same }
