use Rattle.std.proofs.Common.{◌≡◌, ◌++◌, ◌∙◌, ◌+◌, [], length, drop, ap, sym, append_assoc, arith}
use Rattle.std.proofs.lemmas.List.{append-nil, map-append}
use Rattle.wb_tree.specs.Branches.{Branch, known_below, known_in, placed_here}
use Rattle.wb_tree.specs.declared.placed.PlacedNode.{PlacedNode}
use Rattle.wb_tree.proofs.Nodes.Knowing.{places}
use Rattle.wb_tree.proofs.Branching.Looks.{collect_next, collect_done}
use Rattle.wb_tree.proofs.tree.node.Node.+collect.Goals.{in-Some-kid+in_ok-collect, in_default-kid, in-Some+in_ok-push, in_default}
use Rattle.wb_tree.proofs.tree.node.Node.+collect.Goals as goal

pub loop-kid-preserved : goal.loop-kid-preserved
loop-kid-preserved g t c =
    let kids = c.deref-kid-items.result.now in
    let next = collect_next kids c.loop-kid.kid-index c.kid-item.result c.loop-kid.places.items _ c.loop-kid-test.true c.kid-item.is c.loop-kid.invariant in
    elim c.match-kid.branch [
      | in-Some-kid+in_ok-collect w ↦
          let is : c.match-kid.places.items ≡ c.loop-kid.places.items ++ places (known_in c.kid-item.result) =
          ap (λ v. v.items) w.places-is ∙ (w.in_ok-collect.ensures ∙ (ap (λ (b : Branch). c.loop-kid.places.items ++ places b.known) w.deref.ensures ∙ ap (λ o. c.loop-kid.places.items ++ places (known_in o)) (sym w.in-Some-kid.is))) in
          ap (λ ps. ps ++ places (known_below (drop (c.loop-kid.kid-index + 1) kids))) is ∙ next
      | in_default-kid w ↦
          let is : c.match-kid.places.items ≡ c.loop-kid.places.items ++ places (known_in c.kid-item.result) =
          ap (λ v. v.items) w.places-is ∙ (sym (append-nil c.loop-kid.places.items) ∙ ap (λ o. c.loop-kid.places.items ++ places (known_in o)) (sym w.in_default-kid.is)) in
          ap (λ ps. ps ++ places (known_below (drop (c.loop-kid.kid-index + 1) kids))) is ∙ next
    ]

pub returns : goal.returns
returns g t c = collect_done c.deref-kid-items.result.now c.loop-kid.kid-index c.loop-kid.places.items _ c.loop-kid-test.false c.loop-kid.invariant

pub returns-then-self-eq1 : goal.returns-then-self-eq1
returns-then-self-eq1 g t c =
    let b = c.self.inside in
    let none : b.kids.items ≡ [] = c.self.invariant.leaf c.if-self-eq1.true in
    let known : places (placed_here b.place b.level b.index) ++ places (known_below b.kids.items) ≡ places c.args.self.now.known =
    sym (map-append (λ (node : PlacedNode). node.place) (placed_here b.place b.level b.index) (known_below b.kids.items)) ∙ ap (λ (v : Branch). places v.known) c.self.view_is in
    let here : c.match-self.places.items ≡ c.args.places.now.items ++ places (placed_here b.place b.level b.index) = elim c.match-self.branch [
      | in-Some+in_ok-push w ↦ ap (λ v. v.items) w.places-is ∙ (w.in_ok-push.ensures.items ∙ ap (λ o. c.args.places.now.items ++ places (placed_here o b.level b.index)) (sym w.in-Some.is))
      | in_default w ↦ ap (λ v. v.items) w.places-is ∙ (sym (append-nil c.args.places.now.items) ∙ ap (λ o. c.args.places.now.items ++ places (placed_here o b.level b.index)) (sym w.in_default.is))
    ] in
    collect_done b.kids.items 0 c.match-self.places.items (c.args.places.now.items ++ places c.args.self.now.known) (omega (arith, ap length none))
    (ap (λ ps. ps ++ places (known_below b.kids.items)) here
    ∙ append_assoc c.args.places.now.items (places (placed_here b.place b.level b.index)) (places (known_below b.kids.items))
    ∙ ap (λ ps. c.args.places.now.items ++ ps) known)
