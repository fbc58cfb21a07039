use Rattle.std.proofs.Common.{◌≡◌, ◌∙◌, ap, List, true, false}
use Rattle.wb_types.specs.declared.number.Place.{Place}
use Rattle.wb_format.specs.declared.root.Root.{Root}
use Rattle.wb_dirty.specs.Reading.{names_node}
use Rattle.wb_dirty.proofs.Loads.{rest-named, rest-unnamed}
use Rattle.wb_dirty.proofs.children.next_wanted.Goals as goal

pub returns-in-Some-node-clause-goes_on : goal.returns-in-Some-node-clause-goes_on
returns-in-Some-node-clause-goes_on c asked nodes marks root reached =
    let named : names_node asked.root marks.reached c.in-Some.child ≡ true =
    ap (λ (r : Root). names_node r marks.reached c.in-Some.child) root ∙ (ap (λ (p : List Place). names_node c.args.root.now p c.in-Some.child) reached ∙ c.in-Some-node.ensures.named) in
    rest-named asked nodes c.args.left.now.items c.pop.new.self.items c.in-Some.child c.in-Some-node.node marks c.in-Some.ensures.items named c.in-Some-node.ensures.level c.in-Some-node.ensures.index c.in-Some-node.ensures.place

pub returns-in-None-clause-err : goal.returns-in-None-clause-err
returns-in-None-clause-err c asked nodes marks root reached =
    let unnamed : names_node asked.root marks.reached c.in-Some.child ≡ false =
    ap (λ (r : Root). names_node r marks.reached c.in-Some.child) root ∙ (ap (λ (p : List Place). names_node c.args.root.now p c.in-Some.child) reached ∙ c.in-None.ensures.none) in
    rest-unnamed asked nodes c.args.left.now.items c.pop.new.self.items c.in-Some.child marks c.in-Some.ensures.items unnamed
