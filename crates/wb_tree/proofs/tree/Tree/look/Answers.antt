use Rattle.std.proofs.Common.{◌^◌, ◌∙◌, ap, sym}
use Rattle.wb_tree.specs.Mapping.{Mapping, exists}
use Rattle.wb_tree.specs.Branches.{Branch, entries_in}
use Rattle.wb_tree.proofs.Branching.Settled.{exists-boxes, nothing_there_at_all}
use Rattle.wb_tree.proofs.tree.Tree.look.Goals as goal

pub returns-in-Some-clause-there : goal.returns-in-Some-clause-there
returns-in-Some-clause-there g c =
    let b = c.self.inside in
    c.look.ensures.there
    ∙ (ap (λ (v : Branch). exists v.entries c.args.level c.args.index) c.deref.ensures
    ∙ (ap (λ o. exists (entries_in (32 ^ b.depth) o) c.args.level c.args.index) (sym c.in-Some.is)
    ∙ (sym (exists-boxes b.cache_blocks b.depth c.args.level c.args.index b.root c.self.invariant.boxes) ∙ ap (λ (m : Mapping). exists m.entries c.args.level c.args.index) c.self.view_is)))

pub returns-in-None-clause-there : goal.returns-in-None-clause-there
returns-in-None-clause-there g c =
    let b = c.self.inside in
    sym (nothing_there_at_all b.cache_blocks b.depth c.args.level c.args.index b.root c.args.self.now c.in-None.is c.self.invariant.boxes c.self.view_is)
