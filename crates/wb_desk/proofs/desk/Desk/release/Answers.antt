use Rattle.std.proofs.Common.{◌∙◌, subst, sym, ap}
use Rattle.wb_types.specs.declared.number.CBlock.{CBlock}
use Rattle.wb_desk.specs.Desks.{DeskState, DeskInvariant, IsLive, Takes, holdings}
use Rattle.wb_desk.specs.Calls.{released}
use Rattle.wb_desk.proofs.Kept.{released_kept, found_at, takes_there, own}
use Rattle.wb_desk.proofs.desk.Desk.release.Goals as goal

pub returns-in_default : goal.returns-in_default
returns-in_default g c = λ live.
    let i = subst (λ (d : DeskState _). DeskInvariant g.P.Policy.knows d) c.self.view_is c.self.invariant.desk in
    absurd (c.in_default.ensures.none live.cache (takes_there g.P.Policy.knows c.args.self.now c.args.order i live))

pub release_block-requires : goal.release_block-requires
release_block-requires g c =
    let live = subst (λ (d : DeskState _). IsLive d c.args.order) (sym c.self.view_is) c.requires in
    let t = subst (λ (d : DeskState _). Takes (holdings d) c.in-Some.c c.args.order) (sym c.self.view_is) c.in-Some.ensures.takes in
    (own g.P.Policy.knows _ c.args.order c.in-Some.c c.self.invariant.desk live t).0

pub end-requires : goal.end-requires
end-requires g c =
    let live = subst (λ (d : DeskState _). IsLive d c.args.order) (sym c.self.view_is) c.requires in
    let t = subst (λ (d : DeskState _). Takes (holdings d) c.in-Some.c c.args.order) (sym c.self.view_is) c.in-Some.ensures.takes in
    (own g.P.Policy.knows _ c.args.order c.in-Some.c c.self.invariant.desk live t).1

pub invariant_of-self : goal.invariant_of-self
invariant_of-self g c = rw (c.release_block.ensures, c.end.ensures.state) (record {
  desk = released_kept g.P.Policy.knows _ c.in-Some.c c.self.invariant.desk;
  sound = c.self.invariant.sound;
  index = c.self.invariant.index;
  have_left = c.self.invariant.have_left;
  count = c.self.invariant.count;
})

pub returns : goal.returns
returns g c = λ live.
    let i = subst (λ (d : DeskState _). DeskInvariant g.P.Policy.knows d) c.self.view_is c.self.invariant.desk in
    let e = found_at g.P.Policy.knows c.args.self.now c.args.order c.in-Some.c i live c.in-Some.ensures.takes in
    rw (c.release_block.ensures, c.end.ensures.state) (ap (λ (d : DeskState _). released d c.in-Some.c) c.self.view_is ∙ ap (λ (k : CBlock). released c.args.self.now k) e)
