use Rattle.std.proofs.Common.{◌≡◌, ℕ, ◌-◌, ◌<◌, ◌≤◌, ◌+◌, ◌∙◌, refl, sym, ap, subst, arith}
use Rattle.wb_tree.specs.Mapping.{Mapping}
use Rattle.wb_policy.specs.Law.{AreMapped, origins}
use Rattle.wb_desk.specs.Desks.{DeskState}
use Rattle.wb_desk.specs.Settling.{IsTicked}
use Rattle.wb_desk.proofs.Giving.{one_more_tick, last_tick, no_tick_left}
use Rattle.wb_desk.proofs.Safe.{none_decided, decided_then}
use Rattle.wb_desk.proofs.desk.Desk.tick.Goals as goal

pub loop-given-init : goal.loop-given-init
loop-given-init g c =
    let whole : c.args.self.now.geometry.cache_blocks + 1 - 0 ≡ c.args.self.now.geometry.cache_blocks + 1 = omega arith in
    record {
      tree = refl;
      calls = none_decided g.P.Policy.knows c.args.self.now c.args.self.now refl;
      told = λ new h. subst (λ (n : ℕ). IsTicked g.P.Policy.cleaned g.P.Policy.ticked c.args.dirty.now n 0 c.args.self.now new) whole h;
    }

pub tick_one-requires-clause-mapped : goal.tick_one-requires-clause-mapped
tick_one-requires-clause-mapped g c = subst (λ (t : Mapping). AreMapped (origins t.entries) c.args.dirty.now) (sym c.loop-given.invariant.tree) c.requires.mapped

pub returns-then-not-tick_one-clause-ticked : goal.returns-then-not-tick_one-clause-ticked
returns-then-not-tick_one-clause-ticked g c =
    let l : c.loop-given.given < c.args.self.now.geometry.cache_blocks + 1 = omega (arith, c.loop-given-test.true, ap (λ (d : DeskState _). d.geometry.cache_blocks) c.self.view_is) in
    c.loop-given.invariant.told c.tick_one.new.self
    (last_tick g.P.Policy.cleaned g.P.Policy.ticked c.args.dirty.now (c.args.self.now.geometry.cache_blocks + 1) c.loop-given.given c.loop-given.self c.tick_one.new.self l c.if-not-tick_one.ensures.ends)

pub loop-given-preserved : goal.loop-given-preserved
loop-given-preserved g c =
    let l : c.loop-given.given < c.args.self.now.geometry.cache_blocks + 1 = omega (arith, c.loop-given-test.true, ap (λ (d : DeskState _). d.geometry.cache_blocks) c.self.view_is) in
    record {
      tree = c.tick_one.ensures.tree ∙ c.loop-given.invariant.tree;
      calls = decided_then g.P.Policy.knows c.args.self.now c.loop-given.self c.tick_one.new.self c.loop-given.invariant.calls c.tick_one.ensures.calls;
      told = λ new h. c.loop-given.invariant.told new
          (one_more_tick g.P.Policy.cleaned g.P.Policy.ticked c.args.dirty.now (c.args.self.now.geometry.cache_blocks + 1) c.loop-given.given c.loop-given.self c.tick_one.new.self new l c.if-not-tick_one.ensures.gives h);
    }

pub returns-clause-ticked : goal.returns-clause-ticked
returns-clause-ticked g c =
    let l : c.args.self.now.geometry.cache_blocks + 1 ≤ c.loop-given.given = omega (arith, c.loop-given-test.false, ap (λ (d : DeskState _). d.geometry.cache_blocks) c.self.view_is) in
    c.loop-given.invariant.told c.loop-given.self
    (no_tick_left g.P.Policy.cleaned g.P.Policy.ticked c.args.dirty.now (c.args.self.now.geometry.cache_blocks + 1) c.loop-given.given c.loop-given.self l)

pub returns-then-not-tick_one-clause-calls : goal.returns-then-not-tick_one-clause-calls
returns-then-not-tick_one-clause-calls g c = decided_then g.P.Policy.knows c.args.self.now c.loop-given.self c.tick_one.new.self c.loop-given.invariant.calls c.tick_one.ensures.calls
