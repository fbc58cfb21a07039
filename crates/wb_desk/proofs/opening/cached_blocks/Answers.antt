use Rattle.std.proofs.Common.{◌∙◌, ◌+◌, Vec, sym, ap, subst, List, Option}
use Rattle.std.specs.Global.{Global}
use Rattle.wb_types.specs.declared.number.CBlock.{CBlock}
use Rattle.wb_policy.specs.Law.{origins}
use Rattle.wb_desk.proofs.Index.{IndexUpTo, index_entry, index_none, no_entry, index_last, index_end}
use Rattle.wb_desk.proofs.opening.cached_blocks.Goals as goal
use Rattle.wb_desk.proofs.opening.cached_blocks.Goals.{in-Some, in_default}

pub loop-c-preserved : goal.loop-c-preserved
loop-c-preserved c = elim c.match-get.branch [
  | in-Some w ↦
      let there = sym c.get.ensures.entry ∙ w.in-Some.is in
      subst (λ (xs : List (Option CBlock)). IndexUpTo c.args.geometry.now.origin_blocks (origins c.args.tree.now.entries) xs (c.loop-c.c + 1))
      (sym (ap (λ (v : Vec (Option CBlock) Global). v.items) w.cached-is))
      (index_entry c.args.geometry.now.origin_blocks c.args.tree.now.entries c.loop-c.cached.items (record { 0 = c.loop-c.c }) w.in-Some.entry there
      (c.requires.within c.loop-c.c w.in-Some.entry there).0 c.loop-c.invariant)
  | in_default w ↦
      subst (λ (xs : List (Option CBlock)). IndexUpTo c.args.geometry.now.origin_blocks (origins c.args.tree.now.entries) xs (c.loop-c.c + 1))
      (sym (ap (λ (v : Vec (Option CBlock) Global). v.items) w.cached-is))
      (index_none c.args.geometry.now.origin_blocks (origins c.args.tree.now.entries) c.loop-c.cached.items c.loop-c.c
      (no_entry c.args.tree.now.entries c.loop-c.c (sym c.get.ensures.entry ∙ w.in_default.is)) c.loop-c.invariant)
]

pub returns : goal.returns
returns c = index_last c.args.geometry.now.origin_blocks c.args.geometry.now.cache_blocks c.args.tree.now.entries c.loop-c.cached.items c.requires.size
    (index_end c.args.geometry.now.origin_blocks (origins c.args.tree.now.entries) c.loop-c.cached.items c.loop-c.c c.args.geometry.now.cache_blocks c.loop-c-test.false c.loop-c.invariant)
