use Rattle.std.proofs.Common.{sym, ap, subst, ◌∙◌, None}
use Rattle.wb_policy.specs.Law.{Holdings, origins}
use Rattle.wb_desk.proofs.Entering.{set_origin}
use Rattle.wb_desk.proofs.Leaving.{entry_there}
use Rattle.wb_desk.proofs.desk.mapping.leave.Goals as goal

pub returns-clause-knows : goal.returns-clause-knows
returns-clause-knows g c = subst (λ (m : Holdings). g.P.Policy.knows c.unmapped.new.self m)
    (sym (ap origins c.clear.ensures.entries ∙ set_origin c.args.tree.now.entries c.args.c.0 None))
    (c.unmapped.ensures.knows (origins c.args.tree.now.entries) c.args.c.0 c.requires.knows c.requires.mapped)

pub returns-clause-tree : goal.returns-clause-tree
returns-clause-tree g c = record {
  entries = c.clear.ensures.entries;
  forgets = c.clear.ensures.forgets (entry_there c.args.tree.now.entries c.args.b.0 c.args.c.0 c.requires.mapped);
  others = c.clear.ensures.stays_off;
  edited = c.clear.ensures.edited;
  sound = c.clear.ensures.sound;
}
