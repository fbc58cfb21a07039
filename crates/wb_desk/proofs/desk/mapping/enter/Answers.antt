use Rattle.std.proofs.Common.{sym, ap, subst, ◌∙◌, Some}
use Rattle.wb_policy.specs.Law.{Holdings, origins}
use Rattle.wb_desk.specs.Entries.{entry_of}
use Rattle.wb_desk.proofs.Index.{mapped_there}
use Rattle.wb_desk.proofs.Entering.{set_origin}
use Rattle.wb_desk.proofs.desk.mapping.enter.Goals as goal

pub returns-in-Ok-clause-knows : goal.returns-in-Ok-clause-knows
returns-in-Ok-clause-knows g c = subst (λ (m : Holdings). g.P.Policy.knows c.mapped.new.self m)
    (sym (ap origins c.in-Ok.ensures.entries ∙ set_origin c.args.tree.now.entries c.args.c.0 (Some (entry_of c.args.b))))
    (c.in_ok-mapped.ensures.knows (origins c.args.tree.now.entries) c.requires.knows c.requires.unmapped c.requires.vacant)

pub returns-in-Ok-clause-tree : goal.returns-in-Ok-clause-tree
returns-in-Ok-clause-tree g c = record {
  entries = c.in-Ok.ensures.entries;
  forgets = c.in-Ok.ensures.forgets (λ e. c.requires.unmapped c.args.c.0 (mapped_there c.args.tree.now.entries c.args.c.0 (entry_of c.args.b) e));
  others = c.in-Ok.ensures.stays_off;
  edited = c.in-Ok.ensures.edited;
  sound = c.in-Ok.ensures.sound;
}
