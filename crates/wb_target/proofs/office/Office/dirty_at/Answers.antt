use Rattle.std.proofs.Common.{◌≡◌, ◌∙◌, ◌∷◌, Option, Some, true, false, ap, sym, subst, if◌then◌else◌, is_some, map}
use Rattle.std.specs.Prelude.{IfSome}
use Rattle.wb_types.specs.declared.number.OBlock.{OBlock}
use Rattle.wb_tree.specs.Mapping.{entry_at}
use Rattle.wb_words.specs.declared.word.Word.TheVariants.{Seal as SealWord}
use Rattle.wb_policy.specs.Law.{IsMappedAt}
use Rattle.wb_desk.specs.Desks.{holdings}
use Rattle.wb_desk.proofs.Seen.{there}
use Rattle.wb_target.specs.Offices.{OfficeState}
use Rattle.wb_target.specs.Shown.{SawDirty}
use Rattle.wb_target.specs.Suspends.{mapped_block}
use Rattle.wb_target.proofs.Desking.{blocks_there}
use Rattle.wb_target.proofs.Seals.{at_seal}
use Rattle.wb_target.proofs.office.Office.dirty_at.Goals.{then-is_dirty, else-is_dirty}
use Rattle.wb_target.proofs.office.Office.dirty_at.Goals as goal

pub look-requires : goal.look-requires
look-requires g c = blocks_there g.P.Policy.knows c.self.inside.desk _ c.self.invariant c.see_desk.ensures c.args.place.0 c.in_ok-entry.entry (sym c.entry.ensures ∙ c.in_ok-entry.was)

pub returns-clause-looked : goal.returns-clause-looked
returns-clause-looked g c =
    let old = c.args.self.now in
    let here : entry_at old.desk.tree c.args.place.0 ≡ Some c.in_ok-entry.entry =
    sym (c.entry.ensures ∙ ap (λ (office : OfficeState g.row.P.Denot). entry_at office.desk.tree c.args.place.0) c.self.view_is) ∙ c.in_ok-entry.was in
    let saw = ap (λ pass. pass.card.saw) c.look.ensures.pass ∙ ap (λ (office : OfficeState g.row.P.Denot). (SealWord c.in_ok-entry.entry.origin, c.look.result) ∷ office.watch.pass.card.saw) c.self.view_is in
    elim c.if-is_dirty.branch [
      | then-is_dirty w ↦ subst (λ (found : Option OBlock). SawDirty old.watch.pass.card c.look.new.self.pass.card (map SealWord (mapped_block (entry_at old.desk.tree c.args.place.0))) (if is_some found then 1 else 0)) (sym w.result-is)
          (at_seal _ c.in_ok-entry.entry old.watch.pass.card c.look.new.self.pass.card c.look.result true here saw (sym c.is_dirty.ensures ∙ w.if-is_dirty.true))
      | else-is_dirty w ↦ subst (λ (found : Option OBlock). SawDirty old.watch.pass.card c.look.new.self.pass.card (map SealWord (mapped_block (entry_at old.desk.tree c.args.place.0))) (if is_some found then 1 else 0)) (sym w.result-is)
          (at_seal _ c.in_ok-entry.entry old.watch.pass.card c.look.new.self.pass.card c.look.result false here saw (sym c.is_dirty.ensures ∙ w.if-is_dirty.false))
    ]

pub returns-clause-mapped : goal.returns-clause-mapped
returns-clause-mapped g c =
    let old = c.args.self.now in
    let here : entry_at old.desk.tree c.args.place.0 ≡ Some c.in_ok-entry.entry =
    sym (c.entry.ensures ∙ ap (λ (office : OfficeState g.row.P.Denot). entry_at office.desk.tree c.args.place.0) c.self.view_is) ∙ c.in_ok-entry.was in
    elim c.if-is_dirty.branch [
      | then-is_dirty w ↦ subst (λ (found : Option OBlock). IfSome found (λ block. IsMappedAt (holdings old.desk) block.0 c.args.place.0)) (sym w.result-is) (there _ c.args.place.0 c.in_ok-entry.entry here)
      | else-is_dirty w ↦ subst (λ (found : Option OBlock). IfSome found (λ block. IsMappedAt (holdings old.desk) block.0 c.args.place.0)) (sym w.result-is) tt
    ]
