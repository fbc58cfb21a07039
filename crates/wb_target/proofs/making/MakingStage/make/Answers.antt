use Rattle.std.proofs.Common.{◌≡◌, ◌∙◌, sym, refl, ap, subst, Some, inr}
use Rattle.std.specs.Prelude.{Ok}
use Rattle.wb_tree.specs.declared.image.Image.{Image}
use Rattle.wb_target.specs.Making.{IsMadeOf, IsMadeOfRead, WasNotMade}
use Rattle.wb_target.specs.Offices.{OfficeState}
use Rattle.wb_target.proofs.Leading.{answered_with, refused_with}
use Rattle.wb_target.proofs.Written.{fits_written}
use Rattle.wb_target.proofs.making.MakingStage.make.Goals as goal

pub office_over-made-requires : goal.office_over-made-requires
office_over-made-requires g c = fits_written _ _ c.in-Some-Done.state _ (sym c.take.ensures.value ∙ c.in-Some-Done.is ∙ ap Some c.in-Some-Done.field-0-is) c.requires refl

pub returns-clause-made : goal.returns-clause-made
returns-clause-made g c =
    let state = c.in-Some-Done.state in
    answered_with c.office_over-made.result c.is_ok-is_made.result _ ((office : OfficeState g.row.P.Denot) × (Some c.office_over-made.result ≡ Some (Ok office)) × IsMadeOfRead g.P.Policy.begun g.P.Policy.with_setting c.args.self.now office) c.is_ok-is_made.ensures.value
    (λ office is made. (
      office,
      ap Some is,
      record {
        state = state;
        next = c.in-Some.commit;
        reading_is = sym c.take.ensures.value ∙ c.in-Some-Done.is ∙ ap Some c.in-Some-Done.field-0-is;
        commit_is = c.in-Some.is;
        made = subst (λ (image : Image). IsMadeOf g.P.Policy.begun g.P.Policy.with_setting state image c.args.self.now.stage.mode c.args.self.now.keys.now office) c.image.ensures made;
      },
    ))
    c.office_over-made.ensures.made

pub returns-clause-not_made : goal.returns-clause-not_made
returns-clause-not_made g c =
    let old = c.args.self.now in
    refused_with c.office_over-made.result c.is_ok-is_made.result _ (WasNotMade g.P.Policy.with_setting old.keys.now old.stage.opening old.made (Some c.office_over-made.result)) c.is_ok-is_made.ensures.value
    (λ cause is why. inr (cause, ap Some is, why))
    c.office_over-made.ensures.refused
