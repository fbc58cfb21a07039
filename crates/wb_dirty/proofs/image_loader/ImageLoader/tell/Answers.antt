use Rattle.std.proofs.Common.{◌≡◌, ◌∙◌, ap, subst}
use Rattle.wb_tree.specs.Loading.{FailsBy}
use Rattle.wb_tree.proofs.Reading.LoaderSteps.{handed}
use Rattle.wb_dirty.specs.ImageLoading.{ImageLoading, image_loading, image_outcome, mapping_outcome, part_read}
use Rattle.wb_dirty.proofs.image_loader.ImageLoader.tell.Goals as goal

pub returns-in_err-part-clause-err : goal.returns-in_err-part-clause-err
returns-in_err-part-clause-err g c =
    let refusal = c.in_err-part.field-0.0 in
    handed c.from_residual.result refusal _ c.from_residual.ensures.1 (λ wanted others e told.
    subst (λ (l : ImageLoading). FailsBy refusal (image_outcome l others)) c.self.view_is
    (c.in_err-part.ensures.err wanted others (ap (λ (l : ImageLoading). l.wanted) c.self.view_is ∙ e) told))

pub returns-clause-goes_on : goal.returns-clause-goes_on
returns-clause-goes_on g c wanted others e told =
    let next : ImageLoading = image_loading c.self.inside.root (part_read c.self.inside.root c.in_ok-part.part) in
    subst (λ (l : ImageLoading). image_outcome next others ≡ image_outcome l others) c.self.view_is
    (c.in_ok-part.ensures.goes_on wanted others (ap (λ (l : ImageLoading). l.wanted) c.self.view_is ∙ e) told)

pub returns-clause-mapping : goal.returns-clause-mapping
returns-clause-mapping g c wanted others e told =
    let next : ImageLoading = image_loading c.self.inside.root (part_read c.self.inside.root c.in_ok-part.part) in
    subst (λ (l : ImageLoading). mapping_outcome next others ≡ mapping_outcome l others) c.self.view_is
    (c.in_ok-part.ensures.mapping wanted others (ap (λ (l : ImageLoading). l.wanted) c.self.view_is ∙ e) told)
