use Rattle.std.proofs.Common.{◌∙◌, sym, ap, subst, ◌++◌, ◌∷◌, []}
use Rattle.std.proofs.lemmas.Result.{IfOk-weaker, IfErr-weaker}
use Rattle.wb_tree.specs.declared.placed.PlacedNode.{PlacedNode}
use Rattle.wb_tree.specs.Reading.{ReadOutcome, ◌then◌}
use Rattle.wb_tree.specs.Loading.{FailsBy, outcome}
use Rattle.wb_tree.proofs.Reading.LoaderSteps.{handed}
use Rattle.wb_dirty.specs.Reading.{MarksOutcome}
use Rattle.wb_dirty.specs.Loading.{outcome_of}
use Rattle.wb_dirty.specs.ImageReading.{bits_behind, found_with_bits, outcome_with}
use Rattle.wb_dirty.specs.declared.image_part.ImagePart.{ImagePart}
use Rattle.wb_dirty.specs.ImageLoading.{IsImagePart, found_in, found_so_far, next_node, part_read, part_outcome, part_mapping_outcome}
use Rattle.wb_dirty.proofs.Images.{dirty_wanted-is, behind_told, reached_more, ends_fail, fails_then}
use Rattle.wb_dirty.proofs.image_steps.tell_part.Goals as goal

pub returns-in_err-tell-in-Alone-clause-err : goal.returns-in_err-tell-in-Alone-clause-err
returns-in_err-tell-in-Alone-clause-err g c =
    let root = c.args.root.now in
    let refusal = c.in_err-tell-in-Alone.field-0.0 in
    handed c.from_residual.result refusal _ c.from_residual.ensures.1 (λ wanted others e told.
    subst (λ (p : ImagePart _). FailsBy refusal (part_outcome root (part_read root p) others)) (sym c.in-Alone.is)
    (fails_then refusal (outcome c.in-Alone.loader others) (bits_behind root others root.top_dirty)
    (c.in_err-tell-in-Alone.ensures.err.1 wanted others (sym (ap (λ (p : ImagePart _). next_node (part_read root p)) c.in-Alone.is) ∙ e) told)))

pub returns-in_err-tell-in-Behind-clause-err : goal.returns-in_err-tell-in-Behind-clause-err
returns-in_err-tell-in-Behind-clause-err g c =
    let root = c.args.root.now in
    let refusal = c.in_err-tell-in-Behind.field-0.0 in
    handed c.from_residual-in_err-tell-in-Behind.result refusal _ c.from_residual-in_err-tell-in-Behind.ensures.1 (λ wanted others e told.
    let w = dirty_wanted-is c.in-Behind.loader.wanted wanted (sym (ap (λ (p : ImagePart _). next_node (part_read root p)) c.in-Behind.is) ∙ e) in
    subst (λ (p : ImagePart _). FailsBy refusal (part_outcome root (part_read root p) others)) (sym c.in-Behind.is)
    (ends_fail refusal (found_in root c.in-Behind.nodes.items c.in-Behind.tree) (outcome_of c.in-Behind.loader others)
    (c.in_err-tell-in-Behind.ensures.err.1 w.node others w.some (ap (λ (n : PlacedNode). others n.place.0) w.is ∙ told))))

pub returns-in_ok-tell-in-Alone-clause-goes_on : goal.returns-in_ok-tell-in-Alone-clause-goes_on
returns-in_ok-tell-in-Alone-clause-goes_on g c wanted others e told =
    let root = c.args.root.now in
    let here = sym (ap (λ (p : ImagePart _). next_node (part_read root p)) c.in-Alone.is) ∙ e in
    ap (λ (r : ReadOutcome). r then bits_behind root others root.top_dirty) (c.in_ok-tell-in-Alone.ensures.goes_on wanted others here told)
    ∙ sym (ap (λ (p : ImagePart _). part_outcome root (part_read root p) others) c.in-Alone.is)

pub returns-in_ok-tell-in-Alone-clause-mapping : goal.returns-in_ok-tell-in-Alone-clause-mapping
returns-in_ok-tell-in-Alone-clause-mapping g c wanted others e told =
    let root = c.args.root.now in
    let here = sym (ap (λ (p : ImagePart _). next_node (part_read root p)) c.in-Alone.is) ∙ e in
    c.in_ok-tell-in-Alone.ensures.goes_on wanted others here told ∙ sym (ap (λ (p : ImagePart _). part_mapping_outcome (part_read root p) others) c.in-Alone.is)

pub returns-in-Ahead-clause-goes_on : goal.returns-in-Ahead-clause-goes_on
returns-in-Ahead-clause-goes_on g c =
    let root = c.args.root.now in
    IfOk-weaker c.tell_ahead.result _ _ (λ next h wanted others e told.
    h wanted others (sym (ap (λ (p : ImagePart _). next_node (part_read root p)) c.in-Ahead.is) ∙ e) told
    ∙ sym (ap (λ (p : ImagePart _). part_outcome root (part_read root p) others) c.in-Ahead.is)) c.tell_ahead.ensures.goes_on

pub returns-in-Ahead-clause-mapping : goal.returns-in-Ahead-clause-mapping
returns-in-Ahead-clause-mapping g c =
    let root = c.args.root.now in
    IfOk-weaker c.tell_ahead.result _ _ (λ next h wanted others e told.
    h wanted others (sym (ap (λ (p : ImagePart _). next_node (part_read root p)) c.in-Ahead.is) ∙ e) told
    ∙ sym (ap (λ (p : ImagePart _). part_mapping_outcome (part_read root p) others) c.in-Ahead.is)) c.tell_ahead.ensures.mapping

pub returns-in-Ahead-clause-err : goal.returns-in-Ahead-clause-err
returns-in-Ahead-clause-err g c =
    let root = c.args.root.now in
    IfErr-weaker c.tell_ahead.result _ _ (λ refusal h wanted others e told.
    subst (λ (p : ImagePart _). FailsBy refusal (part_outcome root (part_read root p) others)) (sym c.in-Ahead.is)
    (h wanted others (sym (ap (λ (p : ImagePart _). next_node (part_read root p)) c.in-Ahead.is) ∙ e) told)) c.tell_ahead.ensures.err

pub returns-in_ok-tell-in-Behind-clause-part : goal.returns-in_ok-tell-in-Behind-clause-part
returns-in_ok-tell-in-Behind-clause-part g c =
    let told = c.in_ok-tell-in-Behind.ensures.ok in
    behind_told c.args.root.now c.in-Behind.tree c.in-Behind.nodes.items c.in-Behind.loader c.in_ok-tell-in-Behind.field-0
    (subst (λ (p : ImagePart _). IsImagePart c.args.root.now p) c.in-Behind.is c.requires) told.asked told.reached told.idle

pub returns-in_ok-tell-in-Behind-clause-goes_on : goal.returns-in_ok-tell-in-Behind-clause-goes_on
returns-in_ok-tell-in-Behind-clause-goes_on g c wanted others e told =
    let root = c.args.root.now in
    let w = dirty_wanted-is c.in-Behind.loader.wanted wanted (sym (ap (λ (p : ImagePart _). next_node (part_read root p)) c.in-Behind.is) ∙ e) in
    ap (λ (r : MarksOutcome). outcome_with (found_in root c.in-Behind.nodes.items c.in-Behind.tree) r)
    (c.in_ok-tell-in-Behind.ensures.ok.goes_on w.node others w.some (ap (λ (n : PlacedNode). others n.place.0) w.is ∙ told))
    ∙ sym (ap (λ (p : ImagePart _). part_outcome root (part_read root p) others) c.in-Behind.is)

pub returns-in_ok-tell-in-Behind-clause-reached : goal.returns-in_ok-tell-in-Behind-clause-reached
returns-in_ok-tell-in-Behind-clause-reached g c wanted e =
    let root = c.args.root.now in
    let behind = subst (λ (p : ImagePart _). IsImagePart root p) c.in-Behind.is c.requires in
    let w = dirty_wanted-is c.in-Behind.loader.wanted wanted (sym (ap (λ (p : ImagePart _). next_node (part_read root p)) c.in-Behind.is) ∙ e) in
    reached_more root c.in-Behind.tree c.in-Behind.nodes.items c.in-Behind.loader c.in_ok-tell-in-Behind.field-0 w.node behind (c.in_ok-tell-in-Behind.ensures.ok.reached w.node w.some)
    ∙ (ap (λ (n : PlacedNode). (found_with_bits (found_in root c.in-Behind.nodes.items c.in-Behind.tree) c.in-Behind.loader.marks).reached ++ n ∷ []) w.is
    ∙ sym (ap (λ (p : ImagePart _). (found_so_far (part_read root p)).reached ++ wanted ∷ []) c.in-Behind.is))
