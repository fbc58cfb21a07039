use Rattle.std.proofs.Common.{◌≡◌, ◌∙◌, sym, ap, subst, List, ◌++◌, ◌∷◌, [], false}
use Rattle.std.proofs.lemmas.Result.{IfOk-weaker, IfErr-weaker}
use Rattle.wb_types.specs.declared.number.Place.{Place}
use Rattle.wb_tree.specs.declared.placed.PlacedNode.{PlacedNode}
use Rattle.wb_tree.specs.Reading.{ReadOutcome, ◌then◌, is_reached}
use Rattle.wb_tree.specs.Loading.{FailsBy, outcome}
use Rattle.wb_dirty.specs.ImageReading.{bits_behind}
use Rattle.wb_dirty.specs.ImageLoading.{node_told}
use Rattle.wb_dirty.proofs.Images.{ahead_more, place_wanted-is, fails_then}
use Rattle.wb_dirty.proofs.image_steps.tell_ahead.Goals as goal

pub go_on-requires : goal.go_on-requires
go_on-requires g c =
    let w = place_wanted-is c.args.loader.wanted c.in-Some.place (sym c.wanted.ensures.place ∙ c.in-Some.is) in
    let unread : is_reached w.node.place.0 c.args.loader.found.reached ≡ false = ap (λ (p : Place). is_reached p.0 c.args.loader.found.reached) w.there ∙ c.in-Some.ensures.fresh.unread in
    let pushed : c.push_reserved.new.self.items ≡ c.args.nodes.items ++ node_told c.args.node w.node.place ∷ [] =
    c.push_reserved.ensures.items
    ∙ (ap (λ (ns : List PlacedNode). ns ++ c.node_at.result ∷ []) c.in_ok-reserve.ensures.items
    ∙ ap (λ (n : PlacedNode). c.args.nodes.items ++ n ∷ []) (c.node_at.ensures ∙ ap (λ (p : Place). node_told c.args.node p) (sym w.there))) in
    ahead_more c.args.root.now c.args.loader c.in-Ok.loader w.node c.args.node c.args.nodes.items c.push_reserved.new.self.items c.requires.ahead unread c.in-Ok.ensures.root (c.in-Ok.ensures.reached w.node w.some)
    (λ others e. c.in-Ok.ensures.goes_on w.node others w.some e) pushed

pub returns-in-Ok-clause-goes_on : goal.returns-in-Ok-clause-goes_on
returns-in-Ok-clause-goes_on g c =
    IfOk-weaker c.go_on.result _ _ (λ next same wanted others e told.
    same others ∙ ap (λ (r : ReadOutcome). r then bits_behind c.args.root.now others c.args.root.now.top_dirty) (c.in-Ok.ensures.goes_on wanted others e told)) c.go_on.ensures.goes_on

pub returns-in-Ok-clause-mapping : goal.returns-in-Ok-clause-mapping
returns-in-Ok-clause-mapping g c =
    IfOk-weaker c.go_on.result _ _ (λ next same wanted others e told. same others ∙ c.in-Ok.ensures.goes_on wanted others e told) c.go_on.ensures.mapping

pub returns-in-Ok-clause-err : goal.returns-in-Ok-clause-err
returns-in-Ok-clause-err g c =
    IfErr-weaker c.go_on.result _ _ (λ refusal fails wanted others e told.
    subst (λ (r : ReadOutcome). FailsBy refusal (r then bits_behind c.args.root.now others c.args.root.now.top_dirty)) (c.in-Ok.ensures.goes_on wanted others e told) (fails others)) c.go_on.ensures.err

pub returns-in-Err-clause-err : goal.returns-in-Err-clause-err
returns-in-Err-clause-err g c wanted others e told =
    fails_then c.in-Err.refusal (outcome c.args.loader others) (bits_behind c.args.root.now others c.args.root.now.top_dirty) (c.in-Err.ensures.err.1 wanted others e told)
