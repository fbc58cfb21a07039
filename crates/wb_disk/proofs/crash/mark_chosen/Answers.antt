use Rattle.std.proofs.Common.{◌≡◌, ◌∙◌, ◌<◌, ℕ, List, length, map, ap, sym, subst}
use Rattle.std.proofs.lemmas.List.{length-map}
use Rattle.std.specs.Prelude.{All}
use Rattle.wb_types.specs.declared.mode.Dev.{Dev}
use Rattle.wb_disk.specs.Device.{History}
use Rattle.wb_disk.specs.Crash.{base_position}
use Rattle.wb_disk.specs.Stored.{history, histories, marks, marks_named}
use Rattle.wb_disk.specs.declared.crash_choice.Base.{Base}
use Rattle.wb_disk.specs.declared.crash_choice.NamedContent.{NamedContent}
use Rattle.wb_disk.proofs.Crashes.{IsMarked-named, Applies-from_marks, HasMark-from_Applies}
use Rattle.wb_disk.proofs.crash.mark_chosen.Goals as goal

-- what the two passes over the marks made of them
marked_by : (device : Dev) (base b : Base) (names ns : List NamedContent) (hs : List History) (base_marks ms : List ℕ) → base_marks ≡ map (base_position b) hs → b ≡ base → ms ≡ marks_named device ns base_marks → ns ≡ names → ms ≡ marks_named device names (map (base_position base) hs)
marked_by device base b names ns hs base_marks ms based base_is named names_is =
    named ∙ ap (λ l. marks_named device l base_marks) names_is ∙ ap (marks_named device names) (based ∙ ap (λ x. map (base_position x) hs) base_is)

pub returns-then-mark_named-clause-marked : goal.returns-then-mark_named-clause-marked
returns-then-mark_named-clause-marked c there =
    let choice = c.args.choice.now in
    let ps = c.args.sectors.now in
    let chosen = marked_by c.args.device choice.base c.base.result choice.named c.named.result.now (histories ps) (marks c.mark_base.new.sectors) (marks c.mark_named.new.sectors) c.mark_base.ensures.marks c.base.ensures (c.mark_named.ensures.marks c.if-mark_named.true) c.named.ensures in
    IsMarked-named c.args.device choice ps c.mark_named.new.sectors chosen (c.mark_named.ensures.contents ∙ c.mark_base.ensures.contents)

pub returns-then-mark_named-clause-applies : goal.returns-then-mark_named-clause-applies
returns-then-mark_named-clause-applies c =
    let choice = c.args.choice.now in
    let ps = c.args.sectors.now in
    let qs = c.mark_named.new.sectors in
    let same : histories qs ≡ histories ps = c.mark_named.ensures.contents ∙ c.mark_base.ensures.contents in
    let chosen = marked_by c.args.device choice.base c.base.result choice.named c.named.result.now (histories ps) (marks c.mark_base.new.sectors) (marks qs) c.mark_base.ensures.marks c.base.ensures (c.mark_named.ensures.marks c.if-mark_named.true) c.named.ensures in
    let marked = IsMarked-named c.args.device choice ps qs chosen same in
    let inside_then : All (λ name. name.device ≡ c.args.device → name.sector < length c.mark_base.new.sectors) c.named.result.now = c.mark_named.ensures.inside.0 c.if-mark_named.true in
    let size : length c.mark_base.new.sectors ≡ length (histories ps) = sym (length-map c.mark_base.new.sectors history) ∙ ap length c.mark_base.ensures.contents in
    let P : ℕ → Type 0 = λ n. All (λ name. name.device ≡ c.args.device → name.sector < n) c.named.result.now in
    let Q : List NamedContent → Type 0 = λ names. All (λ name. name.device ≡ c.args.device → name.sector < length (histories ps)) names in
    let inside = subst Q c.named.ensures (subst P size inside_then) in (
      λ there. Applies-from_marks c.args.device choice qs (histories ps) same marked inside (c.are_marks_there.ensures.0 there),
      λ applies. c.are_marks_there.ensures.1 (HasMark-from_Applies c.args.device choice qs (histories ps) same marked applies),
    )
