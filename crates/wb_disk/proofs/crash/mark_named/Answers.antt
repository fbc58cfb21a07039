use Rattle.std.proofs.Common.{◌≡◌, ◌∙◌, ◌<◌, sym, Some, length, get_or, arith, subst, refl, List}
use Rattle.std.proofs.lemmas.List.{take_all}
use Rattle.std.proofs.lemmas.Option.{slice_get-get_or}
use Rattle.std.specs.Prelude.{All}
use Rattle.std.specs.List.{slice_get}
use Rattle.wb_types.specs.declared.mode.Dev.TheVariants.{Metadata}
use Rattle.wb_disk.specs.Stored.{history, capacity_of, marks}
use Rattle.wb_disk.specs.declared.crash_choice.NamedContent.{NamedContent}
use Rattle.wb_disk.proofs.Sectors.{map-set_same}
use Rattle.wb_disk.proofs.Crashes.{marks_named-more, marks_named-passed, All-take_more}
use Rattle.wb_disk.proofs.crash.mark_named.Goals as goal
use Rattle.wb_disk.proofs.crash.mark_named.Goals.{then-is_on+else-at-sectors, else-is_on}

pub loop-name-preserved : goal.loop-name-preserved
loop-name-preserved c =
    let i = c.loop-name.name-index in
    let none : NamedContent = record { device = Metadata; sector = 0; position = 0 } in
    let names = c.args.named.now in
    let name = get_or names i none in
    let ps = c.loop-name.sectors in
    let listed : i < length names = omega arith in
    let Inside : NamedContent → Type 0 = λ n. n.device ≡ c.args.device → n.sector < length c.args.sectors.now in
    elim c.if-is_on.branch [
      | then-is_on+else-at-sectors w ↦
          let p = get_or ps name.sector w.index-sectors-at.result in
          let within : name.sector < length ps = omega arith in
          let sector : name.sector < length c.args.sectors.now = omega arith in
          let here : slice_get ps name.sector ≡ Some p = slice_get-get_or ps name.sector w.index-sectors-at.result within in
          rw w.sectors-is (record {
            marks = marks_named-more c.args.device names i none ps w.mark_position.new.self listed (sym c.is_on.ensures.is_on ∙ w.if-is_on.true) w.mark_position.ensures.mark ∙ c.loop-name.invariant.marks;
            contents = map-set_same history ps name.sector p w.mark_position.new.self here w.mark_position.ensures.contents ∙ c.loop-name.invariant.contents;
            capacity = map-set_same capacity_of ps name.sector p w.mark_position.new.self here w.mark_position.ensures.capacity ∙ c.loop-name.invariant.capacity;
            inside = All-take_more Inside names i none listed c.loop-name.invariant.inside (λ _. sector);
          })
      | else-is_on w ↦
          rw w.sectors-is (record {
            marks = marks_named-passed c.args.device names i none (marks ps) listed (sym c.is_on.ensures.is_on ∙ w.if-is_on.false) ∙ c.loop-name.invariant.marks;
            contents = c.loop-name.invariant.contents;
            capacity = c.loop-name.invariant.capacity;
            inside = All-take_more Inside names i none listed c.loop-name.invariant.inside (λ e. absurd (let yes = c.is_on.ensures.same.1 e in cc));
          })
    ]

pub returns-clause-inside : goal.returns-clause-inside
returns-clause-inside c =
    let P : List NamedContent → Type 0 = λ ns. All (λ n. n.device ≡ c.args.device → n.sector < length c.args.sectors.now) ns in
    let all = take_all c.loop-name.name-index c.args.named.now (omega arith) in
    (λ _. subst P all c.loop-name.invariant.inside, λ _. refl)
