use Rattle.std.proofs.Common.{◌∙◌, ◌<◌, ◌/◌, ◌%◌, ℕ, Option, arith, ap, map, subst}
use Rattle.std.proofs.Math.Nat.{mod-lt}
use Rattle.std.proofs.lemmas.List.{length-map}
use Rattle.std.specs.Prelude.{IfSome}
use Rattle.wb_disk.specs.Device.{newest}
use Rattle.wb_promise.specs.Headline.{content_of, place_of}
use Rattle.wb_machine.specs.declared.machine.TheConstants.{ACTORS}
use Rattle.wb_machine.specs.declared.phase.Phase.{Phase}
use Rattle.wb_machine.specs.Life.{shape_of}
use Rattle.wb_machine.specs.Standing.{StandsSo}
use Rattle.wb_machine.proofs.Shown.{inside_cache, past_all, shown_there}
use Rattle.wb_machine.proofs.viewing.view_of.Goals as goal

pub returns-then-at-origin_sectors-clause-shown : goal.returns-then-at-origin_sectors-clause-shown
returns-then-at-origin_sectors-clause-shown c =
    let devices = c.args.devices.now in
    rw c.in-Standing.is (past_all (shape_of c.args.geometry.now ACTORS) c.in-Standing.target.desk.tree.entries (map newest devices.cache.contents) (map newest devices.origin.contents) c.args.at (omega (arith, c.origin_sectors.ensures, c.if-at-origin_sectors.true)))

pub returns-clause-shown : goal.returns-clause-shown
returns-clause-shown c =
    let g = c.args.geometry.now in
    let devices = c.args.devices.now in
    let desk = c.in-Standing.target.desk in
    let cache = map newest devices.cache.contents in
    let origin = map newest devices.origin.contents in
    let at = c.args.at in
    let place = c.place_of-place.ensures in
    let found = place.place ∙ ap (λ size. place_of desk.tree.entries (at / size)) c.from.ensures in
    let whole = subst (λ (o : Phase). StandsSo g ACTORS o) c.in-Standing.is c.requires.sound.stands in
    let offset : at % g.block < g.block = mod-lt at (omega (arith, g.within.block_from)) in
    rw c.in-Standing.is (shown_there (shape_of g ACTORS) desk.tree.entries cache origin at (omega (arith, c.origin_sectors.ensures, c.if-at-origin_sectors.false)) c.content_at.result
    (c.content_at.ensures.content ∙ ap (λ p. content_of (shape_of g ACTORS) p cache origin at) found) (length-map devices.origin.contents newest ∙ c.requires.origin)
    (λ k is.
    let here : k < desk.geometry.cache_blocks = subst (λ (o : Option ℕ). IfSome o (λ n. n < desk.geometry.cache_blocks)) (found ∙ is) place.inside in
    let there : k < g.cache_blocks = subst (λ (n : ℕ). k < n) whole.sizes.cache_blocks here in
    let under = inside_cache k g.cache_blocks g.block (at % g.block) there offset in
    let many = length-map devices.cache.contents newest ∙ c.requires.cache in
    omega (arith, under, many)))
