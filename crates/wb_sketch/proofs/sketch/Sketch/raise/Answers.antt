use Rattle.std.proofs.Common.{◌≡◌, sym, subst}
use Rattle.wb_sketch.specs.Frequencies.{Frequencies, frequencies, least_at}
use Rattle.wb_sketch.specs.Places.{places_of}
use Rattle.wb_sketch.proofs.Steps.{raised-is}
use Rattle.wb_sketch.proofs.Shapes.{shaped-raised}
use Rattle.wb_sketch.proofs.sketch.Sketch.raise.Goals as goal

pub returns : goal.returns
returns c =
    let f : Frequencies = frequencies c.self.inside.cache_blocks c.self.inside.row1 c.self.inside.row2 c.self.inside.row3 c.self.inside.row4 c.self.inside.doorkeeper c.self.inside.sample in
    let places : c.places-at.result ≡ places_of f.cache_blocks c.args.x.0 =
    subst (λ (now : Frequencies). c.places-at.result ≡ places_of now.cache_blocks c.args.x.0) (sym c.self.view_is) c.places-at.ensures.value in
    let least : c.least-least.result ≡ least_at f c.places-at.result = rw c.self.view_is c.least-least.ensures.value in
    rw (← c.self.view_is)
    (raised-is f c.args.x.0 c.least-least.result c.places-at.result
    c.raise.new.self c.raise-2.new.self c.raise-3.new.self c.raise-4.new.self
    places least c.raise.ensures c.raise-2.ensures c.raise-3.ensures c.raise-4.ensures)

pub invariant_of-self : goal.invariant_of-self
invariant_of-self c =
    let f : Frequencies = frequencies c.self.inside.cache_blocks c.self.inside.row1 c.self.inside.row2 c.self.inside.row3 c.self.inside.row4 c.self.inside.doorkeeper c.self.inside.sample in
    let places : c.places-at.result ≡ places_of f.cache_blocks c.args.x.0 =
    subst (λ (now : Frequencies). c.places-at.result ≡ places_of now.cache_blocks c.args.x.0) (sym c.self.view_is) c.places-at.ensures.value in
    let least : c.least-least.result ≡ least_at f c.places-at.result = rw c.self.view_is c.least-least.ensures.value in
    rw (raised-is f c.args.x.0 c.least-least.result c.places-at.result
    c.raise.new.self c.raise-2.new.self c.raise-3.new.self c.raise-4.new.self
    places least c.raise.ensures c.raise-2.ensures c.raise-3.ensures c.raise-4.ensures)
    (shaped-raised _ _ _ c.self.invariant)
