use Rattle.std.proofs.Common.{◌≡◌, ◌&&◌, get_or, true, false, sym, ◌∙◌}
use Rattle.wb_sketch.specs.Frequencies.{frequencies, is_member}
use Rattle.wb_sketch.proofs.Steps.{member-is}
use Rattle.wb_sketch.proofs.sketch.Sketch.is_known.Goals as goal

pub returns-then-contains : goal.returns-then-contains
returns-then-contains c =
    let set : get_or c.self.inside.doorkeeper c.place-door1.result false ≡ true = sym c.contains.ensures ∙ c.if-contains.true in
    let both : (get_or c.self.inside.doorkeeper c.place-door1.result false && get_or c.self.inside.doorkeeper c.place-door2.result false) ≡ is_member c.args.self.now c.args.x.0 =
    rw (← c.self.view_is)
    (member-is (frequencies c.self.inside.cache_blocks c.self.inside.row1 c.self.inside.row2 c.self.inside.row3 c.self.inside.row4 c.self.inside.doorkeeper c.self.inside.sample)
    c.self.inside.bits c.args.x.0 c.place-door1.result c.place-door2.result
    c.self.invariant.bits_are c.place-door1.ensures.value c.place-door2.ensures.value) in
    c.contains-then-contains.ensures ∙ rw set at both

pub returns-else-contains : goal.returns-else-contains
returns-else-contains c =
    let clear : get_or c.self.inside.doorkeeper c.place-door1.result false ≡ false = sym c.contains.ensures ∙ c.if-contains.false in
    let both : (get_or c.self.inside.doorkeeper c.place-door1.result false && get_or c.self.inside.doorkeeper c.place-door2.result false) ≡ is_member c.args.self.now c.args.x.0 =
    rw (← c.self.view_is)
    (member-is (frequencies c.self.inside.cache_blocks c.self.inside.row1 c.self.inside.row2 c.self.inside.row3 c.self.inside.row4 c.self.inside.doorkeeper c.self.inside.sample)
    c.self.inside.bits c.args.x.0 c.place-door1.result c.place-door2.result
    c.self.invariant.bits_are c.place-door1.ensures.value c.place-door2.ensures.value) in
    c.if-contains.false ∙ rw clear at both
