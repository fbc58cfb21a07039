use Rattle.std.proofs.Common.{arith, subst, Option}
use Rattle.wb_format.specs.declared.root.Root.{Root}
use Rattle.wb_meta.specs.Slots.{IsNewest}
use Rattle.wb_meta.proofs.slot.newest_root.Goals as goal

pub returns-then-from-sectors-clause-refused : goal.returns-then-from-sectors-clause-refused
returns-then-from-sectors-clause-refused c contents size first second =
    let P : Option Root → Type 0 = λ o. IsNewest contents o in
    record { root = c.in-Some.root; newest = subst P c.in-Some.is (c.newer.ensures contents first second); other = λ same. absurd (omega (arith, same, size, c.if-from-sectors.true, c.from.ensures)) }
