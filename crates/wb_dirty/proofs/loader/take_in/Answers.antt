use Rattle.std.proofs.Common.{refl, ◌++◌, ◌∷◌, [], Err, Some, arith}
use Rattle.wb_tree.proofs.Reading.LoaderSteps.{fails_there}
use Rattle.wb_dirty.specs.Loading.{wanted_read}
use Rattle.wb_dirty.proofs.Loads.{rest-leaf, rest-inner, taken-leaf}
use Rattle.wb_dirty.proofs.loader.take_in.Goals as goal

pub returns-in-Err-clause-err : goal.returns-in-Err-clause-err
returns-in-Err-clause-err c nodes reached e =
    fails_there c.in-Err.refusal c.args.wanted.place (wanted_read (record { root = c.args.root.now; mapped = c.args.mapped.now }) nodes c.args.left.now.items (Some c.args.wanted) (record { reached = reached; dirty = c.args.dirty.now })) c.in-Err.ensures.refused
    (rest-leaf (record { root = c.args.root.now; mapped = c.args.mapped.now }) nodes c.args.left.now.items c.args.wanted c.args.node.now (record { reached = reached; dirty = c.args.dirty.now }) (Err c.args.wanted.place) c.if-wanted-eq1.true e c.requires.right
    (c.in-Err.ensures.fault c.args.root.now (reached ++ c.args.wanted.place ∷ [])))

pub returns-in_default-clause-ok : goal.returns-in_default-clause-ok
returns-in_default-clause-ok c nodes reached e =
    taken-leaf (record { root = c.args.root.now; mapped = c.args.mapped.now }) nodes c.args.left.now.items c.args.left.now.items c.args.wanted c.args.node.now reached c.args.dirty.now c.take_bits.new.dirty c.take_bits.new.dirty
    c.if-wanted-eq1.true e c.requires.right (c.in_default.ensures.ok c.args.root.now (reached ++ c.args.wanted.place ∷ [])) refl refl

pub returns-in_ok-put_children-clause-ok : goal.returns-in_ok-put_children-clause-ok
returns-in_ok-put_children-clause-ok c nodes reached e =
    rest-inner (record { root = c.args.root.now; mapped = c.args.mapped.now }) nodes c.args.left.now.items c.put_children.new.left.items c.args.wanted c.args.node.now (record { reached = reached; dirty = c.args.dirty.now })
    (omega (arith, c.if-wanted-eq1.false, c.requires.from)) e c.requires.right c.in_ok-put_children.ensures.ok
