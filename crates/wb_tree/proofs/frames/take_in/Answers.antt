use Rattle.std.proofs.Common.{◌≡◌, ◌∙◌, sym, ap, refl, ◌++◌, ◌∷◌, [], length, take, drop, reverse, Ok, Err, Some}
use Rattle.std.proofs.lemmas.List.{take_at}
use Rattle.wb_tree.specs.Loading.{frames_rest, wanted_rest, leaf_read, found_with}
use Rattle.wb_tree.proofs.Reading.LoaderSteps.{rest-leaf_read, rest-inner, pushed_same, found_same, fails_there}
use Rattle.wb_tree.proofs.frames.take_in.Goals as goal

pub returns-in-Err-clause-err : goal.returns-in-Err-clause-err
returns-in-Err-clause-err c nodes reached e =
    fails_there c.in-Err.refusal c.args.wanted.place (wanted_rest c.args.root.now nodes (reverse c.args.frames.now.items) (Some c.args.wanted) (found_with reached c.args.entries.now.items c.args.mapped.now.items)) c.in-Err.ensures.refused
    (rest-leaf_read c.args.root.now nodes (reverse c.args.frames.now.items) c.args.wanted c.args.node.now (found_with reached c.args.entries.now.items c.args.mapped.now.items) (Err c.args.wanted.place) c.if-wanted-eq1.true e c.requires.right
    (ap (leaf_read c.args.root.now c.args.wanted c.args.node.now.words) (found_same (reached ++ c.args.wanted ∷ []) (reached ++ c.args.wanted ∷ []) c.args.entries.now.items c.deref_mut.result.now c.args.mapped.now.items c.deref_mut-then-wanted-eq1.result.now refl (sym c.deref_mut.ensures.value) (sym c.deref_mut-then-wanted-eq1.ensures.value))
    ∙ c.in-Err.ensures.fault (reached ++ c.args.wanted ∷ [])))

pub returns-in_ok-reserve-clause-ok : goal.returns-in_ok-reserve-clause-ok
returns-in_ok-reserve-clause-ok c nodes reached e =
    rest-inner c.args.root.now nodes c.args.node.now _ c.args.frames.now.items c.push_reserved.new.self.items (found_with reached c.args.entries.now.items c.args.mapped.now.items)
    (pushed_same c.reserve.new.self.items c.args.frames.now.items c.push_reserved.new.self.items _ c.push_reserved.ensures.items c.in_ok-reserve.ensures.items) refl refl e c.requires.right

pub returns-in_default-clause-ok : goal.returns-in_default-clause-ok
returns-in_default-clause-ok c nodes reached e =
    let kept_entries : take c.args.entries.now.len (c.read_entries.new.entries ++ drop (length c.read_entries.new.entries) c.args.entries.now.items) ≡ c.read_entries.new.entries =
    take_at c.read_entries.new.entries _ c.args.entries.now.len (c.read_entries.auto.entries ∙ c.deref_mut.ensures.len) in
    let kept_mapped : take c.args.mapped.now.len (c.read_entries.new.mapped ++ drop (length c.read_entries.new.mapped) c.args.mapped.now.items) ≡ c.read_entries.new.mapped =
    take_at c.read_entries.new.mapped _ c.args.mapped.now.len (c.read_entries.auto.mapped ∙ c.deref_mut-then-wanted-eq1.ensures.len) in
    rest-leaf_read c.args.root.now nodes (reverse c.args.frames.now.items) c.args.wanted c.args.node.now (found_with reached c.args.entries.now.items c.args.mapped.now.items)
    (Ok (found_with (reached ++ c.args.wanted ∷ []) c.read_entries.new.entries c.read_entries.new.mapped)) c.if-wanted-eq1.true e c.requires.right
    (ap (leaf_read c.args.root.now c.args.wanted c.args.node.now.words) (found_same (reached ++ c.args.wanted ∷ []) (reached ++ c.args.wanted ∷ []) c.args.entries.now.items c.deref_mut.result.now c.args.mapped.now.items c.deref_mut-then-wanted-eq1.result.now refl (sym c.deref_mut.ensures.value) (sym c.deref_mut-then-wanted-eq1.ensures.value))
    ∙ c.in_default.ensures.ok (reached ++ c.args.wanted ∷ []))
    ∙ ap (frames_rest c.args.root.now nodes (reverse c.args.frames.now.items)) (found_same (reached ++ c.args.wanted ∷ []) (reached ++ c.args.wanted ∷ []) c.read_entries.new.entries _ c.read_entries.new.mapped _ refl (sym kept_entries) (sym kept_mapped))
