use Rattle.std.proofs.Common.{sym, ◌∙◌, refl}
use Rattle.wb_tree.proofs.Reading.LeafSteps.{passed-some, passed-none, passed-fault, passed-all}
use Rattle.wb_tree.proofs.leaf.read_entries.Goals.{in-Some+else-not-may_map, in_default}
use Rattle.wb_tree.proofs.leaf.read_entries.Goals as goal

pub loop-j-init : goal.loop-j-init
loop-j-init c = record { entries_long = c.requires.entries; mapped_long = c.requires.mapped; passed = λ reached. refl }

pub returns-then-not-may_map-clause-fault : goal.returns-then-not-may_map-clause-fault
returns-then-not-may_map-clause-fault c =
    passed-fault c.args.root.now c.args.leaf c.args.words.now c.args.entries.now c.args.mapped.now c.loop-j.entries c.loop-j.mapped c.loop-j.j c.from.result c.in-Some.entry c.loop-j.invariant c.loop-j-test.true
    c.from.ensures (sym c.entry_in_word.ensures ∙ c.in-Some.is) (sym c.may_map.ensures ∙ c.if-not-may_map.true)

pub returns-clause-ok : goal.returns-clause-ok
returns-clause-ok c = passed-all c.args.root.now c.args.leaf c.args.words.now c.args.entries.now c.args.mapped.now c.loop-j.entries c.loop-j.mapped c.loop-j.j c.loop-j.invariant c.loop-j-test.false

pub loop-j-preserved : goal.loop-j-preserved
loop-j-preserved c =
    elim c.match-entry_in_word.branch [
      | in-Some+else-not-may_map w ↦
          passed-some c.args.root.now c.args.leaf c.args.words.now c.args.entries.now c.args.mapped.now c.loop-j.entries c.loop-j.mapped c.loop-j.j w.from.result w.in-Some.entry
          c.match-entry_in_word.entries c.match-entry_in_word.mapped c.loop-j.invariant c.loop-j-test.true w.from.ensures (sym c.entry_in_word.ensures ∙ w.in-Some.is) (sym w.may_map.ensures ∙ w.if-not-may_map.false)
          w.entries-is w.mapped-is
      | in_default w ↦
          passed-none c.args.root.now c.args.leaf c.args.words.now c.args.entries.now c.args.mapped.now c.loop-j.entries c.loop-j.mapped c.loop-j.j
          c.match-entry_in_word.entries c.match-entry_in_word.mapped c.loop-j.invariant c.loop-j-test.true (λ entry e. w.in_default.not-Some entry (c.entry_in_word.ensures ∙ e)) w.entries-is w.mapped-is
    ]
