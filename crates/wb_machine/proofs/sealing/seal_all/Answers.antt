use Rattle.std.proofs.Common.{◌≡◌, ◌<◌, ◌∙◌, suc, None, Some, add-one, ap, arith, cond, drop, length, refl, subst, sym, true}
use Rattle.wb_cells.specs.Crews.{CrewState}
use Rattle.wb_devices.specs.Clean.{entries_of}
use Rattle.wb_devices.proofs.BitEntries.{length-with_bits, mapping-with_bits}
use Rattle.wb_promise.specs.Effects.{sealing_steps}
use Rattle.wb_machine.specs.Making.{AllFree, block_seals, crew_by}
use Rattle.wb_machine.proofs.Seals.{as_many, blocks_stay, free_again, none_left, seals_more}
use Rattle.wb_machine.proofs.sealing.seal_all.Goals as goal
use Rattle.wb_machine.proofs.sealing.seal_all.Goals.{in-Some, in_default}

pub loop-c-init : goal.loop-c-init
loop-c-init c = record { there = c.requires.there; idle = c.requires.idle; blocks = c.requires.blocks; free = c.requires.free; left = refl }

pub seal-requires-clause-there : goal.seal-requires-clause-there
seal-requires-clause-there c = c.loop-c.invariant.there

pub seal-requires-clause-idle : goal.seal-requires-clause-idle
seal-requires-clause-idle c = c.loop-c.invariant.idle

pub seal-requires-clause-block : goal.seal-requires-clause-block
seal-requires-clause-block c =
    let state = c.args.state.now in
    let geometry = state.root.geometry in
    let mapping = mapping-with_bits state.dirty geometry.cache_blocks geometry.origin_blocks state.tree.entries c.requires.mapping in
    subst (λ n. c.in-Some.entry.origin.0 < n) (sym c.loop-c.invariant.blocks) (mapping.within c.loop-c.c c.in-Some.entry (sym c.stored_entry.ensures ∙ c.in-Some.is)).0

pub seal-requires-clause-free : goal.seal-requires-clause-free
seal-requires-clause-free c = c.loop-c.invariant.free c.in-Some.entry.origin

pub loop-c-preserved : goal.loop-c-preserved
loop-c-preserved c =
    let at = c.loop-c.c in
    let actor = c.args.actor in
    let old = c.loop-c.crew in
    let state = c.args.state.now in
    let entries = entries_of state in
    let clean = state.root.clean in
    let inside : at < length entries = omega (arith, length-with_bits state.dirty state.tree.entries, c.requires.mapping.size, c.loop-c-test.true) in
    elim c.match-stored_entry.branch [
      | in-Some w ↦
          let entry = w.in-Some.entry in
          let here = sym c.stored_entry.ensures ∙ w.in-Some.is in
          let seals = block_seals entry.origin (record { 0 = at }) (cond clean entry.dirty true) in
          let sealed : w.seal.new.crew ≡ crew_by old actor seals = w.seal.ensures.crew ∙ ap (λ d. crew_by old actor (block_seals entry.origin (record { 0 = at }) d)) w.counts_as_dirty-dirty.ensures in
          rw (w.crew-is, add-one) (record {
            there = subst (λ n. actor < n) (sym (ap (λ (k : CrewState). length k.cards) sealed ∙ as_many old actor seals)) c.loop-c.invariant.there;
            idle = w.seal.ensures.idle;
            blocks = ap (λ (k : CrewState). k.blocks) sealed ∙ blocks_stay old actor seals ∙ c.loop-c.invariant.blocks;
            free = subst AllFree (sym sealed) (free_again old actor entry.origin (record { 0 = at }) (cond clean entry.dirty true) c.loop-c.invariant.free);
            left = ap (λ (k : CrewState). crew_by k actor (sealing_steps clean (suc at) (drop (suc at) entries))) sealed ∙ sym (ap (λ steps. crew_by old actor steps) (seals_more clean entries at inside (Some entry) here)) ∙ c.loop-c.invariant.left;
          })
      | in_default w ↦
          rw (w.crew-is, add-one) (record {
            there = c.loop-c.invariant.there;
            idle = c.loop-c.invariant.idle;
            blocks = c.loop-c.invariant.blocks;
            free = c.loop-c.invariant.free;
            left = sym (ap (λ steps. crew_by old actor steps) (seals_more clean entries at inside None (sym c.stored_entry.ensures ∙ w.in_default.is))) ∙ c.loop-c.invariant.left;
          })
    ]

pub returns : goal.returns
returns c =
    let state = c.args.state.now in
    let entries = entries_of state in
    sym (ap (λ es. crew_by c.loop-c.crew c.args.actor (sealing_steps state.root.clean c.loop-c.c es))
    (none_left c.loop-c.c entries (omega (arith, length-with_bits state.dirty state.tree.entries, c.requires.mapping.size, c.loop-c-test.false)))) ∙ c.loop-c.invariant.left
