use Rattle.std.proofs.Common.{◌≡◌, ◌<◌, drop, length}
use Rattle.wb_words.specs.declared.card.Hold.TheVariants.{Nothing}
use Rattle.wb_cells.specs.Crews.{card_of}
use Rattle.wb_devices.specs.Clean.{entries_of}
use Rattle.wb_promise.specs.Effects.{sealing_steps, seals_of}
use Rattle.wb_machine.specs.Making.{AllFree, crew_by}
use Rattle.wb_machine.proofs.sealing.seal_all.Given as goal

abbrev pub invariant-loop-c : goal.invariant-loop-c
invariant-loop-c l = record {
  there : l.actor < length l.crew.cards;
  idle : (card_of l.crew l.actor).hold ≡ Nothing;
  blocks : l.crew.blocks ≡ l.state.root.geometry.origin_blocks;
  free : AllFree l.crew;
  left : crew_by l.crew l.actor (sealing_steps l.state.root.clean l.c (drop l.c (entries_of l.state))) ≡ crew_by l.initial.crew l.actor (seals_of l.state);
}
