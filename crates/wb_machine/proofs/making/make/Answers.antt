use Rattle.std.proofs.Common.{◌∙◌, ◌+◌, List, None, ap, get_or, is_some, refl}
use Rattle.std.proofs.lemmas.List.{get_or-replicate}
use Rattle.std.specs.List.{count_by}
use Rattle.wb_types.specs.declared.number.Place.{Place}
use Rattle.wb_words.specs.Cards.{blank_card}
use Rattle.wb_words.specs.declared.card.Card.{Card}
use Rattle.wb_words.specs.SharedWords.{Words, word_at}
use Rattle.wb_format.specs.declared.root.Root.{Root}
use Rattle.wb_desk.specs.Opening.{opened, threshold_of}
use Rattle.wb_machine.specs.declared.machine.TheConstants.{ACTORS}
use Rattle.wb_machine.proofs.Seals.{fresh_free, made_so}
use Rattle.wb_machine.proofs.making.make.Goals as goal

pub seal_all-requires-clause-idle : goal.seal_all-requires-clause-idle
seal_all-requires-clause-idle c = ap (λ (cs : List Card). (get_or cs c.args.asked.actor blank_card).hold) c.in_ok-crew.ensures.new.2 ∙ ap (λ (x : Card). x.hold) (get_or-replicate ACTORS c.args.asked.actor blank_card blank_card c.requires.actor)

pub seal_all-requires-clause-free : goal.seal_all-requires-clause-free
seal_all-requires-clause-free c = λ block. ap (λ (w : Words). word_at w.cells block) c.in_ok-crew.ensures.new.1 ∙ fresh_free c.args.state.root.geometry.origin_blocks block

pub new-requires-2-clause-fits : goal.new-requires-2-clause-fits
new-requires-2-clause-fits c =
    let fits = c.requires.fits in
    rw (c.requires.next, c.in_ok-places.ensures) (record { size = fits.size; mapping = fits.mapping; sound = fits.sound; inside = fits.inside; known_used = fits.known_used; used_are = fits.used_are; used_few = fits.used_few; keeps = fits.keeps })

pub returns-clause-made : goal.returns-clause-made
returns-clause-made c =
    let g = c.args.state.root.geometry in
    let desk = c.in_ok-desk.desk in
    let mapped = count_by is_some desk.tree.entries in
    let read = c.in_ok-desk.ensures.opened
    ∙ ap (λ (r : Root). opened r.geometry r.generation c.args.state.tree c.in_ok-places.places.items c.args.asked.mode desk.policy (threshold_of None) mapped) c.requires.next
    ∙ ap (λ (used : List Place). opened g (c.args.state.root.generation + 1) c.args.state.tree used c.args.asked.mode desk.policy (threshold_of None) mapped) c.in_ok-places.ensures in
    made_so ACTORS c.args.asked _ c.args.state.tree c.in_ok-crew.crew c.requires.actor read c.seal_all.ensures c.in_ok-crew.ensures.new.1 c.in_ok-crew.ensures.new.2 c.in_ok-crew.ensures.new.0 refl refl c.in_ok-members.ensures.members
