-- Steps of one actor of a crew, and what sealing the mapped blocks makes of it.
use Rattle.std.proofs.Common.{◌≡◌, ◌<◌, ◌≤◌, ◌==◌, ◌+◌, ℕ, zero, suc, Bool, true, false, List, [], ◌∷◌, Option, Some, None, refl, sym, ap, subst, ◌∙◌, arith, cond, get_or, set, drop, length, length-set, replicate, drop-cons, is_some, slice_get, slice_set, unwrap_or, if◌then◌else◌}
use Rattle.std.proofs.lemmas.List.{get_or-set_same, get_or-replicate, set-get_or, length-replicate}
use Rattle.std.specs.List.{count_by}
use Rattle.wb_tree.specs.Mapping.{Mapping}
use Rattle.wb_dirty.specs.ImageReading.{with_bits}
use Rattle.wb_policy.specs.declared.quiet.Quiet.{Quiet}
use Rattle.wb_desk.specs.Desks.{DeskState}
use Rattle.wb_desk.specs.Opening.{opened, threshold_of}
use Rattle.wb_types.specs.declared.entry.Entry.{Entry}
use Rattle.wb_types.specs.declared.number.OBlock.{OBlock}
use Rattle.wb_types.specs.declared.number.CBlock.{CBlock}
use Rattle.wb_words.specs.declared.card.Card.{Card}
use Rattle.wb_words.specs.declared.step.CellStep.{CellStep}
use Rattle.wb_words.specs.SharedWords.{Words, flag, fresh_words, word_at, with_cell}
use Rattle.wb_words.specs.Cards.{blank_card}
use Rattle.wb_words.specs.Effects.{words_after, card_after}
use Rattle.wb_cells.specs.Crews.{CrewState, card_of, crew_after}
use Rattle.wb_promise.specs.Effects.{card_by, sealing_steps, seals_of, words_by}
use Rattle.wb_machine.specs.declared.asked.Asked.{Asked}
use Rattle.wb_machine.specs.declared.making.Made.{Made}
use Rattle.wb_machine.specs.Making.{AllFree, IsMade, block_seals, crew_by, read_of}
use Rattle.wb_machine.specs.Members.{free}
use Rattle.wb_contents.proofs.Lists.{set_twice}

-- ---- steps, one after the other

pub words_come : (crew : CrewState) (a : ℕ) (steps : List CellStep) → (crew_by crew a steps).words ≡ words_by crew.words steps
words_come crew a [] = refl
words_come crew a (step ∷ steps) = words_come (crew_after crew a step) a steps

pub blocks_stay : (crew : CrewState) (a : ℕ) (steps : List CellStep) → (crew_by crew a steps).blocks ≡ crew.blocks
blocks_stay crew a [] = refl
blocks_stay crew a (step ∷ steps) = blocks_stay (crew_after crew a step) a steps

pub cards_come : (crew : CrewState) (a : ℕ) (steps : List CellStep) → a < length crew.cards → (crew_by crew a steps).cards ≡ slice_set crew.cards a (card_by crew.words (card_of crew a) steps)
cards_come crew a [] h = sym (set-get_or crew.cards a blank_card)
cards_come crew a (step ∷ steps) h =
    let card = card_after crew.words step (card_of crew a) in
    let there : a < length (slice_set crew.cards a card) = subst (λ n. a < n) (sym (length-set crew.cards a card)) h in
    let now : get_or (set crew.cards a card) a blank_card ≡ card = get_or-set_same crew.cards a card blank_card h in
    cards_come (crew_after crew a step) a steps there
    ∙ ap (λ (c : Card). slice_set (slice_set crew.cards a card) a (card_by (words_after crew.words step) c steps)) now
    ∙ set_twice crew.cards a card (card_by (words_after crew.words step) card steps)

-- ---- seals

zero_still : (cells : List ℕ) (i k : ℕ) → unwrap_or (slice_get cells k) 0 ≡ 0 → unwrap_or (slice_get (slice_set cells i 0) k) 0 ≡ 0
zero_still [] i k e = e
zero_still (c ∷ cells) zero zero e = refl
zero_still (c ∷ cells) zero (suc k) e = e
zero_still (c ∷ cells) (suc i) zero e = e
zero_still (c ∷ cells) (suc i) (suc k) e = zero_still cells i k e

same_there : (n k x : ℕ) → x ≡ 0 → unwrap_or (slice_get (replicate n x) k) 0 ≡ x
same_there zero k x e = sym e
same_there (suc n) zero x e = refl
same_there (suc n) (suc k) x e = same_there n k x e

pub fresh_free : (blocks : ℕ) (block : OBlock) → word_at (fresh_words blocks).cells block ≡ 0
fresh_free blocks block = same_there blocks block.0 0 refl

-- a block that nobody has is free again
pub free_again : (crew : CrewState) (a : ℕ) (block : OBlock) (place : CBlock) (dirty : Bool) → AllFree crew → AllFree (crew_by crew a (block_seals block place dirty))
free_again crew a block place dirty free other = rw (free block) (
    ap (λ (cells : List ℕ). unwrap_or (slice_get cells other.0) 0) (set_twice crew.words.cells block.0 1 0) ∙ zero_still crew.words.cells block.0 other.0 (free other))

taking_keeps : (b : Bool) (words : Words) (block : OBlock) (cell : ℕ) → (if b then with_cell words block cell else words).fail ≡ words.fail
taking_keeps true words block cell = refl
taking_keeps false words block cell = refl

-- no seal sets a bit of the fail word
pub fail_stays : (words : Words) (clean : Bool) (c : ℕ) (entries : List (Option Entry)) → (words_by words (sealing_steps clean c entries)).fail ≡ words.fail
fail_stays words clean c [] = refl
fail_stays words clean c (None ∷ entries) = fail_stays words clean (suc c) entries
fail_stays words clean c (Some entry ∷ entries) =
    fail_stays (words_by words (block_seals entry.origin (record { 0 = c }) (cond clean entry.dirty true))) clean (suc c) entries
    ∙ taking_keeps (word_at words.cells entry.origin == 0) words entry.origin 1

-- the steps from a block on, as its entry is
pub seals_more : (clean : Bool) (entries : List (Option Entry)) (c : ℕ) → c < length entries → (entry : Option Entry) → get_or entries c None ≡ entry
    → sealing_steps clean c (drop c entries) ≡ sealing_steps clean c (entry ∷ drop (suc c) entries)
seals_more clean entries c h entry e = ap (λ (es : List (Option Entry)). sealing_steps clean c es) (drop-cons entries c None h ∙ ap (λ (x : Option Entry). x ∷ drop (suc c) entries) e)

pub none_left : (n : ℕ) (entries : List (Option Entry)) → length entries ≤ n → drop n entries ≡ []
none_left zero [] h = refl
none_left (suc n) [] h = refl
none_left zero (e ∷ es) h = absurd (omega (arith, h))
none_left (suc n) (e ∷ es) h = none_left n es (omega (arith, h))

pub as_many : (crew : CrewState) (a : ℕ) (steps : List CellStep) → length (crew_by crew a steps).cards ≡ length crew.cards
as_many crew a [] = refl
as_many crew a (step ∷ steps) = as_many (crew_after crew a step) a steps ∙ length-set crew.cards a (card_after crew.words step (card_of crew a))

-- What is made of what was read: the desk has the tree, and the blocks of its entries were sealed, each with its dirty bit.
pub made_so : (n : ℕ) (asked : Asked) (made : Made) (tree : Mapping) (crew : CrewState) → asked.actor < n
    → made.target.desk ≡ opened made.root.geometry (made.root.generation + 1) tree made.used.items asked.mode made.target.desk.policy (threshold_of None) (count_by is_some made.target.desk.tree.entries)
    → made.target.crew ≡ crew_by crew asked.actor (sealing_steps made.root.clean 0 (with_bits made.dirty tree.entries))
    → crew.words ≡ fresh_words made.root.geometry.origin_blocks → crew.cards ≡ replicate n blank_card → crew.blocks ≡ made.root.geometry.origin_blocks → made.target.failed ≡ false → made.target.commit ≡ None → made.members.items ≡ replicate n free → IsMade n asked made
made_so n asked made tree crew h desk sealed fresh cards blocks failed commit members =
    let entries = with_bits made.dirty tree.entries in
    let seals = sealing_steps made.root.clean 0 entries in
    let words = fresh_words made.root.geometry.origin_blocks in
    let same : made.target.desk.tree ≡ tree = ap (λ (d : DeskState Quiet). d.tree) desk in
    let steps : seals ≡ seals_of (read_of made) = ap (λ (t : Mapping). sealing_steps made.root.clean 0 (with_bits made.dirty t.entries)) (sym same) in
    let words_so : made.target.crew.words ≡ words_by words seals = ap (λ (k : CrewState). k.words) sealed ∙ words_come crew asked.actor seals ∙ ap (λ (w : Words). words_by w seals) fresh in
    let blank : card_of crew asked.actor ≡ blank_card = ap (λ (cs : List Card). get_or cs asked.actor blank_card) cards ∙ get_or-replicate n asked.actor blank_card blank_card h in
    let there : asked.actor < length crew.cards = subst (λ k. asked.actor < k) (sym (ap length cards ∙ length-replicate n blank_card)) h in
    record {
      desk_is = desk ∙ ap (λ (t : Mapping). opened made.root.geometry (made.root.generation + 1) t made.used.items asked.mode made.target.desk.policy (threshold_of None) (count_by is_some made.target.desk.tree.entries)) (sym same);
      words_are = words_so ∙ ap (λ (ss : List CellStep). words_by words ss) steps;
      cards_are = ap (λ (k : CrewState). k.cards) sealed ∙ cards_come crew asked.actor seals there
          ∙ ap (λ (w : Words). slice_set crew.cards asked.actor (card_by w (card_of crew asked.actor) seals)) fresh
          ∙ ap (λ (c : Card). slice_set crew.cards asked.actor (card_by words c seals)) blank
          ∙ ap (λ (cs : List Card). slice_set cs asked.actor (card_by words blank_card seals)) cards
          ∙ ap (λ (ss : List CellStep). slice_set (replicate n blank_card) asked.actor (card_by words blank_card ss)) steps;
      blocks_are = ap (λ (k : CrewState). k.blocks) sealed ∙ blocks_stay crew asked.actor seals ∙ blocks;
      failed_is = failed ∙ sym (ap (λ (w : Words). flag w.fail) words_so ∙ ap flag (fail_stays words made.root.clean 0 entries));
      commit_is = commit;
      members_are = members;
    }
