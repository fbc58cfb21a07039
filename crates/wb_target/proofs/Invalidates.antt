-- A stage of an invalidation is ready for each of its steps, and from its run to what is told of it.
use Rattle.std.proofs.Common.{◌≡◌, ◌≢◌, ◌⊎◌, ◌∙◌, ◌<◌, ◌++◌, ℕ, List, [], ◌∷◌, Option, inl, inr, refl, sym, ap, subst}
use Rattle.std.proofs.lemmas.List.{append_assoc, append-nil}
use Rattle.wb_types.specs.declared.geometry.Geometry.{Geometry}
use Rattle.wb_types.specs.declared.message.CBlockRange.{CBlockRange}
use Rattle.wb_types.specs.declared.mode.Mode.{Mode}
use Rattle.wb_types.specs.declared.mode.Mode.TheVariants.{Passthrough}
use Rattle.wb_types.specs.declared.refusal.Refusal.{Refusal}
use Rattle.wb_types.specs.declared.refusal.Refusal.TheVariants.{Busy, Defer, Io, Failed, Memory, Worn, NotFormatted, Damaged, Mismatch, NotClean, GenerationEnd, BadMessage, WrongMode}
use Rattle.wb_types.specs.declared.number.OBlock.{OBlock}
use Rattle.wb_words.specs.declared.card.Card.{Card}
use Rattle.wb_words.specs.declared.card.Hold.TheVariants.{Nothing}
use Rattle.wb_words.specs.declared.word.Word.TheVariants.{Seal as SealWord, Number}
use Rattle.wb_words.specs.declared.step.CellStep.{CellStep}
use Rattle.wb_words.specs.declared.step.CellStep.TheVariants.{Look}
use Rattle.wb_tasks.specs.Tables.{BlockJob, BlockRange, OnBlock, Invalidating}
use Rattle.wb_tasks.specs.Plan.{Plan, want, after, Fits}
use Rattle.wb_tasks.specs.Causes.{Causes, GaveCause}
use Rattle.wb_tasks.specs.Ready.{AreFirst, IsOwnStep, MayMake, MayTake, left_by}
use Rattle.wb_tasks.specs.Run.{IsRunOf, Leads}
use Rattle.wb_tasks.specs.declared.step.Answer.{Answer}
use Rattle.wb_tasks.specs.declared.step.Answer.TheVariants.{Refused as Refuses}
use Rattle.wb_tasks.specs.declared.step.DeskStep.TheVariants.{Unmap}
use Rattle.wb_tasks.specs.declared.step.Want.{Want}
use Rattle.wb_tasks.specs.declared.step.Want.TheVariants.{Cell, Device, Desk, End}
use Rattle.wb_tasks.specs.declared.step.Got.{Got}
use Rattle.wb_tasks.specs.declared.step.Got.TheVariants.{Word, Refused}
use Rattle.wb_tasks.proofs.Causing.{refuses_for_cause}
use Rattle.wb_desk.specs.Messages.{AreRanges}
use Rattle.wb_port.specs.Hands.{DoneByPass}
use Rattle.wb_port.specs.declared.hand.Hand.{Hand}
use Rattle.wb_port.proofs.Passing.{made_by_pass, same_table}
use Rattle.wb_port.proofs.Readying.{kept_by, ready_there, idle_again}
use Rattle.wb_target.specs.Works.{DeskTold}
use Rattle.wb_target.specs.Invalidates.{invalidation, InvalidateLed, InvalidateStep, IsReadyToInvalidate, WasInvalidated, IsEmptied, AreEmptied, AreStopped, LeavesTheRest, InvalidateRefused, NoRange, OtherMode}
use Rattle.wb_target.specs.declared.client.Client.{Client}
use Rattle.wb_target.specs.declared.invalidating.InvalidateStage.{InvalidateStage}

module _ {D : Type 0} (asked : DeskTold) (blocks : ℕ) where
  -- What holds where the desk is asked, which changes no hand, and of each step of the pass, holds of each step.
  by_steps : (T : Hand D → Want → Got → Hand D → Type 0) → ((s : Hand D) (b : OBlock) (g : Got) → T s (Desk (Unmap b)) g s) → ((s : Hand D) (step : CellStep) (g : Got) (t : Hand D) → t ≡ record s { pass = t.pass } → DoneByPass blocks s.pass (Cell step) g t.pass → T s (Cell step) g t)
      → (s : Hand D) (w : Want) (g : Got) (t : Hand D) → InvalidateStep asked blocks s w g t → T s w g t
  by_steps T asks steps s (Desk (Unmap b)) g t h = subst (λ (x : Hand D). T s (Desk (Unmap b)) g x) (sym h.0) (asks s b g)
  by_steps T asks steps s (Cell step) g t h = steps s step g t h.0 h.1
  by_steps T asks steps s w g t h = absurd h

  makes_by : (s : Hand D) (w : Want) (g : Got) (t : Hand D) → InvalidateStep asked blocks s w g t → MayMake w g s.pass.card t.pass.card
  makes_by = by_steps (λ s w g t. MayMake w g s.pass.card t.pass.card) (λ s b g. refl) (λ s step g t kept by. made_by_pass blocks s.pass t.pass (Cell step) g by)

  -- whatever of a hand is not its pass stays
  stays : {C : Type 0} (part : Hand D → C) → ((s t : Hand D) → part (record s { pass = t.pass }) ≡ part s) → (s : Hand D) (w : Want) (g : Got) (t : Hand D) → InvalidateStep asked blocks s w g t → part t ≡ part s
  stays part apart = by_steps (λ s w g t. part t ≡ part s) (λ s b g. refl) (λ s step g t kept by. ap part kept ∙ apart s t)

  table_stays : (s : Hand D) (w : Want) (g : Got) (t : Hand D) → InvalidateStep asked blocks s w g t → t.pass.table ≡ s.pass.table
  table_stays = by_steps (λ s w g t. t.pass.table ≡ s.pass.table) (λ s b g. refl) (λ s step g t kept by. same_table blocks s.pass t.pass (Cell step) g by)

module _ {R D P : Type 0} (asked : DeskTold) where
  abbrev led : InvalidateStage R D P → Want → Got → InvalidateStage R D P → Type 0
  led = InvalidateLed asked

  abbrev card : InvalidateStage R D P → Card
  card x = x.hand.now.pass.card

  makes : (x : InvalidateStage R D P) (w : Want) (g : Got) (y : InvalidateStage R D P) → led x w g y → MayMake w g (card x) (card y)
  makes x w g y h = makes_by asked x.cells.now.blocks x.hand.now w g y.hand.now h.did

  module _ (block_sectors : ℕ) (block : OBlock) (steps : List (Want × Got)) (old new : InvalidateStage R D P) (leads : Leads led old steps new) where
    abbrev job : BlockJob
    job = Invalidating (record { mode = Passthrough; block_sectors = block_sectors; block = block; extents = [] })

    abbrev plan : Plan
    plan = invalidation block_sectors block

    same_cells : new.cells ≡ old.cells
    same_cells = kept_by led (λ x. x.cells) (λ x w g y h. h.cells) old steps new leads

    pub same_hand : new.hand.ghost_name ≡ old.hand.ghost_name
    same_hand = kept_by led (λ x. x.hand.ghost_name) (λ x w g y h. h.same_hand) old steps new leads

    pub at_words : new.hand.now.pass.table ≡ old.hand.now.pass.table
    at_words = kept_by led (λ x. x.hand.now.pass.table) (λ x w g y h. table_stays asked x.cells.now.blocks x.hand.now w g y.hand.now h.did) old steps new leads

    pub same_size : new.hand.now.block_sectors ≡ old.hand.now.block_sectors
    same_size = kept_by led (λ x. x.hand.now.block_sectors) (λ x w g y h. stays asked x.cells.now.blocks (λ s. s.block_sectors) (λ s t. refl) x.hand.now w g y.hand.now h.did) old steps new leads

    pub same_mode : new.hand.now.mode ≡ old.hand.now.mode
    same_mode = kept_by led (λ x. x.hand.now.mode) (λ x w g y h. stays asked x.cells.now.blocks (λ s. s.mode) (λ s t. refl) x.hand.now w g y.hand.now h.did) old steps new leads

    pub same_devices : new.hand.now.devices ≡ old.hand.now.devices
    same_devices = kept_by led (λ x. x.hand.now.devices) (λ x w g y h. stays asked x.cells.now.blocks (λ s. s.devices) (λ s t. refl) x.hand.now w g y.hand.now h.did) old steps new leads

    pub ready : block.0 < old.cells.now.blocks → old.hand.now.pass.table ≡ old.cells.now.table → old.hand.now.pass.card.hold ≡ Nothing → AreFirst plan steps → IsReadyToInvalidate new (want (left_by plan steps))
    ready there at idle f =
        let both = ready_there led card makes old.cells.now.blocks plan job old refl there idle steps new f leads in
        by_want (want (left_by plan steps)) both.1 (subst (λ x. MayTake x.now.blocks (card new) (want (left_by plan steps))) (sym same_cells) both.0)
      where
        words : new.hand.now.pass.table ≡ new.cells.now.table
        words = at_words ∙ (at ∙ ap (λ x. x.now.table) (sym same_cells))

        by_want : (w : Want) → IsOwnStep (OnBlock job) w → MayTake new.cells.now.blocks (card new) w → IsReadyToInvalidate new w
        by_want (Cell step) o may = (words, may)
        by_want (Device step) o may = absurd o
        by_want (Desk (Unmap b)) o may = tt
        by_want (Desk step) o may = absurd o
        by_want (End a) o may = tt

    pub idle_then : (answer : Answer) → block.0 < old.cells.now.blocks → old.hand.now.pass.card.hold ≡ Nothing → IsRunOf plan steps answer → new.hand.now.pass.card.hold ≡ Nothing
    idle_then answer there idle run = idle_again led card makes old.cells.now.blocks plan job old refl there idle steps answer new run leads

  -- a run of the stage is one of what it stands for
  plainly : (x : InvalidateStage R D P) (steps : List (Want × Got)) (new : InvalidateStage R D P) → Leads led x steps new → Leads (InvalidateStep asked x.cells.now.blocks) x.hand.now steps new.hand.now
  plainly x [] new e = ap (λ (s : InvalidateStage R D P). s.hand.now) e
  plainly x (step ∷ steps) new l = (l.0.hand.now, l.1.did, subst (λ c. Leads (InvalidateStep asked c.now.blocks) l.0.hand.now steps new.hand.now) l.1.cells (plainly l.0 steps new l.2))

  pub invalidated : (block_sectors : ℕ) (block : OBlock) (answer : Answer) (old new : InvalidateStage R D P) → (steps : List (Want × Got)) × IsRunOf (invalidation block_sectors block) steps answer × Leads led old steps new
      → WasInvalidated asked old.cells.now.blocks block_sectors block old.hand.now answer new.hand.now
  invalidated block_sectors block answer old new run = record { steps = run.0; run = run.1; leads = plainly old run.0 new run.2 }

-- what one step leaves of a client and then another does, both do
pub rest_on : {D P : Type 0} (old mid new : Client D P) → LeavesTheRest old mid → LeavesTheRest mid new → LeavesTheRest old new
rest_on old mid new a b = (b.0 ∙ a.0, b.1 ∙ a.1, b.2 ∙ a.2, b.3 ∙ a.3)

-- ---- why it is refused

-- ranges that may not be invalidated, or a mode in which none may
pub not_begun : {D : Type 0} (P : Type 0) (asked : DeskTold) (geometry : Geometry) (ranges : List CBlockRange) (refusal : Refusal) (mode : Mode) (hand : Hand D) → mode ≡ hand.mode
    → ((refusal ≡ BadMessage) × ¬ AreRanges geometry.cache_blocks ranges) ⊎ ((refusal ≡ WrongMode) × AreRanges geometry.cache_blocks ranges × (mode ≢ Passthrough))
    → InvalidateRefused P asked geometry ranges refusal hand hand
not_begun P asked geometry ranges refusal mode hand is (inl bad) = NoRange bad.0 bad.1 refl
not_begun P asked geometry ranges refusal mode hand is (inr other) = OtherMode other.0 other.1 (λ passes. other.2 (is ∙ passes)) refl

-- a step of it gives cause to be busy or failed, and for nothing else
fails_alone : {D : Type 0} (asked : DeskTold) (blocks : ℕ) (part : BlockRange) (r : Refusal) (s : Hand D) (w : Want) (g : Got) (t : Hand D) → r ≢ Busy → Causes (OnBlock (Invalidating part)) r w g → Fits w g → InvalidateStep asked blocks s w g t → r ≡ Failed
fails_alone asked blocks part Failed s w g t n c f h = refl
fails_alone asked blocks part Busy s w g t n c f h = absurd (n refl)
fails_alone asked blocks part (Io device) s (Device step) g t n c f h = absurd h
fails_alone asked blocks part Defer s (Cell (Look (SealWord block))) (Word word) t n c f h = absurd cc
fails_alone asked blocks part Memory s (Desk (Unmap block)) (Refused given) t n c f h = absurd f
fails_alone asked blocks part Memory s (Desk step) (Refused given) t n c f h = absurd h
fails_alone asked blocks part Memory s (Device step) g t n c f h = absurd h
fails_alone asked blocks part Worn s (Cell (Look (Number block))) (Word word) t n c f h = absurd cc
fails_alone asked blocks part NotFormatted s (Device step) g t n c f h = absurd h
fails_alone asked blocks part (Damaged place) s (Device step) g t n c f h = absurd h
fails_alone asked blocks part Mismatch s (Device step) g t n c f h = absurd h
fails_alone asked blocks part NotClean s (Device step) g t n c f h = absurd h
fails_alone asked blocks part GenerationEnd s (Device step) g t n c f h = absurd h
fails_alone asked blocks part GenerationEnd s (Desk (Unmap block)) (Refused given) t n c f h = absurd f
fails_alone asked blocks part GenerationEnd s (Desk step) (Refused given) t n c f h = absurd h
fails_alone asked blocks part r s w g t n c f h = absurd c

-- nor do its steps
fail_alone : {D : Type 0} (asked : DeskTold) (blocks : ℕ) (part : BlockRange) (r : Refusal) (s : Plan) (steps : List (Want × Got)) (answer : Answer) (old new : Hand D) → r ≢ Busy → IsRunOf s steps answer → Leads (InvalidateStep asked blocks) old steps new → GaveCause (OnBlock (Invalidating part)) r steps → r ≡ Failed
fail_alone asked blocks part r s [] answer old new n run l c = absurd c
fail_alone asked blocks part r s (step ∷ steps) answer old new n run l c = elim c [
  | inl now ↦ fails_alone asked blocks part r old step.0 step.1 l.0 n now run.1 l.1
  | inr later ↦ fail_alone asked blocks part r (after s step.1) steps answer l.0 new n run.2 l.2 later
]

-- one that was refused, and not as busy, met the fail word
pub failed_alone : {D : Type 0} (asked : DeskTold) (blocks block_sectors : ℕ) (block : OBlock) (r : Refusal) (old new : Hand D) → r ≢ Busy → WasInvalidated asked blocks block_sectors block old (Refuses r) new → r ≡ Failed
failed_alone asked blocks block_sectors block r old new n was =
    let part : BlockRange = record { mode = Passthrough; block_sectors = block_sectors; block = block; extents = [] } in
    fail_alone asked blocks part r (invalidation block_sectors block) was.steps (Refuses r) old new n was.run was.leads (refuses_for_cause (OnBlock (Invalidating part)) was.steps r was.run)

-- ---- cache blocks, one after the other

module _ {H : Type 0} (found : ℕ → Option OBlock → Type 0) (leaves : OBlock → H → H → Type 0) where
  -- Of these cache blocks all but the last ones, which are left, were emptied.
  abbrev pub EmptiedTo : List ℕ → List ℕ → H → H → Type 0
  EmptiedTo places left old now = (done : List ℕ) × (places ≡ done ++ left) × AreEmptied found leaves done old now

  both_emptied : (xs ys : List ℕ) (old mid new : H) → AreEmptied found leaves xs old mid → AreEmptied found leaves ys mid new → AreEmptied found leaves (xs ++ ys) old new
  both_emptied [] ys old mid new first then = subst (λ (s : H). AreEmptied found leaves ys s new) (sym first) then
  both_emptied (x ∷ xs) ys old mid new first then = (first.0, first.1, both_emptied xs ys first.0 mid new first.2 then)

  pub emptied_more : (places xs left : List ℕ) (old mid new : H) → EmptiedTo places (xs ++ left) old mid → AreEmptied found leaves xs mid new → EmptiedTo places left old new
  emptied_more places xs left old mid new so more = (so.0 ++ xs, so.1 ∙ sym (append_assoc so.0 xs left), both_emptied so.0 xs old mid new so.2 more)

  pub emptied_one : (places : List ℕ) (place : ℕ) (left : List ℕ) (old mid new : H) → EmptiedTo places (place ∷ left) old mid → IsEmptied found leaves place mid new → EmptiedTo places left old new
  emptied_one places place left old mid new so one = emptied_more places (place ∷ []) left old mid new so (new, one, refl)

  pub emptied_all : (places : List ℕ) (old new : H) → EmptiedTo places [] old new → AreEmptied found leaves places old new
  emptied_all places old new so = subst (λ (xs : List ℕ). AreEmptied found leaves xs old new) (sym (so.1 ∙ append-nil so.0)) so.2

  pub emptied_stops : (remains : OBlock → H → H → Type 0) (places xs left : List ℕ) (old mid new : H) → EmptiedTo places (xs ++ left) old mid → AreStopped found leaves remains xs mid new → AreStopped found leaves remains places old new
  emptied_stops remains places xs left old mid new so stop = record {
    done = so.0 ++ stop.done;
    place = stop.place;
    rest = stop.rest ++ left;
    all = so.1 ∙ (ap (λ (ys : List ℕ). so.0 ++ (ys ++ left)) stop.all ∙ (ap (λ (ys : List ℕ). so.0 ++ ys) (append_assoc stop.done (stop.place ∷ stop.rest) left) ∙ sym (append_assoc so.0 stop.done (stop.place ∷ (stop.rest ++ left)))));
    before = stop.before;
    emptied = both_emptied so.0 stop.done old mid stop.before so.2 stop.emptied;
    block = stop.block;
    found_there = stop.found_there;
    stayed = stop.stayed;
  }
