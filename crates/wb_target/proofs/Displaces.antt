-- A stage of a displacing write is ready for each of its steps, and from its run to what is told of it.
use Rattle.std.proofs.Common.{◌≡◌, ◌∙◌, ◌≤◌, ◌<◌, ◌+◌, ◌/◌, ◌%◌, ℕ, List, [], ◌∷◌, refl, sym, ap, subst}
use Rattle.wb_types.specs.declared.mode.Mode.{Mode}
use Rattle.wb_types.specs.declared.mode.Mode.TheVariants.{Passthrough}
use Rattle.wb_types.specs.declared.extent.Extent.{Extent}
use Rattle.wb_types.specs.declared.number.OBlock.{OBlock}
use Rattle.wb_disk.specs.Device.{History}
use Rattle.wb_words.specs.declared.card.Card.{Card}
use Rattle.wb_words.specs.declared.card.Hold.TheVariants.{Nothing}
use Rattle.wb_tasks.specs.Tables.{BlockRange, OnBlock, Displacing}
use Rattle.wb_tasks.specs.Plan.{Plan, table, want}
use Rattle.wb_tasks.specs.Ready.{AreFirst, IsOwnStep, MayMake, MayTake, left_by}
use Rattle.wb_tasks.specs.Run.{IsRunOf, Leads}
use Rattle.wb_tasks.specs.declared.step.Answer.{Answer}
use Rattle.wb_tasks.specs.declared.step.DeviceStep.TheVariants.{Read, Write}
use Rattle.wb_tasks.specs.declared.step.DeskStep.TheVariants.{Unmap}
use Rattle.wb_tasks.specs.declared.step.Want.{Want}
use Rattle.wb_tasks.specs.declared.step.Want.TheVariants.{Device, Desk}
use Rattle.wb_tasks.specs.declared.step.Got.{Got}
use Rattle.wb_tasks.proofs.Placed.{moves_there}
use Rattle.wb_port.specs.Hands.{WriteState, WriteLed}
use Rattle.wb_port.specs.Moves.{MayMove}
use Rattle.wb_port.specs.Requests.{part_of}
use Rattle.wb_port.specs.declared.moving.WriteStage.{WriteStage}
use Rattle.wb_port.proofs.Passing.{made_by_pass, same_table}
use Rattle.wb_port.proofs.Placed.{IsMoving, MovesAt, part_in, displaces_there}
use Rattle.wb_port.proofs.Readying.{kept_by, ready_there, idle_again}
use Rattle.wb_target.specs.Works.{DeskTold}
use Rattle.wb_target.specs.Displaces.{DisplaceLed, DisplaceStep, IsReadyToDisplace, WasDisplaced}
use Rattle.wb_target.specs.declared.displacing.DisplaceStage.{DisplaceStage}

-- it moves what a write in passthrough may
may_displace : (part : BlockRange) (card : Card) (w : Want) → IsMoving (Displacing part) card w → MayMove Passthrough part.block_sectors card w
may_displace part card (Device (Write device e)) m = record { block = part.block; seal = m.1.0; owned = m.0; seen = m.1.1; dirty = tt; at = m.1.2 }
may_displace part card (Device (Read device e)) m = absurd m.1.2
may_displace part card w m = tt

module _ {R D P : Type 0} (tells : Type 0) (size : D → ℕ) (contents : D → List History) (faults : D → ℕ) (asked : DeskTold) where
  abbrev led : DisplaceStage R D P → Want → Got → DisplaceStage R D P → Type 0
  led = DisplaceLed tells size contents faults asked

  abbrev card : DisplaceStage R D P → Card
  card x = x.write.hand.now.pass.card

  -- what a write's steps keep is kept
  keeps : {C : Type 0} (part : WriteStage D → C) → ((x : WriteStage D) (w : Want) (g : Got) (y : WriteStage D) → WriteLed tells size contents faults x w g y → part y ≡ part x) → (x : DisplaceStage R D P) (w : Want) (g : Got) (y : DisplaceStage R D P) → led x w g y → part y.write ≡ part x.write
  keeps part stays x (Desk (Unmap b)) g y h = ap part h.0
  keeps part stays x (Desk step) g y h = absurd h
  keeps part stays x w g y h = stays x.write w g y.write h

  makes : (x : DisplaceStage R D P) (w : Want) (g : Got) (y : DisplaceStage R D P) → led x w g y → MayMake w g (card x) (card y)
  makes x (Desk (Unmap b)) g y h = ap (λ (s : WriteStage D). s.hand.now.pass.card) h.0
  makes x (Desk step) g y h = absurd h
  makes x w g y h = made_by_pass x.write.cells.now.blocks x.write.hand.now.pass y.write.hand.now.pass w g h.by_pass

  module _ (block_sectors : ℕ) (block : OBlock) (sectors : Extent) (steps : List (Want × Got)) (old new : DisplaceStage R D P) (leads : Leads led old steps new) where
    abbrev part : BlockRange
    part = part_of Passthrough block_sectors block sectors

    abbrev plan : Plan
    plan = table (OnBlock (Displacing part))

    same_cells : new.write.cells ≡ old.write.cells
    same_cells = kept_by led (λ x. x.write.cells) (keeps (λ x. x.cells) (λ x w g y h. h.cells)) old steps new leads

    pub same_hand : new.write.hand.ghost_name ≡ old.write.hand.ghost_name
    same_hand = kept_by led (λ x. x.write.hand.ghost_name) (keeps (λ x. x.hand.ghost_name) (λ x w g y h. h.same_hand)) old steps new leads

    pub at_words : new.write.hand.now.pass.table ≡ old.write.hand.now.pass.table
    at_words = kept_by led (λ x. x.write.hand.now.pass.table) (keeps (λ x. x.hand.now.pass.table) (λ x w g y h. same_table x.cells.now.blocks x.hand.now.pass y.hand.now.pass w g h.by_pass)) old steps new leads

    pub same_size : new.write.hand.now.block_sectors ≡ old.write.hand.now.block_sectors
    same_size = kept_by led (λ x. x.write.hand.now.block_sectors) (keeps (λ x. x.hand.now.block_sectors) (λ x w g y h. h.sized)) old steps new leads

    pub same_mode : new.write.hand.now.mode ≡ old.write.hand.now.mode
    same_mode = kept_by led (λ x. x.write.hand.now.mode) (keeps (λ x. x.hand.now.mode) (λ x w g y h. h.same_mode)) old steps new leads

    pub ready : 0 < block_sectors → sectors.first / block_sectors ≡ block.0 → sectors.first % block_sectors + sectors.count ≤ block_sectors → old.write.hand.now.block_sectors ≡ block_sectors → old.write.hand.now.mode ≡ Passthrough → block.0 < old.write.cells.now.blocks
        → old.write.hand.now.pass.table ≡ old.write.cells.now.table → old.write.hand.now.pass.card.hold ≡ Nothing → AreFirst plan steps → IsReadyToDisplace new (want (left_by plan steps))
    ready some of inside sized passes there at idle f =
        let both = ready_there led card makes old.write.cells.now.blocks plan (Displacing part) old refl there idle steps new f leads in
        let may : MayTake new.write.cells.now.blocks (card new) (want (left_by plan steps)) = subst (λ x. MayTake x.now.blocks (card new) (want (left_by plan steps))) (sym same_cells) both.0 in
        let moves : MayMove new.write.hand.now.mode new.write.hand.now.block_sectors (card new) (want (left_by plan steps)) =
        subst (λ (m : Mode). MayMove m new.write.hand.now.block_sectors (card new) (want (left_by plan steps))) (sym (same_mode ∙ passes))
        (subst (λ (n : ℕ). MayMove Passthrough n (card new) (want (left_by plan steps))) (sym (same_size ∙ sized))
        (may_displace part (card new) (want (left_by plan steps)) (moves_there (MovesAt (Displacing part)) (Displacing part) (displaces_there part some (part_in Passthrough block_sectors block sectors of inside)) led card makes old.write.cells.now.blocks plan old refl there idle steps new f leads))) in
        by_want (want (left_by plan steps)) both.1 may moves
      where
        words : new.write.hand.now.pass.table ≡ new.write.cells.now.table
        words = at_words ∙ (at ∙ ap (λ x. x.now.table) (sym same_cells))

        by_want : (w : Want) → IsOwnStep (OnBlock (Displacing part)) w → MayTake new.write.cells.now.blocks (card new) w → MayMove new.write.hand.now.mode new.write.hand.now.block_sectors (card new) w → IsReadyToDisplace new w
        by_want (Device (Write device e)) o may moves = ((words, may), tt, moves)
        by_want (Device step) o may moves = absurd o
        by_want (Desk (Unmap b)) o may moves = tt
        by_want (Desk step) o may moves = absurd o
        by_want w o may moves = ((words, may), tt, moves)

    pub idle_then : (answer : Answer) → block.0 < old.write.cells.now.blocks → old.write.hand.now.pass.card.hold ≡ Nothing → IsRunOf plan steps answer → new.write.hand.now.pass.card.hold ≡ Nothing
    idle_then answer there idle run = idle_again led card makes old.write.cells.now.blocks plan (Displacing part) old refl there idle steps answer new run leads

  abbrev at : DisplaceStage R D P → WriteState D
  at x = record { hand = x.write.hand.now; moved = x.write.moved }

  -- a run of the stage is one of what it stands for
  plainly : (x : DisplaceStage R D P) (steps : List (Want × Got)) (new : DisplaceStage R D P) → Leads led x steps new → Leads (DisplaceStep tells size contents faults asked x.write.cells.now.blocks x.write.from.now) (at x) steps (at new)
  plainly x [] new e = ap at e
  plainly x (step ∷ steps) new l = (
    at l.0,
    one step.0 step.1 l.1,
    subst (λ c. Leads (DisplaceStep tells size contents faults asked c.now.blocks x.write.from.now) (at l.0) steps (at new)) (keeps (λ s. s.cells) (λ s w g y h. h.cells) x step.0 step.1 l.0 l.1)
        (subst (λ f. Leads (DisplaceStep tells size contents faults asked l.0.write.cells.now.blocks f.now) (at l.0) steps (at new)) (keeps (λ s. s.from) (λ s w g y h. h.same_slice) x step.0 step.1 l.0 l.1) (plainly l.0 steps new l.2)),
  )
    where
      one : (w : Want) (g : Got) → led x w g l.0 → DisplaceStep tells size contents faults asked x.write.cells.now.blocks x.write.from.now (at x) w g (at l.0)
      one (Desk (Unmap b)) g h = (ap (λ (s : WriteStage D). record { hand = s.hand.now; moved = s.moved }) h.0, h.1)
      one (Desk step) g h = absurd h
      one w g h = (h.by_pass, h.from)

  pub displaced : (block_sectors : ℕ) (block : OBlock) (sectors : Extent) (answer : Answer) (old new : DisplaceStage R D P) → (steps : List (Want × Got)) × IsRunOf (table (OnBlock (Displacing (part_of Passthrough block_sectors block sectors)))) steps answer × Leads led old steps new → old.write.moved ≡ 0
      → WasDisplaced tells size contents faults asked old.write.cells.now.blocks block_sectors block sectors old.write.from.now old.write.hand.now answer new.write.hand.now
  displaced block_sectors block sectors answer old new run unmoved = record {
    moved = new.write.moved;
    same_mode = same_mode block_sectors block sectors run.0 old new run.2;
    steps = run.0;
    run = run.1;
    leads = subst (λ (n : ℕ). Leads (DisplaceStep tells size contents faults asked old.write.cells.now.blocks old.write.from.now) (record { hand = old.write.hand.now; moved = n }) run.0 (at new)) unmoved (plainly old run.0 new run.2);
  }
