-- A stage of a request is ready for each of its steps; and from its run to what is told of it.
use Rattle.std.proofs.Common.{◌≡◌, ◌≤◌, ◌<◌, ◌+◌, ◌/◌, ◌%◌, ℕ, List, Result, Ok, Err, length, refl, sym, ap, ◌∙◌, subst}
use Rattle.std.specs.Prelude.{OnOk, IfErr}
use Rattle.wb_types.specs.declared.extent.Extent.{Extent}
use Rattle.wb_types.specs.declared.number.OBlock.{OBlock}
use Rattle.wb_types.specs.declared.mode.Mode.{Mode}
use Rattle.wb_types.specs.declared.refusal.Refusal.{Refusal}
use Rattle.wb_disk.specs.Device.{History}
use Rattle.wb_words.specs.declared.card.Hold.TheVariants.{Nothing}
use Rattle.wb_words.specs.declared.card.Card.{Card}
use Rattle.wb_cells.specs.Passes.{CellsState}
use Rattle.wb_tasks.specs.Tables.{BlockRange, BlockJob, OnBlock, Reading, Writing}
use Rattle.wb_tasks.specs.Ready.{AreFirst, MayMake, MayTake, IsOwnStep, block_of, left_by}
use Rattle.wb_tasks.specs.Plan.{Plan, table, want}
use Rattle.wb_tasks.specs.Run.{IsRunOf, Leads}
use Rattle.wb_tasks.specs.declared.step.Answer.{Answer}
use Rattle.wb_tasks.specs.declared.step.Answer.TheVariants.{Done as Finished, Refused as Refuses}
use Rattle.wb_tasks.specs.declared.step.DeviceStep.TheVariants.{Read, Write}
use Rattle.wb_tasks.specs.declared.step.Want.{Want}
use Rattle.wb_tasks.specs.declared.step.Want.TheVariants.{Cell, Device, Desk, End}
use Rattle.wb_tasks.specs.declared.step.Got.{Got}
use Rattle.wb_tasks.proofs.Causing.{refuses_for_cause}
use Rattle.wb_port.specs.Hands.{DoneByPass, IsReads, IsWrites, IsReadyOn, IsReadyToRead, IsReadyToWrite, ReadsInto, ReadStep, WriteStep, ReadLed, WriteLed}
use Rattle.wb_port.specs.Requests.{part_of, WasRead, WasWritten, WasRefused, ReadRefused, WriteRefused}
use Rattle.wb_port.specs.declared.hand.Hand.{Hand}
use Rattle.wb_port.specs.declared.moving.ReadStage.{ReadStage}
use Rattle.wb_port.specs.declared.moving.WriteStage.{WriteStage}
use Rattle.wb_port.proofs.Passing.{made_by_pass, same_table}
use Rattle.wb_port.specs.Moves.{MayMove}
use Rattle.wb_tasks.proofs.Working.{Works}
use Rattle.wb_tasks.proofs.Placed.{Followed, moves_there}
use Rattle.wb_port.proofs.Placed.{part_in, IsMoving, MovesAt, reads_there, writes_there, may_read, may_write}
use Rattle.wb_port.proofs.Readying.{kept_by, ready_there, idle_again}
use Rattle.wb_port.proofs.Led.{reading_at, writing_at, steps_read, steps_written}
use Rattle.wb_port.proofs.Served.{read_whole, write_whole}

own_reads : (part : BlockRange) (w : Want) → IsOwnStep (OnBlock (Reading part)) w → IsReads w
own_reads part (Cell step) o = tt
own_reads part (End answer) o = tt
own_reads part (Device (Read device e)) o = tt
own_reads part (Device step) o = o
own_reads part (Desk step) o = o

own_writes : (part : BlockRange) (w : Want) → IsOwnStep (OnBlock (Writing part)) w → IsWrites w
own_writes part (Cell step) o = tt
own_writes part (End answer) o = tt
own_writes part (Device (Write device e)) o = tt
own_writes part (Device step) o = o
own_writes part (Desk step) o = o

-- a run that refuses has a cause
was_refused : {S : Type 0} {A : Type 0} (led : S → Want → Got → S → Type 0) (job : BlockJob) (s : Plan) (steps : List (Want × Got)) (answer : Answer) (r : Result A Refusal) (old new : S) → s ≡ table (OnBlock job) → IsRunOf s steps answer → Leads led old steps new
    → IfErr r (λ refusal. answer ≡ Refuses refusal) → IfErr r (λ refusal. WasRefused led job old refusal new)
was_refused led job s steps answer (Ok x) old new begun run leads is = tt
was_refused led job s steps answer (Err x) old new begun run leads is =
    let whole : IsRunOf (table (OnBlock job)) steps (Refuses x) = subst (λ (a : Answer). IsRunOf (table (OnBlock job)) steps a) is (subst (λ (t : Plan). IsRunOf t steps answer) begun run) in
    record { steps = steps; run = whole; leads = leads; cause = refuses_for_cause (OnBlock job) steps x whole }

-- What each step of a stage keeps, and by what it changes its pass: of its words and its hand.
pub record Keeps {S D : Type 0} (led : S → Want → Got → S → Type 0) (words : S → CellsState) (hand : S → Hand D) : Type 0 where
  pub cells : (x : S) (w : Want) (g : Got) (y : S) → led x w g y → words y ≡ words x
  pub sized : (x : S) (w : Want) (g : Got) (y : S) → led x w g y → (hand y).block_sectors ≡ (hand x).block_sectors
  pub mode : (x : S) (w : Want) (g : Got) (y : S) → led x w g y → (hand y).mode ≡ (hand x).mode
  pub by_pass : (x : S) (w : Want) (g : Got) (y : S) → led x w g y → DoneByPass (words x).blocks (hand x).pass w g (hand y).pass

-- what a hand keeps at a read or a write
pub record IsKept {D : Type 0} (old new : Hand D) : Type 0 where
  pub at : new.pass.table ≡ old.pass.table
  pub mode : new.mode ≡ old.mode
  pub size : new.block_sectors ≡ old.block_sectors

-- Where steps of a read or a write have led a stage.
module _ {S D : Type 0} (led : S → Want → Got → S → Type 0) (words : S → CellsState) (hand : S → Hand D) (keeps : Keeps led words hand) (job : BlockRange → BlockJob) (part : BlockRange) (s : Plan) (steps : List (Want × Got)) (old new : S) (begun : s ≡ table (OnBlock (job part))) (leads : Leads led old steps new) where
  makes : (x : S) (w : Want) (g : Got) (y : S) → led x w g y → MayMake w g (hand x).pass.card (hand y).pass.card
  makes x w g y h = made_by_pass (words x).blocks (hand x).pass (hand y).pass w g (keeps.by_pass x w g y h)

  pub same_words : words new ≡ words old
  same_words = kept_by led words keeps.cells old steps new leads

  pub kept : IsKept (hand old) (hand new)
  kept = record {
    at = kept_by led (λ x. (hand x).pass.table) (λ x w g y h. same_table (words x).blocks (hand x).pass (hand y).pass w g (keeps.by_pass x w g y h)) old steps new leads;
    mode = kept_by led (λ x. (hand x).mode) keeps.mode old steps new leads;
    size = kept_by led (λ x. (hand x).block_sectors) keeps.sized old steps new leads;
  }

  module _ (there : (block_of (job part)).0 < (words old).blocks) (idle : (hand old).pass.card.hold ≡ Nothing) where
    pub let_go : (answer : Answer) → IsRunOf s steps answer → (hand new).pass.card.hold ≡ Nothing
    let_go answer run = idle_again led (λ x. (hand x).pass.card) makes (words old).blocks s (job part) old begun there idle steps answer new run leads

    -- it is ready for the next, which is of its job and moves what it may
    pub ready_on : (works : Works (Followed (MovesAt (job part))) (job part)) → ((card : Card) (w : Want) → IsMoving (job part) card w → MayMove part.mode part.block_sectors card w) → (hand old).mode ≡ part.mode → (hand old).block_sectors ≡ part.block_sectors → (hand old).pass.table ≡ (words old).table → AreFirst s steps
        → IsReadyOn (words new) (hand new).pass (want (left_by s steps)) × IsOwnStep (OnBlock (job part)) (want (left_by s steps)) × MayMove (hand new).mode (hand new).block_sectors (hand new).pass.card (want (left_by s steps))
    ready_on works may mode sized at f =
        let both = ready_there led (λ x. (hand x).pass.card) makes (words old).blocks s (job part) old begun there idle steps new f leads in
        let moving = moves_there (MovesAt (job part)) (job part) works led (λ x. (hand x).pass.card) makes (words old).blocks s old begun there idle steps new f leads in (
          (kept.at ∙ (at ∙ ap (λ (ws : CellsState). ws.table) (sym same_words)), subst (λ (ws : CellsState). MayTake ws.blocks (hand new).pass.card (want (left_by s steps))) (sym same_words) both.0),
          both.1,
          subst (λ (m : Mode). MayMove m (hand new).block_sectors (hand new).pass.card (want (left_by s steps))) (sym (kept.mode ∙ mode))
              (subst (λ (n : ℕ). MayMove part.mode n (hand new).pass.card (want (left_by s steps))) (sym (kept.size ∙ sized)) (may (hand new).pass.card (want (left_by s steps)) moving)),
        )

module _ {D : Type 0} (tells : Type 0) (size : D → ℕ) (contents : D → List History) (faults : D → ℕ) (block_sectors : ℕ) (block : OBlock) (sectors : Extent) (s : Plan) (steps : List (Want × Got)) where
  read_keeps : Keeps (ReadLed tells size contents faults) (λ (x : ReadStage D). x.cells.now) (λ x. x.hand.now)
  read_keeps = record { cells = λ x w g y h. ap (λ c. c.now) h.cells; sized = λ x w g y h. h.sized; mode = λ x w g y h. h.same_mode; by_pass = λ x w g y h. h.by_pass }

  module _ (old new : ReadStage D) (begun : s ≡ table (OnBlock (Reading (part_of old.hand.now.mode block_sectors block sectors)))) (leads : Leads (ReadLed tells size contents faults) old steps new) where
    pub read_same_hand : new.hand.ghost_name ≡ old.hand.ghost_name
    read_same_hand = kept_by (ReadLed tells size contents faults) (λ x. x.hand.ghost_name) (λ x w g y h. h.same_hand) old steps new leads

    pub read_same_slice : new.out.ghost_name ≡ old.out.ghost_name
    read_same_slice = kept_by (ReadLed tells size contents faults) (λ x. x.out.ghost_name) (λ x w g y h. h.same_slice) old steps new leads

    pub read_many : length new.out.now ≡ length old.out.now
    read_many = kept_by (ReadLed tells size contents faults) (λ x. length x.out.now) (λ x w g y h. many_read x y w g h.into) old steps new leads
      where
        many_read : (x y : ReadStage D) (w : Want) (g : Got) → ReadsInto tells size contents faults x.hand.now.devices x.out.now x.moved w g y.hand.now.devices y.out.now y.moved → length y.out.now ≡ length x.out.now
        many_read x y (Device (Read d e)) g h = h.many
        many_read x y w g h = ap length h.1

    pub read_kept : IsKept old.hand.now new.hand.now
    read_kept = kept (ReadLed tells size contents faults) (λ (x : ReadStage D). x.cells.now) (λ x. x.hand.now) read_keeps Reading (part_of old.hand.now.mode block_sectors block sectors) s steps old new begun leads

    pub read_idle : (answer : Answer) → block.0 < old.cells.now.blocks → old.hand.now.pass.card.hold ≡ Nothing → IsRunOf s steps answer → new.hand.now.pass.card.hold ≡ Nothing
    read_idle answer there idle run = let_go (ReadLed tells size contents faults) (λ (x : ReadStage D). x.cells.now) (λ x. x.hand.now) read_keeps Reading (part_of old.hand.now.mode block_sectors block sectors) s steps old new begun leads there idle answer run

    pub read_ready : 0 < block_sectors → sectors.first / block_sectors ≡ block.0 → sectors.first % block_sectors + sectors.count ≤ block_sectors → old.hand.now.block_sectors ≡ block_sectors → block.0 < old.cells.now.blocks → old.hand.now.pass.table ≡ old.cells.now.table → old.hand.now.pass.card.hold ≡ Nothing → AreFirst s steps → IsReadyToRead new (want (left_by s steps))
    read_ready some of inside sized there at idle f =
        let part : BlockRange = part_of old.hand.now.mode block_sectors block sectors in
        let ready = ready_on (ReadLed tells size contents faults) (λ (x : ReadStage D). x.cells.now) (λ x. x.hand.now) read_keeps Reading (part_of old.hand.now.mode block_sectors block sectors) s steps old new begun leads there idle (reads_there part some (part_in old.hand.now.mode block_sectors block sectors of inside)) (may_read part) refl sized at f in
        (ready.0, own_reads part (want (left_by s steps)) ready.1, ready.2)

    read_stopped : {A : Type 0} (answer : Answer) (r : Result A Refusal) → IsRunOf s steps answer → IfErr r (λ refusal. answer ≡ Refuses refusal)
        → IfErr r (λ refusal. WasRefused (ReadStep tells size contents faults old.cells.now.blocks) (Reading (part_of old.hand.now.mode block_sectors block sectors)) (reading_at old) refusal (reading_at new))
    read_stopped answer r run is = was_refused (ReadStep tells size contents faults old.cells.now.blocks) (Reading (part_of old.hand.now.mode block_sectors block sectors)) s steps answer r (reading_at old) (reading_at new) begun run (steps_read tells size contents faults steps old new leads) is

    pub read_err : {A : Type 0} (answer : Answer) (r : Result A Refusal) → IsRunOf s steps answer → IfErr r (λ refusal. answer ≡ Refuses refusal)
        → old.moved ≡ 0 → IfErr r (λ refusal. ReadRefused tells size contents faults old.cells.now.blocks block_sectors block sectors old.hand.now old.out.now refusal new.hand.now new.out.now)
    read_err {A} answer (Ok x) run is unmoved = tt
    read_err {A} answer (Err x) run is unmoved = record { moved = new.moved; same_mode = read_kept.mode; was = subst (λ (n : ℕ). WasRefused (ReadStep tells size contents faults old.cells.now.blocks) (Reading (part_of old.hand.now.mode block_sectors block sectors)) (record { hand = old.hand.now; out = old.out.now; moved = n }) x (reading_at new)) unmoved (read_stopped {A = A} answer (Err x) run is) }

    pub read_ok : {A : Type 0} (answer : Answer) (r : Result A Refusal) → old.moved ≡ 0 → length old.out.now ≡ sectors.count → sectors.first % block_sectors + sectors.count ≤ block_sectors → IsRunOf s steps answer → OnOk r (answer ≡ Finished)
        → OnOk r (WasRead tells size contents faults old.cells.now.blocks block_sectors block sectors old.out.now new.out.now old.hand.now new.hand.now)
    read_ok answer (Err x) unmoved fits inside run is = tt
    read_ok answer (Ok x) unmoved fits inside run is =
        read_whole tells size contents faults block_sectors block sectors steps old new unmoved fits inside
        (subst (λ (a : Answer). IsRunOf (table (OnBlock (Reading (part_of old.hand.now.mode block_sectors block sectors)))) steps a) is (subst (λ (t : Plan). IsRunOf t steps answer) begun run)) leads

  write_keeps : Keeps (WriteLed tells size contents faults) (λ (x : WriteStage D). x.cells.now) (λ x. x.hand.now)
  write_keeps = record { cells = λ x w g y h. ap (λ c. c.now) h.cells; sized = λ x w g y h. h.sized; mode = λ x w g y h. h.same_mode; by_pass = λ x w g y h. h.by_pass }

  module _ (old new : WriteStage D) (begun : s ≡ table (OnBlock (Writing (part_of old.hand.now.mode block_sectors block sectors)))) (leads : Leads (WriteLed tells size contents faults) old steps new) where
    pub write_kept : IsKept old.hand.now new.hand.now
    write_kept = kept (WriteLed tells size contents faults) (λ (x : WriteStage D). x.cells.now) (λ x. x.hand.now) write_keeps Writing (part_of old.hand.now.mode block_sectors block sectors) s steps old new begun leads

    pub write_ready : 0 < block_sectors → sectors.first / block_sectors ≡ block.0 → sectors.first % block_sectors + sectors.count ≤ block_sectors → old.hand.now.block_sectors ≡ block_sectors → block.0 < old.cells.now.blocks → old.hand.now.pass.table ≡ old.cells.now.table → old.hand.now.pass.card.hold ≡ Nothing → AreFirst s steps → IsReadyToWrite new (want (left_by s steps))
    write_ready some of inside sized there at idle f =
        let part : BlockRange = part_of old.hand.now.mode block_sectors block sectors in
        let ready = ready_on (WriteLed tells size contents faults) (λ (x : WriteStage D). x.cells.now) (λ x. x.hand.now) write_keeps Writing (part_of old.hand.now.mode block_sectors block sectors) s steps old new begun leads there idle (writes_there part some (part_in old.hand.now.mode block_sectors block sectors of inside)) (may_write part) refl sized at f in
        (ready.0, own_writes part (want (left_by s steps)) ready.1, ready.2)

    pub write_same_hand : new.hand.ghost_name ≡ old.hand.ghost_name
    write_same_hand = kept_by (WriteLed tells size contents faults) (λ x. x.hand.ghost_name) (λ x w g y h. h.same_hand) old steps new leads

    pub write_idle : (answer : Answer) → block.0 < old.cells.now.blocks → old.hand.now.pass.card.hold ≡ Nothing → IsRunOf s steps answer → new.hand.now.pass.card.hold ≡ Nothing
    write_idle answer there idle run = let_go (WriteLed tells size contents faults) (λ (x : WriteStage D). x.cells.now) (λ x. x.hand.now) write_keeps Writing (part_of old.hand.now.mode block_sectors block sectors) s steps old new begun leads there idle answer run

    write_stopped : {A : Type 0} (answer : Answer) (r : Result A Refusal) → IsRunOf s steps answer → IfErr r (λ refusal. answer ≡ Refuses refusal)
        → IfErr r (λ refusal. WasRefused (WriteStep tells size contents faults old.cells.now.blocks old.from.now) (Writing (part_of old.hand.now.mode block_sectors block sectors)) (writing_at old) refusal (writing_at new))
    write_stopped answer r run is = was_refused (WriteStep tells size contents faults old.cells.now.blocks old.from.now) (Writing (part_of old.hand.now.mode block_sectors block sectors)) s steps answer r (writing_at old) (writing_at new) begun run (steps_written tells size contents faults steps old new leads) is

    pub write_err : {A : Type 0} (answer : Answer) (r : Result A Refusal) → IsRunOf s steps answer → IfErr r (λ refusal. answer ≡ Refuses refusal)
        → old.moved ≡ 0 → IfErr r (λ refusal. WriteRefused tells size contents faults old.cells.now.blocks block_sectors block sectors old.from.now old.hand.now refusal new.hand.now)
    write_err {A} answer (Ok x) run is unmoved = tt
    write_err {A} answer (Err x) run is unmoved = record { moved = new.moved; same_mode = write_kept.mode; was = subst (λ (n : ℕ). WasRefused (WriteStep tells size contents faults old.cells.now.blocks old.from.now) (Writing (part_of old.hand.now.mode block_sectors block sectors)) (record { hand = old.hand.now; moved = n }) x (writing_at new)) unmoved (write_stopped {A = A} answer (Err x) run is) }

    pub write_ok : {A : Type 0} (answer : Answer) (r : Result A Refusal) → old.moved ≡ 0 → length old.from.now ≡ sectors.count → sectors.first % block_sectors + sectors.count ≤ block_sectors → IsRunOf s steps answer → OnOk r (answer ≡ Finished)
        → OnOk r (WasWritten tells size contents faults old.cells.now.blocks block_sectors block sectors old.from.now old.hand.now new.hand.now)
    write_ok answer (Err x) unmoved fits inside run is = tt
    write_ok answer (Ok x) unmoved fits inside run is =
        write_whole tells size contents faults block_sectors block sectors steps old new unmoved fits inside
        (subst (λ (a : Answer). IsRunOf (table (OnBlock (Writing (part_of old.hand.now.mode block_sectors block sectors)))) steps a) is (subst (λ (t : Plan). IsRunOf t steps answer) begun run)) leads
