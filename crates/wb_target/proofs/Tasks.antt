-- A stage of a migration or a flush is ready for each of its steps, and from its run to what is told of it.
use Rattle.std.proofs.Common.{◌≡◌, ℕ, Bool, List, [], ◌∷◌, refl, sym, ap, ◌∙◌, subst}
use Rattle.wb_disk.specs.Device.{History}
use Rattle.wb_words.specs.declared.card.Hold.TheVariants.{Nothing}
use Rattle.wb_port.specs.Moves.{IsSynced}
use Rattle.wb_tasks.specs.Tables.{TaskJob, OnBlock, Flushing, Suspending, Opening}
use Rattle.wb_tasks.specs.Ready.{AreFirst, MayTake, IsOwnStep, left_by}
use Rattle.wb_tasks.specs.Plan.{Plan, table, want}
use Rattle.wb_tasks.specs.Run.{IsRunOf, Leads}
use Rattle.wb_tasks.specs.declared.step.Answer.{Answer}
use Rattle.wb_tasks.specs.declared.step.Want.{Want}
use Rattle.wb_tasks.specs.declared.step.Got.{Got}
use Rattle.wb_stage.specs.Jobs.{MayRun}
use Rattle.wb_policy.specs.declared.order.Order.{Order}
use Rattle.wb_target.specs.Works.{ShareTold, WorkState, SharingState, WorkStep, WorkLed, PerformedWith, IsReadyToWork, MayWork, MayMigrate, WritesUnderCommit}
use Rattle.wb_target.specs.declared.gate.Point.{Point}
use Rattle.wb_target.specs.declared.working.WorkStage.{WorkStage}
use Rattle.wb_port.proofs.Passing.{made_by_pass, same_table}
use Rattle.wb_port.proofs.Readying.{kept_by}
use Rattle.wb_target.proofs.Readying.{work_ready, work_idle, work_moves, work_own}
use Rattle.wb_target.proofs.Committing.{CommitsFrom, IsRunning, commits_there, block_commits}
use Rattle.wb_target.proofs.Asking.{some_told, told_some}
use Rattle.wb_stage.specs.declared.share.Share.{Share}
use Rattle.wb_stage.specs.declared.share.Share.TheVariants.{Nothing as Unshared}

abbrev working_at : {R D P G : Type 0} → WorkStage R D P G → WorkState D
working_at x = record { hand = x.hand.now; buffer = x.buffer.now; commit = x.commit.now }

abbrev sharing_at : {R D P G : Type 0} → WorkStage R D P G → SharingState D
sharing_at x = record { work = working_at x; share = x.share.now }

module _ {R D P G : Type 0} (tells : Type 0) (size : D → ℕ) (contents : D → List History) (faults : D → ℕ) (asked : List Order → ShareTold) (answers : G → Point → Bool → Type 0) (s : Plan) (job : TaskJob) (steps : List (Want × Got)) (old new : WorkStage R D P G)
    (begun : s ≡ table job) (leads : Leads (WorkLed tells size contents faults asked answers) old steps new) where
  abbrev led : WorkStage R D P G → Want → Got → WorkStage R D P G → Type 0
  led = WorkLed tells size contents faults asked answers

  pub same_hand : new.hand.ghost_name ≡ old.hand.ghost_name
  same_hand = kept_by led (λ x. x.hand.ghost_name) (λ x w g y h. h.same_hand) old steps new leads

  pub same_buffer : new.buffer.ghost_name ≡ old.buffer.ghost_name
  same_buffer = kept_by led (λ x. x.buffer.ghost_name) (λ x w g y h. h.same_buffer) old steps new leads

  pub same_commit : new.commit.ghost_name ≡ old.commit.ghost_name
  same_commit = kept_by led (λ x. x.commit.ghost_name) (λ x w g y h. h.same_commit) old steps new leads

  pub same_share : new.share.ghost_name ≡ old.share.ghost_name
  same_share = kept_by led (λ x. x.share.ghost_name) (λ x w g y h. h.same_share) old steps new leads

  same_cells : new.cells ≡ old.cells
  same_cells = kept_by led (λ x. x.cells) (λ x w g y h. h.cells) old steps new leads

  pub at_words : new.hand.now.pass.table ≡ old.hand.now.pass.table
  at_words = kept_by led (λ x. x.hand.now.pass.table) (λ x w g y h. same_table x.cells.now.blocks x.hand.now.pass y.hand.now.pass w g h.by_pass) old steps new leads

  same_held : new.held ≡ old.held
  same_held = kept_by led (λ x. x.held) (λ x w g y h. h.held) old steps new leads

  pub same_size : new.hand.now.block_sectors ≡ old.hand.now.block_sectors
  same_size = kept_by led (λ x. x.hand.now.block_sectors) (λ x w g y h. h.sized) old steps new leads

  same_mode : new.hand.now.mode ≡ old.hand.now.mode
  same_mode = kept_by led (λ x. x.hand.now.mode) (λ x w g y h. h.same_mode) old steps new leads

  moves : MayRun old.cells.now.blocks job → MayMigrate old.hand.now.block_sectors old.held.now job → old.hand.now.pass.card.hold ≡ Nothing → AreFirst s steps → MayWork new.hand.now.block_sectors new.held.now new.hand.now.pass.card (want (left_by s steps))
  moves may migrates idle f =
      subst (λ (n : ℕ). MayWork n new.held.now new.hand.now.pass.card (want (left_by s steps))) (sym same_size)
      (subst (λ h. MayWork old.hand.now.block_sectors h.now new.hand.now.pass.card (want (left_by s steps))) (sym same_held)
      (work_moves led (λ x. x.hand.now.pass.card) (λ x w g y h. made_by_pass x.cells.now.blocks x.hand.now.pass y.hand.now.pass w g h.by_pass) old.cells.now.blocks s job old begun may idle old.hand.now.block_sectors old.held.now migrates steps new f leads))

  commits : MayRun old.cells.now.blocks job → old.hand.now.pass.card.hold ≡ Nothing → AreFirst s steps → WritesUnderCommit tells contents new.hand.now.devices new.commit.now (want (left_by s steps))
  commits may idle f = by_job job begun may
    where
      own : (job : TaskJob) → s ≡ table job → MayRun old.cells.now.blocks job → (done : List (Want × Got)) (at : WorkStage R D P G) → AreFirst s done → Leads led old done at → IsOwnStep job (want (left_by s done))
      own job b m done at g l = work_own led (λ x. x.hand.now.pass.card) (λ x w g y h. made_by_pass x.cells.now.blocks x.hand.now.pass y.hand.now.pass w g h.by_pass) old.cells.now.blocks s job old b m idle done at g l

      by_job : (job : TaskJob) → s ≡ table job → MayRun old.cells.now.blocks job → WritesUnderCommit tells contents new.hand.now.devices new.commit.now (want (left_by s steps))
      by_job (OnBlock block_job) b m = block_commits tells contents new.hand.now.devices new.commit.now block_job (want (left_by s steps)) (own (OnBlock block_job) b m steps new f leads)
      by_job (Flushing serves most) b m =
          commits_there tells size contents faults (λ (x : WorkStage R D P G). some_told (asked x.held.now) x.share.now) (λ (x : WorkStage R D P G). x.hand.now.devices) (λ x. x.buffer.now) (λ x. x.commit.now) led (λ x w g y h. told_some tells size contents faults (asked x.held.now) x.share.now y.share.now x.hand.now.devices x.buffer.now x.commit.now w g y.hand.now.devices y.buffer.now y.commit.now h.works) serves most s old steps new (ap (λ (t : Plan). t.job) b) (own (Flushing serves most) b m)
          (subst (λ (t : Plan). CommitsFrom (tells → IsSynced (contents old.hand.now.devices.cache)) (tells → IsSynced (contents old.hand.now.devices.origin)) (IsRunning old.commit.now) t.steps) (sym b) tt) f leads
      by_job (Suspending all most) b m = absurd m
      by_job (Opening left) b m = absurd m

  pub ready : MayRun old.cells.now.blocks job → MayMigrate old.hand.now.block_sectors old.held.now job → old.hand.now.pass.table ≡ old.cells.now.table → old.hand.now.pass.card.hold ≡ Nothing → AreFirst s steps → IsReadyToWork tells contents new (want (left_by s steps))
  ready may migrates at idle f =
      let both = work_ready led (λ x. x.hand.now.pass.card) (λ x w g y h. made_by_pass x.cells.now.blocks x.hand.now.pass y.hand.now.pass w g h.by_pass) old.cells.now.blocks s job old begun may idle steps new f leads in
      ((at_words ∙ (at ∙ ap (λ x. x.now.table) (sym same_cells)), subst (λ x. MayTake x.now.blocks new.hand.now.pass.card (want (left_by s steps))) (sym same_cells) both.0), both.1, moves may migrates idle f, commits may idle f)

  pub idle_then : (answer : Answer) → MayRun old.cells.now.blocks job → old.hand.now.pass.card.hold ≡ Nothing → IsRunOf s steps answer → new.hand.now.pass.card.hold ≡ Nothing
  idle_then answer may idle run = work_idle led (λ x. x.hand.now.pass.card) (λ x w g y h. made_by_pass x.cells.now.blocks x.hand.now.pass y.hand.now.pass w g h.by_pass) old.cells.now.blocks s job old begun may idle steps answer new run leads

  pub performed : (answer : Answer) → old.share.now ≡ Unshared → IsRunOf s steps answer → PerformedWith tells size contents faults (asked old.held.now) old.cells.now.blocks s (working_at old) answer (working_at new) new.share.now
  performed answer none run = record {
    was = record {
      steps = steps;
      share = new.share.now;
      run = run;
      leads = subst (λ (share : Share). Leads (WorkStep tells size contents faults (asked old.held.now) old.cells.now.blocks) (record { work = working_at old; share = share }) steps (sharing_at new)) none (plainly old steps leads);
      same_mode = same_mode;
    };
    ends = refl;
  }
    where
      plainly : (x : WorkStage R D P G) (done : List (Want × Got)) → Leads led x done new → Leads (WorkStep tells size contents faults (asked x.held.now) x.cells.now.blocks) (sharing_at x) done (sharing_at new)
      plainly x [] e = ap (λ (y : WorkStage R D P G). sharing_at y) e
      plainly x (step ∷ done) l = (
        sharing_at l.0,
        (l.1.by_pass, l.1.works, l.1.shares),
        subst (λ h. Leads (WorkStep tells size contents faults (asked h.now) x.cells.now.blocks) (sharing_at l.0) done (sharing_at new)) l.1.held
            (subst (λ c. Leads (WorkStep tells size contents faults (asked l.0.held.now) c.now.blocks) (sharing_at l.0) done (sharing_at new)) l.1.cells (plainly l.0 done l.2)),
      )
