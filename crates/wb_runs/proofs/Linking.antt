-- Every run keeps what is claimed of each actor and of what is noted of it, whoever takes a step.
use Rattle.std.proofs.Common.{◌≡◌, ◌≢◌, ◌∙◌, ℕ, Bool, true, false, cond, List, Option, Some, None, refl, sym, subst, length, slice_get, slice_set}
use Rattle.wb_types.specs.declared.extent.Extent.{Extent}
use Rattle.wb_types.specs.Extents.{rising}
use Rattle.wb_types.specs.declared.mode.Mode.{Mode}
use Rattle.wb_types.specs.declared.mode.Dev.{Dev}
use Rattle.wb_types.specs.declared.mode.Dev.TheVariants.{Metadata, Cache, Origin}
use Rattle.wb_types.specs.declared.refusal.Refusal.{Refusal}
use Rattle.wb_disk.specs.Device.{Content as Bytes}
use Rattle.wb_words.specs.SharedWords.{Words}
use Rattle.wb_words.specs.declared.step.CellStep.{CellStep}
use Rattle.wb_words.specs.Effects.{result_of}
use Rattle.wb_tasks.specs.Tables.{BlockJob, Reading as ReadingPart, OnBlock}
use Rattle.wb_tasks.specs.Plan.{Plan, want, after, got_of}
use Rattle.wb_tasks.specs.Ready.{IsOpenings, Suits, IsOwnStep}
use Rattle.wb_tasks.specs.declared.step.DeviceStep.{DeviceStep}
use Rattle.wb_tasks.specs.declared.step.DeviceStep.TheVariants.{Read as ReadExtent, Write as WriteExtent, Sync, ReadMetadata, WriteNode, WriteRoot}
use Rattle.wb_tasks.specs.declared.step.DeskStep.{DeskStep}
use Rattle.wb_tasks.specs.declared.step.DeskStep.TheVariants.{Map, Unmap, ReleaseOrder, Arrive, Ask, BeginCommit, EndCommit, BreakCommit}
use Rattle.wb_tasks.specs.declared.step.Want.{Want}
use Rattle.wb_tasks.specs.declared.step.Want.TheVariants.{Cell, Device, Desk, End}
use Rattle.wb_tasks.specs.declared.step.Got.{Got}
use Rattle.wb_tasks.specs.declared.step.Got.TheVariants.{Done, Fault}
use Rattle.wb_promise.specs.declared.job.Job.{Job}
use Rattle.wb_promise.specs.declared.job.Job.TheVariants.{Read, Write, Flush, Suspend, Open, Invalidate, Migrate, Replace}
use Rattle.wb_promise.specs.States.{Shape, State, Actor, Phase, Stands, Gone, Opens, OfTarget, mode_of}
use Rattle.wb_promise.specs.Happenings.{Chosen, Gives, block_range, write_job}
use Rattle.wb_promise.specs.Effects.{task_then}
use Rattle.wb_promise.specs.Clerk.{Notes, Doing, Entering, put, failing, write_note, device_note, noted_step, enter_each, entering, is_entered, sector_for}
use Rattle.wb_contents.proofs.Lists.{set_other, set_there}
use Rattle.wb_runs.proofs.Images.{Images}
use Rattle.wb_runs.proofs.Metadata.{MetadataKept}
use Rattle.wb_runs.proofs.Opening.{InPhase, Comes, Causes, open_next, open_on, failing_same, still_refuses, fault_why, reading_comes, reading_why}
use Rattle.wb_runs.proofs.Passing.{WritesOwn, write_own}
use Rattle.wb_runs.proofs.Plans.{own_next}
use Rattle.wb_runs.proofs.Claims.{JobClaim, NotedClaim, TaskClaim, AllClaim, entered_at, read_words, write_words, read_extent, write_extent, write_unmaps, read_fails, write_fails}

abbrev pub TaskHere : {P A : Type 0} → Phase P A → Option (Job × Plan) → Type 0
TaskHere phase None = Unit {0}
TaskHere phase (Some task) = InPhase phase task.0

abbrev pub IsTask : Option (Job × Plan) → Type 0
IsTask None = ⊥
IsTask (Some task) = Unit {0}

-- an opening is alone
abbrev pub AtPhase : {P A : Type 0} → Phase P A → List Actor → Type 0
AtPhase (Opens mode r) actors = (opener : ℕ) × ((b : ℕ) (x : Actor) → slice_get actors b ≡ Some x → IsTask x.task → b ≡ opener)
AtPhase phase actors = Unit {0}

pub record Linked {P A : Type 0} (shape : Shape) (phase : Phase P A) (actors : List Actor) (n : Notes) : Type 0 where
  pub claims : AllClaim shape (mode_of phase) actors n.doings
  pub here : (a : ℕ) (x : Actor) → slice_get actors a ≡ Some x → TaskHere phase x.task
  pub alone : AtPhase phase actors

-- ---- what is noted of a step is noted of its actor

device_others : (shape : Shape) (mode : Mode) (n : Notes) (a : ℕ) (doing : Doing) (job : Job) (step : DeviceStep) (got : Got) (read : List Bytes) (b : ℕ) → b ≢ a → slice_get (device_note shape mode n a doing job step got read).doings b ≡ slice_get n.doings b
device_others shape mode n a doing (Read extent) (ReadExtent d e) Done read b o = set_other n.doings a b _ o
device_others shape mode n a doing (Write extent content) (WriteExtent d e) got read b o = by_entry (is_entered mode d)
  where
    by_entry : (t : Bool) → slice_get (cond t (write_note n a doing (enter_each content (rising (sector_for shape extent e) e.count) (entering n doing))) n).doings b ≡ slice_get n.doings b
    by_entry true = set_other n.doings a b _ o
    by_entry false = refl
device_others shape mode n a doing job step got read b o = refl

pub others_stay : (shape : Shape) (mode : Mode) (shown : List Bytes) (n : Notes) (a : ℕ) (doing : Doing) (step : DeviceStep) (got : Got) (read : List Bytes) (b : ℕ) → b ≢ a →
    slice_get (noted_step shape mode shown n a (Some (Some doing)) (Device step) got read).doings b ≡ slice_get n.doings b
others_stay shape mode shown n a doing step got read b o =
    device_others shape mode (put n a (Some (failing doing step got))) a (failing doing step got) doing.job step got read b o ∙ set_other n.doings a b _ o

-- what a step on a device notes where it moves no sectors of a request
abbrev MovesNone : Job → DeviceStep → Type 0
MovesNone (Read extent) step = ⊥
MovesNone (Write extent content) step = ⊥
MovesNone job step = Unit {0}

module _ (shape : Shape) (mode : Mode) (shown : List Bytes) (n : Notes) (a : ℕ) (x : Actor) (doing : Doing) (noted : slice_get n.doings a ≡ Some (Some doing)) (job : Job) (plan : Plan) (j : doing.job ≡ job) where
  -- what is claimed of the actor after a step
  abbrev Then : Want → Got → List Bytes → Type 0
  Then next got read = TaskClaim shape mode (task_then (Some (job, plan)) next got) (slice_get (noted_step shape mode shown n a (Some (Some doing)) next got read).doings a)

  twice_there : (mid last : Doing) → slice_get (slice_set (slice_set n.doings a (Some mid)) a (Some last)) a ≡ Some (Some last)
  twice_there mid last = set_there (slice_set n.doings a (Some mid)) a (Some mid) (Some last) (set_there n.doings a (Some doing) (Some mid) noted)

  -- nothing but the failure, if it is one, is noted
  plain_device : (step : DeviceStep) (got : Got) (read : List Bytes) → MovesNone job step → JobClaim shape mode job (after plan got) (failing doing step got) → Then (Device step) got read
  plain_device step got read m c =
      let mid = failing doing step got in
      subst (λ (q : Job). NotedClaim shape mode job (after plan got) (slice_get (device_note shape mode (put n a (Some mid)) a mid q step got read).doings a)) (sym j)
      (subst (λ (d : Notes). NotedClaim shape mode job (after plan got) (slice_get d.doings a)) (sym (nothing job m (put n a (Some mid)) mid))
      (subst (λ (o : Option (Option Doing)). NotedClaim shape mode job (after plan got) o) (sym (set_there n.doings a (Some doing) (Some mid) noted)) (failing_same doing step got ∙ j, c)))
    where
      nothing : (job : Job) → MovesNone job step → (m : Notes) (mid : Doing) → device_note shape mode m a mid job step got read ≡ m
      nothing (Read extent) z m mid = absurd z
      nothing (Write extent content) z m mid = absurd z
      nothing job z m mid = refl

  -- nothing is noted
  pub plain_words : (step : CellStep) (got : Got) (read : List Bytes) → JobClaim shape mode job (after plan got) doing → Then (Cell step) got read
  plain_words step got read c = subst (λ (o : Option (Option Doing)). NotedClaim shape mode job (after plan got) o) (sym noted) (j, c)

  pub plain_desk : (step : DeskStep) (got : Got) (read : List Bytes) → JobClaim shape mode job (after plan got) doing → Then (Desk step) got read
  plain_desk step got read c = subst (λ (o : Option (Option Doing)). NotedClaim shape mode job (after plan got) o) (sym noted) (j, c)

module _ (shape : Shape) (mode : Mode) (shown : List Bytes) (n : Notes) (a : ℕ) (x : Actor) (doing : Doing) (noted : slice_get n.doings a ≡ Some (Some doing)) (plan : Plan) (suits : Suits shape.geometry.origin_blocks plan x.card) where
  extent_read : (extent ex : Extent) (d : Dev) (words : Words) (read : List Bytes) → doing.job ≡ Read extent → Device (ReadExtent d ex) ≡ want plan → length read ≡ ex.count → JobClaim shape mode (Read extent) plan doing →
      TaskClaim shape mode (task_then (Some (Read extent, plan)) (Device (ReadExtent d ex)) Done) (slice_get (noted_step shape mode shown n a (Some (Some doing)) (Device (ReadExtent d ex)) Done read).doings a)
  extent_read extent ex d words read j h many c =
      subst (λ (q : Job). NotedClaim shape mode (Read extent) (after plan Done) (slice_get (device_note shape mode (put n a (Some doing)) a doing q (ReadExtent d ex) Done read).doings a)) (sym j)
      (subst (λ (o : Option (Option Doing)). NotedClaim shape mode (Read extent) (after plan Done) o) (sym (twice_there shape mode shown n a x doing noted (Read extent) plan j doing _))
      (j, read_extent shape mode plan x suits extent ex d doing words n.histories read h many c))

  -- what is noted where a write is entered here, or was before
  written_here : (t : Bool) (mid : Doing) (e : Entering) → slice_get (cond t (write_note (put n a (Some mid)) a mid e) (put n a (Some mid))).doings a ≡ Some (Some (entered_at t mid e))
  written_here true mid e = set_there (slice_set n.doings a (Some mid)) a (Some mid) (Some (record mid { entered = e.entered })) (set_there n.doings a (Some doing) (Some mid) noted)
  written_here false mid e = set_there n.doings a (Some doing) (Some mid) noted

  entered_job : (t : Bool) (mid : Doing) (e : Entering) → (entered_at t mid e).job ≡ mid.job
  entered_job true mid e = refl
  entered_job false mid e = refl

  extent_written : (extent ex : Extent) (content : Bytes) (d : Dev) (words : Words) (read : List Bytes) → doing.job ≡ Write extent content → Device (WriteExtent d ex) ≡ want plan → JobClaim shape mode (Write extent content) plan doing →
      TaskClaim shape mode (task_then (Some (Write extent content, plan)) (Device (WriteExtent d ex)) Done) (slice_get (noted_step shape mode shown n a (Some (Some doing)) (Device (WriteExtent d ex)) Done read).doings a)
  extent_written extent ex content d words read j h c =
      let e = enter_each content (rising (sector_for shape extent ex) ex.count) (entering (put n a (Some doing)) doing) in
      subst (λ (q : Job). NotedClaim shape mode (Write extent content) (after plan Done) (slice_get (device_note shape mode (put n a (Some doing)) a doing q (WriteExtent d ex) Done read).doings a)) (sym j)
      (subst (λ (o : Option (Option Doing)). NotedClaim shape mode (Write extent content) (after plan Done) o) (sym (written_here (is_entered mode d) doing e))
      (entered_job (is_entered mode d) doing e ∙ j, write_extent shape mode plan x suits extent ex content d doing words (entering (put n a (Some doing)) doing) h refl c))

  -- where a step fails nothing more is claimed
  read_faults : (extent ex : Extent) (d : Dev) (read : List Bytes) → doing.job ≡ Read extent → Device (ReadExtent d ex) ≡ want plan → JobClaim shape mode (Read extent) plan doing →
      TaskClaim shape mode (task_then (Some (Read extent, plan)) (Device (ReadExtent d ex)) Fault) (slice_get (noted_step shape mode shown n a (Some (Some doing)) (Device (ReadExtent d ex)) Fault read).doings a)
  read_faults extent ex d read j h c =
      let mid = failing doing (ReadExtent d ex) Fault in
      subst (λ (q : Job). NotedClaim shape mode (Read extent) (after plan Fault) (slice_get (device_note shape mode (put n a (Some mid)) a mid q (ReadExtent d ex) Fault read).doings a)) (sym j)
      (subst (λ (o : Option (Option Doing)). NotedClaim shape mode (Read extent) (after plan Fault) o) (sym (set_there n.doings a (Some doing) (Some mid) noted))
      (j, read_fails shape mode plan x suits extent (ReadExtent d ex) doing mid h c))

  write_faults : (extent ex : Extent) (content : Bytes) (d : Dev) (read : List Bytes) → doing.job ≡ Write extent content → Device (WriteExtent d ex) ≡ want plan → JobClaim shape mode (Write extent content) plan doing →
      TaskClaim shape mode (task_then (Some (Write extent content, plan)) (Device (WriteExtent d ex)) Fault) (slice_get (noted_step shape mode shown n a (Some (Some doing)) (Device (WriteExtent d ex)) Fault read).doings a)
  write_faults extent ex content d read j h c =
      let mid = failing doing (WriteExtent d ex) Fault in
      let e = enter_each content (rising (sector_for shape extent ex) ex.count) (entering (put n a (Some mid)) mid) in
      subst (λ (q : Job). NotedClaim shape mode (Write extent content) (after plan Fault) (slice_get (device_note shape mode (put n a (Some mid)) a mid q (WriteExtent d ex) Fault read).doings a)) (sym j)
      (subst (λ (o : Option (Option Doing)). NotedClaim shape mode (Write extent content) (after plan Fault) o) (sym (written_here (is_entered mode d) mid e))
      (entered_job (is_entered mode d) mid e ∙ j, write_fails shape mode plan x suits extent content (WriteExtent d ex) doing (entered_at (is_entered mode d) mid e) h c))

-- ---- one actor's step

module _ (P A : Type 0) (shape : Shape) where
  target_there : (phase : Phase P A) (step : CellStep) (got : Got) → OfTarget phase (λ t. got ≡ got_of (result_of t.words step)) → (words : Words) × (got ≡ got_of (result_of words step))
  target_there (Stands t) step got g = (t.words, g)
  target_there phase step got g = absurd g

  module _ (w : State P A) (n : Notes) (images : Images) (known : MetadataKept shape.geometry images w.phase w.commit w.devices.metadata) (a : ℕ) (x : Actor) (doing : Doing) (noted : slice_get n.doings a ≡ Some (Some doing)) (plan : Plan) (suits : Suits shape.geometry.origin_blocks plan x.card)
      (mode : Mode) (shown : List Bytes) where
    -- a request takes its own steps alone
    own : (part : BlockJob) (next : Want) → plan.job ≡ OnBlock part → next ≡ want plan → IsOwnStep (OnBlock part) next
    own part next j h = own_next shape.geometry.origin_blocks plan x.card suits (OnBlock part) next j h

    write_owns : (extent : Extent) (cut : List Extent) (next : Want) → plan.job ≡ OnBlock (write_job mode (block_range shape mode extent cut)) → next ≡ want plan → WritesOwn next
    write_owns extent cut next j h = write_own mode (block_range shape mode extent cut) next (own (write_job mode (block_range shape mode extent cut)) next j h)

    abbrev Then_of : Job → Want → Got → List Bytes → Type 0
    Then_of job next got read = TaskClaim shape mode (task_then (Some (job, plan)) next got) (slice_get (noted_step shape mode shown n a (Some (Some doing)) next got read).doings a)

    abbrev NoAnswer : Want → Type 0
    NoAnswer (End answer) = ⊥
    NoAnswer next = Unit {0}

    some_words : Words
    some_words = Rattle.wb_words.specs.SharedWords.fresh_words 0

    read_goes : (extent : Extent) (next : Want) (got : Got) (read : List Bytes) (chosen : Chosen P A) → NoAnswer next → doing.job ≡ Read extent → JobClaim shape mode (Read extent) plan doing → next ≡ want plan → Gives shape w x (Read extent) next got read chosen → Then_of (Read extent) next got read
    read_goes extent (Cell step) got read chosen z j c h g = let t = target_there w.phase step got g.1 in
        subst (λ (v : Got). Then_of (Read extent) (Cell step) v read) (sym t.1) (plain_words shape mode shown n a x doing noted (Read extent) plan j step _ read (read_words shape mode plan x suits extent doing t.0 step h c))
    read_goes extent (Device (ReadExtent d ex)) got read chosen z j c h g = subst (λ (v : Got). Then_of (Read extent) (Device (ReadExtent d ex)) v read) (sym g.2) (extent_read shape mode shown n a x doing noted plan suits extent ex d some_words read j h g.3 c)
    read_goes extent (Device (WriteExtent d ex)) got read chosen z j c h g = absurd g
    read_goes extent (Device (Sync d)) got read chosen z j c h g = absurd (own (ReadingPart (block_range shape mode extent c.cut)) (Device (Sync d)) c.is_job h)
    read_goes extent (Device (ReadMetadata k)) got read chosen z j c h g = absurd (own (ReadingPart (block_range shape mode extent c.cut)) (Device (ReadMetadata k)) c.is_job h)
    read_goes extent (Device (WriteNode k)) got read chosen z j c h g = absurd (own (ReadingPart (block_range shape mode extent c.cut)) (Device (WriteNode k)) c.is_job h)
    read_goes extent (Device WriteRoot) got read chosen z j c h g = absurd (own (ReadingPart (block_range shape mode extent c.cut)) (Device WriteRoot) c.is_job h)
    read_goes extent (Desk step) got read chosen z j c h g = absurd (own (ReadingPart (block_range shape mode extent c.cut)) (Desk step) c.is_job h)
    read_goes extent (End answer) got read chosen z j c h g = absurd z

    write_goes : (extent : Extent) (content : Bytes) (next : Want) (got : Got) (read : List Bytes) (chosen : Chosen P A) → NoAnswer next → doing.job ≡ Write extent content → JobClaim shape mode (Write extent content) plan doing → next ≡ want plan → Gives shape w x (Write extent content) next got read chosen → Then_of (Write extent content) next got read
    write_goes extent content (Cell step) got read chosen z j c h g = let t = target_there w.phase step got g.1 in
        subst (λ (v : Got). Then_of (Write extent content) (Cell step) v read) (sym t.1) (plain_words shape mode shown n a x doing noted (Write extent content) plan j step _ read (write_words shape mode plan x suits extent content doing t.0 step h c))
    write_goes extent content (Device (WriteExtent d ex)) got read chosen z j c h g = subst (λ (v : Got). Then_of (Write extent content) (Device (WriteExtent d ex)) v read) (sym g.2) (extent_written shape mode shown n a x doing noted plan suits extent ex content d some_words read j h c)
    write_goes extent content (Device (ReadExtent d ex)) got read chosen z j c h g = absurd g
    write_goes extent content (Device (Sync d)) got read chosen z j c h g = absurd (write_owns extent c.cut (Device (Sync d)) c.is_job h)
    write_goes extent content (Device (ReadMetadata k)) got read chosen z j c h g = absurd (write_owns extent c.cut (Device (ReadMetadata k)) c.is_job h)
    write_goes extent content (Device (WriteNode k)) got read chosen z j c h g = absurd (write_owns extent c.cut (Device (WriteNode k)) c.is_job h)
    write_goes extent content (Device WriteRoot) got read chosen z j c h g = absurd (write_owns extent c.cut (Device WriteRoot) c.is_job h)
    write_goes extent content (Desk (Unmap block)) got read chosen z j c h g =
        subst (λ (v : Got). Then_of (Write extent content) (Desk (Unmap block)) v read) (sym g.1) (plain_desk shape mode shown n a x doing noted (Write extent content) plan j (Unmap block) Done read (write_unmaps shape mode plan x suits extent content block doing some_words h c))
    write_goes extent content (Desk (Map block place)) got read chosen z j c h g = absurd (write_owns extent c.cut (Desk (Map block place)) c.is_job h)
    write_goes extent content (Desk (ReleaseOrder block)) got read chosen z j c h g = absurd (write_owns extent c.cut (Desk (ReleaseOrder block)) c.is_job h)
    write_goes extent content (Desk (Arrive most)) got read chosen z j c h g = absurd (write_owns extent c.cut (Desk (Arrive most)) c.is_job h)
    write_goes extent content (Desk (Ask most)) got read chosen z j c h g = absurd (write_owns extent c.cut (Desk (Ask most)) c.is_job h)
    write_goes extent content (Desk (BeginCommit most)) got read chosen z j c h g = absurd (write_owns extent c.cut (Desk (BeginCommit most)) c.is_job h)
    write_goes extent content (Desk EndCommit) got read chosen z j c h g = absurd (write_owns extent c.cut (Desk EndCommit) c.is_job h)
    write_goes extent content (Desk BreakCommit) got read chosen z j c h g = absurd (write_owns extent c.cut (Desk BreakCommit) c.is_job h)
    write_goes extent content (End answer) got read chosen z j c h g = absurd z

    -- of a flush, an invalidation and a migration nothing is claimed
    abbrev IsUnclaimed : Job → Type 0
    IsUnclaimed Flush = Unit {0}
    IsUnclaimed Suspend = Unit {0}
    IsUnclaimed (Invalidate block) = Unit {0}
    IsUnclaimed (Migrate migration block) = Unit {0}
    IsUnclaimed (Replace old new) = Unit {0}
    IsUnclaimed job = ⊥

    unclaimed : (job : Job) (next : Want) (got : Got) (read : List Bytes) → IsUnclaimed job → NoAnswer next → doing.job ≡ job → Then_of job next got read
    unclaimed Flush (Cell step) got read u z j = plain_words shape mode shown n a x doing noted Flush plan j step got read tt
    unclaimed Flush (Device step) got read u z j = plain_device shape mode shown n a x doing noted Flush plan j step got read tt tt
    unclaimed Flush (Desk step) got read u z j = plain_desk shape mode shown n a x doing noted Flush plan j step got read tt
    unclaimed Suspend (Cell step) got read u z j = plain_words shape mode shown n a x doing noted Suspend plan j step got read tt
    unclaimed Suspend (Device step) got read u z j = plain_device shape mode shown n a x doing noted Suspend plan j step got read tt tt
    unclaimed Suspend (Desk step) got read u z j = plain_desk shape mode shown n a x doing noted Suspend plan j step got read tt
    unclaimed (Invalidate block) (Cell step) got read u z j = plain_words shape mode shown n a x doing noted (Invalidate block) plan j step got read tt
    unclaimed (Invalidate block) (Device step) got read u z j = plain_device shape mode shown n a x doing noted (Invalidate block) plan j step got read tt tt
    unclaimed (Invalidate block) (Desk step) got read u z j = plain_desk shape mode shown n a x doing noted (Invalidate block) plan j step got read tt
    unclaimed (Migrate migration block) (Cell step) got read u z j = plain_words shape mode shown n a x doing noted (Migrate migration block) plan j step got read tt
    unclaimed (Migrate migration block) (Device step) got read u z j = plain_device shape mode shown n a x doing noted (Migrate migration block) plan j step got read tt tt
    unclaimed (Migrate migration block) (Desk step) got read u z j = plain_desk shape mode shown n a x doing noted (Migrate migration block) plan j step got read tt
    unclaimed (Replace old new) (Cell step) got read u z j = plain_words shape mode shown n a x doing noted (Replace old new) plan j step got read tt
    unclaimed (Replace old new) (Device step) got read u z j = plain_device shape mode shown n a x doing noted (Replace old new) plan j step got read tt tt
    unclaimed (Replace old new) (Desk step) got read u z j = plain_desk shape mode shown n a x doing noted (Replace old new) plan j step got read tt
    unclaimed job (End answer) got read u z j = absurd z
    unclaimed job next got read u z j = absurd u

    open_goes : (opened_in : Mode) (second : Bool) (next : Want) (got : Got) (read : List Bytes) (chosen : Chosen P A) → NoAnswer next → doing.job ≡ Open opened_in second → JobClaim shape mode (Open opened_in second) plan doing → next ≡ want plan → Gives shape w x (Open opened_in second) next got read chosen → InPhase w.phase (Open opened_in second) → Then_of (Open opened_in second) next got read
    open_goes opened_in second next got read chosen z j c h g at = by_next next z (subst (λ (v : Want). IsOpenings v) (sym h) (open_next plan doing c)) h g
      where
        on : (step : DeviceStep) → Device step ≡ want plan → Comes got → ((refusal : Refusal) → Causes step got refusal → Rattle.wb_promise.specs.Headline.MayRefuse (failing doing step got) refusal) → Then_of (Open opened_in second) (Device step) got read
        on step h comes why = plain_device shape mode shown n a x doing noted (Open opened_in second) plan j step got read tt (open_on plan doing (failing doing step got) step got c h comes (still_refuses doing step got) why)

        done : (step : DeviceStep) → got ≡ Done → (refusal : Refusal) → Causes step got refusal → Rattle.wb_promise.specs.Headline.MayRefuse (failing doing step got) refusal
        done step e refusal c = absurd (subst (λ (v : Got). Causes step v refusal) e c)

        by_next : (next : Want) → NoAnswer next → IsOpenings next → next ≡ want plan → Gives shape w x (Open opened_in second) next got read chosen → Then_of (Open opened_in second) next got read
        by_next (Device (Sync Metadata)) z i h g = on (Sync Metadata) h (subst Comes (sym g.1) tt) (done (Sync Metadata) g.1)
        by_next (Device (Sync Cache)) z i h g = on (Sync Cache) h (subst Comes (sym g.1) tt) (done (Sync Cache) g.1)
        by_next (Device (Sync Origin)) z i h g = on (Sync Origin) h (subst Comes (sym g.1) tt) (done (Sync Origin) g.1)
        by_next (Device WriteRoot) z i h g = on WriteRoot h (subst Comes (sym g.1) tt) (done WriteRoot g.1)
        by_next (Device (ReadMetadata left)) z i h g = on (ReadMetadata left) h (reading_comes P A shape images w.devices.metadata doing second left w.phase w.commit got chosen g.2) (reading_why P A shape images w.devices.metadata doing second left w.phase w.commit got chosen known g.1 g.2 (subst (λ (q : Job). InPhase w.phase q) (sym j) at))
        by_next (End answer) z i h g = absurd z
        by_next (Device (WriteNode k)) z i h g = on (WriteNode k) h (subst Comes (sym g.1) tt) (done (WriteNode k) g.1)
        by_next next z i h g = absurd i

    -- a step of any job that is no answer
    pub claims_on : (job : Job) (next : Want) (got : Got) (read : List Bytes) (chosen : Chosen P A) → NoAnswer next → doing.job ≡ job → JobClaim shape mode job plan doing → next ≡ want plan → Gives shape w x job next got read chosen → InPhase w.phase job → Then_of job next got read
    claims_on (Read extent) next got read chosen z j c h g at = read_goes extent next got read chosen z j c h g
    claims_on (Write extent content) next got read chosen z j c h g at = write_goes extent content next got read chosen z j c h g
    claims_on Flush next got read chosen z j c h g at = unclaimed Flush next got read tt z j
    claims_on Suspend next got read chosen z j c h g at = unclaimed Suspend next got read tt z j
    claims_on (Open opened_in second) next got read chosen z j c h g at = open_goes opened_in second next got read chosen z j c h g at
    claims_on (Invalidate block) next got read chosen z j c h g at = unclaimed (Invalidate block) next got read tt z j
    claims_on (Migrate migration block) next got read chosen z j c h g at = unclaimed (Migrate migration block) next got read tt z j
    claims_on (Replace old new) next got read chosen z j c h g at = unclaimed (Replace old new) next got read tt z j

    -- one that fails
    pub claims_failed : (job : Job) (step : DeviceStep) (read : List Bytes) → doing.job ≡ job → JobClaim shape mode job plan doing → Device step ≡ want plan → Then_of job (Device step) Fault read
    claims_failed (Read extent) step read j c h = by_step step h (own (ReadingPart (block_range shape mode extent c.cut)) (Device step) c.is_job h)
      where
        by_step : (step : DeviceStep) → Device step ≡ want plan → IsOwnStep (OnBlock (ReadingPart (block_range shape mode extent c.cut))) (Device step) → Then_of (Read extent) (Device step) Fault read
        by_step (ReadExtent d ex) h o = read_faults shape mode shown n a x doing noted plan suits extent ex d read j h c
        by_step step h o = absurd o
    claims_failed (Write extent content) step read j c h = by_step step h (write_owns extent c.cut (Device step) c.is_job h)
      where
        by_step : (step : DeviceStep) → Device step ≡ want plan → WritesOwn (Device step) → Then_of (Write extent content) (Device step) Fault read
        by_step (WriteExtent d ex) h o = write_faults shape mode shown n a x doing noted plan suits extent ex content d read j h c
        by_step step h o = absurd o
    claims_failed Flush step read j c h = unclaimed Flush (Device step) Fault read tt tt j
    claims_failed Suspend step read j c h = unclaimed Suspend (Device step) Fault read tt tt j
    claims_failed (Invalidate block) step read j c h = unclaimed (Invalidate block) (Device step) Fault read tt tt j
    claims_failed (Migrate migration block) step read j c h = unclaimed (Migrate migration block) (Device step) Fault read tt tt j
    claims_failed (Replace old new) step read j c h = unclaimed (Replace old new) (Device step) Fault read tt tt j
    claims_failed (Open opened_in second) step read j c h = plain_device shape mode shown n a x doing noted (Open opened_in second) plan j step Fault read tt (open_on plan doing (failing doing step Fault) step Fault c h tt (still_refuses doing step Fault) (fault_why doing step))
