-- That the promises are not empty: runs that pass through what they speak of.
use Rattle.std.specs.Prelude.{Bool, true, false, ◌≡◌, ◌≤◌, ◌∷◌, ℕ, List, [], Some, None, length, slice_get}
use Rattle.wb_types.specs.declared.entry.Entry.{Entry}
use Rattle.wb_types.specs.declared.extent.Extent.{Extent}
use Rattle.wb_types.specs.declared.mode.Mode.{Mode}
use Rattle.wb_types.specs.declared.mode.Mode.TheVariants.{Writeback, Writethrough, Passthrough}
use Rattle.wb_types.specs.declared.mode.Dev.TheVariants.{Cache, Origin}
use Rattle.wb_types.specs.declared.refusal.Refusal.TheVariants.{Memory}
use Rattle.wb_types.specs.declared.version.Version.TheVariants.{One}
use Rattle.wb_types.specs.declared.number.OBlock.{OBlock}
use Rattle.wb_types.specs.declared.number.CBlock.{CBlock}
use Rattle.wb_words.specs.SharedWords.{word_at, seal_word}
use Rattle.wb_policy.specs.declared.order.Order.{Order}
use Rattle.wb_policy.specs.declared.order.Order.TheVariants.{Replace as ReplaceOrder}
use Rattle.wb_space.specs.declared.block.Block.{Block}
use Rattle.wb_space.specs.declared.block.Block.TheVariants.{Reserved, Quarantined}
use Rattle.wb_orders.specs.Orders.{order_at}
use Rattle.wb_desk.specs.Desks.{IsLive}
use Rattle.wb_tasks.specs.declared.step.Migration.TheVariants.{Promote, Demote, Clean}
use Rattle.wb_disk.specs.Device.{Content as Bytes, History, ReadGives}
use Rattle.wb_meta.specs.Formats.{IsFormatted}
use Rattle.wb_meta.specs.Reads.{sectors_read}
use Rattle.wb_meta.specs.declared.read_steps.ReadSteps.{ReadSteps}
use Rattle.wb_tasks.specs.Plan.{want}
use Rattle.wb_tasks.specs.declared.step.Answer.TheVariants.{Done as Finished, Refused as IsRefused}
use Rattle.wb_tasks.specs.declared.step.DeviceStep.TheVariants.{Write as WriteExtent}
use Rattle.wb_tasks.specs.declared.step.DeskStep.TheVariants.{ReleaseOrder}
use Rattle.wb_tasks.specs.declared.step.Want.{Want}
use Rattle.wb_tasks.specs.declared.step.Want.TheVariants.{Device, Desk, End}
use Rattle.wb_promise.specs.declared.job.Job.{Job}
use Rattle.wb_promise.specs.declared.job.Job.TheVariants.{Read, Write, Flush, Suspend, Migrate, Open}
use Rattle.wb_promise.specs.States.{Shape, State, Target, Gone, OfTarget, start}
use Rattle.wb_stage.specs.declared.share.Share.{Share}
use Rattle.wb_stage.specs.declared.share.Share.TheVariants.{Waiting, Covered}
use Rattle.wb_promise.specs.Happenings.{Happening, AtWork, OnTask, OfSome, WaitsForCommit, May}
use Rattle.wb_promise.specs.Effects.{after_happening, after_all, IsRun}
use Rattle.wb_promise.specs.Clerk.{Notes, Doing, formatted}
use Rattle.wb_promise.specs.Headline.{place_of, shown, noted}

-- ---- runs

-- There is a run that passes through these conditions: a stretch of it after which the first holds, one behind that after which the second
-- does, and so on.
abbrev pub PassesThrough : {P A : Type 0} → Shape → State P A → Notes → List (State P A → Notes → Type 0) → Type 0
PassesThrough shape w n [] = Unit {0}
PassesThrough {P} {A} shape w n (Is ∷ conditions) = (stretch : List (Happening P A)) × IsRun shape w stretch × Is (after_all shape w stretch) (noted shape w n stretch)
    × PassesThrough shape (after_all shape w stretch) (noted shape w n stretch) conditions

-- one thing more may happen, and then this holds
abbrev pub NextMay : {P A : Type 0} → Shape → State P A → (State P A → Type 0) → Type 0
NextMay {P} {A} shape w Is = (h : Happening P A) × May shape w h × Is (after_happening shape w h)

-- Where there are a policy and a reading that has read nothing, there is such a run from any formatted metadata, over a shape of which this holds.
abbrev pub CanPass : (P A : Type 0) → (Shape → Type 0) → (Shape → List (State P A → Notes → Type 0)) → Type 0
CanPass P A Suits conditions = (policy : P) (reading : ReadSteps A) → sectors_read reading ≡ 0 → (shape : Shape) (metadata : List History) → Suits shape
    → IsFormatted shape.geometry metadata → length metadata ≡ shape.geometry.meta_sectors → PassesThrough shape (start shape metadata) (formatted shape) (conditions shape)

-- somebody is there
abbrev pub HasActors : Shape → Type 0
HasActors shape = 1 ≤ shape.actors

-- Somebody is there; metadata are of the first version; the origin has so many blocks, of the fewest sectors that a block may have; and orders may
-- ask for so many sectors at once.
pub record IsSmall (blocks asked : ℕ) (shape : Shape) : Type 0 where
  pub actors : 1 ≤ shape.actors
  pub first : shape.geometry.version ≡ One
  pub block : shape.geometry.block ≡ 64
  pub origin : shape.geometry.origin_blocks ≡ blocks
  pub room : asked ≤ shape.threshold

-- So it is, and the cache has one block.
pub record IsSmallest (asked : ℕ) (shape : Shape) : Type 0 where
  pub small : IsSmall 1 asked shape
  pub cache : shape.geometry.cache_blocks ≡ 1

-- ---- what is so in a state

abbrev pub first_sector : Extent
first_sector = record { first = 0; count = 1 }

abbrev pub first_block : OBlock
first_block = record { 0 = 0 }

abbrev pub second_block : OBlock
second_block = record { 0 = 1 }

abbrev pub first_cache_block : CBlock
first_cache_block = record { 0 = 0 }

-- the order by which the first block leaves the first cache block, and the second follows
abbrev pub replacement : Order
replacement = ReplaceOrder first_block second_block first_cache_block

-- a target stands, of which this holds
abbrev pub TargetHas : {P A : Type 0} → State P A → (Target P → Type 0) → Type 0
TargetHas w on = OfTarget w.phase on

-- the first actor is at this job, and wants this next
abbrev pub FirstWants : {P A : Type 0} → Job → Want → State P A → Type 0
FirstWants job next w = AtWork w 0 (λ at s. (at ≡ job) × (want s ≡ next))

-- its next step is to answer its job done
abbrev pub AboutToAnswer : {P A : Type 0} → Job → State P A → Type 0
AboutToAnswer job w = FirstWants job (End Finished) w

-- it is at this job
abbrev pub FirstIsAt : {P A : Type 0} → Job → State P A → Type 0
FirstIsAt job w = AtWork w 0 (λ at s. at ≡ job)

-- it is noted to be at something of which this holds
abbrev pub FirstDoes : Notes → (Doing → Type 0) → Type 0
FirstDoes n on = OfSome (slice_get n.doings 0) (λ noted. OfSome noted on)

-- it has these orders, and these wait for its flush
abbrev pub FirstHas : {P A : Type 0} → (orders awaiting : List Order) → State P A → Type 0
FirstHas orders awaiting w = OfSome (slice_get w.actors 0) (λ x. (x.orders ≡ orders) × (x.awaiting ≡ awaiting))

-- the first cache block is in this state
abbrev pub FirstCacheBlockIs : {P A : Type 0} → Block → State P A → Type 0
FirstCacheBlockIs block w = TargetHas w (λ target. slice_get target.desk.space.blocks 0 ≡ Some block)

-- no order lives there
abbrev pub NoOrderLives : {P A : Type 0} → State P A → Type 0
NoOrderLives w = TargetHas w (λ target. order_at target.desk.orders.slots 0 ≡ None)

-- this block stands in the first cache block
abbrev pub StandsCached : {P A : Type 0} → OBlock → State P A → Type 0
StandsCached block w = TargetHas w (λ target. place_of target.desk.tree.entries block.0 ≡ Some 0)

-- this one stands in none
abbrev pub StandsNowhere : {P A : Type 0} → OBlock → State P A → Type 0
StandsNowhere block w = TargetHas w (λ target. place_of target.desk.tree.entries block.0 ≡ None)

-- the second actor is at a flush, has this of the commits that others lead, and wants this next
abbrev pub SecondFlushes : {P A : Type 0} → Share → Want → State P A → Type 0
SecondFlushes share next w = OnTask w 1 (λ x at s. (at ≡ Flush) × (x.share ≡ share) × (want s ≡ next))

-- so many commits have ended since the opening
abbrev pub HaveEnded : {P A : Type 0} → ℕ → State P A → Type 0
HaveEnded count w = TargetHas w (λ target. target.desk.ended ≡ count)

-- ---- what runs pass through, and that there are such runs

-- an opening is answered done, and a target stands
abbrev pub CanOpen : (P A : Type 0) → Type 0
CanOpen P A = CanPass P A HasActors (λ shape. (λ w n. TargetHas w (λ target. Unit {0})) ∷ [])

-- a flush over it comes to its answer, which is done
abbrev pub CanFlush : (P A : Type 0) → Type 0
CanFlush P A = CanPass P A HasActors (λ shape. (λ w n. AboutToAnswer Flush w) ∷ [])

-- somebody is there, and another one
abbrev pub AreTwo : Shape → Type 0
AreTwo shape = 2 ≤ shape.actors

-- the second actor has to wait with its flush, so many commits have ended, and the first is at a flush, whose commit runs
abbrev pub IsWaitedBeside : {P A : Type 0} → ℕ → State P A → Type 0
IsWaitedBeside count w = FirstIsAt Flush w × WaitsForCommit w 1 × HaveEnded count w

abbrev pub AreDoneTogether : {P A : Type 0} → State P A → Type 0
AreDoneTogether w = AboutToAnswer Flush w × SecondFlushes (Covered 2) (End Finished) w × HaveEnded 2 w

-- Three flushes by two commits. While the first actor leads one, the second comes with a flush, gets a ticket of the commit after that, and has to
-- wait; so it has still where the first one leads that commit, too; and once this has ended, the second is given a receipt of it, and is about to be
-- answered done.
abbrev pub to_share : {P A : Type 0} → List (State P A → Notes → Type 0)
to_share = (λ w n. IsWaitedBeside 0 w × OnTask w 1 (λ x at s. x.share ≡ Waiting 2)) ∷ (λ w n. IsWaitedBeside 1 w) ∷ (λ w n. AreDoneTogether w) ∷ []

abbrev pub CanShare : (P A : Type 0) → Type 0
CanShare P A = CanPass P A AreTwo (λ shape. to_share)

-- After an opening a write comes to its answer; a read of it, which is given what was written, and that is the latest; a flush, by which it
-- becomes durable; a write of something else fails; power is lost; and a second opening shows the first write.
abbrev pub to_survive : {P A : Type 0} → Shape → (content other : Bytes) → List (State P A → Notes → Type 0)
to_survive shape content other =
    (λ w n. AboutToAnswer (Write first_sector content) w)
    ∷ (λ w n. AboutToAnswer (Read first_sector) w × FirstDoes n (λ doing. doing.readings ≡ record { sector = 0; content = content; latest = Some content } ∷ []))
    ∷ (λ w n. AboutToAnswer Flush w × (slice_get n.finished 0 ≡ Some 1) × (slice_get n.floors 0 ≡ Some 0))
    ∷ (λ w n. FirstDoes n (λ doing. (doing.job ≡ Write first_sector other) × (doing.failed ≡ Origin ∷ [])) × (slice_get n.floors 0 ≡ Some 1))
    ∷ (λ w n. w.phase ≡ Gone)
    ∷ (λ w n. TargetHas w (λ target. Unit {0}) × (slice_get (shown shape w) 0 ≡ Some content))
    ∷ []

abbrev pub CanSurvive : (P A : Type 0) → Type 0
CanSurvive P A = (content other : Bytes) → CanPass P A (IsSmall 1 0) (λ shape. to_survive shape content other)

-- a promotion of the first block comes to its answer: the block stands in the first cache block, and no order lives there any more
abbrev pub IsPromoted : {P A : Type 0} → State P A → Type 0
IsPromoted w = AboutToAnswer (Migrate (Promote first_cache_block) first_block) w × StandsCached first_block w × NoOrderLives w

abbrev pub CanPromote : (P A : Type 0) → Type 0
CanPromote P A = CanPass P A (IsSmall 1 64) (λ shape. (λ w n. IsPromoted w) ∷ [])

-- and then a demotion of it: it stands nowhere, no order lives there, and its cache block is in quarantine until a commit that has still to begin
-- has ended
abbrev pub to_demote : {P A : Type 0} → List (State P A → Notes → Type 0)
to_demote =
    (λ w n. IsPromoted w)
    ∷ (λ w n. AboutToAnswer (Migrate Demote first_block) w × StandsNowhere first_block w × NoOrderLives w × FirstCacheBlockIs (Quarantined false false) w)
    ∷ []

abbrev pub CanDemote : (P A : Type 0) → Type 0
CanDemote P A = CanPass P A (IsSmall 1 64) (λ shape. to_demote)

-- a write to it, where it stands cached, comes to its answer
abbrev pub IsWrittenTo : {P A : Type 0} → Bytes → State P A → Type 0
IsWrittenTo content w = AboutToAnswer (Write first_sector content) w × ReadGives w.devices.cache 0 content

-- the seal of the first block says that its copy in the first cache block is dirty, or clean
abbrev pub IsSealed : {P A : Type 0} → Bool → State P A → Type 0
IsSealed dirty w = TargetHas w (λ target. word_at target.words.seals first_block ≡ seal_word (Some first_cache_block) dirty)

abbrev pub IsSealedClean : {P A : Type 0} → State P A → Type 0
IsSealedClean w = IsSealed false w

-- The first block comes, is written to, and is written back: what was written is on the origin then too, the block stands where it was, its
-- seal says that it is clean, and no order lives there.
abbrev pub to_write_back : {P A : Type 0} → Bytes → List (State P A → Notes → Type 0)
to_write_back content =
    (λ w n. IsPromoted w)
    ∷ (λ w n. IsWrittenTo content w)
    ∷ (λ w n. AboutToAnswer (Migrate Clean first_block) w × FirstHas [] [] w × ReadGives w.devices.origin 0 content × StandsCached first_block w × NoOrderLives w × IsSealedClean w)
    ∷ []

abbrev pub CanWriteBack : (P A : Type 0) → Type 0
CanWriteBack P A = (content : Bytes) → CanPass P A (IsSmall 2 128) (λ shape. to_write_back content)

-- a target of this mode stands
abbrev pub StandsIn : {P A : Type 0} → Mode → State P A → Type 0
StandsIn mode w = TargetHas w (λ target. target.desk.mode ≡ mode)

-- a write to the first block, where it stands cached, has reached the origin, and comes to the cache next
abbrev pub IsHalfWritten : {P A : Type 0} → Bytes → State P A → Type 0
IsHalfWritten content w = FirstWants (Write first_sector content) (Device (WriteExtent Cache first_sector)) w × ReadGives w.devices.origin 0 content × IsSealedClean w

-- In write-through the first block comes, and is written to: on the origin, and then in the cache too, and its seal says that it is clean still.
abbrev pub to_write_through : {P A : Type 0} → Bytes → List (State P A → Notes → Type 0)
to_write_through content =
    (λ w n. IsPromoted w × StandsIn Writethrough w)
    ∷ (λ w n. IsHalfWritten content w)
    ∷ (λ w n. IsWrittenTo content w × ReadGives w.devices.origin 0 content × IsSealedClean w)
    ∷ []

abbrev pub CanWriteThrough : (P A : Type 0) → Type 0
CanWriteThrough P A = (content : Bytes) → CanPass P A (IsSmall 1 64) (λ shape. to_write_through content)

-- Power is lost between the two writes, and a second opening, in write-back, shows what had reached the origin.
abbrev pub to_write_half : {P A : Type 0} → Shape → Bytes → List (State P A → Notes → Type 0)
to_write_half shape content =
    (λ w n. IsHalfWritten content w × StandsIn Writethrough w)
    ∷ (λ w n. w.phase ≡ Gone)
    ∷ (λ w n. StandsIn Writeback w × (slice_get (shown shape w) 0 ≡ Some content))
    ∷ []

abbrev pub CanWriteHalf : (P A : Type 0) → Type 0
CanWriteHalf P A = (content : Bytes) → CanPass P A (IsSmall 1 64) (λ shape. to_write_half shape content)

-- the first block has left, its cache block is claimed, and its order lives on and waits for a flush
abbrev pub IsHalfReplaced : {P A : Type 0} → State P A → Type 0
IsHalfReplaced w = FirstHas [] (replacement ∷ []) w × FirstCacheBlockIs (Quarantined true false) w × TargetHas w (λ target. IsLive target.desk replacement)

-- The first block comes, is written to, and leaves by the first half of its replacement; a flush ends the quarantine; its answer gives the
-- order back, under which a promotion of the second block starts; and by the rest of that the second block stands in the first cache block,
-- the first nowhere, no order lives there, and the origin has what was written.
abbrev pub to_replace : {P A : Type 0} → Bytes → List (State P A → Notes → Type 0)
to_replace content =
    (λ w n. IsPromoted w)
    ∷ (λ w n. IsWrittenTo content w)
    ∷ (λ w n. AboutToAnswer (Migrate Demote first_block) w × IsHalfReplaced w)
    ∷ (λ w n. AboutToAnswer Flush w × FirstHas [] (replacement ∷ []) w × FirstCacheBlockIs Reserved w)
    ∷ (λ w n. FirstIsAt (Migrate (Promote first_cache_block) second_block) w × FirstHas (replacement ∷ []) [] w)
    ∷ (λ w n. AboutToAnswer (Migrate (Promote first_cache_block) second_block) w × FirstHas [] [] w × ReadGives w.devices.origin 0 content × StandsCached second_block w × StandsNowhere first_block w × NoOrderLives w)
    ∷ []

abbrev pub CanReplace : (P A : Type 0) → Type 0
CanReplace P A = (content : Bytes) → CanPass P A (IsSmall 2 128) (λ shape. to_replace content)

-- The first block has left so, but the flush is refused for want of memory: it is about to give the order up then, and with one happening more it
-- has: the order is over, and its cache block claimed no longer.
abbrev pub to_give_up : {P A : Type 0} → Shape → List (State P A → Notes → Type 0)
to_give_up shape =
    (λ w n. IsHalfReplaced w)
    ∷ (λ w n. FirstWants Flush (Desk (ReleaseOrder first_block)) w × IsHalfReplaced w
    × NextMay shape w (λ v. FirstWants Flush (End (IsRefused Memory)) v × FirstHas [] [] v × FirstCacheBlockIs (Quarantined false false) v × NoOrderLives v))
    ∷ []

abbrev pub CanGiveUp : (P A : Type 0) → Type 0
CanGiveUp P A = CanPass P A (IsSmall 2 128) to_give_up

-- A replacement has failed, and its actor has nothing to do, but its order still; with one happening more it starts again.
abbrev pub to_start_again : {P A : Type 0} → Shape → List (State P A → Notes → Type 0)
to_start_again shape =
    (λ w n. OfSome (slice_get w.actors 0) (λ x. x.task ≡ None) × FirstHas (replacement ∷ []) [] w
    × NextMay shape w (λ v. FirstIsAt (Migrate Demote first_block) v × FirstHas (replacement ∷ []) [] v))
    ∷ []

abbrev pub CanStartAgain : (P A : Type 0) → Type 0
CanStartAgain P A = CanPass P A (IsSmall 2 128) to_start_again

-- the one entry is that of the first block, with this dirty bit
abbrev pub IsStored : {P A : Type 0} → Bool → State P A → Type 0
IsStored dirty w = TargetHas w (λ target. (entry : Entry) × (target.desk.tree.entries ≡ Some entry ∷ []) × (entry.origin ≡ first_block) × (entry.dirty ≡ dirty))

-- what was written to the first sector survives a crash from now on, or may be lost in one still
abbrev pub IsFloorAt : ℕ → Notes → Type 0
IsFloorAt position n = slice_get n.floors 0 ≡ Some position

-- The first block comes, is written to, and the target is suspended: the image that was committed has the dirty bit. Its answer raises the floor,
-- which an opening finds that starts behind it. The opening takes the block as dirty, and shows what was written.
abbrev pub to_suspend : {P A : Type 0} → Shape → Bytes → List (State P A → Notes → Type 0)
to_suspend shape content =
    (λ w n. IsPromoted w)
    ∷ (λ w n. IsWrittenTo content w × IsSealed true w)
    ∷ (λ w n. AboutToAnswer Suspend w × IsStored true w × IsFloorAt 0 n)
    ∷ (λ w n. FirstIsAt (Open Writeback false) w × IsFloorAt 1 n)
    ∷ (λ w n. IsSealed true w × StandsIn Writeback w × (slice_get (shown shape w) 0 ≡ Some content))
    ∷ []

abbrev pub CanSuspend : (P A : Type 0) → Type 0
CanSuspend P A = (content : Bytes) → CanPass P A (IsSmallest 64) (λ shape. to_suspend shape content)

-- Where the block is not written to, it is stored as clean, and the opening takes it as clean.
abbrev pub to_stay_clean : {P A : Type 0} → List (State P A → Notes → Type 0)
to_stay_clean =
    (λ w n. IsPromoted w × IsSealedClean w)
    ∷ (λ w n. AboutToAnswer Suspend w × IsStored false w)
    ∷ (λ w n. IsSealedClean w × StandsIn Writeback w)
    ∷ []

abbrev pub CanStayClean : (P A : Type 0) → Type 0
CanStayClean P A = CanPass P A (IsSmallest 64) (λ shape. to_stay_clean)

-- Behind a suspend that stored it clean, an opening in passthrough takes the block where it is. A write to it takes it out of the cache first, and then
-- goes to the origin alone; a flush makes it durable; power is lost; and a second opening, in write-back, finds nothing cached, and shows it.
abbrev pub to_pass_through : {P A : Type 0} → Shape → Bytes → List (State P A → Notes → Type 0)
to_pass_through shape content =
    (λ w n. IsPromoted w × IsSealedClean w)
    ∷ (λ w n. AboutToAnswer Suspend w × IsStored false w)
    ∷ (λ w n. StandsIn Passthrough w × StandsCached first_block w × IsSealedClean w)
    ∷ (λ w n. FirstWants (Write first_sector content) (Device (WriteExtent Origin first_sector)) w × StandsNowhere first_block w)
    ∷ (λ w n. AboutToAnswer (Write first_sector content) w × StandsNowhere first_block w × ReadGives w.devices.origin 0 content)
    ∷ (λ w n. AboutToAnswer Flush w × IsFloorAt 0 n)
    ∷ (λ w n. (w.phase ≡ Gone) × IsFloorAt 1 n)
    ∷ (λ w n. StandsIn Writeback w × StandsNowhere first_block w × (slice_get (shown shape w) 0 ≡ Some content))
    ∷ []

abbrev pub CanPassThrough : (P A : Type 0) → Type 0
CanPassThrough P A = (content : Bytes) → CanPass P A (IsSmallest 64) (λ shape. to_pass_through shape content)
