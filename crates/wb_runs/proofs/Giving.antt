-- Whoever has a task can do its next step, and every event has a happening.
use Rattle.wb_types.specs.declared.refusal.Refusal.{Refusal}
use Rattle.wb_stage.specs.declared.share.Share.TheVariants.{Nothing, Waiting, Covered}
use Rattle.wb_stage.specs.declared.share.Share.{Share}
use Rattle.wb_stage.specs.Sharing.{ShareIsCovered, MustWait}
use Rattle.wb_desk.specs.Sharing.{IsLeadRefused}
use Rattle.std.proofs.Common.{◌≡◌, ◌∙◌, ◌⊎◌, ◌≤◌, ◌<◌, ◌+◌, ◌^◌, ◌&&◌, ◌==◌, inl, inr, ℕ, zero, suc, Bool, true, false, List, [], ◌∷◌, Option, Some, None, refl, sym, ap, subst, arith, length, slice_get, is_none, is_some}
use Rattle.wb_tree.specs.Mapping.{IsSound}
use Rattle.std.proofs.lemmas.Bool.{cases_lt, cases_Bool}
use Rattle.std.proofs.lemmas.Option.{slice_get-get_or, slice_get_cases, slice_get_past}
use Rattle.wb_types.proofs.Truth.{yes}
use Rattle.wb_types.specs.declared.extent.Extent.{Extent}
use Rattle.wb_types.specs.declared.geometry.Geometry.{Geometry}
use Rattle.wb_types.specs.declared.mode.Mode.{Mode}
use Rattle.wb_types.specs.declared.mode.Dev.{Dev}
use Rattle.wb_types.specs.declared.mode.Dev.TheVariants.{Metadata, Cache, Origin}
use Rattle.wb_types.specs.declared.number.OBlock.{OBlock}
use Rattle.wb_types.specs.declared.number.Place.{Place}
use Rattle.wb_types.specs.declared.refusal.Refusal.TheVariants.{Busy, Memory, GenerationEnd, Failed}
use Rattle.wb_disk.specs.Device.{Content as Bytes, History, newest, written}
use Rattle.wb_disk.specs.Memory.{blank}
use Rattle.wb_disk.specs.Extents.{GivesEach}
use Rattle.wb_disk.specs.Crash.{Choice}
use Rattle.wb_disk.specs.Failing.{lands}
use Rattle.wb_disk.proofs.Leaving.{read-left}
use Rattle.wb_format.specs.declared.node.Node.{Node}
use Rattle.wb_tree.specs.declared.image.Image.{Image}
use Rattle.wb_meta.specs.Commits.{CommitHasCome}
use Rattle.wb_meta.specs.Reads.{IsDone, sectors_read}
use Rattle.wb_meta.specs.Steps.{DoesStep, NodeOrSync, coming_step}
use Rattle.wb_meta.specs.declared.read_steps.ReadSteps.{ReadSteps}
use Rattle.wb_meta.specs.declared.commit_steps.CommitSteps.{CommitSteps}
use Rattle.wb_meta.specs.declared.commit_steps.CommitSteps.TheVariants.{NodesWritten, NodesSynced, RootWritten, Done as Committed}
use Rattle.wb_policy.specs.declared.order.Order.{Order}
use Rattle.wb_desk.specs.Calls.{released}
use Rattle.wb_desk.specs.Desks.{DeskState, DeskInvariant}
use Rattle.wb_desk.proofs.Kept.{found_at, takes_there}
use Rattle.wb_stage.specs.Asking.{IsGivenUp, DidUnmap, DidRelease, order_of}
use Rattle.wb_words.specs.Effects.{result_of}
use Rattle.wb_tasks.specs.Ready.{HoldsBlocks, IsOwnStep, source_of, target_of}
use Rattle.wb_tasks.specs.Tables.{BlockRange, BlockJob, Reading, Writing, Displacing, Invalidating, Migrating, OnBlock, Opening}
use Rattle.wb_tasks.specs.Plan.{Plan, want, got_of}
use Rattle.wb_tasks.specs.declared.step.Answer.{Answer}
use Rattle.wb_tasks.specs.declared.step.DeskStep.TheVariants.{Map, Unmap, ReleaseOrder, EndCommit, BreakCommit}
use Rattle.wb_tasks.specs.declared.step.DeviceStep.{DeviceStep}
use Rattle.wb_tasks.specs.declared.step.DeviceStep.TheVariants.{Read as ReadExtent, Write as WriteExtent, Sync, ReadMetadata, WriteNode, WriteRoot}
use Rattle.wb_tasks.specs.declared.step.Migration.{Migration}
use Rattle.wb_tasks.specs.declared.step.Migration.TheVariants.{Promote}
use Rattle.wb_tasks.specs.declared.step.Want.{Want}
use Rattle.wb_tasks.specs.declared.step.Want.TheVariants.{Cell, Device, Desk, End}
use Rattle.wb_tasks.specs.declared.step.Got.{Got}
use Rattle.wb_tasks.specs.declared.step.Got.TheVariants.{Done, Refused as GotRefused, Ticket, Served}
use Rattle.wb_devices.specs.declared.devices.Devices.{Devices}
use Rattle.wb_devices.specs.declared.running.RunningCommit.{RunningCommit}
use Rattle.wb_devices.specs.Committing.{goes_on, is_coming}
use Rattle.wb_devices.specs.Moving.{device_in}
use Rattle.wb_promise.specs.declared.job.Job.{Job}
use Rattle.wb_promise.specs.declared.job.Job.TheVariants.{Read, Write, Open, Migrate, Invalidate}
use Rattle.wb_promise.specs.States.{Shape, State, Actor, Target, Stands, Opens, OfReading}
use Rattle.wb_promise.specs.Happenings.{Chosen, Plain, Begins, Puts, Asks, Opened, OfSome, LandedOr, sector_put, DoesBegin, DoesPut, FailsPut, Gives, Falters, write_job, DoesArrive, DoesAsk, Awaits}
use Rattle.wb_runs.specs.Inside.{StepInside, size_on}
use Rattle.wb_runs.proofs.Images.{Images}
use Rattle.wb_runs.proofs.Spelled.{IsSmall, node_spelling, spelled_node}
use Rattle.wb_runs.proofs.Rooted.{Fits, comes_next, rooted, root_does}
use Rattle.wb_runs.proofs.Underway.{Underway}
use Rattle.wb_runs.proofs.Metadata.{AtDesk, AtOpening, unknowing}
use Rattle.wb_runs.proofs.Passing.{WritesOwn, write_own}
use Rattle.wb_runs.proofs.Desks.{is_live, can_unmap}
use Rattle.wb_runs.proofs.Plans.{plan_of}
use Rattle.wb_runs.proofs.Readings.{generation_fits, can_read}
use Rattle.wb_tasks.specs.Points.{OpenPoint, AtFirst, AtCache, AtOrigin, AtRead, AtNodes, AtRoot, AtRootSync, AtEnd, AtRefusal, open_left, open_answer}
use Rattle.wb_runs.proofs.Points.{Runs, FlushPoint, ToLook, ToBegin, ToSyncCache, ToSyncOrigin, ToWriteNodes, ToWriteRoot, ToSyncRoot, ToEnd, ToSetFailed, ToRelease, AtFlush, AtOpen, CommitJob, Flushes, Suspends, task_of, doing_of, begin_of, commit_left, IsOf, ToSetSuspended, ToAsk, ToBreak}

-- ---- reads

-- what a read of so many sectors from one on gives
contents_from : (device : List History) (count first : ℕ) → first + count ≤ length device → (read : List Bytes) × (length read ≡ count) × GivesEach device first read
contents_from device zero first l = ([], refl, tt)
contents_from device (suc count) first l =
    let there = slice_get-get_or device first blank (omega (arith, l)) in
    let rest = contents_from device count (suc first) (omega (arith, l)) in
    (_ ∷ rest.0, ap (λ (n : ℕ). suc n) rest.1, ((_, there, refl), rest.2))

-- ---- a commit that runs

come_size : (image : Image) (before : List History) (steps : CommitSteps) (now : List History) → CommitHasCome image before steps now → length now ≡ length before
come_size image before (NodesWritten count) now come = come.grew.size
come_size image before NodesSynced now come = come.grew.size
come_size image before RootWritten now come = come.safe.grew.size
come_size image before Committed now come = come.safe.grew.size

-- the device has the size that the image is for
same_size : (g : Geometry) (images : Images) (c : RunningCommit) (of : _) (device : List History) → Underway g images c of device → length device ≡ c.image.root.geometry.meta_sectors
same_size g images c of device u = come_size of.image of.before c.steps device u.come ∙ u.can.size ∙ sym u.can.sizes.meta_sectors ∙ ap (λ r. r.geometry.meta_sectors) u.can.root_is ∙ ap (λ (i : Image). i.root.geometry.meta_sectors) u.image

-- so does the commit that runs, if any does
abbrev AllFit : Option RunningCommit → List History → Type 0
AllFit None device = Unit {0}
AllFit (Some c) device = Fits c device

-- all nodes are written
none_coming : (from : ℕ) (image : Image) → length image.nodes.items ≡ from → is_coming image (NodesWritten from) (Sync Metadata) ≡ true
none_coming from image e = ap (λ (o : Option (Place × Node)). is_none o) (slice_get_past image.nodes.items from (omega (arith, e)))

-- a node that is there
record NodeAt (image : Image) (k : ℕ) : Type 0 where
  node : Place × Node
  there : slice_get image.nodes.items k ≡ Some node

node_at : (image : Image) (k : ℕ) → k < length image.nodes.items → NodeAt image k
node_at image k l = by_case (slice_get_cases image.nodes.items k).1
  where
    by_case : ((x : Place × Node) × (k < length image.nodes.items) × (slice_get image.nodes.items k ≡ Some x) × (Rattle.std.proofs.Common.get_or image.nodes.items k x ≡ x)) ⊎ ((length image.nodes.items ≤ k) × (slice_get image.nodes.items k ≡ None)) → NodeAt image k
    by_case (inl h) = record { node = h.0; there = h.2 }
    by_case (inr h) = absurd (omega (arith, l, h.0))

node_coming : (image : Image) (k : ℕ) → NodeAt image k → is_coming image (NodesWritten k) (WriteNode k) ≡ true
node_coming image k n = ap (λ (o : Option (Place × Node)). (k == k) && is_some o) n.there ∙ ap (λ (b : Bool). b && true) (yes k)

-- the device with a node
abbrev noded : Place × Node → List History → List History
noded node device = written device node.0.0 (node_spelling node.1)

node_does : (image : Image) (k : ℕ) (device : List History) (n : NodeAt image k) → IsSmall image → DoesStep image (NodesWritten k) device (noded n.node device)
node_does image k device n small = subst (λ (o : Option (Place × Node)). NodeOrSync o device (noded n.node device)) (sym n.there) (record { content = node_spelling n.node.1; spelled = spelled_node n.node.1 (small.nodes k n.node n.there); wrote = refl })

-- whether a commit has ended that covers a flush
pub is_covered : {P : Type 0} (desk : DeskState P) (share : Share) → ShareIsCovered desk share ⊎ (¬ ShareIsCovered desk share)
is_covered desk (Waiting number) = elim (cases_lt desk.ended number) [
  | inl before ↦ inr (λ covered. absurd (omega (arith, before, covered)))
  | inr ended ↦ inl ended
]
is_covered desk Nothing = inr (λ covered. covered)
is_covered desk (Covered number) = inr (λ covered. covered)

module _ (P A : Type 0) where
  -- a step of the commit puts this, done or failed
  module _ (c : RunningCommit) (device now : List History) (step : DeviceStep) (comes : goes_on (length device) c.image c.steps step ≡ true) (does : DoesStep c.image c.steps device now) where
    puts : DoesPut {P = P} {A = A} (Some c) step device (Puts now)
    puts = (comes, does)

    fails : (choice : Choice) → (chosen : Chosen P A) × FailsPut (Some c) choice step device chosen
    fails choice = by_landed (lands Metadata choice (sector_put (coming_step c.image c.steps))) refl
      where
        by_landed : (b : Bool) → lands Metadata choice (sector_put (coming_step c.image c.steps)) ≡ b → (chosen : Chosen P A) × FailsPut (Some c) choice step device chosen
        by_landed true e = (Puts now, (comes, subst (λ (b : Bool). LandedOr b (DoesStep c.image c.steps device now) (now ≡ device)) (sym e) does))
        by_landed false e = (Puts device, (comes, subst (λ (b : Bool). LandedOr b (DoesStep c.image c.steps device device) (device ≡ device)) (sym e) refl))

  puts_root : (nodes : ℕ) (commit : Option RunningCommit) (device : List History) → Runs nodes NodesSynced commit → AllFit commit device → (chosen : Chosen P A) × DoesPut commit WriteRoot device chosen
  puts_root nodes None device r f = absurd r
  puts_root nodes (Some c) device r f = (Puts (rooted c device), puts c device (rooted c device) WriteRoot (comes_next c device NodesSynced WriteRoot f r.2 refl) (root_does c device r.1.root r.2))

  fails_root : (nodes : ℕ) (commit : Option RunningCommit) (choice : Choice) (device : List History) → Runs nodes NodesSynced commit → AllFit commit device → (chosen : Chosen P A) × FailsPut commit choice WriteRoot device chosen
  fails_root nodes None choice device r f = absurd r
  fails_root nodes (Some c) choice device r f = fails c device (rooted c device) WriteRoot (comes_next c device NodesSynced WriteRoot f r.2 refl) (root_does c device r.1.root r.2) choice

  -- the node that comes next
  module _ (left from : ℕ) (c : RunningCommit) (device : List History) (r : Runs (from + suc left) (NodesWritten from) (Some c)) (f : Fits c device) where
    next_node : NodeAt c.image from
    next_node = node_at c.image from (omega (arith, r.0))

    node_next : goes_on (length device) c.image c.steps (WriteNode from) ≡ true
    node_next = comes_next c device (NodesWritten from) (WriteNode from) f r.2 (node_coming c.image from next_node)

    node_done : DoesStep c.image c.steps device (noded next_node.node device)
    node_done = subst (λ (s : CommitSteps). DoesStep c.image s device (noded next_node.node device)) (sym r.2) (node_does c.image from device next_node r.1)

  puts_node : (left from : ℕ) (commit : Option RunningCommit) (device : List History) → Runs (from + suc left) (NodesWritten from) commit → AllFit commit device → (chosen : Chosen P A) × DoesPut commit (WriteNode from) device chosen
  puts_node left from None device r f = absurd r
  puts_node left from (Some c) device r f = (Puts (noded (next_node left from c device r f).node device), puts c device _ (WriteNode from) (node_next left from c device r f) (node_done left from c device r f))

  fails_node : (left from : ℕ) (commit : Option RunningCommit) (choice : Choice) (device : List History) → Runs (from + suc left) (NodesWritten from) commit → AllFit commit device → (chosen : Chosen P A) × FailsPut commit choice (WriteNode from) device chosen
  fails_node left from None choice device r f = absurd r
  fails_node left from (Some c) choice device r f = fails c device (noded (next_node left from c device r f).node device) (WriteNode from) (node_next left from c device r f) (node_done left from c device r f) choice

  syncs_next : (nodes : ℕ) (commit : Option RunningCommit) (device : List History) (steps : CommitSteps) → Runs nodes steps commit → AllFit commit device → ((image : Image) → length image.nodes.items ≡ nodes → is_coming image steps (Sync Metadata) ≡ true) →
      (c : RunningCommit) × (commit ≡ Some c) × (goes_on (length device) c.image c.steps (Sync Metadata) ≡ true)
  syncs_next nodes None device steps r f coming = absurd r
  syncs_next nodes (Some c) device steps r f coming = (c, refl, comes_next c device steps (Sync Metadata) f r.2 (coming c.image r.0))

  -- ---- flushes

  -- the commit that stands at a desk fits the device
  desk_fits : (g : Geometry) (images : Images) (desk : DeskState P) (commit : Option RunningCommit) (device : List History) → AtDesk g images desk commit device → AllFit commit device
  desk_fits g images desk None device k = tt
  desk_fits g images desk (Some d) device k = same_size g images d k.stands.of device k.stands.under

  opening_fits : (g : Geometry) (images : Images) (reading : Option (ReadSteps A)) (commit : Option RunningCommit) (device : List History) → AtOpening g images reading commit device → AllFit commit device
  opening_fits g images reading None device k = tt
  opening_fits g images None (Some d) device k = absurd k
  opening_fits g images (Some reading) (Some d) device k = same_size g images d k.of device k.under

  -- a generation is a number that a sector spells
  bound : (g : Geometry) (images : Images) (desk : DeskState P) (commit : Option RunningCommit) (device : List History) → AtDesk g images desk commit device → desk.space.committing ≡ false → desk.generation < 2 ^ 64
  bound g images desk (Some c) device k idle = absurd (let busy = k.stands.busy in cc)
  bound g images desk None device k idle = elim k.stands [
    | inl q ↦ let n = (q.stores.represents (Rattle.std.specs.Prelude.map newest device) (read-left device)).newest in
        let b = generation_fits n.sector q.stored.root n.valid.spelled in omega (arith, b, q.generation)
    | inr broken ↦ absurd (let busy = broken.busy in cc)
  ]

  -- the desk begins a commit or refuses it
  begins_or : (seen : Option (List Bool)) (g : Geometry) (images : Images) (desk : DeskState P) (commit : Option RunningCommit) (device : List History) (most : ℕ) → AtDesk g images desk commit device → (got : Got) × ((chosen : Chosen P A) × DoesBegin seen most desk got chosen)
  begins_or seen g images desk commit device most k = elim (cases_Bool desk.space.committing) [
    | inl busy ↦ (GotRefused Busy, (Plain, busy))
    | inr idle ↦ elim (cases_lt (desk.generation + 1) (2 ^ 64)) [
      | inl more ↦ (GotRefused Memory, (Plain, record { idle = idle; next = more }))
      | inr last ↦ (GotRefused GenerationEnd, (Plain, (idle, (let b = bound g images desk commit device k idle in omega (arith, b, last)))))
    ]
  ]

  -- where none runs and none was broken, a flush may be refused the lead
  lead_refused : (g : Geometry) (images : Images) (desk : DeskState P) (commit : Option RunningCommit) (device : List History) → AtDesk g images desk commit device → desk.broken ≡ false → desk.space.committing ≡ false → (refusal : Refusal) × IsLeadRefused desk refusal
  lead_refused g images desk commit device k whole idle = elim (cases_lt (desk.generation + 1) (2 ^ 64)) [
    | inl more ↦ (Memory, inr (whole, idle, record { idle = idle; next = more }))
    | inr last ↦ (GenerationEnd, inr (whole, idle, (idle, (let b = bound g images desk commit device k idle in omega (arith, b, last)))))
  ]

  -- one that arrives is told something
  arrives_or : (g : Geometry) (images : Images) (desk : DeskState P) (commit : Option RunningCommit) (device : List History) (most : ℕ) → AtDesk g images desk commit device → (got : Got) × ((chosen : Chosen P A) × DoesArrive most desk got chosen)
  arrives_or g images desk commit device most k = elim (cases_Bool desk.broken) [
    | inl broken ↦ (GotRefused Failed, (Plain, inl (refl, broken)))
    | inr whole ↦ elim (cases_Bool desk.space.committing) [
      | inl busy ↦ (Ticket, (Plain, (whole, busy)))
      | inr idle ↦ let r = lead_refused g images desk commit device k whole idle in (GotRefused r.0, (Plain, r.1))
    ]
  ]

  -- so is one that asks, where it has not to wait
  asks_or : (share : Share) (g : Geometry) (images : Images) (desk : DeskState P) (commit : Option RunningCommit) (device : List History) (most : ℕ) → AtDesk g images desk commit device → (¬ MustWait desk share) → (got : Got) × ((chosen : Chosen P A) × DoesAsk share most desk got chosen)
  asks_or share g images desk commit device most k goes_on = elim (is_covered desk share) [
    | inl covered ↦ (Served, (Plain, covered))
    | inr uncovered ↦ elim (cases_Bool desk.broken) [
      | inl broken ↦ (GotRefused Failed, (Plain, (uncovered, inl (refl, broken))))
      | inr whole ↦ elim (cases_Bool desk.space.committing) [
        | inl busy ↦ absurd (goes_on (record { whole = whole; runs = busy; uncovered = uncovered }))
        | inr idle ↦ let r = lead_refused g images desk commit device k whole idle in (GotRefused r.0, (Plain, (uncovered, r.1)))
      ]
    ]
  ]

-- blocks stand where a migration copies from, and where it copies to
source_holds : (migration : Migration) → HoldsBlocks (source_of migration)
source_holds (Promote c) = tt
source_holds migration = tt

target_holds : (migration : Migration) → HoldsBlocks (target_of migration)
target_holds (Promote c) = tt
target_holds migration = tt

-- an order can be given up, whether it lives or not
gives_up : {P : Type 0} (desk : DeskState P) (order : Order) → DeskInvariant unknowing desk → (new : DeskState P) × IsGivenUp (Some order) desk new
gives_up desk order kept = elim (is_live desk order) [
  | inl live ↦ (released desk live.cache, ((λ other. ap (released desk) (found_at unknowing desk order live.cache kept other (takes_there unknowing desk order kept live))), (λ none. absurd (none live))))
  | inr none ↦ (desk, ((λ live. absurd (none live)), (λ n. refl)))
]

-- so can that of a block, of some orders, if one of them is of it
releases : {P : Type 0} (desk : DeskState P) (orders : List Order) (block : OBlock) → DeskInvariant unknowing desk → (new : DeskState P) × DidRelease orders block desk new
releases desk orders block kept = by_order (order_of block orders)
  where
    by_order : (o : Option Order) → (new : DeskState _) × IsGivenUp o desk new
    by_order None = (desk, refl)
    by_order (Some order) = gives_up desk order kept

-- what an actor's step may give, and what was free where it fails
pub record CanGive {P A : Type 0} (shape : Shape) (w : State P A) (x : Actor) (job : Job) (next : Want) : Type 0 where
  pub got : Got
  pub read : List Bytes
  pub chosen : Chosen P A
  pub gives : Gives shape w x job next got read chosen

pub record CanFalter {P A : Type 0} (w : State P A) (choice : Choice) (next : Want) : Type 0 where
  pub chosen : Chosen P A
  pub falters : Falters w choice next chosen

module _ (P A : Type 0) (shape : Shape) (devices : Devices (List History)) (commit : Option RunningCommit) (actors : List Actor) (x : Actor) where
  -- ---- where a target stands

  module _ (t : Target P) where
    abbrev w : State P A
    w = record { devices = devices; commit = commit; phase = Stands t; actors = actors }

    cell_gives : (job : Job) (step : _) → CanGive shape w x job (Cell step)
    cell_gives job step = record { got = got_of (result_of t.words step); read = []; chosen = Plain; gives = ((refl, refl), refl) }

    -- a step on sectors of a device on which blocks stand
    module _ (kept : DeskInvariant unknowing t.desk) (sizes : (d : Dev) → HoldsBlocks d → length (device_in d devices) ≡ size_on shape d) where
      pub read_gives : (extent : Extent) (part : BlockRange) (next : Want) → IsOwnStep (OnBlock (Reading part)) next → StepInside shape next → CanGive shape w x (Read extent) next
      read_gives extent part (Cell step) i s = cell_gives (Read extent) step
      read_gives extent part (Device (ReadExtent d e)) i s = let r = contents_from (device_in d devices) e.count e.first (omega (arith, s, sizes d i)) in
          record { got = Done; read = r.0; chosen = Plain; gives = (i, refl, refl, r.1, r.2) }
      read_gives extent part (End answer) i s = record { got = Done; read = []; chosen = Plain; gives = ((refl, refl), refl) }
      read_gives extent part next i s = absurd i

      -- the desk takes a block out of the cache
      unmaps : (job : Job) (block : OBlock) → IsSound t.desk.tree → ((new : DeskState P) → DidUnmap (λ policy b. new.policy) block t.desk new → Gives shape w x job (Desk (Unmap block)) Done [] (Asks new)) → CanGive shape w x job (Desk (Unmap block))
      unmaps job block sound gives = let r = can_unmap t.desk block kept sound in record { got = Done; read = []; chosen = Asks r.0; gives = gives r.0 r.1 }

      -- what a write in this mode does
      pub write_gives : IsSound t.desk.tree → (mode : Mode) (extent : Extent) (content : Bytes) (part : BlockRange) (next : Want) → IsOwnStep (OnBlock (write_job mode part)) next → StepInside shape next → CanGive shape w x (Write extent content) next
      write_gives sound mode extent content part next i s = by_next next (write_own mode part next i) s
        where
          by_next : (next : Want) → WritesOwn next → StepInside shape next → CanGive shape w x (Write extent content) next
          by_next (Cell step) i s = cell_gives (Write extent content) step
          by_next (Device (WriteExtent d e)) i s = record { got = Done; read = []; chosen = Plain; gives = (i, (refl, refl), refl, omega (arith, s, sizes d i)) }
          by_next (Desk (Unmap block)) i s = unmaps (Write extent content) block sound (λ new did. (refl, refl, did))
          by_next (End answer) i s = record { got = Done; read = []; chosen = Plain; gives = ((refl, refl), refl) }
          by_next next i s = absurd i

      pub invalidation_gives : IsSound t.desk.tree → (block : OBlock) (part : BlockRange) (next : Want) → IsOwnStep (OnBlock (Invalidating part)) next → CanGive shape w x (Invalidate block) next
      invalidation_gives sound block part (Cell step) i = cell_gives (Invalidate block) step
      invalidation_gives sound block part (Desk (Unmap b)) i = unmaps (Invalidate block) b sound (λ new did. (refl, refl, did))
      invalidation_gives sound block part (End answer) i = record { got = Done; read = []; chosen = Plain; gives = ((refl, refl), refl) }
      invalidation_gives sound block part next i = absurd i

      -- a migration's step; where a promotion asks for its entry there may be no memory for that
      pub migration_gives : IsSound t.desk.tree → (migration : Migration) (block : OBlock) (part : BlockRange) (next : Want) → IsOwnStep (OnBlock (Migrating migration part)) next → StepInside shape next → CanGive shape w x (Migrate migration block) next
      migration_gives sound migration block part (Cell step) i s = cell_gives (Migrate migration block) step
      migration_gives sound migration block part (Device (ReadExtent d e)) i s = let h = subst HoldsBlocks (sym i) (source_holds migration) in record { got = Done; read = []; chosen = Plain; gives = (h, (refl, refl), refl, omega (arith, s, sizes d h)) }
      migration_gives sound migration block part (Device (WriteExtent d e)) i s = let h = subst HoldsBlocks (sym i) (target_holds migration) in record { got = Done; read = []; chosen = Plain; gives = (h, (refl, refl), refl, omega (arith, s, sizes d h)) }
      migration_gives sound migration block part (Desk (Map b place)) i s = record { got = GotRefused Memory; read = []; chosen = Plain; gives = (refl, refl) }
      migration_gives sound migration block part (Desk (Unmap b)) i s = unmaps (Migrate migration block) b sound (λ new did. (refl, refl, did))
      migration_gives sound migration block part (Desk (ReleaseOrder b)) i s = let r = releases t.desk x.orders b kept in record { got = Done; read = []; chosen = Asks r.0; gives = (refl, refl, r.1) }
      migration_gives sound migration block part (End answer) i s = record { got = Done; read = []; chosen = Plain; gives = ((refl, refl), refl) }
      migration_gives sound migration block part next i s = absurd i

    -- where a step of a job of a block fails
    pub block_falters : (job : BlockJob) (choice : Choice) (next : Want) → IsOwnStep (OnBlock job) next → Rattle.wb_promise.specs.Happenings.MayFailAt devices choice next → CanFalter w choice next
    block_falters (Reading part) choice (Device (ReadExtent d e)) i m = record { chosen = Plain; falters = (refl, i) }
    block_falters (Writing part) choice (Device (WriteExtent d e)) i m = record { chosen = Plain; falters = (refl, i) }
    block_falters (Displacing part) choice (Device (WriteExtent d e)) i m = record { chosen = Plain; falters = (refl, subst HoldsBlocks (sym i) tt) }
    block_falters (Migrating migration part) choice (Device (ReadExtent d e)) i m = record { chosen = Plain; falters = (refl, subst HoldsBlocks (sym i) (source_holds migration)) }
    block_falters (Migrating migration part) choice (Device (WriteExtent d e)) i m = record { chosen = Plain; falters = (refl, subst HoldsBlocks (sym i) (target_holds migration)) }
    block_falters job choice (Cell step) i m = absurd m
    block_falters job choice (Desk step) i m = absurd m
    block_falters job choice (End answer) i m = absurd m
    block_falters job choice next i m = absurd i

    module _ (images : Images) (known : AtDesk shape.geometry images t.desk commit devices.metadata) (answer : Answer) where
      abbrev F : CommitJob → FlushPoint → Plan
      F job point = plan_of (task_of job) (commit_left job point) answer

      fits : AllFit commit devices.metadata
      fits = desk_fits P A shape.geometry images t.desk commit devices.metadata known

      -- what a commit asks of a device, it can be given
      sync_can : (job : CommitJob) → Rattle.wb_promise.specs.Happenings.DoesSync {P = P} {A = A} (Stands t) commit devices.metadata Plain → CanGive shape w x (doing_of job) (Device (Sync Metadata))
      sync_can (Flushes serves most) d = record { got = Done; read = []; chosen = Plain; gives = (refl, refl, d) }
      sync_can (Suspends looks most) d = record { got = Done; read = []; chosen = Plain; gives = (refl, refl, d) }

      data_can : (job : CommitJob) → CanGive shape w x (doing_of job) (Device (Sync Cache)) × CanGive shape w x (doing_of job) (Device (Sync Origin))
      data_can (Flushes serves most) = (record { got = Done; read = []; chosen = Plain; gives = ((refl, refl), refl) }, record { got = Done; read = []; chosen = Plain; gives = ((refl, refl), refl) })
      data_can (Suspends looks most) = (record { got = Done; read = []; chosen = Plain; gives = ((refl, refl), refl) }, record { got = Done; read = []; chosen = Plain; gives = ((refl, refl), refl) })

      node_can : (job : CommitJob) (number : ℕ) (chosen : Chosen P A) → Rattle.wb_promise.specs.Happenings.DoesPut commit (WriteNode number) devices.metadata chosen → CanGive shape w x (doing_of job) (Device (WriteNode number))
      node_can (Flushes serves most) number chosen d = record { got = Done; read = []; chosen = chosen; gives = (refl, refl, d) }
      node_can (Suspends looks most) number chosen d = record { got = Done; read = []; chosen = chosen; gives = (refl, refl, d) }

      root_can : (job : CommitJob) (chosen : Chosen P A) → Rattle.wb_promise.specs.Happenings.DoesPut commit WriteRoot devices.metadata chosen → CanGive shape w x (doing_of job) (Device WriteRoot)
      root_can (Flushes serves most) chosen d = record { got = Done; read = []; chosen = chosen; gives = (refl, refl, d) }
      root_can (Suspends looks most) chosen d = record { got = Done; read = []; chosen = chosen; gives = (refl, refl, d) }

      begin_can : (job : CommitJob) → CanGive shape w x (doing_of job) (begin_of job)
      begin_can (Flushes serves most) = let b = arrives_or P A shape.geometry images t.desk commit devices.metadata most known in record { got = b.0; read = []; chosen = b.1.0; gives = (refl, b.1.1) }
      begin_can (Suspends looks most) = let b = begins_or P A (Some x.seen) shape.geometry images t.desk commit devices.metadata most known in record { got = b.0; read = []; chosen = b.1.0; gives = (refl, b.1.1) }

      ask_can : (job : CommitJob) → IsOf ToAsk job → (¬ Awaits t.desk x.share (want (F job ToAsk))) → CanGive shape w x (doing_of job) (want (F job ToAsk))
      ask_can (Flushes serves most) of goes_on = let b = asks_or P A x.share shape.geometry images t.desk commit devices.metadata most known goes_on in record { got = b.0; read = []; chosen = b.1.0; gives = (refl, b.1.1) }
      ask_can (Suspends looks most) of goes_on = absurd of

      break_can : (job : CommitJob) → CanGive shape w x (doing_of job) (Desk BreakCommit)
      break_can (Flushes serves most) = record { got = Done; read = []; chosen = Plain; gives = ((refl, refl), refl, tt) }
      break_can (Suspends looks most) = record { got = Done; read = []; chosen = Plain; gives = ((refl, refl), refl, tt) }

      end_can : (job : CommitJob) → Rattle.wb_stage.specs.Stages.is_all_done commit ≡ true → CanGive shape w x (doing_of job) (Desk EndCommit)
      end_can (Flushes serves most) d = record { got = Done; read = []; chosen = Plain; gives = ((refl, refl), refl, d) }
      end_can (Suspends looks most) d = record { got = Done; read = []; chosen = Plain; gives = ((refl, refl), refl, d) }

      answer_can : (job : CommitJob) → CanGive shape w x (doing_of job) (End answer)
      answer_can (Flushes serves most) = record { got = Done; read = []; chosen = Plain; gives = ((refl, refl), refl) }
      answer_can (Suspends looks most) = record { got = Done; read = []; chosen = Plain; gives = ((refl, refl), refl) }

      sync_gives : (job : CommitJob) (nodes : ℕ) (steps : CommitSteps) → Runs nodes steps commit → ((image : Image) → length image.nodes.items ≡ nodes → is_coming image steps (Sync Metadata) ≡ true) → CanGive shape w x (doing_of job) (Device (Sync Metadata))
      sync_gives job nodes steps r coming = let s = syncs_next P A nodes commit devices.metadata steps r fits coming in
          sync_can job (subst (λ (c : Option RunningCommit). Rattle.wb_promise.specs.Happenings.DoesSync {P = P} {A = A} (Stands t) c devices.metadata Plain) (sym s.1) (s.2, refl))

      sync_falters : (choice : Choice) (nodes : ℕ) (steps : CommitSteps) → Runs nodes steps commit → ((image : Image) → length image.nodes.items ≡ nodes → is_coming image steps (Sync Metadata) ≡ true) → CanFalter w choice (Device (Sync Metadata))
      sync_falters choice nodes steps r coming = let s = syncs_next P A nodes commit devices.metadata steps r fits coming in
          record { chosen = Plain; falters = (refl, subst (λ (c : Option RunningCommit). Rattle.wb_promise.specs.Happenings.FailsSync {P = P} {A = A} (Stands t) c devices.metadata) (sym s.1) (s.2, tt)) }

      pub flush_gives : (job : CommitJob) (point : FlushPoint) → IsOf point job → AtFlush point commit → (¬ Awaits t.desk x.share (want (F job point))) → CanGive shape w x (doing_of job) (want (F job point))
      flush_gives job (ToBegin []) of at goes_on = begin_can job
      flush_gives job (ToSyncCache nodes) of at goes_on = (data_can job).0
      flush_gives job (ToSyncOrigin nodes) of at goes_on = (data_can job).1
      flush_gives job (ToWriteNodes zero from) of at goes_on = sync_gives job (from + 0) (NodesWritten from) at (λ i e. none_coming from i (let all : from + 0 ≡ from = omega arith in e ∙ all))
      flush_gives job (ToWriteNodes (suc left) from) of at goes_on = let p = puts_node P A left from commit devices.metadata at fits in node_can job from p.0 p.1
      flush_gives job (ToWriteRoot nodes) of at goes_on = let p = puts_root P A nodes commit devices.metadata at fits in root_can job p.0 p.1
      flush_gives job (ToSyncRoot nodes) of at goes_on = sync_gives job nodes RootWritten at (λ i e. refl)
      flush_gives job (ToEnd nodes) of at goes_on = end_can job (done commit at)
        where
          done : (commit : Option RunningCommit) → Runs nodes Committed commit → Rattle.wb_stage.specs.Stages.is_all_done commit ≡ true
          done None r = absurd r
          done (Some c) r = ap (λ (s : CommitSteps). Rattle.wb_devices.specs.Committing.is_committed s) r.2
      flush_gives job ToAsk of at goes_on = ask_can job of goes_on
      flush_gives job ToBreak of at goes_on = break_can job
      flush_gives job (ToRelease []) of at goes_on = answer_can job
      flush_gives (Flushes serves most) (ToRelease (block ∷ blocks)) of at goes_on = let r = releases t.desk x.awaiting block known.is.kept in record { got = Done; read = []; chosen = Asks r.0; gives = (refl, refl, r.1) }
      flush_gives (Suspends looks most) (ToRelease (block ∷ blocks)) of at goes_on = absurd of
      flush_gives job point of at goes_on = cell_gives (doing_of job) _

      pub flush_falters : (job : CommitJob) (choice : Choice) (point : FlushPoint) → AtFlush point commit → Rattle.wb_promise.specs.Happenings.MayFailAt devices choice (want (F job point)) → CanFalter w choice (want (F job point))
      flush_falters job choice ToLook at m = absurd m
      flush_falters (Flushes serves most) choice (ToBegin []) at m = absurd m
      flush_falters (Suspends looks most) choice (ToBegin []) at m = absurd m
      flush_falters job choice (ToBegin (block ∷ rest)) at m = absurd m
      flush_falters job choice (ToSyncCache nodes) at m = record { chosen = Plain; falters = refl }
      flush_falters job choice (ToSyncOrigin nodes) at m = record { chosen = Plain; falters = refl }
      flush_falters job choice (ToWriteNodes zero from) at m = sync_falters choice (from + 0) (NodesWritten from) at (λ i e. none_coming from i (let all : from + 0 ≡ from = omega arith in e ∙ all))
      flush_falters job choice (ToWriteNodes (suc left) from) at m = let p = fails_node P A left from commit choice devices.metadata at fits in record { chosen = p.0; falters = p.1 }
      flush_falters job choice (ToWriteRoot nodes) at m = let p = fails_root P A nodes commit choice devices.metadata at fits in record { chosen = p.0; falters = p.1 }
      flush_falters job choice (ToSyncRoot nodes) at m = sync_falters choice nodes RootWritten at (λ i e. refl)
      flush_falters job choice (ToEnd nodes) at m = absurd m
      flush_falters job choice ToSetSuspended at m = absurd m
      flush_falters job choice ToSetFailed at m = absurd m
      flush_falters job choice ToBreak at m = absurd m
      flush_falters (Flushes serves most) choice ToAsk at m = absurd m
      flush_falters (Suspends looks most) choice ToAsk at m = absurd m
      flush_falters job choice (ToRelease []) at m = absurd m
      flush_falters job choice (ToRelease (block ∷ blocks)) at m = absurd m

  -- ---- an opening

  module _ (mode m' : Mode) (second : Bool) (reading : Option (ReadSteps A)) (images : Images) (known : AtOpening shape.geometry images reading commit devices.metadata) (n : ℕ) (policy : P) (first : ReadSteps A) (begins : sectors_read first ≡ 0) where
    abbrev v : State P A
    v = record { devices = devices; commit = commit; phase = Opens mode reading; actors = actors }

    abbrev O : OpenPoint → Plan
    O point = plan_of (Opening n) (open_left n point) (open_answer point)

    opens_fit : AllFit commit devices.metadata
    opens_fit = opening_fits P A shape.geometry images reading commit devices.metadata known

    reads_on : (left : ℕ) (r : Option (ReadSteps A)) (c : Option RunningCommit) → c ≡ None → AtOpening shape.geometry images r c devices.metadata → OfSome r (λ was. sectors_read was ≡ 0 → 1 ≤ left) →
        CanGive {P = P} {A = A} shape (record { devices = devices; commit = c; phase = Opens mode r; actors = actors }) x (Open m' second) (Device (ReadMetadata left))
    reads_on left (Some was) None e k o = let some : 1 ≤ length devices.metadata = omega (arith, k.found.read.size, shape.geometry.within.meta_from) in
        let r = can_read P A mode shape.geometry second devices.metadata images left was k o some in record { got = r.got; read = []; chosen = r.chosen; gives = (refl, refl, r.does) }
    reads_on left None c e k o = absurd o
    reads_on left r (Some c) e k o = absurd (cc)

    answers : (r : Option (ReadSteps A)) (c : Option RunningCommit) → AtOpening shape.geometry images r c devices.metadata → (nodes : ℕ) → Runs nodes Committed c →
        OfReading {P = P} {A = A} (Opens mode r) (λ mode reading. IsDone reading) × (Rattle.wb_stage.specs.Stages.is_all_done c ≡ true)
    answers r None k nodes at = absurd at
    answers None (Some c) k nodes at = absurd k
    answers (Some reading) (Some c) k nodes at = (subst (λ (x : ReadSteps A). IsDone x) (sym k.all) tt, ap (λ (s : CommitSteps). Rattle.wb_devices.specs.Committing.is_committed s) at.2)

    pub open_gives : (point : OpenPoint) → AtOpen n point reading commit → CanGive shape v x (Open m' second) (want (O point))
    open_gives AtFirst at = record { got = Done; read = []; chosen = Begins first; gives = (refl, refl, subst (λ (c : Option RunningCommit). Rattle.wb_promise.specs.Happenings.DoesSync {P = P} {A = A} (Opens mode reading) c devices.metadata (Begins first)) (sym at.0) begins) }
    open_gives (AtRead left) at = reads_on left reading commit at.0 known at.1
    open_gives (AtNodes zero from) at = let all : from + 0 ≡ from = omega arith in let s = syncs_next P A (from + 0) commit devices.metadata (NodesWritten from) at opens_fit (λ i e. none_coming from i (e ∙ all)) in
        record { got = Done; read = []; chosen = Plain; gives = (refl, refl, subst (λ (c : Option RunningCommit). Rattle.wb_promise.specs.Happenings.DoesSync {P = P} {A = A} (Opens mode reading) c devices.metadata Plain) (sym s.1) (s.2, refl)) }
    open_gives (AtNodes (suc left) from) at = let p = puts_node P A left from commit devices.metadata at opens_fit in record { got = Done; read = []; chosen = p.0; gives = (refl, refl, p.1) }
    open_gives AtRoot at = let p = puts_root P A at.0 commit devices.metadata at.1 opens_fit in record { got = Done; read = []; chosen = p.0; gives = (refl, refl, p.1) }
    open_gives AtRootSync at = let s = syncs_next P A at.0 commit devices.metadata RootWritten at.1 opens_fit (λ i e. refl) in
        record { got = Done; read = []; chosen = Plain; gives = (refl, refl, subst (λ (c : Option RunningCommit). Rattle.wb_promise.specs.Happenings.DoesSync {P = P} {A = A} (Opens mode reading) c devices.metadata Plain) (sym s.1) (s.2, refl)) }
    open_gives AtEnd at = record { got = Done; read = []; chosen = Opened policy; gives = (refl, refl, answers reading commit known at.0 at.1) }
    open_gives point at = record { got = Done; read = []; chosen = Plain; gives = ((refl, refl), refl) }

    pub open_falters : (choice : Choice) (point : OpenPoint) → AtOpen n point reading commit → Rattle.wb_promise.specs.Happenings.MayFailAt devices choice (want (O point)) → CanFalter v choice (want (O point))
    open_falters choice AtFirst at m = record { chosen = Plain; falters = (refl, subst (λ (c : Option RunningCommit). Rattle.wb_promise.specs.Happenings.FailsSync {P = P} {A = A} (Opens mode reading) c devices.metadata) (sym at.0) tt) }
    open_falters choice (AtRead left) at m = record { chosen = Plain; falters = (refl, at.0) }
    open_falters choice (AtNodes zero from) at m = let all : from + 0 ≡ from = omega arith in let s = syncs_next P A (from + 0) commit devices.metadata (NodesWritten from) at opens_fit (λ i e. none_coming from i (e ∙ all)) in
        record { chosen = Plain; falters = (refl, subst (λ (c : Option RunningCommit). Rattle.wb_promise.specs.Happenings.FailsSync {P = P} {A = A} (Opens mode reading) c devices.metadata) (sym s.1) (s.2, tt)) }
    open_falters choice (AtNodes (suc left) from) at m = let p = fails_node P A left from commit choice devices.metadata at opens_fit in record { chosen = p.0; falters = p.1 }
    open_falters choice AtRoot at m = let p = fails_root P A at.0 commit choice devices.metadata at.1 opens_fit in record { chosen = p.0; falters = p.1 }
    open_falters choice AtRootSync at m = let s = syncs_next P A at.0 commit devices.metadata RootWritten at.1 opens_fit (λ i e. refl) in
        record { chosen = Plain; falters = (refl, subst (λ (c : Option RunningCommit). Rattle.wb_promise.specs.Happenings.FailsSync {P = P} {A = A} (Opens mode reading) c devices.metadata) (sym s.1) (s.2, tt)) }
    open_falters choice AtEnd at m = absurd m
    open_falters choice (AtRefusal refusal) at m = absurd m
    open_falters choice point at m = record { chosen = Plain; falters = refl }
