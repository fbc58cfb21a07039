-- Where an opening stands after a step.
use Rattle.std.specs.Prelude.{IfSome}
use Rattle.std.proofs.Common.{◌≡◌, ◌≤◌, ◌<◌, ◌⊎◌, ◌+◌, ◌-◌, ◌*◌, ◌&&◌, inl, inr, ℕ, zero, suc, Bool, true, false, List, Option, Some, None, refl, sym, ap, subst, ◌∙◌, arith, length, slice_get, is_none, is_some}
use Rattle.std.proofs.lemmas.Bool.{eq-eqb}
use Rattle.std.proofs.lemmas.List.{length-map}
use Rattle.std.proofs.lemmas.Option.{slice_get_past}
use Rattle.std.specs.declared.alloc.Global.{Global}
use Rattle.wb_types.specs.Limits.{node_count}
use Rattle.wb_types.specs.declared.geometry.Geometry.{Geometry}
use Rattle.wb_types.specs.declared.number.Place.{Place}
use Rattle.wb_types.specs.declared.mode.Mode.{Mode}
use Rattle.wb_types.specs.declared.mode.Dev.{Dev}
use Rattle.wb_types.specs.declared.mode.Dev.TheVariants.{Metadata, Cache, Origin}
use Rattle.wb_types.specs.declared.refusal.Refusal.{Refusal}
use Rattle.wb_types.specs.declared.refusal.Refusal.TheVariants.{Io, Memory, NotClean}
use Rattle.wb_policy.specs.declared.quiet.Quiet.{Quiet}
use Rattle.wb_disk.specs.Device.{Content as Bytes, History}
use Rattle.wb_disk.specs.Crash.{Choice}
use Rattle.wb_disk.specs.Failing.{lands}
use Rattle.wb_disk.proofs.FailedSyncs.{length-synced_from}
use Rattle.wb_devices.specs.declared.devices.Devices.{Devices}
use Rattle.wb_meta.specs.Reads.{AreStepsOn, FitsDevice, HasRead, IsDone, ReadingGoesOn, ReadOneMore, StopsBy, known_root, sectors_read}
use Rattle.wb_meta.specs.States.{CountsFault, HasFittingRoot, IsOfReading}
use Rattle.wb_format.specs.declared.root.Root.{Root}
use Rattle.wb_format.specs.declared.node.Node.{Node}
use Rattle.wb_tree.specs.declared.image.Image.{Image}
use Rattle.wb_meta.specs.Openings.{reopened}
use Rattle.wb_meta.specs.Sizes.{AreSameSizes}
use Rattle.wb_meta.specs.Steps.{DoesStep, NodeOrSync, after_node, coming_step, slot_of, steps_after}
use Rattle.wb_meta.specs.declared.commit_steps.CommitSteps.{CommitSteps}
use Rattle.wb_meta.specs.declared.commit_steps.CommitSteps.TheVariants.{NodesWritten, NodesSynced, RootWritten, Done as Committed}
use Rattle.wb_meta.specs.declared.read_steps.ReadSteps.{ReadSteps}
use Rattle.wb_meta.specs.declared.read_steps.ReadSteps.TheVariants.{Begun, FirstSlotRead, RootFound, Done as AllRead}
use Rattle.wb_meta.proofs.Counting.{read-sectors}
use Rattle.wb_meta.proofs.Histories.{length-written}
use Rattle.wb_tasks.specs.Plan.{want, after}
use Rattle.wb_tasks.specs.declared.step.DeviceStep.{DeviceStep}
use Rattle.wb_tasks.specs.declared.step.DeviceStep.TheVariants.{Sync, ReadMetadata, WriteNode, WriteRoot}
use Rattle.wb_tasks.specs.declared.step.Want.{Want}
use Rattle.wb_tasks.specs.declared.step.Want.TheVariants.{Device}
use Rattle.wb_tasks.specs.declared.step.Got.{Got}
use Rattle.wb_tasks.specs.declared.step.Got.TheVariants.{Began, Done, Fault, Refused, More}
use Rattle.wb_devices.specs.Clean.{DidTell, HasComeIn}
use Rattle.wb_runs.specs.Laws.{FindsSizes}
use Rattle.wb_devices.specs.Committing.{is_coming}
use Rattle.wb_devices.specs.Converting.{Converts}
use Rattle.wb_devices.specs.Opened.{HasCome, HasNextRoot, HasGeneration as DevicesGeneration, IsShort, got_of_refusal}
use Rattle.wb_machine.specs.declared.asked.Asked.{Asked}
use Rattle.wb_machine.specs.declared.making.Made.{Made}
use Rattle.wb_machine.specs.declared.opener.Opener.{Opener}
use Rattle.wb_machine.specs.Making.{HasMade, MadeBy, ends_reading, reading_by, reading_of}
use Rattle.wb_devices.specs.declared.running.RunningCommit.{RunningCommit}
use Rattle.wb_promise.specs.Effects.{led}
use Rattle.wb_promise.specs.Happenings.{AreWhole, IsGeometryAsked, Reaches, DoesRead, HasGeneration, LandedOr, MayFailAt, sector_put}
use Rattle.wb_machine.specs.Life.{FailsOn, MayBePut, commit_synced, device_step_of, made_synced, reading_synced}
use Rattle.wb_machine.specs.Serving.{FindsItsRoot, IsPut}
use Rattle.wb_tasks.specs.Points.{OpenPoint, AtFirst, AtCache, AtOrigin, AtRead, AtNodes, AtRoot, AtRootSync, AtEnd, AtRefusal}
use Rattle.wb_machine.specs.Standing.{plan_from, HasComeTo, HasCommitted, HasMadeThere, HasNodesLeft, HasReadAll, IsReading, ReadsOn, StandsAt}
use Rattle.wb_contents.proofs.Lists.{there_is}

-- ---- at a sync

-- nothing runs while there is more to read
reading_alone : (g : Geometry) (left : ℕ) (reading : Option (ReadSteps Global)) (commit : Option RunningCommit) → IsReading g left reading commit → commit ≡ None
reading_alone g left None commit at = absurd at
reading_alone g left (Some was) commit at = at.0

-- a commit of what was read goes on by this step
pub record CommitGoesOn (g : Geometry) (step : DeviceStep) (reading : Option (ReadSteps Global)) (commit : Option RunningCommit) : Type 0 where
  pub all : HasReadAll g reading commit
  pub coming : is_coming all.next.image all.next.steps step ≡ true

-- Before all was read no commit runs, and nothing is written; then its steps are those of the commit.
abbrev pub Finds : Geometry → DeviceStep → Option (ReadSteps Global) → Option RunningCommit → Type 0
Finds g step reading commit = ((commit ≡ None) × (IsPut step → ⊥)) ⊎ CommitGoesOn g step reading commit

sync_puts : (device : Dev) (step : DeviceStep) → Sync device ≡ step → IsPut step → ⊥
sync_puts device (WriteNode number) e put = cc
sync_puts device WriteRoot e put = cc
sync_puts device step e put = put

read_puts : (left : ℕ) (step : DeviceStep) → ReadMetadata left ≡ step → IsPut step → ⊥
read_puts left (WriteNode number) e put = cc
read_puts left WriteRoot e put = cc
read_puts left step e put = put

-- the commit has come so far that this step comes next
comes_on : (g : Geometry) (steps : CommitSteps) (step other : DeviceStep) (reading : Option (ReadSteps Global)) (commit : Option RunningCommit) (all : HasReadAll g reading commit) → all.next.steps ≡ steps → is_coming all.next.image steps step ≡ true → step ≡ other → CommitGoesOn g other reading commit
comes_on g steps step other reading commit all e coming same = record {
  all = all;
  coming = subst (λ (s : CommitSteps). is_coming all.next.image s other ≡ true) (sym e) (subst (λ (x : DeviceStep). is_coming all.next.image steps x ≡ true) same coming);
}

one_more_node : (image : Image) (from left : ℕ) → length image.nodes.items ≡ from + suc left → is_coming image (NodesWritten from) (WriteNode from) ≡ true
one_more_node image from left many =
    let there = there_is image.nodes.items from (omega (arith, many)) in
    ap (λ (b : Bool). b && is_some (slice_get image.nodes.items from)) (eq-eqb from from refl) ∙ ap is_some there.1

no_more_nodes : (image : Image) (from : ℕ) → length image.nodes.items ≡ from + 0 → is_coming image (NodesWritten from) (Sync Metadata) ≡ true
no_more_nodes image from many = ap is_none (slice_get_past image.nodes.items from (omega (arith, many)))

finds_at : (g : Geometry) (point : OpenPoint) (step : DeviceStep) → device_step_of (want (plan_from g.meta_sectors point)) ≡ Some step → (reading : Option (ReadSteps Global)) (commit : Option RunningCommit) → HasComeTo g point reading commit → Finds g step reading commit
finds_at g AtFirst step e reading commit come = let same : Sync Metadata ≡ step = cc in inl (come, sync_puts Metadata step same)
finds_at g AtCache step e reading commit come = let same : Sync Cache ≡ step = cc in inl (reading_alone g g.meta_sectors reading commit come, sync_puts Cache step same)
finds_at g AtOrigin step e reading commit come = let same : Sync Origin ≡ step = cc in inl (reading_alone g g.meta_sectors reading commit come, sync_puts Origin step same)
finds_at g (AtRead left) step e reading commit come = let same : ReadMetadata left ≡ step = cc in inl (reading_alone g left reading commit come, read_puts left step same)
finds_at g (AtNodes zero from) step e reading commit come = let same : Sync Metadata ≡ step = cc in
    inr (comes_on g (NodesWritten from) (Sync Metadata) step reading commit come.0 come.1 (no_more_nodes come.0.next.image from come.2) same)
finds_at g (AtNodes (suc left) from) step e reading commit come = let same : WriteNode from ≡ step = cc in
    inr (comes_on g (NodesWritten from) (WriteNode from) step reading commit come.0 come.1 (one_more_node come.0.next.image from left come.2) same)
finds_at g AtRoot step e reading commit come = let same : WriteRoot ≡ step = cc in inr (comes_on g NodesSynced WriteRoot step reading commit come.0 come.1 refl same)
finds_at g AtRootSync step e reading commit come = let same : Sync Metadata ≡ step = cc in inr (comes_on g RootWritten (Sync Metadata) step reading commit come.0 come.1 refl same)
finds_at g AtEnd step e reading commit come = absurd (cc)
finds_at g (AtRefusal refusal) step e reading commit come = absurd (cc)

-- what a step on a device finds
pub finds : (g : Geometry) (n : ℕ) (o : Opener) (step : DeviceStep) → StandsAt g n o → device_step_of (want o.task) ≡ Some step → Finds g step (reading_of o) o.opening.commit
finds g n o step at e = finds_at g at.point step (ap (λ p. device_step_of (want p)) (sym at.plan_is) ∙ e) (reading_of o) o.opening.commit at.come

-- at its next point, after what came of a step, an opening of this actor has come so far
record Goes (g : Geometry) (n : ℕ) (a : Asked) (point : OpenPoint) (got : Got) (reading : Option (ReadSteps Global)) (commit : Option RunningCommit) (made : Option Made) : Type 0 where
  pub next : OpenPoint
  pub plan : after (plan_from g.meta_sectors point) got ≡ plan_from g.meta_sectors next
  pub come : HasComeTo g next reading commit
  pub made_is : HasMadeThere n next a made

goes_on : (g : Geometry) (n : ℕ) (o new : Opener) (got : Got) (at : StandsAt g n o) → new.asked ≡ o.asked → new.task ≡ after o.task got → new.opening.geometry ≡ o.opening.geometry
    → Goes g n o.asked at.point got (reading_of new) new.opening.commit new.made → StandsAt g n new
goes_on g n o new got at same p q goes = record {
  point = goes.next;
  plan_is = p ∙ ap (λ x. after x got) at.plan_is ∙ goes.plan;
  asks = subst (λ (a : Asked). IsGeometryAsked g a.second new.opening.geometry) (sym same) (subst (λ (f : Geometry). IsGeometryAsked g o.asked.second f) (sym q) at.asks);
  come = goes.come;
  made = subst (λ a. HasMadeThere n goes.next a new.made) (sym same) goes.made_is;
}

-- the commit goes on
abbrev gone_on : RunningCommit → RunningCommit
gone_on running = record running { steps = steps_after running.image running.steps }

-- and all was read as before
abbrev all_gone_on : (g : Geometry) (reading : Option (ReadSteps Global)) (commit : Option RunningCommit) (all : HasReadAll g reading commit) → HasReadAll g reading (Some (gone_on all.next))
all_gone_on g reading commit all = record { state = all.state; reading_is = all.reading_is; fits = all.fits; sizes = all.sizes; next = gone_on all.next; commit_is = refl; root_is = all.root_is }

last_node : (image : Image) (from : ℕ) → length image.nodes.items ≡ from + 0 → steps_after image (NodesWritten from) ≡ NodesSynced
last_node image from many = ap (λ (o : Option (Place × Node)). after_node o from) (slice_get_past image.nodes.items from (omega (arith, many)))

next_node : (image : Image) (from left : ℕ) → length image.nodes.items ≡ from + suc left → steps_after image (NodesWritten from) ≡ NodesWritten (from + 1)
next_node image from left many = let there = there_is image.nodes.items from (omega (arith, many)) in ap (λ (o : Option (Place × Node)). after_node o from) there.1

has_gone_on : (g : Geometry) (steps later : CommitSteps) (reading : Option (ReadSteps Global)) (commit : Option RunningCommit) (all : HasReadAll g reading commit) → all.next.steps ≡ steps → steps_after all.next.image steps ≡ later → HasCommitted g later reading (Some (gone_on all.next))
has_gone_on g steps later reading commit all e f = (all_gone_on g reading commit all, ap (λ (s : CommitSteps). steps_after all.next.image s) e ∙ f)

has_one_less : (g : Geometry) (left from : ℕ) (reading : Option (ReadSteps Global)) (commit : Option RunningCommit) (all : HasReadAll g reading commit) → all.next.steps ≡ NodesWritten from → length all.next.image.nodes.items ≡ from + suc left → HasNodesLeft g left (from + 1) reading (Some (gone_on all.next))
has_one_less g left from reading commit all e many =
    (all_gone_on g reading commit all, ap (λ (s : CommitSteps). steps_after all.next.image s) e ∙ next_node all.next.image from left many, omega (arith, many))

synced_from : (g : Geometry) (n : ℕ) (a : Asked) (point : OpenPoint) (device : Dev) → want (plan_from g.meta_sectors point) ≡ Device (Sync device) → (alloc : Global) (reading : Option (ReadSteps Global)) (commit : Option RunningCommit) (made : Option Made)
    → HasComeTo g point reading commit → HasMadeThere n point a made → Goes g n a point Done (reading_synced alloc device commit reading) (commit_synced device commit) (made_synced device commit made)
synced_from g n a AtFirst Metadata e alloc reading commit made come is = rw come (record { next = AtCache; plan = refl; come = (refl, (λ d. d), tt, omega arith); made_is = refl })
synced_from g n a AtCache Cache e alloc reading commit made come is = record { next = AtOrigin; plan = refl; come = come; made_is = is }
synced_from g n a AtOrigin Origin e alloc reading commit made come is = record { next = AtRead g.meta_sectors; plan = refl; come = come; made_is = is }
synced_from g n a (AtNodes zero from) Metadata e alloc reading commit made come is = rw come.0.commit_is (record {
  next = AtRoot;
  plan = refl;
  come = has_gone_on g (NodesWritten from) NodesSynced reading commit come.0 come.1 (last_node come.0.next.image from come.2);
  made_is = is;
})
synced_from g n a AtRootSync Metadata e alloc reading commit made come is = rw come.0.commit_is (record {
  next = AtEnd;
  plan = refl;
  come = has_gone_on g RootWritten Committed reading commit come.0 come.1 refl;
  made_is = is;
})
synced_from g n a (AtNodes (suc left) from) device e alloc reading commit made come is = absurd (cc)
synced_from g n a point device e alloc reading commit made come is = absurd (cc)

pub synced_stands : (g : Geometry) (n : ℕ) (o new : Opener) (alloc : Global) (device : Dev) → StandsAt g n o → want o.task ≡ Device (Sync device) → new.asked ≡ o.asked → new.task ≡ after o.task Done → new.opening.geometry ≡ o.opening.geometry
    → new.opening.commit ≡ commit_synced device o.opening.commit → reading_of new ≡ reading_synced alloc device o.opening.commit (reading_of o) → new.made ≡ made_synced device o.opening.commit o.made → StandsAt g n new
synced_stands g n o new alloc device at next same p q c r m =
    goes_on g n o new Done at same p q (rw (c, r, m) (synced_from g n o.asked at.point device (ap want (sym at.plan_is) ∙ next) alloc (reading_of o) o.opening.commit o.made at.come at.made))

-- ---- after a fault

failed_from : (g : Geometry) (n : ℕ) (a : Asked) (point : OpenPoint) (step : DeviceStep) → device_step_of (want (plan_from g.meta_sectors point)) ≡ Some step → (reading : Option (ReadSteps Global)) (commit : Option RunningCommit) (made : Option Made) → Goes g n a point Fault reading commit made
failed_from g n a AtCache step e reading commit made = record { next = AtRefusal (Io Cache); plan = refl; come = tt; made_is = tt }
failed_from g n a AtOrigin step e reading commit made = record { next = AtRefusal (Io Origin); plan = refl; come = tt; made_is = tt }
failed_from g n a AtEnd step e reading commit made = absurd (cc)
failed_from g n a (AtRefusal refusal) step e reading commit made = absurd (cc)
failed_from g n a (AtNodes zero from) step e reading commit made = record { next = AtRefusal (Io Metadata); plan = refl; come = tt; made_is = tt }
failed_from g n a point step e reading commit made = record { next = AtRefusal (Io Metadata); plan = refl; come = tt; made_is = tt }

pub failed_stands : (g : Geometry) (n : ℕ) (o new : Opener) (step : DeviceStep) → StandsAt g n o → device_step_of (want o.task) ≡ Some step → new.asked ≡ o.asked → new.task ≡ after o.task Fault → new.opening.geometry ≡ o.opening.geometry → StandsAt g n new
failed_stands g n o new step at next same p q =
    goes_on g n o new Fault at same p q (failed_from g n o.asked at.point step (ap (λ x. device_step_of (want x)) (sym at.plan_is) ∙ next) (reading_of new) new.opening.commit new.made)

put_size : (image : Image) (steps : CommitSteps) (old new : List History) → DoesStep image steps old new → length new ≡ length old
put_size image (NodesWritten count) old new does = of_node (slice_get image.nodes.items count) does
  where
    of_node : (o : Option (Place × Node)) → NodeOrSync o old new → length new ≡ length old
    of_node (Some node) put = ap length put.wrote ∙ length-written old node.0.0 put.content
    of_node None same = ap length same ∙ length-map old _
put_size image NodesSynced old new does = ap length does.wrote ∙ length-written old (slot_of image.root).0 does.content
put_size image RootWritten old new does = ap length does ∙ length-map old _
put_size image Committed old new does = ap length does

landed_size : (landed : Bool) (image : Image) (steps : CommitSteps) (old new : List History) → LandedOr landed (DoesStep image steps old new) (new ≡ old) → length new ≡ length old
landed_size true image steps old new put = put_size image steps old new put
landed_size false image steps old new same = ap length same

may_put_size : (commit : Option RunningCommit) (choice : Choice) (step : DeviceStep) (old new : List History) → MayBePut commit choice step old new → length new ≡ length old
may_put_size None choice step old new may = absurd may
may_put_size (Some running) choice step old new may = landed_size (lands Metadata choice (sector_put (coming_step running.image running.steps))) running.image running.steps old new may.1

-- the metadata device keeps its size
pub failed_size : (commit : Option RunningCommit) (step : DeviceStep) (choice : Choice) (old new : Devices (List History)) → FailsOn commit step choice old new → length new.metadata ≡ length old.metadata
failed_size commit (Sync Metadata) choice old new failed = ap (λ (d : Devices (List History)). length d.metadata) failed ∙ length-synced_from (lands Metadata choice) 0 old.metadata
failed_size commit (WriteNode number) choice old new failed = may_put_size commit choice (WriteNode number) old.metadata new.metadata failed.0
failed_size commit WriteRoot choice old new failed = may_put_size commit choice WriteRoot old.metadata new.metadata failed.0
failed_size commit step choice old new failed = ap (λ (d : Devices (List History)). length d.metadata) failed

-- ---- at a node or the root

node_from : (g : Geometry) (n : ℕ) (a : Asked) (point : OpenPoint) (number : ℕ) → want (plan_from g.meta_sectors point) ≡ Device (WriteNode number) → (reading : Option (ReadSteps Global)) (commit : Option RunningCommit) (made : Option Made)
    → HasComeTo g point reading commit → HasMadeThere n point a made → Goes g n a point Done reading (led commit Done) made
node_from g n a (AtNodes (suc left) from) number e reading commit made come is = rw come.0.commit_is (record {
  next = AtNodes left (from + 1);
  plan = refl;
  come = has_one_less g left from reading commit come.0 come.1 come.2;
  made_is = is;
})
node_from g n a (AtNodes zero from) number e reading commit made come is = absurd (cc)
node_from g n a point number e reading commit made come is = absurd (cc)

root_from : (g : Geometry) (n : ℕ) (a : Asked) (point : OpenPoint) → want (plan_from g.meta_sectors point) ≡ Device WriteRoot → (reading : Option (ReadSteps Global)) (commit : Option RunningCommit) (made : Option Made)
    → HasComeTo g point reading commit → HasMadeThere n point a made → Goes g n a point Done reading (led commit Done) made
root_from g n a AtRoot e reading commit made come is = rw come.0.commit_is (record {
  next = AtRootSync;
  plan = refl;
  come = has_gone_on g NodesSynced RootWritten reading commit come.0 come.1 refl;
  made_is = is;
})
root_from g n a (AtNodes zero from) e reading commit made come is = absurd (cc)
root_from g n a (AtNodes (suc left) from) e reading commit made come is = absurd (cc)
root_from g n a point e reading commit made come is = absurd (cc)

put_from : (g : Geometry) (n : ℕ) (a : Asked) (point : OpenPoint) (step : DeviceStep) → IsPut step → want (plan_from g.meta_sectors point) ≡ Device step → (reading : Option (ReadSteps Global)) (commit : Option RunningCommit) (made : Option Made)
    → HasComeTo g point reading commit → HasMadeThere n point a made → Goes g n a point Done reading (led commit Done) made
put_from g n a point (WriteNode number) put e reading commit made come is = node_from g n a point number e reading commit made come is
put_from g n a point WriteRoot put e reading commit made come is = root_from g n a point e reading commit made come is
put_from g n a point step put e reading commit made come is = absurd put

pub written_stands : (g : Geometry) (n : ℕ) (o new : Opener) (step : DeviceStep) → IsPut step → StandsAt g n o → want o.task ≡ Device step → new.asked ≡ o.asked → new.task ≡ after o.task Done → new.opening.geometry ≡ o.opening.geometry
    → new.opening.commit ≡ led o.opening.commit Done → reading_of new ≡ reading_of o → new.made ≡ o.made → StandsAt g n new
written_stands g n o new step put at next same p q c r m =
    goes_on g n o new Done at same p q (rw (c, r, m) (put_from g n o.asked at.point step put (ap want (sym at.plan_is) ∙ next) (reading_of o) o.opening.commit o.made at.come at.made))

-- what is no sync and reads nothing
pub else_puts : (next : Want) (step : DeviceStep) → device_step_of next ≡ Some step → ((device : Dev) → step ≡ Sync device → ⊥) → ((left : ℕ) → step ≡ ReadMetadata left → ⊥) → IsPut step
else_puts (Device (Sync device)) step e syncs reads = let same : step ≡ Sync device = cc in absurd (syncs device same)
else_puts (Device (ReadMetadata left)) step e syncs reads = let same : step ≡ ReadMetadata left = cc in absurd (reads left same)
else_puts (Device (WriteNode number)) step e syncs reads = let same : WriteNode number ≡ step = cc in subst (λ (s : DeviceStep). IsPut s) same tt
else_puts (Device WriteRoot) step e syncs reads = let same : WriteRoot ≡ step = cc in subst (λ (s : DeviceStep). IsPut s) same tt
else_puts next step e syncs reads = absurd (cc)

-- ---- at a read

pub had_room : (g : Geometry) (nodes : ℕ) → nodes ≡ node_count g.cache_blocks → 2 + 2 * nodes ≤ g.meta_sectors → 2 + 2 * node_count g.cache_blocks ≤ g.meta_sectors
had_room g nodes same fits = subst (λ (n : ℕ). 2 + 2 * n ≤ g.meta_sectors) same fits

record Reads (g : Geometry) (n : ℕ) (a : Asked) (point : OpenPoint) (left : ℕ) (reading : Option (ReadSteps Global)) (commit : Option RunningCommit) (made : Option Made) : Type 0 where
  pub is : point ≡ AtRead left
  pub at : IsReading g left reading commit
  pub none : made ≡ None

reads_from : (g : Geometry) (n : ℕ) (a : Asked) (point : OpenPoint) (left : ℕ) → want (plan_from g.meta_sectors point) ≡ Device (ReadMetadata left) → (reading : Option (ReadSteps Global)) (commit : Option RunningCommit) (made : Option Made)
    → HasComeTo g point reading commit → HasMadeThere n point a made → Reads g n a point left reading commit made
reads_from g n a (AtRead other) left e reading commit made come is = let same : other ≡ left = cc in record { is = ap AtRead same; at = subst (λ k. IsReading g k reading commit) same come; none = is }
reads_from g n a (AtNodes zero from) left e reading commit made come is = absurd (cc)
reads_from g n a (AtNodes (suc more) from) left e reading commit made come is = absurd (cc)
reads_from g n a point left e reading commit made come is = absurd (cc)

reads_at : (g : Geometry) (n : ℕ) (o : Opener) (left : ℕ) (at : StandsAt g n o) → want o.task ≡ Device (ReadMetadata left) → Reads g n o.asked at.point left (reading_of o) o.opening.commit o.made
reads_at g n o left at next = reads_from g n o.asked at.point left (ap want (sym at.plan_is) ∙ next) (reading_of o) o.opening.commit o.made at.come at.made

-- the reading is there, and not all was read
pub record UnderWay (g : Geometry) (left : ℕ) (reading : Option (ReadSteps Global)) (commit : Option RunningCommit) : Type 0 where
  pub was : ReadSteps Global
  pub is : reading ≡ Some was
  pub commit_is : commit ≡ None
  pub not_done : IsDone was → ⊥
  pub on : AreStepsOn g.meta_sectors was
  pub left_is : left + sectors_read was ≡ g.meta_sectors

pub under_way : (g : Geometry) (left : ℕ) (reading : Option (ReadSteps Global)) (commit : Option RunningCommit) → IsReading g left reading commit → UnderWay g left reading commit
under_way g left None commit at = absurd at
under_way g left (Some was) commit at = record { was = was; is = refl; commit_is = at.0; not_done = at.1; on = at.2; left_is = at.3 }

-- a refusal for which no device has failed is told as one
no_device : (refusal : Refusal) → CountsFault refusal 0 0 → got_of_refusal refusal ≡ Fault → ⊥
no_device (Io device) counts e = absurd (cc)
no_device refusal counts e = cc

pub refused_as : (refusal : Refusal) → CountsFault refusal 0 0 → got_of_refusal refusal ≡ Refused refusal
refused_as (Io device) counts = absurd (cc)
refused_as refusal counts = refl

-- what a reading with no commit beside it has told of
record ToldMore (mode : Mode) (g asked : Geometry) (left : ℕ) (was : ReadSteps Global) (device : List History) (got : Got) (after' : Option (ReadSteps Global)) (commit' : Option RunningCommit) : Type 0 where
  pub now : ReadSteps Global
  pub goes : ReadingGoesOn was device now
  pub on : AreStepsOn g.meta_sectors now
  pub come : HasComeIn mode asked left now None got after' commit'
  pub one : ReadOneMore was now
  pub spells : DevicesGeneration None → DevicesGeneration commit'
  pub more : got ≡ More → ¬ IsDone now

record ToldNoMore (was : ReadSteps Global) (device : List History) (got : Got) (after' : Option (ReadSteps Global)) (commit' : Option RunningCommit) : Type 0 where
  pub refusal : Refusal
  pub stops : StopsBy was device refusal
  pub kind : IsOfReading refusal
  pub faults : (faults : ℕ) → CountsFault refusal faults faults
  pub is : got ≡ got_of_refusal refusal
  pub gone : after' ≡ None
  pub kept : commit' ≡ None

spelled : (commit : Option RunningCommit) → DevicesGeneration commit → HasGeneration commit
spelled None h = tt
spelled (Some c) h = h

-- where all was read, nothing more is to be told
not_refused : (got : Got) (refusal : Refusal) → ends_reading got ≡ true → got ≡ Refused refusal → ⊥
not_refused got refusal e r = let same : ends_reading got ≡ ends_reading (Refused refusal) = ap ends_reading r in cc

module _ (mode : Mode) (g : Geometry) (second : Bool) (asked : Geometry) (left : ℕ) (was : ReadSteps Global) (device : List History) (got : Got) (after' : Option (ReadSteps Global)) (commit' : Option RunningCommit)
    (asks : IsGeometryAsked g second asked) (room : 2 + 2 * node_count g.cache_blocks ≤ g.meta_sectors) (whole : length device ≡ g.meta_sectors)
    (not_done : IsDone was → ⊥) (left_is : left + sectors_read was ≡ g.meta_sectors) (found : FindsSizes g was device) (did : DidTell mode asked g.meta_sectors left was device None got after' commit') where
  told : ToldMore mode g asked left was device got after' commit' ⊎ ToldNoMore was device got after' commit'
  told = elim did [
    | inl x ↦ inl (record { now = x.0; goes = x.1; on = x.2; come = x.3; one = x.4; spells = x.5; more = x.6 })
    | inr x ↦ inr (record { refusal = x.0; stops = x.1; kind = x.2; faults = x.3; is = x.4; gone = x.5; kept = x.6 })
  ]

  one_more : (now : ReadSteps Global) → ReadOneMore was now → sectors_read now ≡ sectors_read was + 1
  one_more now (inl done) = absurd (not_done done)
  one_more now (inr e) = e

  -- a sector more is allowed, and as many as a mapping that is written anew has nodes
  never_short : (now : ReadSteps Global) → AreStepsOn g.meta_sectors now → sectors_read now ≡ sectors_read was + 1 → ((root : Root) → known_root now ≡ Some root → AreSameSizes root.geometry g) → IsShort asked left now → ⊥
  never_short now on one own (inl none) =
      let most = read-sectors g.meta_sectors now (omega (arith, room)) on in
      omega (arith, most, one, left_is, none)
  never_short now on one own (inr few) =
      let old = few.1.0 in
      let wants = few.1.1 in
      let all : AreStepsOn g.meta_sectors (AllRead old) = subst (λ (x : ReadSteps Global). AreStepsOn g.meta_sectors x) wants.all_read on in
      let read : 2 + old.nodes ≡ sectors_read was + 1 = sym (ap sectors_read wants.all_read) ∙ one in
      let nodes : old.nodes ≤ node_count old.root.geometry.cache_blocks = all.2 wants.first in
      let found_as : node_count old.root.geometry.cache_blocks ≡ node_count g.cache_blocks = ap node_count (own old.root (ap known_root wants.all_read)).cache_blocks in
      let asked_as : node_count asked.cache_blocks ≡ node_count g.cache_blocks = ap node_count asks.sizes_are.cache_blocks in
      let allowed : left < node_count asked.cache_blocks = few.0 in
      omega (arith, allowed, read, nodes, found_as, asked_as, left_is, room)

  never_fault : got ≡ Fault → ⊥
  never_fault e = elim told [
    | inl t ↦ elim t.come [
      | inl come ↦
          let over = subst (λ x. HasCome asked left t.now None x after' commit') e come.0 in
          never_short t.now t.on (one_more t.now t.one) (found t.now t.goes) over.2
      | inr unclean ↦ absurd (let r = sym e ∙ unclean.1 in cc)
    ]
    | inr t ↦ no_device t.refusal (t.faults 0) (sym t.is ∙ e)
  ]

  does_read : IfSome commit' (λ running. AreWhole running.image) → DoesRead {P = Quiet} mode g second left was device None got (Reaches after' commit')
  does_read nodes = (
    never_fault,
    elim told [
      | inl t ↦ inl (t.now, t.goes, subst (λ n. AreStepsOn n t.now) (sym whole) t.on, (asked, asks, t.come), one_more t.now t.one, spelled commit' (t.spells tt), nodes)
      | inr t ↦ inr (t.refusal, t.kind, t.stops, t.is, t.gone, t.kept)
    ],
  )

  more_on : (n : ℕ) (a : Asked) (now : ReadSteps Global) → AreStepsOn g.meta_sectors now → sectors_read now ≡ sectors_read was + 1 → ¬ IsDone now → 1 ≤ left → after' ≡ Some now → commit' ≡ None → (made : Option Made) → made ≡ None → Goes g n a (AtRead left) More after' commit' made
  more_on n a now on one more some after_is c made none = record {
    next = AtRead (left - 1);
    plan = refl;
    come = subst (λ x. IsReading g (left - 1) x commit') (sym after_is) (c, more, on, omega (arith, one, left_is, some));
    made_is = none;
  }

  all_read : (now : ReadSteps Global) → AreStepsOn g.meta_sectors now → after' ≡ Some now → ((root : Root) → known_root now ≡ Some root → AreSameSizes root.geometry g) → HasNextRoot now commit' → HasCommitted g NodesSynced after' commit'
  all_read (AllRead state) on is own root = (
    record {
      state = state;
      reading_is = is;
      fits = on.0;
      sizes = own state.root refl;
      next = root.next;
      commit_is = root.commit_is;
      root_is = subst (λ (r : Root). root.next.image.root ≡ reopened r) (let same : root.root ≡ state.root = cc in same) root.opens.root_is;
    },
    root.steps,
  )
  all_read (Begun alloc global) on is own root = absurd root.is_done
  all_read (FirstSlotRead alloc global first) on is own root = absurd root.is_done
  all_read (RootFound global known loader nodes) on is own root = absurd root.is_done

  -- what is written anew is of the sizes that are asked for
  written_anew : (now : ReadSteps Global) (nodes : ℕ) → Converts asked now nodes after' commit' → HasNodesLeft g nodes 0 after' commit'
  written_anew now nodes c = (
    record {
      state = c.new;
      reading_is = c.after_is;
      fits = subst (λ (sectors : ℕ). FitsDevice sectors c.new.root c.new.tree c.new.used.items) asks.sizes_are.meta_sectors c.converted.fits;
      sizes = subst (λ (f : Geometry). AreSameSizes f g) (sym c.converted.root.geometry) asks.sizes_are;
      next = c.next;
      commit_is = c.commit_is;
      root_is = c.converted.root.next;
    },
    c.steps,
    (let many = c.count in omega (arith, many)),
  )

  goes_more : (n : ℕ) (a : Asked) (other : Got) → (now : ReadSteps Global) → ((root : Root) → known_root now ≡ Some root → AreSameSizes root.geometry g) → AreStepsOn g.meta_sectors now → sectors_read now ≡ sectors_read was + 1 → (other ≡ More → ¬ IsDone now) → HasCome asked left now None other after' commit' → (other ≡ Fault → ⊥) → (made : Option Made) → MadeBy n other a made → Goes g n a (AtRead left) other after' commit' made
  goes_more n a More now own on one more come fault made is = more_on n a now on one (more refl) come.0 come.1 come.3 made is
  goes_more n a Done now own on one more come fault made is = record { next = AtRoot; plan = refl; come = all_read now on come.0 own come.2; made_is = is }
  goes_more n a (Began nodes) now own on one more come fault made is = record { next = AtNodes nodes 0; plan = refl; come = written_anew now nodes come.2; made_is = is }
  goes_more n a (Refused refusal) now own on one more come fault made is = record { next = AtRefusal refusal; plan = refl; come = tt; made_is = tt }
  goes_more n a Fault now own on one more come fault made is = absurd (fault refl)
  goes_more n a other now own on one more come fault made is = absurd come

  goes_told : (n : ℕ) (a : Asked) (made : Option Made) → MadeBy n got a made → Goes g n a (AtRead left) got after' commit' made
  goes_told n a made is = elim told [
    | inl t ↦ elim t.come [
      | inl come ↦ goes_more n a got t.now (found t.now t.goes) t.on (one_more t.now t.one) t.more come.0 never_fault made is
      | inr unclean ↦ subst (λ x. Goes g n a (AtRead left) x after' commit' made) (sym unclean.1) (record { next = AtRefusal NotClean; plan = refl; come = tt; made_is = tt })
    ]
    | inr t ↦ subst (λ x. Goes g n a (AtRead left) x after' commit' made) (sym (t.is ∙ refused_as t.refusal (t.faults 0))) (record { next = AtRefusal t.refusal; plan = refl; come = tt; made_is = tt })
  ]

  read_stands : (n : ℕ) (o new : Opener) (at : StandsAt g n o) → want o.task ≡ Device (ReadMetadata left) → new.asked ≡ o.asked → new.task ≡ after o.task got → new.opening.geometry ≡ o.opening.geometry
      → reading_of new ≡ after' → new.opening.commit ≡ commit' → MadeBy n got o.asked new.made → StandsAt g n new
  read_stands n o new at next same p q r c is =
      let reads = reads_at g n o left at next in
      goes_on g n o new got at same p q (rw (r, c) (subst (λ x. Goes g n o.asked x got after' commit' new.made) (sym reads.is) (goes_told n o.asked new.made is)))

  -- what was read in the end
  record ReadAll (now : ReadSteps Global) : Type 0 where
    pub all : HasReadAll g after' commit'
    pub done : IsDone now

  ends_with : (other : Got) (now : ReadSteps Global) → AreStepsOn g.meta_sectors now → ((root : Root) → known_root now ≡ Some root → AreSameSizes root.geometry g) → HasCome asked left now None other after' commit' → ends_reading other ≡ true → ReadAll now
  ends_with Done now on own come e = record { all = (all_read now on come.0 own come.2).0; done = come.2.is_done }
  ends_with (Began nodes) now on own come e = record { all = (written_anew now nodes come.2).0; done = subst (λ (x : ReadSteps Global). IsDone x) (sym come.2.wants.all_read) tt }
  ends_with other now on own come e = absurd (cc)

  -- once all was read
  pub all_told : ends_reading got ≡ true → HasReadAll g after' commit'
  all_told e = elim told [
    | inl t ↦ elim t.come [
      | inl come ↦ (ends_with got t.now t.on (found t.now t.goes) come.0 e).all
      | inr unclean ↦ absurd (not_refused got NotClean e unclean.1)
    ]
    | inr t ↦ absurd (not_refused got t.refusal e (t.is ∙ refused_as t.refusal (t.faults 0)))
  ]

  fitting : (now : ReadSteps Global) → IsDone now → (sectors : List Bytes) → HasRead sectors now → HasFittingRoot sectors
  fitting (AllRead state) done sectors read = record { root = state.root; newest = read.represents.newest; size = read.size }
  fitting (Begun alloc global) done sectors read = absurd done
  fitting (FirstSlotRead alloc global first) done sectors read = absurd done
  fitting (RootFound global known loader nodes) done sectors read = absurd done

  -- where all was read, the opening may be refused for want of memory
  pub wants_memory : ends_reading got ≡ true → DidTell mode asked g.meta_sectors left was device None (Refused Memory) None None
  wants_memory e = elim told [
    | inl t ↦ elim t.come [
      | inl come ↦
          let ends = ends_with got t.now t.on (found t.now t.goes) come.0 e in
          inr (Memory, (λ sectors agrees has. fitting t.now ends.done sectors (t.goes sectors agrees has)), tt, (λ faults. refl), refl, refl, refl)
      | inr unclean ↦ absurd (not_refused got NotClean e unclean.1)
    ]
    | inr t ↦ absurd (not_refused got t.refusal e (t.is ∙ refused_as t.refusal (t.faults 0)))
  ]

-- what an opening finds that reads on
pub reads_on : (g : Geometry) (n left : ℕ) (o : Opener) (device : List History) → o.asked.actor < n → length device ≡ g.meta_sectors → StandsAt g n o → want o.task ≡ Device (ReadMetadata left) → FindsItsRoot g device o → ReadsOn g n left o device
reads_on g n left o device there size at next finds = record { there = there; none = reads.none; asks = at.asks; size = size; reads = plain; finds = λ was is. finds was (same ∙ is) (under_way g left o.opening.reading o.opening.commit plain).commit_is }
  where
    reads : Reads g n o.asked at.point left (reading_of o) o.opening.commit o.made
    reads = reads_at g n o left at next

    same : reading_of o ≡ o.opening.reading
    same = ap (λ m. reading_by m o.opening.reading) reads.none

    plain : IsReading g left o.opening.reading o.opening.commit
    plain = subst (λ r. IsReading g left r o.opening.commit) same reads.at

-- where it stands, and what it has done, once it was told what stands there
module _ (g : Geometry) (n left : ℕ) (o new : Opener) (device : List History) (got : Got) (on : ReadsOn g n left o device) (room : 2 + 2 * node_count g.cache_blocks ≤ g.meta_sectors)
    (did : (was : ReadSteps Global) → o.opening.reading ≡ Some was → DidTell o.asked.mode o.opening.geometry g.meta_sectors left was device o.opening.commit got (reading_of new) new.opening.commit) where
  abbrev u : UnderWay g left o.opening.reading o.opening.commit
  u = under_way g left o.opening.reading o.opening.commit on.reads

  told_so : DidTell o.asked.mode o.opening.geometry g.meta_sectors left u.was device None got (reading_of new) new.opening.commit
  told_so = subst (λ c. DidTell o.asked.mode o.opening.geometry g.meta_sectors left u.was device c got (reading_of new) new.opening.commit) u.commit_is (did u.was u.is)

  pub stands_then : StandsAt g n o → want o.task ≡ Device (ReadMetadata left) → new.asked ≡ o.asked → new.task ≡ after o.task got → new.opening.geometry ≡ o.opening.geometry → MadeBy n got o.asked new.made → StandsAt g n new
  stands_then at next same p q made =
      read_stands o.asked.mode g o.asked.second o.opening.geometry left u.was device got (reading_of new) new.opening.commit on.asks room on.size u.not_done u.left_is (on.finds u.was u.is) told_so n o new at next same p q refl refl made

  pub does_then : IfSome new.opening.commit (λ running. AreWhole running.image) → DoesRead {P = Quiet} o.asked.mode g o.asked.second left u.was device None got (Reaches (reading_of new) new.opening.commit)
  does_then nodes = does_read o.asked.mode g o.asked.second o.opening.geometry left u.was device got (reading_of new) new.opening.commit on.asks room on.size u.not_done u.left_is (on.finds u.was u.is) told_so nodes

-- nothing was made where not all was read
pub none_made : (n : ℕ) (a : Asked) (got : Got) (made : Option Made) → ends_reading got ≡ false → made ≡ None → MadeBy n got a made
none_made n a Done made more none = absurd (cc)
none_made n a (Began nodes) made more none = absurd (cc)
none_made n a got made more none = none

pub all_made : (n : ℕ) (a : Asked) (got : Got) (made : Option Made) → ends_reading got ≡ true → HasMade n a made → MadeBy n got a made
all_made n a Done made ends is = is
all_made n a (Began nodes) made ends is = is
all_made n a got made ends is = absurd (cc)

-- ---- at the answer

ends_at : (g : Geometry) (point : OpenPoint) → device_step_of (want (plan_from g.meta_sectors point)) ≡ None → (devices : Devices (List History)) (choice : Choice) → MayFailAt devices choice (want (plan_from g.meta_sectors point)) → ⊥
ends_at g AtEnd none devices choice may = may
ends_at g (AtRefusal refusal) none devices choice may = may
ends_at g (AtNodes zero from) none devices choice may = absurd (cc)
ends_at g (AtNodes (suc left) from) none devices choice may = absurd (cc)
ends_at g point none devices choice may = absurd (cc)

-- an answer is no step that fails
pub never_fails : (g : Geometry) (n : ℕ) (o : Opener) → StandsAt g n o → device_step_of (want o.task) ≡ None → (devices : Devices (List History)) (choice : Choice) → MayFailAt devices choice (want o.task) → ⊥
never_fails g n o at none devices choice may = ends_at g at.point (ap (λ p. device_step_of (want p)) (sym at.plan_is) ∙ none) devices choice (subst (λ p. MayFailAt devices choice (want p)) at.plan_is may)
