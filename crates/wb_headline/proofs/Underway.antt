-- The commit that a flush or a suspend runs, by itself: its root, its images, and what is noted of it.
use Rattle.std.proofs.Common.{◌≡◌, ◌≢◌, ◌∙◌, ◌≤◌, ◌<◌, ◌⊎◌, inl, inr, ℕ, zero, suc, Bool, true, false, if◌then◌else◌, List, [], ◌++◌, Option, Some, None, refl, sym, ap, subst, arith, length, slice_get, slice_set, Contains, ◌+◌}
use Rattle.wb_types.specs.declared.number.OBlock.{OBlock}
use Rattle.wb_types.specs.declared.geometry.Geometry.{Geometry}
use Rattle.wb_types.specs.declared.number.Place.{Place}
use Rattle.wb_types.specs.declared.mode.Mode.{Mode}
use Rattle.wb_disk.specs.Device.{Content as Bytes, History}
use Rattle.wb_words.specs.SharedWords.{Words, word_at, place_in}
use Rattle.wb_words.specs.declared.step.CellStep.TheVariants.{Look}
use Rattle.wb_words.specs.declared.word.Word.TheVariants.{Seal as SealWord}
use Rattle.wb_format.specs.declared.node.Node.{Node}
use Rattle.wb_tree.specs.declared.image.Image.{Image}
use Rattle.wb_tree.specs.Mapping.{Mapping}
use Rattle.wb_meta.specs.Representing.{Stored}
use Rattle.wb_meta.specs.Steps.{FailsStep, steps_after, after_node}
use Rattle.wb_meta.specs.Commits.{HasFailed}
use Rattle.wb_meta.specs.declared.commit_steps.CommitSteps.{CommitSteps}
use Rattle.wb_meta.specs.declared.commit_steps.CommitSteps.TheVariants.{NodesWritten, NodesSynced, RootWritten, Done as Committed}
use Rattle.wb_meta.proofs.Stepping.{fails as step_fails}
use Rattle.wb_desk.specs.Desks.{DeskState}
use Rattle.wb_desk.specs.Commits.{HasBegun, commit_begun}
use Rattle.wb_desk.specs.Marks.{bits_in_tree, entries_shown}
use Rattle.wb_types.specs.declared.entry.Entry.{Entry}
use Rattle.wb_tasks.specs.Plan.{after}
use Rattle.wb_tasks.specs.declared.step.DeviceStep.{DeviceStep}
use Rattle.wb_tasks.specs.declared.step.DeviceStep.TheVariants.{Read as ReadExtent, Sync, WriteRoot}
use Rattle.wb_tasks.specs.declared.step.DeskStep.TheVariants.{BeginCommit, BreakCommit, EndCommit}
use Rattle.wb_tasks.specs.declared.step.Want.{Want}
use Rattle.wb_tasks.specs.declared.step.Want.TheVariants.{Cell, Device, Desk}
use Rattle.wb_tasks.specs.declared.step.Got.{Got}
use Rattle.wb_devices.specs.declared.devices.Devices.{Devices}
use Rattle.wb_devices.specs.declared.running.RunningCommit.{RunningCommit}
use Rattle.wb_devices.specs.Committing.{is_coming}
use Rattle.wb_meta.specs.Roots.{MayBeReadAs, Commit}
use Rattle.wb_meta.proofs.Leading.{after_failure, after_failed_node}
use Rattle.wb_promise.specs.declared.job.Job.{Job}
use Rattle.wb_promise.specs.States.{Shape, Phase, Actor, Target, Stands}
use Rattle.wb_promise.specs.Effects.{awaiting_then, buffer_then, seen_then, share_by, orders_then}
use Rattle.wb_promise.specs.Clerk.{Notes, Doing, device_note, finished_note, made_durable}
use Rattle.wb_runs.proofs.Imaged.{begun_entries, begun_root}
use Rattle.wb_runs.proofs.Sizes.{read_by_sizes}
use Rattle.wb_runs.proofs.Images.{Images, later_of}
use Rattle.wb_runs.proofs.Underway.{Underway, Readable, images_of, is_written}
use Rattle.wb_link.specs.World.{Shared}
use Rattle.wb_refines.specs.Commits.{IsWrittenAfter}
use Rattle.wb_simulation.specs.Sites.{IsRunning, locations, StateTakesClean}
use Rattle.wb_simulation.specs.Laws.{flush_or_suspend}
use Rattle.wb_headline.proofs.Following.{most}
use Rattle.wb_headline.proofs.Suspends.{AllSeen, marked_places, takes_seen, takes_none}
use Rattle.wb_simulation.specs.Opened.{located}
use Rattle.wb_promise.specs.Headline.{place_of}
use Rattle.wb_promise.specs.Sealed.{number_of}
use Rattle.wb_refines.specs.Models.{WordsAgree}
use Rattle.wb_simulation.specs.Worlds.{clean_by}
use Rattle.wb_promise.specs.Headline.{shown}

-- a step that is not the root's leaves the root written or not
pub written_before : (image : Image) (steps : CommitSteps) (step : DeviceStep) → is_coming image steps step ≡ true → (step ≢ WriteRoot) → is_written (steps_after image steps) ≡ true → is_written steps ≡ true
written_before image (NodesWritten count) step e n w = by (slice_get image.nodes.items count) w
  where
    by : (o : Option (Place × Node)) → is_written (after_node o count) ≡ true → false ≡ true
    by None w = w
    by (Some node) w = w
written_before image NodesSynced WriteRoot e n w = absurd (n refl)
written_before image NodesSynced step e n w = absurd (cc)
written_before image RootWritten step e n w = refl
written_before image Committed step e n w = refl

-- whether the root may have been written once a step failed
abbrev pub failed_written : CommitSteps → Bool
failed_written (NodesWritten count) = false
failed_written steps = true

-- so it is there
pub written_there : (image : Image) (steps : CommitSteps) (step : DeviceStep) (before after : Bool) → is_coming image steps step ≡ true → (is_written steps ≡ true → before ≡ true) → IsWrittenAfter step before after → failed_written steps ≡ true → after ≡ true
written_there image NodesSynced WriteRoot before after e b w f = w
written_there image RootWritten (Sync device) before after e b w f = w (b refl)
written_there image steps step before after e b w f = absurd (cc)

module _ (g : Geometry) (images : Images) (commit : RunningCommit) (of : Commit) (old new : List History) (u : Underway g images commit of old) where
  -- what is read once a step failed
  pub failed_read : FailsStep commit.image commit.steps old new → Readable g (images_of of (failed_written commit.steps)) new
  failed_read bad = by_steps commit.steps (step_fails of.image of.old.root.geometry.meta_sectors of.before old new commit.steps u.can.places u.come (subst (λ (i : Image). FailsStep i commit.steps old new) (sym u.image) bad))
    where
      two : MayBeReadAs of.old.root.geometry of.old (Some of.new) new → Readable g (images_of of true) new
      two m = record { read = read_by_sizes of.old.root.geometry g of.old (Some of.new) new u.sizes m }

      by_steps : (steps : CommitSteps) → HasFailed of.image of.before steps new → Readable g (images_of of (failed_written steps)) new
      by_steps (NodesWritten count) f = record { read = read_by_sizes of.old.root.geometry g of.old None new u.sizes (after_failed_node of u.can count new f) }
      by_steps NodesSynced f = two (after_failure of u.can NodesSynced new f)
      by_steps RootWritten f = two (after_failure of u.can RootWritten new f)
      by_steps Committed f = absurd f

-- a target's images while a commit is under way
pub runs_there : (of : Commit) (written : Bool) (s : Shared) → (written ≡ true → s.root_written ≡ true) → s.running ≡ locations of.new → StateTakesClean of.new s.running_clean → IsRunning (later_of (images_of of written)) s
runs_there of true s w r c = (w refl, r, c)
runs_there of false s w r c = tt

-- a step after which who takes it has the orders, the contents, the bits and the share that it had
abbrev pub IsStill : Want → Type 0
IsStill (Cell (Look (SealWord block))) = ⊥
IsStill (Cell step) = Unit {0}
IsStill (Device (ReadExtent device e)) = ⊥
IsStill (Device step) = Unit {0}
IsStill (Desk (BeginCommit most)) = Unit {0}
IsStill (Desk EndCommit) = Unit {0}
IsStill (Desk BreakCommit) = Unit {0}
IsStill next = ⊥

abbrev Still : {P A : Type 0} → Phase P A → Devices (List History) → Actor → Job → Want → Got → Type 0
Still phase devices x job next got = (orders_then x.orders x.awaiting job next got ≡ x.orders) × (awaiting_then x.orders x.awaiting job next got ≡ x.awaiting) × (buffer_then devices x.buffer next got job ≡ x.buffer) × (seen_then x.seen next got job ≡ x.seen) × (share_by phase x.share next got ≡ x.share)

pub still : (P A : Type 0) (t : Target P) (devices : Devices (List History)) (x : Actor) (clean : Bool) (next : Want) (got : Got) → IsStill next → Still {P = P} {A = A} (Stands t) devices x (flush_or_suspend clean) next got
still P A t devices x clean (Cell (Look (SealWord block))) got k = absurd k
still P A t devices x true (Cell step) got k = (refl, refl, refl, refl, refl)
still P A t devices x false (Cell step) got k = (refl, refl, refl, refl, refl)
still P A t devices x clean (Device (ReadExtent device e)) got k = absurd k
still P A t devices x true (Device step) got k = (refl, refl, refl, refl, refl)
still P A t devices x false (Device step) got k = (refl, refl, refl, refl, refl)
still P A t devices x true (Desk (BeginCommit most)) got k = (refl, refl, refl, refl, refl)
still P A t devices x false (Desk (BeginCommit most)) got k = (refl, refl, refl, refl, refl)
still P A t devices x true (Desk EndCommit) got k = (refl, refl, refl, refl, refl)
still P A t devices x false (Desk EndCommit) got k = (refl, refl, refl, refl, refl)
still P A t devices x true (Desk BreakCommit) got k = (refl, refl, refl, refl, refl)
still P A t devices x false (Desk BreakCommit) got k = (refl, refl, refl, refl, refl)
still P A t devices x clean next got k = absurd k

-- nothing is noted of its steps on devices but which have failed
pub not_noted : (shape : Shape) (mode : Mode) (m : Notes) (a : ℕ) (doing : Doing) (clean : Bool) (step : DeviceStep) (got : Got) (contents : List Bytes) → device_note shape mode m a doing (flush_or_suspend clean) step got contents ≡ m
not_noted shape mode m a doing true step got contents = refl
not_noted shape mode m a doing false step got contents = refl

pub finished_durable : (m : Notes) (a : ℕ) (doing : Doing) (clean : Bool) (shown : List Bytes) → finished_note m a doing (flush_or_suspend clean) shown ≡ made_durable m a doing
finished_durable m a doing true shown = refl
finished_durable m a doing false shown = refl

-- the bits with which its commit begins
abbrev pub marks : (clean : Bool) → List Bool → Option (List Bool)
marks true seen = Some seen
marks false seen = None

-- What it stores is of the blocks that the desk maps, and takes those as clean whose seals are, or none.
pub begun_places : {P : Type 0} (clean : Bool) (seen : List Bool) (hint_of : P → ℕ → ℕ) (desk : DeskState P) (image : Image) (tree : Mapping) → HasBegun hint_of (marks clean seen) desk image (commit_begun desk tree image) → located tree.entries ≡ located desk.tree.entries
begun_places true seen hint_of desk image tree h = ap located (begun_entries hint_of (Some seen) desk tree image h) ∙ (λ i b. marked_places (hint_of desk.policy) (bits_in_tree desk.geometry.version seen) desk.tree.entries 0 b i)
begun_places false seen hint_of desk image tree h = ap located (begun_entries hint_of None desk tree image h)

-- and so is what is read of it
pub shown_places : (clean : Bool) (seen : List Bool) (hint : ℕ → ℕ) (entries : List (Option Entry)) → located (entries_shown hint (marks clean seen) entries) ≡ located entries
shown_places true seen hint entries = λ i b. marked_places hint seen entries 0 b i
shown_places false seen hint entries = refl

pub begun_takes : {P : Type 0} (clean : Bool) (seen : List Bool) (hint_of : P → ℕ → ℕ) (desk : DeskState P) (image : Image) (tree : Mapping) (words : Words) (s : Shared) (state : Stored) → HasBegun hint_of (marks clean seen) desk image (commit_begun desk tree image) →
    WordsAgree words s → (clean ≡ true → AllSeen words desk.tree.entries seen × ((block : OBlock) → number_of (place_in (word_at words.seals block)) ≡ place_of desk.tree.entries block.0)) → state.root.clean ≡ image.root.clean → state.found.entries ≡ entries_shown (hint_of desk.policy) (marks clean seen) desk.tree.entries → StateTakesClean state (clean_by clean s)
begun_takes true seen hint_of desk image tree words s state h agree all root entries = takes_seen (hint_of desk.policy) words s desk.tree.entries seen state agree (all refl).1 (all refl).0 (root ∙ (begun_root hint_of (Some seen) desk tree image h).1) entries
begun_takes false seen hint_of desk image tree words s state h agree all root entries = takes_none state (root ∙ (begun_root hint_of None desk tree image h).1)

pub some_is : {X : Type 0} (a b : X) → ◌≡◌ {A = Option X} (Some a) (Some b) → a ≡ b
some_is a b e = ap (λ o. Rattle.std.proofs.Common.unwrap_or o a) e
