-- What is promised of every run.
use Rattle.std.specs.Prelude.{◌≡◌, ◌≤◌, ◌+◌, ◌*◌, ◌/◌, ◌%◌, ◌==◌, ℕ, suc, Bool, List, [], ◌∷◌, Option, Some, None, All, IsPermutation, Contains, map, length, slice_get, unwrap_or, if◌then◌else◌}
use Rattle.wb_types.specs.declared.entry.Entry.{Entry}
use Rattle.wb_types.specs.Extents.{sectors_in, rising}
use Rattle.wb_types.specs.declared.mode.Mode.TheVariants.{Passthrough}
use Rattle.wb_types.specs.declared.refusal.Refusal.{Refusal}
use Rattle.wb_types.specs.declared.refusal.Refusal.TheVariants.{Io, NotClean, Memory, GenerationEnd}
use Rattle.wb_disk.specs.Device.{Content as Bytes, History, entries, newest}
use Rattle.wb_disk.specs.Crashes.{MayLeave}
use Rattle.wb_meta.specs.Formats.{IsFormatted}
use Rattle.wb_meta.specs.Representing.{Represents, Stored}
use Rattle.wb_tasks.specs.declared.step.Answer.{Answer}
use Rattle.wb_tasks.specs.declared.step.Answer.TheVariants.{Done as Finished, Refused as Refuses}
use Rattle.wb_tasks.specs.declared.step.Want.TheVariants.{End}
use Rattle.wb_devices.specs.declared.devices.Devices.{Devices}
use Rattle.wb_promise.specs.declared.job.Job.{Job}
use Rattle.wb_promise.specs.declared.job.Job.TheVariants.{Read, Write, Open}
use Rattle.wb_promise.specs.declared.event.Event.{Event}
use Rattle.wb_promise.specs.declared.event.Event.TheVariants.{Step}
use Rattle.wb_promise.specs.declared.event.What.{What}
use Rattle.wb_promise.specs.declared.event.What.TheVariants.{Skipped, Stepped}
use Rattle.wb_promise.specs.States.{Shape, State, Phase, Stands, mode_of, block_size, sector_count, start}
use Rattle.wb_promise.specs.Happenings.{Happening, DoesNotApply}
use Rattle.wb_promise.specs.Effects.{after_happening, after_all, IsRun}
use Rattle.wb_promise.specs.Clerk.{Notes, Doing, Reading, Position, note, formatted}

-- ---- what entries show

-- the cache block of this list, its first being this one, that has the entry of a block
abbrev pub cached_from : ℕ → ℕ → List (Option Entry) → Option ℕ
cached_from block c [] = None
cached_from block c (None ∷ entries) = cached_from block (suc c) entries
cached_from block c (Some entry ∷ entries) = if entry.origin.0 == block then Some c else cached_from block (suc c) entries

-- where a block stands: in a cache block, or else on the origin
abbrev pub place_of : List (Option Entry) → ℕ → Option ℕ
place_of entries block = cached_from block 0 entries

-- the content of a sector whose block stands here
abbrev pub content_of : Shape → Option ℕ → (cache origin : List Bytes) → ℕ → Option Bytes
content_of shape None cache origin at = slice_get origin at
content_of shape (Some c) cache origin at = slice_get cache (c * block_size shape + at % block_size shape)

-- what these entries show of each sector of the origin's address range, over devices that hold this
abbrev pub shown_by : Shape → List (Option Entry) → (cache origin : List Bytes) → List Bytes
shown_by shape entries cache origin = map (λ at. unwrap_or (content_of shape (place_of entries (at / block_size shape)) cache origin at) []) (rising 0 (sector_count shape))

abbrev pub shown_in : {P A : Type 0} → Shape → Devices (List History) → Phase P A → List Bytes
shown_in shape devices (Stands t) = shown_by shape t.desk.tree.entries (map newest devices.cache) (map newest devices.origin)
shown_in shape devices phase = []

-- what the target shows of each sector; nothing where none stands
abbrev pub shown : {P A : Type 0} → Shape → State P A → List Bytes
shown shape w = shown_in shape w.devices w.phase

-- ---- the notes of a run

abbrev pub note_happening : {P A : Type 0} → Shape → State P A → Notes → Happening P A → Notes
note_happening shape w n h = note shape (mode_of w.phase) (shown shape (after_happening shape w h)) n h.record_is

abbrev pub noted : {P A : Type 0} → Shape → State P A → Notes → List (Happening P A) → Notes
noted shape w n [] = n
noted shape w n (h ∷ hs) = noted shape (after_happening shape w h) (note_happening shape w n h) hs

-- ---- right answers

-- what a read was given is the last entry of its sector's history at the step that read it
abbrev pub IsLatest : Reading → Type 0
IsLatest reading = reading.latest ≡ Some reading.content

-- a content that a crash may leave: an entry of the history at the floor or later
abbrev pub IsAllowed : Option History → ℕ → Bytes → Type 0
IsAllowed None floor content = ⊥
IsAllowed (Some history) floor content = (position : ℕ) × (floor ≤ position) × (slice_get (entries history) position ≡ Some content)

abbrev pub IsAllowedAt : Notes → ℕ → Bytes → Type 0
IsAllowedAt n at content = IsAllowed (slice_get n.histories at) (unwrap_or (slice_get n.floors at) 0) content

-- each sector is shown, with a content that is allowed
pub record ShowsAllowed (n : Notes) (contents : List Bytes) : Type 0 where
  pub all : length contents ≡ length n.histories
  pub each : (at : ℕ) (content : Bytes) → slice_get contents at ≡ Some content → IsAllowedAt n at content

-- An opening is refused only where a step of it failed, for want of memory, since no generation is left, or in passthrough, where the metadata were not
-- left clean.
abbrev pub MayRefuse : Doing → Refusal → Type 0
MayRefuse doing (Io device) = Contains doing.failed device
MayRefuse doing Memory = Unit {0}
MayRefuse doing GenerationEnd = Unit {0}
MayRefuse doing NotClean = (second : Bool) × (doing.job ≡ Open Passthrough second)
MayRefuse doing refusal = ⊥

-- A read that is finished was given each of its sectors exactly once, and each with the latest write to it. A write
-- that is finished has entered each of its sectors exactly once. What an opening shows that is done is allowed.
abbrev pub IsRightAnswer : Notes → List Bytes → Doing → Job → Answer → Type 0
IsRightAnswer n shown doing (Read extent) Finished = IsPermutation (sectors_in extent) (map (λ (r : Reading). r.sector) doing.readings) × All IsLatest doing.readings
IsRightAnswer n shown doing (Write extent content) Finished = IsPermutation (sectors_in extent) (map (λ (p : Position). p.sector) doing.entered)
IsRightAnswer n shown doing (Open mode second) Finished = ShowsAllowed n shown
IsRightAnswer n shown doing (Open mode second) (Refuses refusal) = MayRefuse doing refusal
IsRightAnswer n shown doing job answer = Unit {0}

abbrev pub DoingRightly : Notes → List Bytes → Option (Option Doing) → Answer → Type 0
DoingRightly n shown (Some (Some doing)) answer = IsRightAnswer n shown doing doing.job answer
DoingRightly n shown doing answer = ⊥

-- only an actor that is at something answers, and its answer is right
abbrev pub AnswersRightly : List Bytes → Notes → Event → What → Type 0
AnswersRightly shown n (Step a) (Stepped (End answer) got) = DoingRightly n shown (slice_get n.doings a) answer
AnswersRightly shown n event what = Unit {0}

-- every answer of a run is right
abbrev pub AllRight : {P A : Type 0} → Shape → State P A → Notes → List (Happening P A) → Type 0
AllRight shape w n [] = Unit {0}
AllRight shape w n (h ∷ hs) = AnswersRightly (shown shape (after_happening shape w h)) n h.record_is.event h.record_is.what
    × AllRight shape (after_happening shape w h) (note_happening shape w n h) hs

-- Metadata represent a root and a tree, and what its entries show of the data devices is allowed.
pub record ShowsOpened (shape : Shape) (n : Notes) (metadata cache origin : List Bytes) : Type 0 where
  pub stored : Stored
  pub represents : Represents metadata stored.root stored.found
  pub shows : ShowsAllowed n (shown_by shape stored.found.entries cache origin)

-- So it is, whatever a crash leaves of the three devices.
abbrev pub CrashConsistent : Shape → Notes → Devices (List History) → Type 0
CrashConsistent shape n devices = (metadata cache origin : List Bytes) → MayLeave devices.metadata metadata → MayLeave devices.cache cache → MayLeave devices.origin origin
    → ShowsOpened shape n metadata cache origin

-- An opening that is answered done shows of each sector what is allowed.
abbrev pub ShownBy : Notes → List Bytes → Job → Type 0
ShownBy n shown (Open mode second) = ShowsAllowed n shown
ShownBy n shown job = Unit {0}

abbrev pub ShowsRightly : Notes → List Bytes → Option (Option Doing) → Type 0
ShowsRightly n shown (Some (Some doing)) = ShownBy n shown doing.job
ShowsRightly n shown doing = Unit {0}

abbrev pub OpensRightly : List Bytes → Notes → Event → What → Type 0
OpensRightly shown n (Step a) (Stepped (End Finished) got) = ShowsRightly n shown (slice_get n.doings a)
OpensRightly shown n event what = Unit {0}

-- every opening of a run does
abbrev pub AllOpenRightly : {P A : Type 0} → Shape → State P A → Notes → List (Happening P A) → Type 0
AllOpenRightly shape w n [] = Unit {0}
AllOpenRightly shape w n (h ∷ hs) = OpensRightly (shown shape (after_happening shape w h)) n h.record_is.event h.record_is.what
    × AllOpenRightly shape (after_happening shape w h) (note_happening shape w n h) hs

-- ---- laws

-- A run from formatted metadata, and what is so after it.
abbrev pub InEveryRun : (P A : Type 0) → (Shape → List History → List (Happening P A) → Type 0) → Type 0
InEveryRun P A Holds = (shape : Shape) (metadata : List History) (hs : List (Happening P A)) → IsFormatted shape.geometry metadata → length metadata ≡ shape.geometry.meta_sectors
    → IsRun shape (start shape metadata) hs → Holds shape metadata hs

-- whatever a crash leaves of the three devices, what an opening then shows is allowed
abbrev pub AllCrashConsistent : (P A : Type 0) → Type 0
AllCrashConsistent P A = InEveryRun P A (λ shape metadata hs. CrashConsistent shape (noted shape (start shape metadata) (formatted shape) hs) (after_all shape (start shape metadata) hs).devices)

-- what every opening shows that is answered done is allowed
abbrev pub AllOpeningsShowAllowed : (P A : Type 0) → Type 0
AllOpeningsShowAllowed P A = InEveryRun P A (λ shape metadata hs. AllOpenRightly shape (start shape metadata) (formatted shape) hs)

-- an event is skipped only where it does not apply
abbrev pub SkipsRightly : {P A : Type 0} → State P A → Event → What → Type 0
SkipsRightly w event Skipped = DoesNotApply w event
SkipsRightly w event what = Unit {0}

-- so every event of a run is
abbrev pub AllSkipRightly : {P A : Type 0} → Shape → State P A → List (Happening P A) → Type 0
AllSkipRightly shape w [] = Unit {0}
AllSkipRightly shape w (h ∷ hs) = SkipsRightly w h.record_is.event h.record_is.what × AllSkipRightly shape (after_happening shape w h) hs

-- The whole promise of a run: no event is skipped that applies, each answer is right, and whatever a crash leaves after it is
-- consistent.
pub record Headline {P A : Type 0} (shape : Shape) (metadata : List History) (hs : List (Happening P A)) : Type 0 where
  pub skips : AllSkipRightly shape (start shape metadata) hs
  pub answers : AllRight shape (start shape metadata) (formatted shape) hs
  pub crashes : CrashConsistent shape (noted shape (start shape metadata) (formatted shape) hs) (after_all shape (start shape metadata) hs).devices

-- so it is of every run
abbrev pub AllRunsAreRight : (P A : Type 0) → Type 0
AllRunsAreRight P A = InEveryRun P A Headline
