-- What is proved of every run without what the sectors hold: what metadata are read as after a crash, of which sizes they are, why an opening is refused, which sectors
-- an answer covers, and which events are skipped.
use Rattle.std.specs.Prelude.{◌≡◌, List, [], ◌∷◌, Option, Some, None, IsPermutation, map, slice_get}
use Rattle.wb_types.specs.Extents.{sectors_in}
use Rattle.wb_types.specs.declared.geometry.Geometry.{Geometry}
use Rattle.wb_types.specs.declared.mode.Mode.{Mode}
use Rattle.wb_types.specs.declared.refusal.Refusal.{Refusal}
use Rattle.wb_disk.specs.Device.{Content as Bytes, History}
use Rattle.wb_disk.specs.Crashes.{MayLeave}
use Rattle.wb_format.specs.declared.root.Root.{Root}
use Rattle.wb_meta.specs.Reads.{ReadingGoesOn, known_root}
use Rattle.wb_meta.specs.declared.read_steps.ReadSteps.{ReadSteps}
use Rattle.wb_meta.specs.Representing.{Represents, Stored}
use Rattle.wb_meta.specs.Sizes.{AreSameSizes}
use Rattle.wb_tasks.specs.declared.step.Answer.{Answer}
use Rattle.wb_tasks.specs.declared.step.Answer.TheVariants.{Done as Finished, Refused as Refuses}
use Rattle.wb_tasks.specs.declared.step.Want.TheVariants.{End}
use Rattle.wb_promise.specs.declared.job.Job.{Job}
use Rattle.wb_promise.specs.declared.job.Job.TheVariants.{Read, Write, Open}
use Rattle.wb_promise.specs.declared.event.Event.{Event}
use Rattle.wb_promise.specs.declared.event.Event.TheVariants.{Step}
use Rattle.wb_promise.specs.declared.event.What.{What}
use Rattle.wb_promise.specs.declared.event.What.TheVariants.{Stepped}
use Rattle.wb_promise.specs.States.{Shape, State, Opens, start}
use Rattle.wb_promise.specs.Happenings.{Happening}
use Rattle.wb_promise.specs.Effects.{after_happening, after_all}
use Rattle.wb_promise.specs.Clerk.{Notes, Doing, Reading, Position, formatted}
use Rattle.wb_promise.specs.Headline.{note_happening, MayRefuse, InEveryRun, AllSkipRightly}

-- Metadata represent a root of these sizes, and a tree.
pub record CanBeRead (shape : Shape) (metadata : List Bytes) : Type 0 where
  pub stored : Stored
  pub represents : Represents metadata stored.root stored.found
  pub sizes : AreSameSizes stored.root.geometry shape.geometry

-- whatever a crash leaves of the metadata represents a root and a tree
abbrev pub MetadataAreRead : (P A : Type 0) → Type 0
MetadataAreRead P A = InEveryRun P A (λ shape metadata hs. (sectors : List Bytes) → MayLeave (after_all shape (start shape metadata) hs).devices.metadata sectors → CanBeRead shape sectors)

-- the root that a reading knows, once it has read one sector more of these metadata, has these sizes
abbrev pub FindsSizes : {A : Type 0} → Geometry → ReadSteps A → List History → Type 0
FindsSizes {A} geometry was metadata = (now : ReadSteps A) → ReadingGoesOn was metadata now → (root : Root) → known_root now ≡ Some root → AreSameSizes root.geometry geometry

-- an opening that reads finds it
abbrev pub OpeningFinds : {P A : Type 0} → Geometry → State P A → Type 0
OpeningFinds {P} {A} geometry w = (mode : Mode) (was : ReadSteps A) → w.phase ≡ Opens mode (Some was) → w.commit ≡ None → FindsSizes geometry was w.devices.metadata

-- metadata keep the sizes that they were formatted for; their version may become the second
abbrev pub MetadataKeepSizes : (P A : Type 0) → Type 0
MetadataKeepSizes P A = InEveryRun P A (λ shape metadata hs. OpeningFinds shape.geometry (after_all shape (start shape metadata) hs))

-- this holds of each happening of a run and of what is noted before it
abbrev pub AllAlong : {P A : Type 0} → (Notes → Event → What → Type 0) → Shape → State P A → Notes → List (Happening P A) → Type 0
AllAlong Holds shape w n [] = Unit {0}
AllAlong Holds shape w n (h ∷ hs) = Holds n h.record_is.event h.record_is.what × AllAlong Holds shape (after_happening shape w h) (note_happening shape w n h) hs

-- An opening that is refused has a cause: a step of it has failed on that device, memory was wanted, no generation is left, or in passthrough the
-- metadata were not left clean.
abbrev pub RefusedBy : Doing → Job → Refusal → Type 0
RefusedBy doing (Open mode second) refusal = MayRefuse doing refusal
RefusedBy doing job refusal = Unit {0}

abbrev pub RefusedRightly : Option (Option Doing) → Refusal → Type 0
RefusedRightly (Some (Some doing)) refusal = RefusedBy doing doing.job refusal
RefusedRightly doing refusal = Unit {0}

abbrev pub RefusesByCause : Notes → Event → What → Type 0
RefusesByCause n (Step a) (Stepped (End (Refuses refusal)) got) = RefusedRightly (slice_get n.doings a) refusal
RefusesByCause n event what = Unit {0}

-- no opening is refused for anything else that the metadata hold
abbrev pub OpeningsRefuseByCause : (P A : Type 0) → Type 0
OpeningsRefuseByCause P A = InEveryRun P A (λ shape metadata hs. AllAlong RefusesByCause shape (start shape metadata) (formatted shape) hs)

-- A read that is answered done was given each of its sectors exactly once, and a write that is has entered each of its own so.
abbrev pub IsCovered : Doing → Job → Answer → Type 0
IsCovered doing (Read extent) Finished = IsPermutation (sectors_in extent) (map (λ (r : Reading). r.sector) doing.readings)
IsCovered doing (Write extent content) Finished = IsPermutation (sectors_in extent) (map (λ (p : Position). p.sector) doing.entered)
IsCovered doing job answer = Unit {0}

abbrev pub DoingCovers : Option (Option Doing) → Answer → Type 0
DoingCovers (Some (Some doing)) answer = IsCovered doing doing.job answer
DoingCovers doing answer = ⊥

-- only an actor that is at something answers
abbrev pub AnswerCovers : Notes → Event → What → Type 0
AnswerCovers n (Step a) (Stepped (End answer) got) = DoingCovers (slice_get n.doings a) answer
AnswerCovers n event what = Unit {0}

-- so it is of every answer of a run
abbrev pub AnswersCoverTheirSectors : (P A : Type 0) → Type 0
AnswersCoverTheirSectors P A = InEveryRun P A (λ shape metadata hs. AllAlong AnswerCovers shape (start shape metadata) (formatted shape) hs)

-- in every run an event is skipped only where it does not apply
abbrev pub EventsSkipRightly : (P A : Type 0) → Type 0
EventsSkipRightly P A = InEveryRun P A (λ shape metadata hs. AllSkipRightly shape (start shape metadata) hs)
