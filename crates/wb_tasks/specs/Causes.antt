-- For what a job may be refused.
use Rattle.std.specs.Prelude.{◌≡◌, ◌≢◌, ◌⊎◌, true, false, List, [], ◌∷◌}
use Rattle.wb_types.specs.declared.refusal.Refusal.{Refusal}
use Rattle.wb_types.specs.declared.refusal.Refusal.TheVariants.{Busy, Defer, Failed, Memory, Worn, NotFormatted, Damaged, Mismatch, NotClean, GenerationEnd, Io}
use Rattle.wb_words.specs.declared.word.Word.TheVariants.{Cell as LockWord, Seal as SealWord, Number, Fail}
use Rattle.wb_words.specs.declared.step.CellStep.TheVariants.{Look, Take}
use Rattle.wb_tasks.specs.Tables.{TaskJob}
use Rattle.wb_tasks.specs.Plan.{may_take, answer_seeing, is_worn, device_of}
use Rattle.wb_tasks.specs.declared.step.Answer.TheVariants.{Done as Finished, Refused as Refuses}
use Rattle.wb_tasks.specs.declared.step.Want.{Want}
use Rattle.wb_tasks.specs.declared.step.Want.TheVariants.{Cell, Device, Desk}
use Rattle.wb_tasks.specs.declared.step.Got.{Got}
use Rattle.wb_tasks.specs.declared.step.Got.TheVariants.{Word, Lost, Fault, Refused}

-- What a step has to give for a job to answer with a refusal: a fault of that device; a lock word that rules the exchange
-- out, a lost exchange, or a commit that is running; a seal by which the desk is needed first; a fail word that is set, or commits that are
-- broken; a desk, or a reading, without memory; a number that is used up, where one is wanted; metadata that were read and hold no mapping that can be opened; a generation
-- that has no next one.
abbrev pub Causes : TaskJob → Refusal → Want → Got → Type 0
Causes job (Io device) (Device step) Fault = device_of step ≡ device
Causes job Busy (Cell (Look (LockWord block))) (Word word) = may_take job word ≡ false
Causes job Busy (Cell (Take taken block seen)) Lost = Unit {0}
Causes job Busy (Desk step) (Refused given) = given ≡ Busy
Causes job Defer (Cell (Look (SealWord block))) (Word word) = answer_seeing job word Finished ≡ Refuses Defer
Causes job Failed (Cell (Look Fail)) (Word word) = word ≢ 0
Causes job Failed (Desk step) (Refused given) = given ≡ Failed
Causes job Memory (Desk step) (Refused given) = given ≡ Memory
Causes job Memory (Device step) (Refused given) = given ≡ Memory
Causes job Worn (Cell (Look (Number block))) (Word word) = is_worn job word ≡ true
Causes job NotFormatted (Device step) (Refused given) = given ≡ NotFormatted
Causes job (Damaged place) (Device step) (Refused given) = given ≡ Damaged place
Causes job Mismatch (Device step) (Refused given) = given ≡ Mismatch
Causes job NotClean (Device step) (Refused given) = given ≡ NotClean
Causes job GenerationEnd (Desk step) (Refused given) = given ≡ GenerationEnd
Causes job GenerationEnd (Device step) (Refused given) = given ≡ GenerationEnd
Causes job refusal want got = ⊥

-- one of these steps gave the cause
abbrev pub GaveCause : TaskJob → Refusal → List (Want × Got) → Type 0
GaveCause job refusal [] = ⊥
GaveCause job refusal (step ∷ steps) = Causes job refusal step.0 step.1 ⊎ GaveCause job refusal steps
