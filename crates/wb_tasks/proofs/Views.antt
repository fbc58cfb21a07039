-- From the fields of a task to what its contract says.
use Rattle.std.proofs.Common.{◌≡◌, ◌++◌, ℕ, Bool, true, false, if◌then◌else◌, List, [], ◌∷◌, Option, Some, None, map, refl, sym, ap, subst, ◌∙◌}
use Rattle.wb_types.specs.Extents.{pieces}
use Rattle.wb_types.specs.declared.extent.Extent.{Extent}
use Rattle.wb_types.specs.declared.mode.Mode.{Mode}
use Rattle.wb_types.specs.declared.mode.Dev.{Dev}
use Rattle.wb_types.specs.declared.mode.Dev.TheVariants.{Cache, Origin}
use Rattle.wb_types.specs.declared.number.CBlock.{CBlock}
use Rattle.wb_types.specs.declared.refusal.Refusal.{Refusal}
use Rattle.wb_types.specs.declared.refusal.Refusal.TheVariants.{Busy, Io}
use Rattle.wb_words.specs.declared.word.Access.{Access}
use Rattle.wb_words.specs.declared.step.CellStep.TheVariants.{Seal}
use Rattle.wb_words.specs.declared.grip.GripStage.{GripStage}
use Rattle.wb_words.specs.declared.grip.GripStage.TheVariants.{LookFail, LookLock, Exchange, LookSeal, LookNumber}
use Rattle.wb_tasks.specs.Tables.{BlockRange, BlockJob, OnBlock, Writing, access_of, is_write, device_at, cache_extent, places_written, dirtying, is_deferred, read_step, write_step, writes, writing}
use Rattle.wb_tasks.specs.Plan.{Plan, want, after, after_look, first_step, later_steps, Fits, IsRare}
use Rattle.wb_tasks.specs.Phases.{job_on_block, acquiring, after_seeing, write_end, writes_left, written_mode, steps_in, left_in, has_order}
use Rattle.wb_tasks.proofs.Modes.{IsWriting, deferred_or_not, some_written}
use Rattle.wb_tasks.specs.declared.acquire.Seen.{Seen}
use Rattle.wb_tasks.specs.declared.acquire.Seen.TheVariants.{Holds}
use Rattle.wb_tasks.specs.declared.block.BlockTask.TheInside.{Inside}
use Rattle.wb_tasks.specs.declared.block.Work.{Work}
use Rattle.wb_tasks.specs.declared.block.Work.TheVariants.{Read as ToRead, Write as ToWrite, Displace as ToDisplace, Invalidate as ToInvalidate, Migrate as ToMigrate}
use Rattle.wb_tasks.specs.declared.block.Phase.{Phase}
use Rattle.wb_tasks.specs.declared.block.Phase.TheVariants.{Acquires, Dirties, Drops, SealsHome, Reads, Writes, Mirrors, Counts, Copies, Puts, Seals, Releases, GivesUp, SetsFailed, Ended}
use Rattle.wb_tasks.specs.declared.step.Migration.TheVariants.{Promote, Demote, Clean}
use Rattle.wb_tasks.specs.declared.step.DeskStep.TheVariants.{Arrive, Ask, BeginCommit}
use Rattle.wb_tasks.specs.declared.step.DeviceStep.TheVariants.{Write, ReadMetadata}
use Rattle.wb_tasks.specs.declared.step.Want.{Want}
use Rattle.wb_tasks.specs.declared.step.Want.TheVariants.{Cell, Device, Desk}
use Rattle.wb_tasks.specs.declared.step.Answer.TheVariants.{Done as Finished, Refused as Refuses}
use Rattle.wb_tasks.specs.declared.step.Got.{Got}
use Rattle.wb_tasks.specs.declared.step.Got.TheVariants.{Word, Lost, Fault, Refused, Began, Ticket, Served, More}

-- what is shown of the fields' view holds of the value
pub by_view : (v old new : Plan) (got : Got) → v ≡ old → Fits (want old) got → (Fits (want v) got → new ≡ after v got) → new ≡ after old got
by_view v old new got e h f = f (subst (λ (s : Plan). Fits (want s) got) (sym e) h) ∙ ap (λ s. after s got) e

-- the sectors of its block that a task is on
abbrev pub part_of : Inside → BlockRange
part_of t = record { mode = t.mode; block_sectors = t.block_sectors; block = t.block; extents = pieces t.longest t.sectors }

-- a job that has its block stands where what it saw leaves it
left_by_look : (work : Work) (part : BlockRange) (now left : Phase) (stage : GripStage) (extents : List Extent) (old : Plan) (word : ℕ) (seen : Seen) → now ≡ Acquires stage → left_in work part now extents ≡ old → Fits (want old) (Word word) →
    (Fits (want (acquiring (job_on_block work part) stage)) (Word word) → after_seeing (job_on_block work part) seen ≡ after_look (acquiring (job_on_block work part) stage) (want (acquiring (job_on_block work part) stage)) word) →
    left_in work part left part.extents ≡ after_seeing (job_on_block work part) seen → left_in work part left part.extents ≡ after_look old (want old) word
left_by_look work part now left stage extents old word seen e is f saw stands =
    let at : acquiring (job_on_block work part) stage ≡ old = ap (λ (p : Phase). left_in work part p extents) (sym e) ∙ is in
    stands ∙ saw (subst (λ (s : Plan). Fits (want s) (Word word)) (sym at) f) ∙ ap (λ (s : Plan). after_look s (want s) word) at

-- so of a task whose block stands at this place: it stands where work of its kind goes on from there
pub left_by_holding : {old : Plan} {stage : GripStage} {seen : Seen} {access : Access} {writing : Bool} {place : Option CBlock} {dirty : Bool} (t : Inside) (kind : Work) (left : Phase) (word : ℕ) →
    t.phase ≡ Acquires stage → left_in t.work (part_of t) t.phase (pieces t.longest t.left) ≡ old → Fits (want old) (Word word) →
    ((job : BlockJob) → access_of job ≡ access → is_write job ≡ writing → Fits (want (acquiring job stage)) (Word word) → after_seeing job seen ≡ after_look (acquiring job stage) (want (acquiring job stage)) word) →
    ((part : BlockRange) → access ≡ access_of (job_on_block t.work part)) → ((part : BlockRange) → writing ≡ is_write (job_on_block t.work part)) →
    t.work ≡ kind → seen ≡ Holds place dirty → left_in kind (part_of t) left (part_of t).extents ≡ after_seeing (job_on_block kind (part_of t)) (Holds place dirty) → left_in t.work (part_of t) left (part_of t).extents ≡ after_look old (want old) word
left_by_holding {old} {stage} {seen} t kind left word acquires is fits saw takes wants does holds goes =
    let part : BlockRange = part_of t in
    left_by_look t.work part t.phase left stage (pieces t.longest t.left) old word seen acquires is fits (saw (job_on_block t.work part) (sym (takes part)) (sym (wants part)))
    (ap (λ (w : Work). left_in w part left part.extents) does ∙ goes ∙ (λ i. after_seeing (job_on_block (sym does i) part) (sym holds i)))

-- a copy in the cache is sealed dirty first, where that is due
abbrev marks_first : BlockRange → CBlock → Bool → List Want
marks_first part c due = if due then (Cell (Seal part.block (Some c) true) ∷ []) else []

-- a write of a mapped block that is not deferred stands where its copy is sealed dirty, or where its sectors are written
writing_at : (part : BlockRange) (c : CBlock) (dirty due : Bool) → is_deferred part.mode (Some c) ≡ false → dirtying part.mode part.block (Some c) dirty ≡ marks_first part c due →
    left_in ToWrite part (if due then Dirties c else Writes (Some c)) part.extents ≡ after_seeing (Writing part) (Holds (Some c) dirty)
writing_at part c dirty due goes marks = by_due due marks
  where
    does : IsWriting false part.mode part (Some c) dirty
    does = subst (λ (b : Bool). IsWriting b part.mode part (Some c) dirty) goes (deferred_or_not part.mode part (Some c) dirty)

    steps : (first : List Want) → dirtying part.mode part.block (Some c) dirty ≡ first → first ++ writes_left ToWrite part (Some c) part.extents ≡ writing part.mode part (Some c) dirty
    steps first marks = sym (does.0 ∙ ap (λ (ws : List Want). ws ++ writes_left ToWrite part (Some c) part.extents) marks)

    by_due : (due : Bool) → dirtying part.mode part.block (Some c) dirty ≡ marks_first part c due → left_in ToWrite part (if due then Dirties c else Writes (Some c)) part.extents ≡ after_seeing (Writing part) (Holds (Some c) dirty)
    by_due true marks = λ i. record { job = OnBlock (Writing part); steps = steps _ marks i; answer = sym does.1 i }
    by_due false marks = λ i. record { job = OnBlock (Writing part); steps = steps _ marks i; answer = sym does.1 i }

pub left_by_writing : (part : BlockRange) (mode : Mode) (place : Option CBlock) (c : CBlock) (dirty due : Bool) → part.mode ≡ mode → place ≡ Some c → is_deferred mode place ≡ false → dirtying mode part.block (Some c) dirty ≡ marks_first part c due →
    left_in ToWrite part (if due then Dirties c else Writes (Some c)) part.extents ≡ after_seeing (Writing part) (Holds place dirty)
left_by_writing part mode place c dirty due same at goes marks =
    rw at (writing_at part c dirty due (ap (λ (m : Mode). is_deferred m (Some c)) same ∙ ap (is_deferred mode) (sym at) ∙ goes) (ap (λ (m : Mode). dirtying m part.block (Some c) dirty) same ∙ marks))

-- where a write puts an extent of a block at this place first, and that it puts it at that place then
abbrev pub IsWritten : Work → BlockRange → Option CBlock → Option CBlock → Bool → Type 0
IsWritten work part place to again = places_written (written_mode work part.mode) place ≡ to ∷ (if again then place ∷ [] else [])

-- the steps of a write, with an extent before those that are left, where that is put at these places
abbrev writes_at : Work → BlockRange → Option CBlock → Extent → List Extent → List (Option CBlock) → List Want
writes_at work part place e extents places = (map (λ to. write_step part to e) places ++ writes part (places_written (written_mode work part.mode) place) extents) ++ write_end work part place

-- What holds of every write of an extent holds of one at a place, and of the next step of a write that has an extent left.
at_place : (part : BlockRange) (place : Option CBlock) (e : Extent) (Q : Want → Type 0) → ((device : Dev) (x : Extent) → Q (Device (Write device x))) → Q (write_step part place e)
at_place part None e Q q = q Origin e
at_place part (Some c) e Q q = q Cache (cache_extent part c e)

at_first : (part : BlockRange) (mode : Mode) (place : Option CBlock) (e : Extent) (us ws : List Want) (Q : Want → Type 0) → ((device : Dev) (x : Extent) → Q (Device (Write device x))) → Q (first_step ((map (λ to. write_step part to e) (places_written mode place) ++ us) ++ ws) Finished)
at_first part mode place e us ws Q q = some_written mode place (λ (places : List (Option CBlock)). Q (first_step ((map (λ to. write_step part to e) places ++ us) ++ ws) Finished)) (λ first later. at_place part first e Q q)

-- What a fault leaves of a job that reads at this place, and of one that writes there.
after_failed_read : (work : Work) (part : BlockRange) (place : Option CBlock) (e : Extent) (ws : List Want) (extents : List Extent) →
    left_in work part (Releases (has_order work) (Refuses (Io (device_at place)))) extents ≡ after (record { job = OnBlock (job_on_block work part); steps = read_step part place e ∷ ws; answer = Finished }) Fault
after_failed_read ToRead part None e ws extents = refl
after_failed_read ToRead part (Some c) e ws extents = refl
after_failed_read ToWrite part None e ws extents = refl
after_failed_read ToWrite part (Some c) e ws extents = refl
after_failed_read ToDisplace part None e ws extents = refl
after_failed_read ToDisplace part (Some c) e ws extents = refl
after_failed_read ToInvalidate part None e ws extents = refl
after_failed_read ToInvalidate part (Some c) e ws extents = refl
after_failed_read (ToMigrate migration) part None e ws extents = refl
after_failed_read (ToMigrate migration) part (Some c) e ws extents = refl

after_failed_write : (work : Work) (part : BlockRange) (place : Option CBlock) (e : Extent) (ws : List Want) (extents : List Extent) →
    left_in work part (SetsFailed (device_at place)) extents ≡ after (record { job = OnBlock (job_on_block work part); steps = write_step part place e ∷ ws; answer = Finished }) Fault
after_failed_write work part None e ws extents = refl
after_failed_write work part (Some c) e ws extents = refl

-- the phase that a fault in a phase leaves, where that has a step on a device
abbrev pub FailsTo : Work → BlockRange → Phase → Phase → Type 0
FailsTo work part (Reads place) left = left ≡ Releases (has_order work) (Refuses (Io (device_at place)))
FailsTo work part (Copies from to) left = left ≡ Releases (has_order work) (Refuses (Io (device_at from)))
FailsTo work part (Writes place) left = (to : Option CBlock) × (again : Bool) × IsWritten work part place to again × (left ≡ SetsFailed (device_at to))
FailsTo work part (Mirrors place e) left = left ≡ SetsFailed (device_at place)
FailsTo work part (Puts from to e) left = left ≡ SetsFailed (device_at to)
FailsTo work part phase left = ⊥

after_failed : (work : Work) (part : BlockRange) (phase left : Phase) (extents : List Extent) → FailsTo work part phase left → Fits (want (left_in work part phase extents)) Fault → left_in work part left extents ≡ after (left_in work part phase extents) Fault
after_failed work part (Reads None) left [] f h = absurd h
after_failed work part (Reads (Some c)) left [] f h = absurd h
after_failed work part (Reads place) left (e ∷ extents) f h = rw f (after_failed_read work part place e (later_steps (steps_in work part (Reads place) (e ∷ extents))) (e ∷ extents))
after_failed ToRead part (Copies from to) left [] f h = absurd h
after_failed ToWrite part (Copies from to) left [] f h = absurd h
after_failed ToDisplace part (Copies from to) left [] f h = absurd h
after_failed ToInvalidate part (Copies from to) left [] f h = absurd h
after_failed (ToMigrate (Promote c)) part (Copies from to) left [] f h = absurd h
after_failed (ToMigrate Demote) part (Copies from to) left [] f h = absurd h
after_failed (ToMigrate Clean) part (Copies from to) left [] f h = absurd h
after_failed work part (Copies from to) left (e ∷ extents) f h = rw f (after_failed_read work part from e (later_steps (steps_in work part (Copies from to) (e ∷ extents))) (e ∷ extents))
after_failed work part (Writes place) left [] f h = absurd h
after_failed work part (Writes place) left (e ∷ extents) f h =
    rw f.3 (subst (λ (us : List Want). left_in work part (SetsFailed (device_at f.0)) (e ∷ extents) ≡ after (record { job = OnBlock (job_on_block work part); steps = us; answer = Finished }) Fault)
    (ap (λ (places : List (Option CBlock)). writes_at work part place e extents places) (sym f.2))
    (after_failed_write work part f.0 e (later_steps (writes_at work part place e extents (f.0 ∷ (if f.1 then place ∷ [] else [])))) (e ∷ extents)))
after_failed work part (Mirrors place e) left extents f h = rw f (after_failed_write work part place e (later_steps (steps_in work part (Mirrors place e) extents)) extents)
after_failed work part (Puts from to e) left extents f h = rw f (after_failed_write work part to e (later_steps (steps_in work part (Puts from to e) extents)) extents)
after_failed work part phase left extents f h = absurd f

-- so of a task in that phase
pub left_by_fault : (work : Work) (part : BlockRange) (now phase left : Phase) (extents : List Extent) (old : Plan) → now ≡ phase → left_in work part now extents ≡ old → FailsTo work part phase left → Fits (want old) Fault → left_in work part left extents ≡ after old Fault
left_by_fault work part now phase left extents old e is f h = by_view _ _ _ Fault (ap (λ p. left_in work part p extents) (sym e) ∙ is) h (after_failed work part phase left extents f)

-- what the desk refused was an entry
pub after_refused_entry : (work : Work) (part : BlockRange) (phase : Phase) (extents : List Extent) (refusal : Refusal) → Fits (want (left_in work part phase extents)) (Refused refusal) →
    left_in work part (Releases (has_order work) (Refuses refusal)) extents ≡ after (left_in work part phase extents) (Refused refusal)
after_refused_entry (ToMigrate (Promote c)) part (Copies from to) [] refusal h = refl
after_refused_entry (ToMigrate Demote) part (Copies from to) [] refusal h = absurd h
after_refused_entry (ToMigrate Clean) part (Copies from to) [] refusal h = absurd h
after_refused_entry ToRead part (Copies from to) [] refusal h = absurd h
after_refused_entry ToWrite part (Copies from to) [] refusal h = absurd h
after_refused_entry ToDisplace part (Copies from to) [] refusal h = absurd h
after_refused_entry ToInvalidate part (Copies from to) [] refusal h = absurd h
after_refused_entry work part (Copies None to) (e ∷ extents) refusal h = absurd h
after_refused_entry work part (Copies (Some c) to) (e ∷ extents) refusal h = absurd h
after_refused_entry work part (Acquires LookFail) extents refusal h = absurd h
after_refused_entry work part (Acquires LookLock) extents refusal h = absurd h
after_refused_entry work part (Acquires (Exchange seen)) extents refusal h = absurd h
after_refused_entry work part (Acquires LookSeal) extents refusal h = absurd h
after_refused_entry work part (Acquires (LookNumber seal)) extents refusal h = absurd h
after_refused_entry work part (Dirties c) extents refusal h = absurd h
after_refused_entry work part (Drops c) extents refusal h = absurd h
after_refused_entry work part (SealsHome c) extents refusal h = absurd h
after_refused_entry work part (Reads None) [] refusal h = absurd h
after_refused_entry work part (Reads (Some c)) [] refusal h = absurd h
after_refused_entry work part (Reads None) (e ∷ extents) refusal h = absurd h
after_refused_entry work part (Reads (Some c)) (e ∷ extents) refusal h = absurd h
after_refused_entry work part (Writes place) [] refusal h = absurd h
after_refused_entry work part (Writes place) (e ∷ extents) refusal h = absurd (at_first part (written_mode work part.mode) place e _ (write_end work part place) (λ (w : Want). Fits w (Refused refusal) → ⊥) (λ device x k. k) h)
after_refused_entry work part (Mirrors None e) extents refusal h = absurd h
after_refused_entry work part (Mirrors (Some c) e) extents refusal h = absurd h
after_refused_entry work part (Counts None) extents refusal h = absurd h
after_refused_entry work part (Counts (Some c)) extents refusal h = absurd h
after_refused_entry work part (Puts from None e) extents refusal h = absurd h
after_refused_entry work part (Puts from (Some c) e) extents refusal h = absurd h
after_refused_entry work part (Seals place) extents refusal h = absurd h
after_refused_entry work part (Releases order answer) extents refusal h = absurd h
after_refused_entry work part (GivesUp answer) extents refusal h = absurd h
after_refused_entry work part (SetsFailed device) extents refusal h = absurd h
after_refused_entry work part (Ended answer) extents refusal h = absurd h

-- a step that neither asks for a commit nor reads metadata
abbrev IsAside : Want → Type 0
IsAside (Device (ReadMetadata left)) = ⊥
IsAside (Desk (Arrive most)) = ⊥
IsAside (Desk (Ask most)) = ⊥
IsAside (Desk (BeginCommit most)) = ⊥
IsAside want = Unit {0}

aside : (work : Work) (part : BlockRange) (phase : Phase) (extents : List Extent) → IsAside (want (left_in work part phase extents))
aside ToRead part (Copies from to) [] = tt
aside ToWrite part (Copies from to) [] = tt
aside ToDisplace part (Copies from to) [] = tt
aside ToInvalidate part (Copies from to) [] = tt
aside (ToMigrate (Promote c)) part (Copies from to) [] = tt
aside (ToMigrate Demote) part (Copies from to) [] = tt
aside (ToMigrate Clean) part (Copies from to) [] = tt
aside work part (Copies None to) (e ∷ extents) = tt
aside work part (Copies (Some c) to) (e ∷ extents) = tt
aside work part (Acquires LookFail) extents = tt
aside work part (Acquires LookLock) extents = tt
aside work part (Acquires (Exchange seen)) extents = tt
aside work part (Acquires LookSeal) extents = tt
aside work part (Acquires (LookNumber seal)) extents = tt
aside work part (Dirties c) extents = tt
aside work part (Drops c) extents = tt
aside work part (SealsHome c) extents = tt
aside work part (Reads None) [] = tt
aside work part (Reads (Some c)) [] = tt
aside work part (Reads None) (e ∷ extents) = tt
aside work part (Reads (Some c)) (e ∷ extents) = tt
aside work part (Writes place) [] = tt
aside work part (Writes place) (e ∷ extents) = at_first part (written_mode work part.mode) place e _ (write_end work part place) IsAside (λ device x. tt)
aside work part (Mirrors None e) extents = tt
aside work part (Mirrors (Some c) e) extents = tt
aside work part (Counts None) extents = tt
aside work part (Counts (Some c)) extents = tt
aside work part (Puts from None e) extents = tt
aside work part (Puts from (Some c) e) extents = tt
aside work part (Seals place) extents = tt
aside work part (Releases order answer) extents = tt
aside work part (GivesUp answer) extents = tt
aside work part (SetsFailed device) extents = tt
aside work part (Ended answer) extents = tt

never_begun : (w : Want) (nodes : ℕ) → IsAside w → Fits w (Began nodes) → ⊥
never_begun (Desk (Arrive most)) nodes a h = a
never_begun (Desk (Ask most)) nodes a h = a
never_begun (Desk (BeginCommit most)) nodes a h = a
never_begun (Device (ReadMetadata left)) nodes a h = a
never_begun w nodes a h = h

never_ticket : (w : Want) → IsAside w → Fits w Ticket → ⊥
never_ticket (Desk (Arrive most)) a h = a
never_ticket w a h = h

never_served : (w : Want) → IsAside w → Fits w Served → ⊥
never_served (Desk (Ask most)) a h = a
never_served w a h = h

never_more : (w : Want) → IsAside w → Fits w More → ⊥
never_more (Device (ReadMetadata left)) a h = a
never_more w a h = h

-- so of the results that one kind of step alone has, a lost exchange is left to it
pub lost : (work : Work) (part : BlockRange) (phase : Phase) (extents : List Extent) (got : Got) → IsRare got → Fits (want (left_in work part phase extents)) got → left_in work part (Ended (Refuses Busy)) extents ≡ after (left_in work part phase extents) got
lost work part phase extents Lost r h = refl
lost work part phase extents (Began nodes) r h = absurd (never_begun _ nodes (aside work part phase extents) h)
lost work part phase extents Ticket r h = absurd (never_ticket _ (aside work part phase extents) h)
lost work part phase extents Served r h = absurd (never_served _ (aside work part phase extents) h)
lost work part phase extents More r h = absurd (never_more _ (aside work part phase extents) h)
lost work part phase extents got r h = absurd r

-- it looks at words before it has its block alone
pub looks_first : (work : Work) (part : BlockRange) (phase : Phase) (extents : List Extent) (word : ℕ) → ((stage : GripStage) → phase ≡ Acquires stage → ⊥) → Fits (want (left_in work part phase extents)) (Word word) → ⊥
looks_first work part (Acquires stage) extents word n h = n stage refl
looks_first ToRead part (Copies from to) [] word n h = h
looks_first ToWrite part (Copies from to) [] word n h = h
looks_first ToDisplace part (Copies from to) [] word n h = h
looks_first ToInvalidate part (Copies from to) [] word n h = h
looks_first (ToMigrate (Promote c)) part (Copies from to) [] word n h = h
looks_first (ToMigrate Demote) part (Copies from to) [] word n h = h
looks_first (ToMigrate Clean) part (Copies from to) [] word n h = h
looks_first work part (Copies None to) (e ∷ extents) word n h = h
looks_first work part (Copies (Some c) to) (e ∷ extents) word n h = h
looks_first work part (Dirties c) extents word n h = h
looks_first work part (Drops c) extents word n h = h
looks_first work part (SealsHome c) extents word n h = h
looks_first work part (Reads None) [] word n h = h
looks_first work part (Reads (Some c)) [] word n h = h
looks_first work part (Reads None) (e ∷ extents) word n h = h
looks_first work part (Reads (Some c)) (e ∷ extents) word n h = h
looks_first work part (Writes place) [] word n h = h
looks_first work part (Writes place) (e ∷ extents) word n h = at_first part (written_mode work part.mode) place e _ (write_end work part place) (λ (w : Want). Fits w (Word word) → ⊥) (λ device x k. k) h
looks_first work part (Mirrors None e) extents word n h = h
looks_first work part (Mirrors (Some c) e) extents word n h = h
looks_first work part (Counts None) extents word n h = h
looks_first work part (Counts (Some c)) extents word n h = h
looks_first work part (Puts from None e) extents word n h = h
looks_first work part (Puts from (Some c) e) extents word n h = h
looks_first work part (Seals place) extents word n h = h
looks_first work part (Releases order answer) extents word n h = h
looks_first work part (GivesUp answer) extents word n h = h
looks_first work part (SetsFailed device) extents word n h = h
looks_first work part (Ended answer) extents word n h = h
