-- What the abstract world's clerk notes of the steps of an actor's task.
use Rattle.std.proofs.Common.{◌≡◌, ◌≢◌, ◌<◌, ◌≤◌, ◌+◌, ◌*◌, ◌∙◌, ◌++◌, inl, inr, ℕ, zero, suc, Bool, false, cond, List, [], ◌∷◌, Option, Some, None, length, map, refl, sym, ap, subst, arith, slice_get, unwrap_or, true}
use Rattle.std.proofs.lemmas.Bool.{cases_eq, lt-ltb}
use Rattle.std.proofs.lemmas.Option.{slice_get-get_or}
use Rattle.wb_types.specs.Extents.{rising}
use Rattle.wb_types.specs.declared.mode.Mode.{Mode}
use Rattle.wb_types.specs.declared.mode.Mode.TheVariants.{Writeback, Writethrough, Passthrough}
use Rattle.wb_disk.specs.Device.{Content, History, added, newest, only, written, grown}
use Rattle.wb_contents.specs.Volume.{changed, changed_at}
use Rattle.wb_contents.specs.Devices.{by_block}
use Rattle.wb_contents.proofs.Devices.{write_is_act}
use Rattle.wb_contents.proofs.Positions.{changed_same, changed_other}
use Rattle.wb_link.specs.Tables.{Script, Job, Reading, Writing, Writing_through, Flushing, Suspending, Want, Read_all, Write_all, End, Got, Gave, abstract_want, abstract_after}
use Rattle.wb_link.specs.World.{AreAlike, Step, task_after}
use Rattle.wb_link.specs.Clerk.{AbstractNotes, Entry, entry, added_each, entered_each, abstract_note, abstract_noted_step, histories_after, entered_after, finished_after, abstract_floors_after, job_noted, AbstractGivesLatest}
use Rattle.wb_refines.specs.Going.{records}
use Rattle.wb_refines.specs.Translation.{writing_in, reading_in}
use Rattle.wb_promise.specs.Clerk.{Position, Entering, enter, enter_each, next_position}
use Rattle.wb_link.proofs.Actors.{job_on}
use Rattle.wb_simulation.specs.Noting.{AreEntries}
use Rattle.wb_simulation.specs.Noted.{told, AreNewest}
use Rattle.wb_simulation.specs.Telling.{IsUnnoted, AreUnnoted, NotesAt}
use Rattle.wb_simulation.specs.Worlds.{zeros}
use Rattle.wb_simulation.proofs.Counts.{one_entry_more}

-- what was there is put there again
pub changed_nothing : {X : Type 0} (f : ℕ → X) (a : ℕ) (v : X) → f a ≡ v → changed f a v ≡ f
changed_nothing f a v e = λ i b. at b i
  where
    at : (b : ℕ) → changed f a v b ≡ f b
    at b = elim (cases_eq b a) [
      | inl s ↦ ap (changed f a v) s ∙ changed_same f a v ∙ sym e ∙ ap f (sym s)
      | inr n ↦ changed_other f a b v n
    ]

-- ---- steps of which nothing is noted

histories_stay : (h : ℕ → ℕ → History) (job : Job) (w : Want) → IsUnnoted w job → histories_after h job w ≡ h
histories_stay h (Writing past b all c) (Write_all None b' os) u = absurd u
histories_stay h (Writing past b all c) (Write_all (Some k) b' os) u = absurd u
histories_stay h (Writing_through b all c) (Write_all None b' os) u = absurd u
histories_stay h (Writing_through b all c) (Write_all (Some k) b' os) u = refl
histories_stay h job w u = refl

entered_stay : (h : ℕ → ℕ → History) (job : Job) (w : Want) (es : List Entry) → IsUnnoted w job → entered_after h job w es ≡ es
entered_stay h (Writing past b all c) (Write_all None b' os) es u = absurd u
entered_stay h (Writing past b all c) (Write_all (Some k) b' os) es u = absurd u
entered_stay h (Writing_through b all c) (Write_all None b' os) es u = absurd u
entered_stay h (Writing_through b all c) (Write_all (Some k) b' os) es u = refl
entered_stay h job w es u = refl

finished_stay : (job : Job) (w : Want) (es : List Entry) (f : ℕ → ℕ → ℕ) → IsUnnoted w job → finished_after job w es f ≡ f
finished_stay (Writing past b all c) (End answer) es f u = absurd u
finished_stay (Writing_through b all c) (End answer) es f u = absurd u
finished_stay job w es f u = refl

floors_stay : (job : Job) (w : Want) (asked floors : ℕ → ℕ → ℕ) → IsUnnoted w job → (b o : ℕ) → abstract_floors_after job w asked floors b o ≡ floors b o
floors_stay (Flushing order) (End answer) asked floors u b o = absurd u
floors_stay Suspending (End answer) asked floors u b o = absurd u
floors_stay job w asked floors u b o = refl

job_stays : (job : Job) (w : Want) → IsUnnoted w job → job_noted job w ≡ Some job
job_stays job (End answer) u = absurd u
job_stays job w u = refl

pub unnoted : (m : AbstractNotes) (a : ℕ) (job : Job) (w : Want) (got : Got) → m.jobs a ≡ Some job → IsUnnoted w job → abstract_note m (Step a w got) ≡ m
unnoted m a job w got e u = ap (λ (o : Option Job). abstract_noted_step m a o w) e ∙ (λ i. record {
  histories = histories_stay m.histories job w u i;
  finished = finished_stay job w (m.entered a) m.finished u i;
  floors = λ b o. floors_stay job w (m.asked a) m.floors u b o i;
  jobs = (ap (λ (o : Option Job). changed m.jobs a o) (job_stays job w u) ∙ changed_nothing m.jobs a (Some job) e) i;
  entered = (ap (λ (es : List Entry). changed m.entered a es) (entered_stay m.histories job w (m.entered a) u) ∙ changed_nothing m.entered a (m.entered a) refl) i;
  asked = m.asked;
})

-- this is its job
abbrev pub IsJob : AbstractNotes → ℕ → Option Script → Type 0
IsJob m a None = Unit {0}
IsJob m a (Some script) = m.jobs a ≡ Some script.job

pub task_stays : (script : Script) (w : Want) (got : Got) → IsUnnoted w script.job → task_after script w got ≡ Some (abstract_after script got)
task_stays script (End answer) got u = absurd u
task_stays script w got u = refl

pub untold : (gots : List Got) (task : Option Script) (m : AbstractNotes) (a : ℕ) → IsJob m a task → AreUnnoted task gots → told m (records a task gots) ≡ m
untold gots None m a j u = refl
untold [] (Some script) m a j u = refl
untold (got ∷ gots) (Some script) m a j u =
    let is = task_stays script (abstract_want script) got u.0 in
    let later : IsJob m a (task_after script (abstract_want script) got) = subst (λ (t : Option Script). IsJob m a t) (sym is) (j ∙ ap (λ (k : Job). Some k) (sym (job_on script got))) in
    ap (λ (k : AbstractNotes). told k (records a (task_after script (abstract_want script) got) gots)) (unnoted m a script.job (abstract_want script) got j u.0) ∙ untold gots (task_after script (abstract_want script) got) m a later u.1

-- ---- reads

-- what a read is given is right, each sector by itself
alike_newest : (histories : ℕ → ℕ → History) (b : ℕ) (there : ℕ → Content) (count o : ℕ) → AreAlike (rising o count) there (λ i. newest (histories b i)) → AreNewest histories b o (map there (rising o count))
alike_newest histories b there zero o k = tt
alike_newest histories b there (suc count) o k = (k.0, alike_newest histories b there count (o + 1) k.1)

-- whether a read is past the cache
abbrev pub is_past : Mode → Bool
is_past Passthrough = true
is_past mode = false

pub reads_past : (mode : Mode) (b : ℕ) (all : List (List ℕ)) → reading_in mode b all ≡ Reading (is_past mode) b all
reads_past Writeback b all = refl
reads_past mode b all = refl

pub reads_newest : (mode : Mode) (location : Option ℕ) (b : ℕ) (all : List (List ℕ)) (contents : List Content) (there : ℕ → Content) (o : ℕ) (m : AbstractNotes) (a : ℕ) → m.jobs a ≡ Some (reading_in mode b all) → contents ≡ map there (rising o (length contents)) →
    AbstractGivesLatest m.histories (m.jobs a) (Read_all location b (rising o (length contents))) (Gave there) → AreNewest m.histories b o contents
reads_newest mode location b all contents there o m a j is r = subst (λ (cs : List Content). AreNewest m.histories b o cs) (sym is) (alike_newest m.histories b there (length contents) o (subst (λ (k : Option Job). AbstractGivesLatest m.histories k (Read_all location b (rising o (length contents))) (Gave there)) (j ∙ ap (λ (k : Job). Some k) (reads_past mode b all)) r))

-- ---- writes

-- a sector that a device has, or does not have: the position that its next content gets
next_there : (size : ℕ) (h : List History) (b o : ℕ) → o < size → b * size + o < length h → length (by_block size zeros h b o).later + 1 ≡ next_position (slice_get h (b * size + o))
next_there size h b o l inside =
    let found = slice_get-get_or h (b * size + o) (only zeros) inside in
    ap (λ (t : Bool). length (cond t (unwrap_or (slice_get h (b * size + o)) (only zeros)) (only zeros)).later + 1) (lt-ltb o size l)
    ∙ ap (λ (v : Option History). length (unwrap_or v (only zeros)).later + 1) found ∙ sym (ap next_position found)

-- What is noted of a write: these histories and entries; and nothing else.
pub record Wrote (size sectors a : ℕ) (m m' : AbstractNotes) (e : Entering) : Type 0 where
  pub histories : m'.histories ≡ by_block size zeros e.histories
  pub entered : AreEntries size sectors e.entered (m'.entered a)
  pub others : (b : ℕ) → b ≢ a → m'.entered b ≡ m.entered b
  pub jobs : m'.jobs ≡ m.jobs
  pub asked : m'.asked ≡ m.asked
  pub finished : m'.finished ≡ m.finished
  pub floors : m'.floors ≡ m.floors

pub length-written : (h : List History) (at : ℕ) (c : Content) → length (written h at c) ≡ length h
length-written [] at c = refl
length-written (x ∷ xs) zero c = refl
length-written (x ∷ xs) (suc at) c = by (slice_get xs at) (length-written xs at c)
  where
    by : (found : Option History) → length (grown found c xs at) ≡ length xs → length (grown found c (x ∷ xs) (suc at)) ≡ suc (length xs)
    by None e = refl
    by (Some h) e = ap suc e

-- an extent's sectors, one after the other
each_written : (size b : ℕ) (c : Content) (count o : ℕ) (f : ℕ → ℕ → History) (es : List Entry) (h : List History) (entered : List Position) → f ≡ by_block size zeros h → AreEntries size (length h) entered es → o + count ≤ size → b * size + o + count ≤ length h →
    (added_each f b (rising o count) c ≡ by_block size zeros (enter_each c (rising (b * size + o) count) (record { histories = h; entered = entered })).histories)
    × AreEntries size (length h) (enter_each c (rising (b * size + o) count) (record { histories = h; entered = entered })).entered (entered_each f b (rising o count) c es)
each_written size b c zero o f es h entered here are l inside = (here, are)
each_written size b c (suc count) o f es h entered here are l inside =
    let at = b * size + o in
    let as_long : length (written h at c) ≡ length h = length-written h at c in
    let next : b * size + (o + 1) ≡ at + 1 = omega arith in
    let position = next_position (slice_get h at) in
    let one = subst (λ (p : ℕ). AreEntries size (length h) (entered ++ record { sector = at; position = position } ∷ []) (record { block = b; offset = o; position = p } ∷ es)) (sym (ap (λ (g : ℕ → ℕ → History). length (g b o).later + 1) here ∙ next_there size h b o (omega (arith, l)) (omega (arith, inside))))
    (one_entry_more size (length h) b o position entered es (omega (arith, l)) (omega (arith, inside)) are) in
    let later = each_written size b c count (o + 1) (changed_at f b o (added (f b o) c)) (entry f b o ∷ es) (written h at c) (entered ++ record { sector = at; position = position } ∷ [])
    (ap (λ (g : ℕ → ℕ → History). changed_at g b o (added (g b o) c)) here ∙ sym (write_is_act size zeros h b o c (omega (arith, l)) (omega (arith, inside))))
    (subst (λ (k : ℕ). AreEntries size k (entered ++ record { sector = at; position = position } ∷ []) (entry f b o ∷ es)) (sym as_long) one) (omega (arith, l)) (omega (arith, inside, as_long)) in
    let there = subst (λ (k : ℕ). (added_each (changed_at f b o (added (f b o) c)) b (rising (o + 1) count) c ≡ by_block size zeros (enter_each c (rising k count) (enter c at (record { histories = h; entered = entered }))).histories)
    × AreEntries size (length (written h at c)) (enter_each c (rising k count) (enter c at (record { histories = h; entered = entered }))).entered (entered_each (changed_at f b o (added (f b o) c)) b (rising (o + 1) count) c (entry f b o ∷ es))) next later in
    (there.0, subst (λ (k : ℕ). AreEntries size k (enter_each c (rising at (suc count)) (record { histories = h; entered = entered })).entered (entered_each f b (rising o (suc count)) c es)) as_long there.1)

-- what is noted of a write where it is, whichever of both it is there
pub record WritesHere (mode : Mode) (b : ℕ) (all : List (List ℕ)) (c : Content) (to : Option ℕ) : Type 0 where
  pub histories : (h : ℕ → ℕ → History) (os : List ℕ) → histories_after h (writing_in mode b all c) (Write_all to b os) ≡ added_each h b os c
  pub entered : (h : ℕ → ℕ → History) (os : List ℕ) (es : List Entry) → entered_after h (writing_in mode b all c) (Write_all to b os) es ≡ entered_each h b os c es
  pub finished : (os : List ℕ) (es : List Entry) (f : ℕ → ℕ → ℕ) → finished_after (writing_in mode b all c) (Write_all to b os) es f ≡ f
  pub floors : (os : List ℕ) (asked floors : ℕ → ℕ → ℕ) → (λ i o. abstract_floors_after (writing_in mode b all c) (Write_all to b os) asked floors i o) ≡ floors

pub writes_here : (mode : Mode) (b : ℕ) (all : List (List ℕ)) (c : Content) (to : Option ℕ) → NotesAt mode to → WritesHere mode b all c to
writes_here Writethrough b all c (Some k) n = absurd n
writes_here mode b all c to n = record { histories = λ h os. refl; entered = λ h os es. refl; finished = λ os es f. refl; floors = λ os asked floors. refl }

-- the notes after a write's step that is noted, whatever came of it
pub writes_told : (size : ℕ) (mode : Mode) (to : Option ℕ) (b : ℕ) (all : List (List ℕ)) (c : Content) (a count : ℕ) (got : Got) (o : ℕ) (m : AbstractNotes) (h : List History) (entered : List Position) → NotesAt mode to →
    m.jobs a ≡ Some (writing_in mode b all c) → m.histories ≡ by_block size zeros h → AreEntries size (length h) entered (m.entered a) → o + count ≤ size → b * size + o + count ≤ length h →
    Wrote size (length h) a m (abstract_note m (Step a (Write_all to b (rising o count)) got)) (enter_each c (rising (b * size + o) count) (record { histories = h; entered = entered }))
writes_told size mode to b all c a count got o m h entered notes j here are l inside = subst (λ (m' : AbstractNotes). Wrote size (length h) a m m' (enter_each c (rising (b * size + o) count) (record { histories = h; entered = entered }))) (sym (ap (λ (k : Option Job). abstract_noted_step m a k (Write_all to b (rising o count))) j)) (record {
  histories = k.histories m.histories (rising o count) ∙ each.0;
  entered = subst (λ (es : List Entry). AreEntries size (length h) (enter_each c (rising (b * size + o) count) (record { histories = h; entered = entered })).entered es)
      (sym (changed_same m.entered a (entered_after m.histories (writing_in mode b all c) (Write_all to b (rising o count)) (m.entered a)) ∙ k.entered m.histories (rising o count) (m.entered a))) each.1;
  others = λ i n. changed_other m.entered a i (entered_after m.histories (writing_in mode b all c) (Write_all to b (rising o count)) (m.entered a)) n;
  jobs = changed_nothing m.jobs a (Some (writing_in mode b all c)) j;
  asked = refl;
  finished = k.finished (rising o count) (m.entered a) m.finished;
  floors = k.floors (rising o count) (m.asked a) m.floors;
})
  where
    k : WritesHere mode b all c to
    k = writes_here mode b all c to notes

    each : (added_each m.histories b (rising o count) c ≡ by_block size zeros (enter_each c (rising (b * size + o) count) (record { histories = h; entered = entered })).histories)
        × AreEntries size (length h) (enter_each c (rising (b * size + o) count) (record { histories = h; entered = entered })).entered (entered_each m.histories b (rising o count) c (m.entered a))
    each = each_written size b c count o m.histories (m.entered a) h entered here are l inside
