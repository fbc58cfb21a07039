-- Each result of a step fits it, so its actor has what is needed for what is left; and the rule of the words is kept.
use Rattle.wb_stage.specs.declared.share.Share.{Share}
use Rattle.wb_desk.specs.Sharing.{IsLeadRefused}
use Rattle.std.proofs.Common.{◌≡◌, ◌≢◌, inl, inr, ℕ, Bool, true, false, eqb, List, Option, Some, refl, sym, subst, if◌then◌else◌, ◌⊎◌}
use Rattle.wb_types.specs.declared.geometry.Geometry.{Geometry}
use Rattle.wb_types.specs.declared.mode.Dev.{Dev}
use Rattle.wb_types.specs.declared.mode.Dev.TheVariants.{Metadata}
use Rattle.wb_types.specs.declared.mode.Mode.{Mode}
use Rattle.wb_types.specs.declared.refusal.Refusal.{Refusal}
use Rattle.wb_types.specs.declared.refusal.Refusal.TheVariants.{Busy, Memory, GenerationEnd, Mismatch, NotFormatted, Damaged, Io, Failed}
use Rattle.wb_disk.specs.Device.{Content as Bytes, History}
use Rattle.wb_words.specs.declared.step.CellStep.{CellStep}
use Rattle.wb_words.specs.declared.step.CellStep.TheVariants.{Take}
use Rattle.wb_words.specs.declared.step.CellResult.TheVariants.{Done as Won, Lost as CellLost}
use Rattle.wb_words.specs.SharedWords.{Words, word_at}
use Rattle.wb_words.specs.Effects.{result_of}
use Rattle.wb_meta.specs.States.{IsOfReading}
use Rattle.wb_meta.specs.declared.read_steps.ReadSteps.{ReadSteps}
use Rattle.wb_desk.specs.Desks.{DeskState}
use Rattle.wb_desk.specs.Commits.{IsBeginRefused}
use Rattle.wb_tasks.specs.Plan.{Fits, IsStep, MayBeDone, got_of}
use Rattle.wb_tasks.specs.declared.step.DeviceStep.TheVariants.{Read as ReadExtent, Write as WriteExtent, Sync, ReadMetadata, WriteNode, WriteRoot}
use Rattle.wb_tasks.specs.declared.step.DeskStep.TheVariants.{Map, Unmap, ReleaseOrder, BeginCommit, EndCommit, Arrive, Ask, BreakCommit}
use Rattle.wb_tasks.specs.declared.step.Want.{Want}
use Rattle.wb_tasks.specs.declared.step.Want.TheVariants.{Cell, Device, Desk, End}
use Rattle.wb_tasks.specs.declared.step.Got.{Got}
use Rattle.wb_tasks.specs.declared.step.Got.TheVariants.{Done, Fault, Refused as GotRefused, Began, More, Ticket, Served}
use Rattle.wb_devices.specs.declared.running.RunningCommit.{RunningCommit}
use Rattle.wb_devices.specs.Opened.{HasCome, got_of_refusal}
use Rattle.wb_promise.specs.declared.job.Job.{Job}
use Rattle.wb_promise.specs.declared.job.Job.TheVariants.{Read, Write, Flush, Migrate, Invalidate}
use Rattle.wb_promise.specs.States.{Actor, Shape, State, Phase, Stands, Gone, Opens, OfTarget, OfReading}
use Rattle.wb_promise.specs.Happenings.{Chosen, Plain, Reaches, Commits, Asks, DoesRead, asks_second, DoesBegin, DoesMap, Gives, DoesArrive, DoesAsk}
use Rattle.wb_runs.proofs.Stepping.{metadata_fact, begin_fact, map_fact, sync_fact, node_fact, root_fact, arrive_fact, ask_fact}

-- ---- results

-- of a step on the words
pub cell_fits : (words : Words) (step : CellStep) → Fits (Cell step) (got_of (result_of words step))
cell_fits words (Take access b seen) = by_test (eqb (word_at words.cells b) seen)
  where
    by_test : (t : Bool) → Fits (Cell (Take access b seen)) (got_of (if t then Won else CellLost))
    by_test true = tt
    by_test false = tt
cell_fits words step = tt

done_fits : (next : Want) (got : Got) → MayBeDone next → got ≡ Done → Fits next got
done_fits next got m e = subst (λ (g : Got). Fits next g) (sym e) m

-- of a desk that is asked for a commit
begin_fits : {P A : Type 0} (seen : Option (List Bool)) (most : ℕ) (desk : DeskState P) (got : Got) (chosen : Chosen P A) → DoesBegin seen most desk got chosen → Fits (Desk (BeginCommit most)) got
begin_fits seen most desk (Began nodes) (Commits c tree) d = d.0
begin_fits {P} {A} seen most desk (GotRefused refusal) Plain d = by_cause refusal d
  where
    by_cause : (r : Refusal) → IsBeginRefused desk r → Fits (Desk (BeginCommit most)) (GotRefused r)
    by_cause Busy d = tt
    by_cause Memory d = tt
    by_cause GenerationEnd d = tt
    by_cause r d = absurd d
begin_fits seen most desk got chosen d = absurd d

-- why a flush leads none
lead_refusal : {P : Type 0} (desk : DeskState P) (r : Refusal) → IsLeadRefused desk r → (r ≡ Failed) ⊎ (r ≡ Memory) ⊎ (r ≡ GenerationEnd)
lead_refusal desk r (inl failed) = inl failed.0
lead_refusal desk r (inr d) = by_cause r d.1 d.2
  where
    by_cause : (r : Refusal) → desk.space.committing ≡ false → IsBeginRefused desk r → (r ≡ Failed) ⊎ (r ≡ Memory) ⊎ (r ≡ GenerationEnd)
    by_cause Busy idle d = absurd (let runs = d in let is = idle in cc)
    by_cause Memory idle d = inr (inl refl)
    by_cause GenerationEnd idle d = inr (inr refl)
    by_cause r idle d = absurd d

-- of one that arrives, or asks with a ticket
arrival_fits : {P A : Type 0} (most : ℕ) (desk : DeskState P) (got : Got) (chosen : Chosen P A) → DoesArrive most desk got chosen → Fits (Desk (Arrive most)) got
arrival_fits most desk Ticket Plain d = tt
arrival_fits most desk (Began nodes) (Commits c tree) d = d.1.0
arrival_fits most desk (GotRefused refusal) Plain d = elim (lead_refusal desk refusal d) [
  | inl e ↦ subst (λ (r : Refusal). Fits (Desk (Arrive most)) (GotRefused r)) (sym e) tt
  | inr (inl e) ↦ subst (λ (r : Refusal). Fits (Desk (Arrive most)) (GotRefused r)) (sym e) tt
  | inr (inr e) ↦ subst (λ (r : Refusal). Fits (Desk (Arrive most)) (GotRefused r)) (sym e) tt
]
arrival_fits most desk got chosen d = absurd d

asking_fits : {P A : Type 0} (share : Share) (most : ℕ) (desk : DeskState P) (got : Got) (chosen : Chosen P A) → DoesAsk share most desk got chosen → Fits (Desk (Ask most)) got
asking_fits share most desk Served Plain d = tt
asking_fits share most desk (Began nodes) (Commits c tree) d = d.1.1.0
asking_fits share most desk (GotRefused refusal) Plain d = elim (lead_refusal desk refusal d.1) [
  | inl e ↦ subst (λ (r : Refusal). Fits (Desk (Ask most)) (GotRefused r)) (sym e) tt
  | inr (inl e) ↦ subst (λ (r : Refusal). Fits (Desk (Ask most)) (GotRefused r)) (sym e) tt
  | inr (inr e) ↦ subst (λ (r : Refusal). Fits (Desk (Ask most)) (GotRefused r)) (sym e) tt
]
asking_fits share most desk got chosen d = absurd d.1

-- of a sector that an opening has read
come_fits : {A : Type 0} (asked : Geometry) (left : ℕ) (now : ReadSteps A) (commit commit' : Option RunningCommit) (got : Got) (left' : Option (ReadSteps A)) → got ≢ Fault → HasCome asked left now commit got left' commit' → Fits (Device (ReadMetadata left)) got
come_fits asked left now commit commit' More left' n h = h.0
come_fits asked left now commit commit' Done left' n h = tt
come_fits asked left now commit commit' (GotRefused refusal) left' n h = elim h.2 [
  | inl m ↦ subst (λ (r : Refusal). Fits (Device (ReadMetadata left)) (GotRefused r)) (sym m.0) tt
  | inr (inl g) ↦ subst (λ (r : Refusal). Fits (Device (ReadMetadata left)) (GotRefused r)) (sym g.0) tt
  | inr (inr m) ↦ subst (λ (r : Refusal). Fits (Device (ReadMetadata left)) (GotRefused r)) (sym m.0) tt
]
come_fits asked left now commit commit' (Began nodes) left' n h = h.1
come_fits asked left now commit commit' Fault left' n h = absurd (n refl)
come_fits asked left now commit commit' got left' n h = absurd h

stop_fits : (left : ℕ) (refusal : Refusal) (got : Got) → got ≢ Fault → IsOfReading refusal → got ≡ got_of_refusal refusal → Fits (Device (ReadMetadata left)) got
stop_fits left (Io Metadata) got n o e = absurd (n e)
stop_fits left Memory got n o e = subst (λ (g : Got). Fits (Device (ReadMetadata left)) g) (sym e) tt
stop_fits left NotFormatted got n o e = subst (λ (g : Got). Fits (Device (ReadMetadata left)) g) (sym e) tt
stop_fits left Mismatch got n o e = subst (λ (g : Got). Fits (Device (ReadMetadata left)) g) (sym e) tt
stop_fits left (Damaged place) got n o e = subst (λ (g : Got). Fits (Device (ReadMetadata left)) g) (sym e) tt
stop_fits left refusal got n o e = absurd o

read_fits : {P A : Type 0} (shape : Shape) (mode : Mode) (second : Bool) (left : ℕ) (was : ReadSteps A) (device : List History) (commit : Option RunningCommit) (got : Got) (chosen : Chosen P A) → DoesRead mode shape.geometry second left was device commit got chosen → Fits (Device (ReadMetadata left)) got
read_fits shape mode second left was device commit got (Reaches left' commit') d = elim d.1 [
  | inl k ↦ elim k.3.2 [
    | inl in_time ↦ come_fits k.3.0 left k.0 commit commit' got left' d.0 in_time.0
    | inr unclean ↦ subst (λ (g : Got). Fits (Device (ReadMetadata left)) g) (sym unclean.1) tt
  ]
  | inr r ↦ stop_fits left r.0 got d.0 r.1 r.3
]
read_fits shape mode second left was device commit got chosen d = absurd d

module _ (P A : Type 0) (shape : Shape) (w : State P A) (actor : Actor) (got : Got) (read : List Bytes) (chosen : Chosen P A) where
  on_words : (phase : Phase P A) (step : CellStep) → OfTarget phase (λ t. got ≡ got_of (result_of t.words step)) → Fits (Cell step) got
  on_words (Stands t) step e = subst (λ (g : Got). Fits (Cell step) g) (sym e) (cell_fits t.words step)
  on_words phase step e = absurd e

  -- what holds of the target that stands, whose desk is asked
  on_desk : (phase : Phase P A) (next : Want) (so : DeskState P → Type 0) → ((desk : DeskState P) → so desk → Fits next got) → OfTarget phase (λ t. so t.desk) → Fits next got
  on_desk (Stands t) next so fits d = fits t.desk d
  on_desk phase next so fits d = absurd d

  on_metadata : (phase : Phase P A) (second : Bool) (left : ℕ) → OfReading phase (λ mode was. DoesRead mode shape.geometry second left was w.devices.metadata w.commit got chosen) → Fits (Device (ReadMetadata left)) got
  on_metadata (Opens mode (Some was)) second left d = read_fits shape mode second left was w.devices.metadata w.commit got chosen d
  on_metadata phase second left d = absurd d

  pub data_sync : (job : Job) (d : Dev) → Gives shape w actor job (Device (Sync d)) got read chosen → got ≡ Done
  data_sync job Metadata g = (sync_fact P A shape w actor got read chosen job g).0
  data_sync (Read x) device g = g.1
  data_sync job device g = g.1

  pub word_given : (job : Job) (step : CellStep) → Gives shape w actor job (Cell step) got read chosen → OfTarget w.phase (λ t. got ≡ got_of (result_of t.words step))
  word_given job step g = g.1

  pub end_given : (job : Job) → Gives shape w actor job (Desk EndCommit) got read chosen → got ≡ Done
  end_given (Read x) g = g.1
  end_given job g = g.1

  pub break_given : (job : Job) → Gives shape w actor job (Desk BreakCommit) got read chosen → got ≡ Done
  break_given (Read x) g = g.1
  break_given job g = g.1

  map_fits : (desk : DeskState P) (b c : _) (got : Got) (ch : Chosen P A) → DoesMap b c desk got ch → Fits (Desk (Map b c)) got
  map_fits desk b c Done (Asks new) d = tt
  map_fits desk b c (GotRefused refusal) Plain d = subst (λ (r : Refusal). Fits (Desk (Map b c)) (GotRefused r)) (sym d) tt
  map_fits desk b c got ch d = absurd d

  map_given : (phase : Phase P A) (b c : _) → OfTarget phase (λ t. DoesMap b c t.desk got chosen) → Fits (Desk (Map b c)) got
  map_given (Stands t) b c d = map_fits t.desk b c got chosen d
  map_given phase b c d = absurd d

  pub released_done : (job : Job) (b : _) → Gives shape w actor job (Desk (ReleaseOrder b)) got read chosen → got ≡ Done
  released_done Flush b g = g.1
  released_done (Migrate migration block) b g = g.1
  released_done job b g = absurd g

  unmapped_done : (job : Job) (b : _) → Gives shape w actor job (Desk (Unmap b)) got read chosen → got ≡ Done
  unmapped_done (Write x c) b g = g.1
  unmapped_done (Invalidate block) b g = g.1
  unmapped_done (Migrate migration block) b g = g.1
  unmapped_done job b g = absurd g

  -- each result fits the step that gave it
  pub gives_fits : (job : Job) (next : Want) → IsStep next → Gives shape w actor job next got read chosen → Fits next got
  gives_fits job (Cell step) i g = on_words w.phase step (word_given job step g)
  gives_fits (Read x) (Device (ReadExtent d e)) i g = done_fits (Device (ReadExtent d e)) got tt g.2
  gives_fits (Migrate migration block) (Device (ReadExtent d e)) i g = done_fits (Device (ReadExtent d e)) got tt g.2
  gives_fits (Write x c) (Device (WriteExtent d e)) i g = done_fits (Device (WriteExtent d e)) got tt g.2
  gives_fits (Migrate migration block) (Device (WriteExtent d e)) i g = done_fits (Device (WriteExtent d e)) got tt g.2
  gives_fits job (Device (Sync d)) i g = done_fits (Device (Sync d)) got tt (data_sync job d g)
  gives_fits job (Device (WriteNode number)) i g = done_fits (Device (WriteNode number)) got tt (node_fact P A shape w actor got read chosen job number g).0
  gives_fits job (Device WriteRoot) i g = done_fits (Device WriteRoot) got tt (root_fact P A shape w actor got read chosen job g).0
  gives_fits job (Device (ReadMetadata left)) i g = on_metadata w.phase (asks_second job) left (metadata_fact P A shape w actor got read chosen job left g).1
  gives_fits job (Desk (Arrive most)) i g = on_desk w.phase (Desk (Arrive most)) (λ desk. DoesArrive most desk got chosen) (λ desk d. arrival_fits most desk got chosen d) (arrive_fact P A shape w actor got read chosen job most g)
  gives_fits job (Desk (Ask most)) i g = on_desk w.phase (Desk (Ask most)) (λ desk. DoesAsk actor.share most desk got chosen) (λ desk d. asking_fits actor.share most desk got chosen d) (ask_fact P A shape w actor got read chosen job most g)
  gives_fits job (Desk (BeginCommit most)) i g = on_desk w.phase (Desk (BeginCommit most)) (λ desk. DoesBegin (Some actor.seen) most desk got chosen) (λ desk d. begin_fits (Some actor.seen) most desk got chosen d) (begin_fact P A shape w actor got read chosen job most g)
  gives_fits job (Desk BreakCommit) i g = done_fits (Desk BreakCommit) got tt (break_given job g)
  gives_fits job (Desk EndCommit) i g = done_fits (Desk EndCommit) got tt (end_given job g)
  gives_fits job (Desk (Map b c)) i g = map_given w.phase b c (map_fact P A shape w actor got read chosen job b c g)
  gives_fits job (Desk (Unmap b)) i g = done_fits (Desk (Unmap b)) got tt (unmapped_done job b g)
  gives_fits job (Desk (ReleaseOrder b)) i g = done_fits (Desk (ReleaseOrder b)) got tt (released_done job b g)
  gives_fits job (End answer) i g = absurd i
  gives_fits job next i g = absurd g
