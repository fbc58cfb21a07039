-- Each step of a flush or an opening leads it to the next point of its table.
use Rattle.std.proofs.Common.{◌≡◌, ◌≢◌, ◌∙◌, ◌⊎◌, ◌≤◌, ◌<◌, ◌+◌, ◌-◌, ◌==◌, inl, inr, ℕ, zero, suc, Bool, true, false, if◌then◌else◌, List, [], ◌∷◌, Option, Some, None, refl, sym, ap, subst, arith, length, slice_get, get_or}
use Rattle.std.proofs.lemmas.Option.{slice_get_cases, slice_get_past}
use Rattle.wb_types.specs.declared.mode.Mode.{Mode}
use Rattle.wb_types.specs.declared.mode.Dev.TheVariants.{Metadata, Cache, Origin}
use Rattle.wb_types.specs.declared.refusal.Refusal.{Refusal}
use Rattle.wb_types.specs.declared.refusal.Refusal.TheVariants.{Failed, NotClean, Io}
use Rattle.wb_disk.specs.Device.{Content as Bytes, History}
use Rattle.wb_disk.specs.Crash.{Choice}
use Rattle.wb_types.specs.declared.number.OBlock.{OBlock}
use Rattle.wb_types.specs.declared.number.Place.{Place}
use Rattle.wb_format.specs.declared.node.Node.{Node}
use Rattle.wb_tree.specs.declared.image.Image.{Image}
use Rattle.wb_meta.specs.Steps.{steps_after}
use Rattle.wb_meta.specs.Reads.{sectors_read}
use Rattle.wb_meta.specs.declared.read_steps.ReadSteps.{ReadSteps}
use Rattle.wb_meta.specs.declared.commit_steps.CommitSteps.{CommitSteps}
use Rattle.wb_meta.specs.declared.commit_steps.CommitSteps.TheVariants.{NodesWritten, NodesSynced, RootWritten, Done as Committed}
use Rattle.wb_tasks.specs.Tables.{Opening}
use Rattle.wb_tasks.specs.Plan.{Plan, want, after, release_orders, begun_steps, root_steps, node_writes, after_fault_of, failed_commit, first_step}
use Rattle.wb_tasks.specs.declared.step.Answer.{Answer}
use Rattle.wb_tasks.specs.declared.step.Answer.TheVariants.{Refused as Refuses, Done as Finished}
use Rattle.wb_tasks.specs.declared.step.Want.{Want}
use Rattle.wb_tasks.specs.declared.step.Want.TheVariants.{Cell, Device, Desk}
use Rattle.wb_tasks.specs.declared.step.Got.{Got}
use Rattle.wb_tasks.specs.declared.step.Got.TheVariants.{Done, Word, Fault, Refused as GotRefused, Began, More, Ticket, Served}
use Rattle.wb_devices.specs.declared.running.RunningCommit.{RunningCommit}
use Rattle.wb_devices.specs.Opened.{HasCome, got_of_refusal}
use Rattle.wb_promise.specs.declared.job.Job.{Job}
use Rattle.wb_promise.specs.declared.job.Job.TheVariants.{Open}
use Rattle.wb_promise.specs.States.{Shape, State, Actor, Target, Stands, Opens}
use Rattle.wb_promise.specs.Happenings.{Chosen, Plain, Begins, Reaches, Commits, OfSome, AreWhole, HasGeneration, DoesSync, DoesRead, DoesBegin, Gives, Falters, DoesLead, DoesArrive, DoesAsk}
use Rattle.wb_promise.specs.Effects.{commit_then, reading_then, task_then}
use Rattle.wb_runs.proofs.Plans.{plan_of}
use Rattle.wb_runs.proofs.Metadata.{AtDesk}
use Rattle.wb_runs.proofs.Images.{Images}
use Rattle.wb_runs.proofs.Making.{image_small, small_opening, whole_small}
use Rattle.wb_tasks.specs.Points.{OpenPoint, AtFirst, AtCache, AtOrigin, AtRead, AtNodes, AtRoot, AtRootSync, AtEnd, AtRefusal, open_left, open_answer}
use Rattle.wb_runs.proofs.Points.{Runs, CommitJob, Flushes, Suspends, task_of, doing_of, begin_of, first_looks, following, FlushPoint, ToLook, ToBegin, ToSyncCache, ToSyncOrigin, ToWriteNodes, ToWriteRoot, ToSyncRoot, ToEnd, ToSetSuspended, ToSetFailed, ToRelease, commit_left, IsOf, AtFlush, IsLeading, FlushAt, FlushTask, AtOpen, OpenAt, ask_of, ToAsk, ToBreak}
use Rattle.std.specs.Prelude.{IfSome}
use Rattle.std.proofs.lemmas.List.{append_assoc}
use Rattle.wb_words.specs.declared.step.CellStep.TheVariants.{SetFailed, SetSuspended, Look}
use Rattle.wb_tasks.specs.declared.step.DeskStep.TheVariants.{Arrive, Ask, BeginCommit}
use Rattle.wb_tasks.specs.declared.step.DeviceStep.{DeviceStep}
use Rattle.wb_tasks.specs.declared.step.DeviceStep.TheVariants.{Sync, WriteNode, WriteRoot}
use Rattle.wb_runs.proofs.Stepping.{node_fact, root_fact}
use Rattle.wb_runs.proofs.Suiting.{word_given, data_sync, end_given, released_done, break_given}
use Rattle.wb_words.specs.declared.word.Word.TheVariants.{Fail, Seal as SealWord}
use Rattle.wb_words.specs.SharedWords.{word_at}

-- ---- a commit goes on

leads_on : (nodes : ℕ) (commit : Option RunningCommit) (steps : CommitSteps) → Runs nodes steps commit → (steps' : CommitSteps) → ((image : Image) → length image.nodes.items ≡ nodes → steps_after image steps ≡ steps') → Runs nodes steps' (Rattle.wb_promise.specs.Effects.led commit Done)
leads_on nodes None steps r steps' f = absurd r
leads_on nodes (Some c) steps r steps' f = (r.0, r.1, ap (λ (s : CommitSteps). steps_after c.image s) r.2 ∙ f c.image r.0)

-- so does a step that is done
leads_done : (nodes : ℕ) (commit : Option RunningCommit) {got : Got} → got ≡ Done → (steps steps' : CommitSteps) → Runs nodes steps commit → ((image : Image) → length image.nodes.items ≡ nodes → steps_after image steps ≡ steps') → Runs nodes steps' (Rattle.wb_promise.specs.Effects.led commit got)
leads_done nodes commit e steps steps' r f = subst (λ (g : Got). Runs nodes steps' (Rattle.wb_promise.specs.Effects.led commit g)) (sym e) (leads_on nodes commit steps r steps' f)

-- another node is written
node_over : (left from : ℕ) (image : Image) → length image.nodes.items ≡ from + suc left → steps_after image (NodesWritten from) ≡ NodesWritten (from + 1)
node_over left from image e = by_case (slice_get_cases image.nodes.items from).1
  where
    by_case : ((x : Place × Node) × (from < length image.nodes.items) × (slice_get image.nodes.items from ≡ Some x) × (get_or image.nodes.items from x ≡ x)) ⊎ ((length image.nodes.items ≤ from) × (slice_get image.nodes.items from ≡ None)) → steps_after image (NodesWritten from) ≡ NodesWritten (from + 1)
    by_case (inl h) = ap (λ (o : Option (Place × Node)). Rattle.wb_meta.specs.Steps.after_node o from) h.2
    by_case (inr h) = absurd (omega (arith, e, h.0))

-- all are
nodes_over : (from : ℕ) (image : Image) → length image.nodes.items ≡ from → steps_after image (NodesWritten from) ≡ NodesSynced
nodes_over from image e = ap (λ (o : Option (Place × Node)). Rattle.wb_meta.specs.Steps.after_node o from) (slice_get_past image.nodes.items from (omega (arith, e)))

-- ---- a flush, or a suspend

-- who does not lead is where it was, whatever becomes of the commit
pub stays : (Makes : List OBlock → ℕ → CommitJob) (commit commit' : Option RunningCommit) (L L' : Type 0) (plan : Plan) (k : FlushAt Makes commit L plan) → (IsLeading k.point → ⊥) → FlushAt Makes commit' L' plan
stays Makes commit commit' L L' plan k none = record { blocks = k.blocks; most = k.most; answer = k.answer; point = k.point; of = k.of; is = k.is; at = by_point k.point none; leads = λ i. absurd (none i) }
  where
    by_point : (p : FlushPoint) → (IsLeading p → ⊥) → AtFlush p commit'
    by_point (ToSyncCache nodes) n = absurd (n tt)
    by_point (ToSyncOrigin nodes) n = absurd (n tt)
    by_point (ToWriteNodes left from) n = absurd (n tt)
    by_point (ToWriteRoot nodes) n = absurd (n tt)
    by_point (ToSyncRoot nodes) n = absurd (n tt)
    by_point (ToEnd nodes) n = absurd (n tt)
    by_point p n = tt

-- where it stands after a step, and what became of the others
pub record Moved (commit commit' : Option RunningCommit) (a leader : ℕ) (task : Option (Job × Plan)) : Type 0 where
  pub leader' : ℕ
  pub here : FlushTask commit' (a ≡ leader') task
  pub others : (Makes : List OBlock → ℕ → CommitJob) (b : ℕ) (plan : Plan) → b ≢ a → FlushAt Makes commit (b ≡ leader) plan → FlushAt Makes commit' (b ≡ leader') plan

-- a commit's steps, once it began
begun_left : (job : CommitJob) (nodes : ℕ) → begun_steps (task_of job) nodes ≡ commit_left job (ToSyncCache nodes)
begun_left (Flushes serves most) nodes = refl
begun_left (Suspends looks most) nodes = ap (λ ws. Device (Sync Cache) ∷ Device (Sync Origin) ∷ ws) (append_assoc (node_writes nodes 0) root_steps (Cell SetSuspended ∷ []))

fault_left : (job : CommitJob) (step : DeviceStep) → after_fault_of (task_of job) step ≡ failed_commit
fault_left (Flushes serves most) step = refl
fault_left (Suspends looks most) step = refl

module _ (P A : Type 0) (shape : Shape) (t : Target P) (commit : Option RunningCommit) (m : List History) (images : Images) (known : AtDesk shape.geometry images t.desk commit m) (a leader : ℕ) (job : CommitJob) (answer : Answer) where
  abbrev F : List Want → Plan
  F ws = plan_of (task_of job) ws answer

  abbrev Then : Option RunningCommit → Plan → Type 0
  Then commit' plan = Moved commit commit' a leader (Some (doing_of job, plan))

  -- its task stands there
  stands_at : (job : CommitJob) (commit' : Option RunningCommit) (L : Type 0) (answer' : Answer) (point : FlushPoint) (plan : Plan) → IsOf point job → plan ≡ plan_of (task_of job) (commit_left job point) answer' → AtFlush point commit' → (IsLeading point → L) → FlushTask commit' L (Some (doing_of job, plan))
  stands_at (Flushes serves most) commit' L answer' point plan of is at leads = record { blocks = serves; most = most; answer = answer'; point = point; of = of; is = is; at = at; leads = leads }
  stands_at (Suspends looks most) commit' L answer' point plan of is at leads = record { blocks = looks; most = most; answer = answer'; point = point; of = of; is = is; at = at; leads = leads }

  -- it is at this point, and nobody else is concerned
  quietly : (answer' : Answer) (point : FlushPoint) (plan : Plan) → IsOf point job → plan ≡ plan_of (task_of job) (commit_left job point) answer' → AtFlush point commit → (IsLeading point → a ≡ leader) → Then commit plan
  quietly answer' point plan of is at leads = record { leader' = leader; here = stands_at job commit (a ≡ leader) answer' point plan of is at leads; others = λ Makes b p o k. k }

  -- the leader went on, and no other leads
  leading : (commit' : Option RunningCommit) (answer' : Answer) (point : FlushPoint) (plan : Plan) → IsOf point job → plan ≡ plan_of (task_of job) (commit_left job point) answer' → AtFlush point commit' → a ≡ leader → Then commit' plan
  leading commit' answer' point plan of is at l = record {
    leader' = leader;
    here = stands_at job commit' (a ≡ leader) answer' point plan of is at (λ i. l);
    others = λ Makes b p o k. stays Makes commit commit' (b ≡ leader) (b ≡ leader) p k (λ i. o (k.leads i ∙ sym l));
  }

  looks : (got : Got) → got ≡ Word t.words.fail → Then commit (after (F (commit_left job ToLook)) got)
  looks got e = subst (λ (g : Got). Then commit (after (F (commit_left job ToLook)) g)) (sym e) (by_test (t.words.fail == 0))
    where
      by_test : (b : Bool) → Then commit (if b then F (commit_left job (ToBegin (first_looks job))) else plan_of (task_of job) [] (Refuses Failed))
      by_test true = quietly answer (ToBegin (first_looks job)) _ tt refl tt (λ i. absurd i)
      by_test false = quietly (Refuses Failed) (ToRelease []) _ tt refl tt (λ i. absurd i)

  seals : (block : OBlock) (rest : List OBlock) (got : Got) (seal : ℕ) → got ≡ Word seal → Then commit (after (F (commit_left job (ToBegin (block ∷ rest)))) got)
  seals block rest got seal e = subst (λ (g : Got). Then commit (after (F (commit_left job (ToBegin (block ∷ rest)))) g)) (sym e) (quietly answer (ToBegin rest) _ tt (same job) tt (λ i. absurd i))
    where
      same : (job : CommitJob) → after (plan_of (task_of job) (commit_left job (ToBegin (block ∷ rest))) answer) (Word seal) ≡ plan_of (task_of job) (commit_left job (ToBegin rest)) answer
      same (Flushes serves most) = refl
      same (Suspends looks most) = refl

  abbrev let_go : CommitJob → Refusal → List OBlock
  let_go (Flushes serves most) Failed = []
  let_go (Flushes serves most) r = serves
  let_go (Suspends looks most) r = []

  of_it : (job : CommitJob) (r : Refusal) → IsOf (ToRelease (let_go job r)) job
  of_it (Suspends looks most) r = tt
  of_it (Flushes [] most) Failed = tt
  of_it (Flushes [] most) r = tt
  of_it (Flushes (b ∷ bs) most) Failed = tt
  of_it (Flushes (b ∷ bs) most) r = tt

  -- what is left where it asks for its commit, whichever way
  abbrev begun_from : List Want → Type 0
  begun_from ws = (nodes : ℕ) → after (F ws) (Began nodes) ≡ plan_of (task_of job) (begun_steps (task_of job) nodes) answer

  abbrev refused_of : CommitJob → List Want → Type 0
  refused_of job ws = (refusal : Refusal) → after (plan_of (task_of job) ws answer) (GotRefused refusal) ≡ plan_of (task_of job) (release_orders (let_go job refusal)) (Refuses refusal)

  abbrev refused_from : List Want → Type 0
  refused_from ws = refused_of job ws

  -- a flush that asks for a commit, when it arrives or with a ticket
  flush_refused : (serves : _) (most : ℕ) (asks : Bool) → refused_of (Flushes serves most) (Desk (if asks then Ask most else Arrive most) ∷ [])
  flush_refused serves most true Failed = refl
  flush_refused serves most true refusal = refl
  flush_refused serves most false Failed = refl
  flush_refused serves most false refusal = refl

  begins : (seen : Option (List Bool)) (most : ℕ) (ws : List Want) (got : Got) (chosen : Chosen P A) → begun_from ws → refused_from ws → DoesBegin seen most t.desk got chosen → Then (Rattle.wb_promise.specs.Effects.begun_commit chosen commit) (after (F ws) got)
  begins seen most ws (Began nodes) (Commits c tree) from none s = record {
    leader' = a;
    here = stands_at job (Some c) (a ≡ a) answer (ToSyncCache nodes) _ tt (from nodes ∙ ap (λ vs. plan_of (task_of job) vs answer) (begun_left job nodes)) (sym s.1, image_small t.desk tree c s.3.0 seen s.3.1 s.4, s.2) (λ i. refl);
    others = λ Makes b p o k. stays Makes commit (Some c) (b ≡ leader) (b ≡ a) p k (λ i. no_leader commit known k.point i k.at);
  }
    where
      no_leader : (commit : Option RunningCommit) → AtDesk shape.geometry images t.desk commit m → (p : FlushPoint) → IsLeading p → AtFlush p commit → ⊥
      no_leader (Some d) k p i at = absurd (let busy = k.stands.busy in let idle = s.3.1.may.idle in cc)
      no_leader None k (ToSyncCache nodes) i at = at
      no_leader None k (ToSyncOrigin nodes) i at = at
      no_leader None k (ToWriteNodes left from) i at = at
      no_leader None k (ToWriteRoot nodes) i at = at
      no_leader None k (ToSyncRoot nodes) i at = at
      no_leader None k (ToEnd nodes) i at = at
      no_leader None k p i at = absurd i
  begins seen most ws (GotRefused refusal) Plain from none s = quietly (Refuses refusal) (ToRelease (let_go job refusal)) _ (of_it job refusal) (none refusal) tt (λ i. absurd i)
  begins seen most ws got chosen from none s = absurd s

  -- a flush that asks to lead one
  leads : (most : ℕ) (ws : List Want) (got : Got) (chosen : Chosen P A) → begun_from ws → refused_from ws → DoesLead most t.desk got chosen → Then (Rattle.wb_promise.specs.Effects.begun_commit chosen commit) (after (F ws) got)
  leads most ws (Began nodes) (Commits c tree) from none s = begins None most ws (Began nodes) (Commits c tree) from none s.1
  leads most ws (GotRefused refusal) Plain from none s = quietly (Refuses refusal) (ToRelease (let_go job refusal)) _ (of_it job refusal) (none refusal) tt (λ i. absurd i)
  leads most ws got chosen from none s = absurd s

  module _ (w : State P A) (x : Actor) (stands : w.phase ≡ Stands t) (runs : w.commit ≡ commit) (got : Got) (read : List Bytes) (chosen : Chosen P A) where
    abbrev v : State P A
    v = record { devices = w.devices; commit = commit; phase = Stands t; actors = w.actors }

    abbrev After : Want → Plan → Type 0
    After next plan = Moved commit (commit_then {P = P} {A = A} (Stands t) commit next got chosen) a leader (task_then (Some (doing_of job, plan)) next got)

    done : (next : Want) (ws : List Want) → got ≡ Done → (commit' : Option RunningCommit) → Then commit' (F ws) → Then commit' (after (F (next ∷ ws)) got)
    done next ws e commit' k = subst (λ (g : Got). Then commit' (after (F (next ∷ ws)) g)) (sym e) k

    begin_moves : (job' : CommitJob) → job ≡ job' → Gives shape v x (doing_of job') (begin_of job') got read chosen → After (begin_of job') (F (begin_of job' ∷ []))
    begin_moves (Flushes serves most) e g = arrives got chosen g.1
      where
        none : refused_from (Desk (Arrive most) ∷ [])
        none = subst (λ (j : CommitJob). refused_of j (Desk (Arrive most) ∷ [])) (sym e) (flush_refused serves most false)

        arrives : (got : Got) (chosen : Chosen P A) → DoesArrive most t.desk got chosen → Then (Rattle.wb_promise.specs.Effects.begun_commit chosen commit) (after (F (Desk (Arrive most) ∷ [])) got)
        arrives Ticket Plain d = quietly answer ToAsk _ (subst (λ (j : CommitJob). IsOf ToAsk j) (sym e) tt) (ap (λ (ws : List Want). F ws) (subst (λ (j : CommitJob). Desk (Ask most) ∷ [] ≡ ask_of j) (sym e) refl)) tt (λ i. absurd i)
        arrives (Began nodes) chosen d = leads most (Desk (Arrive most) ∷ []) (Began nodes) chosen (λ nodes. refl) none d
        arrives (GotRefused refusal) chosen d = leads most (Desk (Arrive most) ∷ []) (GotRefused refusal) chosen (λ nodes. refl) none d
        arrives got chosen d = absurd d
    begin_moves (Suspends looks most) e g = begins (Some x.seen) most (Desk (BeginCommit most) ∷ []) got chosen (λ nodes. refl) none g.1
      where
        none : refused_from (Desk (BeginCommit most) ∷ [])
        none = subst (λ (j : CommitJob). refused_of j (Desk (BeginCommit most) ∷ [])) (sym e) (λ refusal. refl)

    -- with a ticket
    ask_moves : (job' : CommitJob) → job ≡ job' → IsOf ToAsk job' → Gives shape v x (doing_of job') (first_step (ask_of job') answer) got read chosen → After (first_step (ask_of job') answer) (F (ask_of job'))
    ask_moves (Flushes serves most) e of g = asks got chosen g.1
      where
        none : refused_from (Desk (Ask most) ∷ [])
        none = subst (λ (j : CommitJob). refused_of j (Desk (Ask most) ∷ [])) (sym e) (flush_refused serves most true)

        asks : (got : Got) (chosen : Chosen P A) → DoesAsk x.share most t.desk got chosen → Then (Rattle.wb_promise.specs.Effects.begun_commit chosen commit) (after (F (Desk (Ask most) ∷ [])) got)
        asks Served Plain d = quietly Finished (ToRelease []) _ tt refl tt (λ i. absurd i)
        asks (Began nodes) chosen d = leads most (Desk (Ask most) ∷ []) (Began nodes) chosen (λ nodes. refl) none d.1
        asks (GotRefused refusal) chosen d = leads most (Desk (Ask most) ∷ []) (GotRefused refusal) chosen (λ nodes. refl) none d.1
        asks got chosen d = absurd d.1
    ask_moves (Suspends looks most) e of g = absurd of

    -- behind the end of a commit
    followed : (job' : CommitJob) → job ≡ job' → a ≡ leader → Then None (F (following job))
    followed (Flushes serves most) e l = leading None answer (ToRelease []) _ (subst (λ j. IsOf (ToRelease []) j) (sym e) tt) (ap (λ j. F (following j)) e) tt l
    followed (Suspends looks most) e l = leading None answer ToSetSuspended _ tt (ap (λ j. F (following j)) e) tt l

    pub flush_moves : (point : FlushPoint) → IsOf point job → AtFlush point commit → (IsLeading point → a ≡ leader) → Gives shape v x (doing_of job) (want (F (commit_left job point))) got read chosen → After (want (F (commit_left job point))) (F (commit_left job point))
    flush_moves ToLook of at l g = looks got (word_given P A shape v x got read chosen (doing_of job) (Look Fail) g)
    flush_moves (ToBegin []) of at l g = begin_moves job refl g
    flush_moves ToAsk of at l g = ask_moves job refl of g
    flush_moves (ToBegin (block ∷ rest)) of at l g = seals block rest got (word_at t.words.seals block) (word_given P A shape v x got read chosen (doing_of job) (Look (SealWord block)) g)
    flush_moves (ToSyncCache nodes) of at l g = done _ _ (data_sync P A shape v x got read chosen (doing_of job) Cache g) commit (leading commit answer (ToSyncOrigin nodes) _ tt refl at (l tt))
    flush_moves (ToSyncOrigin nodes) of at l g = done _ _ (data_sync P A shape v x got read chosen (doing_of job) Origin g) commit (leading commit answer (ToWriteNodes nodes 0) _ tt refl (let none : nodes ≡ 0 + nodes = omega arith in subst (λ (n : ℕ). Runs n (NodesWritten 0) commit) none at) (l tt))
    flush_moves (ToWriteNodes zero from) of at l g =
        let all : from + 0 ≡ from = omega arith in
        let d = data_sync P A shape v x got read chosen (doing_of job) Metadata g in
        done _ _ d _ (leading _ answer (ToWriteRoot (from + 0)) _ tt refl (leads_done (from + 0) commit d (NodesWritten from) NodesSynced at (λ i e. nodes_over from i (e ∙ all))) (l tt))
    flush_moves (ToWriteNodes (suc left) from) of at l g =
        let more : from + suc left ≡ from + 1 + left = omega arith in
        let d = (node_fact P A shape v x got read chosen (doing_of job) from g).0 in
        done _ _ d _ (leading _ answer (ToWriteNodes left (from + 1)) _ tt refl
        (subst (λ (n : ℕ). Runs n (NodesWritten (from + 1)) (Rattle.wb_promise.specs.Effects.led commit got)) more (leads_done (from + suc left) commit d (NodesWritten from) (NodesWritten (from + 1)) at (node_over left from))) (l tt))
    flush_moves (ToWriteRoot nodes) of at l g = let d = (root_fact P A shape v x got read chosen (doing_of job) g).0 in done _ _ d _ (leading _ answer (ToSyncRoot nodes) _ tt refl (leads_done nodes commit d NodesSynced RootWritten at (λ i e. refl)) (l tt))
    flush_moves (ToSyncRoot nodes) of at l g = let d = data_sync P A shape v x got read chosen (doing_of job) Metadata g in done _ _ d _ (leading _ answer (ToEnd nodes) _ tt refl (leads_done nodes commit d RootWritten Committed at (λ i e. refl)) (l tt))
    flush_moves (ToEnd nodes) of at l g = done _ _ (end_given P A shape v x got read chosen (doing_of job) g) _ (followed job refl (l tt))
    flush_moves ToSetSuspended of at l g = done _ _ (word_given P A shape v x got read chosen (doing_of job) SetSuspended g) commit (quietly answer (ToRelease []) _ tt refl tt (λ i. absurd i))
    flush_moves ToSetFailed of at l g = done _ _ (word_given P A shape v x got read chosen (doing_of job) SetFailed g) commit (quietly answer ToBreak _ tt refl tt (λ i. absurd i))
    flush_moves ToBreak of at l g = done _ _ (break_given P A shape v x got read chosen (doing_of job) g) commit (quietly answer (ToRelease []) _ tt refl tt (λ i. absurd i))
    flush_moves (ToRelease []) of at l g = record { leader' = leader; here = tt; others = λ Makes b p o k. k }
    flush_moves (ToRelease (block ∷ blocks)) of at l g = done _ _ (released_done P A shape v x got read chosen (doing_of job) block g) commit (quietly answer (ToRelease blocks) _ (fewer job blocks of) refl tt (λ i. absurd i))
      where
        fewer : (job : CommitJob) (bs : List OBlock) → IsOf (ToRelease (block ∷ blocks)) job → IsOf (ToRelease bs) job
        fewer (Flushes serves most) [] of = tt
        fewer (Flushes serves most) (b ∷ bs) of = tt
        fewer (Suspends looks most) bs of = absurd of

  -- a step that fails
  fails_at : (commit' : Option RunningCommit) (step : DeviceStep) (d : _) → a ≡ leader → (ws : List Want) → Then commit' (plan_of (task_of job) (after_fault_of (task_of job) step) (Refuses (Io d)))
  fails_at commit' step d l ws = leading commit' (Refuses (Io d)) ToSetFailed _ tt (ap (λ xs. plan_of (task_of job) xs (Refuses (Io d))) (fault_left job step)) tt l

  pub flush_fails : (w : State P A) (choice : Choice) (chosen : Chosen P A) (point : FlushPoint) → AtFlush point commit → (IsLeading point → a ≡ leader) → Falters w choice (want (F (commit_left job point))) chosen →
      Moved commit (commit_then {P = P} {A = A} (Stands t) commit (want (F (commit_left job point))) Fault chosen) a leader (task_then (Some (doing_of job, F (commit_left job point))) (want (F (commit_left job point))) Fault)
  flush_fails w choice chosen ToLook at l g = absurd g
  flush_fails w choice chosen (ToBegin []) at l g = absurd (no_begin job g)
    where
      no_begin : (job : CommitJob) → Falters w choice (begin_of job) chosen → ⊥
      no_begin (Flushes serves most) g = g
      no_begin (Suspends looks most) g = g
  flush_fails w choice chosen (ToBegin (block ∷ rest)) at l g = absurd g
  flush_fails w choice chosen (ToSyncCache nodes) at l g = fails_at commit (Sync Cache) Cache (l tt) []
  flush_fails w choice chosen (ToSyncOrigin nodes) at l g = fails_at commit (Sync Origin) Origin (l tt) []
  flush_fails w choice chosen (ToWriteNodes zero from) at l g = fails_at _ (Sync Metadata) Metadata (l tt) []
  flush_fails w choice chosen (ToWriteNodes (suc left) from) at l g = fails_at _ (WriteNode from) Metadata (l tt) []
  flush_fails w choice chosen (ToWriteRoot nodes) at l g = fails_at _ WriteRoot Metadata (l tt) []
  flush_fails w choice chosen (ToSyncRoot nodes) at l g = fails_at _ (Sync Metadata) Metadata (l tt) []
  flush_fails w choice chosen (ToEnd nodes) at l g = absurd g
  flush_fails w choice chosen ToSetSuspended at l g = absurd g
  flush_fails w choice chosen ToSetFailed at l g = absurd g
  flush_fails w choice chosen ToBreak at l g = absurd g
  flush_fails w choice chosen ToAsk at l g = absurd (no_ask job g)
    where
      no_ask : (job : CommitJob) → Falters w choice (first_step (ask_of job) answer) chosen → ⊥
      no_ask (Flushes serves most) g = g
      no_ask (Suspends looks most) g = g
  flush_fails w choice chosen (ToRelease []) at l g = absurd g
  flush_fails w choice chosen (ToRelease (block ∷ blocks)) at l g = absurd g

-- ---- an opening

module _ (P A : Type 0) (shape : Shape) (mode m' : Mode) (second : Bool) (reading : Option (ReadSteps A)) (commit : Option RunningCommit) (w : State P A) (n : ℕ) where
  abbrev O : OpenPoint → Plan
  O point = plan_of (Opening n) (open_left n point) (open_answer point)

  abbrev here : State P A
  here = record { devices = w.devices; commit = commit; phase = Opens mode reading; actors = w.actors }

  refuses : (r' : Option (ReadSteps A)) (c' : Option RunningCommit) (refusal : Refusal) (plan : Plan) → plan ≡ O (AtRefusal refusal) → OpenAt r' c' plan
  refuses r' c' refusal plan e = record { sectors = n; point = AtRefusal refusal; is = e; at = tt }

  module _ (x : Actor) (got : Got) (read : List Bytes) (chosen : Chosen P A) where
    syncs_first : (c : Option RunningCommit) → c ≡ None → 1 ≤ n → got ≡ Done → (ch : Chosen P A) → DoesSync {P = P} {A = A} (Opens mode reading) c w.devices.metadata ch →
        OpenAt (reading_then reading (want (O AtFirst)) got ch) (commit_then {P = P} {A = A} (Opens mode reading) c (want (O AtFirst)) got ch) (after (O AtFirst) got)
    syncs_first (Some c) e k g ch d = absurd (cc)
    syncs_first None e k g (Begins now) d = subst (λ (x : Got). OpenAt (reading_then {P = P} {A = A} reading (want (O AtFirst)) x (Begins now)) (Rattle.wb_promise.specs.Effects.led None x) (after (O AtFirst) x)) (sym g)
        (record { sectors = n; point = AtCache; is = refl; at = (refl, k) })
    syncs_first None e k g ch d = absurd d

    reads : (left : ℕ) (was : ReadSteps A) → commit ≡ None → (ch : Chosen P A) → DoesRead mode shape.geometry second left was w.devices.metadata commit got ch →
        OpenAt (reading_then (Some was) (want (O (AtRead left))) got ch) (commit_then {P = P} {A = A} (Opens mode (Some was)) commit (want (O (AtRead left))) got ch) (after (O (AtRead left)) got)
    reads left was e (Reaches r c) (fine, inl more) = elim more.3.2 [
      | inl in_time ↦ by_got got fine in_time.0
      | inr unclean ↦ subst (λ (x : Got). OpenAt r c (after (O (AtRead left)) x)) (sym unclean.1) (refuses r c NotClean _ refl)
    ]
      where
        by_got : (got : Got) → (got ≢ Fault) → HasCome more.3.0 left more.0 commit got r c → OpenAt r c (after (O (AtRead left)) got)
        by_got More f h = record {
          sectors = n;
          point = AtRead (left - 1);
          is = refl;
          at = (h.3 ∙ e, subst (λ (x : Option (ReadSteps A)). OfSome x (λ now. sectors_read now ≡ 0 → 1 ≤ left - 1)) (sym h.1) (λ z. absurd (omega (arith, z, more.4))));
        }
        by_got Done f h = record { sectors = n; point = AtRoot; is = refl; at = (0, subst (λ (x : Option RunningCommit). Runs 0 NodesSynced x) (sym h.2.commit_is) (ap (λ (xs : List (Place × Node)). length xs) h.2.opens.no_nodes, small_opening h.2.next.image h.2.opens.no_nodes (subst (λ (x : Option RunningCommit). HasGeneration x) h.2.commit_is more.5), h.2.steps)) }
        by_got (Began nodes) f h =
            let all : nodes ≡ 0 + nodes = omega arith in
            let whole : AreWhole h.2.next.image = subst (λ (x : Option RunningCommit). IfSome x (λ running. AreWhole running.image)) h.2.commit_is more.6 in
            record {
              sectors = n;
              point = AtNodes nodes 0;
              is = refl;
              at = subst (λ (x : Option RunningCommit). Runs (0 + nodes) (NodesWritten 0) x) (sym h.2.commit_is) (sym h.2.count ∙ all, whole_small h.2.next.image (subst (λ (x : Option RunningCommit). HasGeneration x) h.2.commit_is more.5) whole, h.2.steps);
            }
        by_got (GotRefused refusal) f h = refuses r c refusal _ refl
        by_got Fault f h = absurd (f refl)
        by_got got f h = absurd h
    reads left was e (Reaches r c) (fine, inr more) = by_refusal more.0 more.3
      where
        by_refusal : (refusal : Refusal) → got ≡ got_of_refusal refusal → OpenAt r c (after (O (AtRead left)) got)
        by_refusal (Io d) h = absurd (fine h)
        by_refusal refusal h = subst (λ (x : Got). OpenAt r c (after (O (AtRead left)) x)) (sym h) (refuses r c refusal _ refl)
    reads left was e ch g = absurd g

    on_reading : (left : ℕ) (r : Option (ReadSteps A)) → commit ≡ None → Rattle.wb_promise.specs.States.OfReading {P = P} {A = A} (Opens mode r) (λ mode was. DoesRead mode shape.geometry second left was w.devices.metadata commit got chosen) →
        OpenAt (reading_then r (want (O (AtRead left))) got chosen) (commit_then {P = P} {A = A} (Opens mode r) commit (want (O (AtRead left))) got chosen) (after (O (AtRead left)) got)
    on_reading left (Some was) e g = reads left was e chosen g
    on_reading left None e g = absurd g

    on_to : (p q : OpenPoint) (r' : Option (ReadSteps A)) (c' : Option RunningCommit) → got ≡ Done → after (O p) Done ≡ O q → AtOpen n q r' c' → OpenAt r' c' (after (O p) got)
    on_to p q r' c' e is at = subst (λ (x : Got). OpenAt r' c' (after (O p) x)) (sym e) (record { sectors = n; point = q; is = is; at = at })

    pub open_moves : (point : OpenPoint) → AtOpen n point reading commit → Gives shape here x (Open m' second) (want (O point)) got read chosen →
        Rattle.wb_runs.proofs.Points.OpenTask (reading_then reading (want (O point)) got chosen) (commit_then {P = P} {A = A} (Opens mode reading) commit (want (O point)) got chosen) (task_then (Some (Open m' second, O point)) (want (O point)) got)
    open_moves AtFirst at g = syncs_first commit at.0 at.1 g.1 chosen g.2
    open_moves AtCache at g = on_to AtCache AtOrigin reading commit g.1 refl at
    open_moves AtOrigin at g = on_to AtOrigin (AtRead n) reading commit g.1 refl (at.0, any reading at.1)
      where
        any : (r : Option (ReadSteps A)) → OfSome r (λ was. 1 ≤ n) → OfSome r (λ was. sectors_read was ≡ 0 → 1 ≤ n)
        any None o = absurd o
        any (Some was) o = λ z. o
    open_moves (AtRead left) at g = on_reading left reading at.0 g.2
    open_moves (AtNodes zero from) at g =
        let all : from + 0 ≡ from = omega arith in
        on_to (AtNodes zero from) AtRoot _ _ g.1 refl (from + 0, leads_done (from + 0) commit g.1 (NodesWritten from) NodesSynced at (λ i e. nodes_over from i (e ∙ all)))
    open_moves (AtNodes (suc left) from) at g =
        let more : from + suc left ≡ from + 1 + left = omega arith in
        on_to (AtNodes (suc left) from) (AtNodes left (from + 1)) _ _ g.1 refl
        (subst (λ (k : ℕ). Runs k (NodesWritten (from + 1)) (Rattle.wb_promise.specs.Effects.led commit got)) more (leads_done (from + suc left) commit g.1 (NodesWritten from) (NodesWritten (from + 1)) at (node_over left from)))
    open_moves AtRoot at g = on_to AtRoot AtRootSync _ _ g.1 refl (at.0, leads_done at.0 commit g.1 NodesSynced RootWritten at.1 (λ i e. refl))
    open_moves AtRootSync at g = on_to AtRootSync AtEnd _ _ g.1 refl (at.0, leads_done at.0 commit g.1 RootWritten Committed at.1 (λ i e. refl))
    open_moves AtEnd at g = tt
    open_moves (AtRefusal refusal) at g = tt

  pub open_fails : (choice : Choice) (chosen : Chosen P A) (point : OpenPoint) → Falters here choice (want (O point)) chosen →
      Rattle.wb_runs.proofs.Points.OpenTask (reading_then reading (want (O point)) Fault chosen) (commit_then {P = P} {A = A} (Opens mode reading) commit (want (O point)) Fault chosen) (task_then (Some (Open m' second, O point)) (want (O point)) Fault)
  open_fails choice chosen AtCache g = refuses _ _ (Io Cache) _ refl
  open_fails choice chosen AtOrigin g = refuses _ _ (Io Origin) _ refl
  open_fails choice chosen (AtNodes (suc left) from) g = refuses _ _ (Io Metadata) _ refl
  open_fails choice chosen AtEnd g = absurd g
  open_fails choice chosen (AtRefusal refusal) g = absurd g
  open_fails choice chosen point g = refuses _ _ (Io Metadata) _ refl
