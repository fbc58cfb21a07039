-- A request that commits in its phases.
use Rattle.std.proofs.Common.{◌≡◌, ◌∙◌, ◌+◌, ◌<◌, ℕ, List, [], ◌∷◌, length, refl, sym, subst, ap, drop}
use Rattle.std.proofs.lemmas.List.{drop_more}
use Rattle.wb_types.specs.declared.mode.Dev.{Dev}
use Rattle.wb_types.specs.declared.number.OBlock.{OBlock}
use Rattle.wb_types.specs.declared.refusal.Refusal.{Refusal}
use Rattle.wb_types.specs.declared.refusal.Refusal.TheVariants.{Failed}
use Rattle.wb_tasks.specs.Plan.{Plan, table, want, after, after_fault_of, begun_steps, failed_commit, commit_steps, first_step, Fits, IsRare}
use Rattle.wb_tasks.specs.declared.step.Answer.TheVariants.{Done as Finished, Refused as Refuses}
use Rattle.wb_tasks.specs.declared.step.DeviceStep.{DeviceStep}
use Rattle.wb_tasks.specs.declared.step.Got.{Got}
use Rattle.wb_tasks.specs.declared.step.Got.TheVariants.{Done, Word, Lost, Fault, Refused, Began, Ticket, Served, More}
use Rattle.wb_tasks.specs.declared.step.Want.{Want}
use Rattle.wb_tasks.proofs.Driving.{no_result}
use Rattle.wb_flow.specs.Commits.{commit_left}
use Rattle.wb_flow.specs.Phases.{closing, commit_job, commit_task_left}
use Rattle.wb_flow.specs.declared.commit.Commit.{Commit}
use Rattle.wb_flow.specs.declared.committing.Purpose.{Purpose}
use Rattle.wb_flow.specs.declared.committing.Purpose.TheVariants.{Flush, Suspend}
use Rattle.wb_flow.specs.declared.committing.Phase.{Phase}
use Rattle.wb_flow.specs.declared.committing.Phase.TheVariants.{LooksAtFail, Begins, Asks, Commits, SetsSuspended, GivesUp, SetsFailed, BreaksCommits, Ended}
use Rattle.wb_flow.specs.declared.committing.CommitTask.TheInside.{Inside}
use Rattle.wb_flow.proofs.Commits.{IsNeither, done_or_failed, first_of_closing}

pub starts : (purpose : Purpose) (blocks : List OBlock) (most : ℕ) → commit_task_left purpose blocks most LooksAtFail blocks ≡ table (commit_job purpose blocks most)
starts Flush blocks most = refl
starts Suspend blocks most = refl

-- its commit is done, or fails
commits : (purpose : Purpose) (c : Commit) (got : Got) → IsNeither got → Fits (first_step (closing purpose (commit_left c)) Finished) got → ⊥
commits purpose c got n h = done_or_failed c got n (subst (λ (w : Want). Fits w got) (first_of_closing purpose c) h)

-- the phases in which a result may come
abbrev pub Comes : Got → Phase → Type 0
Comes (Word word) LooksAtFail = Unit {0}
Comes (Word word) Begins = Unit {0}
Comes (Refused refusal) Begins = Unit {0}
Comes (Refused refusal) Asks = Unit {0}
Comes (Began nodes) Begins = Unit {0}
Comes (Began nodes) Asks = Unit {0}
Comes Ticket Begins = Unit {0}
Comes Served Asks = Unit {0}
Comes Done (Commits c) = Unit {0}
Comes Done SetsSuspended = Unit {0}
Comes Done (GivesUp refusal) = Unit {0}
Comes Done (SetsFailed device) = Unit {0}
Comes Done (BreaksCommits device) = Unit {0}
Comes Fault (Commits c) = Unit {0}
Comes got phase = ⊥

comes : (purpose : Purpose) (blocks : List OBlock) (most : ℕ) (phase : Phase) (rest : List OBlock) (got : Got) → Fits (want (commit_task_left purpose blocks most phase rest)) got → Comes got phase
comes purpose blocks most LooksAtFail rest (Word word) h = tt
comes purpose blocks most LooksAtFail rest got h = absurd h
comes Flush blocks most Begins rest (Refused refusal) h = tt
comes Flush blocks most Begins rest (Began nodes) h = tt
comes Flush blocks most Begins rest Ticket h = tt
comes Flush blocks most Begins rest got h = absurd h
comes Suspend blocks most Begins (b ∷ rest) (Word word) h = tt
comes Suspend blocks most Begins (b ∷ rest) got h = absurd h
comes Suspend blocks most Begins [] (Refused refusal) h = tt
comes Suspend blocks most Begins [] (Began nodes) h = tt
comes Suspend blocks most Begins [] got h = absurd h
comes purpose blocks most Asks rest (Refused refusal) h = tt
comes purpose blocks most Asks rest (Began nodes) h = tt
comes purpose blocks most Asks rest Served h = tt
comes purpose blocks most Asks rest got h = absurd h
comes purpose blocks most (Commits c) rest Done h = tt
comes purpose blocks most (Commits c) rest Fault h = tt
comes purpose blocks most (Commits c) rest (Word word) h = commits purpose c (Word word) tt h
comes purpose blocks most (Commits c) rest (Refused refusal) h = commits purpose c (Refused refusal) tt h
comes purpose blocks most (Commits c) rest (Began nodes) h = commits purpose c (Began nodes) tt h
comes purpose blocks most (Commits c) rest Ticket h = commits purpose c Ticket tt h
comes purpose blocks most (Commits c) rest Served h = commits purpose c Served tt h
comes purpose blocks most (Commits c) rest Lost h = commits purpose c Lost tt h
comes purpose blocks most (Commits c) rest More h = commits purpose c More tt h
comes purpose blocks most (Commits c) rest got h = absurd h
comes purpose blocks most SetsSuspended rest Done h = tt
comes purpose blocks most SetsSuspended rest got h = absurd h
comes purpose blocks most (GivesUp refusal) (b ∷ rest) Done h = tt
comes purpose blocks most (GivesUp refusal) (b ∷ rest) got h = absurd h
comes purpose blocks most (GivesUp refusal) [] got h = absurd (no_result (Refuses refusal) got h)
comes purpose blocks most (SetsFailed device) rest Done h = tt
comes purpose blocks most (SetsFailed device) rest got h = absurd h
comes purpose blocks most (BreaksCommits device) rest Done h = tt
comes purpose blocks most (BreaksCommits device) rest got h = absurd h
comes purpose blocks most (Ended answer) rest got h = absurd (no_result answer got h)

-- what is left of a task, and what it is in another phase, with these of its blocks left
abbrev pub in_phase : Inside → Phase → List OBlock → Plan
in_phase t phase rest = commit_task_left t.purpose t.blocks.items t.most phase rest

abbrev pub rest_of : Inside → List OBlock
rest_of t = drop t.past t.blocks.items

pub comes_to : {old : Plan} (t : Inside) (got : Got) → in_phase t t.phase (rest_of t) ≡ old → Fits (want old) got → Comes got t.phase
comes_to t got is h = comes t.purpose t.blocks.items t.most t.phase (rest_of t) got (subst (λ (s : Plan). Fits (want s) got) (sym is) h)

-- in the other phases it does not come
pub unlooked : (phase : Phase) (word : ℕ) → (phase ≡ LooksAtFail → ⊥) → (phase ≡ Begins → ⊥) → Comes (Word word) phase → ⊥
unlooked LooksAtFail word fail begins h = fail refl
unlooked Begins word fail begins h = begins refl
unlooked phase word fail begins h = h

pub undone : (phase : Phase) → ((c : Commit) → phase ≡ Commits c → ⊥) → (phase ≡ SetsSuspended → ⊥) → ((refusal : Refusal) → phase ≡ GivesUp refusal → ⊥) → ((device : Dev) → phase ≡ SetsFailed device → ⊥) → ((device : Dev) → phase ≡ BreaksCommits device → ⊥) → Comes Done phase → ⊥
undone (Commits c) commits suspends gives fails breaks h = commits c refl
undone SetsSuspended commits suspends gives fails breaks h = suspends refl
undone (GivesUp refusal) commits suspends gives fails breaks h = gives refusal refl
undone (SetsFailed device) commits suspends gives fails breaks h = fails device refl
undone (BreaksCommits device) commits suspends gives fails breaks h = breaks device refl
undone phase commits suspends gives fails breaks h = h

pub unfailed : (phase : Phase) → ((c : Commit) → phase ≡ Commits c → ⊥) → Comes Fault phase → ⊥
unfailed (Commits c) commits h = commits c refl
unfailed phase commits h = h

-- after a fault either sets the failed bit, and breaks the commits
pub sets_failed : (purpose : Purpose) (blocks : List OBlock) (most : ℕ) (step : DeviceStep) → after_fault_of (commit_job purpose blocks most) step ≡ failed_commit
sets_failed Flush blocks most step = refl
sets_failed Suspend blocks most step = refl

-- one block more was passed
passed : (t : Inside) → t.past < length t.blocks.items → (b : OBlock) × (rest_of t ≡ b ∷ drop (t.past + 1) t.blocks.items)
passed t l = (_, drop_more t.blocks.items t.past (record { 0 = 0 }) l)

saw_seal : (purpose : Purpose) (blocks : List OBlock) (most : ℕ) (b : OBlock) (rest : List OBlock) (word : ℕ) → Fits (want (commit_task_left purpose blocks most Begins (b ∷ rest))) (Word word) →
    commit_task_left purpose blocks most Begins rest ≡ after (commit_task_left purpose blocks most Begins (b ∷ rest)) (Word word)
saw_seal Flush blocks most b rest word h = absurd h
saw_seal Suspend blocks most b rest word h = refl

pub saw_one : {old : Plan} (t : Inside) (word : ℕ) → t.phase ≡ Begins → t.past < length t.blocks.items → in_phase t t.phase (rest_of t) ≡ old → Fits (want old) (Word word) → in_phase t t.phase (drop (t.past + 1) t.blocks.items) ≡ after old (Word word)
saw_one t word begins l is h =
    let next = passed t l in
    let at = (λ i. in_phase t (sym begins i) (sym next.1 i)) ∙ is in
    ap (λ (p : Phase). in_phase t p (drop (t.past + 1) t.blocks.items)) begins
    ∙ saw_seal t.purpose t.blocks.items t.most next.0 (drop (t.past + 1) t.blocks.items) word (subst (λ (s : Plan). Fits (want s) (Word word)) (sym at) h) ∙ ap (λ (s : Plan). after s (Word word)) at

pub gave_up : {old : Plan} (t : Inside) (refusal : Refusal) → t.phase ≡ GivesUp refusal → t.past < length t.blocks.items → in_phase t t.phase (rest_of t) ≡ old → in_phase t t.phase (drop (t.past + 1) t.blocks.items) ≡ after old Done
gave_up t refusal gives l is =
    let next = passed t l in
    ap (λ (p : Phase). in_phase t p (drop (t.past + 1) t.blocks.items)) gives ∙ ap (λ (s : Plan). after s Done) ((λ i. in_phase t (sym gives i) (sym next.1 i)) ∙ is)

-- What the desk refused is the commit; a flush then gives up all that it serves, but where commits are broken.
gives_all : (serves : List OBlock) (most : ℕ) (phase : Phase) (orders : List OBlock) (refusal : Refusal) → (refusal ≡ Failed → ⊥) → Comes (Refused refusal) phase →
    commit_task_left Flush serves most (GivesUp refusal) serves ≡ after (commit_task_left Flush serves most phase orders) (Refused refusal)
gives_all serves most phase orders Failed n h = absurd (n refl)
gives_all serves most Begins orders refusal n h = refl
gives_all serves most Asks orders refusal n h = refl
gives_all serves most phase orders refusal n h = absurd h

pub refused_flush : {old : Plan} (t : Inside) (refusal : Refusal) → t.purpose ≡ Flush → (refusal ≡ Failed → ⊥) → in_phase t t.phase (rest_of t) ≡ old → Fits (want old) (Refused refusal) → in_phase t (GivesUp refusal) t.blocks.items ≡ after old (Refused refusal)
refused_flush t refusal flush n is h =
    ap (λ (p : Purpose). commit_task_left p t.blocks.items t.most (GivesUp refusal) t.blocks.items) flush
    ∙ gives_all t.blocks.items t.most t.phase (rest_of t) refusal n (comes_to t (Refused refusal) is h)
    ∙ ap (λ (s : Plan). after s (Refused refusal)) ((λ i. commit_task_left (sym flush i) t.blocks.items t.most t.phase (rest_of t)) ∙ is)

-- what began is the commit
begun : (t : Inside) (phase : Phase) (nodes : ℕ) (c : Commit) → commit_left c ≡ commit_steps nodes → Comes (Began nodes) phase → in_phase t (Commits c) (rest_of t) ≡ after (in_phase t phase (rest_of t)) (Began nodes)
begun t phase nodes c e h = by_phase phase h
  where
    closed : (purpose : Purpose) → closing purpose (commit_steps nodes) ≡ begun_steps (commit_job purpose t.blocks.items t.most) nodes
    closed Flush = refl
    closed Suspend = refl

    with_steps : List Want → Plan
    with_steps steps = record { job = commit_job t.purpose t.blocks.items t.most; steps = steps; answer = Finished }

    leads : with_steps (closing t.purpose (commit_left c)) ≡ with_steps (begun_steps (commit_job t.purpose t.blocks.items t.most) nodes)
    leads = ap with_steps (ap (closing t.purpose) e ∙ closed t.purpose)

    by_phase : (phase : Phase) → Comes (Began nodes) phase → in_phase t (Commits c) (rest_of t) ≡ after (in_phase t phase (rest_of t)) (Began nodes)
    by_phase Begins h = leads
    by_phase Asks h = leads
    by_phase phase h = absurd h

pub began : {old : Plan} (t : Inside) (got : Got) (c : Commit) → ((nodes : ℕ) → got ≡ Began nodes → commit_left c ≡ commit_steps nodes) → (got ≡ Ticket → ⊥) → (got ≡ Served → ⊥) → IsRare got → in_phase t t.phase (rest_of t) ≡ old → Fits (want old) got → in_phase t (Commits c) (rest_of t) ≡ after old got
began t (Began nodes) c e ticket served r is h = begun t t.phase nodes c (e nodes refl) (comes_to t (Began nodes) is h) ∙ ap (λ (s : Plan). after s (Began nodes)) is
began t Lost c e ticket served r is h = absurd (comes_to t Lost is h)
began t More c e ticket served r is h = absurd (comes_to t More is h)
began t Ticket c e ticket served r is h = absurd (ticket refl)
began t Served c e ticket served r is h = absurd (served refl)
began t got c e ticket served r is h = absurd r

-- with a ticket it asks; once it is served nothing is left
ticketed : (t : Inside) (purpose : Purpose) (phase : Phase) (rest : List OBlock) → Comes Ticket phase → Fits (want (commit_task_left purpose t.blocks.items t.most phase rest)) Ticket →
    commit_task_left purpose t.blocks.items t.most Asks rest ≡ after (commit_task_left purpose t.blocks.items t.most phase rest) Ticket
ticketed t Flush Begins rest h f = refl
ticketed t Suspend Begins [] h f = absurd f
ticketed t Suspend Begins (b ∷ rest) h f = absurd f
ticketed t purpose phase rest h f = absurd h

pub asks : {old : Plan} (t : Inside) (got : Got) → got ≡ Ticket → in_phase t t.phase (rest_of t) ≡ old → Fits (want old) got → in_phase t Asks (rest_of t) ≡ after old got
asks t Ticket e is h = ticketed t t.purpose t.phase (rest_of t) (comes_to t Ticket is h) (subst (λ (s : Plan). Fits (want s) Ticket) (sym is) h) ∙ ap (λ (s : Plan). after s Ticket) is
asks t got e is h = absurd cc

served : (t : Inside) (phase : Phase) → Comes Served phase → in_phase t (Ended Finished) (rest_of t) ≡ after (in_phase t phase (rest_of t)) Served
served t Asks h = refl
served t phase h = absurd h

pub is_served : {old : Plan} (t : Inside) (got : Got) → got ≡ Served → in_phase t t.phase (rest_of t) ≡ old → Fits (want old) got → in_phase t (Ended Finished) (rest_of t) ≡ after old got
is_served t Served e is h = served t t.phase (comes_to t Served is h) ∙ ap (λ (s : Plan). after s Served) is
is_served t got e is h = absurd cc
