-- The way of a request that is answered done: each step gave the one result with which the table goes on.
use Rattle.std.proofs.Common.{◌≡◌, ◌≤◌, ◌+◌, ◌-◌, ◌==◌, ℕ, zero, suc, min, Bool, true, false, List, [], ◌∷◌, ◌++◌, Option, map, refl, ap, subst, ◌∙◌, if◌then◌else◌, arith}
use Rattle.std.proofs.lemmas.Bool.{eqb-true}
use Rattle.wb_types.specs.declared.extent.Extent.{Extent}
use Rattle.wb_types.specs.Extents.{pieces}
use Rattle.wb_types.specs.declared.number.OBlock.{OBlock}
use Rattle.wb_types.specs.declared.refusal.Refusal.TheVariants.{Busy, Failed, Worn, Io}
use Rattle.wb_words.specs.declared.word.Access.{Access}
use Rattle.wb_words.specs.declared.word.Word.{Word as WordName}
use Rattle.wb_words.specs.declared.word.Word.TheVariants.{Cell as LockWord, Seal as SealWord, Number, Fail}
use Rattle.wb_words.specs.SharedWords.{place_in, dirty_in}
use Rattle.wb_words.specs.declared.step.CellStep.{CellStep}
use Rattle.wb_words.specs.declared.step.CellStep.TheVariants.{Look, Take, Release, Seal, Finish, Count}
use Rattle.wb_tasks.specs.Tables.{BlockJob, OnBlock, range_of, access_of, work, taking}
use Rattle.wb_tasks.specs.Plan.{Plan, table, after, after_look, answer_at, refused, may_take, is_worn, gives_back, Fits, IsStep}
use Rattle.wb_tasks.specs.Run.{IsRunOf, Leads}
use Rattle.wb_tasks.specs.declared.step.DeviceStep.TheVariants.{Read, Write}
use Rattle.wb_tasks.specs.declared.step.Answer.{Answer}
use Rattle.wb_tasks.specs.declared.step.Answer.TheVariants.{Done as Finished}
use Rattle.wb_tasks.specs.declared.step.Want.{Want}
use Rattle.wb_tasks.specs.declared.step.Want.TheVariants.{Cell, Device}
use Rattle.wb_tasks.specs.declared.step.Got.{Got}
use Rattle.wb_tasks.specs.declared.step.Got.TheVariants.{Done, Word, Lost, Fault}
use Rattle.wb_tasks.proofs.Peeling.{peel}
use Rattle.wb_tasks.proofs.Pieces.{first_piece}
use Rattle.wb_port.specs.Requests.{IsReadOrWrite}
use Rattle.wb_port.proofs.Letting.{not_done, lets_go_after}

-- these steps are left of a job, and this answer
abbrev pub going_to : Answer → BlockJob → List Want → Plan
going_to answer job ws = record { job = OnBlock job; steps = ws; answer = answer }

-- what is left of a job that is to be answered done
abbrev pub going : BlockJob → List Want → Plan
going job ws = going_to Finished job ws

-- A step that was done.
pub record WasDone {S : Type 0} (led : S → Want → Got → S → Type 0) (job : BlockJob) (w : Want) (ws : List Want) (old new : S) : Type 0 where
  pub mid : S
  pub rest : List (Want × Got)
  pub did : led old w Done mid
  pub run : IsRunOf (going job ws) rest Finished
  pub leads : Leads led mid rest new

-- a step with which the table goes on only where it is done
abbrev pub OnlyDone : BlockJob → Want → List Want → Type 0
OnlyDone job w ws = (g : Got) (rest : List (Want × Got)) → Fits w g → IsRunOf (after (going job (w ∷ ws)) g) rest Finished → g ≡ Done

pub done : {S : Type 0} (led : S → Want → Got → S → Type 0) (job : BlockJob) (w : Want) (ws : List Want) (steps : List (Want × Got)) (old new : S) → IsStep w → OnlyDone job w ws → IsRunOf (going job (w ∷ ws)) steps Finished → Leads led old steps new → WasDone led job w ws old new
done led job w ws steps old new i only r l =
    let p = peel led (going job (w ∷ ws)) Finished steps old new i r l in
    let o : p.got ≡ Done = only p.got p.rest p.fits p.run in record {
      mid = p.mid;
      rest = p.rest;
      did = subst (λ (g : Got). led old w g p.mid) o p.did;
      run = subst (λ (g : Got). IsRunOf (after (going job (w ∷ ws)) g) p.rest Finished) o p.run;
      leads = p.leads;
    }

only_take : (job : BlockJob) (a : Access) (b : OBlock) (seen : ℕ) (ws : List Want) → OnlyDone job (Cell (Take a b seen)) ws
only_take job a b seen ws Done rest h r = refl
only_take job a b seen ws Lost rest h r = absurd (not_done (going job (Cell (Take a b seen) ∷ ws)) [] Busy tt rest r)
only_take job a b seen ws g rest h r = absurd h

pub only_release : (job : BlockJob) (a : Access) (b : OBlock) (ws : List Want) → OnlyDone job (Cell (Release a b)) ws
only_release job a b ws Done rest h r = refl
only_release job a b ws g rest h r = absurd h

pub only_seal : (job : BlockJob) (b : OBlock) (place : Option _) (dirty : Bool) (ws : List Want) → OnlyDone job (Cell (Seal b place dirty)) ws
only_seal job b place dirty ws Done rest h r = refl
only_seal job b place dirty ws g rest h r = absurd h

pub only_finish : (job : BlockJob) (b : OBlock) (ws : List Want) → OnlyDone job (Cell (Finish b)) ws
only_finish job b ws Done rest h r = refl
only_finish job b ws g rest h r = absurd h

pub only_count : (job : BlockJob) (kind : _) (ws : List Want) → OnlyDone job (Cell (Count kind)) ws
only_count job kind ws Done rest h r = refl
only_count job kind ws g rest h r = absurd h

pub only_read : (job : BlockJob) → IsReadOrWrite job → (device : _) (e : Extent) (ws : List Want) → OnlyDone job (Device (Read device e)) ws
only_read job q device e ws Done rest h r = refl
only_read job q device e ws Fault rest h r = absurd (not_done (going job (Device (Read device e) ∷ ws)) _ (Io device) (lets_go_after job (Read device e) q) rest r)
only_read job q device e ws g rest h r = absurd h

pub only_write : (job : BlockJob) → IsReadOrWrite job → (device : _) (e : Extent) (ws : List Want) → OnlyDone job (Device (Write device e)) ws
only_write job q device e ws Done rest h r = refl
only_write job q device e ws Fault rest h r = absurd (not_done (going job (Device (Write device e) ∷ ws)) _ (Io device) (lets_go_after job (Write device e) q) rest r)
only_write job q device e ws g rest h r = absurd h

-- nothing is left but the answer
pub at_end : {S : Type 0} (led : S → Want → Got → S → Type 0) (job : BlockJob) (steps : List (Want × Got)) (old new : S) → IsRunOf (going job []) steps Finished → Leads led old steps new → old ≡ new
at_end led job [] old new r l = l
at_end led job (step ∷ steps) old new r l = absurd (Rattle.wb_tasks.proofs.Driving.no_result Finished step.1 (subst (λ (w : Want). Fits w step.1) r.0 r.1))

-- ---- taking the block

only_word : (w : WordName) (g : Got) → Fits (Cell (Look w)) g → (x : ℕ) × (g ≡ Word x)
only_word w (Word x) h = (x, refl)
only_word w g h = absurd h

-- A look that found a word.
record Looked {S : Type 0} (led : S → Want → Got → S → Type 0) (s : Plan) (w : WordName) (old new : S) : Type 0 where
  found : ℕ
  mid : S
  rest : List (Want × Got)
  did : led old (Cell (Look w)) (Word found) mid
  run : IsRunOf (after_look s (Cell (Look w)) found) rest Finished
  leads : Leads led mid rest new

look : {S : Type 0} (led : S → Want → Got → S → Type 0) (answer : Answer) (job : BlockJob) (w : WordName) (ws : List Want) (steps : List (Want × Got)) (old new : S) → IsRunOf (going_to answer job (Cell (Look w) ∷ ws)) steps Finished → Leads led old steps new → Looked led (going_to answer job (Cell (Look w) ∷ ws)) w old new
look led answer job w ws steps old new r l =
    let p = peel led (going_to answer job (Cell (Look w) ∷ ws)) Finished steps old new tt r l in
    let o = only_word w p.got p.fits in record {
      found = o.0;
      mid = p.mid;
      rest = p.rest;
      did = subst (λ (g : Got). led old (Cell (Look w)) g p.mid) o.1 p.did;
      run = subst (λ (g : Got). IsRunOf (after (going_to answer job (Cell (Look w) ∷ ws)) g) p.rest Finished) o.1 p.run;
      leads = p.leads;
    }

past_fail : (job : BlockJob) (ws : List Want) (x : ℕ) (rest : List (Want × Got)) → IsRunOf (after_look (going job (Cell (Look Fail) ∷ ws)) (Cell (Look Fail)) x) rest Finished → (x ≡ 0) × IsRunOf (going job ws) rest Finished
past_fail job ws x rest r =
    let s = going job (Cell (Look Fail) ∷ ws) in
    let both : (x == 0 ≡ true) × IsRunOf (going job ws) rest Finished = (elim (x == 0) as (λ (b : Bool). IsRunOf (if b then (going job ws) else (refused s [] Failed)) rest Finished → (b ≡ true) × IsRunOf (going job ws) rest Finished) [ true ↦ (λ h. (refl, h)) | false ↦ (λ h. absurd (not_done s [] Failed tt rest h)) ]) r in
    (eqb-true x 0 both.0, both.1)

past_lock : (job : BlockJob) (b : OBlock) (ws : List Want) (x : ℕ) (rest : List (Want × Got)) → IsRunOf (after_look (going job (Cell (Look (LockWord b)) ∷ ws)) (Cell (Look (LockWord b))) x) rest Finished → IsRunOf (going job (taking (access_of job) (range_of job).block x)) rest Finished
past_lock job b ws x rest r =
    let s = going job (Cell (Look (LockWord b)) ∷ ws) in
    let on = going job (taking (access_of job) (range_of job).block x) in
    (elim (may_take (OnBlock job) x) as (λ (t : Bool). IsRunOf (if t then on else (refused s [] Busy)) rest Finished → IsRunOf on rest Finished) [ true ↦ (λ h. h) | false ↦ (λ h. absurd (not_done s [] Busy tt rest h)) ]) r

past_number : (answer : Answer) (job : BlockJob) (b : OBlock) (ws : List Want) (x : ℕ) (rest : List (Want × Got)) → IsRunOf (after_look (going_to answer job (Cell (Look (Number b)) ∷ ws)) (Cell (Look (Number b))) x) rest Finished → IsRunOf (going_to answer job ws) rest Finished
past_number answer job b ws x rest r =
    let s = going_to answer job (Cell (Look (Number b)) ∷ ws) in
    (elim (is_worn (OnBlock job) x) as (λ (t : Bool). IsRunOf (if t then (refused s (gives_back (OnBlock job)) Worn) else (going_to answer job ws)) rest Finished → IsRunOf (going_to answer job ws) rest Finished) [ true ↦ (λ h. absurd (not_done s (gives_back (OnBlock job)) Worn tt rest h)) | false ↦ (λ h. h) ]) r

-- The five steps that take the block, and the rest of the run.
pub record Acquired {S : Type 0} (led : S → Want → Got → S → Type 0) (job : BlockJob) (old new : S) : Type 0 where
  pub lock : ℕ
  pub seal : ℕ
  pub number : ℕ
  pub s1 : S
  pub s2 : S
  pub s3 : S
  pub s4 : S
  pub s5 : S
  pub rest : List (Want × Got)
  pub not_failed : led old (Cell (Look Fail)) (Word 0) s1
  pub free : led s1 (Cell (Look (LockWord (range_of job).block))) (Word lock) s2
  pub took : led s2 (Cell (Take (access_of job) (range_of job).block lock)) Done s3
  pub sealed : led s3 (Cell (Look (SealWord (range_of job).block))) (Word seal) s4
  pub numbered : led s4 (Cell (Look (Number (range_of job).block))) (Word number) s5
  pub run : IsRunOf (going_to (answer_at job (place_in seal) Finished) job (work job (place_in seal) (dirty_in seal))) rest Finished
  pub leads : Leads led s5 rest new

pub acquired : {S : Type 0} (led : S → Want → Got → S → Type 0) (job : BlockJob) (steps : List (Want × Got)) (old new : S) → IsRunOf (table (OnBlock job)) steps Finished → Leads led old steps new → Acquired led job old new
acquired led job steps old new r l =
    let b : OBlock = (range_of job).block in
    let lock_look : List Want = Cell (Look (LockWord b)) ∷ [] in
    let seal_look : List Want = Cell (Look (SealWord b)) ∷ [] in
    let f = look led Finished job Fail lock_look steps old new r l in
    let clear = past_fail job lock_look f.found f.rest f.run in
    let c = look led Finished job (LockWord b) [] f.rest f.mid new clear.1 f.leads in
    let d = done led job (Cell (Take (access_of job) b c.found)) seal_look c.rest c.mid new tt (only_take job (access_of job) b c.found seal_look) (past_lock job b [] c.found c.rest c.run) c.leads in
    let e = look led Finished job (SealWord b) [] d.rest d.mid new d.run d.leads in
    let works : List Want = work job (place_in e.found) (dirty_in e.found) in
    let answer : Answer = answer_at job (place_in e.found) Finished in
    let g = look led answer job (Number b) works e.rest e.mid new e.run e.leads in record {
      lock = c.found;
      seal = e.found;
      number = g.found;
      s1 = f.mid;
      s2 = c.mid;
      s3 = d.mid;
      s4 = e.mid;
      s5 = g.mid;
      rest = g.rest;
      not_failed = subst (λ (x : ℕ). led old (Cell (Look Fail)) (Word x) f.mid) clear.0 f.did;
      free = c.did;
      took = d.did;
      sealed = e.did;
      numbered = g.did;
      run = past_number answer job b works g.found g.rest g.run;
      leads = g.leads;
    }

-- what no step on a word changes is as it was
pub acquired_keeps : {S C : Type 0} (led : S → Want → Got → S → Type 0) (job : BlockJob) (old new : S) (part : S → C) → ((s : S) (step : CellStep) (got : Got) (t : S) → led s (Cell step) got t → part t ≡ part s) → (a : Acquired led job old new) → part a.s5 ≡ part old
acquired_keeps led job old new part keeps a =
    keeps a.s4 _ _ a.s5 a.numbered ∙ (keeps a.s3 _ _ a.s4 a.sealed ∙ (keeps a.s2 _ _ a.s3 a.took ∙ (keeps a.s1 _ _ a.s2 a.free ∙ keeps old _ _ a.s1 a.not_failed)))

-- ---- moving the extents

-- Some steps were done that move extents; so much is known then, and the rest of the run.
pub record AllMoved {S : Type 0} (led : S → Want → Got → S → Type 0) (job : BlockJob) (ws : List Want) (Known : S → Type 0) (new : S) : Type 0 where
  pub mid : S
  pub rest : List (Want × Got)
  pub known : Known mid
  pub run : IsRunOf (going job ws) rest Finished
  pub leads : Leads led mid rest new

-- these steps for each extent, one after the other, before others
abbrev pub each_moved : (Extent → List Want → List Want) → List Extent → List Want → List Want
each_moved steps [] ws = ws
each_moved steps (e ∷ es) ws = steps e (each_moved steps es ws)

-- Where the steps of the next piece tell of so many sectors more, those of all tell of all.
module _ {S : Type 0} (led : S → Want → Got → S → Type 0) (job : BlockJob) (steps_of : Extent → List Want → List Want) (longest first count : ℕ) (some : 1 ≤ longest) (Known : ℕ → S → Type 0)
    (more : (m j : ℕ) (later : List Want) (steps : List (Want × Got)) (old new : S) → 1 ≤ j → m + j ≤ count → Known m old → IsRunOf (going job (steps_of (record { first = first + m; count = j }) later)) steps Finished → Leads led old steps new
    → AllMoved led job later (Known (m + j)) new) where
  pub all_moved : (fuel k m : ℕ) (ws : List Want) (steps : List (Want × Got)) (old new : S) → k ≤ fuel → m + k ≡ count → Known m old → IsRunOf (going job (each_moved steps_of (pieces longest (record { first = first + m; count = k })) ws)) steps Finished → Leads led old steps new → AllMoved led job ws (Known count) new
  all_moved fuel zero m ws steps old new b e known r l = record {
    mid = old;
    rest = steps;
    known = let all : m ≡ count = omega (arith, e) in subst (λ (n : ℕ). Known n old) all known;
    run = r;
    leads = l;
  }
  all_moved zero (suc k) m ws steps old new b e known r l = absurd (omega (arith, b))
  all_moved (suc fuel) (suc k) m ws steps old new b e known r l =
      let j : ℕ = min (suc k) longest in
      let left : ℕ = suc k - j in
      let later : List Want = each_moved steps_of (pieces longest (record { first = (first + m) + j; count = left })) ws in
      let cut = first_piece longest (first + m) (suc k) some (omega arith) in
      let run : IsRunOf (going job (steps_of (record { first = first + m; count = j }) later)) steps Finished = subst (λ (es : List Extent). IsRunOf (going job (each_moved steps_of es ws)) steps Finished) cut r in
      let d = more m j later steps old new (omega (arith, some)) (omega (arith, e)) known run l in
      let here : (first + m) + j ≡ first + (m + j) = omega arith in
      let rest : IsRunOf (going job (each_moved steps_of (pieces longest (record { first = first + (m + j); count = left })) ws)) d.rest Finished = subst (λ (at : ℕ). IsRunOf (going job (each_moved steps_of (pieces longest (record { first = at; count = left })) ws)) d.rest Finished) here d.run in
      all_moved fuel left (m + j) ws d.rest d.mid new (omega (arith, some, b)) (omega (arith, e)) d.known rest d.leads

-- ---- an extent by one step

abbrev pub by_one : (Extent → Want) → Extent → List Want → List Want
by_one move e later = move e ∷ later

pub mapped : (move : Extent → Want) (es : List Extent) (ws : List Want) → map move es ++ ws ≡ each_moved (by_one move) es ws
mapped move [] ws = refl
mapped move (e ∷ es) ws = ap (λ (later : List Want). move e ∷ later) (mapped move es ws)

pub one_moved : {S : Type 0} (led : S → Want → Got → S → Type 0) (job : BlockJob) (move : Extent → Want) → ((e : Extent) → IsStep (move e)) → ((e : Extent) (ws : List Want) → OnlyDone job (move e) ws) → (Known : ℕ → S → Type 0) (first count : ℕ)
    → ((m j : ℕ) (s t : S) → 1 ≤ j → m + j ≤ count → Known m s → led s (move (record { first = first + m; count = j })) Done t → Known (m + j) t)
    → (m j : ℕ) (later : List Want) (steps : List (Want × Got)) (old new : S) → 1 ≤ j → m + j ≤ count → Known m old → IsRunOf (going job (by_one move (record { first = first + m; count = j }) later)) steps Finished → Leads led old steps new
    → AllMoved led job later (Known (m + j)) new
one_moved led job move is_step only Known first count more m j later steps old new some among known r l =
    let d = done led job (move (record { first = first + m; count = j })) later steps old new (is_step _) (only _ later) r l in record { mid = d.mid; rest = d.rest; known = more m j old d.mid some among known d.did; run = d.run; leads = d.leads }
