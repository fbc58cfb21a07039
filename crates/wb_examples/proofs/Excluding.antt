-- That the promises exclude wrong answers: each of them by hand.
use Rattle.std.proofs.Common.{◌≡◌, ◌∙◌, ◌≤◌, ◌<◌, ◌+◌, inl, inr, ℕ, zero, suc, Bool, true, false, List, [], ◌∷◌, Option, Some, None, refl, sym, ap, subst, arith, slice_get}
use Rattle.std.specs.Prelude.{Contains, IsPermutation}
use Rattle.std.proofs.lemmas.List.Sorted.{IsPermutation-refl, length_permutation, Contains-permutation}
use Rattle.std.proofs.lemmas.List.Elements.{All-cons, All-head, All-nil}
use Rattle.wb_types.proofs.Lists.{Contains-first, Contains-one}
use Rattle.wb_types.specs.declared.mode.Dev.TheVariants.{Cache, Origin}
use Rattle.wb_disk.specs.Device.{Content as Bytes}
use Rattle.wb_promise.specs.Clerk.{Doing}
use Rattle.wb_types.specs.declared.entry.Entry.{Entry}
use Rattle.wb_tree.specs.Mapping.{Mapping}
use Rattle.wb_desk.specs.Desks.{DeskState}
use Rattle.wb_desk.specs.Entries.{entry_of}
use Rattle.wb_desk.specs.Marks.{marked_entries}
use Rattle.wb_tasks.specs.Plan.{Plan, want}
use Rattle.wb_tasks.specs.declared.step.Want.{Want}
use Rattle.wb_tasks.specs.declared.step.Want.TheVariants.{Desk}
use Rattle.wb_tasks.specs.declared.step.Got.{Got}
use Rattle.wb_tasks.specs.declared.step.Got.TheVariants.{Began, Served, Refused as GotRefused}
use Rattle.wb_stage.specs.Sharing.{ShareIsCovered, MustWait}
use Rattle.wb_stage.specs.declared.share.Share.{Share}
use Rattle.wb_stage.specs.declared.share.Share.TheVariants.{Nothing as Unshared, Waiting, Covered}
use Rattle.wb_devices.specs.declared.running.RunningCommit.{RunningCommit}
use Rattle.wb_promise.specs.declared.job.Job.{Job}
use Rattle.wb_promise.specs.declared.job.Job.TheVariants.{Flush, Suspend}
use Rattle.wb_promise.specs.declared.event.What.TheVariants.{Started}
use Rattle.wb_promise.specs.States.{Shape, State, Actor, Target, Phase, Stands, Gone, Opens, OfTarget}
use Rattle.wb_tasks.specs.declared.step.DeskStep.TheVariants.{Arrive, Ask, BeginCommit}
use Rattle.wb_promise.specs.Happenings.{Chosen, Plain, Looks, Commits, HasTask, OfSome, WaitsForCommit, Awaits, SuspendStarts, DoesArrive, DoesAsk, DoesBegin, DoesLead}
use Rattle.wb_runs.proofs.Imaged.{begun_root}
use Rattle.wb_examples.specs.Possible.{first_block, TargetHas}
use Rattle.wb_examples.specs.Excluded.{ExcludesWrongAnswers, ExcludesWrongSuspends, ExcludesWrongSharing, IsServedThere, StoresSeen, BeginsCommit, older, newer, foreign, given_reading, with_floor, opening}
use Rattle.wb_promise.specs.Headline.{IsAllowedAt, IsLatest, ShowsAllowed}

-- one place, or another
moved : IsPermutation {X = ℕ} (0 ∷ []) (1 ∷ []) → ⊥
moved p = let same = sym (Contains-one 1 0 (Contains-permutation (0 ∷ []) (1 ∷ []) 0 p (Contains-first 0 []))) in omega (arith, same)

another_device : Contains (Cache ∷ []) Origin → ⊥
another_device c = let same : Cache ≡ Origin = sym (Contains-one Cache Origin c) in cc

-- an entry at the floor or later may be shown, and nothing else
shows : (floor position : ℕ) (doing : Doing) (content : Bytes) → floor ≤ position → slice_get (older ∷ newer ∷ []) position ≡ Some content → ShowsAllowed (with_floor floor doing) (content ∷ [])
shows floor position doing content late there = record { all = refl; each = at_each }
  where
    at_each : (at : ℕ) (c : Bytes) → slice_get (content ∷ []) at ≡ Some c → IsAllowedAt (with_floor floor doing) at c
    at_each zero c e = (position, late, there ∙ e)
    at_each (suc at) c e = absurd (cc)

before : (position : ℕ) → 1 ≤ position → slice_get (older ∷ newer ∷ []) position ≡ Some older → ⊥
before zero late e = omega (arith, late)
before (suc zero) late e = cc
before (suc (suc position)) late e = cc

nowhere : (position : ℕ) → slice_get (older ∷ newer ∷ []) position ≡ Some foreign → ⊥
nowhere (suc (suc position)) e = cc
nowhere position e = cc

pub excludes : (P A : Type 0) → ExcludesWrongAnswers P A
excludes P A = record {
  read = (IsPermutation-refl (0 ∷ []), All-cons IsLatest (given_reading newer) [] refl (All-nil IsLatest));
  stale = λ wrong. let last : Some newer ≡ Some older = All-head IsLatest (given_reading older) [] wrong.1 in cc;
  unread = λ wrong. let many = length_permutation (0 ∷ []) [] wrong.0 in omega (arith, many);
  read_twice = λ wrong. let many = length_permutation (0 ∷ []) (0 ∷ 0 ∷ []) wrong.0 in omega (arith, many);
  wrote = IsPermutation-refl (0 ∷ []);
  unwritten = λ wrong. let many = length_permutation (0 ∷ []) [] wrong in omega (arith, many);
  wrote_twice = λ wrong. let many = length_permutation (0 ∷ []) (0 ∷ 0 ∷ []) wrong in omega (arith, many);
  not_again = λ shape. refl;
  elsewhere = moved;
  unflushed = shows 0 0 (opening []) older (omega arith) refl;
  kept = shows 1 1 (opening []) newer (omega arith) refl;
  lost = λ wrong. let at = wrong.each 0 older refl in before at.0 at.1 at.2;
  invented = λ wrong. let at = wrong.each 0 foreign refl in nowhere at.0 at.2;
  hidden = λ wrong. let many = wrong.all in omega (arith, many);
  failed = Contains-first Cache [];
  unfailed = another_device;
  no_memory = tt;
  no_generation = tt;
  damaged = λ place wrong. wrong;
  unformatted = λ wrong. wrong;
  mismatched = λ wrong. wrong;
  misfit = λ wrong. wrong;
  nobody = λ wrong. wrong;
  raised = λ shape. refl;
  not_since = λ shape. refl;
  not_refused = λ shape. refl;
  skipped = λ w a has goes skips. elim skips [ inl none ↦ none has | inr waits ↦ goes waits ];
}

-- ---- suspends

module _ (P A : Type 0) where
  alone : (w : State P A) (other : ℕ) (chosen : Chosen P A) → HasTask w other → SuspendStarts w Started chosen → ⊥
  alone w other (Looks blocks) has starts = starts.0 other has
  alone w other chosen has starts = absurd starts

  -- what a step does over a target it does over whatever stands
  over_target : (phase : Phase P A) (Q : DeskState P → Type 0) → OfTarget phase (λ t. Q t.desk) → (desk : DeskState P) × Q desk
  over_target (Stands t) Q q = (t.desk, q)
  over_target Gone Q q = absurd q
  over_target (Opens mode reading) Q q = absurd q

  unmarked : (desk : DeskState P) (entry : Entry) → entry.dirty ≡ false → StoresSeen P A desk entry → ⊥
  unmarked desk entry clean s =
      let with_hints = s.begins.3 in
      let marked = with_hints.1.shown ∙ ap (λ (es : List (Option Entry)). marked_entries (with_hints.0 desk.policy) (true ∷ []) es) s.mapped in
      let same : Some entry ∷ [] ≡ marked_entries (with_hints.0 desk.policy) (true ∷ []) (Some (entry_of first_block) ∷ []) = sym s.stored ∙ marked in
      let dirty : entry.dirty ≡ true = ap (λ (es : List (Option Entry)). first_dirty es) same in
      absurd (let both : true ≡ false = sym dirty ∙ clean in cc)
    where
      first_dirty : List (Option Entry) → Bool
      first_dirty (Some e ∷ es) = e.dirty
      first_dirty es = false

  unclean : (shape : Shape) (w : State P A) (x : Actor) (most : ℕ) (commit : RunningCommit) → commit.image.root.clean ≡ false → BeginsCommit shape w x Suspend (BeginCommit most) commit → ⊥
  unclean shape w x most commit not b =
      let over = over_target w.phase (λ desk. DoesBegin {P = P} {A = A} (Some x.seen) most desk (Began b.nodes) (Commits commit b.tree)) b.gives.1 in
      let d = over.1 in
      let clean : commit.image.root.clean ≡ true = (begun_root d.3.0 (Some x.seen) over.0 b.tree commit.image d.3.1).1 in
      absurd (let both : true ≡ false = sym clean ∙ not in cc)

  -- a flush begins none that is clean
  unmarked_root : (most nodes : ℕ) (desk : DeskState P) (commit : RunningCommit) (tree : Mapping) → commit.image.root.clean ≡ true → DoesLead {P = P} {A = A} most desk (Began nodes) (Commits commit tree) → ⊥
  unmarked_root most nodes desk commit tree is d =
      let unclean : commit.image.root.clean ≡ false = (begun_root d.1.3.0 None desk tree commit.image d.1.3.1).1 in
      absurd (let both : true ≡ false = sym is ∙ unclean in cc)

  clean : (shape : Shape) (w : State P A) (x : Actor) (most : ℕ) (commit : RunningCommit) → commit.image.root.clean ≡ true → BeginsCommit shape w x Flush (Arrive most) commit → ⊥
  clean shape w x most commit is b =
      let d = over_target w.phase (λ desk. DoesArrive {P = P} {A = A} most desk (Began b.nodes) (Commits commit b.tree)) b.gives.1 in
      unmarked_root most b.nodes d.0 commit b.tree is d.1

  clean_asked : (shape : Shape) (w : State P A) (x : Actor) (most : ℕ) (commit : RunningCommit) → commit.image.root.clean ≡ true → BeginsCommit shape w x Flush (Ask most) commit → ⊥
  clean_asked shape w x most commit is b =
      let d = over_target w.phase (λ desk. DoesAsk {P = P} {A = A} x.share most desk (Began b.nodes) (Commits commit b.tree)) b.gives.1 in
      unmarked_root most b.nodes d.0 commit b.tree is d.1.1

  pub excludes_suspends : ExcludesWrongSuspends P A
  excludes_suspends = record {
    alone = λ shape w a other chosen has starts. alone w other chosen has starts;
    busy = λ shape w a other has idle. idle other has;
    skipped = λ shape w a job suspends. ((refl, refl), inr (inr (inl suspends)));
    beside = λ shape w a job read chosen suspends may. may.1 (inr (inr (inl suspends)));
    unanswered = λ shape w a job refusal read chosen suspends may. may.1 (inr (inr (inl suspends)));
    unmarked = unmarked;
    unclean = unclean;
    clean = clean;
    clean_asked = clean_asked;
    raised = λ shape. refl;
    not_since = λ shape. refl;
    not_refused = λ shape. refl;
  }

-- ---- flushes that share commits

module _ (P A : Type 0) where
  -- what is so over a target and what is done over it are so of one desk
  both_over : (phase : Phase P A) (Q R : DeskState P → Type 0) → OfTarget phase (λ t. Q t.desk) → OfTarget phase (λ t. R t.desk) → (desk : DeskState P) × Q desk × R desk
  both_over (Stands t) Q R q r = (t.desk, q, r)
  both_over Gone Q R q r = absurd q
  both_over (Opens mode reading) Q R q r = absurd q

  -- who is served has a ticket that a commit covers
  is_covered : (share : Share) (most : ℕ) (desk : DeskState P) (chosen : Chosen P A) → DoesAsk share most desk Served chosen → ShareIsCovered desk share
  is_covered share most desk Plain d = d
  is_covered share most desk chosen d = absurd d.1

  served_there : (shape : Shape) (w : State P A) (x : Actor) (Q : DeskState P → Type 0) → OfTarget w.phase (λ t. Q t.desk) → IsServedThere shape w x → (desk : DeskState P) × Q desk × ShareIsCovered desk x.share
  served_there shape w x Q q s =
      let b = both_over w.phase Q (λ desk. DoesAsk {P = P} {A = A} x.share s.most desk Served s.chosen) q s.gives.1 in
      (b.0, b.1, is_covered x.share s.most b.0 s.chosen b.2)

  is_somewhere : (shape : Shape) (w : State P A) (x : Actor) → IsServedThere shape w x → (desk : DeskState P) × ShareIsCovered desk x.share
  is_somewhere shape w x s =
      let d = over_target P A w.phase (λ desk. DoesAsk {P = P} {A = A} x.share s.most desk Served s.chosen) s.gives.1 in
      (d.0, is_covered x.share s.most d.0 s.chosen d.1)

  covers : (desk : DeskState P) (share : Share) (number : ℕ) → share ≡ Waiting number → ShareIsCovered desk share → number ≤ desk.ended
  covers desk share number e c = subst (λ (o : Share). ShareIsCovered desk o) e c

  unended : (shape : Shape) (w : State P A) (x : Actor) (number : ℕ) → x.share ≡ Waiting number → TargetHas w (λ t. t.desk.ended < number) → IsServedThere shape w x → ⊥
  unended shape w x number e before s =
      let b = served_there shape w x (λ desk. desk.ended < number) before s in
      omega (arith, b.1, covers b.0 x.share number e b.2)

  began_before : (shape : Shape) (w : State P A) (x : Actor) (came : Target P) → x.share ≡ Waiting (came.desk.ended + 2) → TargetHas w (λ t. t.desk.ended ≡ came.desk.ended + 1) → IsServedThere shape w x → ⊥
  began_before shape w x came e one s =
      let b = served_there shape w x (λ desk. desk.ended ≡ came.desk.ended + 1) one s in
      omega (arith, b.1, covers b.0 x.share (came.desk.ended + 2) e b.2)

  uncovered : (shape : Shape) (w : State P A) (x : Actor) (share : Share) → ((desk : DeskState P) → ShareIsCovered desk share → ⊥) → x.share ≡ share → IsServedThere shape w x → ⊥
  uncovered shape w x share never e s = let d = is_somewhere shape w x s in never d.0 (subst (λ (o : Share). ShareIsCovered d.0 o) e d.1)

  -- ---- a commit that broke

  led_whole : (most nodes : ℕ) (desk : DeskState P) (commit : RunningCommit) (tree : Mapping) → desk.broken ≡ true → DoesLead {P = P} {A = A} most desk (Began nodes) (Commits commit tree) → ⊥
  led_whole most nodes desk commit tree broken d = absurd (let both : true ≡ false = sym broken ∙ d.0 in cc)

  after_broken : (shape : Shape) (w : State P A) (x : Actor) (most : ℕ) (commit : RunningCommit) → TargetHas w (λ t. t.desk.broken ≡ true) → BeginsCommit shape w x Flush (Arrive most) commit → ⊥
  after_broken shape w x most commit broken b =
      let d = both_over w.phase (λ desk. desk.broken ≡ true) (λ desk. DoesArrive {P = P} {A = A} most desk (Began b.nodes) (Commits commit b.tree)) broken b.gives.1 in
      led_whole most b.nodes d.0 commit b.tree d.1 d.2

  after_broken_asked : (shape : Shape) (w : State P A) (x : Actor) (most : ℕ) (commit : RunningCommit) → TargetHas w (λ t. t.desk.broken ≡ true) → BeginsCommit shape w x Flush (Ask most) commit → ⊥
  after_broken_asked shape w x most commit broken b =
      let d = both_over w.phase (λ desk. desk.broken ≡ true) (λ desk. DoesAsk {P = P} {A = A} x.share most desk (Began b.nodes) (Commits commit b.tree)) broken b.gives.1 in
      led_whole most b.nodes d.0 commit b.tree d.1 d.2.1

  awaits_none : (desk : DeskState P) (share : Share) (next : Want) → desk.broken ≡ true → Awaits desk share next → ⊥
  awaits_none desk share (Desk (Ask most)) broken m = absurd (let both : true ≡ false = sym broken ∙ m.whole in cc)
  awaits_none desk share next broken m = absurd m

  woken : (w : State P A) (a : ℕ) → TargetHas w (λ t. t.desk.broken ≡ true) → WaitsForCommit w a → ⊥
  woken w a broken waits = by_actor (slice_get w.actors a) waits
    where
      by_task : (x : Actor) (task : Option (Job × Plan)) → OfSome task (λ doing. OfTarget w.phase (λ t. Awaits t.desk x.share (want doing.1))) → ⊥
      by_task x None h = absurd h
      by_task x (Some doing) h =
          let d = both_over w.phase (λ desk. desk.broken ≡ true) (λ desk. Awaits desk x.share (want doing.1)) broken h in
          awaits_none d.0 x.share (want doing.1) d.1 d.2

      by_actor : (o : Option Actor) → OfSome o (λ x. OfSome x.task (λ doing. OfTarget w.phase (λ t. Awaits t.desk x.share (want doing.1)))) → ⊥
      by_actor None h = absurd h
      by_actor (Some x) h = by_task x x.task h

  -- ---- one that waits

  no_lead : (share : Share) (most : ℕ) (desk : DeskState P) (got : Got) (chosen : Chosen P A) → MustWait desk share → DoesLead {P = P} {A = A} most desk got chosen → ⊥
  no_lead share most desk (Began nodes) (Commits commit tree) m d = absurd (let idle = d.1.3.1.may.idle in let runs = m.runs in let both : true ≡ false = sym runs ∙ idle in cc)
  no_lead share most desk (GotRefused refusal) Plain m d = elim d [
    | inl broken ↦ absurd (let both : true ≡ false = sym broken.1 ∙ m.whole in cc)
    | inr idle ↦ absurd (let both : true ≡ false = sym m.runs ∙ idle.1 in cc)
  ]
  no_lead share most desk got chosen m d = absurd d

  goes_not : (share : Share) (most : ℕ) (desk : DeskState P) (got : Got) (chosen : Chosen P A) → MustWait desk share → DoesAsk {P = P} {A = A} share most desk got chosen → ⊥
  goes_not share most desk Served Plain m d = m.uncovered d
  goes_not share most desk got chosen m d = no_lead share most desk got chosen m d.1

  pub excludes_sharing : ExcludesWrongSharing P A
  excludes_sharing = record {
    unended = unended;
    began_before = λ shape w x came old most e one s. began_before shape w x came e one s;
    unasked = λ shape w x e s. uncovered shape w x Unshared (λ desk c. c) e s;
    twice = λ shape w x served old most e s. uncovered shape w x (Covered served.desk.ended) (λ desk c. c) e s;
    after_broken = after_broken;
    after_broken_asked = after_broken_asked;
    woken = woken;
    waits = λ shape w a waits. ((refl, refl), inr waits);
    goes_not = λ shape t w x most got read chosen m gives. goes_not x.share most t.desk got chosen m gives.1;
  }
