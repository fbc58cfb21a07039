-- A run in which a flush that waits is served by a commit that another actor leads.
use Rattle.std.proofs.Common.{◌≡◌, ◌≢◌, ◌≤◌, ◌<◌, ◌+◌, ◌++◌, ◌^◌, inl, inr, ℕ, zero, suc, true, false, List, [], ◌∷◌, Option, Some, None, Global, refl, ap, subst, arith, length, replicate, slice_get}
use Rattle.std.specs.Prelude.{drop}
use Rattle.wb_types.specs.declared.mode.Mode.TheVariants.{Writeback}
use Rattle.wb_types.specs.declared.geometry.Geometry.{Geometry}
use Rattle.wb_disk.specs.Device.{History, synced}
use Rattle.wb_words.specs.SharedWords.{fresh_words}
use Rattle.wb_words.specs.Cards.{blank_card}
use Rattle.wb_words.specs.Effects.{card_after}
use Rattle.wb_words.specs.declared.step.CellStep.TheVariants.{Look}
use Rattle.wb_words.specs.declared.word.Word.TheVariants.{Fail}
use Rattle.wb_meta.specs.Formats.{IsFormatted}
use Rattle.wb_desk.specs.Commits.{MayBegin}
use Rattle.wb_tasks.specs.Tables.{Flushing}
use Rattle.wb_tasks.specs.Plan.{Plan, table, after}
use Rattle.wb_tasks.specs.declared.step.Want.TheVariants.{Cell, Desk}
use Rattle.wb_tasks.specs.declared.step.DeskStep.TheVariants.{Arrive, Ask}
use Rattle.wb_tasks.specs.declared.step.Got.TheVariants.{Word, Ticket, Served}
use Rattle.wb_stage.specs.Asking.{ended}
use Rattle.wb_stage.specs.declared.share.Share.TheVariants.{Nothing as Unshared, Waiting, Covered}
use Rattle.wb_promise.specs.declared.job.Job.{Job}
use Rattle.wb_promise.specs.declared.job.Job.TheVariants.{Flush, Suspend}
use Rattle.wb_promise.specs.declared.event.Event.TheVariants.{Start, Step}
use Rattle.wb_promise.specs.declared.event.What.TheVariants.{Started, Stepped}
use Rattle.wb_promise.specs.States.{Shape, State, Actor, OfTarget, resting, start}
use Rattle.wb_promise.specs.Happenings.{Plain, Happening, OfSome, OnTask, DoesNotApply, most_for}
use Rattle.wb_promise.specs.Effects.{after_all, all_resting, IsRun}
use Rattle.wb_promise.specs.Clerk.{Notes, formatted}
use Rattle.wb_promise.specs.Headline.{noted}
use Rattle.wb_examples.specs.Possible.{PassesThrough, IsWaitedBeside, AreDoneTogether, AreTwo, to_share, CanShare}
use Rattle.wb_runs.proofs.Rooted.{rooted}
use Rattle.wb_runs.proofs.MetadataRuns.{IsKnown, known_always}
use Rattle.wb_examples.proofs.Bare.{BareDesk}
use Rattle.wb_examples.proofs.Beginning.{bare_begun, bare_commit}
use Rattle.wb_examples.proofs.Playing.{Move, Gets, Goes, AreIdle, goes, goes_on, happened, has_any, is_idle, there, then, ends, played, resting_idle, MayGo, ◌⨟◌}
use Rattle.wb_examples.proofs.Opening.{write_back_starts, Down, down, opening, opening_may, opened, opened_is, known, bare, target, Idle, idle, leading, committing, led, leading_may, committing_may}
use Rattle.wb_examples.proofs.Runs.{along, stretched, can_pass, first_down}

-- ---- a flush may start where another is at work

abbrev IsNoSuspend : Option (Job × Plan) → Type 0
IsNoSuspend None = Unit {0}
IsNoSuspend (Some doing) = doing.0 ≢ Suspend

no_suspend : (task : Option (Job × Plan)) → IsNoSuspend task → OfSome task (λ d. d.0 ≡ Suspend) → ⊥
no_suspend None f s = s
no_suspend (Some doing) f s = f s

has_nothing : (o : Option Actor) → is_idle o ≡ true → OfSome o (λ x. OfSome x.task (λ d. Unit {0})) → ⊥
has_nothing None e h = h
has_nothing (Some x) e h = by_task x.task e h
  where
    by_task : (t : Option (Job × Plan)) → is_idle (Some (record x { task = t })) ≡ true → OfSome t (λ d. Unit {0}) → ⊥
    by_task None e h = h
    by_task (Some d) e h = absurd (cc)

beside_idle : (others : List Actor) → AreIdle others → AreIdle (resting ∷ others)
beside_idle others free zero h = h
beside_idle others free (suc a) h = free a h

-- of two actors and others at nothing, none of whom suspends, one that is at nothing may be given a flush
may_flush : {P A : Type 0} (w : State P A) (x y : Actor) (others : List Actor) (a : ℕ) → AreIdle others → w.actors ≡ x ∷ y ∷ others → OfTarget w.phase (λ t. Unit {0}) → IsNoSuspend x.task → IsNoSuspend y.task → is_idle (slice_get w.actors a) ≡ true →
    DoesNotApply w (Start a Flush) → ⊥
may_flush w x y others a free e stands f g is_free d = elim d [
  | inl none ↦ there (slice_get w.actors a) is_free none
  | inr more ↦ elim more [
    | inl task ↦ has_nothing (slice_get w.actors a) is_free task
    | inr later ↦ elim later [ inl s ↦ at_each s.0 (subst (λ (actors : List Actor). OfSome (slice_get actors s.0) (λ z. OfSome z.task (λ d. d.0 ≡ Suspend))) e s.1) | inr out ↦ out stands ]
  ]
]
  where
    at_each : (b : ℕ) → OfSome (slice_get (x ∷ y ∷ others) b) (λ z. OfSome z.task (λ d. d.0 ≡ Suspend)) → ⊥
    at_each zero s = no_suspend x.task f s
    at_each (suc zero) s = no_suspend y.task g s
    at_each (suc (suc b)) s = free b (has_any (slice_get others b) (λ at. at ≡ Suspend) s)

-- ---- the run

module _ (P A : Type 0) (i : Idle P) (others : List Actor) where
  open i use {global, shape, desk}

  abbrev most : ℕ
  most = most_for shape.geometry false

  -- with this one beside the first
  abbrev beside : Actor → Idle P
  beside second = record i { rest = second ∷ others }

  -- at the desk with a flush, and having to wait for the commit that the first leads
  abbrev waiting : Actor
  waiting = record resting {
    task = Some (Flush, after (after (table (Flushing [] most)) (Word 0)) Ticket);
    card = card_after (record i.words { fail = 0 }) (Look Fail) blank_card;
    share = Waiting (desk.ended + 2);
  }

  abbrev comes : List (Happening P A)
  comes =
      happened global (Start 1 Flush) Started Plain
      ∷ happened global (Step 1) (Stepped (Cell (Look Fail)) (Word 0)) Plain
      ∷ happened global (Step 1) (Stepped (Desk (Arrive most)) Ticket) Plain
      ∷ []

  abbrev is_served : List (Happening P A)
  is_served = happened global (Step 1) (Stepped (Desk (Ask most)) Served) Plain ∷ []

  -- once the commit of the first has ended, and it was answered
  abbrev next : Idle P
  next = record {
    global = global;
    shape = shape;
    words = i.words;
    desk = ended (bare_begun global desk);
    devices = record { metadata = synced (rooted (bare_commit global shape.geometry (desk.generation + 1)) (synced i.devices.metadata)); cache = synced i.devices.cache; origin = synced i.devices.origin };
    actor = record {
      task = None;
      card = card_after (record i.words { fail = 0 }) (Look Fail) i.actor.card;
      orders = i.actor.awaiting ++ i.actor.orders;
      awaiting = [];
      buffer = i.actor.buffer;
      seen = i.actor.seen;
      share = Unshared;
    };
    rest = waiting ∷ others;
  }

  abbrev flushes : Idle P → List (Move P A)
  flushes j = Gets Flush Plain ∷ goes 1 (leading P A j ∷ [])

  -- and leads the next commit
  abbrev again : List (Happening P A)
  again = happened global (Start 0 Flush) Started Plain ∷ played global shape (then global shape (idle P A next) (Gets Flush Plain)) (goes 1 (leading P A next ∷ []))

  abbrev last : State P A
  last = ends global shape (led P A next) (committing P A next [])

  module _ (free : AreIdle others) (whole : desk.broken ≡ false) (none : desk.space.committing ≡ false) (later : desk.generation + 2 < 2 ^ 64) (bare : BareDesk P shape.geometry desk i.devices.metadata) where
    may : MayBegin desk
    may = record { idle = none; next = omega (arith, later) }

    flushes_may : MayGo global shape (idle P A (beside resting)) (flushes (beside resting))
    flushes_may = (beside_idle others free, tt) ⨟ leading_may P A (beside resting) bare may whole ⨟ tt

    comes_may : IsRun shape (led P A (beside resting)) comes
    comes_may =
        (refl, may_flush (led P A (beside resting)) _ _ others 1 free refl tt (λ e. cc) tt refl, tt)
        ⨟ (refl, ((refl, refl), refl))
        ⨟ (refl, (refl, (whole, refl)))
        ⨟ tt

    commits_may : MayGo global shape (led P A (beside waiting)) (committing P A (beside waiting) (Goes ∷ []))
    commits_may = committing_may P A (beside waiting) bare may whole

    known_then : IsKnown P A shape (led P A (beside waiting)) → IsKnown P A shape (idle P A next)
    known_then known = known_always P A shape (led P A (beside waiting)) (played global shape (led P A (beside waiting)) (committing P A (beside waiting) (Goes ∷ []))) known (goes_on global shape (led P A (beside waiting)) (committing P A (beside waiting) (Goes ∷ [])) commits_may)

    module _ (known : IsKnown P A shape (idle P A next)) where
      bare_then : BareDesk P shape.geometry next.desk next.devices.metadata
      bare_then = record { images = known.images; known = known.known; geometry = bare.geometry; entries = bare.entries }

      may_then : MayBegin next.desk
      may_then = record { idle = refl; next = omega (arith, later) }

      again_may : IsRun shape (idle P A next) again
      again_may = (
        (refl, may_flush (idle P A next) _ _ others 0 free refl tt tt (λ e. cc) refl, tt),
        goes_on global shape (then global shape (idle P A next) (Gets Flush Plain)) (goes 1 (leading P A next ∷ [])) (leading_may P A next bare_then may_then whole ⨟ tt),
      )

      ends_may : MayGo global shape (led P A next) (committing P A next [])
      ends_may = committing_may P A next bare_then may_then whole

    served_may : IsRun shape last is_served
    served_may = ((refl, (refl, omega arith)), tt)

    pub shares : desk.ended ≡ 0 → IsKnown P A shape (idle P A (beside resting)) → (n : Notes) → PassesThrough shape (idle P A (beside resting)) n to_share
    shares none_ended known0 n =
        let w0 : State P A = idle P A (beside resting) in
        let w1 : State P A = led P A (beside resting) in
        let w2 : State P A = led P A (beside waiting) in
        let w3 : State P A = idle P A next in
        let w4 : State P A = led P A next in
        let to1 : List (Happening P A) = played global shape w0 (flushes (beside resting)) in
        let to3 : List (Happening P A) = played global shape w2 (committing P A (beside waiting) (Goes ∷ [])) in
        let to5 : List (Happening P A) = played global shape w4 (committing P A next []) in
        let n1 : Notes = noted shape w0 n to1 in
        let n2 : Notes = noted shape w1 n1 comes in
        let n3 : Notes = noted shape w2 n2 to3 in
        let n4 : Notes = noted shape w3 n3 again in
        let n5 : Notes = noted shape w4 n4 to5 in
        let known1 = known_always P A shape w0 to1 known0 (goes_on global shape w0 (flushes (beside resting)) flushes_may) in
        let known2 = known_always P A shape w1 comes known1 comes_may in
        let known3 = known_then known2 in
        along shape w0 w1 n to1 to_share refl (goes_on global shape w0 (flushes (beside resting)) flushes_may) (
        stretched shape w1 w2 n1 n2 comes (λ w n. IsWaitedBeside 0 w × OnTask w 1 (λ x at s. x.share ≡ Waiting 2)) (drop 1 to_share) refl refl comes_may
        ((refl, record { whole = whole; runs = refl; uncovered = λ c. omega (arith, c) }, none_ended), ap (λ (k : ℕ). Waiting (k + 2)) none_ended) (
        along shape w2 w3 n2 to3 (drop 1 to_share) refl (goes_on global shape w2 (committing P A (beside waiting) (Goes ∷ [])) commits_may) (
        stretched shape w3 w4 n3 n4 again (λ w n. IsWaitedBeside 1 w) (drop 2 to_share) refl refl (again_may known3)
        (refl, record { whole = whole; runs = refl; uncovered = λ c. omega (arith, c) }, ap (λ (k : ℕ). k + 1) none_ended) (
        along shape w4 last n4 to5 (drop 2 to_share) refl (goes_on global shape w4 (committing P A next []) (ends_may known3)) (
        stretched shape last (after_all shape last is_served) n5 (noted shape last n5 is_served) is_served (λ w n. AreDoneTogether w) [] refl refl served_may
        ((refl, refl), (refl, ap (λ (k : ℕ). Covered (k + 1 + 1)) none_ended, refl), ap (λ (k : ℕ). k + 1 + 1) none_ended) tt)))))

pub can_share : (P A : Type 0) → CanShare P A
can_share P A = can_pass P A AreTwo (λ shape. to_share) (λ shape two. omega (arith, two)) (λ policy alloc global geometry threshold others metadata two f size. by_others policy alloc global geometry threshold others metadata two f size)
  where
    by_others : (policy : P) (alloc : A) (global : Global) (geometry : Geometry) (threshold others : ℕ) (metadata : List History) → 2 ≤ suc others → IsFormatted geometry metadata → length metadata ≡ geometry.meta_sectors →
        let shape : Shape = record { geometry = geometry; threshold = threshold; actors = suc others } in PassesThrough {P = P} {A = A} shape (start shape metadata) (formatted shape) to_share
    by_others policy alloc global geometry threshold zero metadata two f size = absurd (omega (arith, two))
    by_others policy alloc global geometry threshold (suc more) metadata two f size =
        let d : Down P A = first_down P A Writeback write_back_starts policy alloc global geometry threshold (suc more) metadata f size in
        let i : Idle P = record { global = global; shape = d.shape; words = fresh_words geometry.origin_blocks; desk = (target P A d).desk; devices = (opened P A d).devices; actor = resting; rest = [] } in
        along d.shape (down P A d) (opened P A d) (formatted d.shape) (played global d.shape (down P A d) (opening P A d)) to_share (opened_is P A d) (goes_on global d.shape (down P A d) (opening P A d) (opening_may P A d))
        (shares P A i (all_resting (replicate more resting)) (resting_idle (replicate more resting)) refl refl (omega (arith, f.first.generation)) (bare P A d) refl (known P A d) (noted d.shape (down P A d) (formatted d.shape) (played global d.shape (down P A d) (opening P A d))))
