-- How runs begin, whatever they pass through; and those through an opening, and a flush behind it.
use Rattle.std.proofs.Common.{Global, ◌≡◌, ◌≢◌, ◌≤◌, ◌*◌, ℕ, zero, suc, List, [], ◌∷◌, ◌++◌, refl, sym, subst, arith, length, replicate}
use Rattle.wb_types.specs.declared.geometry.Geometry.{Geometry}
use Rattle.wb_types.specs.declared.mode.Mode.{Mode}
use Rattle.wb_types.specs.declared.mode.Mode.TheVariants.{Writeback, Passthrough}
use Rattle.wb_disk.specs.Device.{History}
use Rattle.wb_disk.specs.Memory.{blank}
use Rattle.wb_words.specs.SharedWords.{fresh_words}
use Rattle.wb_meta.specs.Formats.{IsFormatted}
use Rattle.wb_meta.specs.Reads.{sectors_read}
use Rattle.wb_meta.specs.declared.read_steps.ReadSteps.{ReadSteps}
use Rattle.wb_meta.specs.declared.read_steps.ReadSteps.TheVariants.{Begun, FirstSlotRead, RootFound, Done as AllRead}
use Rattle.wb_promise.specs.declared.job.Job.TheVariants.{Flush}
use Rattle.wb_promise.specs.States.{Shape, State, resting, start}
use Rattle.wb_promise.specs.Happenings.{Happening}
use Rattle.wb_promise.specs.Effects.{after_all, all_resting, IsRun}
use Rattle.wb_promise.specs.Clerk.{Notes, formatted}
use Rattle.wb_promise.specs.Headline.{noted}
use Rattle.wb_examples.specs.Possible.{PassesThrough, CanPass, HasActors, TargetHas, AboutToAnswer, CanOpen, CanFlush}
use Rattle.wb_runs.proofs.Formatted.{formatted_none}
use Rattle.wb_examples.proofs.Playing.{played, goes_on, resting_idle, replicated_idle, run_append, after_append, noted_append}
use Rattle.wb_examples.proofs.Opening.{write_back_starts, Down, down, opening, opening_may, opened, opened_is, bare, may_begin, target, Idle, idle, flushing, flushing_may}

-- ---- how runs begin

-- A run begins by happenings that lead to a state from which it goes on.
pub along : {P A : Type 0} (shape : Shape) (w w' : State P A) (n : Notes) (hs : List (Happening P A)) (conditions : List (State P A → Notes → Type 0)) → after_all shape w hs ≡ w' → IsRun shape w hs →
    PassesThrough shape w' (noted shape w n hs) conditions → PassesThrough shape w n conditions
along shape w w' n hs [] e run passes = tt
along {P} {A} shape w w' n hs (Is ∷ more) e run passes =
    let Holds : State P A → Notes → Type 0 = λ v m. Is v m × PassesThrough shape v m more in
    let p = subst (λ (v : State P A). PassesThrough shape v (noted shape w n hs) (Is ∷ more)) (sym e) passes in
    let r = subst (λ (v : State P A). Holds v (noted shape w n (hs ++ p.0))) (sym (after_append shape w hs p.0))
    (subst (λ (m : Notes). Holds (after_all shape (after_all shape w hs) p.0) m) (sym (noted_append shape w n hs p.0)) (p.2, p.3)) in
    (hs ++ p.0, run_append shape w hs p.0 run p.1, r.0, r.1)

-- a stretch, after which the first condition holds, and what goes on from there
pub stretched : {P A : Type 0} (shape : Shape) (w w' : State P A) (n m : Notes) (hs : List (Happening P A)) (Is : State P A → Notes → Type 0) (conditions : List (State P A → Notes → Type 0)) → after_all shape w hs ≡ w' → noted shape w n hs ≡ m → IsRun shape w hs →
    Is w' m → PassesThrough shape w' m conditions → PassesThrough shape w n (Is ∷ conditions)
stretched {P} {A} shape w w' n m hs Is conditions e f run is behind =
    let Holds : State P A → Notes → Type 0 = λ v k. Is v k × PassesThrough shape v k conditions in
    let p = subst (λ (v : State P A). Holds v (noted shape w n hs)) (sym e) (subst (λ (k : Notes). Holds w' k) (sym f) (is, behind)) in
    (hs, run, p.0, p.1)

-- who has a policy and a reading that has read nothing has an allocator, and of several actors there is a first
pub can_pass : (P A : Type 0) (Suits : Shape → Type 0) (conditions : Shape → List (State P A → Notes → Type 0)) → ((shape : Shape) → Suits shape → HasActors shape) →
    ((policy : P) (alloc : A) (global : Global) (geometry : Geometry) (threshold others : ℕ) (metadata : List History) → Suits (record { geometry = geometry; threshold = threshold; actors = suc others }) → IsFormatted geometry metadata → length metadata ≡ geometry.meta_sectors →
    PassesThrough (record { geometry = geometry; threshold = threshold; actors = suc others }) (start (record { geometry = geometry; threshold = threshold; actors = suc others }) metadata) (formatted (record { geometry = geometry; threshold = threshold; actors = suc others })) (conditions (record { geometry = geometry; threshold = threshold; actors = suc others }))) →
    CanPass P A Suits conditions
can_pass P A Suits conditions some f policy reading begun shape metadata suits is_formatted size = by_reading reading begun
  where
    by_actors : A → Global → (n : ℕ) → 1 ≤ n → Suits (record shape { actors = n }) → PassesThrough (record shape { actors = n }) (start (record shape { actors = n }) metadata) (formatted (record shape { actors = n })) (conditions (record shape { actors = n }))
    by_actors alloc global zero l suits = absurd (omega (arith, l))
    by_actors alloc global (suc others) l suits = f policy alloc global shape.geometry shape.threshold others metadata suits is_formatted size

    by_reading : (r : ReadSteps A) → sectors_read r ≡ 0 → PassesThrough shape (start shape metadata) (formatted shape) (conditions shape)
    by_reading (Begun alloc global) e = by_actors alloc global shape.actors (some shape suits) suits
    by_reading r e = absurd (omega (arith, e))

module _ (P A : Type 0) where
  -- before the first opening, over formatted metadata
  abbrev pub first_down : (mode : Mode) → mode ≢ Passthrough → P → A → Global → (geometry : Geometry) (threshold others : ℕ) (metadata : List History) → IsFormatted geometry metadata → length metadata ≡ geometry.meta_sectors → Down P A
  first_down mode writes policy alloc global geometry threshold others metadata f size = record {
    mode = mode;
    writes = writes;
    policy = policy;
    alloc = alloc;
    global = global;
    shape = record { geometry = geometry; threshold = threshold; actors = suc others };
    metadata = metadata;
    cache = replicate (geometry.block * geometry.cache_blocks) blank;
    origin = replicate (geometry.block * geometry.origin_blocks) blank;
    none = formatted_none geometry metadata f;
    size = size;
    rest = replicate others resting;
    idle = replicated_idle others;
  }

  pub can_open : CanOpen P A
  can_open = can_pass P A HasActors (λ shape. (λ w n. TargetHas w (λ target. Unit {0})) ∷ []) (λ shape some. some) (λ policy alloc global geometry threshold others metadata some f size.
      let d = first_down Writeback write_back_starts policy alloc global geometry threshold others metadata f size in
      (played global d.shape (down P A d) (opening P A d), goes_on global d.shape (down P A d) (opening P A d) (opening_may P A d), tt, tt))

  pub can_flush : CanFlush P A
  can_flush = can_pass P A HasActors (λ shape. (λ w n. AboutToAnswer Flush w) ∷ []) (λ shape some. some) (λ policy alloc global geometry threshold others metadata some f size.
      by_down (first_down Writeback write_back_starts policy alloc global geometry threshold others metadata f size))
    where
      by_down : (d : Down P A) → PassesThrough d.shape (down P A d) (formatted d.shape) ((λ w n. AboutToAnswer Flush w) ∷ [])
      by_down d =
          let i : Idle P = record { global = d.global; shape = d.shape; words = fresh_words d.shape.geometry.origin_blocks; desk = (target P A d).desk; devices = (opened P A d).devices; actor = resting; rest = all_resting d.rest } in
          along d.shape (down P A d) (opened P A d) (formatted d.shape) (played d.global d.shape (down P A d) (opening P A d)) ((λ w n. AboutToAnswer Flush w) ∷ []) (opened_is P A d) (goes_on d.global d.shape (down P A d) (opening P A d) (opening_may P A d))
          (played d.global d.shape (idle P A i) (flushing P A i), goes_on d.global d.shape (idle P A i) (flushing P A i) (flushing_may P A i (bare P A d) (may_begin P A d) refl (resting_idle d.rest)), (refl, refl), tt)
