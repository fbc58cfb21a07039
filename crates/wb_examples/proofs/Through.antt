-- Runs in write-through: a cached block is written to on the origin and then in the cache; or power is lost between the two, and an opening in
-- write-back shows what the origin has.
use Rattle.std.proofs.Common.{◌≡◌, ◌≤◌, ◌<◌, ◌+◌, ◌^◌, ℕ, true, List, [], ◌∷◌, Some, None, refl, arith, drop, length}
use Rattle.wb_types.specs.declared.mode.Mode.TheVariants.{Writethrough}
use Rattle.wb_types.specs.declared.mode.Dev.TheVariants.{Cache, Origin}
use Rattle.wb_disk.specs.Device.{Content as Bytes, History, written}
use Rattle.wb_disk.specs.Crash.{Choice, crashed}
use Rattle.wb_disk.specs.declared.crash_choice.Base.TheVariants.{Newest}
use Rattle.wb_format.specs.declared.root.Root.{Root}
use Rattle.wb_meta.specs.Openings.{reopened}
use Rattle.wb_words.specs.declared.word.Access.TheVariants.{Owned}
use Rattle.wb_words.specs.declared.word.Kind.TheVariants.{WriteHit}
use Rattle.wb_words.specs.declared.step.CellStep.TheVariants.{Finish, Count, Release}
use Rattle.wb_words.specs.SharedWords.{Words}
use Rattle.wb_tasks.specs.Tables.{TaskJob}
use Rattle.wb_tasks.specs.declared.step.Answer.TheVariants.{Done as Finished}
use Rattle.wb_tasks.specs.declared.step.DeviceStep.TheVariants.{Write as WriteExtent}
use Rattle.wb_tasks.specs.declared.step.Want.TheVariants.{Cell, Device}
use Rattle.wb_devices.specs.declared.devices.Devices.{Devices}
use Rattle.wb_promise.specs.declared.job.Job.{Job}
use Rattle.wb_promise.specs.declared.job.Job.TheVariants.{Write}
use Rattle.wb_promise.specs.States.{Shape, State}
use Rattle.wb_promise.specs.Happenings.{Cut, task_job}
use Rattle.wb_promise.specs.Effects.{contents_at}
use Rattle.wb_promise.specs.Clerk.{Notes}
use Rattle.wb_disk.proofs.Lengths.{length_written_where}
use Rattle.wb_runs.proofs.MetadataRuns.{IsKnown}
use Rattle.wb_examples.specs.Possible.{PassesThrough, first_sector, first_block, to_write_through, to_write_half, CanWriteThrough, CanWriteHalf}
use Rattle.wb_examples.proofs.Playing.{Move, Gets, Moves, Stops, goes, goes_on, played, ◌⨟◌}
use Rattle.wb_examples.proofs.Opening.{Down, down, opening, opening_may, none_then}
use Rattle.wb_examples.proofs.Desks.{Setting, shape, stood}
use Rattle.wb_examples.proofs.Scenes.{Scene, Own, nothing_known, Formatted, at, over, Leads, goes_to, done, stretch, on, opened_scene, down_at, setting, devices, cache_size, origin_size, shape_at, known_at, Whole, from_opened, small_can, uncut, whole}
use Rattle.wb_examples.proofs.Reopening.{may_stop, again, again_shown}
use Rattle.wb_examples.proofs.Blocks.{first_written, filled, came, promoting, promoting_leads}

module _ (P A : Type 0) (s : Setting P 0 Writethrough) (content : Bytes) (d : Devices (List History)) (cache_some : 64 ≤ length d.cache) (origin_some : 64 ≤ length d.origin) where
  abbrev shape0 : Shape
  shape0 = shape P 0 Writethrough s

  abbrev job : Job
  job = Write first_sector content

  abbrev task : TaskJob
  task = task_job shape0 Writethrough [] job (first_sector ∷ []) []

  abbrev words : (cell number hits : ℕ) → Words
  words cell number hits = record { cells = cell ∷ []; seals = 2 ∷ []; numbers = number ∷ []; read_hits = 0; read_misses = 0; write_hits = hits; write_misses = 0; fail = 0 }

  -- the origin has it
  abbrev once : Devices (List History)
  once = record (filled d) { origin = written d.origin 0 content }

  abbrev half : Scene P
  half = record {
    devices = once;
    words = words 1 0 0;
    desk = stood P 0 Writethrough s;
    task = Some (job, record { job = task; steps = Device (WriteExtent Cache first_sector) ∷ Cell (Finish first_block) ∷ Cell (Count WriteHit) ∷ Cell (Release Owned first_block) ∷ []; answer = Finished });
    orders = [];
    awaiting = [];
    buffer = contents_at d.origin whole;
  }

  -- both have it
  abbrev wrote : Scene P
  wrote = record {
    devices = record once { cache = written (filled d).cache 0 content };
    words = words 0 1 1;
    desk = stood P 0 Writethrough s;
    task = over job task;
    orders = [];
    awaiting = [];
    buffer = contents_at d.origin whole;
  }

  abbrev starting : List (Move P A)
  starting = goes 1 (Gets job (Cut (first_sector ∷ [])) ∷ goes 5 (Moves ∷ []))

  abbrev finishing : List (Move P A)
  finishing = Moves ∷ goes 3 []

  cache_then : 64 ≤ length (filled d).cache
  cache_then = omega (arith, length_written_where (λ at. true) d.cache 0 (contents_at d.origin whole), cache_some)

  starting_leads : (own : Own) → Leads P A 0 Writethrough s (at P A 0 Writethrough s (came P A 0 Writethrough s d) own) starting half
  starting_leads own = goes_to P A 0 Writethrough s _ _ _ ((s.idle, (refl, uncut first_sector (omega arith))) ⨟ (tt, omega (arith, origin_some)) ⨟ tt) refl

  finishing_leads : (own : Own) → Leads P A 0 Writethrough s (at P A 0 Writethrough s half own) finishing wrote
  finishing_leads own = goes_to P A 0 Writethrough s _ _ _ ((tt, omega (arith, cache_then)) ⨟ tt) refl

pub can_write_through : (P A : Type 0) → CanWriteThrough P A
can_write_through P A content = small_can P A 0 64 Writethrough (λ e. cc) (λ shape. to_write_through content) (λ f room.
    let s = setting P A 0 Writethrough f in
    let d = devices P A 0 Writethrough f in
    let cache_some = cache_size P A 0 Writethrough f in
    let origin_some : 64 ≤ length d.origin = omega (arith, origin_size P A 0 Writethrough f) in
    from_opened P A 0 Writethrough f (to_write_through content) (λ n e.
    stretch P A 0 Writethrough s (opened_scene P A 0 Writethrough s d) (came P A 0 Writethrough s d) (promoting P A 0 Writethrough s) (to_write_through content) (λ own known. promoting_leads P A 0 Writethrough s d cache_some origin_some room own)
    (λ own n. (((refl, refl), refl, refl), refl))
    (stretch P A 0 Writethrough s (came P A 0 Writethrough s d) (half P A s content d cache_some origin_some) (starting P A s content d cache_some origin_some) (drop 1 (to_write_through content)) (λ own known. starting_leads P A s content d cache_some origin_some own)
    (λ own n. ((refl, refl), first_written d.origin content (omega (arith, origin_some)), refl))
    (stretch P A 0 Writethrough s (half P A s content d cache_some origin_some) (wrote P A s content d cache_some origin_some) (finishing P A s content d cache_some origin_some) (drop 2 (to_write_through content)) (λ own known. finishing_leads P A s content d cache_some origin_some own)
    (λ own n. (((refl, refl), first_written (filled d).cache content (omega (arith, cache_then P A s content d cache_some origin_some))), first_written d.origin content (omega (arith, origin_some)), refl))
    (done P A 0 Writethrough s (wrote P A s content d cache_some origin_some)))) nothing_known (known_at P A 0 Writethrough f) n))

-- ---- power is lost between the two writes

-- what is newest is kept of each sector
abbrev all_lands : Choice
all_lands = record { base = Newest; named = [] }

module _ (P A : Type 0) (f : Formatted P A 0 Writethrough) (content : Bytes) where
  abbrev s : Setting P 0 Writethrough
  s = setting P A 0 Writethrough f

  abbrev d : Devices (List History)
  d = devices P A 0 Writethrough f

  cache_some : 64 ≤ length d.cache
  cache_some = cache_size P A 0 Writethrough f

  origin_some : 64 ≤ length d.origin
  origin_some = omega (arith, origin_size P A 0 Writethrough f)

  abbrev shape_here : Shape
  shape_here = shape_at P A 0 Writethrough f

  abbrev there : Own → State P A
  there own = at P A 0 Writethrough s (half P A s content d cache_some origin_some) own

  abbrev crash : List (Move P A)
  crash = Stops all_lands ∷ []

  module _ (own : Own) (known : IsKnown P A shape_here (there own)) where
    abbrev first_root : Root
    first_root = reopened (none_then P A (down_at P A 0 Writethrough f)).root

    abbrev cache_left : List History
    cache_left = crashed Cache all_lands (once P A s content d cache_some origin_some).cache

    abbrev origin_left : List History
    origin_left = crashed Origin all_lands (once P A s content d cache_some origin_some).origin

    top : first_root.top ≡ None
    top = (none_then P A (down_at P A 0 Writethrough f)).top

    first_sizes : first_root.geometry ≡ shape_here.geometry
    first_sizes = (none_then P A (down_at P A 0 Writethrough f)).geometry_is

    later : first_root.generation + 2 < 2 ^ 64
    later = omega (arith, s.later)

    abbrev down_then : Down P A
    down_then = again P A f.policy f.alloc Writethrough s (stood P 0 Writethrough s) first_root f.metadata known.images known.known refl top refl refl first_sizes later f.size all_lands cache_left origin_left

    last_stretches : (n : Notes) → PassesThrough shape_here (there own) n (drop 1 (to_write_half shape_here content))
    last_stretches n = (
      played f.global shape_here (there own) crash,
      goes_on f.global shape_here (there own) crash (may_stop Newest _ ⨟ tt),
      refl,
      (
        played f.global shape_here (down P A down_then) (opening P A down_then),
        goes_on f.global shape_here (down P A down_then) (opening P A down_then) (opening_may P A down_then),
        (refl, again_shown P A f.policy f.alloc Writethrough s (stood P 0 Writethrough s) first_root f.metadata known.images known.known refl top refl refl first_sizes later f.size all_lands cache_left origin_left content refl refl),
        tt,
      ),
    )

  pub writes_half : 64 ≤ f.sizes.threshold → Whole P A 0 Writethrough f (to_write_half shape_here content)
  writes_half room = from_opened P A 0 Writethrough f (to_write_half shape_here content) (λ n e.
      on P A 0 Writethrough s (opened_scene P A 0 Writethrough s d) (came P A 0 Writethrough s d) (promoting P A 0 Writethrough s) (to_write_half shape_here content) (promoting_leads P A 0 Writethrough s d cache_some origin_some room)
      (stretch P A 0 Writethrough s (came P A 0 Writethrough s d) (half P A s content d cache_some origin_some) (starting P A s content d cache_some origin_some) (to_write_half shape_here content) (λ own known. starting_leads P A s content d cache_some origin_some own)
      (λ own n. (((refl, refl), first_written d.origin content (omega (arith, origin_some)), refl), refl)) (λ own known n. last_stretches own known n)) nothing_known (known_at P A 0 Writethrough f) n)

pub can_write_half : (P A : Type 0) → CanWriteHalf P A
can_write_half P A content = small_can P A 0 64 Writethrough (λ e. cc) (λ shape. to_write_half shape content) (λ f room. writes_half P A f content room)
