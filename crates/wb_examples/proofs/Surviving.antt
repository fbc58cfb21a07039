-- A run through an opening, a write, a read of it, a flush, a write that fails, a crash and a second opening that shows the first write.
use Rattle.std.proofs.Common.{◌≡◌, ◌∙◌, ◌<◌, ◌+◌, ◌^◌, ℕ, suc, List, [], ◌∷◌, Option, Some, None, refl, sym, ap, subst, arith, length, map, replicate}
use Rattle.std.specs.Prelude.{drop}
use Rattle.std.proofs.lemmas.List.{length-map}
use Rattle.wb_types.specs.declared.mode.Mode.TheVariants.{Writeback}
use Rattle.wb_types.specs.declared.mode.Dev.TheVariants.{Cache, Origin}
use Rattle.wb_disk.specs.Device.{Content as Bytes, History, newest, only, synced, written}
use Rattle.wb_disk.specs.Crash.{crashed, crashed_from}
use Rattle.wb_disk.specs.Memory.{blank}
use Rattle.wb_disk.specs.declared.crash_choice.Base.TheVariants.{Durable}
use Rattle.wb_disk.proofs.Crashes.{Crashed-crashed_from}
use Rattle.wb_desk.specs.Desks.{DeskState}
use Rattle.wb_stage.specs.Asking.{ended}
use Rattle.wb_words.specs.SharedWords.{Words}
use Rattle.wb_tasks.specs.Plan.{Plan}
use Rattle.wb_promise.specs.declared.job.Job.{Job}
use Rattle.wb_promise.specs.declared.job.Job.TheVariants.{Read, Write, Flush}
use Rattle.wb_promise.specs.States.{Shape, State}
use Rattle.wb_promise.specs.Happenings.{Cut, task_job}
use Rattle.wb_promise.specs.Clerk.{Notes, Doing, Reading, Position, begins, nobody, formatted}
use Rattle.wb_promise.specs.Headline.{shown, noted}
use Rattle.wb_examples.specs.Possible.{first_sector, PassesThrough, to_survive, CanSurvive}
use Rattle.wb_runs.proofs.MetadataRuns.{IsKnown}
use Rattle.wb_runs.proofs.Rooted.{rooted}
use Rattle.wb_examples.proofs.Reopening.{may_stop, again, again_shown}
use Rattle.wb_examples.proofs.Beginning.{bare_begun, bare_root, bare_commit}
use Rattle.wb_examples.proofs.Shown.{origin_shown}
use Rattle.wb_examples.proofs.Playing.{Move, Gets, Moves, Reads, Fails, Stops, goes, played, ends, MayGo, goes_on, ◌⨟◌}
use Rattle.wb_examples.proofs.Opening.{write_back_starts, Down, down, opening, opening_may, opened_is, target, bare, Idle, flushing, flushing_may}
use Rattle.wb_examples.proofs.Desks.{Setting, shape, desk}
use Rattle.wb_examples.proofs.Scenes.{Scene, Own, nothing_known, Formatted, at, over, Leads, goes_to, FromNoted, noted_stretch, opened_scene, down_at, setting, devices, devices_size, shape_at, opened_at, known_at, opening_run, Whole, from_opened, small_can, uncut, nothing_lands, may_fail, plain}

-- ---- what is noted

-- of the other sectors, and of the other actors
pub record Others : Type 0 where
  pub histories : List History
  pub finished : List ℕ
  pub floors : List ℕ
  pub doings : List (Option Doing)

-- beside that the first sector has this history, of which this entry is finished last, and the first actor is at this
abbrev pub notes : Others → History → (last : ℕ) → Option Doing → Notes
notes others history last doing = record { histories = history ∷ others.histories; finished = last ∷ others.finished; floors = 0 ∷ others.floors; doings = doing ∷ others.doings }

-- it has a job, has read this and entered that
abbrev pub doing_at : Others → Job → List Reading → List Position → (last : ℕ) → Option Doing
doing_at others job readings entered last = Some (record { job = job; readings = readings; entered = entered; then_finished = last ∷ others.finished; failed = [] })

module _ (P A : Type 0) (policy : P) (alloc : A) (s : Setting P 0 Writeback) (metadata cache sectors : List History) (first : Bytes) (others : Others) (content other : Bytes) where
  open s use {global}

  abbrev shape0 : Shape
  shape0 = shape P 0 Writeback s

  abbrev lead : State P A → List (Move P A) → State P A
  lead w moves = ends global shape0 w moves

  abbrev conditions : List (State P A → Notes → Type 0)
  conditions = to_survive shape0 content other

  -- ---- where it is, and what is noted

  abbrev words : (number misses written : ℕ) → Words
  words number misses written = record { cells = 0 ∷ []; seals = 0 ∷ []; numbers = number ∷ []; read_hits = 0; read_misses = misses; write_hits = 0; write_misses = written; fail = 0 }

  -- at the last step of a job on the first sector
  abbrev ending : Job → Option (Job × Plan)
  ending job = over job (task_job shape0 Writeback [] job (first_sector ∷ []) [])

  abbrev history : History
  history = record { first = first; later = content ∷ [] }

  abbrev pub opened0 : Scene P
  opened0 = opened_scene P A 0 Writeback s (record { metadata = metadata; cache = cache; origin = only first ∷ sectors })

  abbrev wrote : Scene P
  wrote = plain metadata cache (history ∷ sectors) (words 1 0 1) (desk P 0 Writeback s) (ending (Write first_sector content))

  abbrev was_read : Scene P
  was_read = plain metadata cache (history ∷ sectors) (words 1 1 1) (desk P 0 Writeback s) (ending (Read first_sector))

  abbrev desk_then : DeskState P
  desk_then = ended (bare_begun global (desk P 0 Writeback s))

  abbrev durable : Scene P
  durable = plain (synced (rooted (bare_commit global shape0.geometry (s.generation + 1)) (synced metadata))) (synced cache) (only content ∷ synced sectors) (words 1 1 1) desk_then (over Flush (task_job shape0 Writeback [] Flush [] []))

  abbrev n0 : Notes
  n0 = notes others (only first) 0 None

  abbrev n1 : Notes
  n1 = notes others history 0 (doing_at others (Write first_sector content) [] (record { sector = 0; position = 1 } ∷ []) 0)

  abbrev n2 : Notes
  n2 = notes others history 1 (doing_at others (Read first_sector) (record { sector = 0; content = content; latest = Some content } ∷ []) [] 1)

  abbrev n3 : Notes
  n3 = notes others history 1 (doing_at others Flush [] [] 1)

  -- ---- what happens

  -- a read or write of the first sector, where its block stands on the origin
  abbrev starting : Job → List (Move P A) → List (Move P A)
  starting job moves = Gets job (Cut (first_sector ∷ [])) ∷ goes 5 moves

  abbrev writing : List (Move P A)
  writing = starting (Write first_sector content) (Moves ∷ goes 3 [])

  abbrev reading : List (Move P A)
  reading = goes 1 (starting (Read first_sector) (Reads content ∷ goes 2 []))

  abbrev idle_there : Own → Idle P
  idle_there own = record { global = global; shape = shape0; words = words 1 1 1; desk = desk P 0 Writeback s; devices = was_read.devices; actor = record { task = None; card = own.card; orders = []; awaiting = []; buffer = []; seen = own.seen; share = own.share }; rest = s.rest }

  abbrev flush : List (Move P A)
  flush = goes 1 (flushing P A (idle_there nothing_known))

  abbrev failing : List (Move P A)
  failing = goes 1 (starting (Write first_sector other) (Fails nothing_lands ∷ []))

  abbrev crash : List (Move P A)
  crash = Stops nothing_lands ∷ []

  writing_leads : (own : Own) → Leads P A 0 Writeback s (at P A 0 Writeback s opened0 own) writing wrote
  writing_leads own = goes_to P A 0 Writeback s _ _ _ ((s.idle, (refl, uncut first_sector (omega arith))) ⨟ (tt, omega arith) ⨟ tt) refl

  reading_leads : (own : Own) → Leads P A 0 Writeback s (at P A 0 Writeback s wrote own) reading was_read
  reading_leads own = goes_to P A 0 Writeback s _ _ _ ((s.idle, (refl, uncut first_sector (omega arith))) ⨟ (tt, refl, refl, refl, ((_, refl, refl), tt)) ⨟ tt) refl

  flush_leads : (own : Own) → IsKnown P A shape0 (at P A 0 Writeback s was_read own) → Leads P A 0 Writeback s (at P A 0 Writeback s was_read own) flush durable
  flush_leads own known = goes_to P A 0 Writeback s _ _ _ (flushing_may P A (idle_there own) (record { images = known.images; known = known.known; geometry = refl; entries = refl }) (record { idle = refl; next = omega (arith, s.later) }) refl s.idle) refl

  failing_may : (own : Own) → MayGo global shape0 (at P A 0 Writeback s durable own) failing
  failing_may own = (s.idle, (refl, uncut first_sector (omega arith))) ⨟ (may_fail _, (refl, tt)) ⨟ tt

  -- ---- the second opening, which finds the root of the flush, and shows the origin, since nothing is cached

  module _ (size : length metadata ≡ s.sizes.meta_sectors) (many : length sectors ≡ 63) (own : Own) (known : IsKnown P A shape0 (at P A 0 Writeback s durable own)) where
    abbrev settled : State P A
    settled = at P A 0 Writeback s durable own

    abbrev origin_then : List History
    origin_then = only content ∷ crashed_from Origin nothing_lands 1 (synced sectors)

    later : s.generation + 1 + 2 < 2 ^ 64
    later = omega (arith, s.later)

    all_there : length origin_then ≡ 64
    all_there = ap (λ (n : ℕ). suc n) ((Crashed-crashed_from Origin nothing_lands 1 (synced sectors)).size ∙ length-map sectors (λ (h : History). only (newest h)) ∙ many)

    abbrev down_then : Down P A
    down_then = again P A policy alloc Writeback s desk_then (bare_root shape0.geometry (s.generation + 1)) metadata known.images known.known refl refl refl refl refl later size nothing_lands (crashed Cache nothing_lands (synced cache)) origin_then

    last_stretches : PassesThrough shape0 settled n3 (drop 3 conditions)
    last_stretches = (
      played global shape0 settled failing,
      goes_on global shape0 settled failing (failing_may own),
      ((refl, refl), refl),
      (
        played global shape0 (lead settled failing) crash,
        goes_on global shape0 (lead settled failing) crash (may_stop Durable _ ⨟ tt),
        refl,
        (played global shape0 (down P A down_then) (opening P A down_then), goes_on global shape0 (down P A down_then) (opening P A down_then) (opening_may P A down_then), (tt, again_shown P A policy alloc Writeback s desk_then (bare_root shape0.geometry (s.generation + 1)) metadata known.images known.known refl refl refl refl refl later size nothing_lands (crashed Cache nothing_lands (synced cache)) origin_then content all_there refl), tt),
      ),
    )

  pub survives : length metadata ≡ s.sizes.meta_sectors → length sectors ≡ 63 → FromNoted P A 0 Writeback s opened0 n0 conditions
  survives size many c0 known = noted_stretch P A 0 Writeback s opened0 wrote writing n0 n1 conditions c0 known (writing_leads c0) refl (λ c. (refl, refl)) (λ c1 known1.
      noted_stretch P A 0 Writeback s wrote was_read reading n1 n2 (drop 1 conditions) c1 known1 (reading_leads c1) refl (λ c. ((refl, refl), refl)) (λ c2 known2.
      noted_stretch P A 0 Writeback s was_read durable flush n2 n3 (drop 2 conditions) c2 known2 (flush_leads c2 known2) refl (λ c. ((refl, refl), refl, refl)) (last_stretches size many)))

-- what is noted once the first opening was answered: of each sector what is shown of it
module _ (P A : Type 0) (f : Formatted P A 0 Writeback) where
  abbrev sectors_then : List History
  sectors_then = synced (replicate 63 blank)

  abbrev contents_then : List Bytes
  contents_then = map newest sectors_then

  abbrev finished_then : List ℕ
  finished_then = map (λ (c : Bytes). 0) contents_then

  abbrev pub others_then : Others
  others_then = record { histories = map only contents_then; finished = finished_then; floors = finished_then; doings = replicate (length (nobody (replicate f.sizes.others None))) None }

  abbrev down0 : Down P A
  down0 = down_at P A 0 Writeback f

  pub noted_then : noted (shape_at P A 0 Writeback f) (down P A down0) (formatted (shape_at P A 0 Writeback f)) (opening_run P A 0 Writeback f)
      ≡ notes others_then (only (newest blank)) 0 None
  noted_then = ap (λ (ss : List Bytes). begins (suc (length (nobody (replicate f.sizes.others None)))) ss) (
      ap (λ (w : State P A). shown (shape_at P A 0 Writeback f) w) (opened_is P A down0)
      ∙ origin_shown (shape_at P A 0 Writeback f) (target P A down0).desk.tree.entries (map newest (devices P A 0 Writeback f).cache) (map newest (devices P A 0 Writeback f).origin) (suc f.sizes.k) (bare P A down0).entries refl)

  pub survives_from : (content other : Bytes) → Whole P A 0 Writeback f (to_survive (shape_at P A 0 Writeback f) content other)
  survives_from content other = from_opened P A 0 Writeback f (to_survive (shape_at P A 0 Writeback f) content other) (λ n e.
      subst (λ (m : Notes). PassesThrough (shape_at P A 0 Writeback f) (opened_at P A 0 Writeback f) m (to_survive (shape_at P A 0 Writeback f) content other)) (sym (e ∙ noted_then))
      (survives P A f.policy f.alloc (setting P A 0 Writeback f) (devices P A 0 Writeback f).metadata (devices P A 0 Writeback f).cache sectors_then (newest blank) others_then content other (devices_size P A 0 Writeback f) refl nothing_known (known_at P A 0 Writeback f)))

pub can_survive : (P A : Type 0) → CanSurvive P A
can_survive P A content other = small_can P A 0 0 Writeback write_back_starts (λ shape. to_survive shape content other) (λ f room. survives_from P A f content other)
