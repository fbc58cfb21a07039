-- A run in which the block that a suspend stored clean is passed by: an opening in passthrough takes it where it is, a write takes it out of the cache
-- and goes to the origin, and behind a flush and a crash an opening in write-back shows that.
use Rattle.std.proofs.Common.{◌≡◌, ◌∙◌, ◌≤◌, ◌+◌, ◌<◌, ◌^◌, ℕ, suc, true, false, List, [], ◌∷◌, Some, None, refl, sym, ap, subst, arith, length, map, replicate}
use Rattle.std.specs.Prelude.{drop}
use Rattle.std.proofs.lemmas.List.{length-map}
use Rattle.std.specs.Int.Bits.{bit_or, or_zero_l}
use Rattle.wb_types.specs.declared.mode.Mode.TheVariants.{Writeback, Passthrough}
use Rattle.wb_types.specs.declared.mode.Dev.TheVariants.{Cache, Origin}
use Rattle.wb_disk.specs.Device.{Content as Bytes, History, newest, only, synced, written}
use Rattle.wb_disk.specs.Memory.{blank}
use Rattle.wb_disk.specs.Crash.{crashed, crashed_from}
use Rattle.wb_disk.specs.declared.crash_choice.Base.TheVariants.{Durable}
use Rattle.wb_disk.proofs.Crashes.{Crashed-crashed_from}
use Rattle.wb_format.specs.declared.root.Root.{Root}
use Rattle.wb_words.specs.SharedWords.{Words, fresh_words}
use Rattle.wb_words.specs.Cards.{blank_card}
use Rattle.wb_words.specs.declared.word.Access.TheVariants.{Owned}
use Rattle.wb_words.specs.declared.word.Kind.TheVariants.{WriteHit}
use Rattle.wb_words.specs.declared.step.CellStep.TheVariants.{Finish, Count, Release}
use Rattle.wb_tree.proofs.Branching.Edits.{changed_at}
use Rattle.wb_desk.specs.Desks.{DeskState}
use Rattle.wb_desk.specs.Entries.{unmapped}
use Rattle.wb_stage.specs.Asking.{ended}
use Rattle.wb_desk.specs.Opening.{opened}
use Rattle.wb_tasks.specs.Tables.{TaskJob}
use Rattle.wb_tasks.specs.declared.step.Answer.TheVariants.{Done as Finished}
use Rattle.wb_tasks.specs.declared.step.DeviceStep.TheVariants.{Write as WriteExtent}
use Rattle.wb_tasks.specs.declared.step.Want.TheVariants.{Cell, Device}
use Rattle.wb_tasks.specs.declared.step.Got.TheVariants.{Done}
use Rattle.wb_devices.specs.declared.devices.Devices.{Devices}
use Rattle.wb_stage.specs.declared.share.Share.TheVariants.{Nothing as Unshared}
use Rattle.wb_promise.specs.declared.job.Job.{Job}
use Rattle.wb_promise.specs.declared.job.Job.TheVariants.{Write, Flush, Suspend}
use Rattle.wb_promise.specs.States.{Shape, State}
use Rattle.wb_promise.specs.Happenings.{Happening, Asks, Cut, task_job}
use Rattle.wb_promise.specs.Effects.{all_resting, card_by, sealing_steps, IsRun}
use Rattle.wb_promise.specs.Clerk.{Notes, begins, nobody}
use Rattle.wb_promise.specs.Headline.{noted, shown}
use Rattle.wb_runs.proofs.MetadataRuns.{IsKnown, known_always}
use Rattle.wb_runs.proofs.Rooted.{rooted}
use Rattle.wb_examples.specs.Possible.{PassesThrough, StandsIn, StandsCached, IsSealedClean, first_sector, first_block, first_cache_block, to_pass_through, CanPassThrough}
use Rattle.wb_examples.proofs.Opening.{Down, down, opening, opening_may, Idle, flushing, flushing_may}
use Rattle.wb_examples.proofs.Beginning.{bare_begun, bare_commit, bare_root}
use Rattle.wb_examples.proofs.Playing.{Move, Gets, Moves, Does, Stops, goes, goes_on, played, resting_idle, ◌⨟◌}
use Rattle.wb_examples.proofs.Runs.{along, stretched}
use Rattle.wb_examples.proofs.Desks.{Setting, shape, leaves_from}
use Rattle.wb_examples.proofs.Scenes.{Scene, Own, nothing_known, Formatted, Tiny, formatted_of, tiny_can, at, over, Leads, goes_to, FromNoted, noted_stretch, devices, devices_size, cache_size, shape_at, opened_at, known_at, from_opened, uncut, nothing_lands, plain}
use Rattle.wb_examples.proofs.Blocks.{first_written, promotes, promoting, promoting_leads}
use Rattle.wb_examples.proofs.Surviving.{Others, notes, doing_at, noted_then, others_then}
use Rattle.wb_examples.proofs.Reopening.{may_stop, again, again_shown, again_nowhere}
use Rattle.wb_examples.proofs.Marking.{seen_entry, leaf_place, stored_tree, geometry, root, s}
use Rattle.wb_examples.proofs.Rereading.{next_commit}
use Rattle.wb_examples.proofs.Suspending.{opened0, came0, suspended, suspending, suspending_leads, starting, started, starts, read, on, fits_then, opening as opening_behind, opens}

-- what an opening notes that shows something: the first sector's history begins with what is shown of it
begun_notes : (actors : ℕ) (contents : List Bytes) → 1 ≤ length contents → (first : Bytes) × (others : Others) × (begins (suc actors) contents ≡ notes others (only first) 0 None)
begun_notes actors [] some = absurd (omega (arith, some))
begun_notes actors (first ∷ contents) some = (first, record { histories = map only contents; finished = map (λ (c : Bytes). 0) contents; floors = map (λ (c : Bytes). 0) contents; doings = replicate actors None }, refl)

-- ---- in passthrough

module _ (P A : Type 0) (t : Tiny P A) (metadata cache sectors : List History) (size : length metadata ≡ t.meta_sectors) (many : length sectors ≡ 63) (old content first : Bytes) (others : Others) where
  -- as it was at the first opening, but for the others, who know nothing any more
  abbrev pub s_then : Setting P 0 Writeback
  s_then = record (s P A t) { rest = all_resting (s P A t).rest; idle = resting_idle (s P A t).rest }

  abbrev shape0 : Shape
  shape0 = shape P 0 Writeback s_then

  abbrev state : Scene P → Own → State P A
  state scene own = at P A 0 Writeback s_then scene own

  -- ---- where it is

  abbrev desk_opened : DeskState P
  desk_opened = opened (geometry P A t) ((root P A t false).generation + 1) (stored_tree false) (leaf_place ∷ []) Passthrough t.policy t.threshold 1

  -- the block has left
  abbrev desk_left : DeskState P
  desk_left = unmapped desk_opened first_cache_block (changed_at (stored_tree false) 0 None) t.policy

  abbrev words : (cell seal number : ℕ) → Words
  words cell seal number = record { cells = cell ∷ []; seals = seal ∷ []; numbers = number ∷ []; read_hits = 0; read_misses = 0; write_hits = number; write_misses = 0; fail = 0 }

  abbrev origin : List History
  origin = only old ∷ sectors

  abbrev job : Job
  job = Write first_sector content

  abbrev task : TaskJob
  task = task_job shape0 Passthrough [] job (first_sector ∷ []) []

  -- the block stands where it stood before
  abbrev pub passing : Scene P
  passing = plain metadata cache origin (words 0 2 0) desk_opened None

  -- the write comes to the origin next
  abbrev left : Scene P
  left = plain metadata cache origin (words 1 0 0) desk_left (Some (job, record { job = task; steps = Device (WriteExtent Origin first_sector) ∷ Cell (Finish first_block) ∷ Cell (Count WriteHit) ∷ Cell (Release Owned first_block) ∷ []; answer = Finished }))

  -- and has come there
  abbrev wrote : Scene P
  wrote = plain metadata cache (written origin 0 content) (words 0 0 1) desk_left (over job task)

  -- ---- what happens

  abbrev leaving : List (Move P A)
  leaving = Gets job (Cut (first_sector ∷ [])) ∷ goes 5 (Does Done (Asks desk_left) ∷ goes 1 [])

  abbrev writing : List (Move P A)
  writing = Moves ∷ goes 3 []

  leaving_leads : (own : Own) → IsKnown P A shape0 (state passing own) → Leads P A 0 Writeback s_then (state passing own) leaving left
  leaving_leads own known = goes_to P A 0 Writeback s_then _ _ _ (
      (s_then.idle, (refl, uncut first_sector (omega arith)))
      ⨟ (refl, refl, leaves_from P t.policy desk_opened 0 refl known.known.is.sound (record { cache = first_cache_block; mapped = refl; removed = tt }))
      ⨟ tt) refl

  writing_leads : (own : Own) → Leads P A 0 Writeback s_then (state left own) writing wrote
  writing_leads own = goes_to P A 0 Writeback s_then _ _ _ ((tt, omega arith) ⨟ tt) refl

  -- ---- what is noted

  abbrev history : History
  history = record { first = first; later = content ∷ [] }

  abbrev pub n0 : Notes
  n0 = notes others (only first) 0 None

  abbrev n1 : Notes
  n1 = notes others (only first) 0 (doing_at others job [] [] 0)

  abbrev n2 : Notes
  n2 = notes others history 0 (doing_at others job [] (record { sector = 0; position = 1 } ∷ []) 0)

  abbrev n3 : Notes
  n3 = notes others history 1 (doing_at others Flush [] [] 1)

  abbrev conditions : List (State P A → Notes → Type 0)
  conditions = drop 3 (to_pass_through shape0 content)

  -- ---- the flush, the crash and the opening behind them

  abbrev idle_there : Own → Idle P
  idle_there own = record { global = t.global; shape = shape0; words = words 0 0 1; desk = desk_left; devices = wrote.devices; actor = record { task = None; card = own.card; orders = []; awaiting = []; buffer = []; seen = own.seen; share = own.share }; rest = s_then.rest }

  abbrev flush : List (Move P A)
  flush = goes 1 (flushing P A (idle_there nothing_known))

  abbrev desk_then : DeskState P
  desk_then = ended (bare_begun t.global desk_left)

  abbrev durable : Scene P
  durable = plain (synced (rooted (bare_commit t.global shape0.geometry desk_then.generation) (synced metadata))) (synced cache) (only content ∷ synced sectors) (words 0 0 1) desk_then (over Flush (task_job shape0 Passthrough [] Flush [] []))

  flush_leads : (own : Own) → IsKnown P A shape0 (state wrote own) → Leads P A 0 Writeback s_then (state wrote own) flush durable
  flush_leads own known = goes_to P A 0 Writeback s_then _ _ _ (flushing_may P A (idle_there own) (record { images = known.images; known = known.known; geometry = refl; entries = refl }) (record { idle = refl; next = omega (arith, (s P A t).later) }) refl s_then.idle) refl

  abbrev crash : List (Move P A)
  crash = goes 1 (Stops nothing_lands ∷ [])

  module _ (own : Own) (known : IsKnown P A shape0 (state durable own)) where
    abbrev last_root : Root
    last_root = bare_root shape0.geometry desk_then.generation

    abbrev cache_left : List History
    cache_left = crashed Cache nothing_lands (synced cache)

    abbrev origin_left : List History
    origin_left = only content ∷ crashed_from Origin nothing_lands 1 (synced sectors)

    later : last_root.generation + 2 < 2 ^ 64
    later = omega (arith, s_then.later)

    all_there : length origin_left ≡ 64
    all_there = ap (λ (n : ℕ). suc n) ((Crashed-crashed_from Origin nothing_lands 1 (synced sectors)).size ∙ length-map sectors (λ (h : History). only (newest h)) ∙ many)

    abbrev down_then : Down P A
    down_then = again P A t.policy t.alloc Writeback s_then desk_then last_root metadata known.images known.known refl refl refl refl refl later size nothing_lands cache_left origin_left

    behind_flush : PassesThrough shape0 (state durable own) n3 (drop 3 conditions)
    behind_flush = (
      played t.global shape0 (state durable own) crash,
      goes_on t.global shape0 (state durable own) crash (may_stop Durable _ ⨟ tt),
      (refl, refl),
      (
        played t.global shape0 (down P A down_then) (opening P A down_then),
        goes_on t.global shape0 (down P A down_then) (opening P A down_then) (opening_may P A down_then),
        (
          refl,
          again_nowhere P A t.policy t.alloc Writeback s_then desk_then last_root metadata known.images known.known refl refl refl refl refl later size nothing_lands cache_left origin_left first_block,
          again_shown P A t.policy t.alloc Writeback s_then desk_then last_root metadata known.images known.known refl refl refl refl refl later size nothing_lands cache_left origin_left content all_there refl,
        ),
        tt,
      ),
    )

  pub passes : FromNoted P A 0 Writeback s_then passing n0 conditions
  passes own0 known0 = noted_stretch P A 0 Writeback s_then passing left leaving n0 n1 conditions own0 known0 (leaving_leads own0 known0) refl (λ own. ((refl, refl), refl)) (λ own1 known1.
      noted_stretch P A 0 Writeback s_then left wrote writing n1 n2 (drop 1 conditions) own1 known1 (writing_leads own1) refl (λ own. ((refl, refl), refl, first_written origin content (omega arith))) (λ own2 known2.
      noted_stretch P A 0 Writeback s_then wrote durable flush n2 n3 (drop 2 conditions) own2 known2 (flush_leads own2 known2) refl (λ own. ((refl, refl), refl)) behind_flush))

-- ---- the whole run

module _ (P A : Type 0) (t : Tiny P A) (room : 64 ≤ t.threshold) (content : Bytes) (others : Others) (first old : Bytes) (metadata cache sectors : List History) (cache_some : 64 ≤ length cache) (many : length sectors ≡ 63) (metadata_size : length metadata ≡ t.meta_sectors) where
  abbrev d : Devices (List History)
  d = record { metadata = metadata; cache = cache; origin = only old ∷ sectors }

  origin_some : 64 ≤ length d.origin
  origin_some = omega (arith, many)

  abbrev whole_shape : Shape
  whole_shape = shape P 0 Writeback (s P A t)

  abbrev whole_conditions : List (State P A → Notes → Type 0)
  whole_conditions = to_pass_through whole_shape content

  abbrev scene : ℕ → Scene P
  scene fail = suspended P A t [] d cache_some origin_some metadata_size false fail

  abbrev m0 : Notes
  m0 = notes others (only first) 0 None

  abbrev m1 : Notes
  m1 = notes others (only first) 0 (doing_at others promotes [] [] 0)

  abbrev m2 : Notes
  m2 = notes others (only first) 0 (doing_at others Suspend [] [] 0)

  -- ---- the opening in passthrough

  module _ (own : Own) (known : IsKnown P A whole_shape (at P A 0 Writeback (s P A t) (scene 2) own)) where
    abbrev ready : State P A
    ready = at P A 0 Writeback (s P A t) (scene 2) own

    abbrev reopening : State P A
    reopening = started P A t [] d cache_some origin_some metadata_size false own known Passthrough

    abbrev to_start : List (Happening P A)
    to_start = played t.global whole_shape ready (starting P A t [] d cache_some origin_some metadata_size false Passthrough)

    abbrev to_open : List (Happening P A)
    to_open = played t.global whole_shape reopening (opening_behind P A t [] d cache_some origin_some metadata_size false own known)

    abbrev metadata_then : List History
    metadata_then = synced (rooted (next_commit P A t false (read P A t [] d cache_some origin_some metadata_size false own known) (on P A t [] d cache_some origin_some metadata_size false own known)) (read P A t [] d cache_some origin_some metadata_size false own known))

    abbrev cache_then : List History
    cache_then = synced (scene 2).devices.cache

    abbrev sectors_then : List History
    sectors_then = synced (synced sectors)

    size_then : length metadata_then ≡ t.meta_sectors
    size_then = length-map _ (λ (h : History). only (newest h)) ∙ fits_then P A t [] d cache_some origin_some metadata_size false own known

    many_then : length sectors_then ≡ 63
    many_then = length-map (synced sectors) (λ (h : History). only (newest h)) ∙ length-map sectors (λ (h : History). only (newest h)) ∙ many

    -- who opened it has sealed the block
    abbrev own_then : Own
    own_then = record { card = card_by (fresh_words 1) blank_card (sealing_steps true 0 (stored_tree false).entries); seen = []; share = Unshared }

    starts_then : IsRun whole_shape ready to_start
    starts_then = starts P A t [] d cache_some origin_some metadata_size false own known Passthrough

    opens_then : IsRun whole_shape reopening to_open
    opens_then = opens P A t [] d cache_some origin_some metadata_size false own known Passthrough (λ e. refl)

    abbrev there : State P A
    there = at P A 0 Writeback (s_then P A t metadata_then cache_then sectors_then size_then many_then old content first others) (passing P A t metadata_then cache_then sectors_then size_then many_then old content first others) own_then

    known_then : IsKnown P A whole_shape there
    known_then = known_always P A whole_shape reopening to_open (known_always P A whole_shape ready to_start known starts_then) opens_then

    behind_suspend : PassesThrough whole_shape ready m2 (drop 2 whole_conditions)
    behind_suspend =
        let n = noted whole_shape ready m2 to_start in
        let b = begun_notes (length (nobody others.doings)) (shown whole_shape there) (omega arith) in
        let Is : State P A → Notes → Type 0 = λ w n. StandsIn Passthrough w × StandsCached first_block w × IsSealedClean w in
        along whole_shape ready reopening m2 to_start (drop 2 whole_conditions) refl starts_then (
        stretched whole_shape reopening there n (notes b.1 (only b.0) 0 None) to_open Is (drop 3 whole_conditions) refl b.2 opens_then (refl, refl, refl)
        (passes P A t metadata_then cache_then sectors_then size_then many_then old content b.0 b.1 own_then known_then))

  passes_all : FromNoted P A 0 Writeback (s P A t) (opened0 P A t [] d cache_some origin_some metadata_size) m0 whole_conditions
  passes_all own0 known0 = noted_stretch P A 0 Writeback (s P A t) (opened0 P A t [] d cache_some origin_some metadata_size) (came0 P A t [] d cache_some origin_some metadata_size) (promoting P A 0 Writeback (s P A t)) m0 m1 whole_conditions own0 known0
      (promoting_leads P A 0 Writeback (s P A t) d cache_some origin_some room own0) refl (λ own. (((refl, refl), refl, refl), refl)) (λ own1 known1.
      noted_stretch P A 0 Writeback (s P A t) (came0 P A t [] d cache_some origin_some metadata_size) (scene (bit_or 0 2)) (suspending P A t [] d cache_some origin_some metadata_size false known1.known.is.kept) m1 m2 (drop 1 whole_conditions) own1 known1
      (suspending_leads P A t [] d cache_some origin_some metadata_size false own1 known1) refl (λ own. ((refl, refl), (seen_entry false, refl, refl, refl)))
      (subst (λ (fail : ℕ). FromNoted P A 0 Writeback (s P A t) (scene fail) m2 (drop 2 whole_conditions)) (sym (or_zero_l 2)) behind_suspend))

pub can_pass_through : (P A : Type 0) → CanPassThrough P A
can_pass_through P A content = tiny_can P A 64 (λ shape. to_pass_through shape content) (λ t room.
    let f : Formatted P A 0 Writeback = formatted_of t in
    from_opened P A 0 Writeback f (to_pass_through (shape_at P A 0 Writeback f) content) (λ n e.
    subst (λ (m : Notes). PassesThrough (shape_at P A 0 Writeback f) (opened_at P A 0 Writeback f) m (to_pass_through (shape_at P A 0 Writeback f) content)) (sym (e ∙ noted_then P A f))
    (passes_all P A t room content (others_then P A f) (newest blank) (newest blank) (devices P A 0 Writeback f).metadata (devices P A 0 Writeback f).cache (synced (replicate 63 blank)) (cache_size P A 0 Writeback f) refl (devices_size P A 0 Writeback f) nothing_known (known_at P A 0 Writeback f))))
