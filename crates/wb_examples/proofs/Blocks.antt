-- Runs over small shapes, in which the first block comes into the first cache block, leaves it, is written to there, is written back, or is replaced
-- by the second.
use Rattle.std.proofs.Common.{◌≡◌, ◌∙◌, ◌≤◌, ◌+◌, inr, ℕ, suc, true, List, [], ◌∷◌, Option, Some, None, refl, ap, arith, length, replicate, slice_get}
use Rattle.std.specs.Prelude.{drop}
use Rattle.std.proofs.lemmas.List.{length-map}
use Rattle.std.specs.Int.Bits.{bit_or}
use Rattle.wb_types.specs.declared.mode.Mode.{Mode}
use Rattle.wb_types.specs.declared.mode.Mode.TheVariants.{Writeback}
use Rattle.wb_types.specs.declared.mode.Dev.TheVariants.{Origin}
use Rattle.wb_types.specs.declared.refusal.Refusal.TheVariants.{Memory}
use Rattle.wb_disk.specs.Device.{Content as Bytes, History, ReadGives, grown, only, newest, written, synced}
use Rattle.wb_disk.specs.Extents.{written_each, written_where}
use Rattle.wb_disk.specs.Failing.{lands}
use Rattle.wb_words.specs.SharedWords.{Words, fresh_words}
use Rattle.wb_meta.proofs.Histories.{newest-added}
use Rattle.wb_policy.specs.declared.order.Order.{Order}
use Rattle.wb_desk.specs.Desks.{DeskState}
use Rattle.wb_tasks.specs.Plan.{Plan, table}
use Rattle.wb_tasks.specs.declared.step.Answer.TheVariants.{Refused as IsRefused}
use Rattle.wb_tasks.specs.declared.step.DeskStep.TheVariants.{ReleaseOrder}
use Rattle.wb_tasks.specs.declared.step.Want.{Want}
use Rattle.wb_tasks.specs.declared.step.Want.TheVariants.{Desk}
use Rattle.wb_tasks.specs.declared.step.Migration.TheVariants.{Promote, Demote, Clean}
use Rattle.wb_tasks.specs.declared.step.Got.TheVariants.{Done, Refused as GotRefused}
use Rattle.wb_devices.specs.declared.devices.Devices.{Devices}
use Rattle.wb_promise.specs.declared.job.Job.{Job}
use Rattle.wb_promise.specs.declared.job.Job.TheVariants.{Write, Flush, Migrate, Replace}
use Rattle.wb_promise.specs.States.{Shape, State}
use Rattle.wb_promise.specs.Happenings.{Plain, Cut, Orders, Asks, task_job}
use Rattle.wb_promise.specs.Effects.{contents_at}
use Rattle.wb_promise.specs.Clerk.{Notes}
use Rattle.wb_examples.specs.Possible.{first_block, second_block, first_cache_block, first_sector, replacement, IsPromoted, IsWrittenTo, IsHalfReplaced, to_demote, to_write_back, to_replace, to_give_up, to_start_again, CanPromote, CanDemote, CanWriteBack, CanReplace, CanGiveUp, CanStartAgain}
use Rattle.wb_disk.proofs.Lengths.{length_written_where}
use Rattle.wb_runs.proofs.Rooted.{rooted}
use Rattle.wb_runs.proofs.MetadataRuns.{IsKnown}
use Rattle.wb_examples.proofs.Beginning.{bare_commit}
use Rattle.wb_examples.proofs.Shown.{nowhere}
use Rattle.wb_examples.proofs.Playing.{Move, Gets, Moves, Does, Fails, goes, happens, may_move, ◌⨟◌}
use Rattle.wb_examples.proofs.Opening.{Idle, flushing, flushing_may}
use Rattle.wb_examples.proofs.Desks.{Setting, shape, stood, demoted, claimed, given_up, settled, followed, cleaned, leaving, may_promote, may_map, comes, may_demote, demotes, may_replace, leaves, lives, gives_up, may_follow, follows, may_clean, cleans}
use Rattle.wb_examples.proofs.Scenes.{Scene, Own, nothing_known, Formatted, at, over, Leads, goes_to, From, done, stretch, on, opened_scene, setting, devices, cache_size, origin_size, known_at, Whole, from_opened, small_can, uncut, nothing_lands, may_fail, whole, next_whole}

-- ---- contents of the first sector

-- a write of later sectors leaves it
first_stays : (cs : List Bytes) (device : List History) (at : ℕ) → slice_get (written_each device (suc at) cs) 0 ≡ slice_get device 0
first_stays [] device at = refl
first_stays (c ∷ cs) device at = first_stays cs (written device (suc at) c) (suc at) ∙ one (slice_get device (suc at)) device
  where
    one : (o : Option History) (device : List History) → slice_get (grown o c device (suc at)) 0 ≡ slice_get device 0
    one (Some h) (g ∷ device) = refl
    one o device = refl

pub first_written : (device : List History) (c : Bytes) → 1 ≤ length device → ReadGives (written device 0 c) 0 c
first_written [] c l = absurd (omega (arith, l))
first_written (h ∷ device) c l = (_, refl, newest-added h c)

pub sync_gives : (device : List History) (c : Bytes) → ReadGives device 0 c → ReadGives (synced device) 0 c
sync_gives [] c g = absurd (let e = g.1 in cc)
sync_gives (h ∷ device) c g = (only (newest h), refl, (let e = g.1 in let same : h ≡ g.0 = cc in ap newest same) ∙ g.2)

-- what was read of it and of later ones, and is written elsewhere, stands there
carried_gives : (from to : List History) (c : Bytes) (count : ℕ) → ReadGives from 0 c → 1 ≤ length to → ReadGives (written_each to 0 (contents_at from (record { first = 0; count = suc count }))) 0 c
carried_gives [] to c count g l = absurd (let e = g.1 in cc)
carried_gives (h ∷ from) to c count g l =
    let later = contents_at from (record { first = 0; count = count }) in
    let read : newest h ≡ c = (let e = g.1 in let same : h ≡ g.0 = cc in ap newest same) ∙ g.2 in
    let w = first_written to (newest h) l in
    (w.0, first_stays later (written to 0 (newest h)) 0 ∙ w.1, w.2 ∙ read)

-- ---- the first block comes, and goes again

abbrev pub promotes : Job
promotes = Migrate (Promote first_cache_block) first_block

-- a migration of the first block starts under a new order
abbrev ordering : {P A : Type 0} → Job → List (Move P A) → List (Move P A)
ordering job moves = Gets job (Orders (whole ∷ []) first_cache_block) ∷ goes 5 moves

-- the devices once the first block was copied into the first cache block
abbrev pub filled : Devices (List History) → Devices (List History)
filled d = record d { cache = written_each d.cache 0 (contents_at d.origin whole) }

module _ (P A : Type 0) (more : ℕ) (mode : Mode) (s : Setting P more mode) where
  open s use {global, sizes.{threshold}}

  -- at the last step of a migration of it, which was cut into one extent
  abbrev migrated : Job → Option (Job × Plan)
  migrated job = over job (task_job (shape P more mode s) mode [] job (whole ∷ []) [])

  -- once its seal was put
  abbrev sealed : ℕ → Words
  sealed seal = record (fresh_words (suc more)) { seals = seal ∷ replicate more 0 }

  abbrev pub came : Devices (List History) → Scene P
  came d = record { devices = filled d; words = sealed 2; desk = stood P more mode s; task = migrated promotes; orders = []; awaiting = []; buffer = contents_at d.origin whole }

  abbrev pub promoting : List (Move P A)
  promoting = ordering promotes (Moves ∷ Moves ∷ Does Done (Asks (stood P more mode s)) ∷ goes 2 [])

  pub promoting_leads : (d : Devices (List History)) → 64 ≤ length d.cache → 64 ≤ length d.origin → 64 ≤ threshold → (own : Own) → Leads P A more mode s (at P A more mode s (opened_scene P A more mode s d) own) promoting (came d)
  promoting_leads d cache_size origin_size room own = goes_to P A more mode s _ _ _ ((s.idle, (uncut whole (omega arith), may_promote P more mode s room)) ⨟ (tt, omega (arith, origin_size)) ⨟ (tt, omega (arith, cache_size)) ⨟ (refl, (may_map P more mode s, comes P more mode s, refl)) ⨟ tt) refl

  abbrev gone : Scene P → Scene P
  gone scene = record scene { words = sealed 0; desk = demoted P more mode s; task = migrated (Migrate Demote first_block) }

  abbrev demoting : List (Move P A)
  demoting = goes 1 (ordering (Migrate Demote first_block) (Does Done (Asks (demoted P more mode s)) ∷ goes 2 []))

  demoting_leads : (d : Devices (List History)) → 64 ≤ threshold → (own : Own) → Leads P A more mode s (at P A more mode s (came d) own) demoting (gone (came d))
  demoting_leads d room own = goes_to P A more mode s _ _ _ ((s.idle, (uncut whole (omega arith), may_demote P more mode s room)) ⨟ (refl, refl, demotes P more mode s) ⨟ tt) refl

pub can_promote : (P A : Type 0) → CanPromote P A
can_promote P A = small_can P A 0 64 Writeback (λ e. cc) (λ shape. (λ w n. IsPromoted w) ∷ []) (λ f room.
    let s = setting P A 0 Writeback f in let d = devices P A 0 Writeback f in
    from_opened P A 0 Writeback f ((λ w n. IsPromoted w) ∷ []) (λ n e. stretch P A 0 Writeback s (opened_scene P A 0 Writeback s d) (came P A 0 Writeback s d) (promoting P A 0 Writeback s) ((λ w n. IsPromoted w) ∷ []) (λ own known. promoting_leads P A 0 Writeback s d (cache_size P A 0 Writeback f) (omega (arith, origin_size P A 0 Writeback f)) room own)
    (λ own n. ((refl, refl), refl, refl)) (done P A 0 Writeback s (came P A 0 Writeback s d)) nothing_known (known_at P A 0 Writeback f) n))

pub can_demote : (P A : Type 0) → CanDemote P A
can_demote P A = small_can P A 0 64 Writeback (λ e. cc) (λ shape. to_demote) (λ f room.
    let s = setting P A 0 Writeback f in let d = devices P A 0 Writeback f in
    from_opened P A 0 Writeback f to_demote (λ n e. stretch P A 0 Writeback s (opened_scene P A 0 Writeback s d) (came P A 0 Writeback s d) (promoting P A 0 Writeback s) to_demote (λ own known. promoting_leads P A 0 Writeback s d (cache_size P A 0 Writeback f) (omega (arith, origin_size P A 0 Writeback f)) room own)
    (λ own n. ((refl, refl), refl, refl))
    (stretch P A 0 Writeback s (came P A 0 Writeback s d) (gone P A 0 Writeback s (came P A 0 Writeback s d)) (demoting P A 0 Writeback s) (drop 1 to_demote) (λ own known. demoting_leads P A 0 Writeback s d room own) (λ own n. ((refl, refl), nowhere 0 1 f.sizes.k, refl, refl)) (done P A 0 Writeback s (gone P A 0 Writeback s (came P A 0 Writeback s d)))) nothing_known (known_at P A 0 Writeback f) n))

-- ---- of two blocks the first is written to, and written back or replaced

abbrev replaces : Job
replaces = Replace first_block second_block

abbrev follows_job : Job
follows_job = Migrate (Promote first_cache_block) second_block

module _ (P A : Type 0) (s : Setting P 1 Writeback) where
  open s use {global}

  abbrev shape1 : Shape
  shape1 = shape P 1 Writeback s

  abbrev words : (first second number fail : ℕ) → Words
  words first second number fail = record { cells = 0 ∷ 0 ∷ []; seals = first ∷ second ∷ []; numbers = number ∷ 0 ∷ []; read_hits = 0; read_misses = 0; write_hits = number; write_misses = 0; fail = fail }

  abbrev state : Scene P → Own → State P A
  state scene own = at P A 1 Writeback s scene own

  -- ---- where it is

  module _ (d : Devices (List History)) (buffer : List Bytes) where
    abbrev here : Words → DeskState P → Option (Job × Plan) → (orders awaiting : List Order) → Scene P
    here words desk task orders awaiting = record { devices = d; words = words; desk = desk; task = task; orders = orders; awaiting = awaiting; buffer = buffer }

    abbrev wrote : Bytes → Scene P
    wrote content = here (words 3 0 1 0) (stood P 1 Writeback s) (over (Write first_sector content) (task_job shape1 Writeback [] (Write first_sector content) (first_sector ∷ []) [])) [] []

    abbrev written_back : Scene P
    written_back = here (words 2 0 1 0) (cleaned P 1 Writeback s) (migrated P A 1 Writeback s (Migrate Clean first_block)) [] []

    abbrev left : Scene P
    left = here (words 0 0 1 0) (claimed P 1 Writeback s) (over (Migrate Demote first_block) (task_job shape1 Writeback [] replaces (whole ∷ []) [])) [] (replacement ∷ [])

    abbrev failed : Option (Job × Plan) → Scene P
    failed task = record { devices = d; words = record (words 3 0 1 (bit_or 0 1)) { cells = 1 ∷ 0 ∷ [] }; desk = leaving P 1 Writeback s replacement; task = task; orders = replacement ∷ []; awaiting = []; buffer = buffer }

    -- a flush of these orders has still to do this, and is refused then
    abbrev refused : List Want → Option (Job × Plan)
    refused steps = Some (Flush, record { job = task_job shape1 Writeback (replacement ∷ []) Flush [] []; steps = steps; answer = IsRefused Memory })

    abbrev served : Scene P
    served = here (words 0 0 1 0) (settled P 1 Writeback s) (over Flush (task_job shape1 Writeback (replacement ∷ []) Flush [] [])) [] (replacement ∷ [])

    abbrev begun : Scene P
    begun = here (words 0 0 1 0) (settled P 1 Writeback s) (Some (follows_job, table (task_job shape1 Writeback [] follows_job (next_whole ∷ []) []))) (replacement ∷ []) []

    abbrev followed_there : Scene P
    followed_there = here (words 0 2 1 0) (followed P 1 Writeback s) (over follows_job (task_job shape1 Writeback [] follows_job (next_whole ∷ []) [])) [] []

  -- ---- what happens there

  abbrev writing : Bytes → List (Move P A)
  writing content = goes 1 (Gets (Write first_sector content) (Cut (first_sector ∷ [])) ∷ goes 6 (Moves ∷ goes 3 []))

  abbrev cleaning : List (Move P A)
  cleaning = goes 1 (ordering (Migrate Clean first_block) (Moves ∷ Moves ∷ goes 2 (Does Done (Asks (cleaned P 1 Writeback s)) ∷ [])))

  abbrev replacing : List (Move P A)
  replacing = goes 1 (ordering replaces (Moves ∷ Moves ∷ Does Done (Asks (claimed P 1 Writeback s)) ∷ goes 2 []))

  abbrev failing : List (Move P A)
  failing = goes 1 (ordering replaces (Moves ∷ Fails nothing_lands ∷ goes 2 []))

  abbrev refusing : List (Move P A)
  refusing = goes 1 (Gets Flush Plain ∷ goes 1 (Does (GotRefused Memory) Plain ∷ []))

  abbrev answering : List (Move P A)
  answering = goes 1 (Gets follows_job (Cut (next_whole ∷ [])) ∷ [])

  abbrev following : List (Move P A)
  following = goes 5 (Moves ∷ Moves ∷ Does Done (Asks (followed P 1 Writeback s)) ∷ goes 2 [])

  module _ (d : Devices (List History)) (buffer : List Bytes) (cache_size : 64 ≤ length d.cache) (origin_size : 128 ≤ length d.origin) where
    -- what was read of the cache, and the devices once it was written home
    abbrev taken_home : List Bytes
    taken_home = contents_at d.cache whole

    abbrev home : Devices (List History)
    home = record d { origin = written_each d.origin 0 taken_home }

    writing_leads : (content : Bytes) (own : Own) → Leads P A 1 Writeback s (state (here d buffer (words 2 0 0 0) (stood P 1 Writeback s) (migrated P A 1 Writeback s promotes) [] []) own) (writing content) (wrote (record d { cache = written d.cache 0 content }) buffer content)
    writing_leads content own = goes_to P A 1 Writeback s _ _ _ ((s.idle, (refl, uncut first_sector (omega arith))) ⨟ (tt, omega (arith, cache_size)) ⨟ tt) refl

    cleaning_leads : 64 ≤ s.sizes.threshold → (content : Bytes) (own : Own) → Leads P A 1 Writeback s (state (wrote d buffer content) own) cleaning (written_back home taken_home)
    cleaning_leads room content own = goes_to P A 1 Writeback s _ _ _ ((s.idle, (uncut whole (omega arith), may_clean P 1 Writeback s room)) ⨟ (tt, omega (arith, cache_size)) ⨟ (tt, omega (arith, origin_size)) ⨟ (refl, refl, cleans P 1 Writeback s) ⨟ tt) refl

    replacing_leads : 128 ≤ s.sizes.threshold → (content : Bytes) (own : Own) → Leads P A 1 Writeback s (state (wrote d buffer content) own) replacing (left home taken_home)
    replacing_leads room content own = goes_to P A 1 Writeback s _ _ _ ((s.idle, (uncut whole (omega arith), may_replace P 1 Writeback s room refl)) ⨟ (tt, omega (arith, cache_size)) ⨟ (tt, omega (arith, origin_size)) ⨟ (refl, refl, leaves P 1 Writeback s) ⨟ tt) refl

    failing_leads : 128 ≤ s.sizes.threshold → (content : Bytes) (own : Own) → Leads P A 1 Writeback s (state (wrote d buffer content) own) failing (failed (record d { origin = written_where (lands Origin nothing_lands) d.origin 0 taken_home }) taken_home None)
    failing_leads room content own = goes_to P A 1 Writeback s _ _ _ ((s.idle, (uncut whole (omega arith), may_replace P 1 Writeback s room refl)) ⨟ (tt, omega (arith, cache_size)) ⨟ (may_fail (length d.origin), (refl, tt)) ⨟ tt) refl

    refusing_leads : (own : Own) → Leads P A 1 Writeback s (state (left d buffer) own) refusing (record (left d buffer) { task = refused d buffer (Desk (ReleaseOrder first_block) ∷ []) })
    refusing_leads own = goes_to P A 1 Writeback s _ _ _ ((s.idle, tt) ⨟ (refl, inr (refl, refl, record { idle = refl; next = omega (arith, s.later) })) ⨟ tt) refl

    abbrev idle_there : Own → Idle P
    idle_there own = record { global = global; shape = shape1; words = words 0 0 1 0; desk = claimed P 1 Writeback s; devices = d; actor = record { task = None; card = own.card; orders = []; awaiting = replacement ∷ []; buffer = buffer; seen = own.seen; share = own.share }; rest = s.rest }

    abbrev flush : List (Move P A)
    flush = goes 1 (flushing P A (idle_there nothing_known))

    abbrev durable : Devices (List History)
    durable = record { metadata = synced (rooted (bare_commit global shape1.geometry (s.generation + 1)) (synced d.metadata)); cache = synced d.cache; origin = synced d.origin }

    flush_leads : (own : Own) → IsKnown P A shape1 (state (left d buffer) own) → Leads P A 1 Writeback s (state (left d buffer) own) flush (served durable buffer)
    flush_leads own known = goes_to P A 1 Writeback s _ _ _ (flushing_may P A (idle_there own) (record { images = known.images; known = known.known; geometry = refl; entries = refl }) (record { idle = refl; next = omega (arith, s.later) }) refl s.idle) refl

    answering_leads : (own : Own) → Leads P A 1 Writeback s (state (served d buffer) own) answering (begun d buffer)
    answering_leads own = goes_to P A 1 Writeback s _ _ _ ((s.idle, (uncut next_whole (omega arith), inr (first_block, (0, omega arith, refl), refl))) ⨟ tt) refl

    abbrev brought : List Bytes
    brought = contents_at d.origin next_whole

    following_leads : (own : Own) → Leads P A 1 Writeback s (state (begun d buffer) own) following (followed_there (record d { cache = written_each d.cache 0 brought }) brought)
    following_leads own = goes_to P A 1 Writeback s _ _ _ ((tt, omega (arith, origin_size)) ⨟ (tt, omega (arith, cache_size)) ⨟ (refl, (may_follow P 1 Writeback s, follows P 1 Writeback s, refl)) ⨟ tt) refl

-- ---- the whole runs

module _ (P A : Type 0) (f : Formatted P A 1 Writeback) (room : 128 ≤ f.sizes.threshold) (content : Bytes) where
  abbrev s : Setting P 1 Writeback
  s = setting P A 1 Writeback f

  -- the devices after the opening, once the block came, was written to, was written home, and what was written was made durable
  abbrev d0 : Devices (List History)
  d0 = devices P A 1 Writeback f

  abbrev buffer : List Bytes
  buffer = contents_at d0.origin whole

  abbrev d1 : Devices (List History)
  d1 = filled d0

  abbrev d2 : Devices (List History)
  d2 = record d1 { cache = written d1.cache 0 content }

  abbrev carried : List Bytes
  carried = contents_at d2.cache whole

  abbrev d3 : Devices (List History)
  d3 = record d2 { origin = written_each d2.origin 0 carried }

  abbrev d4 : Devices (List History)
  d4 = record { metadata = synced (rooted (bare_commit s.global (shape1 P A s).geometry (s.generation + 1)) (synced d3.metadata)); cache = synced d3.cache; origin = synced d3.origin }

  cache1 : 64 ≤ length d1.cache
  cache1 = omega (arith, length_written_where (λ at. true) d0.cache 0 buffer, cache_size P A 1 Writeback f)

  cache2 : 64 ≤ length d2.cache
  cache2 = omega (arith, length_written_where (λ at. true) d1.cache 0 (content ∷ []), cache1)

  origin0 : 128 ≤ length d0.origin
  origin0 = omega (arith, origin_size P A 1 Writeback f)

  origin3 : 128 ≤ length d3.origin
  origin3 = omega (arith, length_written_where (λ at. true) d2.origin 0 carried, origin0)

  cache4 : 64 ≤ length d4.cache
  cache4 = omega (arith, length-map d3.cache (λ (h : History). only (newest h)), cache2)

  origin4 : 128 ≤ length d4.origin
  origin4 = omega (arith, length-map d3.origin (λ (h : History). only (newest h)), origin3)

  has_content : ReadGives d2.cache 0 content
  has_content = first_written d1.cache content (omega (arith, cache1))

  goes_home : ReadGives d3.origin 0 content
  goes_home = carried_gives d2.cache d2.origin content 63 has_content (omega (arith, origin0))

  -- the block comes, and is written to
  comes_written : (conditions : List (State P A → Notes → Type 0)) → From P A 1 Writeback s (wrote P A s d2 buffer content) conditions → From P A 1 Writeback s (opened_scene P A 1 Writeback s d0) ((λ w n. IsPromoted w) ∷ (λ w n. IsWrittenTo content w) ∷ conditions)
  comes_written conditions behind = stretch P A 1 Writeback s (opened_scene P A 1 Writeback s d0) (came P A 1 Writeback s d0) (promoting P A 1 Writeback s) ((λ w n. IsPromoted w) ∷ (λ w n. IsWrittenTo content w) ∷ conditions)
      (λ own known. promoting_leads P A 1 Writeback s d0 (cache_size P A 1 Writeback f) (omega (arith, origin0)) (omega (arith, room)) own) (λ own n. ((refl, refl), refl, refl))
      (stretch P A 1 Writeback s (came P A 1 Writeback s d0) (wrote P A s d2 buffer content) (writing P A s content) ((λ w n. IsWrittenTo content w) ∷ conditions) (λ own known. writing_leads P A s d1 buffer cache1 origin0 content own) (λ own n. ((refl, refl), has_content)) behind)

  comes_unseen : (conditions : List (State P A → Notes → Type 0)) → From P A 1 Writeback s (wrote P A s d2 buffer content) conditions → From P A 1 Writeback s (opened_scene P A 1 Writeback s d0) conditions
  comes_unseen conditions behind = on P A 1 Writeback s (opened_scene P A 1 Writeback s d0) (came P A 1 Writeback s d0) (promoting P A 1 Writeback s) conditions (promoting_leads P A 1 Writeback s d0 (cache_size P A 1 Writeback f) (omega (arith, origin0)) (omega (arith, room)))
      (on P A 1 Writeback s (came P A 1 Writeback s d0) (wrote P A s d2 buffer content) (writing P A s content) conditions (writing_leads P A s d1 buffer cache1 origin0 content) behind)

  whole_run : (conditions : List (State P A → Notes → Type 0)) → From P A 1 Writeback s (opened_scene P A 1 Writeback s d0) conditions → Whole P A 1 Writeback f conditions
  whole_run conditions from = from_opened P A 1 Writeback f conditions (λ n e. from nothing_known (known_at P A 1 Writeback f) n)

  half_replaced : (own : Own) → IsHalfReplaced (state P A s (left P A s d3 carried) own)
  half_replaced own = ((refl, refl), refl, lives P 1 Writeback s)

  pub writes_back : Whole P A 1 Writeback f (to_write_back content)
  writes_back = whole_run (to_write_back content) (comes_written (drop 2 (to_write_back content)) (
      stretch P A 1 Writeback s (wrote P A s d2 buffer content) (written_back P A s d3 carried) (cleaning P A s) (drop 2 (to_write_back content)) (λ own known. cleaning_leads P A s d2 buffer cache2 origin0 (omega (arith, room)) content own)
      (λ own n. ((refl, refl), (refl, refl), goes_home, refl, refl, refl)) (done P A 1 Writeback s (written_back P A s d3 carried))))

  pub replaces_all : Whole P A 1 Writeback f (to_replace content)
  replaces_all = whole_run (to_replace content) (comes_written (drop 2 (to_replace content)) (
      stretch P A 1 Writeback s (wrote P A s d2 buffer content) (left P A s d3 carried) (replacing P A s) (drop 2 (to_replace content)) (λ own known. replacing_leads P A s d2 buffer cache2 origin0 room content own) (λ own n. ((refl, refl), half_replaced own)) (
      stretch P A 1 Writeback s (left P A s d3 carried) (served P A s d4 carried) (flush P A s d3 carried cache2 origin3) (drop 3 (to_replace content)) (flush_leads P A s d3 carried cache2 origin3) (λ own n. ((refl, refl), (refl, refl), refl)) (
      stretch P A 1 Writeback s (served P A s d4 carried) (begun P A s d4 carried) (answering P A s) (drop 4 (to_replace content)) (λ own known. answering_leads P A s d4 carried cache4 origin4 own) (λ own n. (refl, (refl, refl))) (
      stretch P A 1 Writeback s (begun P A s d4 carried) (followed_there P A s (record d4 { cache = written_each d4.cache 0 (contents_at d4.origin next_whole) }) (contents_at d4.origin next_whole)) (following P A s) (drop 5 (to_replace content)) (λ own known. following_leads P A s d4 carried cache4 origin4 own)
      (λ own n. ((refl, refl), (refl, refl), sync_gives d3.origin content goes_home, refl, nowhere 0 1 f.sizes.k, refl))
      (done P A 1 Writeback s (followed_there P A s (record d4 { cache = written_each d4.cache 0 (contents_at d4.origin next_whole) }) (contents_at d4.origin next_whole))))))))

  abbrev to_refuse : Scene P
  to_refuse = record (left P A s d3 carried) { task = refused P A s d3 carried (Desk (ReleaseOrder first_block) ∷ []) }

  pub gives_up_all : Whole P A 1 Writeback f (to_give_up (shape1 P A s))
  gives_up_all =
      let giving : Move P A = Does Done (Asks (given_up P 1 Writeback s)) in
      whole_run (to_give_up (shape1 P A s)) (comes_unseen (to_give_up (shape1 P A s)) (
      stretch P A 1 Writeback s (wrote P A s d2 buffer content) (left P A s d3 carried) (replacing P A s) (to_give_up (shape1 P A s)) (λ own known. replacing_leads P A s d2 buffer cache2 origin0 room content own) (λ own n. half_replaced own) (
      stretch P A 1 Writeback s (left P A s d3 carried) to_refuse (refusing P A s) (drop 1 (to_give_up (shape1 P A s))) (λ own known. refusing_leads P A s d3 carried cache2 origin3 own)
      (λ own n. ((refl, refl), ((refl, refl), refl, lives P 1 Writeback s), (happens s.global (state P A s to_refuse own) giving, may_move s.global (shape1 P A s) (state P A s to_refuse own) giving (refl, refl, gives_up P 1 Writeback s), ((refl, refl), (refl, refl), refl, refl))))
      (done P A 1 Writeback s to_refuse))))

  abbrev kept : Scene P
  kept = failed P A s (record d2 { origin = written_where (lands Origin nothing_lands) d2.origin 0 carried }) carried None

  pub starts_again : Whole P A 1 Writeback f (to_start_again (shape1 P A s))
  starts_again =
      let again : Move P A = Gets replaces (Cut (whole ∷ [])) in
      whole_run (to_start_again (shape1 P A s)) (comes_unseen (to_start_again (shape1 P A s)) (
      stretch P A 1 Writeback s (wrote P A s d2 buffer content) kept (failing P A s) (to_start_again (shape1 P A s)) (λ own known. failing_leads P A s d2 buffer cache2 origin0 room content own)
      (λ own n. (refl, (refl, refl), (happens s.global (state P A s kept own) again, may_move s.global (shape1 P A s) (state P A s kept own) again (s.idle, (uncut whole (omega arith), (first_cache_block, (0, omega arith, refl), refl))), (refl, (refl, refl)))))
      (done P A 1 Writeback s kept)))

pub can_write_back : (P A : Type 0) → CanWriteBack P A
can_write_back P A content = small_can P A 1 128 Writeback (λ e. cc) (λ shape. to_write_back content) (λ f room. writes_back P A f room content)

pub can_replace : (P A : Type 0) → CanReplace P A
can_replace P A content = small_can P A 1 128 Writeback (λ e. cc) (λ shape. to_replace content) (λ f room. replaces_all P A f room content)

pub can_give_up : (P A : Type 0) → CanGiveUp P A
can_give_up P A = small_can P A 1 128 Writeback (λ e. cc) to_give_up (λ f room. gives_up_all P A f room [])

pub can_start_again : (P A : Type 0) → CanStartAgain P A
can_start_again P A = small_can P A 1 128 Writeback (λ e. cc) to_start_again (λ f room. starts_again P A f room [])
