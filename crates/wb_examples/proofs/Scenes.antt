-- Where a run is in which the first actor alone is at work over a small shape, how its stretches are put together, and that an opening leads there.
use Rattle.std.proofs.Common.{Global, IsPermutation, ◌≡◌, ◌≢◌, ◌∙◌, ◌≤◌, ◌*◌, ◌+◌, ℕ, zero, suc, Bool, List, [], ◌∷◌, Option, Some, None, refl, sym, ap, subst, arith, length, replicate, is_some}
use Rattle.std.specs.List.{count_by}
use Rattle.std.proofs.lemmas.List.{append-nil, length-map, length-replicate}
use Rattle.std.proofs.lemmas.List.Elements.{All-cons, All-nil}
use Rattle.std.proofs.lemmas.List.Sorted.{IsPermutation-refl}
use Rattle.wb_types.specs.Limits.{HasRoom, IsWithinLimits}
use Rattle.wb_types.specs.declared.entry.Entry.{Entry}
use Rattle.wb_types.specs.declared.extent.Extent.{Extent}
use Rattle.wb_types.specs.declared.geometry.Geometry.{Geometry}
use Rattle.wb_types.specs.Extents.{IsCutInto, sectors_in}
use Rattle.wb_types.specs.declared.mode.Dev.TheVariants.{Origin}
use Rattle.wb_types.specs.declared.mode.Mode.{Mode}
use Rattle.wb_types.specs.declared.mode.Mode.TheVariants.{Writeback, Passthrough}
use Rattle.wb_types.specs.declared.version.Version.{Version}
use Rattle.wb_types.specs.declared.version.Version.TheVariants.{One, Two}
use Rattle.wb_disk.specs.Device.{Content as Bytes, History, only, newest}
use Rattle.wb_disk.specs.Memory.{blank}
use Rattle.wb_disk.specs.Crash.{Choice}
use Rattle.wb_disk.specs.Failing.{MayFail}
use Rattle.wb_disk.specs.declared.crash_choice.Base.TheVariants.{Durable}
use Rattle.wb_words.specs.SharedWords.{Words, fresh_words}
use Rattle.wb_words.specs.Cards.{blank_card}
use Rattle.wb_words.specs.declared.card.Card.{Card}
use Rattle.wb_tree.specs.Mapping.{empty_mapping}
use Rattle.wb_types.specs.Versions.{version_number}
use Rattle.wb_meta.specs.Formats.{IsFormatted}
use Rattle.wb_policy.specs.declared.order.Order.{Order}
use Rattle.wb_desk.specs.Desks.{DeskState}
use Rattle.wb_desk.specs.Opening.{opened as opened_desk}
use Rattle.wb_tasks.specs.Plan.{Plan}
use Rattle.wb_tasks.specs.Tables.{TaskJob}
use Rattle.wb_tasks.specs.declared.step.Answer.TheVariants.{Done as Finished}
use Rattle.wb_devices.specs.declared.devices.Devices.{Devices}
use Rattle.wb_stage.specs.declared.share.Share.TheVariants.{Nothing as Unshared}
use Rattle.wb_stage.specs.declared.share.Share.{Share}
use Rattle.wb_promise.specs.declared.job.Job.{Job}
use Rattle.wb_promise.specs.States.{Shape, State, Actor, Stands, resting, start}
use Rattle.wb_promise.specs.Happenings.{Happening}
use Rattle.wb_promise.specs.Effects.{all_resting}
use Rattle.wb_promise.specs.Clerk.{Notes, formatted}
use Rattle.wb_promise.specs.Headline.{noted}
use Rattle.wb_examples.specs.Possible.{PassesThrough, CanPass, IsSmall, IsSmallest}
use Rattle.wb_runs.proofs.MetadataRuns.{IsKnown, known_always}
use Rattle.wb_examples.proofs.Playing.{Move, played, ends, resting_idle, MayGo, goes_on}
use Rattle.wb_examples.proofs.Opening.{write_back_starts, Down, down, opening, opening_may, opened, opened_is, none_then, rooted_size, known as opened_known}
use Rattle.wb_examples.proofs.Desks.{Sizes, geometry_of, shape_of, Setting, shape, desk}
use Rattle.wb_examples.proofs.Runs.{along, stretched, can_pass, first_down}

-- ---- what is cut, and what fails

pub uncut : (e : Extent) → 1 ≤ e.count → IsCutInto e (e ∷ [])
uncut e some = record { each_once = subst (λ (xs : List ℕ). IsPermutation (sectors_in e) xs) (sym (append-nil (sectors_in e))) (IsPermutation-refl (sectors_in e)); none_empty = All-cons (λ (x : Extent). 1 ≤ x.count) e [] some (All-nil (λ (x : Extent). 1 ≤ x.count)) }

-- a choice by which nothing lands of a step that fails, and a crash keeps what is durable
abbrev pub nothing_lands : Choice
nothing_lands = record { base = Durable; named = [] }

pub may_fail : (sectors : ℕ) → MayFail Origin nothing_lands sectors
may_fail sectors = record { here = All-nil _; inside = All-nil _; two = All-nil _ }

abbrev pub whole : Extent
whole = record { first = 0; count = 64 }

abbrev pub next_whole : Extent
next_whole = record { first = 64; count = 64 }

-- ---- where a run is

-- A target stands, the first actor is at this, and nobody else at anything.
pub record Scene (P : Type 0) : Type 0 where
  pub devices : Devices (List History)
  pub words : Words
  pub desk : DeskState P
  pub task : Option (Job × Plan)
  pub orders : List Order
  pub awaiting : List Order
  pub buffer : List Bytes

-- where nobody has orders, and nothing is in a buffer
abbrev pub plain : {P : Type 0} → (metadata cache origin : List History) → Words → DeskState P → Option (Job × Plan) → Scene P
plain metadata cache origin words desk task = record { devices = record { metadata = metadata; cache = cache; origin = origin }; words = words; desk = desk; task = task; orders = []; awaiting = []; buffer = [] }

-- nothing is left of a job but to answer it done
abbrev pub over : Job → TaskJob → Option (Job × Plan)
over job task = Some (job, record { job = task; steps = []; answer = Finished })

-- what an actor knows for itself: of the shared words, what it has seen in a suspend, and what it has of the commits of others
pub record Own : Type 0 where
  pub card : Card
  pub seen : List Bool
  pub share : Share

abbrev pub nothing_known : Own
nothing_known = record { card = blank_card; seen = []; share = Unshared }

abbrev own_in : List Actor → Own
own_in [] = nothing_known
own_in (x ∷ xs) = record { card = x.card; seen = x.seen; share = x.share }

module _ (P A : Type 0) (more : ℕ) (mode : Mode) (s : Setting P more mode) where
  open s use {global, rest}

  abbrev pub at : Scene P → Own → State P A
  at scene own = record {
    devices = scene.devices;
    commit = None;
    phase = Stands (record { words = scene.words; desk = scene.desk });
    actors = record { task = scene.task; card = own.card; orders = scene.orders; awaiting = scene.awaiting; buffer = scene.buffer; seen = own.seen; share = own.share } ∷ rest;
  }

  -- it leads there, but for what its actor knows then
  pub record Leads (w : State P A) (moves : List (Move P A)) (to : Scene P) : Type 0 where
    pub may : MayGo global (shape P more mode s) w moves
    pub own : Own
    pub is : ends global (shape P more mode s) w moves ≡ at to own

  pub goes_to : (w : State P A) (moves : List (Move P A)) (to : Scene P) → MayGo global (shape P more mode s) w moves → ends global (shape P more mode s) w moves ≡ at to (own_in (ends global (shape P more mode s) w moves).actors) → Leads w moves to
  goes_to w moves to may is = record { may = may; own = own_in (ends global (shape P more mode s) w moves).actors; is = is }

  -- the first of these conditions, and the others
  abbrev pub First : List (State P A → Notes → Type 0) → State P A → Notes → Type 0
  First [] w n = Unit {0}
  First (Is ∷ conditions) w n = Is w n

  abbrev pub Later : List (State P A → Notes → Type 0) → List (State P A → Notes → Type 0)
  Later [] = []
  Later (Is ∷ conditions) = conditions

  -- what a run may pass through from there on, where this is noted, or whatever is
  abbrev pub FromNoted : Scene P → Notes → List (State P A → Notes → Type 0) → Type 0
  FromNoted scene n conditions = (own : Own) → IsKnown P A (shape P more mode s) (at scene own) → PassesThrough (shape P more mode s) (at scene own) n conditions

  abbrev pub From : Scene P → List (State P A → Notes → Type 0) → Type 0
  From scene conditions = (own : Own) → IsKnown P A (shape P more mode s) (at scene own) → (n : Notes) → PassesThrough (shape P more mode s) (at scene own) n conditions

  pub done : (scene : Scene P) → From scene []
  done scene own known n = tt

  known_then : (scene to : Scene P) (moves : List (Move P A)) (own : Own) (r : Leads (at scene own) moves to) → IsKnown P A (shape P more mode s) (at scene own) → IsKnown P A (shape P more mode s) (at to r.own)
  known_then scene to moves own r known =
      subst (λ (w : State P A). IsKnown P A (shape P more mode s) w) r.is (known_always P A (shape P more mode s) (at scene own) (played global (shape P more mode s) (at scene own) moves) known (goes_on global (shape P more mode s) (at scene own) moves r.may))

  -- a stretch, after which this is noted, and those behind it
  pub noted_stretch : (scene to : Scene P) (moves : List (Move P A)) (n m : Notes) (conditions : List (State P A → Notes → Type 0)) (own : Own) → IsKnown P A (shape P more mode s) (at scene own) → Leads (at scene own) moves to →
      noted (shape P more mode s) (at scene own) n (played global (shape P more mode s) (at scene own) moves) ≡ m → ((own : Own) → First conditions (at to own) m) → FromNoted to m (Later conditions) → PassesThrough (shape P more mode s) (at scene own) n conditions
  noted_stretch scene to moves n m [] own known r e is behind = tt
  noted_stretch scene to moves n m (Is ∷ conditions) own known r e is behind =
      stretched (shape P more mode s) (at scene own) (at to r.own) n m (played global (shape P more mode s) (at scene own) moves) Is conditions r.is e (goes_on global (shape P more mode s) (at scene own) moves r.may) (is r.own) (behind r.own (known_then scene to moves own r known))

  pub stretch : (scene to : Scene P) (moves : List (Move P A)) (conditions : List (State P A → Notes → Type 0)) → ((own : Own) → IsKnown P A (shape P more mode s) (at scene own) → Leads (at scene own) moves to) → ((own : Own) (n : Notes) → First conditions (at to own) n) → From to (Later conditions) →
      From scene conditions
  stretch scene to moves conditions leads is behind own known n =
      noted_stretch scene to moves n _ conditions own known (leads own known) refl (λ c. is c _) (λ c now. behind c now _)

  -- or one that the next condition takes in
  pub on : (scene to : Scene P) (moves : List (Move P A)) (conditions : List (State P A → Notes → Type 0)) → ((own : Own) → Leads (at scene own) moves to) → From to conditions → From scene conditions
  on scene to moves conditions leads behind own known n =
      let r = leads own in
      along (shape P more mode s) (at scene own) (at to r.own) n (played global (shape P more mode s) (at scene own) moves) conditions r.is (goes_on global (shape P more mode s) (at scene own) moves r.may) (behind r.own (known_then scene to moves own r known) _)

  abbrev pub opened_scene : Devices (List History) → Scene P
  opened_scene devices = record { devices = devices; words = fresh_words (suc more); desk = desk P more mode s; task = None; orders = []; awaiting = []; buffer = [] }

-- ---- what an opening leads to

-- formatted metadata for such a shape, and what an opening over them in this mode wants
pub record Formatted (P A : Type 0) (more : ℕ) (mode : Mode) : Type 0 where
  pub writes : mode ≢ Passthrough
  pub policy : P
  pub alloc : A
  pub global : Global
  pub sizes : Sizes more
  pub metadata : List History
  pub is_formatted : IsFormatted (geometry_of more sizes) metadata
  pub size : length metadata ≡ sizes.meta_sectors

module _ (P A : Type 0) (more : ℕ) (mode : Mode) (f : Formatted P A more mode) where
  open f use {global, sizes.{k, others}}

  abbrev pub down_at : Down P A
  down_at = first_down P A mode f.writes f.policy f.alloc global (geometry_of more f.sizes) f.sizes.threshold others f.metadata f.is_formatted f.size

  abbrev pub setting : Setting P more mode
  setting = record {
    writes = f.writes;
    global = global;
    sizes = f.sizes;
    policy = f.policy;
    generation = (none_then P A down_at).root.generation + 1;
    later = omega (arith, f.is_formatted.first.generation);
    rest = all_resting (replicate others resting);
    idle = resting_idle (replicate others resting);
  }

  abbrev pub shape_at : Shape
  shape_at = shape_of more f.sizes

  abbrev pub devices : Devices (List History)
  devices = (opened P A down_at).devices

  pub devices_size : length devices.metadata ≡ f.sizes.meta_sectors
  devices_size = rooted_size P A down_at

  pub cache_size : 64 ≤ length devices.cache
  cache_size = omega (arith, length-map down_at.cache (λ (h : History). only (newest h)), length-replicate (64 * suc k) blank)

  pub origin_size : length devices.origin ≡ 64 * suc more
  origin_size = length-map down_at.origin (λ (h : History). only (newest h)) ∙ length-replicate (64 * suc more) blank

  abbrev pub opened_at : State P A
  opened_at = at P A more mode setting (opened_scene P A more mode setting devices) nothing_known

  opened_there : opened P A down_at ≡ opened_at
  opened_there = ap (λ (g : Geometry). record opened_at {
    phase = Stands (record { words = fresh_words (suc more); desk = opened_desk g setting.generation (empty_mapping g.cache_blocks) [] mode f.policy f.sizes.threshold (count_by is_some (replicate {A = Option Entry} g.cache_blocks None)) });
  }) (none_then P A down_at).geometry_is

  pub known_at : IsKnown P A shape_at opened_at
  known_at = subst (λ (w : State P A). IsKnown P A shape_at w) opened_there (opened_known P A down_at)

  abbrev pub opening_run : List (Happening P A)
  opening_run = played global shape_at (down P A down_at) (opening P A down_at)

  abbrev pub Whole : List (State P A → Notes → Type 0) → Type 0
  Whole conditions = PassesThrough shape_at (start shape_at f.metadata) (formatted shape_at) conditions

  -- what goes on from there is a run from formatted metadata on
  pub from_opened : (conditions : List (State P A → Notes → Type 0)) → ((n : Notes) → n ≡ noted shape_at (down P A down_at) (formatted shape_at) opening_run → PassesThrough shape_at opened_at n conditions) → Whole conditions
  from_opened conditions passes = along shape_at (down P A down_at) opened_at (formatted shape_at) opening_run conditions (opened_is P A down_at ∙ opened_there) (goes_on global shape_at (down P A down_at) (opening P A down_at) (opening_may P A down_at)) (passes _ refl)

-- the second version is not the first
not_first : One ≡ Two → ⊥
not_first same = let numbers : version_number One ≡ version_number Two = ap version_number same in omega (arith, numbers)

-- what is claimed of these sizes
abbrev Claim : (P A : Type 0) → (Shape → List (State P A → Notes → Type 0)) → (b c o m : ℕ) (v : Version) → IsWithinLimits b c o m → HasRoom v c m → (threshold others : ℕ) → List History → Type 0
Claim P A conditions b c o m v w r threshold others metadata = let geometry : Geometry = record { block = b; cache_blocks = c; origin_blocks = o; meta_sectors = m; version = v; within = w; room = r } in
    let shape : Shape = record { geometry = geometry; threshold = threshold; actors = suc others } in
    IsFormatted geometry metadata → length metadata ≡ m → PassesThrough shape (start shape metadata) (formatted shape) (conditions shape)

-- a small shape is one of such sizes
pub small_can : (P A : Type 0) (more asked : ℕ) (mode : Mode) (writes : mode ≢ Passthrough) (conditions : Shape → List (State P A → Notes → Type 0)) → ((f : Formatted P A more mode) → asked ≤ f.sizes.threshold → Whole P A more mode f (conditions (shape_of more f.sizes))) → CanPass P A (IsSmall (suc more) asked) conditions
small_can P A more asked mode writes conditions passes = can_pass P A (IsSmall (suc more) asked) conditions (λ shape suits. suits.actors) (λ policy alloc global g threshold others metadata suits is_formatted size.
    by_sizes policy alloc global g.block g.cache_blocks g.origin_blocks g.meta_sectors g.version g.within g.room threshold others metadata suits.first suits.block suits.origin suits.room is_formatted size)
  where
    by_cache : (policy : P) (alloc : A) (global : Global) (c m : ℕ) (v : Version) (w : IsWithinLimits 64 c (suc more) m) (r : HasRoom v c m) (threshold others : ℕ) (metadata : List History) → v ≡ One → asked ≤ threshold → Claim P A conditions 64 c (suc more) m v w r threshold others metadata
    by_cache policy alloc global zero m v w r threshold others metadata first room is_formatted size = absurd (omega (arith, w.cache_from))
    by_cache policy alloc global (suc k) m One w r threshold others metadata first room is_formatted size =
        passes (record { writes = writes; policy = policy; alloc = alloc; global = global; sizes = record { k = k; meta_sectors = m; within = w; room = r; threshold = threshold; others = others }; metadata = metadata; is_formatted = is_formatted; size = size }) room
    by_cache policy alloc global (suc k) m Two w r threshold others metadata first room is_formatted size = absurd (not_first (sym first))

    by_sizes : (policy : P) (alloc : A) (global : Global) (b c o m : ℕ) (v : Version) (w : IsWithinLimits b c o m) (r : HasRoom v c m) (threshold others : ℕ) (metadata : List History) → v ≡ One → b ≡ 64 → o ≡ suc more → asked ≤ threshold → Claim P A conditions b c o m v w r threshold others metadata
    by_sizes policy alloc global b c o m v w r threshold others metadata first e f room =
        subst (λ (b : ℕ). (w : IsWithinLimits b c o m) → Claim P A conditions b c o m v w r threshold others metadata) (sym e)
        (subst (λ (o : ℕ). (w : IsWithinLimits 64 c o m) → Claim P A conditions 64 c o m v w r threshold others metadata) (sym f) (λ w. by_cache policy alloc global c m v w r threshold others metadata first room)) w

-- ---- a cache of one block

-- formatted metadata for the smallest cache over the smallest origin, and what an opening over them in write-back wants
pub record Tiny (P A : Type 0) : Type 0 where
  pub policy : P
  pub alloc : A
  pub global : Global
  pub meta_sectors : ℕ
  pub within : IsWithinLimits 64 1 1 meta_sectors
  pub room : HasRoom One 1 meta_sectors
  pub threshold : ℕ
  pub others : ℕ
  pub metadata : List History
  pub is_formatted : IsFormatted (record { block = 64; cache_blocks = 1; origin_blocks = 1; meta_sectors = meta_sectors; version = One; within = within; room = room }) metadata
  pub size : length metadata ≡ meta_sectors

abbrev pub formatted_of : {P A : Type 0} → Tiny P A → Formatted P A 0 Writeback
formatted_of t = record {
  writes = write_back_starts;
  policy = t.policy;
  alloc = t.alloc;
  global = t.global;
  sizes = record { k = 0; meta_sectors = t.meta_sectors; within = t.within; room = t.room; threshold = t.threshold; others = t.others };
  metadata = t.metadata;
  is_formatted = t.is_formatted;
  size = t.size;
}

-- the smallest shape is one of such sizes
pub tiny_can : (P A : Type 0) (asked : ℕ) (conditions : Shape → List (State P A → Notes → Type 0)) → ((t : Tiny P A) → asked ≤ t.threshold → Whole P A 0 Writeback (formatted_of t) (conditions (shape_of 0 (formatted_of t).sizes))) → CanPass P A (IsSmallest asked) conditions
tiny_can P A asked conditions passes = can_pass P A (IsSmallest asked) conditions (λ shape suits. suits.small.actors) (λ policy alloc global g threshold others metadata suits is_formatted size.
    by_sizes policy alloc global g.block g.cache_blocks g.origin_blocks g.meta_sectors g.version g.within g.room threshold others metadata suits.small.first suits.small.block suits.cache suits.small.origin suits.small.room is_formatted size)
  where
    by_version : (policy : P) (alloc : A) (global : Global) (m : ℕ) (v : Version) (w : IsWithinLimits 64 1 1 m) (r : HasRoom v 1 m) (threshold others : ℕ) (metadata : List History) → v ≡ One → asked ≤ threshold → Claim P A conditions 64 1 1 m v w r threshold others metadata
    by_version policy alloc global m One w r threshold others metadata first room is_formatted size =
        passes (record { policy = policy; alloc = alloc; global = global; meta_sectors = m; within = w; room = r; threshold = threshold; others = others; metadata = metadata; is_formatted = is_formatted; size = size }) room
    by_version policy alloc global m Two w r threshold others metadata first room is_formatted size = absurd (not_first (sym first))

    by_sizes : (policy : P) (alloc : A) (global : Global) (b c o m : ℕ) (v : Version) (w : IsWithinLimits b c o m) (r : HasRoom v c m) (threshold others : ℕ) (metadata : List History) → v ≡ One → b ≡ 64 → c ≡ 1 → o ≡ 1 → asked ≤ threshold → Claim P A conditions b c o m v w r threshold others metadata
    by_sizes policy alloc global b c o m v w r threshold others metadata first e h f room =
        subst (λ (b : ℕ). (w : IsWithinLimits b c o m) (r : HasRoom v c m) → Claim P A conditions b c o m v w r threshold others metadata) (sym e)
        (subst (λ (c : ℕ). (w : IsWithinLimits 64 c o m) (r : HasRoom v c m) → Claim P A conditions 64 c o m v w r threshold others metadata) (sym h)
        (subst (λ (o : ℕ). (w : IsWithinLimits 64 1 o m) (r : HasRoom v 1 m) → Claim P A conditions 64 1 o m v w r threshold others metadata) (sym f) (λ w r. by_version policy alloc global m v w r threshold others metadata first room))) w r
