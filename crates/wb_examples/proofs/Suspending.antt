-- Runs over the smallest cache in which a block that is dirty, or clean, is stored so by a suspend, and an opening behind it takes it so.
use Rattle.std.proofs.Common.{◌≡◌, ◌∙◌, ◌≤◌, ◌+◌, ◌-◌, inl, inr, ℕ, zero, suc, Bool, true, false, List, [], ◌∷◌, Option, Some, None, refl, sym, ap, subst, arith, length, map, slice_get}
use Rattle.std.specs.Prelude.{Contains, drop, option_map, unwrap_or}
use Rattle.std.proofs.lemmas.Option.{slice_get-map}
use Rattle.std.specs.Int.Bits.{bit_or, or_zero_l}
use Rattle.std.proofs.lemmas.List.{length-map}
use Rattle.wb_types.proofs.Lists.{Contains-first, Contains-one}
use Rattle.wb_types.specs.declared.mode.Mode.{Mode}
use Rattle.wb_types.specs.declared.mode.Mode.TheVariants.{Writeback, Passthrough}
use Rattle.wb_types.specs.declared.mode.Dev.TheVariants.{Metadata}
use Rattle.wb_types.specs.declared.number.OBlock.{OBlock}
use Rattle.wb_disk.specs.Device.{Content as Bytes, History, newest, only, synced, written}
use Rattle.wb_disk.specs.Memory.{blank}
use Rattle.wb_disk.proofs.Leaving.{newest-synced, read-left}
use Rattle.wb_disk.proofs.Lengths.{length_grown, length_written_where}
use Rattle.wb_format.specs.declared.root.Root.{Root}
use Rattle.wb_tree.specs.Images.{Stores}
use Rattle.wb_tree.specs.Reading.{IsNewestRoot}
use Rattle.wb_meta.specs.Steps.{slot_of}
use Rattle.wb_meta.specs.Slots.{IsInSlot}
use Rattle.wb_meta.specs.declared.commit_steps.CommitSteps.TheVariants.{NodesWritten, NodesSynced, RootWritten}
use Rattle.wb_meta.specs.declared.read_steps.ReadSteps.TheVariants.{Begun, FirstSlotRead, RootFound, Done as AllRead}
use Rattle.wb_policy.specs.Law.{IsMappedAt}
use Rattle.wb_words.specs.SharedWords.{Words}
use Rattle.wb_desk.specs.Desks.{DeskState, DeskInvariant, holdings}
use Rattle.wb_desk.specs.Commits.{MayBegin, commit_begun}
use Rattle.wb_stage.specs.Asking.{ended}
use Rattle.wb_tasks.specs.Plan.{Plan}
use Rattle.wb_tasks.specs.declared.step.DeviceStep.TheVariants.{Sync, WriteNode, WriteRoot}
use Rattle.wb_tasks.specs.declared.step.Got.TheVariants.{Done, More, Began}
use Rattle.wb_devices.specs.declared.devices.Devices.{Devices}
use Rattle.wb_devices.specs.declared.running.RunningCommit.{RunningCommit}
use Rattle.wb_devices.specs.Committing.{goes_on as leads_on}
use Rattle.wb_promise.specs.declared.job.Job.{Job}
use Rattle.wb_promise.specs.declared.job.Job.TheVariants.{Write, Suspend, Open}
use Rattle.wb_promise.specs.States.{Shape, State}
use Rattle.wb_promise.specs.Happenings.{Plain, Cut, Looks, Begins, Reaches, Puts, Commits, Opened, AreMapped, DoesPut, task_job}
use Rattle.wb_promise.specs.Effects.{contents_at, IsRun}
use Rattle.wb_promise.specs.Clerk.{Notes}
use Rattle.wb_promise.specs.Headline.{noted}
use Rattle.wb_runs.proofs.Metadata.{Quiet, unknowing}
use Rattle.wb_runs.proofs.MetadataRuns.{IsKnown}
use Rattle.wb_runs.proofs.Readings.{first_read, some_slot}
use Rattle.wb_runs.proofs.Rooted.{rooted, comes_next, root_does}
use Rattle.wb_runs.proofs.Spelled.{node_spelling, spelled_node}
use Rattle.wb_runs.proofs.Spelling.{spelling}
use Rattle.wb_examples.specs.Possible.{PassesThrough, IsFloorAt, first_sector, first_block, to_suspend, to_stay_clean, CanSuspend, CanStayClean}
use Rattle.wb_examples.proofs.Playing.{Move, Gets, Moves, Does, AreIdle, goes, goes_on, played, ends, nobody_works, ◌⨟◌}
use Rattle.wb_examples.proofs.Scenes.{Scene, Own, nothing_known, Formatted, Tiny, formatted_of, tiny_can, at, over, Leads, goes_to, From, FromNoted, noted_stretch, stretch, opened_scene, devices, devices_size, cache_size, origin_size, known_at, opened_at, shape_at, from_opened, uncut, whole}
use Rattle.wb_examples.proofs.Runs.{along}
use Rattle.wb_examples.proofs.Blocks.{first_written, sync_gives, filled, came, promotes, promoting, promoting_leads}
use Rattle.wb_examples.proofs.Reopening.{root_there}
use Rattle.wb_examples.proofs.Surviving.{Others, notes, doing_at, noted_then, others_then}
use Rattle.wb_examples.proofs.Marking.{seen_entry, image, leaf_place, leaf_node, leaf_whole, stored_tree, none_changed, s, stood0, root, commit, begins}
use Rattle.wb_examples.proofs.Desks.{shape}
use Rattle.wb_examples.proofs.Completing.{room_for_first}
use Rattle.wb_examples.proofs.Rereading.{StandsOn, loader, stored, root_read, next_commit, all_read}

-- the first block is the one that is mapped
mapped : (P A : Type 0) (t : Tiny P A) → AreMapped (stood0 P A t) (first_block ∷ [])
mapped P A t = record { each = λ block c. subst (λ (b : OBlock). (cache : ℕ) × IsMappedAt (holdings (stood0 P A t)) b.0 cache) (sym (Contains-one first_block block c)) (0, refl); all = all }
  where
    all : (block : OBlock) (cache : ℕ) → IsMappedAt (holdings (stood0 P A t)) block.0 cache → Contains (first_block ∷ []) block
    all block zero e = let same : first_block ≡ block = (let number : 0 ≡ block.0 = cc in ap (λ (n : ℕ). record { 0 = n }) number) in subst (λ (b : OBlock). Contains (first_block ∷ []) b) same (Contains-first first_block [])
    all block (suc cache) e = absurd (cc)

module _ (P A : Type 0) (t : Tiny P A) (content : Bytes) (d0 : Devices (List History)) (cache_some : 64 ≤ length d0.cache) (origin_some : 64 ≤ length d0.origin) (metadata_size : length d0.metadata ≡ t.meta_sectors) where
  abbrev shape0 : Shape
  shape0 = shape_at P A 0 Writeback (formatted_of t)

  abbrev state : Scene P → Own → State P A
  state scene own = at P A 0 Writeback (s P A t) scene own

  abbrev pub opened0 : Scene P
  opened0 = opened_scene P A 0 Writeback (s P A t) d0

  abbrev pub came0 : Scene P
  came0 = came P A 0 Writeback (s P A t) d0

  -- ---- where the suspend begins: the block was written to, and is dirty, or has only come

  abbrev devices_at : Bool → Devices (List History)
  devices_at true = record (filled d0) { cache = written (filled d0).cache 0 content }
  devices_at false = filled d0

  -- its seal, and how often it was written to
  abbrev marks_at : Bool → ℕ × ℕ
  marks_at true = (3, 1)
  marks_at false = (2, 0)

  abbrev words_at : Bool → (fail : ℕ) → Words
  words_at dirty fail = record { cells = 0 ∷ []; seals = (marks_at dirty).0 ∷ []; numbers = (marks_at dirty).1 ∷ []; read_hits = 0; read_misses = 0; write_hits = (marks_at dirty).1; write_misses = 0; fail = fail }

  abbrev task_at : Bool → Option (Job × Plan)
  task_at true = over (Write first_sector content) (task_job shape0 Writeback [] (Write first_sector content) (first_sector ∷ []) [])
  task_at false = over promotes (task_job shape0 Writeback [] promotes (whole ∷ []) [])

  abbrev here : Devices (List History) → Words → DeskState P → Option (Job × Plan) → Scene P
  here d words desk task = record { devices = d; words = words; desk = desk; task = task; orders = []; awaiting = []; buffer = contents_at d0.origin whole }

  abbrev ready : Bool → Scene P
  ready dirty = here (devices_at dirty) (words_at dirty 0) (stood0 P A t) (task_at dirty)

  abbrev writing : List (Move P A)
  writing = goes 1 (Gets (Write first_sector content) (Cut (first_sector ∷ [])) ∷ goes 6 (Moves ∷ goes 3 []))

  filled_size : 64 ≤ length (filled d0).cache
  filled_size = omega (arith, length_written_where (λ at. true) d0.cache 0 (contents_at d0.origin whole), cache_some)

  writing_leads : (own : Own) → Leads P A 0 Writeback (s P A t) (state came0 own) writing (ready true)
  writing_leads own = goes_to P A 0 Writeback (s P A t) _ _ _ (((s P A t).idle, (refl, uncut first_sector (omega arith))) ⨟ (tt, omega (arith, filled_size)) ⨟ tt) refl

  may_begin : MayBegin (stood0 P A t)
  may_begin = record { idle = refl; next = omega (arith, (s P A t).later) }

  module _ (dirty : Bool) where
    -- ---- where it leads

    -- the metadata with the node, and then with the root
    abbrev noded : List History
    noded = written d0.metadata leaf_place.0 (node_spelling (leaf_node dirty ((s P A t).generation + 1)))

    abbrev rooted_there : List History
    rooted_there = written (synced noded) (slot_of (root P A t dirty)).0 (spelling (root P A t dirty))

    abbrev durable : Devices (List History)
    durable = record { metadata = synced rooted_there; cache = synced (devices_at dirty).cache; origin = synced (devices_at dirty).origin }

    abbrev desk_then : DeskState P
    desk_then = ended (commit_begun (stood0 P A t) (stored_tree dirty) (image P A t dirty))

    abbrev pub suspended : ℕ → Scene P
    suspended fail = here durable (words_at dirty fail) desk_then (over Suspend (task_job shape0 Writeback [] Suspend [] (first_block ∷ [])))

    abbrev pub suspending : DeskInvariant unknowing (stood0 P A t) → List (Move P A)
    suspending kept =
        goes 1 (Gets Suspend (Looks (first_block ∷ []))
        ∷ goes 2 (Does (Began 1) (Commits (commit P A t dirty kept) (stored_tree dirty))
        ∷ goes 2 (Does Done (Puts noded)
        ∷ Does Done Plain
        ∷ Does Done (Puts rooted_there)
        ∷ Does Done Plain
        ∷ Does Done Plain
        ∷ goes 1 [])))

    node_size : length noded ≡ t.meta_sectors
    node_size = length_grown (slice_get d0.metadata leaf_place.0) d0.metadata leaf_place.0 _ ∙ metadata_size

    synced_size : length (synced noded) ≡ t.meta_sectors
    synced_size = length-map noded _ ∙ node_size

    root_size : length rooted_there ≡ t.meta_sectors
    root_size = length_grown (slice_get (synced noded) (slot_of (root P A t dirty)).0) (synced noded) (slot_of (root P A t dirty)).0 _ ∙ synced_size

    -- ---- that its commit can be done

    module _ (kept : DeskInvariant unknowing (stood0 P A t)) where
      abbrev c : RunningCommit
      c = commit P A t dirty kept

      puts_node : DoesPut {P = P} {A = A} (Some c) (WriteNode 0) d0.metadata (Puts noded)
      puts_node = (
        comes_next c d0.metadata (NodesWritten 0) (WriteNode 0) metadata_size refl refl,
        record { content = node_spelling (leaf_node dirty ((s P A t).generation + 1)); spelled = spelled_node (leaf_node dirty ((s P A t).generation + 1)) (leaf_whole dirty ((s P A t).generation + 1) may_begin.next); wrote = refl },
      )

      syncs_node : leads_on (length noded) (image P A t dirty) (NodesWritten 1) (Sync Metadata) ≡ true
      syncs_node = comes_next (record c { steps = NodesWritten 1 }) noded (NodesWritten 1) (Sync Metadata) node_size refl refl

      puts_root : DoesPut {P = P} {A = A} (Some (record c { steps = NodesSynced })) WriteRoot (synced noded) (Puts rooted_there)
      puts_root = (comes_next (record c { steps = NodesSynced }) (synced noded) NodesSynced WriteRoot synced_size refl refl, root_does (record c { steps = NodesSynced }) (synced noded) may_begin.next refl)

      syncs_root : leads_on (length rooted_there) (image P A t dirty) RootWritten (Sync Metadata) ≡ true
      syncs_root = comes_next (record c { steps = RootWritten }) rooted_there RootWritten (Sync Metadata) root_size refl refl

    -- ---- an opening behind it

    abbrev pub starting : Mode → List (Move P A)
    starting mode = goes 1 (Gets (Open mode false) Plain ∷ [])

    module _ (own : Own) (known : IsKnown P A shape0 (state (suspended 2) own)) where
      abbrev settled : State P A
      settled = state (suspended 2) own

      abbrev pub started : Mode → State P A
      started mode = ends t.global shape0 settled (starting mode)

      pub starts : (mode : Mode) → IsRun shape0 settled (played t.global shape0 settled (starting mode))
      starts mode = goes_on t.global shape0 settled (starting mode) (((s P A t).idle, room_for_first shape0.geometry) ⨟ tt)

      quiet : Quiet shape0.geometry known.images desk_then durable.metadata
      quiet = elim known.known.stands [ inl q ↦ q | inr broken ↦ absurd (let busy = broken.busy in cc) ]

      newest_then : IsNewestRoot (map newest durable.metadata) quiet.stored.root
      newest_then = (quiet.stores.represents (map newest durable.metadata) (read-left durable.metadata)).newest

      root_is : quiet.stored.root ≡ root P A t dirty
      root_is = root_there noded (root P A t dirty) quiet.stored.root (omega (arith, node_size, t.within.meta_from)) may_begin.next (sym quiet.generation) newest_then

      -- the metadata once the opening has synced them
      abbrev pub read : List History
      read = synced durable.metadata

      read_size : length read ≡ t.meta_sectors
      read_size = length-map durable.metadata _ ∙ length-map rooted_there _ ∙ root_size

      pub on : StandsOn P A t dirty read
      on = record {
        size = read_size;
        newest_root = subst (λ (ss : List Bytes). IsNewestRoot ss (root P A t dirty)) (sym (newest-synced durable.metadata)) (subst (λ (r : Root). IsNewestRoot (map newest durable.metadata) r) root_is newest_then);
        stores = subst (λ (ss : List Bytes). Stores ss (stored_tree dirty) (root P A t dirty).generation) (sym (newest-synced durable.metadata))
            (subst (λ (r : Root). Stores (map newest durable.metadata) (stored_tree dirty) r.generation) root_is (quiet.stores.stores (map newest durable.metadata) (read-left durable.metadata)));
        sound = known.known.is.sound;
        inside = known.known.is.kept.places.inside;
        none_changed = none_changed dirty;
        more = omega (arith, (s P A t).later);
      }

      abbrev next : RunningCommit
      next = next_commit P A t dirty read on

      pub slot : (first : Option Root) × IsInSlot (map newest read) 0 first
      slot = some_slot P A Writeback shape0.geometry false read (omega (arith, read_size, t.within.meta_from))

      abbrev pub opening : List (Move P A)
      opening =
          Does Done (Begins (Begun t.alloc t.global))
          ∷ goes 2 (Does More (Reaches (Some (FirstSlotRead t.alloc t.global slot.0)) None)
          ∷ Does More (Reaches (Some (RootFound t.global (root P A t dirty) (loader P A t dirty read on) 0)) None)
          ∷ Does Done (Reaches (Some (AllRead (stored P A t dirty read on))) (Some next))
          ∷ Does Done (Puts (rooted next read))
          ∷ Does Done Plain
          ∷ Does Done (Opened t.policy)
          ∷ [])

      pub fits_then : length (rooted next read) ≡ t.meta_sectors
      fits_then = length_grown (slice_get read (slot_of next.image.root).0) read (slot_of next.image.root).0 _ ∙ read_size

      -- in passthrough only where the block is clean
      pub opens : (mode : Mode) → (mode ≡ Passthrough → dirty ≡ false) → IsRun shape0 (started mode) (played t.global shape0 (started mode) opening)
      opens mode clean = goes_on t.global shape0 (started mode) opening (
          (refl, refl, refl)
          ⨟ (refl, refl, first_read P A mode shape0.geometry false read t.alloc t.global t.meta_sectors slot.0 slot.1 (omega (arith, t.within.meta_from)))
          ⨟ (refl, refl, root_read P A t dirty read on mode (t.meta_sectors - 1) t.alloc t.global slot.0 slot.1 (omega (arith, t.within.meta_from)))
          ⨟ (refl, refl, all_read P A t dirty read on mode clean (t.meta_sectors - 1 - 1) t.global)
          ⨟ (refl, refl, (comes_next next read NodesSynced WriteRoot read_size refl refl, root_does next read on.more refl))
          ⨟ (refl, refl, (comes_next (record next { steps = RootWritten }) (rooted next read) RootWritten (Sync Metadata) fits_then refl refl, refl))
          ⨟ (refl, refl, (tt, refl))
          ⨟ tt)

  -- ---- the suspend

  all_idle : (own : Own) → AreIdle (record { task = None; card = own.card; orders = []; awaiting = []; buffer = contents_at d0.origin whole; seen = own.seen; share = own.share } ∷ (s P A t).rest)
  all_idle own = nobody_works (record { task = None; card = own.card; orders = []; awaiting = []; buffer = contents_at d0.origin whole; seen = own.seen; share = own.share } ∷ (s P A t).rest) refl (s P A t).idle

  pub suspending_leads : (dirty : Bool) (own : Own) (known : IsKnown P A shape0 (state (ready dirty) own)) → Leads P A 0 Writeback (s P A t) (state (ready dirty) own) (suspending dirty known.known.is.kept) (suspended dirty (bit_or 0 2))
  suspending_leads true own known =
      let kept = known.known.is.kept in
      goes_to P A 0 Writeback (s P A t) _ _ _ (((s P A t).idle, (all_idle own, mapped P A t)) ⨟ (refl, begins P A t true kept may_begin) ⨟ (refl, refl, puts_node true kept) ⨟ (refl, refl, (syncs_node true kept, refl)) ⨟ (refl, refl, puts_root true kept) ⨟ (refl, refl, (syncs_root true kept, refl)) ⨟ ((refl, refl), refl, refl) ⨟ tt) refl
  suspending_leads false own known =
      let kept = known.known.is.kept in
      goes_to P A 0 Writeback (s P A t) _ _ _ (((s P A t).idle, (all_idle own, mapped P A t)) ⨟ (refl, begins P A t false kept may_begin) ⨟ (refl, refl, puts_node false kept) ⨟ (refl, refl, (syncs_node false kept, refl)) ⨟ (refl, refl, puts_root false kept) ⨟ (refl, refl, (syncs_root false kept, refl)) ⨟ ((refl, refl), refl, refl) ⨟ tt) refl

  -- ---- the last stretches

  shows : slice_get (map newest (synced (synced (devices_at true).cache))) 0 ≡ Some content
  shows =
      let gives = sync_gives (synced (devices_at true).cache) content (sync_gives (devices_at true).cache content (first_written (filled d0).cache content (omega (arith, filled_size)))) in
      slice_get-map newest (synced (synced (devices_at true).cache)) 0 ∙ ap (λ (o : Option History). option_map newest o) gives.1 ∙ ap (λ (c : Bytes). Some c) gives.2

  pub dirty_end : (own : Own) (known : IsKnown P A shape0 (state (suspended true 2) own)) (n : Notes) → IsFloorAt 1 (noted shape0 (state (suspended true 2) own) n (played t.global shape0 (state (suspended true 2) own) (starting true Writeback))) →
      PassesThrough shape0 (state (suspended true 2) own) n (drop 3 (to_suspend shape0 content))
  dirty_end own known n floor = (
    played t.global shape0 (state (suspended true 2) own) (starting true Writeback),
    starts true own known Writeback,
    (refl, floor),
    (played t.global shape0 (started true own known Writeback) (opening true own known), opens true own known Writeback (λ e. absurd (cc)), (refl, refl, ap (λ (o : Option Bytes). Some (unwrap_or o [])) shows), tt),
  )

  pub clean_end : (own : Own) (known : IsKnown P A shape0 (state (suspended false 2) own)) (n : Notes) → PassesThrough shape0 (state (suspended false 2) own) n (drop 2 to_stay_clean)
  clean_end own known n = along shape0 (state (suspended false 2) own) (started false own known Writeback) n (played t.global shape0 (state (suspended false 2) own) (starting false Writeback)) (drop 2 to_stay_clean) refl (starts false own known Writeback)
      (played t.global shape0 (started false own known Writeback) (opening false own known), opens false own known Writeback (λ e. refl), (refl, refl), tt)

-- ---- the whole run with a block that is dirty, with what is noted

module _ (P A : Type 0) (t : Tiny P A) (room : 64 ≤ t.threshold) (content first : Bytes) (others : Others) (d : Devices (List History)) (cache_some : 64 ≤ length d.cache) (origin_some : 64 ≤ length d.origin) (metadata_size : length d.metadata ≡ t.meta_sectors) where
  abbrev conditions : List (State P A → Notes → Type 0)
  conditions = to_suspend (shape0 P A t content d cache_some origin_some metadata_size) content

  abbrev history : History
  history = record { first = first; later = content ∷ [] }

  abbrev n0 : Notes
  n0 = notes others (only first) 0 None

  abbrev n1 : Notes
  n1 = notes others (only first) 0 (doing_at others promotes [] [] 0)

  abbrev n2 : Notes
  n2 = notes others history 0 (doing_at others (Write first_sector content) [] (record { sector = 0; position = 1 } ∷ []) 0)

  abbrev n3 : Notes
  n3 = notes others history 1 (doing_at others Suspend [] [] 1)

  abbrev scene : ℕ → Scene P
  scene fail = suspended P A t content d cache_some origin_some metadata_size true fail

  passes : FromNoted P A 0 Writeback (s P A t) (opened0 P A t content d cache_some origin_some metadata_size) n0 conditions
  passes own0 known0 = noted_stretch P A 0 Writeback (s P A t) (opened0 P A t content d cache_some origin_some metadata_size) (came0 P A t content d cache_some origin_some metadata_size) (promoting P A 0 Writeback (s P A t)) n0 n1 conditions own0 known0
      (promoting_leads P A 0 Writeback (s P A t) d cache_some origin_some room own0) refl (λ own. ((refl, refl), refl, refl)) (λ own1 known1.
      noted_stretch P A 0 Writeback (s P A t) (came0 P A t content d cache_some origin_some metadata_size) (ready P A t content d cache_some origin_some metadata_size true) (writing P A t content d cache_some origin_some metadata_size) n1 n2 (drop 1 conditions) own1 known1 (writing_leads P A t content d cache_some origin_some metadata_size own1) refl
      (λ own. (((refl, refl), first_written (filled d).cache content (omega (arith, filled_size P A t content d cache_some origin_some metadata_size))), refl)) (λ own2 known2.
      noted_stretch P A 0 Writeback (s P A t) (ready P A t content d cache_some origin_some metadata_size true) (scene (bit_or 0 2)) (suspending P A t content d cache_some origin_some metadata_size true known2.known.is.kept) n2 n3 (drop 2 conditions) own2 known2 (suspending_leads P A t content d cache_some origin_some metadata_size true own2 known2) refl
      (λ own. ((refl, refl), (seen_entry true, refl, refl, refl), refl))
      (subst (λ (fail : ℕ). FromNoted P A 0 Writeback (s P A t) (scene fail) n3 (drop 3 conditions)) (sym (or_zero_l 2)) (λ own3 known3. dirty_end P A t content d cache_some origin_some metadata_size own3 known3 n3 refl))))

pub can_suspend : (P A : Type 0) → CanSuspend P A
can_suspend P A content = tiny_can P A 64 (λ shape. to_suspend shape content) (λ t room.
    let f : Formatted P A 0 Writeback = formatted_of t in
    from_opened P A 0 Writeback f (to_suspend (shape_at P A 0 Writeback f) content) (λ n e.
    subst (λ (m : Notes). PassesThrough (shape_at P A 0 Writeback f) (opened_at P A 0 Writeback f) m (to_suspend (shape_at P A 0 Writeback f) content)) (sym (e ∙ noted_then P A f))
    (passes P A t room content (newest blank) (others_then P A f) (devices P A 0 Writeback f) (cache_size P A 0 Writeback f) (omega (arith, origin_size P A 0 Writeback f)) (devices_size P A 0 Writeback f) nothing_known (known_at P A 0 Writeback f))))

-- ---- and with one that is clean

module _ (P A : Type 0) (t : Tiny P A) (room : 64 ≤ t.threshold) (d : Devices (List History)) (cache_some : 64 ≤ length d.cache) (origin_some : 64 ≤ length d.origin) (metadata_size : length d.metadata ≡ t.meta_sectors) where
  abbrev here_came : Scene P
  here_came = came0 P A t [] d cache_some origin_some metadata_size

  abbrev suspended_clean : ℕ → Scene P
  suspended_clean fail = suspended P A t [] d cache_some origin_some metadata_size false fail

  stays : From P A 0 Writeback (s P A t) here_came (drop 1 to_stay_clean)
  stays own known n =
      let moves = suspending P A t [] d cache_some origin_some metadata_size false known.known.is.kept in
      let m = noted (shape P 0 Writeback (s P A t)) (at P A 0 Writeback (s P A t) here_came own) n (played t.global (shape P 0 Writeback (s P A t)) (at P A 0 Writeback (s P A t) here_came own) moves) in
      noted_stretch P A 0 Writeback (s P A t) here_came (suspended_clean (bit_or 0 2)) moves n m (drop 1 to_stay_clean) own known (suspending_leads P A t [] d cache_some origin_some metadata_size false own known) refl (λ own. ((refl, refl), (seen_entry false, refl, refl, refl)))
      (subst (λ (fail : ℕ). FromNoted P A 0 Writeback (s P A t) (suspended_clean fail) m (drop 2 to_stay_clean)) (sym (or_zero_l 2)) (λ own known. clean_end P A t [] d cache_some origin_some metadata_size own known m))

  comes : From P A 0 Writeback (s P A t) (opened0 P A t [] d cache_some origin_some metadata_size) to_stay_clean
  comes = stretch P A 0 Writeback (s P A t) (opened0 P A t [] d cache_some origin_some metadata_size) here_came (promoting P A 0 Writeback (s P A t)) to_stay_clean
      (λ own known. promoting_leads P A 0 Writeback (s P A t) d cache_some origin_some room own) (λ own n. (((refl, refl), refl, refl), refl)) stays

pub can_stay_clean : (P A : Type 0) → CanStayClean P A
can_stay_clean P A = tiny_can P A 64 (λ shape. to_stay_clean) (λ t room.
    let f : Formatted P A 0 Writeback = formatted_of t in
    from_opened P A 0 Writeback f to_stay_clean (λ n e.
    comes P A t room (devices P A 0 Writeback f) (cache_size P A 0 Writeback f) (omega (arith, origin_size P A 0 Writeback f)) (devices_size P A 0 Writeback f) nothing_known (known_at P A 0 Writeback f) n))
