-- A flush or a suspend that is answered done leaves of each sector the last content alone.
use Rattle.std.proofs.Common.{◌⊎◌, inl, inr, ap, ◌∙◌, ◌≢◌, ◌≡◌, ◌==◌, ◌++◌, ℕ, zero, suc, ◌+◌, Bool, true, false, List, [], ◌∷◌, Option, if◌then◌else◌, refl, sym, subst}
use Rattle.std.proofs.lemmas.List.Elements.{All-map}
use Rattle.wb_types.specs.declared.mode.Dev.{Dev}
use Rattle.wb_types.specs.declared.mode.Dev.TheVariants.{Metadata, Cache, Origin}
use Rattle.wb_types.specs.declared.number.OBlock.{OBlock}
use Rattle.wb_types.specs.declared.refusal.Refusal.{Refusal}
use Rattle.wb_types.specs.declared.refusal.Refusal.TheVariants.{Busy, Failed, Memory, GenerationEnd, Io}
use Rattle.wb_disk.specs.Device.{History, Content as Bytes, newest, only, synced}
use Rattle.wb_words.specs.declared.word.Word.TheVariants.{Seal as SealWord, Fail}
use Rattle.wb_words.specs.declared.step.CellStep.TheVariants.{Look, SetSuspended}
use Rattle.wb_tasks.specs.Tables.{TaskJob, Flushing, Suspending}
use Rattle.wb_tasks.specs.Plan.{Plan, table, after, after_look, after_fault_of, device_of, failed_commit, refused, release_orders, seal_looks, node_writes, root_steps, commit_steps, Fits}
use Rattle.wb_tasks.specs.Run.{IsRunOf, Leads}
use Rattle.wb_tasks.specs.declared.step.DeviceStep.{DeviceStep}
use Rattle.wb_tasks.specs.declared.step.DeviceStep.TheVariants.{Sync, WriteNode, WriteRoot}
use Rattle.wb_tasks.specs.declared.step.DeskStep.TheVariants.{ReleaseOrder, Arrive, Ask, BeginCommit, EndCommit}
use Rattle.wb_tasks.specs.declared.step.Answer.{Answer}
use Rattle.wb_tasks.specs.declared.step.Answer.TheVariants.{Done as Finished}
use Rattle.wb_tasks.specs.declared.step.Want.{Want}
use Rattle.wb_tasks.specs.declared.step.Want.TheVariants.{Cell, Device, Desk}
use Rattle.wb_tasks.specs.declared.step.Got.{Got}
use Rattle.wb_tasks.specs.declared.step.Got.TheVariants.{Done, Word, Fault, Refused, Began, Ticket, Served}
use Rattle.wb_tasks.proofs.Driving.{no_result}
use Rattle.wb_devices.specs.Moving.{device_in}
use Rattle.wb_devices.specs.declared.devices.Devices.{Devices}
use Rattle.wb_port.specs.Moves.{IsSynced}
use Rattle.wb_port.proofs.Letting.{not_done}
use Rattle.wb_policy.specs.declared.order.Order.{Order}
use Rattle.wb_devices.specs.declared.running.RunningCommit.{RunningCommit}
use Rattle.wb_target.specs.Works.{DeskTold, PerformedWith, ShareTold, SharingState, AskedSharing, WorkState, WorkStep, WorksOn}
use Rattle.wb_target.proofs.Asking.{some_told, told_some}
use Rattle.wb_stage.specs.declared.share.Share.{Share}
use Rattle.wb_stage.specs.declared.share.Share.TheVariants.{Nothing as Unshared, Covered, Waiting}
use Rattle.wb_target.specs.Suspends.{AskedWith, SuspendState, SuspendStep}
use Rattle.wb_target.specs.Carried.{AreSynced, WasDoneWith}

pub synced_now : (histories : List History) → IsSynced (synced histories)
synced_now histories = All-map (λ (h : History). h.later ≡ []) (λ h. only (newest h)) histories (λ k d below. refl)

-- who gives orders up has been refused
orders_not_done : (s : Plan) (blocks : List OBlock) (x : Refusal) (steps : List (Want × Got)) → IsRunOf (refused s (release_orders blocks) x) steps Finished → ⊥
orders_not_done s [] x steps h = not_done s [] x tt steps h
orders_not_done s (block ∷ blocks) x [] e = absurd (cc)
orders_not_done s (block ∷ blocks) x (step ∷ steps) h =
    let is : step.1 ≡ Done = released step.1 (subst (λ (w : Want). Fits w step.1) h.0 h.1) in
    orders_not_done s blocks x steps (subst (λ (g : Got). IsRunOf (after (refused s (release_orders (block ∷ blocks)) x) g) steps Finished) is h.2)
  where
    released : (g : Got) → Fits (Desk (ReleaseOrder block)) g → g ≡ Done
    released Done f = refl
    released g f = absurd f

-- what a commit does once it has begun
abbrev AreCommits : List Want → Type 0
AreCommits [] = Unit {0}
AreCommits (Device (Sync device) ∷ ws) = AreCommits ws
AreCommits (Device (WriteNode number) ∷ ws) = AreCommits ws
AreCommits (Device WriteRoot ∷ ws) = AreCommits ws
AreCommits (Desk EndCommit ∷ ws) = AreCommits ws
AreCommits (Cell SetSuspended ∷ ws) = AreCommits ws
AreCommits (w ∷ ws) = ⊥

nodes_commit : (nodes first : ℕ) → AreCommits (node_writes nodes first ++ root_steps)
nodes_commit zero first = tt
nodes_commit (suc nodes) first = nodes_commit nodes (first + 1)

nodes_commit_then : (nodes first : ℕ) (tail : List Want) → AreCommits tail → AreCommits ((node_writes nodes first ++ root_steps) ++ tail)
nodes_commit_then zero first tail c = c
nodes_commit_then (suc nodes) first tail c = nodes_commit_then nodes (first + 1) tail c

-- what comes once the root is durable
abbrev AreCalm : List Want → Type 0
AreCalm [] = Unit {0}
AreCalm (Desk EndCommit ∷ ws) = AreCalm ws
AreCalm (Cell SetSuspended ∷ ws) = AreCalm ws
AreCalm (w ∷ ws) = ⊥

split_nodes : (nodes first : ℕ) → node_writes nodes first ++ root_steps ≡ (node_writes nodes first ++ Device (Sync Metadata) ∷ Device WriteRoot ∷ []) ++ Device (Sync Metadata) ∷ Desk EndCommit ∷ []
split_nodes zero first = refl
split_nodes (suc nodes) first = let more = split_nodes nodes (first + 1) in cc

split_then : (nodes first : ℕ) (tail : List Want) → (node_writes nodes first ++ root_steps) ++ tail ≡ (node_writes nodes first ++ Device (Sync Metadata) ∷ Device WriteRoot ∷ []) ++ Device (Sync Metadata) ∷ Desk EndCommit ∷ tail
split_then zero first tail = refl
split_then (suc nodes) first tail = let more = split_then nodes (first + 1) tail in cc

-- A job that runs a commit by such steps, and breaks it once one has failed.
module _ {D S : Type 0} (tells : Type 0) (size : D → ℕ) (contents : D → List History) (faults : D → ℕ) (asked : S → DeskTold) (devices : S → Devices D) (buffer : S → List Bytes) (commit : S → Option RunningCommit) (led : S → Want → Got → S → Type 0)
    (does : (s : S) (w : Want) (g : Got) (t : S) → led s w g t → WorksOn tells size contents faults (asked s) (devices s) (buffer s) (commit s) w g (devices t) (buffer t) (commit t))
    (job : TaskJob) (breaks : (step : DeviceStep) → after_fault_of job step ≡ failed_commit) where
  abbrev going : List Want → Plan
  going ws = record { job = job; steps = ws; answer = Finished }

  abbrev Is : Dev → S → Type 0
  Is device s = tells → IsSynced (contents (device_in device (devices s)))

  broken : (step : DeviceStep) (ws : List Want) (rest : List (Want × Got)) → IsRunOf (after (going (Device step ∷ ws)) Fault) rest Finished → ⊥
  broken step ws rest r = not_done (going (Device step ∷ ws)) failed_commit (Io (device_of step)) tt rest (subst (λ (us : List Want). IsRunOf (refused (going (Device step ∷ ws)) us (Io (device_of step))) rest Finished) (breaks step) r)

  only_done : (w : Want) (ws : List Want) (g : Got) (rest : List (Want × Got)) → AreCommits (w ∷ ws) → Fits w g → IsRunOf (after (going (w ∷ ws)) g) rest Finished → (g ≡ Done) × AreCommits ws
  only_done (Device (Sync device)) ws Done rest c f r = (refl, c)
  only_done (Device (Sync device)) ws Fault rest c f r = absurd (broken (Sync device) ws rest r)
  only_done (Device (Sync device)) ws g rest c f r = absurd f
  only_done (Device (WriteNode number)) ws Done rest c f r = (refl, c)
  only_done (Device (WriteNode number)) ws Fault rest c f r = absurd (broken (WriteNode number) ws rest r)
  only_done (Device (WriteNode number)) ws g rest c f r = absurd f
  only_done (Device WriteRoot) ws Done rest c f r = (refl, c)
  only_done (Device WriteRoot) ws Fault rest c f r = absurd (broken WriteRoot ws rest r)
  only_done (Device WriteRoot) ws g rest c f r = absurd f
  only_done (Desk EndCommit) ws Done rest c f r = (refl, c)
  only_done (Desk EndCommit) ws g rest c f r = absurd f
  only_done (Cell SetSuspended) ws Done rest c f r = (refl, c)
  only_done (Cell SetSuspended) ws g rest c f r = absurd f
  only_done w ws g rest c f r = absurd c

  -- the first of a commit's steps was done, and the rest are to come
  record Stepped (w : Want) (ws : List Want) (old new : S) : Type 0 where
    mid : S
    rest : List (Want × Got)
    did : led old w Done mid
    commits : AreCommits ws
    run : IsRunOf (going ws) rest Finished
    leads : Leads led mid rest new

  step_on : (w : Want) (ws : List Want) (steps : List (Want × Got)) (old new : S) → AreCommits (w ∷ ws) → IsRunOf (going (w ∷ ws)) steps Finished → Leads led old steps new → Stepped w ws old new
  step_on w ws [] old new c r l = absurd (no_answer w ws c r)
    where
      no_answer : (w : Want) (ws : List Want) → AreCommits (w ∷ ws) → IsRunOf (going (w ∷ ws)) [] Finished → ⊥
      no_answer (Cell step) ws c e = absurd (cc)
      no_answer (Device step) ws c e = absurd (cc)
      no_answer (Desk step) ws c e = absurd (cc)
      no_answer w ws c e = absurd c
  step_on w ws (step ∷ steps) old new c r l =
      let one = only_done w ws step.1 steps c (subst (λ (v : Want). Fits v step.1) r.0 r.1) r.2 in record {
        mid = l.0;
        rest = steps;
        did = subst (λ (g : Got). led old w g l.0) one.0 (subst (λ (v : Want). led old v step.1 l.0) r.0 l.1);
        commits = one.1;
        run = subst (λ (g : Got). IsRunOf (after (going (w ∷ ws)) g) steps Finished) one.0 r.2;
        leads = l.2;
      }

  at_end : (steps : List (Want × Got)) (old new : S) → IsRunOf (going []) steps Finished → Leads led old steps new → old ≡ new
  at_end [] old new r l = l
  at_end (step ∷ steps) old new r l = absurd (no_result Finished step.1 (subst (λ (w : Want). Fits w step.1) r.0 r.1))

  -- a sync that is done leaves the last contents alone
  by_sync : (device : Dev) (old new : S) → led old (Device (Sync device)) Done new → Is device new
  by_sync device old new h = λ told. subst (λ (histories : List History). IsSynced histories) (sym ((does old _ _ new h).4 told).0) (synced_now (contents (device_in device (devices old))))

  -- of cache and origin no step of a commit is a write
  keeps_cache : (w : Want) (old new : S) → AreCommits (w ∷ []) → led old w Done new → Is Cache old → Is Cache new
  keeps_cache (Device (Sync Metadata)) old new c h d = subst (λ (x : D). tells → IsSynced (contents x)) (sym (does old _ _ new h).0.0) d
  keeps_cache (Device (Sync Cache)) old new c h d = by_sync Cache old new h
  keeps_cache (Device (Sync Origin)) old new c h d = subst (λ (x : D). tells → IsSynced (contents x)) (sym (does old _ _ new h).0.1) d
  keeps_cache (Device (WriteNode number)) old new c h d = subst (λ (x : D). tells → IsSynced (contents x)) (sym (does old _ _ new h).0.0) d
  keeps_cache (Device WriteRoot) old new c h d = subst (λ (x : D). tells → IsSynced (contents x)) (sym (does old _ _ new h).0.0) d
  keeps_cache (Desk EndCommit) old new c h d = subst (λ (x : Devices D). tells → IsSynced (contents x.cache)) (sym (does old _ _ new h).0) d
  keeps_cache (Cell SetSuspended) old new c h d = subst (λ (x : Devices D). tells → IsSynced (contents x.cache)) (sym (does old _ _ new h).0) d
  keeps_cache w old new c h d = absurd c

  keeps_origin : (w : Want) (old new : S) → AreCommits (w ∷ []) → led old w Done new → Is Origin old → Is Origin new
  keeps_origin (Device (Sync Metadata)) old new c h d = subst (λ (x : D). tells → IsSynced (contents x)) (sym (does old _ _ new h).0.1) d
  keeps_origin (Device (Sync Cache)) old new c h d = subst (λ (x : D). tells → IsSynced (contents x)) (sym (does old _ _ new h).0.1) d
  keeps_origin (Device (Sync Origin)) old new c h d = by_sync Origin old new h
  keeps_origin (Device (WriteNode number)) old new c h d = subst (λ (x : D). tells → IsSynced (contents x)) (sym (does old _ _ new h).0.1) d
  keeps_origin (Device WriteRoot) old new c h d = subst (λ (x : D). tells → IsSynced (contents x)) (sym (does old _ _ new h).0.1) d
  keeps_origin (Desk EndCommit) old new c h d = subst (λ (x : Devices D). tells → IsSynced (contents x.origin)) (sym (does old _ _ new h).0) d
  keeps_origin (Cell SetSuspended) old new c h d = subst (λ (x : Devices D). tells → IsSynced (contents x.origin)) (sym (does old _ _ new h).0) d
  keeps_origin w old new c h d = absurd c

  one_commit : (w : Want) (ws : List Want) → AreCommits (w ∷ ws) → AreCommits (w ∷ [])
  one_commit (Device (Sync device)) ws c = tt
  one_commit (Device (WriteNode number)) ws c = tt
  one_commit (Device WriteRoot) ws c = tt
  one_commit (Desk EndCommit) ws c = tt
  one_commit (Cell SetSuspended) ws c = tt
  one_commit w ws c = absurd c

  -- so they stay as they are, to the end
  stays : (device : Dev) → ((w : Want) (old new : S) → AreCommits (w ∷ []) → led old w Done new → Is device old → Is device new) → (ws : List Want) (steps : List (Want × Got)) (old new : S) → AreCommits ws → IsRunOf (going ws) steps Finished → Leads led old steps new → Is device old → Is device new
  stays device keeps [] steps old new c r l d = subst (λ (s : S). Is device s) (at_end steps old new r l) d
  stays device keeps (w ∷ ws) steps old new c r l d =
      let s = step_on w ws steps old new c r l in
      stays device keeps ws s.rest s.mid new s.commits s.run s.leads (keeps w old s.mid (one_commit w ws c) s.did d)

  -- and the metadata's last step is a sync
  calm : (ws : List Want) (steps : List (Want × Got)) (old new : S) → AreCalm ws → AreCommits ws → IsRunOf (going ws) steps Finished → Leads led old steps new → Is Metadata old → Is Metadata new
  calm [] steps old new q c r l d = subst (λ (s : S). Is Metadata s) (at_end steps old new r l) d
  calm (Desk EndCommit ∷ ws) steps old new q c r l d =
      let s = step_on (Desk EndCommit) ws steps old new c r l in
      calm ws s.rest s.mid new q s.commits s.run s.leads (subst (λ (x : Devices D). tells → IsSynced (contents x.metadata)) (sym (does old _ _ s.mid s.did).0) d)
  calm (Cell SetSuspended ∷ ws) steps old new q c r l d =
      let s = step_on (Cell SetSuspended) ws steps old new c r l in
      calm ws s.rest s.mid new q s.commits s.run s.leads (subst (λ (x : Devices D). tells → IsSynced (contents x.metadata)) (sym (does old _ _ s.mid s.did).0) d)
  calm (w ∷ ws) steps old new q c r l d = absurd q

  last_sync : (ws tail : List Want) (steps : List (Want × Got)) (old new : S) → AreCalm tail → AreCommits (ws ++ Device (Sync Metadata) ∷ tail) → IsRunOf (going (ws ++ Device (Sync Metadata) ∷ tail)) steps Finished → Leads led old steps new → Is Metadata new
  last_sync [] tail steps old new q c r l =
      let s = step_on (Device (Sync Metadata)) tail steps old new c r l in
      calm tail s.rest s.mid new q s.commits s.run s.leads (by_sync Metadata old s.mid s.did)
  last_sync (w ∷ ws) tail steps old new q c r l =
      let s = step_on w (ws ++ Device (Sync Metadata) ∷ tail) steps old new c r l in
      last_sync ws tail s.rest s.mid new q s.commits s.run s.leads

  -- the syncs of cache and origin, and then the metadata's steps
  all_synced : (ws ends tail : List Want) → ws ≡ ends ++ Device (Sync Metadata) ∷ tail → AreCalm tail → AreCommits ws → (steps : List (Want × Got)) (old new : S) → IsRunOf (going (Device (Sync Cache) ∷ Device (Sync Origin) ∷ ws)) steps Finished → Leads led old steps new → tells → AreSynced contents (devices new)
  all_synced ws ends tail split q c steps old new r l =
      let a = step_on (Device (Sync Cache)) (Device (Sync Origin) ∷ ws) steps old new c r l in
      let b = step_on (Device (Sync Origin)) ws a.rest a.mid new a.commits a.run a.leads in λ told. (
        last_sync ends tail b.rest b.mid new q (subst (λ (us : List Want). AreCommits us) split b.commits) (subst (λ (us : List Want). IsRunOf (going us) b.rest Finished) split b.run) b.leads told,
        stays Cache keeps_cache (Device (Sync Origin) ∷ ws) a.rest a.mid new a.commits a.run a.leads (by_sync Cache old a.mid a.did) told,
        stays Origin keeps_origin ws b.rest b.mid new b.commits b.run b.leads (by_sync Origin a.mid b.mid b.did) told,
      )

  looked_clear : (ws : List Want) (x : ℕ) (rest : List (Want × Got)) → IsRunOf (after_look (going (Cell (Look Fail) ∷ ws)) (Cell (Look Fail)) x) rest Finished → IsRunOf (going ws) rest Finished
  looked_clear ws x rest r =
      let s = going (Cell (Look Fail) ∷ ws) in
      (elim (x == 0) as (λ (b : Bool). IsRunOf (if b then (going ws) else (refused s [] Failed)) rest Finished → IsRunOf (going ws) rest Finished) [ true ↦ (λ h. h) | false ↦ (λ h. absurd (not_done s [] Failed tt rest h)) ]) r

  looked : (ws : List Want) (g : Got) (rest : List (Want × Got)) → Fits (Cell (Look Fail)) g → IsRunOf (after (going (Cell (Look Fail) ∷ ws)) g) rest Finished → IsRunOf (going ws) rest Finished
  looked ws (Word x) rest f r = looked_clear ws x rest r
  looked ws g rest f r = absurd f

-- ---- a flush

module _ {D P : Type 0} (tells : Type 0) (size : D → ℕ) (contents : D → List History) (faults : D → ℕ) (with_entry : P → ℕ → ℕ → P) (without_entry : P → ℕ → P) (held : List Order) (blocks : ℕ) (serves : List OBlock) (most : ℕ) where
  abbrev asked : ShareTold
  asked = AskedSharing with_entry without_entry held

  abbrev works : SharingState D → Want → Got → SharingState D → Type 0
  works = WorkStep tells size contents faults asked blocks

  does : (s : SharingState D) (w : Want) (g : Got) (t : SharingState D) → works s w g t → WorksOn tells size contents faults (some_told asked s.share) s.work.hand.devices s.work.buffer s.work.commit w g t.work.hand.devices t.work.buffer t.work.commit
  does s w g t h = told_some tells size contents faults asked s.share t.share s.work.hand.devices s.work.buffer s.work.commit w g t.work.hand.devices t.work.buffer t.work.commit h.1

  abbrev flushing : List Want → Plan
  flushing ws = record { job = Flushing serves most; steps = ws; answer = Finished }

  -- How one ends that is done: it has led a commit, and all is synced; or it was served by another's.
  abbrev pub FlushEnds : SharingState D → Type 0
  FlushEnds s = ((s.share ≡ Unshared) × (tells → AreSynced contents s.work.hand.devices)) ⊎ ((receipt : ℕ) × (s.share ≡ Covered receipt))

  -- a commit's steps tell nothing of others' commits
  one_shares : (w : Want) (old new : SharingState D) → AreCommits (w ∷ []) → works old w Done new → new.share ≡ old.share
  one_shares (Device step) old new c h = h.2
  one_shares (Desk EndCommit) old new c h = h.1.3.1.2
  one_shares (Cell SetSuspended) old new c h = h.2
  one_shares w old new c h = absurd c

  abbrev Stepped_on : Want → List Want → SharingState D → SharingState D → Type 0
  Stepped_on w ws old new = Stepped tells size contents faults (λ s. some_told asked s.share) (λ s. s.work.hand.devices) (λ s. s.work.buffer) (λ s. s.work.commit) works does (Flushing serves most) (λ step. refl) w ws old new

  on : (w : Want) (ws : List Want) (steps : List (Want × Got)) (old new : SharingState D) → AreCommits (w ∷ ws) → IsRunOf (flushing (w ∷ ws)) steps Finished → Leads works old steps new → Stepped_on w ws old new
  on = step_on tells size contents faults (λ s. some_told asked s.share) (λ s. s.work.hand.devices) (λ s. s.work.buffer) (λ s. s.work.commit) works does (Flushing serves most) (λ step. refl)

  ended : (steps : List (Want × Got)) (old new : SharingState D) → IsRunOf (flushing []) steps Finished → Leads works old steps new → old ≡ new
  ended = at_end tells size contents faults (λ s. some_told asked s.share) (λ s. s.work.hand.devices) (λ s. s.work.buffer) (λ s. s.work.commit) works does (Flushing serves most) (λ step. refl)

  shares : (ws : List Want) (steps : List (Want × Got)) (old new : SharingState D) → AreCommits ws → IsRunOf (flushing ws) steps Finished → Leads works old steps new → new.share ≡ old.share
  shares [] steps old new c r l = ap (λ (s : SharingState D). s.share) (sym (ended steps old new r l))
  shares (w ∷ ws) steps old new c r l =
      let s = on w ws steps old new c r l in
      shares ws s.rest s.mid new s.commits s.run s.leads ∙ one_shares w old s.mid (one_commit tells size contents faults (λ s. some_told asked s.share) (λ s. s.work.hand.devices) (λ s. s.work.buffer) (λ s. s.work.commit) works does (Flushing serves most) (λ step. refl) w ws c) s.did

  -- once it leads
  led_on : (nodes : ℕ) (steps : List (Want × Got)) (mid new : SharingState D) → mid.share ≡ Unshared → IsRunOf (flushing (commit_steps nodes)) steps Finished → Leads works mid steps new → FlushEnds new
  led_on nodes steps mid new none run l = inl (
    shares (commit_steps nodes) steps mid new (nodes_commit nodes 0) run l ∙ none,
    all_synced tells size contents faults (λ s. some_told asked s.share) (λ s. s.work.hand.devices) (λ s. s.work.buffer) (λ s. s.work.commit) works does (Flushing serves most) (λ step. refl)
        (node_writes nodes 0 ++ root_steps) _ _ (split_nodes nodes 0) tt (nodes_commit nodes 0) steps mid new run l,
  )

  -- it asks with a ticket
  asks_on : (g : Got) (rest : List (Want × Got)) (old mid new : SharingState D) → Fits (Desk (Ask most)) g → works old (Desk (Ask most)) g mid → IsRunOf (after (flushing (Desk (Ask most) ∷ [])) g) rest Finished → Leads works mid rest new → FlushEnds new
  asks_on (Began nodes) rest old mid new f h r l = led_on nodes rest mid new h.1.3.1.2 r l
  asks_on Served rest old mid new f h r l =
      let is = ended rest mid new r l in
      inr (h.1.3.0.ended, ap (λ (s : SharingState D). s.share) (sym is) ∙ h.1.3.1.2)
  asks_on (Refused Failed) rest old mid new f h r l = absurd (not_done (flushing (Desk (Ask most) ∷ [])) [] Failed tt rest r)
  asks_on (Refused Memory) rest old mid new f h r l = absurd (orders_not_done (flushing (Desk (Ask most) ∷ [])) serves Memory rest r)
  asks_on (Refused GenerationEnd) rest old mid new f h r l = absurd (orders_not_done (flushing (Desk (Ask most) ∷ [])) serves GenerationEnd rest r)
  asks_on g rest old mid new f h r l = absurd f

  waits : (rest : List (Want × Got)) (old new : SharingState D) → IsRunOf (flushing (Desk (Ask most) ∷ [])) rest Finished → Leads works old rest new → FlushEnds new
  waits [] old new r l = absurd (cc)
  waits (one ∷ rest) old new r l = asks_on one.1 rest old l.0 new (subst (λ (w : Want). Fits w one.1) r.0 r.1) (subst (λ (w : Want). works old w one.1 l.0) r.0 l.1) r.2 l.2

  -- it arrives
  arrives_on : (g : Got) (rest : List (Want × Got)) (old mid new : SharingState D) → Fits (Desk (Arrive most)) g → works old (Desk (Arrive most)) g mid → IsRunOf (after (flushing (Desk (Arrive most) ∷ [])) g) rest Finished → Leads works mid rest new → FlushEnds new
  arrives_on (Began nodes) rest old mid new f h r l = led_on nodes rest mid new h.1.3.1.2 r l
  arrives_on Ticket rest old mid new f h r l = waits rest mid new r l
  arrives_on (Refused Failed) rest old mid new f h r l = absurd (not_done (flushing (Desk (Arrive most) ∷ [])) [] Failed tt rest r)
  arrives_on (Refused Memory) rest old mid new f h r l = absurd (orders_not_done (flushing (Desk (Arrive most) ∷ [])) serves Memory rest r)
  arrives_on (Refused GenerationEnd) rest old mid new f h r l = absurd (orders_not_done (flushing (Desk (Arrive most) ∷ [])) serves GenerationEnd rest r)
  arrives_on g rest old mid new f h r l = absurd f

  clear : (g : Got) (rest : List (Want × Got)) → Fits (Cell (Look Fail)) g → IsRunOf (after (flushing (Cell (Look Fail) ∷ Desk (Arrive most) ∷ [])) g) rest Finished → IsRunOf (flushing (Desk (Arrive most) ∷ [])) rest Finished
  clear g rest f r = looked tells size contents faults (λ s. some_told asked s.share) (λ s. s.work.hand.devices) (λ s. s.work.buffer) (λ s. s.work.commit) works does (Flushing serves most) (λ step. refl) (Desk (Arrive most) ∷ []) g rest f r

  -- a run of the table of a flush
  pub flushed : (steps : List (Want × Got)) (old new : SharingState D) → IsRunOf (table (Flushing serves most)) steps Finished → Leads works old steps new → FlushEnds new
  flushed [] old new r l = absurd (cc)
  flushed (one ∷ []) old new r l =
      let run = clear one.1 [] (subst (λ (w : Want). Fits w one.1) r.0 r.1) r.2 in
      absurd (cc)
  flushed (one ∷ (two ∷ steps)) old new r l =
      let run = clear one.1 (two ∷ steps) (subst (λ (w : Want). Fits w one.1) r.0 r.1) r.2 in
      arrives_on two.1 steps l.0 l.2.0 new (subst (λ (w : Want). Fits w two.1) run.0 run.1) (subst (λ (w : Want). works l.0 w two.1 l.2.0) run.0 l.2.1) run.2 l.2.2

  -- so it never ends with a ticket
  pub never_waits : (s : SharingState D) → FlushEnds s → (ticket : ℕ) → s.share ≢ Waiting ticket
  never_waits s (inl led) ticket e = absurd (let bad : Unshared ≡ Waiting ticket = sym led.0 ∙ e in cc)
  never_waits s (inr served) ticket e = absurd (let bad : Covered served.0 ≡ Waiting ticket = sym served.1 ∙ e in cc)

  -- and one that has led has synced all
  pub led_synced : (s : SharingState D) → FlushEnds s → s.share ≡ Unshared → tells → AreSynced contents s.work.hand.devices
  led_synced s (inl led) e = led.1
  led_synced s (inr served) e = absurd (let bad : Covered served.0 ≡ Unshared = sym served.1 ∙ e in cc)

-- a flush that is done has no ticket at its end
pub ends_unticketed : {D P : Type 0} (tells : Type 0) (size : D → ℕ) (contents : D → List History) (faults : D → ℕ) (with_entry : P → ℕ → ℕ → P) (without_entry : P → ℕ → P) (held : List Order) (blocks : ℕ) (serves : List OBlock) (most : ℕ) (plan : Plan) (old new : WorkState D) (answer : Answer)
    → plan ≡ table (Flushing serves most) → answer ≡ Finished → {share : Share} → PerformedWith tells size contents faults (AskedSharing with_entry without_entry held) blocks plan old answer new share → (ticket : ℕ) → share ≢ Waiting ticket
ends_unticketed tells size contents faults with_entry without_entry held blocks serves most plan old new answer is done {share} was ticket e =
    let run = subst (λ (p : Plan). IsRunOf p was.was.steps answer) is was.was.run in
    let ended = flushed tells size contents faults with_entry without_entry held blocks serves most was.was.steps (record { work = old; share = Unshared }) (record { work = new; share = was.was.share }) (subst (λ (a : Answer). IsRunOf (table (Flushing serves most)) was.was.steps a) done run) was.was.leads in
    never_waits tells size contents faults with_entry without_entry held blocks serves most (record { work = new; share = was.was.share }) ended ticket (was.ends ∙ e)

-- one that led a commit leaves all synced
pub synced_after : {D P : Type 0} (tells : Type 0) (size : D → ℕ) (contents : D → List History) (faults : D → ℕ) (with_entry : P → ℕ → ℕ → P) (without_entry : P → ℕ → P) (held : List Order) (blocks : ℕ) (serves : List OBlock) (most : ℕ) (share : Share) (old new : WorkState D)
    → WasDoneWith tells size contents faults (AskedSharing with_entry without_entry) blocks held (Flushing serves most) share old new → share ≡ Unshared → tells → AreSynced contents new.hand.devices
synced_after tells size contents faults with_entry without_entry held blocks serves most share old new h none =
    let run = h.ended.0 in
    let ended = flushed tells size contents faults with_entry without_entry held blocks serves most run.steps (record { work = h.before; share = Unshared }) (record { work = new; share = run.share }) run.run run.leads in
    led_synced tells size contents faults with_entry without_entry held blocks serves most (record { work = new; share = run.share }) ended (h.ended.1 ∙ none)

-- ---- a suspend

module _ {D P : Type 0} (tells : Type 0) (size : D → ℕ) (contents : D → List History) (faults : D → ℕ) (hint_of : P → ℕ → ℕ) (with_entry : P → ℕ → ℕ → P) (without_entry : P → ℕ → P) (count : ℕ) (told : tells) (all : List OBlock) (most : ℕ) where
  abbrev suspends : SuspendState D P → Want → Got → SuspendState D P → Type 0
  suspends = SuspendStep tells size contents faults hint_of with_entry without_entry count

  abbrev suspending : List Want → Plan
  suspending ws = record { job = Suspending all most; steps = ws; answer = Finished }

  abbrev begin : Want
  begin = Desk (BeginCommit most)

  begun : (g : Got) (rest : List (Want × Got)) → Fits begin g → IsRunOf (after (suspending (begin ∷ [])) g) rest Finished → (nodes : ℕ) × IsRunOf (suspending (commit_steps nodes ++ Cell SetSuspended ∷ [])) rest Finished
  begun (Began nodes) rest f r = (nodes, r)
  begun (Refused Busy) rest f r = absurd (not_done (suspending (begin ∷ [])) [] Busy tt rest r)
  begun (Refused Memory) rest f r = absurd (not_done (suspending (begin ∷ [])) [] Memory tt rest r)
  begun (Refused GenerationEnd) rest f r = absurd (not_done (suspending (begin ∷ [])) [] GenerationEnd tt rest r)
  begun g rest f r = absurd f

  unfailed : (ws : List Want) (g : Got) (rest : List (Want × Got)) → Fits (Cell (Look Fail)) g → IsRunOf (after (suspending (Cell (Look Fail) ∷ ws)) g) rest Finished → IsRunOf (suspending ws) rest Finished
  unfailed ws g rest f r = looked tells size contents faults (λ s. AskedWith hint_of with_entry without_entry s.seen) (λ s. s.devices) (λ s. s.buffer) (λ s. s.commit) suspends (λ s w g t h. h.2) (Suspending all most) (λ step. refl) ws g rest f r

  -- the looks at the seals lead on
  seals : (blocks : List OBlock) (steps : List (Want × Got)) (old new : SuspendState D P) → IsRunOf (suspending (seal_looks blocks ++ begin ∷ [])) steps Finished → Leads suspends old steps new → AreSynced contents new.devices
  seals blocks [] old new r l = absurd (no_end blocks r)
    where
      no_end : (blocks : List OBlock) → IsRunOf (suspending (seal_looks blocks ++ begin ∷ [])) [] Finished → ⊥
      no_end [] e = absurd (cc)
      no_end (block ∷ blocks) e = absurd (cc)
  seals [] (one ∷ steps) old new r l =
      let commit = begun one.1 steps (subst (λ (w : Want). Fits w one.1) r.0 r.1) r.2 in
      all_synced tells size contents faults (λ s. AskedWith hint_of with_entry without_entry s.seen) (λ s. s.devices) (λ s. s.buffer) (λ s. s.commit) suspends (λ s w g t h. h.2) (Suspending all most) (λ step. refl)
      ((node_writes commit.0 0 ++ root_steps) ++ Cell SetSuspended ∷ []) _ _ (split_then commit.0 0 (Cell SetSuspended ∷ [])) tt (nodes_commit_then commit.0 0 (Cell SetSuspended ∷ []) tt) steps l.0 new commit.1 l.2 told
  seals (block ∷ blocks) (one ∷ steps) old new r l = seals blocks steps l.0 new (on one.1 (subst (λ (w : Want). Fits w one.1) r.0 r.1) r.2) l.2
    where
      on : (g : Got) → Fits (Cell (Look (SealWord block))) g → IsRunOf (after (suspending (seal_looks (block ∷ blocks) ++ begin ∷ [])) g) steps Finished → IsRunOf (suspending (seal_looks blocks ++ begin ∷ [])) steps Finished
      on (Word seal) f r = r
      on g f r = absurd f

  pub suspended_synced : (steps : List (Want × Got)) (old new : SuspendState D P) → IsRunOf (table (Suspending all most)) steps Finished → Leads suspends old steps new → AreSynced contents new.devices
  suspended_synced [] old new r l = absurd (cc)
  suspended_synced (one ∷ steps) old new r l = seals all steps l.0 new (unfailed (seal_looks all ++ begin ∷ []) one.1 steps (subst (λ (w : Want). Fits w one.1) r.0 r.1) r.2) l.2
