-- When the data devices of an abstract world are lists of sectors, seen by block and offset.
use Rattle.std.specs.Prelude.{◌≡◌, ◌<◌, ◌≤◌, ◌+◌, ◌*◌, ◌%◌, ℕ, Bool, false, List, [], ◌∷◌, Option, Some, None, length, map}
use Rattle.wb_disk.specs.Device.{Content, History}
use Rattle.wb_contents.specs.Devices.{by_block}
use Rattle.wb_disk.specs.Extents.{GivesEach, written_each, written_where}
use Rattle.wb_link.specs.Tables.{Job, Script, Want as AbstractWant, Read_all, Write_all, Answer as AbstractAnswer, Io as AnsweredIo, Got, Gave, Done, Fault, abstract_release, breaking}
use Rattle.wb_types.specs.declared.extent.Extent.{Extent}
use Rattle.wb_types.specs.declared.mode.Dev.{Dev}
use Rattle.wb_link.specs.World.{Shared, AbstractActor, newest_at, abstract_contents_for}
use Rattle.wb_refines.specs.Translation.{location_at, offsets_in}
use Rattle.wb_refines.specs.Going.{shared_after, gone, MayGo}
use Rattle.wb_refines.specs.Models.{SameImages}

-- the device on which a location is, and the block that it is of it
abbrev pub side : Option ℕ → Shared → ℕ → ℕ → History
side None s = s.origin
side (Some cache) s = s.cache

abbrev pub row : Option ℕ → ℕ → ℕ
row None block = block
row (Some cache) block = cache

-- the other device
abbrev pub other_side : Option ℕ → Shared → ℕ → ℕ → History
other_side None s = s.cache
other_side (Some cache) s = s.origin

-- the device of a location is this list
abbrev pub IsSide : ℕ → Content → Option ℕ → List History → Shared → Type 0
IsSide size blank to device s = side to s ≡ by_block size blank device

-- nothing changed but the device of a location
pub record SameBeside (to : Option ℕ) (s t : Shared) : Type 0 where
  pub other : other_side to t ≡ other_side to s
  pub seals : t.seals ≡ s.seals
  pub fail : t.fail ≡ s.fail
  pub images : SameImages s t

-- An extent of a device is of sectors of this block, or of the cache block in which it stands.
pub record IsInBlock (size block : ℕ) (device : Dev) (e : Extent) : Type 0 where
  pub first : e.first ≡ row (location_at size device e) block * size + e.first % size
  pub room : e.first % size + e.count ≤ size
  pub some : 0 < e.count

-- what comes of a read that fails, and of a write that does: each sector of the list has landed or not
abbrev pub read_fault : Got
read_fault = Fault (λ block offset. false)

abbrev pub write_fault : ℕ → Option ℕ → ℕ → (ℕ → Bool) → Got
write_fault size to block lands = Fault (λ b offset. lands (row to block * size + offset))

-- An actor with this task can go on with this result: the device is this list then, and it is this actor.
pub record DeviceMoves (size : ℕ) (blank : Content) (actors : List AbstractActor) (a : ℕ) (s : Shared) (y : AbstractActor) (task : Option Script) (to : Option ℕ) (got : Got) (device : List History) (z : AbstractActor) : Type 0 where
  pub may : MayGo actors a s y task (got ∷ [])
  pub side_is : IsSide size blank to device (shared_after s y task (got ∷ []))
  pub beside : SameBeside to s (shared_after s y task (got ∷ []))
  pub is : gone y task (got ∷ []) ≡ z

-- an actor with these steps left, and its contents
abbrev pub left_with : AbstractActor → Job → List AbstractWant → AbstractAnswer → AbstractActor
left_with y job steps answer = record y { task = Some (record { job = job; steps = steps; answer = answer }) }

-- A step of any task on an extent of a device, done or failing, is one step there; of a write that fails each sector has landed or not.
pub record ExtentsFollowed : Type 0 where
  pub read_done : (size : ℕ) (blank : Content) (actors : List AbstractActor) (a : ℕ) (s : Shared) (y : AbstractActor) (job : Job) (to : Option ℕ) (block : ℕ) (os : List ℕ) (rest : List AbstractWant) (answer : AbstractAnswer) (list : List History) →
      IsSide size blank to list s → DeviceMoves size blank actors a s y (Some (record { job = job; steps = Read_all to block os ∷ rest; answer = answer })) to (Gave (newest_at s to block)) list (record (left_with y job rest answer) { buffer = newest_at s to block })
  pub read_fails : (size : ℕ) (blank : Content) (actors : List AbstractActor) (a : ℕ) (s : Shared) (y : AbstractActor) (job : Job) (to : Option ℕ) (block : ℕ) (os : List ℕ) (rest : List AbstractWant) (answer : AbstractAnswer) (list : List History) →
      IsSide size blank to list s → DeviceMoves size blank actors a s y (Some (record { job = job; steps = Read_all to block os ∷ rest; answer = answer })) to read_fault list (left_with y job (abstract_release job) AnsweredIo)
  pub write_done : (size : ℕ) (blank : Content) (actors : List AbstractActor) (a : ℕ) (s : Shared) (y : AbstractActor) (job : Job) (block : ℕ) (device : Dev) (e : Extent) (rest : List AbstractWant) (answer : AbstractAnswer) (list : List History) →
      IsInBlock size block device e → IsSide size blank (location_at size device e) list s → e.first + e.count ≤ length list →
      DeviceMoves size blank actors a s y (Some (record { job = job; steps = Write_all (location_at size device e) block (offsets_in size e) ∷ rest; answer = answer })) (location_at size device e) Done
      (written_each list e.first (map (abstract_contents_for job y.buffer) (offsets_in size e))) (left_with y job rest answer)
  pub write_fails : (size : ℕ) (blank : Content) (actors : List AbstractActor) (a : ℕ) (s : Shared) (y : AbstractActor) (job : Job) (block : ℕ) (device : Dev) (e : Extent) (rest : List AbstractWant) (answer : AbstractAnswer) (list : List History) (lands : ℕ → Bool) →
      IsInBlock size block device e → IsSide size blank (location_at size device e) list s → e.first + e.count ≤ length list →
      DeviceMoves size blank actors a s y (Some (record { job = job; steps = Write_all (location_at size device e) block (offsets_in size e) ∷ rest; answer = answer })) (location_at size device e) (write_fault size (location_at size device e) block lands)
      (written_where lands list e.first (map (abstract_contents_for job y.buffer) (offsets_in size e))) (left_with y job (breaking job) AnsweredIo)
  -- what such a read gives is what the list has there
  pub reads : (size : ℕ) (blank : Content) (s : Shared) (block : ℕ) (device : Dev) (e : Extent) (list : List History) (contents : List Content) →
      IsInBlock size block device e → IsSide size blank (location_at size device e) list s → length contents ≡ e.count → GivesEach list e.first contents → contents ≡ map (newest_at s (location_at size device e) block) (offsets_in size e)
