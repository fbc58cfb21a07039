-- The step tables of the abstract world: what each job asks for, step by step, and what is left after each result.
use Rattle.std.specs.Prelude.{ℕ, Bool, true, false, List, [], ◌∷◌, Option, Some, None}
use Rattle.wb_disk.specs.Device.{Content}

-- a live order: its block of the origin, its block of the cache
pub record Order : Type 0 where
  pub block : ℕ
  pub cache : ℕ
  -- a replacement's: the block of the origin that is to follow on the cache block
  pub next : Option ℕ

-- Sectors are moved extent by extent, each of these offsets in the block.
pub data Job : Type 0 where
  -- where the block is, or past the cache, as in passthrough
  Reading : (past : Bool) → (block : ℕ) → List (List ℕ) → Job
  Writing : (past : Bool) → (block : ℕ) → List (List ℕ) → Content → Job
  Writing_through : (block : ℕ) → List (List ℕ) → Content → Job
  -- of a replacement, under its order
  Flushing : (order : Option Order) → Job
  Suspending : Job
  Promoting : Order → List (List ℕ) → Job
  -- a dirty block's sectors come home: a demotion, after which it leaves the cache, or a write-back, after which it is clean there
  Returning : (leaves : Bool) → Order → List (List ℕ) → Job
  Invalidating : (block : ℕ) → Job

pub record Seal : Type 0 where
  pub location : Option ℕ
  pub dirty : Bool

pub data Answer : Type 0 where
  Finished : Answer
  Busy : Answer
  Failed : Answer
  Io : Answer

pub data Want : Type 0 where
  Look_fail : Want
  Share : (block : ℕ) → Want
  Own : (block : ℕ) → Want
  Look_seal : (block : ℕ) → Want
  Set_seal : (block : ℕ) → Seal → Want
  Leave : (block : ℕ) → Want
  Disown : (block : ℕ) → Want
  Set_failed : Want
  Set_suspended : Want
  Break_commits : Want
  -- an extent of a block, in one step
  Read_all : (location : Option ℕ) (block : ℕ) → List ℕ → Want
  Write_all : (location : Option ℕ) (block : ℕ) → List ℕ → Want
  -- a flush asks to lead a commit, or to be served: on arriving, or with a ticket
  Begin : (ticket : Option ℕ) → Want
  Begin_clean : Want
  Sync_cache_device : Want
  Sync_origin_device : Want
  Put_root : Want
  Sync_metadata : Want
  End_running : Want
  -- for an entry of the mapping
  Make_room : Want
  Map_to : Order → Want
  Unmap_from : Order → Want
  Unmap_plain : (block cache : ℕ) → Want
  Give_up : Order → Want
  End : Answer → Want

pub data Got : Type 0 where
  Done : Got
  Lost : Got
  Flag : Bool → Got
  Seen : Seal → Got
  -- the contents by their offsets
  Gave : (ℕ → Content) → Got
  Ticket : ℕ → Got
  Served : Got
  Broken : Got
  -- a growth was refused, or no number is left
  Short : Got
  -- of what was written these sectors have landed, by block and offset; of a sync these are settled
  Fault : (lands : ℕ → ℕ → Bool) → Got

pub record Script : Type 0 where
  pub job : Job
  pub steps : List Want
  pub answer : Answer

abbrev pub read_each : Option ℕ → ℕ → List (List ℕ) → List Want → List Want
read_each location b [] rest = rest
read_each location b (os ∷ extents) rest = Read_all location b os ∷ read_each location b extents rest

abbrev pub write_each : Option ℕ → ℕ → List (List ℕ) → List Want → List Want
write_each location b [] rest = rest
write_each location b (os ∷ extents) rest = Write_all location b os ∷ write_each location b extents rest

abbrev pub copy_each : (from to : Option ℕ) → ℕ → List (List ℕ) → List Want → List Want
copy_each from to b [] rest = rest
copy_each from to b (os ∷ extents) rest = Read_all from b os ∷ Write_all to b os ∷ copy_each from to b extents rest

-- write-through: each extent on the origin, then on the cache where it is mapped
abbrev pub write_through_each : Option ℕ → ℕ → List (List ℕ) → List Want → List Want
write_through_each None b extents rest = write_each None b extents rest
write_through_each (Some k) b [] rest = rest
write_through_each (Some k) b (os ∷ extents) rest = Write_all None b os ∷ Write_all (Some k) b os ∷ write_through_each (Some k) b extents rest

abbrev pub abstract_dirtying : ℕ → Option ℕ → Bool → List Want → List Want
abstract_dirtying b (Some k) false rest = Set_seal b (record { location = Some k; dirty = true }) ∷ rest
abstract_dirtying b location dirty rest = rest

abbrev pub copy_dirty : Bool → Order → List (List ℕ) → List Want → List Want
copy_dirty true order os rest = copy_each (Some order.cache) None order.block os rest
copy_dirty false order os rest = rest

abbrev pub unmapping : Order → List Want
unmapping order = Unmap_from order ∷ Set_seal order.block (record { location = None; dirty = false }) ∷ Disown order.block ∷ []

abbrev pub cleaning : Order → List Want
cleaning order = Set_seal order.block (record { location = Some order.cache; dirty = false }) ∷ Disown order.block ∷ Give_up order ∷ []

abbrev pub returned : (leaves : Bool) → Order → List Want
returned true order = unmapping order
returned false order = cleaning order

abbrev pub abstract_entering : Order → List Want
abstract_entering order = Map_to order ∷ Set_seal order.block (record { location = Some order.cache; dirty = false }) ∷ Disown order.block ∷ []

abbrev pub mapping_on : Order → List Want
mapping_on order = Make_room ∷ abstract_entering order

-- in passthrough, under no order
abbrev pub dropping : ℕ → Option ℕ → List Want → List Want
dropping b None rest = rest
dropping b (Some k) rest = Unmap_plain b k ∷ Set_seal b (record { location = None; dirty = false }) ∷ rest

-- a read past the cache is of the origin, wherever the block is
abbrev pub read_from : (past : Bool) → Option ℕ → Option ℕ
read_from true location = None
read_from false location = location

-- a write past the cache unmaps its block first
abbrev pub write_work : (past : Bool) → ℕ → List (List ℕ) → Seal → List Want
write_work true b os seal = dropping b seal.location (write_each None b os (Disown b ∷ []))
write_work false b os seal = abstract_dirtying b seal.location seal.dirty (write_each seal.location b os (Disown b ∷ []))

-- once the seal was seen
abbrev pub abstract_work : Job → Seal → List Want
abstract_work (Reading past b os) seal = read_each (read_from past seal.location) b os (Leave b ∷ [])
abstract_work (Writing past b os c) seal = write_work past b os seal
abstract_work (Writing_through b os c) seal = write_through_each seal.location b os (Disown b ∷ [])
abstract_work (Invalidating b) seal = dropping b seal.location (Disown b ∷ [])
abstract_work (Flushing order) seal = []
abstract_work Suspending seal = []
abstract_work (Promoting order os) seal = copy_each None (Some order.cache) order.block os (mapping_on order)
abstract_work (Returning leaves order os) seal = copy_dirty seal.dirty order os (returned leaves order)

abbrev pub abstract_acquire : Job → List Want
abstract_acquire (Reading past b os) = Share b ∷ Look_seal b ∷ []
abstract_acquire (Writing past b os c) = Own b ∷ Look_seal b ∷ []
abstract_acquire (Writing_through b os c) = Own b ∷ Look_seal b ∷ []
abstract_acquire (Invalidating b) = Own b ∷ Look_seal b ∷ []
abstract_acquire (Flushing order) = Begin None ∷ Sync_cache_device ∷ Sync_origin_device ∷ Put_root ∷ Sync_metadata ∷ End_running ∷ []
abstract_acquire Suspending = Begin_clean ∷ Sync_cache_device ∷ Sync_origin_device ∷ Put_root ∷ Sync_metadata ∷ End_running ∷ Set_suspended ∷ []
abstract_acquire (Promoting order os) = Own order.block ∷ Look_seal order.block ∷ []
abstract_acquire (Returning leaves order os) = Own order.block ∷ Look_seal order.block ∷ []

abbrev pub abstract_table : Job → Script
abstract_table job = record { job = job; steps = Look_fail ∷ abstract_acquire job; answer = Finished }

abbrev pub abstract_later_steps : List Want → List Want
abstract_later_steps [] = []
abstract_later_steps (w ∷ ws) = ws

abbrev pub abstract_onward : Script → Script
abstract_onward s = record s { steps = abstract_later_steps s.steps }

abbrev pub abstract_release : Job → List Want
abstract_release (Reading past b os) = Leave b ∷ []
abstract_release (Writing past b os c) = Disown b ∷ []
abstract_release (Writing_through b os c) = Disown b ∷ []
abstract_release (Invalidating b) = Disown b ∷ []
abstract_release (Flushing order) = []
abstract_release Suspending = []
abstract_release (Promoting order os) = Disown order.block ∷ Give_up order ∷ []
abstract_release (Returning leaves order os) = Disown order.block ∷ Give_up order ∷ []

abbrev pub first_of_steps : List Want → Answer → Want
first_of_steps [] answer = End answer
first_of_steps (w ∷ ws) answer = w

abbrev pub abstract_want : Script → Want
abstract_want s = first_of_steps s.steps s.answer

abbrev pub abstract_refused : Script → List Want → Answer → Script
abstract_refused s steps answer = record { job = s.job; steps = steps; answer = answer }

-- after a fault of a write or a sync; that of a commit's step breaks the commits
abbrev pub breaking : Job → List Want
breaking (Flushing order) = Set_failed ∷ Break_commits ∷ []
breaking Suspending = Set_failed ∷ Break_commits ∷ []
breaking job = Set_failed ∷ []

abbrev pub abstract_after_fault : Script → Want → Script
abstract_after_fault s (Read_all location b os) = abstract_refused s (abstract_release s.job) Io
abstract_after_fault s w = abstract_refused s (breaking s.job) Io

abbrev pub after_flag : Script → Bool → Script
after_flag s true = abstract_refused s [] Failed
after_flag s false = abstract_onward s

-- A replacement's flush that is refused so gives its order up, a promotion its block and its order.
abbrev pub let_go : Option Order → List Want
let_go None = []
let_go (Some order) = Give_up order ∷ []

abbrev pub letting : Job → List Want
letting (Flushing order) = let_go order
letting (Promoting order os) = abstract_release (Promoting order os)
letting job = []

abbrev pub abstract_after : Script → Got → Script
abstract_after s Done = abstract_onward s
abstract_after s Lost = abstract_refused s [] Busy
abstract_after s (Flag f) = after_flag s f
abstract_after s (Seen seal) = record s { steps = abstract_work s.job seal }
abstract_after s (Gave contents) = abstract_onward s
abstract_after s (Ticket k) = record s { steps = Begin (Some k) ∷ abstract_later_steps s.steps }
abstract_after s Served = abstract_refused s [] Finished
abstract_after s Broken = abstract_refused s [] Failed
abstract_after s Short = abstract_refused s (letting s.job) Failed
abstract_after s (Fault lands) = abstract_after_fault s (abstract_want s)
