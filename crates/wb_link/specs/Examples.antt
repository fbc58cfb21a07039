-- A run of one actor that writes, promotes, writes again, flushes and demotes; one of three actors with a replacement,
-- flushes that share a commit; lives that any site may go on with; and a life past the cache.
use Rattle.std.specs.Prelude.{◌++◌, ℕ, Bool, true, false, cond, List, [], ◌∷◌, Some, None}
use Rattle.wb_disk.specs.Device.{Content, newest}
use Rattle.wb_contents.specs.Volume.{at_location, changed}
use Rattle.wb_types.specs.declared.mode.Mode.{Mode}
use Rattle.wb_types.specs.declared.mode.Mode.TheVariants.{Writeback, Writethrough, Passthrough}
use Rattle.wb_link.specs.Tables.{Order, Seal, Answer, Want, Reading, Writing, Suspending, Promoting, Returning, Flushing, Finished, Look_fail, Share, Leave, Own, Look_seal, Set_seal, Disown, Read_all, Write_all, Begin, Sync_cache_device, Sync_origin_device, Put_root, Sync_metadata, End_running, Make_room, Map_to, Unmap_from, Unmap_plain, Begin_clean, Set_suspended, Failed, Short, End, Done, Flag, Seen, Gave, Ticket, Served}
use Rattle.wb_link.specs.World.{Mapped, Shared, Start, Again, Step, Record}
use Rattle.wb_link.specs.Openings.{Learnt, Stopping, Settled, Fine, Learns, Refused, Broke, Shown, Event, On, Stopped, Begins, Advances}

abbrev pub order : Order
order = record { block = 0; cache = 0; next = None }

-- these steps are done one after the other, and the task is answered
abbrev pub dones : ℕ → List Want → Answer → List Record
dones a [] answer = Step a (End answer) Done ∷ []
dones a (w ∷ ws) answer = Step a w Done ∷ dones a ws answer

-- under it block 0 is promoted, by a copy of this
abbrev pub promoted : Content → List Record
promoted content = Start 0 (Promoting order ((0 ∷ []) ∷ [])) ∷
    Step 0 Look_fail (Flag false) ∷
    Step 0 (Own 0) Done ∷
    Step 0 (Look_seal 0) (Seen (record { location = None; dirty = false })) ∷
    Step 0 (Read_all None 0 (0 ∷ [])) (Gave (λ o. content)) ∷
    dones 0 (Write_all (Some 0) 0 (0 ∷ []) ∷ Make_room ∷ Map_to order ∷ Set_seal 0 (record { location = Some 0; dirty = false }) ∷ Disown 0 ∷ []) Finished

abbrev pub one_actor : List Record
one_actor = Start 0 (Writing false 0 ((0 ∷ []) ∷ []) (7 ∷ [])) ∷
    Step 0 Look_fail (Flag false) ∷
    Step 0 (Own 0) Done ∷
    Step 0 (Look_seal 0) (Seen (record { location = None; dirty = false })) ∷
    dones 0 (Write_all None 0 (0 ∷ []) ∷ Disown 0 ∷ []) Finished ++
    promoted (7 ∷ []) ++
    Start 0 (Writing false 0 ((0 ∷ []) ∷ []) (8 ∷ [])) ∷
    Step 0 Look_fail (Flag false) ∷
    Step 0 (Own 0) Done ∷
    Step 0 (Look_seal 0) (Seen (record { location = Some 0; dirty = false })) ∷
    dones 0 (Set_seal 0 (record { location = Some 0; dirty = true }) ∷ Write_all (Some 0) 0 (0 ∷ []) ∷ Disown 0 ∷ []) Finished ++
    Start 0 (Flushing None) ∷
    Step 0 Look_fail (Flag false) ∷
    Step 0 (Begin None) Done ∷
    dones 0 (Sync_cache_device ∷ Sync_origin_device ∷ Put_root ∷ Sync_metadata ∷ End_running ∷ []) Finished ++
    Start 0 (Returning true order ((0 ∷ []) ∷ [])) ∷
    Step 0 Look_fail (Flag false) ∷
    Step 0 (Own 0) Done ∷
    Step 0 (Look_seal 0) (Seen (record { location = Some 0; dirty = true })) ∷
    Step 0 (Read_all (Some 0) 0 (0 ∷ [])) (Gave (λ o. (8 ∷ []))) ∷
    dones 0 (Write_all None 0 (0 ∷ []) ∷ Unmap_from order ∷ Set_seal 0 (record { location = None; dirty = false }) ∷ Disown 0 ∷ []) Finished

-- block 0 on cache block 0 is replaced by block 1
abbrev pub abstract_replacement : Order
abstract_replacement = record { block = 0; cache = 0; next = Some 1 }

abbrev pub follower : Order
follower = record { block = 1; cache = 0; next = None }

-- two flushes wait for the next commit, and the one that leads it serves both
abbrev pub replaced : List Record
replaced = promoted [] ++
    Start 0 (Returning true abstract_replacement ((0 ∷ []) ∷ [])) ∷
    Step 0 Look_fail (Flag false) ∷
    Step 0 (Own 0) Done ∷
    Step 0 (Look_seal 0) (Seen (record { location = Some 0; dirty = false })) ∷
    dones 0 (Unmap_from abstract_replacement ∷ Set_seal 0 (record { location = None; dirty = false }) ∷ Disown 0 ∷ []) Finished ++
    Start 1 (Flushing None) ∷
    Step 1 Look_fail (Flag false) ∷
    Step 1 (Begin None) Done ∷
    Again 0 (Flushing (Some follower)) ∷
    Step 0 Look_fail (Flag false) ∷
    Step 0 (Begin None) (Ticket 2) ∷
    Start 2 (Flushing None) ∷
    Step 2 Look_fail (Flag false) ∷
    Step 2 (Begin None) (Ticket 2) ∷
    dones 1 (Sync_cache_device ∷ Sync_origin_device ∷ Put_root ∷ Sync_metadata ∷ End_running ∷ []) Finished ++
    Step 0 (Begin (Some 2)) Done ∷
    dones 0 (Sync_cache_device ∷ Sync_origin_device ∷ Put_root ∷ Sync_metadata ∷ End_running ∷ []) Finished ++
    Step 2 (Begin (Some 2)) Served ∷
    Step 2 (End Finished) Done ∷
    Again 0 (Promoting follower ((0 ∷ []) ∷ [])) ∷
    Step 0 Look_fail (Flag false) ∷
    Step 0 (Own 1) Done ∷
    Step 0 (Look_seal 1) (Seen (record { location = None; dirty = false })) ∷
    Step 0 (Read_all None 1 (0 ∷ [])) (Gave (λ o. [])) ∷
    dones 0 (Write_all (Some 0) 1 (0 ∷ []) ∷ Make_room ∷ Map_to follower ∷ Set_seal 1 (record { location = Some 0; dirty = false }) ∷ Disown 1 ∷ []) Finished

-- what a crash may leave of any site
abbrev pub settles : Shared → Bool → Stopping
settles s new_root = record { origin = λ b o. newest (s.origin b o); cache = λ k o. newest (s.cache k o); new_root = new_root }

-- what an opening shows that finds the committed image
abbrev pub abstract_shown : Shared → ℕ → ℕ → Content
abstract_shown s b o = newest (at_location s.origin s.cache (s.committed b) b o)

-- a whole opening, which learns and shows this
abbrev pub abstract_opening : Mode → Learnt → (ℕ → ℕ → Content) → List Event
abstract_opening mode learnt view = Begins mode ∷
    Advances (Settled false) ∷
    Advances Fine ∷
    Advances Fine ∷
    Advances (Learns learnt) ∷
    Advances Fine ∷
    Advances Fine ∷
    Advances (Shown (λ k. Mapped) view) ∷ []

-- A crash, an opening that fails at its last sync, another that a crash ends once its root was written,
abbrev pub cut_short : Shared → List Event
cut_short s = Stopped (settles s false) ∷
    Begins Writeback ∷
    Advances (Settled false) ∷
    Advances Fine ∷
    Advances (Broke (λ b o. false)) ∷
    Begins Writethrough ∷
    Advances (Settled false) ∷
    Advances Fine ∷
    Advances Fine ∷
    Advances (Learns (record { locations = s.committed; clean = s.committed_clean })) ∷
    Advances Fine ∷
    Stopped (settles s true) ∷ []

-- and a whole one
abbrev pub lives_of : Shared → List Event
lives_of s = cut_short s ++ abstract_opening Writeback (record { locations = s.committed; clean = λ b. false }) (abstract_shown s)

-- an opening without a crash, which finds the committed image
abbrev pub reopening : Shared → List Event
reopening s = abstract_opening Writeback (record { locations = s.committed; clean = s.committed_clean }) (abstract_shown s)

-- these records, and then these events
abbrev pub then_all : List Record → List Event → List Event
then_all [] es = es
then_all (r ∷ rs) es = On r ∷ then_all rs es

abbrev pub promoted_and_suspended : List Record
promoted_and_suspended = promoted [] ++
    Start 0 Suspending ∷
    Step 0 Look_fail (Flag false) ∷
    Step 0 Begin_clean Short ∷
    Step 0 (End Failed) Done ∷
    Start 0 Suspending ∷
    Step 0 Look_fail (Flag false) ∷
    Step 0 Begin_clean Done ∷
    dones 0 (Sync_cache_device ∷ Sync_origin_device ∷ Put_root ∷ Sync_metadata ∷ End_running ∷ Set_suspended ∷ []) Finished

abbrev pub read_and_written : List Record
read_and_written = Start 0 (Reading true 0 ((0 ∷ []) ∷ [])) ∷
    Step 0 Look_fail (Flag false) ∷
    Step 0 (Share 0) Done ∷
    Step 0 (Look_seal 0) (Seen (record { location = Some 0; dirty = false })) ∷
    Step 0 (Read_all None 0 (0 ∷ [])) (Gave (λ o. [])) ∷
    Step 0 (Leave 0) Done ∷
    Step 0 (End Finished) Done ∷
    Start 0 (Writing true 0 ((0 ∷ []) ∷ []) (9 ∷ [])) ∷
    Step 0 Look_fail (Flag false) ∷
    Step 0 (Own 0) Done ∷
    Step 0 (Look_seal 0) (Seen (record { location = Some 0; dirty = false })) ∷
    dones 0 (Unmap_plain 0 0 ∷ Set_seal 0 (record { location = None; dirty = false }) ∷ Write_all None 0 (0 ∷ []) ∷ Disown 0 ∷ []) Finished ++
    Start 0 (Reading true 0 ((0 ∷ []) ∷ [])) ∷
    Step 0 Look_fail (Flag false) ∷
    Step 0 (Share 0) Done ∷
    Step 0 (Look_seal 0) (Seen (record { location = None; dirty = false })) ∷
    Step 0 (Read_all None 0 (0 ∷ [])) (Gave (λ o. (9 ∷ []))) ∷
    Step 0 (Leave 0) Done ∷
    Step 0 (End Finished) Done ∷ []

-- what an opening reads of block 0 on cache block 0, clean
abbrev pub one_clean : Learnt
one_clean = record { locations = changed (λ b. None) 0 (Some 0); clean = λ b. cond (changed {X = Seal} (λ b. record { location = None; dirty = false }) 0 (record { location = Some 0; dirty = false }) b).dirty false true }

-- A promoted block stays mapped over a suspend, which another one before it was refused for want of memory. An opening in passthrough is
-- refused at its root, and one after it done; then the block is read past the cache, written, which unmaps it, and read again.
abbrev pub past_the_cache : List Event
past_the_cache = then_all promoted_and_suspended (
    Begins Passthrough ∷
    Advances (Settled false) ∷
    Advances Fine ∷
    Advances Fine ∷
    Advances (Learns one_clean) ∷
    Advances Refused ∷
    abstract_opening Passthrough one_clean (λ b o. []) ++
    then_all read_and_written [])
