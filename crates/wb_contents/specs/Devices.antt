-- A device's sectors seen by block and offset, and its steps seen as acts.
use Rattle.std.specs.Prelude.{◌≡◌, ◌<◌, ◌+◌, ◌*◌, ℕ, Bool, cond, List, length, slice_get, unwrap_or, Contains, nat_lt}
use Rattle.wb_disk.specs.Device.{Content, History, ReadGives, Crashed, entries, newest, added, only, written, synced}
use Rattle.wb_disk.specs.Failing.{synced_where}
use Rattle.wb_contents.specs.Volume.{changed_at}
use Rattle.wb_contents.specs.Acts.{all_synced, partly_synced, only_chosen}

-- The pending contents of a sector of a block of so many sectors. Behind a block's last offset, and where the device has no
-- such sector, there is this content alone, always.
abbrev pub by_block : (size : ℕ) (blank : Content) → List History → ℕ → ℕ → History
by_block size blank device b o = cond (nat_lt o size) (unwrap_or (slice_get device (b * size + o)) (only blank)) (only blank)

-- a read gives the newest content
abbrev pub ReadIsNewest : Type 0
ReadIsNewest = (size : ℕ) (blank : Content) (device : List History) (b o : ℕ) (c : Content) → o < size →
    ReadGives device (b * size + o) c → newest (by_block size blank device b o) ≡ c

-- a write adds its content to that sector, and changes no other
abbrev pub WriteIsAct : Type 0
WriteIsAct = (size : ℕ) (blank : Content) (device : List History) (b o : ℕ) (c : Content) → o < size → b * size + o < length device →
    by_block size blank (written device (b * size + o) c) ≡ changed_at (by_block size blank device) b o (added (by_block size blank device b o) c)

-- a sync leaves of each sector the newest content alone
abbrev pub SyncIsAct : Type 0
SyncIsAct = (size : ℕ) (blank : Content) (device : List History) → by_block size blank (synced device) ≡ all_synced (by_block size blank device)

-- one that fails does so for the sectors on which it landed
abbrev pub FailedSyncIsAct : Type 0
FailedSyncIsAct = (size : ℕ) (blank : Content) (lands : ℕ → Bool) (device : List History) →
    by_block size blank (synced_where lands device) ≡ partly_synced (λ b o. lands (b * size + o)) (by_block size blank device)

-- a crash leaves of each sector one content that was pending
pub record CrashLeaves (old new : ℕ → ℕ → History) : Type 0 where
  pub alone : new ≡ only_chosen (λ b o. newest (new b o))
  pub pending : (b o : ℕ) → Contains (entries (old b o)) (newest (new b o))

abbrev pub CrashIsAct : Type 0
CrashIsAct = (size : ℕ) (blank : Content) (device crashed : List History) → Crashed device crashed →
    CrashLeaves (by_block size blank device) (by_block size blank crashed)
