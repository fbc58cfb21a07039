-- What a target that an opening has made is in the abstract world.
use Rattle.std.specs.Prelude.{◌≡◌, ◌≤◌, ◌^◌, ◌==◌, ℕ, Bool, true, false, cond, if◌then◌else◌, List, [], ◌∷◌, Option, Some, None, length, replicate, slice_get}
use Rattle.wb_types.specs.declared.entry.Entry.{Entry}
use Rattle.wb_types.specs.declared.mode.Mode.{Mode}
use Rattle.wb_disk.specs.Device.{History}
use Rattle.wb_contents.specs.Devices.{by_block}
use Rattle.wb_words.specs.SharedWords.{fresh_words}
use Rattle.wb_tree.specs.Mapping.{IsMapping}
use Rattle.wb_devices.specs.declared.devices.Devices.{Devices}
use Rattle.wb_link.specs.World.{Block, Shared, abstract_resting as idle}
use Rattle.wb_link.specs.Openings.{Learnt, opened_on}
use Rattle.wb_promise.specs.States.{Actor}
use Rattle.wb_promise.specs.Effects.{sealing_steps, words_by}
use Rattle.wb_promise.specs.Headline.{place_of}
use Rattle.wb_simulation.specs.Worlds.{zeros, Agrees, none_yet}

-- where these entries have each block
abbrev pub located : List (Option Entry) → ℕ → Option ℕ
located entries block = place_of entries block

-- An entry of this block is clean, if there is one.
abbrev pub is_clean_in : List (Option Entry) → ℕ → Bool
is_clean_in [] block = false
is_clean_in (None ∷ entries) block = is_clean_in entries block
is_clean_in (Some entry ∷ entries) block = if entry.origin.0 == block then cond entry.dirty false true else is_clean_in entries block

-- Of the blocks that have an entry just those are taken as clean whose entry is, under a root that is marked clean; else none is.
abbrev pub TakesClean : Bool → List (Option Entry) → (ℕ → Bool) → Type 0
TakesClean marked entries clean = (block cache : ℕ) → located entries block ≡ Some cache → clean block ≡ cond marked (is_clean_in entries block) false

-- nobody is at anything
abbrev pub AreAtRest : List Actor → Type 0
AreAtRest actors = (a : ℕ) (x : Actor) → slice_get actors a ≡ Some x → x.task ≡ None

-- Once each mapped block of a tree that was read is sealed, words, devices and actors are those of the target that the abstract opening, in the same mode,
-- makes of what it has learnt: where the tree has each block, and which are clean.
abbrev pub OpenedFollowed : Type 0
OpenedFollowed = (mode : Mode) (size : ℕ) (most : Bool → ℕ) (origin_blocks cache_blocks : ℕ) (clean : Bool) (entries : List (Option Entry)) (learnt : Learnt) (blocks : ℕ → Block) (s : Shared) (devices : Devices (List History)) (actors : List Actor) →
    IsMapping cache_blocks origin_blocks entries → cache_blocks ≤ 2 ^ 32 → learnt.locations ≡ located entries → TakesClean clean entries learnt.clean →
    s.origin ≡ by_block size zeros devices.origin → s.cache ≡ by_block size zeros devices.cache → AreAtRest actors →
    Agrees (record {
      mode = mode;
      size = size;
      most = most;
      words = words_by (fresh_words origin_blocks) (sealing_steps clean 0 entries);
      commits = none_yet;
      orders = replicate cache_blocks None;
      devices = devices;
      actors = actors;
    }) (record { shared = opened_on s mode learnt blocks; actors = replicate (length actors) idle; waiting = λ k. None })
