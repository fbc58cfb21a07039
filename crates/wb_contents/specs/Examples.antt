-- Runs that show that each condition of the law is needed, and that all can hold.
use Rattle.std.specs.Prelude.{ℕ, List, [], ◌∷◌, true, false}
use Rattle.wb_disk.specs.Device.{Content, added}
use Rattle.wb_contents.specs.Volume.{Volume, changed_at}
use Rattle.wb_types.specs.declared.mode.Mode.TheVariants.{Writeback, Writethrough, Passthrough}
use Rattle.wb_contents.specs.Acts.{Act, Write, Write_origin, Write_cache, Finish, Fill_cache, Copy_back, Map, Unmap, Make_dirty, Make_clean, Begin_commit, Begin_suspend, Sync_cache, Sync_origin, Write_root, End_commit, Begin_flush, End_flush, Crash, Find_image, Write_opening_root, Open, volume_after_all}
use Rattle.wb_contents.specs.Promises.{first_volume, IsConsistent}

-- Runs that leave out one condition each and break what holds, and a run over three lives in which all may happen.

abbrev pub blank_volume : ℕ → ℕ → Content
blank_volume b o = []

abbrev pub nothing : Content
nothing = []

abbrev pub one : Content
one = 1 ∷ []

abbrev pub one_kept : ℕ → ℕ → Content
one_kept = changed_at blank_volume 0 0 one

abbrev pub Breaks : List Act → Type 0
Breaks xs = IsConsistent (volume_after_all (first_volume Writeback blank_volume) xs) → ⊥

-- a suspend's root before the syncs: a clean block, whose last contents were equal, differs after the crash, and passthrough reads the old one
abbrev pub suspend_root_before_its_syncs : List Act
suspend_root_before_its_syncs = Map 0 0 ∷ Make_dirty 0 ∷ Write 0 0 one ∷ Finish 0 0 ∷ Copy_back 0 0 ∷ Make_clean 0 ∷ Begin_suspend ∷ Write_root ∷ Crash blank_volume one_kept true ∷
    Find_image false ∷ Sync_cache ∷ Sync_origin ∷ Write_opening_root ∷ Open Passthrough ∷ []

-- a flush that is answered by a commit that began before it
abbrev pub flush_by_an_older_commit : List Act
flush_by_an_older_commit = Begin_commit ∷ Sync_cache ∷ Sync_origin ∷ Write 0 0 one ∷ Finish 0 0 ∷ Begin_flush 1 ∷ Write_root ∷ End_commit ∷ End_flush 1 ∷ []

-- a flush of two syncs alone, after a block has left the cache
abbrev pub flush_of_syncs_alone : List Act
flush_of_syncs_alone = Map 0 0 ∷ Begin_commit ∷ Sync_cache ∷ Sync_origin ∷ Write_root ∷ End_commit ∷ Unmap 0 ∷ Write 0 0 one ∷ Finish 0 0 ∷ Begin_flush 1 ∷ Sync_cache ∷ Sync_origin ∷ End_flush 1 ∷ []

-- a root before its syncs
abbrev pub root_before_its_syncs : List Act
root_before_its_syncs = Write 0 0 one ∷ Finish 0 0 ∷ Begin_flush 1 ∷ Begin_commit ∷ Write_root ∷ End_commit ∷ End_flush 1 ∷ []

-- an opening without the origin's sync
abbrev pub opening_without_the_origin_sync : List Act
opening_without_the_origin_sync = Write 0 0 one ∷ Find_image false ∷ Sync_cache ∷ Write_opening_root ∷ Open Writeback ∷ []

-- a cache block is filled that the committed image still names
abbrev pub committed_cache_block_filled : List Act
committed_cache_block_filled = Map 0 0 ∷ Make_dirty 0 ∷ Write 0 0 one ∷ Finish 0 0 ∷ Begin_flush 1 ∷ Begin_commit ∷ Sync_cache ∷ Sync_origin ∷ Write_root ∷ End_commit ∷ End_flush 1 ∷ Copy_back 0 0 ∷ Unmap 0 ∷ Fill_cache 0 0 [] ∷ []

-- a block leaves the cache, dirty and not copied
abbrev pub dirty_block_removed_uncopied : List Act
dirty_block_removed_uncopied = Map 0 0 ∷ Make_dirty 0 ∷ Write 0 0 one ∷ Unmap 0 ∷ []

-- passthrough over a block that is not known to be clean
abbrev pub passthrough_over_a_dirty_block : List Act
passthrough_over_a_dirty_block = Map 0 0 ∷ Make_dirty 0 ∷ Write 0 0 one ∷ Begin_commit ∷ Sync_cache ∷ Sync_origin ∷ Write_root ∷ End_commit ∷ Find_image false ∷ Sync_cache ∷ Sync_origin ∷ Write_opening_root ∷ Open Passthrough ∷ []

-- And a run over two lives in which all may happen.
abbrev pub two : Content
two = 2 ∷ []

abbrev pub two_lives : List Act
two_lives = Map 0 0 ∷ Make_dirty 0 ∷ Write 0 0 one ∷ Finish 0 0 ∷ Begin_flush 1 ∷ Begin_commit ∷ Sync_cache ∷ Sync_origin ∷ Write_root ∷ End_commit ∷ End_flush 1 ∷ Write 0 0 two ∷
    Crash blank_volume one_kept false ∷ Find_image false ∷ Sync_cache ∷ Sync_origin ∷ Write_opening_root ∷ Open Writethrough ∷ Write_origin 0 0 two ∷ Write_cache 0 0 ∷ Finish 0 0 ∷ []

-- The third life is opened clean, in passthrough.
abbrev pub a_third_life : List Act
a_third_life = Make_clean 0 ∷ Begin_suspend ∷ Sync_cache ∷ Sync_origin ∷ Write_root ∷ End_commit ∷ Find_image false ∷ Sync_cache ∷ Sync_origin ∷ Write_opening_root ∷ Open Passthrough ∷ Unmap 0 ∷ Write 0 0 one ∷ Finish 0 0 ∷ []

-- A copy that puts an entry of the history on the origin, but not one from the last finished write on.
abbrev pub flushed_one : Volume
flushed_one = volume_after_all (first_volume Writeback blank_volume) (Write 0 0 one ∷ Finish 0 0 ∷ Begin_flush 1 ∷ Begin_commit ∷ Sync_cache ∷ Sync_origin ∷ Write_root ∷ End_commit ∷ End_flush 1 ∷ Fill_cache 0 0 one ∷ Map 0 0 ∷ [])

abbrev pub stale_copy : Volume
stale_copy = record flushed_one { origin = changed_at flushed_one.origin 0 0 (added (flushed_one.origin 0 0) nothing) }
