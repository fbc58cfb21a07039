use Rattle.wb_contents.proofs.Witness.{stale_copy_breaks, early_suspend_breaks, late_flush_breaks, mere_syncs_breaks, early_root_breaks, hasty_opening_breaks, early_fill_breaks, lost_copy_breaks, blind_pass_breaks}
use Rattle.wb_contents.proofs.conditions_are_needed.Goals as goal

pub returns : goal.returns
returns c = record {
  suspend_root_before_its_syncs = early_suspend_breaks;
  flush_by_an_older_commit = late_flush_breaks;
  flush_of_syncs_alone = mere_syncs_breaks;
  root_before_its_syncs = early_root_breaks;
  opening_without_the_origin_sync = hasty_opening_breaks;
  committed_cache_block_filled = early_fill_breaks;
  dirty_block_removed_uncopied = lost_copy_breaks;
  passthrough_over_a_dirty_block = blind_pass_breaks;
  an_entry = stale_copy_breaks.0;
  stale_copy = stale_copy_breaks.1;
}
