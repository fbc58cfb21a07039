use Rattle.wb_contents.proofs.Devices.{read_is_newest, write_is_act, sync_is_act, failed_sync_is_act, crash_is_act}
use Rattle.wb_contents.proofs.device_steps_are_acts.Goals as goal

pub returns : goal.returns
returns c = record { read = read_is_newest; write = write_is_act; sync = sync_is_act; failed_sync = failed_sync_is_act; crash = crash_is_act }
