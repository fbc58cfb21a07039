use Rattle.std.proofs.Common.{refl}
use Rattle.wb_target.proofs.making.MakingStage.new.Goals as goal

pub returns : goal.returns
returns g c = record {
  goes_on = c.new-stage.ensures.goes_on (g.D.Disk.size c.new-stage.result.devices.metadata);
  devices = c.new-stage.ensures.devices;
  geometry = c.new-stage.ensures.geometry;
  begins = c.new-stage.ensures.begins;
  mode = c.new-stage.ensures.mode;
  keys = refl;
  made = refl;
}
