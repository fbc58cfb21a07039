use Rattle.std.proofs.lemmas.Result.{IfErr-weaker}
use Rattle.wb_target.specs.NotOpened.{AreNoSizes}
use Rattle.wb_target.proofs.Measured.{outside}
use Rattle.wb_target.proofs.opening.measure.Goals as goal

pub returns-clause-no_sizes : goal.returns-clause-no_sizes
returns-clause-no_sizes g c =
    let size = g.D.Disk.size in
    let devices = c.args.devices.now in
    IfErr-weaker c.of_devices.result _ (λ refusal. AreNoSizes size devices c.args.block c.args.metadata2)
    (λ refusal out. outside size devices c.args.block c.args.metadata2 c.sectors-metadata.result c.sectors-cache.result c.sectors-origin.result
    c.sectors-metadata.ensures c.sectors-cache.ensures c.sectors-origin.ensures out)
    c.of_devices.ensures.outside
