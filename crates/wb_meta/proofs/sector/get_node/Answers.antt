use Rattle.std.proofs.Common.{sym, ◌∙◌}
use Rattle.wb_dirty.proofs.Images.{IfSome-weaker}
use Rattle.wb_meta.proofs.Sectors.{on_ok, node_there}
use Rattle.wb_meta.proofs.sector.get_node.Goals as goal

pub returns-clause-of_version : goal.returns-clause-of_version
returns-clause-of_version g c = IfSome-weaker c.read-2.result _ _ (λ node spelled. spelled.version_has) c.read-2.ensures.found

pub returns-clause-found : goal.returns-clause-found
returns-clause-found g c tells =
    let given = on_ok c.read.result (sym c.is_err.ensures.value ∙ c.if-is_err.false) (c.read.ensures.given tells) in
    node_there c.args.version (g.D.Disk.contents c.args.disk.now) c.args.at _ c.read-2.result given c.read-2.ensures.found c.read-2.ensures.only
