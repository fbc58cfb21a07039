use Rattle.std.proofs.Common.{sym, subst}
use Rattle.std.specs.Prelude.{IfSome}
use Rattle.wb_tree.specs.Loading.{IsFresh}
use Rattle.wb_dirty.specs.declared.image_part.ImagePart.{ImagePart}
use Rattle.wb_dirty.specs.ImageLoading.{ImageLoading, IsBehind, IsImagePart, found_so_far, part_read}
use Rattle.wb_dirty.proofs.Images.{fresh-behind, IfSome-weaker}
use Rattle.wb_dirty.proofs.image_loader.ImageLoader.wanted.Goals as goal

pub returns-in-Behind-clause-fresh : goal.returns-in-Behind-clause-fresh
returns-in-Behind-clause-fresh g c =
    let root = c.self.inside.root in
    let behind : IsBehind root c.in-Behind.tree c.in-Behind.nodes.items c.in-Behind.loader = subst (λ (part : ImagePart _). IsImagePart root part) c.in-Behind.is c.self.invariant in
    subst (λ (l : ImageLoading). IfSome c.wanted-in-Behind.result (IsFresh l.root l.found.reached)) c.self.view_is
    (subst (λ (part : ImagePart _). IfSome c.wanted-in-Behind.result (IsFresh root (found_so_far (part_read root part)).reached)) (sym c.in-Behind.is)
    (IfSome-weaker c.wanted-in-Behind.result _ _ (λ place may. fresh-behind root c.in-Behind.tree c.in-Behind.nodes.items c.in-Behind.loader place behind may) c.wanted-in-Behind.ensures.fresh))
