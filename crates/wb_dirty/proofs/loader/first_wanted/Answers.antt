use Rattle.std.proofs.Common.{◌≡◌, ◌∙◌, sym, ap, false}
use Rattle.wb_types.specs.Limits.{dirty_depth_of}
use Rattle.wb_dirty.specs.Reading.{is_among}
use Rattle.wb_dirty.proofs.Loads.{top-none, top-some}
use Rattle.wb_dirty.proofs.loader.first_wanted.Goals as goal

pub returns-in_default-clause-begun : goal.returns-in_default-clause-begun
returns-in_default-clause-begun c asked nodes marks root reached = top-none asked nodes (dirty_depth_of c.args.root.now.geometry.cache_blocks) c.args.root.now.top_dirty marks c.in_default.is

pub returns-clause-begun : goal.returns-clause-begun
returns-clause-begun c asked nodes marks root reached =
    let unread : is_among c.in-Some.top.0 marks.reached ≡ false = ap (is_among c.in-Some.top.0) reached ∙ (sym c.contains.ensures ∙ c.if-contains.false) in
    top-some asked nodes (dirty_depth_of c.args.root.now.geometry.cache_blocks) c.args.root.now.top_dirty c.in-Some.top c.top_at.result marks c.in-Some.is c.top_at.ensures.is unread
