use Rattle.std.proofs.Common.{Some, sym, ap, ◌∙◌}
use Rattle.wb_format.proofs.Values.{one_geometry}
use Rattle.wb_format.proofs.root.geometry_at.Goals as goal

pub returns-in-Ok-clause-only : goal.returns-in-Ok-clause-only
returns-in-Ok-clause-only c geometry spelled =
    ap Some (one_geometry c.args.content.now c.in-Ok.geometry geometry (record {
      block = sym (c.in-Ok.ensures.blocks.0 ∙ c.from-block.ensures ∙ c.u32_at.ensures);
      cache_blocks = sym (c.in-Ok.ensures.blocks.1 ∙ c.from-cache_blocks.ensures ∙ c.u32_at-2.ensures);
      origin_blocks = sym (c.in-Ok.ensures.blocks.2 ∙ c.from-origin_blocks.ensures ∙ c.u32_at-3.ensures);
      meta_sectors = sym (c.in-Ok.ensures.meta_sectors ∙ c.from-meta_sectors.ensures ∙ c.u32_at-4.ensures);
      version = sym c.u32_at-version.ensures ∙ c.in-Ok.ensures.version;
    }) spelled)
