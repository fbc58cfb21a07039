use Rattle.std.proofs.Common.{◌≡◌, Some, sym, ap, ◌∙◌}
use Rattle.wb_format.proofs.Values.{one_root}
use Rattle.wb_format.proofs.root.Root.read.Goals as goal

pub returns-in_err-geometry-clause-only : goal.returns-in_err-geometry-clause-only
returns-in_err-geometry-clause-only c root spelled =
    let k : c.geometry_at.result ≡ Some root.geometry = c.geometry_at.ensures.only root.geometry spelled.geometry in
    let none = c.in_err-geometry.was in
    absurd cc

pub returns-clause-found : goal.returns-clause-found
returns-clause-found c = record {
  bytes = record { size = c.told-content; bytes = c.fits-content };
  magic = sym c.u64_at.ensures ∙ (c.if-u64_at-from_le_bytes.false ∙ c.from_le_bytes.ensures);
  generation = sym c.u64_at-2.ensures;
  version = c.in_ok-geometry.ensures.found.version;
  flags = sym c.u32_at.ensures ∙ c.in_ok-clean.ensures.found;
  geometry = c.in_ok-geometry.ensures.found;
  top = sym c.u32_at-2.ensures ∙ c.in_ok-top.ensures.found;
  top_dirty = sym c.u32_at-3.ensures ∙ c.in_ok-top_dirty.ensures.found;
  rest = c.is_zero.ensures.0 c.if-not-is_zero.false;
}

pub returns-clause-only : goal.returns-clause-only
returns-clause-only c root spelled = ap Some (one_root c.args.content.now _ root (returns-clause-found c) spelled)
