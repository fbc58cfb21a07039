use Rattle.std.proofs.Common.{◌≡◌, map, replicate, length, refl, sym, ap, ◌∙◌, arith}
use Rattle.std.proofs.lemmas.Grind.{common_steps}
use Rattle.std.proofs.lemmas.List.{length-replicate}
use Rattle.wb_space.specs.declared.block.Block.{Block}
use Rattle.wb_space.specs.declared.block.Block.TheVariants.{Mapped}
use Rattle.wb_space.specs.Blocks.{is_free, is_late, is_early}
use Rattle.wb_space.proofs.States.{indexed_replicate}
use Rattle.wb_space.proofs.blocks.Blocks.all_mapped.Goals as goal

pub invariant_of-result : goal.invariant_of-result
invariant_of-result c =
    let e : c.in_ok-vec.field-0.items ≡ replicate c.args.count Mapped = grind (arith, common_steps) in
    record {
      small = omega (arith, ap length e, length-replicate {A = Block} c.args.count Mapped, c.requires);
      free = c.in_ok-new.ensures ∙ indexed_replicate is_free c.args.count Mapped refl ∙ sym (ap (map is_free) e);
      late = c.in_ok-new-2.ensures ∙ indexed_replicate is_late c.args.count Mapped refl ∙ sym (ap (map is_late) e);
      early = c.in_ok-new-3.ensures ∙ indexed_replicate is_early c.args.count Mapped refl ∙ sym (ap (map is_early) e);
    }
