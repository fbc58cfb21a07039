use Rattle.std.proofs.Common.{arith, rules, refl, sym, subst, inl, inr, ◌≡◌, length}
use Rattle.wb_tree.specs.declared.image.Image.{Image}
use Rattle.std.specs.declared.alloc.Global.{Global}
use Rattle.wb_meta.specs.declared.read_steps.ReadSteps.TheVariants.{Done as AllRead}
use Rattle.wb_devices.specs.Converting.{IsConverted}
use Rattle.wb_devices.proofs.Alike.{wants_conversion}
use Rattle.wb_devices.proofs.Stopping.{of_root, of_served}
use Rattle.wb_devices.proofs.opening.Opening.has_read.Goals as goal

pub returns-in-Ok-clause-come : goal.returns-in-Ok-clause-come
returns-in-Ok-clause-come c = (
  refl,
  of_served {A = Global} c.args.self.now.geometry (AllRead c.args.state) c.args.state.root refl c.if-is_served_by.ensures.serves,
  record {
    is_done = tt;
    root = c.args.state.root;
    newest = refl;
    next = c.in-Ok.commit;
    commit_is = refl;
    opens = c.in-Ok.ensures.image;
    steps = c.in-Ok.ensures.steps;
  },
)

pub returns-in-Err-clause-come : goal.returns-in-Err-clause-come
returns-in-Err-clause-come c = (c.requires.none, refl, inr (inl (c.in-Err.ensures.refused.0, tt, (c.args.state.root, refl, c.in-Err.ensures.refused.1))))

pub returns-then-left-node_count-clause-come : goal.returns-then-left-node_count-clause-come
returns-then-left-node_count-clause-come c = (
  c.requires.none,
  refl,
  inr (omega (arith, c.if-left-node_count.true, c.node_count.ensures.value), (c.args.state, wants_conversion c.args.self.now.geometry c.args.state c.requires.sizes c.if-is_served_by.ensures.not)),
)

pub returns-in-Ok-convert-clause-come : goal.returns-in-Ok-convert-clause-come
returns-in-Ok-convert-clause-come c =
    let converted : IsConverted c.args.self.now.geometry c.args.state c.in-Ok-convert.image c.in-Ok-convert.converted = c.in-Ok-convert.ensures.converted in
    let count : c.len-nodes.result ≡ length c.in-Ok-convert.image.nodes.items = search rules in (
      of_root {A = Global} c.args.self.now.geometry (AllRead c.args.state) c.args.state.root refl c.requires.sizes,
      omega (arith, c.if-left-node_count.false, c.node_count.ensures.value, converted.few, count),
      record {
        old = c.args.state;
        wants = wants_conversion c.args.self.now.geometry c.args.state c.requires.sizes c.if-is_served_by.ensures.not;
        new = c.in-Ok-convert.converted;
        after_is = refl;
        next = c.new.result;
        commit_is = refl;
        steps = c.new.ensures.steps;
        converted = subst (λ (image : Image). IsConverted c.args.self.now.geometry c.args.state image c.in-Ok-convert.converted) (sym c.new.ensures.image) converted;
        count = subst (λ (image : Image). c.len-nodes.result ≡ length image.nodes.items) (sym c.new.ensures.image) count;
      },
    )

pub returns-in-Err-convert-clause-come : goal.returns-in-Err-convert-clause-come
returns-in-Err-convert-clause-come c =
    let wants = wants_conversion c.args.self.now.geometry c.args.state c.requires.sizes c.if-is_served_by.ensures.not in (
      c.requires.none,
      refl,
      elim c.in-Err-convert.ensures.refused [
        | inl memory ↦ inr (inr (memory, (c.args.state, wants)))
        | inr end ↦ inr (inl (end.0, tt, (c.args.state.root, refl, end.1)))
      ],
    )
