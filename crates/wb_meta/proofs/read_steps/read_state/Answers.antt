use Rattle.std.proofs.Common.{◌∙◌, sym, ap, subst, refl, List, map, length}
use Rattle.std.specs.List.{slice_get}
use Rattle.std.proofs.lemmas.List.{length-map}
use Rattle.wb_disk.specs.Device.{History, newest}
use Rattle.wb_meta.specs.Reads.{AreStepsOn}
use Rattle.wb_meta.proofs.read_steps.read_state.Goals as goal

pub loop-steps-init : goal.loop-steps-init
loop-steps-init g c = record {
  size = refl;
  stored = λ tells. refl;
  on = c.new-steps.ensures.on (g.D.Disk.size c.args.disk.now);
  read = λ tells. c.new-steps.ensures.begins (map newest (g.D.Disk.contents c.args.disk.now));
  no_fault = λ tells. refl;
}

pub loop-steps-preserved : goal.loop-steps-preserved
loop-steps-preserved g c =
    let device = g.D.Disk.contents c.args.disk.now in
    let now = g.D.Disk.contents c.loop-steps.disk in
    let size = c.loop-steps.invariant.size in
    record {
      size = c.next.ensures.size ∙ size;
      stored = λ tells. c.next.ensures.same tells ∙ c.loop-steps.invariant.stored tells;
      on = subst (λ n. AreStepsOn n c.in_ok-steps-in_default.steps) size c.in_ok-steps-in_default.ensures.on;
      read = λ tells. c.in_ok-steps-in_default.ensures.read tells (map newest device)
          (record {
            size = length-map device newest ∙ ap (λ (d : List History). length d) (sym (c.loop-steps.invariant.stored tells));
            here = λ place e. ap (λ (d : List History). slice_get (map newest d) place) (sym (c.loop-steps.invariant.stored tells));
          })
          (c.loop-steps.invariant.read tells);
      no_fault = λ tells. c.in_ok-steps-in_default.ensures.no_fault tells ∙ c.loop-steps.invariant.no_fault tells;
    }
