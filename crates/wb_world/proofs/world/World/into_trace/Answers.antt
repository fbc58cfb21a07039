use Rattle.std.proofs.Common.{ap, refl, sym}
use Rattle.wb_machine.specs.Life.{Life, IsReached}
use Rattle.wb_world.specs.Running.{events_of}
use Rattle.wb_world.proofs.world.World.into_trace.Goals as goal

pub returns : goal.returns
returns c =
    let life : Life = c.self.inside.machine in
    let run : IsReached life = c.into_trace.ensures.reached in
    rw (← c.self.view_is) (record {
      life = life;
      shape_is = refl;
      trace_is = sym c.into_trace.ensures.trace;
      of_events = ap events_of c.into_trace.ensures.trace;
      reached = run;
      promises = record {
        headline = c.headline.ensures life.shape run.metadata run.happenings run.formatted run.size run.run;
        reads = c.reads_give_the_latest_write.ensures life.shape run.metadata run.happenings run.formatted run.size run.run;
      };
    })
