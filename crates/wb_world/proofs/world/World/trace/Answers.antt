use Rattle.wb_world.proofs.world.World.trace.Goals as goal

pub returns-clause-promises : goal.returns-clause-promises
returns-clause-promises c run =
    let life = c.args.self.now in
    record {
      headline = c.headline.ensures life.shape run.metadata run.happenings run.formatted run.size run.run;
      reads = c.reads_give_the_latest_write.ensures life.shape run.metadata run.happenings run.formatted run.size run.run;
    }
