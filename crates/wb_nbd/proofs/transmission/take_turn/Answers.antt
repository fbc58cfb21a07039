use Rattle.std.proofs.Common.{ℕ, Option, subst}
use Rattle.wb_nbd.specs.declared.job.Job.{Job}
use Rattle.wb_nbd.specs.Jobs.{AsksFor, BytesAsk}
use Rattle.wb_nbd.specs.Performing.{TaskFits}
use Rattle.wb_nbd.proofs.Fitting.{asked_fits}
use Rattle.wb_nbd.proofs.transmission.take_turn.Goals as goal

pub send-requires : goal.send-requires
send-requires g c =
    let asked : AsksFor (g.E.Export.size c.args.export.now) c.in_ok-job.ensures.0 c.in-Some.job
    = subst (λ (size : ℕ). AsksFor size c.in_ok-job.ensures.0 c.in-Some.job) c.sectors-size.ensures
    (subst (λ (job : Option Job). BytesAsk c.sectors-size.result c.in_ok-job.ensures.0 job) c.in-Some.is c.in_ok-job.ensures.2) in
    let fits : TaskFits (g.E.Export.size c.args.export.now) c.in-Some.job.task = asked_fits _ asked.request asked.payload c.in-Some.job.task asked.task in
    record { answered = (c.perform.ensures.cookie, (c.args.export.now, c.perform.ensures.told fits)) }

pub returns-clause-turn : goal.returns-clause-turn
returns-clause-turn g c goes =
    let asked : AsksFor (g.E.Export.size c.args.export.now) c.in_ok-job.ensures.0 c.in-Some.job
    = subst (λ (size : ℕ). AsksFor size c.in_ok-job.ensures.0 c.in-Some.job) c.sectors-size.ensures
    (subst (λ (job : Option Job). BytesAsk c.sectors-size.result c.in_ok-job.ensures.0 job) c.in-Some.is c.in_ok-job.ensures.2) in
    let fits : TaskFits (g.E.Export.size c.args.export.now) c.in-Some.job.task = asked_fits _ asked.request asked.payload c.in-Some.job.task asked.task in
    record {
      asked = c.in_ok-job.ensures.0;
      job = c.in-Some.job;
      answer = c.perform.result;
      taken = c.in_ok-job.ensures.1;
      spelled = asked;
      cookie = c.perform.ensures.cookie;
      done = c.perform.ensures.told fits;
      sent = c.in_ok-send.ensures.sent;
    }
