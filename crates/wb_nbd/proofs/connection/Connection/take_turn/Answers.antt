use Rattle.wb_nbd.proofs.Fitting.{WasTaken, taken_fits}
use Rattle.wb_nbd.proofs.connection.Connection.take_turn.Goals as goal

pub send-requires-clause-answered : goal.send-requires-clause-answered
send-requires-clause-answered g c =
    let taken : WasTaken (g.E.Export.size c.args.export.now) c.in-Some.job = taken_fits _ _ _ c.in-Some.job c.sectors-size.ensures c.in-Some.is c.in_ok-job.ensures.asked in
    (c.perform-answer.ensures.cookie, (c.args.export.now, c.perform-answer.ensures.told taken.fits))

pub returns-clause-turn : goal.returns-clause-turn
returns-clause-turn g c goes =
    let taken : WasTaken (g.E.Export.size c.args.export.now) c.in-Some.job = taken_fits _ _ _ c.in-Some.job c.sectors-size.ensures c.in-Some.is c.in_ok-job.ensures.asked in
    record {
      input = taken.input;
      input_left = taken.left;
      output = g.W.Write.contents c.deref_mut.result.now.writer;
      output_then = g.W.Write.contents c.send.new.self.writer;
      turn = record {
        asked = taken.bytes;
        job = c.in-Some.job;
        answer = c.perform-answer.result;
        taken = taken.taken;
        spelled = taken.asked;
        cookie = c.perform-answer.ensures.cookie;
        done = c.perform-answer.ensures.told taken.fits;
        sent = c.in_ok-send.ensures.sent;
      };
    }
