use Rattle.std.proofs.Common.{◌∙◌, inl, inr, refl}
use Rattle.wb_meta.proofs.Loaded.{IfErr-handed}
use Rattle.wb_target.specs.Carried.{client_state, Runs}
use Rattle.wb_target.specs.Workers.{Turn}
use Rattle.wb_target.proofs.Tries.{again}
use Rattle.wb_target.proofs.Turns.{looked, works, idles, stopped}
use Rattle.wb_target.specs.Works.{AskedSharing}
use Rattle.wb_target.specs.Told.{WasNext}
use Rattle.wb_target.proofs.worker.work_off.Goals as goal

pub returns-then-has_failed-clause-failed : goal.returns-then-has_failed-clause-failed
returns-then-has_failed-clause-failed g c =
    let set = c.if-has_failed.ensures.set in record {
      turns = c.loop.invariant.turned.0;
      last = client_state c.loop.port;
      took = c.loop.invariant.turned.1;
      saw = inl (refl, (set.0, set.1, looked set.0 c.loop.port c.has_failed.new.self set.2 c.has_failed.ensures.buffer c.has_failed.ensures.commit));
    }

pub returns-then-not-go_on-clause-ended : goal.returns-then-not-go_on-clause-ended
returns-then-not-go_on-clause-ended g c = record {
  turns = c.loop.invariant.turned.0;
  last = client_state c.loop.port;
  took = c.loop.invariant.turned.1;
  new_is = looked 0 c.loop.port c.has_failed.new.self c.if-has_failed.ensures.clear c.has_failed.ensures.buffer c.has_failed.ensures.commit;
  no = inl c.if-not-go_on.ensures;
}

pub returns-in_err-take_turn-clause-failed : goal.returns-in_err-take_turn-clause-failed
returns-in_err-take_turn-clause-failed g c =
    let first = c.args.port.now.geometry in
    let seen = c.has_failed.new.self in
    IfErr-handed c.from_residual.result c.in_err-take_turn.field-0.0 _ c.from_residual.ensures.1 (record {
      turns = c.loop.invariant.turned.0;
      last = client_state c.loop.port;
      took = c.loop.invariant.turned.1;
      saw = inr (
        c.if-not-go_on.ensures,
        stopped g.D.Disk.tells g.D.Disk.size g.D.Disk.contents g.D.Disk.faults (AskedSharing g.P.Policy.with_entry g.P.Policy.without_entry) (WasNext g.row.P.Denot) g.G.Gate.answers c.args.gate.now first seen.geometry (c.has_failed.ensures.geometry ∙ c.loop.invariant.geometry) (client_state c.loop.port) (client_state seen) (client_state c.take_turn.new.port)
            (looked 0 c.loop.port seen c.if-has_failed.ensures.clear c.has_failed.ensures.buffer c.has_failed.ensures.commit) c.in_err-take_turn.ensures.stopped,
      );
    })

pub returns-then-not-go_on-2-clause-ended : goal.returns-then-not-go_on-2-clause-ended
returns-then-not-go_on-2-clause-ended g c = record {
  turns = c.loop.invariant.turned.0;
  last = client_state c.loop.port;
  took = c.loop.invariant.turned.1;
  new_is = c.in_ok-take_turn.ensures.none_waits c.if-branch.false ∙ looked 0 c.loop.port c.has_failed.new.self c.if-has_failed.ensures.clear c.has_failed.ensures.buffer c.has_failed.ensures.commit;
  no = inr c.if-not-go_on-2.ensures;
}

pub loop-preserved : goal.loop-preserved
loop-preserved g c =
    let first = c.args.port.now.geometry in
    let seen = c.has_failed.new.self in
    let same = c.has_failed.ensures.geometry ∙ c.loop.invariant.geometry in record {
      geometry = c.take_turn.ensures.geometry ∙ same;
      turned = again (Turn (Runs g.D.Disk.tells g.D.Disk.size g.D.Disk.contents g.D.Disk.faults (AskedSharing g.P.Policy.with_entry g.P.Policy.without_entry) first.origin_blocks) (WasNext g.row.P.Denot) first g.G.Gate.answers c.args.gate.now) (client_state c.args.port.now) (client_state c.loop.port) (client_state c.take_turn.new.port) c.loop.invariant.turned
          (idles g.D.Disk.tells g.D.Disk.size g.D.Disk.contents g.D.Disk.faults (AskedSharing g.P.Policy.with_entry g.P.Policy.without_entry) (WasNext g.row.P.Denot) g.G.Gate.answers c.args.gate.now first seen.geometry same (client_state c.loop.port) (client_state seen) (client_state c.take_turn.new.port)
          (looked 0 c.loop.port seen c.if-has_failed.ensures.clear c.has_failed.ensures.buffer c.has_failed.ensures.commit) c.if-not-go_on.ensures (c.in_ok-take_turn.ensures.none_next c.if-branch.false) c.if-not-go_on-2.ensures (c.in_ok-take_turn.ensures.none_waits c.if-branch.false));
    }

pub loop-preserved-then-branch : goal.loop-preserved-then-branch
loop-preserved-then-branch g c =
    let first = c.args.port.now.geometry in
    let seen = c.has_failed.new.self in
    let same = c.has_failed.ensures.geometry ∙ c.loop.invariant.geometry in record {
      geometry = c.take_turn.ensures.geometry ∙ same;
      turned = again (Turn (Runs g.D.Disk.tells g.D.Disk.size g.D.Disk.contents g.D.Disk.faults (AskedSharing g.P.Policy.with_entry g.P.Policy.without_entry) first.origin_blocks) (WasNext g.row.P.Denot) first g.G.Gate.answers c.args.gate.now) (client_state c.args.port.now) (client_state c.loop.port) (client_state c.take_turn.new.port) c.loop.invariant.turned
          (works g.D.Disk.tells g.D.Disk.size g.D.Disk.contents g.D.Disk.faults (AskedSharing g.P.Policy.with_entry g.P.Policy.without_entry) (WasNext g.row.P.Denot) g.G.Gate.answers c.args.gate.now first seen.geometry same (client_state c.loop.port) (client_state seen) (client_state c.take_turn.new.port)
          (looked 0 c.loop.port seen c.if-has_failed.ensures.clear c.has_failed.ensures.buffer c.has_failed.ensures.commit) c.if-not-go_on.ensures (c.in_ok-take_turn.ensures.took c.if-branch.true));
    }
