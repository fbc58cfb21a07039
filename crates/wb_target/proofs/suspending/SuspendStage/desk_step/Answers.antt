use Rattle.std.proofs.Common.{refl}
use Rattle.wb_target.proofs.Suspends.{begun_goes, begun_works, ended_goes, ended_works}
use Rattle.wb_target.proofs.suspending.SuspendStage.desk_step.Goals as goal

pub returns-in-BeginCommit-clause-works : goal.returns-in-BeginCommit-clause-works
returns-in-BeginCommit-clause-works g c =
    let old = c.args.self.now in
    let did = c.begin.ensures.did in
    let asked = begun_works g.P.Policy.hint_of g.P.Policy.with_entry g.P.Policy.without_entry old.seen.now c.args.step c.in-BeginCommit.most c.begin.result old.desk.now c.begin.new.desk old.commit.now c.begin.new.commit c.in-BeginCommit.is did in (refl, refl, asked.0, asked.1)

pub returns-in-EndCommit-clause-works : goal.returns-in-EndCommit-clause-works
returns-in-EndCommit-clause-works g c =
    let old = c.args.self.now in
    let asked = ended_works g.P.Policy.hint_of g.P.Policy.with_entry g.P.Policy.without_entry old.seen.now c.args.step c.ask.result old.desk.now c.ask.new.desk old.commit.now c.ask.new.commit (c.in-EndCommit.is) c.ask.ensures.did in (refl, refl, asked.0, asked.1)

pub returns-in-BeginCommit-clause-goes : goal.returns-in-BeginCommit-clause-goes
returns-in-BeginCommit-clause-goes g c =
    let old = c.args.self.now in
    begun_goes g.P.Policy.hint_of g.P.Policy.with_entry g.P.Policy.without_entry old.seen.now c.args.step c.in-BeginCommit.most c.begin.result old.desk.now c.begin.new.desk old.commit.now c.begin.new.commit c.in-BeginCommit.is c.begin.ensures.did

pub returns-in-EndCommit-clause-goes : goal.returns-in-EndCommit-clause-goes
returns-in-EndCommit-clause-goes g c =
    let old = c.args.self.now in
    ended_goes g.P.Policy.hint_of g.P.Policy.with_entry g.P.Policy.without_entry old.seen.now c.args.step c.ask.result old.desk.now c.ask.new.desk old.commit.now c.ask.new.commit (c.in-EndCommit.is) c.ask.ensures.did
