use Rattle.std.proofs.Common.{refl}
use Rattle.wb_files.proofs.Telling.{told_failed, true_is_not_false}
use Rattle.wb_files.proofs.ledger.SyncLedger.note_failure.Goals as goal

pub returns : goal.returns
returns c = record {
  told = λ events told. told_failed events c.args.self.now _ refl refl refl told;
  uncovered = λ by. absurd (true_is_not_false by.1);
}
