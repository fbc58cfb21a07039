use Rattle.std.proofs.Common.{refl, arith}
use Rattle.wb_files.proofs.Telling.{told_ended, told_ended_late}
use Rattle.wb_files.proofs.ledger.SyncLedger.end_well.Goals as goal

pub returns-then-number-self : goal.returns-then-number-self
returns-then-number-self c = record {
  told = λ events told some begun. told_ended events c.args.self.now _ c.args.sync.number refl refl refl refl c.if-number-self.true told;
  unnoted = λ events told over. absurd (omega (arith, over, told.begun, c.if-number-self.true));
}

pub returns-else-self-number : goal.returns-else-self-number
returns-else-self-number c = record {
  told = λ events told some begun. told_ended_late events c.args.self.now c.args.sync.number told;
  unnoted = λ events told over. refl;
}
