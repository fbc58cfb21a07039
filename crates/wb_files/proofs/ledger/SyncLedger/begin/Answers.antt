use Rattle.std.proofs.Common.{◌+◌, ℕ, refl, ap, arith}
use Rattle.wb_files.proofs.Telling.{told_began}
use Rattle.wb_files.proofs.ledger.SyncLedger.begin.Goals as goal

pub returns : goal.returns
returns c = (λ some events told. (ap (λ (n : ℕ). n + 1) told.begun, told_began events c.args.self.now _ refl refl refl refl told), λ none. absurd (omega (arith, none)))
