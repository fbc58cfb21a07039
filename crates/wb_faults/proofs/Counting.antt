-- A fault more of either disk is one more of both.
use Rattle.std.proofs.Common.{ℕ, arith}
use Rattle.wb_disk.specs.Device.{OneMore}
use Rattle.wb_faults.specs.Counts.{faults_with}

pub one_more_own : (inside own own' : ℕ) → OneMore own own' → OneMore (faults_with inside own) (faults_with inside own')
one_more_own inside own own' e = omega (arith, e)

pub one_more_inside : (inside inside' own : ℕ) → OneMore inside inside' → OneMore (faults_with inside own) (faults_with inside' own)
one_more_inside inside inside' own e = omega (arith, e)
