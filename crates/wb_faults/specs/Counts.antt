-- How often a disk has failed, beside how often one inside it has.
use Rattle.std.specs.Prelude.{◌+◌, ◌^◌, ◌%◌, ℕ}

-- the sum of both, modulo 2^64
abbrev pub faults_with : ℕ → ℕ → ℕ
faults_with inside own = (inside + own) % 2 ^ 64
