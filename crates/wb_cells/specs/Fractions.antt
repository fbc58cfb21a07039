-- Parts of the whole, which can be halved any number of times.
use Rattle.std.specs.Prelude.{◌≡◌, ℕ, zero, suc, ◌+◌, ◌-◌, ◌*◌}
use Rattle.wb_cells.specs.declared.view.Fraction.{Fraction}

-- n, doubled k times
abbrev pub doubled : ℕ → ℕ → ℕ
doubled n zero = n
doubled n (suc k) = 2 * doubled n k

-- the pieces of a fraction where the whole is halved d times
abbrev pub pieces_at : ℕ → Fraction → ℕ
pieces_at d fraction = doubled fraction.pieces (d - fraction.halvings)

abbrev pub IsWhole : Fraction → Type 0
IsWhole fraction = fraction.pieces ≡ doubled 1 fraction.halvings

abbrev pub the_whole : Fraction
the_whole = record { pieces = 1; halvings = 0 }

abbrev pub no_fraction : Fraction
no_fraction = record { pieces = 0; halvings = 0 }

abbrev pub half : Fraction → Fraction
half fraction = record { pieces = fraction.pieces; halvings = fraction.halvings + 1 }

-- two parts together, in pieces of the one that was halved more often
abbrev pub together : Fraction → Fraction → Fraction
together p q = record { pieces = doubled p.pieces (q.halvings - p.halvings) + doubled q.pieces (p.halvings - q.halvings); halvings = p.halvings + (q.halvings - p.halvings) }
