-- Numbers of versions.
use Rattle.std.proofs.Common.{◌≡◌, refl, arith}
use Rattle.wb_types.specs.Versions.{version_number}
use Rattle.wb_types.specs.declared.version.Version.{Version}
use Rattle.wb_types.specs.declared.version.Version.TheVariants.{One, Two}

-- no two versions have one number
pub one_version : (a b : Version) → version_number a ≡ version_number b → a ≡ b
one_version One One e = refl
one_version Two Two e = refl
one_version One Two e = absurd (omega arith)
one_version Two One e = absurd (omega arith)
