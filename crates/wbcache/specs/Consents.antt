-- What the program lets a formatting write over.
use Rattle.std.specs.Prelude.{◌≢◌, Bool}
use Rattle.wb_script.specs.declared.given_up.Overwritten.{Overwritten}
use Rattle.wb_script.specs.declared.given_up.Wishes.{Wishes}
use Rattle.wb_script.specs.declared.given_up.Course.TheVariants.{Refuses}
use Rattle.wb_script.specs.Formatting.{course_over}

-- what is not refused: with these wishes it goes on, or somebody on a terminal is asked
abbrev pub MayGoOn : Overwritten → Wishes → Bool → Type 0
MayGoOn over wishes is_terminal = course_over over wishes is_terminal ≢ Refuses
