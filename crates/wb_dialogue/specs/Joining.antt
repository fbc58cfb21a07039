-- What is printed at a join.
use Rattle.std.specs.Prelude.{◌++◌, ℕ, List}
use Rattle.std.specs.List.{flat_map}
use Rattle.wb_dialogue.specs.declared.told.Told.{Told}
use Rattle.wb_dialogue.specs.Leading.{led_by, repeated, want_of_memory}

-- what is printed of a client: its answers, and behind them its lines for which there was no memory
abbrev pub printed : Told → List ℕ
printed told = told.text.items ++ repeated told.past (led_by told.client want_of_memory)

-- client by client
abbrev pub all_printed : List Told → List ℕ
all_printed all = flat_map printed all
