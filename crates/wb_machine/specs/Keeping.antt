-- What becomes of the orders of an actor.
use Rattle.std.specs.Prelude.{◌≡◌, List, Option, Some, None, Vec}
use Rattle.std.specs.declared.alloc.Global.{Global}
use Rattle.wb_policy.specs.declared.order.Order.{Order}
use Rattle.wb_tasks.specs.declared.step.Got.{Got}
use Rattle.wb_tasks.specs.declared.step.Got.TheVariants.{Done}

-- a list becomes another, or stays where none is given
abbrev pub IsLeft : List Order → Option (Vec Order Global) → List Order → Type 0
IsLeft old None new = new ≡ old
IsLeft old (Some left) new = new ≡ left.items

-- where a step was done; with any other result it stays
abbrev pub IsLeftBy : Got → List Order → Option (Vec Order Global) → List Order → Type 0
IsLeftBy Done old left new = IsLeft old left new
IsLeftBy got old left new = new ≡ old
