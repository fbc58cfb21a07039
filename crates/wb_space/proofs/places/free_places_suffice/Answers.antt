use Rattle.wb_space.proofs.Suffices.{places_suffice}
use Rattle.wb_space.proofs.places.free_places_suffice.Goals as goal

pub returns : goal.returns
returns g = λ n m committed running. places_suffice n m committed running
