-- What lies under a target's lock.
use Rattle.std.specs.Prelude.{◌≡◌, ℕ, List}
use Rattle.wb_desk.specs.Desks.{DeskState}
use Rattle.wb_port.specs.declared.seat.Seat.{Seat}

-- Its desk, the seats that no client has, for how many there is room, and the seat by which the office itself looks at the words.
pub record OfficeState (P : Type 0) : Type 0 where
  pub desk : DeskState P
  pub seats : List Seat
  pub room : ℕ
  pub watch : Seat

-- the desk and the words are of one origin
abbrev pub AreOfOneOrigin : {P : Type 0} → DeskState P → Seat → Type 0
AreOfOneOrigin desk watch = desk.geometry.origin_blocks ≡ watch.geometry.origin_blocks
