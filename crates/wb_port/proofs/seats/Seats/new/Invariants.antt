use Rattle.std.proofs.Common.{◌≡◌, length}
use Rattle.std.specs.Prelude.{All}
use Rattle.wb_port.specs.declared.seat.Seat.{Seat}
use Rattle.wb_port.proofs.seats.Seats.new.Given as goal

abbrev pub invariant-loop : goal.invariant-loop
invariant-loop l = record {
  many : length l.spare.items ≡ l.counter;
  words : All (λ (one : Seat). one.cells.value.table ≡ l.fn.seat.cells.value.table) l.spare.items;
  left : l.left.cells.value.table ≡ l.fn.seat.cells.value.table;
  geometry : l.left.geometry ≡ l.fn.seat.geometry;
  card : l.left.pass.card ≡ l.fn.seat.pass.card;
}
