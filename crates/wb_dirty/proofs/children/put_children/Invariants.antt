use Rattle.std.proofs.Common.{◌≡◌, ◌≤◌, ◌+◌, ◌-◌, ◌++◌, reverse}
use Rattle.std.specs.Prelude.{All}
use Rattle.wb_dirty.specs.Reading.{children_from}
use Rattle.wb_dirty.specs.Loading.{IsLevelOfChild}
use Rattle.wb_dirty.proofs.children.put_children.Given as goal

abbrev pub invariant-loop-k : goal.invariant-loop-k
invariant-loop-k l = record {
  levels : All IsLevelOfChild l.left.items;
  room : l.left.len + (32 - l.k) ≤ l.left.cap;
  put : reverse l.left.items ≡ children_from l.k (l.parent.level - 1) l.parent.index l.parent.place l.words (32 - l.k) ++ reverse l.fn.left.items;
}
