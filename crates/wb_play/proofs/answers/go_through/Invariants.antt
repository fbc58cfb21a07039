use Rattle.std.proofs.Common.{◌≡◌, ◌≤◌, ◌*◌, ◌-◌, ◌++◌, ℕ, List, []}
use Rattle.std.specs.Prelude.{string_bytes}
use Rattle.wb_target.proofs.Tries.{SoFar}
use Rattle.wb_play.specs.Answered.{WentOn}
use Rattle.wb_play.proofs.answers.go_through.Given as goal

abbrev pub invariant-loop-first : goal.invariant-loop-first
invariant-loop-first g l = record {
  within : l.first ≤ l.end;
  inside : l.end ≤ l.geometry.block * l.geometry.origin_blocks;
  sizes : g.C.Served.sizes l.client ≡ l.geometry;
  so_far : (printed : List ℕ) × SoFar (WentOn g.C.Served.did l.deed l.end) (record { client = l.fn.client; next = l.fn.at.0; printed = [] }) (record { client = l.client; next = l.first; printed = printed }) × (string_bytes l.text ≡ string_bytes l.fn.text ++ printed);
}

abbrev pub decreases-loop-first : goal.decreases-loop-first
decreases-loop-first g l = l.end - l.first
