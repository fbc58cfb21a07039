-- A read, write or migration takes no more steps than its sectors allow, however they are cut.
use Rattle.std.proofs.Common.{◌≡◌, ◌+◌, ◌*◌, ◌≤◌, ◌++◌, ℕ, List, [], ◌∷◌, length, max, arith}
use Rattle.wb_tasks.specs.declared.step.DeskStep.TheVariants.{BeginCommit}
use Rattle.wb_tasks.specs.declared.step.Want.{Want}
use Rattle.wb_tasks.specs.declared.step.Want.TheVariants.{Desk}
use Rattle.wb_types.specs.declared.extent.Extent.{Extent}
use Rattle.wb_types.specs.Extents.{IsCutInto}
use Rattle.wb_types.proofs.Cutting.{cut_short}
use Rattle.wb_tasks.specs.Tables.{BlockJob, Reading, Writing, Displacing, Invalidating, Migrating, OnBlock, Flushing, Suspending, Opening, range_of}
use Rattle.wb_types.specs.declared.number.OBlock.{OBlock}
use Rattle.wb_tasks.specs.Plan.{table, release_orders, seal_looks}
use Rattle.wb_tasks.specs.Length.{longest_of, longest}
use Rattle.wb_tasks.proofs.Modes.{at_most_twice}

-- by the number of extents
pub longest_is : (job : BlockJob) → longest (table (OnBlock job)) ≤ 2 * length (range_of job).extents + 11
longest_is (Reading part) = omega arith
longest_is (Writing part) = omega (arith, at_most_twice part.mode (length part.extents))
longest_is (Displacing part) = omega arith
longest_is (Invalidating part) = omega arith
longest_is (Migrating migration part) = omega arith

-- and by that of sectors
pub longest_cut : (job : BlockJob) (whole : Extent) → IsCutInto whole (range_of job).extents → longest (table (OnBlock job)) ≤ 2 * whole.count + 11
longest_cut job whole i = let few = cut_short whole (range_of job).extents i in let most = longest_is job in omega (arith, few, most)

length_orders : (blocks : List OBlock) → length (release_orders blocks) ≡ length blocks
length_orders [] = omega arith
length_orders (block ∷ blocks) = omega (arith, length_orders blocks)

-- a look at a seal is one step of a suspend
longest_looks : (all blocks : List OBlock) (most : ℕ) (ws : List Want) → longest_of (Suspending all most) (seal_looks blocks ++ ws) ≡ length blocks + longest_of (Suspending all most) ws
longest_looks all [] most ws = omega arith
longest_looks all (block ∷ blocks) most ws = omega (arith, longest_looks all blocks most ws)

-- a flush by the nodes of its image, or by the orders that it gives up; a suspend by the nodes and the seals; an opening by what it reads and writes
pub flush_bounded : (serves : List OBlock) (most : ℕ) → longest (table (Flushing serves most)) ≤ max (most + 11) (length serves + 4)
flush_bounded serves most = omega (arith, length_orders serves)

pub suspend_bounded : (blocks : List OBlock) (most : ℕ) → longest (table (Suspending blocks most)) ≤ length blocks + most + 10
suspend_bounded blocks most = omega (arith, longest_looks blocks blocks most (Desk (BeginCommit most) ∷ []))

pub opening_bounded : (left : ℕ) → longest (table (Opening left)) ≤ left + 8
opening_bounded left = omega arith
