-- The states of cache blocks.
use Rattle.std.specs.Prelude.{ℕ, List, Bool, true, false, get_or, not}
use Rattle.wb_space.specs.declared.block.Block.{Block}
use Rattle.wb_space.specs.declared.block.Block.TheVariants.{Free, Mapped, Reserved, Quarantined}
use Rattle.wb_space.specs.declared.holding.Holding.{Holding}

-- what a caller is told of a block
abbrev pub shown_holding : Block → Holding
shown_holding Free = Rattle.wb_space.specs.declared.holding.Holding.TheVariants.Free
shown_holding Mapped = Rattle.wb_space.specs.declared.holding.Holding.TheVariants.Mapped
shown_holding Reserved = Rattle.wb_space.specs.declared.holding.Holding.TheVariants.Reserved
shown_holding (Quarantined claimed early) = Rattle.wb_space.specs.declared.holding.Holding.TheVariants.Quarantined

-- the state of a block of the list
abbrev pub state : List Block → ℕ → Block
state blocks c = get_or blocks c Free

-- an order may take it
abbrev pub is_free : Block → Bool
is_free Free = true
is_free Mapped = false
is_free Reserved = false
is_free (Quarantined claimed early) = false

-- quarantined, and removed since the running commit began
abbrev pub is_late : Block → Bool
is_late Free = false
is_late Mapped = false
is_late Reserved = false
is_late (Quarantined claimed early) = not early

-- quarantined, and removed before the running commit began
abbrev pub is_early : Block → Bool
is_early Free = false
is_early Mapped = false
is_early Reserved = false
is_early (Quarantined claimed early) = early

-- claimed by a live order: reserved now, or at the end of its quarantine
abbrev pub IsClaimed : Block → Type 0
IsClaimed Free = ⊥
IsClaimed Mapped = ⊥
IsClaimed Reserved = Unit {0}
IsClaimed (Quarantined true early) = Unit {0}
IsClaimed (Quarantined false early) = ⊥

-- its order is over: a reserved block is free, a quarantined one is claimed no longer
abbrev pub released : Block → Block
released Free = Free
released Mapped = Mapped
released Reserved = Free
released (Quarantined claimed early) = Quarantined false early

-- a commit begins: what is quarantined was removed before
abbrev pub commit_begun : Block → Block
commit_begun Free = Free
commit_begun Mapped = Mapped
commit_begun Reserved = Reserved
commit_begun (Quarantined claimed early) = Quarantined claimed true

-- it ends: what was removed before it began is free, or reserved where it is claimed
abbrev pub commit_ended : Block → Block
commit_ended Free = Free
commit_ended Mapped = Mapped
commit_ended Reserved = Reserved
commit_ended (Quarantined claimed false) = Quarantined claimed false
commit_ended (Quarantined true true) = Reserved
commit_ended (Quarantined false true) = Free

-- at an opening a block is mapped or free
abbrev pub opened_block : Bool → Block
opened_block true = Mapped
opened_block false = Free
