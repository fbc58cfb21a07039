-- How the tables of reads, writes, invalidations, flushes and suspends and those of the abstract world go on together.
use Rattle.std.specs.Prelude.{◌≡◌, ℕ, List, Option, None}
use Rattle.wb_types.specs.declared.number.CBlock.{CBlock}
use Rattle.wb_types.specs.declared.number.OBlock.{OBlock}
use Rattle.wb_disk.specs.Device.{Content}
use Rattle.wb_tasks.specs.Tables.{BlockRange, OnBlock, Reading, Writing, Displacing, Invalidating, Flushing, Suspending}
use Rattle.wb_tasks.specs.Plan.{Plan, table}
use Rattle.wb_words.specs.declared.card.Card.{Card}
use Rattle.wb_link.specs.Tables.{abstract_table as table_there}
use Rattle.wb_link.specs.World.{AbstractActor}
use Rattle.wb_refines.specs.Models.{IsAt, IsBelow}
use Rattle.wb_refines.specs.Translation.{script_for, job_for}

-- before they begin
abbrev pub TablesAgree : Type 0
TablesAgree = (size most : ℕ) (content : Content) (place : Option CBlock) (part : BlockRange) (blocks : List OBlock) →
    (script_for size content place (table (OnBlock (Reading part))) ≡ table_there (job_for size content (OnBlock (Reading part))))
    × (script_for size content place (table (OnBlock (Writing part))) ≡ table_there (job_for size content (OnBlock (Writing part))))
    × (script_for size content place (table (OnBlock (Displacing part))) ≡ table_there (job_for size content (OnBlock (Displacing part))))
    × (script_for size content place (table (OnBlock (Invalidating part))) ≡ table_there (job_for size content (OnBlock (Invalidating part))))
    × (script_for size content None (table (Flushing blocks most)) ≡ table_there (job_for size content (Flushing blocks most)))
    × (script_for size content None (table (Suspending blocks most)) ≡ table_there (job_for size content (Suspending blocks most)))

-- An abstract actor that is at a task has no block that the card does not count: so what the others have agrees, too.
abbrev pub HasNoMore : Type 0
HasNoMore = (size : ℕ) (content : Content) (plan : Plan) (card : Card) (y : AbstractActor) → IsAt size content plan card y → IsBelow y card
