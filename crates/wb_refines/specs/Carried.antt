-- The part that a migration plays, under an order for its block and a cache block, which its actor has still or not.
use Rattle.std.specs.Prelude.{◌≡◌, ◌≢◌, ◌<◌, ℕ, Option}
use Rattle.wb_types.specs.declared.number.CBlock.{CBlock}
use Rattle.wb_words.specs.SharedWords.{place_in}
use Rattle.wb_words.specs.declared.card.Card.{Card}
use Rattle.wb_tasks.specs.Tables.{BlockRange, Migrating}
use Rattle.wb_tasks.specs.Plan.{Plan}
use Rattle.wb_tasks.specs.declared.step.Answer.{Answer}
use Rattle.wb_tasks.specs.declared.step.Answer.TheVariants.{Done as Finished, Refused as Refuses}
use Rattle.wb_tasks.specs.declared.step.Migration.{Migration}
use Rattle.wb_link.specs.Tables.{Order, Answer as AbstractAnswer, Finished as AnsweredDone}
use Rattle.wb_link.specs.World.{AbstractActor}
use Rattle.wb_refines.specs.Translation.{offsets}
use Rattle.wb_refines.specs.Migrations.{job_under, migration_wants, order_on, Fills, IsWhere}
use Rattle.wb_refines.specs.Roles.{Role, IsAs, StepsFollowed}

-- both are done, or neither is
abbrev pub AnswersAlike : Answer → AbstractAnswer → Type 0
AnswersAlike Finished answer = answer ≡ AnsweredDone
AnswersAlike (Refuses refusal) answer = answer ≢ AnsweredDone

abbrev pub migration_role : BlockRange → CBlock → Option ℕ → Migration → Option Order → Role
migration_role part c next migration kept = record {
  job = job_under (order_on part c next) (offsets part.block_sectors part.extents) migration;
  wants = migration_wants part.block_sectors (order_on part c next) (offsets part.block_sectors part.extents) migration;
  order = kept;
  alike = AnswersAlike;
  finds = λ seal. IsWhere migration c (place_in seal);
}

-- An abstract actor is at what is left of this migration.
abbrev pub IsMigrationAt : BlockRange → CBlock → Option ℕ → Migration → Option Order → Plan → Card → AbstractActor → Type 0
IsMigrationAt part c next migration kept plan card y = IsAs (migration_role part c next migration kept) plan card y

abbrev pub MigrationCellsFollowed : Type 0
MigrationCellsFollowed = (part : BlockRange) (c : CBlock) (next : Option ℕ) (migration : Migration) (kept : Option Order) → 0 < part.block_sectors → Fills migration c → StepsFollowed (migration_role part c next migration kept) (Migrating migration part)
