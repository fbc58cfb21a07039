-- An opening in its phases.
use Rattle.std.proofs.Common.{◌≡◌, ℕ, zero, suc, refl}
use Rattle.wb_types.specs.declared.mode.Dev.TheVariants.{Metadata}
use Rattle.wb_types.specs.declared.refusal.Refusal.TheVariants.{Io}
use Rattle.wb_tasks.specs.Plan.{want, after, Fits, IsRare}
use Rattle.wb_tasks.specs.declared.step.Answer.TheVariants.{Refused as Refuses}
use Rattle.wb_tasks.specs.declared.step.DeviceStep.TheVariants.{Sync, WriteNode, WriteRoot}
use Rattle.wb_tasks.specs.declared.step.Want.{Want}
use Rattle.wb_tasks.specs.declared.step.Want.TheVariants.{Device, End}
use Rattle.wb_tasks.specs.declared.step.Got.{Got}
use Rattle.wb_tasks.specs.declared.step.Got.TheVariants.{Begin, Done, Word, Fault, Refused}
use Rattle.wb_tasks.proofs.Driving.{no_result}
use Rattle.wb_flow.specs.Phases.{opening_left}
use Rattle.wb_flow.specs.declared.open.Phase.{Phase}
use Rattle.wb_flow.specs.declared.open.Phase.TheVariants.{Reads, WritesNodes, Ended}

-- it looks at no word
pub no_look : (more : ℕ) (phase : Phase) (word : ℕ) → Fits (want (opening_left more phase)) (Word word) → ⊥
no_look more (WritesNodes node zero) word h = absurd h
no_look more (WritesNodes node (suc left)) word h = absurd h
no_look more phase word h = absurd h

-- a node that is not written, or not synced, is a fault of the metadata
pub node_fails : (more node left : ℕ) → opening_left more (Ended (Refuses (Io Metadata))) ≡ after (opening_left more (WritesNodes node left)) Fault
node_fails more node zero = refl
node_fails more node (suc left) = refl

-- of its steps a read alone has a rare result
abbrev IsUnread : Want → Type 0
IsUnread (Device (Sync device)) = Unit {0}
IsUnread (Device (WriteNode number)) = Unit {0}
IsUnread (Device WriteRoot) = Unit {0}
IsUnread (End answer) = Unit {0}
IsUnread w = ⊥

unread : (more : ℕ) (phase : Phase) → ((left : ℕ) → phase ≡ Reads left → ⊥) → IsUnread (want (opening_left more phase))
unread more (Reads left) n = absurd (n left refl)
unread more (WritesNodes node zero) n = tt
unread more (WritesNodes node (suc left)) n = tt
unread more phase n = tt

no_rare : (w : Want) (got : Got) → IsUnread w → IsRare got → Fits w got → ⊥
no_rare w Begin u r h = r
no_rare w Done u r h = r
no_rare w (Word word) u r h = r
no_rare w Fault u r h = r
no_rare w (Refused refusal) u r h = r
no_rare (Device (Sync device)) got u r h = absurd h
no_rare (Device (WriteNode number)) got u r h = absurd h
no_rare (Device WriteRoot) got u r h = absurd h
no_rare (End answer) got u r h = no_result answer got h
no_rare w got u r h = absurd u

pub reads_alone : (more : ℕ) (phase : Phase) (got : Got) → ((left : ℕ) → phase ≡ Reads left → ⊥) → IsRare got → Fits (want (opening_left more phase)) got → ⊥
reads_alone more phase got n r h = no_rare (want (opening_left more phase)) got (unread more phase n) r h
