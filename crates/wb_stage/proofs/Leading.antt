-- A commit that a flush leads.
use Rattle.std.proofs.Common.{◌≡◌, ℕ, Bool, false, Option, Some, None, length, sym, subst, ap}
use Rattle.wb_tree.specs.declared.image.Image.{Image}
use Rattle.wb_meta.specs.declared.commit_steps.CommitSteps.TheVariants.{NodesWritten}
use Rattle.wb_desk.specs.Desks.{DeskState}
use Rattle.wb_desk.specs.Commits.{HasBegun}
use Rattle.wb_desk.specs.Sharing.{IsLed}
use Rattle.wb_tasks.specs.declared.step.Got.TheVariants.{Began}
use Rattle.wb_devices.specs.declared.running.RunningCommit.{RunningCommit}
use Rattle.wb_stage.specs.Stages.{DidBeginSo, DidLead}

-- one that runs now
abbrev pub IsNew : Image → Option RunningCommit → Type 0
IsNew image commit = (begun : RunningCommit) × (commit ≡ Some begun) × (begun.steps ≡ NodesWritten 0) × (begun.image ≡ image)

pub begun : {P : Type 0} (clean : Bool) (so : DeskState P → Image → DeskState P → Type 0) (most : ℕ) (d d' : DeskState P) (commit commit' : Option RunningCommit) (image : Image) → so d image d' → IsNew image commit' → DidBeginSo clean so most (Began (length image.nodes.items)) d commit d' commit'
begun clean so most d d' commit commit' image h new = (new.0, new.1, new.2, ap (λ (i : Image). length i.nodes.items) (sym new.3), subst (λ (i : Image). so d i d') (sym new.3) h)

pub led : {P : Type 0} (hint_of : P → ℕ → ℕ) (most : ℕ) (d d' : DeskState P) (commit commit' : Option RunningCommit) (image : Image) → IsLed hint_of d image d' → IsNew image commit' → DidLead most (Began (length image.nodes.items)) d commit d' commit'
led {P} hint_of most d d' commit commit' image l new = (l.whole, begun false (λ old i now. (hint_of : P → ℕ → ℕ) × HasBegun hint_of None old i now) most d d' commit commit' image (hint_of, l.begun) new)
