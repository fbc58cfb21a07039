-- What a flush has of the commits that others lead, when it has to wait, and what it has after a step.
use Rattle.std.specs.Prelude.{◌≡◌, ◌+◌, true, false}
use Rattle.wb_desk.specs.Desks.{DeskState}
use Rattle.wb_desk.specs.Sharing.{CommitCovers}
use Rattle.wb_tasks.specs.declared.step.DeskStep.{DeskStep}
use Rattle.wb_tasks.specs.declared.step.DeskStep.TheVariants.{Arrive, Ask}
use Rattle.wb_tasks.specs.declared.step.Got.{Got}
use Rattle.wb_tasks.specs.declared.step.Got.TheVariants.{Ticket, Served}
use Rattle.wb_stage.specs.declared.share.Share.{Share}
use Rattle.wb_stage.specs.declared.share.Share.TheVariants.{Nothing, Waiting, Covered}

-- a commit has ended that covers who waits with this
abbrev pub ShareIsCovered : {P : Type 0} → DeskState P → Share → Type 0
ShareIsCovered d (Waiting number) = CommitCovers d number
ShareIsCovered d share = ⊥

-- Who asks with this has to wait: no commit is broken, one runs, and none has ended that covers it.
pub record MustWait {P : Type 0} (d : DeskState P) (share : Share) : Type 0 where
  pub whole : d.broken ≡ false
  pub runs : d.space.committing ≡ true
  pub uncovered : ¬ ShareIsCovered d share

-- who asks the desk for this step has not to wait
abbrev pub MayAskNow : {P : Type 0} → DeskState P → Share → DeskStep → Type 0
MayAskNow d share (Ask most) = ¬ MustWait d share
MayAskNow d share step = Unit {0}

-- A ticket is of the commit that comes after the one that runs; a receipt tells the last that has ended.
abbrev pub share_then : {P : Type 0} → DeskState P → Share → DeskStep → Got → Share
share_then d share (Arrive most) Ticket = Waiting (d.ended + 2)
share_then d share (Arrive most) got = Nothing
share_then d share (Ask most) Served = Covered d.ended
share_then d share (Ask most) got = Nothing
share_then d share step got = share
