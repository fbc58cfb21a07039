-- In which order a disk and its record are asked.
use Rattle.std.specs.Prelude.{◌≡◌, Option, Some, None}
use Rattle.wb_files.specs.declared.ledger.OngoingSync.{OngoingSync}

-- A sync was left out, where the record said so of the disk as it is.
abbrev pub LeavesOut : {D R : Type 0} → (R → D → Option OngoingSync → R → Type 0) → R → D → R → D → Type 0
LeavesOut begins known disk known' disk' = begins known disk None known' × (disk' ≡ disk)

-- A sync was asked for and ended well: the record was told that it begins while the disk was as it was before, and that it ended once the disk was as it is behind.
pub record Asks {D R : Type 0} (begins : R → D → Option OngoingSync → R → Type 0) (ends : R → D → OngoingSync → R → Type 0) (known : R) (disk : D) (known' : R) (disk' : D) : Type 0 where
  pub sync : OngoingSync
  pub meanwhile : R
  pub began : begins known disk (Some sync) meanwhile
  pub ended : ends meanwhile disk' sync known'

-- it failed, and the record was told that once the disk was as it is behind
pub record AsksInVain {D R : Type 0} (begins : R → D → Option OngoingSync → R → Type 0) (fails : R → D → R → Type 0) (known : R) (disk : D) (known' : R) (disk' : D) : Type 0 where
  pub sync : OngoingSync
  pub meanwhile : R
  pub began : begins known disk (Some sync) meanwhile
  pub failed : fails meanwhile disk' known'
