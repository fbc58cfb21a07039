use Rattle.wb_meta.proofs.Stepping.{goes_on, fails}
use Rattle.wb_meta.proofs.Leading.{commit_begins, opening_begins, during, early, after_failure, after_failed_node, when_done}
use Rattle.wb_meta.proofs.roots.commits_lead_on.Goals as goal

pub returns-clause-begins : goal.returns-clause-begins
returns-clause-begins g = commit_begins

pub returns-clause-opening : goal.returns-clause-opening
returns-clause-opening g = opening_begins

pub returns-clause-goes_on : goal.returns-clause-goes_on
returns-clause-goes_on g c steps now new can come does = goes_on c.image c.old.root.geometry.meta_sectors c.before now new steps can.places come does

pub returns-clause-fails : goal.returns-clause-fails
returns-clause-fails g c steps now new can come failing = fails c.image c.old.root.geometry.meta_sectors c.before now new steps can.places come failing

pub returns-clause-during : goal.returns-clause-during
returns-clause-during g c steps now can come = during c can steps now come

pub returns-clause-before_root : goal.returns-clause-before_root
returns-clause-before_root g c steps now can before come = early c can steps now before come

pub returns-clause-failed : goal.returns-clause-failed
returns-clause-failed g c steps now can failed = after_failure c can steps now failed

pub returns-clause-failed_node : goal.returns-clause-failed_node
returns-clause-failed_node g c count now can failed = after_failed_node c can count now failed

pub returns-clause-done : goal.returns-clause-done
returns-clause-done g c now can come = when_done c can now come
