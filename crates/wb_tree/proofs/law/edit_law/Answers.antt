use Rattle.wb_tree.proofs.Stored.Edited.{edited-once, edited-none, edited-more, stored-edited, places-edited}
use Rattle.wb_tree.proofs.Nodes.Above.{leaves-above}
use Rattle.wb_tree.proofs.law.edit_law.Goals as goal

pub returns-clause-once : goal.returns-clause-once
returns-clause-once c = edited-once

pub returns-clause-follow : goal.returns-clause-follow
returns-clause-follow c = (edited-none, edited-more)

pub returns-clause-stored : goal.returns-clause-stored
returns-clause-stored c = stored-edited

pub returns-clause-places : goal.returns-clause-places
returns-clause-places c = places-edited

pub returns-clause-leaves : goal.returns-clause-leaves
returns-clause-leaves c = leaves-above
