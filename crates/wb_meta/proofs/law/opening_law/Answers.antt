use Rattle.wb_meta.proofs.Reopening.{opening_places, opening_may, opening_stores}
use Rattle.wb_meta.proofs.law.opening_law.Goals as goal

pub returns-clause-places : goal.returns-clause-places
returns-clause-places c = opening_places

pub returns-clause-may : goal.returns-clause-may
returns-clause-may c = opening_may

pub returns-clause-stores : goal.returns-clause-stores
returns-clause-stores c = opening_stores
