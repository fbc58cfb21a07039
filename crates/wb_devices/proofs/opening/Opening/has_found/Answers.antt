use Rattle.std.proofs.Common.{refl, inl}
use Rattle.wb_devices.proofs.opening.Opening.has_found.Goals as goal

pub returns-then-not-are_same_sizes-clause-come : goal.returns-then-not-are_same_sizes-clause-come
returns-then-not-are_same_sizes-clause-come c = (c.requires.none, refl, inl (refl, (c.args.root, c.requires.newest, c.if-not-are_same_sizes.ensures.not)))
