use Rattle.ocl_values.proofs.Exact.{value_exact}
use Rattle.ocl_collections.proofs.Collected.{sides_up}
use Rattle.ocl_collections.proofs.set_algebra.united.Goals as goal

pub union-requires-clause-exact : goal.union-requires-clause-exact
union-requires-clause-exact c = value_exact

pub join-requires-clause-first : goal.join-requires-clause-first
join-requires-clause-first c =
    (sides_up c.args.kind c.args.other c.args.joined c.args.items.now c.args.others.now c.requires.first c.requires.second c.requires.both c.in-Bag.is).0

pub join-requires-clause-second : goal.join-requires-clause-second
join-requires-clause-second c =
    (sides_up c.args.kind c.args.other c.args.joined c.args.items.now c.args.others.now c.requires.first c.requires.second c.requires.both c.in-Bag.is).1
