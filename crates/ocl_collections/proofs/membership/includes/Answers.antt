use Rattle.ocl_collections.proofs.Rising.{set_up, bag_up}
use Rattle.ocl_collections.proofs.membership.includes.Goals as goal

pub contains-requires : goal.contains-requires
contains-requires c = record { sorted = set_up c.args.kind c.args.items.now c.requires c.in-Set.is }

pub contains-requires-in-Bag : goal.contains-requires-in-Bag
contains-requires-in-Bag c = record { sorted = bag_up c.args.kind c.args.items.now c.requires c.in-Bag.is }
