use Rattle.ocl_collections.proofs.Rising.{set_up, bag_up}
use Rattle.ocl_collections.proofs.membership.count.Goals as goal

pub count-requires : goal.count-requires
count-requires c = record { sorted = set_up c.args.kind c.args.items.now c.requires c.in-Set.is }

pub count-requires-in-Bag : goal.count-requires-in-Bag
count-requires-in-Bag c = record { sorted = bag_up c.args.kind c.args.items.now c.requires c.in-Bag.is }
