use Rattle.ocl_collections.proofs.Rising.{set_up, bag_up}
use Rattle.ocl_collections.proofs.membership.includes_all.Goals as goal

pub all_within-requires : goal.all_within-requires
all_within-requires c = set_up c.args.kind c.args.items.now c.requires c.in-Set.is

pub all_within-requires-in-Bag : goal.all_within-requires-in-Bag
all_within-requires-in-Bag c = bag_up c.args.kind c.args.items.now c.requires c.in-Bag.is
