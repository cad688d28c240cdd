use Rattle.ocl_collections.proofs.Rising.{set_up, bag_up}
use Rattle.ocl_collections.proofs.membership.excludes_all.Goals as goal

pub none_within-requires : goal.none_within-requires
none_within-requires c = set_up c.args.kind c.args.items.now c.requires c.in-Set.is

pub none_within-requires-in-Bag : goal.none_within-requires-in-Bag
none_within-requires-in-Bag c = bag_up c.args.kind c.args.items.now c.requires c.in-Bag.is
