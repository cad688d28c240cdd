use Rattle.ocl_collections.proofs.Rising.{set_up, bag_up}
use Rattle.ocl_collections.proofs.adding.without_element.Goals as goal

pub remove-requires : goal.remove-requires
remove-requires c = record { sorted = set_up c.args.kind c.args.items.now c.requires c.in-Set.is }

pub remove-requires-in-Bag : goal.remove-requires-in-Bag
remove-requires-in-Bag c = record { sorted = bag_up c.args.kind c.args.items.now c.requires c.in-Bag.is }
