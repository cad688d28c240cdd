use Rattle.std.proofs.Common.{◌≡◌, ◌++◌}
use Rattle.std.specs.List.{filter}
use Rattle.std.specs.Vec.Iter.{into_iter_items}
use Rattle.object_state.specs.Looks.{has_at}
use Rattle.object_referrers.proofs.store_looks.add_links_at.Given as goal

abbrev pub invariant-links : goal.invariant-links
invariant-links l = record {
  whole : filter (has_at l.assoc l.fn.end l.object) l.store.state.links ≡ l.yielded ++ into_iter_items l.link-iterator;
  found : l.found.items ≡ l.fn.found.items ++ l.yielded;
}
