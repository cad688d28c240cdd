use Rattle.std.proofs.Common.{◌≡◌, ◌++◌, map, take}
use Rattle.object_references.specs.References.{references}
use Rattle.object_referrers.proofs.keys.add_slot_keys.Given as goal

abbrev pub invariant-found : goal.invariant-found
invariant-found l = record {
  found : l.held-items ≡ references l.value;
  keys : l.keys.items ≡ l.fn.keys.items ++ map (λ o. (o, (l.object, l.attr))) (take l.held-index l.held-items);
}
