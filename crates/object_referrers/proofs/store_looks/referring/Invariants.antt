use Rattle.std.proofs.Common.{◌≡◌, map, take}
use Rattle.std.specs.List.{filter}
use Rattle.object_referrers.specs.Referring.{name_refers_to}
use Rattle.object_referrers.proofs.store_looks.referring.Given as goal

abbrev pub invariant-keys : goal.invariant-keys
invariant-keys l = l.names.items ≡ filter (name_refers_to l.store.state l.object) (map (λ k. k.now.1) (take l.key-index l.keys))
