use Rattle.std.proofs.Common.{◌≡◌}
use Rattle.object_referrers.specs.Gathered.{links_among}
use Rattle.object_referrers.proofs.store_looks.links_among.Given as goal

abbrev pub invariant-assocs : goal.invariant-assocs
invariant-assocs l = l.found.items ≡ links_among l.store.state.links l.object l.assoc
