use Rattle.std.proofs.Common.{◌≡◌, ◌++◌, take}
use Rattle.std.specs.List.{flat_map}
use Rattle.use_session.specs.Reports.{violation_line}
use Rattle.use_session.proofs.report.append_structure.Given as goal

abbrev pub invariant-broken : goal.invariant-broken
invariant-broken l = l.out.items ≡ l.initial.out.items ++ flat_map (violation_line l.model l.store.state) (take l.found-index l.broken)
