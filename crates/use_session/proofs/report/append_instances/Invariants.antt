use Rattle.std.proofs.Common.{◌≡◌, ◌++◌, take}
use Rattle.std.specs.List.{flat_map}
use Rattle.use_session.specs.Reports.{instance_line}
use Rattle.use_session.proofs.report.append_instances.Given as goal

abbrev pub invariant-bad : goal.invariant-bad
invariant-bad l = l.out.items ≡ l.initial.out.items ++ flat_map (instance_line l.store.state) (take l.found-index l.bad)
