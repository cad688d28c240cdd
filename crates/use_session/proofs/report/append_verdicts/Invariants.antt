use Rattle.std.proofs.Common.{◌≡◌, ◌++◌, take}
use Rattle.std.specs.List.{flat_map, zip}
use Rattle.use_session.specs.Reports.{verdict_lines}
use Rattle.use_session.proofs.report.append_verdicts.Given as goal

abbrev pub invariant-lines : goal.invariant-lines
invariant-lines l =
    l.out.items ≡ l.initial.out.items ++ flat_map (verdict_lines l.program.model l.store.state l.detail) (take l.index (zip l.program.invariants l.lines))
