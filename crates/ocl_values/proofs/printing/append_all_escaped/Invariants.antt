use Rattle.std.proofs.Common.{◌≡◌, take, ◌++◌}
use Rattle.std.specs.List.{flat_map}
use Rattle.ocl_values.specs.Printing.{escaped}
use Rattle.ocl_values.proofs.printing.append_all_escaped.Given as goal

abbrev pub invariant-escape : goal.invariant-escape
invariant-escape l = l.out.items ≡ l.initial.out.items ++ flat_map escaped (take l.byte-index l.bytes)
