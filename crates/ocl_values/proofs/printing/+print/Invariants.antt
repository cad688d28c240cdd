use Rattle.std.proofs.Common.{◌≡◌, ◌++◌, map, take}
use Rattle.std.specs.List.{join_with_byte}
use Rattle.ocl_values.specs.Printing.{value_text}
use Rattle.ocl_values.proofs.printing.+print.Given as goal

abbrev pub invariant-print_elements-each : goal.invariant-print_elements-each
invariant-print_elements-each g l =
    l.out.items ≡ l.initial.out.items ++ join_with_byte 44 (map (value_text (g.N.Names.object_name l.names) (g.N.Names.literal_name l.names)) (take l.at l.all))
