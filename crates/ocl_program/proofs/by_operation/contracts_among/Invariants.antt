use Rattle.std.proofs.Common.{◌≡◌, cond, [], take}
use Rattle.std.specs.List.{flat_map}
use Rattle.class_model.specs.Inheritance.{is_a}
use Rattle.ocl_program.specs.ContractRows.{row_at}
use Rattle.ocl_program.proofs.by_operation.contracts_among.Given as goal

abbrev pub invariant-declared : goal.invariant-declared
invariant-declared l = l.row.items ≡ flat_map (λ d. cond (is_a l.model l.class d.0) (row_at l.own d.1) []) (take l.found-index l.declared)
