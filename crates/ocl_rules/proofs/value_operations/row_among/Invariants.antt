use Rattle.std.proofs.Common.{◌≡◌, drop}
use Rattle.ocl_rules.specs.ValueOperations.{row_among}
use Rattle.ocl_rules.proofs.value_operations.row_among.Given as goal

abbrev pub invariant-rows : goal.invariant-rows
invariant-rows l = row_among l.model l.of_type (drop l.row-index l.rows) (λ t. t.now) l.name ≡ row_among l.model l.of_type l.rows (λ t. t.now) l.name
