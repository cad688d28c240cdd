use Rattle.std.proofs.Common.{◌≡◌, ℕ, [], length}
use Rattle.ocl_program.specs.ContractRows.{row_at}
use Rattle.ocl_program.proofs.by_operation.no_rows.Given as goal

abbrev pub invariant-rows : goal.invariant-rows
invariant-rows l = (length l.rows.items ≡ l._op) × ((o : ℕ) → row_at l.rows.items o ≡ [])
