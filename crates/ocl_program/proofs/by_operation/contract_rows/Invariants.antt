use Rattle.std.proofs.Common.{◌≡◌, ◌<◌, ℕ, length}
use Rattle.ocl_program.specs.ContractRows.{row_at}
use Rattle.ocl_program.specs.Programs.{contracts_of}
use Rattle.ocl_program.proofs.by_operation.contract_rows.Given as goal

abbrev pub invariant-ops : goal.invariant-ops
invariant-ops l = (length l.rows.items ≡ l.op-index) × ((o : ℕ) → o < l.op-index → row_at l.rows.items o ≡ contracts_of l.parts o)
