use Rattle.std.proofs.Common.{◌≡◌, ℕ, length, take}
use Rattle.ocl_program.specs.ContractRows.{row_at}
use Rattle.ocl_program.specs.Programs.{contracts_for}
use Rattle.ocl_program.proofs.by_operation.own_contracts.Given as goal

abbrev pub invariant-contracts : goal.invariant-contracts
invariant-contracts l = (length l.rows.items ≡ l.count) × ((o : ℕ) → row_at l.rows.items o ≡ contracts_for (take l.i l.contracts) o)
