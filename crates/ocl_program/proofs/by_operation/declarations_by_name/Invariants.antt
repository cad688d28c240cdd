use Rattle.std.proofs.Common.{◌≡◌, ℕ, List, [], take, unwrap_or}
use Rattle.std.specs.HashMap.{get_by_text}
use Rattle.ocl_program.specs.ContractRows.{declared}
use Rattle.ocl_program.proofs.by_operation.declarations_by_name.Given as goal

abbrev pub invariant-ops : goal.invariant-ops
invariant-ops l = (t : List ℕ) → unwrap_or (get_by_text l.map t) [] ≡ declared t (take l.i l.ops)
