use Rattle.std.proofs.Common.{◌≡◌, ℕ, List, take}
use Rattle.std.specs.HashMap.{get_by_text}
use Rattle.std.specs.List.{position_from}
use Rattle.class_model.specs.Features.{declares}
use Rattle.class_model.specs.Indexes.{above}
use Rattle.class_model.proofs.operations.first_declarations.Given as goal

abbrev pub invariant-ops : goal.invariant-ops
invariant-ops l = (t : List ℕ) → get_by_text l.map t ≡ position_from (declares (above l.rows l.class) t) 0 (take l.i l.ops)
