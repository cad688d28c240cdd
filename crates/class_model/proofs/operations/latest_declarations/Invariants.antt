use Rattle.std.proofs.Common.{◌≡◌, ℕ, List, take}
use Rattle.std.specs.HashMap.{get_by_text}
use Rattle.class_model.specs.Features.{declares, numbers_of}
use Rattle.class_model.specs.Indexes.{above, latest}
use Rattle.class_model.proofs.operations.latest_declarations.Given as goal

abbrev pub invariant-ops : goal.invariant-ops
invariant-ops l = (t : List ℕ) → get_by_text l.map t ≡ latest l.ops (numbers_of (declares (above l.rows l.class) t) (take l.i l.ops))
