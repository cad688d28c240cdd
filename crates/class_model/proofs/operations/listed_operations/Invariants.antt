use Rattle.std.proofs.Common.{◌≡◌, ◌&&◌, Some, None, cond, false, nat_eq, take}
use Rattle.std.specs.List.{position_from}
use Rattle.std.specs.Option.{option_map_or}
use Rattle.class_model.specs.Features.{declares}
use Rattle.class_model.specs.Indexes.{above}
use Rattle.class_model.proofs.Listed.{chosen}
use Rattle.class_model.proofs.operations.listed_operations.Given as goal

abbrev pub invariant-ops : goal.invariant-ops
invariant-ops l =
    l.numbers.items
    ≡ chosen (λ p. cond (above l.rows l.class p.1.class && option_map_or (nat_eq p.0)
    (position_from (declares (above l.rows l.class) p.1.name) 0 l.ops) false) (Some p.0) None) 0 (take l.i l.ops)
