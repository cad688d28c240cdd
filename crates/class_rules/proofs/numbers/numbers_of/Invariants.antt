use Rattle.std.proofs.Common.{◌≡◌, ℕ, None, take, get_or, nat_eq, vec_len}
use Rattle.std.specs.List.{position_from}
use Rattle.class_rules.proofs.numbers.numbers_of.Given as goal

abbrev pub invariant-order : goal.invariant-order
invariant-order l = (vec_len l.numbers ≡ l.count) × ((i : ℕ) → get_or l.numbers.items i None ≡ position_from (nat_eq i) 0 (take l.number l.order))
