-- How many objects may stand at an end.
use Rattle.std.specs.Prelude.{ℤ, pos, Bool, true, false, ◌&&◌, Option}
use Rattle.std.specs.List.{list_all, list_any}
use Rattle.std.specs.Option.{option_map_or}
use Rattle.std.specs.Ordering.{int_cmp, int_eq, is_le}
use Rattle.class_model.specs.declared.multiplicity.Multiplicity.{Multiplicity}
use Rattle.class_model.specs.declared.multiplicity.Span.{Span}

abbrev pub int_le : ℤ → ℤ → Bool
int_le a b = is_le (int_cmp a b)

-- whether a number is in a part: not below its low bound, nor above its high one
abbrev pub is_within : ℤ → Span → Bool
is_within n s = int_le s.low n && option_map_or (int_le n) s.high true

-- whether some part has a number
abbrev pub allows : Multiplicity → ℤ → Bool
allows m n = list_any (is_within n) m.spans

-- whether one is the largest number that is allowed: each part ends there, since no part allows nothing but nought
abbrev pub greatest_is_one : Multiplicity → Bool
greatest_is_one m = list_all (λ s. option_map_or (int_eq (pos 1)) s.high false) m.spans
