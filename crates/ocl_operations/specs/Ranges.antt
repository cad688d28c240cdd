-- Ranges in written collections: the whole numbers from one to another.
use Rattle.std.specs.Prelude.{ℕ, ℤ, pos, negsuc, ◌+ℤ◌, ◌-ℤ◌, List, map, Option, Some, None}
use Rattle.std.specs.List.{range_with_len}
use Rattle.ocl_values.specs.declared.value.Value.{Value}
use Rattle.ocl_values.specs.declared.value.Value.TheVariants.{Int}

-- an integer that is not negative; 0 of one that is
abbrev pub natural : ℤ → ℕ
natural (pos n) = n
natural (negsuc n) = 0

-- how many there are
abbrev pub count_between : ℤ → ℤ → ℕ
count_between a b = natural (b -ℤ a +ℤ pos 1)

abbrev pub whole_numbers : ℤ → ℤ → List Value
whole_numbers a b = map (λ k. Int (a +ℤ pos k)) (range_with_len 0 (count_between a b))

-- the elements of a range, or none where a side is no integer
abbrev pub range_elements : Value → Value → Option (List Value)
range_elements (Int a) (Int b) = Some (whole_numbers a b)
range_elements _ _ = None

-- how many elements a range has; none where a side is no integer
abbrev pub range_count : Value → Value → ℕ
range_count (Int a) (Int b) = count_between a b
range_count _ _ = 0
