-- Four-valued logic: its tables, and equality.
use Rattle.std.specs.Prelude.{ℕ, Bool, true, false, cond, ◌||◌, List, [], ◌∷◌, slice_index_or}
use Rattle.std.specs.Ordering.{is_eq}
use Rattle.ocl_values.specs.Order.{value_cmp}
use Rattle.ocl_values.specs.declared.logic.Truth.{Truth}
use Rattle.ocl_values.specs.declared.logic.Truth.TheVariants as T
use Rattle.ocl_values.specs.declared.logic.Truth.TheVariants.{False, True}
use Rattle.ocl_values.specs.declared.value.Value.{Value}
use Rattle.ocl_values.specs.declared.value.Value.TheVariants as V
use Rattle.ocl_values.specs.declared.value.Value.TheVariants.{Null, Invalid, Int, Str, Enum, Obj, Coll'}

abbrev pub no : Value
no = V.Bool false

abbrev pub yes : Value
yes = V.Bool true

-- what a value is among the four; what is no truth value counts as invalid
abbrev pub truth_of : Value → Truth
truth_of (V.Bool false) = False
truth_of (V.Bool true) = True
truth_of Null = T.Null
truth_of _ = T.Invalid

abbrev pub value_of : Truth → Value
value_of False = no
value_of True = yes
value_of T.Null = Null
value_of T.Invalid = Invalid

-- the place of a truth value in a row, and of its row in a table
abbrev pub place : Truth → ℕ
place False = 0
place True = 1
place T.Null = 2
place T.Invalid = 3

-- the entry of a row
abbrev pub in_row : List Value → Truth → Value
in_row row b = slice_index_or row (place b) Invalid

-- the entry of a table
abbrev pub at : List (List Value) → Truth → Truth → Value
at table a b = in_row (slice_index_or table (place a) []) b

-- the entry of a table at two values
abbrev pub entry : List (List Value) → Value → Value → Value
entry table a b = at table (truth_of a) (truth_of b)

-- in each table a row for each left side, with an entry for each right side: false, true, null, invalid

abbrev pub and_table : List (List Value)
and_table = (no ∷ no ∷ no ∷ no ∷ [])
    ∷ (no ∷ yes ∷ Null ∷ Invalid ∷ [])
    ∷ (no ∷ Null ∷ Null ∷ Invalid ∷ [])
    ∷ (no ∷ Invalid ∷ Invalid ∷ Invalid ∷ []) ∷ []

abbrev pub or_table : List (List Value)
or_table = (no ∷ yes ∷ Null ∷ Invalid ∷ [])
    ∷ (yes ∷ yes ∷ yes ∷ yes ∷ [])
    ∷ (Null ∷ yes ∷ Null ∷ Invalid ∷ [])
    ∷ (Invalid ∷ yes ∷ Invalid ∷ Invalid ∷ []) ∷ []

abbrev pub xor_table : List (List Value)
xor_table = (no ∷ yes ∷ Null ∷ Invalid ∷ [])
    ∷ (yes ∷ no ∷ Null ∷ Invalid ∷ [])
    ∷ (Null ∷ Null ∷ Null ∷ Invalid ∷ [])
    ∷ (Invalid ∷ Invalid ∷ Invalid ∷ Invalid ∷ []) ∷ []

abbrev pub implies_table : List (List Value)
implies_table = (yes ∷ yes ∷ yes ∷ yes ∷ [])
    ∷ (no ∷ yes ∷ Null ∷ Invalid ∷ [])
    ∷ (Null ∷ yes ∷ Null ∷ Invalid ∷ [])
    ∷ (Invalid ∷ yes ∷ Invalid ∷ Invalid ∷ []) ∷ []

abbrev pub not_row : List Value
not_row = yes ∷ no ∷ Null ∷ Invalid ∷ []

abbrev pub is_invalid : Value → Bool
is_invalid Null = false
is_invalid Invalid = true
is_invalid (V.Bool b) = false
is_invalid (Int n) = false
is_invalid (Str bytes) = false
is_invalid (Enum e l) = false
is_invalid (Obj o) = false
is_invalid (Coll' kind shape row) = false

-- `=`: invalid where a side is; else whether both are the same value
abbrev pub same_value : Value → Value → Value
same_value a b = cond (is_invalid a || is_invalid b) Invalid (V.Bool (is_eq (value_cmp a b)))
