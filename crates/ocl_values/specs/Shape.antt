-- The size of a value, how deep it nests, and what a well-made value is.
use Rattle.std.specs.Prelude.{◌≡◌, ℕ, ◌+◌, ◌≤◌, nat_le, max, Bool, false, ◌||◌, cond, List, [], ◌∷◌, length}
use Rattle.ocl_values.specs.Order.{value_cmp}
use Rattle.ocl_values.specs.Logic.{is_invalid}
use Rattle.use_orders.specs.Canon.{bag_of, set_of, firsts_of}
use Rattle.ocl_values.specs.declared.value.Kind.{Kind}
use Rattle.ocl_values.specs.declared.value.Kind.TheVariants.{Set, OrderedSet, Bag, Sequence}
use Rattle.ocl_values.specs.declared.value.Value.{Value, Row_of-Value, end_of-Value, more_of-Value, items-the_row-Value}
use Rattle.ocl_values.specs.declared.value.Value.TheVariants as V
use Rattle.ocl_values.specs.declared.value.Value.TheVariants.{Null, Invalid, Int, Str, Enum, Obj, Coll, Coll'}

abbrev mutual
  -- the size of a value: 1, and for a String its bytes, for a collection the sizes of its elements
  pub size_of : Value → ℕ
  size_of Null = 1
  size_of Invalid = 1
  size_of (V.Bool b) = 1
  size_of (Int n) = 1
  size_of (Str bytes) = 1 + length bytes
  size_of (Enum e l) = 1
  size_of (Obj o) = 1
  size_of (Coll' kind shape row) = 1 + row_size row

  pub row_size : {m : _} → Row_of-Value m → ℕ
  row_size end_of-Value = 0
  row_size (more_of-Value v rest) = size_of v + row_size rest

-- the sizes of some values together
abbrev pub sizes_of : List Value → ℕ
sizes_of [] = 0
sizes_of (v ∷ vs) = size_of v + sizes_of vs

abbrev mutual
  -- how deep collections nest in a value
  pub levels_of : Value → ℕ
  levels_of Null = 0
  levels_of Invalid = 0
  levels_of (V.Bool b) = 0
  levels_of (Int n) = 0
  levels_of (Str bytes) = 0
  levels_of (Enum e l) = 0
  levels_of (Obj o) = 0
  levels_of (Coll' kind shape row) = 1 + row_levels row

  pub row_levels : {m : _} → Row_of-Value m → ℕ
  row_levels end_of-Value = 0
  row_levels (more_of-Value v rest) = max (levels_of v) (row_levels rest)

-- the deepest of some values
abbrev pub most_levels : List Value → ℕ
most_levels [] = 0
most_levels (v ∷ vs) = max (levels_of v) (most_levels vs)

-- the elements as the kind keeps them: sets and bags ascend, sets without repeats; ordered sets keep each element at its first place
abbrev pub canonical : Kind → List Value → List Value
canonical Set vs = set_of value_cmp vs
canonical OrderedSet vs = firsts_of value_cmp vs
canonical Bag vs = bag_of value_cmp vs
canonical Sequence vs = vs

-- an element is invalid
abbrev pub some_invalid : List Value → Bool
some_invalid [] = false
some_invalid (v ∷ vs) = is_invalid v || some_invalid vs

-- how deep collections may nest
abbrev pub max_levels : ℕ
max_levels = 256

-- no collection holds these: one is invalid, or the collection would nest too deep
abbrev pub are_unfit : List Value → Bool
are_unfit vs = some_invalid vs || nat_le max_levels (most_levels vs)

-- the collection that a list makes, or invalid where none holds its elements
abbrev pub canon : Kind → List Value → Value
canon kind vs = cond (are_unfit vs) Invalid (Coll kind (canonical kind vs))

abbrev mutual
  -- each collection in the value is as its kind keeps it, and holds no invalid
  pub IsTidy : Value → Type 0
  IsTidy Null = Unit {0}
  IsTidy Invalid = Unit {0}
  IsTidy (V.Bool b) = Unit {0}
  IsTidy (Int n) = Unit {0}
  IsTidy (Str bytes) = Unit {0}
  IsTidy (Enum e l) = Unit {0}
  IsTidy (Obj o) = Unit {0}
  IsTidy (Coll' kind shape row) =
      (canonical kind (items-the_row-Value _ row) ≡ items-the_row-Value _ row) × (some_invalid (items-the_row-Value _ row) ≡ false) × AreTidy row

  pub AreTidy : {m : _} → Row_of-Value m → Type 0
  AreTidy end_of-Value = Unit {0}
  AreTidy (more_of-Value v rest) = IsTidy v × AreTidy rest

-- a value that evaluation can give: tidy, with collections that nest no deeper than they may
pub record IsWellMade (v : Value) : Type 0 where
  pub tidy : IsTidy v
  pub levels : levels_of v ≤ max_levels

-- the elements of a collection
abbrev pub elements : Value → List Value
elements Null = []
elements Invalid = []
elements (V.Bool b) = []
elements (Int n) = []
elements (Str bytes) = []
elements (Enum e l) = []
elements (Obj o) = []
elements (Coll' kind shape row) = items-the_row-Value _ row
