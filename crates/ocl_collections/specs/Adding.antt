-- A collection with one element more, and without an element. The result has the same kind.
use Rattle.std.specs.Prelude.{List, [], ◌∷◌, ◌++◌}
use Rattle.use_orders.specs.Canon.{without}
use Rattle.ocl_values.specs.Order.{value_cmp}
use Rattle.ocl_values.specs.Shape.{canon}
use Rattle.ocl_values.specs.declared.value.Kind.{Kind}
use Rattle.ocl_values.specs.declared.value.Value.{Value}

-- x after the elements; a set that has it stays as it is
abbrev pub including : Kind → List Value → Value → Value
including kind xs x = canon kind (xs ++ x ∷ [])

-- the elements but each occurrence of x
abbrev pub excluding : Kind → List Value → Value → Value
excluding kind xs x = canon kind (without value_cmp xs (x ∷ []))
