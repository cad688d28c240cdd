-- Questions about the type that a value has (OCL 2.3.1, 11.3.1).
use Rattle.std.specs.Prelude.{ℕ, nat_eq, nat_lt, Bool, true, false, if◌then◌else◌, Option, Some, None, length}
use Rattle.std.specs.Option.{option_map_or}
use Rattle.ocl_values.specs.declared.value.Value.{Value}
use Rattle.ocl_values.specs.declared.value.Value.TheVariants as V
use Rattle.ocl_values.specs.declared.value.Value.TheVariants.{Null, Invalid}
use Rattle.class_model.specs.Conformance.{conforms}
use Rattle.class_model.specs.declared.object_model.ObjectModel.{ObjectModel}
use Rattle.class_model.specs.declared.types.OclType.{OclType}
use Rattle.class_model.specs.declared.types.OclType.TheVariants as T
use Rattle.ocl_core.specs.declared.operators.TypeTest.{TypeTest}
use Rattle.ocl_core.specs.declared.operators.TypeTest.TheVariants.{IsTypeOf, IsKindOf, AsType}

-- the type that a value has itself, where that is told by the value: of an object it is its class, and a collection has none that can be asked for
abbrev pub type_of : Value → Option OclType
type_of (V.Bool b) = Some T.Bool
type_of (V.Int n) = Some T.Int
type_of (V.Str bytes) = Some T.Str
type_of (V.Enum e l) = Some (T.Enum e)
type_of _ = None

-- whether two types are one; only those that a value can have
abbrev pub is_same : OclType → OclType → Bool
is_same T.Bool T.Bool = true
is_same T.Int T.Int = true
is_same T.Str T.Str = true
is_same (T.Enum e) (T.Enum f) = nat_eq e f
is_same (T.Class c) (T.Class d) = nat_eq c d
is_same _ _ = false

abbrev pub is_any : OclType → Bool
is_any T.Any = true
is_any _ = false

-- whether a value of a type is one of another; where its type cannot be asked for, it is of OclAny alone
abbrev pub is_kind_of : ObjectModel → Option OclType → OclType → Bool
is_kind_of m (Some own) t = conforms m own t
is_kind_of m None t = is_any t

-- whether a type is none of another model
abbrev pub is_of_model : ObjectModel → OclType → Bool
is_of_model m (T.Class c) = nat_lt c (length m.classes)
is_of_model m (T.Enum e) = nat_lt e (length m.enums)
is_of_model m _ = true

abbrev pub answered : ObjectModel → TypeTest → OclType → Option OclType → Value → Value
answered m IsTypeOf t own v = V.Bool (option_map_or (λ o. is_same o t) own false)
answered m IsKindOf t own v = V.Bool (is_kind_of m own t)
answered m AsType t own v = if is_kind_of m own t then v else Invalid

-- the answer for a value and the type that it has itself
abbrev pub tested : ObjectModel → TypeTest → OclType → Option OclType → Value → Value
tested m test t own v = if is_of_model m t then answered m test t own v else Invalid

-- the answer for what is no object: of null and of invalid it is invalid
abbrev pub plain_tested : ObjectModel → TypeTest → OclType → Value → Value
plain_tested m test t Null = Invalid
plain_tested m test t Invalid = Invalid
plain_tested m test t v = tested m test t (type_of v) v
