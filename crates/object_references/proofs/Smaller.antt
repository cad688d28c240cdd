-- A value without an object is no larger.
use Rattle.std.proofs.Common.{◌≡◌, ℕ, ◌+◌, ◌≤◌, nat_eq, if◌then◌else◌, Bool, true, false, List, [], ◌∷◌, ap, sym, subst, arith, Result, Ok, Err, IfOk}
use Rattle.ocl_values.specs.declared.value.Value.{Value, Row_of-Value, end_of-Value, more_of-Value}
use Rattle.ocl_values.specs.declared.value.Value.TheVariants as V
use Rattle.ocl_values.specs.declared.value.Value.TheVariants.{Null, Invalid, Int, Str, Enum, Obj, Coll'}
use Rattle.ocl_values.specs.Shape.{row_size, size_of, sizes_of}
use Rattle.object_references.specs.References.{is_object, row_without, without_object}
use Rattle.object_references.proofs.Sizes.{canon_size}

one_object : (b : Bool) (o : ℕ) → size_of (if b then Null else Obj o) ≤ 1
one_object true o = omega arith
one_object false o = omega arith

taken_out : (b : Bool) (v : Value) (vs : List Value) (m n : ℕ) → size_of v ≤ m → sizes_of vs ≤ n → sizes_of (if b then vs else v ∷ vs) ≤ m + n
taken_out true v vs m n one rest = omega (arith, rest)
taken_out false v vs m n one rest = omega (arith, one, rest)

mutual
  pub smaller : (o : ℕ) (v : Value) → size_of (without_object o v) ≤ size_of v
  smaller o Null = omega arith
  smaller o Invalid = omega arith
  smaller o (V.Bool b) = omega arith
  smaller o (Int n) = omega arith
  smaller o (Str bytes) = omega arith
  smaller o (Enum e l) = omega arith
  smaller o (Obj p) = one_object (nat_eq o p) p
  smaller o (Coll' kind shape row) =
      let whole = canon_size kind (row_without o row) in
      let rest = row_smaller o row in
      omega (arith, whole, rest)

  row_smaller : (o : ℕ) {m : _} (row : Row_of-Value m) → sizes_of (row_without o row) ≤ row_size row
  row_smaller o end_of-Value = omega arith
  row_smaller o (more_of-Value v rest) = taken_out (is_object o v) (without_object o v) (row_without o rest) (size_of v) (row_size rest) (smaller o v) (row_smaller o rest)

-- a result that is the value without an object is no larger
pub smaller_result : {E : Type 0} (r : Result Value E) (o : ℕ) (v : Value) → IfOk r (λ x. x ≡ without_object o v) → IfOk r (λ x. size_of x ≤ size_of v)
smaller_result (Ok x) o v e = subst (λ y. size_of y ≤ size_of v) (sym e) (smaller o v)
smaller_result (Err e) o v h = h
