-- What the operations of String give is well made.
use Rattle.std.proofs.Common.{◌≡◌, ℕ, ◌≤◌, Bool, true, false, List, [], ◌∷◌, map, ◌==◌, if◌then◌else◌, refl, sym, subst, ℤ, pos, neg_ℤ, negsuc, Option, Some}
use Rattle.std.proofs.Common.{None, Result, Ok, Err, IfOk, arith, lit≤}
use Rattle.std.specs.List.{AllByRecursion}
use Rattle.std.specs.Str.{chars}
use Rattle.ocl_values.specs.declared.string.StrOp.{StrOp}
use Rattle.ocl_values.specs.declared.string.StrOp.TheVariants as S
use Rattle.ocl_values.specs.declared.value.Kind.TheVariants.{Sequence}
use Rattle.ocl_values.specs.declared.value.Value.{Value}
use Rattle.ocl_values.specs.declared.value.Value.TheVariants as V
use Rattle.ocl_values.specs.declared.value.Value.TheVariants.{Null, Invalid, Int, Str, Enum, Obj, Coll, Coll'}
use Rattle.ocl_values.specs.Integers.{in_range, int_value}
use Rattle.ocl_values.specs.Strings.{no_argument, string_argument, integer_argument, integer_arguments, with, string_of, substring, integer_of, is_numeral}
use Rattle.ocl_values.specs.Strings.{number_of, of_text, str_op_value}
use Rattle.ocl_values.specs.Shape.{most_levels, some_invalid, IsTidy, IsWellMade}
use Rattle.ocl_values.proofs.Rows.{tidy_Coll, levels_of-Coll}

well_Null : IsWellMade Null
well_Null = record { tidy = tt; levels = lit≤ tt }

well_Invalid : IsWellMade Invalid
well_Invalid = record { tidy = tt; levels = lit≤ tt }

well_Bool : (b : Bool) → IsWellMade (V.Bool b)
well_Bool b = record { tidy = tt; levels = lit≤ tt }

well_Int : (n : ℤ) → IsWellMade (Int n)
well_Int n = record { tidy = tt; levels = lit≤ tt }

well_Str : (bytes : List ℕ) → IsWellMade (Str bytes)
well_Str bytes = record { tidy = tt; levels = lit≤ tt }

well_or_invalid : (b : Bool) (v : Value) → IsWellMade v → IsWellMade (if b then v else Invalid)
well_or_invalid true v well = well
well_or_invalid false v well = well_Invalid

-- integers and truth values

well_int_value : (z : ℤ) → IsWellMade (int_value z)
well_int_value z = well_or_invalid (in_range z) (Int z) (well_Int z)

-- strings

well_string_of : (cs : List ℕ) → IsWellMade (string_of cs)
well_string_of cs = well_Str _

well_with : {A : Type 0} (x : Option A) (f : A → Value) → ((a : A) → IsWellMade (f a)) → IsWellMade (with x f)
well_with None f well = well_Invalid
well_with (Some a) f well = well a

well_substring : (cs : List ℕ) (l u : ℤ) → IsWellMade (substring cs l u)
well_substring cs (pos l) (pos u) = well_or_invalid _ _ (well_Str _)
well_substring cs (pos l) (negsuc u) = well_Invalid
well_substring cs (negsuc l) u = well_Invalid

well_either : (b : Bool) (v w : Value) → IsWellMade v → IsWellMade w → IsWellMade (if b then v else w)
well_either true v w left right = left
well_either false v w left right = right

well_integer_of : (cs : List ℕ) → IsWellMade (integer_of cs)
well_integer_of [] = well_Invalid
well_integer_of (c ∷ cs) =
    let below = int_value (neg_ℤ (pos (number_of cs))) in
    let above = int_value (pos (number_of (c ∷ cs))) in
    well_either (c == 45) (if is_numeral cs then below else Invalid) (if is_numeral (c ∷ cs) then above else Invalid)
    (well_or_invalid (is_numeral cs) below (well_int_value (neg_ℤ (pos (number_of cs)))))
    (well_or_invalid (is_numeral (c ∷ cs)) above (well_int_value (pos (number_of (c ∷ cs)))))

abbrev single : ℕ → Value
single c = string_of (c ∷ [])

all_tidy : (cs : List ℕ) → AllByRecursion IsTidy (map single cs)
all_tidy [] = tt
all_tidy (c ∷ cs) = (tt, all_tidy cs)

none_invalid : (cs : List ℕ) → some_invalid (map single cs) ≡ false
none_invalid [] = refl
none_invalid (c ∷ cs) = none_invalid cs

none_deep : (cs : List ℕ) → most_levels (map single cs) ≤ 0
none_deep [] = omega arith
none_deep (c ∷ cs) = let rest = none_deep cs in omega (arith, rest)

well_singles : (cs : List ℕ) → IsWellMade (Coll Sequence (map single cs))
well_singles cs =
    let deep = none_deep cs in
    let levels = levels_of-Coll Sequence (map single cs) in
    record {
      tidy = tidy_Coll Sequence (map single cs) (record { kept = refl; none = none_invalid cs; each = all_tidy cs });
      levels = omega (arith, deep, levels);
    }

pub well_of_text : (op : StrOp) (s : List ℕ) (args : List Value) → IsWellMade (of_text op s args)
well_of_text S.Size s args = well_or_invalid (no_argument args) _ (well_Int _)
well_of_text S.Concat s args = well_with (string_argument args) _ (λ t. well_Str _)
well_of_text S.Substring s args = well_with (integer_arguments args) _ (λ places. well_substring (chars s) places.0 places.1)
well_of_text S.At s args = well_with (integer_argument args) _ (λ i. well_substring (chars s) i i)
well_of_text S.IndexOf s args = well_with (string_argument args) _ (λ t. well_Int _)
well_of_text S.Upper s args = well_or_invalid (no_argument args) _ (well_Str _)
well_of_text S.Lower s args = well_or_invalid (no_argument args) _ (well_Str _)
well_of_text S.Characters s args = well_or_invalid (no_argument args) _ (well_singles (chars s))
well_of_text S.ToInteger s args = well_or_invalid (no_argument args) _ (well_integer_of (chars s))
well_of_text S.Lt s args = well_with (string_argument args) _ (λ t. well_Bool _)
well_of_text S.Le s args = well_with (string_argument args) _ (λ t. well_Bool _)
well_of_text S.Gt s args = well_with (string_argument args) _ (λ t. well_Bool _)
well_of_text S.Ge s args = well_with (string_argument args) _ (λ t. well_Bool _)

pub well_str_op : (op : StrOp) (source : Value) (args : List Value) → IsWellMade (str_op_value op source args)
well_str_op op (Str s) args = well_of_text op s args
well_str_op op _ args = well_Invalid

-- a result that is such a value is well made
pub well_result : {E : Type 0} (r : Result Value E) (v : Value) → IsWellMade v → IfOk r (λ x. x ≡ v) → IfOk r IsWellMade
well_result (Ok x) v well e = subst IsWellMade (sym e) well
well_result (Err e) v well h = h
