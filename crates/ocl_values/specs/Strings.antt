-- The operations of String, over the list of its characters.
use Rattle.std.specs.Prelude.{ℕ, zero, suc, ◌+◌, ◌-◌, ◌*◌, nat_eq, nat_le, ◌==◌, Bool, true, false, not, ◌&&◌, if◌then◌else◌, Option, Some, None, List, []}
use Rattle.std.specs.Prelude.{◌∷◌, ◌++◌, map, length, take, drop, fold, ℤ, pos, neg_ℤ, codes}
use Rattle.std.specs.Str.{all_ascii_digits, chars, encode_utf8_all}
use Rattle.std.specs.Char.{to_ascii_uppercase, to_ascii_lowercase}
use Rattle.std.specs.List.{starts_with}
use Rattle.std.specs.Fmt.{signed_decimal}
use Rattle.std.specs.declared.cmp.Ordering.{Ordering}
use Rattle.std.specs.Ordering.{nat_cmp, is_lt, is_le, is_gt, is_ge}
use Rattle.std.specs.Cmp.Lexicographic.{slice_cmp}
use Rattle.ocl_values.specs.Integers.{int_value}
use Rattle.ocl_values.specs.declared.value.Kind.TheVariants.{Sequence}
use Rattle.ocl_values.specs.declared.value.Value.{Value}
use Rattle.ocl_values.specs.declared.value.Value.TheVariants as V
use Rattle.ocl_values.specs.declared.value.Value.TheVariants.{Null, Invalid, Int, Str, Enum, Obj, Coll, Coll'}
use Rattle.ocl_values.specs.declared.string.StrOp.{StrOp}
use Rattle.ocl_values.specs.declared.string.StrOp.TheVariants.{Size, Concat, Substring, At, IndexOf, Upper, Lower, Characters, ToInteger, Lt, Le, Gt, Ge}

-- the String of some characters
abbrev pub string_of : List ℕ → Value
string_of cs = Str (encode_utf8_all cs)

-- the characters from l to u, counted from 1
abbrev pub substring : List ℕ → ℤ → ℤ → Value
substring cs (pos l) (pos u) = if nat_le 1 l && nat_le l u && nat_le u (length cs) then string_of (take (u + 1 - l) (drop (l - 1) cs)) else Invalid
substring cs _ _ = Invalid

-- a place counted from 1, or 0 for none, where one more stands before
abbrev pub one_later : ℕ → ℕ
one_later zero = 0
one_later (suc k) = suc (suc k)

-- the first place at which the characters ts stand, counted from 1, or 0 for none; the empty ones stand at 1
abbrev pub index_of : List ℕ → List ℕ → ℕ
index_of ts [] = if starts_with nat_eq [] ts then 1 else 0
index_of ts (c ∷ cs) = if starts_with nat_eq (c ∷ cs) ts then 1 else one_later (index_of ts cs)

-- one digit or more, and nothing else
abbrev pub is_numeral : List ℕ → Bool
is_numeral cs = not (nat_eq (length cs) 0) && all_ascii_digits cs

-- the number that digits write
abbrev pub number_of : List ℕ → ℕ
number_of cs = fold (λ n c. n * 10 + (c - 48)) 0 cs

-- the integer that an optional minus sign and digits write; any other text is invalid
abbrev pub integer_of : List ℕ → Value
integer_of [] = Invalid
integer_of (c ∷ cs) =
    if c == 45
    then (if is_numeral cs then int_value (neg_ℤ (pos (number_of cs))) else Invalid)
    else (if is_numeral (c ∷ cs) then int_value (pos (number_of (c ∷ cs))) else Invalid)

-- the arguments as an operation takes them: none, one String, one Integer, two Integers

abbrev pub no_argument : List Value → Bool
no_argument [] = true
no_argument (x ∷ xs) = false

abbrev pub string_argument : List Value → Option (List ℕ)
string_argument (Str t ∷ []) = Some t
string_argument _ = None

abbrev pub integer_argument : List Value → Option ℤ
integer_argument (Int n ∷ []) = Some n
integer_argument _ = None

abbrev pub integer_arguments : List Value → Option (ℤ × ℤ)
integer_arguments (Int m ∷ Int n ∷ []) = Some (m, n)
integer_arguments _ = None

-- what is given of an argument, and invalid where there is none
abbrev pub with : {A : Type 0} → Option A → (A → Value) → Value
with None f = Invalid
with (Some x) f = f x

-- whether the bytes of two texts stand in such an order
abbrev pub compared : (Ordering → Bool) → List ℕ → List ℕ → Value
compared test s t = V.Bool (test (slice_cmp nat_cmp s t))

-- an operation of the text s; arguments of another number or kind make it invalid
abbrev pub of_text : StrOp → List ℕ → List Value → Value
of_text Size s args = if no_argument args then Int (pos (length (chars s))) else Invalid
of_text Concat s args = with (string_argument args) (λ t. string_of (chars s ++ chars t))
of_text Substring s args = with (integer_arguments args) (λ places. substring (chars s) places.0 places.1)
of_text At s args = with (integer_argument args) (λ i. substring (chars s) i i)
of_text IndexOf s args = with (string_argument args) (λ t. Int (pos (index_of (chars t) (chars s))))
of_text Upper s args = if no_argument args then string_of (map to_ascii_uppercase (chars s)) else Invalid
of_text Lower s args = if no_argument args then string_of (map to_ascii_lowercase (chars s)) else Invalid
of_text Characters s args = if no_argument args then Coll Sequence (map (λ c. string_of (c ∷ [])) (chars s)) else Invalid
of_text ToInteger s args = if no_argument args then integer_of (chars s) else Invalid
of_text Lt s args = with (string_argument args) (compared is_lt s)
of_text Le s args = with (string_argument args) (compared is_le s)
of_text Gt s args = with (string_argument args) (compared is_gt s)
of_text Ge s args = with (string_argument args) (compared is_ge s)

-- an operation of String; what is no String makes it invalid, as null and invalid do
abbrev pub str_op_value : StrOp → Value → List Value → Value
str_op_value op (Str s) args = of_text op s args
str_op_value op _ args = Invalid

-- the text of a truth value
abbrev pub bool_text : Bool → List ℕ
bool_text true = codes "true"
bool_text false = codes "false"

-- `toString()` of an integer or a truth value
abbrev pub to_string_value : Value → Value
to_string_value (Int n) = Str (signed_decimal n)
to_string_value (V.Bool b) = Str (bool_text b)
to_string_value _ = Invalid
