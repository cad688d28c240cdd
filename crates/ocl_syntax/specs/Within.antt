-- The expressions in an expression as it is written.
use Rattle.std.specs.Prelude.{List, [], ◌∷◌, Contains, flat_map, unwrap_or}
use Rattle.std.specs.Option.{option_to_list}
use Rattle.ocl_syntax.specs.declared.tree.Argument.{Argument, out-Argument}
use Rattle.ocl_syntax.specs.declared.tree.Argument.TheOpen.{Written-F, WrittenPart-F, Argument-F}
use Rattle.ocl_syntax.specs.declared.tree.Written.{Written, out-Written}
use Rattle.ocl_syntax.specs.declared.tree.WrittenPart.{WrittenPart, out-WrittenPart}

abbrev pub in_argument_form : Argument-F Argument Written WrittenPart → List Written
in_argument_form (Argument-F.Item e of_type start) = e ∷ option_to_list start
in_argument_form (Argument-F.Accumulator e of_type start) = e ∷ option_to_list start
in_argument_form (Argument-F.Body e) = e ∷ []

abbrev pub in_argument : Argument → List Written
in_argument a = in_argument_form (out-Argument a)

abbrev pub in_part_form : WrittenPart-F Argument Written WrittenPart → List Written
in_part_form (WrittenPart-F.One e) = e ∷ []
in_part_form (WrittenPart-F.Range place a b) = a ∷ b ∷ []

abbrev pub in_part : WrittenPart → List Written
in_part p = in_part_form (out-WrittenPart p)

-- the expressions right in a form
abbrev pub parts_of : Written-F Argument Written WrittenPart → List Written
parts_of (Written-F.TooDeep place) = []
parts_of (Written-F.Literal place value) = []
parts_of (Written-F.OnlyLiteral place name) = []
parts_of (Written-F.Named name literal is_before arguments) = flat_map in_argument (unwrap_or arguments [])
parts_of (Written-F.Collection place kind parts) = flat_map in_part parts
parts_of (Written-F.If place c a b) = c ∷ a ∷ b ∷ []
parts_of (Written-F.Let place name of_type value body) = value ∷ body ∷ []
parts_of (Written-F.Unary place op a) = a ∷ []
parts_of (Written-F.Binary place op a b) = a ∷ b ∷ []
parts_of (Written-F.Dot source name is_before arguments) = source ∷ flat_map in_argument (unwrap_or arguments [])
parts_of (Written-F.Arrow source name arguments) = source ∷ flat_map in_argument (unwrap_or arguments [])
parts_of (Written-F.Group place inner) = inner ∷ []

-- an expression is another, or stands in one of the expressions right in that
pub data IsWithin : Written → Written → Type 0 where
  itself : (e : Written) → IsWithin e e
  inside : (part e f : Written) → Contains (parts_of (out-Written e)) f → IsWithin part f → IsWithin part e
