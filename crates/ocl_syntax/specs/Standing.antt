-- The places that stand in an expression as it is written.
use Rattle.std.specs.Prelude.{◌≡◌, ◌⊎◌, List, [], ◌∷◌, ◌++◌, Contains, flat_map, map, unwrap_or, Option, Some, None}
use Rattle.use_text.specs.declared.place.Place.{Place}
use Rattle.use_text.specs.declared.token.Token.{Token}
use Rattle.use_text.specs.Places.{place_at}
use Rattle.class_decls.specs.declared.decls.Name.{Name}
use Rattle.class_decls.specs.declared.decls.TypeDecl.{TypeDecl}
use Rattle.ocl_syntax.specs.declared.tree.Argument.{Argument, out-Argument}
use Rattle.ocl_syntax.specs.declared.tree.Argument.TheOpen.{Written-F, WrittenPart-F, Argument-F}
use Rattle.ocl_syntax.specs.declared.tree.Written.{Written, out-Written}
use Rattle.ocl_syntax.specs.declared.tree.WrittenPart.{WrittenPart, out-WrittenPart}
use Rattle.ocl_syntax.specs.Within.{IsWithin}

-- the place of a name, and of the name in a written type, if there is one
abbrev pub of_name : Option Name → List Place
of_name None = []
of_name (Some name) = name.place ∷ []

abbrev pub of_type : Option TypeDecl → List Place
of_type None = []
of_type (Some t) = t.name.place ∷ []

abbrev pub of_argument_form : Argument-F Argument Written WrittenPart → List Place
of_argument_form (Argument-F.Item e t start) = of_type t
of_argument_form (Argument-F.Accumulator e t start) = of_type t
of_argument_form (Argument-F.Body e) = []

abbrev pub of_argument : Argument → List Place
of_argument a = of_argument_form (out-Argument a)

abbrev pub of_part_form : WrittenPart-F Argument Written WrittenPart → List Place
of_part_form (WrittenPart-F.One e) = []
of_part_form (WrittenPart-F.Range place a b) = place ∷ []

abbrev pub of_part : WrittenPart → List Place
of_part p = of_part_form (out-WrittenPart p)

-- the places of a form itself
abbrev pub own_places : Written-F Argument Written WrittenPart → List Place
own_places (Written-F.TooDeep place) = place ∷ []
own_places (Written-F.Literal place value) = place ∷ []
own_places (Written-F.OnlyLiteral place name) = place ∷ name.place ∷ []
own_places (Written-F.Named name literal is_before arguments) = name.place ∷ of_name literal ++ flat_map of_argument (unwrap_or arguments [])
own_places (Written-F.Collection place kind parts) = place ∷ flat_map of_part parts
own_places (Written-F.If place c a b) = place ∷ []
own_places (Written-F.Let place name t value body) = place ∷ name.place ∷ of_type t
own_places (Written-F.Unary place op a) = place ∷ []
own_places (Written-F.Binary place op a b) = place ∷ []
own_places (Written-F.Dot source name is_before arguments) = name.place ∷ flat_map of_argument (unwrap_or arguments [])
own_places (Written-F.Arrow source name arguments) = name.place ∷ flat_map of_argument (unwrap_or arguments [])
own_places (Written-F.Group place inner) = place ∷ []

-- a place stands in an expression: it is one of the form of an expression in it
pub record StandsIn (p : Place) (e : Written) : Type 0 where
  pub part : Written
  pub within : IsWithin part e
  pub own : Contains (own_places (out-Written part)) p

-- it is the place of one of these tokens
abbrev pub IsTokenPlace : List Token → Place → Type 0
IsTokenPlace ts p = Contains (map (λ t. t.place) ts) p

-- or it is 0:0, which is told where a tree lacks a part or nests more than max_forms forms
abbrev pub IsTokenPlaceOrZero : List Token → Place → Type 0
IsTokenPlaceOrZero ts p = IsTokenPlace ts p ⊎ (p ≡ place_at 0 0)
