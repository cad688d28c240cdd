-- The places of an expression are those of its form and of the expressions in it.
use Rattle.std.proofs.Common.{List, [], ◌∷◌, ◌++◌, Option, Some, None, Contains, flat_map}
use Rattle.std.specs.List.{AllByRecursion}
use Rattle.std.specs.Option.{IfSome, option_to_list}
use Rattle.std.proofs.lemmas.List.Elements.{All-contains_itself, recursion_from_All}
use Rattle.use_text.specs.declared.place.Place.{Place}
use Rattle.class_decls.specs.declared.decls.Name.{Name}
use Rattle.class_decls.specs.declared.decls.TypeDecl.{TypeDecl}
use Rattle.ocl_syntax.specs.declared.tree.Argument.{Argument, out-Argument}
use Rattle.ocl_syntax.specs.declared.tree.Argument.TheOpen.{Written-F, WrittenPart-F, Argument-F}
use Rattle.ocl_syntax.specs.declared.tree.Written.{Written, out-Written}
use Rattle.ocl_syntax.specs.declared.tree.WrittenPart.{WrittenPart, out-WrittenPart}
use Rattle.ocl_shapes.specs.Shapes.{ArgumentLayer, Layer, PartLayer, expression_in, or_none, start_in as start_made, written_type_in}
use Rattle.ocl_syntax.specs.Standing.{StandsIn, of_argument, of_argument_form, of_name, of_part, of_part_form, of_type, own_places}
use Rattle.ocl_syntax.specs.Within.{in_argument, in_argument_form, in_part, in_part_form, parts_of}
use Rattle.ocl_syntax.proofs.PlacesStand.{here}
use Rattle.ocl_laws.proofs.Walk.{ArgumentStands, LayerStands, PartLayerStands, PartStands}

-- ---- lists

left_of : {X : Type 0} (P : X → Type 0) (xs ys : List X) → AllByRecursion P (xs ++ ys) → AllByRecursion P xs
left_of P [] ys h = tt
left_of P (x ∷ xs) ys h = (h.0, left_of P xs ys h.1)

right_of : {X : Type 0} (P : X → Type 0) (xs ys : List X) → AllByRecursion P (xs ++ ys) → AllByRecursion P ys
right_of P [] ys h = h
right_of P (x ∷ xs) ys h = right_of P xs ys h.1

each_of : {X A : Type 0} (P : A → Type 0) (f : X → List A) (xs : List X) → AllByRecursion P (flat_map f xs) → AllByRecursion (λ x. AllByRecursion P (f x)) xs
each_of P f [] h = tt
each_of P f (x ∷ xs) h = (left_of P (f x) (flat_map f xs) h, each_of P f xs (right_of P (f x) (flat_map f xs) h))

both_of : {X : Type 0} (P Q R : X → Type 0) → ((x : X) → P x → Q x → R x) → (xs : List X) → AllByRecursion P xs → AllByRecursion Q xs → AllByRecursion R xs
both_of P Q R f [] h k = tt
both_of P Q R f (x ∷ xs) h k = (f x h.0 k.0, both_of P Q R f xs h.1 k.1)

-- ---- one form

module _ (At : Place → Type 0) (Within : Written → Type 0) where
  name_in : (o : Option Name) → AllByRecursion At (of_name o) → IfSome o (λ n. At n.place)
  name_in None h = tt
  name_in (Some n) h = h.0

  type_in : (o : Option TypeDecl) → AllByRecursion At (of_type o) → IfSome o (λ d. At d.name.place)
  type_in None h = tt
  type_in (Some d) h = h.0

  start_in : (o : Option Written) → AllByRecursion Within (option_to_list o) → IfSome o Within
  start_in None h = tt
  start_in (Some e) h = h.0

  first_in : (l : ArgumentLayer) → AllByRecursion Within (in_argument_form l) → Within (expression_in l)
  first_in (Argument-F.Item e t start) k = k.0
  first_in (Argument-F.Accumulator e t start) k = k.0
  first_in (Argument-F.Body e) k = k.0

  declared_in : (l : ArgumentLayer) → AllByRecursion At (of_argument_form l) → IfSome (written_type_in l) (λ d. At d.name.place)
  declared_in (Argument-F.Item e t start) h = type_in t h
  declared_in (Argument-F.Accumulator e t start) h = type_in t h
  declared_in (Argument-F.Body e) h = tt

  behind_in : (l : ArgumentLayer) → AllByRecursion Within (in_argument_form l) → IfSome (start_made l) Within
  behind_in (Argument-F.Item e t start) k = start_in start k.1
  behind_in (Argument-F.Accumulator e t start) k = start_in start k.1
  behind_in (Argument-F.Body e) k = tt

  argument_in : (a : Argument) → AllByRecursion At (of_argument a) → AllByRecursion Within (in_argument a) → ArgumentStands At Within a
  argument_in a h k =
      record { expression = first_in (out-Argument a) k; of_type = declared_in (out-Argument a) h; start = behind_in (out-Argument a) k }

  arguments_in : (all : List Argument) → AllByRecursion At (flat_map of_argument all) → AllByRecursion Within (flat_map in_argument all) →
      AllByRecursion (ArgumentStands At Within) all
  arguments_in all h k =
      both_of (λ a. AllByRecursion At (of_argument a)) (λ a. AllByRecursion Within (in_argument a)) (ArgumentStands At Within) argument_in all
      (each_of At of_argument all h) (each_of Within in_argument all k)

  layer_part_in : (l : PartLayer) → AllByRecursion At (of_part_form l) → AllByRecursion Within (in_part_form l) → PartLayerStands At Within l
  layer_part_in (WrittenPart-F.One e) h k = k.0
  layer_part_in (WrittenPart-F.Range place a b) h k = (h.0, k.0, k.1.0)

  part_in : (p : WrittenPart) → AllByRecursion At (of_part p) → AllByRecursion Within (in_part p) → PartStands At Within p
  part_in p h k = layer_part_in (out-WrittenPart p) h k

  parts_in : (all : List WrittenPart) → AllByRecursion At (flat_map of_part all) → AllByRecursion Within (flat_map in_part all) →
      AllByRecursion (PartStands At Within) all
  parts_in all h k =
      both_of (λ p. AllByRecursion At (of_part p)) (λ p. AllByRecursion Within (in_part p)) (PartStands At Within) part_in all
      (each_of At of_part all h) (each_of Within in_part all k)

  pub layer_in : (l : Layer) → AllByRecursion At (own_places l) → AllByRecursion Within (parts_of l) → LayerStands At Within l
  layer_in (Written-F.TooDeep place) h k = h.0
  layer_in (Written-F.Literal place value) h k = tt
  layer_in (Written-F.OnlyLiteral place name) h k = h.1.0
  layer_in (Written-F.Named name literal is_before arguments) h k = (
    h.0,
    name_in literal (left_of At (of_name literal) (flat_map of_argument (or_none arguments)) h.1),
    arguments_in (or_none arguments) (right_of At (of_name literal) (flat_map of_argument (or_none arguments)) h.1) k,
  )
  layer_in (Written-F.Collection place kind parts) h k = parts_in parts h.1 k
  layer_in (Written-F.If place c a b) h k = (k.0, k.1.0, k.1.1.0)
  layer_in (Written-F.Let place name t value body) h k = (type_in t h.1.1, k.0, k.1.0)
  layer_in (Written-F.Unary place op a) h k = (h.0, k.0)
  layer_in (Written-F.Binary place op a b) h k = (h.0, k.0, k.1.0)
  layer_in (Written-F.Dot source name is_before arguments) h k = (k.0, h.0, arguments_in (or_none arguments) h.1 k.1)
  layer_in (Written-F.Arrow source name arguments) h k = (k.0, h.0, arguments_in (or_none arguments) h.1 k.1)
  layer_in (Written-F.Group place inner) h k = k.0

-- ---- the places of an expression

-- each form, and every expression in it, stands in it
pub own_stand : (e : Written) → AllByRecursion (λ p. StandsIn p e) (own_places (out-Written e))
own_stand e =
    recursion_from_All (λ p. StandsIn p e) (own_places (out-Written e))
    (λ k d lt. here e (All-contains_itself (own_places (out-Written e)) k d lt))

pub parts_stand : (e : Written) → AllByRecursion (Contains (parts_of (out-Written e))) (parts_of (out-Written e))
parts_stand e = recursion_from_All (Contains (parts_of (out-Written e))) (parts_of (out-Written e)) (All-contains_itself (parts_of (out-Written e)))
