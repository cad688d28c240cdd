-- What holds of the forms that are read holds of each expression in what is made of them.
use Rattle.std.proofs.Common.{◌≡◌, ◌≤◌, ℕ, suc, ◌+◌, Bool, true, false, List, [], ◌∷◌, ◌++◌, length, Option, Some, None, flat_map, sym, subst, unwrap_or, rules, arith, inl, inr, ◌⊎◌, ⊎_elim}
use Rattle.std.specs.Prelude.{⊤}
use Rattle.std.specs.List.{AllByRecursion}
use Rattle.std.specs.Option.{option_to_list}
use Rattle.std.proofs.lemmas.List.Elements.{All-contains, All-from_recursion}
use Rattle.use_text.specs.declared.place.Place.{Place}
use Rattle.class_decls.specs.declared.decls.TypeDecl.{TypeDecl}
use Rattle.use_syntax.specs.Reading.{place_or}
use Rattle.ocl_syntax.specs.declared.layer.ArgumentHead.{ArgumentHead}
use Rattle.ocl_syntax.specs.declared.layer.ArgumentHead.TheVariants as a
use Rattle.ocl_syntax.specs.declared.layer.Head.{Head}
use Rattle.ocl_syntax.specs.declared.layer.Head.TheVariants as h
use Rattle.ocl_syntax.specs.declared.layer.PartHead.{PartHead}
use Rattle.ocl_syntax.specs.declared.layer.PartHead.TheVariants as p
use Rattle.ocl_syntax.specs.declared.tree.Argument.{Argument, out-Argument, the_lemmas as the_argument_lemmas}
use Rattle.ocl_syntax.specs.declared.tree.Argument.TheVariants.{Item, Accumulator, Body}
use Rattle.ocl_syntax.specs.declared.tree.Argument.TheOpen.{Written-F, WrittenPart-F, Argument-F}
use Rattle.ocl_syntax.specs.declared.tree.Written.{Written, out-Written, the_lemmas}
use Rattle.ocl_syntax.specs.declared.tree.Written.TheVariants as w
use Rattle.ocl_syntax.specs.declared.tree.WrittenPart.{WrittenPart, out-WrittenPart, the_lemmas as the_part_lemmas}
use Rattle.ocl_syntax.specs.declared.tree.WrittenPart.TheVariants.{One, Range}
use Rattle.ocl_syntax.specs.Made.{argument, arguments, arguments_if, behind_argument, behind_part, behind_start, first, left_out, made_of, part, parts, rest, start_of as start_made}
use Rattle.ocl_syntax.specs.Standing.{of_argument, of_argument_form, of_name, of_part, of_part_form, of_type, own_places}
use Rattle.ocl_syntax.specs.Within.{IsWithin, in_argument, in_argument_form, in_part, in_part_form, parts_of}

-- one level of a tree
abbrev pub Form : Type 0
Form = Written-F Argument Written WrittenPart

pub every_append : {X : Type 0} (P : X → Type 0) (xs ys : List X) → AllByRecursion P xs → AllByRecursion P ys → AllByRecursion P (xs ++ ys)
every_append P [] ys g k = k
every_append P (x ∷ xs) ys g k = (g.0, every_append P xs ys g.1 k)

-- the heads of arguments, if there are parentheses
abbrev pub heads_of : Option (List ArgumentHead) → List ArgumentHead
heads_of heads = unwrap_or heads []

-- ---- how many expressions a form takes

abbrev pub takes_start : Bool → ℕ
takes_start true = 1
takes_start false = 0

abbrev pub takes_argument : ArgumentHead → ℕ
takes_argument (a.Item t has_start) = suc (takes_start has_start)
takes_argument (a.Accumulator t has_start) = suc (takes_start has_start)
takes_argument a.Body = 1

abbrev pub takes_arguments : List ArgumentHead → ℕ
takes_arguments [] = 0
takes_arguments (head ∷ heads) = takes_argument head + takes_arguments heads

abbrev pub takes_part : PartHead → ℕ
takes_part p.One = 1
takes_part (p.Range at) = 2

abbrev pub takes_parts : List PartHead → ℕ
takes_parts [] = 0
takes_parts (head ∷ heads) = takes_part head + takes_parts heads

abbrev pub takes : Head → ℕ
takes h.Lacking = 0
takes h.Same = 1
takes (h.Literal at value) = 0
takes (h.OnlyLiteral at name) = 0
takes (h.Named name literal is_before heads) = takes_arguments (heads_of heads)
takes (h.Collection at kind heads) = takes_parts heads
takes (h.If at) = 3
takes (h.Let at name t) = 2
takes (h.Unary at operator) = 1
takes (h.Binary at operator) = 2
takes (h.Dot name is_before heads) = suc (takes_arguments (heads_of heads))
takes (h.Arrow name heads) = suc (takes_arguments (heads_of heads))
takes (h.Group at) = 1

module _ (At : Place → Type 0) where
  -- of one form: its places
  abbrev pub FormHolds : Form → Type 0
  FormHolds l = AllByRecursion At (own_places l)

  abbrev pub Holds : Written → Type 0
  Holds e = (part : Written) → IsWithin part e → FormHolds (out-Written part)

  reached : (e : Written) → FormHolds (out-Written e) → AllByRecursion Holds (parts_of (out-Written e)) → (part : Written) → IsWithin part e →
      FormHolds (out-Written part)
  reached e form all part (IsWithin.itself x) = form
  reached e form all part (IsWithin.inside x y f there within) =
      All-contains Holds (parts_of (out-Written e)) f (All-from_recursion Holds (parts_of (out-Written e)) all) there part within

  -- an expression, by its form
  kept : (e : Written) (l : Form) → out-Written e ≡ l → FormHolds l → AllByRecursion Holds (parts_of l) → Holds e
  kept e l is form all = reached e (subst FormHolds (sym is) form) (subst (λ x. AllByRecursion Holds (parts_of x)) (sym is) all)

  -- ---- what is asked of a form without its parts

  abbrev pub TypeHeld : Option TypeDecl → Type 0
  TypeHeld t = AllByRecursion At (of_type t)

  abbrev pub ArgumentHeld : ArgumentHead → Type 0
  ArgumentHeld (a.Item t has_start) = TypeHeld t
  ArgumentHeld (a.Accumulator t has_start) = TypeHeld t
  ArgumentHeld a.Body = ⊤

  abbrev pub PartHeld : PartHead → Type 0
  PartHeld p.One = ⊤
  PartHeld (p.Range at) = At at

  abbrev pub ArgumentsHeld : Option (List ArgumentHead) → Type 0
  ArgumentsHeld heads = AllByRecursion ArgumentHeld (heads_of heads)

  abbrev pub HeadHeld : Head → Type 0
  HeadHeld h.Lacking = At (place_or None)
  HeadHeld h.Same = ⊤
  HeadHeld (h.Literal at value) = At at
  HeadHeld (h.OnlyLiteral at name) = At at × At name.place
  HeadHeld (h.Named name literal is_before heads) = At name.place × AllByRecursion At (of_name literal) × ArgumentsHeld heads
  HeadHeld (h.Collection at kind heads) = At at × AllByRecursion PartHeld heads
  HeadHeld (h.If at) = At at
  HeadHeld (h.Let at name t) = At at × At name.place × TypeHeld t
  HeadHeld (h.Unary at operator) = At at
  HeadHeld (h.Binary at operator) = At at
  HeadHeld (h.Dot name is_before heads) = At name.place × ArgumentsHeld heads
  HeadHeld (h.Arrow name heads) = At name.place × ArgumentsHeld heads
  HeadHeld (h.Group at) = At at

  -- ---- arguments and parts, of the expressions that were made

  argument_by : (x : Argument) (l : Argument-F Argument Written WrittenPart) → out-Argument x ≡ l → AllByRecursion At (of_argument_form l) → AllByRecursion At (of_argument x)
  argument_by x l is k = subst (λ y. AllByRecursion At (of_argument_form y)) (sym is) k

  argument_places : (head : ArgumentHead) (made : List Written) → ArgumentHeld head → AllByRecursion At (of_argument (argument head made))
  argument_places (a.Item t has_start) made k =
      argument_by (Item (first made) t (start_made has_start (rest made))) (Argument-F.Item (first made) t (start_made has_start (rest made)))
      (search (rules, the_argument_lemmas)) k
  argument_places (a.Accumulator t has_start) made k =
      argument_by (Accumulator (first made) t (start_made has_start (rest made))) (Argument-F.Accumulator (first made) t (start_made has_start (rest made)))
      (search (rules, the_argument_lemmas)) k
  argument_places a.Body made k = argument_by (Body (first made)) (Argument-F.Body (first made)) (search (rules, the_argument_lemmas)) tt

  arguments_places : (heads : List ArgumentHead) (made : List Written) → AllByRecursion ArgumentHeld heads →
      AllByRecursion At (flat_map of_argument (arguments heads made))
  arguments_places [] made k = tt
  arguments_places (head ∷ heads) made k =
      every_append At (of_argument (argument head made)) (flat_map of_argument (arguments heads (behind_argument head made)))
      (argument_places head made k.0) (arguments_places heads (behind_argument head made) k.1)

  places_if : (heads : Option (List ArgumentHead)) (made : List Written) → ArgumentsHeld heads →
      AllByRecursion At (flat_map of_argument (unwrap_or (arguments_if heads made) []))
  places_if None made k = tt
  places_if (Some heads) made k = arguments_places heads made k

  part_by : (x : WrittenPart) (l : WrittenPart-F Argument Written WrittenPart) → out-WrittenPart x ≡ l → AllByRecursion At (of_part_form l) → AllByRecursion At (of_part x)
  part_by x l is k = subst (λ y. AllByRecursion At (of_part_form y)) (sym is) k

  part_places : (head : PartHead) (made : List Written) → PartHeld head → AllByRecursion At (of_part (part head made))
  part_places p.One made k = part_by (One (first made)) (WrittenPart-F.One (first made)) (search (rules, the_part_lemmas)) tt
  part_places (p.Range at) made k =
      part_by (Range at (first made) (first (rest made))) (WrittenPart-F.Range at (first made) (first (rest made))) (search (rules, the_part_lemmas)) (k, tt)

  parts_places : (heads : List PartHead) (made : List Written) → AllByRecursion PartHeld heads → AllByRecursion At (flat_map of_part (parts heads made))
  parts_places [] made k = tt
  parts_places (head ∷ heads) made k =
      every_append At (of_part (part head made)) (flat_map of_part (parts heads (behind_part head made)))
      (part_places head made k.0) (parts_places heads (behind_part head made) k.1)

  pub lacking_holds : At (place_or None) → Holds left_out
  lacking_holds none = kept left_out (Written-F.TooDeep (place_or None)) (search (rules, the_lemmas)) (none, tt) tt

  pub too_deep_holds : (at : Place) → At at → Holds (w.TooDeep at)
  too_deep_holds at k = kept (w.TooDeep at) (Written-F.TooDeep at) (search (rules, the_lemmas)) (k, tt) tt

  -- so many expressions are there, or what is said of one that is not there holds
  abbrev pub AreEnough : ℕ → List Written → Type 0
  AreEnough n made = (n ≤ length made) ⊎ At (place_or None)

  fewer : (m n : ℕ) (made : List Written) → m ≤ n → AreEnough n made → AreEnough m made
  fewer m n made low e = ⊎_elim (λ h. inl (omega (arith, h, low))) (λ none. inr none) e

  first_holds : (made : List Written) → AreEnough 1 made → AllByRecursion Holds made → Holds (first made)
  first_holds [] e k = ⊎_elim (λ h. absurd (omega (arith, h))) lacking_holds e
  first_holds (x ∷ more) e k = k.0

  rest_holds : (made : List Written) → AllByRecursion Holds made → AllByRecursion Holds (rest made)
  rest_holds [] k = tt
  rest_holds (e ∷ more) k = k.1

  rest_enough : (m n : ℕ) (made : List Written) → suc m ≤ n → AreEnough n made → AreEnough m (rest made)
  rest_enough m n [] low e = ⊎_elim (λ h. absurd (omega (arith, h, low))) (λ none. inr none) e
  rest_enough m n (x ∷ more) low e = ⊎_elim (λ h. inl (omega (arith, h, low))) (λ none. inr none) e

  second_holds : (made : List Written) → AreEnough 2 made → AllByRecursion Holds made → Holds (first (rest made))
  second_holds made e k = first_holds (rest made) (rest_enough 1 2 made (omega arith) e) (rest_holds made k)

  third_holds : (made : List Written) → AreEnough 3 made → AllByRecursion Holds made → Holds (first (rest (rest made)))
  third_holds made e k = second_holds (rest made) (rest_enough 2 3 made (omega arith) e) (rest_holds made k)

  start_holds : (has_start : Bool) (made : List Written) → AreEnough (takes_start has_start) made → AllByRecursion Holds made →
      AllByRecursion Holds (option_to_list (start_made has_start made))
  start_holds true made e k = (first_holds made e k, tt)
  start_holds false made e k = tt

  inside_by : (x : Argument) (l : Argument-F Argument Written WrittenPart) → out-Argument x ≡ l → AllByRecursion Holds (in_argument_form l) →
      AllByRecursion Holds (in_argument x)
  inside_by x l is k = subst (λ y. AllByRecursion Holds (in_argument_form y)) (sym is) k

  inside_item : (has_start : Bool) (made : List Written) → AreEnough (suc (takes_start has_start)) made → AllByRecursion Holds made →
      AllByRecursion Holds (first made ∷ option_to_list (start_made has_start (rest made)))
  inside_item has_start made e k = (
    first_holds made (fewer 1 (suc (takes_start has_start)) made (omega arith) e) k,
    start_holds has_start (rest made) (rest_enough (takes_start has_start) (suc (takes_start has_start)) made (omega arith) e) (rest_holds made k),
  )

  inside_argument : (head : ArgumentHead) (made : List Written) → AreEnough (takes_argument head) made → AllByRecursion Holds made →
      AllByRecursion Holds (in_argument (argument head made))
  inside_argument (a.Item t has_start) made e k =
      inside_by (Item (first made) t (start_made has_start (rest made))) (Argument-F.Item (first made) t (start_made has_start (rest made)))
      (search (rules, the_argument_lemmas)) (inside_item has_start made e k)
  inside_argument (a.Accumulator t has_start) made e k =
      inside_by (Accumulator (first made) t (start_made has_start (rest made))) (Argument-F.Accumulator (first made) t (start_made has_start (rest made)))
      (search (rules, the_argument_lemmas)) (inside_item has_start made e k)
  inside_argument a.Body made e k =
      inside_by (Body (first made)) (Argument-F.Body (first made)) (search (rules, the_argument_lemmas)) (first_holds made e k, tt)

  behind_start_holds : (has_start : Bool) (made : List Written) → AllByRecursion Holds made → AllByRecursion Holds (behind_start has_start made)
  behind_start_holds true made k = rest_holds made k
  behind_start_holds false made k = k

  behind_holds : (head : ArgumentHead) (made : List Written) → AllByRecursion Holds made → AllByRecursion Holds (behind_argument head made)
  behind_holds (a.Item t has_start) made k = behind_start_holds has_start (rest made) (rest_holds made k)
  behind_holds (a.Accumulator t has_start) made k = behind_start_holds has_start (rest made) (rest_holds made k)
  behind_holds a.Body made k = rest_holds made k

  behind_start_enough : (has_start : Bool) (n m : ℕ) (made : List Written) → takes_start has_start + n ≤ m → AreEnough m made → AreEnough n (behind_start has_start made)
  behind_start_enough true n m made low e = rest_enough n m made (omega (arith, low)) e
  behind_start_enough false n m made low e = fewer n m made (omega (arith, low)) e

  behind_item_enough : (has_start : Bool) (n : ℕ) (made : List Written) → AreEnough (suc (takes_start has_start) + n) made →
      AreEnough n (behind_start has_start (rest made))
  behind_item_enough has_start n made e =
      behind_start_enough has_start n (takes_start has_start + n) (rest made) (omega arith)
      (rest_enough (takes_start has_start + n) (suc (takes_start has_start) + n) made (omega arith) e)

  behind_enough : (head : ArgumentHead) (n : ℕ) (made : List Written) → AreEnough (takes_argument head + n) made → AreEnough n (behind_argument head made)
  behind_enough (a.Item t has_start) n made e = behind_item_enough has_start n made e
  behind_enough (a.Accumulator t has_start) n made e = behind_item_enough has_start n made e
  behind_enough a.Body n made e = rest_enough n (1 + n) made (omega arith) e

  inside_arguments : (heads : List ArgumentHead) (made : List Written) → AreEnough (takes_arguments heads) made → AllByRecursion Holds made →
      AllByRecursion Holds (flat_map in_argument (arguments heads made))
  inside_arguments [] made e k = tt
  inside_arguments (head ∷ heads) made e k =
      every_append Holds (in_argument (argument head made)) (flat_map in_argument (arguments heads (behind_argument head made)))
      (inside_argument head made (fewer (takes_argument head) (takes_argument head + takes_arguments heads) made (omega arith) e) k)
      (inside_arguments heads (behind_argument head made) (behind_enough head (takes_arguments heads) made e) (behind_holds head made k))

  inside_if : (heads : Option (List ArgumentHead)) (made : List Written) → AreEnough (takes_arguments (heads_of heads)) made → AllByRecursion Holds made →
      AllByRecursion Holds (flat_map in_argument (unwrap_or (arguments_if heads made) []))
  inside_if None made e k = tt
  inside_if (Some heads) made e k = inside_arguments heads made e k

  part_inside_by : (x : WrittenPart) (l : WrittenPart-F Argument Written WrittenPart) → out-WrittenPart x ≡ l → AllByRecursion Holds (in_part_form l) →
      AllByRecursion Holds (in_part x)
  part_inside_by x l is k = subst (λ y. AllByRecursion Holds (in_part_form y)) (sym is) k

  inside_part : (head : PartHead) (made : List Written) → AreEnough (takes_part head) made → AllByRecursion Holds made →
      AllByRecursion Holds (in_part (part head made))
  inside_part p.One made e k =
      part_inside_by (One (first made)) (WrittenPart-F.One (first made)) (search (rules, the_part_lemmas)) (first_holds made e k, tt)
  inside_part (p.Range at) made e k =
      part_inside_by (Range at (first made) (first (rest made))) (WrittenPart-F.Range at (first made) (first (rest made))) (search (rules, the_part_lemmas))
      (first_holds made (fewer 1 2 made (omega arith) e) k, (second_holds made e k, tt))

  behind_part_holds : (head : PartHead) (made : List Written) → AllByRecursion Holds made → AllByRecursion Holds (behind_part head made)
  behind_part_holds p.One made k = rest_holds made k
  behind_part_holds (p.Range at) made k = rest_holds (rest made) (rest_holds made k)

  behind_part_enough : (head : PartHead) (n : ℕ) (made : List Written) → AreEnough (takes_part head + n) made → AreEnough n (behind_part head made)
  behind_part_enough p.One n made e = rest_enough n (1 + n) made (omega arith) e
  behind_part_enough (p.Range at) n made e = rest_enough n (1 + n) (rest made) (omega arith) (rest_enough (1 + n) (2 + n) made (omega arith) e)

  inside_parts : (heads : List PartHead) (made : List Written) → AreEnough (takes_parts heads) made → AllByRecursion Holds made →
      AllByRecursion Holds (flat_map in_part (parts heads made))
  inside_parts [] made e k = tt
  inside_parts (head ∷ heads) made e k =
      every_append Holds (in_part (part head made)) (flat_map in_part (parts heads (behind_part head made)))
      (inside_part head made (fewer (takes_part head) (takes_part head + takes_parts heads) made (omega arith) e) k)
      (inside_parts heads (behind_part head made) (behind_part_enough head (takes_parts heads) made e) (behind_part_holds head made k))

  -- ---- what is made of a form and the expressions in it

  pub made_holds : (head : Head) (made : List Written) → HeadHeld head → AreEnough (takes head) made → AllByRecursion Holds made → Holds (made_of head made)
  made_holds h.Lacking made g e k = lacking_holds g
  made_holds h.Same made g e k = first_holds made e k
  made_holds (h.Literal at value) made g e k =
      kept (w.Literal at value) (Written-F.Literal at value) (search (rules, the_lemmas)) (g, tt) tt
  made_holds (h.OnlyLiteral at name) made g e k =
      kept (w.OnlyLiteral at name) (Written-F.OnlyLiteral at name) (search (rules, the_lemmas))
      (g.0, (g.1, tt)) tt
  made_holds (h.Named name literal is_before heads) made g e k =
      kept (w.Named name literal is_before (arguments_if heads made)) (Written-F.Named name literal is_before (arguments_if heads made))
      (search (rules, the_lemmas))
      (g.0, every_append At (of_name literal) (flat_map of_argument (unwrap_or (arguments_if heads made) [])) g.1 (places_if heads made g.2))
      (inside_if heads made e k)
  made_holds (h.Collection at kind heads) made g e k =
      kept (w.Collection at kind (parts heads made)) (Written-F.Collection at kind (parts heads made)) (search (rules, the_lemmas))
      (g.0, parts_places heads made g.1) (inside_parts heads made e k)
  made_holds (h.If at) made g e k =
      kept (w.If at (first made) (first (rest made)) (first (rest (rest made)))) (Written-F.If at (first made) (first (rest made)) (first (rest (rest made))))
      (search (rules, the_lemmas)) (g, tt)
      (first_holds made (fewer 1 3 made (omega arith) e) k, (second_holds made (fewer 2 3 made (omega arith) e) k, (third_holds made e k, tt)))
  made_holds (h.Let at name t) made g e k =
      kept (w.Let at name t (first made) (first (rest made))) (Written-F.Let at name t (first made) (first (rest made))) (search (rules, the_lemmas))
      (g.0, (g.1, g.2)) (first_holds made (fewer 1 2 made (omega arith) e) k, (second_holds made e k, tt))
  made_holds (h.Unary at operator) made g e k =
      kept (w.Unary at operator (first made)) (Written-F.Unary at operator (first made)) (search (rules, the_lemmas))
      (g, tt) (first_holds made e k, tt)
  made_holds (h.Binary at operator) made g e k =
      kept (w.Binary at operator (first made) (first (rest made))) (Written-F.Binary at operator (first made) (first (rest made)))
      (search (rules, the_lemmas)) (g, tt)
      (first_holds made (fewer 1 2 made (omega arith) e) k, (second_holds made e k, tt))
  made_holds (h.Dot name is_before heads) made g e k =
      let all : ℕ = takes_arguments (heads_of heads) in
      kept (w.Dot (first made) name is_before (arguments_if heads (rest made))) (Written-F.Dot (first made) name is_before (arguments_if heads (rest made)))
      (search (rules, the_lemmas))
      (g.0, places_if heads (rest made) g.1)
      (first_holds made (fewer 1 (suc all) made (omega arith) e) k, inside_if heads (rest made) (rest_enough all (suc all) made (omega arith) e) (rest_holds made k))
  made_holds (h.Arrow name heads) made g e k =
      let all : ℕ = takes_arguments (heads_of heads) in
      kept (w.Arrow (first made) name (arguments_if heads (rest made))) (Written-F.Arrow (first made) name (arguments_if heads (rest made)))
      (search (rules, the_lemmas))
      (g.0, places_if heads (rest made) g.1)
      (first_holds made (fewer 1 (suc all) made (omega arith) e) k, inside_if heads (rest made) (rest_enough all (suc all) made (omega arith) e) (rest_holds made k))
  made_holds (h.Group at) made g e k =
      kept (w.Group at (first made)) (Written-F.Group at (first made)) (search (rules, the_lemmas))
      (g, tt) (first_holds made e k, tt)
