-- The rule of each kind of node, by what evaluates its parts.
use Rattle.std.specs.Prelude.{ℕ, nat_lt, Bool, true, false, not, ◌&&◌, if◌then◌else◌, ◌+◌, List, [], ◌∷◌, ◌++◌, length, Option, Some, None, is_some, slice_get, unwrap_or}
use Rattle.ocl_values.specs.Shape.{canon, size_of, sizes_of}
use Rattle.ocl_values.specs.declared.value.Kind.{Kind}
use Rattle.ocl_values.specs.declared.value.Kind.TheVariants.{Set}
use Rattle.ocl_values.specs.declared.value.Value.{Value, items-the_row-Value}
use Rattle.ocl_values.specs.declared.value.Value.TheVariants as V
use Rattle.ocl_values.specs.declared.value.Value.TheVariants.{Null, Invalid, Obj, Coll'}
use Rattle.ocl_collections.specs.Operations.{coll_op_value}
use Rattle.ocl_collections.specs.declared.op.CollOp.{CollOp}
use Rattle.class_model.specs.declared.numbers.End.{End}
use Rattle.class_model.specs.declared.types.OclType.{OclType}
use Rattle.class_model.specs.declared.types.OclType.TheVariants as T
use Rattle.object_state.specs.declared.cell.Cell.TheVariants as cell
use Rattle.object_state.specs.declared.cell.Look.{Look}
use Rattle.object_state.specs.declared.cell.Look.TheVariants as L
use Rattle.ocl_core.specs.declared.expression.Expr.{Expr, out-Expr}
use Rattle.ocl_core.specs.declared.expression.Expr.TheOpen.{Expr-F, Part-F}
use Rattle.ocl_core.specs.declared.expression.Part.{Part, out-Part}
use Rattle.ocl_core.specs.declared.operators.BinaryOp.{BinaryOp}
use Rattle.ocl_core.specs.declared.operators.IterOp.{IterOp}
use Rattle.ocl_core.specs.declared.operators.PlainOp.{PlainOp}
use Rattle.ocl_core.specs.declared.operators.TypeTest.{TypeTest}
use Rattle.ocl_core.specs.declared.operators.UnaryOp.{UnaryOp}
use Rattle.ocl_core.specs.declared.operators.When.{When}
use Rattle.ocl_core.specs.declared.operators.When.TheVariants.{Now, Pre}
use Rattle.ocl_operations.specs.Iterators.{bindings, ends_walk, iterator_value, may_have, wants_start}
use Rattle.ocl_operations.specs.Navigation.{navigated}
use Rattle.ocl_operations.specs.Operators.{binary_value, decided, plain_value, unary_value}
use Rattle.ocl_operations.specs.Ranges.{range_count, range_elements}
use Rattle.ocl_operations.specs.Sources.{as_source}
use Rattle.ocl_operations.specs.Types.{plain_tested, tested}
use Rattle.ocl_eval.specs.declared.parts.Made.{Made}
use Rattle.ocl_eval.specs.declared.walks.Visited.{Visited}
use Rattle.ocl_eval.specs.Evaluations.{Evaluation, ◌>>=◌, ◌>>◌, pure, exhausted, pay, spend, walk}
use Rattle.ocl_eval.specs.Scenes.{Scene, derived_body, look, query_called, within}
use Rattle.ocl_core.specs.Trees.{Layer, PartLayer}

-- a walk that goes on to the end
abbrev pub never : {S : Type 0} → S → Bool
never s = false

-- an entry of the environment; past its end it is invalid
abbrev pub entry_of : List Value → ℕ → Value
entry_of env n = unwrap_or (slice_get env n) Invalid

-- ---- what is kept while a collection is made, and while an iterator walks

abbrev pub nothing_made : Made
nothing_made = record { items = []; is_valid = true }

-- the elements so far, with those of a range; where a side is no integer the collection is invalid
abbrev pub with_range : Made → Option (List Value) → Made
with_range before (Some vs) = record before { items = before.items ++ vs }
with_range before None = record before { is_valid = false }

-- a range is not built where it would have more elements than there are units left
abbrev pub add_range : Made → Value → Value → Evaluation Made
add_range before x y = λ m.
    if nat_lt m.fuel (1 + sizes_of before.items + range_count x y) then exhausted m else pure (with_range before (range_elements x y)) m

abbrev pub has_ended : Visited → Bool
has_ended before = before.ended

abbrev pub unvisited : Visited
unvisited = record { values = []; ended = false }

-- ---- nodes whose parts alone tell their value

module _ (ev : List Value → Expr → Evaluation Value) (env : List Value) where
  unfoldable pub unary : UnaryOp → Expr → Evaluation Value
  unary op a = do
    x ← ev env a
    pay (unary_value op x)

  -- where the left operand does not decide, the right one is evaluated
  abbrev pub right : BinaryOp → Value → Expr → Option Value → Evaluation Value
  right op x b (Some v) = pay v
  right op x b None = do
    y ← ev env b
    pay (binary_value op x y)

  unfoldable pub binary : BinaryOp → Expr → Expr → Evaluation Value
  binary op a b = do
    x ← ev env a
    right op x b (decided op x)

  abbrev pub paid : Expr → Evaluation Value
  paid a = ev env a >>= pay

  -- only the branch that the condition chooses; a condition that is no truth value makes the value invalid
  abbrev pub branch : Value → Expr → Expr → Evaluation Value
  branch (V.Bool true) a b = paid a
  branch (V.Bool false) a b = paid b
  branch _ a b = pay Invalid

  unfoldable pub choice : Expr → Expr → Expr → Evaluation Value
  choice c a b = do
    x ← ev env c
    branch x a b

  unfoldable pub bind : Expr → Expr → Evaluation Value
  bind a b = do
    x ← ev env a
    ev (env ++ x ∷ []) b >>= pay

  -- the values of several parts, from left to right, after those that are there
  abbrev pub add_value : List Value → Expr → Evaluation (List Value)
  add_value done e = do
    x ← ev env e
    pure (done ++ x ∷ [])

  unfoldable pub values : List Value → List Expr → Evaluation (List Value)
  values = walk never add_value

  -- an operation of a source and its arguments
  abbrev pub applied : (Value → List Value → Value) → Value → List Expr → Evaluation Value
  applied apply x args = do
    xs ← values [] args
    pay (apply x xs)

  abbrev pub operation : (Value → List Value → Value) → List Expr → Evaluation Value
  operation apply [] = pay Invalid
  operation apply (a ∷ args) = do
    x ← ev env a
    applied apply x args

  unfoldable pub plain : PlainOp → List Expr → Evaluation Value
  plain op all = operation (plain_value op) all

  unfoldable pub collection : CollOp → List Expr → Evaluation Value
  collection op all = operation (λ x xs. coll_op_value op (as_source x) xs) all

  unfoldable pub to_set : Expr → Evaluation Value
  to_set a = do
    x ← ev env a
    pay (as_source x)

  -- ---- written collections

  abbrev pub add_layer : Made → PartLayer → Evaluation Made
  add_layer before (Part-F.One e) = do
    x ← ev env e
    pure (record before { items = before.items ++ x ∷ [] })
  add_layer before (Part-F.Range a b) = do
    x ← ev env a
    y ← ev env b
    add_range before x y

  unfoldable pub add_part : Made → Part → Evaluation Made
  add_part before p = add_layer before (out-Part p)

  unfoldable pub parts : Made → List Part → Evaluation Made
  parts = walk never add_part

  unfoldable pub make : Kind → List Part → Evaluation Value
  make kind all = do
    made ← parts nothing_made all
    pay (if made.is_valid then canon kind made.items else Invalid)

  -- ---- iterators

  -- the values of the body so far, and whether the last of them ends the walk
  abbrev pub visit : IterOp → Expr → Visited → List Value → Evaluation Visited
  visit op body before bound = do
    x ← ev (env ++ bound) body
    pure (record { values = before.values ++ x ∷ []; ended = ends_walk op x })

  unfoldable pub visits : IterOp → Expr → Visited → List (List Value) → Evaluation Visited
  visits op body = walk has_ended (visit op body)

  -- what is accumulated stands after the variable, and each value of the body takes its place
  abbrev pub iterate_step : Expr → Value → Value → Evaluation Value
  iterate_step body acc x = ev (env ++ x ∷ acc ∷ []) body

  unfoldable pub iterate : Expr → Value → List Value → Evaluation Value
  iterate body = walk never (iterate_step body)

  unfoldable pub gathered : IterOp → ℕ → Expr → Kind → List Value → Evaluation Value
  gathered op n body kind xs = do
    seen ← visits op body unvisited (bindings n xs)
    pure (iterator_value op kind xs seen.values)

  -- an iterator over the elements of a collection, by its start if it has one
  abbrev pub over : IterOp → ℕ → Option Value → Expr → Kind → List Value → Evaluation Value
  over op n (Some start) body kind xs = if wants_start op && may_have op n then iterate body start xs else pure Invalid
  over op n None body kind xs = if not (wants_start op) && may_have op n then gathered op n body kind xs else pure Invalid

  abbrev pub over_source : IterOp → ℕ → Option Value → Expr → Value → Evaluation Value
  over_source op n start body (Coll' kind shape row) = over op n start body kind (items-the_row-Value _ row)
  over_source op n start body _ = pure Invalid

  abbrev pub maybe : Option Expr → Evaluation (Option Value)
  maybe None = pure None
  maybe (Some e) = do
    x ← ev env e
    pure (Some x)

  unfoldable pub iterator : IterOp → Expr → ℕ → Option Expr → Expr → Evaluation Value
  iterator op source n start body = do
    x ← ev env source
    first ← maybe start
    v ← over_source op n first body (as_source x)
    pay v

-- an operation of a source and an argument that cost their sizes
abbrev pub plain_ready : PlainOp → Value → Value → Evaluation Value
plain_ready op x y = spend (size_of x) >> spend (size_of y) >> pay (plain_value op x (y ∷ []))

-- ---- nodes that look at a state

-- what is done with an object; of any other value the value is invalid
abbrev pub of_object : Value → (ℕ → Evaluation Value) → Evaluation Value
of_object (Obj o) f = f o
of_object _ f = pure Invalid

abbrev pub value_in : Look → Value
value_in (L.Value v) = v
value_in _ = Invalid

abbrev pub objects_in : Look → (List Value → Value) → Value
objects_in (L.Items vs) f = f vs
objects_in _ f = Invalid

abbrev pub class_in : Look → Option ℕ
class_in (L.Class c) = Some c
class_in _ = None

-- with a class; where there is none, the value is invalid
abbrev pub with_class : Option ℕ → (ℕ → Evaluation Value) → Evaluation Value
with_class (Some c) f = f c
with_class None f = pure Invalid

module _ (s : Scene) (at : When) where
  -- the class of an object
  unfoldable pub class_of : When → ℕ → Evaluation (Option ℕ)
  class_of when o = do
    seen ← look s (within at when) (cell.Kind o)
    pure (class_in seen)

  unfoldable pub slot : ℕ → When → ℕ → Evaluation Value
  slot number when o = do
    seen ← look s (within at when) (cell.Slot o number)
    pure (if nat_lt number (length s.program.model.attrs) then value_in seen else Invalid)

  unfoldable pub linked : ℕ → End → When → ℕ → Evaluation Value
  linked assoc end when o = do
    seen ← look s (within at when) (cell.Nav assoc end o)
    pure (objects_in seen (navigated s.program.model assoc end))

  unfoldable pub instances : ℕ → When → Evaluation Value
  instances class when = do
    seen ← look s (within at when) (cell.Extent class)
    pure (if nat_lt class (length s.program.model.classes) then objects_in seen (canon Set) else Invalid)

  unfoldable pub test_object : TypeTest → OclType → When → ℕ → Evaluation Value
  test_object test t when o = do
    class ← class_of when o
    with_class class (λ c. pure (tested s.program.model test t (Some (T.Class c)) (Obj o)))

  abbrev pub test_value : TypeTest → OclType → When → Value → Evaluation Value
  test_value test t when (Obj o) = test_object test t when o
  test_value test t when v = pure (plain_tested s.program.model test t v)

  -- there now, and not at entry
  unfoldable pub is_new : ℕ → Evaluation Value
  is_new o = do
    now ← class_of Now o
    pre ← class_of Pre o
    pure (V.Bool (is_some now && not (is_some pre)))

module _ (s : Scene) (ev : When → List Value → Expr → Evaluation Value) (at : When) where
  -- a body with its own environment; where there is none, the value is invalid
  abbrev pub body_value : When → List Value → Option Expr → Evaluation Value
  body_value when env (Some e) = ev when env e
  body_value when env None = pure Invalid

  unfoldable pub derived : ℕ → When → ℕ → Evaluation Value
  derived number when o = do
    class ← class_of s at when o
    with_class class (λ c. body_value (within at when) (Obj o ∷ []) (derived_body s.program number))

  unfoldable pub query : ℕ → List Value → ℕ → Evaluation Value
  query op args o = do
    class ← class_of s at Now o
    with_class class (λ c. body_value at (Obj o ∷ args) (query_called s.program c op))

  -- ---- every node

  abbrev pub layer : List Value → Layer → Evaluation Value
  layer env (Expr-F.Literal v) = pay v
  layer env (Expr-F.Local n) = pay (entry_of env n)
  layer env (Expr-F.Unary op a) = unary (ev at) env op a
  layer env (Expr-F.Binary op a b) = binary (ev at) env op a b
  layer env (Expr-F.If c a b) = choice (ev at) env c a b
  layer env (Expr-F.Let a b) = bind (ev at) env a b
  layer env (Expr-F.Make kind all) = make (ev at) env kind all
  layer env (Expr-F.Plain op all) = plain (ev at) env op all
  layer env (Expr-F.Coll op all) = collection (ev at) env op all
  layer env (Expr-F.Iter op source n start body) = iterator (ev at) env op source n start body
  layer env (Expr-F.Attr a number when) = ev at env a >>= (λ x. of_object x (slot s at number when)) >>= pay
  layer env (Expr-F.Derived a number when) = ev at env a >>= (λ x. of_object x (derived number when)) >>= pay
  layer env (Expr-F.Nav a assoc end when) = ev at env a >>= (λ x. of_object x (linked s at assoc end when)) >>= pay
  layer env (Expr-F.Extent class when) = instances s at class when >>= pay
  layer env (Expr-F.Query a op all) = do
    x ← ev at env a
    xs ← values (ev at) env [] all
    v ← of_object x (query op xs)
    pay v
  layer env (Expr-F.Test test a t when) = ev at env a >>= test_value s at test t when >>= pay
  layer env (Expr-F.IsNew a) = ev at env a >>= (λ x. of_object x (is_new s at)) >>= pay
  layer env (Expr-F.ToSet a) = to_set (ev at) env a

  unfoldable pub node : List Value → Expr → Evaluation Value
  node env e = layer env (out-Expr e)
