-- The type of each kind of node, by what types its parts: the parts from left to right, then the node's own rule.
use Rattle.std.specs.Prelude.{ℕ, Bool, true, false, if◌then◌else◌, List, [], ◌∷◌, Option, Some, None, is_some, unwrap_or}
use Rattle.use_text.specs.declared.place.Place.{Place}
use Rattle.ocl_values.specs.declared.value.Kind.{Kind}
use Rattle.class_decls.specs.declared.decls.Name.{Name}
use Rattle.class_decls.specs.declared.decls.TypeDecl.{TypeDecl}
use Rattle.class_model.specs.declared.object_model.ObjectModel.{ObjectModel}
use Rattle.class_model.specs.declared.types.OclType.{OclType}
use Rattle.ocl_core.specs.declared.expression.Expr.TheVariants as E
use Rattle.ocl_core.specs.declared.operators.IterOp.{IterOp}
use Rattle.ocl_syntax.specs.declared.tree.Argument.{Argument}
use Rattle.ocl_syntax.specs.declared.tree.Written.{Written}
use Rattle.ocl_syntax.specs.declared.tree.Argument.TheOpen.{Written-F, WrittenPart-F}
use Rattle.ocl_syntax.specs.declared.tree.WrittenBinary.{WrittenBinary}
use Rattle.ocl_syntax.specs.declared.tree.WrittenPart.{WrittenPart, out-WrittenPart}
use Rattle.ocl_syntax.specs.Values.{literal_value}
use Rattle.ocl_syntax.specs.declared.tree.WrittenLiteral.{WrittenLiteral}
use Rattle.ocl_syntax.specs.declared.tree.WrittenUnary.{WrittenUnary}
use Rattle.ocl_syntax.specs.Places.{first_place}
use Rattle.ocl_rules.specs.CollectionOperations.{collection_operation}
use Rattle.ocl_rules.specs.declared.typed.Typed.{Typed}
use Rattle.ocl_rules.specs.declared.typed.TypedPart.{TypedPart}
use Rattle.ocl_rules.specs.declared.typed.TypedPart.TheVariants as P
use Rattle.ocl_rules.specs.Forms.{collection_rule, if_rule, let_rule, levels}
use Rattle.ocl_rules.specs.Iterators.{iterate_rule, iterator_rule}
use Rattle.ocl_rules.specs.Operators.{binary_rule, unary_rule}
use Rattle.ocl_rules.specs.Typings.{Typing, breaks_t, then_typed, typed}
use Rattle.ocl_scope.specs.Calls.{type_test}
use Rattle.ocl_scope.specs.Environments.{with_values, with_variable}
use Rattle.ocl_scope.specs.Literals.{literal_type, only_literal_rule}
use Rattle.ocl_scope.specs.Names.{declared_if, declared_type, type_named}
use Rattle.ocl_scope.specs.declared.environment.Environment.{Environment}
use Rattle.ocl_scope.specs.declared.given.Given.{Given}
use Rattle.ocl_scope.specs.declared.given.Given.TheVariants as G
use Rattle.ocl_scope.specs.declared.given.TypeArgument.{TypeArgument}
use Rattle.ocl_scope.specs.declared.given.TypeArgument.TheVariants as A
use Rattle.ocl_shapes.specs.Arrows.{malformed, operation_called}
use Rattle.ocl_shapes.specs.Combining.{◌>>=◌, ◌>>◌, each, if_there, pure}
use Rattle.ocl_shapes.specs.Extents.{class_asked, extent}
use Rattle.ocl_shapes.specs.Members.{called, property}
use Rattle.ocl_shapes.specs.Named.{named_by, type_found}
use Rattle.ocl_shapes.specs.Shapes.{Layer, PartLayer, accumulates, accumulator_name, alone, are_plain, asked_name, body_of, expression_of, has_none, iterator_named}
use Rattle.ocl_shapes.specs.Shapes.{may_have_two, or_none, start_of, variable_name, written_type}
use Rattle.ocl_shapes.specs.Sources.{asks_elements, elements_of}
use Rattle.ocl_shapes.specs.declared.elements.Elements.{Elements}

-- the object model, and whether the expression is a postcondition
pub record Scene : Type 0 where
  pub model : ObjectModel
  pub is_post : Bool

-- the type of a variable: the one that is declared, or else that of its value
abbrev pub bound : Option OclType → OclType → OclType
bound declared t = unwrap_or declared t

-- where one more name is bound
abbrev pub with_named : Environment → Name → OclType → Environment
with_named env name t = with_variable env (Some name.text) t false

-- the variable of an iterator that declares none: what it has may be named without it
abbrev pub with_implicit : Environment → OclType → Environment
with_implicit env t = with_variable env None t true

-- a literal
abbrev pub literal : WrittenLiteral → Typing Typed
literal l = typed (E.Literal (literal_value l)) (literal_type (literal_value l))

module _ (s : Scene) (type_of : Environment → Written → Typing Typed) where
  -- ---- operators, `if`, `let`, collection literals

  unfoldable pub unary : Environment → Place → WrittenUnary → Written → Typing Typed
  unary env place op operand = do
    x ← type_of env operand
    unary_rule s.model place op x

  unfoldable pub binary : Environment → Place → WrittenBinary → Written → Written → Typing Typed
  binary env place op a b = do
    x ← type_of env a
    y ← type_of env b
    binary_rule s.model place op x y

  unfoldable pub choice : Environment → Written → Written → Written → Typing Typed
  choice env c a b = do
    x ← type_of env c
    y ← type_of env a
    z ← type_of env b
    if_rule s.model (first_place c) x y z

  -- an expression where one more name is bound
  abbrev pub under : Environment → Name → OclType → Written → Typing Typed
  under env name t body = type_of (with_named env name t) body

  unfoldable pub bind : Environment → Name → Option TypeDecl → Written → Written → Typing Typed
  bind env name of_type value body = do
    declared ← declared_if s.model env of_type
    x ← type_of env value
    y ← under env name (bound declared x.of_type) body
    let_rule s.model (first_place value) declared x y

  abbrev pub part_layer : Environment → PartLayer → Typing TypedPart
  part_layer env (WrittenPart-F.One e) = do
    x ← type_of env e
    pure (P.One x)
  part_layer env (WrittenPart-F.Range place a b) = do
    x ← type_of env a
    y ← type_of env b
    pure (P.Range place x y)

  abbrev pub part : Environment → WrittenPart → Typing TypedPart
  part env p = part_layer env (out-WrittenPart p)

  unfoldable pub parts : Environment → List TypedPart → List WrittenPart → Typing (List TypedPart)
  parts env = each (part env)

  unfoldable pub collection : Environment → Kind → List WrittenPart → Typing Typed
  collection env kind all = do
    xs ← parts env [] all
    collection_rule s.model kind xs

  -- ---- arguments

  -- behind what is written first in an argument, its type is looked up and its start is typed
  unfoldable pub behind : Environment → Argument → Typing (Option Typed)
  behind env a = declared_if s.model env (written_type a) >> if_there (type_of env) (start_of a)

  unfoldable pub argument_value : Environment → Argument → Typing Typed
  argument_value env a = do
    x ← type_of env (expression_of a)
    behind env a >> pure x

  unfoldable pub values : Environment → List Typed → List Argument → Typing (List Typed)
  values env = each (argument_value env)

  -- an expression that is no name, where a type is wanted
  abbrev pub no_type : Environment → Written → Typing TypeArgument
  no_type env e = do
    x ← type_of env e
    pure (A.NoType (first_place e))

  abbrev pub asked : Environment → Written → Option Name → Typing TypeArgument
  asked env e (Some name) = type_found s.model env name (type_named s.model name.text)
  asked env e None = no_type env e

  unfoldable pub type_argument : Environment → Argument → Typing TypeArgument
  type_argument env a = do
    t ← asked env (expression_of a) (asked_name a)
    behind env a >> pure t

  unfoldable pub types : Environment → List TypeArgument → List Argument → Typing (List TypeArgument)
  types env = each (type_argument env)

  -- the arguments of a call: types, where the name is that of a test of types
  unfoldable pub given : Environment → Name → List Argument → Typing Given
  given env name args =
      if is_some (type_test name.text)
      then (do
        ts ← types env [] args
        pure (G.Types ts (are_plain args)))
      else (do
        xs ← values env [] args
        pure (G.Values xs (are_plain args)))

  -- ---- names, and what stands behind a dot

  unfoldable pub named : Environment → Name → Option Name → Bool → Option (List Argument) → Typing Typed
  named env name literal is_before arguments = do
    given ← if_there (given env name) arguments
    named_by s.model s.is_post env name is_before literal given

  unfoldable pub all_instances : Environment → Name → Name → Bool → Option (List Argument) → Typing Typed
  all_instances env class name is_before arguments =
      if_there (values env []) arguments >> extent s.model s.is_post env class name is_before (has_none arguments) (type_named s.model class.text)

  -- the arguments of a call of the elements of a collection stand where these have numbers
  unfoldable pub call : Environment → Name → Bool → Typed → List Argument → Typing Typed
  call env name is_before source args =
      let of_elements = asks_elements source.of_type name.text in
      do
        given ← given (if of_elements then with_values env (levels source.of_type) else env) name args
        called s.model s.is_post env name is_before source of_elements given

  abbrev pub read_or_called : Environment → Name → Bool → Typed → Option (List Argument) → Typing Typed
  read_or_called env name is_before source None = property s.model s.is_post env name is_before source
  read_or_called env name is_before source (Some args) = call env name is_before source args

  abbrev pub dot_of : Environment → Written → Name → Bool → Option (List Argument) → Option Name → Typing Typed
  dot_of env source name is_before arguments (Some class) = all_instances env class name is_before arguments
  dot_of env source name is_before arguments None = do
    x ← type_of env source
    read_or_called env name is_before x arguments

  unfoldable pub dot : Environment → Written → Name → Bool → Option (List Argument) → Typing Typed
  dot env source name is_before arguments = dot_of env source name is_before arguments (class_asked source name)

  -- ---- what stands behind an arrow

  -- an iterator with a body alone: its variable has no name
  abbrev pub with_body : Environment → IterOp → Name → Elements → Option Written → Typing Typed
  with_body env op name es None = malformed name
  with_body env op name es (Some body) = do
    x ← type_of (with_implicit env es.element) body
    iterator_rule s.model name.place op es.kind es.element 1 [] (first_place body) es.source x

  abbrev pub with_one : Environment → IterOp → Name → Elements → Option Name → Option TypeDecl → Option Written → Typing Typed
  with_one env op name es (Some v) t (Some body) = do
    declared ← declared_if s.model env t
    x ← under env v (bound declared es.element) body
    iterator_rule s.model name.place op es.kind es.element 1 (declared ∷ []) (first_place body) es.source x
  with_one env op name es _ t _ = malformed name

  -- an expression where two more names are bound, of which the second is found first
  abbrev pub under_two : Environment → Name → OclType → Name → OclType → Written → Typing Typed
  under_two env v t w u body = under (with_named env v t) w u body

  abbrev pub with_two : Environment → IterOp → Name → Elements → Option Name → Option TypeDecl → Option Name → Option TypeDecl → Option Written
      → Typing Typed
  with_two env op name es (Some v) t (Some w) u (Some body) = do
    first ← declared_if s.model env t
    second ← declared_if s.model env u
    x ← under_two env v (bound first es.element) w (bound second es.element) body
    iterator_rule s.model name.place op es.kind es.element 2 (first ∷ second ∷ []) (first_place body) es.source x
  with_two env op name es _ t _ u _ = malformed name

  -- the body of `iterate`, where the types of its variable and of what is accumulated are known and its start is typed
  abbrev pub accumulate_in : Environment → Name → Elements → Name → Name → Option OclType → OclType → Place → Written → Typed → Typing Typed
  accumulate_in env name es v w declared of_type start_place body x = do
    y ← under_two env v (bound declared es.element) w of_type body
    iterate_rule s.model name.place es.element declared of_type start_place (first_place body) es.source x y

  -- `iterate` by the names of its variable and of what is accumulated: that one has a type and a start
  abbrev pub accumulate_by : Environment → Name → Elements → Name → Option TypeDecl → Name → Option TypeDecl → Option Written → Written → Typing Typed
  accumulate_by env name es v t w (Some u) (Some start) body = do
    declared ← declared_if s.model env t
    of_type ← declared_type s.model env u
    x ← type_of env start
    accumulate_in env name es v w declared of_type (first_place start) body x
  accumulate_by env name es v t w _ _ body = malformed name

  -- `iterate`: a variable, what is accumulated with its type and start, and a body
  abbrev pub accumulate : Environment → Name → Elements → Option Name → Option TypeDecl → Option Name → Option TypeDecl → Option Written
      → Option Written → Typing Typed
  accumulate env name es (Some v) t (Some w) u start (Some body) = accumulate_by env name es v t w u start body
  accumulate env name es _ t _ u start _ = malformed name

  unfoldable pub accumulation : Environment → Name → Elements → List Argument → Typing Typed
  accumulation env name es (a ∷ b ∷ c ∷ []) =
      accumulate env name es (variable_name a) (written_type a) (accumulator_name b) (written_type b) (start_of b) (body_of c)
  accumulation env name es _ = malformed name

  unfoldable pub iteration : Environment → IterOp → Name → Elements → List Argument → Typing Typed
  iteration env op name es (a ∷ []) = with_body env op name es (alone a)
  iteration env op name es (a ∷ b ∷ []) = with_one env op name es (variable_name a) (written_type a) (body_of b)
  iteration env op name es (a ∷ b ∷ c ∷ []) =
      if may_have_two op
      then with_two env op name es (variable_name a) (written_type a) (variable_name b) (written_type b) (body_of c)
      else malformed name
  iteration env op name es _ = malformed name

  abbrev pub iterator : Environment → IterOp → Name → Elements → List Argument → Typing Typed
  iterator env op name es args = if accumulates op then accumulation env name es args else iteration env op name es args

  -- an iterator, or an operation of a collection
  abbrev pub over : Environment → Name → Elements → List Argument → Option IterOp → Typing Typed
  over env name es args (Some op) = iterator env op name es args
  over env name es args None = do
    xs ← values env [] args
    operation_called s.model name es xs (are_plain args) (collection_operation name.text)

  unfoldable pub arrow : Environment → Written → Name → Option (List Argument) → Typing Typed
  arrow env source name arguments = do
    x ← type_of env source
    over env name (elements_of x) (or_none arguments) (iterator_named name.text)

  -- ---- every node

  unfoldable pub node : Environment → Layer → Typing Typed
  node env (Written-F.TooDeep place) = breaks_t 16 place
  node env (Written-F.Literal place l) = literal l
  node env (Written-F.OnlyLiteral place name) = only_literal_rule s.model name
  node env (Written-F.Named name literal is_before arguments) = named env name literal is_before arguments
  node env (Written-F.Collection place kind all) = collection env kind all
  node env (Written-F.If place c a b) = choice env c a b
  node env (Written-F.Let place name of_type value body) = bind env name of_type value body
  node env (Written-F.Unary place op operand) = unary env place op operand
  node env (Written-F.Binary place op a b) = binary env place op a b
  node env (Written-F.Dot source name is_before arguments) = dot env source name is_before arguments
  node env (Written-F.Arrow source name arguments) = arrow env source name arguments
  node env (Written-F.Group place inner) = type_of env inner
