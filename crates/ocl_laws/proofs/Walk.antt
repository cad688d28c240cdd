-- Where each rule keeps what is asked of it, the walk keeps it: proved once for all laws.
use Rattle.std.proofs.Common.{◌≡◌, ℕ, ◌+◌, refl, Bool, true, false, cond, is_some, List, [], ◌∷◌, Option, Some, None, arith}
use Rattle.std.specs.Prelude.{⊤, Ok}
use Rattle.std.specs.List.{AllByRecursion}
use Rattle.std.specs.Option.{IfSome}
use Rattle.use_text.specs.declared.place.Place.{Place}
use Rattle.ocl_values.specs.declared.value.Kind.{Kind}
use Rattle.class_decls.specs.declared.decls.Name.{Name}
use Rattle.class_decls.specs.declared.decls.TypeDecl.{TypeDecl}
use Rattle.class_model.specs.declared.types.OclType.{OclType}
use Rattle.ocl_core.specs.declared.operators.IterOp.{IterOp}
use Rattle.ocl_syntax.specs.declared.tree.Argument.{Argument, out-Argument}
use Rattle.ocl_syntax.specs.declared.tree.Argument.TheOpen.{Written-F, WrittenPart-F, Argument-F}
use Rattle.ocl_syntax.specs.declared.tree.Written.{Written}
use Rattle.ocl_syntax.specs.declared.tree.WrittenBinary.{WrittenBinary}
use Rattle.ocl_syntax.specs.declared.tree.WrittenPart.{WrittenPart, out-WrittenPart}
use Rattle.ocl_syntax.specs.declared.tree.WrittenUnary.{WrittenUnary}
use Rattle.ocl_syntax.specs.Places.{first_place}
use Rattle.ocl_rules.specs.CollectionOperations.{collection_operation}
use Rattle.ocl_rules.specs.declared.typed.Typed.{Typed}
use Rattle.ocl_rules.specs.declared.typed.TypedPart.TheVariants as P
use Rattle.ocl_rules.specs.Forms.{collection_rule, if_rule, let_rule}
use Rattle.ocl_rules.specs.Iterators.{iterate_rule, iterator_rule}
use Rattle.ocl_rules.specs.Operators.{binary_rule, unary_rule}
use Rattle.ocl_rules.specs.Typings.{Typing}
use Rattle.ocl_scope.specs.Calls.{type_test}
use Rattle.ocl_scope.specs.Names.{declared_if, declared_type, type_named}
use Rattle.ocl_scope.specs.declared.environment.Environment.{Environment}
use Rattle.ocl_scope.specs.declared.given.Given.TheVariants as G
use Rattle.ocl_scope.specs.declared.given.TypeArgument.TheVariants as A
use Rattle.ocl_shapes.specs.Arrows.{malformed, operation_called}
use Rattle.ocl_shapes.specs.Combining.{◌>>=◌, ◌>>◌, if_there, pure}
use Rattle.ocl_shapes.specs.Extents.{class_asked, extent}
use Rattle.ocl_shapes.specs.Members.{called}
use Rattle.ocl_shapes.specs.Named.{named_by}
use Rattle.ocl_shapes.specs.Shapes.{Layer, PartLayer, ArgumentLayer, accumulates, accumulator_name, alone, alone_in, are_plain, asked_in, asked_name, body_in, body_of}
use Rattle.ocl_shapes.specs.Shapes.{expression_in, expression_of, has_none, iterator_named, may_have_two, or_none, plain_name, start_of}
use Rattle.ocl_shapes.specs.Shapes.{variable_name, written_type}
use Rattle.ocl_shapes.specs.Sources.{asks_elements, elements_of}
use Rattle.ocl_shapes.specs.declared.elements.Elements.{Elements}
use Rattle.ocl_types.specs.Nodes as N
use Rattle.ocl_types.specs.Nodes.{Scene, bound, with_implicit, with_named}
use Rattle.ocl_laws.proofs.Comes.{Comes, binds, chosen, each_comes, if_there_comes}
use Rattle.ocl_laws.proofs.Rules.{ElementsKeep, GivenKeeps, PartKeeps, Rules, TypeKeeps, argument_env}

-- what is asked of the places and of the expressions in a form
module _ (At : Place → Type 0) (Within : Written → Type 0) where
  abbrev pub NameStands : Option Name → Type 0
  NameStands o = IfSome o (λ n. At n.place)

  abbrev pub TypeStands : Option TypeDecl → Type 0
  TypeStands t = IfSome t (λ d. At d.name.place)

  pub record ArgumentStands (a : Argument) : Type 0 where
    pub expression : Within (expression_of a)
    pub of_type : TypeStands (written_type a)
    pub start : IfSome (start_of a) Within

  abbrev pub PartLayerStands : PartLayer → Type 0
  PartLayerStands (WrittenPart-F.One e) = Within e
  PartLayerStands (WrittenPart-F.Range place a b) = At place × Within a × Within b

  abbrev pub PartStands : WrittenPart → Type 0
  PartStands p = PartLayerStands (out-WrittenPart p)

  abbrev pub ArgumentsStand : Option (List Argument) → Type 0
  ArgumentsStand o = AllByRecursion ArgumentStands (or_none o)

  abbrev pub LayerStands : Layer → Type 0
  LayerStands (Written-F.TooDeep place) = At place
  LayerStands (Written-F.Literal place value) = ⊤
  LayerStands (Written-F.OnlyLiteral place name) = At name.place
  LayerStands (Written-F.Named name literal is_before arguments) = At name.place × NameStands literal × ArgumentsStand arguments
  LayerStands (Written-F.Collection place kind parts) = AllByRecursion PartStands parts
  LayerStands (Written-F.If place c a b) = Within c × Within a × Within b
  LayerStands (Written-F.Let place name t value body) = TypeStands t × Within value × Within body
  LayerStands (Written-F.Unary place op a) = At place × Within a
  LayerStands (Written-F.Binary place op a b) = At place × Within a × Within b
  LayerStands (Written-F.Dot source name is_before arguments) = Within source × At name.place × ArgumentsStand arguments
  LayerStands (Written-F.Arrow source name arguments) = Within source × At name.place × ArgumentsStand arguments
  LayerStands (Written-F.Group place inner) = Within inner

module _ (s : Scene) (At : Place → Type 0) (Within : Written → Type 0) (IsEnv : Environment → Type 0)
    (IsType : OclType → Type 0) (Keeps : Environment → Typed → Type 0)
    (r : Rules s.model s.is_post At IsEnv IsType Keeps)
    (first : (e : Written) → Within e → At (first_place e))
    (plain : (e : Written) → Within e → IfSome (plain_name e) (λ n. At n.place))
    (type_of : Environment → Written → Typing Typed)
    (h : (env : Environment) → IsEnv env → (e : Written) → Within e → Comes At (Keeps env) (type_of env e)) where
  abbrev Kept : Environment → Typing Typed → Type 0
  Kept env t = Comes At (Keeps env) t

  abbrev Argues : Argument → Type 0
  Argues = ArgumentStands At Within

  declared : (env : Environment) (t : Option TypeDecl) → IfSome t (λ d. At d.name.place) → Comes At (λ o. IfSome o IsType) (declared_if s.model env t)
  declared env None k = tt
  declared env (Some d) k =
      binds At IsType (λ o. IfSome o IsType) (declared_type s.model env d) (λ t. Ok (Some t)) (r.declares env d k) (λ t g. g)

  bound_type : (d : Option OclType) (t : OclType) → IfSome d IsType → IsType t → IsType (bound d t)
  bound_type None t k g = g
  bound_type (Some d) t k g = k

  -- ---- operators, `if`, `let`, collection literals

  unary_kept : (env : Environment) → IsEnv env → (place : Place) (op : WrittenUnary) (e : Written) → At place → Within e → Kept env (N.unary s type_of env place op e)
  unfolding N.unary
  unary_kept env f place op e p w =
      binds At (Keeps env) (Keeps env) (type_of env e) (λ x. unary_rule s.model place op x) (h env f e w) (λ x k. r.unary env place op x p k)

  binary_kept : (env : Environment) → IsEnv env → (place : Place) (op : WrittenBinary) (a b : Written) → At place → Within a → Within b →
      Kept env (N.binary s type_of env place op a b)
  unfolding N.binary
  binary_kept env f place op a b p v w =
      binds At (Keeps env) (Keeps env) (type_of env a) (λ x. type_of env b >>= (λ y. binary_rule s.model place op x y)) (h env f a v)
      (λ x k. binds At (Keeps env) (Keeps env) (type_of env b) (λ y. binary_rule s.model place op x y) (h env f b w)
      (λ y l. r.binary env place op x y p k l))

  choice_kept : (env : Environment) → IsEnv env → (c a b : Written) → Within c → Within a → Within b → Kept env (N.choice s type_of env c a b)
  unfolding N.choice
  choice_kept env f c a b u v w =
      binds At (Keeps env) (Keeps env) (type_of env c) (λ x. type_of env a >>= (λ y. type_of env b >>= (λ z. if_rule s.model (first_place c) x y z))) (h env f c u)
      (λ x k. binds At (Keeps env) (Keeps env) (type_of env a) (λ y. type_of env b >>= (λ z. if_rule s.model (first_place c) x y z)) (h env f a v)
      (λ y l. binds At (Keeps env) (Keeps env) (type_of env b) (λ z. if_rule s.model (first_place c) x y z) (h env f b w)
      (λ z o. r.choice env (first_place c) x y z (first c u) k l o)))

  -- where one more name is bound
  under_kept : (env : Environment) → IsEnv env → (name : Name) (t : OclType) → IsType t → (body : Written) → Within body →
      Comes At (Keeps (with_named env name t)) (type_of (with_named env name t) body)
  under_kept env f name t g body w = h (with_named env name t) (r.names env name t f g) body w

  bind_kept : (env : Environment) → IsEnv env → (name : Name) (t : Option TypeDecl) (value body : Written) → IfSome t (λ d. At d.name.place) → Within value →
      Within body → Kept env (N.bind s type_of env name t value body)
  unfolding N.bind
  bind_kept env f name t value body d v w =
      binds At (λ o. IfSome o IsType) (Keeps env) (declared_if s.model env t)
      (λ o. type_of env value >>= (λ x. N.under s type_of env name (bound o x.of_type) body >>= (λ y. let_rule s.model (first_place value) o x y)))
      (declared env t d)
      (λ o g. binds At (Keeps env) (Keeps env) (type_of env value)
      (λ x. N.under s type_of env name (bound o x.of_type) body >>= (λ y. let_rule s.model (first_place value) o x y)) (h env f value v)
      (λ x k. binds At (Keeps (with_named env name (bound o x.of_type))) (Keeps env) (N.under s type_of env name (bound o x.of_type) body)
      (λ y. let_rule s.model (first_place value) o x y)
      (under_kept env f name (bound o x.of_type) (bound_type o x.of_type g (r.types env x k)) body w)
      (λ y l. r.bind env name (first_place value) o x y (first value v) k l)))

  part_layer_kept : (env : Environment) → IsEnv env → (p : PartLayer) → PartLayerStands At Within p →
      Comes At (PartKeeps At IsType Keeps env) (N.part_layer s type_of env p)
  part_layer_kept env f (WrittenPart-F.One e) w =
      binds At (Keeps env) (PartKeeps At IsType Keeps env) (type_of env e) (λ x. pure (P.One x)) (h env f e w) (λ x k. k)
  part_layer_kept env f (WrittenPart-F.Range place a b) w =
      binds At (Keeps env) (PartKeeps At IsType Keeps env) (type_of env a) (λ x. type_of env b >>= (λ y. pure (P.Range place x y))) (h env f a w.1)
      (λ x k. binds At (Keeps env) (PartKeeps At IsType Keeps env) (type_of env b) (λ y. pure (P.Range place x y)) (h env f b w.2) (λ y l. (w.0, k, l)))

  parts_kept : (env : Environment) → IsEnv env → (all : List WrittenPart) → AllByRecursion (PartStands At Within) all →
      Comes At (AllByRecursion (PartKeeps At IsType Keeps env)) (N.parts s type_of env [] all)
  unfolding N.parts
  parts_kept env f all w =
      each_comes At (PartStands At Within) (PartKeeps At IsType Keeps env) (N.part s type_of env)
      (λ p v. part_layer_kept env f (out-WrittenPart p) v) [] all tt w

  collection_kept : (env : Environment) → IsEnv env → (kind : Kind) (all : List WrittenPart) → AllByRecursion (PartStands At Within) all →
      Kept env (N.collection s type_of env kind all)
  unfolding N.collection
  collection_kept env f kind all w =
      binds At (AllByRecursion (PartKeeps At IsType Keeps env)) (Keeps env) (N.parts s type_of env [] all) (λ xs. collection_rule s.model kind xs)
      (parts_kept env f all w) (λ xs k. r.collection env kind xs k)

  -- ---- arguments

  behind_kept : (env : Environment) → IsEnv env → (a : Argument) → Argues a → Comes At (λ o. IfSome o (Keeps env)) (N.behind s type_of env a)
  unfolding N.behind
  behind_kept env f a w =
      binds At (λ o. IfSome o IsType) (λ o. IfSome o (Keeps env)) (declared_if s.model env (written_type a)) (λ _. if_there (type_of env) (start_of a))
      (declared env (written_type a) w.of_type)
      (λ _ _. if_there_comes At Within (Keeps env) (type_of env) (λ e v. h env f e v) (start_of a) w.start)

  value_kept : (env : Environment) → IsEnv env → (a : Argument) → Argues a → Kept env (N.argument_value s type_of env a)
  unfolding N.argument_value
  value_kept env f a w =
      binds At (Keeps env) (Keeps env) (type_of env (expression_of a)) (λ x. N.behind s type_of env a >> pure x) (h env f (expression_of a) w.expression)
      (λ x k. binds At (λ o. IfSome o (Keeps env)) (Keeps env) (N.behind s type_of env a) (λ _. pure x) (behind_kept env f a w) (λ _ _. k))

  values_kept : (env : Environment) → IsEnv env → (all : List Argument) → AllByRecursion Argues all →
      Comes At (AllByRecursion (Keeps env)) (N.values s type_of env [] all)
  unfolding N.values
  values_kept env f all w = each_comes At Argues (Keeps env) (N.argument_value s type_of env) (λ a v. value_kept env f a v) [] all tt w

  asked_stands : (l : ArgumentLayer) → Within (expression_in l) → IfSome (asked_in l) (λ n. At n.place)
  asked_stands (Argument-F.Item e t start) w = plain e w
  asked_stands (Argument-F.Accumulator e t start) w = tt
  asked_stands (Argument-F.Body e) w = tt

  asked_kept : (env : Environment) → IsEnv env → (e : Written) (name : Option Name) → Within e → IfSome name (λ n. At n.place) →
      Comes At (TypeKeeps At IsType Keeps) (N.asked s type_of env e name)
  asked_kept env f e (Some name) w p = r.asks env name p
  asked_kept env f e None w p =
      binds At (Keeps env) (TypeKeeps At IsType Keeps) (type_of env e) (λ x. pure (A.NoType (first_place e))) (h env f e w) (λ x k. first e w)

  type_kept : (env : Environment) → IsEnv env → (a : Argument) → Argues a → Comes At (TypeKeeps At IsType Keeps) (N.type_argument s type_of env a)
  unfolding N.type_argument
  type_kept env f a w =
      binds At (TypeKeeps At IsType Keeps) (TypeKeeps At IsType Keeps) (N.asked s type_of env (expression_of a) (asked_name a))
      (λ t. N.behind s type_of env a >> pure t)
      (asked_kept env f (expression_of a) (asked_name a) w.expression (asked_stands (out-Argument a) w.expression))
      (λ t k. binds At (λ o. IfSome o (Keeps env)) (TypeKeeps At IsType Keeps) (N.behind s type_of env a) (λ _. pure t) (behind_kept env f a w) (λ _ _. k))

  types_kept : (env : Environment) → IsEnv env → (all : List Argument) → AllByRecursion Argues all →
      Comes At (AllByRecursion (TypeKeeps At IsType Keeps)) (N.types s type_of env [] all)
  unfolding N.types
  types_kept env f all w = each_comes At Argues (TypeKeeps At IsType Keeps) (N.type_argument s type_of env) (λ a v. type_kept env f a v) [] all tt w

  given_kept : (env : Environment) → IsEnv env → (name : Name) (all : List Argument) → AllByRecursion Argues all →
      Comes At (GivenKeeps At IsType Keeps env) (N.given s type_of env name all)
  unfolding N.given
  given_kept env f name all w =
      chosen At (GivenKeeps At IsType Keeps env) (is_some (type_test name.text))
      (N.types s type_of env [] all >>= (λ ts. pure (G.Types ts (are_plain all))))
      (N.values s type_of env [] all >>= (λ xs. pure (G.Values xs (are_plain all))))
      (binds At (AllByRecursion (TypeKeeps At IsType Keeps)) (GivenKeeps At IsType Keeps env) (N.types s type_of env [] all)
      (λ ts. pure (G.Types ts (are_plain all))) (types_kept env f all w) (λ ts k. k))
      (binds At (AllByRecursion (Keeps env)) (GivenKeeps At IsType Keeps env) (N.values s type_of env [] all)
      (λ xs. pure (G.Values xs (are_plain all))) (values_kept env f all w) (λ xs k. k))

  -- ---- names, and what stands behind a dot

  if_given : (o : Option (List Argument)) → AllByRecursion Argues (or_none o) → IfSome o (AllByRecursion Argues)
  if_given None w = tt
  if_given (Some all) w = w

  named_kept : (env : Environment) → IsEnv env → (name : Name) (literal : Option Name) (is_before : Bool) (arguments : Option (List Argument)) →
      At name.place → IfSome literal (λ n. At n.place) → AllByRecursion Argues (or_none arguments) →
      Kept env (N.named s type_of env name literal is_before arguments)
  unfolding N.named
  named_kept env f name literal is_before arguments p q w =
      binds At (λ o. IfSome o (GivenKeeps At IsType Keeps env)) (Keeps env) (if_there (N.given s type_of env name) arguments)
      (λ given. named_by s.model s.is_post env name is_before literal given)
      (if_there_comes At (AllByRecursion Argues) (GivenKeeps At IsType Keeps env) (N.given s type_of env name) (λ all v. given_kept env f name all v) arguments
      (if_given arguments w))
      (λ given k. r.named env name is_before literal given f p q k)

  instances_kept : (env : Environment) → IsEnv env → (class name : Name) (is_before : Bool) (arguments : Option (List Argument)) →
      At class.place → At name.place → AllByRecursion Argues (or_none arguments) → Kept env (N.all_instances s type_of env class name is_before arguments)
  unfolding N.all_instances
  instances_kept env f class name is_before arguments p q w =
      binds At (λ o. IfSome o (AllByRecursion (Keeps env))) (Keeps env) (if_there (N.values s type_of env []) arguments)
      (λ _. extent s.model s.is_post env class name is_before (has_none arguments) (type_named s.model class.text))
      (if_there_comes At (AllByRecursion Argues) (AllByRecursion (Keeps env)) (N.values s type_of env []) (λ all v. values_kept env f all v) arguments
      (if_given arguments w))
      (λ _ _. r.instances env class name is_before (has_none arguments) p q)

  call_kept : (env : Environment) → IsEnv env → (name : Name) (is_before : Bool) (x : Typed) (all : List Argument) → At name.place → Keeps env x →
      AllByRecursion Argues all → Kept env (N.call s type_of env name is_before x all)
  unfolding N.call
  call_kept env f name is_before x all p k w =
      binds At (GivenKeeps At IsType Keeps (argument_env env x name)) (Keeps env) (N.given s type_of (argument_env env x name) name all)
      (λ given. called s.model s.is_post env name is_before x (asks_elements x.of_type name.text) given)
      (given_kept (argument_env env x name) (r.more env x name f k) name all w)
      (λ given g. r.call env name is_before x given p k g)

  read_or_called_kept : (env : Environment) → IsEnv env → (name : Name) (is_before : Bool) (x : Typed) (arguments : Option (List Argument)) →
      At name.place → Keeps env x → AllByRecursion Argues (or_none arguments) → Kept env (N.read_or_called s type_of env name is_before x arguments)
  read_or_called_kept env f name is_before x None p k w = r.property env name is_before x p k
  read_or_called_kept env f name is_before x (Some all) p k w = call_kept env f name is_before x all p k w

  dot_of_kept : (env : Environment) → IsEnv env → (source : Written) (name : Name) (is_before : Bool) (arguments : Option (List Argument)) (class : Option Name) →
      Within source → At name.place → IfSome class (λ n. At n.place) → AllByRecursion Argues (or_none arguments) →
      Kept env (N.dot_of s type_of env source name is_before arguments class)
  dot_of_kept env f source name is_before arguments (Some class) v p q w = instances_kept env f class name is_before arguments q p w
  dot_of_kept env f source name is_before arguments None v p q w =
      binds At (Keeps env) (Keeps env) (type_of env source) (λ x. N.read_or_called s type_of env name is_before x arguments) (h env f source v)
      (λ x k. read_or_called_kept env f name is_before x arguments p k w)

  class_stands : (b : Bool) (o : Option Name) → IfSome o (λ n. At n.place) → IfSome (cond b o None) (λ n. At n.place)
  class_stands true o k = k
  class_stands false o k = tt

  dot_kept : (env : Environment) → IsEnv env → (source : Written) (name : Name) (is_before : Bool) (arguments : Option (List Argument)) →
      Within source → At name.place → AllByRecursion Argues (or_none arguments) → Kept env (N.dot s type_of env source name is_before arguments)
  unfolding N.dot
  dot_kept env f source name is_before arguments v p w =
      dot_of_kept env f source name is_before arguments (class_asked source name) v p
      (class_stands _ (plain_name source) (plain source v)) w

  -- ---- what stands behind an arrow

  abbrev Elems : Environment → Elements → Type 0
  Elems env es = ElementsKeep At IsType Keeps env es

  body_kept : (env : Environment) → IsEnv env → (op : IterOp) (name : Name) (es : Elements) (body : Option Written) → At name.place → Elems env es →
      IfSome body Within → Kept env (N.with_body s type_of env op name es body)
  body_kept env f op name es None p k w = p
  body_kept env f op name es (Some body) p k w =
      binds At (Keeps (with_implicit env es.element)) (Keeps env) (type_of (with_implicit env es.element) body)
      (λ x. iterator_rule s.model name.place op es.kind es.element 1 [] (first_place body) es.source x)
      (h (with_implicit env es.element) (r.implicit env es.element f k.0) body w)
      (λ x l. r.iterator env (with_implicit env es.element) name.place op es.kind es.element 1 [] (first_place body) es.source x refl p (first body w) k.0 k.1 l)

  one_kept : (env : Environment) → IsEnv env → (op : IterOp) (name : Name) (es : Elements) (v : Option Name) (t : Option TypeDecl) (body : Option Written) →
      At name.place → Elems env es → IfSome t (λ d. At d.name.place) → IfSome body Within → Kept env (N.with_one s type_of env op name es v t body)
  one_kept env f op name es (Some v) t (Some body) p k d w =
      binds At (λ o. IfSome o IsType) (Keeps env) (declared_if s.model env t)
      (λ o. N.under s type_of env v (bound o es.element) body
      >>= (λ x. iterator_rule s.model name.place op es.kind es.element 1 (o ∷ []) (first_place body) es.source x))
      (declared env t d)
      (λ o g. binds At (Keeps (with_named env v (bound o es.element))) (Keeps env) (N.under s type_of env v (bound o es.element) body)
      (λ x. iterator_rule s.model name.place op es.kind es.element 1 (o ∷ []) (first_place body) es.source x)
      (under_kept env f v (bound o es.element) (bound_type o es.element g k.0) body w)
      (λ x l. r.iterator env (with_named env v (bound o es.element)) name.place op es.kind es.element 1 (o ∷ []) (first_place body) es.source x refl p
      (first body w) k.0 k.1 l))
  one_kept env f op name es None t body p k d w = p
  one_kept env f op name es (Some v) t None p k d w = p

  two_sizes : (n : ℕ) → n + 1 + 1 ≡ n + 2
  two_sizes n = omega arith

  two_kept : (env : Environment) → IsEnv env → (op : IterOp) (name : Name) (es : Elements) (v : Option Name) (t : Option TypeDecl) (w : Option Name)
      (u : Option TypeDecl) (body : Option Written) → At name.place → Elems env es → IfSome t (λ d. At d.name.place) → IfSome u (λ d. At d.name.place) →
      IfSome body Within → Kept env (N.with_two s type_of env op name es v t w u body)
  two_kept env f op name es (Some v) t (Some w) u (Some body) p k d c b =
      binds At (λ o. IfSome o IsType) (Keeps env) (declared_if s.model env t)
      (λ o. declared_if s.model env u >>= (λ q. N.under_two s type_of env v (bound o es.element) w (bound q es.element) body
      >>= (λ x. iterator_rule s.model name.place op es.kind es.element 2 (o ∷ q ∷ []) (first_place body) es.source x)))
      (declared env t d)
      (λ o g. binds At (λ o. IfSome o IsType) (Keeps env) (declared_if s.model env u)
      (λ q. N.under_two s type_of env v (bound o es.element) w (bound q es.element) body
      >>= (λ x. iterator_rule s.model name.place op es.kind es.element 2 (o ∷ q ∷ []) (first_place body) es.source x))
      (declared env u c)
      (λ q i. binds At (Keeps (with_named (with_named env v (bound o es.element)) w (bound q es.element))) (Keeps env)
      (N.under_two s type_of env v (bound o es.element) w (bound q es.element) body)
      (λ x. iterator_rule s.model name.place op es.kind es.element 2 (o ∷ q ∷ []) (first_place body) es.source x)
      (under_kept (with_named env v (bound o es.element)) (r.names env v (bound o es.element) f (bound_type o es.element g k.0)) w (bound q es.element)
      (bound_type q es.element i k.0) body b)
      (λ x l. r.iterator env (with_named (with_named env v (bound o es.element)) w (bound q es.element)) name.place op es.kind es.element 2 (o ∷ q ∷ [])
      (first_place body) es.source x (two_sizes env.size) p (first body b) k.0 k.1 l)))
  two_kept env f op name es None t w u body p k d c b = p
  two_kept env f op name es (Some v) t None u body p k d c b = p
  two_kept env f op name es (Some v) t (Some w) u None p k d c b = p

  accumulate_in_kept : (env : Environment) → IsEnv env → (name : Name) (es : Elements) (v w : Name) (o : Option OclType) (t : OclType) (start_place : Place)
      (body : Written) (x : Typed) → At name.place → Elems env es → IfSome o IsType → IsType t → At start_place → Within body → Keeps env x →
      Kept env (N.accumulate_in s type_of env name es v w o t start_place body x)
  accumulate_in_kept env f name es v w o t start_place body x p k g i q b l =
      binds At (Keeps (with_named (with_named env v (bound o es.element)) w t)) (Keeps env) (N.under_two s type_of env v (bound o es.element) w t body)
      (λ y. iterate_rule s.model name.place es.element o t start_place (first_place body) es.source x y)
      (under_kept (with_named env v (bound o es.element)) (r.names env v (bound o es.element) f (bound_type o es.element g k.0)) w t i body b)
      (λ y m. r.iterate env (with_named (with_named env v (bound o es.element)) w t) name.place es.element o t start_place (first_place body) es.source x y
      (two_sizes env.size) p q (first body b) i k.1 l m)

  accumulate_by_kept : (env : Environment) → IsEnv env → (name : Name) (es : Elements) (v : Name) (t : Option TypeDecl) (w : Name) (u : Option TypeDecl)
      (start : Option Written) (body : Written) → At name.place → Elems env es → IfSome t (λ d. At d.name.place) → IfSome u (λ d. At d.name.place) →
      IfSome start Within → Within body → Kept env (N.accumulate_by s type_of env name es v t w u start body)
  accumulate_by_kept env f name es v t w (Some u) (Some start) body p k d c a b =
      binds At (λ o. IfSome o IsType) (Keeps env) (declared_if s.model env t)
      (λ o. declared_type s.model env u >>= (λ y. type_of env start >>= (λ x. N.accumulate_in s type_of env name es v w o y (first_place start) body x)))
      (declared env t d)
      (λ o g. binds At IsType (Keeps env) (declared_type s.model env u)
      (λ y. type_of env start >>= (λ x. N.accumulate_in s type_of env name es v w o y (first_place start) body x)) (r.declares env u c)
      (λ y i. binds At (Keeps env) (Keeps env) (type_of env start) (λ x. N.accumulate_in s type_of env name es v w o y (first_place start) body x)
      (h env f start a)
      (λ x l. accumulate_in_kept env f name es v w o y (first_place start) body x p k g i (first start a) b l)))
  accumulate_by_kept env f name es v t w None start body p k d c a b = p
  accumulate_by_kept env f name es v t w (Some u) None body p k d c a b = p

  accumulate_kept : (env : Environment) → IsEnv env → (name : Name) (es : Elements) (v : Option Name) (t : Option TypeDecl) (w : Option Name)
      (u : Option TypeDecl) (start body : Option Written) → At name.place → Elems env es → IfSome t (λ d. At d.name.place) →
      IfSome u (λ d. At d.name.place) → IfSome start Within → IfSome body Within → Kept env (N.accumulate s type_of env name es v t w u start body)
  accumulate_kept env f name es (Some v) t (Some w) u start (Some body) p k d c a b = accumulate_by_kept env f name es v t w u start body p k d c a b
  accumulate_kept env f name es None t w u start body p k d c a b = p
  accumulate_kept env f name es (Some v) t None u start body p k d c a b = p
  accumulate_kept env f name es (Some v) t (Some w) u start None p k d c a b = p

  body_stands : (l : ArgumentLayer) → Within (expression_in l) → IfSome (body_in l) Within
  body_stands (Argument-F.Item e t start) w = tt
  body_stands (Argument-F.Accumulator e t start) w = tt
  body_stands (Argument-F.Body e) w = w

  alone_stands : (l : ArgumentLayer) → Within (expression_in l) → IfSome (alone_in l) Within
  alone_stands (Argument-F.Item e None None) w = w
  alone_stands (Argument-F.Item e None (Some start)) w = tt
  alone_stands (Argument-F.Item e (Some t) start) w = tt
  alone_stands (Argument-F.Accumulator e t start) w = tt
  alone_stands (Argument-F.Body e) w = tt

  in_body : (a : Argument) → Argues a → IfSome (body_of a) Within
  in_body a w = body_stands (out-Argument a) w.expression

  accumulation_kept : (env : Environment) → IsEnv env → (name : Name) (es : Elements) (all : List Argument) → At name.place → Elems env es →
      AllByRecursion Argues all → Kept env (N.accumulation s type_of env name es all)
  unfolding N.accumulation
  accumulation_kept env f name es [] p k w = p
  accumulation_kept env f name es (a ∷ []) p k w = p
  accumulation_kept env f name es (a ∷ b ∷ []) p k w = p
  accumulation_kept env f name es (a ∷ b ∷ c ∷ []) p k w =
      accumulate_kept env f name es (variable_name a) (written_type a) (accumulator_name b) (written_type b) (start_of b) (body_of c) p k w.0.of_type
      w.1.0.of_type w.1.0.start (in_body c w.1.1.0)
  accumulation_kept env f name es (a ∷ b ∷ c ∷ d ∷ more) p k w = p

  iteration_kept : (env : Environment) → IsEnv env → (op : IterOp) (name : Name) (es : Elements) (all : List Argument) → At name.place → Elems env es →
      AllByRecursion Argues all → Kept env (N.iteration s type_of env op name es all)
  unfolding N.iteration
  iteration_kept env f op name es [] p k w = p
  iteration_kept env f op name es (a ∷ []) p k w = body_kept env f op name es (alone a) p k (alone_stands (out-Argument a) w.0.expression)
  iteration_kept env f op name es (a ∷ b ∷ []) p k w =
      one_kept env f op name es (variable_name a) (written_type a) (body_of b) p k w.0.of_type (in_body b w.1.0)
  iteration_kept env f op name es (a ∷ b ∷ c ∷ []) p k w =
      chosen At (Keeps env) (may_have_two op)
      (N.with_two s type_of env op name es (variable_name a) (written_type a) (variable_name b) (written_type b) (body_of c)) (malformed name)
      (two_kept env f op name es (variable_name a) (written_type a) (variable_name b) (written_type b) (body_of c) p k w.0.of_type w.1.0.of_type
      (in_body c w.1.1.0)) p
  iteration_kept env f op name es (a ∷ b ∷ c ∷ d ∷ more) p k w = p

  over_kept : (env : Environment) → IsEnv env → (name : Name) (es : Elements) (all : List Argument) (o : Option IterOp) → At name.place → Elems env es →
      AllByRecursion Argues all → Kept env (N.over s type_of env name es all o)
  over_kept env f name es all (Some op) p k w =
      chosen At (Keeps env) (accumulates op) (N.accumulation s type_of env name es all) (N.iteration s type_of env op name es all)
      (accumulation_kept env f name es all p k w) (iteration_kept env f op name es all p k w)
  over_kept env f name es all None p k w =
      binds At (AllByRecursion (Keeps env)) (Keeps env) (N.values s type_of env [] all)
      (λ xs. operation_called s.model name es xs (are_plain all) (collection_operation name.text)) (values_kept env f all w)
      (λ xs l. r.operation env name es xs (are_plain all) p k l)

  arrow_kept : (env : Environment) → IsEnv env → (source : Written) (name : Name) (arguments : Option (List Argument)) → Within source → At name.place →
      AllByRecursion Argues (or_none arguments) → Kept env (N.arrow s type_of env source name arguments)
  unfolding N.arrow
  arrow_kept env f source name arguments v p w =
      binds At (Keeps env) (Keeps env) (type_of env source) (λ x. N.over s type_of env name (elements_of x) (or_none arguments) (iterator_named name.text))
      (h env f source v)
      (λ x k. over_kept env f name (elements_of x) (or_none arguments) (iterator_named name.text) p (r.elements env x k) w)

  -- ---- every node

  pub node_kept : (env : Environment) → IsEnv env → (l : Layer) → LayerStands At Within l → Kept env (N.node s type_of env l)
  unfolding N.node
  node_kept env f (Written-F.TooDeep place) w = w
  node_kept env f (Written-F.Literal place value) w = r.literal env value
  node_kept env f (Written-F.OnlyLiteral place name) w = r.only_literal env name w
  node_kept env f (Written-F.Named name literal is_before arguments) w = named_kept env f name literal is_before arguments w.0 w.1 w.2
  node_kept env f (Written-F.Collection place kind all) w = collection_kept env f kind all w
  node_kept env f (Written-F.If place c a b) w = choice_kept env f c a b w.0 w.1 w.2
  node_kept env f (Written-F.Let place name t value body) w = bind_kept env f name t value body w.0 w.1 w.2
  node_kept env f (Written-F.Unary place op a) w = unary_kept env f place op a w.0 w.1
  node_kept env f (Written-F.Binary place op a b) w = binary_kept env f place op a b w.0 w.1 w.2
  node_kept env f (Written-F.Dot source name is_before arguments) w = dot_kept env f source name is_before arguments w.0 w.1 w.2
  node_kept env f (Written-F.Arrow source name arguments) w = arrow_kept env f source name arguments w.0 w.1 w.2
  node_kept env f (Written-F.Group place inner) w = h env f inner w
