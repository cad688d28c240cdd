-- Each rule is broken at a place that it was handed.
use Rattle.std.proofs.Common.{ℕ, ◌&&◌, not, Bool, true, false, cond, is_some, List, [], ◌∷◌, Option, Some, None}
use Rattle.std.specs.Prelude.{⊤, nat_lt, Ok, Err}
use Rattle.std.specs.List.{AllByRecursion}
use Rattle.std.specs.Option.{IfSome, option_or}
use Rattle.use_text.specs.declared.place.Place.{Place}
use Rattle.use_text.specs.declared.refusal.Refusal.{Refusal}
use Rattle.ocl_values.specs.declared.value.Kind.{Kind}
use Rattle.class_decls.specs.declared.decls.Name.{Name}
use Rattle.class_decls.specs.declared.decls.TypeDecl.{TypeDecl}
use Rattle.class_model.specs.declared.object_model.ObjectModel.{ObjectModel}
use Rattle.class_model.specs.declared.types.OclType.{OclType}
use Rattle.class_model.specs.declared.types.OclType.TheVariants as T
use Rattle.class_model.specs.Conformance.{conforms}
use Rattle.class_model.specs.Features.{only}
use Rattle.ocl_core.specs.declared.expression.Expr.{Expr}
use Rattle.ocl_core.specs.declared.operators.BinaryOp.{BinaryOp}
use Rattle.ocl_core.specs.declared.operators.IterOp.{IterOp}
use Rattle.ocl_core.specs.declared.operators.PlainOp.{PlainOp}
use Rattle.ocl_core.specs.declared.operators.TypeTest.{TypeTest}
use Rattle.ocl_syntax.specs.declared.tree.WrittenBinary.{WrittenBinary}
use Rattle.ocl_syntax.specs.declared.tree.WrittenUnary.{WrittenUnary}
use Rattle.ocl_syntax.specs.declared.tree.WrittenUnary.TheVariants.{Not, Neg}
use Rattle.ocl_rules.specs.Arguments.{unless_broken}
use Rattle.ocl_rules.specs.CollectionOperations.{broken_call, collection_operation, given_by, gives_type, last_type}
use Rattle.ocl_rules.specs.declared.collection_table.CollectionOperation.{CollectionOperation}
use Rattle.ocl_rules.specs.declared.properties.Feature.{Feature}
use Rattle.ocl_rules.specs.declared.typed.Typed.{Typed}
use Rattle.ocl_rules.specs.declared.typed.TypedPart.{TypedPart}
use Rattle.ocl_rules.specs.declared.typed.TypedPart.TheVariants as P
use Rattle.ocl_rules.specs.declared.value_table.ValueOperation.{ValueOperation}
use Rattle.ocl_rules.specs.Forms.{broken_range, collection_of, first_broken_range, fits_declared, levels, max_levels}
use Rattle.ocl_rules.specs.Iterators.{fit_variables, has_condition, iterate_refusal, iterate_rule, iterator_refusal, iterator_rule, unless_refused}
use Rattle.ocl_rules.specs.Operators.{binary_of, both, operation_of, unary_rule}
use Rattle.ocl_rules.specs.Properties.{feature_of, is_new_rule, may_be_asked_for, may_stand, operation_of_type, property_rule, queried, query_rule, read_at, type_test_rule}
use Rattle.ocl_rules.specs.Typings.{Typing, then_typed}
use Rattle.ocl_rules.specs.ValueOperations.{value_operation, value_rule}
use Rattle.ocl_scope.specs.Calls.{call_beside, call_of_implicit, call_of_test, call_of_values, call_rule, definedness, definedness_rule}
use Rattle.ocl_scope.specs.Calls.{implicit_with_call, is_collection, is_new_name, operation_rule, test_with_one, type_test}
use Rattle.ocl_scope.specs.Collected.{hidden_element}
use Rattle.ocl_scope.specs.Environments.{variable_named}
use Rattle.ocl_scope.specs.Literals.{literal_found, literal_of_type, plain_literal, qualified}
use Rattle.ocl_scope.specs.Names.{bare, declared_type, finds_value, implicit_with_property, property_of_implicit, type_named, type_or_fault, type_wanted}
use Rattle.ocl_scope.specs.Names.{value_of_name, variable}
use Rattle.ocl_scope.specs.declared.environment.Environment.{Environment}
use Rattle.ocl_scope.specs.declared.environment.Variable.{Variable}
use Rattle.ocl_scope.specs.declared.given.Given.{Given}
use Rattle.ocl_scope.specs.declared.given.Given.TheVariants as G
use Rattle.ocl_scope.specs.declared.given.TypeArgument.{TypeArgument}
use Rattle.ocl_scope.specs.declared.given.TypeArgument.TheVariants as A
use Rattle.ocl_shapes.specs.Arrows.{operation_called}
use Rattle.ocl_shapes.specs.Extents.{extent, instances}
use Rattle.ocl_shapes.specs.Members.{called, property, property_of}
use Rattle.ocl_shapes.specs.Named.{named_by, type_found}
use Rattle.ocl_shapes.specs.Sources.{asks_elements}
use Rattle.ocl_shapes.specs.declared.elements.Elements.{Elements}
use Rattle.ocl_laws.proofs.Comes.{Comes, chosen}
use Rattle.ocl_laws.proofs.Rules.{GivenKeeps, PartKeeps, Rules, TypeKeeps, argument_env}

abbrev pub AnyTyped : Environment → Typed → Type 0
AnyTyped env x = ⊤

abbrev pub AnyType : OclType → Type 0
AnyType t = ⊤

module _ (m : ObjectModel) (is_post : Bool) (At : Place → Type 0) where
  abbrev Stands : {A : Type 0} → Typing A → Type 0
  Stands {A} t = Comes {A = A} At (λ x. ⊤) t

  gate : {A : Type 0} (b : Bool) (x y : Typing A) → Stands x → Stands y → Stands (cond b x y)
  gate true x y h k = h
  gate false x y h k = k

  next : {A B : Type 0} (t : Typing A) (f : A → Typing B) → Stands t → ((a : A) → Stands (f a)) → Stands (then_typed t f)
  next (Ok a) f h k = k a
  next (Err r) f h k = h

  unless : {A : Type 0} (place : Place) (o : Option ℕ) (t : Typing A) → At place → Stands t → Stands (unless_broken place o t)
  unless place None t p h = h
  unless place (Some n) t p h = p

  refused : {A : Type 0} (o : Option Refusal) (t : Typing A) → IfSome o (λ r. At r.place) → Stands t → Stands (unless_refused o t)
  refused None t p h = h
  refused (Some r) t p h = p

  -- ---- types and names

  wanted : (env : Environment) (name : Name) (o : Option OclType) → At name.place → Stands (type_or_fault m env name o)
  wanted env name (Some t) p = tt
  wanted env name None p = gate (finds_value m env name.text) _ _ p p

  declares : (env : Environment) (d : TypeDecl) → At d.name.place → Stands (declared_type m env d)
  declares env d p = next (type_wanted m env d.name) _ (wanted env d.name (type_named m d.name.text) p) (λ t. tt)

  asks : (env : Environment) (name : Name) (o : Option OclType) → At name.place → Comes At (TypeKeeps At AnyType AnyTyped) (type_found m env name o)
  asks env name (Some t) p = tt
  asks env name None p = chosen At (TypeKeeps At AnyType AnyTyped) (finds_value m env name.text) _ _ p p

  literal_at : (place : Place) (o : Option (ℕ × ℕ)) → At place → Stands (literal_found place o)
  literal_at place None p = p
  literal_at place (Some l) p = tt

  read : (place : Place) (is_before : Bool) (e : Expr) (o : Option Feature) → At place → Stands (read_at m place is_post is_before e o)
  read place is_before e None p = p
  read place is_before e (Some found) p = gate (may_stand is_post is_before) _ _ tt p

  property_read : (place : Place) (is_before : Bool) (name : List ℕ) (x : Typed) → At place → Stands (property_rule m place is_post is_before name x)
  property_read place is_before name x p = read place is_before x.expr (feature_of m x.of_type name) p

  of_implicit : (name : Name) (is_before : Bool) (o : Option Variable) → At name.place → Stands (property_of_implicit m is_post name is_before o)
  of_implicit name is_before None p = p
  of_implicit name is_before (Some v) p = property_read name.place is_before name.text (variable v) p

  value_named : (env : Environment) (name : Name) (is_before : Bool) (o : Option Variable) → At name.place → Stands (value_of_name m is_post env name is_before o)
  value_named env name is_before None p = of_implicit name is_before (implicit_with_property m env name.text) p
  value_named env name is_before (Some v) p = gate is_before _ _ p tt

  bares : (env : Environment) (name : Name) (is_before : Bool) → At name.place → Stands (bare m is_post env name is_before)
  bares env name is_before p = gate (is_some (type_named m name.text)) _ _ p (value_named env name is_before (variable_named env name.text) p)

  plain_at : (place : Place) (is_before is_called : Bool) (o : Option (ℕ × ℕ)) → At place → Stands (plain_literal place is_before is_called o)
  plain_at place is_before is_called None p = p
  plain_at place is_before is_called (Some l) p = gate is_called _ _ p (gate is_before _ _ p tt)

  qualifies : (env : Environment) (name literal : Name) (is_before is_called : Bool) → At name.place → At literal.place →
      Stands (qualified m env name literal is_before is_called)
  qualifies env name literal is_before is_called p q =
      next (type_wanted m env name) _ (wanted env name (type_named m name.text) p) (λ t. plain_at literal.place is_before is_called (literal_of_type m t literal) q)

  -- ---- calls

  defines : (place : Place) (is_before : Bool) (op : PlainOp) (x : Typed) (args : List Typed) → At place → Stands (definedness_rule place is_before op x args)
  defines place is_before op x [] p = gate is_before _ _ p tt
  defines place is_before op x (a ∷ more) p = p

  news : (place : Place) (is_before : Bool) (x : Typed) (args : List Typed) → At place → Stands (is_new_rule place is_post is_before x args)
  news place is_before x [] p = gate (is_post && not is_before) _ _ tt p
  news place is_before x (a ∷ more) p = p

  values : (place : Place) (is_before : Bool) (row : ValueOperation) (x : Typed) (args : List Typed) → At place → Stands (value_rule m place is_before row x args)
  values place is_before row x args p = unless place _ _ p (gate is_before _ _ p tt)

  queries : (place : Place) (op : ℕ) (x : Typed) (args : List Typed) (o : Option OclType) → At place → Stands (queried place op x args o)
  queries place op x args None p = p
  queries place op x args (Some t) p = tt

  query : (place : Place) (is_before : Bool) (op : ℕ) (x : Typed) (args : List Typed) → At place → Stands (query_rule m place is_before op x args)
  query place is_before op x args p = unless place _ _ p (gate is_before _ _ p (queries place op x args _ p))

  operations : (place : Place) (is_plain is_before : Bool) (x : Typed) (args : List Typed) (row : Option ValueOperation) (op : Option ℕ) → At place →
      Stands (operation_rule m place is_plain is_before x args row op)
  operations place is_plain is_before x args (Some row) op p = gate is_plain _ _ (values place is_before row x args p) p
  operations place is_plain is_before x args None (Some op) p = gate is_plain _ _ (query place is_before op x args p) p
  operations place is_plain is_before x args None None p = p

  beside : (name : Name) (is_before : Bool) (x : Typed) (args : List Typed) (is_plain : Bool) → At name.place →
      Stands (call_beside m is_post name is_before x args is_plain)
  beside name is_before x args is_plain p =
      gate (is_new_name name.text) _ _ (gate is_plain _ _ (news name.place is_before x args p) p)
      (operations name.place is_plain is_before x args (value_operation m x.of_type name.text) (operation_of_type m x.of_type name.text) p)

  of_values : (name : Name) (is_before : Bool) (x : Typed) (args : List Typed) (is_plain : Bool) (o : Option PlainOp) → At name.place →
      Stands (call_of_values m is_post name is_before x args is_plain o)
  of_values name is_before x args is_plain (Some op) p = gate is_plain _ _ (defines name.place is_before op x args p) p
  of_values name is_before x args is_plain None p = beside name is_before x args is_plain p

  tests : (place : Place) (is_before : Bool) (test : TypeTest) (x : Typed) (t : OclType) → At place → Stands (type_test_rule place is_before test x t)
  tests place is_before test x t p = gate (may_be_asked_for t) _ _ (gate is_before _ _ p tt) p

  test_one : (place : Place) (is_before : Bool) (test : TypeTest) (x : Typed) (args : List TypeArgument) → At place →
      AllByRecursion (TypeKeeps At AnyType AnyTyped) args → Stands (test_with_one place is_before test x (only args))
  test_one place is_before test x [] p h = p
  test_one place is_before test x (A.OfType t ∷ []) p h = tests place is_before test x t p
  test_one place is_before test x (A.NoType at ∷ []) p h = h.0
  test_one place is_before test x (a ∷ b ∷ more) p h = p

  of_test : (place : Place) (is_before : Bool) (x : Typed) (args : List TypeArgument) (is_plain : Bool) (o : Option TypeTest) → At place →
      AllByRecursion (TypeKeeps At AnyType AnyTyped) args → Stands (call_of_test place is_before x args is_plain o)
  of_test place is_before x args is_plain None p h = p
  of_test place is_before x args is_plain (Some test) p h = gate is_plain _ _ (test_one place is_before test x args p h) p

  calls : (env : Environment) (name : Name) (is_before : Bool) (x : Typed) (given : Given) → At name.place → GivenKeeps At AnyType AnyTyped env given →
      Stands (call_rule m is_post name is_before x given)
  calls env name is_before x (G.Values args is_plain) p h = of_values name is_before x args is_plain (definedness name.text) p
  calls env name is_before x (G.Types args is_plain) p h = of_test name.place is_before x args is_plain (type_test name.text) p h

  implicit_calls : (env : Environment) (name : Name) (is_before : Bool) (given : Given) (o : Option Variable) → At name.place →
      GivenKeeps At AnyType AnyTyped env given → Stands (call_of_implicit m is_post name is_before given o)
  implicit_calls env name is_before given None p h = p
  implicit_calls env name is_before given (Some v) p h = calls env name is_before (variable v) given p h

  named : (env : Environment) (name : Name) (is_before : Bool) (literal : Option Name) (given : Option Given) → At name.place →
      IfSome literal (λ n. At n.place) → IfSome given (GivenKeeps At AnyType AnyTyped env) → Stands (named_by m is_post env name is_before literal given)
  named env name is_before (Some literal) given p q h = qualifies env name literal is_before (is_some given) p q
  named env name is_before None None p q h = bares env name is_before p
  named env name is_before None (Some given) p q h = gate (is_some (type_named m name.text)) _ _ p (implicit_calls env name is_before given (implicit_with_call m env name.text) p h)

  -- ---- what stands behind a dot or an arrow

  class_instances : (class : Name) (is_before : Bool) (t : OclType) → At class.place → Stands (instances class is_before t)
  class_instances class is_before (T.Class c) p = tt
  class_instances class is_before T.Any p = p
  class_instances class is_before T.Void p = p
  class_instances class is_before T.Bool p = p
  class_instances class is_before T.Int p = p
  class_instances class is_before T.Str p = p
  class_instances class is_before (T.Enum e) p = p
  class_instances class is_before (T.Coll' k shape row) p = p

  extents : (env : Environment) (class name : Name) (is_before takes_none : Bool) (o : Option OclType) → At class.place → At name.place →
      Stands (extent m is_post env class name is_before takes_none o)
  extents env class name is_before takes_none None p q = gate (finds_value m env class.text) _ _ (gate takes_none _ _ p q) p
  extents env class name is_before takes_none (Some t) p q = gate takes_none _ _ (gate (may_stand is_post is_before) _ _ (class_instances class is_before t p) q) q

  property_in : (env : Environment) (name : Name) (is_before : Bool) (x : Typed) (b : Bool) → At name.place → Stands (property_of m is_post env name is_before x b)
  property_in env name is_before x true p =
      next (property_rule m name.place is_post is_before name.text (hidden_element x.of_type env.size)) _
      (property_read name.place is_before name.text (hidden_element x.of_type env.size) p) (λ read. tt)
  property_in env name is_before x false p = property_read name.place is_before name.text x p

  properties : (env : Environment) (name : Name) (is_before : Bool) (x : Typed) → At name.place → Stands (property m is_post env name is_before x)
  unfolding property
  properties env name is_before x p = property_in env name is_before x (is_collection x.of_type) p

  called_in : (env inner : Environment) (name : Name) (is_before : Bool) (x : Typed) (b : Bool) (given : Given) → At name.place →
      GivenKeeps At AnyType AnyTyped inner given → Stands (called m is_post env name is_before x b given)
  called_in env inner name is_before x true given p h =
      next (call_rule m is_post name is_before (hidden_element x.of_type env.size) given) _
      (calls inner name is_before (hidden_element x.of_type env.size) given p h) (λ read. tt)
  called_in env inner name is_before x false given p h = calls inner name is_before x given p h

  given_call : (place : Place) (row : CollectionOperation) (x : Typed) (args : List Typed) (o : Option OclType) → At place → Stands (given_by place row.op x args o)
  given_call place row x args None p = p
  given_call place row x args (Some t) p = tt

  operation : (name : Name) (es : Elements) (xs : List Typed) (is_plain : Bool) (o : Option CollectionOperation) → At name.place →
      Stands (operation_called m name es xs is_plain o)
  operation name es xs is_plain None p = p
  operation name es xs is_plain (Some row) p =
      gate is_plain _ _
      (unless name.place (broken_call m row es.kind es.element xs) _ p
      (given_call name.place row es.source xs (gives_type m row.gives es.kind es.element (last_type xs)) p)) p

  -- ---- operators, `if`, `let`, collection literals, iterators

  sides : (op : WrittenBinary) (place : Place) (o : Option BinaryOp) (x y : Typed) → At place → Stands (binary_of op place o x y)
  sides op place None x y p = p
  sides op place (Some made) x y p = tt

  unary : (place : Place) (op : WrittenUnary) (x : Typed) → At place → Stands (unary_rule m place op x)
  unary place Not x p = gate (conforms m x.of_type T.Bool) _ _ tt p
  unary place Neg x p = gate (conforms m x.of_type T.Int) _ _ tt p

  choose : (b : Bool) (place : Place) → At place → IfSome (cond b None (Some place)) At
  choose true place p = tt
  choose false place p = p

  part_range : (x : TypedPart) → (env : Environment) → PartKeeps At AnyType AnyTyped env x → IfSome (broken_range m x) At
  part_range (P.One x) env h = tt
  part_range (P.Range place x y) env h = choose (both m T.Int x.of_type y.of_type) place h.0

  either : (a b : Option Place) → IfSome a At → IfSome b At → IfSome (option_or a b) At
  either (Some x) b h k = h
  either None b h k = k

  ranges : (env : Environment) (xs : List TypedPart) → AllByRecursion (PartKeeps At AnyType AnyTyped env) xs → IfSome (first_broken_range m xs) At
  ranges env [] h = tt
  ranges env (x ∷ xs) h = either (broken_range m x) (first_broken_range m xs) (part_range x env h.0) (ranges env xs h.1)

  collects : (kind : Kind) (xs : List TypedPart) (o : Option Place) → IfSome o At → Stands (collection_of m kind xs o)
  collects kind xs (Some place) h = h
  collects kind xs None h = tt

  if_refused : (b : Bool) (x y : Option Refusal) → IfSome x (λ r. At r.place) → IfSome y (λ r. At r.place) → IfSome (cond b x y) (λ r. At r.place)
  if_refused true x y h k = h
  if_refused false x y h k = k

  iterates : (place : Place) (op : IterOp) (kind : Kind) (element : OclType) (count : ℕ) (variables : List (Option OclType)) (body_place : Place)
      (source body : Typed) → At place → At body_place → Stands (iterator_rule m place op kind element count variables body_place source body)
  iterates place op kind element count variables body_place source body p q =
      refused (iterator_refusal m place op element variables body_place body.of_type) _
      (if_refused (fit_variables m element variables) _ _ (if_refused (has_condition op && not (conforms m body.of_type T.Bool)) _ _ q tt) p) tt

  accumulates : (place : Place) (element : OclType) (variable : Option OclType) (t : OclType) (start_place body_place : Place) (source start body : Typed) →
      At place → At start_place → At body_place → Stands (iterate_rule m place element variable t start_place body_place source start body)
  accumulates place element variable t start_place body_place source start body p q r =
      refused (iterate_refusal m place element variable t start_place body_place start.of_type body.of_type) _
      (if_refused (fits_declared m element variable) _ _
      (if_refused (conforms m start.of_type t) _ _ (if_refused (conforms m body.of_type t) _ _ tt r) q) p) tt

  pub rules : Rules m is_post At (λ env. ⊤) AnyType AnyTyped
  rules = record {
    types = λ env x h. tt;
    names = λ env name t h k. tt;
    implicit = λ env t h k. tt;
    more = λ env x name h k. tt;
    declares = declares;
    asks = λ env name p. asks env name (type_named m name.text) p;
    elements = λ env x h. (tt, tt);
    literal = λ env l. tt;
    only_literal = λ env name p. literal_at name.place _ p;
    unary = λ env place op x p h. unary place op x p;
    binary = λ env place op x y p h k. sides op place (operation_of m op x.of_type y.of_type) x y p;
    choice = λ env place x y z p h k l. gate (conforms m x.of_type T.Bool) _ _ tt p;
    bind = λ env name place declared x y p h k. gate (fits_declared m x.of_type declared) _ _ tt p;
    collection = λ env kind xs h. collects kind xs (first_broken_range m xs) (ranges env xs h);
    named = λ env name is_before literal given f p q h. named env name is_before literal given p q h;
    instances = λ env class name is_before takes_none p q. extents env class name is_before takes_none (type_named m class.text) p q;
    property = λ env name is_before x p h. properties env name is_before x p;
    call = λ env name is_before x given p h k. called_in env (argument_env env x name) name is_before x (asks_elements x.of_type name.text) given p k;
    iterator = λ env inner place op kind element count variables body_place source body e p q h k l.
        iterates place op kind element count variables body_place source body p q;
    iterate = λ env inner place element variable t start_place body_place source start body e p q r h k l n.
        accumulates place element variable t start_place body_place source start body p q r;
    operation = λ env name es xs plain p h k. operation name es xs plain (collection_operation name.text) p;
    leveled = λ env place x p h. gate (nat_lt max_levels (levels x.of_type)) _ _ p tt;
  }
