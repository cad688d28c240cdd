-- What the rules of names and calls give is in range, and what they refuse they refuse at the places that they speak of.
use Rattle.std.proofs.Common.{◌≡◌, ℕ, suc, ◌<◌, ◌==◌, Bool, true, false, ◌&&◌, not, if◌then◌else◌, List, [], ◌∷◌, length, get_or, All, Option, Some, None, IfSome, Ok, Err, refl, sym, ◌∙◌, subst, arith, ⊎_elim}
use Rattle.std.specs.Prelude.{Contains, MatchResult, is_some}
use Rattle.std.specs.Option.{ForSome, option_and_then, option_map}
use Rattle.std.proofs.lemmas.Bool.{eqb-true}
use Rattle.std.proofs.lemmas.List.{length-map}
use Rattle.std.proofs.lemmas.List.Elements.{All-cons, All-map, All-nil}
use Rattle.std.proofs.lemmas.Option.{slice_get_cases}
use Rattle.use_text.specs.declared.code.Code.{Code}
use Rattle.use_text.specs.declared.place.Place.{Place}
use Rattle.use_text.specs.declared.refusal.Refusal.{Refusal}
use Rattle.use_text.specs.declared.code.Family.TheVariants.{N}
use Rattle.use_text.specs.Codes.{code_of}
use Rattle.use_text.specs.Refusals.{refusal_at}
use Rattle.ocl_values.specs.declared.value.Kind.TheVariants.{Sequence}
use Rattle.ocl_values.specs.declared.value.Value.TheVariants as V
use Rattle.class_decls.specs.declared.decls.BodyKind.{BodyKind}
use Rattle.class_decls.specs.declared.decls.BodyKind.TheVariants.{Bare, Query, Soil}
use Rattle.class_decls.specs.declared.decls.Name.{Name}
use Rattle.class_decls.specs.declared.decls.TypeDecl.{TypeDecl}
use Rattle.class_model.specs.declared.object_model.ObjectModel.{ObjectModel}
use Rattle.class_model.specs.declared.types.OclType.{OclType}
use Rattle.class_model.specs.declared.types.OclType.TheVariants as T
use Rattle.class_model.specs.Features.{literal, only_literal, operation}
use Rattle.class_model.specs.InRange.{IsInRange, IsTypeOf}
use Rattle.class_model.specs.Parts.{literal_count, op_body_kind, op_params, op_result}
use Rattle.ocl_core.specs.declared.expression.Expr.{Expr}
use Rattle.ocl_core.specs.declared.expression.Expr.TheVariants as E
use Rattle.ocl_core.specs.declared.operators.PlainOp.{PlainOp}
use Rattle.ocl_core.specs.declared.operators.TypeTest.{TypeTest}
use Rattle.ocl_core.specs.declared.operators.TypeTest.TheVariants.{IsTypeOf as TypeOf, IsKindOf, AsType}
use Rattle.ocl_core.specs.declared.operators.When.{When}
use Rattle.ocl_core.specs.declared.operators.When.TheVariants.{Now}
use Rattle.ocl_rules.specs.Arguments.{all_fit, conforms_to, exprs, unless_broken}
use Rattle.ocl_rules.specs.declared.properties.Feature.{Feature}
use Rattle.ocl_rules.specs.declared.properties.Feature.TheVariants as F
use Rattle.ocl_rules.specs.declared.typed.Typed.{Typed}
use Rattle.ocl_rules.specs.declared.value_table.ValueOperation.{ValueOperation}
use Rattle.ocl_rules.specs.declared.value_table.ValueResult.{ValueResult}
use Rattle.ocl_rules.specs.declared.value_table.ValueResult.TheVariants as R
use Rattle.ocl_rules.specs.Properties.{feature_of, feature_read, is_new_rule, may_be_asked_for, may_stand, operation_of_type, property_rule, queried, query_rule, query_type, read_at, test_type, type_test_rule, when_of}
use Rattle.ocl_rules.specs.Typings.{Typing, breaks_n, breaks_t, then_typed, typed}
use Rattle.ocl_rules.specs.ValueOperations.{result_type, value_operation, value_rule}
use Rattle.ocl_scope.specs.declared.environment.Environment.{Environment}
use Rattle.ocl_scope.specs.declared.environment.Variable.{Variable}
use Rattle.ocl_scope.specs.declared.given.Given.{Given}
use Rattle.ocl_scope.specs.declared.given.Given.TheVariants.{Values, Types}
use Rattle.ocl_scope.specs.declared.given.TypeArgument.{TypeArgument}
use Rattle.ocl_scope.specs.declared.given.TypeArgument.TheVariants.{OfType, NoType}
use Rattle.ocl_scope.specs.Calls.{answers_call, call_beside, call_of_implicit, call_of_test, call_of_types, call_of_values, call_rule, definedness, definedness_rule, implicit_call, implicit_with_call, is_new_name, operation_rule, type_test}
use Rattle.ocl_scope.specs.Environments.{has_name, last_that, variable_named}
use Rattle.ocl_scope.specs.Literals.{literal_found, literal_of_type, only_literal_rule, plain_literal, qualified}
use Rattle.ocl_scope.specs.Names.{bare, declared_type, finds_value, gives_property, implicit_with_property, in_collections, property_of_implicit, type_named, type_or_fault, type_wanted, value_of_name, variable}
use Rattle.ocl_scope.specs.Ranges.{IsEnvironmentOf, IsExprAmong, IsGivenAmong, IsTypeArgumentOf, IsTypedAmong, places_of, places_of_arguments}
use Rattle.ocl_scope.proofs.Absent.{operation_is_there}
use Rattle.ocl_scope.proofs.Found.{IsFeatureOf, at_number, coll_there, collections_there, either, end_type_there, feature_there, literal_there, only_literal_there, some_if, some_or, type_named_there}
use Rattle.ocl_scope.proofs.Layers.{attr_among, derived_among, literal_among, local_among, new_among, plain_among, query_among, role_among, test_among}

-- of what is typed on, where it is typed in two steps
both_told : {A B : Type 0} (P : A → Type 0) (P' : B → Type 0) (Q : Refusal → Type 0) (given : Typing A) (next : A → Typing B) → MatchResult given P Q →
    ((a : A) → P a → MatchResult (next a) P' Q) → MatchResult (then_typed given next) P' Q
both_told P P' Q (Ok a) next h k = k a h
both_told P P' Q (Err r) next h k = h

some_of : {A : Type 0} (P : A → Type 0) (o : Option A) → ForSome o P → IfSome o P
some_of P None h = tt
some_of P (Some x) h = h x refl

-- the operations of a model
result_there : (m : ObjectModel) → IsInRange m → (op : ℕ) → op < length m.ops → IfSome (op_result m op) (IsTypeOf m)
result_there m range op below =
    ⊎_elim
    (λ s. subst (λ o. IfSome (option_and_then (λ d. d.result_type) o) (IsTypeOf m)) (sym s.2)
    (some_of (IsTypeOf m) (s.0).result_type (subst (λ x. ForSome x.result_type (IsTypeOf m)) s.3 (range.result_types op s.0 below))))
    (λ s. let past = s.0 in absurd (omega (arith, past, below)))
    ((slice_get_cases m.ops op).1)

query_there : (P : OclType → Type 0) (b : BodyKind) (o : Option OclType) → IfSome o P → IfSome (query_type b o) P
query_there P Soil o h = tt
query_there P Bare o h = h
query_there P Query o h = h

operation_there : (m : ObjectModel) (t : OclType) (name : List ℕ) → IfSome (operation_of_type m t name) (λ o. o < length m.ops)
operation_there m (T.Class c) name = operation_is_there m c name (operation m c name) refl
operation_there m T.Any name = tt
operation_there m T.Void name = tt
operation_there m T.Bool name = tt
operation_there m T.Int name = tt
operation_there m T.Str name = tt
operation_there m (T.Enum e) name = tt
operation_there m (T.Coll' kind shape row) name = tt

value_type_there : (m : ObjectModel) (r : ValueResult) → IsTypeOf m (result_type r)
value_type_there m R.Int = tt
value_type_there m R.Str = tt
value_type_there m R.Strings = coll_there m Sequence T.Str tt

test_type_there : (m : ObjectModel) (test : TypeTest) (t : OclType) → IsTypeOf m t → IsTypeOf m (test_type test t)
test_type_there m TypeOf t h = tt
test_type_there m IsKindOf t h = tt
test_type_there m AsType t h = h

-- a reading of what an object has
read_there : (m : ObjectModel) (n : ℕ) → IsInRange m → (e : Expr) (when : When) (f : Feature) → IsExprAmong m n e → IsFeatureOf m f →
    IsTypedAmong m n (feature_read m e when f)
read_there m n range e when (F.Attr a) h k = record {
  expr = attr_among m n e a when k h;
  of_type = at_number (IsTypeOf m) (λ d. d.of_type) m.attrs a T.Any k range.attr_types;
}
read_there m n range e when (F.Derived a) h k = record {
  expr = derived_among m n e a when k h;
  of_type = at_number (IsTypeOf m) (λ d. d.of_type) m.derived a T.Any k range.derived_types;
}
read_there m n range e when (F.Role a end) h k = record { expr = role_among m n e a end when k h; of_type = end_type_there m range a end k }

exprs_there : (m : ObjectModel) (n : ℕ) (args : List Typed) → All (IsTypedAmong m n) args → All (IsExprAmong m n) (exprs args)
exprs_there m n args h = All-map (IsExprAmong m n) (λ a. a.expr) args (λ k d i. (h k d i).expr)

source_and : (m : ObjectModel) (n : ℕ) (source : Typed) (args : List Typed) → IsTypedAmong m n source → All (IsTypedAmong m n) args →
    All (IsExprAmong m n) (source.expr ∷ exprs args)
source_and m n source args h k = All-cons (IsExprAmong m n) source.expr (exprs args) h.expr (exprs_there m n args k)

module _ (m : ObjectModel) (n : ℕ) (Q : Refusal → Type 0) where
  -- a typing gives what is in range, and refuses what it may
  abbrev pub Gives : Typing Typed → Type 0
  Gives given = MatchResult given (IsTypedAmong m n) Q

module _ (m : ObjectModel) (n : ℕ) (range : IsInRange m) (Q : Refusal → Type 0) (place : Place) (at : (c : Code) → Q (refusal_at c place)) where
  read_gives : (is_post is_before : Bool) (e : Expr) (o : Option Feature) → IsExprAmong m n e → IfSome o (IsFeatureOf m) →
      Gives m n Q (read_at m place is_post is_before e o)
  read_gives is_post is_before e None h k = at _
  read_gives is_post is_before e (Some f) h k =
      either (Gives m n Q) (may_stand is_post is_before) (Ok (feature_read m e (when_of is_before) f)) (breaks_t 9 place)
      (read_there m n range e (when_of is_before) f h k) (at _)

  pub property_gives : (is_post is_before : Bool) (name : List ℕ) (source : Typed) → IsTypedAmong m n source →
      Gives m n Q (property_rule m place is_post is_before name source)
  property_gives is_post is_before name source h =
      read_gives is_post is_before source.expr (feature_of m source.of_type name) h.expr (feature_there m source.of_type name)

  definedness_gives : (is_before : Bool) (op : PlainOp) (source : Typed) (args : List Typed) → IsTypedAmong m n source →
      Gives m n Q (definedness_rule place is_before op source args)
  definedness_gives is_before op source [] h =
      either (Gives m n Q) is_before (breaks_t 9 place) (typed (E.Plain op (source.expr ∷ [])) T.Bool) (at _)
      (record { expr = plain_among m n op (source.expr ∷ []) (source_and m n source [] h (All-nil (IsTypedAmong m n))); of_type = tt })
  definedness_gives is_before op source (a ∷ more) h = at _

  new_gives : (is_post is_before : Bool) (source : Typed) (args : List Typed) → IsTypedAmong m n source →
      Gives m n Q (is_new_rule place is_post is_before source args)
  new_gives is_post is_before source [] h =
      either (Gives m n Q) (is_post && not is_before) (typed (E.IsNew source.expr) T.Bool) (breaks_t 9 place)
      (record { expr = new_among m n source.expr h.expr; of_type = tt }) (at _)
  new_gives is_post is_before source (a ∷ more) h = at _

  unbroken : (o : Option ℕ) (given : Typing Typed) → Gives m n Q given → Gives m n Q (unless_broken place o given)
  unbroken None given h = h
  unbroken (Some number) given h = at _

  value_gives : (is_before : Bool) (row : ValueOperation) (source : Typed) (args : List Typed) → IsTypedAmong m n source → All (IsTypedAmong m n) args →
      Gives m n Q (value_rule m place is_before row source args)
  value_gives is_before row source args h k =
      unbroken _ _
      (either (Gives m n Q) is_before (breaks_t 9 place) (typed (E.Plain row.op (source.expr ∷ exprs args)) (result_type row.gives)) (at _)
      (record { expr = plain_among m n row.op (source.expr ∷ exprs args) (source_and m n source args h k); of_type = value_type_there m row.gives }))

  checked : (b c : Bool) (given : Typing Typed) → (b ≡ true → Gives m n Q given) →
      Gives m n Q (unless_broken place (if b then (if c then None else Some 3) else Some 2) given)
  checked true true given h = h refl
  checked true false given h = at _
  checked false c given h = at _

  queried_gives : (op : ℕ) (source : Typed) (args : List Typed) (o : Option OclType) → op < length m.ops → length args ≡ length (op_params m op) →
      IsTypedAmong m n source → All (IsTypedAmong m n) args → IfSome o (IsTypeOf m) → Gives m n Q (queried place op source args o)
  queried_gives op source args None below same h k o = at _
  queried_gives op source args (Some t) below same h k o = record {
    expr = query_among m n source.expr op (exprs args) below (length-map args (λ a. a.expr) ∙ same) h.expr (exprs_there m n args k);
    of_type = o;
  }

  query_gives : (is_before : Bool) (op : ℕ) (source : Typed) (args : List Typed) → op < length m.ops → IsTypedAmong m n source →
      All (IsTypedAmong m n) args → Gives m n Q (query_rule m place is_before op source args)
  query_gives is_before op source args below h k =
      checked (length args == length (op_params m op)) (all_fit (λ p a. conforms_to m p.of_type a) (op_params m op) args) _
      (λ same. either (Gives m n Q) is_before (breaks_t 9 place) _ (at _)
      (queried_gives op source args (query_type (op_body_kind m op) (op_result m op)) below (eqb-true (length args) (length (op_params m op)) same) h k
      (query_there (IsTypeOf m) (op_body_kind m op) (op_result m op) (result_there m range op below))))

  operation_gives : (is_plain is_before : Bool) (source : Typed) (args : List Typed) (row : Option ValueOperation) (op : Option ℕ) →
      IsTypedAmong m n source → All (IsTypedAmong m n) args → IfSome op (λ o. o < length m.ops) →
      Gives m n Q (operation_rule m place is_plain is_before source args row op)
  operation_gives is_plain is_before source args (Some row) op h k o =
      either (Gives m n Q) is_plain (value_rule m place is_before row source args) (breaks_t 2 place) (value_gives is_before row source args h k) (at _)
  operation_gives is_plain is_before source args None (Some op) h k o =
      either (Gives m n Q) is_plain (query_rule m place is_before op source args) (breaks_t 2 place) (query_gives is_before op source args o h k) (at _)
  operation_gives is_plain is_before source args None None h k o = at _

  test_gives : (is_before : Bool) (test : TypeTest) (source : Typed) (t : OclType) → IsTypedAmong m n source → IsTypeOf m t →
      Gives m n Q (type_test_rule place is_before test source t)
  test_gives is_before test source t h k =
      either (Gives m n Q) (may_be_asked_for t) _ (breaks_t 3 place)
      (either (Gives m n Q) is_before (breaks_t 9 place) (typed (E.Test test source.expr t Now) (test_type test t)) (at _)
      (record { expr = test_among m n test source.expr t Now k h.expr; of_type = test_type_there m test t k })) (at _)

  types_give : (is_before : Bool) (test : TypeTest) (source : Typed) (args : List TypeArgument) (is_plain : Bool) → IsTypedAmong m n source →
      All (IsTypeArgumentOf m) args → ((c : Code) (p : Place) → Contains (places_of_arguments args) p → Q (refusal_at c p)) →
      Gives m n Q (call_of_types place is_before test source args is_plain)
  types_give is_before test source args false h k others = at _
  types_give is_before test source [] true h k others = at _
  types_give is_before test source (OfType t ∷ []) true h k others = test_gives is_before test source t h (k 0 (OfType t) (omega arith))
  types_give is_before test source (NoType p ∷ []) true h k others = others _ p (0, omega arith, refl)
  types_give is_before test source (a ∷ b ∷ rest) true h k others = at _

  test_call_gives : (is_before : Bool) (source : Typed) (args : List TypeArgument) (is_plain : Bool) (test : Option TypeTest) → IsTypedAmong m n source →
      All (IsTypeArgumentOf m) args → ((c : Code) (p : Place) → Contains (places_of_arguments args) p → Q (refusal_at c p)) →
      Gives m n Q (call_of_test place is_before source args is_plain test)
  test_call_gives is_before source args is_plain None h k others = at _
  test_call_gives is_before source args is_plain (Some test) h k others = types_give is_before test source args is_plain h k others

module _ (m : ObjectModel) (n : ℕ) (range : IsInRange m) (Q : Refusal → Type 0) (name : Name) (at : (c : Code) → Q (refusal_at c name.place)) where
  beside_gives : (is_post is_before : Bool) (source : Typed) (args : List Typed) (is_plain : Bool) → IsTypedAmong m n source →
      All (IsTypedAmong m n) args → Gives m n Q (call_beside m is_post name is_before source args is_plain)
  beside_gives is_post is_before source args is_plain h k =
      either (Gives m n Q) (is_new_name name.text) _ _
      (either (Gives m n Q) is_plain (is_new_rule name.place is_post is_before source args) (breaks_t 2 name.place)
      (new_gives m n range Q name.place at is_post is_before source args h) (at _))
      (operation_gives m n range Q name.place at is_plain is_before source args (value_operation m source.of_type name.text)
      (operation_of_type m source.of_type name.text) h k (operation_there m source.of_type name.text))

  values_give : (is_post is_before : Bool) (source : Typed) (args : List Typed) (is_plain : Bool) (op : Option PlainOp) → IsTypedAmong m n source →
      All (IsTypedAmong m n) args → Gives m n Q (call_of_values m is_post name is_before source args is_plain op)
  values_give is_post is_before source args is_plain None h k = beside_gives is_post is_before source args is_plain h k
  values_give is_post is_before source args is_plain (Some op) h k =
      either (Gives m n Q) is_plain (definedness_rule name.place is_before op source args) (breaks_t 2 name.place)
      (definedness_gives m n range Q name.place at is_before op source args h) (at _)

-- what a call may be refused at
abbrev pub AtPlaces : Name → Given → Refusal → Type 0
AtPlaces name given r = Contains (places_of name given) r.place

pub call_gives : (m : ObjectModel) (n : ℕ) → IsInRange m → (is_post : Bool) (name : Name) (is_before : Bool) (source : Typed) (given : Given) →
    IsTypedAmong m n source → IsGivenAmong m n given → Gives m n (AtPlaces name given) (call_rule m is_post name is_before source given)
call_gives m n range is_post name is_before source (Values args is_plain) h k =
    values_give m n range (AtPlaces name (Values args is_plain)) name (λ c. (0, omega arith, refl)) is_post is_before source args is_plain
    (definedness name.text) h k
call_gives m n range is_post name is_before source (Types args is_plain) h k =
    test_call_gives m n range (AtPlaces name (Types args is_plain)) name.place (λ c. (0, omega arith, refl)) is_before source args is_plain
    (type_test name.text) h k (λ c p there. (suc there.0, omega (arith, there.1), there.2))

-- the variables of an environment
last_there : {A : Type 0} (P : A → Type 0) (test : A → Bool) (xs : List A) → All P xs → IfSome (last_that test xs) P
last_there P test [] h = tt
last_there P test (x ∷ xs) h =
    some_or P (last_that test xs) (if test x then Some x else None) (last_there P test xs (λ k d i. h (suc k) d (omega (arith, i))))
    (some_if P (test x) x None (h 0 x (omega arith)) tt)

variable_there : (m : ObjectModel) (env : Environment) → IsEnvironmentOf m env → (test : Variable → Bool) →
    IfSome (last_that test env.variables) (λ v. IsTypedAmong m env.size (variable v))
variable_there m env h test =
    last_there (λ v. IsTypedAmong m env.size (variable v)) test env.variables
    (λ k d i. record { expr = local_among m env.size (get_or env.variables k d).number (h.numbers k d i); of_type = h.types k d i })

at_name : (c : Code) (name : Name) (given : Given) → AtPlaces name given (refusal_at c name.place)
at_name c name (Values args is_plain) = (0, omega arith, refl)
at_name c name (Types args is_plain) = (0, omega arith, refl)

implicit_found : (m : ObjectModel) (n : ℕ) → IsInRange m → (is_post : Bool) (name : Name) (is_before : Bool) (given : Given) → IsGivenAmong m n given →
    (o : Option Variable) → IfSome o (λ v. IsTypedAmong m n (variable v)) → Gives m n (AtPlaces name given) (call_of_implicit m is_post name is_before given o)
implicit_found m n range is_post name is_before given k None s = at_name (code_of N 1) name given
implicit_found m n range is_post name is_before given k (Some v) s = call_gives m n range is_post name is_before (variable v) given s k

pub implicit_gives : (m : ObjectModel) (env : Environment) → IsInRange m → IsEnvironmentOf m env → (is_post : Bool) (name : Name) (is_before : Bool) (given : Given) →
    IsGivenAmong m env.size given → Gives m env.size (AtPlaces name given) (implicit_call m is_post env name is_before given)
implicit_gives m env range h is_post name is_before given k =
    implicit_found m env.size range is_post name is_before given k (implicit_with_call m env name.text) (variable_there m env h (answers_call m name.text))

-- names
abbrev pub AtName : Name → Refusal → Type 0
AtName name r = r.place ≡ name.place

type_found : (m : ObjectModel) (env : Environment) (name : Name) (o : Option OclType) → IfSome o (IsTypeOf m) →
    MatchResult (type_or_fault m env name o) (IsTypeOf m) (AtName name)
type_found m env name (Some t) s = s
type_found m env name None s =
    either (λ g. MatchResult g (IsTypeOf m) (AtName name)) (finds_value m env name.text) (breaks_t 8 name.place) (breaks_n 1 name.place) refl refl

pub type_gives : (m : ObjectModel) (env : Environment) (name : Name) → MatchResult (type_wanted m env name) (IsTypeOf m) (AtName name)
type_gives m env name = type_found m env name (type_named m name.text) (type_named_there m name.text)

pub declared_gives : (m : ObjectModel) (env : Environment) (written : TypeDecl) → MatchResult (declared_type m env written) (IsTypeOf m) (AtName written.name)
declared_gives m env written =
    both_told (IsTypeOf m) (IsTypeOf m) (AtName written.name) (type_wanted m env written.name) (λ t. Ok (in_collections written.kinds t))
    (type_gives m env written.name) (λ t h. collections_there m written.kinds t h)

implicit_property : (m : ObjectModel) (n : ℕ) → IsInRange m → (is_post : Bool) (name : Name) (is_before : Bool) (o : Option Variable) →
    IfSome o (λ v. IsTypedAmong m n (variable v)) → Gives m n (AtName name) (property_of_implicit m is_post name is_before o)
implicit_property m n range is_post name is_before None s = refl
implicit_property m n range is_post name is_before (Some v) s =
    property_gives m n range (AtName name) name.place (λ c. refl) is_post is_before name.text (variable v) s

value_found : (m : ObjectModel) (env : Environment) → IsInRange m → IsEnvironmentOf m env → (is_post : Bool) (name : Name) (is_before : Bool) (o : Option Variable) →
    IfSome o (λ v. IsTypedAmong m env.size (variable v)) → Gives m env.size (AtName name) (value_of_name m is_post env name is_before o)
value_found m env range h is_post name is_before None s =
    implicit_property m env.size range is_post name is_before (implicit_with_property m env name.text) (variable_there m env h (gives_property m name.text))
value_found m env range h is_post name is_before (Some v) s =
    either (Gives m env.size (AtName name)) is_before (breaks_t 9 name.place) (Ok (variable v)) refl s

pub bare_gives : (m : ObjectModel) (env : Environment) → IsInRange m → IsEnvironmentOf m env → (is_post : Bool) (name : Name) (is_before : Bool) →
    Gives m env.size (AtName name) (bare m is_post env name is_before)
bare_gives m env range h is_post name is_before =
    either (Gives m env.size (AtName name)) (is_some (type_named m name.text)) (breaks_t 8 name.place)
    (value_of_name m is_post env name is_before (variable_named env name.text)) refl
    (value_found m env range h is_post name is_before (variable_named env name.text) (variable_there m env h (has_name name.text)))

-- literals
abbrev IsLiteralThere : ObjectModel → ℕ × ℕ → Type 0
IsLiteralThere m r = (r.0 < length m.enums) × (r.1 < literal_count m r.0)

enum_typed : (m : ObjectModel) (n : ℕ) (l : ℕ × ℕ) → IsLiteralThere m l → IsTypedAmong m n (record { expr = E.Literal (V.Enum l.0 l.1); of_type = T.Enum l.0 })
enum_typed m n l h = record {
  expr = literal_among m n (V.Enum l.0 l.1) (h.0, h.1) (record { tidy = tt; levels = omega arith });
  of_type = h.0;
}

only_found : (m : ObjectModel) (n : ℕ) (name : Name) (o : Option (ℕ × ℕ)) → IfSome o (IsLiteralThere m) → Gives m n (AtName name) (literal_found name.place o)
only_found m n name None s = refl
only_found m n name (Some l) s = enum_typed m n l s

pub only_literal_gives : (m : ObjectModel) (n : ℕ) (name : Name) → Gives m n (AtName name) (only_literal_rule m name)
only_literal_gives m n name = only_found m n name (only_literal m name.text) (only_literal_there m name.text)

paired : (m : ObjectModel) (e : ℕ) (o : Option ℕ) → IfSome o (λ l. IsLiteralThere m (e, l)) → IfSome (option_map (λ l. (e, l)) o) (IsLiteralThere m)
paired m e None h = tt
paired m e (Some l) h = h

literal_of_type_there : (m : ObjectModel) (t : OclType) (name : Name) → IfSome (literal_of_type m t name) (IsLiteralThere m)
literal_of_type_there m (T.Enum e) name = paired m e (literal m e name.text) (literal_there m e name.text)
literal_of_type_there m T.Any name = tt
literal_of_type_there m T.Void name = tt
literal_of_type_there m T.Bool name = tt
literal_of_type_there m T.Int name = tt
literal_of_type_there m T.Str name = tt
literal_of_type_there m (T.Class c) name = tt
literal_of_type_there m (T.Coll' kind shape row) name = tt

-- one of two names
abbrev pub AtNames : Name → Name → Refusal → Type 0
AtNames name literal r = Contains (name.place ∷ literal.place ∷ []) r.place

plain_gives : (m : ObjectModel) (n : ℕ) (name literal : Name) (is_before is_called : Bool) (o : Option (ℕ × ℕ)) → IfSome o (IsLiteralThere m) →
    Gives m n (AtNames name literal) (plain_literal literal.place is_before is_called o)
plain_gives m n name literal is_before is_called None s = (1, omega arith, refl)
plain_gives m n name literal is_before true (Some l) s = (1, omega arith, refl)
plain_gives m n name literal true false (Some l) s = (1, omega arith, refl)
plain_gives m n name literal false false (Some l) s = enum_typed m n l s

at_first : (P : OclType → Type 0) (name literal : Name) (given : Typing OclType) → MatchResult given P (AtName name) → MatchResult given P (AtNames name literal)
at_first P name other (Ok t) h = h
at_first P name other (Err r) h = (0, omega arith, sym h)

pub qualified_gives : (m : ObjectModel) (n : ℕ) (env : Environment) (name literal : Name) (is_before is_called : Bool) →
    Gives m n (AtNames name literal) (qualified m env name literal is_before is_called)
qualified_gives m n env name literal is_before is_called =
    both_told (IsTypeOf m) (IsTypedAmong m n) (AtNames name literal) (type_wanted m env name)
    (λ t. plain_literal literal.place is_before is_called (literal_of_type m t literal)) (at_first (IsTypeOf m) name literal (type_wanted m env name) (type_gives m env name))
    (λ t h. plain_gives m n name literal is_before is_called (literal_of_type m t literal) (literal_of_type_there m t literal))
