-- What each rule gives is in range, and so is what the walk gives.
use Rattle.std.proofs.Common.{◌≡◌, ℕ, zero, suc, ◌+◌, not, Bool, true, false, cond, is_some, List, [], ◌∷◌, nat_lt, All, Option, Some, None, refl, subst, arith}
use Rattle.std.specs.Prelude.{⊤, Contains, IfOk, MatchResult, Ok, Err}
use Rattle.std.specs.List.{AllByRecursion}
use Rattle.std.specs.Option.{IfSome}
use Rattle.std.proofs.lemmas.List.Elements.{All-cons, All-from_recursion, All-map, recursion_from_All, All-contains_itself}
use Rattle.use_text.specs.declared.place.Place.{Place}
use Rattle.use_text.specs.declared.refusal.Refusal.{Refusal}
use Rattle.ocl_values.specs.Shape.{IsWellMade}
use Rattle.ocl_values.specs.declared.value.Kind.{Kind}
use Rattle.ocl_values.specs.declared.value.Kind.TheVariants.{Set}
use Rattle.class_decls.specs.declared.decls.Name.{Name}
use Rattle.class_model.specs.declared.object_model.ObjectModel.{ObjectModel}
use Rattle.class_model.specs.declared.types.OclType.{OclType}
use Rattle.class_model.specs.declared.types.OclType.TheVariants as T
use Rattle.class_model.specs.Conformance.{conforms, join}
use Rattle.class_model.specs.InRange.{IsInRange, IsTypeOf}
use Rattle.class_model.proofs.Conforming.{first_of}
use Rattle.ocl_core.specs.declared.expression.Expr.TheVariants as E
use Rattle.ocl_core.specs.declared.operators.BinaryOp.{BinaryOp}
use Rattle.ocl_core.specs.declared.operators.IterOp.{IterOp}
use Rattle.ocl_core.specs.declared.operators.IterOp.TheVariants as I
use Rattle.ocl_core.specs.declared.operators.UnaryOp.TheVariants as U
use Rattle.ocl_core.specs.Trees.{IsLiteralOf}
use Rattle.ocl_syntax.specs.declared.tree.WrittenBinary.{WrittenBinary}
use Rattle.ocl_syntax.specs.declared.tree.WrittenLiteral.{WrittenLiteral}
use Rattle.ocl_syntax.specs.declared.tree.WrittenLiteral.TheVariants as w
use Rattle.ocl_syntax.specs.declared.tree.WrittenUnary.{WrittenUnary}
use Rattle.ocl_syntax.specs.declared.tree.WrittenUnary.TheVariants.{Not, Neg}
use Rattle.ocl_syntax.specs.declared.tree.Written.{Written, out-Written}
use Rattle.ocl_syntax.specs.Places.{place}
use Rattle.ocl_syntax.specs.Values.{literal_value}
use Rattle.ocl_rules.specs.Arguments.{exprs, unless_broken}
use Rattle.ocl_rules.specs.CollectionOperations.{broken_call, collection_operation, given_by, gives_type, last_type}
use Rattle.ocl_rules.specs.declared.collection_table.CollectionOperation.{CollectionOperation}
use Rattle.ocl_rules.specs.declared.typed.Typed.{Typed}
use Rattle.ocl_rules.specs.declared.typed.TypedPart.{TypedPart}
use Rattle.ocl_rules.specs.declared.typed.TypedPart.TheVariants as P
use Rattle.ocl_rules.specs.Forms.{collection_of, first_broken_range, fits_declared, if_rule, join_of_parts, let_rule, level_rule, levels, max_levels, part_type}
use Rattle.ocl_rules.specs.Iterators.{iterate_refusal, iterate_rule, iterator_refusal, iterator_rule, iterator_type, unless_refused}
use Rattle.ocl_rules.specs.Operators.{binary_of, operation_of, unary_rule}
use Rattle.ocl_rules.specs.Properties.{may_stand, property_rule, when_of}
use Rattle.ocl_rules.specs.Typings.{Typing, breaks_n, breaks_t, then_typed, typed}
use Rattle.ocl_scope.specs.Calls.{call_rule, definedness, implicit_call, is_collection}
use Rattle.ocl_scope.specs.Collected.{collected, hidden_element}
use Rattle.ocl_scope.specs.Environments.{with_values}
use Rattle.ocl_scope.specs.Literals.{only_literal_rule, qualified}
use Rattle.ocl_scope.specs.Names.{bare, declared_type, finds_value, type_named}
use Rattle.ocl_scope.specs.Ranges.{IsEnvironmentOf, IsExprAmong, IsGivenAmong, IsTypeArgumentOf, IsTypedAmong}
use Rattle.ocl_scope.specs.declared.environment.Environment.{Environment}
use Rattle.ocl_scope.specs.declared.given.Given.{Given}
use Rattle.ocl_scope.specs.declared.given.Given.TheVariants as G
use Rattle.ocl_scope.specs.declared.given.TypeArgument.{TypeArgument}
use Rattle.ocl_scope.specs.declared.given.TypeArgument.TheVariants as A
use Rattle.ocl_scope.proofs.Found.{coll_there, either, type_named_there}
use Rattle.ocl_scope.proofs.Kept.{values_kept, variable_kept}
use Rattle.ocl_scope.proofs.Layers.{literal_among}
use Rattle.ocl_scope.proofs.Nested.{collected_there, hidden_there}
use Rattle.ocl_scope.proofs.Told.{AtName, AtPlaces, bare_gives, call_gives, declared_gives, implicit_gives, only_literal_gives, property_gives, qualified_gives}
use Rattle.ocl_shapes.specs.Arrows.{operation_called}
use Rattle.ocl_shapes.specs.Extents.{extent, instances}
use Rattle.ocl_shapes.specs.Members.{called, property, property_of}
use Rattle.ocl_shapes.specs.Named.{named_by, type_found}
use Rattle.ocl_shapes.specs.Shapes.{plain_name}
use Rattle.ocl_shapes.specs.Sources.{as_set, asks_elements, elements_of}
use Rattle.ocl_shapes.specs.declared.elements.Elements.{Elements}
use Rattle.ocl_shapes.proofs.Nested.{nested}
use Rattle.ocl_types.specs.Nodes.{Scene, literal, node}
use Rattle.ocl_types.specs.Walk.{leveled, max_nesting, type_expr, type_in}
use Rattle.ocl_syntax.specs.Within.{parts_of}
use Rattle.ocl_syntax.specs.Standing.{own_places}
use Rattle.ocl_laws.proofs.Comes.{Comes, binds}
use Rattle.ocl_laws.proofs.Nodes.{PartAmong, binary_among, bind_among, choice_among, collection_among, extent_among, iterate_among, iterator_among, operation_among, to_set_among, unary_among}
use Rattle.ocl_laws.proofs.Rules.{ElementsKeep, GivenKeeps, PartKeeps, Rules, TypeKeeps, argument_env}
use Rattle.ocl_laws.proofs.Standing.{layer_in}
use Rattle.ocl_laws.proofs.Types.{element_or_itself_there, gives_there, iterator_there, join_there, last_there, literal_there, operation_there}
use Rattle.ocl_laws.proofs.Walk.{node_kept}

abbrev pub Anywhere : Place → Type 0
Anywhere p = ⊤

from_match : {A : Type 0} (P : A → Type 0) (Q : Refusal → Type 0) (t : Typing A) → MatchResult t P Q → Comes Anywhere P t
from_match P Q (Ok a) h = h
from_match P Q (Err r) h = tt

module _ (m : ObjectModel) (range : IsInRange m) (is_post : Bool) where
  abbrev Keeps : Environment → Typed → Type 0
  Keeps env x = IsTypedAmong m env.size x

  abbrev Kept : Environment → Typing Typed → Type 0
  Kept env t = Comes Anywhere (Keeps env) t

  abbrev InPart : Environment → TypedPart → Type 0
  InPart env p = PartKeeps Anywhere (IsTypeOf m) Keeps env p

  abbrev InGiven : Environment → Given → Type 0
  InGiven env g = GivenKeeps Anywhere (IsTypeOf m) Keeps env g

  abbrev InElements : Environment → Elements → Type 0
  InElements env es = ElementsKeep Anywhere (IsTypeOf m) Keeps env es

  -- ---- environments, types and literals

  more : (env : Environment) (x : Typed) (name : Name) → IsEnvironmentOf m env → IsEnvironmentOf m (argument_env env x name)
  more env x name h =
      either (IsEnvironmentOf m) (asks_elements x.of_type name.text) (with_values env (levels x.of_type)) env (values_kept m env (levels x.of_type) h) h

  asked : (env : Environment) (name : Name) (o : Option OclType) → IfSome o (IsTypeOf m) →
      Comes Anywhere (TypeKeeps Anywhere (IsTypeOf m) Keeps) (type_found m env name o)
  asked env name (Some t) h = h
  asked env name None h =
      either (Comes Anywhere (TypeKeeps Anywhere (IsTypeOf m) Keeps)) (finds_value m env name.text) (Ok (A.NoType name.place)) (breaks_n 1 name.place) tt tt

  source_kept : (env : Environment) (x : Typed) → Keeps env x → Keeps env (as_set x)
  source_kept env x h =
      either (Keeps env) (is_collection x.of_type) x (record { expr = E.ToSet x.expr; of_type = x.of_type }) h
      (record { expr = to_set_among m env.size x.expr h.expr; of_type = h.of_type })

  elements_kept : (env : Environment) (x : Typed) → Keeps env x → InElements env (elements_of x)
  elements_kept env x h = (element_or_itself_there m x.of_type h.of_type, source_kept env x h)

  literal_of : (l : WrittenLiteral) → IsLiteralOf m (literal_value l)
  literal_of w.Null = tt
  literal_of w.Invalid = tt
  literal_of (w.Bool b) = tt
  literal_of (w.Int n) = tt
  literal_of (w.Str s) = tt

  well_made : (l : WrittenLiteral) → IsWellMade (literal_value l)
  well_made w.Null = record { tidy = tt; levels = omega arith }
  well_made w.Invalid = record { tidy = tt; levels = omega arith }
  well_made (w.Bool b) = record { tidy = tt; levels = omega arith }
  well_made (w.Int n) = record { tidy = tt; levels = omega arith }
  well_made (w.Str s) = record { tidy = tt; levels = omega arith }

  literal_kept : (env : Environment) (l : WrittenLiteral) → Kept env (literal l)
  literal_kept env l = record {
    expr = literal_among m env.size (literal_value l) (literal_of l) (well_made l);
    of_type = literal_there m (literal_value l);
  }

  -- ---- operators, `if`, `let`, collection literals

  unary_kept : (env : Environment) (place : Place) (op : WrittenUnary) (x : Typed) → Keeps env x → Kept env (unary_rule m place op x)
  unary_kept env place Not x h =
      either (Kept env) (conforms m x.of_type T.Bool) (typed (E.Unary U.Not x.expr) T.Bool) (breaks_t 1 place)
      (record { expr = unary_among m env.size U.Not x.expr h.expr; of_type = tt }) tt
  unary_kept env place Neg x h =
      either (Kept env) (conforms m x.of_type T.Int) (typed (E.Unary U.Neg x.expr) T.Int) (breaks_t 1 place)
      (record { expr = unary_among m env.size U.Neg x.expr h.expr; of_type = tt }) tt

  binary_kept : (env : Environment) (op : WrittenBinary) (place : Place) (o : Option BinaryOp) (x y : Typed) → Keeps env x → Keeps env y →
      Kept env (binary_of op place o x y)
  binary_kept env op place None x y h k = tt
  binary_kept env op place (Some made) x y h k = record {
    expr = binary_among m env.size made x.expr y.expr h.expr k.expr;
    of_type = operation_there m op made x.of_type y.of_type h.of_type k.of_type;
  }

  choice_kept : (env : Environment) (place : Place) (x y z : Typed) → Keeps env x → Keeps env y → Keeps env z → Kept env (if_rule m place x y z)
  choice_kept env place x y z h k l =
      either (Kept env) (conforms m x.of_type T.Bool) (typed (E.If x.expr y.expr z.expr) (join m y.of_type z.of_type)) (breaks_t 4 place)
      (record {
        expr = choice_among m env.size x.expr y.expr z.expr h.expr k.expr l.expr;
        of_type = join_there m range.acyclic y.of_type z.of_type k.of_type l.of_type;
      }) tt

  bind_kept : (env : Environment) (place : Place) (declared : Option OclType) (x y : Typed) → Keeps env x → IsTypedAmong m (env.size + 1) y →
      Kept env (let_rule m place declared x y)
  bind_kept env place declared x y h k =
      either (Kept env) (fits_declared m x.of_type declared) (typed (E.Let x.expr y.expr) y.of_type) (breaks_t 5 place)
      (record { expr = bind_among m env.size x.expr y.expr h.expr k.expr; of_type = k.of_type }) tt

  part_among : (env : Environment) (p : TypedPart) → InPart env p → PartAmong m env.size p
  part_among env (P.One x) h = h.expr
  part_among env (P.Range place x y) h = (h.1.expr, h.2.expr)

  part_there : (env : Environment) (p : TypedPart) → InPart env p → IsTypeOf m (part_type p)
  part_there env (P.One x) h = h.of_type
  part_there env (P.Range place x y) h = tt

  parts_among : (env : Environment) (ps : List TypedPart) → AllByRecursion (InPart env) ps → AllByRecursion (PartAmong m env.size) ps
  parts_among env [] h = tt
  parts_among env (p ∷ ps) h = (part_among env p h.0, parts_among env ps h.1)

  joined_there : (env : Environment) (t : OclType) (ps : List TypedPart) → IsTypeOf m t → AllByRecursion (InPart env) ps → IsTypeOf m (join_of_parts m t ps)
  joined_there env t [] h k = h
  joined_there env t (p ∷ ps) h k =
      joined_there env (join m t (part_type p)) ps (join_there m range.acyclic t (part_type p) h (part_there env p k.0)) k.1

  collection_kept : (env : Environment) (kind : Kind) (ps : List TypedPart) (o : Option Place) → AllByRecursion (InPart env) ps →
      Kept env (collection_of m kind ps o)
  collection_kept env kind ps (Some place) h = tt
  collection_kept env kind ps None h = record {
    expr = collection_among m env.size kind ps (parts_among env ps h);
    of_type = coll_there m kind (join_of_parts m T.Void ps) (joined_there env T.Void ps tt h);
  }

  -- ---- names and calls

  type_argument : (a : TypeArgument) → TypeKeeps Anywhere (IsTypeOf m) Keeps a → IsTypeArgumentOf m a
  type_argument (A.OfType t) h = h
  type_argument (A.NoType at) h = tt

  type_arguments : (args : List TypeArgument) → AllByRecursion (TypeKeeps Anywhere (IsTypeOf m) Keeps) args → AllByRecursion (IsTypeArgumentOf m) args
  type_arguments [] h = tt
  type_arguments (a ∷ args) h = (type_argument a h.0, type_arguments args h.1)

  given_among : (env : Environment) (given : Given) → InGiven env given → IsGivenAmong m env.size given
  given_among env (G.Values xs plain) h = All-from_recursion (IsTypedAmong m env.size) xs h
  given_among env (G.Types ts plain) h = All-from_recursion (IsTypeArgumentOf m) ts (type_arguments ts h)

  named_kept : (env : Environment) (name : Name) (is_before : Bool) (literal : Option Name) (given : Option Given) → IsEnvironmentOf m env →
      IfSome given (InGiven env) → Kept env (named_by m is_post env name is_before literal given)
  named_kept env name is_before (Some l) given f h =
      from_match (Keeps env) _ (qualified m env name l is_before (is_some given)) (qualified_gives m env.size env name l is_before (is_some given))
  named_kept env name is_before None None f h =
      from_match (Keeps env) (AtName name) (bare m is_post env name is_before) (bare_gives m env range f is_post name is_before)
  named_kept env name is_before None (Some given) f h =
      either (Kept env) (is_some (type_named m name.text)) (breaks_t 8 name.place) (implicit_call m is_post env name is_before given) tt
      (from_match (Keeps env) (AtPlaces name given) (implicit_call m is_post env name is_before given)
      (implicit_gives m env range f is_post name is_before given (given_among env given h)))

  instances_kept : (env : Environment) (class : Name) (is_before : Bool) (t : OclType) → IsTypeOf m t → Kept env (instances class is_before t)
  instances_kept env class is_before (T.Class c) h =
      record { expr = extent_among m env.size c (when_of is_before) h; of_type = coll_there m Set (T.Class c) h }
  instances_kept env class is_before T.Any h = tt
  instances_kept env class is_before T.Void h = tt
  instances_kept env class is_before T.Bool h = tt
  instances_kept env class is_before T.Int h = tt
  instances_kept env class is_before T.Str h = tt
  instances_kept env class is_before (T.Enum e) h = tt
  instances_kept env class is_before (T.Coll' kind shape row) h = tt

  extent_kept : (env : Environment) (class name : Name) (is_before takes_none : Bool) (o : Option OclType) → IfSome o (IsTypeOf m) →
      Kept env (extent m is_post env class name is_before takes_none o)
  extent_kept env class name is_before takes_none None h =
      either (Kept env) (finds_value m env class.text) (cond takes_none (breaks_t 8 class.place) (breaks_t 2 name.place)) (breaks_n 1 class.place)
      (either (Kept env) takes_none (breaks_t 8 class.place) (breaks_t 2 name.place) tt tt) tt
  extent_kept env class name is_before takes_none (Some t) h =
      either (Kept env) takes_none (cond (may_stand is_post is_before) (instances class is_before t) (breaks_t 9 name.place)) (breaks_t 2 name.place)
      (either (Kept env) (may_stand is_post is_before) (instances class is_before t) (breaks_t 9 name.place) (instances_kept env class is_before t h) tt) tt

  -- what is read of the elements of a collection is collected
  collected_kept : (env : Environment) (x : Typed) (read : Typing Typed) → Keeps env x → Comes Anywhere (IsTypedAmong m (env.size + levels x.of_type)) read →
      Kept env (then_typed read (λ r. Ok (collected x.of_type x.expr env.size r)))
  collected_kept env x read h k =
      binds Anywhere (IsTypedAmong m (env.size + levels x.of_type)) (Keeps env) read (λ r. Ok (collected x.of_type x.expr env.size r)) k
      (λ r l. collected_there m x.of_type x.expr env.size r h.expr l)

  property_at : (n : ℕ) (name : Name) (is_before : Bool) (x : Typed) → IsTypedAmong m n x →
      Comes Anywhere (IsTypedAmong m n) (property_rule m name.place is_post is_before name.text x)
  property_at n name is_before x h =
      from_match (IsTypedAmong m n) (AtName name) (property_rule m name.place is_post is_before name.text x)
      (property_gives m n range (AtName name) name.place (λ d. refl) is_post is_before name.text x h)

  property_in : (env : Environment) (name : Name) (is_before : Bool) (x : Typed) (b : Bool) → is_collection x.of_type ≡ b → Keeps env x →
      Kept env (property_of m is_post env name is_before x b)
  property_in env name is_before x true e h =
      collected_kept env x (property_rule m name.place is_post is_before name.text (hidden_element x.of_type env.size)) h
      (property_at (env.size + levels x.of_type) name is_before (hidden_element x.of_type env.size)
      (hidden_there m x.of_type env.size h.of_type (nested x.of_type e)))
  property_in env name is_before x false e h = property_at env.size name is_before x h

  property_kept : (env : Environment) (name : Name) (is_before : Bool) (x : Typed) → Keeps env x → Kept env (property m is_post env name is_before x)
  unfolding property
  property_kept env name is_before x h = property_in env name is_before x (is_collection x.of_type) refl h

  call_at : (n : ℕ) (name : Name) (is_before : Bool) (x : Typed) (given : Given) → IsTypedAmong m n x → IsGivenAmong m n given →
      Comes Anywhere (IsTypedAmong m n) (call_rule m is_post name is_before x given)
  call_at n name is_before x given h k =
      from_match (IsTypedAmong m n) (AtPlaces name given) (call_rule m is_post name is_before x given) (call_gives m n range is_post name is_before x given h k)

  call_in : (env : Environment) (name : Name) (is_before : Bool) (x : Typed) (b : Bool) (given : Given) → asks_elements x.of_type name.text ≡ b → Keeps env x →
      InGiven (cond b (with_values env (levels x.of_type)) env) given → Kept env (called m is_post env name is_before x b given)
  call_in env name is_before x true given e h k =
      collected_kept env x (call_rule m is_post name is_before (hidden_element x.of_type env.size) given) h
      (call_at (env.size + levels x.of_type) name is_before (hidden_element x.of_type env.size) given
      (hidden_there m x.of_type env.size h.of_type (nested x.of_type (first_of (is_collection x.of_type) (not (is_some (definedness name.text))) e)))
      (given_among (with_values env (levels x.of_type)) given k))
  call_in env name is_before x false given e h k = call_at env.size name is_before x given h (given_among env given k)

  -- ---- what stands behind an arrow

  refused : (env : Environment) (o : Option Refusal) (t : Typing Typed) → Kept env t → Kept env (unless_refused o t)
  refused env None t h = h
  refused env (Some r) t h = tt

  iterator_kept : (env inner : Environment) (place : Place) (op : IterOp) (kind : Kind) (element : OclType) (count : ℕ)
      (variables : List (Option OclType)) (body_place : Place) (source body : Typed) → inner.size ≡ env.size + count → IsTypeOf m element →
      Keeps env source → Keeps inner body → Kept env (iterator_rule m place op kind element count variables body_place source body)
  iterator_kept env inner place op kind element count variables body_place source body same t h k =
      refused env (iterator_refusal m place op element variables body_place body.of_type)
      (typed (E.Iter op source.expr count None body.expr) (iterator_type op kind element body.of_type))
      (record {
        expr = iterator_among m env.size op source.expr count body.expr h.expr (subst (λ n. IsExprAmong m n body.expr) same k.expr);
        of_type = iterator_there m op kind element body.of_type t k.of_type;
      })

  two_more : (n k : ℕ) → n ≡ k + 2 → n ≡ k + 1 + 1
  two_more n k h = omega (arith, h)

  iterate_kept : (env inner : Environment) (place : Place) (element : OclType) (variable : Option OclType) (t : OclType) (start_place body_place : Place)
      (source start body : Typed) → inner.size ≡ env.size + 2 → IsTypeOf m t → Keeps env source → Keeps env start → Keeps inner body →
      Kept env (iterate_rule m place element variable t start_place body_place source start body)
  iterate_kept env inner place element variable t start_place body_place source start body same of_type h s k =
      refused env (iterate_refusal m place element variable t start_place body_place start.of_type body.of_type)
      (typed (E.Iter I.Iterate source.expr 1 (Some start.expr) body.expr) t)
      (record {
        expr = iterate_among m env.size I.Iterate source.expr start.expr body.expr h.expr s.expr
            (subst (λ n. IsExprAmong m n body.expr) (two_more inner.size env.size same) k.expr);
        of_type = of_type;
      })

  unbroken : (env : Environment) (place : Place) (o : Option ℕ) (t : Typing Typed) → Kept env t → Kept env (unless_broken place o t)
  unbroken env place None t h = h
  unbroken env place (Some number) t h = tt

  given_kept : (env : Environment) (place : Place) (row : CollectionOperation) (source : Typed) (args : List Typed) (o : Option OclType) →
      Keeps env source → All (Keeps env) args → IfSome o (IsTypeOf m) → Kept env (given_by place row.op source args o)
  given_kept env place row source args None h k l = tt
  given_kept env place row source args (Some t) h k l = record {
    expr = operation_among m env.size row.op (source.expr ∷ exprs args)
        (All-cons (IsExprAmong m env.size) source.expr (exprs args) h.expr (All-map (IsExprAmong m env.size) (λ a. a.expr) args (λ i d below. (k i d below).expr)));
    of_type = l;
  }

  operation_kept : (env : Environment) (name : Name) (es : Elements) (xs : List Typed) (plain : Bool) (o : Option CollectionOperation) →
      InElements env es → All (Keeps env) xs → Kept env (operation_called m name es xs plain o)
  operation_kept env name es xs plain None h k = tt
  operation_kept env name es xs plain (Some row) h k =
      either (Kept env) plain _ (breaks_t 2 name.place)
      (unbroken env name.place (broken_call m row es.kind es.element xs)
      (given_by name.place row.op es.source xs (gives_type m row.gives es.kind es.element (last_type xs)))
      (given_kept env name.place row es.source xs (gives_type m row.gives es.kind es.element (last_type xs)) h.1 k
      (gives_there m range.acyclic row.gives es.kind es.element (last_type xs) h.0 (last_there m xs (λ i d below. (k i d below).of_type))))) tt

  level_kept : (env : Environment) (place : Place) (x : Typed) → Keeps env x → Kept env (level_rule place x)
  level_kept env place x h =
      either (Kept env) (nat_lt max_levels (levels x.of_type)) (breaks_t 16 place) (typed x.expr x.of_type) tt
      (record { expr = h.expr; of_type = h.of_type })

  pub rules : Rules m is_post Anywhere (IsEnvironmentOf m) (IsTypeOf m) Keeps
  rules = record {
    types = λ env x h. h.of_type;
    names = λ env name t h k. variable_kept m env (Some name.text) t false h k;
    implicit = λ env t h k. variable_kept m env None t true h k;
    more = λ env x name h k. more env x name h;
    declares = λ env d p. from_match (IsTypeOf m) (AtName d.name) (declared_type m env d) (declared_gives m env d);
    asks = λ env name p. asked env name (type_named m name.text) (type_named_there m name.text);
    elements = elements_kept;
    literal = literal_kept;
    only_literal = λ env name p. from_match (Keeps env) (AtName name) (only_literal_rule m name) (only_literal_gives m env.size name);
    unary = λ env place op x p h. unary_kept env place op x h;
    binary = λ env place op x y p h k. binary_kept env op place (operation_of m op x.of_type y.of_type) x y h k;
    choice = λ env place x y z p h k l. choice_kept env place x y z h k l;
    bind = λ env name place declared x y p h k. bind_kept env place declared x y h k;
    collection = λ env kind xs h. collection_kept env kind xs (first_broken_range m xs) h;
    named = λ env name is_before literal given f p q h. named_kept env name is_before literal given f h;
    instances = λ env class name is_before takes_none p q.
        extent_kept env class name is_before takes_none (type_named m class.text) (type_named_there m class.text);
    property = λ env name is_before x p h. property_kept env name is_before x h;
    call = λ env name is_before x given p h k. call_in env name is_before x (asks_elements x.of_type name.text) given refl h k;
    iterator = λ env inner place op kind element count variables body_place source body e p q t h k.
        iterator_kept env inner place op kind element count variables body_place source body e t h k;
    iterate = λ env inner place element variable t start_place body_place source start body e p q r i h k l.
        iterate_kept env inner place element variable t start_place body_place source start body e i h k l;
    operation = λ env name es xs plain p h k. operation_kept env name es xs plain (collection_operation name.text) h (All-from_recursion (Keeps env) xs k);
    leveled = λ env place x p h. level_kept env place x h;
  }

-- ---- the walk

pub anywhere : {X : Type 0} (o : Option X) → IfSome o (λ x. ⊤)
anywhere None = tt
anywhere (Some x) = tt

pub every_where : {X : Type 0} (xs : List X) → AllByRecursion (λ x. ⊤) xs
every_where [] = tt
every_where (x ∷ xs) = (tt, every_where xs)

module _ (s : Scene) (range : IsInRange s.model) (e : Written) where
  abbrev Part : Written → Type 0
  Part part = Contains (parts_of (out-Written e)) part

  abbrev IsKept : Environment → Typing Typed → Type 0
  IsKept env t = Comes Anywhere (IsTypedAmong s.model env.size) t

  abbrev Types : (Environment → Written → Typing Typed) → Type 0
  Types type_of = (env : Environment) → IsEnvironmentOf s.model env → (part : Written) → IsKept env (type_of env part)

  node_ranges : (type_of : Environment → Written → Typing Typed) → Types type_of → (env : Environment) → IsEnvironmentOf s.model env →
      IsKept env (node s type_of env (out-Written e))
  node_ranges type_of h env f =
      node_kept s Anywhere Part (IsEnvironmentOf s.model) (IsTypeOf s.model) (λ env x. IsTypedAmong s.model env.size x)
      (rules s.model range s.is_post) (λ part k. tt) (λ part k. anywhere (plain_name part)) type_of
      (λ env f part k. h env f part) env f (out-Written e)
      (layer_in Anywhere Part (out-Written e) (every_where (own_places (out-Written e)))
      (recursion_from_All Part (parts_of (out-Written e)) (All-contains_itself (parts_of (out-Written e)))))

  leveled_ranges : (type_of : Environment → Written → Typing Typed) → Types type_of → (env : Environment) → IsEnvironmentOf s.model env →
      IsKept env (leveled s type_of env e)
  unfolding leveled
  leveled_ranges type_of h env f =
      binds Anywhere (IsTypedAmong s.model env.size) (IsTypedAmong s.model env.size) (node s type_of env (out-Written e)) (λ x. level_rule (place e) x)
      (node_ranges type_of h env f) (λ x k. level_kept s.model range s.is_post env (place e) x k)

ranges : (s : Scene) → IsInRange s.model → (n : ℕ) (env : Environment) → IsEnvironmentOf s.model env → (e : Written) →
    Comes Anywhere (IsTypedAmong s.model env.size) (type_in s n env e)
unfolding type_in
ranges s range zero env f e = tt
ranges s range (suc n) env f e = leveled_ranges s range e (type_in s n) (λ env f part. ranges s range n env f part) env f

pub if_typed : {A : Type 0} (P : A → Type 0) (t : Typing A) → Comes Anywhere P t → IfOk t P
if_typed P (Ok a) h = h
if_typed P (Err r) h = tt

pub typed_ranges : (m : ObjectModel) → IsInRange m → (is_post : Bool) (env : Environment) → IsEnvironmentOf m env → (e : Written) →
    IfOk (type_expr m is_post env e) (IsTypedAmong m env.size)
typed_ranges m range is_post env f e =
    if_typed (IsTypedAmong m env.size) (type_expr m is_post env e) (ranges (record { model = m; is_post = is_post }) range max_nesting env f e)
