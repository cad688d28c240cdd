-- What is typed outside a postcondition reads the present state alone.
use Rattle.std.proofs.Common.{◌≡◌, ℕ, zero, suc, ◌+◌, Bool, true, false, cond, is_some, List, [], ◌∷◌, nat_lt, All, map, Option, Some, None, sym, subst, rules}
use Rattle.std.specs.Prelude.{⊤, Contains, IfOk, Ok, Err}
use Rattle.std.specs.List.{AllByRecursion}
use Rattle.std.specs.Option.{IfSome}
use Rattle.std.proofs.lemmas.List.Elements.{All-cons, All-from_recursion, All-map, recursion_from_All, All-contains_itself}
use Rattle.use_text.specs.declared.place.Place.{Place}
use Rattle.use_text.specs.declared.refusal.Refusal.{Refusal}
use Rattle.ocl_values.specs.declared.value.Kind.{Kind}
use Rattle.ocl_values.specs.declared.value.Value.{Value}
use Rattle.ocl_values.specs.declared.value.Value.TheVariants as V
use Rattle.class_decls.specs.declared.decls.Name.{Name}
use Rattle.class_model.specs.Conformance.{conforms, join}
use Rattle.class_model.specs.declared.object_model.ObjectModel.{ObjectModel}
use Rattle.class_model.specs.declared.types.OclType.{OclType, more_of-OclType}
use Rattle.class_model.specs.declared.types.OclType.TheVariants as T
use Rattle.class_model.specs.Parts.{op_body_kind, op_result}
use Rattle.ocl_collections.specs.declared.op.CollOp.{CollOp}
use Rattle.ocl_core.specs.declared.expression.Expr.{Expr, out-Expr, the_lemmas}
use Rattle.ocl_core.specs.declared.expression.Expr.TheOpen.{Expr-F}
use Rattle.ocl_core.specs.declared.expression.Expr.TheVariants as E
use Rattle.ocl_core.specs.declared.expression.Part.{out-Part}
use Rattle.ocl_core.specs.declared.operators.BinaryOp.{BinaryOp}
use Rattle.ocl_core.specs.declared.operators.IterOp.{IterOp}
use Rattle.ocl_core.specs.declared.operators.IterOp.TheVariants as I
use Rattle.ocl_core.specs.declared.operators.PlainOp.{PlainOp}
use Rattle.ocl_core.specs.declared.operators.TypeTest.{TypeTest}
use Rattle.ocl_core.specs.declared.operators.UnaryOp.{UnaryOp}
use Rattle.ocl_core.specs.declared.operators.UnaryOp.TheVariants as U
use Rattle.ocl_core.specs.declared.operators.When.TheVariants.{Now}
use Rattle.ocl_core.specs.Trees.{Layer, LayerHolds, NodeReadsNow, NodesHoldTo, PartHolds, ReadsNow, StartHolds}
use Rattle.ocl_syntax.specs.declared.tree.WrittenBinary.{WrittenBinary}
use Rattle.ocl_syntax.specs.declared.tree.WrittenUnary.{WrittenUnary}
use Rattle.ocl_syntax.specs.declared.tree.WrittenUnary.TheVariants.{Not, Neg}
use Rattle.ocl_syntax.specs.declared.tree.Written.{Written, out-Written}
use Rattle.ocl_syntax.specs.Places.{place}
use Rattle.ocl_syntax.specs.Values.{literal_value}
use Rattle.ocl_syntax.specs.Within.{parts_of}
use Rattle.ocl_syntax.specs.Standing.{own_places}
use Rattle.ocl_rules.specs.Arguments.{exprs, unless_broken}
use Rattle.ocl_rules.specs.CollectionOperations.{broken_call, collection_operation, given_by, gives_type, last_type}
use Rattle.ocl_rules.specs.declared.collection_table.CollectionOperation.{CollectionOperation}
use Rattle.ocl_rules.specs.declared.properties.Feature.{Feature}
use Rattle.ocl_rules.specs.declared.properties.Feature.TheVariants as F
use Rattle.ocl_rules.specs.declared.typed.Typed.{Typed}
use Rattle.ocl_rules.specs.declared.typed.TypedPart.{TypedPart}
use Rattle.ocl_rules.specs.declared.typed.TypedPart.TheVariants as P
use Rattle.ocl_rules.specs.declared.value_table.ValueOperation.{ValueOperation}
use Rattle.ocl_rules.specs.Forms.{collection_of, first_broken_range, fits_declared, if_rule, let_rule, level_rule, levels, max_levels, part_of}
use Rattle.ocl_rules.specs.Iterators.{iterate_refusal, iterator_refusal, iterator_type, unless_refused}
use Rattle.ocl_rules.specs.Operators.{binary_of, operation_of, unary_rule}
use Rattle.ocl_rules.specs.Properties.{feature_of, feature_read, is_new_rule, may_be_asked_for, may_stand, operation_of_type, property_rule, queried, query_rule, query_type, read_at, test_type, type_test_rule}
use Rattle.ocl_rules.specs.Typings.{Typing, breaks_n, breaks_t, then_typed, typed}
use Rattle.ocl_rules.specs.ValueOperations.{result_type, value_operation, value_rule}
use Rattle.ocl_scope.specs.Calls.{call_beside, call_of_implicit, call_of_test, call_of_values, call_rule, definedness, definedness_rule, implicit_call, implicit_with_call, is_collection, is_new_name, operation_rule, test_with_one, type_test}
use Rattle.class_model.specs.Features.{only, only_literal}
use Rattle.ocl_scope.specs.Collected.{collected, hidden_element}
use Rattle.ocl_scope.specs.Literals.{literal_found, literal_of_type, plain_literal, qualified}
use Rattle.ocl_scope.specs.Names.{bare, declared_type, finds_value, implicit_with_property, property_of_implicit, type_named, type_wanted, value_of_name, variable}
use Rattle.ocl_scope.specs.Environments.{variable_named}
use Rattle.ocl_scope.specs.declared.environment.Environment.{Environment}
use Rattle.ocl_scope.specs.declared.environment.Variable.{Variable}
use Rattle.ocl_scope.specs.declared.given.Given.{Given}
use Rattle.ocl_scope.specs.declared.given.Given.TheVariants as G
use Rattle.ocl_scope.specs.declared.given.TypeArgument.{TypeArgument}
use Rattle.ocl_scope.specs.declared.given.TypeArgument.TheVariants as A
use Rattle.ocl_scope.proofs.Found.{either}
use Rattle.ocl_scope.proofs.Layers.{layer_follows}
use Rattle.ocl_shapes.specs.Arrows.{operation_called}
use Rattle.ocl_shapes.specs.Extents.{extent, instances}
use Rattle.ocl_shapes.specs.Members.{called, property, property_of}
use Rattle.ocl_shapes.specs.Named.{named_by, type_found}
use Rattle.ocl_shapes.specs.Shapes.{plain_name}
use Rattle.ocl_shapes.specs.Sources.{as_set, asks_elements}
use Rattle.ocl_shapes.specs.declared.elements.Elements.{Elements}
use Rattle.ocl_types.specs.Nodes.{Scene, node}
use Rattle.ocl_types.specs.Walk.{leveled, max_nesting, type_expr, type_in}
use Rattle.ocl_laws.proofs.Comes.{Comes, binds}
use Rattle.ocl_laws.proofs.InRange.{Anywhere, anywhere, every_where, if_typed}
use Rattle.ocl_laws.proofs.Rules.{GivenKeeps, PartKeeps, Rules, TypeKeeps, argument_env}
use Rattle.ocl_laws.proofs.Standing.{layer_in}
use Rattle.ocl_laws.proofs.Walk.{node_kept}

-- ---- each kind of node reads the present state where its parts do

nodes_to : (e : Expr) (l : Layer) → out-Expr e ≡ l → NodeReadsNow l → LayerHolds (λ v. ⊤) ReadsNow l → (n : ℕ) → NodesHoldTo NodeReadsNow n e
nodes_to e l is node parts zero = tt
nodes_to e l is node parts (suc n) = (
  subst NodeReadsNow (sym is) node,
  subst (LayerHolds (λ v. ⊤) (NodesHoldTo NodeReadsNow n)) (sym is) (layer_follows ReadsNow (NodesHoldTo NodeReadsNow n) (λ x h. h.nodes n) (λ v. ⊤) l parts),
)

reads : (e : Expr) (l : Layer) → out-Expr e ≡ l → NodeReadsNow l → LayerHolds (λ v. ⊤) ReadsNow l → ReadsNow e
reads e l is node parts = record { nodes = nodes_to e l is node parts }

pub literal_now : (v : Value) → ReadsNow (E.Literal v)
literal_now v = reads (E.Literal v) (Expr-F.Literal v) (search (rules, the_lemmas)) tt tt

local_now : (i : ℕ) → ReadsNow (E.Local i)
local_now i = reads (E.Local i) (Expr-F.Local i) (search (rules, the_lemmas)) tt tt

unary_now : (op : UnaryOp) (e : Expr) → ReadsNow e → ReadsNow (E.Unary op e)
unary_now op e k = reads (E.Unary op e) (Expr-F.Unary op e) (search (rules, the_lemmas)) tt k

binary_now : (op : BinaryOp) (a b : Expr) → ReadsNow a → ReadsNow b → ReadsNow (E.Binary op a b)
binary_now op a b h k = reads (E.Binary op a b) (Expr-F.Binary op a b) (search (rules, the_lemmas)) tt (h, k)

choice_now : (c a b : Expr) → ReadsNow c → ReadsNow a → ReadsNow b → ReadsNow (E.If c a b)
choice_now c a b h k l = reads (E.If c a b) (Expr-F.If c a b) (search (rules, the_lemmas)) tt (h, k, l)

bind_now : (value body : Expr) → ReadsNow value → ReadsNow body → ReadsNow (E.Let value body)
bind_now value body h k = reads (E.Let value body) (Expr-F.Let value body) (search (rules, the_lemmas)) tt (h, k)

extent_now : (class : ℕ) → ReadsNow (E.Extent class Now)
extent_now class = reads (E.Extent class Now) (Expr-F.Extent class Now) (search (rules, the_lemmas)) tt tt

to_set_now : (e : Expr) → ReadsNow e → ReadsNow (E.ToSet e)
to_set_now e k = reads (E.ToSet e) (Expr-F.ToSet e) (search (rules, the_lemmas)) tt k

feature_now : (m : ObjectModel) (e : Expr) (f : Feature) → ReadsNow e → ReadsNow (feature_read m e Now f).expr
feature_now m e (F.Attr a) k = reads (E.Attr e a Now) (Expr-F.Attr e a Now) (search (rules, the_lemmas)) tt k
feature_now m e (F.Derived a) k = reads (E.Derived e a Now) (Expr-F.Derived e a Now) (search (rules, the_lemmas)) tt k
feature_now m e (F.Role a end) k = reads (E.Nav e a end Now) (Expr-F.Nav e a end Now) (search (rules, the_lemmas)) tt k

test_now : (test : TypeTest) (e : Expr) (t : OclType) → ReadsNow e → ReadsNow (E.Test test e t Now)
test_now test e t k = reads (E.Test test e t Now) (Expr-F.Test test e t Now) (search (rules, the_lemmas)) tt k

plain_now : (op : PlainOp) (all : List Expr) → All ReadsNow all → ReadsNow (E.Plain op all)
plain_now op all k = reads (E.Plain op all) (Expr-F.Plain op all) (search (rules, the_lemmas)) tt k

operation_now : (op : CollOp) (all : List Expr) → All ReadsNow all → ReadsNow (E.Coll op all)
operation_now op all k = reads (E.Coll op all) (Expr-F.Coll op all) (search (rules, the_lemmas)) tt k

query_now : (e : Expr) (op : ℕ) (all : List Expr) → ReadsNow e → All ReadsNow all → ReadsNow (E.Query e op all)
query_now e op all k ks = reads (E.Query e op all) (Expr-F.Query e op all) (search (rules, the_lemmas)) tt (k, ks)

iterator_now : (op : IterOp) (source : Expr) (count : ℕ) (start : Option Expr) (body : Expr) → ReadsNow source → StartHolds ReadsNow start → ReadsNow body →
    ReadsNow (E.Iter op source count start body)
iterator_now op source count start body h s k =
    reads (E.Iter op source count start body) (Expr-F.Iter op source count start body) (search (rules, the_lemmas)) tt (h, s, k)

-- the parts of a collection literal
abbrev PartNow : TypedPart → Type 0
PartNow (P.One e) = ReadsNow e.expr
PartNow (P.Range place first last) = ReadsNow first.expr × ReadsNow last.expr

part_now : (p : TypedPart) → PartNow p → PartHolds ReadsNow (out-Part (part_of p))
unfolding Rattle.ocl_core.specs.declared.expression.Expr.TheViews.out-Part denote.Hole.Carrier.out
part_now (P.One e) h = h
part_now (P.Range place first last) h = (h.0, h.1)

parts_now : (ps : List TypedPart) → AllByRecursion PartNow ps → AllByRecursion (λ p. PartHolds ReadsNow (out-Part p)) (map part_of ps)
parts_now [] h = tt
parts_now (p ∷ ps) h = (part_now p h.0, parts_now ps h.1)

collection_now : (kind : Kind) (ps : List TypedPart) → AllByRecursion PartNow ps → ReadsNow (E.Make kind (map part_of ps))
collection_now kind ps h =
    reads (E.Make kind (map part_of ps)) (Expr-F.Make kind (map part_of ps)) (search (rules, the_lemmas)) tt
    (All-from_recursion (λ p. PartHolds ReadsNow (out-Part p)) (map part_of ps) (parts_now ps h))

-- ---- each rule

abbrev IsNow : Environment → Typed → Type 0
IsNow env x = ReadsNow x.expr

abbrev IsEnv : Environment → Type 0
IsEnv env = ⊤

abbrev IsType : OclType → Type 0
IsType t = ⊤

abbrev Kept : Typing Typed → Type 0
Kept t = Comes Anywhere (λ x. ReadsNow x.expr) t

exprs_now : (args : List Typed) → All (λ a. ReadsNow a.expr) args → All ReadsNow (exprs args)
exprs_now args h = All-map ReadsNow (λ a. a.expr) args h

with_source : (source : Typed) (args : List Typed) → ReadsNow source.expr → All (λ a. ReadsNow a.expr) args → All ReadsNow (source.expr ∷ exprs args)
with_source source args h k = All-cons ReadsNow source.expr (exprs args) h (exprs_now args k)

unbroken : (place : Place) (o : Option ℕ) (t : Typing Typed) → Kept t → Kept (unless_broken place o t)
unbroken place None t h = h
unbroken place (Some number) t h = tt

read_now : (m : ObjectModel) (place : Place) (is_before : Bool) (e : Expr) (o : Option Feature) → ReadsNow e → Kept (read_at m place false is_before e o)
read_now m place is_before e None h = tt
read_now m place true e (Some f) h = tt
read_now m place false e (Some f) h = feature_now m e f h

property_at : (m : ObjectModel) (place : Place) (is_before : Bool) (name : List ℕ) (x : Typed) → ReadsNow x.expr →
    Kept (property_rule m place false is_before name x)
property_at m place is_before name x h = read_now m place is_before x.expr (feature_of m x.of_type name) h

definedness_now : (place : Place) (is_before : Bool) (op : PlainOp) (source : Typed) (args : List Typed) → ReadsNow source.expr →
    Kept (definedness_rule place is_before op source args)
definedness_now place true op source [] h = tt
definedness_now place false op source [] h = plain_now op (source.expr ∷ []) (All-cons ReadsNow source.expr [] h (All-from_recursion ReadsNow [] tt))
definedness_now place is_before op source (a ∷ more) h = tt

new_now : (place : Place) (is_before : Bool) (source : Typed) (args : List Typed) → Kept (is_new_rule place false is_before source args)
new_now place is_before source [] = tt
new_now place is_before source (a ∷ more) = tt

value_now : (m : ObjectModel) (place : Place) (is_before : Bool) (row : ValueOperation) (source : Typed) (args : List Typed) → ReadsNow source.expr →
    All (λ a. ReadsNow a.expr) args → Kept (value_rule m place is_before row source args)
value_now m place is_before row source args h k =
    unbroken place _ _
    (either Kept is_before (breaks_t 9 place) (typed (E.Plain row.op (source.expr ∷ exprs args)) (result_type row.gives)) tt
    (plain_now row.op (source.expr ∷ exprs args) (with_source source args h k)))

queried_now : (place : Place) (op : ℕ) (source : Typed) (args : List Typed) (o : Option OclType) → ReadsNow source.expr →
    All (λ a. ReadsNow a.expr) args → Kept (queried place op source args o)
queried_now place op source args None h k = tt
queried_now place op source args (Some t) h k = query_now source.expr op (exprs args) h (exprs_now args k)

called_now : (m : ObjectModel) (place : Place) (is_before : Bool) (op : ℕ) (source : Typed) (args : List Typed) → ReadsNow source.expr →
    All (λ a. ReadsNow a.expr) args → Kept (query_rule m place is_before op source args)
called_now m place is_before op source args h k =
    unbroken place _ _
    (either Kept is_before (breaks_t 9 place) (queried place op source args (query_type (op_body_kind m op) (op_result m op))) tt
    (queried_now place op source args (query_type (op_body_kind m op) (op_result m op)) h k))

operation_of_now : (m : ObjectModel) (place : Place) (is_plain is_before : Bool) (source : Typed) (args : List Typed) (row : Option ValueOperation)
    (op : Option ℕ) → ReadsNow source.expr → All (λ a. ReadsNow a.expr) args → Kept (operation_rule m place is_plain is_before source args row op)
operation_of_now m place is_plain is_before source args (Some row) op h k =
    either Kept is_plain (value_rule m place is_before row source args) (breaks_t 2 place) (value_now m place is_before row source args h k) tt
operation_of_now m place is_plain is_before source args None (Some op) h k =
    either Kept is_plain (query_rule m place is_before op source args) (breaks_t 2 place) (called_now m place is_before op source args h k) tt
operation_of_now m place is_plain is_before source args None None h k = tt

beside_now : (m : ObjectModel) (name : Name) (is_before : Bool) (source : Typed) (args : List Typed) (is_plain : Bool) → ReadsNow source.expr →
    All (λ a. ReadsNow a.expr) args → Kept (call_beside m false name is_before source args is_plain)
beside_now m name is_before source args is_plain h k =
    either Kept (is_new_name name.text) _ _
    (either Kept is_plain (is_new_rule name.place false is_before source args) (breaks_t 2 name.place) (new_now name.place is_before source args) tt)
    (operation_of_now m name.place is_plain is_before source args (value_operation m source.of_type name.text) (operation_of_type m source.of_type name.text) h k)

values_now : (m : ObjectModel) (name : Name) (is_before : Bool) (source : Typed) (args : List Typed) (is_plain : Bool) (op : Option PlainOp) →
    ReadsNow source.expr → All (λ a. ReadsNow a.expr) args → Kept (call_of_values m false name is_before source args is_plain op)
values_now m name is_before source args is_plain None h k = beside_now m name is_before source args is_plain h k
values_now m name is_before source args is_plain (Some op) h k =
    either Kept is_plain (definedness_rule name.place is_before op source args) (breaks_t 2 name.place)
    (definedness_now name.place is_before op source args h) tt

tested_now : (place : Place) (is_before : Bool) (test : TypeTest) (source : Typed) (t : OclType) → ReadsNow source.expr →
    Kept (type_test_rule place is_before test source t)
tested_now place is_before test source t h =
    either Kept (may_be_asked_for t) _ (breaks_t 3 place)
    (either Kept is_before (breaks_t 9 place) (typed (E.Test test source.expr t Now) (test_type test t)) tt (test_now test source.expr t h)) tt

with_one_now : (place : Place) (is_before : Bool) (test : TypeTest) (source : Typed) (o : Option TypeArgument) → ReadsNow source.expr →
    Kept (test_with_one place is_before test source o)
with_one_now place is_before test source None h = tt
with_one_now place is_before test source (Some (A.OfType t)) h = tested_now place is_before test source t h
with_one_now place is_before test source (Some (A.NoType at)) h = tt

of_test_now : (place : Place) (is_before : Bool) (source : Typed) (args : List TypeArgument) (is_plain : Bool) (test : Option TypeTest) →
    ReadsNow source.expr → Kept (call_of_test place is_before source args is_plain test)
of_test_now place is_before source args is_plain None h = tt
of_test_now place is_before source args is_plain (Some test) h =
    either Kept is_plain (test_with_one place is_before test source (only args)) (breaks_t 2 place)
    (with_one_now place is_before test source (only args) h) tt

abbrev InGiven : Environment → Given → Type 0
InGiven env g = GivenKeeps Anywhere IsType IsNow env g

call_now : (m : ObjectModel) (env : Environment) (name : Name) (is_before : Bool) (source : Typed) (given : Given) → ReadsNow source.expr →
    InGiven env given → Kept (call_rule m false name is_before source given)
call_now m env name is_before source (G.Values args is_plain) h k =
    values_now m name is_before source args is_plain (definedness name.text) h (All-from_recursion (λ a. ReadsNow a.expr) args k)
call_now m env name is_before source (G.Types args is_plain) h k = of_test_now name.place is_before source args is_plain (type_test name.text) h

implicit_now : (m : ObjectModel) (env : Environment) (name : Name) (is_before : Bool) (given : Given) (v : Option Variable) → InGiven env given →
    Kept (call_of_implicit m false name is_before given v)
implicit_now m env name is_before given None k = tt
implicit_now m env name is_before given (Some v) k = call_now m env name is_before (variable v) given (local_now v.number) k

of_implicit_now : (m : ObjectModel) (name : Name) (is_before : Bool) (v : Option Variable) → Kept (property_of_implicit m false name is_before v)
of_implicit_now m name is_before None = tt
of_implicit_now m name is_before (Some v) = property_at m name.place is_before name.text (variable v) (local_now v.number)

value_of_name_now : (m : ObjectModel) (env : Environment) (name : Name) (is_before : Bool) (v : Option Variable) →
    Kept (value_of_name m false env name is_before v)
value_of_name_now m env name is_before None = of_implicit_now m name is_before (implicit_with_property m env name.text)
value_of_name_now m env name true (Some v) = tt
value_of_name_now m env name false (Some v) = local_now v.number

bare_now : (m : ObjectModel) (env : Environment) (name : Name) (is_before : Bool) → Kept (bare m false env name is_before)
bare_now m env name is_before =
    either Kept (is_some (type_named m name.text)) (breaks_t 8 name.place) (value_of_name m false env name is_before (variable_named env name.text)) tt
    (value_of_name_now m env name is_before (variable_named env name.text))

plain_literal_now : (place : Place) (is_before is_called : Bool) (o : Option (ℕ × ℕ)) → Kept (plain_literal place is_before is_called o)
plain_literal_now place is_before is_called None = tt
plain_literal_now place is_before is_called (Some l) =
    either Kept is_called (breaks_t 2 place) _ tt
    (either Kept is_before (breaks_t 9 place) (typed (E.Literal (V.Enum l.0 l.1)) (T.Enum l.0)) tt (literal_now (V.Enum l.0 l.1)))

any_type : {A : Type 0} (t : Typing A) → Comes Anywhere (λ x. ⊤) t
any_type (Ok a) = tt
any_type (Err r) = tt

qualified_now : (m : ObjectModel) (env : Environment) (name l : Name) (is_before is_called : Bool) → Kept (qualified m env name l is_before is_called)
qualified_now m env name l is_before is_called =
    binds Anywhere (λ t. ⊤) (λ x. ReadsNow x.expr) (type_wanted m env name) (λ t. plain_literal l.place is_before is_called (literal_of_type m t l))
    (any_type (type_wanted m env name)) (λ t k. plain_literal_now l.place is_before is_called (literal_of_type m t l))

only_literal_now : (place : Place) (o : Option (ℕ × ℕ)) → Kept (literal_found place o)
only_literal_now place None = tt
only_literal_now place (Some l) = literal_now (V.Enum l.0 l.1)

named_now : (m : ObjectModel) (env : Environment) (name : Name) (is_before : Bool) (l : Option Name) (given : Option Given) → IfSome given (InGiven env) →
    Kept (named_by m false env name is_before l given)
named_now m env name is_before (Some l) given h = qualified_now m env name l is_before (is_some given)
named_now m env name is_before None None h = bare_now m env name is_before
named_now m env name is_before None (Some given) h =
    either Kept (is_some (type_named m name.text)) (breaks_t 8 name.place) (implicit_call m false env name is_before given) tt
    (implicit_now m env name is_before given (implicit_with_call m env name.text) h)

instances_now : (class : Name) (t : OclType) → Kept (instances class false t)
instances_now class (T.Class c) = extent_now c
instances_now class T.Any = tt
instances_now class T.Void = tt
instances_now class T.Bool = tt
instances_now class T.Int = tt
instances_now class T.Str = tt
instances_now class (T.Enum e) = tt
instances_now class (T.Coll' kind shape row) = tt

instances_asked_now : (class name : Name) (is_before : Bool) (t : OclType) →
    Kept (cond (may_stand false is_before) (instances class is_before t) (breaks_t 9 name.place))
instances_asked_now class name true t = tt
instances_asked_now class name false t = instances_now class t

extents_now : (m : ObjectModel) (env : Environment) (class name : Name) (is_before takes_none : Bool) (o : Option OclType) →
    Kept (extent m false env class name is_before takes_none o)
extents_now m env class name is_before takes_none None =
    either Kept (finds_value m env class.text) (cond takes_none (breaks_t 8 class.place) (breaks_t 2 name.place)) (breaks_n 1 class.place)
    (either Kept takes_none (breaks_t 8 class.place) (breaks_t 2 name.place) tt tt) tt
extents_now m env class name is_before takes_none (Some t) =
    either Kept takes_none (cond (may_stand false is_before) (instances class is_before t) (breaks_t 9 name.place)) (breaks_t 2 name.place)
    (instances_asked_now class name is_before t) tt

-- what is read of the elements of a collection, collected
collected_now : (t : OclType) (source : Expr) (number : ℕ) (read : Typed) → ReadsNow source → ReadsNow read.expr →
    ReadsNow (collected t source number read).expr
collected_now (T.Coll' kind shape (more_of-OclType element rest)) source number read h k =
    iterator_now I.Collect source 1 None _ h tt (collected_now element (E.Local number) (number + 1) read (local_now number) k)
collected_now T.Any source number read h k = k
collected_now T.Void source number read h k = k
collected_now T.Bool source number read h k = k
collected_now T.Int source number read h k = k
collected_now T.Str source number read h k = k
collected_now (T.Enum e) source number read h k = k
collected_now (T.Class c) source number read h k = k

each_now : (env : Environment) (x : Typed) (read : Typing Typed) → ReadsNow x.expr → Kept read →
    Kept (then_typed read (λ r. Ok (collected x.of_type x.expr env.size r)))
each_now env x read h k =
    binds Anywhere (λ r. ReadsNow r.expr) (λ r. ReadsNow r.expr) read (λ r. Ok (collected x.of_type x.expr env.size r)) k
    (λ r l. collected_now x.of_type x.expr env.size r h l)

property_in : (m : ObjectModel) (env : Environment) (name : Name) (is_before : Bool) (x : Typed) (b : Bool) → ReadsNow x.expr →
    Kept (property_of m false env name is_before x b)
property_in m env name is_before x true h =
    each_now env x (property_rule m name.place false is_before name.text (hidden_element x.of_type env.size)) h
    (property_at m name.place is_before name.text (hidden_element x.of_type env.size) (local_now _))
property_in m env name is_before x false h = property_at m name.place is_before name.text x h

property_now : (m : ObjectModel) (env : Environment) (name : Name) (is_before : Bool) (x : Typed) → ReadsNow x.expr →
    Kept (property m false env name is_before x)
unfolding property
property_now m env name is_before x h = property_in m env name is_before x (is_collection x.of_type) h

call_in : (m : ObjectModel) (env : Environment) (name : Name) (is_before : Bool) (x : Typed) (b : Bool) (given : Given) → ReadsNow x.expr →
    InGiven env given → Kept (called m false env name is_before x b given)
call_in m env name is_before x true given h k =
    each_now env x (call_rule m false name is_before (hidden_element x.of_type env.size) given) h
    (call_now m env name is_before (hidden_element x.of_type env.size) given (local_now _) k)
call_in m env name is_before x false given h k = call_now m env name is_before x given h k

-- what is given does not depend on the environment
given_alike : (env other : Environment) (given : Given) → InGiven env given → InGiven other given
given_alike env other (G.Values xs plain) h = h
given_alike env other (G.Types ts plain) h = h

unary_kept : (m : ObjectModel) (place : Place) (op : WrittenUnary) (x : Typed) → ReadsNow x.expr → Kept (unary_rule m place op x)
unary_kept m place Not x h =
    either Kept (conforms m x.of_type T.Bool) (typed (E.Unary U.Not x.expr) T.Bool) (breaks_t 1 place) (unary_now U.Not x.expr h) tt
unary_kept m place Neg x h =
    either Kept (conforms m x.of_type T.Int) (typed (E.Unary U.Neg x.expr) T.Int) (breaks_t 1 place) (unary_now U.Neg x.expr h) tt

binary_kept : (op : WrittenBinary) (place : Place) (o : Option BinaryOp) (x y : Typed) → ReadsNow x.expr → ReadsNow y.expr → Kept (binary_of op place o x y)
binary_kept op place None x y h k = tt
binary_kept op place (Some made) x y h k = binary_now made x.expr y.expr h k

choice_kept : (m : ObjectModel) (place : Place) (x y z : Typed) → ReadsNow x.expr → ReadsNow y.expr → ReadsNow z.expr → Kept (if_rule m place x y z)
choice_kept m place x y z h k l =
    either Kept (conforms m x.of_type T.Bool) (typed (E.If x.expr y.expr z.expr) (join m y.of_type z.of_type)) (breaks_t 4 place)
    (choice_now x.expr y.expr z.expr h k l) tt

bind_kept : (m : ObjectModel) (place : Place) (declared : Option OclType) (x y : Typed) → ReadsNow x.expr → ReadsNow y.expr → Kept (let_rule m place declared x y)
bind_kept m place declared x y h k =
    either Kept (fits_declared m x.of_type declared) (typed (E.Let x.expr y.expr) y.of_type) (breaks_t 5 place) (bind_now x.expr y.expr h k) tt

part_of_now : (env : Environment) (p : TypedPart) → PartKeeps Anywhere IsType IsNow env p → PartNow p
part_of_now env (P.One x) h = h
part_of_now env (P.Range place x y) h = (h.1, h.2)

parts_of_now : (env : Environment) (ps : List TypedPart) → AllByRecursion (PartKeeps Anywhere IsType IsNow env) ps → AllByRecursion PartNow ps
parts_of_now env [] h = tt
parts_of_now env (p ∷ ps) h = (part_of_now env p h.0, parts_of_now env ps h.1)

collection_kept : (m : ObjectModel) (env : Environment) (kind : Kind) (ps : List TypedPart) (o : Option Place) →
    AllByRecursion (PartKeeps Anywhere IsType IsNow env) ps → Kept (collection_of m kind ps o)
collection_kept m env kind ps (Some place) h = tt
collection_kept m env kind ps None h = collection_now kind ps (parts_of_now env ps h)

source_now : (x : Typed) → ReadsNow x.expr → ReadsNow (as_set x).expr
source_now x h =
    either (λ y. ReadsNow y.expr) (is_collection x.of_type) x (record { expr = E.ToSet x.expr; of_type = x.of_type }) h (to_set_now x.expr h)

refused : (o : Option Refusal) (t : Typing Typed) → Kept t → Kept (unless_refused o t)
refused None t h = h
refused (Some r) t h = tt

given_kept : (place : Place) (row : CollectionOperation) (source : Typed) (args : List Typed) (o : Option OclType) → ReadsNow source.expr →
    All (λ a. ReadsNow a.expr) args → Kept (given_by place row.op source args o)
given_kept place row source args None h k = tt
given_kept place row source args (Some t) h k = operation_now row.op (source.expr ∷ exprs args) (with_source source args h k)

operation_kept : (m : ObjectModel) (name : Name) (es : Elements) (xs : List Typed) (plain : Bool) (o : Option CollectionOperation) →
    ReadsNow es.source.expr → All (λ a. ReadsNow a.expr) xs → Kept (operation_called m name es xs plain o)
operation_kept m name es xs plain None h k = tt
operation_kept m name es xs plain (Some row) h k =
    either Kept plain _ (breaks_t 2 name.place)
    (unbroken name.place (broken_call m row es.kind es.element xs)
    (given_by name.place row.op es.source xs (gives_type m row.gives es.kind es.element (last_type xs)))
    (given_kept name.place row es.source xs (gives_type m row.gives es.kind es.element (last_type xs)) h k)) tt

asked_now : (m : ObjectModel) (env : Environment) (name : Name) (o : Option OclType) →
    Comes Anywhere (TypeKeeps Anywhere IsType IsNow) (type_found m env name o)
asked_now m env name (Some t) = tt
asked_now m env name None =
    either (Comes Anywhere (TypeKeeps Anywhere IsType IsNow)) (finds_value m env name.text) (Ok (A.NoType name.place)) (breaks_n 1 name.place) tt tt

level_kept : (place : Place) (x : Typed) → ReadsNow x.expr → Kept (level_rule place x)
level_kept place x h = either Kept (nat_lt max_levels (levels x.of_type)) (breaks_t 16 place) (typed x.expr x.of_type) tt h

rules_now : (m : ObjectModel) → Rules m false Anywhere IsEnv IsType IsNow
rules_now m = record {
  types = λ env x h. tt;
  names = λ env name t h k. tt;
  implicit = λ env t h k. tt;
  more = λ env x name h k. tt;
  declares = λ env d p. any_type (declared_type m env d);
  asks = λ env name p. asked_now m env name (type_named m name.text);
  elements = λ env x h. (tt, source_now x h);
  literal = λ env l. literal_now (literal_value l);
  only_literal = λ env name p. only_literal_now name.place (only_literal m name.text);
  unary = λ env place op x p h. unary_kept m place op x h;
  binary = λ env place op x y p h k. binary_kept op place (operation_of m op x.of_type y.of_type) x y h k;
  choice = λ env place x y z p h k l. choice_kept m place x y z h k l;
  bind = λ env name place declared x y p h k. bind_kept m place declared x y h k;
  collection = λ env kind xs h. collection_kept m env kind xs (first_broken_range m xs) h;
  named = λ env name is_before l given f p q h. named_now m env name is_before l given h;
  instances = λ env class name is_before takes_none p q. extents_now m env class name is_before takes_none (type_named m class.text);
  property = λ env name is_before x p h. property_now m env name is_before x h;
  call = λ env name is_before x given p h k.
      call_in m env name is_before x (asks_elements x.of_type name.text) given h (given_alike (argument_env env x name) env given k);
  iterator = λ env inner place op kind element count variables body_place source body e p q t h k.
      refused (iterator_refusal m place op element variables body_place body.of_type)
      (typed (E.Iter op source.expr count None body.expr) (iterator_type op kind element body.of_type))
      (iterator_now op source.expr count None body.expr h tt k);
  iterate = λ env inner place element variable t start_place body_place source start body e p q r i h k l.
      refused (iterate_refusal m place element variable t start_place body_place start.of_type body.of_type)
      (typed (E.Iter I.Iterate source.expr 1 (Some start.expr) body.expr) t)
      (iterator_now I.Iterate source.expr 1 (Some start.expr) body.expr h k l);
  operation = λ env name es xs plain p h k.
      operation_kept m name es xs plain (collection_operation name.text) h.1 (All-from_recursion (λ a. ReadsNow a.expr) xs k);
  leveled = λ env place x p h. level_kept place x h;
}

-- ---- the walk

module _ (m : ObjectModel) (e : Written) where
  abbrev now_scene : Scene
  now_scene = record { model = m; is_post = false }

  abbrev Part : Written → Type 0
  Part part = Contains (parts_of (out-Written e)) part

  node_now : (type_of : Environment → Written → Typing Typed) → ((env : Environment) (part : Written) → Kept (type_of env part)) → (env : Environment) →
      Kept (node now_scene type_of env (out-Written e))
  node_now type_of h env =
      node_kept now_scene Anywhere Part IsEnv IsType IsNow (rules_now m) (λ part k. tt) (λ part k. anywhere (plain_name part)) type_of
      (λ env f part k. h env part) env tt (out-Written e)
      (layer_in Anywhere Part (out-Written e) (every_where (own_places (out-Written e)))
      (recursion_from_All Part (parts_of (out-Written e)) (All-contains_itself (parts_of (out-Written e)))))

  leveled_now : (type_of : Environment → Written → Typing Typed) → ((env : Environment) (part : Written) → Kept (type_of env part)) → (env : Environment) →
      Kept (leveled now_scene type_of env e)
  unfolding leveled
  leveled_now type_of h env =
      binds Anywhere (λ x. ReadsNow x.expr) (λ x. ReadsNow x.expr) (node now_scene type_of env (out-Written e)) (λ x. level_rule (place e) x)
      (node_now type_of h env) (λ x k. level_kept (place e) x k)

all_now : (m : ObjectModel) (n : ℕ) (env : Environment) (e : Written) → Kept (type_in (record { model = m; is_post = false }) n env e)
unfolding type_in
all_now m zero env e = tt
all_now m (suc n) env e = leveled_now m e (type_in (record { model = m; is_post = false }) n) (λ env part. all_now m n env part) env

pub typed_now : (m : ObjectModel) (env : Environment) (e : Written) → IfOk (type_expr m false env e) (λ x. ReadsNow x.expr)
typed_now m env e = if_typed (λ x. ReadsNow x.expr) (type_expr m false env e) (all_now m max_nesting env e)
