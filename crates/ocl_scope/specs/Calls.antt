-- Calls by a name behind a dot, or of an implicit variable, where the arguments are typed.
use Rattle.std.specs.Prelude.{ℕ, ◌&&◌, ◌||◌, not, Bool, true, false, if◌then◌else◌, List, [], ◌∷◌, codes, Option, Some, None, is_some}
use Rattle.use_text.specs.declared.place.Place.{Place}
use Rattle.use_text.specs.Pieces.{same_text}
use Rattle.class_decls.specs.declared.decls.Name.{Name}
use Rattle.class_model.specs.declared.object_model.ObjectModel.{ObjectModel}
use Rattle.class_model.specs.declared.types.OclType.{OclType}
use Rattle.class_model.specs.declared.types.OclType.TheVariants as T
use Rattle.class_model.specs.Features.{only}
use Rattle.ocl_core.specs.declared.expression.Expr.TheVariants as E
use Rattle.ocl_core.specs.declared.operators.PlainOp.{PlainOp}
use Rattle.ocl_core.specs.declared.operators.PlainOp.TheVariants.{IsUndefined, IsDefined, IsInvalid}
use Rattle.ocl_core.specs.declared.operators.TypeTest.{TypeTest}
use Rattle.ocl_core.specs.declared.operators.TypeTest.TheVariants.{IsTypeOf, IsKindOf, AsType}
use Rattle.ocl_rules.specs.declared.typed.Typed.{Typed}
use Rattle.ocl_rules.specs.declared.value_table.ValueOperation.{ValueOperation}
use Rattle.ocl_rules.specs.Properties.{is_new_rule, operation_of_type, query_rule, type_test_rule}
use Rattle.ocl_rules.specs.Typings.{Typing, breaks_n, breaks_t, typed}
use Rattle.ocl_rules.specs.ValueOperations.{value_operation, value_rule}
use Rattle.ocl_scope.specs.declared.environment.Environment.{Environment}
use Rattle.ocl_scope.specs.declared.environment.Variable.{Variable}
use Rattle.ocl_scope.specs.declared.given.Given.{Given}
use Rattle.ocl_scope.specs.declared.given.Given.TheVariants.{Values, Types}
use Rattle.ocl_scope.specs.declared.given.TypeArgument.{TypeArgument}
use Rattle.ocl_scope.specs.declared.given.TypeArgument.TheVariants.{OfType, NoType}
use Rattle.ocl_scope.specs.Environments.{last_that}
use Rattle.ocl_scope.specs.Names.{variable}

-- the test of a type that a name stands for
abbrev pub type_test : List ℕ → Option TypeTest
type_test name =
    if same_text name (codes "oclIsTypeOf") then Some IsTypeOf
    else (if same_text name (codes "oclIsKindOf") then Some IsKindOf
    else (if same_text name (codes "oclAsType") then Some AsType else None))

-- the test of definedness that a name stands for
abbrev pub definedness : List ℕ → Option PlainOp
definedness name =
    if same_text name (codes "oclIsUndefined") then Some IsUndefined
    else (if same_text name (codes "isUndefined") then Some IsUndefined
    else (if same_text name (codes "isDefined") then Some IsDefined
    else (if same_text name (codes "oclIsInvalid") then Some IsInvalid else None)))

abbrev pub is_new_name : List ℕ → Bool
is_new_name name = same_text name (codes "oclIsNew")

abbrev pub is_collection : OclType → Bool
is_collection (T.Coll' kind shape row) = true
is_collection T.Any = false
is_collection T.Void = false
is_collection T.Bool = false
is_collection T.Int = false
is_collection T.Str = false
is_collection (T.Enum e) = false
is_collection (T.Class c) = false

-- whether a value of a type answers a call of a name, beside the tests of definedness. A collection answers none
abbrev pub answers_more : ObjectModel → OclType → List ℕ → Bool
answers_more m t name =
    is_some (type_test name) || is_new_name name || is_some (value_operation m t name) || is_some (operation_of_type m t name)

abbrev pub answers : ObjectModel → OclType → List ℕ → Bool
answers m t name = is_some (definedness name) || (not (is_collection t) && answers_more m t name)

-- an implicit variable that answers a call of a name
abbrev pub answers_call : ObjectModel → List ℕ → Variable → Bool
answers_call m name v = v.is_implicit && answers m v.of_type name

-- the innermost one
abbrev pub implicit_with_call : ObjectModel → Environment → List ℕ → Option Variable
implicit_with_call m env name = last_that (answers_call m name) env.variables

-- a test of definedness, which is never made of the state before
abbrev pub definedness_rule : Place → Bool → PlainOp → Typed → List Typed → Typing Typed
definedness_rule place is_before op source [] = if is_before then breaks_t 9 place else typed (E.Plain op (source.expr ∷ [])) T.Bool
definedness_rule place is_before op source (a ∷ more) = breaks_t 2 place

-- an operation of a value, or else of a model
abbrev pub operation_rule : ObjectModel → Place → Bool → Bool → Typed → List Typed → Option ValueOperation → Option ℕ → Typing Typed
operation_rule m place is_plain is_before source args (Some row) op = if is_plain then value_rule m place is_before row source args else breaks_t 2 place
operation_rule m place is_plain is_before source args None (Some op) = if is_plain then query_rule m place is_before op source args else breaks_t 2 place
operation_rule m place is_plain is_before source args None None = breaks_n 2 place

abbrev pub call_beside : ObjectModel → Bool → Name → Bool → Typed → List Typed → Bool → Typing Typed
call_beside m is_post name is_before source args is_plain =
    if is_new_name name.text
    then (if is_plain then is_new_rule name.place is_post is_before source args else breaks_t 2 name.place)
    else operation_rule m name.place is_plain is_before source args (value_operation m source.of_type name.text) (operation_of_type m source.of_type name.text)

-- a call with values as arguments. The tests of definedness come first, then `oclIsNew`, the operations of values, and those of the model
abbrev pub call_of_values : ObjectModel → Bool → Name → Bool → Typed → List Typed → Bool → Option PlainOp → Typing Typed
call_of_values m is_post name is_before source args is_plain (Some op) =
    if is_plain then definedness_rule name.place is_before op source args else breaks_t 2 name.place
call_of_values m is_post name is_before source args is_plain None = call_beside m is_post name is_before source args is_plain

abbrev pub test_with : Place → Bool → TypeTest → Typed → TypeArgument → Typing Typed
test_with place is_before test source (OfType t) = type_test_rule place is_before test source t
test_with place is_before test source (NoType at) = breaks_t 8 at

abbrev pub test_with_one : Place → Bool → TypeTest → Typed → Option TypeArgument → Typing Typed
test_with_one place is_before test source None = breaks_t 2 place
test_with_one place is_before test source (Some a) = test_with place is_before test source a

-- a test of a type, with the one argument that it takes
abbrev pub call_of_types : Place → Bool → TypeTest → Typed → List TypeArgument → Bool → Typing Typed
call_of_types place is_before test source args is_plain =
    if is_plain then test_with_one place is_before test source (only args) else breaks_t 2 place

abbrev pub call_of_test : Place → Bool → Typed → List TypeArgument → Bool → Option TypeTest → Typing Typed
call_of_test place is_before source args is_plain None = breaks_n 2 place
call_of_test place is_before source args is_plain (Some test) = call_of_types place is_before test source args is_plain

-- a call of an operation of a value that is no collection
abbrev pub call_rule : ObjectModel → Bool → Name → Bool → Typed → Given → Typing Typed
call_rule m is_post name is_before source (Values args is_plain) = call_of_values m is_post name is_before source args is_plain (definedness name.text)
call_rule m is_post name is_before source (Types args is_plain) = call_of_test name.place is_before source args is_plain (type_test name.text)

abbrev pub call_of_implicit : ObjectModel → Bool → Name → Bool → Given → Option Variable → Typing Typed
call_of_implicit m is_post name is_before given None = breaks_n 1 name.place
call_of_implicit m is_post name is_before given (Some v) = call_rule m is_post name is_before (variable v) given

-- a call without a source: of the innermost implicit variable that answers it
abbrev pub implicit_call : ObjectModel → Bool → Environment → Name → Bool → Given → Typing Typed
implicit_call m is_post env name is_before given = call_of_implicit m is_post name is_before given (implicit_with_call m env name.text)
