-- The operations of values that are no collections: the rows of a table.
use Rattle.std.specs.Prelude.{ℕ, ◌&&◌, Bool, true, false, if◌then◌else◌, List, [], ◌∷◌, Option, Some, None}
use Rattle.use_text.specs.declared.place.Place.{Place}
use Rattle.use_text.specs.Pieces.{same_text}
use Rattle.ocl_values.specs.declared.value.Kind.TheVariants.{Sequence}
use Rattle.class_model.specs.declared.object_model.ObjectModel.{ObjectModel}
use Rattle.class_model.specs.declared.types.OclType.{OclType}
use Rattle.class_model.specs.declared.types.OclType.TheVariants as T
use Rattle.class_model.specs.Conformance.{conforms}
use Rattle.ocl_core.specs.declared.expression.Expr.TheVariants as E
use Rattle.ocl_rules.specs.declared.typed.Typed.{Typed}
use Rattle.ocl_rules.specs.declared.value_table.PlainType.{PlainType}
use Rattle.ocl_rules.specs.declared.value_table.PlainType.TheVariants.{Bool as OfBool, Int as OfInt, Str as OfStr}
use Rattle.ocl_rules.specs.declared.value_table.ValueParams.{ValueParams}
use Rattle.ocl_rules.specs.declared.value_table.ValueParams.TheVariants as A
use Rattle.ocl_rules.specs.declared.value_table.ValueResult.{ValueResult}
use Rattle.ocl_rules.specs.declared.value_table.ValueResult.TheVariants as R
use Rattle.ocl_rules.specs.declared.value_table.ValueOperation.{ValueOperation}
use Rattle.ocl_rules.specs.declared.value_table.TheConstants.{VALUE_OPERATIONS}
use Rattle.ocl_rules.specs.Arguments.{broken_arguments, conforms_to, exprs, unless_broken}
use Rattle.ocl_rules.specs.Typings.{Typing, breaks_t, typed}

abbrev pub plain_type : PlainType → OclType
plain_type OfBool = T.Bool
plain_type OfInt = T.Int
plain_type OfStr = T.Str

abbrev pub result_type : ValueResult → OclType
result_type R.Int = T.Int
result_type R.Str = T.Str
result_type R.Strings = T.Coll Sequence T.Str

-- the types of the parameters
abbrev pub param_types : ValueParams → List PlainType
param_types A.Nothing = []
param_types A.Int = OfInt ∷ []
param_types A.TwoInts = OfInt ∷ OfInt ∷ []
param_types A.Str = OfStr ∷ []

-- the first row of a name whose source a type conforms to
abbrev pub row_among : {A : Type 0} → ObjectModel → OclType → List (A × ValueOperation) → (A → List ℕ) → List ℕ → Option ValueOperation
row_among m t [] text name = None
row_among m t (row ∷ rows) text name = if same_text (text row.0) name && conforms m t
    (plain_type row.1.source) then Some row.1 else row_among m t rows text name

unfoldable pub value_operation : ObjectModel → OclType → List ℕ → Option ValueOperation
value_operation m t name = row_among m t VALUE_OPERATIONS (λ t. t.now) name

-- a call of it, at its name. None can be made of the state before
abbrev pub value_rule : ObjectModel → Place → Bool → ValueOperation → Typed → List Typed → Typing Typed
value_rule m place is_before row source args =
    unless_broken place (broken_arguments (λ p a. conforms_to m (plain_type p) a) (param_types row.params) args)
    (if is_before then breaks_t 9 place else typed (E.Plain row.op (source.expr ∷ exprs args)) (result_type row.gives))
