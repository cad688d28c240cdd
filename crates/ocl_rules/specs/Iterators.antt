-- The rules of iterators, where their source, start and body are typed.
use Rattle.std.specs.Prelude.{ℕ, ◌&&◌, not, Err, Bool, true, false, if◌then◌else◌, List, [], ◌∷◌, length, Option, Some, None}
use Rattle.std.specs.List.{list_all}
use Rattle.use_text.specs.declared.code.Family.TheVariants as Family
use Rattle.use_text.specs.declared.place.Place.{Place}
use Rattle.use_text.specs.declared.refusal.Refusal.{Refusal}
use Rattle.use_text.specs.Codes.{code_of}
use Rattle.use_text.specs.Refusals.{refusal_at}
use Rattle.ocl_values.specs.declared.value.Kind.{Kind}
use Rattle.class_model.specs.declared.object_model.ObjectModel.{ObjectModel}
use Rattle.class_model.specs.declared.types.OclType.{OclType}
use Rattle.class_model.specs.declared.types.OclType.TheVariants as T
use Rattle.class_model.specs.Conformance.{conforms}
use Rattle.ocl_core.specs.declared.expression.Expr.TheVariants as E
use Rattle.ocl_core.specs.declared.operators.IterOp.{IterOp}
use Rattle.ocl_core.specs.declared.operators.IterOp.TheVariants as I
use Rattle.ocl_core.specs.Kinds.{collected_kind, sorted_kind}
use Rattle.ocl_rules.specs.declared.typed.Typed.{Typed}
use Rattle.ocl_rules.specs.CollectionOperations.{innermost}
use Rattle.ocl_rules.specs.Forms.{fits_declared}
use Rattle.ocl_rules.specs.Typings.{Typing, typed}

-- whether the body of an iterator is a condition
abbrev pub has_condition : IterOp → Bool
has_condition I.Select = true
has_condition I.Reject = true
has_condition I.Any = true
has_condition I.One = true
has_condition I.ForAll = true
has_condition I.Exists = true
has_condition I.IsUnique = false
has_condition I.CollectNested = false
has_condition I.Collect = false
has_condition I.SortedBy = false
has_condition I.Iterate = false

-- what an iterator gives over a collection of this kind with such elements, where its body has this type
abbrev pub iterator_type : IterOp → Kind → OclType → OclType → OclType
iterator_type I.Select kind element body = T.Coll kind element
iterator_type I.Reject kind element body = T.Coll kind element
iterator_type I.Any kind element body = element
iterator_type I.One kind element body = T.Bool
iterator_type I.ForAll kind element body = T.Bool
iterator_type I.Exists kind element body = T.Bool
iterator_type I.IsUnique kind element body = T.Bool
iterator_type I.CollectNested kind element body = T.Coll (collected_kind kind) body
iterator_type I.Collect kind element body = T.Coll (collected_kind kind) (innermost body)
iterator_type I.SortedBy kind element body = T.Coll (sorted_kind kind) element
iterator_type I.Iterate kind element body = body

-- the elements conform to the type that each variable declares, if it does
abbrev pub fit_variables : ObjectModel → OclType → List (Option OclType) → Bool
fit_variables m element variables = list_all (fits_declared m element) variables

-- a thing, unless a rule is broken
abbrev pub unless_refused : {A : Type 0} → Option Refusal → Typing A → Typing A
unless_refused None given = given
unless_refused (Some r) given = Err r

-- what an iterator at its name breaks: a variable of another type T3, a body that is no condition T4 at the body's first token
abbrev pub iterator_refusal : ObjectModel → Place → IterOp → OclType → List (Option OclType) → Place → OclType → Option Refusal
iterator_refusal m place op element variables body_place body =
    if fit_variables m element variables
    then (if has_condition op && not (conforms m body T.Bool) then Some (refusal_at (code_of Family.T 4) body_place) else None)
    else Some (refusal_at (code_of Family.T 3) place)

-- an iterator with so many variables
abbrev pub iterator_rule : ObjectModel → Place → IterOp → Kind → OclType → ℕ → List (Option OclType) → Place → Typed → Typed → Typing Typed
iterator_rule m place op kind element count variables body_place source body =
    unless_refused (iterator_refusal m place op element variables body_place body.of_type)
    (typed (E.Iter op source.expr count None body.expr) (iterator_type op kind element body.of_type))

-- what `iterate` breaks: a variable of another type T3; a start or a body that does not conform to the type of what is accumulated T5, at the first
-- token of each
abbrev pub iterate_refusal : ObjectModel → Place → OclType → Option OclType → OclType → Place → Place → OclType → OclType → Option Refusal
iterate_refusal m place element variable of_type start_place body_place start body =
    if fits_declared m element variable
    then (if conforms m start of_type
    then (if conforms m body of_type then None else Some (refusal_at (code_of Family.T 5) body_place))
    else Some (refusal_at (code_of Family.T 5) start_place))
    else Some (refusal_at (code_of Family.T 3) place)

-- `iterate`
abbrev pub iterate_rule : ObjectModel → Place → OclType → Option OclType → OclType → Place → Place → Typed → Typed → Typed → Typing Typed
iterate_rule m place element variable of_type start_place body_place source start body =
    unless_refused (iterate_refusal m place element variable of_type start_place body_place start.of_type body.of_type)
    (typed (E.Iter I.Iterate source.expr 1 (Some start.expr) body.expr) of_type)
