-- What stands between the parentheses of a call, argument by argument, and the names of iterators.
use Rattle.std.specs.Prelude.{ℕ, Bool, true, false, if◌then◌else◌, List, [], ◌∷◌, codes, Option, Some, None, unwrap_or}
use Rattle.std.specs.List.{list_all}
use Rattle.use_text.specs.Pieces.{same_text}
use Rattle.class_decls.specs.declared.decls.Name.{Name}
use Rattle.class_decls.specs.declared.decls.TypeDecl.{TypeDecl}
use Rattle.ocl_core.specs.declared.operators.IterOp.{IterOp}
use Rattle.ocl_core.specs.declared.operators.IterOp.TheVariants as I
use Rattle.ocl_syntax.specs.declared.tree.Argument.{Argument, out-Argument}
use Rattle.ocl_syntax.specs.declared.tree.Written.{Written, out-Written}
use Rattle.ocl_syntax.specs.declared.tree.WrittenPart.{WrittenPart}
use Rattle.ocl_syntax.specs.declared.tree.Argument.TheOpen.{Written-F, WrittenPart-F, Argument-F}

-- one level of a tree
abbrev pub Layer : Type 0
Layer = Written-F Argument Written WrittenPart

abbrev pub PartLayer : Type 0
PartLayer = WrittenPart-F Argument Written WrittenPart

abbrev pub ArgumentLayer : Type 0
ArgumentLayer = Argument-F Argument Written WrittenPart

-- a name and nothing else, without parentheses around it
abbrev pub name_alone : Layer → Option Name
name_alone (Written-F.Named name None false None) = Some name
name_alone _ = None

abbrev pub plain_name : Written → Option Name
plain_name e = name_alone (out-Written e)

-- the parts of an argument: what is written first in it, its type and its start
abbrev pub expression_in : ArgumentLayer → Written
expression_in (Argument-F.Item e t start) = e
expression_in (Argument-F.Accumulator e t start) = e
expression_in (Argument-F.Body e) = e

abbrev pub written_type_in : ArgumentLayer → Option TypeDecl
written_type_in (Argument-F.Item e t start) = t
written_type_in (Argument-F.Accumulator e t start) = t
written_type_in (Argument-F.Body e) = None

abbrev pub start_in : ArgumentLayer → Option Written
start_in (Argument-F.Item e t start) = start
start_in (Argument-F.Accumulator e t start) = start
start_in (Argument-F.Body e) = None

abbrev pub expression_of : Argument → Written
expression_of a = expression_in (out-Argument a)

abbrev pub written_type : Argument → Option TypeDecl
written_type a = written_type_in (out-Argument a)

abbrev pub start_of : Argument → Option Written
start_of a = start_in (out-Argument a)

-- the name that an argument before `;` and `|` is, where a type may stand
abbrev pub asked_in : ArgumentLayer → Option Name
asked_in (Argument-F.Item e t start) = plain_name e
asked_in _ = None

abbrev pub asked_name : Argument → Option Name
asked_name a = asked_in (out-Argument a)

-- an expression alone, as an operation takes it
abbrev pub alone_in : ArgumentLayer → Option Written
alone_in (Argument-F.Item e None None) = Some e
alone_in _ = None

abbrev pub alone : Argument → Option Written
alone a = alone_in (out-Argument a)

abbrev pub is_plain_in : ArgumentLayer → Bool
is_plain_in (Argument-F.Item e None None) = true
is_plain_in _ = false

abbrev pub is_plain : Argument → Bool
is_plain a = is_plain_in (out-Argument a)

abbrev pub are_plain : List Argument → Bool
are_plain args = list_all is_plain args

-- the arguments that are written; without parentheses there are none
abbrev pub or_none : Option (List Argument) → List Argument
or_none all = unwrap_or all []

-- whether a call has no arguments
abbrev pub has_none : Option (List Argument) → Bool
has_none None = true
has_none (Some []) = true
has_none (Some (a ∷ more)) = false

-- the name of a variable that is declared before `|`
abbrev pub variable_in : ArgumentLayer → Option Name
variable_in (Argument-F.Item e t None) = plain_name e
variable_in _ = None

abbrev pub variable_name : Argument → Option Name
variable_name a = variable_in (out-Argument a)

-- what stands behind `|`
abbrev pub body_in : ArgumentLayer → Option Written
body_in (Argument-F.Body e) = Some e
body_in _ = None

abbrev pub body_of : Argument → Option Written
body_of a = body_in (out-Argument a)

-- the name of what is accumulated, where it has a type and a start
abbrev pub accumulator_in : ArgumentLayer → Option Name
accumulator_in (Argument-F.Accumulator e (Some t) (Some start)) = plain_name e
accumulator_in _ = None

abbrev pub accumulator_name : Argument → Option Name
accumulator_name a = accumulator_in (out-Argument a)

-- the iterator of a name
abbrev pub rare_iterator : List ℕ → Option IterOp
rare_iterator name =
    if same_text name (codes "isUnique") then Some I.IsUnique
    else (if same_text name (codes "collectNested") then Some I.CollectNested
    else (if same_text name (codes "collect") then Some I.Collect
    else (if same_text name (codes "sortedBy") then Some I.SortedBy
    else (if same_text name (codes "iterate") then Some I.Iterate else None))))

abbrev pub iterator_named : List ℕ → Option IterOp
iterator_named name =
    if same_text name (codes "select") then Some I.Select
    else (if same_text name (codes "reject") then Some I.Reject
    else (if same_text name (codes "any") then Some I.Any
    else (if same_text name (codes "one") then Some I.One
    else (if same_text name (codes "forAll") then Some I.ForAll
    else (if same_text name (codes "exists") then Some I.Exists else rare_iterator name)))))

-- an iterator that may have two variables
abbrev pub may_have_two : IterOp → Bool
may_have_two I.ForAll = true
may_have_two I.Exists = true
may_have_two I.Select = false
may_have_two I.Reject = false
may_have_two I.Any = false
may_have_two I.One = false
may_have_two I.IsUnique = false
may_have_two I.CollectNested = false
may_have_two I.Collect = false
may_have_two I.SortedBy = false
may_have_two I.Iterate = false

-- an iterator that accumulates a value of its own
abbrev pub accumulates : IterOp → Bool
accumulates I.Iterate = true
accumulates I.Select = false
accumulates I.Reject = false
accumulates I.Any = false
accumulates I.One = false
accumulates I.ForAll = false
accumulates I.Exists = false
accumulates I.IsUnique = false
accumulates I.CollectNested = false
accumulates I.Collect = false
accumulates I.SortedBy = false
