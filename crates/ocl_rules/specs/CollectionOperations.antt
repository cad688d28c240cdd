-- The operations of collections: the rows of a table, and what each kind of row requires and gives.
use Rattle.std.specs.Prelude.{ℕ, ◌-◌, slice_get, ◌==◌, ◌&&◌, Bool, true, false, if◌then◌else◌, List, [], ◌∷◌, length, Option, Some, None}
use Rattle.std.specs.Option.{option_map_or}
use Rattle.use_text.specs.declared.place.Place.{Place}
use Rattle.use_text.specs.Pieces.{same_text}
use Rattle.ocl_values.specs.declared.value.Kind.{Kind}
use Rattle.ocl_values.specs.declared.value.Kind.TheVariants.{Set, OrderedSet, Bag, Sequence}
use Rattle.class_model.specs.declared.object_model.ObjectModel.{ObjectModel}
use Rattle.class_model.specs.declared.types.OclType.{OclType, more_of-OclType}
use Rattle.class_model.specs.declared.types.OclType.TheVariants as T
use Rattle.class_model.specs.Conformance.{conforms, join}
use Rattle.ocl_collections.specs.declared.op.CollOp.{CollOp}
use Rattle.ocl_core.specs.declared.expression.Expr.TheVariants as E
use Rattle.ocl_rules.specs.declared.collection_table.CollectionOperation.{CollectionOperation}
use Rattle.ocl_rules.specs.declared.collection_table.Param.{Param}
use Rattle.ocl_rules.specs.declared.collection_table.Param.TheVariants as P
use Rattle.ocl_rules.specs.declared.collection_table.Params.{Params}
use Rattle.ocl_rules.specs.declared.collection_table.Params.TheVariants as L
use Rattle.ocl_rules.specs.declared.collection_table.Sources.{Sources}
use Rattle.ocl_rules.specs.declared.collection_table.Sources.TheVariants as S
use Rattle.ocl_rules.specs.declared.collection_table.Gives.{Gives}
use Rattle.ocl_rules.specs.declared.collection_table.Gives.TheVariants as G
use Rattle.ocl_rules.specs.declared.collection_table.TheConstants.{COLLECTION_OPERATIONS}
use Rattle.ocl_rules.specs.declared.typed.Typed.{Typed}
use Rattle.ocl_rules.specs.Arguments.{all_fit, exprs, unless_broken}
use Rattle.ocl_rules.specs.Operators.{is_kind_set}
use Rattle.ocl_rules.specs.Typings.{Typing, breaks_t, typed}

-- the first row of a name
abbrev pub row_among : {A R : Type 0} → List (A × R) → (A → List ℕ) → List ℕ → Option R
row_among [] text name = None
row_among (row ∷ rows) text name = if same_text (text row.0) name then Some row.1 else row_among rows text name

-- the operation of a name
unfoldable pub collection_operation : List ℕ → Option CollectionOperation
collection_operation name = row_among COLLECTION_OPERATIONS (λ t. t.now) name

-- the kind of a collection's type; of another it is the given one
abbrev pub kind_or : Kind → OclType → Kind
kind_or kind (T.Coll' k shape row) = k
kind_or kind T.Any = kind
kind_or kind T.Void = kind
kind_or kind T.Bool = kind
kind_or kind T.Int = kind
kind_or kind T.Str = kind
kind_or kind (T.Enum e) = kind
kind_or kind (T.Class c) = kind

-- the type of a collection's elements; of another it is OclVoid
abbrev pub element_of : OclType → OclType
element_of (T.Coll' k shape (more_of-OclType element rest)) = element
element_of T.Any = T.Void
element_of T.Void = T.Void
element_of T.Bool = T.Void
element_of T.Int = T.Void
element_of T.Str = T.Void
element_of (T.Enum e) = T.Void
element_of (T.Class c) = T.Void

-- the type of a collection, or the one that conforms to each
abbrev pub may_be_collection : OclType → Bool
may_be_collection (T.Coll' k shape row) = true
may_be_collection T.Void = true
may_be_collection T.Any = false
may_be_collection T.Bool = false
may_be_collection T.Int = false
may_be_collection T.Str = false
may_be_collection (T.Enum e) = false
may_be_collection (T.Class c) = false

-- an argument fits its parameter
abbrev pub fits_param : ObjectModel → Param → OclType → Bool
fits_param m P.Element t = true
fits_param m P.Integer t = conforms m t T.Int
fits_param m P.Collection t = may_be_collection t

-- the parameters
abbrev pub param_list : Params → List Param
param_list L.Nothing = []
param_list L.Element = P.Element ∷ []
param_list L.Collection = P.Collection ∷ []
param_list L.Place = P.Integer ∷ []
param_list L.PlaceAndElement = P.Integer ∷ P.Element ∷ []
param_list L.TwoPlaces = P.Integer ∷ P.Integer ∷ []

abbrev pub is_ordered_kind : Kind → Bool
is_ordered_kind Set = false
is_ordered_kind OrderedSet = true
is_ordered_kind Bag = false
is_ordered_kind Sequence = true

abbrev pub is_sequence : Kind → Bool
is_sequence Set = false
is_sequence OrderedSet = false
is_sequence Bag = false
is_sequence Sequence = true

abbrev pub is_ordered_set : Kind → Bool
is_ordered_set Set = false
is_ordered_set OrderedSet = true
is_ordered_set Bag = false
is_ordered_set Sequence = false

abbrev pub is_set_or_bag : Kind → Bool
is_set_or_bag Set = true
is_set_or_bag OrderedSet = false
is_set_or_bag Bag = true
is_set_or_bag Sequence = false

-- an operation is for collections of this kind with such elements
abbrev pub is_for : ObjectModel → Sources → Kind → OclType → Bool
is_for m S.Every kind element = true
is_for m S.Ordered kind element = is_ordered_kind kind
is_for m S.Sequences kind element = is_sequence kind
is_for m S.OrderedSets kind element = is_ordered_set kind
is_for m S.SetsAndBags kind element = is_set_or_bag kind
is_for m S.Sets kind element = is_kind_set kind
is_for m S.OfIntegers kind element = conforms m element T.Int

-- the kind of what two collections make together
abbrev pub union_kind : Kind → Kind → Option Kind
union_kind Set Set = Some Set
union_kind Set Bag = Some Bag
union_kind Bag Set = Some Bag
union_kind Bag Bag = Some Bag
union_kind Sequence Sequence = Some Sequence
union_kind OrderedSet OrderedSet = Some OrderedSet
union_kind a b = None

-- the kind of what two collections share
abbrev pub shared_kind : Kind → Kind → Option Kind
shared_kind Set Set = Some Set
shared_kind Set Bag = Some Set
shared_kind Bag Set = Some Set
shared_kind Bag Bag = Some Bag
shared_kind a b = None

abbrev pub set_kind : Kind → Kind → Option Kind
set_kind Set Set = Some Set
set_kind a b = None

-- a collection of a kind, if there is one
abbrev pub of_kind : Option Kind → OclType → Option OclType
of_kind None element = None
of_kind (Some kind) element = Some (T.Coll kind element)

-- a type without the collections around it
abbrev pub innermost : OclType → OclType
innermost T.Any = T.Any
innermost T.Void = T.Void
innermost T.Bool = T.Bool
innermost T.Int = T.Int
innermost T.Str = T.Str
innermost (T.Enum e) = T.Enum e
innermost (T.Class c) = T.Class c
innermost (T.Coll' kind shape (more_of-OclType element rest)) = innermost element

-- the type of the last argument
abbrev pub last_type : List Typed → OclType
last_type args = option_map_or (λ a. a.of_type) (slice_get args (length args - 1)) T.Void

-- what an operation gives of a collection of this kind with such elements, where its last argument has this type; nothing where it is
-- not for the argument's kind. Null counts as a collection of the source's own kind
abbrev pub gives_type : ObjectModel → Gives → Kind → OclType → OclType → Option OclType
gives_type m G.Integer kind element last = Some T.Int
gives_type m G.Boolean kind element last = Some T.Bool
gives_type m G.Element kind element last = Some element
gives_type m G.Same kind element last = Some (T.Coll kind element)
gives_type m G.Joined kind element last = Some (T.Coll kind (join m element last))
gives_type m (G.Of k) kind element last = Some (T.Coll k element)
gives_type m G.Union kind element last = of_kind (union_kind kind (kind_or kind last)) (join m element (element_of last))
gives_type m G.Intersection kind element last = of_kind (shared_kind kind (kind_or kind last)) element
gives_type m G.Difference kind element last = of_kind (set_kind kind (kind_or kind last)) (join m element (element_of last))
gives_type m G.Flat kind element last = Some (T.Coll kind (innermost element))

abbrev pub given_by : Place → CollOp → Typed → List Typed → Option OclType → Typing Typed
given_by place op source args None = breaks_t 3 place
given_by place op source args (Some t) = typed (E.Coll op (source.expr ∷ exprs args)) t

-- the rule that a call breaks: T2 where there are more or fewer arguments than parameters, T3 where one does not fit, T6 where the operation is not
-- for the collection
abbrev pub broken_call : ObjectModel → CollectionOperation → Kind → OclType → List Typed → Option ℕ
broken_call m row kind element args =
    if length args == length (param_list row.params)
    then (if all_fit (λ p a. fits_param m p a.of_type) (param_list row.params) args
    then (if is_for m row.sources kind element then None else Some 6)
    else Some 3)
    else Some 2

-- a call of an operation of a collection, at its name: T2, T3, T6, and T3 again where only the argument's kind does not fit
abbrev pub collection_call_rule : ObjectModel → Place → CollectionOperation → Kind → OclType → Typed → List Typed → Typing Typed
collection_call_rule m place row kind element source args =
    unless_broken place (broken_call m row kind element args) (given_by place row.op source args (gives_type m row.gives kind element (last_type args)))
