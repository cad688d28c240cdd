-- The operations of collections by name, source, parameters and result (OCL 2.3.1, 11.7): what the rows of the table are to say.
use Rattle.std.specs.Prelude.{ℕ, List, [], ◌∷◌, codes}
use Rattle.ocl_values.specs.declared.value.Kind.TheVariants.{Set, OrderedSet, Bag, Sequence}
use Rattle.ocl_collections.specs.declared.op.CollOp.{CollOp}
use Rattle.ocl_collections.specs.declared.op.CollOp.TheVariants as C
use Rattle.ocl_rules.specs.declared.collection_table.CollectionOperation.{CollectionOperation}
use Rattle.ocl_rules.specs.declared.collection_table.Params.{Params}
use Rattle.ocl_rules.specs.declared.collection_table.Params.TheVariants as L
use Rattle.ocl_rules.specs.declared.collection_table.Sources.{Sources}
use Rattle.ocl_rules.specs.declared.collection_table.Sources.TheVariants as S
use Rattle.ocl_rules.specs.declared.collection_table.Gives.{Gives}
use Rattle.ocl_rules.specs.declared.collection_table.Gives.TheVariants as G

abbrev pub CollectionForm : Type 0
CollectionForm = List ℕ × CollectionOperation

abbrev pub form : List ℕ → Sources → Params → Gives → CollOp → CollectionForm
form name sources params gives op = (name, record { op = op; params = params; sources = sources; gives = gives })

abbrev pub collection_forms : List CollectionForm
collection_forms =
    form (codes "size") S.Every L.Nothing G.Integer C.Size
    ∷ form (codes "isEmpty") S.Every L.Nothing G.Boolean C.IsEmpty
    ∷ form (codes "notEmpty") S.Every L.Nothing G.Boolean C.NotEmpty
    ∷ form (codes "includes") S.Every L.Element G.Boolean C.Includes
    ∷ form (codes "excludes") S.Every L.Element G.Boolean C.Excludes
    ∷ form (codes "count") S.Every L.Element G.Integer C.Count
    ∷ form (codes "includesAll") S.Every L.Collection G.Boolean C.IncludesAll
    ∷ form (codes "excludesAll") S.Every L.Collection G.Boolean C.ExcludesAll
    ∷ form (codes "including") S.Every L.Element G.Joined C.Including
    ∷ form (codes "excluding") S.Every L.Element G.Same C.Excluding
    ∷ form (codes "union") S.Every L.Collection G.Union C.Union
    ∷ form (codes "intersection") S.SetsAndBags L.Collection G.Intersection C.Intersection
    ∷ form (codes "symmetricDifference") S.Sets L.Collection G.Difference C.SymmetricDifference
    ∷ form (codes "append") S.Ordered L.Element G.Joined C.Append
    ∷ form (codes "prepend") S.Ordered L.Element G.Joined C.Prepend
    ∷ form (codes "insertAt") S.Ordered L.PlaceAndElement G.Joined C.InsertAt
    ∷ form (codes "at") S.Ordered L.Place G.Element C.At
    ∷ form (codes "first") S.Ordered L.Nothing G.Element C.First
    ∷ form (codes "last") S.Ordered L.Nothing G.Element C.Last
    ∷ form (codes "indexOf") S.Ordered L.Element G.Integer C.IndexOf
    ∷ form (codes "subSequence") S.Sequences L.TwoPlaces G.Same C.SubSequence
    ∷ form (codes "subOrderedSet") S.OrderedSets L.TwoPlaces G.Same C.SubOrderedSet
    ∷ form (codes "reverse") S.Ordered L.Nothing G.Same C.Reverse
    ∷ form (codes "sum") S.OfIntegers L.Nothing G.Integer C.Sum
    ∷ form (codes "max") S.OfIntegers L.Nothing G.Integer C.Max
    ∷ form (codes "min") S.OfIntegers L.Nothing G.Integer C.Min
    ∷ form (codes "asSet") S.Every L.Nothing (G.Of Set) C.AsSet
    ∷ form (codes "asBag") S.Every L.Nothing (G.Of Bag) C.AsBag
    ∷ form (codes "asSequence") S.Every L.Nothing (G.Of Sequence) C.AsSequence
    ∷ form (codes "asOrderedSet") S.Every L.Nothing (G.Of OrderedSet) C.AsOrderedSet
    ∷ form (codes "flatten") S.Every L.Nothing G.Flat C.Flatten
    ∷ []
