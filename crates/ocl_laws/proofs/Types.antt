-- Types that are made of types of a model are the model's.
use Rattle.std.proofs.Common.{◌≡◌, ℕ, ◌<◌, ◌-◌, Bool, true, cond, List, [], ◌∷◌, length, filter, find, nat_eq, nat_lt, All, Option, Some, None, IfSome, sym, subst, arith, ⊎_elim}
use Rattle.std.specs.Prelude.{slice_get}
use Rattle.std.specs.List.{AllByRecursion}
use Rattle.std.specs.Option.{option_map_or}
use Rattle.std.proofs.lemmas.Bool.Decides.{nat_tests}
use Rattle.std.proofs.lemmas.Option.{slice_get_cases}
use Rattle.ocl_values.specs.declared.value.Kind.{Kind}
use Rattle.ocl_values.specs.declared.value.Value.{Value}
use Rattle.ocl_values.specs.declared.value.Value.TheVariants as V
use Rattle.ocl_values.specs.contracts.value.KindPartialEq.TheImpl.{ghosts as kind_ghosts}
use Rattle.class_rules.specs.Numbering.{is_among, row_at}
use Rattle.class_rules.proofs.LeastAbove.{least_above}
use Rattle.class_rules.proofs.Queued.{itself, or_left, or_right}
use Rattle.class_model.specs.declared.object_model.ObjectModel.{ObjectModel}
use Rattle.class_model.specs.declared.types.OclType.{OclType, more_of-OclType}
use Rattle.class_model.specs.declared.types.OclType.TheVariants as T
use Rattle.class_model.specs.Conformance.{common_ancestors, conforms, join, lowest, wider}
use Rattle.class_model.specs.Inheritance.{IsAcyclic, ancestors, is_a, parents_of}
use Rattle.class_model.specs.InRange.{IsTypeOf}
use Rattle.ocl_core.specs.Kinds.{collected_kind, sorted_kind}
use Rattle.ocl_core.specs.declared.operators.BinaryOp.{BinaryOp}
use Rattle.ocl_core.specs.declared.operators.BinaryOp.TheVariants as B
use Rattle.ocl_core.specs.declared.operators.IterOp.{IterOp}
use Rattle.ocl_core.specs.declared.operators.IterOp.TheVariants as I
use Rattle.ocl_syntax.specs.declared.tree.WrittenBinary.{WrittenBinary}
use Rattle.ocl_rules.specs.CollectionOperations.{element_of, gives_type, innermost, kind_or, last_type, of_kind, set_kind, shared_kind, union_kind}
use Rattle.ocl_rules.specs.declared.collection_table.Gives.{Gives}
use Rattle.ocl_rules.specs.declared.collection_table.Gives.TheVariants as G
use Rattle.ocl_rules.specs.declared.typed.Typed.{Typed}
use Rattle.ocl_rules.specs.Iterators.{iterator_type}
use Rattle.ocl_rules.specs.Operators.{is_sum, set_left, type_of_operation, type_of_sum}
use Rattle.ocl_scope.specs.Literals.{literal_type}
use Rattle.ocl_scope.proofs.Found.{coll_there, either, some_if}
use Rattle.ocl_shapes.specs.Sources.{element_or_itself}

-- ---- of lists and options

filter_there : {A : Type 0} (P : A → Type 0) (test : A → Bool) (xs : List A) → AllByRecursion P xs → AllByRecursion P (filter test xs)
filter_there P test [] h = tt
filter_there P test (x ∷ xs) h =
    either (AllByRecursion P) (test x) (x ∷ filter test xs) (filter test xs) (h.0, filter_there P test xs h.1) (filter_there P test xs h.1)

find_there : {A : Type 0} (P : A → Type 0) (test : A → Bool) (xs : List A) → AllByRecursion P xs → IfSome (find test xs) P
find_there P test [] h = tt
find_there P test (x ∷ xs) h = some_if P (test x) x (find test xs) h.0 (find_there P test xs h.1)

map_or_there : {A B : Type 0} (P : B → Type 0) (f : A → B) (o : Option A) (d : B) → IfSome o (λ x. P (f x)) → P d → P (option_map_or f o d)
map_or_there P f None d h k = k
map_or_there P f (Some x) d h k = h

get_there : {A : Type 0} (P : A → Type 0) (xs : List A) (i : ℕ) → All P xs → IfSome (slice_get xs i) P
get_there P xs i h =
    ⊎_elim (λ s. subst (λ o. IfSome o P) (sym s.2) (subst P s.3 (h i s.0 s.1))) (λ s. subst (λ o. IfSome o P) (sym s.1) tt) ((slice_get_cases xs i).1)

-- ---- classes

below_is : (a b : ℕ) → a < b → nat_lt a b ≡ true
below_is a b h = grind (arith, nat_tests)

is_below : (a b : ℕ) → nat_lt a b ≡ true → a < b
is_below a b h = grind (arith, nat_tests)

members : (P : ℕ → Type 0) (xs : List ℕ) → ((x : ℕ) → is_among xs x ≡ true → P x) → AllByRecursion P xs
members P [] f = tt
members P (x ∷ xs) f =
    (f x (or_left (nat_eq x x) (is_among xs x) (itself x)), members P xs (λ y h. f y (or_right (nat_eq y x) (is_among xs y) h)))

lower : (n d : ℕ) (ps : List ℕ) → d < n → AllByRecursion (λ p. p < d) ps → AllByRecursion (λ p. nat_lt p n ≡ true) ps
lower n d [] below h = tt
lower n d (p ∷ ps) below h = (below_is p n (omega (arith, h.0)), lower n d ps below h.1)

-- the ancestors of a class have no greater numbers
ancestors_there : (m : ObjectModel) → IsAcyclic m → (c : ℕ) → c < length m.classes → AllByRecursion (λ d. d < length m.classes) (ancestors m c)
ancestors_there m down c below =
    members (λ d. d < length m.classes) (ancestors m c)
    (λ d h. is_below d (length m.classes)
    ((least_above (parents_of m) down c).least (λ x. nat_lt x (length m.classes)) (below_is c (length m.classes) below)
    (λ x held. lower (length m.classes) x (row_at (parents_of m) x) (is_below x (length m.classes) held) (down x)) d h))

lowest_there : (m : ObjectModel) → IsAcyclic m → (c d : ℕ) → c < length m.classes → IfSome (lowest m (common_ancestors m c d)) (λ x. x < length m.classes)
lowest_there m down c d below =
    find_there (λ x. x < length m.classes) _ (common_ancestors m c d)
    (filter_there (λ x. x < length m.classes) (is_a m d) (ancestors m c) (ancestors_there m down c below))

-- ---- what two types have in common

wider_there : (m : ObjectModel) (a b other : OclType) → IsTypeOf m a → IsTypeOf m b → IsTypeOf m other → IsTypeOf m (wider m a b other)
wider_there m a b other h k l =
    either (IsTypeOf m) (conforms m a b) b (cond (conforms m b a) a other) k (either (IsTypeOf m) (conforms m b a) a other h l)

pub join_there : (m : ObjectModel) → IsAcyclic m → (a b : OclType) → IsTypeOf m a → IsTypeOf m b → IsTypeOf m (join m a b)
join_there m down (T.Class c) (T.Class d) h k =
    wider_there m (T.Class c) (T.Class d) (option_map_or T.Class (lowest m (common_ancestors m c d)) T.Any) h k
    (map_or_there (IsTypeOf m) T.Class (lowest m (common_ancestors m c d)) T.Any (lowest_there m down c d h) tt)
join_there m down (T.Coll' k s (more_of-OclType a r)) (T.Coll' l t (more_of-OclType b q)) h g =
    wider_there m (T.Coll k a) (T.Coll l b) (cond (kind_ghosts.eq k l) (T.Coll k (join m a b)) T.Any) (coll_there m k a h) (coll_there m l b g)
    (either (IsTypeOf m) (kind_ghosts.eq k l) (T.Coll k (join m a b)) T.Any (coll_there m k (join m a b) (join_there m down a b h g)) tt)
join_there m down a b h k = wider_there m a b T.Any h k tt

-- ---- elements

pub innermost_there : (m : ObjectModel) (t : OclType) → IsTypeOf m t → IsTypeOf m (innermost t)
innermost_there m T.Any h = tt
innermost_there m T.Void h = tt
innermost_there m T.Bool h = tt
innermost_there m T.Int h = tt
innermost_there m T.Str h = tt
innermost_there m (T.Enum e) h = h
innermost_there m (T.Class c) h = h
innermost_there m (T.Coll' kind shape (more_of-OclType element rest)) h = innermost_there m element h

element_there : (m : ObjectModel) (t : OclType) → IsTypeOf m t → IsTypeOf m (element_of t)
element_there m T.Any h = tt
element_there m T.Void h = tt
element_there m T.Bool h = tt
element_there m T.Int h = tt
element_there m T.Str h = tt
element_there m (T.Enum e) h = tt
element_there m (T.Class c) h = tt
element_there m (T.Coll' kind shape (more_of-OclType element rest)) h = h

pub element_or_itself_there : (m : ObjectModel) (t : OclType) → IsTypeOf m t → IsTypeOf m (element_or_itself t)
element_or_itself_there m T.Any h = tt
element_or_itself_there m T.Void h = tt
element_or_itself_there m T.Bool h = tt
element_or_itself_there m T.Int h = tt
element_or_itself_there m T.Str h = tt
element_or_itself_there m (T.Enum e) h = h
element_or_itself_there m (T.Class c) h = h
element_or_itself_there m (T.Coll' kind shape (more_of-OclType element rest)) h = h

pub literal_there : (m : ObjectModel) (v : Value) → IsTypeOf m (literal_type v)
literal_there m V.Null = tt
literal_there m V.Invalid = tt
literal_there m (V.Bool b) = tt
literal_there m (V.Int n) = tt
literal_there m (V.Str s) = tt
literal_there m (V.Enum e l) = tt
literal_there m (V.Obj o) = tt
literal_there m (V.Coll' kind shape row) = tt

-- ---- what operations give

of_kind_there : (m : ObjectModel) (o : Option Kind) (t : OclType) → IsTypeOf m t → IfSome (of_kind o t) (IsTypeOf m)
of_kind_there m None t h = tt
of_kind_there m (Some k) t h = coll_there m k t h

pub gives_there : (m : ObjectModel) → IsAcyclic m → (g : Gives) (kind : Kind) (element last : OclType) → IsTypeOf m element → IsTypeOf m last →
    IfSome (gives_type m g kind element last) (IsTypeOf m)
gives_there m down G.Integer kind element last h k = tt
gives_there m down G.Boolean kind element last h k = tt
gives_there m down G.Element kind element last h k = h
gives_there m down G.Same kind element last h k = coll_there m kind element h
gives_there m down G.Joined kind element last h k = coll_there m kind (join m element last) (join_there m down element last h k)
gives_there m down (G.Of l) kind element last h k = coll_there m l element h
gives_there m down G.Union kind element last h k =
    of_kind_there m (union_kind kind (kind_or kind last)) (join m element (element_of last)) (join_there m down element (element_of last) h (element_there m last k))
gives_there m down G.Intersection kind element last h k = of_kind_there m (shared_kind kind (kind_or kind last)) element h
gives_there m down G.Difference kind element last h k =
    of_kind_there m (set_kind kind (kind_or kind last)) (join m element (element_of last)) (join_there m down element (element_of last) h (element_there m last k))
gives_there m down G.Flat kind element last h k = coll_there m kind (innermost element) (innermost_there m element h)

pub last_there : (m : ObjectModel) (args : List Typed) → All (λ a. IsTypeOf m a.of_type) args → IsTypeOf m (last_type args)
last_there m args h =
    map_or_there (IsTypeOf m) (λ a. a.of_type) (slice_get args (length args - 1)) T.Void (get_there (λ a. IsTypeOf m a.of_type) args (length args - 1) h) tt

set_left_there : (m : ObjectModel) (a b : OclType) → IsTypeOf m a → IsTypeOf m b → IsTypeOf m (set_left a b)
set_left_there m T.Void b h k = k
set_left_there m (T.Coll' kind shape row) b h k = h
set_left_there m T.Any b h k = tt
set_left_there m T.Bool b h k = tt
set_left_there m T.Int b h k = tt
set_left_there m T.Str b h k = tt
set_left_there m (T.Enum e) b h k = h
set_left_there m (T.Class c) b h k = h

sum_there : (m : ObjectModel) (op : BinaryOp) (a b : OclType) → IsTypeOf m a → IsTypeOf m b → IsTypeOf m (type_of_sum op a b)
sum_there m (B.Int i) a b h k = tt
sum_there m (B.Str s) a b h k = tt
sum_there m B.Minus a b h k = set_left_there m a b h k
sum_there m B.And a b h k = tt
sum_there m B.Or a b h k = tt
sum_there m B.Xor a b h k = tt
sum_there m B.Implies a b h k = tt
sum_there m B.Eq a b h k = tt
sum_there m B.Ne a b h k = tt

pub operation_there : (m : ObjectModel) (op : WrittenBinary) (made : BinaryOp) (a b : OclType) → IsTypeOf m a → IsTypeOf m b →
    IsTypeOf m (type_of_operation op made a b)
operation_there m op made a b h k = either (IsTypeOf m) (is_sum op) (type_of_sum made a b) T.Bool (sum_there m made a b h k) tt

pub iterator_there : (m : ObjectModel) (op : IterOp) (kind : Kind) (element body : OclType) → IsTypeOf m element → IsTypeOf m body →
    IsTypeOf m (iterator_type op kind element body)
iterator_there m I.Select kind element body h k = coll_there m kind element h
iterator_there m I.Reject kind element body h k = coll_there m kind element h
iterator_there m I.Any kind element body h k = h
iterator_there m I.One kind element body h k = tt
iterator_there m I.ForAll kind element body h k = tt
iterator_there m I.Exists kind element body h k = tt
iterator_there m I.IsUnique kind element body h k = tt
iterator_there m I.CollectNested kind element body h k = coll_there m (collected_kind kind) body k
iterator_there m I.Collect kind element body h k = coll_there m (collected_kind kind) (innermost body) (innermost_there m body k)
iterator_there m I.SortedBy kind element body h k = coll_there m (sorted_kind kind) element h
iterator_there m I.Iterate kind element body h k = k
