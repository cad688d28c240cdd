-- What a model finds by a name is one of its own.
use Rattle.std.proofs.Common.{◌≡◌, ℕ, suc, ◌+◌, ◌<◌, Bool, true, false, ◌&&◌, cond, if◌then◌else◌, List, [], ◌∷◌, length, get_or, All, Option, Some, None, IfSome, refl, sym, subst, arith, ⊎_elim}
use Rattle.std.specs.Prelude.{codes}
use Rattle.std.specs.List.{AllByRecursion, cons_option, enumerate_from, filter_map, position_from, slice_get}
use Rattle.std.specs.Option.{option_and_then, option_map, option_map_or, option_or}
use Rattle.std.proofs.lemmas.Option.{IfSome_then, slice_get_cases}
use Rattle.class_decls.specs.Texts.{first_numbered, same_text}
use Rattle.class_model.specs.declared.numbers.End.{End}
use Rattle.class_model.specs.declared.numbers.End.TheVariants.{First, Second}
use Rattle.class_model.specs.declared.object_model.Association.{Association}
use Rattle.class_model.specs.declared.object_model.AssociationEnd.{AssociationEnd}
use Rattle.class_model.specs.declared.object_model.Enumeration.{Enumeration}
use Rattle.class_model.specs.declared.object_model.ObjectModel.{ObjectModel}
use Rattle.class_model.specs.declared.types.OclType.{OclType}
use Rattle.class_model.specs.declared.types.OclType.TheVariants as T
use Rattle.class_model.specs.Inheritance.{is_a}
use Rattle.class_model.specs.Ends.{end_of}
use Rattle.class_model.specs.Features.{attr, class_named, derived, end_named, enum_named, literal, literal_in, literals_in, only, only_literal, role}
use Rattle.class_model.specs.InRange.{IsInRange, IsTypeOf}
use Rattle.class_model.specs.Multiplicities.{greatest_is_one}
use Rattle.class_model.proofs.TypeCases.{coll_among}
use Rattle.ocl_values.specs.declared.value.Kind.{Kind}
use Rattle.ocl_values.specs.declared.value.Kind.TheVariants.{OrderedSet, Set}
use Rattle.ocl_rules.specs.declared.properties.Feature.{Feature}
use Rattle.ocl_rules.specs.declared.properties.Feature.TheVariants as F
use Rattle.ocl_rules.specs.Properties.{feature_of, type_at, type_at_end}
use Rattle.ocl_scope.specs.Names.{in_collections, plain_named, type_named}

-- of both branches, and of what one of two options holds
pub either : {A : Type 0} (P : A → Type 0) (b : Bool) (x y : A) → P x → P y → P (if b then x else y)
either P true x y h k = h
either P false x y h k = k

pub some_or : {A : Type 0} (P : A → Type 0) (a b : Option A) → IfSome a P → IfSome b P → IfSome (option_or a b) P
some_or P None b h k = k
some_or P (Some x) b h k = h

some_map : {A B : Type 0} (P : B → Type 0) (f : A → B) (o : Option A) → IfSome o (λ x. P (f x)) → IfSome (option_map f o) P
some_map P f None h = tt
some_map P f (Some x) h = h

pub some_if : {A : Type 0} (P : A → Type 0) (b : Bool) (x : A) (o : Option A) → P x → IfSome o P → IfSome (if b then Some x else o) P
some_if P true x o h k = h
some_if P false x o h k = k

-- the place at which a list has something is one of its places
position_by : (b : Bool) (n l : ℕ) (rest : Option ℕ) → IfSome rest (λ q. q < n + 1 + l) → IfSome (cond b (Some n) rest) (λ q. q < n + suc l)
position_by true n l rest h = omega arith
position_by false n l None h = tt
position_by false n l (Some q) h = omega arith

position_below : {A : Type 0} (test : A → Bool) (n : ℕ) (xs : List A) → IfSome (position_from test n xs) (λ q. q < n + length xs)
position_below test n [] = tt
position_below test n (x ∷ xs) = position_by (test x) n (length xs) (position_from test (n + 1) xs) (position_below test (n + 1) xs)

position_there : {A : Type 0} (test : A → Bool) (xs : List A) → IfSome (position_from test 0 xs) (λ q. q < length xs)
position_there test xs = IfSome_then (position_from test 0 xs) (position_below test 0 xs) (λ q h. omega arith)

-- the type of a name
plain_type : (m : ObjectModel) (a b c d e : Bool) →
    IfSome (if a then Some T.Bool else (if b then Some T.Int else (if c then Some T.Str else (if d then Some T.Any else (if e then Some T.Void else None))))) (IsTypeOf m)
plain_type m true b c d e = tt
plain_type m false true c d e = tt
plain_type m false false true d e = tt
plain_type m false false false true e = tt
plain_type m false false false false true = tt
plain_type m false false false false false = tt

plain_named_there : (m : ObjectModel) (name : List ℕ) → IfSome (plain_named name) (IsTypeOf m)
plain_named_there m name =
    plain_type m (same_text name (codes "Boolean")) (same_text name (codes "Integer")) (same_text name (codes "String")) (same_text name (codes "OclAny"))
    (same_text name (codes "OclVoid"))

pub type_named_there : (m : ObjectModel) (name : List ℕ) → IfSome (type_named m name) (IsTypeOf m)
type_named_there m name =
    some_or (IsTypeOf m) (plain_named name) (option_or (option_map T.Enum (enum_named m name)) (option_map T.Class (class_named m name)))
    (plain_named_there m name)
    (some_or (IsTypeOf m) (option_map T.Enum (enum_named m name)) (option_map T.Class (class_named m name))
    (some_map (IsTypeOf m) T.Enum (enum_named m name) (position_there (λ e. same_text e.name name) m.enums))
    (some_map (IsTypeOf m) T.Class (class_named m name) (position_there (λ c. same_text c.name name) m.classes)))

pub collections_there : (m : ObjectModel) (kinds : List Kind) (t : OclType) → IsTypeOf m t → IsTypeOf m (in_collections kinds t)
collections_there m [] t h = h
collections_there m (k ∷ ks) t h =
    subst (λ X. X) (sym (coll_among (length m.classes) (length m.enums) k (in_collections ks t))) (collections_there m ks t h)

-- a feature of a model
abbrev pub IsFeatureOf : ObjectModel → Feature → Type 0
IsFeatureOf m (F.Attr a) = a < length m.attrs
IsFeatureOf m (F.Derived d) = d < length m.derived
IsFeatureOf m (F.Role a end) = a < length m.assocs

numbered : (n : ℕ) (o : Option End) → IfSome {T = ℕ × End} (option_and_then (λ e. Some (n, e)) o) (λ r. r.0 ≡ n)
numbered n None = tt
numbered n (Some e) = refl

number_by : (n l : ℕ) (o rest : Option (ℕ × End)) → IfSome {T = ℕ × End} o (λ r. r.0 ≡ n) → IfSome {T = ℕ × End} rest (λ r. r.0 < n + 1 + l) → IfSome {T = ℕ × End} (option_or o rest) (λ r. r.0 < n + suc l)
number_by n l None None h k = tt
number_by n l None (Some r) h k = omega arith
number_by n l (Some r) rest h k = omega arith

roles_below : (m : ObjectModel) (c : ℕ) (name : List ℕ) (n : ℕ) (xs : List Association) →
    IfSome {T = ℕ × End} (first_numbered (λ number a. option_and_then (λ e. Some (number, e)) (end_named m c name a)) n xs) (λ r. r.0 < n + length xs)
roles_below m c name n [] = tt
roles_below m c name n (x ∷ xs) = number_by n (length xs) (option_and_then (λ e. Some (n, e)) (end_named m c name x))
    (first_numbered (λ number a. option_and_then (λ e. Some (number, e)) (end_named m c name a)) (n + 1) xs) (numbered n (end_named m c name x)) (roles_below m c name (n + 1) xs)

role_there : (m : ObjectModel) (c : ℕ) (name : List ℕ) → IfSome {T = ℕ × End} (role m c name) (λ r. r.0 < length m.assocs)
role_there m c name = IfSome_then (role m c name) (roles_below m c name 0 m.assocs) (λ r h. omega arith)

pub feature_there : (m : ObjectModel) (t : OclType) (name : List ℕ) → IfSome (feature_of m t name) (IsFeatureOf m)
feature_there m (T.Class c) name =
    some_or (IsFeatureOf m) (option_map F.Attr (attr m c name))
    (option_or (option_map F.Derived (derived m c name)) (option_map (λ r. F.Role r.0 r.1) (role m c name))) (some_map (IsFeatureOf m) F.Attr (attr m c name) (position_there (λ a. is_a m c a.class && same_text a.name name) m.attrs))
    (some_or (IsFeatureOf m) (option_map F.Derived (derived m c name)) (option_map (λ r. F.Role r.0 r.1) (role m c name))
    (some_map (IsFeatureOf m) F.Derived (derived m c name) (position_there (λ a. is_a m c a.class && same_text a.name name) m.derived))
    (some_map (IsFeatureOf m) (λ r. F.Role r.0 r.1) (role m c name) (role_there m c name)))
feature_there m T.Any name = tt
feature_there m T.Void name = tt
feature_there m T.Bool name = tt
feature_there m T.Int name = tt
feature_there m T.Str name = tt
feature_there m (T.Enum e) name = tt
feature_there m (T.Coll' kind shape row) name = tt

-- what holds of each element holds of the one of a number
pub at_number : {A B : Type 0} (P : B → Type 0) (f : A → B) (xs : List A) (i : ℕ) (d : B) → i < length xs → All (λ x. P (f x)) xs →
    P (option_map_or f (slice_get xs i) d)
at_number P f xs i d below all =
    ⊎_elim
    (λ s. subst (λ o. P (option_map_or f o d)) (sym s.2) (subst (λ x. P (f x)) s.3 (all i s.0 below)))
    (λ s. let past = s.0 in absurd (omega (arith, past, below)))
    ((slice_get_cases xs i).1)

-- what stands at an end
pub coll_there : (m : ObjectModel) (k : Kind) (t : OclType) → IsTypeOf m t → IsTypeOf m (T.Coll k t)
coll_there m k t h = subst (λ X. X) (sym (coll_among (length m.classes) (length m.enums) k t)) h

type_at_there : (m : ObjectModel) (end : AssociationEnd) → end.class < length m.classes → IsTypeOf m (type_at end)
type_at_there m end h =
    either (IsTypeOf m) (greatest_is_one end.multiplicity) (T.Class end.class)
    (T.Coll (if end.is_ordered then OrderedSet else Set) (T.Class end.class)) h (coll_there m (if end.is_ordered then OrderedSet else Set) (T.Class end.class) h)

ends_there : (m : ObjectModel) → IsInRange m → (e : End) → All (λ a. IsTypeOf m (type_at (end_of a e))) m.assocs
ends_there m range First = λ k d i. type_at_there m (get_or m.assocs k d).first (range.first_ends k d i)
ends_there m range Second = λ k d i. type_at_there m (get_or m.assocs k d).second (range.second_ends k d i)

pub end_type_there : (m : ObjectModel) → IsInRange m → (a : ℕ) (e : End) → a < length m.assocs → IsTypeOf m (type_at_end m a e)
end_type_there m range a e below = at_number (IsTypeOf m) (λ association. type_at (end_of association e)) m.assocs a (T.Class 0) below (ends_there m range e)

-- a literal of an enumeration
abbrev names_of : List Enumeration → ℕ → List (List ℕ)
names_of es e = option_map_or (λ d. d.literals) (slice_get es e) []

literal_by : (es : List Enumeration) (e : ℕ) (name : List ℕ) (o : Option Enumeration) → slice_get es e ≡ o →
    IfSome (option_and_then (λ x. literal_in x name) o) (λ l. l < length (option_map_or (λ d. d.literals) o []))
literal_by es e name None is = tt
literal_by es e name (Some x) is = position_there (λ text. same_text text name) x.literals

pub literal_there : (m : ObjectModel) (e : ℕ) (name : List ℕ) → IfSome (literal m e name) (λ l. (e < length m.enums) × (l < length (names_of m.enums e)))
literal_there m e name =
    ⊎_elim
    (λ s. subst (λ o. IfSome (option_and_then (λ x. literal_in x name) o) (λ l. (e < length m.enums) × (l < length (option_map_or (λ d. d.literals) o [])))) (sym s.2)
    (IfSome_then (literal_in s.0 name) (position_there (λ text. same_text text name) (s.0).literals) (λ l h. (s.1, h))))
    (λ s. subst (λ o. IfSome (option_and_then (λ x. literal_in x name) o) (λ l. (e < length m.enums) × (l < length (option_map_or (λ d. d.literals) o [])))) (sym s.1) tt)
    ((slice_get_cases m.enums e).1)

-- a literal of one of some enumerations, of which the first has this number
abbrev IsLiteralFrom : ℕ → List Enumeration → ℕ × ℕ → Type 0
IsLiteralFrom n es r = (k : ℕ) × (r.0 ≡ n + k) × (k < length es) × (r.1 < length (names_of es k))

more_literals : (n : ℕ) (e : Enumeration) (es : List Enumeration) (rs : List (ℕ × ℕ)) → AllByRecursion (IsLiteralFrom (n + 1) es) rs →
    AllByRecursion (IsLiteralFrom n (e ∷ es)) rs
more_literals n e es [] h = tt
more_literals n e es (r ∷ rs) h = ((suc h.0.0, omega (arith, h.0.1), omega (arith, h.0.2), h.0.3), more_literals n e es rs h.1)

here_or : (n : ℕ) (e : Enumeration) (es : List Enumeration) (o : Option ℕ) (rs : List (ℕ × ℕ)) → IfSome o (λ l. l < length e.literals) →
    AllByRecursion (IsLiteralFrom n (e ∷ es)) rs → AllByRecursion (IsLiteralFrom n (e ∷ es)) (cons_option (option_and_then (λ l. Some (n, l)) o) rs)
here_or n e es None rs h k = k
here_or n e es (Some l) rs h k = ((0, omega arith, omega arith, h), k)

literals_from : (n : ℕ) (es : List Enumeration) (name : List ℕ) → AllByRecursion (IsLiteralFrom n es)
    (filter_map (λ p. option_and_then (λ number. Some (p.0, number)) (literal_in p.1 name)) (enumerate_from n es))
literals_from n [] name = tt
literals_from n (e ∷ es) name =
    here_or n e es (literal_in e name)
    (filter_map (λ p. option_and_then (λ number. Some (p.0, number)) (literal_in p.1 name)) (enumerate_from (n + 1) es)) (position_there (λ text. same_text text name) e.literals) (more_literals n e es
    (filter_map (λ p. option_and_then (λ number. Some (p.0, number)) (literal_in p.1 name)) (enumerate_from (n + 1) es)) (literals_from (n + 1) es name))

only_one : {A : Type 0} (P : A → Type 0) (xs : List A) → AllByRecursion P xs → IfSome (only xs) P
only_one P [] h = tt
only_one P (x ∷ []) h = h.0
only_one P (x ∷ y ∷ rest) h = tt

pub only_literal_there : (m : ObjectModel) (name : List ℕ) → IfSome (only_literal m name) (λ r. (r.0 < length m.enums) × (r.1 < length (names_of m.enums r.0)))
only_literal_there m name =
    IfSome_then (only_literal m name) (only_one (IsLiteralFrom 0 m.enums) (literals_in m.enums name) (literals_from 0 m.enums name))
    (λ r h. let same : h.0 ≡ r.0 = omega (arith, h.1) in
    (subst (λ k. k < length m.enums) same h.2, subst (λ k. r.1 < length (names_of m.enums k)) same h.3))
