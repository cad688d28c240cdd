-- The numbers in the model of well-formed declarations are in range.
use Rattle.std.proofs.Common.{◌≡◌, ℕ, zero, suc, ◌+◌, ◌*◌, ◌<◌, ◌≤◌, ◌^◌, Bool, true, false, not, ◌&&◌, ◌||◌, cond, nat_eq, nat_lt, List, [], ◌∷◌, ◌++◌, length, get_or, take, map, filter, slice_get, unwrap_or, Option, Some, None, All, Bor, refl, sym, ap, ◌∙◌, subst, arith, true≢false, ⊎_elim, length-append}
use Rattle.std.specs.List.{AllByRecursion, cons_option, enumerate_from, filter_map, flat_map, list_any, position_from}
use Rattle.std.specs.Map.{lookup}
use Rattle.std.specs.Option.{ForSome, option_and_then, option_map, option_map_or, option_or}
use Rattle.std.proofs.lemmas.Bool.Decides.{nat_tests}
use Rattle.std.proofs.lemmas.List.{length-map}
use Rattle.std.proofs.lemmas.List.FromFn.{length-enumerate_from}
use Rattle.std.proofs.lemmas.List.Elements.{recursion_from_All}
use Rattle.ocl_values.specs.declared.value.Kind.{Kind}
use Rattle.use_text.specs.declared.place.Place.{Place}
use Rattle.class_decls.specs.declared.decls.AssocDecl.{AssocDecl}
use Rattle.class_decls.specs.declared.decls.ClassDecl.{ClassDecl}
use Rattle.class_decls.specs.declared.decls.Decls.{Decls}
use Rattle.class_decls.specs.declared.decls.EnumDecl.{EnumDecl}
use Rattle.class_decls.specs.declared.decls.Name.{Name}
use Rattle.class_decls.specs.declared.decls.TypeDecl.{TypeDecl}
use Rattle.class_decls.specs.Entries.{first_of, first_place}
use Rattle.class_decls.specs.Limits.{excess_literal}
use Rattle.class_decls.specs.References.{class_references, is_class, is_type, places_outside, type_references}
use Rattle.class_decls.specs.Texts.{first_given, first_numbered, same_text}
use Rattle.class_decls.proofs.Numbered.{all_taken}
use Rattle.class_rules.specs.Ancestors.{IsDownward, parent_numbers}
use Rattle.class_rules.specs.Numbering.{class_at, numbering, parent_places, row_at}
use Rattle.class_rules.specs.WellFormed.{broken_rule}
use Rattle.class_rules.proofs.Acyclic.{all_numbered}
use Rattle.class_rules.proofs.Ordered.{downward, numbers_low}
use Rattle.class_model.specs.declared.object_model.Attribute.{Attribute}
use Rattle.class_model.specs.declared.types.OclType.{OclType}
use Rattle.class_model.specs.declared.types.OclType.TheVariants as T
use Rattle.class_model.specs.InRange.{IsInRange, IsTypeAmong, IsTypeOf}
use Rattle.class_model.specs.Inheritance.{IsAcyclic, parents_of}
use Rattle.class_model.proofs.TypeCases.{coll_among}
use Rattle.class_model.specs.declared.object_model.ObjectModel.{ObjectModel}
use Rattle.class_builder.specs.Models.{association, attribute, class_by, class_number, derived_in, enumeration, model_of, named_in, names_in, nested, operation, operations_in, ordered, parameter, plain_names, stored_in, type_of}
use Rattle.class_builder.proofs.Unbroken.{acyclic, few_assocs, few_classes, few_literals, known, map_none, none_left, none_right}

pub short : {A : Type 0} (xs : List A) (n : ℕ) → slice_get xs n ≡ None → length xs ≤ n
short [] n e = omega arith
short (x ∷ xs) zero e = cc
short (x ∷ xs) (suc n) e = let h = short xs n e in omega arith

at_number : {A : Type 0} (P : A → Type 0) (x : A) (xs : List A) → P x → All P xs → (k : ℕ) (d : A) → k < length (x ∷ xs) → P (get_or (x ∷ xs) k d)
at_number P x xs h g zero d i = h
at_number P x xs h g (suc k) d i = g k d (omega arith)

-- of each element, by recursion and by its number
pub by_number : {A : Type 0} (P : A → Type 0) (xs : List A) → AllByRecursion P xs → All P xs
by_number P [] h = λ k d i. absurd (omega arith)
by_number P (x ∷ xs) h = λ k d i. at_number P x xs h.0 (by_number P xs h.1) k d i

each_given : {A B : Type 0} (f : A → Option B) (xs : List A) → first_given f xs ≡ None → AllByRecursion (λ x. f x ≡ None) xs
each_given f [] e = tt
each_given f (x ∷ xs) e = (none_left (f x) (first_given f xs) e, each_given f xs (none_right (f x) (first_given f xs) e))

pub all_map : {A B : Type 0} (P : B → Type 0) (f : A → B) (xs : List A) → AllByRecursion (λ x. P (f x)) xs → AllByRecursion P (map f xs)
all_map P f [] h = tt
all_map P f (x ∷ xs) h = (h.0, all_map P f xs h.1)

pub all_of : {A : Type 0} (P : A → Type 0) → ((x : A) → P x) → (xs : List A) → AllByRecursion P xs
all_of P h [] = tt
all_of P h (x ∷ xs) = (h x, all_of P h xs)

pub all_with : {A : Type 0} (P Q : A → Type 0) → ((x : A) → P x → Q x) → (xs : List A) → AllByRecursion P xs → AllByRecursion Q xs
all_with P Q f [] h = tt
all_with P Q f (x ∷ xs) h = (f x h.0, all_with P Q f xs h.1)

all_append : {A : Type 0} (P : A → Type 0) (xs ys : List A) → AllByRecursion P xs → AllByRecursion P ys → AllByRecursion P (xs ++ ys)
all_append P [] ys h g = g
all_append P (x ∷ xs) ys h g = (h.0, all_append P xs ys h.1 g)

all_left : {A : Type 0} (P : A → Type 0) (xs ys : List A) → AllByRecursion P (xs ++ ys) → AllByRecursion P xs
all_left P [] ys h = tt
all_left P (x ∷ xs) ys h = (h.0, all_left P xs ys h.1)

all_right : {A : Type 0} (P : A → Type 0) (xs ys : List A) → AllByRecursion P (xs ++ ys) → AllByRecursion P ys
all_right P [] ys h = h
all_right P (x ∷ xs) ys h = all_right P xs ys h.1

-- of what is made of each element and its number
all_from : {A B : Type 0} (P : B → Type 0) (f : ℕ → A → List B) (n : ℕ) (xs : List A) (m : ℕ) → m ≡ n + length xs →
    ((i : ℕ) (x : A) → i < m → AllByRecursion P (f i x)) →
    AllByRecursion P (flat_map (λ p. f p.0 p.1) (enumerate_from n xs))
all_from P f n [] m e h = tt
all_from P f n (x ∷ xs) m e h =
    all_append P (f n x) (flat_map (λ p. f p.0 p.1) (enumerate_from (n + 1) xs)) (h n x (omega arith)) (all_from P f (n + 1) xs m (omega arith) h)

pub all_numbered_parts : {A B : Type 0} (P : B → Type 0) (f : ℕ → A → List B) (xs : List A) → ((i : ℕ) (x : A) → i < length xs → AllByRecursion P (f i x)) →
    AllByRecursion P (flat_map (λ p. f p.0 p.1) (enumerate_from 0 xs))
all_numbered_parts P f xs h = all_from P f 0 xs (length xs) (omega arith) h

each_from : {A B : Type 0} (P : B → Type 0) (f : ℕ × A → B) (n : ℕ) (xs : List A) (m : ℕ) → m ≡ n + length xs → ((i : ℕ) (x : A) → i < m → P (f (i, x))) →
    AllByRecursion P (map f (enumerate_from n xs))
each_from P f n [] m e h = tt
each_from P f n (x ∷ xs) m e h = (h n x (omega arith), each_from P f (n + 1) xs m (omega arith) h)

-- how much is made of classes that each give little
pub sum_below : {A B : Type 0} (k : ℕ) (f : ℕ → A → List B) (n : ℕ) (xs : List A) → AllByRecursion (λ x. (i : ℕ) → length (f i x) ≤ k) xs →
    length (flat_map (λ p. f p.0 p.1) (enumerate_from n xs)) ≤ k * length xs
sum_below k f n [] h = omega arith
sum_below k f n (x ∷ xs) h =
    let a = length-append (f n x) (flat_map (λ p. f p.0 p.1) (enumerate_from (n + 1) xs)) in
    let b : length (f n x) ≤ k = h.0 n in
    let c = sum_below k f (n + 1) xs h.1 in
    let d : k * suc (length xs) ≡ k + k * length xs = grind arith in
    omega arith

some_at : {A : Type 0} (xs : List A) (n : ℕ) → n < length xs → (x : A) × (slice_get xs n ≡ Some x)
some_at [] n h = absurd (omega arith)
some_at (x ∷ xs) zero h = (x, refl)
some_at (x ∷ xs) (suc n) h = some_at xs n (omega arith)

more_found : {A : Type 0} (o : Option A) (xs : List A) (n : ℕ) → (x : A) × (o ≡ Some x) → length xs ≡ n → length (cons_option o xs) ≡ suc n
more_found None xs n h e = cc (h.1)
more_found (Some x) xs n h e = ap suc e

found_more : {A : Type 0} (P : A → Type 0) (o : Option A) (xs : List A) → ((x : A) → o ≡ Some x → P x) → AllByRecursion P xs → AllByRecursion P
    (cons_option o xs)
found_more P None xs h g = g
found_more P (Some x) xs h g = (h x refl, g)

found_below : (b : Bool) (n q k : ℕ) (o : Option ℕ) → cond b (Some n) o ≡ Some q → (o ≡ Some q → q < n + suc k) → q < n + suc k
found_below true n q k o e f = let h : n ≡ q = cc in omega arith
found_below false n q k o e f = f e

below_or : (o : Option ℕ) (n : ℕ) → 0 < n → ((q : ℕ) → o ≡ Some q → q < n) → unwrap_or o 0 < n
below_or None n h f = h
below_or (Some q) n h f = f q refl

chosen_all : {A : Type 0} (P : A → Type 0) (b : Bool) (x : A) (o : Option A) (d : A) → P x → P (unwrap_or o d) → P (unwrap_or (cond b (Some x) o) d)
chosen_all P true x o d h g = h
chosen_all P false x o d h g = g

known_more : (f : List ℕ → Bool) (n : Name) (ns : List Name) (b : Bool) → f n.text ≡ b → map (λ n. n.place)
    (cond (not b) (n ∷ filter (λ n. not (f n.text)) ns) (filter (λ n. not (f n.text)) ns)) ≡ [] →
    (places_outside f ns ≡ [] → AllByRecursion (λ n. f n.text ≡ true) ns) → (f n.text ≡ true) × AllByRecursion (λ n. f n.text ≡ true) ns
known_more f n ns true e h rest = (e, rest h)
known_more f n ns false e h rest = cc

fewer_by : {A : Type 0} (b : Bool) (x : A) (xs : List A) (n : ℕ) → length xs ≤ n → length (cond b (x ∷ xs) xs) ≤ suc n
fewer_by true x xs n h = omega arith
fewer_by false x xs n h = omega arith

fewer_kept : {A : Type 0} (test : A → Bool) (xs : List A) → length (filter test xs) ≤ length xs
fewer_kept test [] = omega arith
fewer_kept test (x ∷ xs) = fewer_by (test x) x (filter test xs) (length xs) (fewer_kept test xs)

found_length : {A : Type 0} (cs : List A) (ns : List ℕ) → AllByRecursion (λ n. n < length cs) ns → length (filter_map (slice_get cs) ns) ≡ length ns
found_length cs [] h = refl
found_length cs (n ∷ ns) h = more_found (slice_get cs n) (filter_map (slice_get cs) ns) (length ns) (some_at cs n h.0) (found_length cs ns h.1)

found_all : {A : Type 0} (P : A → Type 0) (cs : List A) → ((i : ℕ) (x : A) → slice_get cs i ≡ Some x → P x) → (ns : List ℕ) → AllByRecursion P
    (filter_map (slice_get cs) ns)
found_all P cs h [] = tt
found_all P cs h (n ∷ ns) = found_more P (slice_get cs n) (filter_map (slice_get cs) ns) (h n) (found_all P cs h ns)

position_below : {A : Type 0} (test : A → Bool) (n : ℕ) (xs : List A) (q : ℕ) → position_from test n xs ≡ Some q → q < n + length xs
position_below test n [] q e = cc
position_below test n (x ∷ xs) q e = found_below (test x) n q (length xs) (position_from test (n + 1) xs) e
    (λ f. let h = position_below test (n + 1) xs q f in omega arith)

number_below : (classes : List ClassDecl) (text : List ℕ) → 0 < length classes → class_number classes text < length classes
number_below classes text h = below_or (position_from (λ d. same_text d.name.text text) 0 classes) (length classes) h
    (λ q e. let k = position_below (λ d. same_text d.name.text text) 0 classes q e in omega arith)

-- the names of types stand for types of the model
lookup_all : {A : Type 0} (P : A → Type 0) (test : List ℕ → Bool) (d : A) → P d → (xs : List (List ℕ × A)) → AllByRecursion (λ x. P x.1) xs → P
    (unwrap_or (lookup test xs) d)
lookup_all P test d p [] h = p
lookup_all P test d p (x ∷ xs) h = chosen_all P (test x.0) x.1 (lookup test xs) d h.0 (lookup_all P test d p xs h.1)

nested_among : (c e : ℕ) (kinds : List Kind) (t : OclType) → IsTypeAmong c e t → IsTypeAmong c e (nested kinds t)
nested_among c e [] t h = h
nested_among c e (k ∷ ks) t h = subst (λ X. X) (sym (coll_among c e k (nested ks t))) (nested_among c e ks t h)

names_among : (enums : List EnumDecl) (classes : List ClassDecl) → AllByRecursion (λ x. IsTypeAmong (length classes) (length enums) x.1)
    (names_in enums classes)
names_among enums classes =
    let P : List ℕ × OclType → Type 0 = λ x. IsTypeAmong (length classes) (length enums) x.1 in
    all_append P (plain_names ++ map (λ p. (p.1.name.text, T.Enum p.0)) (enumerate_from 0 enums))
    (map (λ p. (p.1.name.text, T.Class p.0)) (enumerate_from 0 classes))
    (all_append P plain_names (map (λ p. (p.1.name.text, T.Enum p.0)) (enumerate_from 0 enums)) (tt, (tt, (tt, (tt, (tt, tt)))))
    (each_from P (λ p. (p.1.name.text, T.Enum p.0)) 0 enums (length enums) (omega arith) (λ i x h. h)))
    (each_from P (λ p. (p.1.name.text, T.Class p.0)) 0 classes (length classes) (omega arith) (λ i x h. h))

type_among : (ds : Decls) (t : TypeDecl) → IsTypeAmong (length (ordered ds)) (length ds.enums) (type_of ds t)
type_among ds t =
    nested_among (length (ordered ds)) (length ds.enums) t.kinds (unwrap_or (named_in ds.enums (ordered ds) t.name.text) T.Any)
    (lookup_all (IsTypeAmong (length (ordered ds)) (length ds.enums)) (λ name. same_text name t.name.text) T.Any tt (names_in ds.enums (ordered ds))
    (names_among ds.enums (ordered ds)))

-- each class has the parents that it has by number
row_low : (pn : List (List ℕ)) → IsDownward pn → (n : ℕ) (xs : List ClassDecl) (c k : ℕ) → k ≡ n + c →
    AllByRecursion (λ p. p < k) (row_at (map (λ x. x.parents) (map (λ p. class_by pn p.0 p.1) (enumerate_from n xs))) c)
row_low pn down n [] c k e = tt
row_low pn down n (x ∷ xs) zero k e = let z : n ≡ k = omega arith in subst (λ j. AllByRecursion (λ p. p < j) (row_at pn n)) z (down n)
row_low pn down n (x ∷ xs) (suc c) k e = row_low pn down (n + 1) xs c k (omega arith)

nothing_first : (ps : List Place) → first_place ps ≡ None → ps ≡ []
nothing_first [] e = refl
nothing_first (p ∷ ps) e = cc

front_nothing : {A : Type 0} (xs ys : List A) → xs ++ ys ≡ [] → xs ≡ []
front_nothing [] ys e = refl
front_nothing (x ∷ xs) ys e = cc

all_known : (f : List ℕ → Bool) (names : List Name) → places_outside f names ≡ [] → AllByRecursion (λ n. f n.text ≡ true) names
all_known f [] e = tt
all_known f (n ∷ ns) e = known_more f n ns (f n.text) refl e (all_known f ns)

some_class : (text : List ℕ) (classes : List ClassDecl) → list_any (λ c. same_text c.name.text text) classes ≡ true → 0 < length classes
some_class text [] e = absurd (true≢false (sym e))
some_class text (c ∷ cs) e = omega arith

ends_known : (f : List ℕ → Bool) (assocs : List AssocDecl) → AllByRecursion (λ n. f n.text ≡ true)
    (flat_map (λ a. a.first.class ∷ a.second.class ∷ []) assocs) →
    AllByRecursion (λ a. f a.first.class.text ≡ true) assocs
ends_known f [] h = tt
ends_known f (a ∷ rest) h = (h.0, ends_known f rest h.1.1)

module _ (ds : Decls) (ok : broken_rule ds ≡ None) where
  places_length : length (parent_places ds) ≡ length ds.classes
  places_length = length-map ds.classes (λ c. filter_map (λ p. class_at ds p.text) c.parents)

  -- each class has a number
  pub as_many : length (ordered ds) ≡ length ds.classes
  as_many =
      found_length ds.classes (numbering (parent_places ds))
      (subst (λ n. AllByRecursion (λ i. i < n) (numbering (parent_places ds))) places_length
      (recursion_from_All (λ i. i < length (parent_places ds)) (numbering (parent_places ds)) (numbers_low (parent_places ds))))
      ∙ (all_numbered ds (acyclic ds ok)).as_many

  pub few : length (ordered ds) ≤ 200
  few = let e = as_many in let h = short ds.classes 200 (map_none (λ c. c.name.place) (slice_get ds.classes 200) (few_classes ds ok)) in omega arith

  pub few_decls : (decls items : List (Bor ClassDecl)) (h : Decls) → decls ≡ items → map (λ c. c.now) items ≡ ordered h → h ≡ ds → length decls ≤ 200
  few_decls decls items h e f g =
      let a = length-map items (λ c. c.now) in
      let b : length (map (λ c. c.now) items) ≡ length (ordered ds) = ap length (f ∙ ap ordered g) in
      let c : length decls ≡ length items = ap length e in
      let d = few in
      omega arith

  literals_split : (first_given excess_literal (take 200 ds.enums) ≡ None) × (slice_get ds.enums 200 ≡ None)
  literals_split =
      let e = few_literals ds ok in (
        none_left (first_given excess_literal (take 200 ds.enums)) (option_map (λ e. e.name.place) (slice_get ds.enums 200)) e,
        map_none (λ e. e.name.place) (slice_get ds.enums 200)
            (none_right (first_given excess_literal (take 200 ds.enums)) (option_map (λ e. e.name.place) (slice_get ds.enums 200)) e),
      )

  pub few_enums : length ds.enums ≤ 200
  few_enums = short ds.enums 200 literals_split.1

  few_in_enums : AllByRecursion (λ e. length e.literals ≤ 1000) ds.enums
  few_in_enums =
      all_with (λ e. excess_literal e ≡ None) (λ e. length e.literals ≤ 1000)
      (λ e h. short e.literals 1000 (map_none (λ n. n.place) (slice_get e.literals 1000) h)) ds.enums
      (each_given excess_literal ds.enums (subst (λ l. first_given excess_literal l ≡ None) (all_taken ds.enums 200 few_enums) literals_split.0))

  ends_some : AllByRecursion (λ a. 0 < length (ordered ds)) ds.assocs
  ends_some =
      let outside = front_nothing (places_outside (is_class ds) (class_references ds)) (places_outside (is_type ds) (type_references ds))
      (nothing_first (places_outside (is_class ds) (class_references ds) ++ places_outside (is_type ds) (type_references ds)) (known ds ok)) in
      let refs : AllByRecursion (λ n. is_class ds n.text ≡ true) (class_references ds) = all_known (is_class ds) (class_references ds) outside in
      let parents = flat_map (λ c. c.parents) ds.classes in
      let ends = flat_map (λ a. a.first.class ∷ a.second.class ∷ []) ds.assocs in
      let conds = map (λ c. c.class) ds.conds in
      let e = as_many in
      all_with (λ a. is_class ds a.first.class.text ≡ true) (λ a. 0 < length (ordered ds))
      (λ a h. let k = some_class a.first.class.text ds.classes h in omega arith) ds.assocs
      (ends_known (is_class ds) ds.assocs (all_right (λ n. is_class ds n.text ≡ true) parents ends
      (all_left (λ n. is_class ds n.text ≡ true) (parents ++ ends) conds refs)))

  -- what each class declares is little
  pub parts_below : {B : Type 0} (f : ℕ → ClassDecl → List B) → ((i n : ℕ) (d : ClassDecl) → slice_get ds.classes i ≡ Some d → length (f n d) ≤ 64) →
      length (flat_map (λ p. f p.0 p.1) (enumerate_from 0 (ordered ds))) < 2 ^ 32
  parts_below f h =
      let a = sum_below 64 f 0 (ordered ds) (found_all (λ x. (i : ℕ) → length (f i x) ≤ 64) ds.classes (λ i x e n. h i n x e) (numbering (parent_places ds))) in
      let b = few in
      let c : 64 * length (ordered ds) ≤ 12800 = omega arith in
      omega arith

  abbrev m : ObjectModel
  m = model_of ds

  class_count : length m.classes ≡ length (ordered ds)
  class_count = length-map (enumerate_from 0 (ordered ds)) (λ p. class_by (parent_numbers ds) p.0 p.1) ∙ length-enumerate_from 0 (ordered ds)

  enum_count : length m.enums ≡ length ds.enums
  enum_count = length-map ds.enums enumeration

  typed_well : (t : TypeDecl) → IsTypeOf m (type_of ds t)
  typed_well t = subst (λ n. IsTypeAmong n (length m.enums) (type_of ds t)) (sym class_count)
      (subst (λ n. IsTypeAmong (length (ordered ds)) n (type_of ds t)) (sym enum_count) (type_among ds t))

  own_class : (i : ℕ) → i < length (ordered ds) → i < length m.classes
  own_class i h = let e = class_count in omega arith

  result_well : (o : Option TypeDecl) → ForSome (option_map (type_of ds) o) (IsTypeOf m)
  result_well None = λ x e. cc
  result_well (Some t) = λ x e. let k : type_of ds t ≡ x = cc in subst (IsTypeOf m) k (typed_well t)

  number_well : AllByRecursion (λ a. 0 < length (ordered ds)) ds.assocs → (end_name : AssocDecl → List ℕ) → AllByRecursion
      (λ a. class_number (ordered ds) (end_name a) < length m.classes) ds.assocs
  number_well h end_name =
      all_with (λ a. 0 < length (ordered ds)) (λ a. class_number (ordered ds) (end_name a) < length m.classes)
      (λ a k. let n = number_below (ordered ds) (end_name a) k in let e = class_count in omega arith) ds.assocs h

  -- the numbers in the model are in range, where each class declares few attributes and operations
  pub ranges : ((i : ℕ) (d : ClassDecl) → slice_get ds.classes i ≡ Some d → length d.attrs ≤ 64) →
      ((i : ℕ) (d : ClassDecl) → slice_get ds.classes i ≡ Some d → length d.ops ≤ 64) → IsInRange m
  ranges few_attrs few_ops = record {
    small = record {
      classes = let e = class_count in let h = few in omega arith;
      enums = let e = enum_count in let h = few_enums in omega arith;
      literals = by_number (λ e. length e.literals ≤ 1000) m.enums (all_map (λ e. length e.literals ≤ 1000) enumeration ds.enums
          (all_with (λ e. length e.literals ≤ 1000) (λ e. length (map (λ n. n.text) e.literals) ≤ 1000)
          (λ e h. let l = length-map e.literals (λ n. n.text) in omega arith) ds.enums few_in_enums));
      attrs = parts_below (stored_in (type_of ds)) (λ i n d e. let a = few_attrs i d e in let l = length-map (filter (λ x. not x.is_derived) d.attrs)
          (attribute (type_of ds) n) in let k = fewer_kept (λ x. not x.is_derived) d.attrs in omega arith);
      derived = parts_below (derived_in (type_of ds)) (λ i n d e. let a = few_attrs i d e in let l = length-map (filter (λ x. x.is_derived) d.attrs)
          (attribute (type_of ds) n) in let k = fewer_kept (λ x. x.is_derived) d.attrs in omega arith);
      ops = parts_below (operations_in (type_of ds)) (λ i n d e. let a = few_ops i d e in let l = length-map d.ops (operation (type_of ds) n) in omega arith);
      assocs = let l = length-map ds.assocs (association (class_number (ordered ds))) in let h = short ds.assocs 200
          (map_none (λ a. a.name.place) (slice_get ds.assocs 200) (few_assocs ds ok)) in omega arith;
    };
    acyclic = λ c. row_low (parent_numbers ds) (downward ds) 0 (ordered ds) c c (omega arith);
    attr_classes = by_number (λ a. a.class < length m.classes) m.attrs
        (all_numbered_parts (λ a. a.class < length m.classes) (stored_in (type_of ds)) (ordered ds)
        (λ i d h. all_map (λ a. a.class < length m.classes) (attribute (type_of ds) i) (filter (λ x. not x.is_derived) d.attrs)
        (all_of (λ x. i < length m.classes) (λ x. own_class i h) (filter (λ x. not x.is_derived) d.attrs))));
    attr_types = by_number (λ a. IsTypeOf m a.of_type) m.attrs
        (all_numbered_parts (λ a. IsTypeOf m a.of_type) (stored_in (type_of ds)) (ordered ds)
        (λ i d h. all_map (λ a. IsTypeOf m a.of_type) (attribute (type_of ds) i) (filter (λ x. not x.is_derived) d.attrs)
        (all_of (λ x. IsTypeOf m (type_of ds x.of_type)) (λ x. typed_well x.of_type) (filter (λ x. not x.is_derived) d.attrs))));
    derived_classes = by_number (λ a. a.class < length m.classes) m.derived
        (all_numbered_parts (λ a. a.class < length m.classes) (derived_in (type_of ds)) (ordered ds)
        (λ i d h. all_map (λ a. a.class < length m.classes) (attribute (type_of ds) i) (filter (λ x. x.is_derived) d.attrs)
        (all_of (λ x. i < length m.classes) (λ x. own_class i h) (filter (λ x. x.is_derived) d.attrs))));
    derived_types = by_number (λ a. IsTypeOf m a.of_type) m.derived
        (all_numbered_parts (λ a. IsTypeOf m a.of_type) (derived_in (type_of ds)) (ordered ds)
        (λ i d h. all_map (λ a. IsTypeOf m a.of_type) (attribute (type_of ds) i) (filter (λ x. x.is_derived) d.attrs)
        (all_of (λ x. IsTypeOf m (type_of ds x.of_type)) (λ x. typed_well x.of_type) (filter (λ x. x.is_derived) d.attrs))));
    op_classes = by_number (λ o. o.class < length m.classes) m.ops
        (all_numbered_parts (λ o. o.class < length m.classes) (operations_in (type_of ds)) (ordered ds)
        (λ i d h. all_map (λ o. o.class < length m.classes) (operation (type_of ds) i) d.ops (all_of (λ x. i < length m.classes) (λ x. own_class i h) d.ops)));
    param_types = by_number (λ o. All (λ p. IsTypeOf m p.of_type) o.params) m.ops
        (all_numbered_parts (λ o. All (λ p. IsTypeOf m p.of_type) o.params) (operations_in (type_of ds)) (ordered ds)
        (λ i d h. all_map (λ o. All (λ p. IsTypeOf m p.of_type) o.params) (operation (type_of ds) i) d.ops
        (all_of (λ x. All (λ p. IsTypeOf m p.of_type) (map (parameter (type_of ds)) x.params))
        (λ x. by_number (λ p. IsTypeOf m p.of_type) (map (parameter (type_of ds)) x.params)
        (all_map (λ p. IsTypeOf m p.of_type) (parameter (type_of ds)) x.params
        (all_of (λ p. IsTypeOf m (type_of ds p.of_type)) (λ p. typed_well p.of_type) x.params))) d.ops)));
    result_types = by_number (λ o. ForSome o.result_type (IsTypeOf m)) m.ops
        (all_numbered_parts (λ o. ForSome o.result_type (IsTypeOf m)) (operations_in (type_of ds)) (ordered ds)
        (λ i d h. all_map (λ o. ForSome o.result_type (IsTypeOf m)) (operation (type_of ds) i) d.ops
        (all_of (λ x. ForSome (option_map (type_of ds) x.result_type) (IsTypeOf m)) (λ x. result_well x.result_type) d.ops)));
    first_ends = by_number (λ a. a.first.class < length m.classes) m.assocs
        (all_map (λ a. a.first.class < length m.classes) (association (class_number (ordered ds))) ds.assocs (number_well ends_some (λ a. a.first.class.text)));
    second_ends = by_number (λ a. a.second.class < length m.classes) m.assocs
        (all_map (λ a. a.second.class < length m.classes) (association (class_number (ordered ds))) ds.assocs (number_well ends_some
        (λ a. a.second.class.text)));
  }
