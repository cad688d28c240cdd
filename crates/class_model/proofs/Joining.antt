-- The laws of joins.
use Rattle.std.proofs.Common.{◌≡◌, ℕ, Bool, true, false, ◌&&◌, ◌||◌, cond, List, [], ◌∷◌, filter, find, nat_eq, Option, Some, refl, sym, ap, ap₂, ◌∙◌, true≢false, subst}
use Rattle.std.specs.List.{AllByRecursion, list_all, list_any}
use Rattle.std.specs.Option.{option_map_or}
use Rattle.ocl_values.specs.declared.value.Kind.{Kind}
use Rattle.ocl_values.specs.declared.value.Kind.TheVariants.{Set}
use Rattle.ocl_values.specs.contracts.value.KindPartialEq.TheImpl.{ghosts as kind_ghosts}
use Rattle.class_rules.specs.Numbering.{is_among}
use Rattle.class_model.specs.declared.object_model.ObjectModel.{ObjectModel}
use Rattle.class_model.specs.declared.types.OclType.{OclType, end_of-OclType, more_of-OclType}
use Rattle.class_model.specs.declared.types.OclType.TheVariants as T
use Rattle.class_model.specs.Conformance.{IsLeast, common_ancestors, conforms, join, lowest, wider}
use Rattle.class_model.specs.Inheritance.{IsAcyclic, ancestors, is_a}
use Rattle.class_model.proofs.Conforming.{both, first_of, from_void, kind_is, kind_self, number_is, reflexive, second_of, to_any, transitive}
use Rattle.class_model.proofs.Rows.{or_cases, self_is}
use Rattle.class_model.proofs.TypeCases.{apart, coll_apart, coll_conforms, coll_is, join_is, no_class}

-- the element type of a collection
abbrev element_of : OclType → OclType
element_of (T.Coll' k s (more_of-OclType x r)) = x
element_of t = t

abbrev kind_of : OclType → Kind
kind_of (T.Coll' k s r) = k
kind_of t = Set

abbrev is_coll : OclType → Bool
is_coll (T.Coll' k s r) = true
is_coll t = false

element_is : (k : Kind) (t : OclType) → element_of (T.Coll k t) ≡ t
unfolding Rattle.class_model.specs.declared.types.OclType.TheBlock.hidden-the_row-OclType-0 denote.Hole.Carrier.hidden
element_is k t = refl

same_element : (k l : Kind) (x y : OclType) → T.Coll k x ≡ T.Coll l y → x ≡ y
same_element k l x y e = sym (element_is k x) ∙ ap element_of e ∙ element_is l y

same_kind : (k l : Kind) (x y : OclType) → T.Coll k x ≡ T.Coll l y → k ≡ l
same_kind k l x y e = ap kind_of e

no_coll : (a : OclType) (k : Kind) (x : OclType) → is_coll a ≡ false → a ≡ T.Coll k x → ⊥
no_coll a k x e f = true≢false (sym (ap is_coll f) ∙ e)

same_class : (c d : ℕ) → T.Class c ≡ T.Class d → c ≡ d
same_class c d e = cc

all_from : (P Q : ℕ → Type 0) → ((x : ℕ) → P x → Q x) → (xs : List ℕ) → AllByRecursion P xs → AllByRecursion Q xs
all_from P Q f [] h = tt
all_from P Q f (x ∷ xs) h = (f x h.0, all_from P Q f xs h.1)

tail_is : (a b : Bool) → b ≡ true → (a || b) ≡ true
tail_is true b e = refl
tail_is false b e = e

in_tail : (z x : ℕ) (xs : List ℕ) → is_among xs z ≡ true → (nat_eq z x || is_among xs z) ≡ true
in_tail z x xs e = tail_is (nat_eq z x) (is_among xs z) e

kept_one : (P : ℕ → Type 0) (q : ℕ → Bool) (x : ℕ) (b : Bool) → q x ≡ b → (xs : List ℕ) → P x → AllByRecursion (λ x. P x × (q x ≡ true)) xs → AllByRecursion
    (λ x. P x × (q x ≡ true)) (cond b (x ∷ xs) xs)
kept_one P q x true e xs p h = ((p, e), h)
kept_one P q x false e xs p h = h

kept_here : (e x : ℕ) (b : Bool) (xs : List ℕ) → b ≡ true → nat_eq e x ≡ true → is_among (cond b (x ∷ xs) xs) e ≡ true
kept_here e x true xs h t = ap (λ c. c || is_among xs e) t
kept_here e x false xs h t = absurd (true≢false (sym h))

kept_later : (e x : ℕ) (b : Bool) (xs : List ℕ) → is_among xs e ≡ true → is_among (cond b (x ∷ xs) xs) e ≡ true
kept_later e x true xs h = in_tail e x xs h
kept_later e x false xs h = h

-- each element of a list is in it
members : (xs ys : List ℕ) → ((x : ℕ) → is_among xs x ≡ true → is_among ys x ≡ true) → AllByRecursion (λ x. is_among ys x ≡ true) xs
members [] ys h = tt
members (x ∷ xs) ys h = (h x (ap (λ b. b || is_among xs x) (self_is x)), members xs ys (λ z e. h z (in_tail z x xs e)))

kept_all : (P : ℕ → Type 0) (q : ℕ → Bool) (xs : List ℕ) → AllByRecursion P xs → AllByRecursion (λ x. P x × (q x ≡ true)) (filter q xs)
kept_all P q [] h = tt
kept_all P q (x ∷ xs) h = kept_one P q x (q x) refl (filter q xs) h.0 (kept_all P q xs h.1)

list_from : (f : ℕ → Bool) (xs : List ℕ) → AllByRecursion (λ x. f x ≡ true) xs → list_all f xs ≡ true
list_from f [] h = refl
list_from f (x ∷ xs) h = both (f x) (list_all f xs) h.0 (list_from f xs h.1)

all_among : (f : ℕ → Bool) (xs : List ℕ) (e : ℕ) → list_all f xs ≡ true → is_among xs e ≡ true → f e ≡ true
all_among f [] e h g = absurd (true≢false (sym g))
all_among f (x ∷ xs) e h g =
    or_cases (nat_eq e x) (is_among xs e) (λ t. ap f (number_is e x t) ∙ first_of (f x) (list_all f xs) h)
    (all_among f xs e (second_of (f x) (list_all f xs) h)) g

among_filter : (q : ℕ → Bool) (xs : List ℕ) (e : ℕ) → q e ≡ true → is_among xs e ≡ true → is_among (filter q xs) e ≡ true
among_filter q [] e h g = g
among_filter q (x ∷ xs) e h g =
    or_cases (nat_eq e x) (is_among xs e)
    (λ t. kept_here e x (q x) (filter q xs) (ap q (sym (number_is e x t)) ∙ h) t)
    (λ t. kept_later e x (q x) (filter q xs) (among_filter q xs e h t)) g

module _ (m : ObjectModel) (down : IsAcyclic m) where
  chosen_above : (c x : ℕ) (b : Bool) (o : Option ℕ) → is_a m c x ≡ true → conforms m (T.Class c) (option_map_or T.Class o T.Any) ≡ true →
      conforms m (T.Class c) (option_map_or T.Class (cond b (Some x) o) T.Any) ≡ true
  chosen_above c x true o h g = h
  chosen_above c x false o h g = g

  found_above : (c : ℕ) (p : ℕ → Bool) (xs : List ℕ) → AllByRecursion (λ x. is_a m c x ≡ true) xs → conforms m (T.Class c)
      (option_map_or T.Class (find p xs) T.Any) ≡ true
  found_above c p [] h = refl
  found_above c p (x ∷ xs) h = chosen_above c x (p x) (find p xs) h.0 (found_above c p xs h.1)

  common_first : (c d : ℕ) → AllByRecursion (λ x. (is_a m c x ≡ true) × (is_a m d x ≡ true)) (common_ancestors m c d)
  common_first c d = kept_all (λ x. is_a m c x ≡ true) (is_a m d) (ancestors m c) (members (ancestors m c) (ancestors m c) (λ x e. e))

  class_upper : (c d : ℕ) → (conforms m (T.Class c) (apart m (T.Class c) (T.Class d)) ≡ true) ×
      (conforms m (T.Class d) (apart m (T.Class c) (T.Class d)) ≡ true)
  class_upper c d =
      let p : ℕ → Bool = λ x. list_all (is_a m x) (common_ancestors m c d) in (
        found_above c p (common_ancestors m c d) (all_from (λ x. (is_a m c x ≡ true) × (is_a m d x ≡ true)) (λ x. is_a m c x ≡ true) (λ x h. h.0)
            (common_ancestors m c d) (common_first c d)),
        found_above d p (common_ancestors m c d) (all_from (λ x. (is_a m c x ≡ true) × (is_a m d x ≡ true)) (λ x. is_a m d x ≡ true) (λ x h. h.1)
            (common_ancestors m c d) (common_first c d)),
      )

  coll_upper : (k : Kind) (s : _) (l : Kind) (t : _) (a b : OclType) (r q : _) (e : Bool) → kind_ghosts.eq k l ≡ e → (conforms m a (join m a b) ≡ true) ×
      (conforms m b (join m a b) ≡ true) →
      (conforms m (T.Coll' k s (more_of-OclType a r)) (cond e (T.Coll k (join m a b)) T.Any) ≡ true) ×
      (conforms m (T.Coll' l t (more_of-OclType b q)) (cond e (T.Coll k (join m a b)) T.Any) ≡ true)
  unfolding Rattle.class_model.specs.declared.types.OclType.TheBlock.hidden-the_row-OclType-0 denote.Hole.Carrier.hidden
  coll_upper k s l t a b r q true e h = (
    both (kind_ghosts.eq k k) (conforms m a (join m a b)) (kind_self k) h.0,
    both (kind_ghosts.eq l k) (conforms m b (join m a b)) (ap (λ x. kind_ghosts.eq l x) (kind_is k l e) ∙ kind_self l) h.1,
  )
  coll_upper k s l t a b r q false e h = (refl, refl)

  wider_upper : (a b x : OclType) (p q : Bool) → conforms m a b ≡ p → conforms m b a ≡ q → (conforms m a x ≡ true) × (conforms m b x ≡ true) →
      (conforms m a (cond p b (cond q a x)) ≡ true) × (conforms m b (cond p b (cond q a x)) ≡ true)
  wider_upper a b x true q e f h = (e, reflexive m down b)
  wider_upper a b x false true e f h = (reflexive m down a, f)
  wider_upper a b x false false e f h = h

  by_wider : (a b : OclType) → (conforms m a (apart m a b) ≡ true) × (conforms m b (apart m a b) ≡ true) → (conforms m a (join m a b) ≡ true) ×
      (conforms m b (join m a b) ≡ true)
  by_wider a b h =
      subst (λ x. (conforms m a x ≡ true) × (conforms m b x ≡ true)) (sym (join_is m a b))
      (wider_upper a b (apart m a b) (conforms m a b) (conforms m b a) refl refl h)

  -- both types conform to their join
  pub upper : (a b : OclType) → (conforms m a (join m a b) ≡ true) × (conforms m b (join m a b) ≡ true)
  upper (T.Class c) (T.Class d) = by_wider (T.Class c) (T.Class d) (class_upper c d)
  upper (T.Coll' k s (more_of-OclType a r)) (T.Coll' l t (more_of-OclType b q)) =
      by_wider (T.Coll' k s (more_of-OclType a r)) (T.Coll' l t (more_of-OclType b q)) (coll_upper k s l t a b r q (kind_ghosts.eq k l) refl (upper a b))
  upper a b = by_wider a b (refl, refl)

  -- how a type conforms to another
  data Fit (a u : OclType) : Type 0 where
    top : u ≡ T.Any → Fit a u
    bottom : a ≡ T.Void → Fit a u
    same : a ≡ u → Fit a u
    classes : (c d : ℕ) → a ≡ T.Class c → u ≡ T.Class d → Fit a u
    colls : (k : Kind) (x y : OclType) → a ≡ T.Coll k x → u ≡ T.Coll k y → Fit a u

  fit : (a u : OclType) → conforms m a u ≡ true → Fit a u
  fit a T.Any e = top refl
  fit T.Void u e = bottom refl
  fit T.Bool T.Bool e = same refl
  fit T.Int T.Int e = same refl
  fit T.Str T.Str e = same refl
  fit (T.Enum x) (T.Enum y) e = same (ap T.Enum (number_is x y e))
  fit (T.Class c) (T.Class d) e = classes c d refl refl
  fit (T.Coll' k s (more_of-OclType a end_of-OclType)) (T.Coll' l t (more_of-OclType b end_of-OclType)) e =
      colls k a b (coll_is k s a) (coll_is l t b ∙ ap (λ x. T.Coll x b) (sym (kind_is k l (first_of (kind_ghosts.eq k l) (conforms m a b) e))))
  fit a u e = absurd (true≢false (sym e))

  chosen_least : (e x : ℕ) (b : Bool) (o : Option ℕ) → (b ≡ true → is_a m x e ≡ true) →
      (b ≡ false → conforms m (option_map_or T.Class o T.Any) (T.Class e) ≡ true) →
      conforms m (option_map_or T.Class (cond b (Some x) o) T.Any) (T.Class e) ≡ true
  chosen_least e x true o h g = h refl
  chosen_least e x false o h g = g refl

  found_least : (e : ℕ) (p : ℕ → Bool) (xs : List ℕ) → ((x : ℕ) → p x ≡ true → is_a m x e ≡ true) → p e ≡ true → is_among xs e ≡ true →
      conforms m (option_map_or T.Class (find p xs) T.Any) (T.Class e) ≡ true
  found_least e p [] h g i = absurd (true≢false (sym i))
  found_least e p (x ∷ xs) h g i =
      chosen_least e x (p x) (find p xs) (h x)
      (λ no. or_cases (nat_eq e x) (is_among xs e) (λ t. absurd (true≢false (sym g ∙ ap p (number_is e x t) ∙ no))) (found_least e p xs h g) i)

  class_least : (c d e : ℕ) → IsLeast m (T.Class c) (T.Class d) (T.Class e) → conforms m (apart m (T.Class c) (T.Class d)) (T.Class e) ≡ true
  class_least c d e h =
      let common = common_ancestors m c d in
      let there : is_among common e ≡ true = among_filter (is_a m d) (ancestors m c) e h.second h.first in
      found_least e (λ x. list_all (is_a m x) common) common (λ x all. all_among (is_a m x) common e all there)
      (list_from (is_a m e) common (all_from (λ x. (is_a m c x ≡ true) × (is_a m d x ≡ true)) (λ x. is_a m e x ≡ true)
      (λ x g. h.below (T.Class x) g.0 g.1) common (common_first c d))) there

  -- what two types that do not conform to one another conform to
  module _ (a b u : OclType) (h : IsLeast m a b u) (no : conforms m a b ≡ false) (nor : conforms m b a ≡ false)
      (rec : (k : Kind) (x : OclType) → a ≡ T.Coll k x → (y w : OclType) → IsLeast m x y w → conforms m (join m x y) w ≡ true) where
    abbrev Goal : Type 0
    Goal = conforms m (apart m a b) u ≡ true

    never : {A : Type 0} → conforms m a b ≡ true → A
    never e = absurd (true≢false (sym e ∙ no))

    neither : {A : Type 0} → conforms m b a ≡ true → A
    neither e = absurd (true≢false (sym e ∙ nor))

    as_classes : (c d e : ℕ) → a ≡ T.Class c → b ≡ T.Class d → u ≡ T.Class e → Goal
    as_classes c d e ea eb eu =
        ap₂ (conforms m) (ap₂ (apart m) ea eb) eu
        ∙ class_least c d e (subst (λ x. IsLeast m x (T.Class d) (T.Class e)) ea (subst (λ x. IsLeast m a x (T.Class e)) eb (subst (IsLeast m a b) eu h)))

    element_least : (k : Kind) (x z y : OclType) → IsLeast m (T.Coll k x) (T.Coll k z) (T.Coll k y) → IsLeast m x z y
    element_least k x z y g = record {
      first = second_of (kind_ghosts.eq k k) (conforms m x y) (sym (coll_conforms m k k x y) ∙ g.first);
      second = second_of (kind_ghosts.eq k k) (conforms m z y) (sym (coll_conforms m k k z y) ∙ g.second);
      below = λ t f e.
          second_of (kind_ghosts.eq k k) (conforms m y t)
          (sym (coll_conforms m k k y t)
          ∙ g.below (T.Coll k t) (coll_conforms m k k x t ∙ both (kind_ghosts.eq k k) (conforms m x t) (kind_self k) f)
          (coll_conforms m k k z t ∙ both (kind_ghosts.eq k k) (conforms m z t) (kind_self k) e));
    }

    as_colls : (k : Kind) (x z y : OclType) → a ≡ T.Coll k x → b ≡ T.Coll k z → u ≡ T.Coll k y → Goal
    as_colls k x z y ea eb eu =
        ap₂ (conforms m) (ap₂ (apart m) ea eb ∙ coll_apart m k k x z ∙ ap (λ e. cond e (T.Coll k (join m x z)) T.Any) (kind_self k)) eu
        ∙ coll_conforms m k k (join m x z) y
        ∙ both (kind_ghosts.eq k k) (conforms m (join m x z) y) (kind_self k)
        (rec k x ea z y (element_least k x z y (subst (λ v. IsLeast m v (T.Coll k z) (T.Coll k y)) ea
        (subst (λ v. IsLeast m a v (T.Coll k y)) eb (subst (IsLeast m a b) eu h)))))

    colls_of : (k l : Kind) (x y z w : OclType) → a ≡ T.Coll k x → u ≡ T.Coll k y → b ≡ T.Coll l z → u ≡ T.Coll l w → Goal
    colls_of k l x y z w ea eu eb eu' =
        as_colls k x z y ea (eb ∙ ap (λ v. T.Coll v z) (same_kind l k w y (sym eu' ∙ eu))) eu

    by_fits : Fit a u → Fit b u → Goal
    by_fits (top e) g = ap (conforms m (apart m a b)) e
    by_fits (bottom e) g = never (ap (λ x. conforms m x b) e ∙ from_void m b)
    by_fits (same e) g = neither (ap (conforms m b) e ∙ h.second)
    by_fits (classes c d ea eu) (top e) = ap (conforms m (apart m a b)) e
    by_fits (classes c d ea eu) (bottom e) = neither (ap (λ x. conforms m x a) e ∙ from_void m a)
    by_fits (classes c d ea eu) (same e) = never (ap (conforms m a) e ∙ h.first)
    by_fits (classes c d ea eu) (classes c' d' eb eu') = as_classes c c' d ea eb eu
    by_fits (classes c d ea eu) (colls k x y eb eu') = absurd (no_class d k y (sym eu ∙ eu'))
    by_fits (colls k x y ea eu) (top e) = ap (conforms m (apart m a b)) e
    by_fits (colls k x y ea eu) (bottom e) = neither (ap (λ v. conforms m v a) e ∙ from_void m a)
    by_fits (colls k x y ea eu) (same e) = never (ap (conforms m a) e ∙ h.first)
    by_fits (colls k x y ea eu) (classes c d eb eu') = absurd (no_class d k y (sym eu' ∙ eu))
    by_fits (colls k x y ea eu) (colls l z w eb eu') = colls_of k l x y z w ea eu eb eu'

  wider_least : (a b u : OclType) → IsLeast m a b u →
      ((k : Kind) (x : OclType) → a ≡ T.Coll k x → (y w : OclType) → IsLeast m x y w → conforms m (join m x y) w ≡ true) →
      (p q : Bool) → conforms m a b ≡ p → conforms m b a ≡ q → conforms m (cond p b (cond q a (apart m a b))) u ≡ true
  wider_least a b u h rec true q e f = h.second
  wider_least a b u h rec false true e f = h.first
  wider_least a b u h rec false false e f = by_fits a b u h e f rec (fit a u h.first) (fit b u h.second)

  least_by : (a b u : OclType) → IsLeast m a b u → ((k : Kind) (x : OclType) → a ≡ T.Coll k x → (y w : OclType) → IsLeast m x y w → conforms m (join m x y) w
      ≡ true) →
      conforms m (join m a b) u ≡ true
  least_by a b u h rec = ap (λ x. conforms m x u) (join_is m a b) ∙ wider_least a b u h rec (conforms m a b) (conforms m b a) refl refl

  -- the join conforms to the least type to which both conform
  pub least : (a b u : OclType) → IsLeast m a b u → conforms m (join m a b) u ≡ true
  least (T.Coll' k s (more_of-OclType a end_of-OclType)) b u h =
      least_by (T.Coll' k s (more_of-OclType a end_of-OclType)) b u h
      (λ l x e y w g. subst (λ v. conforms m (join m v y) w ≡ true) (same_element k l a x (sym (coll_is k s a) ∙ e))
      (least a y w (subst (λ v. IsLeast m v y w) (sym (same_element k l a x (sym (coll_is k s a) ∙ e))) g)))
  least a b u h = least_by a b u h (λ k x e y w g. absurd (no_coll a k x refl e))
