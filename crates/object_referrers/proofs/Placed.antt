-- Which keys there are of a slot, of the slots of an object, and of a variable.
use Rattle.std.proofs.Common.{◌≡◌, ℕ, ◌<◌, zero, suc, ◌&&◌, ◌||◌, Bool, true, false, not, List, [], ◌∷◌, length, get_or, map, Option, Some, None, refl, sym, ap, ap₂, ◌∙◌}
use Rattle.std.proofs.Common.{true≢false, Ordering, Less, Equal, Greater, is_eq, arith}
use Rattle.std.specs.Cmp.{IsTotalOrder}
use Rattle.std.specs.Cmp.Lexicographic.{nat_list_cmp_total}
use Rattle.std.specs.List.{filter, list_any, slice_get}
use Rattle.std.specs.Ordering.{nat_cmp, ordering_then}
use Rattle.std.specs.Prelude.{nat_eq}
use Rattle.std.proofs.lemmas.Bool.{eqb-true}
use Rattle.std.proofs.lemmas.Cmp.{tied_itself}
use Rattle.std.proofs.lemmas.List.Folds.{list_any-append}
use Rattle.std.proofs.lemmas.Map.Lookups.{exact_bytes}
use Rattle.use_orders.specs.Canon.{has, without}
use Rattle.use_orders.proofs.Merged.{has-filter, has_alike}
use Rattle.ocl_values.specs.declared.value.Value.{Value}
use Rattle.object_references.specs.References.{references, refers_to}
use Rattle.object_state.specs.declared.objects.Variable.{Variable}
use Rattle.object_state.specs.State.{link_cmp, text_cmp}
use Rattle.object_state.proofs.Back.{inside_some, link_exact, link_total}
use Rattle.object_state.proofs.Hits.{nat_same}
use Rattle.object_state.proofs.Keyed.{both, equal, some≢none}
use Rattle.object_referrers.specs.Places.{held_keys, slot_key_cmp, slot_keys, slots_keys, variable_key_cmp, variable_keys}
use Rattle.object_referrers.proofs.Told.{either}

pub then_equal : (r t : Ordering) → is_eq (ordering_then r t) ≡ (is_eq r && is_eq t)
then_equal Less t = refl
then_equal Equal t = refl
then_equal Greater t = refl

pub shared : (a b c : Bool) → ((a && c) || (b && c)) ≡ ((a || b) && c)
shared true b true = refl
shared true true false = refl
shared true false false = refl
shared false b c = refl

pub and_false : (a : Bool) → (a && false) ≡ false
and_false true = refl
and_false false = refl

pub or_true : (a : Bool) → (a || true) ≡ true
or_true true = refl
or_true false = refl

module _ {P : Type 0} (R : P → P → Ordering) where
  abbrev pub keyed : ℕ × P → ℕ × P → Ordering
  keyed a b = ordering_then (nat_cmp a.0 b.0) (R a.1 b.1)

  key_in : (os : List ℕ) (o : ℕ) (p q : P) → has keyed (map (λ n. (n, q)) os) (o, p) ≡ (list_any (nat_eq o) os && is_eq (R p q))
  key_in [] o p q = refl
  key_in (n ∷ os) o p q =
      ap₂ (λ a b. a || b) (then_equal (nat_cmp o n) (R p q) ∙ ap (λ a. a && is_eq (R p q)) (nat_same o n)) (key_in os o p q)
      ∙ shared (nat_eq o n) (list_any (nat_eq o) os) (is_eq (R p q))

pub key_there : (x a : ℕ) (v : Value) (o : ℕ) → refers_to v o ≡ true → has slot_key_cmp (slot_keys x a v) (o, (x, a)) ≡ true
key_there x a v o h = key_in link_cmp (references v) o (x, a) (x, a) ∙ ap₂ (λ b c. b && c) h (ap is_eq (tied_itself link_total (x, a)))

pub key_place : (x a : ℕ) (v : Value) (o : ℕ) (p : ℕ × ℕ) → has slot_key_cmp (slot_keys x a v) (o, p) ≡ true → p ≡ (x, a)
key_place x a v o p h = link_exact p (x, a) (equal _ (both (refers_to v o) (is_eq (link_cmp p (x, a))) (sym (key_in link_cmp (references v) o p (x, a)) ∙ h)).1)

pub name_there : (name : List ℕ) (v : Value) (o : ℕ) → refers_to v o ≡ true → has variable_key_cmp (variable_keys name v) (o, name) ≡ true
name_there name v o h = key_in text_cmp (references v) o name name ∙ ap₂ (λ b c. b && c) h (ap is_eq (tied_itself nat_list_cmp_total name))

pub name_place : (name : List ℕ) (v : Value) (o : ℕ) (p : List ℕ) → has variable_key_cmp (variable_keys name v) (o, p) ≡ true → p ≡ name
name_place name v o p h = exact_bytes p name (equal _ (both (refers_to v o) (is_eq (text_cmp p name)) (sym (key_in text_cmp (references v) o p name) ∙ h)).1)

pub held_place : (name : List ℕ) (old : Option Variable) (o : ℕ) (p : List ℕ) → has variable_key_cmp (held_keys name old) (o, p) ≡ true → p ≡ name
held_place name None o p h = absurd (true≢false (sym h))
held_place name (Some v) o p h = name_place name v.value o p h

pub slots_place : (x : ℕ) (attrs : List ℕ) (values : List Value) (o : ℕ) (p : ℕ × ℕ) → has slot_key_cmp (slots_keys x attrs values) (o, p) ≡ true → p.0 ≡ x
slots_place x [] values o p h = absurd (true≢false (sym h))
slots_place x (a ∷ attrs) [] o p h = absurd (true≢false (sym h))
slots_place x (a ∷ attrs) (v ∷ values) o p h =
    either (has slot_key_cmp (slot_keys x a v) (o, p)) (has slot_key_cmp (slots_keys x attrs values) (o, p))
    (sym (list_any-append (λ y. is_eq (slot_key_cmp (o, p) y)) (slot_keys x a v) (slots_keys x attrs values)) ∙ h)
    (λ y. ap (λ (z : ℕ × ℕ). z.0) (key_place x a v o p y))
    (λ y. slots_place x attrs values o p y)

pub slots_there : (x a o i : ℕ) (attrs : List ℕ) (values : List Value) (v : Value) → i < length attrs → nat_eq a (get_or attrs i 0) ≡ true
    → slice_get values i ≡ Some v → refers_to v o ≡ true
    → has slot_key_cmp (slots_keys x attrs values) (o, (x, a)) ≡ true
slots_there x a o i [] values v h k e r = absurd (omega (arith, h))
slots_there x a o i (b ∷ attrs) [] v h k e r = absurd (some≢none v (sym e))
slots_there x a o zero (b ∷ attrs) (w ∷ values) v h k e r =
    let same : w ≡ v = inside_some w v e in
    let there : has slot_key_cmp (slot_keys x b w) (o, (x, a)) ≡ true =
    ap (λ c. has slot_key_cmp (slot_keys x c w) (o, (x, a))) (sym (eqb-true a b k)) ∙ key_there x a w o (ap (λ u. refers_to u o) same ∙ r) in
    list_any-append (λ y. is_eq (slot_key_cmp (o, (x, a)) y)) (slot_keys x b w) (slots_keys x attrs values)
    ∙ ap (λ c. c || has slot_key_cmp (slots_keys x attrs values) (o, (x, a))) there
slots_there x a o (suc i) (b ∷ attrs) (w ∷ values) v h k e r =
    list_any-append (λ y. is_eq (slot_key_cmp (o, (x, a)) y)) (slot_keys x b w) (slots_keys x attrs values)
    ∙ ap (λ c. has slot_key_cmp (slot_keys x b w) (o, (x, a)) || c) (slots_there x a o i attrs values v (omega (arith, h)) k e r)
    ∙ or_true (has slot_key_cmp (slot_keys x b w) (o, (x, a)))

module _ {K : Type 0} {cmp : K → K → Ordering} (o : IsTotalOrder cmp) (ks ns : List K) (k : K) where
  apart : has cmp (without cmp ks ns) k ≡ (not (has cmp ns k) && has cmp ks k)
  apart = has-filter o (λ x. not (has cmp ns x)) (λ x y e. ap not (has_alike o ns x y e)) ks k

  pub stays_new : has cmp ns k ≡ true → has cmp (without cmp ks ns) k ≡ false
  stays_new h = apart ∙ ap (λ b. not b && has cmp ks k) h

  pub stays_other : has cmp ks k ≡ false → has cmp (without cmp ks ns) k ≡ false
  stays_other h = apart ∙ ap (λ b. not (has cmp ns k) && b) h ∙ and_false (not (has cmp ns k))
