-- The links of an object, gathered association by association and then put in order, are those that a state has of it.
use Rattle.std.proofs.Common.{◌≡◌, ℕ, ◌<◌, zero, suc, Bool, true, false, ◌&&◌, ◌||◌, cond, List, [], ◌∷◌, ◌++◌, length, Option, Some, None, refl, sym, ap, ap₂, ◌∙◌, subst, Ordering, Less, is_eq, true≢false, arith}
use Rattle.std.specs.BTreeMap.{is_at}
use Rattle.std.specs.Cmp.{IsTotalOrder}
use Rattle.std.specs.List.{AllByRecursion, filter, find, list_any, slice_get}
use Rattle.std.specs.List.Sorted.{IsStrictlySortedBy}
use Rattle.std.specs.Map.{keys_of, lookup}
use Rattle.std.specs.Option.{option_map_or}
use Rattle.std.specs.Ordering.{ordering_then}
use Rattle.std.specs.Prelude.{nat_eq}
use Rattle.std.proofs.lemmas.Cmp.{on_total, then_total}
use Rattle.std.proofs.lemmas.List.Folds.{list_any-append}
use Rattle.std.proofs.lemmas.Map.Lookups.{CmpEqualImpliesEq, exact_pairs}
use Rattle.std.proofs.lemmas.Option.{slice_get_within}
use Rattle.use_orders.specs.Canon.{has, set_of}
use Rattle.use_orders.proofs.Merged.{has-filter, is_set}
use Rattle.class_model.specs.declared.numbers.End.TheVariants.{First, Second}
use Rattle.object_state.specs.declared.layout.AssocLayout.{AssocLayout}
use Rattle.object_state.specs.declared.layout.Layout.{Layout}
use Rattle.object_state.specs.declared.objects.Object.{Object}
use Rattle.object_state.specs.Layouts.{class_at, is_a, may_stand}
use Rattle.object_state.specs.Looks.{has_at}
use Rattle.object_state.specs.State.{State, link_cmp, object}
use Rattle.object_state.specs.Valid.{IsValid}
use Rattle.object_state.proofs.Back.{link_exact, link_total, other_number}
use Rattle.object_state.proofs.Keyed.{by_test, equal, find_some}
use Rattle.object_referrers.specs.Gathered.{links_among}
use Rattle.object_referrers.specs.Referring.{links_of}
use Rattle.object_referrers.proofs.Names.{there, told}
use Rattle.object_referrers.proofs.Placed.{or_true}

abbrev pub Link : Type 0
Link = (ℕ × ℕ) × (ℕ × ℕ)

abbrev pub entry_cmp : Link → Link → Ordering
entry_cmp a b = ordering_then (link_cmp a.0 b.0) (link_cmp a.1 b.1)

pub entry_total : IsTotalOrder entry_cmp
entry_total = then_total (on_total (λ (t : Link). t.0) link_total) (on_total (λ (t : Link). t.1) link_total)

pub entry_exact : CmpEqualImpliesEq entry_cmp
entry_exact = exact_pairs link_cmp link_cmp link_exact link_exact

all_rise : (k v : ℕ × ℕ) (es : List Link) → AllByRecursion (λ y. link_cmp k y ≡ Less) (keys_of es) → AllByRecursion (λ y. entry_cmp (k, v) y ≡ Less) es
all_rise k v [] all = tt
all_rise k v (e ∷ es) all = (ap (λ r. ordering_then r (link_cmp v e.1)) all.0, all_rise k v es all.1)

entries_rise : (es : List Link) → IsStrictlySortedBy link_cmp (keys_of es) → IsStrictlySortedBy entry_cmp es
unfolding IsStrictlySortedBy
entries_rise [] s = tt
entries_rise (e ∷ es) s = (all_rise e.0 e.1 es s.0, entries_rise es s.1)

module _ {K : Type 0} (R : K → K → Ordering) (p : K → Bool) where
  all_kept : (k : K) (xs : List K) → AllByRecursion (λ y. R k y ≡ Less) xs → AllByRecursion (λ y. R k y ≡ Less) (filter p xs)
  all_kept k [] all = tt
  all_kept k (x ∷ xs) all = by_test (p x) (λ y. rw y (all.0, all_kept k xs all.1)) (λ n. rw n (all_kept k xs all.1))

  kept_rise : (xs : List K) → IsStrictlySortedBy R xs → IsStrictlySortedBy R (filter p xs)
  unfolding IsStrictlySortedBy
  kept_rise [] s = tt
  kept_rise (x ∷ xs) s = by_test (p x) (λ y. rw y (all_kept x xs s.0, kept_rise xs s.1)) (λ n. rw n (kept_rise xs s.1))

spread : (l e f g h : Bool) → (((l && (f || g)) && h) || ((e && f) && h) || ((e && g) && h)) ≡ (((l || e) && (f || g)) && h)
spread true true true true true = refl
spread true true true true false = refl
spread true true true false true = refl
spread true true true false false = refl
spread true true false true true = refl
spread true true false true false = refl
spread true true false false true = refl
spread true true false false false = refl
spread true false true true true = refl
spread true false true true false = refl
spread true false true false true = refl
spread true false true false false = refl
spread true false false true true = refl
spread true false false true false = refl
spread true false false false true = refl
spread true false false false false = refl
spread false true true true true = refl
spread false true true true false = refl
spread false true true false true = refl
spread false true true false false = refl
spread false true false true true = refl
spread false true false true false = refl
spread false true false false true = refl
spread false true false false false = refl
spread false false true true true = refl
spread false false true true false = refl
spread false false true false true = refl
spread false false true false false = refl
spread false false false true true = refl
spread false false false true false = refl
spread false false false false true = refl
spread false false false false false = refl

-- whether a number is below another
abbrev below : ℕ → ℕ → Bool
below zero a = false
below (suc n) a = below n a || nat_eq a n

is_below : (n a : ℕ) → a < n → below n a ≡ true
is_below zero a h = absurd (omega (arith, h))
is_below (suc n) a h = by_test (nat_eq a n)
    (λ y. ap (λ b. below n a || b) y ∙ or_true (below n a))
    (λ x. let apart = other_number a n x in ap (λ b. b || nat_eq a n) (is_below n a (omega (arith, h, apart))))

module _ (links : List Link) (o : ℕ) where
  at_first : (a : ℕ) (q : Link) → has entry_cmp (filter (has_at a First o) links) q ≡ ((nat_eq q.0.0 a && nat_eq q.1.0 o) && has entry_cmp links q)
  at_first a q = has-filter entry_total (has_at a First o) (λ x y e. ap (has_at a First o) (entry_exact x y e)) links q

  at_second : (a : ℕ) (q : Link) → has entry_cmp (filter (has_at a Second o) links) q ≡ ((nat_eq q.0.0 a && nat_eq q.1.1 o) && has entry_cmp links q)
  at_second a q = has-filter entry_total (has_at a Second o) (λ x y e. ap (has_at a Second o) (entry_exact x y e)) links q

  has_among : (n : ℕ) (q : Link) → has entry_cmp (links_among links o n) q ≡ ((below n q.0.0 && (nat_eq q.1.0 o || nat_eq q.1.1 o)) && has entry_cmp links q)
  has_among zero q = refl
  has_among (suc n) q =
      list_any-append (λ y. is_eq (entry_cmp q y)) (links_among links o n ++ filter (has_at n First o) links) (filter (has_at n Second o) links)
      ∙ ap₂ (λ b c. b || c) (list_any-append (λ y. is_eq (entry_cmp q y)) (links_among links o n) (filter (has_at n First o) links)
      ∙ ap₂ (λ b c. b || c) (has_among n q) (at_first n q)) (at_second n q)
      ∙ spread (below n q.0.0) (nat_eq q.0.0 n) (nat_eq q.1.0 o) (nat_eq q.1.1 o) (has entry_cmp links q)

found : {X : Type 0} (p : X → Bool) (xs : List X) → list_any p xs ≡ true → (x : X) × (find p xs ≡ Some x)
found p [] h = absurd (true≢false (sym h))
found p (x ∷ xs) h = by_test (p x)
    (λ y. (x, ap (λ b. cond b (Some x) (find p xs)) y))
    (λ n. let r = found p xs (sym (ap (λ b. b || list_any p xs) n) ∙ h) in (r.0, ap (λ b. cond b (Some x) (find p xs)) n ∙ r.1))

-- the association of a link is one of the layout's
known : (l : Layout) (s : State) → IsValid l s → (q : Link) → has entry_cmp s.links q ≡ true → q.0.0 < length l.assocs
known l s v q h =
    let r = found (λ y. is_eq (entry_cmp q y)) s.links h in
    let k = find_some link_total (λ y. is_eq (entry_cmp q y)) s.links r.0 r.1 v.links.ordered in
    let same : q ≡ r.0 = entry_exact q r.0 (equal _ k.1) in
    let live = there (λ (x : Object). may_stand l r.0.0.0 First x.class) (object s r.0.1.0) (v.joins r.0.0 r.0.1 k.0).first in
    let ends = there (λ (x : AssocLayout). is_a l live.0.class (class_at x First)) (slice_get l.assocs r.0.0.0) live.2 in
    subst (λ (z : Link). z.0.0 < length l.assocs) (sym same) (slice_get_within l.assocs r.0.0.0 ends.0 ends.1)

pub links_told : (l : Layout) (s : State) (o : ℕ) → IsValid l s → set_of entry_cmp (links_among s.links o (length l.assocs)) ≡ links_of s o
links_told l s o v =
    let Q = λ (e : Link). nat_eq e.1.0 o || nat_eq e.1.1 o in
    sym (is_set entry_total entry_exact (links_of s o) (links_among s.links o (length l.assocs)) (kept_rise entry_cmp Q s.links (entries_rise s.links v.links.ordered)) (λ q.
    has-filter entry_total Q (λ x y e. ap Q (entry_exact x y e)) s.links q
    ∙ by_test (has entry_cmp s.links q)
    (λ y. ap (λ b. (b && Q q) && has entry_cmp s.links q) (sym (is_below (length l.assocs) q.0.0 (known l s v q y))))
    (λ n. ap (λ b. Q q && b) n ∙ none (Q q) ∙ sym (ap (λ b. (below (length l.assocs) q.0.0 && Q q) && b) n ∙ none (below (length l.assocs) q.0.0 && Q q)))
    ∙ sym (has_among s.links o (length l.assocs) q)))
  where
    none : (b : Bool) → (b && false) ≡ false
    none true = refl
    none false = refl
