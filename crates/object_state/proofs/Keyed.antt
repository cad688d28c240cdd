-- Entries in the order of their keys, with one more, one less, or another value at a key.
use Rattle.std.proofs.Common.{◌≡◌, ℕ, ◌+◌, ◌≢◌, ◌⊎◌, inl, inr, suc, Bool, true, false, cond, ◌&&◌, List, [], ◌∷◌, length, map, Option, Some, None, refl, sym, ap, ◌∙◌, subst, true≢false, arith, Ordering, Less, Equal, Greater, is_eq}
use Rattle.std.specs.BTreeMap.{insert_entry, is_at}
use Rattle.std.specs.Cmp.{IsTotalOrder, eq_by_cmp_equiv}
use Rattle.std.specs.List.{AllByRecursion, filter, find}
use Rattle.std.specs.List.Sorted.{IsStrictlySortedBy}
use Rattle.std.specs.Map.{keys_of, lookup, remove_entry, set_value}
use Rattle.std.specs.Option.{is_some, option_map}
use Rattle.std.specs.Ordering.{eq_by_cmp, ordering_reverse, match_ordering}
use Rattle.std.proofs.lemmas.Cmp.{tied_itself, tied_back, alike_right}
use Rattle.std.proofs.lemmas.Map.{lookup-remove_entry, lookup-set_value}
use Rattle.std.proofs.lemmas.Map.Keys.{IsDistinct-from_sorted}
use Rattle.std.proofs.lemmas.Map.Lookups.{CmpEqualImpliesEq}

pub match_all : {X : Type 0} (P : X → Type 0) (r : Ordering) (a b c : X) → (r ≡ Less → P a) → (r ≡ Equal → P b) → (r ≡ Greater → P c)
    → P (match_ordering r a b c)
match_all P Less a b c f g h = f refl
match_all P Equal a b c f g h = g refl
match_all P Greater a b c f g h = h refl

pub by_order : {P : Type 0} (r : Ordering) → (r ≡ Less → P) → (r ≡ Equal → P) → (r ≡ Greater → P) → P
by_order Less f g h = f refl
by_order Equal f g h = g refl
by_order Greater f g h = h refl

pub by_test : {P : Type 0} (b : Bool) → (b ≡ true → P) → (b ≡ false → P) → P
by_test true f g = f refl
by_test false f g = g refl

pub equal : (r : Ordering) → is_eq r ≡ true → r ≡ Equal
equal Less h = absurd (true≢false (sym h))
equal Equal h = refl
equal Greater h = absurd (true≢false (sym h))

pub some≢none : {X : Type 0} (x : X) → Some x ≡ None → ⊥
some≢none x e = true≢false (ap is_some e)

pub all_remove : {K X : Type 0} (P : K → Type 0) (test : K → Bool) (es : List (K × X)) → AllByRecursion P (keys_of es)
    → AllByRecursion P (keys_of (remove_entry test es))
all_remove P test [] a = a
all_remove P test (e ∷ es) a =
    by_test (test e.0)
    (λ y. rw y (a.1))
    (λ n. rw n (a.0, all_remove P test es a.1))

-- another value at a key leaves the keys
pub set_back : {K X : Type 0} (test : K → Bool) (es : List (K × X)) (v w : X) → lookup test es ≡ Some v → set_value test (set_value test es w) v ≡ es
set_back test [] v w e = absurd (some≢none v (sym e))
set_back test (x ∷ xs) v w e =
    by_test (test x.0)
    (λ y. let here : x.1 ≡ v = inside x.1 v (sym (ap (λ b. cond b (Some x.1) (lookup test xs)) y) ∙ e) in rw y (rw y (rw (← here) refl)))
    (λ n. rw n (rw n (ap (λ l. x ∷ l) (set_back test xs v w (sym (ap (λ b. cond b (Some x.1) (lookup test xs)) n) ∙ e)))))
  where
    inside : {X : Type 0} (a b : X) → Some a ≡ Some b → a ≡ b
    inside a b e = cc

pub lookup_set_here : {K X : Type 0} (test : K → Bool) (es : List (K × X)) (v w : X) → lookup test es ≡ Some v → lookup test (set_value test es w) ≡ Some w
lookup_set_here test [] v w e = absurd (some≢none v (sym e))
lookup_set_here test (x ∷ xs) v w e =
    by_test (test x.0)
    (λ y. rw y (rw y refl))
    (λ n. rw n (rw n (lookup_set_here test xs v w (sym (ap (λ b. cond b (Some x.1) (lookup test xs)) n) ∙ e))))

pub both : (a b : Bool) → (a && b) ≡ true → (a ≡ true) × (b ≡ true)
both true b h = (refl, h)
both false b h = absurd (true≢false (sym h))

pub both_true : (a b c : Bool) → a ≡ true → b ≡ true → c ≡ true → (a && b && c) ≡ true
both_true a b c x y z = rw (x, y, z) refl

-- what a search through all entries does not find, no look-up finds
pub find_none : {K X : Type 0} (p : K × X → Bool) (es : List (K × X)) → find p es ≡ None → (test : K → Bool) (v : X) → lookup test es ≡ Some v
    → (k : K) × (test k ≡ true) × (p (k, v) ≡ false)
find_none p [] n test v e = absurd (some≢none v (sym e))
find_none p (x ∷ xs) n test v e =
    let here = refused (p x) x (find p xs) n in
    by_test (test x.0)
    (λ y. let value : x.1 ≡ v = inside_some x.1 v (sym (ap (λ b. cond b (Some x.1) (lookup test xs)) y) ∙ e) in (
      x.0,
      y,
      sym (ap (λ z. p (x.0, z)) value)
          ∙ here.0,
    ))
    (λ m. find_none p xs here.1 test v (sym (ap (λ b. cond b (Some x.1) (lookup test xs)) m) ∙ e))
  where
    refused : {A : Type 0} (b : Bool) (a : A) (o : Option A) → cond b (Some a) o ≡ None → (b ≡ false) × (o ≡ None)
    refused true a o h = absurd (some≢none a h)
    refused false a o h = (refl, h)

    inside_some : {A : Type 0} (a b : A) → Some a ≡ Some b → a ≡ b
    inside_some a b e = cc

module _ {K X : Type 0} {R : K → K → Ordering} (o : IsTotalOrder R) where
  -- a key that is found is above what is below all keys
  below_found : (es : List (K × X)) (a k : K) (v : X) → AllByRecursion (λ y. R a y ≡ Less) (keys_of es) → lookup (is_at (R k)) es ≡ Some v → R a k ≡ Less
  below_found [] a k v all e = absurd (some≢none v (sym e))
  below_found (x ∷ xs) a k v all e =
      by_test (is_at (R k) x.0)
      (λ y. alike_right o k x.0 a (equal _ y) ∙ all.0)
      (λ n. below_found xs a k v all.1 (sym (ap (λ b. cond b (Some x.1) (lookup (is_at (R k)) xs)) n) ∙ e))

  -- what a search finds, a look-up of its key finds
  pub find_some : (p : K × X → Bool) (es : List (K × X)) (e : K × X) → find p es ≡ Some e → IsStrictlySortedBy R (keys_of es)
      → (lookup (is_at (R e.0)) es ≡ Some e.1) × (p e ≡ true)
  unfolding IsStrictlySortedBy
  find_some p [] e h s = absurd (some≢none e (sym h))
  find_some p (x ∷ xs) e h s =
      by_test (p x)
      (λ y. let here : x ≡ e = inside_some x e (sym (ap (λ b. cond b (Some x) (find p xs)) y) ∙ h) in
      (subst (λ (z : K × X). lookup (is_at (R z.0)) (x ∷ xs) ≡ Some z.1) here (rw (tied_itself o x.0) refl), ap p (sym here) ∙ y))
      (λ n. let r = find_some p xs e (sym (ap (λ b. cond b (Some x) (find p xs)) n) ∙ h) s.1 in
      let less : R x.0 e.0 ≡ Less = below_found xs x.0 e.0 e.1 s.0 r.0 in
      let more : R e.0 x.0 ≡ Greater = o.antisymm e.0 x.0 ∙ ap ordering_reverse less in
      (rw more (r.0), r.1))
    where
      inside_some : (a b : K × X) → Some a ≡ Some b → a ≡ b
      inside_some a b e = cc

module _ {K : Type 0} {R : K → K → Ordering} (o : IsTotalOrder R) where
  over : (x y : K) → R x y ≡ Greater → R y x ≡ Less
  over x y e = o.antisymm y x ∙ ap ordering_reverse e

  all_above : (x y : K) (ks : List K) → R x y ≡ Less → AllByRecursion (λ z. R y z ≡ Less) ks → AllByRecursion (λ z. R x z ≡ Less) ks
  all_above x y [] l a = tt
  all_above x y (z ∷ zs) l a = (o.trans x y z l a.0, all_above x y zs l a.1)

module _ {K X : Type 0} {R : K → K → Ordering} (o : IsTotalOrder R) where
  all_insert : (P : K → Type 0) (es : List (K × X)) (k : K) (v : X) → P k → AllByRecursion P (keys_of es) → AllByRecursion P (keys_of (insert_entry R es k v))
  all_insert P [] k v p a = (p, tt)
  all_insert P (e ∷ es) k v p a =
      match_all (λ l. AllByRecursion P (keys_of l)) (R k e.0) ((k, v) ∷ e ∷ es) ((e.0, v) ∷ es) (e ∷ insert_entry R es k v)
      (λ _. (p, a))
      (λ _. a)
      (λ _. (a.0, all_insert P es k v p a.1))

  pub sorted_insert : (es : List (K × X)) (k : K) (v : X) → IsStrictlySortedBy R (keys_of es) → IsStrictlySortedBy R (keys_of (insert_entry R es k v))
  unfolding IsStrictlySortedBy
  sorted_insert [] k v s = (tt, tt)
  sorted_insert (e ∷ es) k v s =
      match_all (λ l. IsStrictlySortedBy R (keys_of l)) (R k e.0) ((k, v) ∷ e ∷ es) ((e.0, v) ∷ es) (e ∷ insert_entry R es k v)
      (λ l. ((l, all_above o k e.0 (keys_of es) l s.0), s))
      (λ _. s)
      (λ g. (all_insert (λ y. R e.0 y ≡ Less) es k v (over o k e.0 g) s.0, sorted_insert es k v s.1))

  pub sorted_remove : (test : K → Bool) (es : List (K × X)) → IsStrictlySortedBy R (keys_of es) → IsStrictlySortedBy R (keys_of (remove_entry test es))
  unfolding IsStrictlySortedBy
  sorted_remove test [] s = s
  sorted_remove test (e ∷ es) s =
      by_test (test e.0)
      (λ y. rw y (s.1))
      (λ n. rw n (all_remove (λ y. R e.0 y ≡ Less) test es s.0, sorted_remove test es s.1))

  -- what is found with one more entry
  pub lookup_insert : (es : List (K × X)) (k : K) (v : X) (q : K) → lookup (is_at (R q)) (insert_entry R es k v) ≡ cond (is_at (R q) k) (Some v) (lookup (is_at
      (R q)) es)
  lookup_insert [] k v q = refl
  lookup_insert (e ∷ es) k v q =
      match_all (λ l. lookup (is_at (R q)) l ≡ cond (is_at (R q) k) (Some v) (lookup (is_at (R q)) (e ∷ es))) (R k e.0) ((k, v) ∷ e ∷ es) ((e.0, v) ∷ es) (e
      ∷ insert_entry R es k v)
      (λ _. refl)
      (λ t. ap (λ r. cond (is_eq r) (Some v) (lookup (is_at (R q)) es)) (sym (alike_right o k e.0 q t))
      ∙ twice (is_at (R q) k) (is_at (R q) e.0) (ap is_eq (alike_right o k e.0 q t)))
      (λ g. ap (λ l. cond (is_at (R q) e.0) (Some e.1) l) (lookup_insert es k v q) ∙ crossed (is_at (R q) e.0) (is_at (R q) k) (λ a b. apart a b g))
    where
      twice : (a b : Bool) → a ≡ b → cond a (Some v) (lookup (is_at (R q)) es) ≡ cond a (Some v) (cond b (Some e.1) (lookup (is_at (R q)) es))
      twice true b h = refl
      twice false true h = absurd (true≢false (sym h))
      twice false false h = refl

      apart : is_at (R q) e.0 ≡ true → is_at (R q) k ≡ true → R k e.0 ≡ Greater → ⊥
      apart a b g = true≢false (sym (ap is_eq (sym (o.congr q k e.0 (equal _ b)) ∙ equal _ a)) ∙ ap is_eq g)

      crossed : (a b : Bool) → (a ≡ true → b ≡ true → ⊥) → cond a (Some e.1) (cond b (Some v) (lookup (is_at (R q)) es)) ≡ cond b (Some v) (cond a (Some e.1)
          (lookup (is_at (R q)) es))
      crossed true true h = absurd (h refl refl)
      crossed true false h = refl
      crossed false b h = refl

  -- one more entry, and it goes again
  pub remove_inserted : (es : List (K × X)) (k : K) (v : X) → lookup (is_at (R k)) es ≡ None → remove_entry (is_at (R k)) (insert_entry R es k v) ≡ es
  remove_inserted [] k v n = rw (tied_itself o k) refl
  remove_inserted (e ∷ es) k v n =
      by_order (R k e.0)
      (λ l. rw l (rw (tied_itself o k) refl))
      (λ t. absurd (some≢none e.1 (sym (ap (λ r. cond (is_eq r) (Some e.1) (lookup (is_at (R k)) es)) t) ∙ n)))
      (λ g. rw g (rw g (ap (λ l. e ∷ l) (remove_inserted es k v (sym (ap (λ r. cond (is_eq r) (Some e.1) (lookup (is_at (R k)) es)) g) ∙ n)))))

  insert_first : (es : List (K × X)) (k : K) (v : X) → AllByRecursion (λ y. R k y ≡ Less) (keys_of es) → insert_entry R es k v ≡ (k, v) ∷ es
  insert_first [] k v a = refl
  insert_first (e ∷ es) k v a = rw (a.0) refl

  lookup_first : (es : List (K × X)) (k : K) → AllByRecursion (λ y. R k y ≡ Less) (keys_of es) → lookup (is_at (R k)) es ≡ None
  lookup_first [] k a = refl
  lookup_first (e ∷ es) k a = rw (a.0) (lookup_first es k a.1)

  module _ (exact : CmpEqualImpliesEq R) where
    inside : (a b : X) → Some a ≡ Some b → a ≡ b
    inside a b e = cc

    -- an entry goes, and comes again
    pub insert_removed : (es : List (K × X)) (k : K) (v : X) → IsStrictlySortedBy R (keys_of es) → lookup (is_at (R k)) es ≡ Some v
        → insert_entry R (remove_entry (is_at (R k)) es) k v ≡ es
    unfolding IsStrictlySortedBy
    insert_removed [] k v s e = absurd (some≢none v (sym e))
    insert_removed (x ∷ xs) k v s e =
        by_order (R k x.0)
        (λ l. absurd (some≢none v (sym e ∙ ap (λ r. cond (is_eq r) (Some x.1) (lookup (is_at (R k)) xs)) l
        ∙ lookup_first xs k (all_above o k x.0 (keys_of xs) l s.0))))
        (λ t.
        let value : x.1 ≡ v = inside x.1 v (sym (ap (λ r. cond (is_eq r) (Some x.1) (lookup (is_at (R k)) xs)) t) ∙ e) in
        let key : k ≡ x.0 = exact k x.0 t in
        rw t (insert_first xs k v (subst (λ (z : K). AllByRecursion (λ y. R z y ≡ Less) (keys_of xs)) (sym key) s.0) ∙ (λ i. (key i, sym value i) ∷ xs)))
        (λ g. rw g (rw g (ap (λ l. x ∷ l) (insert_removed xs k v s.1 (sym (ap (λ r. cond (is_eq r) (Some x.1) (lookup (is_at (R k)) xs)) g) ∙ e)))))

    -- another value comes at a key, and the old one again
    pub insert_back : (es : List (K × X)) (k : K) (v w : X) → IsStrictlySortedBy R (keys_of es) → lookup (is_at (R k)) es ≡ Some v
        → insert_entry R (insert_entry R es k w) k v ≡ es
    unfolding IsStrictlySortedBy
    insert_back [] k v w s e = absurd (some≢none v (sym e))
    insert_back (x ∷ xs) k v w s e =
        by_order (R k x.0)
        (λ l. absurd (some≢none v (sym e ∙ ap (λ r. cond (is_eq r) (Some x.1) (lookup (is_at (R k)) xs)) l
        ∙ lookup_first xs k (all_above o k x.0 (keys_of xs) l s.0))))
        (λ t.
        let value : x.1 ≡ v = inside x.1 v (sym (ap (λ r. cond (is_eq r) (Some x.1) (lookup (is_at (R k)) xs)) t) ∙ e) in
        rw t (rw t (λ i. (x.0, sym value i) ∷ xs)))
        (λ g. rw g (rw g (ap (λ l. x ∷ l) (insert_back xs k v w s.1 (sym (ap (λ r. cond (is_eq r) (Some x.1) (lookup (is_at (R k)) xs)) g) ∙ e)))))

-- a selection, with one more entry: it has one more where that entry passes, and stays as it is where not
module _ {K X : Type 0} {R : K → K → Ordering} (o : IsTotalOrder R) (p : K × X → Bool) where
  pub filter_insert_out : (es : List (K × X)) (k : K) (v : X) → lookup (is_at (R k)) es ≡ None → p (k, v) ≡ false
      → filter p (insert_entry R es k v) ≡ filter p es
  filter_insert_out [] k v n f = rw f refl
  filter_insert_out (e ∷ es) k v n f =
      by_order (R k e.0)
      (λ l. rw l (rw f refl))
      (λ t. absurd (some≢none e.1 (sym (ap (λ r. cond (is_eq r) (Some e.1) (lookup (is_at (R k)) es)) t) ∙ n)))
      (λ g. rw g (ap (λ l. cond (p e) (e ∷ l) l) (filter_insert_out es k v (sym (ap (λ r. cond (is_eq r) (Some e.1) (lookup (is_at (R k)) es)) g) ∙ n) f)))

  pub filter_insert_in : (es : List (K × X)) (k : K) (v : X) → lookup (is_at (R k)) es ≡ None → p (k, v) ≡ true
      → length (filter p (insert_entry R es k v)) ≡ suc (length (filter p es))
  filter_insert_in [] k v n f = rw f refl
  filter_insert_in (e ∷ es) k v n f =
      by_order (R k e.0)
      (λ l. rw l (rw f refl))
      (λ t. absurd (some≢none e.1 (sym (ap (λ r. cond (is_eq r) (Some e.1) (lookup (is_at (R k)) es)) t) ∙ n)))
      (λ g. rw g (one (p e) (filter_insert_in es k v (sym (ap (λ r. cond (is_eq r) (Some e.1) (lookup (is_at (R k)) es)) g) ∙ n) f)))
    where
      one : (b : Bool) → length (filter p (insert_entry R es k v)) ≡ suc (length (filter p es)) → length (cond b (e
          ∷ filter p (insert_entry R es k v)) (filter p (insert_entry R es k v))) ≡ suc (length (cond b (e ∷ filter p es) (filter p es)))
      one true h = ap suc h
      one false h = h

-- how long a list is with one more entry, and with one less
pub length_insert : {K X : Type 0} (R : K → K → Ordering) (es : List (K × X)) (k : K) (v : X) → lookup (is_at (R k)) es ≡ None
    → length (insert_entry R es k v) ≡ suc (length es)
length_insert R [] k v n = refl
length_insert R (e ∷ es) k v n =
    by_order (R k e.0)
    (λ l. rw l refl)
    (λ t. absurd (some≢none e.1 (sym (ap (λ r. cond (is_eq r) (Some e.1) (lookup (is_at (R k)) es)) t) ∙ n)))
    (λ g. rw g (ap suc (length_insert R es k v (sym (ap (λ r. cond (is_eq r) (Some e.1) (lookup (is_at (R k)) es)) g) ∙ n))))

pub length_remove : {K X : Type 0} (test : K → Bool) (es : List (K × X)) (v : X) → lookup test es ≡ Some v → suc (length (remove_entry test es)) ≡ length es
length_remove test [] v e = absurd (some≢none v (sym e))
length_remove test (x ∷ xs) v e =
    by_test (test x.0)
    (λ y. rw y refl)
    (λ n. rw n (ap suc (length_remove test xs v (sym (ap (λ b. cond b (Some x.1) (lookup test xs)) n) ∙ e))))

-- what is found after an edit was put there, or was there before
module _ {K X : Type 0} {R : K → K → Ordering} (o : IsTotalOrder R) (exact : CmpEqualImpliesEq R) where
  inside_some : (a b : X) → Some a ≡ Some b → a ≡ b
  inside_some a b e = cc

  pub found_insert : (es : List (K × X)) (k : K) (v : X) (q : K) (x : X) → lookup (is_at (R q)) (insert_entry R es k v) ≡ Some x
      → ((q ≡ k) × (v ≡ x)) ⊎ (lookup (is_at (R q)) es ≡ Some x)
  found_insert es k v q x e =
      by_test (is_at (R q) k)
      (λ y. inl (exact q k (equal _ y), inside_some v x (sym (ap (λ b. cond b (Some v) (lookup (is_at (R q)) es)) y) ∙ sym (lookup_insert o es k v q) ∙ e)))
      (λ n. inr (sym (ap (λ b. cond b (Some v) (lookup (is_at (R q)) es)) n) ∙ sym (lookup_insert o es k v q) ∙ e))

  pub kept_insert : (es : List (K × X)) (k : K) (v : X) (q : K) (x : X) → lookup (is_at (R k)) es ≡ None → lookup (is_at (R q)) es ≡ Some x
      → lookup (is_at (R q)) (insert_entry R es k v) ≡ Some x
  kept_insert es k v q x free e =
      by_test (is_at (R q) k)
      (λ y. absurd (some≢none x (sym e ∙ ap (λ (z : K). lookup (is_at (R z)) es) (exact q k (equal _ y)) ∙ free)))
      (λ n. lookup_insert o es k v q ∙ ap (λ b. cond b (Some v) (lookup (is_at (R q)) es)) n ∙ e)

  pub put_insert : (es : List (K × X)) (k : K) (v : X) → lookup (is_at (R k)) (insert_entry R es k v) ≡ Some v
  put_insert es k v = lookup_insert o es k v k ∙ ap (λ r. cond (is_eq r) (Some v) (lookup (is_at (R k)) es)) (tied_itself o k)

  lookup_remove : (es : List (K × X)) (k q : K) → IsStrictlySortedBy R (keys_of es) → lookup (is_at (R q)) (remove_entry (is_at (R k)) es) ≡ cond (is_at
      (R k) q) None (lookup (is_at (R q)) es)
  lookup_remove es k q s = lookup-remove_entry (eq_by_cmp_equiv o) (is_at (R k)) (λ x y t. ap is_eq (o.congr k x y (equal _ t))) q es (IsDistinct-from_sorted R
      (keys_of es) s)

  pub found_remove : (es : List (K × X)) (k : K) (q : K) (x : X) → IsStrictlySortedBy R (keys_of es)
      → lookup (is_at (R q)) (remove_entry (is_at (R k)) es) ≡ Some x
      → (lookup (is_at (R q)) es ≡ Some x) × (q ≢ k)
  found_remove es k q x s e =
      by_test (is_at (R k) q)
      (λ y. absurd (some≢none x (sym e ∙ lookup_remove es k q s ∙ ap (λ b. cond b None (lookup (is_at (R q)) es)) y)))
      (λ n. (
        sym (ap (λ b. cond b None (lookup (is_at (R q)) es)) n) ∙ sym (lookup_remove es k q s) ∙ e,
        λ same. true≢false (sym (ap is_eq (tied_itself o k)) ∙ ap (λ (z : K). is_at (R k) z) (sym same) ∙ n),
      ))

  pub kept_remove : (es : List (K × X)) (k : K) (q : K) (x : X) → IsStrictlySortedBy R (keys_of es) → q ≢ k → lookup (is_at (R q)) es ≡ Some x
      → lookup (is_at (R q)) (remove_entry (is_at (R k)) es) ≡ Some x
  kept_remove es k q x s apart e =
      by_test (is_at (R k) q)
      (λ y. absurd (apart (sym (exact k q (equal _ y)))))
      (λ n. lookup_remove es k q s ∙ ap (λ b. cond b None (lookup (is_at (R q)) es)) n ∙ e)

  pub gone_remove : (es : List (K × X)) (k : K) → IsStrictlySortedBy R (keys_of es) → lookup (is_at (R k)) (remove_entry (is_at (R k)) es) ≡ None
  gone_remove es k s = lookup_remove es k k s ∙ ap (λ r. cond (is_eq r) None (lookup (is_at (R k)) es)) (tied_itself o k)

  lookup_set : (es : List (K × X)) (k q : K) (w v : X) → lookup (is_at (R k)) es ≡ Some v → lookup (is_at (R q)) (set_value (is_at (R k)) es w) ≡ cond (is_at
      (R k) q) (Some w) (lookup (is_at (R q)) es)
  lookup_set es k q w v e = lookup-set_value (eq_by_cmp_equiv o) (is_at (R k)) (λ x y t. ap is_eq (o.congr k x y (equal _ t))) q w es (rw e refl)

  pub found_set : (es : List (K × X)) (k : K) (w v : X) (q : K) (x : X) → lookup (is_at (R k)) es ≡ Some v
      → lookup (is_at (R q)) (set_value (is_at (R k)) es w) ≡ Some x
      → ((q ≡ k) × (w ≡ x)) ⊎ (lookup (is_at (R q)) es ≡ Some x)
  found_set es k w v q x there e =
      by_test (is_at (R k) q)
      (λ y. inl (
        sym (exact k q (equal _ y)),
        inside_some w x (sym (ap (λ b. cond b (Some w) (lookup (is_at (R q)) es)) y) ∙ sym (lookup_set es k q w v there)
            ∙ e),
      ))
      (λ n. inr (sym (ap (λ b. cond b (Some w) (lookup (is_at (R q)) es)) n) ∙ sym (lookup_set es k q w v there) ∙ e))

  pub kept_set : (es : List (K × X)) (k : K) (w v : X) (q : K) → lookup (is_at (R k)) es ≡ Some v → q ≢ k
      → lookup (is_at (R q)) (set_value (is_at (R k)) es w) ≡ lookup (is_at (R q)) es
  kept_set es k w v q there apart =
      by_test (is_at (R k) q)
      (λ y. absurd (apart (sym (exact k q (equal _ y)))))
      (λ n. lookup_set es k q w v there ∙ ap (λ b. cond b (Some w) (lookup (is_at (R q)) es)) n)

-- a search for a key, and edits at the place where it is
module _ {K X : Type 0} (test : K → Bool) where
  pub find_lookup : (es : List (K × X)) → option_map (λ e. e.1) (find (λ e. test e.0) es) ≡ lookup test es
  find_lookup [] = refl
  find_lookup (e ∷ es) = by_test (test e.0) (λ y. rw y refl) (λ n. rw n (find_lookup es))

pub map_twice : {A B C : Type 0} (f : B → C) (g : A → B) (xs : List A) → map (λ x. f (g x)) xs ≡ map f (map g xs)
map_twice f g [] = refl
map_twice f g (x ∷ xs) = ap (λ l. f (g x) ∷ l) (map_twice f g xs)
