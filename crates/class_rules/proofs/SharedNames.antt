-- A class that has names which other classes have too from one class at most has no name from two.
use Rattle.std.proofs.Common.{◌≡◌, ℕ, zero, suc, ◌+◌, ◌<◌, ◌≤◌, Bool, true, false, not, ◌&&◌, ◌||◌, cond, nat_eq, nat_lt, nat_cmp, List, [], ◌∷◌, ◌++◌, filter, find, length, map, slice_get, unwrap_or, Option, Some, None, refl, sym, ap, ap₂, ◌∙◌, arith, true≢false, ⊎_elim, length-append}
use Rattle.std.specs.BTreeMap.{BTreeMap}
use Rattle.std.specs.List.{AllByRecursion, filter_map, flat_map, list_all, list_any, position_from}
use Rattle.std.specs.List.Sorted.{IsStrictlySortedBy}
use Rattle.std.specs.Option.{option_and_then, option_map, option_map_or}
use Rattle.std.proofs.lemmas.Bool.{cases_Bool, cases_lt}
use Rattle.std.proofs.lemmas.Bool.Decides.{eqb_tells}
use Rattle.use_orders.specs.Canon.{all_differ, has}
use Rattle.class_decls.specs.Texts.{has_text, same_text}
use Rattle.class_decls.specs.declared.decls.ClassDecl.{ClassDecl}
use Rattle.class_decls.specs.declared.decls.Decls.{Decls}
use Rattle.class_decls.specs.declared.decls.OpDecl.{OpDecl}
use Rattle.class_decls.proofs.TextSets.{any-map, has_text_is, text_cmp}
use Rattle.class_rules.specs.declared.by_class.ClassRule.{ClassRule}
use Rattle.class_rules.specs.declared.by_class.ClassRule.TheVariants as r
use Rattle.class_rules.specs.declared.clash.Clash.{Clash}
use Rattle.class_rules.specs.declared.clash.Clash.TheVariants as k
use Rattle.class_rules.specs.declared.sharing.Sharing.{Sharing}
use Rattle.class_rules.specs.declared.sharing.Sharing.TheVariants.{Nothing, Only, Several}
use Rattle.class_rules.specs.Ancestors.{above, ancestors, class_numbered, number_at, parent_numbers}
use Rattle.class_rules.specs.ClassRules.{broken_by, first_op, named_if}
use Rattle.class_rules.specs.Declaring.{declaring, is_disputed, ops_numbered}
use Rattle.class_rules.specs.Features.{attrs_of, meet, roles_of, roles_of_class}
use Rattle.class_rules.specs.Groups.{listed}
use Rattle.class_rules.specs.Numbering.{is_among, numbering, parent_places, row_at}
use Rattle.class_rules.specs.Operations.{clash, clashes_above, declares_op, is_ambiguous}
use Rattle.class_rules.specs.Shared.{AreJoined, IsByName, are_own, is_several, join, may_break, names_compared, names_numbered, own_sharing, sharing_at}
use Rattle.class_rules.specs.Shared.{joined as joined_with}
use Rattle.class_rules.proofs.Different.{chosen_by, in_both, joined, left_differ, named, no_common, no_repeat, not_again, not_less, right_differ, right_false, sorted_by}
use Rattle.class_rules.proofs.Disputed.{alone_undisputed, declares_is, declaring_among, some_disputed}
use Rattle.class_rules.proofs.LeastAbove.{least_above, weaker}
use Rattle.class_rules.proofs.Ordered.{downward, first_of, second_of}
use Rattle.class_rules.proofs.PlacedClasses.{same_is}
use Rattle.class_rules.proofs.Queued.{itself, or_left, or_right}
use Rattle.class_rules.proofs.Signatures.{none_by, not_found}
use Rattle.class_rules.proofs.Single.{all_at, all_of, none_of, same_self}
use Rattle.class_rules.proofs.Unnumbered.{left_false}

eq_of : (a b : ℕ) → nat_eq a b ≡ true → a ≡ b
eq_of a b e = ⊎_elim (λ t. t.1) (λ t. absurd (true≢false (sym e ∙ t.0))) (eqb_tells a b)

false_from : (b : Bool) → (b ≡ true → ⊥) → b ≡ false
false_from true h = absurd (h refl)
false_from false h = refl

-- what is of one is of it and others together
abbrev within : Sharing → Sharing → Bool
within Nothing b = true
within (Only i) Nothing = false
within (Only i) (Only j) = nat_eq i j
within (Only i) Several = true
within Several b = is_several b

within_self : (a : Sharing) → within a a ≡ true
within_self Nothing = refl
within_self (Only i) = itself i
within_self Several = refl

within_top : (a : Sharing) → within a Several ≡ true
within_top Nothing = refl
within_top (Only i) = refl
within_top Several = refl

within_on : (a b c : Sharing) → within a b ≡ true → within b c ≡ true → within a c ≡ true
within_on Nothing b c h e = refl
within_on (Only i) Nothing c h e = absurd (true≢false (sym h))
within_on (Only i) (Only j) Nothing h e = absurd (true≢false (sym e))
within_on (Only i) (Only j) (Only k) h e = ap (λ n. nat_eq n k) (eq_of i j h) ∙ e
within_on (Only i) (Only j) Several h e = refl
within_on (Only i) Several Nothing h e = absurd (true≢false (sym e))
within_on (Only i) Several (Only k) h e = absurd (true≢false (sym e))
within_on (Only i) Several Several h e = refl
within_on Several Nothing c h e = absurd (true≢false (sym h))
within_on Several (Only j) c h e = absurd (true≢false (sym h))
within_on Several Several c h e = e

left_by : (i : ℕ) (b : Bool) → within (Only i) (cond b (Only i) Several) ≡ true
left_by i true = itself i
left_by i false = refl

right_by : (i j : ℕ) (b : Bool) → nat_eq i j ≡ b → within (Only j) (cond b (Only i) Several) ≡ true
right_by i j true e = ap (nat_eq j) (eq_of i j e) ∙ itself j
right_by i j false e = refl

within_left : (a b : Sharing) → within a (join a b) ≡ true
within_left Nothing b = refl
within_left (Only i) Nothing = itself i
within_left (Only i) (Only j) = left_by i (nat_eq i j)
within_left (Only i) Several = refl
within_left Several b = refl

within_right : (a b : Sharing) → within b (join a b) ≡ true
within_right Nothing b = within_self b
within_right (Only i) Nothing = refl
within_right (Only i) (Only j) = right_by i j (nat_eq i j) refl
within_right (Only i) Several = refl
within_right Several b = within_top b

within_joined : (all : List Sharing) (ps : List ℕ) (s : Sharing) → within s (joined_with all ps s) ≡ true
within_joined all [] s = within_self s
within_joined all (p ∷ ps) s =
    within_on s (join s (sharing_at all p)) (joined_with all ps (join s (sharing_at all p))) (within_left s (sharing_at all p))
    (within_joined all ps (join s (sharing_at all p)))

parents_joined : (all : List Sharing) (ps : List ℕ) (s : Sharing) → AllByRecursion (λ p. within (sharing_at all p) (joined_with all ps s) ≡ true) ps
parents_joined all [] s = tt
parents_joined all (p ∷ ps) s = (
  within_on (sharing_at all p) (join s (sharing_at all p)) (joined_with all ps (join s (sharing_at all p))) (within_right s (sharing_at all p))
      (within_joined all ps (join s (sharing_at all p))),
  parents_joined all ps (join s (sharing_at all p)),
)

-- one class more
at_left : (xs : List Sharing) (y : Sharing) (n : ℕ) → n < length xs → sharing_at (xs ++ y ∷ []) n ≡ sharing_at xs n
at_left [] y n h = absurd (omega arith)
at_left (x ∷ xs) y zero h = refl
at_left (x ∷ xs) y (suc n) h = at_left xs y n (omega arith)

at_end : (xs : List Sharing) (y : Sharing) (n : ℕ) → n ≡ length xs → sharing_at (xs ++ y ∷ []) n ≡ y
at_end [] y zero h = refl
at_end [] y (suc n) h = absurd (omega arith)
at_end (x ∷ xs) y zero h = absurd (omega arith)
at_end (x ∷ xs) y (suc n) h = at_end xs y n (omega arith)

past : (xs : List Sharing) (n : ℕ) → length xs ≤ n → sharing_at xs n ≡ Several
past [] n h = refl
past (x ∷ xs) zero h = absurd (omega arith)
past (x ∷ xs) (suc n) h = past xs n (omega arith)

joined_kept : (all : List Sharing) (x : Sharing) (ps : List ℕ) (s : Sharing) → AllByRecursion (λ p. p < length all) ps →
    joined_with (all ++ x ∷ []) ps s ≡ joined_with all ps s
joined_kept all x [] s h = refl
joined_kept all x (p ∷ ps) s h =
    ap (λ o. joined_with (all ++ x ∷ []) ps (join s o)) (at_left all x p h.0) ∙ joined_kept all x ps (join s (sharing_at all p)) h.1

pub joined_more : (rule : ClassRule) (ds : Decls) (groups : BTreeMap (List ℕ) (List ℕ)) (all : List Sharing) (x : Sharing) → AreJoined rule ds groups all →
    x ≡ joined_with all (row_at (parent_numbers ds) (length all)) (own_sharing groups (length all) (names_numbered rule ds (length all))) →
    AreJoined rule ds groups (all ++ x ∷ [])
joined_more rule ds groups all x are e = λ n low.
    let size = length-append all (x ∷ []) in
    ⊎_elim
    (λ less.
    at_left all x n less ∙ are n less
    ∙ sym (joined_kept all x (row_at (parent_numbers ds) n) (own_sharing groups n (names_numbered rule ds n))
    (weaker (λ p h. omega arith) (row_at (parent_numbers ds) n) (downward ds n))))
    (λ more.
    let last : n ≡ length all = omega arith in
    at_end all x n last ∙ e
    ∙ sym (joined_kept all x (row_at (parent_numbers ds) (length all)) (own_sharing groups (length all) (names_numbered rule ds (length all))) (downward ds
    (length all)))
    ∙ ap (λ m. joined_with (all ++ x ∷ []) (row_at (parent_numbers ds) m) (own_sharing groups m (names_numbered rule ds m))) (sym last))
    (cases_lt n (length all))

-- what holds of all texts of a list
all_texts : (f : List ℕ → Bool) (names : List (List ℕ)) (t : List ℕ) → list_all f names ≡ true → has_text names t ≡ true → f t ≡ true
all_texts f [] t h e = absurd (true≢false (sym e))
all_texts f (x ∷ xs) t h e =
    ⊎_elim
    (λ q. ap f (sym (same_is x t q)) ∙ first_of (f x) (list_all f xs) h)
    (λ q. all_texts f xs t (second_of (f x) (list_all f xs) h) (sym (ap (λ b. b || has_text xs t) q) ∙ e))
    (cases_Bool (same_text x t))

differ_by : (b : Bool) (x s : Sharing) → is_several s ≡ false → within (cond b x Several) s ≡ true → b ≡ true
differ_by true x s h e = refl
differ_by false x s h e = absurd (true≢false (sym e ∙ h))

only_by : (b o : Bool) (n : ℕ) (s : Sharing) → b ≡ true → o ≡ false → within (cond b (cond o Nothing (Only n)) Several) s ≡ true → within (Only n) s ≡ true
only_by true true n s h e w = absurd (true≢false e)
only_by true false n s h e w = w
only_by false o n s h e w = absurd (true≢false (sym h))

same_only : (s : Sharing) (d m : ℕ) → is_several s ≡ false → within (Only d) s ≡ true → within (Only m) s ≡ true → d ≡ m
same_only Nothing d m h e q = absurd (true≢false (sym e))
same_only (Only i) d m h e q = eq_of d i e ∙ sym (eq_of m i q)
same_only Several d m h e q = absurd (true≢false h)

-- names of some classes, each of which has none twice, and no two of which have one in common
module _ (f : ClassDecl → List (List ℕ)) (g : ℕ → Option ClassDecl) where
  abbrev Apart : List ℕ → Type 0
  Apart ns = (n m : ℕ) (y z : ClassDecl) (t : List ℕ) → is_among ns n ≡ true → is_among ns m ≡ true → g n ≡ Some y → g m ≡ Some z →
      has text_cmp (f y) t ≡ true → has text_cmp (f z) t ≡ true → n ≡ m

  apart_differ : (ns : List ℕ) → IsStrictlySortedBy nat_cmp ns →
      ((n : ℕ) (y : ClassDecl) → is_among ns n ≡ true → g n ≡ Some y → all_differ text_cmp (f y) ≡ true) → Apart ns →
      all_differ text_cmp (flat_map f (filter_map g ns)) ≡ true
  unfolding IsStrictlySortedBy
  apart_differ [] up own apart = refl
  apart_differ (n ∷ ns) up own apart =
      chosen_by f (g n) (filter_map g ns)
      (λ y e. own n y (or_left (nat_eq n n) (is_among ns n) (itself n)) e)
      (apart_differ ns up.1 (λ m y e. own m y (or_right (nat_eq m n) (is_among ns m) e))
      (λ m p y z t a b. apart m p y z t (or_right (nat_eq m n) (is_among ns m) a) (or_right (nat_eq p n) (is_among ns p) b)))
      (λ y e t h.
      false_from (has text_cmp (flat_map f (filter_map g ns)) t) (λ q.
      let other = named f g ns t q in
      let same = apart n other.number y other.class t (or_left (nat_eq n n) (is_among ns n) (itself n)) (or_right (nat_eq other.number n) (is_among ns
      other.number) other.there) e other.is h other.named in
      not_again n ns up.0 (ap (is_among ns) same ∙ other.there)))

-- names of two kinds that together all differ
module _ (f g : ClassDecl → List (List ℕ)) where
  abbrev both : ClassDecl → List (List ℕ)
  both c = f c ++ g c

  first_in : (cs : List ClassDecl) (t : List ℕ) → has text_cmp (flat_map f cs) t ≡ true → has text_cmp (flat_map both cs) t ≡ true
  first_in [] t h = h
  first_in (c ∷ cs) t h =
      in_both (both c) (flat_map both cs) t
      ∙ ⊎_elim
      (λ e. or_left (has text_cmp (both c) t) (has text_cmp (flat_map both cs) t) (in_both (f c) (g c) t ∙ or_left (has text_cmp (f c) t) (has text_cmp
      (g c) t) e))
      (λ e. or_right (has text_cmp (both c) t) (has text_cmp (flat_map both cs) t) (first_in cs t (sym (ap (λ b. b || has text_cmp (flat_map f cs) t) e)
      ∙ sym (in_both (f c) (flat_map f cs) t) ∙ h)))
      (cases_Bool (has text_cmp (f c) t))

  second_in : (cs : List ClassDecl) (t : List ℕ) → has text_cmp (flat_map g cs) t ≡ true → has text_cmp (flat_map both cs) t ≡ true
  second_in [] t h = h
  second_in (c ∷ cs) t h =
      in_both (both c) (flat_map both cs) t
      ∙ ⊎_elim
      (λ e. or_left (has text_cmp (both c) t) (has text_cmp (flat_map both cs) t) (in_both (f c) (g c) t ∙ or_right (has text_cmp (f c) t) (has text_cmp
      (g c) t) e))
      (λ e. or_right (has text_cmp (both c) t) (has text_cmp (flat_map both cs) t) (second_in cs t (sym (ap (λ b. b || has text_cmp (flat_map g cs) t) e)
      ∙ sym (in_both (g c) (flat_map g cs) t) ∙ h)))
      (cases_Bool (has text_cmp (g c) t))

  first_differ : (cs : List ClassDecl) → all_differ text_cmp (flat_map both cs) ≡ true → all_differ text_cmp (flat_map f cs) ≡ true
  first_differ [] h = refl
  first_differ (c ∷ cs) h =
      joined (f c) (flat_map f cs) (left_differ (f c) (g c) (left_differ (both c) (flat_map both cs) h)) (first_differ cs (right_differ (both c) (flat_map
      both cs) h))
      (λ t e. false_from (has text_cmp (flat_map f cs) t) (λ q. true≢false (sym (first_in cs t q) ∙ no_common (both c) (flat_map both cs) h t
      (in_both (f c) (g c) t ∙ or_left (has text_cmp (f c) t) (has text_cmp (g c) t) e))))

  -- a name of the first kind is none of the second
  not_second : (cs : List ClassDecl) → all_differ text_cmp (flat_map both cs) ≡ true → (t : List ℕ) → has text_cmp (flat_map f cs) t ≡ true →
      has text_cmp (flat_map g cs) t ≡ false
  not_second [] h t e = refl
  not_second (c ∷ cs) h t e =
      false_from (has text_cmp (g c ++ flat_map g cs) t) (λ q.
      ⊎_elim
      (λ here.
      ⊎_elim
      (λ there. true≢false (sym there ∙ no_common (f c) (g c) (left_differ (both c) (flat_map both cs) h) t here))
      (λ there. true≢false (sym (second_in cs t (sym (ap (λ b. b || has text_cmp (flat_map g cs) t) there) ∙ sym (in_both (g c) (flat_map g cs) t) ∙ q))
      ∙ no_common (both c) (flat_map both cs) h t (in_both (f c) (g c) t ∙ or_left (has text_cmp (f c) t) (has text_cmp (g c) t) here)))
      (cases_Bool (has text_cmp (g c) t)))
      (λ later.
      let e2 : has text_cmp (flat_map f cs) t ≡ true = sym (ap (λ b. b || has text_cmp (flat_map f cs) t) later) ∙ sym (in_both (f c) (flat_map f cs) t) ∙ e in
      ⊎_elim
      (λ there. true≢false (sym (first_in cs t e2) ∙ no_common (both c) (flat_map both cs) h t (in_both (f c) (g c) t ∙ or_right (has text_cmp (f c) t)
      (has text_cmp (g c) t) there)))
      (λ there. true≢false (sym (sym (ap (λ b. b || has text_cmp (flat_map g cs) t) there) ∙ sym (in_both (g c) (flat_map g cs) t) ∙ q) ∙ not_second cs
      (right_differ (both c) (flat_map both cs) h) t e2))
      (cases_Bool (has text_cmp (g c) t)))
      (cases_Bool (has text_cmp (f c) t)))

no_meet : (xs ys : List (List ℕ)) → ((t : List ℕ) → has text_cmp xs t ≡ true → has text_cmp ys t ≡ false) → meet xs ys ≡ false
no_meet [] ys h = refl
no_meet (x ∷ xs) ys h =
    ap₂ (λ a b. a || b)
    (has_text_is ys x ∙ h x (sym (has_text_is (x ∷ xs) x) ∙ or_left (same_text x x) (has_text xs x) (same_self x)))
    (no_meet xs ys (λ t e. h t (sym (has_text_is (x ∷ xs) t) ∙ or_right (same_text x t) (has_text xs t) (has_text_is xs t ∙ e))))

-- of the classes that a test passes
filter_by : (f : ℕ → Bool) (x z : ℕ) (b : Bool) (rest : List ℕ) (a : Bool) → f x ≡ b → (is_among rest z ≡ true → (a ≡ true) × (f z ≡ true)) →
    is_among (cond b (x ∷ rest) rest) z ≡ true → ((nat_eq z x || a) ≡ true) × (f z ≡ true)
filter_by f x z true rest a e q h =
    ⊎_elim
    (λ t. (or_left (nat_eq z x) a t.0, ap f t.1 ∙ e))
    (λ t. let m = q (sym (ap (λ c. c || is_among rest z) t.0) ∙ h) in (or_right (nat_eq z x) a m.0, m.1))
    (eqb_tells z x)
filter_by f x z false rest a e q h = let m = q h in (or_right (nat_eq z x) a m.0, m.1)

filtered : (f : ℕ → Bool) (xs : List ℕ) (z : ℕ) → is_among (filter f xs) z ≡ true → (is_among xs z ≡ true) × (f z ≡ true)
filtered f [] z h = absurd (true≢false (sym h))
filtered f (x ∷ xs) z h = filter_by f x z (f x) (filter f xs) (is_among xs z) refl (filtered f xs z) h

-- where an element stands
record Located (i k q : ℕ) (xs : List ℕ) : Type 0 where
  at : ℕ
  is : q ≡ k + at
  there : slice_get xs at ≡ Some i

located_by : (i k x q : ℕ) (xs : List ℕ) (b : Bool) (o : Option ℕ) → nat_eq i x ≡ b → (o ≡ Some q → Located i (k + 1) q xs) → cond b (Some k) o ≡ Some q →
    Located i k q (x ∷ xs)
located_by i k x q xs true o e rest h = let m : k ≡ q = cc in record { at = 0; is = omega arith; there = ap Some (sym (eq_of i x e)) }
located_by i k x q xs false o e rest h = let l = rest h in let m = l.is in record { at = suc (l.at); is = omega arith; there = l.there }

located : (i k : ℕ) (xs : List ℕ) (q : ℕ) → position_from (nat_eq i) k xs ≡ Some q → Located i k q xs
located i k [] q h = cc
located i k (x ∷ xs) q h = located_by i k x q xs (nat_eq i x) (position_from (nat_eq i) (k + 1) xs) refl (located i (k + 1) xs q) h

-- the class of a number stands at the place that has the number
class_there : (ds : Decls) (i n : ℕ) (c : ClassDecl) → number_at ds i ≡ Some n → slice_get ds.classes i ≡ Some c → class_numbered ds n ≡ Some c
class_there ds i n c h e =
    let l = located i 0 (numbering (parent_places ds)) n h in
    let z : n ≡ l.at = let m = l.is in omega arith in
    ap (λ o. option_and_then (slice_get ds.classes) o) (ap (slice_get (numbering (parent_places ds))) z ∙ l.there) ∙ e

-- operations of which none passes a test
none_in : (test : OpDecl → Bool) (ops : List OpDecl) → ((op : OpDecl) → has_text (map (λ o. o.name.text) ops) op.name.text ≡ true → test op ≡ false) →
    option_map (λ op. op.name.place) (find test ops) ≡ None
none_in test [] h = refl
none_in test (op ∷ ops) h =
    not_found (test op) op (find test ops)
    (h op (or_left (same_text op.name.text op.name.text) (has_text (map (λ o. o.name.text) ops) op.name.text) (same_self op.name.text)))
    (none_in test ops (λ other e. h other (or_right (same_text op.name.text other.name.text) (has_text (map (λ o. o.name.text) ops) other.name.text) e)))

none_passes : (test : OpDecl → Bool) (ops : List OpDecl) → ((op : OpDecl) → has_text (map (λ o. o.name.text) ops) op.name.text ≡ true → test op ≡ false) →
    list_any test ops ≡ false
none_passes test [] h = refl
none_passes test (op ∷ ops) h =
    ap₂ (λ a b. a || b)
    (h op (or_left (same_text op.name.text op.name.text) (has_text (map (λ o. o.name.text) ops) op.name.text) (same_self op.name.text)))
    (none_passes test ops (λ other e. h other (or_right (same_text op.name.text other.name.text) (has_text (map (λ o. o.name.text) ops) other.name.text) e)))

unnamed : (kind : Clash) (op : OpDecl) (ops : List OpDecl) → has_text (map (λ o. o.name.text) ops) op.name.text ≡ false →
    list_any (λ other. same_text other.name.text op.name.text && clash kind op other) ops ≡ false
unnamed kind op [] h = refl
unnamed kind op (o ∷ ops) h =
    ap₂ (λ a b. a || b)
    (ap (λ a. a && clash kind op o) (left_false (same_text o.name.text op.name.text) (has_text (map (λ p. p.name.text) ops) op.name.text) h))
    (unnamed kind op ops (right_false (same_text o.name.text op.name.text) (has_text (map (λ p. p.name.text) ops) op.name.text) h))

none_named : (kind : Clash) (op : OpDecl) (g : ℕ → Option ClassDecl) (ns : List ℕ) →
    ((n : ℕ) (z : ClassDecl) → is_among ns n ≡ true → g n ≡ Some z → has_text (map (λ o. o.name.text) z.ops) op.name.text ≡ false) →
    clashes_above kind (filter_map g ns) op ≡ false
none_named kind op g [] h = refl
none_named kind op g (n ∷ ns) h =
    none_by (λ c. list_any (λ other. same_text other.name.text op.name.text && clash kind op other) c.ops) (g n) (filter_map g ns)
    (λ z e. unnamed kind op z.ops (h n z (or_left (nat_eq n n) (is_among ns n) (itself n)) e))
    (none_named kind op g ns (λ m z a e. h m z (or_right (nat_eq m n) (is_among ns m) a) e))

names_of : (o : Option ClassDecl) → option_map_or (λ c. map (λ op. op.name.text) c.ops) o [] ≡ map (λ op. op.name.text) (option_map_or (λ c. c.ops) o [])
names_of None = refl
names_of (Some c) = refl

module _ (rule : ClassRule) (ds : Decls) (groups : BTreeMap (List ℕ) (List ℕ)) (all : List Sharing) (by_name : IsByName rule ds groups)
    (are : AreJoined rule ds groups all) where
  abbrev parents : List (List ℕ)
  parents = parent_numbers ds

  abbrev names : ℕ → List (List ℕ)
  names n = names_numbered rule ds n

  own_within : (n : ℕ) → within (own_sharing groups n (names n)) (sharing_at all n) ≡ true
  own_within n =
      ⊎_elim
      (λ low. ap (within (own_sharing groups n (names n))) (are n low) ∙ within_joined all (row_at parents n) (own_sharing groups n (names n)))
      (λ high. ap (within (own_sharing groups n (names n))) (past all n (omega arith)) ∙ within_top (own_sharing groups n (names n)))
      (cases_lt n (length all))

  parents_within : (n : ℕ) → AllByRecursion (λ p. within (sharing_at all p) (sharing_at all n) ≡ true) (row_at parents n)
  parents_within n =
      ⊎_elim
      (λ low. weaker (λ p h. ap (within (sharing_at all p)) (are n low) ∙ h) (row_at parents n) (parents_joined all (row_at parents n) (own_sharing groups n
      (names n))))
      (λ high. weaker (λ p h. ap (within (sharing_at all p)) (past all n (omega arith)) ∙ within_top (sharing_at all p)) (row_at parents n) (downward ds n))
      (cases_lt n (length all))

  above_within : (c d : ℕ) → is_among (ancestors parents c) d ≡ true → within (sharing_at all d) (sharing_at all c) ≡ true
  above_within c d h =
      (least_above parents (downward ds) c).least (λ e. within (sharing_at all e) (sharing_at all c)) (within_self (sharing_at all c))
      (λ e q. weaker (λ p w. within_on (sharing_at all p) (sharing_at all e) (sharing_at all c) w q) (row_at parents e) (parents_within e)) d h

  not_own : (d m : ℕ) (t : List ℕ) → (d ≡ m → ⊥) → has_text (names d) t ≡ true → has_text (names m) t ≡ true → are_own groups d (names d) ≡ false
  not_own d m t ne hd hm =
      false_from (are_own groups d (names d)) (λ o. ne (eq_of d m (all_at (nat_eq d) (listed groups t) m (all_texts (λ s. list_all (nat_eq d) (listed
      groups s)) (names d) t o hd) (by_name t m ∙ hm))))

  module _ (c : ℕ) (few : is_several (sharing_at all c) ≡ false) where
    own_above : (d : ℕ) → is_among (ancestors parents c) d ≡ true → within (own_sharing groups d (names d)) (sharing_at all c) ≡ true
    own_above d h = within_on (own_sharing groups d (names d)) (sharing_at all d) (sharing_at all c) (own_within d) (above_within c d h)

    differ : (d : ℕ) → is_among (ancestors parents c) d ≡ true → all_differ text_cmp (names d) ≡ true
    differ d h =
        differ_by (all_differ text_cmp (names d)) (cond (are_own groups d (names d)) Nothing (Only d)) (sharing_at all c) few (own_above d h)

    only : (d m : ℕ) (t : List ℕ) → (d ≡ m → ⊥) → is_among (ancestors parents c) d ≡ true → has_text (names d) t ≡ true → has_text (names m) t ≡ true →
        within (Only d) (sharing_at all c) ≡ true
    only d m t ne h hd hm =
        only_by (all_differ text_cmp (names d)) (are_own groups d (names d)) d (sharing_at all c) (differ d h) (not_own d m t ne hd hm) (own_above d h)

    -- two of them with a name in common are one
    apart : (d m : ℕ) (t : List ℕ) → is_among (ancestors parents c) d ≡ true → is_among (ancestors parents c) m ≡ true → has_text (names d) t ≡ true →
        has_text (names m) t ≡ true → d ≡ m
    apart d m t ad am hd hm =
        ⊎_elim
        (λ e. e.1)
        (λ e. same_only (sharing_at all c) d m few (only d m t e.1 ad hd hm) (only m d t (λ s. e.1 (sym s)) am hm hd))
        (eqb_tells d m)

  has_name : (n : ℕ) (y : ClassDecl) (t : List ℕ) → class_numbered ds n ≡ Some y → has text_cmp (names_compared rule ds y) t ≡ true → has_text (names n) t ≡ true
  has_name n y t e h = ap (λ o. has_text (option_map_or (names_compared rule ds) o []) t) e ∙ has_text_is (names_compared rule ds y) t ∙ h

  differ_at : (o : Option ℕ) → option_map_or (λ n. is_several (sharing_at all n)) o false ≡ false →
      all_differ text_cmp (flat_map (names_compared rule ds) (filter_map (class_numbered ds) (option_map_or (ancestors parents) o []))) ≡ true
  differ_at None h = refl
  differ_at (Some c) h =
      apart_differ (names_compared rule ds) (class_numbered ds) (ancestors parents c) (sorted_by parents (Some c))
      (λ n y a e. ap (λ p. all_differ text_cmp (option_map_or (names_compared rule ds) p [])) (sym e) ∙ differ c h n a)
      (λ n m y z t a b e f p q. apart c h n m t a b (has_name n y t e p) (has_name m z t f q))

  module _ (ops : (c : ClassDecl) → names_compared rule ds c ≡ map (λ op. op.name.text) c.ops) where
    op_named : (n : ℕ) (y : ClassDecl) (t : List ℕ) → class_numbered ds n ≡ Some y → has_text (map (λ op. op.name.text) y.ops) t ≡ true
        → has_text (names n) t ≡ true
    op_named n y t e h =
        ap (λ o. has_text (option_map_or (names_compared rule ds) o []) t) e ∙ ap (λ l. has_text l t) (ops y) ∙ h

    no_clash_at : (kind : Clash) (i : ℕ) (c : ClassDecl) → slice_get ds.classes i ≡ Some c → (o : Option ℕ) → number_at ds i ≡ o →
        option_map_or (λ n. is_several (sharing_at all n)) o false ≡ false →
        first_op (clashes_above kind (filter_map (class_numbered ds) (filter (λ m. nat_lt m (unwrap_or o 0)) (option_map_or (ancestors parents) o [])))) c ≡ None
    no_clash_at kind i c e None at h = none_in (clashes_above kind []) c.ops (λ op q. refl)
    no_clash_at kind i c e (Some n) at h =
        none_in (clashes_above kind (filter_map (class_numbered ds) (filter (λ m. nat_lt m n) (ancestors parents n)))) c.ops (λ op q.
        none_named kind op (class_numbered ds) (filter (λ m. nat_lt m n) (ancestors parents n)) (λ m z a f.
        false_from (has_text (map (λ o. o.name.text) z.ops) op.name.text) (λ p.
        let below = filtered (λ d. nat_lt d n) (ancestors parents n) m a in
        let same = apart n h m n op.name.text below.0 (least_above parents (downward ds) n).class (op_named m z op.name.text f p) (op_named n c op.name.text
        (class_there ds i n c at e) q) in
        true≢false (sym below.1 ∙ ap (λ d. nat_lt d n) same ∙ not_less n))))

    ops_alike : (o : Option ClassDecl) → option_map_or (λ c. map (λ op. op.name.text) c.ops) o [] ≡ option_map_or (names_compared rule ds) o []
    ops_alike None = refl
    ops_alike (Some c) = sym (ops c)

    declares_named : (n : ℕ) (t : List ℕ) → list_any (λ op. same_text op.name.text t) (ops_numbered ds n) ≡ has_text (names n) t
    declares_named n t =
        sym (any-map (λ y. same_text y t) (λ op. op.name.text) (ops_numbered ds n)) ∙ ap (λ l. has_text l t) (sym (names_of (class_numbered ds n))
        ∙ ops_alike (class_numbered ds n))

    not_ambiguous_at : (o : Option ℕ) → option_map_or (λ n. is_several (sharing_at all n)) o false ≡ false →
        is_ambiguous ds (option_map_or (ancestors parents) o []) ≡ false
    not_ambiguous_at None h = refl
    not_ambiguous_at (Some c) h =
        sym (some_disputed ds (ancestors parents c))
        ∙ none_of (λ n. list_any (λ op. is_disputed parents (declaring ds (ancestors parents c) op.name.text) n) (ops_numbered ds n)) (ancestors parents c)
        (λ n a.
        none_passes (λ op. is_disputed parents (declaring ds (ancestors parents c) op.name.text) n) (ops_numbered ds n) (λ op q.
        sym (alone_undisputed ds (declaring ds (ancestors parents c) op.name.text) n (all_of (nat_eq n) (declaring ds (ancestors parents c) op.name.text)
        (λ d e.
        let those = sym (declaring_among ds op.name.text (ancestors parents c) d) ∙ e in
        let named_d = declares_is ds op.name.text d ∙ declares_named d op.name.text in
        let same = apart c h n d op.name.text a (first_of (is_among (ancestors parents c) d) (declares_op ds op.name.text d) those)
        (sym (declares_named n op.name.text) ∙ sym (any-map (λ y. same_text y op.name.text) (λ o. o.name.text) (ops_numbered ds n)) ∙ q)
        (sym named_d ∙ second_of (is_among (ancestors parents c) d) (declares_op ds op.name.text d) those) in
        ap (nat_eq n) (sym same) ∙ itself n)))))

few_of : (b : Bool) → not (true && not b) ≡ false → b ≡ false
few_of true h = absurd (true≢false h)
few_of false h = refl

-- a class that may not break a rule does not
pub cannot : (rule : ClassRule) (ds : Decls) (groups : BTreeMap (List ℕ) (List ℕ)) (all : List Sharing) → IsByName rule ds groups →
    AreJoined rule ds groups all → (i : ℕ) (c : ClassDecl) → slice_get ds.classes i ≡ Some c → may_break rule ds all i ≡ false →
    broken_by rule ds i c ≡ None
cannot r.AttributeMetTwice ds groups all by_name are i c e h =
    ap (λ b. named_if b c) (no_repeat (attrs_of (above ds i)) (differ_at r.AttributeMetTwice ds groups all by_name are (number_at ds i) (few_of
    (option_map_or (λ n. is_several (sharing_at all n)) (number_at ds i) false) h)))
cannot r.RoleClashes ds groups all by_name are i c e h =
    let f : ClassDecl → List (List ℕ) = λ d. roles_of_class ds.assocs d.name.text in
    let g : ClassDecl → List (List ℕ) = λ d. map (λ a. a.name.text) d.attrs in
    let all_apart = differ_at r.RoleClashes ds groups all by_name are (number_at ds i) (few_of (option_map_or (λ n. is_several (sharing_at all n)) (number_at ds
    i) false) h) in
    ap (λ b. named_if b c) (ap₂ (λ p q. p || q) (no_repeat (roles_of ds.assocs (above ds i)) (first_differ f g (above ds i) all_apart))
    (no_meet (roles_of ds.assocs (above ds i)) (attrs_of (above ds i)) (not_second f g (above ds i) all_apart)))
cannot r.SignatureChanges ds groups all by_name are i c e h =
    no_clash_at r.SignatureChanges ds groups all by_name are (λ d. refl) k.Signature i c e (number_at ds i) refl (few_of
    (option_map_or (λ n. is_several (sharing_at all n)) (number_at ds i) false) h)
cannot r.OperationAmbiguous ds groups all by_name are i c e h =
    ap (λ b. named_if b c) (not_ambiguous_at r.OperationAmbiguous ds groups all by_name are (λ d. refl) (number_at ds i) (few_of
    (option_map_or (λ n. is_several (sharing_at all n)) (number_at ds i) false) h))
cannot r.BodiesMixed ds groups all by_name are i c e h =
    no_clash_at r.BodiesMixed ds groups all by_name are (λ d. refl) k.Bodies i c e (number_at ds i) refl (few_of
    (option_map_or (λ n. is_several (sharing_at all n)) (number_at ds i) false) h)
cannot r.TooManyFeatures ds groups all by_name are i c e h = absurd (true≢false h)
cannot r.TooManyContracts ds groups all by_name are i c e h = absurd (true≢false h)
