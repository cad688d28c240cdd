-- The changes that take links and objects away, gathered one after another.
use Rattle.std.proofs.Common.{◌≡◌, Bool, true, cond, List, [], ◌∷◌, ◌++◌, map, Some, None, refl, sym, ap, ◌∙◌, is_eq}
use Rattle.std.proofs.Common.{Less, Ordering, Result, Ok, Err}
use Rattle.std.specs.BTreeMap.{is_at}
use Rattle.std.specs.Cmp.{IsTotalOrder}
use Rattle.std.specs.List.{AllByRecursion, filter, flat_map}
use Rattle.std.specs.List.Sorted.{IsStrictlySortedBy}
use Rattle.std.specs.Map.{keys_of, lookup}
use Rattle.std.specs.Prelude.{IfOk, OnOk}
use Rattle.std.proofs.lemmas.Cmp.{tied_itself}
use Rattle.std.proofs.lemmas.List.{append_assoc}
use Rattle.std.proofs.lemmas.Map.Lookups.{CmpEqualImpliesEq}
use Rattle.object_state.proofs.Keyed.{by_test, equal, some≢none}

-- clauses of a result
pub on_ok : {T E P Q : Type 0} (r : Result T E) → (P → Q) → OnOk r P → OnOk r Q
on_ok (Ok x) f h = f h
on_ok (Err e) f h = tt

pub if_ok : {T E : Type 0} {P Q : T → Type 0} (r : Result T E) → ((x : T) → P x → Q x) → IfOk r P → IfOk r Q
if_ok (Ok x) f h = f x h
if_ok (Err e) f h = tt

-- a list that is gathered, one more
pub one_more : {X C : Type 0} (f : X → List C) (xs rest : List X) (x : X) (sofar now whole : List C) → xs ≡ x ∷ rest → now ≡ sofar ++ f x
    → sofar ++ flat_map f xs ≡ whole → now ++ flat_map f rest ≡ whole
one_more f xs rest x sofar now whole e n h =
    ap (λ l. l ++ flat_map f rest) n ∙ append_assoc sofar (f x) (flat_map f rest) ∙ sym (ap (λ l. sofar ++ flat_map f l) e) ∙ h

module _ {K X : Type 0} {R : K → K → Ordering} (o : IsTotalOrder R) (exact : CmpEqualImpliesEq R) where
  here : (e : K × X) (es : List (K × X)) → lookup (is_at (R e.0)) (e ∷ es) ≡ Some e.1
  here e es = ap (λ b. cond b (Some e.1) (lookup (is_at (R e.0)) es)) (ap is_eq (tied_itself o e.0))

  none_below : (es : List (K × X)) (k : K) → AllByRecursion (λ y. R k y ≡ Less) (keys_of es) → lookup (is_at (R k)) es ≡ None
  none_below [] k a = refl
  none_below (e ∷ es) k a = ap (λ r. cond (is_eq r) (Some e.1) (lookup (is_at (R k)) es)) a.0 ∙ none_below es k a.1

  later : (e : K × X) (es : List (K × X)) → AllByRecursion (λ y. R e.0 y ≡ Less) (keys_of es) → (k : K) (v : X) → lookup (is_at (R k)) es ≡ Some v
      → lookup (is_at (R k)) (e ∷ es) ≡ Some v
  later e es s k v f = by_test (is_at (R k) e.0)
      (λ y. absurd (some≢none v (sym f ∙ ap (λ (z : K). lookup (is_at (R z)) es) (exact k e.0 (equal _ y)) ∙ none_below es e.0 s)))
      (λ n. ap (λ b. cond b (Some e.1) (lookup (is_at (R k)) es)) n ∙ f)

  -- what is told of the selected entries, by the values alone, is what is made of each
  pub told_of_each : {C : Type 0} (p : K × X → Bool) (f : X → List C) (g : K × X → C) (es : List (K × X)) → IsStrictlySortedBy R (keys_of es)
      → ((k : K) (v : X) → lookup (is_at (R k)) es ≡ Some v → p (k, v) ≡ true → f v ≡ g (k, v) ∷ [])
      → flat_map f (map (λ e. e.1) (filter p es)) ≡ map g (filter p es)
  unfolding IsStrictlySortedBy
  told_of_each p f g [] s h = refl
  told_of_each p f g (e ∷ es) s h =
      let rest = told_of_each p f g es s.1 (λ k v a. h k v (later e es s.0 k v a)) in
      by_test (p e)
      (λ y.
      ap (λ b. flat_map f (map (λ e. e.1) (cond b (e ∷ filter p es) (filter p es)))) y
      ∙ (λ i. h e.0 e.1 (here e es) y i ++ rest i)
      ∙ sym (ap (λ b. map g (cond b (e ∷ filter p es) (filter p es))) y))
      (λ n.
      ap (λ b. flat_map f (map (λ e. e.1) (cond b (e ∷ filter p es) (filter p es)))) n ∙ rest
      ∙ sym (ap (λ b. map g (cond b (e ∷ filter p es) (filter p es))) n))

  -- and of all entries, by the keys alone
  pub told_by_keys : {C : Type 0} (f : K → List C) (g : K × X → C) (es : List (K × X)) → IsStrictlySortedBy R (keys_of es)
      → ((k : K) (v : X) → lookup (is_at (R k)) es ≡ Some v → f k ≡ g (k, v) ∷ [])
      → flat_map f (map (λ e. e.0) es) ≡ map g es
  unfolding IsStrictlySortedBy
  told_by_keys f g [] s h = refl
  told_by_keys f g (e ∷ es) s h =
      let rest = told_by_keys f g es s.1 (λ k v a. h k v (later e es s.0 k v a)) in
      λ i. h e.0 e.1 (here e es) i ++ rest i

  -- a test that all entries pass
  pub all_pass : (p : K × X → Bool) (es : List (K × X)) → IsStrictlySortedBy R (keys_of es)
      → ((k : K) (v : X) → lookup (is_at (R k)) es ≡ Some v → p (k, v) ≡ true) → filter p es ≡ es
  unfolding IsStrictlySortedBy
  all_pass p [] s h = refl
  all_pass p (e ∷ es) s h =
      ap (λ b. cond b (e ∷ filter p es) (filter p es)) (h e.0 e.1 (here e es))
      ∙ ap (λ r. e ∷ r) (all_pass p es s.1 (λ k v a. h k v (later e es s.0 k v a)))
