-- Lists of entries in the order of their keys that find the same are the same.
use Rattle.std.proofs.Common.{◌≡◌, cond, List, [], ◌∷◌, Some, None, false, refl, sym, ap, ◌∙◌}
use Rattle.std.proofs.Common.{Ordering, Less, Greater, is_eq}
use Rattle.std.specs.BTreeMap.{is_at}
use Rattle.std.specs.Cmp.{IsTotalOrder}
use Rattle.std.specs.List.{AllByRecursion}
use Rattle.std.specs.List.Sorted.{IsStrictlySortedBy}
use Rattle.std.specs.Map.{keys_of, lookup}
use Rattle.std.specs.Ordering.{ordering_reverse}
use Rattle.std.proofs.lemmas.Cmp.{tied_itself}
use Rattle.std.proofs.lemmas.Map.Lookups.{CmpEqualImpliesEq}
use Rattle.object_state.proofs.Keyed.{by_order, by_test, equal, some≢none}

module _ {K : Type 0} {R : K → K → Ordering} (o : IsTotalOrder R) where
  over : (x y : K) → R x y ≡ Greater → R y x ≡ Less
  over x y e = o.antisymm y x ∙ ap ordering_reverse e

  above : (x y : K) (ks : List K) → R x y ≡ Less → AllByRecursion (λ z. R y z ≡ Less) ks → AllByRecursion (λ z. R x z ≡ Less) ks
  above x y [] l a = tt
  above x y (z ∷ zs) l a = (o.trans x y z l a.0, above x y zs l a.1)

module _ {K X : Type 0} {R : K → K → Ordering} (o : IsTotalOrder R) where
  -- below all keys there is none
  pub none_below : (es : List (K × X)) (k : K) → AllByRecursion (λ y. R k y ≡ Less) (keys_of es) → lookup (is_at (R k)) es ≡ None
  none_below [] k a = refl
  none_below (e ∷ es) k a = rw (a.0) (none_below es k a.1)

  here : (e : K × X) (es : List (K × X)) → lookup (is_at (R e.0)) (e ∷ es) ≡ Some e.1
  here e es = rw (tied_itself o e.0) refl

  module _ (exact : CmpEqualImpliesEq R) where
    inside : (a b : X) → Some a ≡ Some b → a ≡ b
    inside a b e = cc

    skip : (q : K) (e : K × X) (es : List (K × X)) → is_at (R q) e.0 ≡ false → lookup (is_at (R q)) (e ∷ es) ≡ lookup (is_at (R q)) es
    skip q e es n = ap (λ b. cond b (Some e.1) (lookup (is_at (R q)) es)) n

    pub same_entries : (es fs : List (K × X)) → IsStrictlySortedBy R (keys_of es) → IsStrictlySortedBy R (keys_of fs)
        → ((q : K) → lookup (is_at (R q)) es ≡ lookup (is_at (R q)) fs) → es ≡ fs
    unfolding IsStrictlySortedBy
    same_entries [] [] s t h = refl
    same_entries [] (f ∷ fs) s t h = absurd (some≢none f.1 (sym (here f fs) ∙ sym (h f.0)))
    same_entries (e ∷ es) [] s t h = absurd (some≢none e.1 (sym (here e es) ∙ h e.0))
    same_entries (e ∷ es) (f ∷ fs) s t h =
        by_order (R e.0 f.0)
        (λ l. absurd (some≢none e.1 (sym (here e es) ∙ h e.0 ∙ none_below (f ∷ fs) e.0 (l, above o e.0 f.0 (keys_of fs) l t.0))))
        (λ t'.
        let key : e.0 ≡ f.0 = exact e.0 f.0 t' in
        let value : e.1 ≡ f.1 = inside e.1 f.1 (sym (here e es) ∙ h e.0 ∙ ap (λ r. cond (is_eq r) (Some f.1) (lookup (is_at (R e.0)) fs)) t') in
        let rest : es ≡ fs = same_entries es fs s.1 t.1 (λ q. by_test (is_at (R q) e.0)
        (λ y. let k : q ≡ e.0 = exact q e.0 (equal _ y) in
        ap (λ (z : K). lookup (is_at (R z)) es) k ∙ none_below es e.0 s.0
        ∙ sym (ap (λ (z : K). lookup (is_at (R z)) fs) (k ∙ key) ∙ none_below fs f.0 t.0))
        (λ n. sym (skip q e es n) ∙ h q ∙ skip q f fs (ap (λ (z : K). is_at (R q) z) (sym key) ∙ n))) in
        λ i. (key i, value i) ∷ rest i)
        (λ g. let l : R f.0 e.0 ≡ Less = over o e.0 f.0 g in
        absurd (some≢none f.1 (sym (here f fs) ∙ sym (h f.0) ∙ none_below (e ∷ es) f.0 (l, above o f.0 e.0 (keys_of es) l s.0))))
