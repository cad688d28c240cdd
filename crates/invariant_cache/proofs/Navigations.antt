-- Navigations go in a total order that ties each with itself alone, and are told apart by their parts.
use Rattle.std.proofs.Common.{◌≡◌, true, false, ◌&&◌, refl, sym, ap, ◌∙◌, true≢false, Ordering, Less, Equal, Greater, is_eq}
use Rattle.std.specs.BTreeMap.{is_at}
use Rattle.std.specs.Cmp.{IsTotalOrder, nat_cmp_total, on_total, then_total}
use Rattle.std.specs.Ordering.{nat_cmp, ordering_then}
use Rattle.std.specs.Prelude.{nat_eq}
use Rattle.std.proofs.lemmas.Bool.{eq-eqb, eqb-true}
use Rattle.std.proofs.lemmas.Cmp.{tied_itself}
use Rattle.std.proofs.lemmas.Map.Lookups.{CmpEqualImpliesEq, exact_pairs, exact_unsigned}
use Rattle.class_model.specs.contracts.numbers.EndOrd.TheImpl.{ghosts as end_ghosts}
use Rattle.class_model.specs.contracts.numbers.EndPartialEq.TheImpl.{ghosts as end_equal}
use Rattle.class_model.specs.contracts.numbers.EndOrd.TheImpl.Laws.{total-law}
use Rattle.class_model.specs.declared.numbers.End.{End}
use Rattle.class_model.specs.declared.numbers.End.TheVariants.{First, Second}
use Rattle.object_state.proofs.Hits.{nat_same, same_end}
use Rattle.object_state.proofs.Keyed.{both, by_test, equal}
use Rattle.invariant_cache.specs.Broken.{Navigation}
use Rattle.invariant_cache.specs.Counts.{navigation_cmp, same_navigation}

end_exact : CmpEqualImpliesEq end_ghosts.cmp
end_exact First First e = refl
end_exact First Second e = absurd (true≢false (sym (ap is_eq e)))
end_exact Second First e = absurd (true≢false (sym (ap is_eq e)))
end_exact Second Second e = refl

pub navigation_total : IsTotalOrder navigation_cmp
navigation_total =
    then_total (on_total (λ (n : Navigation). n.0) nat_cmp_total)
    (then_total (on_total (λ (n : Navigation). n.1.0) total-law) (on_total (λ (n : Navigation). n.1.1) nat_cmp_total))

pub navigation_exact : CmpEqualImpliesEq navigation_cmp
navigation_exact = exact_pairs nat_cmp (λ x y. ordering_then (end_ghosts.cmp x.0 y.0) (nat_cmp x.1 y.1)) exact_unsigned
    (exact_pairs end_ghosts.cmp nat_cmp end_exact exact_unsigned)

-- one navigation is another, or it is not
pub by_navigation : {P : Type 0} (n k : Navigation) → (n ≡ k → P) → (is_at (navigation_cmp n) k ≡ false → P) → P
by_navigation n k f g = by_test (is_at (navigation_cmp n) k) (λ y. f (navigation_exact n k (equal _ y))) g

pub at_itself : (n : Navigation) → is_at (navigation_cmp n) n ≡ true
at_itself n = ap is_eq (tied_itself navigation_total n)

-- the two ways of telling them apart agree
ends_equal : (e f : End) → end_equal.eq e f ≡ true → e ≡ f
ends_equal First First h = refl
ends_equal First Second h = absurd (true≢false (sym h))
ends_equal Second First h = absurd (true≢false (sym h))
ends_equal Second Second h = refl

end_itself : (e : End) → end_equal.eq e e ≡ true
end_itself First = refl
end_itself Second = refl

equal_navigations : (k n : Navigation) → same_navigation k n ≡ true → n ≡ k
equal_navigations k n h =
    let x = both (nat_eq k.0 n.0) _ h in
    let y = both (end_equal.eq k.1.0 n.1.0) (nat_eq k.1.1 n.1.1) x.1 in
    λ i. (sym (eqb-true k.0 n.0 x.0) i, (sym (ends_equal k.1.0 n.1.0 y.0) i, sym (eqb-true k.1.1 n.1.1 y.1) i))

same_itself : (n : Navigation) → same_navigation n n ≡ true
same_itself n = rw (eq-eqb n.0 n.0 refl, end_itself n.1.0, eq-eqb n.1.1 n.1.1 refl) refl

pub same_at : (k n : Navigation) → same_navigation k n ≡ is_at (navigation_cmp n) k
same_at k n = by_test (same_navigation k n)
    (λ y. y ∙ sym (at_itself k) ∙ ap (λ (z : Navigation). is_at (navigation_cmp z) k) (sym (equal_navigations k n y)))
    (λ z. z ∙ sym (by_navigation n k (λ e. absurd (true≢false (sym (same_itself k) ∙ ap (same_navigation k) (sym e) ∙ z))) (λ h. h)))

parts : (p q r : Ordering) → is_eq (ordering_then p (ordering_then q r)) ≡ (is_eq p && is_eq q && is_eq r)
parts Less q r = refl
parts Equal Less r = refl
parts Equal Equal r = refl
parts Equal Greater r = refl
parts Greater q r = refl

end_same : (e f : End) → is_eq (end_ghosts.cmp e f) ≡ same_end e f
end_same First First = refl
end_same First Second = refl
end_same Second First = refl
end_same Second Second = refl

pub at_parts : (n k : Navigation) → is_at (navigation_cmp n) k ≡ (nat_eq n.0 k.0 && same_end n.1.0 k.1.0 && nat_eq n.1.1 k.1.1)
at_parts n k = parts (nat_cmp n.0 k.0) (end_ghosts.cmp n.1.0 k.1.0) (nat_cmp n.1.1 k.1.1)
    ∙ (λ i. nat_same n.0 k.0 i && end_same n.1.0 k.1.0 i && nat_same n.1.1 k.1.1 i)
