use Rattle.std.proofs.Common.{◌≡◌, ◌≤◌, ◌++◌, ◌⊎◌, inl, inr, true, List, [], ◌∷◌, ℕ, drop, length, Ordering, refl, ap, sym, ◌∙◌, append_assoc, append-nil}
use Rattle.std.proofs.Common.{drop_of_length-le, ⊎_elim}
use Rattle.std.specs.Set.{sorted_merge}
use Rattle.use_orders.proofs.merges.merge.Goals as goal
use Rattle.use_orders.proofs.merges.merge.Goals.{then-merge-test+else-j-b, else-merge-test}

module _ {K : Type 0} (cmp : K → K → Ordering) where
  alone : (xs : List K) → sorted_merge cmp true xs [] ≡ xs
  alone [] = refl
  alone (x ∷ xs) = refl

  rest_is : (xs ys : List K) → (xs ≡ []) ⊎ (ys ≡ []) → xs ++ ys ≡ sorted_merge cmp true xs ys
  rest_is xs ys (inl e) = ap (λ l. l ++ ys) e ∙ sym (ap (λ l. sorted_merge cmp true l ys) e)
  rest_is xs ys (inr e) = ap (λ l. xs ++ l) e ∙ append-nil xs ∙ sym (ap (λ l. sorted_merge cmp true xs l) e ∙ alone xs)

  ended : (out mid a b done whole : List K) (i j : ℕ) → mid ≡ out ++ drop i a → done ≡ mid ++ drop j b → (length a ≤ i) ⊎ (length b ≤ j)
      → out ++ sorted_merge cmp true (drop i a) (drop j b) ≡ whole → done ≡ whole
  ended out mid a b done whole i j first second ends same =
      second
      ∙ ap (λ l. l ++ drop j b) first
      ∙ append_assoc out (drop i a) (drop j b)
      ∙ ap (λ l. out ++ l) (rest_is (drop i a) (drop j b) (⊎_elim (λ l. inl (drop_of_length-le a l)) (λ l. inr (drop_of_length-le b l)) ends))
      ∙ same

pub returns : goal.returns
returns g c =
    ended g.T.Ord.cmp _ _ _ _ _ _ c.merge.i c.merge.j c.in_ok-append_copies.ensures c.in_ok-append_copies-2.ensures
    (elim c.merge-test.branch [ then-merge-test+else-j-b w ↦ inr w.if-j-b.false | else-merge-test w ↦ inl w.merge-test.false ])
    c.merge.invariant.same
