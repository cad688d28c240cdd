-- A set of pairs, while an object is put into the extents of some classes or taken out, class by class.
use Rattle.std.proofs.Common.{◌≡◌, ◌+◌, ◌<◌, ℕ, Bool, true, false, cond, ◌&&◌, ◌||◌, List, [], ◌∷◌, get_or, length, take, refl, sym, ap, ◌∙◌}
use Rattle.std.proofs.Common.{true≢false, is_eq, arith, zero, suc}
use Rattle.std.specs.BTreeMap.{is_at}
use Rattle.std.specs.List.{list_any}
use Rattle.std.specs.Prelude.{nat_eq}
use Rattle.std.proofs.lemmas.Bool.{eq-eqb, eqb-true}
use Rattle.std.proofs.lemmas.Cmp.{tied_itself}
use Rattle.std.proofs.lemmas.List.{take_more}
use Rattle.std.proofs.lemmas.List.Folds.{list_any-append}
use Rattle.object_state.specs.State.{link_cmp}
use Rattle.object_store.specs.Indexes.{has_pair, is_one}
use Rattle.object_state.proofs.Keyed.{by_test, equal}
use Rattle.object_state.proofs.Back.{link_exact, link_total}

either : {P : Type 0} (a b : Bool) → (a || b) ≡ true → (a ≡ true → P) → (b ≡ true → P) → P
either true b h f g = f refl
either false b h f g = g h

or_false : (b : Bool) → (b || false) ≡ b
or_false true = refl
or_false false = refl

-- the element at a place passes a test for it
has_it : (xs : List ℕ) (i : ℕ) → i < length xs → list_any (nat_eq (get_or xs i 0)) xs ≡ true
has_it [] i h = absurd (omega arith)
has_it (x ∷ xs) zero h = ap (λ b. b || list_any (nat_eq x) xs) (eq-eqb x x refl)
has_it (x ∷ xs) (suc i) h = ap (λ b. nat_eq (get_or xs i 0) x || b) (has_it xs i (omega arith)) ∙ or_true (nat_eq (get_or xs i 0) x)
  where
    or_true : (b : Bool) → (b || true) ≡ true
    or_true true = refl
    or_true false = refl

module _ (classes : List ℕ) (object i : ℕ) (within : i < length classes) (mark : Bool) (first old new : List (ℕ × ℕ))
    (updates : (q : ℕ × ℕ) → list_any (is_at (link_cmp q)) new ≡ cond (is_at (link_cmp (get_or classes i 0, object)) q) mark (list_any (is_at
    (link_cmp q)) old)) where
  pub others_on : ((c o : ℕ) → is_one classes object c o ≡ false → has_pair old c o ≡ has_pair first c o)
      → (c o : ℕ) → is_one classes object c o ≡ false → has_pair new c o ≡ has_pair first c o
  others_on others c o out = by_test (is_at (link_cmp (get_or classes i 0, object)) (c, o))
      (λ y. let same : (get_or classes i 0, object) ≡ (c, o) = link_exact (get_or classes i 0, object) (c, o) (equal _ y) in
      absurd (true≢false (sym ((λ j. nat_eq ((sym same) j).1 object && list_any (nat_eq ((sym same) j).0) classes)
      ∙ (λ j. eq-eqb object object refl j && has_it classes i within j)) ∙ out)))
      (λ n. updates (c, o) ∙ ap (λ b. cond b mark (has_pair old c o)) n ∙ others c o out)

  pub marked_on : ((c : ℕ) → list_any (nat_eq c) (take i classes) ≡ true → has_pair old c object ≡ mark)
      → (c : ℕ) → list_any (nat_eq c) (take (i + 1) classes) ≡ true → has_pair new c object ≡ mark
  marked_on marked c h =
      either (list_any (nat_eq c) (take i classes)) (nat_eq c (get_or classes i 0))
      (sym (ap (λ l. list_any (nat_eq c) l) (take_more classes i 0 within) ∙ list_any-append (nat_eq c) (take i classes) (get_or classes i 0 ∷ [])
      ∙ ap (λ b. list_any (nat_eq c) (take i classes) || b) (or_false (nat_eq c (get_or classes i 0)))) ∙ h)
      (λ y. updates (c, object) ∙ ap (λ b. cond (is_at (link_cmp (get_or classes i 0, object)) (c, object)) mark b) (marked c y)
      ∙ same_both (is_at (link_cmp (get_or classes i 0, object)) (c, object)))
      (λ y. let same : c ≡ get_or classes i 0 = eqb-true c (get_or classes i 0) y in
      updates (c, object) ∙ ap (λ b. cond b mark (has_pair old c object)) (ap (λ k. is_at (link_cmp (get_or classes i 0, object)) (k, object)) same
      ∙ ap is_eq (tied_itself link_total (get_or classes i 0, object))))
    where
      same_both : (b : Bool) → cond b mark mark ≡ mark
      same_both true = refl
      same_both false = refl
