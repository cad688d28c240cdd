-- Indexes with one key more or less.
use Rattle.std.proofs.Common.{true≢false, ◌≡◌, ◌||◌, Bool, true, false, cond, filter, not, List, [], ◌∷◌, ◌++◌, Ordering, Less, Equal, Greater, is_eq, refl, sym, ap, ◌∙◌}
use Rattle.std.specs.BTreeMap.{is_at}
use Rattle.std.specs.Cmp.{IsTotalOrder}
use Rattle.std.specs.Ordering.{ordering_reverse}
use Rattle.std.proofs.lemmas.List.Folds.{list_any-append}
use Rattle.std.proofs.Math.Path.{fun_ext}
use Rattle.use_orders.specs.Canon.{has, set_of, without}
use Rattle.use_orders.proofs.Sets.{has-set_of}
use Rattle.object_state.proofs.Keyed.{by_test}
use Rattle.object_referrers.specs.Places.{Forgets, TellsMore}

reversed : (r : Ordering) → is_eq (ordering_reverse r) ≡ is_eq r
reversed Less = refl
reversed Equal = refl
reversed Greater = refl

or_false : (b : Bool) → (b || false) ≡ b
or_false true = refl
or_false false = refl

pub either : {P : Type 0} (a b : Bool) → (a || b) ≡ true → (a ≡ true → P) → (b ≡ true → P) → P
either true b h f g = f refl
either false b h f g = g h

pub neither : (a b : Bool) → (a || b) ≡ false → (a ≡ false) × (b ≡ false)
neither true b e = absurd (true≢false e)
neither false b e = (refl, e)

module _ {K : Type 0} {cmp : K → K → Ordering} (o : IsTotalOrder cmp) where
  pub flipped : (a b : K) → is_eq (cmp a b) ≡ is_eq (cmp b a)
  flipped a b = ap is_eq (o.antisymm a b) ∙ reversed (cmp b a)

  pub has_next : (xs : List K) (x q : K) → has cmp (xs ++ x ∷ []) q ≡ (has cmp xs q || is_eq (cmp q x))
  has_next xs x q = list_any-append (λ y. is_eq (cmp q y)) xs (x ∷ []) ∙ ap (λ b. has cmp xs q || b) (or_false (is_eq (cmp q x)))

  module _ (key : K) (old new : List K) where
    -- one key is put in
    pub told_more : ((q : K) → has cmp new q ≡ cond (is_at (cmp key) q) true (has cmp old q)) → TellsMore cmp old new
    told_more updates q h = updates q ∙ by_test (is_at (cmp key) q)
        (λ y. ap (λ b. cond b true (has cmp old q)) y)
        (λ n. ap (λ b. cond b true (has cmp old q)) n ∙ h)

    pub told_next : ((q : K) → has cmp new q ≡ cond (is_at (cmp key) q) true (has cmp old q)) → (xs : List K) → TellsMore cmp xs old
        → TellsMore cmp (xs ++ key ∷ []) new
    told_next updates xs before q h = either (has cmp xs q) (is_eq (cmp q key)) (sym (has_next xs key q) ∙ h)
        (λ y. told_more updates q (before q y))
        (λ y. updates q ∙ ap (λ b. cond b true (has cmp old q)) (flipped key q ∙ y))

    -- one key is taken out
    pub gone_next : ((q : K) → has cmp new q ≡ cond (is_at (cmp key) q) false (has cmp old q)) → (xs first : List K) → Forgets cmp xs first old
        → Forgets cmp (xs ++ key ∷ []) first new
    gone_next updates xs first before q out h =
        let apart = neither (has cmp xs q) (is_eq (cmp q key)) (sym (has_next xs key q) ∙ out) in
        updates q ∙ ap (λ b. cond b false (has cmp old q)) (flipped key q ∙ apart.1) ∙ before q apart.0 h

  -- the keys that are not among others, whatever the order and the number of these
  pub without_set : (xs ys : List K) → without cmp xs (set_of cmp ys) ≡ without cmp xs ys
  without_set xs ys = ap (λ p. filter p xs) (fun_ext (λ x. ap not (has-set_of o ys x)))
