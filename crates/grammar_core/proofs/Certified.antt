-- A table with a certificate is fit.
use Rattle.std.proofs.Common.{◌≡◌, ℕ, ◌+◌, ◌<◌, Bool, true, false, not, ◌&&◌, ◌||◌, List, [], ◌∷◌, Some, slice_get, slice_index, nat_lt, zero, suc, refl, sym, ◌∙◌, arith, subst, ⊎_elim, ltb-true, IsTrue}
use Rattle.std.proofs.lemmas.Bool.{false≢true}
use Rattle.grammar_core.specs.declared.table.Table.{Table}
use Rattle.grammar_core.specs.declared.table.Prod.{Prod}
use Rattle.grammar_core.specs.declared.table.Prod.TheVariants.{Tok, Call, Seq, Case, Star}
use Rattle.grammar_core.specs.Tables.{next_prods, graph_of}
use Rattle.grammar_core.specs.Paths.{IsIn, next, Path, is_marked}
use Rattle.grammar_core.specs.Empty.{empty_by}
use Rattle.grammar_core.specs.Unfit.{Unfit, IsTable, IsFit}
use Rattle.grammar_core.specs.Checks.{outside_by, empty_body_by}
use Rattle.grammar_core.specs.Certificate.{all_below, is_certified, are_certified}
use Rattle.grammar_core.proofs.Ranks.{step_at}
use Rattle.grammar_core.proofs.Emptiness.{complete}
use Rattle.grammar_core.proofs.Unfitness.{outside_not}

both : (a b : Bool) → (a && b) ≡ true → (a ≡ true) × (b ≡ true)
both true b e = (refl, e)
both false b e = (cc)

not_true : (a : Bool) → not a ≡ true → a ≡ false
not_true true e = (cc)
not_true false e = refl

implied : (a b : Bool) → (not a || b) ≡ true → a ≡ true → b ≡ true
implied true b e i = e
implied false b e i = (cc)

below_at : (ranks : List ℕ) (n : ℕ) (qs : List ℕ) → all_below ranks n qs ≡ true → (q : ℕ) → IsIn q qs → slice_index ranks q < n
below_at ranks n [] e q i = absurd i
below_at ranks n (x ∷ xs) e q i =
    let t = both (nat_lt (slice_index ranks x) n) (all_below ranks n xs) e in
    ⊎_elim (λ same. subst (λ (y : ℕ). slice_index ranks y < n) (sym same) (ltb-true (slice_index ranks x) n t.0)) (λ j. below_at ranks n xs t.1 q j) i

flat_step : (g : Table) (calls : Bool) (x : Prod) (q : ℕ) → IsIn q (next_prods calls g x) → IsIn q (next_prods true g x)
flat_step g true x q i = i
flat_step g false (Tok k) q i = absurd i
flat_step g false (Call r) q i = absurd i
flat_step g false (Seq ps) q i = i
flat_step g false (Case bs other) q i = i
flat_step g false (Star firsts p) q i = i

record IsCertifiedAt (g : Table) (ranks : List ℕ) (seen : List Bool) (p : ℕ) (x : Prod) : Type 0 where
  inside : outside_by g x ≡ false
  below : all_below ranks (slice_index ranks p) (next_prods true g x) ≡ true
  reads : empty_body_by seen x ≡ false
  marked : empty_by g.rules seen x ≡ true → is_marked seen p ≡ true

module _ (g : Table) (ranks : List ℕ) (seen : List Bool) where
  certified_row : (p : ℕ) (x : Prod) → is_certified g ranks seen p x ≡ true → IsCertifiedAt g ranks seen p x
  certified_row p x e =
      let a : Bool = not (outside_by g x) in
      let b : Bool = all_below ranks (slice_index ranks p) (next_prods true g x) in
      let c : Bool = not (empty_body_by seen x) in
      let d : Bool = not (empty_by g.rules seen x) || is_marked seen p in
      let s = both ((a && b) && c) d e in
      let t = both (a && b) c s.0 in
      let u = both a b t.0 in
      record {
        inside = not_true (outside_by g x) u.0;
        below = u.1;
        reads = not_true (empty_body_by seen x) t.1;
        marked = implied (empty_by g.rules seen x)
            (is_marked seen p) s.1;
      }

  rows_at : (xs : List Prod) (i k : ℕ) (x : Prod) → are_certified g ranks seen i xs ≡ true → slice_get xs k ≡ Some x → IsCertifiedAt g ranks seen (i + k) x
  rows_at [] i k x e h = (cc)
  rows_at (y ∷ xs) i zero x e h =
      let t = both (is_certified g ranks seen i y) (are_certified g ranks seen (suc i) xs) e in
      let same : y ≡ x = cc in
      let z : i ≡ i + 0 = omega arith in
      subst (λ (w : Prod). IsCertifiedAt g ranks seen (i + 0) w) same (subst (λ (j : ℕ). IsCertifiedAt g ranks seen j y) z (certified_row i y t.0))
  rows_at (y ∷ xs) i (suc k) x e h =
      let t = both (is_certified g ranks seen i y) (are_certified g ranks seen (suc i) xs) e in
      let z : suc i + k ≡ i + suc k = omega arith in
      subst (λ (j : ℕ). IsCertifiedAt g ranks seen j x) z (rows_at xs (suc i) k x t.1 h)

  module _ (all : (p : ℕ) (x : Prod) → slice_get g.prods p ≡ Some x → IsCertifiedAt g ranks seen p x) where
    step_falls : (calls : Bool) (p q : ℕ) → IsIn q (next (graph_of calls g) p) → slice_index ranks q < slice_index ranks p
    step_falls calls p q i = let s = step_at g calls p q i in let c = all p s.0 s.1 in below_at ranks (slice_index ranks p) (next_prods true g s.0) c.below q
        (flat_step g calls s.0 q s.2)

    path_falls : (calls : Bool) (p q : ℕ) → Path (graph_of calls g) p q → slice_index ranks q < slice_index ranks p
    path_falls calls p _ (Path.first q e i) = step_falls calls p q e
    path_falls calls p _ (Path.then q r way e i) = let a = path_falls calls p q way in let b = step_falls calls q r e in omega (arith, a, b)

    none_unfit : (p : ℕ) → Unfit g p → ⊥
    none_unfit p (Unfit.outside x e o) = let c = all p x e in outside_not g x c.inside o
    none_unfit p (Unfit.empty_body firsts q e m) = let c = all p (Star firsts q) e in false≢true (sym c.reads ∙ complete g seen (λ r y f. let d = all r y f
        in d.marked) q m)
    none_unfit p (Unfit.own_part way) = let f = path_falls false p p way in omega (arith, f)
    none_unfit p (Unfit.own_call r q e f n way) = let l = path_falls true q q way in omega (arith, l)

-- a certificate is enough
pub fit_from_certificate : (g : Table) (ranks : List ℕ) (seen : List Bool) → IsTable g → IsTrue (are_certified g ranks seen 0 g.prods) → IsFit g
fit_from_certificate g ranks seen table e =
    record {
      table = table;
      fit = none_unfit g ranks seen (λ p x h. let z : 0 + p ≡ p = omega arith in subst (λ (j : ℕ). IsCertifiedAt g ranks seen j x) z
          (rows_at g ranks seen g.prods 0 p x e h));
    }
