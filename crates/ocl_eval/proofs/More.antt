-- What is done is done in the same way with more units, and with more levels.
use Rattle.std.proofs.Common.{◌≡◌, ℕ, zero, suc, ◌+◌, ◌-◌, ◌<◌, ◌≤◌, Bool, true, false, cond, nat_le, nat_lt, List, Some, None, refl, sym, ap, subst, true≢false, ◌∙◌, arith, ⊎_elim}
use Rattle.std.proofs.lemmas.Bool.Decides.{leb_tells}
use Rattle.ocl_values.specs.Shape.{sizes_of}
use Rattle.ocl_values.specs.declared.value.Value.{Value}
use Rattle.object_state.specs.declared.cell.Cell.{Cell}
use Rattle.object_state.specs.declared.cell.Look.{Look}
use Rattle.ocl_core.specs.declared.expression.Expr.{Expr}
use Rattle.ocl_core.specs.declared.operators.When.{When}
use Rattle.ocl_core.specs.declared.operators.When.TheVariants.{Now, Pre}
use Rattle.ocl_core.specs.declared.program.ProgramParts.{ProgramParts}
use Rattle.ocl_operations.specs.Ranges.{range_count, range_elements}
use Rattle.ocl_eval.specs.declared.meter.Meter.{Meter}
use Rattle.ocl_eval.specs.declared.parts.Made.{Made}
use Rattle.ocl_eval.specs.Agreeing.{with_more}
use Rattle.ocl_eval.specs.Evaluation.{ev}
use Rattle.ocl_eval.specs.Evaluations.{Evaluation, Outcome, ◌>>=◌, exhausted, pure, spend, then_with}
use Rattle.ocl_eval.specs.Nodes.{add_range, with_range}
use Rattle.ocl_eval.specs.Scenes.{look, read_in, scene_of, seen}
use Rattle.ocl_eval.proofs.Congruence.{node_alike}

module _ (k : ℕ) where
  -- where the first is done, the second is done with the same, and as many more units are left
  abbrev GrowsAt : {A : Type 0} → Outcome A → Outcome A → Type 0
  GrowsAt (Some a, m) r = r ≡ (Some a, with_more k m)
  GrowsAt (None, m) r = Unit {0}

  abbrev Grows : {A : Type 0} → Evaluation A → Evaluation A → Type 0
  Grows x x' = (m : Meter) → GrowsAt (x m) (x' (with_more k m))

  more_pure : {A : Type 0} (a : A) → Grows (pure a) (pure a)
  more_pure a m = refl

  more_then : {A B : Type 0} (f f' : A → Evaluation B) → ((a : A) → Grows (f a) (f' a)) → (r r' : Outcome A) → GrowsAt r r' →
      GrowsAt (then_with r f) (then_with r' f')
  more_then f f' fs r r' h =
      let by_case : GrowsAt r r' → GrowsAt (then_with r f) (then_with r' f')
      = elim r.0 as (λ o. GrowsAt (o, r.1) r' → GrowsAt (then_with (o, r.1) f) (then_with r' f'))
      [ Some a ↦ λ e. subst (λ q. GrowsAt (f a r.1) (then_with q f')) (sym e) (fs a r.1) | None ↦ λ e. tt ] in
      by_case h

  more_bind : {A B : Type 0} (x x' : Evaluation A) (f f' : A → Evaluation B) → Grows x x' → ((a : A) → Grows (f a) (f' a)) → Grows (x >>= f) (x' >>= f')
  more_bind x x' f f' xs fs m = more_then f f' fs (x m) (x' (with_more k m)) (xs m)

  spent : (n : ℕ) (m : Meter) (b c : Bool) → (b ≡ true → (c ≡ true) × ((m.fuel + k) - n ≡ (m.fuel - n) + k)) →
      GrowsAt (cond {A = Outcome (Unit {0})} b (Some tt, record m { fuel = m.fuel - n }) (None, m))
      (cond {A = Outcome (Unit {0})} c (Some tt, record m { fuel = (m.fuel + k) - n }) (None, with_more k m))
  spent n m true true h = ap (λ f. (Some tt, record m { fuel = f })) ((h refl).1)
  spent n m true false h = absurd (true≢false (sym ((h refl).0)))
  spent n m false c h = tt

  enough : (n f : ℕ) → n ≤ f → nat_le n (f + k) ≡ true
  enough n f h = ⊎_elim (λ t. t.0) (λ t. let l : f + k < n = t.1 in absurd (omega arith)) (leb_tells n (f + k))

  left : (n f : ℕ) → n ≤ f → (f + k) - n ≡ (f - n) + k
  left n f h = omega arith

  more_spend : (n : ℕ) → Grows (spend n) (spend n)
  more_spend n m =
      spent n m (nat_le n m.fuel) (nat_le n (m.fuel + k)) (λ e.
      ⊎_elim (λ t. let l : n ≤ m.fuel = t.1 in (enough n m.fuel l, left n m.fuel l)) (λ t. absurd (true≢false (sym e ∙ t.0))) (leb_tells n m.fuel))

  ranged : (before : Made) (x y : Value) (m : Meter) (b c : Bool) → (b ≡ false → c ≡ false) →
      GrowsAt (cond b (exhausted m) (pure (with_range before (range_elements x y)) m))
      (cond c (exhausted (with_more k m)) (pure (with_range before (range_elements x y)) (with_more k m)))
  ranged before x y m true c h = tt
  ranged before x y m false true h = absurd (true≢false (h refl))
  ranged before x y m false false h = refl

  not_less : (n f : ℕ) → nat_lt f n ≡ false → nat_lt (f + k) n ≡ false
  not_less n f h =
      ⊎_elim
      (λ t. let l : f + k < n = t.1 in
      ⊎_elim (λ u. absurd (true≢false (sym u.0 ∙ h))) (λ u. let g : n < suc f = u.1 in absurd (omega arith)) (leb_tells (suc f) n))
      (λ t. t.0)
      (leb_tells (suc (f + k)) n)

  more_range : (before : Made) (x y : Value) → Grows (add_range before x y) (add_range before x y)
  more_range before x y m =
      ranged before x y m (nat_lt m.fuel (1 + sizes_of before.items + range_count x y)) (nat_lt (m.fuel + k) (1 + sizes_of before.items + range_count x y))
      (not_less (1 + sizes_of before.items + range_count x y) m.fuel)

  more_read : (when : When) (c : Cell) → Grows (read_in when c) (read_in when c)
  more_read Now c m = refl
  more_read Pre c m = refl

  module _ (p : ProgramParts) (now pre : Cell → Look) where
    more_look : (when : When) (c : Cell) → Grows (look (scene_of p now pre) when c) (look (scene_of p now pre) when c)
    more_look when c =
        more_bind (spend 1 >>= (λ _. read_in when c)) (spend 1 >>= (λ _. read_in when c)) (λ _. pure (seen now pre when c)) (λ _. pure (seen now pre when c))
        (more_bind (spend 1) (spend 1) (λ _. read_in when c) (λ _. read_in when c) (more_spend 1) (λ _. more_read when c)) (λ _. more_pure (seen now pre when c))

    more_at : (j n : ℕ) (at : When) (env : List Value) (e : Expr) → Grows (ev (scene_of p now pre) n at env e) (ev (scene_of p now pre) (j + n) at env e)
    unfolding ev
    more_at j zero at env e = λ m. tt
    more_at j (suc n) at env e =
        let z : suc (j + n) ≡ j + suc n = omega arith in
        subst (λ (l : ℕ). Grows (ev (scene_of p now pre) (suc n) at env e) (ev (scene_of p now pre) l at env e)) z (node_alike p now pre now pre
        (λ A. Grows {A = A}) (λ A. more_pure {A = A}) (λ A B. more_bind {A = A} {B = B}) more_spend more_range more_look at (ev (scene_of p now pre) n)
        (ev (scene_of p now pre) (j + n)) (more_at j n) env e)

    -- what is done at a level stays so
    pub stays_done : (j n : ℕ) (at : When) (env : List Value) (e : Expr) (m left : Meter) (v : Value) →
        ◌≡◌ {A = Outcome Value} (ev (scene_of p now pre) n at env e m) (Some v, left) →
        ◌≡◌ {A = Outcome Value} (ev (scene_of p now pre) (j + n) at env e (with_more k m)) (Some v, with_more k left)
    stays_done j n at env e m left v h = subst (λ r. GrowsAt r (ev (scene_of p now pre) (j + n) at env e (with_more k m))) h (more_at j n at env e m)
