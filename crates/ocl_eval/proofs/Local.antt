-- An outcome depends on the cells of the present state that were read, and on no others.
use Rattle.std.proofs.Common.{◌≡◌, ℕ, ◌-◌, zero, suc, Bool, true, false, ◌||◌, cond, nat_le, List, [], ◌∷◌, Some, None, refl, sym, ap, ◌∙◌, true≢false, is_eq}
use Rattle.std.specs.BTreeSet.{insert_key}
use Rattle.std.proofs.lemmas.Cmp.{tied_itself}
use Rattle.ocl_values.specs.declared.value.Value.{Value}
use Rattle.object_state.specs.contracts.cell.CellOrd.TheImpl.Laws.{total-law}
use Rattle.object_state.specs.declared.cell.Cell.{Cell}
use Rattle.object_state.specs.declared.cell.Look.{Look}
use Rattle.object_state.specs.Touched.{cell_cmp, has_cell}
use Rattle.object_state.proofs.Hits.{has_more}
use Rattle.ocl_core.specs.declared.expression.Expr.{Expr}
use Rattle.ocl_core.specs.declared.operators.When.{When}
use Rattle.ocl_core.specs.declared.operators.When.TheVariants.{Now, Pre}
use Rattle.ocl_core.specs.declared.program.ProgramParts.{ProgramParts}
use Rattle.ocl_operations.specs.Ranges.{range_count, range_elements}
use Rattle.ocl_values.specs.Shape.{sizes_of}
use Rattle.std.proofs.Common.{◌+◌, nat_lt}
use Rattle.ocl_eval.specs.declared.meter.Meter.{Meter}
use Rattle.ocl_eval.specs.declared.parts.Made.{Made}
use Rattle.ocl_eval.specs.Agreeing.{AgreeOn}
use Rattle.ocl_eval.specs.Evaluation.{ev, eval_from, max_depth, max_units}
use Rattle.ocl_eval.specs.Evaluations.{Evaluation, Outcome, ◌>>=◌, exhausted, pure, spend, then_with}
use Rattle.ocl_eval.specs.Nodes.{add_range, with_range}
use Rattle.ocl_eval.specs.Scenes.{look, scene_of}
use Rattle.ocl_eval.proofs.Congruence.{node_alike}

or_true : (a b : Bool) → a ≡ true → (a || b) ≡ true
or_true true b h = refl
or_true false b h = absurd (true≢false (sym h))

or_last : (a : Bool) → (a || (true || false)) ≡ true
or_last true = refl
or_last false = refl

kept_cell : (cells : List Cell) (k c : Cell) → has_cell cells c ≡ true → has_cell (insert_key cell_cmp cells k) c ≡ true
kept_cell cells k c h = has_more cells (k ∷ []) c ∙ or_true (has_cell cells c) (has_cell (k ∷ []) c) h

new_cell : (cells : List Cell) (k : Cell) → has_cell (insert_key cell_cmp cells k) k ≡ true
new_cell cells k =
    has_more cells (k ∷ []) k ∙ ap (λ o. has_cell cells k || (is_eq o || false)) (tied_itself total-law k) ∙ or_last (has_cell cells k)

module _ (now now' : Cell → Look) where
  -- an evaluation that forgets no cell, and another that comes to the same where the pictures agree on the cells read
  record Local {A : Type 0} (x x' : Evaluation A) : Type 0 where
    keeps : (m : Meter) (c : Cell) → has_cell m.reads c ≡ true → has_cell (x m).1.reads c ≡ true
    same : (m : Meter) → AgreeOn (x m).1.reads now now' → x' m ≡ x m

  same_pure : {A : Type 0} (a : A) → Local (pure a) (pure a)
  same_pure a = record { keeps = λ m c h. h; same = λ m g. refl }

  kept_then : {A B : Type 0} (f f' : A → Evaluation B) → ((a : A) → Local (f a) (f' a)) → (r : Outcome A) (c : Cell) → has_cell r.1.reads c ≡ true →
      has_cell (then_with r f).1.reads c ≡ true
  kept_then f f' fs r c h = elim r.0 as (λ o. has_cell (then_with (o, r.1) f).1.reads c ≡ true) [ Some a ↦ (fs a).keeps r.1 c h | None ↦ h ]

  same_then : {A B : Type 0} (f f' : A → Evaluation B) → ((a : A) → Local (f a) (f' a)) → (r : Outcome A) → AgreeOn (then_with r f).1.reads now now' →
      then_with r f' ≡ then_with r f
  same_then f f' fs r g =
      let by_case : AgreeOn (then_with r f).1.reads now now' → then_with r f' ≡ then_with r f
      = elim r.0 as (λ o. AgreeOn (then_with (o, r.1) f).1.reads now now' → then_with (o, r.1) f' ≡ then_with (o, r.1) f)
      [ Some a ↦ λ k. (fs a).same r.1 k | None ↦ λ k. refl ] in
      by_case g

  same_bind : {A B : Type 0} (x x' : Evaluation A) (f f' : A → Evaluation B) → Local x x' → ((a : A) → Local (f a) (f' a)) → Local (x >>= f) (x' >>= f')
  same_bind x x' f f' xs fs = record {
    keeps = λ m c h. kept_then f f' fs (x m) c (xs.keeps m c h);
    same = λ m g. ap (λ r. then_with r f') (xs.same m (λ c h. g c (kept_then f f' fs (x m) c h))) ∙ same_then f f' fs (x m) g;
  }

  same_exhausted : {A : Type 0} → Local {A = A} exhausted exhausted
  same_exhausted = record { keeps = λ m c h. h; same = λ m g. refl }

  spent_keeps : (b : Bool) (n : ℕ) (m : Meter) (c : Cell) → has_cell m.reads c ≡ true →
      has_cell (cond {A = Outcome (Unit {0})} b (Some tt, record m { fuel = m.fuel - n }) (None, m)).1.reads c ≡ true
  spent_keeps true n m c h = h
  spent_keeps false n m c h = h

  same_spend : (n : ℕ) → Local (spend n) (spend n)
  same_spend n = record { keeps = λ m c h. spent_keeps (nat_le n m.fuel) n m c h; same = λ m g. refl }

  range_keeps : (b : Bool) (before : Made) (x y : Value) (m : Meter) (c : Cell) → has_cell m.reads c ≡ true →
      has_cell (cond b (exhausted m) (pure (with_range before (range_elements x y)) m)).1.reads c ≡ true
  range_keeps true before x y m c h = h
  range_keeps false before x y m c h = h

  same_range : (before : Made) (x y : Value) → Local (add_range before x y) (add_range before x y)
  same_range before x y = record {
    keeps = λ m c h. range_keeps (nat_lt m.fuel (1 + sizes_of before.items + range_count x y)) before x y m c h;
    same = λ m g. refl;
  }

  module _ (p : ProgramParts) (pre : Cell → Look) where
    now_keeps : (b : Bool) (k : Cell) (m : Meter) (c : Cell) → has_cell m.reads c ≡ true →
        has_cell (then_with (then_with (cond {A = Outcome (Unit {0})} b (Some tt, record m { fuel = m.fuel - 1 }) (None, m))
        (λ u n. (Some u, record n { reads = insert_key cell_cmp n.reads k }))) (λ _. pure (now k))).1.reads c ≡ true
    now_keeps true k m c h = kept_cell m.reads k c h
    now_keeps false k m c h = h

    now_same : (b : Bool) (k : Cell) (m : Meter) →
        AgreeOn (then_with (then_with (cond {A = Outcome (Unit {0})} b (Some tt, record m { fuel = m.fuel - 1 }) (None, m))
        (λ u n. (Some u, record n { reads = insert_key cell_cmp n.reads k }))) (λ _. pure (now k))).1.reads now now' →
        then_with (then_with (cond {A = Outcome (Unit {0})} b (Some tt, record m { fuel = m.fuel - 1 }) (None, m))
        (λ u n. (Some u, record n { reads = insert_key cell_cmp n.reads k }))) (λ _. pure (now' k))
        ≡ then_with (then_with (cond {A = Outcome (Unit {0})} b (Some tt, record m { fuel = m.fuel - 1 }) (None, m))
        (λ u n. (Some u, record n { reads = insert_key cell_cmp n.reads k }))) (λ _. pure (now k))
    now_same true k m g = ap (λ l. (Some l, record m { fuel = m.fuel - 1; reads = insert_key cell_cmp m.reads k })) (g k (new_cell m.reads k))
    now_same false k m g = refl

    same_look : (when : When) (k : Cell) → Local (look (scene_of p now pre) when k) (look (scene_of p now' pre) when k)
    same_look Now k = record { keeps = λ m c h. now_keeps (nat_le 1 m.fuel) k m c h; same = λ m g. now_same (nat_le 1 m.fuel) k m g }
    same_look Pre k =
        same_bind (spend 1 >>= (λ _. pure tt)) (spend 1 >>= (λ _. pure tt)) (λ _. pure (pre k)) (λ _. pure (pre k))
        (same_bind (spend 1) (spend 1) (λ _. pure tt) (λ _. pure tt) (same_spend 1) (λ _. same_pure tt)) (λ _. same_pure (pre k))

    local_at : (n : ℕ) (at : When) (env : List Value) (e : Expr) → Local (ev (scene_of p now pre) n at env e) (ev (scene_of p now' pre) n at env e)
    unfolding ev
    local_at zero at env e = same_exhausted
    local_at (suc n) at env e =
        node_alike p now pre now' pre (λ A. Local {A = A}) (λ A. same_pure {A = A}) (λ A B. same_bind {A = A} {B = B}) same_spend same_range same_look at (ev (scene_of p now pre) n) (ev (scene_of p now' pre) n)
        (local_at n) env e

    -- states that agree on what was read give the same
    pub same_outcome : (env : List Value) (e : Expr) (reads : List Cell) → AgreeOn (eval_from (scene_of p now pre) env e reads).1.reads now now' →
        eval_from (scene_of p now' pre) env e reads ≡ eval_from (scene_of p now pre) env e reads
    unfolding eval_from
    same_outcome env e reads g = (local_at max_depth Now env e).same (record { fuel = max_units; reads = reads }) g
