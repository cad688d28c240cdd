-- An evaluation leaves no more units than it was given.
use Rattle.std.proofs.Common.{ℕ, zero, suc, ◌+◌, ◌-◌, ◌≤◌, Bool, true, false, cond, nat_le, nat_lt, List, [], Some, None, arith}
use Rattle.ocl_values.specs.Shape.{sizes_of}
use Rattle.ocl_values.specs.declared.value.Value.{Value}
use Rattle.object_state.specs.declared.cell.Cell.{Cell}
use Rattle.object_state.specs.declared.cell.Look.{Look}
use Rattle.ocl_core.specs.declared.expression.Expr.{Expr}
use Rattle.ocl_core.specs.declared.operators.When.{When}
use Rattle.ocl_core.specs.declared.operators.When.TheVariants.{Now, Pre}
use Rattle.ocl_core.specs.declared.program.ProgramParts.{ProgramParts}
use Rattle.ocl_operations.specs.Ranges.{range_count, range_elements}
use Rattle.ocl_eval.specs.declared.meter.Meter.{Meter}
use Rattle.ocl_eval.specs.declared.parts.Made.{Made}
use Rattle.ocl_eval.specs.Evaluation.{ev, eval, eval_from, max_depth, max_units}
use Rattle.ocl_eval.specs.Evaluations.{Evaluation, Outcome, ◌>>=◌, exhausted, pure, spend, then_with}
use Rattle.ocl_eval.specs.Nodes.{add_range, with_range}
use Rattle.ocl_eval.specs.Scenes.{look, read_in, scene_of, seen}
use Rattle.ocl_eval.proofs.Congruence.{node_alike}

as_many : (n : ℕ) → n ≤ n
as_many n = omega arith

fewer : (n k : ℕ) → n - k ≤ n
fewer n k = omega arith

below : (a b c : ℕ) → a ≤ b → b ≤ c → a ≤ c
below a b c h g = omega arith

-- it leaves at most what it was given; there is nothing to say of a second one
abbrev Leaves : {A : Type 0} → Evaluation A → Evaluation A → Type 0
Leaves x x' = (m : Meter) → (x m).1.fuel ≤ m.fuel

pure_leaves : {A : Type 0} (a : A) → Leaves (pure a) (pure a)
pure_leaves a m = as_many m.fuel

then_leaves : {A B : Type 0} (f f' : A → Evaluation B) → ((a : A) → Leaves (f a) (f' a)) → (n : ℕ) (r : Outcome A) → r.1.fuel ≤ n → (then_with r f).1.fuel ≤ n
then_leaves f f' fs n (Some a, m) h = below (f a m).1.fuel m.fuel n (fs a m) h
then_leaves f f' fs n (None, m) h = h

bind_leaves : {A B : Type 0} (x x' : Evaluation A) (f f' : A → Evaluation B) → Leaves x x' → ((a : A) → Leaves (f a) (f' a)) → Leaves (x >>= f) (x' >>= f')
bind_leaves x x' f f' xs fs m = then_leaves f f' fs m.fuel (x m) (xs m)

spent : (n : ℕ) (m : Meter) (b : Bool) → (cond {A = Outcome (Unit {0})} b (Some tt, record m { fuel = m.fuel - n }) (None, m)).1.fuel ≤ m.fuel
spent n m true = fewer m.fuel n
spent n m false = as_many m.fuel

spend_leaves : (n : ℕ) → Leaves (spend n) (spend n)
spend_leaves n m = spent n m (nat_le n m.fuel)

ranged : (before : Made) (x y : Value) (m : Meter) (b : Bool) → (cond b (exhausted m) (pure (with_range before (range_elements x y)) m)).1.fuel ≤ m.fuel
ranged before x y m true = as_many m.fuel
ranged before x y m false = as_many m.fuel

range_leaves : (before : Made) (x y : Value) → Leaves (add_range before x y) (add_range before x y)
range_leaves before x y m = ranged before x y m (nat_lt m.fuel (1 + sizes_of before.items + range_count x y))

read_leaves : (when : When) (c : Cell) → Leaves (read_in when c) (read_in when c)
read_leaves Now c m = as_many m.fuel
read_leaves Pre c m = as_many m.fuel

module _ (p : ProgramParts) (now pre : Cell → Look) where
  look_leaves : (when : When) (c : Cell) → Leaves (look (scene_of p now pre) when c) (look (scene_of p now pre) when c)
  look_leaves when c =
      bind_leaves (spend 1 >>= (λ _. read_in when c)) (spend 1 >>= (λ _. read_in when c)) (λ _. pure (seen now pre when c)) (λ _. pure (seen now pre when c))
      (bind_leaves (spend 1) (spend 1) (λ _. read_in when c) (λ _. read_in when c) (spend_leaves 1) (λ _. read_leaves when c))
      (λ _. pure_leaves (seen now pre when c))

  at_levels : (n : ℕ) (at : When) (env : List Value) (e : Expr) → Leaves (ev (scene_of p now pre) n at env e) (ev (scene_of p now pre) n at env e)
  unfolding ev
  at_levels zero at env e = λ m. as_many m.fuel
  at_levels (suc n) at env e =
      node_alike p now pre now pre (λ A. Leaves {A = A}) (λ A. pure_leaves {A = A}) (λ A B. bind_leaves {A = A} {B = B}) spend_leaves range_leaves look_leaves at
      (ev (scene_of p now pre) n) (ev (scene_of p now pre) n) (at_levels n) env e

  -- the whole evaluation
  pub leaves_at_most : (env : List Value) (e : Expr) → (eval (scene_of p now pre) env e).1.fuel ≤ max_units
  unfolding eval_from
  leaves_at_most env e = at_levels max_depth Now env e (record { fuel = max_units; reads = [] })
