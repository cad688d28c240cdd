-- Operations of integers, by the integers that their operands are.
use Rattle.std.proofs.Common.{◌≡◌, ℕ, ℤ, suc, ◌-◌, ◌<◌, ◌≤◌, true, cond, get_or, is_some, length, nat_le, List, [], ◌∷◌, Option, Some, None, unwrap_or, refl, sym, ap, ap₂, ◌∙◌, arith}
use Rattle.std.specs.Option.{option_and_then}
use Rattle.std.proofs.lemmas.Bool.{le-leb}
use Rattle.ocl_values.specs.Integers.{int_op_value}
use Rattle.ocl_values.specs.Shape.{size_of}
use Rattle.ocl_values.specs.declared.integer.IntOp.{IntOp}
use Rattle.ocl_values.specs.declared.value.Value.{Value}
use Rattle.ocl_values.specs.declared.value.Value.TheVariants as V
use Rattle.ocl_values.specs.declared.value.Value.TheVariants.{Null, Invalid, Int, Coll'}
use Rattle.ocl_core.specs.declared.expression.Expr.{Expr, out-Expr}
use Rattle.ocl_core.specs.declared.expression.Expr.TheOpen.{Expr-F}
use Rattle.ocl_core.specs.declared.operators.BinaryOp.TheVariants as B
use Rattle.ocl_core.specs.declared.operators.When.{When}
use Rattle.ocl_core.specs.Trees.{Layer}
use Rattle.ocl_eval.specs.declared.meter.Meter.{Meter}
use Rattle.ocl_eval.specs.Evaluation.{ev}
use Rattle.ocl_eval.specs.Evaluations.{Evaluation, Outcome, ◌>>=◌, ◌>>◌, pay, pure, spend, then_with}
use Rattle.ocl_eval.specs.Integers.{at_hand, at_hand_in, integer, integer_in, integers, of_integers, ready, small, small_ready}
use Rattle.ocl_core.specs.declared.operators.PlainOp.{PlainOp}
use Rattle.ocl_operations.specs.Operators.{decided, plain_value}
use Rattle.ocl_eval.specs.Nodes.{applied, binary, layer, node, plain, plain_ready, right, values}
use Rattle.ocl_eval.specs.Scenes.{Scene}
use Rattle.ocl_eval.proofs.Depth.{deeper}

-- an operation looks at no more of an operand than the integer that it is
of_right : (op : IntOp) (x : ℤ) (b : Value) → int_op_value op (Int x) b ≡ of_integers op (Some x) (integer_in b)
of_right op x Null = refl
of_right op x Invalid = refl
of_right op x (V.Bool i) = refl
of_right op x (Int i) = refl
of_right op x (V.Str t) = refl
of_right op x (V.Enum e l) = refl
of_right op x (V.Obj o) = refl
of_right op x (Coll' kind shape row) = refl

of_both : (op : IntOp) (a b : Value) → int_op_value op a b ≡ of_integers op (integer_in a) (integer_in b)
of_both op Null b = refl
of_both op Invalid b = refl
of_both op (V.Bool i) b = refl
of_both op (Int x) b = of_right op x b
of_both op (V.Str t) b = refl
of_both op (V.Enum e l) b = refl
of_both op (V.Obj o) b = refl
of_both op (Coll' kind shape row) b = refl

module _ (e : List Value → Expr → Evaluation Value) (env : List Value) (op : IntOp) where
  second : (x : Value) (o : Outcome Value) → then_with o (λ y. pay (int_op_value op x y))
      ≡ then_with (then_with o (λ y. pure (integer_in y))) (λ y. pay (of_integers op (integer_in x) y))
  second x (Some y, m) = ap (λ v. pay v m) (of_both op x y)
  second x (None, m) = refl

  first : (b : Expr) (o : Outcome Value) → then_with o (λ x. right e env (B.Int op) x b (decided (B.Int op) x))
      ≡ then_with (then_with o (λ x. pure (integer_in x))) (λ x. integer e env b >>= (λ y. pay (of_integers op x y)))
  first b (Some x, m) = second x (e env b m)
  first b (None, m) = refl

  pub as_integers : (a b : Expr) (m : Meter) → binary e env (B.Int op) a b m ≡ integers e env op a b m
  unfolding binary integers
  as_integers a b m = first b (e env a m)

-- ---- an operand that stands ready

module _ (v : Value) (m : Meter) where
  module _ (s : Scene) (e : When → List Value → Expr → Evaluation Value) (at : When) (env : List Value) where
    hand_layer : (l : Layer) → at_hand_in env l ≡ Some v → layer s e at env l m ≡ pay v m
    hand_layer (Expr-F.Literal u) h = ap (λ o. pay (unwrap_or o Invalid) m) h
    hand_layer (Expr-F.Local k) h = ap (λ o. pay (unwrap_or o Invalid) m) h
    hand_layer (Expr-F.Unary op a) h = absurd (cc)
    hand_layer (Expr-F.Binary op a b) h = absurd (cc)
    hand_layer (Expr-F.If c a b) h = absurd (cc)
    hand_layer (Expr-F.Let a b) h = absurd (cc)
    hand_layer (Expr-F.Make kind all) h = absurd (cc)
    hand_layer (Expr-F.Plain op all) h = absurd (cc)
    hand_layer (Expr-F.Coll op all) h = absurd (cc)
    hand_layer (Expr-F.Iter op source count start body) h = absurd (cc)
    hand_layer (Expr-F.Attr a number when) h = absurd (cc)
    hand_layer (Expr-F.Derived a number when) h = absurd (cc)
    hand_layer (Expr-F.Nav a assoc end when) h = absurd (cc)
    hand_layer (Expr-F.Extent class when) h = absurd (cc)
    hand_layer (Expr-F.Query a op all) h = absurd (cc)
    hand_layer (Expr-F.Test test a t when) h = absurd (cc)
    hand_layer (Expr-F.IsNew a) h = absurd (cc)
    hand_layer (Expr-F.ToSet a) h = absurd (cc)

  hand_node : (s : Scene) (k : ℕ) (at : When) (env : List Value) (x : Expr) → at_hand env x ≡ Some v → ev s (suc k) at env x m ≡ pay v m
  unfolding ev node at_hand
  hand_node s k at env x h = hand_layer s (ev s k) at env (out-Expr x) h

  at_hand_gives : (s : Scene) (levels : ℕ) (at : When) (env : List Value) (x : Expr) → 0 < levels → at_hand env x ≡ Some v → ev s levels at env x m ≡ pay v m
  at_hand_gives s levels at env x more h = deeper (λ k. ev s k at env x m) levels more ∙ hand_node s (levels - 1) at env x h

is_integer : (v : Value) (n : ℤ) → integer_in v ≡ Some n → v ≡ Int n
is_integer Null n h = absurd (cc)
is_integer Invalid n h = absurd (cc)
is_integer (V.Bool i) n h = absurd (cc)
is_integer (Int i) n h = cc
is_integer (V.Str t) n h = absurd (cc)
is_integer (V.Enum e l) n h = absurd (cc)
is_integer (V.Obj o) n h = absurd (cc)
is_integer (Coll' kind shape row) n h = absurd (cc)

module _ (n : ℤ) (m : Meter) (some : 0 < m.fuel) where
  abbrev after : Outcome Value
  after = (Some (Int n), record m { fuel = m.fuel - 1 })

  enough : nat_le 1 m.fuel ≡ true
  enough = le-leb 1 m.fuel (omega (arith, some))

  paid : pay (Int n) m ≡ after
  paid = ap (λ b. then_with (cond b (Some tt, record m { fuel = m.fuel - 1 }) (None, m)) (λ _. pure (Int n))) enough

  paid_as : (v : Value) → integer_in v ≡ Some n → pay v m ≡ after
  paid_as v h = ap (λ x. pay x m) (is_integer v n h) ∙ paid

  by_ready : (s : Scene) (levels : ℕ) (at : When) (env : List Value) (x : Expr) → 0 < levels → ready env x ≡ Some n
      → integer (ev s levels at) env x m ≡ (Some (Some n), record m { fuel = m.fuel - 1 })
  by_ready s levels at env x more h = by (at_hand env x) refl h
    where
      by : (o : Option Value) → at_hand env x ≡ o → option_and_then integer_in o ≡ Some n
          → integer (ev s levels at) env x m ≡ (Some (Some n), record m { fuel = m.fuel - 1 })
      by None e h = absurd (cc)
      by (Some v) e h = ap (λ o. then_with o (λ v. pure (integer_in v))) (at_hand_gives v m s levels at env x more e ∙ paid_as v h)

pub ready_gives : (o : Option ℤ) (m : Meter) (s : Scene) (levels : ℕ) (at : When) (env : List Value) (x : Expr) → is_some o ≡ true → 0 < m.fuel → 0 < levels
    → ready env x ≡ o → integer (ev s levels at) env x m ≡ (Some o, record m { fuel = m.fuel - 1 })
ready_gives None m s levels at env x found some more h = absurd (cc)
ready_gives (Some n) m s levels at env x found some more h = by_ready n m some s levels at env x more h

-- ---- a value of size 1 that stands ready

small_one : (v w : Value) → small v ≡ Some w → (v ≡ w) × (size_of v ≡ 1)
small_one Null w h = (ap (λ o. unwrap_or o Null) h, refl)
small_one Invalid w h = absurd (cc)
small_one (V.Bool b) w h = (ap (λ o. unwrap_or o Null) h, refl)
small_one (Int n) w h = (ap (λ o. unwrap_or o Null) h, refl)
small_one (V.Str t) w h = absurd (cc)
small_one (V.Enum e l) w h = absurd (cc)
small_one (V.Obj o) w h = (ap (λ o. unwrap_or o Null) h, refl)
small_one (Coll' kind shape row) w h = absurd (cc)

module _ (w : Value) (m : Meter) (some : 0 < m.fuel) where
  abbrev spent : Outcome Value
  spent = (Some w, record m { fuel = m.fuel - 1 })

  small_paid : (v : Value) → small v ≡ Some w → pay v m ≡ spent
  small_paid v h =
      ap (λ n. then_with (spend n m) (λ _. pure v)) (small_one v w h).1
      ∙ ap (λ b. then_with (cond b (Some tt, record m { fuel = m.fuel - 1 }) (None, m)) (λ _. pure v)) (le-leb 1 m.fuel (omega (arith, some)))
      ∙ ap (λ x. (Some x, record m { fuel = m.fuel - 1 })) (small_one v w h).0

  pub small_gives : (s : Scene) (levels : ℕ) (at : When) (env : List Value) (x : Expr) → 0 < levels → small_ready env x ≡ Some w → ev s levels at env x m ≡ spent
  small_gives s levels at env x more h = by (at_hand env x) refl h
    where
      by : (o : Option Value) → at_hand env x ≡ o → option_and_then small o ≡ Some w → ev s levels at env x m ≡ spent
      by None e h = absurd (cc)
      by (Some v) e h = at_hand_gives v m s levels at env x more e ∙ small_paid v h

-- ---- an operation of a source and an argument that stand ready

onto : {A : Type 0} (o : Outcome (Unit {0})) (x : Value) (f : Value → Evaluation A) → then_with (then_with o (λ _. pure x)) f ≡ then_with o (λ _. f x)
onto (Some u, m) x f = refl
onto (None, m) x f = refl

onto_list : {A : Type 0} (o : Outcome (Unit {0})) (x : Value) (f : List Value → Evaluation A)
    → then_with (then_with (then_with (then_with o (λ _. pure x)) (λ y. pure (y ∷ []))) pure) f ≡ then_with o (λ _. f (x ∷ []))
onto_list (Some u, m) x f = refl
onto_list (None, m) x f = refl

alike : {A : Type 0} (o : Outcome (Unit {0})) (f g : Evaluation A) → ((m : Meter) → f m ≡ g m) → then_with o (λ _. f) ≡ then_with o (λ _. g)
alike (Some u, m) f g h = h m
alike (None, m) f g h = refl

module _ (s : Scene) (levels : ℕ) (at : When) (env : List Value) (op : PlainOp) (a b : Expr) (x y : Value) (more : 0 < levels)
    (first : at_hand env a ≡ Some x) (second : at_hand env b ≡ Some y) where
  argument : (m : Meter) → applied (ev s levels at) env (plain_value op) x (b ∷ []) m ≡ (spend (size_of y) >> pay (plain_value op x (y ∷ []))) m
  unfolding values
  argument m =
      ap (λ o. then_with (then_with (then_with o (λ v. pure (v ∷ []))) pure) (λ xs. pay (plain_value op x xs))) (at_hand_gives y m s levels at env b more second)
      ∙ onto_list (spend (size_of y) m) y (λ xs. pay (plain_value op x xs))

  -- neither is evaluated, and both are paid
  pub both_gives : (m : Meter) → plain (ev s levels at) env op (a ∷ b ∷ []) m ≡ plain_ready op x y m
  unfolding plain
  both_gives m =
      ap (λ o. then_with o (λ v. applied (ev s levels at) env (plain_value op) v (b ∷ []))) (at_hand_gives x m s levels at env a more first)
      ∙ onto (spend (size_of x) m) x (λ v. applied (ev s levels at) env (plain_value op) v (b ∷ []))
      ∙ alike (spend (size_of x) m) (applied (ev s levels at) env (plain_value op) x (b ∷ [])) (spend (size_of y) >> pay (plain_value op x (y ∷ []))) argument
      ∙ turned (spend (size_of x) m)
    where
      turned : (o : Outcome (Unit {0})) → then_with o (λ _. spend (size_of y) >> pay (plain_value op x (y ∷ [])))
          ≡ then_with (then_with o (λ _. spend (size_of y))) (λ _. pay (plain_value op x (y ∷ [])))
      turned (Some u, m) = refl
      turned (None, m) = refl

pub two_items : {A : Type 0} (xs : List A) (a b : A) → 2 ≤ length xs → length xs < 3 → a ≡ get_or xs 0 a → b ≡ get_or xs 1 b → xs ≡ a ∷ b ∷ []
two_items [] a b h k p q = absurd (omega arith)
two_items (x ∷ []) a b h k p q = absurd (omega arith)
two_items (x ∷ y ∷ []) a b h k p q = ap₂ (λ u v. u ∷ v ∷ []) (sym p) (sym q)
two_items (x ∷ y ∷ z ∷ xs) a b h k p q = absurd (omega arith)
