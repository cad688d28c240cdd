-- What the walk over pairs says of itself; no definition of a result rests on it.
use Rattle.std.specs.Prelude.{List, [], ◌∷◌, map}
use Rattle.ocl_values.specs.declared.value.Value.{Value}
use Rattle.ocl_core.specs.declared.expression.Expr.{Expr}
use Rattle.ocl_core.specs.declared.operators.IterOp.{IterOp}
use Rattle.ocl_eval.specs.declared.walks.Visited.{Visited}
use Rattle.ocl_eval.specs.Evaluations.{Evaluation, walk}
use Rattle.ocl_eval.specs.Nodes.{never, visits}

module _ (ev : List Value → Expr → Evaluation Value) (env : List Value) where
  -- the pairs of one first element
  unfoldable pub visits_with : IterOp → Expr → List Value → Visited → Value → Evaluation Visited
  visits_with op body xs before x = visits ev env op body before (map (λ y. x ∷ y ∷ []) xs)

  unfoldable pub visits_pairs : IterOp → Expr → List Value → Visited → List Value → Evaluation Visited
  visits_pairs op body xs = walk never (visits_with op body xs)
