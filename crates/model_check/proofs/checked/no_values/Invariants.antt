use Rattle.std.proofs.Common.{◌≡◌, map, take}
use Rattle.ocl_values.specs.declared.value.Value.TheVariants as V
use Rattle.ocl_core.specs.declared.expression.Expr.TheVariants as E
use Rattle.model_check.proofs.checked.no_values.Given as goal

abbrev pub invariant-attributes : goal.invariant-attributes
invariant-attributes l = l.all ≡ map (λ d. E.Literal V.Invalid) (take l._attribute-index l.attributes)
