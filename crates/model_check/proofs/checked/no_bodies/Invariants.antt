use Rattle.std.proofs.Common.{◌≡◌, map, take}
use Rattle.ocl_core.specs.declared.program.OpBody.TheVariants as body
use Rattle.model_check.proofs.checked.no_bodies.Given as goal

abbrev pub invariant-ops : goal.invariant-ops
invariant-ops l = l.bodies ≡ map (λ op. body.None) (take l._op-index l.ops)
