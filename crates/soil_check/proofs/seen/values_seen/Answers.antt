use Rattle.std.proofs.Common.{ap, arith}
use Rattle.soil_scope.specs.declared.variables.Variables.{Variables}
use Rattle.soil_check.proofs.Sizes.{all_size}
use Rattle.soil_check.proofs.seen.values_seen.Goals as goal

pub returns-clause-room : goal.returns-clause-room
returns-clause-room g c =
    let size = λ (vs : Variables). vs.environment.size in
    omega (
      arith,
      c.if-names-bindings-ge-MAX_VALUES.false,
      all_size (g.S.Scope.known c.args.scope.now) c.args.names.now c.bindings_of-bindings.result.now,
      ap size c.in_ok-all_seen.ensures,
    )
