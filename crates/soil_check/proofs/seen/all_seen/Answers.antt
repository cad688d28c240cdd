use Rattle.std.proofs.Common.{ap, arith}
use Rattle.soil_scope.specs.declared.variables.Variables.{Variables}
use Rattle.soil_check.proofs.Sizes.{names_size}
use Rattle.soil_check.proofs.seen.all_seen.Goals as goal

pub push_bindings-requires : goal.push_bindings-requires
push_bindings-requires g c =
    let known = g.S.Scope.known c.args.scope.now in
    let size = λ (vs : Variables). vs.environment.size in
    omega (arith, c.requires, names_size known c.new-seen.result c.args.names.now, ap size c.in_ok-push_names.ensures, ap size c.new-seen.ensures)
