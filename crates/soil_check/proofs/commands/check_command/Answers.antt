use Rattle.std.proofs.Common.{subst}
use Rattle.class_model.specs.InRange.{IsInRange}
use Rattle.soil_check.proofs.Listed.{names_told}
use Rattle.soil_check.proofs.Ranges.{form_told}
use Rattle.soil_check.proofs.commands.check_command.Goals as goal

pub returns-in-Some-clause-in_range : goal.returns-in-Some-clause-in_range
returns-in-Some-clause-in_range g c = λ scope.
    form_told c.args.program.now.model (subst IsInRange c.model.ensures c.has_numbers_in_range.ensures) (g.S.Scope.known c.args.scope.now)
    (g.S.Scope.bound c.args.scope.now) scope _ c.model-in-Some.ensures _ _ c.form_in.result c.form_in.ensures

pub returns-in-Some-clause-names : goal.returns-in-Some-clause-names
returns-in-Some-clause-names g c =
    names_told _ (g.S.Scope.known c.args.scope.now) (g.S.Scope.bound c.args.scope.now) _ _ c.form_in.result c.form_in.ensures
