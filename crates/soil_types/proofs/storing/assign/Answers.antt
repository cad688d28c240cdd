use Rattle.soil_scope.specs.Scenes.{scene}
use Rattle.soil_types.proofs.Assigned.{assigned}
use Rattle.soil_types.proofs.storing.assign.Goals as goal

pub returns : goal.returns
returns c =
    assigned (scene c.args.setting.now) c.args.is_outermost c.args.variables.now c.args.place c.args.target.now c.args.value.now c.aimed.new.env
    c.right_side.new.env c.in_ok-aim.aim c.in_ok-value.value _ c.assignment.result c.in_ok-aim.ensures.value c.in_ok-aim.ensures.environment
    c.in_ok-value.ensures.value c.in_ok-value.ensures.environment c.assignment.ensures
