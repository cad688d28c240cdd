use Rattle.std.specs.Prelude.{true}
use Rattle.soil_scope.specs.Scenes.{scene}
use Rattle.soil_laws.proofs.Nesting.{statements_kept}
use Rattle.soil_laws.proofs.laws.command_statements_are_in_range.Goals as goal

pub returns : goal.returns
returns c = statements_kept (scene c.args.setting.now) c.has_numbers_in_range.ensures true c.args.variables.now c.requires c.args.block.now
