use Rattle.std.proofs.Common.{◌≡◌, []}
use Rattle.soil_scope.specs.Scenes.{each_after, scene}
use Rattle.soil_types.specs.Parts.{block_at}
use Rattle.soil_types.specs.Statements.{statement}
use Rattle.soil_types.proofs.forms.Forms.each.Given as goal

abbrev pub invariant-statements : goal.invariant-statements
invariant-statements g l = record {
  can : (goal.iterator-statements g).can_next l.node-iterator;
  ends : (goal.iterator-statements g).is_finite l.node-iterator;
  same : each_after (statement (scene l.self.level.setting.now) (block_at l.self.level) l.self.is_outermost) [] l.fn.variables l.fn.nodes
      ≡ each_after (statement (scene l.self.level.setting.now) (block_at l.self.level) l.self.is_outermost) l.done l.variables l.node-iterator;
}
