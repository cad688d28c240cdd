use Rattle.std.proofs.Common.{◌≡◌, refl, arith}
use Rattle.soil_scope.specs.Scenes.{scene}
use Rattle.soil_types.specs.Walk.{block_in}
use Rattle.soil_types.proofs.Leaving.{left_behind}
use Rattle.soil_types.proofs.Steps.{deeper}
use Rattle.soil_types.proofs.blocks.+block_in.Goals as goal

pub returns-then-level-eq0 : goal.returns-then-level-eq0
unfolding block_in
returns-then-level-eq0 t c =
    let none : c.args.level.now.nesting ≡ 0 = omega arith in
    rw (c.breaks_t.ensures, c.place_of.ensures, none) refl

pub returns : goal.returns
unfolding block_in
returns t c =
    rw (deeper (λ n. block_in (scene c.args.level.now.setting.now) n c.args.variables.now c.args.node.now) c.args.level.now.nesting (omega arith))
    (left_behind _ _ _ _ _ _ c.statements-done.ensures c.reach-reach.ensures c.leave.ensures)
