use Rattle.std.proofs.Common.{rules, ◌≡◌, ◌-◌, ◌<◌, length, Some, Ok, Err, sym, subst, arith}
use Rattle.soil_exec.specs.Kept.{Gives, stand}
use Rattle.soil_exec.specs.Machine.{Execution, leave}
use Rattle.soil_exec.proofs.Bound.{scope_ends}
use Rattle.soil_exec.proofs.Rounds.{block_within, within_step}
use Rattle.soil_exec.proofs.Then.{fails_as}
use Rattle.soil_exec.proofs.block.+block_in.Goals as goal

pub returns-in_err-block-clause-gives : goal.returns-in_err-block-clause-gives
returns-in_err-block-clause-gives g t c =
    let p = c.args.setting.now.program.now in
    let m = stand c.args.machine.now (g.V.Evaluator.count c.args.steps.now) in
    let after = stand c.block.new.machine (g.V.Evaluator.count c.block.new.steps) in
    let e = c.in_err-block.field-0.0 in
    let r = c.from_residual.result in
    let is : r ≡ Err e = search rules in
    let some : 0 < c.args.setting.now.levels = omega (arith, c.if-setting-eq0.false) in
    subst (λ (x : Execution (Unit {0})). Gives (x m) r after) (sym (within_step p c.args.setting.now.levels c.args.setting.now.told c.args.place c.args.body.now some))
    (fails_as (block_within p (c.args.setting.now.levels - 1) c.args.setting.now.told (Some c.args.place) c.args.body.now m) (λ u. leave (length m.locals)) e after r is
    c.in_err-block.ensures.gives)

pub returns-clause-gives : goal.returns-clause-gives
returns-clause-gives g t c =
    let p = c.args.setting.now.program.now in
    let n = g.V.Evaluator.count c.args.steps.now in
    let n' = g.V.Evaluator.count c.block.new.steps in
    let some : 0 < c.args.setting.now.levels = omega (arith, c.if-setting-eq0.false) in
    subst (λ (x : Execution (Unit {0})). x (stand c.args.machine.now n) ≡ (Ok tt, stand c.leave.new.self n'))
    (sym (within_step p c.args.setting.now.levels c.args.setting.now.told c.args.place c.args.body.now some))
    (scope_ends (block_within p (c.args.setting.now.levels - 1) c.args.setting.now.told (Some c.args.place) c.args.body.now) c.args.machine.now c.block.new.machine c.leave.new.self
    n n' c.len-len.result c.in_ok-block.ensures.gives c.len-len.ensures c.in_ok-block.ensures.follows.shell (c.leave.ensures.gives n'))
