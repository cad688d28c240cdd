use Rattle.soil_exec.specs.Calls.{statements_value}
use Rattle.soil_exec.specs.Parts.{called_in}
use Rattle.soil_exec.proofs.Apart.{adds_there, gives_there, long_enough, no_fewer}
use Rattle.soil_exec.proofs.Bodied.{bodies_of}
use Rattle.soil_exec.proofs.Staying.{statements_add}
use Rattle.soil_exec.proofs.walk.Walk.statements.Goals as goal

pub bind_again-requires-clause-within : goal.bind_again-requires-clause-within
bind_again-requires-clause-within g c = long_enough c.args.machine.now c.in_ok-bound.bound c.in_ok-bound.ensures.bound

pub bind_again-requires-clause-since : goal.bind_again-requires-clause-since
bind_again-requires-clause-since g c =
    let s = c.args.self.now.setting in
    let p = s.program.now in
    let now = c.statements_value-done.new.machine in
    no_fewer c.args.machine.now c.in_ok-bound.bound c.in_ok-bound.ensures.bound c.statements_value-done.result now
    (adds_there c.args.machine.now c.bind_apart.new.self now c.args.env c.in_ok-bound.ensures.apart
    (statements_value p (called_in s) c.args.place c.args.result_place c.args.body.now) (g.V.Evaluator.count c.args.steps.now)
    (g.V.Evaluator.count c.statements_value-done.new.steps) c.statements_value-done.result c.statements_value-done.ensures.gives
    (statements_add p (bodies_of p c.is_checked.ensures) s.levels c.args.place c.args.result_place c.args.body.now c.requires.body))

pub returns-clause-gives : goal.returns-clause-gives
returns-clause-gives g c =
    let s = c.args.self.now.setting in
    let p = s.program.now in
    let before = c.args.machine.now in
    let n = g.V.Evaluator.count c.args.steps.now in
    let n' = g.V.Evaluator.count c.statements_value-done.new.steps in
    c.bind_again.ensures.gives before n n' _ c.in_ok-bound.ensures.bound
    (gives_there before c.bind_apart.new.self c.statements_value-done.new.machine c.args.env c.in_ok-bound.ensures.apart
    (statements_value p (called_in s) c.args.place c.args.result_place c.args.body.now) n n' c.statements_value-done.result c.statements_value-done.ensures.gives)

pub returns-clause-returns : goal.returns-clause-returns
returns-clause-returns g c =
    let s = c.args.self.now.setting in
    let p = s.program.now in
    let now = c.statements_value-done.new.machine in
    c.bind_again.ensures.returns c.args.machine.now c.in_ok-bound.ensures.bound
    (adds_there c.args.machine.now c.bind_apart.new.self now c.args.env c.in_ok-bound.ensures.apart
    (statements_value p (called_in s) c.args.place c.args.result_place c.args.body.now) (g.V.Evaluator.count c.args.steps.now)
    (g.V.Evaluator.count c.statements_value-done.new.steps) c.statements_value-done.result c.statements_value-done.ensures.gives
    (statements_add p (bodies_of p c.is_checked.ensures) s.levels c.args.place c.args.result_place c.args.body.now c.requires.body))
