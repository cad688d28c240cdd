use Rattle.std.proofs.Common.{rules, ◌≡◌, Ok, Err, refl}
use Rattle.std.specs.Option.{option_copied}
use Rattle.soil_changes.specs.Acts.{◌>>◌, pure}
use Rattle.soil_exec.specs.Calls.{check_stored_if, query_value}
use Rattle.soil_exec.specs.Parts.{called_in}
use Rattle.soil_exec.proofs.Apart.{adds_there, gives_there, long_enough, no_fewer}
use Rattle.soil_exec.proofs.Bodied.{bodies_of}
use Rattle.soil_exec.proofs.Staying.{query_adds}
use Rattle.soil_exec.proofs.Then.{fails_as, goes_on}
use Rattle.soil_exec.proofs.walk.Walk.query.Goals as goal

pub bind_again-requires-clause-within : goal.bind_again-requires-clause-within
bind_again-requires-clause-within g c = long_enough c.args.machine.now c.in_ok-bound.bound c.in_ok-bound.ensures.bound

pub bind_again-requires-clause-since : goal.bind_again-requires-clause-since
bind_again-requires-clause-since g c =
    let s = c.args.self.now.setting in
    let p = s.program.now in
    let now = c.query_value-done.new.machine in
    no_fewer c.args.machine.now c.in_ok-bound.bound c.in_ok-bound.ensures.bound c.query_value-done.result now
    (adds_there c.args.machine.now c.bind_apart.new.self now c.args.env c.in_ok-bound.ensures.apart (query_value p (called_in s) c.args.place c.args.e.now)
    (g.V.Evaluator.count c.args.steps.now) (g.V.Evaluator.count c.query_value-done.new.steps) c.query_value-done.result c.query_value-done.ensures.gives
    (query_adds p (bodies_of p c.is_checked.ensures) s.levels c.args.place c.args.e.now))

pub returns-in_err-value-clause-gives : goal.returns-in_err-value-clause-gives
returns-in_err-value-clause-gives g c =
    let s = c.args.self.now.setting in
    let p = s.program.now in
    let before = c.args.machine.now in
    let now = c.query_value-done.new.machine in
    let n = g.V.Evaluator.count c.args.steps.now in
    let n' = g.V.Evaluator.count c.query_value-done.new.steps in
    let e = c.in_err-value.field-0.0 in
    let r = c.from_residual-in_err-value.result in
    let is : r ≡ Err e = search rules in
    fails_as _ (λ v. check_stored_if c.args.place (option_copied c.args.result_type) v >> pure v) e _ r is
    (c.in_err-value.ensures.gives before n n' _ c.in_ok-bound.ensures.bound
    (gives_there before c.bind_apart.new.self now c.args.env c.in_ok-bound.ensures.apart (query_value p (called_in s) c.args.place c.args.e.now) n n'
    c.query_value-done.result c.query_value-done.ensures.gives))

pub returns-in_err-check_stored_if-clause-gives : goal.returns-in_err-check_stored_if-clause-gives
returns-in_err-check_stored_if-clause-gives g c =
    let s = c.args.self.now.setting in
    let p = s.program.now in
    let before = c.args.machine.now in
    let n = g.V.Evaluator.count c.args.steps.now in
    let n' = g.V.Evaluator.count c.query_value-done.new.steps in
    let e = c.in_err-check_stored_if.field-0.0 in
    let r = c.from_residual-in_err-check_stored_if.result in
    let is : r ≡ Err e = search rules in
    let type = option_copied c.args.result_type in
    goes_on _ (λ v. check_stored_if c.args.place type v >> pure v) _ _ r _
    (c.in_ok-value.ensures.gives before n n' _ c.in_ok-bound.ensures.bound
    (gives_there before c.bind_apart.new.self c.query_value-done.new.machine c.args.env c.in_ok-bound.ensures.apart (query_value p (called_in s) c.args.place c.args.e.now) n n'
    c.query_value-done.result c.query_value-done.ensures.gives))
    (fails_as _ (λ u. pure c.in_ok-value.value) e _ r is (c.in_err-check_stored_if.ensures n'))

pub returns-clause-gives : goal.returns-clause-gives
returns-clause-gives g c =
    let s = c.args.self.now.setting in
    let p = s.program.now in
    let before = c.args.machine.now in
    let n = g.V.Evaluator.count c.args.steps.now in
    let n' = g.V.Evaluator.count c.query_value-done.new.steps in
    let type = option_copied c.args.result_type in
    goes_on _ (λ v. check_stored_if c.args.place type v >> pure v) _ _ (Ok c.in_ok-value.value) _
    (c.in_ok-value.ensures.gives before n n' _ c.in_ok-bound.ensures.bound
    (gives_there before c.bind_apart.new.self c.query_value-done.new.machine c.args.env c.in_ok-bound.ensures.apart (query_value p (called_in s) c.args.place c.args.e.now) n n'
    c.query_value-done.result c.query_value-done.ensures.gives))
    (goes_on _ (λ u. pure c.in_ok-value.value) _ _ (Ok c.in_ok-value.value) _ (c.in_ok-check_stored_if.ensures n') refl)

pub returns-clause-returns : goal.returns-clause-returns
returns-clause-returns g c =
    let s = c.args.self.now.setting in
    let p = s.program.now in
    let now = c.query_value-done.new.machine in
    c.in_ok-value.ensures.returns c.args.machine.now c.in_ok-bound.ensures.bound
    (adds_there c.args.machine.now c.bind_apart.new.self now c.args.env c.in_ok-bound.ensures.apart (query_value p (called_in s) c.args.place c.args.e.now)
    (g.V.Evaluator.count c.args.steps.now) (g.V.Evaluator.count c.query_value-done.new.steps) c.query_value-done.result c.query_value-done.ensures.gives
    (query_adds p (bodies_of p c.is_checked.ensures) s.levels c.args.place c.args.e.now))
