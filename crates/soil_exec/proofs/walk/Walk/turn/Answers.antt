use Rattle.std.proofs.Common.{rules, ◌≡◌, Err, Ok, length, ◌∙◌}
use Rattle.soil_changes.specs.Acts.{◌>>◌}
use Rattle.soil_exec.specs.Kept.{stand}
use Rattle.soil_exec.specs.Machine.{count, leave, push, scoped}
use Rattle.soil_exec.specs.Parts.{inside_in}
use Rattle.soil_exec.proofs.Bound.{scope_ends}
use Rattle.soil_exec.proofs.Then.{fails, fails_as, goes_on}
use Rattle.soil_exec.proofs.walk.Walk.turn.Goals as goal

pub returns-in_err-count-clause-gives : goal.returns-in_err-count-clause-gives
returns-in_err-count-clause-gives g c =
    let n = g.V.Evaluator.count c.args.steps.now in
    let e = c.in_err-count.field-0.0 in
    let is : c.from_residual.result ≡ Err e = search rules in
    fails_as (count c.args.place (stand c.args.machine.now n)) (λ u. scoped (push c.args.value >> inside_in c.args.self.now.setting c.args.place c.args.body.now)) e
    (stand c.count.new.self n) c.from_residual.result is (c.in_err-count.ensures.gives n)

pub returns-in_err-push-clause-gives : goal.returns-in_err-push-clause-gives
returns-in_err-push-clause-gives g c =
    let n = g.V.Evaluator.count c.args.steps.now in
    let k = c.count.new.self in
    let e = c.in_err-push.field-0.0 in
    let r = c.from_residual-in_err-push.result in
    let is : r ≡ Err e = search rules in
    let within = inside_in c.args.self.now.setting c.args.place c.args.body.now in
    goes_on (count c.args.place (stand c.args.machine.now n)) (λ u. scoped (push c.args.value >> within)) tt (stand k n) r (stand c.push.new.self n)
    (c.in_ok-count.ensures.gives n)
    (fails_as ((push c.args.value >> within) (stand k n)) (λ u. leave (length (stand k n).locals)) e (stand c.push.new.self n) r is
    (fails (push c.args.value (stand k n)) (λ u. within) e (stand c.push.new.self n) (c.in_err-push.ensures.gives n)))

pub returns-in_err-inside-clause-gives : goal.returns-in_err-inside-clause-gives
returns-in_err-inside-clause-gives g c =
    let n = g.V.Evaluator.count c.args.steps.now in
    let n' = g.V.Evaluator.count c.inside.new.steps in
    let k = c.count.new.self in
    let e = c.in_err-inside.field-0.0 in
    let r = c.from_residual-in_err-inside.result in
    let is : r ≡ Err e = search rules in
    let within = inside_in c.args.self.now.setting c.args.place c.args.body.now in
    goes_on (count c.args.place (stand c.args.machine.now n)) (λ u. scoped (push c.args.value >> within)) tt (stand k n) r (stand c.inside.new.machine n')
    (c.in_ok-count.ensures.gives n)
    (fails_as ((push c.args.value >> within) (stand k n)) (λ u. leave (length (stand k n).locals)) e (stand c.inside.new.machine n') r is
    (goes_on (push c.args.value (stand k n)) (λ u. within) tt (stand c.push.new.self n) (Err e) (stand c.inside.new.machine n') (c.in_ok-push.ensures.gives n)
    c.in_err-inside.ensures.gives))

pub returns-clause-gives : goal.returns-clause-gives
returns-clause-gives g c =
    let n = g.V.Evaluator.count c.args.steps.now in
    let n' = g.V.Evaluator.count c.inside.new.steps in
    let k = c.count.new.self in
    let within = inside_in c.args.self.now.setting c.args.place c.args.body.now in
    goes_on (count c.args.place (stand c.args.machine.now n)) (λ u. scoped (push c.args.value >> within)) tt (stand k n) (Ok tt) (stand c.leave.new.self n')
    (c.in_ok-count.ensures.gives n)
    (scope_ends (push c.args.value >> within) k c.inside.new.machine c.leave.new.self n n' c.len-len.result
    (goes_on (push c.args.value (stand k n)) (λ u. within) tt (stand c.push.new.self n) (Ok tt) (stand c.inside.new.machine n') (c.in_ok-push.ensures.gives n)
    c.in_ok-inside.ensures.gives)
    c.len-len.ensures (c.in_ok-inside.ensures.follows.shell ∙ c.in_ok-push.ensures.follows.shell) (c.leave.ensures.gives n'))
