use Rattle.std.proofs.Common.{ℕ, List, ap, subst, ◌∙◌, arith}
use Rattle.soil_changes.specs.Acts.{Outcome}
use Rattle.soil_changes.specs.Progress.{Progress}
use Rattle.soil_exec.specs.declared.fault.ExecFault.{ExecFault}
use Rattle.soil_exec.specs.Ending.{Ends}
use Rattle.soil_exec.specs.Exec.{exec, outermost}
use Rattle.soil_exec.specs.Kept.{Gives, stand}
use Rattle.soil_exec.specs.Machine.{Machine, begin}
use Rattle.soil_exec.proofs.Bodied.{bodies_of}
use Rattle.soil_exec.proofs.Checked.{body_holds}
use Rattle.soil_exec.proofs.Ended.{laid_out, led, told, typed}
use Rattle.soil_exec.proofs.Shifted.{exec_after}
use Rattle.soil_exec.proofs.Staying.{exec_adds, exec_keeps}
use Rattle.soil_exec.proofs.execution.execute.Goals as goal

pub returns-clause-told : goal.returns-clause-told
returns-clause-told g c =
    let p = c.args.program.now in
    let d = c.args.store.now in
    let fs = c.args.frames.now in
    let before = c.args.steps.now in
    let body = c.args.body.now in
    let after = stand c.run-ended.new.machine c.run-ended.new.steps in
    let ended = c.run-ended.result in
    let first = begin d fs c.args.shell c.args.bound.items 0 in
    let started = c.begin-machine.ensures.started c.args.bound.items c.in_ok-shell.ensures.env in
    let outcome = exec p body c.args.shell c.args.bound.items d fs in
    let adds = exec_adds p (bodies_of p c.is_checked.ensures) body c.requires.body first in
    let gives = subst (λ (m : Machine). Gives (outermost p body m) ended after) (started.0 before ∙ ap (λ (names : List (List ℕ)). begin d fs names c.args.bound.items before) c.in_ok-shell.ensures.shell) c.run-ended.ensures.gives in
    let comes = subst (λ (o : Outcome Machine ExecFault (Unit {0})). Gives o ended after) (exec_after p body c.args.shell c.args.bound.items d fs before) gives in
    let ends = subst (λ (q : Progress). Ends q ended c.finish.new.store c.finish.new.frames c.finish.result) c.into_transaction.ensures c.finish.ensures in
    told d fs c.state_is_valid.ensures outcome before adds after c.finish.new.store c.finish.new.frames ended c.finish.result comes ends

pub returns-clause-layout : goal.returns-clause-layout
returns-clause-layout g c =
    let p = c.args.program.now in
    let d = c.args.store.now in
    let fs = c.args.frames.now in
    let before = c.args.steps.now in
    let body = c.args.body.now in
    let after = stand c.run-ended.new.machine c.run-ended.new.steps in
    let ended = c.run-ended.result in
    let first = begin d fs c.args.shell c.args.bound.items 0 in
    let started = c.begin-machine.ensures.started c.args.bound.items c.in_ok-shell.ensures.env in
    let outcome = exec p body c.args.shell c.args.bound.items d fs in
    let adds = exec_adds p (bodies_of p c.is_checked.ensures) body c.requires.body first in
    let gives = subst (λ (m : Machine). Gives (outermost p body m) ended after) (started.0 before ∙ ap (λ (names : List (List ℕ)). begin d fs names c.args.bound.items before) c.in_ok-shell.ensures.shell) c.run-ended.ensures.gives in
    let comes = subst (λ (o : Outcome Machine ExecFault (Unit {0})). Gives o ended after) (exec_after p body c.args.shell c.args.bound.items d fs before) gives in
    let ends = subst (λ (q : Progress). Ends q ended c.finish.new.store c.finish.new.frames c.finish.result) c.into_transaction.ensures c.finish.ensures in
    laid_out d fs c.state_is_valid.ensures outcome before adds after c.finish.new.store c.finish.new.frames c.finish.result after.steps
    (told d fs c.state_is_valid.ensures outcome before adds after c.finish.new.store c.finish.new.frames ended c.finish.result comes ends)

pub returns-clause-lead : goal.returns-clause-lead
returns-clause-lead g c =
    let p = c.args.program.now in
    let d = c.args.store.now in
    let fs = c.args.frames.now in
    let before = c.args.steps.now in
    let body = c.args.body.now in
    let after = stand c.run-ended.new.machine c.run-ended.new.steps in
    let ended = c.run-ended.result in
    let first = begin d fs c.args.shell c.args.bound.items 0 in
    let started = c.begin-machine.ensures.started c.args.bound.items c.in_ok-shell.ensures.env in
    let outcome = exec p body c.args.shell c.args.bound.items d fs in
    let adds = exec_adds p (bodies_of p c.is_checked.ensures) body c.requires.body first in
    let gives = subst (λ (m : Machine). Gives (outermost p body m) ended after) (started.0 before ∙ ap (λ (names : List (List ℕ)). begin d fs names c.args.bound.items before) c.in_ok-shell.ensures.shell) c.run-ended.ensures.gives in
    let comes = subst (λ (o : Outcome Machine ExecFault (Unit {0})). Gives o ended after) (exec_after p body c.args.shell c.args.bound.items d fs before) gives in
    let ends = subst (λ (q : Progress). Ends q ended c.finish.new.store c.finish.new.frames c.finish.result) c.into_transaction.ensures c.finish.ensures in
    led d fs c.state_is_valid.ensures outcome before adds after c.finish.new.store c.finish.new.frames ended c.finish.result comes ends

pub run-ended-requires-clause-body : goal.run-ended-requires-clause-body
run-ended-requires-clause-body g c = body_holds c.args.program.now.model c.args.body.now c.requires.body

pub returns-clause-typed : goal.returns-clause-typed
returns-clause-typed g c =
    let p = c.args.program.now in
    let d = c.args.store.now in
    let fs = c.args.frames.now in
    let before = c.args.steps.now in
    let body = c.args.body.now in
    let after = stand c.run-ended.new.machine c.run-ended.new.steps in
    let ended = c.run-ended.result in
    let first = begin d fs c.args.shell c.args.bound.items 0 in
    let started = c.begin-machine.ensures.started c.args.bound.items c.in_ok-shell.ensures.env in
    let outcome = exec p body c.args.shell c.args.bound.items d fs in
    let adds = exec_adds p (bodies_of p c.is_checked.ensures) body c.requires.body first in
    let gives = subst (λ (m : Machine). Gives (outermost p body m) ended after) (started.0 before ∙ ap (λ (names : List (List ℕ)). begin d fs names c.args.bound.items before) c.in_ok-shell.ensures.shell) c.run-ended.ensures.gives in
    let comes = subst (λ (o : Outcome Machine ExecFault (Unit {0})). Gives o ended after) (exec_after p body c.args.shell c.args.bound.items d fs before) gives in
    let ends = subst (λ (q : Progress). Ends q ended c.finish.new.store c.finish.new.frames c.finish.result) c.into_transaction.ensures c.finish.ensures in
    typed d fs c.state_is_valid.ensures outcome before adds after c.finish.new.store c.finish.new.frames p.model c.finish.result after.steps
    (told d fs c.state_is_valid.ensures outcome before adds after c.finish.new.store c.finish.new.frames ended c.finish.result comes ends)
    (exec_keeps p (bodies_of p c.is_checked.ensures) body c.requires.body first)

pub run-ended-requires-clause-room : goal.run-ended-requires-clause-room
run-ended-requires-clause-room g c = omega (arith, c.begin-machine.ensures.depth, c.requires.open)

pub run-ended-requires-clause-current : goal.run-ended-requires-clause-current
run-ended-requires-clause-current g c = (c.begin-machine.ensures.started c.args.bound.items c.in_ok-shell.ensures.env).1
