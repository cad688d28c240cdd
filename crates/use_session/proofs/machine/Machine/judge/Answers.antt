use Rattle.std.proofs.Common.{List, ◌++◌, ap, ◌∙◌}
use Rattle.invariant_cache.specs.declared.structure.Violation.{Violation}
use Rattle.use_session.specs.Machine.{turn_of_check}
use Rattle.use_session.specs.Reports.{check_text, finds_nothing}
use Rattle.use_session.proofs.Judged.{judged_answers, known}
use Rattle.use_session.proofs.machine.Machine.judge.Goals as goal

pub append_check-requires : goal.append_check-requires
append_check-requires g c =
    let k = c.args.self.now in
    known k c.requires c.as_slice.result.now (c.as_slice.ensures ∙ c.in_ok-broken.ensures k.program.model k.store.state c.requires.structure)

pub returns : goal.returns
returns g c =
    let k = c.args.self.now in
    let report = c.in_ok-report.report in
    let written = c.in_ok-append_check.ensures
    ∙ ap (λ (vs : List Violation). c.args.out.now.items ++ check_text k.program k.store.state c.args.detail vs report) c.as_slice.ensures in
    let ends = c.turn_of_check.ensures
    ∙ ap turn_of_check (c.finds_nothing.ensures ∙ ap (λ (vs : List Violation). finds_nothing vs report) c.as_slice-2.ensures) in
    judged_answers k c.requires c.args.detail c.args.out.now.items c.append_check.new.out.items c.args.steps.now c.refresh.new.steps c.in_ok-broken.broken report
    c.refresh.new.self c.turn_of_check.result (c.in_ok-broken.ensures k.program.model k.store.state c.requires.structure) c.in_ok-report.ensures.report
    c.in_ok-report.ensures.count c.in_ok-report.ensures.units written ends
