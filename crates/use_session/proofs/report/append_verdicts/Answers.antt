use Rattle.std.proofs.Common.{rules, ◌≡◌, ◌<◌, List, ◌++◌, get_or, length, subst, ap, ◌∙◌}
use Rattle.ocl_core.specs.declared.program.Invariant.{Invariant}
use Rattle.class_model.specs.declared.object_model.ObjectModel.{ObjectModel}
use Rattle.use_session.specs.Reports.{verdict_lines}
use Rattle.use_session.proofs.Zipped.{zip_all, zip_grown}
use Rattle.use_session.proofs.report.append_verdicts.Goals as goal

pub lines-preserved : goal.lines-preserved
lines-preserved c =
    let p = c.args.program.now in
    let lines = c.args.lines.now in
    let i = c.lines.index in
    let invariant = c.index-invariants-index.result in
    let judged = c.index-lines-index.result in
    let in_program : i < length p.invariants = subst (λ (l : List Invariant). i < length l) c.invariants-invariants.ensures (search rules) in
    let item : invariant ≡ get_or p.invariants i invariant = c.index-invariants-index.is ∙ ap (λ (l : List Invariant). get_or l i invariant) c.invariants-invariants.ensures in
    zip_grown (verdict_lines p.model c.args.store.now.state c.args.detail) p.invariants lines i invariant judged c.args.out.now.items c.lines.out.items
    c.append_judged.new.out.items in_program (search rules) item c.index-lines-index.is c.lines.invariant
    (c.in_ok-append_judged.ensures
    ∙ ap (λ (m : ObjectModel). c.lines.out.items ++ verdict_lines m c.args.store.now.state c.args.detail (invariant, judged)) c.model.ensures)

pub returns : goal.returns
returns c =
    let p = c.args.program.now in
    zip_all (verdict_lines p.model c.args.store.now.state c.args.detail) p.invariants c.args.lines.now c.lines.index c.args.out.now.items c.lines.out.items
    (search rules) c.lines.invariant
