use Rattle.std.proofs.Common.{ℕ, List, ◌++◌, ap, ◌∙◌}
use Rattle.std.specs.Fmt.{decimal}
use Rattle.std.specs.Prelude.{codes}
use Rattle.std.proofs.lemmas.Result.{on_ok_weaker}
use Rattle.class_model.specs.declared.multiplicity.Multiplicity.{Multiplicity}
use Rattle.class_model.specs.Parts.{assoc_name, multiplicity, role_name}
use Rattle.use_session.specs.Reports.{named}
use Rattle.use_session.proofs.Written.{behind}
use Rattle.use_session.proofs.report.append_violation.Goals as goal

pub returns : goal.returns
returns c =
    let m = c.args.model.now in
    let found = c.args.found in
    let out = c.args.out.now.items in
    on_ok_weaker c.append-9.result
    (λ last.
    behind out _ (codes "\n") _ _
    (behind out _ ((multiplicity m found.assoc found.end).spec) _ _
    (behind out _ (codes ", expected ") _ _
    (behind out _ (decimal found.count) _ _
    (behind out _ (codes " has ") _ _
    (behind out _ (named c.args.store.now.state found.object) _ _
    (behind out _ (codes ": ") _ _
    (behind out _ (role_name m found.assoc found.end) _ _
    (behind out _ (codes ".") _ _
    (behind out (codes "structure: ") (assoc_name m found.assoc) _ _ c.in_ok-append.ensures
    (c.in_ok-append-2.ensures ∙ ap (λ (l : List ℕ). c.append.new.out.items ++ l) c.assoc_name.ensures))
    c.in_ok-append-3.ensures)
    (c.in_ok-append-4.ensures ∙ ap (λ (l : List ℕ). c.append-3.new.out.items ++ l) c.role_name.ensures))
    c.in_ok-append-5.ensures)
    c.in_ok-append_name.ensures)
    c.in_ok-append-6.ensures)
    c.in_ok-append_number.ensures)
    c.in_ok-append-7.ensures)
    (c.in_ok-append-8.ensures
    ∙ ap (λ (l : List ℕ). c.append-7.new.out.items ++ l) (c.spec.ensures ∙ ap (λ (n : Multiplicity). n.spec) c.multiplicity.ensures)))
    last)
    c.append-9.ensures
