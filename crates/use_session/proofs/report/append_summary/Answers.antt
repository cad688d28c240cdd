use Rattle.std.proofs.Common.{ℕ, ◌++◌, length, ap, ◌∙◌}
use Rattle.std.specs.Fmt.{decimal}
use Rattle.std.specs.Prelude.{codes}
use Rattle.std.proofs.lemmas.Result.{on_ok_weaker}
use Rattle.invariant_cache.specs.Verdicts.{not_ok}
use Rattle.use_session.proofs.Written.{behind}
use Rattle.use_session.proofs.report.append_summary.Goals as goal

pub returns : goal.returns
returns c =
    let report = c.args.report.now in
    let out = c.args.out.now.items in
    on_ok_weaker c.append-3.result
    (λ last.
    behind out _ (codes " not OK\n") _ _
    (behind out _ (decimal (not_ok report)) _ _
    (behind out _ (codes " evaluated, ") _ _
    (behind out _ (decimal report.evaluated) _ _
    (behind out (decimal (length report.lines)) (codes " invariants, ") _ _ (c.in_ok-append_number.ensures ∙ ap (λ (n : ℕ). out ++ decimal n) c.len.ensures)
    c.in_ok-append.ensures)
    c.in_ok-append_number-2.ensures)
    c.in_ok-append-2.ensures)
    (c.in_ok-append_number-3.ensures ∙ ap (λ (n : ℕ). c.append-2.new.out.items ++ decimal n) c.not_ok.ensures))
    last)
    c.append-3.ensures
