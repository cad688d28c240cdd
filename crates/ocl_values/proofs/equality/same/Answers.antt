use Rattle.std.proofs.Common.{◌≡◌, ◌∙◌, ap, sym, false, true≢false, is_eq}
use Rattle.ocl_values.specs.Logic.{is_invalid}
use Rattle.ocl_values.proofs.Exact.{same_exact}
use Rattle.ocl_values.proofs.equality.same.Goals as goal
use Rattle.ocl_values.proofs.equality.same.Goals.{then-is_invalid, else-is_invalid}

pub returns-else-is_invalid-2-clause-equal : goal.returns-else-is_invalid-2-clause-equal
returns-else-is_invalid-2-clause-equal c =
    let valid : is_invalid c.args.a.now ≡ false = elim c.if-is_invalid.branch [
      | then-is_invalid w ↦ absurd (true≢false (sym w.if-is_invalid.true ∙ (sym w.value-is ∙ c.if-is_invalid-2.false)))
      | else-is_invalid w ↦ sym c.is_invalid.ensures ∙ w.if-is_invalid.false
    ] in
    same_exact c.is_eq.result c.args.a.now c.args.b.now (c.is_eq.ensures ∙ ap is_eq c.cmp.ensures) valid
