use Rattle.std.proofs.Common.{◌≡◌, Some, slice_get, sym, ◌∙◌, refl, length, ltb-true}
use Rattle.std.proofs.lemmas.Option.{slice_get_read}
use Rattle.grammar_core.proofs.Cells.{cell_may_tell}
use Rattle.grammar_core.proofs.choices.told_choice.Goals as goal

pub returns-in-Some-Some : goal.returns-in-Some-Some
returns-in-Some-Some c =
    let a = c.in-Some-Some.ensures.lookup in
    let b = c.in-Some-Some.ensures'.lookup in
    let token : slice_get c.args.tokens.now c.args.at ≡ Some c.in-Some-Some.token.now = slice_get_read c.args.tokens.now
    (length c.args.tokens.now) c.args.at c.in-Some-Some.token.now refl (ltb-true _ _ (sym a.0)) a.1 in
    let cells : slice_get c.args.all.now c.args.p ≡ Some c.in-Some-Some.cells.now = slice_get_read c.args.all.now
    (length c.args.all.now) c.args.p c.in-Some-Some.cells.now refl (ltb-true _ _ (sym b.0)) b.1 in
    cell_may_tell c.args.all.now c.args.tokens.now c.args.at c.args.p c.in-Some-Some.token.now c.in-Some-Some.cells.now c.copied.result token cells (sym
    (c.copied.ensures ∙ c.get-in-Some-Some.ensures.value))
