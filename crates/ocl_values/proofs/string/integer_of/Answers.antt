use Rattle.std.proofs.Common.{◌≡◌, ◌≢◌, get_or, ap, sym, ◌∙◌, arith}
use Rattle.std.proofs.lemmas.Bool.Decides.{nat_tests}
use Rattle.ocl_values.specs.Checked.{checked}
use Rattle.ocl_values.proofs.Numerals.{bytes_integer, chars_integer, plus_integer}
use Rattle.ocl_values.proofs.string.integer_of.Goals as goal

pub returns-then-has_plus : goal.returns-then-has_plus
returns-then-has_plus c =
    let plus : get_or c.args.s.now 0 0 ≡ 43 = grind (arith, nat_tests, c.has_plus.ensures, c.if-has_plus.true) in
    sym (chars_integer c.args.s.now c.utf8.s ∙ plus_integer c.args.s.now plus)

pub returns : goal.returns
returns c =
    let other : get_or c.args.s.now 0 0 ≢ 43 = λ plus. grind (arith, nat_tests, c.has_plus.ensures, c.if-has_plus.false) in
    c.checked.ensures ∙ ap checked c.ok.ensures.value ∙ bytes_integer c.parse.result c.args.s.now c.parse.ensures.value.0 other
    ∙ sym (chars_integer c.args.s.now c.utf8.s)
