use Rattle.std.proofs.Common.{arith, sym}
use Rattle.use_text.proofs.PlaceLemmas.{behind_line}
use Rattle.use_text.proofs.lexer.behind_all.Goals as goal

pub returns-then-line_length-bytes-clause-place : goal.returns-then-line_length-bytes-clause-place
returns-then-line_length-bytes-clause-place c =
    sym (behind_line c.args.place c.args.bytes.now (omega (arith, c.line_length.ensures, c.if-line_length-bytes.true)))
