use Rattle.std.proofs.Common.{arith}
use Rattle.use_syntax.proofs.Lengths.{few_tokens}
use Rattle.use_syntax.proofs.reader.Reader.lex.Goals as goal

pub returns-in-Ok-clause-few : goal.returns-in-Ok-clause-few
returns-in-Ok-clause-few c = omega (arith, few_tokens c.args.first_line c.args.text.now c.in-Ok.tokens c.in-Ok.ensures.tokens)
