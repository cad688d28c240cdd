use Rattle.std.proofs.lemmas.Str.{utf8_valid_len-IsUtf8}
use Rattle.use_text.proofs.lexer.first_fault.Goals as goal

pub returns-in-Ok-clause-none : goal.returns-in-Ok-clause-none
returns-in-Ok-clause-none c = utf8_valid_len-IsUtf8 c.args.text.now c.in-Ok.ensures.cases.1
