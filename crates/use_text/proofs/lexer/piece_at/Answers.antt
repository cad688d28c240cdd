use Rattle.std.proofs.Common.{drop}
use Rattle.std.proofs.lemmas.List.{take_rest}
use Rattle.use_text.proofs.PieceLemmas.{piece_front}
use Rattle.use_text.proofs.lexer.piece_at.Goals as goal

pub returns-clause-front : goal.returns-clause-front
returns-clause-front c = rw (c.piece_of.ensures, take_rest c.args.text.now c.args.at) (piece_front (drop c.args.at c.args.text.now))
