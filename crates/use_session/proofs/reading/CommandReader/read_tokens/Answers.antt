use Rattle.use_session.proofs.Verdicts.{read_as, tree_is}
use Rattle.use_session.proofs.reading.CommandReader.read_tokens.Goals as goal

pub returns-in-Some-clause-reading : goal.returns-in-Some-clause-reading
returns-in-Some-clause-reading c = read_as c.args.tokens c.in-Some.tree (rw c.as_slice.ensures at c.in-Some.ensures)

pub returns-in-None-clause-tree : goal.returns-in-None-clause-tree
returns-in-None-clause-tree c = tree_is c.args.tokens _ c.read_lexed.ensures.reading c.read_lexed.ensures.same
