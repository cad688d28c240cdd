use Rattle.use_text.proofs.CoverLemmas.{exist, unique, tokens_are}
use Rattle.use_text.proofs.law.tokens_are_the_lexemes.Goals as goal

pub returns-clause-exist : goal.returns-clause-exist
returns-clause-exist c = exist

pub returns-clause-unique : goal.returns-clause-unique
returns-clause-unique c = unique

pub returns-clause-tokens : goal.returns-clause-tokens
returns-clause-tokens c = tokens_are
