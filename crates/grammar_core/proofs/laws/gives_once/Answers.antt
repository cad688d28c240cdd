use Rattle.grammar_core.proofs.Known.{gives_one}
use Rattle.grammar_core.proofs.laws.gives_once.Goals as goal

pub returns : goal.returns
returns c = λ g ks p level at fit inside. gives_one g fit ks p level at inside
