use Rattle.ocl_syntax.proofs.TokenPlaces.{places_kept}
use Rattle.ocl_syntax.proofs.laws.places_are_those_of_tokens.Goals as goal

pub returns : goal.returns
returns c = λ p s. places_kept c.args.lexed.now c.args.node.now p s
