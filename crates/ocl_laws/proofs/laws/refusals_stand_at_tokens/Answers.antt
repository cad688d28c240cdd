use Rattle.ocl_syntax.specs.Expressions.{written}
use Rattle.ocl_syntax.specs.Standing.{IsTokenPlaceOrZero}
use Rattle.ocl_laws.proofs.PlacesStand.{refused_among}
use Rattle.ocl_laws.proofs.laws.refusals_stand_at_tokens.Goals as goal

pub returns : goal.returns
returns c =
    refused_among (λ p. IsTokenPlaceOrZero c.args.lexed.now.tokens p) c.args.model.now c.args.is_post c.args.env.now (written c.args.lexed.now c.args.node.now)
    c.places_are_those_of_tokens.ensures
