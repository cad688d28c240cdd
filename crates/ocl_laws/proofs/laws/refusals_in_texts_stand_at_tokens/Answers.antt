use Rattle.use_syntax.specs.Reading.{read_command, read_model}
use Rattle.ocl_laws.proofs.InTexts.{refused_in_text}
use Rattle.ocl_laws.proofs.laws.refusals_in_texts_stand_at_tokens.Goals as goal

pub returns-clause-model : goal.returns-clause-model
returns-clause-model c =
    λ text. refused_in_text c.args.model.now c.args.is_post c.args.env.now text (read_model text) (c.places_in_texts_are_those_of_tokens.ensures.model text)

pub returns-clause-command : goal.returns-clause-command
returns-clause-command c =
    λ first_line text.
    refused_in_text c.args.model.now c.args.is_post c.args.env.now text (read_command first_line text)
    (c.places_in_texts_are_those_of_tokens.ensures.command first_line text)
