use Rattle.use_shell.proofs.Named.{read_gives}
use Rattle.use_shell.proofs.model.model_of_text.Goals as goal

pub returns-in-Ok-clause-model : goal.returns-in-Ok-clause-model
returns-in-Ok-clause-model c =
    read_gives c.args.text.now c.in-Ok.parsed c.checked.result c.in-Ok.ensures.reading.0 c.in-Ok.ensures.reading.1 c.checked.ensures.model
