use Rattle.model_check.proofs.Named.{derived_below}
use Rattle.model_check.proofs.attributes.add_body.Goals as goal

pub add_value-requires : goal.add_value-requires
add_value-requires c =
    derived_below c.args.source.now.setting.model.now c.args.class c.as_str.result.now c.in-Some.number c.in-Some.ensures
