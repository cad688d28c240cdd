use Rattle.ocl_types.specs.Walk.{type_expr}
use Rattle.ocl_laws.proofs.Once.{one}
use Rattle.ocl_laws.proofs.laws.typings_are_told_once.Goals as goal

pub returns : goal.returns
returns c =
    one (type_expr c.args.model.now c.args.is_post c.args.env.now c.args.written.now) c.args.first.now c.args.second.now c.requires.first c.requires.second
    c.requires.first_had_memory c.requires.second_had_memory
