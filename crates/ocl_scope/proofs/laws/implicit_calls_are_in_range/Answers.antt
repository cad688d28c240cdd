use Rattle.ocl_scope.proofs.Told.{implicit_gives}
use Rattle.ocl_scope.proofs.laws.implicit_calls_are_in_range.Goals as goal

pub returns : goal.returns
returns c =
    implicit_gives c.args.model.now c.args.env.now c.has_numbers_in_range.ensures c.requires.env c.args.is_post c.args.name.now c.args.is_before
    c.args.given.now c.requires.given
