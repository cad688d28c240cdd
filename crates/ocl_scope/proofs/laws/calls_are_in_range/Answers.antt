use Rattle.ocl_scope.proofs.Told.{call_gives}
use Rattle.ocl_scope.proofs.laws.calls_are_in_range.Goals as goal

pub returns : goal.returns
returns c =
    call_gives c.args.model.now c.args.size c.has_numbers_in_range.ensures c.args.is_post c.args.name.now c.args.is_before c.args.source.now c.args.given.now
    c.requires.source c.requires.given
