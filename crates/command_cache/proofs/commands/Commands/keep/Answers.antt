use Rattle.std.proofs.Common.{sym, ◌∙◌}
use Rattle.command_cache.proofs.Again.{kept_with}
use Rattle.command_cache.proofs.commands.Commands.keep.Goals as goal

pub returns-in-Some : goal.returns-in-Some
returns-in-Some c = λ p h x. c.put.ensures p h (kept_with p c.args.noted c.args.command c.in-Some.prepared (sym c.prepared_of.ensures ∙ c.in-Some.is) x)
