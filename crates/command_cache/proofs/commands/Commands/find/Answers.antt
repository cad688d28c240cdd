use Rattle.std.proofs.Common.{sym, subst, ◌∙◌}
use Rattle.command_cache.specs.Prepared.{AreKept}
use Rattle.command_cache.proofs.commands.Commands.find.Goals as goal

pub returns-in-Some : goal.returns-in-Some
returns-in-Some g c = λ p h. c.if_same.ensures p (c.in-Some.ensures p (subst (AreKept p) (sym c.self.view_is ∙ sym c.as_slice.ensures.value) h))
