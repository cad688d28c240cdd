use Rattle.std.proofs.Common.{sym, subst, ◌∙◌}
use Rattle.std.specs.Prelude.{IfSome, Option}
use Rattle.command_cache.specs.declared.commands.Prepared.{Prepared}
use Rattle.command_cache.specs.Prepared.{IsPrepared}
use Rattle.command_cache.proofs.commands.kept_at.Goals as goal

pub returns-in-Some : goal.returns-in-Some
returns-in-Some c = λ p h.
    let x = c.in-Some.ensures.lookup in
    subst (λ (o : Option Prepared). IfSome o (IsPrepared p)) (sym (c.as_ref.ensures.value ∙ x.1))
    (h c.args.place c.in-Some.at.now x.3.0)
