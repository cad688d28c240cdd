use Rattle.std.proofs.Common.{ap, sym, subst, ◌∙◌}
use Rattle.std.specs.Prelude.{IfSome, List, Option, Some, slice_set}
use Rattle.std.proofs.lemmas.List.Elements.{All-set}
use Rattle.command_cache.specs.declared.commands.Prepared.{Prepared}
use Rattle.command_cache.specs.Prepared.{AreKept, IsPrepared}
use Rattle.command_cache.proofs.commands.Commands.put.Goals as goal

pub returns : goal.returns
returns c = λ p h x.
    let set = c.put_at.ensures ∙ ap (λ (xs : List (Option Prepared)). slice_set xs c.place_of-place.result (Some c.args.prepared)) c.self.view_is in
    subst (AreKept p) (sym set)
    (All-set (λ (o : Option Prepared). IfSome o (IsPrepared p)) c.args.self.now c.place_of-place.result (Some c.args.prepared) x h)
