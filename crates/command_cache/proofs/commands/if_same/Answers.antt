use Rattle.std.proofs.Common.{ℕ, List, subst}
use Rattle.command_cache.specs.Prepared.{Is}
use Rattle.command_cache.proofs.commands.if_same.Goals as goal

pub returns-then-tells : goal.returns-then-tells
returns-then-tells g c = λ p h.
    let known = g.S.Scope.known c.args.scope.now in
    let bound = g.S.Scope.bound c.args.scope.now in
    let told = c.if-tells.true in
    subst (λ (text : List ℕ). Is p known bound text c.args.prepared.now) (c.tells.ensures.text told)
    (h known bound (c.tells.ensures.meant told) (c.tells.ensures.bound told))
