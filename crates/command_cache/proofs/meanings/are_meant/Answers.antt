use Rattle.std.proofs.Common.{subst}
use Rattle.std.proofs.lemmas.List.Elements.{All-more}
use Rattle.command_cache.specs.Meanings.{IsMeant}
use Rattle.command_cache.proofs.Pushed.{whole}
use Rattle.command_cache.proofs.meanings.are_meant.Goals as goal

pub names-preserved : goal.names-preserved
names-preserved g c =
    let P = IsMeant (g.S.Scope.known c.args.scope.now) in
    All-more P c.args.names.now c.names.named-index c.named-item.result c.names-test.true c.names.invariant
    (subst P c.named-item.is (c.means_same.ensures c.if-not-means_same.false))

pub returns : goal.returns
returns g c = λ h. whole (IsMeant (g.S.Scope.known c.args.scope.now)) c.args.names.now c.names.named-index c.names-test.false c.names.invariant
