use Rattle.command_cache.specs.Meanings.{IsMeant}
use Rattle.command_cache.proofs.Pushed.{pushed}
use Rattle.command_cache.proofs.meanings.add_name.Goals as goal

pub returns-clause-meant : goal.returns-clause-meant
returns-clause-meant g c =
    pushed (IsMeant (g.S.Scope.known c.args.scope.now)) c.push.result c.args.names.now c.push.new.self c.in_ok-named.named c.push.ensures.ok c.requires.meant
    c.in_ok-named.ensures.meant
