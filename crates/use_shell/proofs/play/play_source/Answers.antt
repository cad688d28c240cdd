use Rattle.std.proofs.Common.{◌≡◌, Err, ap, rules, sym, ◌∙◌}
use Rattle.use_session.specs.Machine.{start}
use Rattle.use_shell.specs.declared.stop.Stop.TheVariants.{Memory}
use Rattle.use_shell.proofs.StreamLemmas.{not_begun}
use Rattle.use_shell.proofs.play.play_source.Goals as goal

pub play_pieces-ended-requires-clause-machine : goal.play_pieces-ended-requires-clause-machine
play_pieces-ended-requires-clause-machine g c =
    c.in_ok-player.ensures.machine ∙ ap start (sym (ap (λ m. m.program) c.in_ok-player.ensures.machine))

pub returns-clause-played : goal.returns-clause-played
returns-clause-played g c = rw (ap (λ m. m.program) c.in_ok-player.ensures.machine) at c.play_pieces-ended.ensures.played

pub returns-clause-cut_off : goal.returns-clause-cut_off
returns-clause-cut_off g c = rw (ap (λ m. m.program) c.in_ok-player.ensures.machine) at c.play_pieces-ended.ensures.cut_off

pub returns-in_err-player-clause-played : goal.returns-in_err-player-clause-played
returns-in_err-player-clause-played g c =
    let is : c.from_residual.result ≡ Err Memory = search rules in
    not_begun (g.F.Shelf.files c.args.shelf.now) c.args.program c.args.manner.echo c.args.manner.strict c.args.limit (g.S.Source.left c.args.source.now)
    (g.K.Sink.written c.args.sink.now) c.args.steps.now c.from_residual.result is
