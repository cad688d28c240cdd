use Rattle.use_shell.specs.Plays.{given}
use Rattle.use_shell.proofs.SourceLemmas.{answers_taken, commands_end, run_bounded, run_long, run_played, run_strict}
use Rattle.use_shell.proofs.program.play_commands.Goals as goal

pub returns-clause-told : goal.returns-clause-told
returns-clause-told g c held told =
    commands_end (g.F.Shelf.files c.args.shelf.now) c.args.program c.args.manner.echo c.args.manner.strict held told c.play_source.ensures.stays _ _ _ _ _ _
    c.play_source.result c.play_source.ensures.played

pub returns-clause-played : goal.returns-clause-played
returns-clause-played g c =
    run_played (g.F.Shelf.files c.args.shelf.now) (given c.args.program c.args.manner.echo c.args.manner.strict) c.args.manner.strict _ _ _ _ _ _
    c.play_source.result c.play_source.ensures.played

pub returns-clause-bounded : goal.returns-clause-bounded
returns-clause-bounded g c =
    run_bounded (g.F.Shelf.files c.args.shelf.now) (given c.args.program c.args.manner.echo c.args.manner.strict) c.args.manner.strict _ _ _ _ _ _
    c.play_source.result c.play_source.ensures.played

pub returns-clause-long : goal.returns-clause-long
returns-clause-long g c =
    run_long (g.F.Shelf.files c.args.shelf.now) (given c.args.program c.args.manner.echo c.args.manner.strict) c.args.manner.strict _ _ _ _ _ _
    c.play_source.result c.play_source.ensures.played

pub returns-clause-strict : goal.returns-clause-strict
returns-clause-strict g c =
    run_strict (g.F.Shelf.files c.args.shelf.now) (given c.args.program c.args.manner.echo c.args.manner.strict) c.args.manner.strict _ _ _ _ _ _
    c.play_source.result c.play_source.ensures.played

pub returns-clause-fault : goal.returns-clause-fault
returns-clause-fault g c is none held told =
    answers_taken (g.F.Shelf.files c.args.shelf.now) c.args.program c.args.manner.echo c.args.manner.strict held told _ _ _ _ _ _
    (c.play_source.ensures.cut_off is none)
