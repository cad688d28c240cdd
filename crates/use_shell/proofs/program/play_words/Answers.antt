use Rattle.std.proofs.Common.{ap, ◌∙◌}
use Rattle.std.specs.Option.{option_map}
use Rattle.use_words.specs.CommandLine.{fits, words_of}
use Rattle.use_shell.proofs.StopLemmas.{rose_later}
use Rattle.use_shell.proofs.WordLemmas.{played_answers, played_counts, played_finishes, played_stops, told_before}
use Rattle.use_shell.proofs.program.play_words.Goals as goal

pub returns-in-Ok-clause-bytes : goal.returns-in-Ok-clause-bytes
returns-in-Ok-clause-bytes g c =
    played_finishes (words_of c.args.words.now) (g.F.Shelf.files c.args.shelf.now) (fits c.in-Some.asked) c.in-Ok.program c.manner_of-manner.result.echo
    c.manner_of-manner.result.strict (c.in_ok-asked.ensures.wanted ∙ ap (option_map fits) c.in-Some.is) c.manner_of-manner.ensures.echo
    c.manner_of-manner.ensures.strict c.in-Ok.ensures.model (g.S.Source.left c.args.source.now) (g.S.Source.left c.play_commands.new.source)
    (g.K.Sink.written c.args.sink.now) (g.K.Sink.written c.play_commands.new.sink) c.args.steps.now c.play_commands.new.steps c.play_commands.result
    (told_before _ _ _ c.model_of_file.ensures.files c.play_commands.ensures.told)

pub returns-in-Ok-clause-stops : goal.returns-in-Ok-clause-stops
returns-in-Ok-clause-stops g c =
    played_stops (words_of c.args.words.now) (g.F.Shelf.files c.args.shelf.now) (fits c.in-Some.asked) c.in-Ok.program c.manner_of-manner.result.echo
    c.manner_of-manner.result.strict (c.in_ok-asked.ensures.wanted ∙ ap (option_map fits) c.in-Some.is) c.manner_of-manner.ensures.echo
    c.manner_of-manner.ensures.strict c.in-Ok.ensures.model (g.S.Source.left c.args.source.now) (g.S.Source.left c.play_commands.new.source)
    (g.K.Sink.written c.args.sink.now) (g.K.Sink.written c.play_commands.new.sink) c.args.steps.now c.play_commands.new.steps c.play_commands.result
    (told_before _ _ _ c.model_of_file.ensures.files c.play_commands.ensures.told) c.play_commands.ensures.long c.play_commands.ensures.strict

pub returns-in-Ok-clause-fault : goal.returns-in-Ok-clause-fault
returns-in-Ok-clause-fault g c is none =
    played_answers (words_of c.args.words.now) (g.F.Shelf.files c.args.shelf.now) (fits c.in-Some.asked) c.in-Ok.program c.manner_of-manner.result.echo
    c.manner_of-manner.result.strict (c.in_ok-asked.ensures.wanted ∙ ap (option_map fits) c.in-Some.is) c.manner_of-manner.ensures.echo
    c.manner_of-manner.ensures.strict c.in-Ok.ensures.model (g.S.Source.left c.args.source.now) (g.S.Source.left c.play_commands.new.source)
    (g.K.Sink.written c.args.sink.now) (g.K.Sink.written c.play_commands.new.sink) c.args.steps.now c.play_commands.new.steps c.play_commands.result
    (told_before _ _ _ c.model_of_file.ensures.files
    (c.play_commands.ensures.fault is (λ rose. none (rose_later _ _ _ c.model_of_file.ensures.cause.later rose))))

pub returns-in-Ok-clause-units : goal.returns-in-Ok-clause-units
returns-in-Ok-clause-units g c =
    played_counts (words_of c.args.words.now) (g.F.Shelf.files c.args.shelf.now) (fits c.in-Some.asked) c.in-Ok.program c.manner_of-manner.result.echo
    c.manner_of-manner.result.strict (c.in_ok-asked.ensures.wanted ∙ ap (option_map fits) c.in-Some.is) c.manner_of-manner.ensures.echo
    c.manner_of-manner.ensures.strict c.in-Ok.ensures.model (g.S.Source.left c.args.source.now) (g.S.Source.left c.play_commands.new.source)
    (g.K.Sink.written c.args.sink.now) (g.K.Sink.written c.play_commands.new.sink) c.args.steps.now c.play_commands.new.steps c.play_commands.result
    (told_before _ _ _ c.model_of_file.ensures.files c.play_commands.ensures.told)
