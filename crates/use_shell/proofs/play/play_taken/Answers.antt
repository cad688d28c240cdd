use Rattle.std.proofs.Common.{rules, arith, refl}
use Rattle.use_shell.proofs.StopLemmas.{stops_ok, stops_written}
use Rattle.use_shell.proofs.WayLemmas.{flushed_plays, stop_plays, unflushed}
use Rattle.use_shell.proofs.play.play_taken.Goals as goal

pub returns-in_err-over-clause-plays : goal.returns-in_err-over-clause-plays
returns-in_err-over-clause-plays g c held told bytes more stands is =
    stop_plays _ _ _ _ _ _ _ c.from_residual.result c.in_err-over.field-0.0 (c.in_err-over.ensures.plays held told bytes more stands is) (search rules)

pub returns-in_err-flush-clause-plays : goal.returns-in_err-flush-clause-plays
returns-in_err-flush-clause-plays g c held told bytes more stands is =
    stop_plays _ _ _ _ _ _ _ c.from_residual-in_err-flush.result c.in_err-flush.field-0.0
    (unflushed _ _ c.play_piece.new.player _ _ _ _ _ _ c.in_ok-over.over _ (c.in_ok-over.ensures.plays held told bytes more stands is) c.in_err-flush.ensures.err refl)
    (search rules)

pub returns-in_err-flush-clause-cause : goal.returns-in_err-flush-clause-cause
returns-in_err-flush-clause-cause g c =
    stops_written _ _ _ _ _ c.from_residual-in_err-flush.result c.in_err-flush.field-0.0 c.in_ok-over.ensures.cause.shelf_later
    c.in_ok-over.ensures.cause.sink_later c.in_err-flush.ensures.cause (search rules)

pub returns-clause-plays : goal.returns-clause-plays
returns-clause-plays g c held told bytes more stands is =
    flushed_plays _ _ c.play_piece.new.player _ _ _ _ _ _ _ c.in_ok-over.over (c.in_ok-over.ensures.plays held told bytes more stands is)
    c.in_ok-flush.ensures.puts c.flush.ensures.session c.flush.ensures.failed refl

pub returns-clause-cause : goal.returns-clause-cause
returns-clause-cause g c =
    stops_ok _ _ _ _ c.in_ok-over.over c.in_ok-over.ensures.cause.shelf_later
    (omega (arith, c.in_ok-over.ensures.cause.sink_later, c.in_ok-flush.ensures.cause.later))
