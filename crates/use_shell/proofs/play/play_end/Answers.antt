use Rattle.std.proofs.Common.{rules, arith, refl}
use Rattle.use_shell.proofs.StopLemmas.{stops_by_write, stops_err}
use Rattle.use_shell.proofs.WayLemmas.{flushed_ends, stop_ends}
use Rattle.use_shell.proofs.play.play_end.Goals as goal

pub returns-in_err-play_last-clause-plays : goal.returns-in_err-play_last-clause-plays
returns-in_err-play_last-clause-plays g c held told bytes more stands is =
    stop_ends _ _ _ _ _ _ _ c.from_residual.result c.in_err-play_last.field-0.0 (c.in_err-play_last.ensures.plays held told bytes more stands is) (search rules)

pub returns-in_err-play_last-clause-cause : goal.returns-in_err-play_last-clause-cause
returns-in_err-play_last-clause-cause g c =
    stops_err _ _ _ _ _ _ c.from_residual.result c.in_err-play_last.field-0.0 (omega arith) (omega arith) c.in_err-play_last.ensures.cause (search rules)

pub returns-clause-plays : goal.returns-clause-plays
returns-clause-plays g c held told bytes more stands is =
    flushed_ends _ _ c.play_last.new.player _ _ _ _ _ _ _ c.in_ok-play_last.field-0 c.flush.result
    (c.in_ok-play_last.ensures.plays held told bytes more stands is) c.flush.ensures.puts c.flush.ensures.err c.flush.ensures.session c.flush.ensures.failed refl

pub returns-clause-cause : goal.returns-clause-cause
returns-clause-cause g c =
    stops_by_write _ _ _ _ _ c.flush.result c.in_ok-play_last.ensures.cause.shelf_later c.in_ok-play_last.ensures.cause.sink_later c.flush.ensures.cause
