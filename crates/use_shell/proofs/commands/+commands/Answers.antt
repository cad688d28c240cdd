use Rattle.std.proofs.Common.{rules, arith, ◌≡◌, ◌-◌, ◌++◌, [], Some, None, Err, true, false, take, refl, sym, ap, ◌∙◌, ⊎_elim}
use Rattle.use_session.specs.Answering.{machine_in}
use Rattle.use_shell.specs.Output.{commands_in, max_file, play, unopened}
use Rattle.use_shell.proofs.CommandLemmas.{file_beyond, held_of, keeps_same, keeps_then, lacks_of, longer_of, opens_none, opens_one, still}
use Rattle.use_shell.proofs.ComeLemmas.{stopped_early, stopped_wanting}
use Rattle.use_shell.proofs.PlayLemmas.{append_cancel}
use Rattle.use_shell.proofs.StopLemmas.{stops_err, stops_ok, stops_then, stops_written}
use Rattle.use_shell.proofs.WayLemmas.{check_plays, fetch_plays, file_end, file_here, file_on, file_over, file_stopped, has_begun, none_plays, on_the_way, one_plays, opened_plays, plays_behind, plays_by, quiet_plays, quit_plays, refused_plays, stop_plays, unopened_plays, way_end, way_on, way_over, way_stopped, way_unwritten, way_written}
use Rattle.use_shell.proofs.commands.+commands.Goals as goal

pub answer-open_file-requires-text-name : goal.answer-open_file-requires-text-name
answer-open_file-requires-text-name g t c κs within = c.as_str.utf8

pub answer-returns-in-Quiet-clause-plays : goal.answer-returns-in-Quiet-clause-plays
answer-returns-in-Quiet-clause-plays g t c held told =
    quiet_plays c.args.manner.files held c.args.manner.echo (machine_in c.args.player.now.session) c.args.cut.now _ _ _ _ _ (c.in_ok-step.ensures.machine)
    (c.in_ok-step.ensures.bytes) (c.in_ok-step.ensures.units) (sym c.in_ok-step.ensures.turn ∙ c.in-Quiet.is) (c.in_ok-step.ensures.failed)

pub answer-returns-in-Refused-clause-plays : goal.answer-returns-in-Refused-clause-plays
answer-returns-in-Refused-clause-plays g t c held told =
    ⊎_elim (λ is. refused_plays c.args.manner.files held c.args.manner.echo (machine_in c.args.player.now.session) c.args.cut.now _ _ _ _ _
    (c.in_ok-step.ensures.machine) (c.in_ok-step.ensures.bytes) (c.in_ok-step.ensures.units) is.0 (sym c.in_ok-step.ensures.turn ∙ is.1) refl)
    (λ is. check_plays c.args.manner.files held c.args.manner.echo (machine_in c.args.player.now.session) c.args.cut.now _ _ _ _ _
    (c.in_ok-step.ensures.machine) (c.in_ok-step.ensures.bytes) (c.in_ok-step.ensures.units) (sym c.in_ok-step.ensures.turn ∙ is) refl) c.in-Refused.is

pub answer-returns-in-Quit-clause-plays : goal.answer-returns-in-Quit-clause-plays
answer-returns-in-Quit-clause-plays g t c held told =
    quit_plays c.args.manner.files held c.args.manner.echo (machine_in c.args.player.now.session) c.args.cut.now _ _ _ _ _ (c.in_ok-step.ensures.machine)
    (c.in_ok-step.ensures.bytes) (c.in_ok-step.ensures.units) (sym c.in_ok-step.ensures.turn ∙ c.in-Quit.is) (c.in_ok-step.ensures.failed)

pub answer-returns-in-Fetch-clause-plays : goal.answer-returns-in-Fetch-clause-plays
answer-returns-in-Fetch-clause-plays g t c held told =
    fetch_plays c.args.manner.files held c.args.manner.echo (machine_in c.args.player.now.session) c.args.cut.now c.in-Fetch.name c.as_str.result.now
    c.in-Fetch.place c.args.player.now c.step.new.self c.open_file.new.player _ _ _ _ _ _ (c.in_ok-step.ensures.machine) (c.in_ok-step.ensures.bytes)
    (c.in_ok-step.ensures.units) (c.in_ok-step.ensures.failed) (sym c.in_ok-step.ensures.turn ∙ c.in-Fetch.is) c.as_str.ensures
    (c.open_file.ensures.plays held told)

pub answer-returns-in_err-step-clause-plays : goal.answer-returns-in_err-step-clause-plays
answer-returns-in_err-step-clause-plays g t c held told =
    stop_plays _ _ _ _ _ _ _ c.from_residual.result c.in_err-step.field-0.0 (stopped_wanting _ _ _ _ _ c.in_err-step.field-0.0 c.in_err-step.ensures.memory) (search rules)

pub open_file-returns-in-Err-Missing-clause-plays : goal.open_file-returns-in-Err-Missing-clause-plays
open_file-returns-in-Err-Missing-clause-plays g t c held told =
    let m = (machine_in c.args.player.now.session) in
    let lacks = lacks_of _ held c.args.name.now told (c.in-Err-Missing.ensures.missing (ap Err c.in-Err-Missing.field-0-is)) in
    plays_by _ (unopened 1 m c.args.place) _ _ _ _ _ _ _
    (opens_one c.args.manner.files held c.args.manner.echo m c.args.name.now c.args.place None c.if-manner-eq0.false lacks)
    (plays_behind (unopened 1 m c.args.place) c.args.player.now c.flush.new.self c.refuse-in-Err-Missing.new.player _ _ _ _ _ _ _ c.in_ok-flush.ensures.puts
    c.flush.ensures.session c.flush.ensures.failed refl
    (unopened_plays 1 m c.args.place c.flush.new.self c.refuse-in-Err-Missing.new.player _ _ _ c.refuse-in-Err-Missing.result (ap machine_in c.flush.ensures.session) refl
    c.refuse-in-Err-Missing.ensures.session c.refuse-in-Err-Missing.ensures.over c.refuse-in-Err-Missing.ensures.failed c.refuse-in-Err-Missing.ensures.bytes
    c.refuse-in-Err-Missing.ensures.memory))

pub open_file-returns-in-Err-TooLong-clause-plays : goal.open_file-returns-in-Err-TooLong-clause-plays
open_file-returns-in-Err-TooLong-clause-plays g t c held told =
    let m = (machine_in c.args.player.now.session) in
    let inner = commands_in (c.args.manner.files - 1) held c.args.manner.echo in
    let longer = longer_of _ held c.args.name.now max_file told (c.in-Err-TooLong.ensures.long (ap Err c.in-Err-TooLong.field-0-is)) in
    plays_by _ (unopened 2 m c.args.place) _ _ _ _ _ _ _
    (opens_one c.args.manner.files held c.args.manner.echo m c.args.name.now c.args.place (Some longer.0) c.if-manner-eq0.false longer.1
    ∙ file_beyond inner m c.args.place longer.0 longer.2)
    (plays_behind (unopened 2 m c.args.place) c.args.player.now c.flush.new.self c.refuse-in-Err-TooLong.new.player _ _ _ _ _ _ _ c.in_ok-flush.ensures.puts
    c.flush.ensures.session c.flush.ensures.failed refl
    (unopened_plays 2 m c.args.place c.flush.new.self c.refuse-in-Err-TooLong.new.player _ _ _ c.refuse-in-Err-TooLong.result (ap machine_in c.flush.ensures.session) refl
    c.refuse-in-Err-TooLong.ensures.session c.refuse-in-Err-TooLong.ensures.over c.refuse-in-Err-TooLong.ensures.failed c.refuse-in-Err-TooLong.ensures.bytes
    c.refuse-in-Err-TooLong.ensures.memory))

pub open_file-returns-then-manner-eq0-clause-plays : goal.open_file-returns-then-manner-eq0-clause-plays
open_file-returns-then-manner-eq0-clause-plays g t c held told =
    let m = (machine_in c.args.player.now.session) in
    plays_by _ (unopened 3 m c.args.place) _ _ _ _ _ _ _ (opens_none c.args.manner.files held c.args.manner.echo m c.args.name.now c.args.place c.if-manner-eq0.true)
    (unopened_plays 3 m c.args.place c.args.player.now c.refuse.new.player _ _ _ c.refuse.result refl refl c.refuse.ensures.session c.refuse.ensures.over c.refuse.ensures.failed
    c.refuse.ensures.bytes c.refuse.ensures.memory)

pub open_file-returns-in_err-flush-clause-plays : goal.open_file-returns-in_err-flush-clause-plays
open_file-returns-in_err-flush-clause-plays g t c held told =
    stop_plays _ _ _ _ _ _ _ c.from_residual.result c.in_err-flush.field-0.0 (stopped_early _ _ _ _ _ _ _ c.in_err-flush.ensures.err refl) (search rules)

pub open_file-returns-in-Ok-clause-plays : goal.open_file-returns-in-Ok-clause-plays
open_file-returns-in-Ok-clause-plays g t c held told =
    opened_plays c.args.manner.files c.within-inner.result.files held c.args.manner.echo c.within-inner.result.echo c.args.name.now c.args.place
    c.in-Ok.bytes.items c.deref.result.now c.args.player.now c.flush.new.self c.play_file.new.player _ _ _ _ _ _ c.play_file.result c.if-manner-eq0.false
    (held_of _ held c.args.name.now c.in-Ok.bytes.items told c.in-Ok.ensures.held) c.in-Ok.ensures.bound (search rules) (search rules) (search rules)
    c.in_ok-flush.ensures.puts c.flush.ensures.session c.flush.ensures.failed refl
    (c.play_file.ensures.plays held (still _ _ held c.fetch.ensures.files told))

pub play_file-pieces-init : goal.play_file-pieces-init
play_file-pieces-init g t c = record {
  ready = c.requires.ready;
  waiting = c.new-cutter.ensures.waiting;
  within = omega arith;
  few = omega (arith, c.new-cutter.ensures.stands.count);
  files = keeps_same _;
  shelf_later = omega arith;
  sink_later = omega arith;
  played = λ held told. has_begun (commands_in c.args.manner.files held c.args.manner.echo) _ [] _ _ _ _ refl c.new-cutter.ensures.stands refl;
}

pub play_file-returns-in_err-play_piece-clause-plays : goal.play_file-returns-in_err-play_piece-clause-plays
play_file-returns-in_err-play_piece-clause-plays g t c held told =
    let so_far = c.pieces.invariant.played held told in
    let inner = commands_in c.args.manner.files held c.args.manner.echo in
    let here = file_here inner c.new-cutter.ensures.stays _ c.args.bytes.now c.pieces.at c.min-count.result _ _ _ _ _ _ _ so_far in
    stop_plays _ _ _ _ _ _ _ c.from_residual.result c.in_err-play_piece.field-0.0
    (file_stopped inner c.new-cutter.ensures.stays _ c.args.bytes.now c.pieces.at c.min-count.result _ _ _ _ _ _ _ so_far _ _ _
    (c.in_err-play_piece.ensures.plays held (still _ _ held c.pieces.invariant.files told) (take c.pieces.at c.args.bytes.now) here.0 so_far.stands here.1))
    (search rules)

pub play_file-returns-in_err-play_piece-clause-files : goal.play_file-returns-in_err-play_piece-clause-files
play_file-returns-in_err-play_piece-clause-files g t c = keeps_then _ _ _ c.pieces.invariant.files c.play_piece.ensures.files

pub play_file-returns-in_err-play_piece-clause-cause : goal.play_file-returns-in_err-play_piece-clause-cause
play_file-returns-in_err-play_piece-clause-cause g t c =
    stops_err _ _ _ _ _ _ c.from_residual.result c.in_err-play_piece.field-0.0 c.pieces.invariant.shelf_later c.pieces.invariant.sink_later
    c.in_err-play_piece.ensures.cause (search rules)

pub play_file-returns-then-branch-clause-plays : goal.play_file-returns-then-branch-clause-plays
play_file-returns-then-branch-clause-plays g t c held told =
    let so_far = c.pieces.invariant.played held told in
    let inner = commands_in c.args.manner.files held c.args.manner.echo in
    let here = file_here inner c.new-cutter.ensures.stays _ c.args.bytes.now c.pieces.at c.min-count.result _ _ _ _ _ _ _ so_far in
    file_over inner c.new-cutter.ensures.stays _ c.args.bytes.now c.pieces.at c.min-count.result _ _ _ _ _ _ _ so_far _ _ _
    (rw c.if-branch.true at (c.in_ok-play_piece.ensures.plays held (still _ _ held c.pieces.invariant.files told) (take c.pieces.at c.args.bytes.now) here.0
    so_far.stands here.1))

pub play_file-returns-then-branch-clause-files : goal.play_file-returns-then-branch-clause-files
play_file-returns-then-branch-clause-files g t c = keeps_then _ _ _ c.pieces.invariant.files c.play_piece.ensures.files

pub play_file-returns-then-branch-clause-cause : goal.play_file-returns-then-branch-clause-cause
play_file-returns-then-branch-clause-cause g t c =
    stops_ok _ _ _ _ true (omega (arith, c.pieces.invariant.shelf_later, c.play_piece.ensures.cause.shelf_later))
    (omega (arith, c.pieces.invariant.sink_later, c.play_piece.ensures.cause.sink_later))

pub play_file-pieces-preserved : goal.play_file-pieces-preserved
play_file-pieces-preserved g t c = record {
  ready = c.in_ok-play_piece.ensures.ready;
  waiting = c.in_ok-play_piece.ensures.waiting c.if-branch.false;
  within = omega (arith, c.min-count.ensures);
  few = search rules;
  files = keeps_then _ _ _ c.pieces.invariant.files c.play_piece.ensures.files;
  shelf_later = omega (arith, c.pieces.invariant.shelf_later, c.play_piece.ensures.cause.shelf_later);
  sink_later = omega (arith, c.pieces.invariant.sink_later, c.play_piece.ensures.cause.sink_later);
  played = λ held told.
      let so_far = c.pieces.invariant.played held told in
      let inner = commands_in c.args.manner.files held c.args.manner.echo in
      let here = file_here inner c.new-cutter.ensures.stays _ c.args.bytes.now c.pieces.at c.min-count.result _ _ _ _ _ _ _ so_far in
      file_on inner c.new-cutter.ensures.stays _ c.args.bytes.now c.pieces.at c.min-count.result _ _ _ _ _ _ _ so_far _ _ _ _
      (c.in_ok-play_piece.ensures.stands (take c.pieces.at c.args.bytes.now) so_far.stands)
      (rw c.if-branch.false at (c.in_ok-play_piece.ensures.plays held (still _ _ held c.pieces.invariant.files told) (take c.pieces.at c.args.bytes.now) here.0
      so_far.stands here.1));
}

pub play_file-returns-clause-plays : goal.play_file-returns-clause-plays
play_file-returns-clause-plays g t c held told =
    let so_far = c.pieces.invariant.played held told in
    let inner = commands_in c.args.manner.files held c.args.manner.echo in
    file_end inner c.new-cutter.ensures.stays _ c.args.bytes.now c.pieces.at 0 _ _ _ _ _ _ _ so_far _ _ _ c.play_last.result c.pieces-test.false
    (λ more is. c.play_last.ensures.plays held (still _ _ held c.pieces.invariant.files told) (take c.pieces.at c.args.bytes.now) more so_far.stands is)

pub play_file-returns-clause-files : goal.play_file-returns-clause-files
play_file-returns-clause-files g t c = keeps_then _ _ _ c.pieces.invariant.files c.play_last.ensures.files

pub play_file-returns-clause-cause : goal.play_file-returns-clause-cause
play_file-returns-clause-cause g t c =
    stops_then _ _ _ _ _ _ c.play_last.result c.pieces.invariant.shelf_later c.pieces.invariant.sink_later c.play_last.ensures.cause

pub play_last-returns-in-None-clause-plays : goal.play_last-returns-in-None-clause-plays
play_last-returns-in-None-clause-plays g t c held told bytes more stands is =
    none_plays (commands_in c.args.manner.files held c.args.manner.echo) (machine_in c.args.player.now.session) more c.args.player.now _ _
    (sym (append_cancel _ _ _ (sym (c.in-None.ensures.last bytes stands) ∙ is))) refl

pub play_last-returns-in-Some-clause-plays : goal.play_last-returns-in-Some-clause-plays
play_last-returns-in-Some-clause-plays g t c held told bytes more stands is =
    one_plays (commands_in c.args.manner.files held c.args.manner.echo) (machine_in c.args.player.now.session) c.in-Some.cut more _ _ _ _ _ _ c.answer.result
    (sym (append_cancel _ _ _ (sym (c.in-Some.ensures.last bytes stands) ∙ is))) (c.answer.ensures.plays held told)

pub play_piece-returns-clause-plays : goal.play_piece-returns-clause-plays
play_piece-returns-clause-plays g t c held told bytes more stands is =
    let on = c.in_ok-feed.ensures.fed bytes stands in
    let same : c.feed.new.self.waiting ≡ more = on.waiting ∙ ap (λ l. l ++ on.more) c.requires.waiting ∙ append_cancel _ _ _ (sym on.commands ∙ is) in
    plays_by _ _ _ _ _ _ _ _ _ (ap (play (commands_in c.args.manner.files held c.args.manner.echo) (machine_in c.args.player.now.session)) (sym same))
    (c.play_waiting.ensures.plays held told)

pub play_waiting-cuts-init : goal.play_waiting-cuts-init
play_waiting-cuts-init g t c = record {
  ready = c.requires.ready;
  kept = refl;
  count = refl;
  files = keeps_same _;
  shelf_later = omega arith;
  sink_later = omega arith;
  way = λ held told. on_the_way (commands_in c.args.manner.files held c.args.manner.echo) _ _ _ _ _ refl;
}

pub play_waiting-returns-in_err-answer-clause-plays : goal.play_waiting-returns-in_err-answer-clause-plays
play_waiting-returns-in_err-answer-clause-plays g t c held told =
    stop_plays _ _ _ _ _ _ _ c.from_residual.result c.in_err-answer.field-0.0
    (way_stopped (commands_in c.args.manner.files held c.args.manner.echo) _ c.in-Some.cut c.next.new.self.waiting c.cuts.cutter.waiting _ c.cuts.player
    c.answer.new.player _ _ _ _ _ _ c.in-Some.ensures.given (c.cuts.invariant.way held told) _
    (c.in_err-answer.ensures.plays held (still _ _ held c.cuts.invariant.files told))) (search rules)

pub play_waiting-returns-in_err-answer-clause-files : goal.play_waiting-returns-in_err-answer-clause-files
play_waiting-returns-in_err-answer-clause-files g t c = keeps_then _ _ _ c.cuts.invariant.files c.answer.ensures.files

pub play_waiting-returns-in_err-answer-clause-cause : goal.play_waiting-returns-in_err-answer-clause-cause
play_waiting-returns-in_err-answer-clause-cause g t c =
    stops_err _ _ _ _ _ _ c.from_residual.result c.in_err-answer.field-0.0 c.cuts.invariant.shelf_later c.cuts.invariant.sink_later c.in_err-answer.ensures.cause
    (search rules)

pub play_waiting-returns-then-branch-clause-plays : goal.play_waiting-returns-then-branch-clause-plays
play_waiting-returns-then-branch-clause-plays g t c held told =
    way_over (commands_in c.args.manner.files held c.args.manner.echo) _ c.in-Some.cut c.next.new.self.waiting c.cuts.cutter.waiting _ c.cuts.player
    c.answer.new.player _ _ _ _ _ _ c.in-Some.ensures.given (c.cuts.invariant.way held told)
    (rw c.if-branch.true at (c.in_ok-answer.ensures.plays held (still _ _ held c.cuts.invariant.files told)))

pub play_waiting-returns-then-branch-clause-files : goal.play_waiting-returns-then-branch-clause-files
play_waiting-returns-then-branch-clause-files g t c = keeps_then _ _ _ c.cuts.invariant.files c.answer.ensures.files

pub play_waiting-returns-then-branch-clause-cause : goal.play_waiting-returns-then-branch-clause-cause
play_waiting-returns-then-branch-clause-cause g t c =
    stops_ok _ _ _ _ true (omega (arith, c.cuts.invariant.shelf_later, c.answer.ensures.cause.shelf_later))
    (omega (arith, c.cuts.invariant.sink_later, c.answer.ensures.cause.sink_later))

pub play_waiting-returns-then-branch-clause-rest : goal.play_waiting-returns-then-branch-clause-rest
play_waiting-returns-then-branch-clause-rest g t c =
    (c.next.ensures.rest.0 ∙ c.cuts.invariant.kept, c.next.ensures.rest.1 ∙ c.cuts.invariant.count)

pub play_waiting-cuts-preserved : goal.play_waiting-cuts-preserved
play_waiting-cuts-preserved g t c = record {
  ready = ap (λ s. s.over) c.settle.ensures.session ∙ c.in_ok-answer.ensures.ready;
  kept = ap (λ k. k.kept) c.take_back.ensures ∙ c.next.ensures.rest.0 ∙ c.cuts.invariant.kept;
  count = ap (λ k. k.count) c.take_back.ensures ∙ c.next.ensures.rest.1 ∙ c.cuts.invariant.count;
  files = keeps_then _ _ _ c.cuts.invariant.files c.answer.ensures.files;
  shelf_later = omega (arith, c.cuts.invariant.shelf_later, c.answer.ensures.cause.shelf_later);
  sink_later = omega (arith, c.cuts.invariant.sink_later, c.answer.ensures.cause.sink_later, c.settle.ensures.cause.later);
  way = λ held told.
      let inner = commands_in c.args.manner.files held c.args.manner.echo in
      let same = ap (λ s. play inner (machine_in s) c.next.new.self.waiting) (sym c.settle.ensures.session)
      ∙ ap (λ k. play inner (machine_in c.settle.new.self.session) k.waiting) (sym c.take_back.ensures) in
      way_written inner _ _ _ _ c.answer.new.player c.settle.new.self _ _ _ _ _ _ same
      (way_on inner _ c.in-Some.cut c.next.new.self.waiting c.cuts.cutter.waiting _ c.cuts.player c.answer.new.player _ _ _ _ _ _ c.in-Some.ensures.given
      (c.cuts.invariant.way held told) (rw c.if-branch.false at (c.in_ok-answer.ensures.plays held (still _ _ held c.cuts.invariant.files told))))
      c.in_ok-settle.ensures.puts c.settle.ensures.session c.settle.ensures.failed refl;
}

pub play_waiting-returns-in_err-settle-clause-plays : goal.play_waiting-returns-in_err-settle-clause-plays
play_waiting-returns-in_err-settle-clause-plays g t c held told =
    let inner = commands_in c.args.manner.files held c.args.manner.echo in
    stop_plays _ _ _ _ _ _ _ c.from_residual-in_err-settle.result c.in_err-settle.field-0.0
    (way_unwritten inner _ _ _ c.answer.new.player _ _ _ _ _ _ _
    (way_on inner _ c.in-Some.cut c.next.new.self.waiting c.cuts.cutter.waiting _ c.cuts.player c.answer.new.player _ _ _ _ _ _ c.in-Some.ensures.given
    (c.cuts.invariant.way held told) (rw c.if-branch.false at (c.in_ok-answer.ensures.plays held (still _ _ held c.cuts.invariant.files told))))
    c.in_err-settle.ensures.err refl) (search rules)

pub play_waiting-returns-in_err-settle-clause-files : goal.play_waiting-returns-in_err-settle-clause-files
play_waiting-returns-in_err-settle-clause-files g t c = keeps_then _ _ _ c.cuts.invariant.files c.answer.ensures.files

pub play_waiting-returns-in_err-settle-clause-cause : goal.play_waiting-returns-in_err-settle-clause-cause
play_waiting-returns-in_err-settle-clause-cause g t c =
    stops_written _ _ _ _ _ c.from_residual-in_err-settle.result c.in_err-settle.field-0.0
    (omega (arith, c.cuts.invariant.shelf_later, c.answer.ensures.cause.shelf_later)) (omega (arith, c.cuts.invariant.sink_later, c.answer.ensures.cause.sink_later))
    c.in_err-settle.ensures.cause (search rules)

pub play_waiting-returns-clause-plays : goal.play_waiting-returns-clause-plays
play_waiting-returns-clause-plays g t c held told =
    way_end (commands_in c.args.manner.files held c.args.manner.echo) _ c.cuts.cutter.waiting _ _ _ _ _ _ (search rules) (c.cuts.invariant.way held told)

pub play_waiting-returns-clause-ready : goal.play_waiting-returns-clause-ready
play_waiting-returns-clause-ready g t c = c.cuts.invariant.ready

pub play_waiting-returns-clause-files : goal.play_waiting-returns-clause-files
play_waiting-returns-clause-files g t c = c.cuts.invariant.files

pub play_waiting-returns-clause-cause : goal.play_waiting-returns-clause-cause
play_waiting-returns-clause-cause g t c = stops_ok _ _ _ _ false c.cuts.invariant.shelf_later c.cuts.invariant.sink_later

pub play_waiting-returns-clause-rest : goal.play_waiting-returns-clause-rest
play_waiting-returns-clause-rest g t c = (c.next.ensures.rest.0 ∙ c.cuts.invariant.kept, c.next.ensures.rest.1 ∙ c.cuts.invariant.count)
