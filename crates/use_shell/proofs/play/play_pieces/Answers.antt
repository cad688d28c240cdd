use Rattle.std.proofs.Common.{arith, rules, refl}
use Rattle.std.proofs.lemmas.List.{length-take}
use Rattle.use_session.specs.Answering.{machine_in}
use Rattle.use_shell.specs.declared.stop.Stop.TheVariants.{Read}
use Rattle.use_shell.proofs.CommandLemmas.{keeps_same, keeps_then, still}
use Rattle.use_shell.proofs.StopLemmas.{no_cut}
use Rattle.use_shell.proofs.StreamLemmas.{started, cut_halted, cut_off, whole, halted_at_end, halted_in, halted_streams, ended_in, past, goes_on}
use Rattle.use_shell.proofs.play.play_pieces.Goals as goal

pub pieces-init : goal.pieces-init
pieces-init g c = record {
  at = started (g.F.Shelf.files c.args.shelf.now) (machine_in c.args.player.now.session).program c.args.manner.echo c.args.manner.strict c.args.player.now c.args.cutter.now
      (g.S.Source.left c.args.source.now) (g.K.Sink.written c.args.sink.now) c.args.steps.now c.requires.stands c.requires.machine;
  within = omega arith;
  size = search rules;
  ready = c.requires.ready;
  clean = c.requires.written;
  waiting = c.requires.waiting;
  few = omega (arith, c.requires.count);
  files = keeps_same _;
  source_later = omega arith;
  shelf_later = omega arith;
  sink_later = omega arith;
}

pub returns-in_err-count-clause-played : goal.returns-in_err-count-clause-played
returns-in_err-count-clause-played g c =
    halted_streams (g.F.Shelf.files c.args.shelf.now) (machine_in c.args.player.now.session).program c.args.manner.echo c.args.manner.strict c.args.limit _ _ _ _ _ _ c.from_residual.result Read
    (cut_halted (g.F.Shelf.files c.args.shelf.now) (machine_in c.args.player.now.session).program c.args.manner.echo c.args.manner.strict c.requires.stays c.args.limit _ _ _ _ _ _ Read
    (cut_off (g.F.Shelf.files c.args.shelf.now) (machine_in c.args.player.now.session).program c.args.manner.echo c.args.manner.strict c.args.limit c.pieces.taken c.args.player.now c.pieces.player c.pieces.cutter
    _ _ _ _ _ _ c.pieces.invariant.at c.pieces.invariant.within c.requires.written c.requires.passed _ _ _
    c.in_err-count.ensures.bytes refl refl c.pieces.invariant.clean)) (search rules)

pub returns-in_err-count-clause-cut_off : goal.returns-in_err-count-clause-cut_off
returns-in_err-count-clause-cut_off g c is none =
    cut_off (g.F.Shelf.files c.args.shelf.now) (machine_in c.args.player.now.session).program c.args.manner.echo c.args.manner.strict c.args.limit c.pieces.taken c.args.player.now c.pieces.player c.pieces.cutter
    _ _ _ _ _ _ c.pieces.invariant.at c.pieces.invariant.within c.requires.written c.requires.passed _ _ _
    c.in_err-count.ensures.bytes refl refl c.pieces.invariant.clean

pub returns-in_err-play_end-clause-played : goal.returns-in_err-play_end-clause-played
returns-in_err-play_end-clause-played g c =
    let taken = rw c.if-count-eq0.true at c.in_ok-count.ensures.bytes.0 in
    let end = c.in_ok-count.ensures.bytes.1 c.if-count-eq0.true (search rules) in
    halted_streams (g.F.Shelf.files c.args.shelf.now) (machine_in c.args.player.now.session).program c.args.manner.echo c.args.manner.strict c.args.limit _ _ _ _ _ _
    c.from_residual-in_err-play_end.result c.in_err-play_end.field-0.0
    (halted_at_end (g.F.Shelf.files c.args.shelf.now) (machine_in c.args.player.now.session).program c.args.manner.echo c.args.manner.strict c.args.limit c.pieces.taken c.args.player.now c.pieces.player c.pieces.cutter
    _ _ _ _ _ _ c.pieces.invariant.at c.pieces.invariant.within c.requires.written c.requires.passed c.requires.stays
    _ _ taken end _ _ (λ held told bytes more stands is.
    rw c.requires.files at (c.in_err-play_end.ensures.plays held (still _ _ held c.pieces.invariant.files told) bytes more stands is))) (search rules)

pub returns-in_err-play_end-clause-cut_off : goal.returns-in_err-play_end-clause-cut_off
returns-in_err-play_end-clause-cut_off g c is none =
    no_cut _ _ _ _ _ c.from_residual-in_err-play_end.result c.in_err-play_end.field-0.0 c.pieces.invariant.shelf_later c.in_err-play_end.ensures.cause
    (search rules) is none

pub returns-then-count-eq0-clause-played : goal.returns-then-count-eq0-clause-played
returns-then-count-eq0-clause-played g c =
    let taken = rw c.if-count-eq0.true at c.in_ok-count.ensures.bytes.0 in
    let end = c.in_ok-count.ensures.bytes.1 c.if-count-eq0.true (search rules) in
    whole (g.F.Shelf.files c.args.shelf.now) (machine_in c.args.player.now.session).program c.args.manner.echo c.args.manner.strict c.args.limit c.pieces.taken c.args.player.now c.pieces.player c.pieces.cutter
    _ _ _ _ _ _ c.pieces.invariant.at c.pieces.invariant.within c.requires.written c.requires.passed c.requires.stays
    _ _ taken end c.play_end.new.player _ c.status.result c.status.ensures c.in_ok-play_end.ensures.written (λ held told bytes more stands is.
    rw c.requires.files at (c.in_ok-play_end.ensures.plays held (still _ _ held c.pieces.invariant.files told) bytes more stands is))

pub returns-in_err-play_taken-clause-played : goal.returns-in_err-play_taken-clause-played
returns-in_err-play_taken-clause-played g c =
    halted_streams (g.F.Shelf.files c.args.shelf.now) (machine_in c.args.player.now.session).program c.args.manner.echo c.args.manner.strict c.args.limit _ _ _ _ _ _
    c.from_residual-in_err-play_taken.result c.in_err-play_taken.field-0.0
    (halted_in (g.F.Shelf.files c.args.shelf.now) (machine_in c.args.player.now.session).program c.args.manner.echo c.args.manner.strict c.args.limit c.pieces.taken c.args.player.now c.pieces.player c.pieces.cutter
    _ _ _ _ _ _ c.pieces.invariant.at c.pieces.invariant.within c.requires.written c.requires.passed c.requires.stays c.take_piece.new.piece c.in_ok-count.count c.min-within.result _ _ c.in_ok-count.ensures.bytes.0 c.in_ok-count.ensures.bound.0 c.min-within.ensures (omega (arith, c.take_piece.auto.piece, c.pieces.invariant.size)) _ _
    (λ held told bytes more stands is.
    rw c.requires.files at (c.in_err-play_taken.ensures.plays held (still _ _ held c.pieces.invariant.files told) bytes more stands is))) (search rules)

pub returns-in_err-play_taken-clause-cut_off : goal.returns-in_err-play_taken-clause-cut_off
returns-in_err-play_taken-clause-cut_off g c is none =
    no_cut _ _ _ _ _ c.from_residual-in_err-play_taken.result c.in_err-play_taken.field-0.0 c.pieces.invariant.shelf_later c.in_err-play_taken.ensures.cause
    (search rules) is none

pub returns-then-branch-clause-played : goal.returns-then-branch-clause-played
returns-then-branch-clause-played g c =
    ended_in (g.F.Shelf.files c.args.shelf.now) (machine_in c.args.player.now.session).program c.args.manner.echo c.args.manner.strict c.args.limit c.pieces.taken c.args.player.now c.pieces.player c.pieces.cutter
    _ _ _ _ _ _ c.pieces.invariant.at c.pieces.invariant.within c.requires.written c.requires.passed c.requires.stays c.take_piece.new.piece c.in_ok-count.count c.min-within.result _ _ c.in_ok-count.ensures.bytes.0 c.in_ok-count.ensures.bound.0 c.min-within.ensures (omega (arith, c.take_piece.auto.piece, c.pieces.invariant.size))
    c.play_taken.new.player _ c.status-then-branch.result c.status-then-branch.ensures c.in_ok-play_taken.ensures.written (λ held told bytes more stands is.
    rw (c.requires.files, c.if-branch.true) at (c.in_ok-play_taken.ensures.plays held (still _ _ held c.pieces.invariant.files told) bytes more stands is))

pub returns-then-within-count-clause-played : goal.returns-then-within-count-clause-played
returns-then-within-count-clause-played g c =
    past (g.F.Shelf.files c.args.shelf.now) (machine_in c.args.player.now.session).program c.args.manner.echo c.args.manner.strict c.args.limit c.pieces.taken c.args.player.now c.pieces.player c.pieces.cutter
    _ _ _ _ _ _ c.pieces.invariant.at c.pieces.invariant.within c.requires.written c.requires.passed c.requires.stays c.take_piece.new.piece c.in_ok-count.count c.min-within.result _ _ c.in_ok-count.ensures.bytes.0 c.in_ok-count.ensures.bound.0 c.min-within.ensures (omega (arith, c.take_piece.auto.piece, c.pieces.invariant.size))
    c.play_taken.new.player _ c.in_ok-play_taken.ensures.written (λ held told bytes more stands is.
    rw (c.requires.files, c.if-branch.false) at (c.in_ok-play_taken.ensures.plays held (still _ _ held c.pieces.invariant.files told) bytes more stands is)) c.if-within-count.true

pub pieces-preserved : goal.pieces-preserved
pieces-preserved g c =
    let so_far = c.pieces.invariant in
    record {
      at = goes_on (g.F.Shelf.files c.args.shelf.now) (machine_in c.args.player.now.session).program c.args.manner.echo c.args.manner.strict c.args.limit c.pieces.taken c.args.player.now c.pieces.player c.pieces.cutter
          _ _ _ _ _ _ c.pieces.invariant.at c.pieces.invariant.within c.requires.written c.requires.passed c.requires.stays c.take_piece.new.piece c.in_ok-count.count c.min-within.result _ _ c.in_ok-count.ensures.bytes.0 c.in_ok-count.ensures.bound.0 c.min-within.ensures (omega (arith, c.take_piece.auto.piece, c.pieces.invariant.size))
          c.play_taken.new.player _ c.play_taken.new.cutter c.in_ok-play_taken.ensures.stands
          (λ held told bytes more stands is.
          rw (c.requires.files, c.if-branch.false) at (c.in_ok-play_taken.ensures.plays held (still _ _ held c.pieces.invariant.files told) bytes more stands is)) c.if-within-count.false;
      within = omega (arith, c.min-within.ensures, c.if-within-count.false, so_far.within);
      size = omega (arith, c.take_piece.auto.piece, so_far.size);
      ready = c.in_ok-play_taken.ensures.ready;
      clean = c.in_ok-play_taken.ensures.written;
      waiting = c.in_ok-play_taken.ensures.waiting c.if-branch.false;
      few = omega (arith, c.in_ok-play_taken.ensures.count, so_far.few, length-take c.min-within.result c.take_piece.new.piece, c.min-within.ensures);
      files = keeps_then _ _ _ so_far.files c.play_taken.ensures.files;
      source_later = omega (arith, so_far.source_later, c.take_piece.ensures.cause.later);
      shelf_later = omega (arith, so_far.shelf_later, c.in_ok-play_taken.ensures.cause.shelf_later);
      sink_later = omega (arith, so_far.sink_later, c.in_ok-play_taken.ensures.cause.sink_later);
    }
