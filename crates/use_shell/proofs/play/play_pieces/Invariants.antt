use Rattle.std.proofs.Common.{◌≡◌, ◌≤◌, ◌-◌, [], false, length}
use Rattle.use_io.specs.Shelves.{KeepsFiles}
use Rattle.use_session.specs.Answering.{machine_in}
use Rattle.use_session.specs.Machine.{start}
use Rattle.use_shell.specs.Output.{commands_in, max_files, max_piece}
use Rattle.use_shell.specs.Plays.{IsStreaming}
use Rattle.use_shell.proofs.play.play_pieces.Given as goal

abbrev pub invariant-pieces : goal.invariant-pieces
invariant-pieces g l = record {
  at : IsStreaming (g.F.Shelf.files l.fn.shelf) (λ held. commands_in max_files held l.manner.echo) (start (machine_in l.fn.player.session).program) l.taken l.fn.player
      l.player l.cutter (g.S.Source.left l.fn.source) (g.S.Source.left l.source) (g.K.Sink.written l.fn.sink) (g.K.Sink.written l.sink) l.fn.steps l.steps;
  within : l.taken ≤ l.limit;
  size : length l.piece ≤ max_piece;
  ready : l.player.session.over ≡ false;
  clean : l.player.waiting.items ≡ [];
  waiting : l.cutter.waiting ≡ [];
  few : l.cutter.count ≤ l.taken;
  files : KeepsFiles (g.F.Shelf.files l.fn.shelf) (g.F.Shelf.files l.shelf);
  source_later : g.S.Source.faults l.fn.source ≤ g.S.Source.faults l.source;
  shelf_later : g.F.Shelf.faults l.fn.shelf ≤ g.F.Shelf.faults l.shelf;
  sink_later : g.K.Sink.faults l.fn.sink ≤ g.K.Sink.faults l.sink;
}

abbrev pub decreases-pieces : goal.decreases-pieces
decreases-pieces g l = l.limit - l.taken
