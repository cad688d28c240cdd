use Rattle.std.proofs.Common.{length, ◌-◌, ◌≡◌, ◌≤◌, ◌+◌, ◌*◌, [], false, take}
use Rattle.std.specs.Option.{ForSome}
use Rattle.use_io.specs.Shelves.{KeepsFiles}
use Rattle.use_session.specs.Answering.{machine_in}
use Rattle.use_shell.specs.Output.{commands_in, play}
use Rattle.use_shell.specs.Plays.{HasPlayed, IsOnTheWay}
use Rattle.use_shell.proofs.commands.+commands.Given as goal

abbrev pub decreases-answer : goal.decreases-answer
decreases-answer g l = 6 * l.manner.files + 1

abbrev pub decreases-open_file : goal.decreases-open_file
decreases-open_file g l = 6 * l.manner.files

abbrev pub decreases-play_file : goal.decreases-play_file
decreases-play_file g l = 6 * l.manner.files + 4

abbrev pub decreases-play_last : goal.decreases-play_last
decreases-play_last g l = 6 * l.manner.files + 2

abbrev pub decreases-play_piece : goal.decreases-play_piece
decreases-play_piece g l = 6 * l.manner.files + 3

abbrev pub decreases-play_waiting : goal.decreases-play_waiting
decreases-play_waiting g l = 6 * l.manner.files + 2

abbrev pub invariant-play_file-pieces : goal.invariant-play_file-pieces
invariant-play_file-pieces g l = record {
  ready : l.player.session.over ≡ false;
  waiting : l.cutter.waiting ≡ [];
  within : l.at ≤ length l.bytes;
  few : l.cutter.count ≤ l.at;
  files : KeepsFiles (g.F.Shelf.files l.fn.shelf) (g.F.Shelf.files l.shelf);
  shelf_later : g.F.Shelf.faults l.fn.shelf ≤ g.F.Shelf.faults l.shelf;
  sink_later : g.K.Sink.faults l.fn.sink ≤ g.K.Sink.faults l.sink;
  played : ForSome (g.F.Shelf.files l.fn.shelf) (λ held. HasPlayed (commands_in l.manner.files held l.manner.echo) (machine_in l.fn.player.session) (take l.at l.bytes)
      l.fn.player l.player l.cutter (g.K.Sink.written l.fn.sink) (g.K.Sink.written l.sink) l.fn.steps l.steps);
}

abbrev pub decreases-play_file-pieces : goal.decreases-play_file-pieces
decreases-play_file-pieces g l = length l.bytes - l.at

abbrev pub invariant-play_waiting-cuts : goal.invariant-play_waiting-cuts
invariant-play_waiting-cuts g l = record {
  ready : l.player.session.over ≡ false;
  kept : l.cutter.kept ≡ l.fn.cutter.kept;
  count : l.cutter.count ≡ l.fn.cutter.count;
  files : KeepsFiles (g.F.Shelf.files l.fn.shelf) (g.F.Shelf.files l.shelf);
  shelf_later : g.F.Shelf.faults l.fn.shelf ≤ g.F.Shelf.faults l.shelf;
  sink_later : g.K.Sink.faults l.fn.sink ≤ g.K.Sink.faults l.sink;
  way : ForSome (g.F.Shelf.files l.fn.shelf) (λ held. IsOnTheWay
      (play (commands_in l.manner.files held l.manner.echo) (machine_in l.fn.player.session) l.fn.cutter.waiting)
      (play (commands_in l.manner.files held l.manner.echo) (machine_in l.player.session) l.cutter.waiting)
      l.fn.player l.player (g.K.Sink.written l.fn.sink) (g.K.Sink.written l.sink) l.fn.steps l.steps);
}

abbrev pub decreases-play_waiting-cuts : goal.decreases-play_waiting-cuts
decreases-play_waiting-cuts g l = length l.cutter.waiting
