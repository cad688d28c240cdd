-- What playing a part of an input did. Only proofs use these words.
use Rattle.std.specs.Prelude.{ℕ, ◌≡◌, ◌<◌, ◌≤◌, ◌+◌, ◌⊎◌, ◌||◌, List, ◌++◌, length, Option, Some, Result, Ok, Err, Bool, true, false}
use Rattle.std.specs.Option.{ForSome}
use Rattle.std.specs.Io.KnownBytes.{Appends, Consumes, IsAtEnd}
use Rattle.use_io.specs.Shelves.{Files}
use Rattle.use_text.specs.declared.cut.Cut.{Cut}
use Rattle.use_text.specs.Cuts.{cuts, ended}
use Rattle.use_text.specs.Keeping.{Cutting, StandsFor}
use Rattle.ocl_core.specs.declared.program.ProgramParts.{ProgramParts}
use Rattle.use_session.specs.Answering.{machine_in}
use Rattle.use_session.specs.Machine.{Machine}
use Rattle.use_shell.specs.declared.player.Player.{Player}
use Rattle.use_shell.specs.declared.status.Status.{Status}
use Rattle.use_shell.specs.declared.status.Status.TheVariants.{TooLong}
use Rattle.use_shell.specs.declared.stop.Stop.{Stop}
use Rattle.use_shell.specs.declared.stop.Stop.TheVariants.{Memory}
use Rattle.use_shell.specs.Output.{Ending, Played, Setting, after, max_piece, of_input_within, play, play_from, play_within, read_status}
use Rattle.use_shell.specs.Endings.{AppendsFront}

-- bytes were answered: of those that waited and these, some were written, and the others wait
pub record Puts (old new : Option (List ℕ)) (before after bytes : List ℕ) : Type 0 where
  pub put : List ℕ
  pub written : Appends old new put
  pub whole : before ++ bytes ≡ put ++ after

-- a player has come to what commands lead to
pub record HasCome (p : Played) (was now : Player) (old new : Option (List ℕ)) (steps steps' : ℕ) : Type 0 where
  pub machine : (machine_in now.session) ≡ p.machine
  pub failed : now.failed ≡ (was.failed || p.failed)
  pub puts : Puts old new was.waiting.items now.waiting.items p.bytes
  pub units : steps' ≡ steps + p.units

-- it was stopped on the way: a front was written of what waited and of what the commands write
pub record IsStopped (p : Played) (waiting : List ℕ) (old new : Option (List ℕ)) (steps steps' : ℕ) (stop : Stop) : Type 0 where
  pub front : AppendsFront old new (waiting ++ p.bytes)
  pub units : (stop ≡ Memory) ⊎ (steps' ≤ steps + p.units)

-- it has come to the end and tells whether the run is over, or it was stopped
abbrev pub Plays : Played → Player → Player → Option (List ℕ) → Option (List ℕ) → ℕ → ℕ → Result Bool Stop → Type 0
Plays p was now old new steps steps' (Ok over) = HasCome p was now old new steps steps' × (over ≡ p.over)
Plays p was now old new steps steps' (Err stop) = IsStopped p was.waiting.items old new steps steps' stop

-- the same at the end of an input
abbrev pub PlaysAndEnds : Played → Player → Player → Option (List ℕ) → Option (List ℕ) → ℕ → ℕ → Result (Unit {0}) Stop → Type 0
PlaysAndEnds p was now old new steps steps' (Ok x) = HasCome p was now old new steps steps'
PlaysAndEnds p was now old new steps steps' (Err stop) = IsStopped p was.waiting.items old new steps steps' stop

-- it has come so far that this is left
pub record IsOnTheWay (all rest : Played) (was now : Player) (old new : Option (List ℕ)) (steps steps' : ℕ) : Type 0 where
  pub done : Played
  pub whole : all ≡ after done rest
  pub come : HasCome done was now old new steps steps'

-- the commands that end in these bytes were played, and none has ended the run
pub record HasPlayed (c : Machine → Cut → Played) (m : Machine) (bytes : List ℕ) (was now : Player) (cutter : Cutting) (old new : Option (List ℕ))
    (steps steps' : ℕ) : Type 0 where
  pub stands : StandsFor cutter bytes
  pub goes_on : (play c m (ended bytes)).over ≡ false
  pub come : HasCome (play c m (ended bytes)) was now old new steps steps'

-- what a source is played with
abbrev pub given : ProgramParts → Bool → Bool → Files → Setting
given p echo strict files = record { program = p; files = files; echo = echo; strict = strict }

-- these commands were played from the start and their answers were written, and their units were counted
pub record Wrote (p : Played) (failed : Bool) (old new : Option (List ℕ)) (steps steps' : ℕ) : Type 0 where
  pub same : failed ≡ p.failed
  pub written : Appends old new p.bytes
  pub units : steps' ≡ steps + p.units

-- a source was played to its end. `s` is what it was played with, by the files of the shelf, where they are told
pub record IsWhole (files : Option Files) (s : Files → Setting) (limit : ℕ) (failed : Bool) (left now old new : Option (List ℕ)) (steps steps' : ℕ) : Type 0 where
  pub taken : List ℕ
  pub from : Consumes left now taken
  pub end : IsAtEnd now
  pub within : length taken ≤ limit
  pub goes_on : ForSome files (λ held. (play_from (s held) (ended taken)).over ≡ false)
  pub wrote : ForSome files (λ held. Wrote (play_from (s held) (cuts taken)) failed old new steps steps')

-- the commands that end in a front of the last piece have ended the run
pub record IsOver (s : Setting) (failed : Bool) (before front : List ℕ) (old new : Option (List ℕ)) (steps steps' : ℕ) : Type 0 where
  pub goes_on : (play_from s (ended before)).over ≡ false
  pub over : (play_from s (ended (before ++ front))).over ≡ true
  pub wrote : Wrote (play_from s (ended (before ++ front))) failed old new steps steps'

-- a command of a source ended the run: one that ends in the piece that was taken last, of which so much was within the limit
pub record IsEnded (files : Option Files) (s : Files → Setting) (limit : ℕ) (failed : Bool) (left now old new : Option (List ℕ)) (steps steps' : ℕ) : Type 0 where
  pub before : List ℕ
  pub front : List ℕ
  pub rest : List ℕ
  pub taken : Consumes left now (before ++ (front ++ rest))
  pub within : length (before ++ front) ≤ limit
  pub short : length (front ++ rest) ≤ max_piece
  pub over : ForSome files (λ held. IsOver (s held) failed before front old new steps steps')

-- the commands that end within the limit have not ended the run
pub record GoesPast (s : Setting) (limit : ℕ) (taken : List ℕ) (old new : Option (List ℕ)) (steps steps' : ℕ) : Type 0 where
  pub goes_on : (play_within s limit taken).over ≡ false
  pub written : Appends old new (play_within s limit taken).bytes
  pub units : steps' ≡ steps + (play_within s limit taken).units

-- more bytes were taken of a source than an input may have
pub record IsPast (files : Option Files) (s : Files → Setting) (limit : ℕ) (left now old new : Option (List ℕ)) (steps steps' : ℕ) : Type 0 where
  pub taken : List ℕ
  pub from : Consumes left now taken
  pub past : limit < length taken
  pub short : length taken ≤ limit + max_piece
  pub goes : ForSome files (λ held. GoesPast (s held) limit taken old new steps steps')

-- a source was played as far as it could be read
pub record AnswersEnded (s : Setting) (taken : List ℕ) (old new : Option (List ℕ)) (steps steps' : ℕ) : Type 0 where
  pub goes_on : (play_from s (ended taken)).over ≡ false
  pub written : Appends old new (play_from s (ended taken)).bytes
  pub units : steps' ≡ steps + (play_from s (ended taken)).units

pub record IsCutOff (files : Option Files) (s : Files → Setting) (limit : ℕ) (left now old new : Option (List ℕ)) (steps steps' : ℕ) : Type 0 where
  pub taken : List ℕ
  pub from : Consumes left now taken
  pub within : length taken ≤ limit
  pub answered : ForSome files (λ held. AnswersEnded (s held) taken old new steps steps')

-- a source was played, and a front of its answers was written; without want of memory no more units were counted than all commands spend
pub record IsFrontOf (e : Ending) (old new : Option (List ℕ)) (steps steps' : ℕ) (stop : Stop) : Type 0 where
  pub front : AppendsFront old new e.bytes
  pub units : (stop ≡ Memory) ⊎ (steps' ≤ steps + e.units)

pub record IsHalted (files : Option Files) (s : Files → Setting) (limit : ℕ) (left now old new : Option (List ℕ)) (steps steps' : ℕ) (stop : Stop) : Type 0 where
  pub taken : List ℕ
  pub from : Consumes left now taken
  pub short : length taken ≤ limit + max_piece
  pub front : ForSome files (λ held. (rest : List ℕ) → now ≡ Some rest → IsFrontOf (of_input_within (s held) limit (taken ++ rest)) old new steps steps' stop)

-- so many bytes were taken, and what ends in them was played
pub record IsStreaming (files : Option Files) (c : Files → Machine → Cut → Played) (m : Machine) (count : ℕ) (was player : Player) (cutter : Cutting)
    (left now old new : Option (List ℕ)) (steps steps' : ℕ) : Type 0 where
  pub taken : List ℕ
  pub from : Consumes left now taken
  pub counted : count ≡ length taken
  pub played : ForSome files (λ held. HasPlayed (c held) m taken was player cutter old new steps steps')

-- how a source was played to its end, or to a command that ended the run
abbrev pub IsRead : Option Files → (Files → Setting) → Bool → ℕ → Option (List ℕ) → Option (List ℕ) → Option (List ℕ) → Option (List ℕ) → ℕ → ℕ → Status → Type 0
IsRead files s strict limit left now old new steps steps' status = (failed : Bool) × (status ≡ read_status strict failed)
    × (IsWhole files s limit failed left now old new steps steps' ⊎ IsEnded files s limit failed left now old new steps steps')

-- how a source was played
abbrev pub Streams : Option Files → (Files → Setting) → Bool → ℕ → Option (List ℕ) → Option (List ℕ) → Option (List ℕ) → Option (List ℕ) → ℕ → ℕ
    → Result Status Stop → Type 0
Streams files s strict limit left now old new steps steps' (Ok status) = IsRead files s strict limit left now old new steps steps' status
    ⊎ ((status ≡ TooLong) × IsPast files s limit left now old new steps steps')
Streams files s strict limit left now old new steps steps' (Err stop) = IsHalted files s limit left now old new steps steps' stop
