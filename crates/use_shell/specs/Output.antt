-- What the program writes, and with which status it ends.
use Rattle.std.specs.Prelude.{ℕ, zero, suc, ◌+◌, nat_lt, Bool, true, false, not, ◌&&◌, ◌||◌, if◌then◌else◌, List, [], ◌∷◌, ◌++◌, length, take, Option, Some, None, Ok, Err}
use Rattle.std.specs.Option.{option_map, option_and_then}
use Rattle.std.specs.Result.{result_err, result_ok}
use Rattle.std.specs.FinMap.{get}
use Rattle.use_io.specs.Shelves.{Files}
use Rattle.use_text.specs.declared.code.Family.TheVariants.{F}
use Rattle.use_text.specs.declared.cut.Cut.{Cut}
use Rattle.use_text.specs.declared.place.Place.{Place}
use Rattle.use_text.specs.declared.refusal.Refusal.{Refusal}
use Rattle.use_text.specs.Codes.{code_of}
use Rattle.use_text.specs.Cuts.{cuts, ended}
use Rattle.use_text.specs.Refusals.{refusal_at}
use Rattle.use_words.specs.CommandLine.{Asked, usage_line}
use Rattle.ocl_core.specs.declared.program.ProgramParts.{ProgramParts}
use Rattle.ocl_rules.specs.Typings.{Typing}
use Rattle.use_session.specs.declared.session.Turn.{Turn}
use Rattle.use_session.specs.declared.session.Turn.TheVariants.{CheckFailed, Fetch, Quiet, Quit, Refused}
use Rattle.use_session.specs.Answers.{refusal_line}
use Rattle.use_session.specs.Machine.{Machine, Step, start, step}
use Rattle.use_shell.specs.declared.status.Status.{Status}
use Rattle.use_shell.specs.declared.status.Status.TheVariants.{Done, Usage, ModelRefused, TooLong, Strict}
use Rattle.use_shell.specs.Echo.{echoed}
use Rattle.use_shell.specs.Models.{model_of_file}
use Rattle.use_shell.specs.Words.{wanted}

-- the most bytes of an input, and of a file of commands
abbrev pub max_input : ℕ
max_input = 16777216

-- the most bytes that are taken of it at once
abbrev pub max_piece : ℕ
max_piece = 4096

abbrev pub max_file : ℕ
max_file = 4194304

-- so many files may be open inside one another
abbrev pub max_files : ℕ
max_files = 8

-- what commands lead to: the machine behind them, the bytes that they write, whether one of them ended the run, whether one was refused or a
-- check failed, and the units that their evaluations spend
pub record Played : Type 0 where
  pub machine : Machine
  pub bytes : List ℕ
  pub over : Bool
  pub failed : Bool
  pub units : ℕ

abbrev pub nothing : Machine → Played
nothing m = record { machine = m; bytes = []; over = false; failed = false; units = 0 }

-- what some commands lead to, and then others
abbrev pub after : Played → Played → Played
after p q = record {
  machine = q.machine;
  bytes = p.bytes ++ q.bytes;
  over = q.over;
  failed = p.failed || q.failed;
  units = p.units + q.units;
}

-- the others are played only where the run goes on
abbrev pub followed : Played → (Machine → Played) → Played
followed p next = if p.over then p else after p (next p.machine)

-- the commands, one after another, by what each of them leads to
abbrev pub play : (Machine → Cut → Played) → Machine → List Cut → Played
play c m [] = nothing m
play c m (cut ∷ more) = followed (c m cut) (λ next. play c next more)

abbrev pub stepped : Step → Bool → Bool → Played
stepped s over failed = record { machine = s.machine; bytes = s.bytes; over = over; failed = failed; units = s.units }

-- what a step leads to, by its turn, and by what opening a file leads to
abbrev pub turned : (Machine → List ℕ → Place → Played) → Step → Turn → Played
turned opens s Quiet = stepped s false false
turned opens s (Refused code) = stepped s false true
turned opens s CheckFailed = stepped s false true
turned opens s (Fetch name place) = after (stepped s false false) (opens s.machine name place)
turned opens s Quit = stepped s true false

-- these bytes stand before those of what is played
abbrev pub behind : List ℕ → Played → Played
behind bytes p = record p { bytes = bytes ++ p.bytes }

-- what a command leads to
abbrev pub command : Bool → (Machine → List ℕ → Place → Played) → Machine → Cut → Played
command echo opens m cut = behind (echoed echo cut) (let s = step m cut in turned opens s s.turn)

-- a file that is not opened, by a rule
abbrev pub unopened : ℕ → Machine → Place → Played
unopened number m place =
    record { machine = m; bytes = refusal_line (refusal_at (code_of F number) place); over = false; failed = true; units = 0 }

-- the commands of a file are played in place
abbrev pub of_file : (Machine → Cut → Played) → Machine → Place → Option (List ℕ) → Played
of_file c m place None = unopened 1 m place
of_file c m place (Some bytes) = if nat_lt max_file (length bytes) then unopened 2 m place else play c m (cuts bytes)

-- what a command leads to, where so many files may still be opened inside one another
unfoldable pub commands_in : ℕ → Files → Bool → Machine → Cut → Played
commands_in zero files echo = command echo (λ m name place. unopened 3 m place)
commands_in (suc n) files echo = command echo (λ m name place. of_file (commands_in n files echo) m place (get files name))

-- what opening a file leads to
abbrev pub opens_in : ℕ → Files → Bool → Machine → List ℕ → Place → Played
opens_in zero files echo m name place = unopened 3 m place
opens_in (suc n) files echo m name place = of_file (commands_in n files echo) m place (get files name)

-- what a stream of commands is played with: the model's program, the files that can be opened, and what the words ask for
pub record Setting : Type 0 where
  pub program : ProgramParts
  pub files : Files
  pub echo : Bool
  pub strict : Bool

abbrev pub play_from : Setting → List Cut → Played
play_from s commands = play (commands_in max_files s.files s.echo) (start s.program) commands

-- the bytes that are written, the status, and the units that evaluations spend at most
pub record Ending : Type 0 where
  pub bytes : List ℕ
  pub status : Status
  pub units : ℕ

-- an ending without any command
abbrev pub plain : List ℕ → Status → Ending
plain bytes status = record { bytes = bytes; status = status; units = 0 }

abbrev pub ending : Played → Status → Ending
ending p status = record { bytes = p.bytes; status = status; units = p.units }

-- the status of an input that was read to its end, or to a command that ended the run
abbrev pub read_status : Bool → Bool → Status
read_status strict failed = if strict && failed then Strict else Done

abbrev pub read : Setting → Played → Ending
read s p = ending p (read_status s.strict p.failed)

-- what the commands write that end in the front of an input
abbrev pub play_within : Setting → ℕ → List ℕ → Played
play_within s limit input = play_from s (ended (take limit input))

-- an input is longer than a limit, and no command that ends within the limit ends the run
abbrev pub is_too_long : Setting → ℕ → List ℕ → Bool
is_too_long s limit input = nat_lt limit (length input) && not (play_within s limit input).over

-- of an input that is too long, the commands that end within the limit are answered
abbrev pub of_input_within : Setting → ℕ → List ℕ → Ending
of_input_within s limit input =
    if is_too_long s limit input then ending (play_within s limit input) TooLong
    else read s (play_from s (cuts input))

abbrev pub of_input : Setting → List ℕ → Ending
of_input s input = of_input_within s max_input input

abbrev pub setting : Asked → Files → ProgramParts → Setting
setting a files p = record { program = p; files = files; echo = a.echo; strict = a.strict }

-- the model that is asked for: its program, or why it is refused
abbrev pub model_in : Files → Asked → Typing ProgramParts
model_in files a = model_of_file (get files a.model)

-- why the model is refused that the words name
abbrev pub refusal_for : List (List ℕ) → Files → Option Refusal
refusal_for words files = option_and_then (λ a. result_err (model_in files a)) (wanted words)

-- what is played for words whose model is accepted
abbrev pub setting_for : List (List ℕ) → Files → Option Setting
setting_for words files = option_and_then (λ a. option_map (setting a files) (result_ok (model_in files a))) (wanted words)

abbrev pub of_model : Asked → Files → Typing ProgramParts → List ℕ → Ending
of_model a files (Err refusal) input = plain (refusal_line refusal) ModelRefused
of_model a files (Ok p) input = of_input (setting a files p) input

abbrev pub of_words : Option Asked → Files → List ℕ → Ending
of_words None files input = plain usage_line Usage
of_words (Some a) files input = of_model a files (model_in files a) input

-- the output for these words, files and input
abbrev pub output : List (List ℕ) → Files → List ℕ → Ending
output words files input = of_words (wanted words) files input

-- what the evaluations of all commands that are played spend
abbrev pub budget : List (List ℕ) → Files → List ℕ → ℕ
budget words files input = (output words files input).units
