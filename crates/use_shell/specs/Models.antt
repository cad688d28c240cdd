-- Model files.
use Rattle.std.specs.Prelude.{ℕ, nat_lt, if◌then◌else◌, List, length, Option, Some, None, Err}
use Rattle.use_text.specs.declared.code.Family.TheVariants.{F}
use Rattle.use_text.specs.Codes.{code_of}
use Rattle.use_text.specs.Places.{place_at}
use Rattle.use_text.specs.Refusals.{refusal_at}
use Rattle.ocl_core.specs.declared.program.ProgramParts.{ProgramParts}
use Rattle.ocl_rules.specs.Typings.{Typing}
use Rattle.model_check.specs.Programs.{program_of}

-- the most bytes of a model file
abbrev pub max_model : ℕ
max_model = 4194304

-- the program of a model's text, or the first rule that it breaks
unfoldable pub program_of_text : List ℕ → Typing ProgramParts
program_of_text text = program_of text

-- a refusal of the whole file
abbrev pub unread : ℕ → Typing ProgramParts
unread number = Err (refusal_at (code_of F number) (place_at 0 0))

-- the program of a model file, or why it is refused: there is none, it is too long, or its text breaks a rule
abbrev pub model_of_file : Option (List ℕ) → Typing ProgramParts
model_of_file None = unread 1
model_of_file (Some text) = if nat_lt max_model (length text) then unread 2 else program_of_text text
