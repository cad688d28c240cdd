-- The program of a model, or the first rule that its text breaks.
use Rattle.std.specs.Prelude.{◌≡◌, ⊤, ◌^◌, nat_lt, if◌then◌else◌, length, [], List, ℕ, map, Option, Some, None, Result, Ok, Err}
use Rattle.use_text.specs.declared.code.Family.TheVariants.{M}
use Rattle.use_text.specs.Codes.{code_of}
use Rattle.use_text.specs.Refusals.{refusal_at}
use Rattle.use_text.specs.declared.refusal.Refusal.{Refusal}
use Rattle.use_text.specs.declared.token.Token.{Token}
use Rattle.grammar_core.specs.Trees.{ParseTree}
use Rattle.use_syntax.specs.Reading.{parsed, refused, read_model}
use Rattle.use_syntax.specs.Reading as syntax
use Rattle.class_decls.specs.declared.decls.Decls.{Decls}
use Rattle.class_rules.specs.WellFormed.{broken_rule}
use Rattle.class_model.specs.declared.object_model.ObjectModel.{ObjectModel}
use Rattle.class_builder.specs.Models.{model_of}
use Rattle.use_decls.specs.Declarations.{decls_of}
use Rattle.use_decls.specs.Names.{LexedText}
use Rattle.ocl_core.specs.declared.program.ProgramParts.{ProgramParts}
use Rattle.ocl_rules.specs.Typings.{Typing}
use Rattle.ocl_shapes.specs.Combining.{◌>>=◌, pure}
use Rattle.model_check.specs.declared.checked.Checked.{Checked}
use Rattle.model_check.specs.declared.fault.ModelFault.{ModelFault}
use Rattle.model_check.specs.declared.fault.ModelFault.TheVariants.{Memory, Refused}
use Rattle.model_check.specs.Walk.{Reading, file}

abbrev pub parts_of : ObjectModel → Checked → ProgramParts
parts_of m found =
    record { model = m; invariants = found.invariants; contracts = found.contracts; bodies = found.bodies; derived = found.derived }

-- a model's text, with the model that it declares and the names of its conditions
abbrev pub reading_by : ObjectModel → LexedText → List (List ℕ) → Reading
reading_by m l names = record { scene = record { model = m; lexed = l; shell = [] }; names = names }

-- its bodies, invariants and contracts, checked
abbrev pub checked_by : ObjectModel → LexedText → List (List ℕ) → ParseTree → Typing ProgramParts
checked_by m l names t = do
  found ← file (reading_by m l names) t
  pure (parts_of m found)

abbrev pub checked : LexedText → Decls → ParseTree → Typing ProgramParts
checked l ds t = checked_by (model_of ds) l (map (λ c. c.name.text) ds.conds) t

-- the numbers of contracts fit into 32 bits; no text that is read declares so many
abbrev pub checked_if_few : LexedText → Decls → ParseTree → Typing ProgramParts
checked_if_few l ds t = if nat_lt (length ds.conds) (2 ^ 32) then checked l ds t else Err (refusal_at (code_of M 17) ds.name.place)

-- the rules of declarations come first, then those of names and types in the order of the text
abbrev pub checked_unless : Option Refusal → LexedText → Decls → ParseTree → Typing ProgramParts
checked_unless (Some r) l ds t = Err r
checked_unless None l ds t = checked_if_few l ds t

abbrev pub program_by : LexedText → Decls → ParseTree → Typing ProgramParts
program_by l ds t = checked_unless (broken_rule ds) l ds t

-- the program of a text that was read as a tree of these tokens
abbrev pub program_in : List ℕ → List Token → ParseTree → Typing ProgramParts
program_in text ts t = program_by (record { text = text; tokens = ts }) (decls_of text ts t) t

abbrev pub program_of_reading : List ℕ → syntax.Reading → Typing ProgramParts
program_of_reading text (parsed ts t) = program_in text ts t
program_of_reading text (refused r) = Err r

-- the program of a text: the rules of tokens and of the grammar come first
abbrev pub program_of : List ℕ → Typing ProgramParts
program_of text = program_of_reading text (read_model text)

-- what checking a model answers
abbrev pub Checks : Typing ProgramParts → Result ProgramParts ModelFault → Type 0
Checks given (Ok p) = given ≡ Ok p
Checks given (Err Memory) = ⊤
Checks given (Err (Refused r)) = given ≡ Err r
