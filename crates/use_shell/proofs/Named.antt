-- The program of a text that was read.
use Rattle.std.proofs.Common.{◌≡◌, ℕ, List, Result, ap, sym, ◌∙◌, subst}
use Rattle.grammar_core.specs.Arena.{root_tree}
use Rattle.use_syntax.specs.Reading.{parsed, read_model}
use Rattle.use_syntax.specs.declared.parsed.Parsed.{Parsed}
use Rattle.ocl_core.specs.declared.program.ProgramParts.{ProgramParts}
use Rattle.ocl_rules.specs.Typings.{Typing}
use Rattle.model_check.specs.Programs.{program_in, program_of_reading}
use Rattle.use_shell.specs.declared.model.NoProgram.{NoProgram}
use Rattle.use_shell.specs.Models.{program_of_text}
use Rattle.use_shell.specs.ModelReadings.{Gives}

-- a text that was read has the program that its tree has
pub read_gives : (text : List ℕ) (p : Parsed) (r : Result ProgramParts NoProgram) → read_model text ≡ parsed p.tokens (root_tree p.tree) → p.text ≡ text
    → Gives (program_in p.text p.tokens (root_tree p.tree)) r → Gives (program_of_text text) r
unfolding program_of_text
read_gives text p r reading same h =
    subst (λ (g : Typing ProgramParts). Gives g r) (ap (λ l. program_in l p.tokens (root_tree p.tree)) same ∙ sym (ap (program_of_reading text) reading)) h
