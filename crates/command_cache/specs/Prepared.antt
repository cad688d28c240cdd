-- Checked commands that are kept, and what tells them again.
use Rattle.std.specs.Prelude.{◌≡◌, ℕ, List, All, IfSome, Option, Some, None, Ok, map}
use Rattle.use_text.specs.declared.token.Token.{Token}
use Rattle.use_syntax.specs.Reading.{Reading, parsed, refused, read_command}
use Rattle.ocl_core.specs.declared.program.ProgramParts.{ProgramParts}
use Rattle.ocl_rules.specs.Typings.{Typing}
use Rattle.soil_check.specs.declared.checked.Checked.{Checked}
use Rattle.soil_check.specs.declared.scope.Bindings.{Bindings}
use Rattle.soil_check.specs.Checks.{IsCommandOf, TakesNames}
use Rattle.soil_check.specs.Commands.{command_in}
use Rattle.soil_check.specs.Scopes.{Known}
use Rattle.command_cache.specs.declared.commands.Prepared.{Prepared}
use Rattle.command_cache.specs.declared.meanings.Named.{Named}
use Rattle.command_cache.specs.declared.noted.Noted.{Noted}
use Rattle.command_cache.specs.Meanings.{IsMeant, names_in}

-- what was noted of a command of a text with tokens, whose names stood for this, and for which an open operation bound this
pub record Notes (known : List ℕ → Option Known) (frame : Option Bindings) (whole : List ℕ) (ts : List Token) (n : Noted) : Type 0 where
  pub text : n.text ≡ whole
  pub tokens : n.tokens ≡ ts
  pub names : map (λ (x : Named). x.name) n.names ≡ names_in whole ts
  pub meant : All (IsMeant known) n.names
  pub bound : n.bound ≡ frame

module _ (p : ProgramParts) where
  -- the tokens of a text that was read, and what it is checked as among these names
  abbrev pub checked_as : (List ℕ → Option Known) → Option Bindings → List ℕ → Reading → Option (List Token × Typing Checked)
  checked_as known bound text (parsed ts t) = Some (ts, command_in p known bound text ts t)
  checked_as known bound text (refused r) = None

  -- a text is this command among these names
  pub record Is (known : List ℕ → Option Known) (bound : Option Bindings) (text : List ℕ) (x : Prepared) : Type 0 where
    pub checked : checked_as known bound text (read_command 0 text) ≡ Some (x.noted.tokens, Ok x.command)
    pub of_model : IsCommandOf p.model x.command
    pub names : TakesNames x.command

  -- what is kept is so wherever its names stand for what they stood for
  abbrev pub IsPrepared : Prepared → Type 0
  IsPrepared x = (known : List ℕ → Option Known) (bound : Option Bindings) → All (IsMeant known) x.noted.names → bound ≡ x.noted.bound
      → Is known bound x.noted.text x

  abbrev pub AreKept : List (Option Prepared) → Type 0
  AreKept xs = All (λ x. IfSome x IsPrepared) xs
