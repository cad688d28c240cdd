-- What tokens write.
use Rattle.std.specs.Prelude.{◌≡◌, ℕ, ℤ, if◌then◌else◌, true, List, Option, None, is_some, Ok, slice_range}
use Rattle.std.specs.List.{AllByRecursion}
use Rattle.use_text.specs.declared.token.Token.{Token}
use Rattle.use_text.specs.declared.token.TokenKind.TheVariants as k
use Rattle.use_text.specs.Kinds.{number_of}
use Rattle.use_text.specs.Pieces.{number_of_digits}
use Rattle.use_text.specs.Tokens.{tokens}
use Rattle.grammar_core.specs.Trees.{ParseTree}
use Rattle.use_nodes.specs.Nodes.{and_then, is_token, token_in}

-- the number that a token writes
abbrev pub number_written : List ℕ → Token → Option ℤ
number_written text t = number_of_digits (slice_range text t.start t.end)

-- a token that is an Integer's writes a number
abbrev pub WritesNumber : List ℕ → Token → Type 0
WritesNumber text t = t.kind ≡ number_of k.Int → is_some (number_written text t) ≡ true

-- whatever text has these tokens
abbrev pub IntegersAreNumbers : Type 0
IntegersAreNumbers = (first_line : ℕ) (text : List ℕ) (ts : List Token) → tokens first_line text ≡ Ok ts → AllByRecursion (WritesNumber text) ts

-- the number that a node writes, where it is a token that does
abbrev pub number_in : List ℕ → List Token → ParseTree → Option ℤ
number_in text ts t = if is_token k.Int t then and_then (token_in ts t) (number_written text) else None
