-- The names that a command takes from the shell, in the order of its environment.
use Rattle.std.specs.Prelude.{ℕ, Bool, ◌||◌, if◌then◌else◌, List, [], fold, Option, Some, None, is_some}
use Rattle.std.specs.Str.Lossy.{utf8_lossy}
use Rattle.use_text.specs.declared.token.Token.{Token}
use Rattle.use_decls.specs.Names.{LexedText, bytes_of, is_name_kind}
use Rattle.soil_scope.specs.Shells.{with_name}
use Rattle.soil_check.specs.Scopes.{Known}

-- the names of a text, in its order; command words are names too
abbrev pub name_of : List ℕ → Token → Option (List ℕ)
name_of text t = if is_name_kind t.kind then Some (utf8_lossy (bytes_of text (Some t))) else None

-- those of a block of statements may all come to stand for something; elsewhere they are those that stand for something already
abbrev pub is_taken : (List ℕ → Option Known) → Bool → List ℕ → Bool
is_taken known is_block name = is_block || is_some (known name)

-- a name more, if it is one and is taken, unless it is listed
abbrev pub taken_by : (List ℕ → Option Known) → Bool → List (List ℕ) → Option (List ℕ) → List (List ℕ)
taken_by known is_block names None = names
taken_by known is_block names (Some name) = if is_taken known is_block name then with_name names name else names

-- each once, where it stands first
abbrev pub shell_names : (List ℕ → Option Known) → Bool → LexedText → List (List ℕ)
shell_names known is_block l = fold (λ names t. taken_by known is_block names (name_of l.text t)) [] l.tokens
