-- Tokens as texts, names and numbers.
use Rattle.std.specs.Prelude.{ℕ, ℤ, Bool, false, not, ◌==◌, nat_le, if◌then◌else◌, List, [], ◌∷◌, length, Option, Some, None, Ok, Err, slice_range}
use Rattle.std.specs.Char.{to_ascii_lowercase}
use Rattle.std.specs.List.{list_any}
use Rattle.std.specs.Str.Lossy.{utf8_lossy}
use Rattle.use_text.specs.declared.token.Token.{Token}
use Rattle.use_text.specs.Kinds.{number_of}
use Rattle.use_text.specs.Tokens.{Tokens, tokens}
use Rattle.grammar_core.specs.Trees.{ParseTree}
use Rattle.use_syntax.specs.Firsts.{names}
use Rattle.use_syntax.specs.Reading.{place_or}
use Rattle.use_nodes.specs.Nodes.{token_in}
use Rattle.use_nodes.specs.Written.{number_in}
use Rattle.class_decls.specs.declared.decls.Name.{Name}

-- tokens, and the text in which they stand
pub record LexedText : Type 0 where
  pub text : List ℕ
  pub tokens : List Token

-- the bytes of a token
abbrev pub bytes_of : List ℕ → Option Token → List ℕ
bytes_of text None = []
bytes_of text (Some t) = slice_range text t.start t.end

abbrev pub bytes_at : LexedText → ParseTree → List ℕ
bytes_at l t = bytes_of l.text (token_in l.tokens t)

-- the same as a text; tokens of a text in UTF-8 are in UTF-8
abbrev pub text_at : LexedText → ParseTree → List ℕ
text_at l t = utf8_lossy (bytes_at l t)

-- a name that is written
abbrev pub name_at : LexedText → ParseTree → Name
name_at l t = record { text = text_at l t; place = place_or (token_in l.tokens t) }

-- the number that a token writes, if it writes one
abbrev pub number_at : LexedText → ParseTree → Option ℤ
number_at l t = number_in l.text l.tokens t

-- the first letter in ASCII lower case
abbrev pub lowered : List ℕ → List ℕ
lowered [] = []
lowered (b ∷ rest) = to_ascii_lowercase b ∷ rest

-- a kind of token that the grammar takes as a name
abbrev pub is_name_kind : ℕ → Bool
is_name_kind kind = list_any (λ name. number_of name == kind) names

-- the first of the tokens is no name
abbrev pub begins_with_no_name : Tokens → Bool
begins_with_no_name (Ok (t ∷ ts)) = not (is_name_kind t.kind)
begins_with_no_name (Ok []) = false
begins_with_no_name (Err r) = false

-- a word, which has at most 64 bytes, that is read as another token than a name
abbrev pub is_reserved : List ℕ → Bool
is_reserved word = if nat_le (length word) 64 then begins_with_no_name (tokens 1 word) else false

-- the role of a class that writes none: its name with the first letter in lower case, or its name where that would be a reserved word
abbrev pub role_of_class : List ℕ → List ℕ
role_of_class name = if is_reserved (lowered name) then name else lowered name

-- a role that is not written stands at the class
abbrev pub role_at : LexedText → ParseTree → Option ParseTree → Name
role_at l class None = record { text = utf8_lossy (role_of_class (bytes_at l class)); place = (name_at l class).place }
role_at l class (Some role) = name_at l role
