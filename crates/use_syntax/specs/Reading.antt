-- What a text is read as: a tree of its tokens, or a refusal.
use Rattle.std.specs.Prelude.{◌≡◌, ◌<◌, ⊤, ℕ, List, [], ◌∷◌, length, Option, Some, None, Result, Ok, Err, slice_get}
use Rattle.use_text.specs.declared.code.Family.TheVariants.{S}
use Rattle.use_text.specs.declared.place.Place.{Place}
use Rattle.use_text.specs.declared.refusal.Refusal.{Refusal}
use Rattle.use_text.specs.declared.token.Token.{Token}
use Rattle.use_text.specs.Codes.{code_of}
use Rattle.use_text.specs.Places.{place_at}
use Rattle.use_text.specs.Refusals.{refusal_at}
use Rattle.use_text.specs.Tokens.{Tokens, tokens}
use Rattle.grammar_core.specs.Arena.{root_tree}
use Rattle.grammar_core.specs.Derives.{Verdict, derived, stuck, deep, kinds, Holds}
use Rattle.grammar_core.specs.Parses.{verdict}
use Rattle.grammar_core.specs.Trees.{ParseTree}
use Rattle.use_syntax.specs.declared.fault.SyntaxFault.{SyntaxFault}
use Rattle.use_syntax.specs.declared.fault.SyntaxFault.TheVariants.{Memory, Refused}
use Rattle.use_syntax.specs.declared.parsed.Parsed.{Parsed}
use Rattle.use_syntax.specs.declared.parsed.TokenTree.{TokenTree}
use Rattle.use_syntax.specs.declared.rule.Rule.{Rule}
use Rattle.use_syntax.specs.declared.rule.Rule.TheVariants as r
use Rattle.use_syntax.specs.Language.{language}
use Rattle.use_syntax.specs.Numbers.{number_of_rule}

-- the most bytes of a text, and the last line that it may begin in, so that its places can be told
abbrev pub max_text : ℕ
max_text = 4194304

abbrev pub max_line : ℕ
max_line = 4000000000

-- the tokens and their tree, or the refusal
pub data Reading : Type 0 where
  parsed : List Token → ParseTree → Reading
  refused : Refusal → Reading

abbrev pub place_or : Option Token → Place
place_or None = place_at 0 0
place_or (Some t) = t.place

-- the place of a token, by its number in the list
abbrev pub place_in : List Token → ℕ → Place
place_in ts at = place_or (slice_get ts at)

-- the place of the first token; a text without tokens begins at the front of its first line
abbrev pub place_of_first : ℕ → List Token → Place
place_of_first line [] = place_at line 1
place_of_first line (t ∷ ts) = t.place

-- S1 where the tokens are stuck, S2 where they are too deep
abbrev pub judged : List Token → Verdict → Reading
judged ts (derived tree) = parsed ts tree
judged ts (stuck at) = refused (refusal_at (code_of S 1) (place_in ts at))
judged ts (deep at) = refused (refusal_at (code_of S 2) (place_in ts at))

-- tokens as a rule
unfoldable pub read_tokens : ℕ → List Token → Reading
read_tokens start ts = judged ts (verdict language (kinds ts) start)

abbrev pub read_lexed : ℕ → Tokens → Reading
read_lexed start (Ok ts) = read_tokens start ts
read_lexed start (Err r) = refused r

-- a text as a rule, its first line having this number
abbrev pub read : ℕ → ℕ → List ℕ → Reading
read start first_line text = read_lexed start (tokens first_line text)

-- the text of a model
abbrev pub read_model : List ℕ → Reading
read_model text = read (number_of_rule r.File) 1 text

-- the text of a command, whose first line has this number
abbrev pub read_command : ℕ → List ℕ → Reading
read_command first_line text = read (number_of_rule r.Command) first_line text

-- the answer of a reader: the tree, or the refusal; want of memory may always come
abbrev pub Reads : Reading → List ℕ → Result Parsed SyntaxFault → Type 0
Reads given text (Ok p) = (given ≡ parsed p.tokens (root_tree p.tree)) × (p.text ≡ text)
Reads given text (Err Memory) = ⊤
Reads given text (Err (Refused r)) = given ≡ refused r

-- the answer of a lexer: the tokens, or their refusal
abbrev pub ReadsTokens : Tokens → Result (List Token) SyntaxFault → Type 0
ReadsTokens given (Ok ts) = given ≡ Ok ts
ReadsTokens given (Err Memory) = ⊤
ReadsTokens given (Err (Refused r)) = given ≡ Err r

-- the answer of a reader without the text
abbrev pub ReadsTree : Reading → Result TokenTree SyntaxFault → Type 0
ReadsTree given (Ok p) = given ≡ parsed p.tokens (root_tree p.tree)
ReadsTree given (Err Memory) = ⊤
ReadsTree given (Err (Refused r)) = given ≡ refused r

-- a refusal by the grammar stands at one of the tokens, so that its place is that token's
abbrev pub StandsAtToken : List Token → Verdict → Type 0
StandsAtToken ts (derived tree) = ⊤
StandsAtToken ts (stuck at) = at < length ts
StandsAtToken ts (deep at) = at < length ts

-- whatever text is read as this rule
abbrev pub RefusalsStandAtTokens : Rule → Type 0
RefusalsStandAtTokens start = (first_line : ℕ) (text : List ℕ) (ts : List Token) → tokens first_line text ≡ Ok ts
    → StandsAtToken ts (verdict language (kinds ts) (number_of_rule start))

-- what tokens are read as is what the relation of derivations says of them, and it says one thing of them
pub record SaysOf (start : Rule) (ts : List Token) (given : Reading) : Type 0 where
  pub verdict : Verdict
  pub holds : Holds language (kinds ts) (number_of_rule start) verdict
  pub only : (v : Verdict) → Holds language (kinds ts) (number_of_rule start) v → verdict ≡ v
  pub is : given ≡ judged ts verdict

-- whatever text is read as this rule
abbrev pub IsReadAsHeld : Rule → Type 0
IsReadAsHeld start = (first_line : ℕ) (text : List ℕ) (ts : List Token) → tokens first_line text ≡ Ok ts
    → SaysOf start ts (read (number_of_rule start) first_line text)
