-- What a command that was read is kept as. Only proofs use this word.
use Rattle.std.specs.Prelude.{◌≡◌, ℕ, List, All, length}
use Rattle.use_text.specs.Tokens.{IsWithin}
use Rattle.grammar_core.specs.Arena.{root_tree}
use Rattle.use_syntax.specs.Reading as syntax
use Rattle.use_syntax.specs.declared.parsed.Parsed.{Parsed as Kept}
use Rattle.use_session.specs.Shapes.{IsTreeOf}
use Rattle.use_session.specs.declared.reading.Reading.{Reading}
use Rattle.use_session.specs.declared.reading.Reading.TheVariants.{Parsed, Refused}

-- a text, its tokens and its tree
pub record IsParsed (text : List ℕ) (reading : syntax.Reading) (p : Kept) : Type 0 where
  pub whole : p.text ≡ text
  pub within : All (IsWithin (length p.text)) p.tokens
  pub tree : reading ≡ syntax.parsed p.tokens (root_tree p.tree)
  pub by_kinds : IsTreeOf p.tokens p.tree

abbrev pub Reads : List ℕ → syntax.Reading → Reading → Type 0
Reads text reading (Parsed p) = IsParsed text reading p
Reads text reading (Refused r) = reading ≡ syntax.refused r
