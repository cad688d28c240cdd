-- What single tokens of an expression say: its places, its literals and its operators.
use Rattle.std.specs.Prelude.{true, false, if◌then◌else◌, Option, Some, None}
use Rattle.std.specs.Option.{option_map}
use Rattle.std.specs.Str.Lossy.{utf8_lossy}
use Rattle.use_text.specs.declared.place.Place.{Place}
use Rattle.use_text.specs.declared.token.TokenKind.{TokenKind}
use Rattle.use_text.specs.declared.token.TokenKind.TheVariants as k
use Rattle.use_text.specs.Pieces.{string_of_quoted}
use Rattle.grammar_core.specs.Trees.{ParseTree}
use Rattle.use_syntax.specs.Reading.{place_or}
use Rattle.use_nodes.specs.declared.parts.Select.TheVariants as s
use Rattle.use_nodes.specs.Nodes.{and_then, is_token, part, token_in}
use Rattle.use_decls.specs.Names.{LexedText, bytes_at, number_at}
use Rattle.ocl_syntax.specs.declared.tree.WrittenLiteral.{WrittenLiteral}
use Rattle.ocl_syntax.specs.declared.tree.WrittenLiteral.TheVariants as w
use Rattle.ocl_syntax.specs.declared.tree.WrittenUnary.{WrittenUnary}
use Rattle.ocl_syntax.specs.declared.tree.WrittenUnary.TheVariants.{Not, Neg}
use Rattle.ocl_syntax.specs.declared.tree.WrittenBinary.{WrittenBinary}
use Rattle.ocl_syntax.specs.declared.tree.WrittenBinary.TheVariants as b

-- the place of a token
abbrev pub place_at : LexedText → ParseTree → Place
place_at l t = place_or (token_in l.tokens t)

-- the place of the first token of a kind right below a node
abbrev pub place_of_mark : LexedText → TokenKind → ParseTree → Place
place_of_mark l kind t = place_or (and_then (part (s.Token kind) t) (token_in l.tokens))

-- the literal that a word is
abbrev pub word_literal : ParseTree → Option WrittenLiteral
word_literal t =
    if is_token k.True t then Some (w.Bool true)
    else (if is_token k.False t then Some (w.Bool false)
    else (if is_token k.Null t then Some w.Null
    else (if is_token k.Undefined t then Some w.Null
    else (if is_token k.Invalid t then Some w.Invalid else None))))

-- the String that a token between quotes stands for
abbrev pub string_at : LexedText → ParseTree → WrittenLiteral
string_at l t = w.Str (utf8_lossy (string_of_quoted (bytes_at l t)))

-- the literal that a token is
abbrev pub literal_at : LexedText → ParseTree → Option WrittenLiteral
literal_at l t =
    if is_token k.Int t then option_map w.Int (number_at l t)
    else (if is_token k.Str t then Some (string_at l t) else word_literal t)

-- the operator before an operand
abbrev pub unary_operator : ParseTree → WrittenUnary
unary_operator t = if is_token k.Not t then Not else Neg

-- the operator between operands
abbrev pub arithmetic_operator : ParseTree → WrittenBinary
arithmetic_operator t =
    if is_token k.Plus t then b.Add
    else (if is_token k.Minus t then b.Sub
    else (if is_token k.Star t then b.Mul
    else (if is_token k.Div t then b.Div else b.Mod)))

abbrev pub comparison_or_arithmetic : ParseTree → WrittenBinary
comparison_or_arithmetic t =
    if is_token k.Equal t then b.Eq
    else (if is_token k.NotEqual t then b.Ne
    else (if is_token k.Less t then b.Lt
    else (if is_token k.LessEqual t then b.Le
    else (if is_token k.Greater t then b.Gt
    else (if is_token k.GreaterEqual t then b.Ge else arithmetic_operator t)))))

abbrev pub binary_operator : ParseTree → WrittenBinary
binary_operator t =
    if is_token k.And t then b.And
    else (if is_token k.Or t then b.Or
    else (if is_token k.Xor t then b.Xor
    else (if is_token k.Implies t then b.Implies else comparison_or_arithmetic t)))
