-- The kinds of token that a form may begin with.
use Rattle.std.specs.Prelude.{List, [], ◌∷◌}
use Rattle.use_text.specs.declared.token.TokenKind.{TokenKind}
use Rattle.use_text.specs.declared.token.TokenKind.TheVariants.{Bag, Check, Create, Declare, Delete, Destroy, Exit, False, For, Hash, If, Info, Insert}
use Rattle.use_text.specs.declared.token.TokenKind.TheVariants.{Int, Invalid, LeftParen, Let, Minus, Name, New, Not, Null, Open, Openter, Opexit}
use Rattle.use_text.specs.declared.token.TokenKind.TheVariants.{OrderedSet, Quit, Redo, Reset, Sequence, Set, SetWord, Str, True, Undefined, Undo, View}
use Rattle.use_text.specs.declared.token.TokenKind.TheVariants.{While}

-- a name: command words are names wherever they begin no command
abbrev pub names : List TokenKind
names = Name ∷ Check ∷ Create ∷ Exit ∷ Info ∷ Open ∷ Opexit ∷ Openter ∷ Quit ∷ Redo ∷ Reset ∷ SetWord ∷ Undo ∷ View ∷ []

-- the kinds of collection
abbrev pub kinds : List TokenKind
kinds = Set ∷ OrderedSet ∷ Bag ∷ Sequence ∷ []

-- what an expression begins with
abbrev pub expressions : List TokenKind
expressions = Int ∷ Str ∷ True ∷ False ∷ Null ∷ Undefined ∷ Invalid ∷ Hash ∷ Set ∷ OrderedSet ∷ Bag ∷ Sequence ∷ Name ∷ Check ∷ Create ∷ Exit ∷ Info ∷ Open
    ∷ Opexit ∷ Openter ∷ Quit ∷ Redo ∷ Reset ∷ SetWord ∷ Undo ∷ View ∷ LeftParen ∷ If ∷ Not ∷ Minus ∷ Let ∷ []

-- what a statement begins with
abbrev pub statements : List TokenKind
statements = New ∷ Destroy ∷ Insert ∷ Delete ∷ Declare ∷ For ∷ While ∷ Int ∷ Str ∷ True ∷ False ∷ Null ∷ Undefined ∷ Invalid ∷ Hash ∷ Set ∷ OrderedSet
    ∷ Bag ∷ Sequence ∷ Name ∷ Check ∷ Create ∷ Exit ∷ Info ∷ Open ∷ Opexit ∷ Openter ∷ Quit ∷ Redo ∷ Reset ∷ SetWord ∷ Undo ∷ View ∷ LeftParen ∷ If ∷ Not
    ∷ Minus ∷ Let ∷ []
