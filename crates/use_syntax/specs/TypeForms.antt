-- The productions of names and types: each rule, and the productions of its parts before it.
use Rattle.std.specs.Prelude.{List, [], ◌∷◌}
use Rattle.use_text.specs.declared.token.TokenKind.TheVariants.{Bag, Check, Colon, Comma, Create, Exit, Info, LeftParen, Name, Open, Openter, Opexit}
use Rattle.use_text.specs.declared.token.TokenKind.TheVariants.{OrderedSet, Quit, Redo, Reset, RightParen, Sequence, Set, SetWord, Undo, View}
use Rattle.use_syntax.specs.declared.rule.Rule.TheVariants as r
use Rattle.use_syntax.specs.declared.production.Production.TheVariants as p
use Rattle.use_syntax.specs.declared.row.Symbol.TheVariants.{Token, Rule, Production}
use Rattle.use_syntax.specs.Forms.{Form, choice, each, optional, repeated}
use Rattle.use_syntax.specs.Firsts.{kinds, names}

-- names
abbrev pub name_forms : List Form
name_forms =
    -- nothing at all
    (each []) ∷
    -- NAME: a name or a command word
    (choice (((Name ∷ []), Token Name) ∷ ((Check ∷ []), Token Check) ∷ ((Create ∷ []), Token Create) ∷ ((Exit ∷ []), Token Exit) ∷ (
      (Info
          ∷ []),
      Token Info,
    ) ∷ ((Open ∷ []), Token Open) ∷ ((Opexit ∷ []), Token Opexit) ∷ ((Openter ∷ []), Token Openter) ∷ ((Quit ∷ []), Token Quit)
    ∷ ((Redo ∷ []), Token Redo) ∷ ((Reset ∷ []), Token Reset) ∷ ((SetWord ∷ []), Token SetWord) ∷ ((Undo ∷ []), Token Undo) ∷ ((View ∷ []), Token View)
    ∷ [])) ∷
    -- names := NAME { ',' NAME }
    (each (Token Comma ∷ Production p.Name ∷ [])) ∷
    (repeated (Comma ∷ []) (Production p.MoreName)) ∷
    (each (Production p.Name ∷ Production p.MoreNames ∷ [])) ∷
    []

-- types
abbrev pub type_forms : List Form
type_forms =
    -- 'Set' | 'OrderedSet' | 'Bag' | 'Sequence'
    (choice (((Set ∷ []), Token Set) ∷ ((OrderedSet ∷ []), Token OrderedSet) ∷ ((Bag ∷ []), Token Bag) ∷ ((Sequence ∷ []), Token Sequence) ∷ [])) ∷
    -- type := NAME | kind '(' type ')'
    (each (Production p.Kind ∷ Token LeftParen ∷ Rule r.Type ∷ Token RightParen ∷ [])) ∷
    (choice ((names, Production p.Name) ∷ (kinds, Production p.CollectionType) ∷ [])) ∷
    -- [ ':' type ]
    (each (Token Colon ∷ Rule r.Type ∷ [])) ∷
    (optional (Colon ∷ []) (Production p.TypeMark)) ∷
    []
