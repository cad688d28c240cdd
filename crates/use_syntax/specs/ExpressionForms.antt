-- The productions of expressions: each rule, and the productions of its parts before it.
use Rattle.std.specs.Prelude.{List, [], ◌∷◌}
use Rattle.use_text.specs.declared.token.TokenKind.TheVariants.{And, Arrow, AtPre, Bar, Colon, Comma, Div, Dot, DoubleColon, DoubleDot, Else, Endif, Equal}
use Rattle.use_text.specs.declared.token.TokenKind.TheVariants.{False, Greater, GreaterEqual, Hash, If, Implies, In, Int, Invalid, LeftBrace, LeftParen}
use Rattle.use_text.specs.declared.token.TokenKind.TheVariants.{Less, LessEqual, Let, Minus, Mod, Not, NotEqual, Null, Or, Plus, RightBrace, RightParen}
use Rattle.use_text.specs.declared.token.TokenKind.TheVariants.{Semicolon, Star, Str, Then, True, Undefined, Xor}
use Rattle.use_syntax.specs.declared.rule.Rule.TheVariants as r
use Rattle.use_syntax.specs.declared.production.Production.TheVariants as p
use Rattle.use_syntax.specs.declared.row.Symbol.TheVariants.{Token, Rule, Production}
use Rattle.use_syntax.specs.Forms.{Form, choice, each, optional, or_else, repeated}
use Rattle.use_syntax.specs.Firsts.{expressions, kinds, names}

-- items of arguments
abbrev pub item_forms : List Form
item_forms =
    -- item := expr [ ':' type [ '=' expr ] ]
    (each (Token Equal ∷ Rule r.Expr ∷ [])) ∷
    (optional (Equal ∷ []) (Production p.ItemStart)) ∷
    (each (Token Colon ∷ Rule r.Type ∷ Production p.OptionalItemStart ∷ [])) ∷
    (optional (Colon ∷ []) (Production p.ItemType)) ∷
    (each (Rule r.Expr ∷ Production p.OptionalItemType ∷ [])) ∷
    []

-- arguments
abbrev pub args_forms : List Form
args_forms =
    -- args := '(' [ item { ',' item } [ ';' item ] [ '|' expr ] ] ')'
    (each (Token Comma ∷ Rule r.Item ∷ [])) ∷
    (repeated (Comma ∷ []) (Production p.MoreItem)) ∷
    (each (Token Semicolon ∷ Rule r.Item ∷ [])) ∷
    (optional (Semicolon ∷ []) (Production p.LastItem)) ∷
    (each (Token Bar ∷ Rule r.Expr ∷ [])) ∷
    (optional (Bar ∷ []) (Production p.Body)) ∷
    (each (Rule r.Item ∷ Production p.MoreItems ∷ Production p.OptionalLastItem ∷ Production p.OptionalBody ∷ [])) ∷
    (optional expressions (Production p.Items)) ∷
    (each (Token LeftParen ∷ Production p.OptionalItems ∷ Token RightParen ∷ [])) ∷
    (optional (LeftParen ∷ []) (Rule r.Args)) ∷
    []

-- collections
abbrev pub collection_forms : List Form
collection_forms =
    -- part := expr [ '..' expr ]
    (each (Token DoubleDot ∷ Rule r.Expr ∷ [])) ∷
    (optional (DoubleDot ∷ []) (Production p.PartEnd)) ∷
    (each (Rule r.Expr ∷ Production p.OptionalPartEnd ∷ [])) ∷
    -- collection := kind '{' [ part { ',' part } ] '}'
    (each (Token Comma ∷ Rule r.Part ∷ [])) ∷
    (repeated (Comma ∷ []) (Production p.MorePart)) ∷
    (each (Rule r.Part ∷ Production p.MoreParts ∷ [])) ∷
    (optional expressions (Production p.Parts)) ∷
    (each (Production p.Kind ∷ Token LeftBrace ∷ Production p.OptionalParts ∷ Token RightBrace ∷ [])) ∷
    []

-- names, literals, groups and choices
abbrev pub named_forms : List Form
named_forms =
    -- named := NAME [ '::' NAME ] [ '@pre' ] [ args ]
    (each (Token DoubleColon ∷ Production p.Name ∷ [])) ∷
    (optional (DoubleColon ∷ []) (Production p.Member)) ∷
    (optional (AtPre ∷ []) (Token AtPre)) ∷
    (each (Production p.Name ∷ Production p.OptionalMember ∷ Production p.OptionalAtPre ∷ Production p.OptionalArgs ∷ [])) ∷
    -- literal := '#' NAME
    (each (Token Hash ∷ Production p.Name ∷ [])) ∷
    -- group := '(' expr ')'
    (each (Token LeftParen ∷ Rule r.Expr ∷ Token RightParen ∷ [])) ∷
    -- choice := 'if' expr 'then' expr 'else' expr 'endif'
    (each (Token If ∷ Rule r.Expr ∷ Token Then ∷ Rule r.Expr ∷ Token Else ∷ Rule r.Expr ∷ Token Endif ∷ [])) ∷
    []

-- primary expressions
abbrev pub primary_forms : List Form
primary_forms =
    -- primary := INT | STRING | 'true' | 'false' | 'null' | 'Undefined' | 'invalid' | literal | collection | named | group | choice
    (choice (((Int ∷ []), Token Int) ∷ ((Str ∷ []), Token Str) ∷ ((True ∷ []), Token True) ∷ ((False ∷ []), Token False) ∷ ((Null ∷ []), Token Null)
    ∷ ((Undefined ∷ []), Token Undefined) ∷ ((Invalid ∷ []), Token Invalid) ∷ ((Hash ∷ []), Rule r.Literal) ∷ (kinds, Rule r.Collection)
    ∷ (names, Rule r.Named) ∷ ((LeftParen ∷ []), Rule r.Group) ∷ ((If ∷ []), Rule r.Choice) ∷ [])) ∷
    []

-- members behind a dot
abbrev pub dot_forms : List Form
dot_forms =
    -- dot := '.' ( NAME [ '@pre' ] [ args ] | ( 'div' | 'mod' ) args )
    (each (Production p.Name ∷ Production p.OptionalAtPre ∷ Production p.OptionalArgs ∷ [])) ∷
    (each (Token Div ∷ Rule r.Args ∷ [])) ∷
    (each (Token Mod ∷ Rule r.Args ∷ [])) ∷
    (choice ((names, Production p.Property) ∷ ((Div ∷ []), Production p.DottedDiv) ∷ ((Mod ∷ []), Production p.DottedMod) ∷ [])) ∷
    (each (Token Dot ∷ Production p.DotMember ∷ [])) ∷
    []

-- members behind an arrow, and of rows of members
abbrev pub postfix_forms : List Form
postfix_forms =
    -- arrow := '->' NAME [ args ]
    (each (Token Arrow ∷ Production p.Name ∷ Production p.OptionalArgs ∷ [])) ∷
    -- postfix := primary { dot | arrow }
    (choice (((Dot ∷ []), Rule r.Dot) ∷ ((Arrow ∷ []), Rule r.Arrow) ∷ [])) ∷
    (repeated (Dot ∷ Arrow ∷ []) (Production p.PostfixStep)) ∷
    (each (Rule r.Primary ∷ Production p.PostfixSteps ∷ [])) ∷
    []

-- `let` and of unary operators
abbrev pub unary_forms : List Form
unary_forms =
    -- bind := NAME [ ':' type ] '=' expr
    (each (Production p.Name ∷ Production p.OptionalTypeMark ∷ Token Equal ∷ Rule r.Expr ∷ [])) ∷
    -- let := 'let' bind { ',' bind } 'in' expr
    (each (Token Comma ∷ Rule r.Bind ∷ [])) ∷
    (repeated (Comma ∷ []) (Production p.MoreBind)) ∷
    (each (Token Let ∷ Rule r.Bind ∷ Production p.MoreBinds ∷ Token In ∷ Rule r.Expr ∷ [])) ∷
    -- unary := ( 'not' | '-' ) unary | let | postfix
    (each (Token Not ∷ Rule r.Unary ∷ [])) ∷
    (each (Token Minus ∷ Rule r.Unary ∷ [])) ∷
    (or_else (((Not ∷ []), Production p.Not) ∷ ((Minus ∷ []), Production p.Negative) ∷ ((Let ∷ []), Rule r.Let) ∷ []) (Rule r.Postfix)) ∷
    []

-- arithmetic operators
abbrev pub arithmetic_forms : List Form
arithmetic_forms =
    -- muls := unary { ( '*' | 'div' | 'mod' ) unary }
    (choice (((Star ∷ []), Token Star) ∷ ((Div ∷ []), Token Div) ∷ ((Mod ∷ []), Token Mod) ∷ [])) ∷
    (each (Production p.MulOperator ∷ Rule r.Unary ∷ [])) ∷
    (repeated (Star ∷ Div ∷ Mod ∷ []) (Production p.MulStep)) ∷
    (each (Rule r.Unary ∷ Production p.MulSteps ∷ [])) ∷
    -- sums := muls { ( '+' | '-' ) muls }
    (choice (((Plus ∷ []), Token Plus) ∷ ((Minus ∷ []), Token Minus) ∷ [])) ∷
    (each (Production p.SumOperator ∷ Rule r.Muls ∷ [])) ∷
    (repeated (Plus ∷ Minus ∷ []) (Production p.SumStep)) ∷
    (each (Rule r.Muls ∷ Production p.SumSteps ∷ [])) ∷
    []

-- comparisons
abbrev pub comparison_forms : List Form
comparison_forms =
    -- rels := sums { ( '<' | '<=' | '>' | '>=' ) sums }
    (choice (((Less ∷ []), Token Less) ∷ ((LessEqual ∷ []), Token LessEqual) ∷ ((Greater ∷ []), Token Greater) ∷ ((GreaterEqual ∷ []), Token GreaterEqual)
    ∷ [])) ∷
    (each (Production p.RelOperator ∷ Rule r.Sums ∷ [])) ∷
    (repeated (Less ∷ LessEqual ∷ Greater ∷ GreaterEqual ∷ []) (Production p.RelStep)) ∷
    (each (Rule r.Sums ∷ Production p.RelSteps ∷ [])) ∷
    -- eqs := rels { ( '=' | '<>' ) rels }
    (choice (((Equal ∷ []), Token Equal) ∷ ((NotEqual ∷ []), Token NotEqual) ∷ [])) ∷
    (each (Production p.EqOperator ∷ Rule r.Rels ∷ [])) ∷
    (repeated (Equal ∷ NotEqual ∷ []) (Production p.EqStep)) ∷
    (each (Rule r.Rels ∷ Production p.EqSteps ∷ [])) ∷
    []

-- logical operators
abbrev pub logic_forms : List Form
logic_forms =
    -- ands := eqs { 'and' eqs }
    (each (Token And ∷ Rule r.Eqs ∷ [])) ∷
    (repeated (And ∷ []) (Production p.AndStep)) ∷
    (each (Rule r.Eqs ∷ Production p.AndSteps ∷ [])) ∷
    -- ors := ands { 'or' ands }
    (each (Token Or ∷ Rule r.Ands ∷ [])) ∷
    (repeated (Or ∷ []) (Production p.OrStep)) ∷
    (each (Rule r.Ands ∷ Production p.OrSteps ∷ [])) ∷
    -- xors := ors { 'xor' ors }
    (each (Token Xor ∷ Rule r.Ors ∷ [])) ∷
    (repeated (Xor ∷ []) (Production p.XorStep)) ∷
    (each (Rule r.Ors ∷ Production p.XorSteps ∷ [])) ∷
    -- expr := xors { 'implies' xors }
    (each (Token Implies ∷ Rule r.Xors ∷ [])) ∷
    (repeated (Implies ∷ []) (Production p.ImpliesStep)) ∷
    (each (Rule r.Xors ∷ Production p.ImpliesSteps ∷ [])) ∷
    []
