-- The productions of models: each rule, and the productions of its parts before it.
use Rattle.std.specs.Prelude.{List, [], ◌∷◌}
use Rattle.use_text.specs.declared.token.TokenKind.TheVariants.{Abstract, Aggregation, Association, Attributes, Begin, Between, Class, Colon, Comma}
use Rattle.use_text.specs.declared.token.TokenKind.TheVariants.{Composition, Constraints, Context, DoubleColon, DoubleDot, End, EndWord, Enum, Equal, Int}
use Rattle.use_text.specs.declared.token.TokenKind.TheVariants.{Inv, LeftBrace, LeftBracket, LeftParen, Less, Model, Operations, Ordered, Post, Pre}
use Rattle.use_text.specs.declared.token.TokenKind.TheVariants.{RightBrace, RightBracket, RightParen, Role, Semicolon, Star}
use Rattle.use_syntax.specs.declared.rule.Rule.TheVariants as r
use Rattle.use_syntax.specs.declared.production.Production.TheVariants as p
use Rattle.use_syntax.specs.declared.row.Symbol.TheVariants.{Token, Rule, Production}
use Rattle.use_syntax.specs.Forms.{Form, choice, each, optional, or_else, repeated}
use Rattle.use_syntax.specs.Firsts.{names}

-- enumerations and heads of operations
abbrev pub head_forms : List Form
head_forms =
    -- [ ';' ]
    (optional (Semicolon ∷ []) (Token Semicolon)) ∷
    -- enum := 'enum' NAME '{' names '}' [ ';' ]
    (each (Token Enum ∷ Production p.Name ∷ Token LeftBrace ∷ Rule r.Names ∷ Token RightBrace ∷ Production p.OptionalSemicolon ∷ [])) ∷
    -- params := NAME ':' type { ',' NAME ':' type }
    (each (Production p.Name ∷ Production p.TypeMark ∷ [])) ∷
    (each (Token Comma ∷ Rule r.Param ∷ [])) ∷
    (repeated (Comma ∷ []) (Production p.MoreParam)) ∷
    (each (Rule r.Param ∷ Production p.MoreParams ∷ [])) ∷
    (optional names (Rule r.Params)) ∷
    -- head := NAME '(' [ params ] ')' [ ':' type ]
    (each (Production p.Name ∷ Token LeftParen ∷ Production p.OptionalParams ∷ Token RightParen ∷ Production p.OptionalTypeMark ∷ [])) ∷
    []

-- conditions and operations
abbrev pub oper_forms : List Form
oper_forms =
    -- cond := ( 'pre' | 'post' ) [ NAME ] ':' expr
    (choice (((Pre ∷ []), Token Pre) ∷ ((Post ∷ []), Token Post) ∷ [])) ∷
    (optional names (Production p.Name)) ∷
    (each (Production p.CondKind ∷ Production p.OptionalName ∷ Token Colon ∷ Rule r.Expr ∷ [])) ∷
    (repeated (Pre ∷ Post ∷ []) (Rule r.Cond)) ∷
    -- inv := 'inv' [ NAME ] ':' expr
    (each (Token Inv ∷ Production p.OptionalName ∷ Token Colon ∷ Rule r.Expr ∷ [])) ∷
    (repeated (Inv ∷ []) (Rule r.Inv)) ∷
    -- oper := head [ '=' expr | 'begin' block 'end' ] [ ';' ] { cond }
    (each (Token Equal ∷ Rule r.Expr ∷ [])) ∷
    (each (Token Begin ∷ Rule r.Block ∷ Token EndWord ∷ [])) ∷
    (or_else (((Equal ∷ []), Production p.Value) ∷ ((Begin ∷ []), Production p.Statements) ∷ []) (Production p.Nothing)) ∷
    (each (Rule r.Head ∷ Production p.OptionalOperBody ∷ Production p.OptionalSemicolon ∷ Production p.Conds ∷ [])) ∷
    []

-- classes
abbrev pub class_forms : List Form
class_forms =
    -- attribute := NAME ':' type [ '=' expr ] [ ';' ]
    (optional (Equal ∷ []) (Production p.Value)) ∷
    (each (Production p.Name ∷ Production p.TypeMark ∷ Production p.OptionalValue ∷ Production p.OptionalSemicolon ∷ [])) ∷
    -- parents := '<' names
    (each (Token Less ∷ Rule r.Names ∷ [])) ∷
    (optional (Less ∷ []) (Rule r.Parents)) ∷
    -- class := [ 'abstract' ] 'class' NAME [ parents ] [ 'attributes' { attribute } ] [ 'operations' { oper } ] [ 'constraints' { inv } ] 'end'
    (optional (Abstract ∷ []) (Token Abstract)) ∷
    (repeated names (Rule r.Attribute)) ∷
    (each (Token Attributes ∷ Production p.Attributes ∷ [])) ∷
    (optional (Attributes ∷ []) (Production p.AttributesPart)) ∷
    (repeated names (Rule r.Oper)) ∷
    (each (Token Operations ∷ Production p.Opers ∷ [])) ∷
    (optional (Operations ∷ []) (Production p.OpersPart)) ∷
    (each (Token Constraints ∷ Production p.Invs ∷ [])) ∷
    (optional (Constraints ∷ []) (Production p.InvsPart)) ∷
    (each (Production p.OptionalAbstract ∷ Token Class ∷ Production p.Name ∷ Production p.OptionalParents ∷ Production p.OptionalAttributes
    ∷ Production p.OptionalOpers ∷ Production p.OptionalInvs ∷ Token EndWord ∷ [])) ∷
    []

-- ends of associations
abbrev pub end_forms : List Form
end_forms =
    -- mult := '*' | INT [ '..' ( INT | '*' ) ]
    (choice (((Int ∷ []), Token Int) ∷ ((Star ∷ []), Token Star) ∷ [])) ∷
    (each (Token DoubleDot ∷ Production p.Upper ∷ [])) ∷
    (optional (DoubleDot ∷ []) (Production p.UpperPart)) ∷
    (each (Token Int ∷ Production p.OptionalUpper ∷ [])) ∷
    (choice (((Star ∷ []), Token Star) ∷ ((Int ∷ []), Production p.Range) ∷ [])) ∷
    -- assocend := NAME '[' mult { ',' mult } ']' [ 'role' NAME ] [ 'ordered' ] [ ';' ]
    (each (Token Comma ∷ Rule r.Mult ∷ [])) ∷
    (repeated (Comma ∷ []) (Production p.MoreMult)) ∷
    (each (Token Role ∷ Production p.Name ∷ [])) ∷
    (optional (Role ∷ []) (Production p.RoleName)) ∷
    (optional (Ordered ∷ []) (Token Ordered)) ∷
    (each (Production p.Name ∷ Token LeftBracket ∷ Rule r.Mult ∷ Production p.MoreMults ∷ Token RightBracket ∷ Production p.OptionalRole
    ∷ Production p.OptionalOrdered ∷ Production p.OptionalSemicolon ∷ [])) ∷
    []

-- associations
abbrev pub assoc_forms : List Form
assoc_forms =
    -- assoc := ( 'association' | 'aggregation' | 'composition' ) NAME 'between' assocend assocend 'end'
    (choice (((Association ∷ []), Token Association) ∷ ((Aggregation ∷ []), Token Aggregation) ∷ ((Composition ∷ []), Token Composition) ∷ [])) ∷
    (each (Production p.AssocKind ∷ Production p.Name ∷ Token Between ∷ Rule r.AssocEnd ∷ Rule r.AssocEnd ∷ Token EndWord ∷ [])) ∷
    []

-- contexts of constraints
abbrev pub context_forms : List Form
context_forms =
    -- context := 'context' NAME ( ':' NAME inv { inv } | '::' head cond { cond } | inv { inv } )
    (each (Rule r.Inv ∷ Production p.Invs ∷ [])) ∷
    (each (Token Colon ∷ Production p.Name ∷ Production p.SomeInvs ∷ [])) ∷
    (each (Token DoubleColon ∷ Rule r.Head ∷ Rule r.Cond ∷ Production p.Conds ∷ [])) ∷
    (choice (((Colon ∷ []), Production p.VariableContext) ∷ ((DoubleColon ∷ []), Production p.OperContext) ∷ ((Inv ∷ []), Production p.SomeInvs) ∷ [])) ∷
    (each (Token Context ∷ Production p.Name ∷ Production p.ContextRest ∷ [])) ∷
    -- constraints := 'constraints' { context }
    (repeated (Context ∷ []) (Rule r.Context)) ∷
    (each (Token Constraints ∷ Production p.Contexts ∷ [])) ∷
    []

-- a whole model
abbrev pub file_forms : List Form
file_forms =
    -- file := 'model' NAME { enum | class | assoc | constraints } End
    (choice (((Enum ∷ []), Rule r.Enum) ∷ ((Abstract ∷ Class ∷ []), Rule r.Class) ∷ ((Association ∷ Aggregation ∷ Composition ∷ []), Rule r.Assoc)
    ∷ ((Constraints ∷ []), Rule r.Constraints) ∷ [])) ∷
    (repeated (Enum ∷ Abstract ∷ Class ∷ Association ∷ Aggregation ∷ Composition ∷ Constraints ∷ []) (Production p.FileItem)) ∷
    (each (Token Model ∷ Production p.Name ∷ Production p.FileItems ∷ Token End ∷ [])) ∷
    []
