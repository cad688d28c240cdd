-- The productions of statements: each rule, and the productions of its parts before it.
use Rattle.std.specs.Prelude.{List, [], ◌∷◌}
use Rattle.use_text.specs.declared.token.TokenKind.TheVariants.{Assign, Colon, Comma, Create, Declare, Delete, Destroy, Do, Else, EndWord, For, From, If}
use Rattle.use_text.specs.declared.token.TokenKind.TheVariants.{In, Insert, Into, LeftParen, New, RightParen, Semicolon, SetWord, Then, While}
use Rattle.use_syntax.specs.declared.rule.Rule.TheVariants as r
use Rattle.use_syntax.specs.declared.production.Production.TheVariants as p
use Rattle.use_syntax.specs.declared.row.Symbol.TheVariants.{Token, Rule, Production}
use Rattle.use_syntax.specs.Forms.{Form, each, optional, or_else, repeated}
use Rattle.use_syntax.specs.Firsts.{expressions, statements}

-- blocks and of new objects
abbrev pub block_forms : List Form
block_forms =
    -- block := [ stmt ] { ';' [ stmt ] }
    (optional statements (Rule r.Stmt)) ∷
    (each (Token Semicolon ∷ Production p.OptionalStmt ∷ [])) ∷
    (repeated (Semicolon ∷ []) (Production p.MoreStmt)) ∷
    (each (Production p.OptionalStmt ∷ Production p.MoreStmts ∷ [])) ∷
    -- new := 'new' NAME [ '(' [ expr ] ')' ]
    (optional expressions (Rule r.Expr)) ∷
    (each (Token LeftParen ∷ Production p.OptionalExpr ∷ Token RightParen ∷ [])) ∷
    (optional (LeftParen ∷ []) (Production p.NewName)) ∷
    (each (Token New ∷ Production p.Name ∷ Production p.OptionalNewName ∷ [])) ∷
    -- rhs := new | expr
    (or_else (((New ∷ []), Rule r.New) ∷ []) (Rule r.Expr)) ∷
    []

-- changes of a state
abbrev pub change_forms : List Form
change_forms =
    -- create := 'create' names ':' NAME
    (each (Token Create ∷ Rule r.Names ∷ Token Colon ∷ Production p.Name ∷ [])) ∷
    -- set := 'set' expr ':=' rhs
    (each (Token SetWord ∷ Rule r.Expr ∷ Token Assign ∷ Rule r.Rhs ∷ [])) ∷
    -- destroy := 'destroy' expr { ',' expr }
    (each (Token Comma ∷ Rule r.Expr ∷ [])) ∷
    (repeated (Comma ∷ []) (Production p.MoreExpr)) ∷
    (each (Token Destroy ∷ Rule r.Expr ∷ Production p.MoreExprs ∷ [])) ∷
    -- insert := 'insert' '(' expr ',' expr ')' 'into' NAME
    (each (Token LeftParen ∷ Rule r.Expr ∷ Token Comma ∷ Rule r.Expr ∷ Token RightParen ∷ [])) ∷
    (each (Token Insert ∷ Production p.Pair ∷ Token Into ∷ Production p.Name ∷ [])) ∷
    -- delete := 'delete' '(' expr ',' expr ')' 'from' NAME
    (each (Token Delete ∷ Production p.Pair ∷ Token From ∷ Production p.Name ∷ [])) ∷
    -- declare := 'declare' names ':' type
    (each (Token Declare ∷ Rule r.Names ∷ Production p.TypeMark ∷ [])) ∷
    []

-- branches and loops
abbrev pub control_forms : List Form
control_forms =
    -- branch := 'if' expr 'then' block [ 'else' block ] 'end'
    (each (Token Else ∷ Rule r.Block ∷ [])) ∷
    (optional (Else ∷ []) (Production p.ElseBlock)) ∷
    (each (Token If ∷ Rule r.Expr ∷ Token Then ∷ Rule r.Block ∷ Production p.OptionalElse ∷ Token EndWord ∷ [])) ∷
    -- for := 'for' NAME 'in' expr 'do' block 'end'
    (each (Token Do ∷ Rule r.Block ∷ Token EndWord ∷ [])) ∷
    (each (Token For ∷ Production p.Name ∷ Token In ∷ Rule r.Expr ∷ Production p.LoopBody ∷ [])) ∷
    -- while := 'while' expr 'do' block 'end'
    (each (Token While ∷ Rule r.Expr ∷ Production p.LoopBody ∷ [])) ∷
    []

-- assignments, and of any statement
abbrev pub statement_forms : List Form
statement_forms =
    -- assign := expr [ ':=' rhs ]
    (each (Token Assign ∷ Rule r.Rhs ∷ [])) ∷
    (optional (Assign ∷ []) (Production p.NewValue)) ∷
    (each (Rule r.Expr ∷ Production p.OptionalNewValue ∷ [])) ∷
    -- stmt := create | set | new | destroy | insert | delete | declare | branch | for | while | assign
    (or_else (((Create ∷ []), Rule r.Create) ∷ ((SetWord ∷ []), Rule r.Set) ∷ ((New ∷ []), Rule r.New) ∷ ((Destroy ∷ []), Rule r.Destroy) ∷ (
      (Insert
          ∷ []),
      Rule r.Insert,
    ) ∷ ((Delete ∷ []), Rule r.Delete) ∷ ((Declare ∷ []), Rule r.Declare) ∷ ((If ∷ []), Rule r.Branch) ∷ ((For ∷ []), Rule r.For)
    ∷ ((While ∷ []), Rule r.While) ∷ []) (Rule r.Assign)) ∷
    []
