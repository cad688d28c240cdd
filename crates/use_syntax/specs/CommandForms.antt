-- The productions of commands: each rule, and the productions of its parts before it.
use Rattle.std.specs.Prelude.{List, [], ◌∷◌}
use Rattle.use_text.specs.declared.token.TokenKind.TheVariants.{Bang, Check, Class, End, Exit, Info, Int, Minus, Model, Openter, Opexit, Question, Quit}
use Rattle.use_text.specs.declared.token.TokenKind.TheVariants.{Redo, Reset, Undo, View}
use Rattle.use_syntax.specs.declared.rule.Rule.TheVariants as r
use Rattle.use_syntax.specs.declared.production.Production.TheVariants as p
use Rattle.use_syntax.specs.declared.row.Symbol.TheVariants.{Token, Rule, Production}
use Rattle.use_syntax.specs.Forms.{Form, choice, each, optional, or_else}
use Rattle.use_syntax.specs.Firsts.{names}

-- operations, statements, queries and checks
abbrev pub query_forms : List Form
query_forms =
    -- enter := 'openter' expr NAME args
    (each (Token Openter ∷ Rule r.Expr ∷ Production p.Name ∷ Rule r.Args ∷ [])) ∷
    -- exit := 'opexit' [ expr ]
    (each (Token Opexit ∷ Production p.OptionalExpr ∷ [])) ∷
    -- execute := '!' ( enter | exit | block )
    (or_else (((Openter ∷ []), Rule r.Enter) ∷ ((Opexit ∷ []), Rule r.Exit) ∷ []) (Rule r.Block)) ∷
    (each (Token Bang ∷ Production p.Executed ∷ [])) ∷
    -- query := '?' [ '?' ] expr
    (optional (Question ∷ []) (Token Question)) ∷
    (each (Token Question ∷ Production p.OptionalQuestion ∷ Rule r.Expr ∷ [])) ∷
    -- check := 'check' [ '-' NAME ]
    (each (Token Minus ∷ Production p.Name ∷ [])) ∷
    (optional (Minus ∷ []) (Production p.Option)) ∷
    (each (Token Check ∷ Production p.OptionalOption ∷ [])) ∷
    []

-- reports
abbrev pub report_forms : List Form
report_forms =
    -- info := 'info' ( 'class' NAME | 'model' | NAME )
    (each (Token Class ∷ Production p.Name ∷ [])) ∷
    (choice (((Class ∷ []), Production p.ClassName) ∷ ((Model ∷ []), Token Model) ∷ (names, Production p.Name) ∷ [])) ∷
    (each (Token Info ∷ Production p.Subject ∷ [])) ∷
    -- view := 'view' ( INT | NAME INT )
    (each (Production p.Name ∷ Token Int ∷ [])) ∷
    (choice (((Int ∷ []), Token Int) ∷ (names, Production p.NamedView) ∷ [])) ∷
    (each (Token View ∷ Production p.Viewed ∷ [])) ∷
    []

-- any command
abbrev pub command_forms : List Form
command_forms =
    -- command := [ execute | enter | exit | query | check | info | view | 'undo' | 'redo' | 'reset' | 'quit' | 'exit' ] End
    (or_else (((Bang ∷ []), Rule r.Execute) ∷ ((Openter ∷ []), Rule r.Enter) ∷ ((Opexit ∷ []), Rule r.Exit) ∷ ((Question ∷ []), Rule r.Query) ∷ (
      (Check
          ∷ []),
      Rule r.Check,
    ) ∷ ((Info ∷ []), Rule r.Info) ∷ ((View ∷ []), Rule r.View) ∷ ((Undo ∷ []), Token Undo) ∷ ((Redo ∷ []), Token Redo) ∷ (
      (Reset
          ∷ []),
      Token Reset,
    ) ∷ ((Quit ∷ []), Token Quit) ∷ ((Exit ∷ []), Token Exit) ∷ []) (Production p.Nothing)) ∷
    (each (Production p.OptionalCommand ∷ Token End ∷ [])) ∷
    []
