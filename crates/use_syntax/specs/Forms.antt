-- Productions as they are written down, and the productions of the table that they stand for.
use Rattle.std.specs.Prelude.{ℕ, ◌+◌, List, [], ◌∷◌, map, Some, None}
use Rattle.use_text.specs.declared.token.TokenKind.{TokenKind}
use Rattle.use_text.specs.Kinds.{number_of}
use Rattle.grammar_core.specs.declared.table.Branch.{Branch}
use Rattle.grammar_core.specs.declared.table.Prod.{Prod}
use Rattle.grammar_core.specs.declared.table.Prod.TheVariants.{Seq, Case, Star}
use Rattle.use_syntax.specs.declared.row.Symbol.{Symbol}
use Rattle.use_syntax.specs.declared.row.Symbol.TheVariants.{Token, Rule, Production}
use Rattle.use_syntax.specs.declared.row.Row.{Row}
use Rattle.use_syntax.specs.declared.row.Row.TheVariants as row
use Rattle.use_syntax.specs.declared.production.Production.TheVariants.{Nothing}
use Rattle.use_syntax.specs.Numbers.{number_of_rule, number_of_production, rule_count, token_count}

-- a choice is made by the next token: each branch lists the kinds that it begins with
pub data Form : Type 0 where
  -- each in turn
  each : List Symbol → Form
  -- the branch that lists the next token
  choice : List (List TokenKind × Symbol) → Form
  -- the branch that lists the next token, or else the other one
  or_else : List (List TokenKind × Symbol) → Symbol → Form
  -- nothing, unless it begins with the next token
  optional : List TokenKind → Symbol → Form
  -- as often as it begins with the next token
  repeated : List TokenKind → Symbol → Form

-- the table has the tokens by their kinds, then the calls of rules, then the productions with names
abbrev pub place_of : Symbol → ℕ
place_of (Token k) = number_of k
place_of (Rule r) = token_count + number_of_rule r
place_of (Production p) = token_count + rule_count + number_of_production p

abbrev pub branch_of : List TokenKind → Symbol → Branch
branch_of kinds s = record { firsts = map number_of kinds; to = place_of s }

abbrev pub branches_of : List (List TokenKind × Symbol) → List Branch
branches_of bs = map (λ b. branch_of b.0 b.1) bs

abbrev pub prod_of : Form → Prod
prod_of (each symbols) = Seq (map place_of symbols)
prod_of (choice branches) = Case (branches_of branches) None
prod_of (or_else branches other) = Case (branches_of branches) (Some (place_of other))
prod_of (optional kinds s) = Case (branch_of kinds s ∷ []) (Some (place_of (Production Nothing)))
prod_of (repeated kinds s) = Star (map number_of kinds) (place_of s)

-- a row of the program's constants, as a form
abbrev pub form_of : Row → Form
form_of (row.Each symbols) = each symbols.now
form_of (row.Choice branches) = choice (map (λ b. (b.0.now, b.1)) branches.now)
form_of (row.OrElse branches other) = or_else (map (λ b. (b.0.now, b.1)) branches.now) other
form_of (row.Optional kinds s) = optional kinds.now s
form_of (row.Repeated kinds s) = repeated kinds.now s
