-- How many nodes of the rules that nest stand one in another.
use Rattle.std.specs.Prelude.{◌≡◌, ◌≤◌, ℕ, suc, max, Bool, true, false, ◌||◌, List}
use Rattle.use_text.specs.declared.token.Token.{Token}
use Rattle.grammar_core.specs.Derives.{max_level}
use Rattle.grammar_core.specs.Trees.{ParseTree, node, onto, Row}
use Rattle.use_syntax.specs.declared.rule.Rule.TheVariants as r
use Rattle.use_syntax.specs.Reading.{Reading, parsed}
use Rattle.use_nodes.specs.Nodes.{is_rule}

-- a node of a rule that nests: a type, a unary, an expression or a statement
abbrev pub nests : ParseTree → Bool
nests t = is_rule r.Type t || is_rule r.Unary t || is_rule r.Expr t || is_rule r.Stmt t

abbrev pub one_more_if : Bool → ℕ → ℕ
one_more_if true n = suc n
one_more_if false n = n

-- the most of these nodes that stand one in another in a row
abbrev pub depth : Row → ℕ
depth Row.none = 0
depth (Row.token k at row) = depth row
depth (Row.rule n below row) = max (one_more_if (nests (node n below)) (depth below)) (depth row)

-- so many in a tree, itself among them
abbrev pub IsShallow : ParseTree → Type 0
IsShallow t = depth (onto t Row.none) ≤ max_level

-- the tree of what was read is such
abbrev pub ReadIsShallow : Reading → Type 0
ReadIsShallow given = (ts : List Token) (tree : ParseTree) → given ≡ parsed ts tree → IsShallow tree
