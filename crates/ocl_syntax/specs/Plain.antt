-- Nodes that only pass on what stands below them: a row of one operand, a unary without an operator, a source without steps, a primary that is a rule.
use Rattle.std.specs.Prelude.{ℕ, Bool, ◌==◌, ◌&&◌, ◌||◌, if◌then◌else◌, length, Option, Some, None}
use Rattle.grammar_core.specs.Trees.{ParseTree, leaf, node, below, Row}
use Rattle.use_syntax.specs.declared.rule.Rule.TheVariants as r
use Rattle.use_nodes.specs.Nodes.{and_then, child, is_node, is_rule}
use Rattle.use_nodes.specs.ExpressionNodes.{is_chain}

-- its rule may stand for a part alone
abbrev pub may_pass : ParseTree → Bool
may_pass t = is_chain t || is_rule r.Unary t || is_rule r.Postfix t || is_rule r.Primary t

-- the node that is meant by a rule over a row: where it has one node alone below it, and may pass it on, what that one means
abbrev pub plain_in : ℕ → Row → ParseTree
plain_in q (Row.rule p below Row.none) = if may_pass (node q Row.none) then plain_in p below else node q (Row.rule p below Row.none)
plain_in q row = node q row

abbrev pub plain : ParseTree → ParseTree
plain (leaf k at) = leaf k at
plain (node q row) = plain_in q row

-- the node that a node passes on, if it does so
abbrev pub next_of : ParseTree → Option ParseTree
next_of t = and_then (child 0 t) (λ next. if (length (below t) == 1) && is_node next && may_pass t then Some next else None)
