use Rattle.std.proofs.Common.{sym, ap}
use Rattle.grammar_core.specs.declared.node.Node.TheVariants.{Token, Rule}
use Rattle.grammar_core.specs.Trees.{ParseTree, place_of}
use Rattle.grammar_core.proofs.Nodes.{tree_at-node}
use Rattle.grammar_core.proofs.tree.Tree.token.Goals as goal

pub returns-in-Token : goal.returns-in-Token
returns-in-Token c = sym (ap (λ (t : ParseTree). place_of t) (tree_at-node c.args.self.now c.args.n (Token c.in-Token.field-0 c.in-Token.token)
    c.in-Token.ensures.tree.placed c.in-Token.ensures.node))

pub returns-in-Rule : goal.returns-in-Rule
returns-in-Rule c = sym (ap (λ (t : ParseTree). place_of t) (tree_at-node c.args.self.now c.args.n (Rule c.in-Rule.field-0 c.in-Rule.field-1 c.in-Rule.field-2)
    c.in-Rule.ensures.tree.placed c.in-Rule.ensures.node))
