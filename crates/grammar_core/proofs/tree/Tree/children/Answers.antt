use Rattle.std.proofs.Common.{sym, ap, length}
use Rattle.grammar_core.specs.declared.node.Node.TheVariants.{Token}
use Rattle.grammar_core.specs.Trees.{ParseTree, below}
use Rattle.grammar_core.proofs.Nodes.{tree_at-node, length-below}
use Rattle.grammar_core.proofs.tree.Tree.children.Goals as goal

pub returns-in-Token : goal.returns-in-Token
returns-in-Token c = sym (ap (λ (t : ParseTree). length (below t)) (tree_at-node c.args.self.now c.args.n
    (Token c.in-Token.field-0 c.in-Token.field-1) c.in-Token.ensures.tree.placed c.in-Token.ensures.node))

pub returns-in-Rule : goal.returns-in-Rule
returns-in-Rule c = sym (length-below c.args.self.now c.args.n c.in-Rule.field-0 c.in-Rule.field-1 c.in-Rule.count c.in-Rule.ensures.tree.placed
    c.in-Rule.ensures.node)
