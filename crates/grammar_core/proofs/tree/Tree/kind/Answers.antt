use Rattle.std.proofs.Common.{sym, ap}
use Rattle.grammar_core.specs.declared.node.Node.TheVariants.{Token, Rule}
use Rattle.grammar_core.specs.Trees.{ParseTree, kind_of}
use Rattle.grammar_core.proofs.Nodes.{tree_at-node}
use Rattle.grammar_core.proofs.tree.Tree.kind.Goals as goal

pub returns-in-Token : goal.returns-in-Token
returns-in-Token c = sym (ap (λ (t : ParseTree). kind_of t) (tree_at-node c.args.self.now c.args.n (Token c.in-Token.kind c.in-Token.field-1)
    c.in-Token.ensures.tree.placed c.in-Token.ensures.node))

pub returns-in-Rule : goal.returns-in-Rule
returns-in-Rule c = sym (ap (λ (t : ParseTree). kind_of t) (tree_at-node c.args.self.now c.args.n (Rule c.in-Rule.rule c.in-Rule.field-1 c.in-Rule.field-2)
    c.in-Rule.ensures.tree.placed c.in-Rule.ensures.node))
