use Rattle.std.proofs.Common.{ap, length, arith}
use Rattle.grammar_core.specs.declared.node.Node.TheVariants.{Token}
use Rattle.grammar_core.specs.Trees.{ParseTree, below}
use Rattle.grammar_core.proofs.Nodes.{tree_at-node, length-below, below_at, placed_at}
use Rattle.grammar_core.proofs.tree.Tree.child.Goals as goal

pub overflow_add-result : goal.overflow_add-result
overflow_add-result c = let p = placed_at c.args.self.now c.args.n c.in-Rule.field-0 c.in-Rule.first c.in-Rule.count c.in-Rule.ensures.tree.placed
    c.in-Rule.ensures.node in omega (arith, p)

pub returns-in-Token : goal.returns-in-Token
returns-in-Token c = let e = ap (λ (t : ParseTree). length (below t)) (tree_at-node c.args.self.now c.args.n
    (Token c.in-Token.field-0 c.in-Token.field-1) c.in-Token.ensures.tree.placed c.in-Token.ensures.node) in omega (arith, e)

pub returns-then-i-count : goal.returns-then-i-count
returns-then-i-count c =
    let p = placed_at c.args.self.now c.args.n c.in-Rule.field-0 c.in-Rule.first c.in-Rule.count c.in-Rule.ensures.tree.placed c.in-Rule.ensures.node in (
      omega (arith, p),
      below_at c.args.self.now c.args.n c.in-Rule.field-0 c.in-Rule.first c.in-Rule.count c.args.i c.in-Rule.ensures.tree.placed
          c.in-Rule.ensures.node c.if-i-count.true,
    )

pub returns-else-i-count : goal.returns-else-i-count
returns-else-i-count c = let e = length-below c.args.self.now c.args.n c.in-Rule.field-0 c.in-Rule.first c.in-Rule.count c.in-Rule.ensures.tree.placed
    c.in-Rule.ensures.node in omega (arith, e)
