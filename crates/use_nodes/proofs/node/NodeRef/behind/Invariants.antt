use Rattle.std.proofs.Common.{◌≡◌, drop}
use Rattle.grammar_core.specs.Trees.{below}
use Rattle.use_nodes.specs.Nodes.{behind, next_to}
use Rattle.use_nodes.proofs.node.NodeRef.behind.Given as goal

abbrev pub invariant-seek : goal.invariant-seek
invariant-seek l = next_to l.kind (drop l.i (below l.self)) ≡ behind l.kind l.self
