use Rattle.std.proofs.Common.{◌∙◌, sym}
use Rattle.grammar_core.specs.Trees.{below}
use Rattle.use_nodes.proofs.Rows.{drop_at, none_past}
use Rattle.use_nodes.proofs.node.NodeRef.below_at.Goals as goal

pub unreachable-requires : goal.unreachable-requires
unreachable-requires c = none_past (below c.args.self.now) c.args.i (sym c.child.ensures ∙ c.in-None.is) c.requires

pub returns : goal.returns
returns c = drop_at (below c.args.self.now) c.args.i c.in-Some.node (sym c.child.ensures ∙ c.in-Some.is)
