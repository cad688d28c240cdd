use Rattle.std.proofs.Common.{◌≡◌, drop}
use Rattle.use_nodes.specs.Nodes.{through}
use Rattle.use_nodes.proofs.node.NodeRef.through.Given as goal

abbrev pub invariant-rules : goal.invariant-rules
invariant-rules l = through (drop l.rule-index l.rules) l.node ≡ through l.rules l.self
