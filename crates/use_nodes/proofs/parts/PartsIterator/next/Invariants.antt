use Rattle.std.proofs.Common.{◌-◌, ◌≡◌, drop, filter, length}
use Rattle.grammar_core.specs.Trees.{below}
use Rattle.use_nodes.specs.Nodes.{selects}
use Rattle.use_nodes.proofs.parts.PartsIterator.next.Given as goal

abbrev pub invariant-seek : goal.invariant-seek
invariant-seek l = record {
  same : filter (selects l.self-inside.select) (drop l.self-inside.at (below l.self-inside.node))
      ≡ filter (selects l.initial.self-inside.select) (drop l.initial.self-inside.at (below l.initial.self-inside.node));
  all : l.count ≡ length (below l.self-inside.node);
}

abbrev pub decreases-seek : goal.decreases-seek
decreases-seek l = l.count - l.self-inside.at
