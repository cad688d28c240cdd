-- Nodes in a list, as trees: a node names nodes that stand before it.
use Rattle.std.specs.Prelude.{ℕ, ◌+◌, ◌-◌, ◌<◌, ◌≤◌, List, [], ◌∷◌, ◌++◌, length, map, take, drop, suc, slice_index_or}
use Rattle.grammar_core.specs.declared.node.Node.{Node}
use Rattle.grammar_core.specs.declared.node.Node.TheVariants.{Token, Rule}
use Rattle.grammar_core.specs.Trees.{ParseTree, leaf, node, row_of}

-- the tree of a node that names these trees by their places
abbrev pub tree_with : List ParseTree → Node → ParseTree
tree_with ts (Token k at) = leaf k at
tree_with ts (Rule r first count) = node r (row_of (take count (drop first ts)))

-- the trees so far, and those of further nodes
abbrev pub trees_from : List ParseTree → List Node → List ParseTree
trees_from ts [] = ts
trees_from ts (n ∷ ns) = trees_from (ts ++ (tree_with ts n ∷ [])) ns

-- the tree of each node
abbrev pub node_trees : List Node → List ParseTree
node_trees nodes = trees_from [] nodes

abbrev pub tree_at : List Node → ℕ → ParseTree
tree_at nodes n = slice_index_or (node_trees nodes) n (leaf 0 0)

-- the tree of the last node
abbrev pub root_tree : List Node → ParseTree
root_tree nodes = tree_at nodes (length nodes - 1)

-- the nodes that a node names are among the first k
abbrev pub IsPlaced : ℕ → Node → Type 0
IsPlaced k (Token kind at) = Unit {0}
IsPlaced k (Rule r first count) = first + count ≤ k

abbrev pub ArePlaced : ℕ → List Node → Type 0
ArePlaced k [] = Unit {0}
ArePlaced k (n ∷ ns) = IsPlaced k n × ArePlaced k ns

-- behind k nodes, each node names only nodes before it
abbrev pub IsArena : ℕ → List Node → Type 0
IsArena k [] = Unit {0}
IsArena k (n ∷ ns) = IsPlaced k n × IsArena (suc k) ns

pub record IsTree (nodes : List Node) : Type 0 where
  pub some : 0 < length nodes
  pub placed : IsArena 0 nodes

-- the nodes that have their place, and those that wait for the node above them
pub record Built : Type 0 where
  pub nodes : List Node
  pub waiting : List Node

pub record IsBuilt (b : Built) : Type 0 where
  pub placed : IsArena 0 b.nodes
  pub ahead : ArePlaced (length b.nodes) b.waiting

-- the trees read so far
abbrev pub read_trees : Built → List ParseTree
read_trees b = map (λ n. tree_with (node_trees b.nodes) n) b.waiting

-- with the trees from a place on below a rule
abbrev pub closed : ℕ → ℕ → List ParseTree → List ParseTree
closed r start done = take start done ++ (node r (row_of (drop start done)) ∷ [])
