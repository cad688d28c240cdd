-- The tree of a command is told by the kinds of its tokens. Only proofs use these words.
use Rattle.std.specs.Prelude.{◌≡◌, ℕ, List, IfSome}
use Rattle.use_text.specs.declared.token.Token.{Token}
use Rattle.grammar_core.specs.Arena.{root_tree}
use Rattle.grammar_core.specs.Derives.{derived, kinds}
use Rattle.grammar_core.specs.Parses.{verdict}
use Rattle.grammar_core.specs.declared.node.Node.{Node}
use Rattle.use_syntax.specs.Language.{language}
use Rattle.use_syntax.specs.Numbers.{number_of_rule}
use Rattle.use_syntax.specs.declared.rule.Rule.TheVariants as r
use Rattle.use_session.specs.declared.shapes.Shape.{Shape}

-- a command with tokens of these kinds has this tree
abbrev pub IsTreeBy : List ℕ → List Node → Type 0
IsTreeBy ks tree = verdict language ks (number_of_rule r.Command) ≡ derived (root_tree tree)

-- a command with these tokens has this tree
abbrev pub IsTreeOf : List Token → List Node → Type 0
IsTreeOf ts tree = IsTreeBy (kinds ts) tree

-- the tree that is kept, if there is one, is that of the kinds
abbrev pub IsShape : Shape → Type 0
IsShape s = IfSome s.tree (IsTreeBy s.kinds.items)
