-- Nodes of a tree, by their rules and tokens and by where they stand.
use Rattle.std.specs.Prelude.{ℕ, ⊤, ◌==◌, ◌&&◌, ◌||◌, Bool, true, false, not, length, if◌then◌else◌, List, [], ◌∷◌, filter, Option, Some, None, is_some}
use Rattle.std.specs.Prelude.{slice_get}
use Rattle.grammar_core.specs.Trees.{ParseTree, leaf, node, below, place_of, Row}
use Rattle.use_text.specs.declared.token.Token.{Token}
use Rattle.use_text.specs.declared.token.TokenKind.{TokenKind}
use Rattle.use_text.specs.Kinds.{number_of}
use Rattle.use_syntax.specs.declared.rule.Rule.{Rule}
use Rattle.use_syntax.specs.declared.rule.Rule.TheVariants as r
use Rattle.use_syntax.specs.Numbers.{number_of_rule}
pub use Rattle.use_syntax.specs.Reading.{place_of_first}
use Rattle.use_nodes.specs.declared.parts.Select.{Select}
use Rattle.use_nodes.specs.declared.parts.Select.TheVariants as s

-- it is this rule
abbrev pub is_rule : Rule → ParseTree → Bool
is_rule r (leaf k at) = false
is_rule r (node n row) = n == number_of_rule r

-- it is a token of this kind
abbrev pub is_token : TokenKind → ParseTree → Bool
is_token kind (leaf k at) = k == number_of kind
is_token kind (node n row) = false

-- it is a rule, and no token
abbrev pub is_node : ParseTree → Bool
is_node (leaf k at) = false
is_node (node n row) = true

-- what is sought among the nodes right below another
abbrev pub selects : Select → ParseTree → Bool
selects (s.Rule r) t = is_rule r t
selects s.Rules t = is_node t
selects s.Steps t = is_rule r.Dot t || is_rule r.Arrow t
selects (s.Token kind) t = is_token kind t
selects s.Tokens t = not (is_node t)
selects (s.Except kind) t = not (is_token kind t)

-- the nodes right below a node that are sought, from left to right
abbrev pub parts : Select → ParseTree → List ParseTree
parts select t = filter (selects select) (below t)

-- the first of these
abbrev pub part : Select → ParseTree → Option ParseTree
part select t = slice_get (parts select t) 0

-- a part, and what needs it
abbrev pub and_then : {A B : Type 0} → Option A → (A → Option B) → Option B
and_then None f = None
and_then (Some a) f = f a

-- the node right below at a place, from the left
abbrev pub child : ℕ → ParseTree → Option ParseTree
child i t = slice_get (below t) i

-- whether a token of this kind stands right below
abbrev pub has : TokenKind → ParseTree → Bool
has kind t = is_some (part (s.Token kind) t)

-- what stands right behind the first token of this kind
abbrev pub next_to : TokenKind → List ParseTree → Option ParseTree
next_to kind [] = None
next_to kind (t ∷ ts) = if is_token kind t then slice_get ts 0 else next_to kind ts

abbrev pub behind : TokenKind → ParseTree → Option ParseTree
behind kind t = next_to kind (below t)

-- everything that stands behind the first token of this kind
abbrev pub all_behind : TokenKind → List ParseTree → List ParseTree
all_behind kind [] = []
all_behind kind (t ∷ ts) = if is_token kind t then ts else all_behind kind ts

-- the second token of this kind right below
abbrev pub second : TokenKind → ParseTree → Option ParseTree
second kind t = slice_get (parts (s.Token kind) t) 1

-- the second node right below, unless it is a token of this kind
abbrev pub second_but : TokenKind → ParseTree → Option ParseTree
second_but kind t = and_then (child 1 t) (λ node. if is_token kind node then None else Some node)

-- the only node right below, where that is this rule
abbrev pub alone : Rule → ParseTree → Option ParseTree
alone rule t = and_then (child 0 t) (λ node. if (length (below t) == 1) && is_rule rule node then Some node else None)

-- the node of the last of these rules, where each is alone below the one before it
abbrev pub through : List Rule → ParseTree → Option ParseTree
through [] t = Some t
through (rule ∷ rules) t = and_then (alone rule t) (through rules)

-- the token that it is, of those that the tree was read from
abbrev pub token_in : List Token → ParseTree → Option Token
token_in ts t = and_then (place_of t) (slice_get ts)

-- what is there of a node of this rule; of another there is nothing
abbrev pub of : {A : Type 0} → Rule → ParseTree → Option A → Option A
of rule t parts = if is_rule rule t then parts else None

-- it holds of each node of a row, and of each below it
abbrev pub EachNode : (ParseTree → Type 0) → Row → Type 0
EachNode P Row.none = ⊤
EachNode P (Row.token k at row) = EachNode P row
EachNode P (Row.rule r below row) = P (node r below) × EachNode P below × EachNode P row
