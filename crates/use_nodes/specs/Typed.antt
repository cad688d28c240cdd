-- A tree is typed where each of its nodes, at any depth, has below it what the grammar gives its rule: at each place, behind
-- each token and in each list a node of the right rule or a token of the right kind.
use Rattle.std.specs.Prelude.{◌≡◌, ℕ, suc, ◌==◌, ◌&&◌, ◌||◌, Bool, true, false, List, [], ◌∷◌, ◌++◌, length, filter, map, Option, Some, None, is_some}
use Rattle.use_text.specs.declared.token.Token.{Token}
use Rattle.use_text.specs.declared.token.TokenKind.{TokenKind}
use Rattle.use_text.specs.declared.token.TokenKind.TheVariants as k
use Rattle.grammar_core.specs.Trees.{ParseTree, below, onto, Row}
use Rattle.use_syntax.specs.declared.rule.Rule.{Rule}
use Rattle.use_syntax.specs.declared.rule.Rule.TheVariants as r
use Rattle.use_syntax.specs.Firsts.{kinds, names}
use Rattle.use_syntax.specs.Reading.{Reading, parsed}
use Rattle.use_nodes.specs.declared.parts.Select.{Select}
use Rattle.use_nodes.specs.declared.parts.Select.TheVariants as s
use Rattle.use_nodes.specs.Nodes.{all_behind, behind, child, EachNode, is_rule, part, parts, selects}

-- it is one of these
abbrev pub is_one_of : List Select → ParseTree → Bool
is_one_of [] t = false
is_one_of (select ∷ more) t = selects select t || is_one_of more t

-- where a part stands below a node: at a place from the left, behind a token, or first among those that are sought
pub data Place : Type 0 where
  nth : ℕ → Place
  after : TokenKind → Place
  first_of : Select → Place

abbrev pub part_at : Place → ParseTree → Option ParseTree
part_at (nth i) t = child i t
part_at (after kind) t = behind kind t
part_at (first_of select) t = part select t

-- what is said of the parts of a node
pub data Fact : Type 0 where
  -- the part is there, and is one of these
  there : Place → List Select → Fact
  -- the part is one of these, if it is there
  maybe : Place → List Select → Fact
  -- each that is sought is one of these
  each : Select → List Select → Fact
  -- at least one that is sought is there
  some_of : Select → Fact
  -- at least one is there of those that are sought in either way
  either_of : Select → Select → Fact
  -- the nodes are one more than the tokens
  one_more : Fact
  -- at most one is there of those that are sought in any of these ways
  at_most_one : List Select → Fact
  -- at most one that is sought stands behind the first token of this kind
  at_most_one_behind : TokenKind → Select → Fact

abbrev pub is_there : List Select → Option ParseTree → Bool
is_there sorts None = false
is_there sorts (Some t) = is_one_of sorts t

abbrev pub is_if_there : List Select → Option ParseTree → Bool
is_if_there sorts None = true
is_if_there sorts (Some t) = is_one_of sorts t

abbrev pub are_all : List Select → List ParseTree → Bool
are_all sorts [] = true
are_all sorts (t ∷ ts) = is_one_of sorts t && are_all sorts ts

abbrev pub is_at_most_one : List ParseTree → Bool
is_at_most_one [] = true
is_at_most_one (t ∷ []) = true
is_at_most_one (t ∷ u ∷ ts) = false

abbrev pub is_so : Fact → ParseTree → Bool
is_so (there place sorts) t = is_there sorts (part_at place t)
is_so (maybe place sorts) t = is_if_there sorts (part_at place t)
is_so (each select sorts) t = are_all sorts (parts select t)
is_so (some_of select) t = is_some (part select t)
is_so (either_of select other) t = is_some (part select t) || is_some (part other t)
is_so one_more t = length (parts s.Rules t) == suc (length (parts s.Tokens t))
is_so (at_most_one sorts) t = is_at_most_one (filter (is_one_of sorts) (below t))
is_so (at_most_one_behind kind select) t = is_at_most_one (filter (selects select) (all_behind kind (below t)))

abbrev pub are_so : List Fact → ParseTree → Bool
are_so [] t = true
are_so (fact ∷ facts) t = is_so fact t && are_so facts t

-- a name, and a kind of collection
abbrev pub a_name : List Select
a_name = map s.Token names

abbrev pub a_kind : List Select
a_kind = map s.Token kinds

abbrev pub a_rule : Rule → List Select
a_rule rule = s.Rule rule ∷ []

abbrev pub a_token : TokenKind → List Select
a_token kind = s.Token kind ∷ []

-- a row of operands of a rule with operators of some kinds between them
abbrev pub chain : Rule → List TokenKind → List Fact
chain operand operators = each s.Rules (a_rule operand) ∷ each s.Tokens (map s.Token operators) ∷ one_more ∷ []

-- the facts on each rule's nodes, as the grammar has them
abbrev pub facts : Rule → List Fact
facts r.File = there (after k.Model) a_name ∷ each s.Rules (a_rule r.Enum ++ a_rule r.Class ++ a_rule r.Assoc ++ a_rule r.Constraints) ∷ []
facts r.Command =
    maybe (first_of (s.Except k.End)) (a_rule r.Execute ++ a_rule r.Enter ++ a_rule r.Exit ++ a_rule r.Query ++ a_rule r.Check ++ a_rule r.Info
    ++ a_rule r.View ++ map s.Token (k.Undo ∷ k.Redo ∷ k.Reset ∷ k.Quit ∷ k.Exit ∷ [])) ∷ []
facts r.Names = each (s.Except k.Comma) a_name ∷ some_of (s.Except k.Comma) ∷ []
facts r.Type = there (nth 0) (a_name ++ a_kind) ∷ maybe (after k.LeftParen) (a_rule r.Type) ∷ []
facts r.Item = there (nth 0) (a_rule r.Expr) ∷ maybe (after k.Colon) (a_rule r.Type) ∷ maybe (after k.Equal) (a_rule r.Expr) ∷ []
facts r.Args = maybe (after k.Semicolon) (a_rule r.Item) ∷ maybe (after k.Bar) (a_rule r.Expr) ∷ at_most_one_behind k.Semicolon (s.Rule r.Item) ∷ []
facts r.Part = there (nth 0) (a_rule r.Expr) ∷ maybe (after k.DoubleDot) (a_rule r.Expr) ∷ []
facts r.Collection = there (nth 0) a_kind ∷ []
facts r.Named = there (nth 0) a_name ∷ maybe (after k.DoubleColon) a_name ∷ []
facts r.Literal = there (after k.Hash) a_name ∷ []
facts r.Group = there (after k.LeftParen) (a_rule r.Expr) ∷ []
facts r.Choice = there (after k.If) (a_rule r.Expr) ∷ there (after k.Then) (a_rule r.Expr) ∷ there (after k.Else) (a_rule r.Expr) ∷ []
facts r.Primary =
    there (nth 0) (map s.Token (k.Int ∷ k.Str ∷ k.True ∷ k.False ∷ k.Null ∷ k.Undefined ∷ k.Invalid ∷ []) ++ a_rule r.Literal ++ a_rule r.Collection
    ++ a_rule r.Named ++ a_rule r.Group ++ a_rule r.Choice) ∷ at_most_one (s.Rules ∷ s.Tokens ∷ []) ∷ []
facts r.Dot = there (after k.Dot) (a_name ++ a_token k.Div ++ a_token k.Mod) ∷ []
facts r.Arrow = there (after k.Arrow) a_name ∷ []
facts r.Postfix =
    there (nth 0) (a_rule r.Primary) ∷ at_most_one (a_rule r.Primary) ∷ each s.Rules (a_rule r.Primary ++ a_rule r.Dot ++ a_rule r.Arrow)
    ∷ each s.Tokens [] ∷ []
facts r.Bind = there (nth 0) a_name ∷ maybe (after k.Colon) (a_rule r.Type) ∷ there (after k.Equal) (a_rule r.Expr) ∷ []
facts r.Let = some_of (s.Rule r.Bind) ∷ there (after k.In) (a_rule r.Expr) ∷ some_of (s.Token k.Let) ∷ []
facts r.Unary = there (first_of s.Rules) (a_rule r.Unary ++ a_rule r.Let ++ a_rule r.Postfix) ∷ maybe (first_of s.Tokens) (a_token k.Not
    ++ a_token k.Minus) ∷ at_most_one (s.Rules ∷ []) ∷ []
facts r.Muls = chain r.Unary (k.Star ∷ k.Div ∷ k.Mod ∷ [])
facts r.Sums = chain r.Muls (k.Plus ∷ k.Minus ∷ [])
facts r.Rels = chain r.Sums (k.Less ∷ k.LessEqual ∷ k.Greater ∷ k.GreaterEqual ∷ [])
facts r.Eqs = chain r.Rels (k.Equal ∷ k.NotEqual ∷ [])
facts r.Ands = chain r.Eqs (k.And ∷ [])
facts r.Ors = chain r.Ands (k.Or ∷ [])
facts r.Xors = chain r.Ors (k.Xor ∷ [])
facts r.Expr = chain r.Xors (k.Implies ∷ [])
facts r.Block = each s.Rules (a_rule r.Stmt) ∷ []
facts r.New = there (after k.New) a_name ∷ []
facts r.Rhs = there (nth 0) (a_rule r.New ++ a_rule r.Expr) ∷ []
facts r.Create = there (after k.Create) (a_rule r.Names) ∷ there (after k.Colon) a_name ∷ []
facts r.Set = there (after k.SetWord) (a_rule r.Expr) ∷ there (after k.Assign) (a_rule r.Rhs) ∷ []
facts r.Destroy = some_of (s.Rule r.Expr) ∷ []
facts r.Insert = there (after k.LeftParen) (a_rule r.Expr) ∷ there (after k.Comma) (a_rule r.Expr) ∷ there (after k.Into) a_name ∷ []
facts r.Delete = there (after k.LeftParen) (a_rule r.Expr) ∷ there (after k.Comma) (a_rule r.Expr) ∷ there (after k.From) a_name ∷ []
facts r.Declare = there (after k.Declare) (a_rule r.Names) ∷ there (after k.Colon) (a_rule r.Type) ∷ []
facts r.Branch = there (after k.If) (a_rule r.Expr) ∷ there (after k.Then) (a_rule r.Block) ∷ maybe (after k.Else) (a_rule r.Block) ∷ []
facts r.For = there (after k.For) a_name ∷ there (after k.In) (a_rule r.Expr) ∷ there (after k.Do) (a_rule r.Block) ∷ []
facts r.While = there (after k.While) (a_rule r.Expr) ∷ there (after k.Do) (a_rule r.Block) ∷ []
facts r.Assign = there (nth 0) (a_rule r.Expr) ∷ maybe (after k.Assign) (a_rule r.Rhs) ∷ []
facts r.Stmt =
    there (nth 0) (a_rule r.Create ++ a_rule r.Set ++ a_rule r.New ++ a_rule r.Destroy ++ a_rule r.Insert ++ a_rule r.Delete ++ a_rule r.Declare
    ++ a_rule r.Branch ++ a_rule r.For ++ a_rule r.While ++ a_rule r.Assign) ∷ []
facts r.Enter = there (nth 1) (a_rule r.Expr) ∷ there (nth 2) a_name ∷ some_of (s.Rule r.Args) ∷ []
facts r.Exit = []
facts r.Execute = there (after k.Bang) (a_rule r.Enter ++ a_rule r.Exit ++ a_rule r.Block) ∷ []
facts r.Query = some_of (s.Rule r.Expr) ∷ []
facts r.Check = maybe (after k.Minus) a_name ∷ []
facts r.Info = there (nth 1) (a_name ++ a_token k.Class ++ a_token k.Model) ∷ maybe (after k.Class) a_name ∷ []
facts r.View = there (nth 1) (a_name ++ a_token k.Int) ∷ some_of (s.Token k.Int) ∷ []
facts r.Enum = there (after k.Enum) a_name ∷ there (after k.LeftBrace) (a_rule r.Names) ∷ []
facts r.Param = there (nth 0) a_name ∷ there (after k.Colon) (a_rule r.Type) ∷ []
facts r.Params = some_of (s.Rule r.Param) ∷ []
facts r.Head = there (nth 0) a_name ∷ maybe (after k.Colon) (a_rule r.Type) ∷ []
facts r.Cond = there (nth 0) (a_token k.Pre ++ a_token k.Post) ∷ there (nth 1) (a_name ++ a_token k.Colon) ∷ there (after k.Colon) (a_rule r.Expr) ∷ []
facts r.Inv = there (nth 1) (a_name ++ a_token k.Colon) ∷ there (after k.Colon) (a_rule r.Expr) ∷ []
facts r.Oper = there (nth 0) (a_rule r.Head) ∷ maybe (after k.Equal) (a_rule r.Expr) ∷ maybe (after k.Begin) (a_rule r.Block) ∷ []
facts r.Attribute = there (nth 0) a_name ∷ there (after k.Colon) (a_rule r.Type) ∷ maybe (after k.Equal) (a_rule r.Expr) ∷ []
facts r.Parents = there (after k.Less) (a_rule r.Names) ∷ []
facts r.Class = there (after k.Class) a_name ∷ []
facts r.Mult = there (nth 0) (a_token k.Int ++ a_token k.Star) ∷ maybe (after k.DoubleDot) (a_token k.Int ++ a_token k.Star) ∷ []
facts r.AssocEnd = there (nth 0) a_name ∷ some_of (s.Rule r.Mult) ∷ maybe (after k.Role) a_name ∷ []
facts r.Assoc =
    there (nth 0) (a_token k.Association ++ a_token k.Aggregation ++ a_token k.Composition) ∷ there (nth 1) a_name
    ∷ there (after k.Between) (a_rule r.AssocEnd) ∷ there (nth 4) (a_rule r.AssocEnd) ∷ []
facts r.Context = there (after k.Context) a_name ∷ maybe (after k.Colon) a_name ∷ maybe (after k.DoubleColon) (a_rule r.Head)
    ∷ either_of (s.Rule r.Inv) (s.Rule r.Cond) ∷ []
facts r.Constraints = []

-- a node of a rule, with the facts on that rule's nodes
pub record HasItsSorts (t : ParseTree) : Type 0 where
  pub rule : Rule
  pub is : is_rule rule t ≡ true
  pub facts : (rule : Rule) → is_rule rule t ≡ true → are_so (facts rule) t ≡ true

-- so is the root of a tree, and each node below it
abbrev pub IsTyped : ParseTree → Type 0
IsTyped t = EachNode HasItsSorts (onto t Row.none)

-- the tree of what was read is typed
abbrev pub ReadIsTyped : Reading → Type 0
ReadIsTyped given = (ts : List Token) (tree : ParseTree) → given ≡ parsed ts tree → IsTyped tree
