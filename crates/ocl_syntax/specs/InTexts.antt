-- The places of the expressions in a text that was read.
use Rattle.std.specs.Prelude.{◌≡◌, ◌≢◌, ℕ, Bool, true, List, [], ◌∷◌, map}
use Rattle.use_text.specs.declared.place.Place.{Place}
use Rattle.use_text.specs.declared.token.Token.{Token}
use Rattle.use_text.specs.Places.{place_at}
use Rattle.grammar_core.specs.Trees.{ParseTree, onto, Row}
use Rattle.use_syntax.specs.declared.rule.Rule.{Rule}
use Rattle.use_syntax.specs.declared.rule.Rule.TheVariants as r
use Rattle.use_syntax.specs.Reading.{Reading, parsed}
use Rattle.use_nodes.specs.declared.parts.Select.TheVariants as s
use Rattle.use_nodes.specs.Nodes.{EachNode}
use Rattle.use_nodes.specs.Typed.{is_one_of}
use Rattle.use_decls.specs.Names.{LexedText}
use Rattle.ocl_syntax.specs.Expressions.{written}
use Rattle.ocl_syntax.specs.Standing.{IsTokenPlace, StandsIn}

-- the rules of expressions
abbrev pub expression_rules : List Rule
expression_rules =
    r.Muls ∷ r.Sums ∷ r.Rels ∷ r.Eqs ∷ r.Ands ∷ r.Ors ∷ r.Xors ∷ r.Expr ∷ r.Unary ∷ r.Let ∷ r.Postfix ∷ r.Primary ∷ r.Literal ∷ r.Collection ∷ r.Named
    ∷ r.Choice ∷ r.Group ∷ []

-- a node of one of them
abbrev pub is_expression : ParseTree → Bool
is_expression t = is_one_of (map s.Rule expression_rules) t

-- it is the place of one of these tokens, and is not 0:0
abbrev pub IsPlaceInText : List Token → Place → Type 0
IsPlaceInText ts p = IsTokenPlace ts p × (p ≢ place_at 0 0)

-- each place that stands in what is written at an expression's node is a token's
abbrev pub HasTokenPlaces : LexedText → ParseTree → Type 0
HasTokenPlaces l t = is_expression t ≡ true → (p : Place) → StandsIn p (written l t) → IsPlaceInText l.tokens p

-- so it is at each node of the tree of what was read
abbrev pub ReadHasTokenPlaces : List ℕ → Reading → Type 0
ReadHasTokenPlaces text given =
    (ts : List Token) (tree : ParseTree) → given ≡ parsed ts tree → EachNode (HasTokenPlaces (record { text = text; tokens = ts })) (onto tree Row.none)
