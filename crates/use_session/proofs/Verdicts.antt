-- What the tokens of a command are read as tells its tree, and the tree tells what they are read as.
use Rattle.std.proofs.Common.{◌≡◌, List, Bool, true, false, sym, ap, true≢false, Result, Ok, Err}
use Rattle.std.specs.Prelude.{IfOk}
use Rattle.use_text.specs.declared.token.Token.{Token}
use Rattle.grammar_core.specs.Arena.{root_tree}
use Rattle.grammar_core.specs.Derives.{Verdict, derived, stuck, deep, kinds}
use Rattle.grammar_core.specs.Parses.{verdict}
use Rattle.grammar_core.specs.Trees.{ParseTree}
use Rattle.grammar_core.specs.declared.node.Node.{Node}
use Rattle.use_syntax.specs.Language.{language}
use Rattle.use_syntax.specs.Numbers.{number_of_rule}
use Rattle.use_syntax.specs.Reading.{Reading, ReadsTree, parsed, refused, judged, read_tokens}
use Rattle.use_syntax.specs.declared.fault.SyntaxFault.{SyntaxFault}
use Rattle.use_syntax.specs.declared.parsed.TokenTree.{TokenTree}
use Rattle.use_syntax.specs.declared.rule.Rule.TheVariants as r
use Rattle.use_session.specs.Shapes.{IsTreeOf}

abbrev is_parsed : Reading → Bool
is_parsed (parsed ts tree) = true
is_parsed (refused r) = false

abbrev tree_in : ParseTree → Reading → ParseTree
tree_in other (parsed ts tree) = tree
tree_in other (refused r) = other

derived_of : (ts us : List Token) (v : Verdict) (tree : ParseTree) → judged ts v ≡ parsed us tree → v ≡ derived tree
derived_of ts us (derived t) tree e = ap (λ (r : Reading). derived (tree_in tree r)) e
derived_of ts us (stuck at) tree e = absurd (true≢false (sym (ap is_parsed e)))
derived_of ts us (deep at) tree e = absurd (true≢false (sym (ap is_parsed e)))

-- tokens with this tree are read as it
pub read_as : (ts : List Token) (nodes : List Node) → IsTreeOf ts nodes → read_tokens (number_of_rule r.Command) ts ≡ parsed ts (root_tree nodes)
unfolding read_tokens
read_as ts nodes e = ap (judged ts) e

tree_of : (ts us : List Token) (nodes : List Node) → read_tokens (number_of_rule r.Command) ts ≡ parsed us (root_tree nodes) → IsTreeOf ts nodes
unfolding read_tokens
tree_of ts us nodes e = derived_of ts us (verdict language (kinds ts) (number_of_rule r.Command)) (root_tree nodes) e

-- the tree that was read is that of the tokens
pub tree_is : (ts : List Token) (answer : Result TokenTree SyntaxFault) → ReadsTree (read_tokens (number_of_rule r.Command) ts) answer →
    IfOk answer (λ p. p.tokens ≡ ts) → IfOk answer (λ p. IsTreeOf p.tokens p.tree)
tree_is ts (Ok p) e s = rw s (tree_of ts p.tokens p.tree e)
tree_is ts (Err f) e s = s
