-- Where expressions of a text that was read are refused.
use Rattle.std.specs.Prelude.{◌≡◌, ℕ, Bool, true, List, IfErr}
use Rattle.use_text.specs.declared.token.Token.{Token}
use Rattle.grammar_core.specs.Trees.{ParseTree, onto, Row}
use Rattle.use_syntax.specs.Reading.{Reading, parsed}
use Rattle.use_nodes.specs.Nodes.{EachNode}
use Rattle.use_decls.specs.Names.{LexedText}
use Rattle.class_model.specs.declared.object_model.ObjectModel.{ObjectModel}
use Rattle.ocl_scope.specs.declared.environment.Environment.{Environment}
use Rattle.ocl_syntax.specs.Expressions.{written}
use Rattle.ocl_syntax.specs.InTexts.{IsPlaceInText, is_expression}
use Rattle.ocl_types.specs.Walk.{type_expr}

-- where a node is an expression's, its refusal stands at a token, and not at 0:0
abbrev pub IsRefusedInText : ObjectModel → Bool → Environment → LexedText → ParseTree → Type 0
IsRefusedInText m is_post env l t =
    is_expression t ≡ true → IfErr (type_expr m is_post env (written l t)) (λ r. IsPlaceInText l.tokens r.place)

-- so it is at each node of the tree of what was read
abbrev pub ReadIsRefusedInText : ObjectModel → Bool → Environment → List ℕ → Reading → Type 0
ReadIsRefusedInText m is_post env text given =
    (ts : List Token) (tree : ParseTree) → given ≡ parsed ts tree
    → EachNode (IsRefusedInText m is_post env (record { text = text; tokens = ts })) (onto tree Row.none)
