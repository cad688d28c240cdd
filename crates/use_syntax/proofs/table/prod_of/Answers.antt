use Rattle.std.proofs.Common.{◌≡◌, refl, sym, ap, ◌∙◌, List, [], ◌∷◌, map, Some, None, Bor, subst}
use Rattle.use_text.specs.declared.token.TokenKind.{TokenKind}
use Rattle.grammar_core.specs.declared.table.Branch.{Branch}
use Rattle.grammar_core.specs.declared.table.Prod.TheVariants.{Case}
use Rattle.use_syntax.specs.declared.row.Symbol.{Symbol}
use Rattle.use_syntax.specs.declared.row.Row.{Row}
use Rattle.use_syntax.specs.Forms.{branch_of, branches_of, form_of, prod_of}
use Rattle.use_syntax.proofs.table.prod_of.Goals as goal

branches_same : (bs : List (Bor (List TokenKind) × Symbol)) → map (λ b. branch_of b.0.now b.1) bs ≡ branches_of (map (λ b. (b.0.now, b.1)) bs)
branches_same [] = refl
branches_same (b ∷ bs) = ap (λ (l : List Branch). branch_of b.0.now b.1 ∷ l) (branches_same bs)

pub returns-in_ok-branches_of-in-Choice : goal.returns-in_ok-branches_of-in-Choice
returns-in_ok-branches_of-in-Choice c =
    subst (λ (r : Row). Case c.in_ok-branches_of-in-Choice.field-0 None ≡ prod_of (form_of r)) (sym c.in-Choice.is)
    (ap (λ (l : List Branch). Case l None) (c.in_ok-branches_of-in-Choice.ensures ∙ branches_same c.in-Choice.branches.now))

pub returns-in_ok-branches_of-in-OrElse : goal.returns-in_ok-branches_of-in-OrElse
returns-in_ok-branches_of-in-OrElse c =
    subst (λ (r : Row). Case c.in_ok-branches_of-in-OrElse.field-0 (Some c.place_of.result) ≡ prod_of (form_of r)) (sym c.in-OrElse.is)
    (ap (λ (l : List Branch). Case l (Some c.place_of.result)) (c.in_ok-branches_of-in-OrElse.ensures ∙ branches_same c.in-OrElse.branches.now)
    ∙ ap (λ o. Case (branches_of (map (λ b. (b.0.now, b.1)) c.in-OrElse.branches.now)) (Some o)) c.place_of.ensures)
