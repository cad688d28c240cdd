use Rattle.std.proofs.Common.{◌≡◌, ℕ, List, Bool, sym, ap, ◌∙◌, subst}
use Rattle.grammar_core.specs.declared.table.Table.{Table}
use Rattle.grammar_core.specs.declared.table.Prod.{Prod}
use Rattle.grammar_core.specs.Tables.{table_of}
use Rattle.grammar_core.specs.Unfit.{IsFit}
use Rattle.use_syntax.specs.Language.{all_prods, bodies, nests, language}
use Rattle.use_syntax.proofs.Fitness.{is_fit}
use Rattle.use_syntax.proofs.table.grammar.Goals as goal

same : (prods : List Prod) (to : List ℕ) (flags : List Bool) → prods ≡ all_prods → to ≡ bodies → flags ≡ nests → table_of prods to flags ≡ language
unfolding language
same prods to flags e f h = ap (λ (l : List Prod). table_of l to flags) e ∙ ap (λ (l : List ℕ). table_of all_prods l flags) f
    ∙ ap (λ (l : List Bool). table_of all_prods bodies l) h

pub of_fit-requires : goal.of_fit-requires
of_fit-requires c =
    let e = same c.in_ok-prods.prods.items c.in_ok-places.places.items c.in_ok-nests.nests.items c.in_ok-prods.ensures c.in_ok-places.ensures
    c.in_ok-nests.ensures in
    subst (λ (t : Table). IsFit t) (sym e) is_fit

pub returns-clause-ok : goal.returns-clause-ok
returns-clause-ok c =
    c.in_ok-of_fit.ensures.is ∙ same c.in_ok-prods.prods.items c.in_ok-places.places.items c.in_ok-nests.nests.items c.in_ok-prods.ensures
    c.in_ok-places.ensures c.in_ok-nests.ensures
