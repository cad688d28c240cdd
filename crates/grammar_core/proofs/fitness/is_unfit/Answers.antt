use Rattle.std.proofs.Common.{false, refl, sym, ◌∙◌}
use Rattle.std.proofs.lemmas.Option.{slice_get_within}
use Rattle.std.proofs.lemmas.Bool.{false≢true}
use Rattle.grammar_core.specs.Paths.{Path}
use Rattle.grammar_core.specs.Tables.{graph_of}
use Rattle.grammar_core.proofs.Unfitness.{outside_unfit, empty_unfit, last_test}
use Rattle.grammar_core.proofs.fitness.is_unfit.Goals as goal

pub returns-then-is_outside : goal.returns-then-is_outside
returns-then-is_outside c = (λ t. outside_unfit c.args.g.now c.args.p c.args.x.now c.requires.at (sym c.is_outside.ensures ∙ c.if-is_outside.true), λ u. refl)

pub returns-then-has_empty_body : goal.returns-then-has_empty_body
returns-then-has_empty_body c = (
  λ t. empty_unfit c.args.g.now c.args.p c.args.x.now c.requires.at c.args.empty.now c.requires.marks
      (sym c.has_empty_body.ensures ∙ c.if-has_empty_body.true),
  λ u. refl,
)

pub leads_back-requires : goal.leads_back-requires
leads_back-requires c = slice_get_within c.args.g.now.prods c.args.p c.args.x.now c.requires.at

pub returns : goal.returns
returns c =
    let flat = λ (way : Path (graph_of false c.args.g.now) c.args.p c.args.p). false≢true (sym c.if-branch.false ∙ c.in_ok-leads_back.ensures.1 way) in
    last_test c.args.g.now c.args.p c.args.x.now c.requires.at c.args.empty.now c.requires.marks (sym c.is_outside.ensures
    ∙ c.if-is_outside.false) (sym c.has_empty_body.ensures ∙ c.if-has_empty_body.false) flat c.call_comes_back.result c.call_comes_back.ensures
