use Rattle.std.proofs.Common.{ap, sym, ◌∙◌, arith, length, List, below_more}
use Rattle.std.proofs.lemmas.Bool.{false≢true}
use Rattle.grammar_core.specs.declared.table.Prod.{Prod}
use Rattle.grammar_core.specs.Unfit.{Unfit}
use Rattle.grammar_core.proofs.Unfitness.{unfit_inside}
use Rattle.grammar_core.proofs.fitness.first_unfit.Goals as goal

pub returns-then-branch : goal.returns-then-branch
returns-then-branch c = record { unfit = c.in_ok-is_unfit.ensures.0 c.if-branch.true; before = c.prods.invariant }

pub prods-preserved : goal.prods-preserved
prods-preserved c = below_more (λ q. Unfit c.args.g.now q → ⊥) c.prods.p c.prods.invariant (λ u. false≢true (sym c.if-branch.false
    ∙ c.in_ok-is_unfit.ensures.1 u))

pub returns : goal.returns
returns c = λ p u. let i = unfit_inside c.args.g.now p u in c.prods.invariant p (omega (
  arith,
  i,
  c.prods-test.false,
  ap (λ
      (l : List Prod). length l) c.as_slice-x-items.ensures,
)) u
