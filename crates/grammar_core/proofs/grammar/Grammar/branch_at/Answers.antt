use Rattle.grammar_core.specs.declared.table.Prod.TheVariants.{Case}
use Rattle.grammar_core.proofs.Cells.{by_kind_as}
use Rattle.grammar_core.proofs.grammar.Grammar.branch_at.Goals as goal

pub returns-in-Some : goal.returns-in-Some
returns-in-Some c =
    let by = by_kind_as c.self.inside.table c.args.self.now c.self.inside.cells.items c.as_slice.result.now c.self.view_is c.as_slice.ensures.value
    c.self.invariant.1 in
    c.in-Some.ensures c.args.self.now.prods (Case c.args.branches.now c.args.other) by c.requires
