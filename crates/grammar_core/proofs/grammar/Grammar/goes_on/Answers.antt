use Rattle.std.proofs.Common.{◌∙◌}
use Rattle.grammar_core.specs.declared.table.Prod.TheVariants.{Star}
use Rattle.grammar_core.specs.Derives.{begins, kinds}
use Rattle.grammar_core.proofs.Cells.{by_kind_as, some_if}
use Rattle.grammar_core.proofs.grammar.Grammar.goes_on.Goals as goal

pub returns-in-Some : goal.returns-in-Some
returns-in-Some c =
    let by = by_kind_as c.self.inside.table c.args.self.now c.self.inside.cells.items c.as_slice.result.now c.self.view_is c.as_slice.ensures.value
    c.self.invariant.1 in
    let told = c.in-Some.ensures c.args.self.now.prods (Star c.args.firsts.now c.args.q) by c.requires in
    c.is_some.ensures ∙ some_if (begins (kinds c.args.tokens.now) c.args.at c.args.firsts.now) c.args.q c.in-Some.choice told
