use Rattle.std.proofs.Common.{◌≡◌, ◌++◌, map}
use Rattle.std.specs.List.{range_with_len}
use Rattle.grammar_core.specs.declared.table.Prod.TheVariants.{Call}
use Rattle.use_syntax.proofs.table.push_calls.Given as goal

abbrev pub invariant-rules : goal.invariant-rules
invariant-rules l = l.prods.items ≡ l.fn.prods.items ++ map Call (range_with_len 0 l.rule)
