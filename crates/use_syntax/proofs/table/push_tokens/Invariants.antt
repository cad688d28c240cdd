use Rattle.std.proofs.Common.{◌≡◌, ◌++◌, map}
use Rattle.std.specs.List.{range_with_len}
use Rattle.grammar_core.specs.declared.table.Prod.TheVariants.{Tok}
use Rattle.use_syntax.proofs.table.push_tokens.Given as goal

abbrev pub invariant-kinds : goal.invariant-kinds
invariant-kinds l = l.prods.items ≡ l.fn.prods.items ++ map Tok (range_with_len 0 l.kind)
