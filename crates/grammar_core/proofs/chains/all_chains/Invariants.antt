use Rattle.std.proofs.Common.{◌≡◌, length}
use Rattle.grammar_core.specs.Chains.{AreChains}
use Rattle.grammar_core.proofs.chains.all_chains.Given as goal

abbrev pub invariant-prods : goal.invariant-prods
invariant-prods l = record {
  long : length l.all.items ≡ l.p;
  told : AreChains l.table l.all.items;
}
