use Rattle.std.proofs.Common.{◌≡◌, length}
use Rattle.grammar_core.specs.Choices.{AreByKind}
use Rattle.grammar_core.proofs.choices.all_cells.Given as goal

abbrev pub invariant-prods : goal.invariant-prods
invariant-prods l = record {
  long : length l.all.items ≡ l.x-index;
  told : AreByKind l.prods l.all.items;
}
