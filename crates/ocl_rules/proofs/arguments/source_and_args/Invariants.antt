use Rattle.std.proofs.Common.{◌≡◌, ◌++◌}
use Rattle.std.specs.Vec.Iter.{into_iter_items}
use Rattle.ocl_rules.specs.Arguments.{exprs}
use Rattle.ocl_rules.proofs.arguments.source_and_args.Given as goal

abbrev pub invariant-each : goal.invariant-each
invariant-each l = record {
  whole : l.fn.args.items ≡ l.yielded ++ into_iter_items l.arg-iterator;
  all : l.all.items ≡ l.initial.all.items ++ exprs l.yielded;
}
