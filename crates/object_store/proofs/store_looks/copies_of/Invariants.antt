use Rattle.std.proofs.Common.{◌≡◌, ◌++◌}
use Rattle.std.specs.Prelude.{string_bytes}
use Rattle.object_store.proofs.TextKeys.{read}
use Rattle.object_store.proofs.store_looks.copies_of.Given as goal

abbrev pub invariant-variables : goal.invariant-variables
invariant-variables l = l.copies ++ read string_bytes l.text-iterator ≡ l.variables
