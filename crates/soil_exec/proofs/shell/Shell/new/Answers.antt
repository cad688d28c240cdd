use Rattle.std.proofs.Common.{ℕ, List, subst}
use Rattle.std.specs.Option.{ForSome}
use Rattle.soil_exec.specs.Found.{AreFound}
use Rattle.soil_exec.proofs.shell.Shell.new.Goals as goal

pub invariant_of-result : goal.invariant_of-result
invariant_of-result c = record {
  found = subst (λ (names : List (List ℕ)). ForSome c.in_ok-places.places (λ m. AreFound names m.entries)) c.as_slice.ensures c.in_ok-places.ensures;
  differ = c.requires.differ;
}
