use Rattle.std.proofs.Common.{◌≡◌, ◌++◌, drop, map}
use Rattle.object_state.proofs.plain_looks.numbers_of.Given as goal

abbrev pub invariant-objects : goal.invariant-objects
invariant-objects l = l.numbers ++ map (λ e. e.0) (drop l.entry-index l.objects) ≡ map (λ e. e.0) l.objects
