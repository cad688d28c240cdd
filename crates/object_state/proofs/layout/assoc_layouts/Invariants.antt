use Rattle.std.proofs.Common.{◌≡◌, ◌++◌, drop}
use Rattle.object_state.specs.Layouts.{assoc_layouts}
use Rattle.object_state.proofs.layout.assoc_layouts.Given as goal

abbrev pub invariant-assocs : goal.invariant-assocs
invariant-assocs l = l.layouts ++ assoc_layouts (drop l.assoc-index l.assocs) ≡ assoc_layouts l.assocs
