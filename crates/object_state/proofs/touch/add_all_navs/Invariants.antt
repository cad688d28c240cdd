use Rattle.std.proofs.Common.{◌≡◌, drop}
use Rattle.std.specs.List.{enumerate_from, flat_map}
use Rattle.object_state.specs.Touched.{navs, with_cells}
use Rattle.object_state.proofs.touch.add_all_navs.Given as goal

abbrev pub invariant-assocs : goal.invariant-assocs
invariant-assocs l =
    with_cells l.out (flat_map (λ a. navs l.layout l.change a.0 a.1) (enumerate_from l.assoc (drop l.assoc l.layout.assocs)))
    ≡ with_cells l.initial.out (flat_map (λ a. navs l.layout l.change a.0 a.1) (enumerate_from 0 l.layout.assocs))
