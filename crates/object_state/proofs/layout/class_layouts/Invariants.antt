use Rattle.std.proofs.Common.{◌≡◌, ◌++◌, drop, map}
use Rattle.std.specs.List.{enumerate_from}
use Rattle.object_state.specs.Layouts.{class_layout, class_layouts}
use Rattle.object_state.proofs.layout.class_layouts.Given as goal

abbrev pub invariant-classes : goal.invariant-classes
invariant-classes l =
    l.layouts ++ map (λ c. class_layout l.model c.0 c.1.is_abstract) (enumerate_from l.class (drop l.class l.model.classes)) ≡ class_layouts l.model
