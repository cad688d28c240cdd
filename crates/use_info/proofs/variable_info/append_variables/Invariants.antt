use Rattle.std.proofs.Common.{◌≡◌, ◌++◌, take}
use Rattle.std.specs.List.{flat_map}
use Rattle.use_info.specs.Variables.{variable_line}
use Rattle.use_info.proofs.variable_info.append_variables.Given as goal

abbrev pub invariant-variables : goal.invariant-variables
invariant-variables g l =
    l.out.items ≡ l.initial.out.items ++ flat_map (variable_line l.model (g.S.StateReader.held l.state).state) (take l.name-index l.name-items)
