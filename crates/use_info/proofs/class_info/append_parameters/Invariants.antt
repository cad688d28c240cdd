use Rattle.std.proofs.Common.{◌≡◌, ◌++◌, take}
use Rattle.use_info.specs.Classes.{parameters_text}
use Rattle.use_info.proofs.class_info.append_parameters.Given as goal

abbrev pub invariant-parameters : goal.invariant-parameters
invariant-parameters l = l.out.items ≡ l.initial.out.items ++ parameters_text l.model (take l.at l.parameters)
