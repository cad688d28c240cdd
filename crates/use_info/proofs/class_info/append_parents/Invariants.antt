use Rattle.std.proofs.Common.{◌≡◌, ◌++◌, take}
use Rattle.use_info.specs.Classes.{parents_text}
use Rattle.use_info.proofs.class_info.append_parents.Given as goal

abbrev pub invariant-parents : goal.invariant-parents
invariant-parents l = l.out.items ≡ l.initial.out.items ++ parents_text l.model (take l.at l.parents)
