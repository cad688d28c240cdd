use Rattle.std.proofs.Common.{◌≡◌, ℕ, List, take}
use Rattle.std.specs.HashMap.{get_by_text}
use Rattle.std.specs.List.{position_from}
use Rattle.class_decls.specs.Texts.{same_text}
use Rattle.class_builder.proofs.type_names.class_numbers.Given as goal

abbrev pub invariant-classes : goal.invariant-classes
invariant-classes l = (t : List ℕ) → get_by_text l.map t ≡ position_from (λ d. same_text d.now.name.text t) 0 (take l.i l.classes)
