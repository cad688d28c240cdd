use Rattle.std.proofs.Common.{◌≡◌, ℕ, List, map, take}
use Rattle.std.specs.HashMap.{get_by_text}
use Rattle.std.specs.List.{enumerate_from}
use Rattle.std.specs.Map.{lookup}
use Rattle.std.specs.Option.{option_or}
use Rattle.class_decls.specs.Texts.{same_text}
use Rattle.class_model.specs.declared.types.OclType.TheVariants as T
use Rattle.class_builder.proofs.type_names.add_classes.Given as goal

abbrev pub invariant-classes : goal.invariant-classes
invariant-classes l = (t : List ℕ) → get_by_text l.names t ≡ option_or (get_by_text l.fn.names t)
    (lookup (λ name. same_text name t) (map (λ p. (p.1.now.name.text, T.Class p.0)) (enumerate_from 0 (take l.i l.classes))))
