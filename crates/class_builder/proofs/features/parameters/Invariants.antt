use Rattle.std.proofs.Common.{◌≡◌, map, take}
use Rattle.std.specs.HashMap.{get_by_text}
use Rattle.class_builder.specs.Models.{parameter, type_by}
use Rattle.class_builder.proofs.features.parameters.Given as goal

abbrev pub invariant-decls : goal.invariant-decls
invariant-decls l = l.params.items ≡ map (parameter (type_by (λ text. get_by_text l.names text))) (take l.decl-index l.decls)
