use Rattle.std.proofs.Common.{◌≡◌, take}
use Rattle.std.specs.HashMap.{get_by_text}
use Rattle.class_decls.specs.Names.{numbered}
use Rattle.class_builder.specs.Models.{derived_in, operations_in, stored_in, type_by}
use Rattle.class_builder.proofs.features.derived_attributes.Given as goal

abbrev pub invariant-classes : goal.invariant-classes
invariant-classes l = l.attrs.items ≡ numbered (λ c d. derived_in (type_by (λ text. get_by_text l.names text)) c d.now) (take l.i l.classes)
