use Rattle.std.proofs.Common.{◌≡◌, map, take, unwrap_or}
use Rattle.std.specs.HashMap.{get_by_text}
use Rattle.class_builder.specs.Models.{association}
use Rattle.class_builder.proofs.multiplicities.associations.Given as goal

abbrev pub invariant-decls : goal.invariant-decls
invariant-decls l = l.assocs.items ≡ map (association (λ text. unwrap_or (get_by_text l.numbers text) 0)) (take l.decl-index l.decls)
