use Rattle.std.proofs.Common.{◌≡◌, map, take}
use Rattle.std.specs.List.{enumerate_from}
use Rattle.class_rules.specs.Ancestors.{parent_numbers}
use Rattle.class_builder.specs.Models.{class_by}
use Rattle.class_builder.proofs.class_table.classes.Given as goal

abbrev pub invariant-decls : goal.invariant-decls
invariant-decls l = l.classes.items ≡ map (λ p. class_by (parent_numbers l.hierarchy) p.0 p.1.now) (enumerate_from 0 (take l.i l.decls))
