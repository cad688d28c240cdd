use Rattle.std.proofs.Common.{map}
use Rattle.class_rules.specs.Ancestors.{IsDownward}
use Rattle.class_model.proofs.Rows.{IsTableTo}
use Rattle.class_model.proofs.inheritance.table.Given as goal

abbrev pub invariant-classes : goal.invariant-classes
invariant-classes l = (down : IsDownward (map (λ c. c.parents) l.classes)) → IsTableTo (map (λ c. c.parents) l.classes) down l.rows l.i
