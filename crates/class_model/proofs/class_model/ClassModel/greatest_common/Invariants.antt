use Rattle.std.proofs.Common.{◌≡◌, filter, take}
use Rattle.class_model.specs.Indexes.{greatest_by}
use Rattle.class_model.specs.Inheritance.{is_a}
use Rattle.class_model.proofs.class_model.ClassModel.greatest_common.Given as goal

abbrev pub invariant-ancestors : goal.invariant-ancestors
invariant-ancestors l = l.best ≡ greatest_by (λ c. c) (filter (is_a l.self l.b) (take l.class-index l.class-items))
