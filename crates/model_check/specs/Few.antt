-- How many parameters operations have.
use Rattle.std.specs.Prelude.{ℕ, ◌≤◌, All, length}
use Rattle.class_model.specs.declared.object_model.ObjectModel.{ObjectModel}

-- no operation has more than it may
abbrev pub max_parameters : ℕ
max_parameters = 16

abbrev pub HasFewParameters : ObjectModel → Type 0
HasFewParameters m = All (λ op. length op.params ≤ max_parameters) m.ops
