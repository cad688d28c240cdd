-- An environment that is left is as it was.
use Rattle.std.proofs.Common.{◌≡◌, ℕ, Bool, List, Option, ap, ap₂, ◌∙◌}
use Rattle.class_model.specs.declared.types.OclType.{OclType}
use Rattle.ocl_scope.specs.declared.environment.Environment.{Environment}
use Rattle.ocl_scope.specs.declared.environment.Scope.{Scope}
use Rattle.ocl_scope.specs.Environments.{back_to, scope_of, with_values, with_variable}
use Rattle.ocl_scope.proofs.Scopes.{left_values, left_variable}

pub left_one : (old pushed after new : Environment) (scope : Scope) (name : Option (List ℕ)) (t : OclType) (i : Bool) →
    pushed ≡ with_variable old name t i → scope ≡ scope_of old → after ≡ pushed → new ≡ back_to after scope → new ≡ old
left_one old pushed after new scope name t i p s a n = n ∙ ap₂ back_to (a ∙ p) s ∙ left_variable old name t i

pub left_some : (old pushed after new : Environment) (scope : Scope) (count : ℕ) →
    pushed ≡ with_values old count → scope ≡ scope_of old → after ≡ pushed → new ≡ back_to after scope → new ≡ old
left_some old pushed after new scope count p s a n = n ∙ ap₂ back_to (a ∙ p) s ∙ left_values old count
