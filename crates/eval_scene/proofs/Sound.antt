-- The literals of what is typed are well made.
use Rattle.std.proofs.Common.{◌≡◌, ℕ, Result, Ok, Err, subst}
use Rattle.std.specs.Prelude.{IfOk}
use Rattle.class_model.specs.declared.object_model.ObjectModel.{ObjectModel}
use Rattle.ocl_core.specs.Trees.{IsSound}
use Rattle.ocl_rules.specs.Typings.{Tells, Typing}
use Rattle.ocl_rules.specs.declared.fault.TypeFault.{TypeFault}
use Rattle.ocl_rules.specs.declared.typed.Typed.{Typed}
use Rattle.ocl_scope.specs.Ranges.{IsTypedAmong}

told_is_sound : (m : ObjectModel) (n : ℕ) (t : Typing Typed) (x : Typed) → t ≡ Ok x → IfOk t (IsTypedAmong m n) → IsSound x.expr
told_is_sound m n t x e h = (subst (λ (s : Typing Typed). IfOk s (IsTypedAmong m n)) e h).expr.literals

pub typed_is_sound : (m : ObjectModel) (n : ℕ) (t : Typing Typed) (r : Result Typed TypeFault) → Tells t r → IfOk t (IsTypedAmong m n) → IfOk r (λ x. IsSound x.expr)
typed_is_sound m n t (Ok x) told h = told_is_sound m n t x told h
typed_is_sound m n t (Err fault) told h = tt
