-- Conditions of a checked program, and the units that are spent on them.
use Rattle.std.proofs.Common.{◌≡◌, ℕ, zero, suc, ◌+◌, ◌-◌, ◌<◌, ◌≤◌, Bool, true, false, All, List, [], ◌∷◌, length, slice_get, Option, Some, subst, arith}
use Rattle.std.specs.Option.{ForSome}
use Rattle.std.proofs.lemmas.List.Elements.{All-head, All-tail, All-weaker}
use Rattle.class_model.specs.declared.object_model.ObjectModel.{ObjectModel}
use Rattle.ocl_core.specs.declared.expression.Expr.{Expr}
use Rattle.ocl_core.specs.declared.program.Contract.{Contract}
use Rattle.ocl_core.specs.declared.program.ProgramParts.{ProgramParts}
use Rattle.ocl_core.specs.Programs.{IsSoundProgram, query_of}
use Rattle.ocl_core.specs.Trees.{IsSound}
use Rattle.ocl_eval.specs.Evaluation.{max_units}
use Rattle.ocl_program.specs.Programs.{IsCheckedNow, IsProgram, MayRead}

for_some : {X : Type 0} (P Q : X → Type 0) → ((x : X) → P x → Q x) → (o : Option X) → ForSome o P → ForSome o Q
for_some P Q f o h = λ x is. f x (h x is)

sound : (m : ObjectModel) (e : Expr) → IsCheckedNow m e → IsSound e
sound m e h = h.checked.sound

pub is_sound : (p : ProgramParts) → IsProgram p → IsSoundProgram p
is_sound p h = record {
  bodies = All-weaker (λ b. ForSome (query_of b) (IsCheckedNow p.model)) (λ b. ForSome (query_of b) IsSound)
      (λ b. for_some (IsCheckedNow p.model) IsSound (sound p.model) (query_of b)) p.bodies h.bodies;
  derived = All-weaker (IsCheckedNow p.model) IsSound (sound p.model) p.derived h.derived;
}

pub may_read : (is_post : Bool) (m : ObjectModel) (e : Expr) → MayRead is_post m e → IsSound e
may_read true m e h = h.sound
may_read false m e h = h.checked.sound

some_is : {X : Type 0} (x y : X) → Some x ≡ Some y → x ≡ y
some_is x y h = cc

at_all : {X : Type 0} (P : X → Type 0) (xs : List X) (i : ℕ) (x : X) → slice_get xs i ≡ Some x → All P xs → P x
at_all P [] i x h a = cc
at_all P (y ∷ xs) zero x h a = subst P (some_is y x h) (All-head P y xs a)
at_all P (y ∷ xs) (suc i) x h a = at_all P xs i x h (All-tail P y xs a)

-- the literals of a contract's condition are well made
pub contract_sound : (p : ProgramParts) → IsProgram p → (n : ℕ) (k : Contract) → slice_get p.contracts n ≡ Some k → IsSound k.expr
contract_sound p h n k is =
    may_read k.is_post p.model k.expr (at_all (λ (c : Contract). (c.op < length p.model.ops) × MayRead c.is_post p.model c.expr) p.contracts n k is h.contracts).1

pub units_spent : (a k fuel : ℕ) → a + fuel ≡ k + max_units → fuel ≤ max_units → a ≡ k + (max_units - fuel)
units_spent a k fuel h l = omega arith
