-- The literals of a checked program are well made.
use Rattle.std.proofs.Common.{Option}
use Rattle.std.specs.Option.{ForSome}
use Rattle.std.proofs.lemmas.List.Elements.{All-weaker}
use Rattle.class_model.specs.declared.object_model.ObjectModel.{ObjectModel}
use Rattle.ocl_core.specs.declared.expression.Expr.{Expr}
use Rattle.ocl_core.specs.declared.program.ProgramParts.{ProgramParts}
use Rattle.ocl_core.specs.Programs.{IsSoundProgram, query_of}
use Rattle.ocl_core.specs.Trees.{IsSound}
use Rattle.ocl_program.specs.Programs.{IsCheckedNow, IsProgram}

for_some : {X : Type 0} (P Q : X → Type 0) → ((x : X) → P x → Q x) → (o : Option X) → ForSome o P → ForSome o Q
for_some P Q f o h = λ x is. f x (h x is)

sound : (m : ObjectModel) (e : Expr) → IsCheckedNow m e → IsSound e
sound m e h = h.checked.sound

pub is_sound : (p : ProgramParts) → IsProgram p → IsSoundProgram p
is_sound p h = record {
  bodies = All-weaker (λ b. ForSome (query_of b) (IsCheckedNow p.model)) (λ b. ForSome (query_of b) IsSound)
      (λ b k. for_some (IsCheckedNow p.model) IsSound (sound p.model) (query_of b) k) p.bodies h.bodies;
  derived = All-weaker (IsCheckedNow p.model) IsSound (sound p.model) p.derived h.derived;
}
