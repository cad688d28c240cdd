-- Statements of a model have expressions that are well made.
use Rattle.std.proofs.Common.{ℕ, zero, suc, All, List, Option}
use Rattle.std.specs.Option.{ForSome}
use Rattle.std.proofs.lemmas.List.Elements.{All-weaker}
use Rattle.class_model.specs.declared.object_model.ObjectModel.{ObjectModel}
use Rattle.ocl_core.specs.declared.expression.Expr.{Expr}
use Rattle.ocl_core.specs.declared.statement.Act.{Act, out-Act}
use Rattle.ocl_core.specs.declared.statement.Act.TheOpen.{Act-F}
use Rattle.ocl_core.specs.declared.statement.Stmt.{Stmt, out-Stmt}
use Rattle.ocl_core.specs.declared.statement.Target.{Target}
use Rattle.ocl_core.specs.declared.statement.Target.TheVariants.{Attr, Local, Shell}
use Rattle.ocl_core.specs.Trees.{IsSound}
use Rattle.ocl_program.specs.Bodies.{ActIsOf, IsBodyOf, IsStatementOf, IsStatementTo, TargetIsOf}
use Rattle.ocl_program.specs.Programs.{IsCheckedNow}
use Rattle.soil_exec.specs.Bodies.{ActHolds, HoldsTo, IsBody, IsStatement, TargetIsSound}

module _ (m : ObjectModel) where
  sound : (e : Expr) → IsCheckedNow m e → IsSound e
  sound e h = h.checked.sound

  all_sound : (es : List Expr) → All (IsCheckedNow m) es → All IsSound es
  all_sound es h = All-weaker (IsCheckedNow m) IsSound sound es h

  target : (t : Target) → TargetIsOf m t → TargetIsSound t
  target (Local n) h = tt
  target (Shell name t) h = tt
  target (Attr e a) h = sound e h.0

  perhaps : (t : Option Target) → ForSome t (TargetIsOf m) → ForSome t TargetIsSound
  perhaps t h x e = target x (h x e)

  layer : (P Q : Stmt → Type 0) → ((s : Stmt) → P s → Q s) → (a : Act-F Act Stmt) → ActIsOf m P a → ActHolds m Q a
  layer P Q f (Act-F.New class name t) h = (h.0, λ x e. sound x (h.1 x e), perhaps t h.2)
  layer P Q f (Act-F.Create names class) h = h
  layer P Q f (Act-F.Destroy es) h = all_sound es h
  layer P Q f (Act-F.Insert assoc first second) h = (h.0, sound first h.1, sound second h.2)
  layer P Q f (Act-F.Delete assoc first second) h = (h.0, sound first h.1, sound second h.2)
  layer P Q f (Act-F.Assign t e) h = (target t h.0, sound e h.1)
  layer P Q f (Act-F.Call receiver op args t) h = (h.0, sound receiver h.1, all_sound args h.2, perhaps t h.3)
  layer P Q f (Act-F.If test first second) h = (sound test h.0, All-weaker P Q f first h.1, All-weaker P Q f second h.2)
  layer P Q f (Act-F.For e body) h = (sound e h.0, All-weaker P Q f body h.1)
  layer P Q f (Act-F.While test body) h = (sound test h.0, All-weaker P Q f body h.1)
  layer P Q f (Act-F.Declare n) h = tt

  down_to : (n : ℕ) (s : Stmt) → IsStatementTo m n s → HoldsTo m n s
  down_to zero s h = tt
  down_to (suc n) s h = layer (IsStatementTo m n) (HoldsTo m n) (down_to n) (out-Act (out-Stmt s).act) h

  pub body_holds : (body : List Stmt) → IsBodyOf m body → IsBody m body
  body_holds body h = All-weaker (IsStatementOf m) (IsStatement m) (λ s k. record { holds = λ n. down_to n s (k.holds n) }) body h
