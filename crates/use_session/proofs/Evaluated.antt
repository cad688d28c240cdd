-- Queries: the literals of a checked program are well made, and what an evaluation tells is what the step writes.
use Rattle.std.proofs.Common.{◌≡◌, ℕ, ◌+◌, ◌-◌, ◌≤◌, List, ◌++◌, Option, Some, None, Result, Ok, refl, sym, ap, ◌∙◌, arith}
use Rattle.std.specs.Prelude.{IfOk, OnOk}
use Rattle.std.specs.Option.{ForSome}
use Rattle.std.specs.declared.alloc.AllocError.{AllocError}
use Rattle.std.proofs.lemmas.List.Elements.{All-weaker}
use Rattle.use_text.specs.declared.code.Family.TheVariants.{B}
use Rattle.use_text.specs.declared.place.Place.{Place}
use Rattle.use_text.specs.Codes.{code_of}
use Rattle.use_text.specs.Refusals.{refusal_at}
use Rattle.ocl_values.specs.declared.value.Value.{Value}
use Rattle.ocl_values.specs.declared.value.Value.TheVariants.{Invalid}
use Rattle.class_model.specs.declared.object_model.ObjectModel.{ObjectModel}
use Rattle.class_model.specs.declared.types.OclType.{OclType}
use Rattle.ocl_core.specs.declared.expression.Expr.{Expr}
use Rattle.ocl_core.specs.declared.program.ProgramParts.{ProgramParts}
use Rattle.ocl_core.specs.Programs.{IsSoundProgram, query_of}
use Rattle.ocl_core.specs.Trees.{IsSound}
use Rattle.ocl_eval.specs.declared.outcome.Outcome.{Outcome as Told}
use Rattle.ocl_eval.specs.declared.outcome.Outcome.TheVariants.{Done, Exhausted}
use Rattle.ocl_eval.specs.Evaluation.{max_units, told}
use Rattle.ocl_eval.specs.Evaluations.{Outcome}
use Rattle.ocl_program.specs.Programs.{IsCheckedNow, IsProgram}
use Rattle.use_session.specs.declared.machine.Machine.{Machine as Kept}
use Rattle.use_session.specs.declared.session.Turn.{Turn}
use Rattle.use_session.specs.declared.session.Turn.TheVariants.{Quiet, Refused}
use Rattle.use_session.specs.Answering.{Answers}
use Rattle.use_session.specs.Answers.{refusal_line, value_line}
use Rattle.use_session.specs.Kept.{IsKept, machine_of}
use Rattle.use_session.specs.Machine.{valued}
use Rattle.use_session.proofs.Told.{refused_answers}

for_some : {X : Type 0} (P Q : X → Type 0) → ((x : X) → P x → Q x) → (o : Option X) → ForSome o P → ForSome o Q
for_some P Q f o h = λ x is. f x (h x is)

sound : (m : ObjectModel) (e : Expr) → IsCheckedNow m e → IsSound e
sound m e h = h.checked.sound

pub is_sound : (p : ProgramParts) → IsProgram p → IsSoundProgram p
is_sound p h = record {
  bodies = All-weaker (λ b. ForSome (query_of b) (IsCheckedNow p.model)) (λ b. ForSome (query_of b) IsSound)
      (λ b k. for_some (IsCheckedNow p.model) IsSound (sound p.model) (query_of b) k) p.bodies h.bodies;
  derived = All-weaker (IsCheckedNow p.model) IsSound (sound p.model) p.derived h.derived;
}

abbrev value_in : Told → Value
value_in (Done v) = v
value_in Exhausted = Invalid

differ : (v : Value) → Done v ≡ Exhausted → ⊥
differ v e = cc

units_spent : (steps steps' fuel : ℕ) → fuel ≤ max_units → steps' + fuel ≡ steps + max_units → steps' ≡ steps + (max_units - fuel)
units_spent steps steps' fuel small e = omega arith

module _ (k : Kept) (h : IsKept k) (at : Place) (t : OclType) (bytes bytes' : List ℕ) (steps steps' : ℕ) where
  -- a value
  pub done_answers : (o : Outcome Value) (v : Value) → Done v ≡ told o.0 → o.1.fuel ≤ max_units → steps' + o.1.fuel ≡ steps + max_units
      → bytes' ≡ bytes ++ value_line k.program.model k.store.state v t → Answers (valued (machine_of k) at t o) bytes steps (Ok Quiet) k bytes' steps'
  done_answers (Some w, meter) v is small units b = record {
    turn = refl;
    kept = h;
    machine = refl;
    bytes = b ∙ ap (λ (x : Value). bytes ++ value_line k.program.model k.store.state x t) (ap value_in is);
    units = units_spent steps steps' meter.fuel small units;
  }
  done_answers (None, meter) v is small units b = absurd (differ v is)

  -- the budget is spent
  pub exhausted_answers : (o : Outcome Value) → Exhausted ≡ told o.0 → o.1.fuel ≤ max_units → steps' + o.1.fuel ≡ steps + max_units → (r : Result Turn AllocError)
      → OnOk r (bytes' ≡ bytes ++ refusal_line (refusal_at (code_of B 1) at)) → IfOk r (λ turn. turn ≡ Refused (code_of B 1))
      → Answers (valued (machine_of k) at t o) bytes steps r k bytes' steps'
  exhausted_answers (Some w, meter) is small units r b turn = absurd (differ w (sym is))
  exhausted_answers (None, meter) is small units r b turn =
      refused_answers (machine_of k) (refusal_at (code_of B 1) at) (max_units - meter.fuel) bytes steps r k bytes' steps' b turn h refl
      (units_spent steps steps' meter.fuel small units)
