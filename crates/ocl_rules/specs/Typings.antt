-- What typing gives: a typed expression, or the rule that is broken and its place.
use Rattle.std.specs.Prelude.{◌≡◌, ℕ, ⊤, Result, Ok, Err}
use Rattle.use_text.specs.declared.code.Code.{Code}
use Rattle.use_text.specs.declared.code.Family.TheVariants.{N, T}
use Rattle.use_text.specs.declared.place.Place.{Place}
use Rattle.use_text.specs.declared.refusal.Refusal.{Refusal}
use Rattle.use_text.specs.Codes.{code_of}
use Rattle.use_text.specs.Refusals.{refusal_at}
use Rattle.ocl_core.specs.declared.expression.Expr.{Expr}
use Rattle.class_model.specs.declared.types.OclType.{OclType}
use Rattle.ocl_rules.specs.declared.typed.Typed.{Typed}
use Rattle.ocl_rules.specs.declared.fault.TypeFault.{TypeFault}
use Rattle.ocl_rules.specs.declared.fault.TypeFault.TheVariants.{Memory, Refused}

-- a thing, or a refusal
abbrev pub Typing : Type 0 → Type 0
Typing A = Result A Refusal

-- an expression of a type
abbrev pub typed : Expr → OclType → Typing Typed
typed e t = Ok (record { expr = e; of_type = t })

-- a rule of names, or of types, that is broken at a place
abbrev pub breaks_n : {A : Type 0} → ℕ → Place → Typing A
breaks_n number place = Err (refusal_at (code_of N number) place)

abbrev pub breaks_t : {A : Type 0} → ℕ → Place → Typing A
breaks_t number place = Err (refusal_at (code_of T number) place)

-- goes on with what is there, unless a rule is broken
abbrev pub then_typed : {A B : Type 0} → Typing A → (A → Typing B) → Typing B
then_typed (Ok a) next = next a
then_typed (Err r) next = Err r

-- what a call answers where typing gives this
abbrev pub Tells : {A : Type 0} → Typing A → Result A TypeFault → Type 0
Tells given (Ok a) = given ≡ Ok a
Tells given (Err Memory) = ⊤
Tells given (Err (Refused r)) = given ≡ Err r
