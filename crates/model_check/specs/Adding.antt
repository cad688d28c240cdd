-- What is checked of a model so far, and what one thing more makes of it.
use Rattle.std.specs.Prelude.{◌≡◌, ℕ, ⊤, ◌+◌, List, [], ◌∷◌, ◌++◌, length, map, slice_get, slice_set, Option, Some, None, Result, Ok, Err}
use Rattle.class_model.specs.declared.object_model.ObjectModel.{ObjectModel}
use Rattle.ocl_values.specs.declared.value.Value.TheVariants as V
use Rattle.ocl_core.specs.declared.expression.Expr.{Expr}
use Rattle.ocl_core.specs.declared.expression.Expr.TheVariants as E
use Rattle.ocl_core.specs.declared.program.Contract.{Contract}
use Rattle.ocl_core.specs.declared.program.Invariant.{Invariant}
use Rattle.ocl_core.specs.declared.program.OpBody.{OpBody}
use Rattle.ocl_core.specs.declared.program.OpBody.TheVariants as body
use Rattle.ocl_rules.specs.Typings.{Typing}
use Rattle.ocl_rules.specs.declared.fault.TypeFault.{TypeFault}
use Rattle.ocl_rules.specs.declared.fault.TypeFault.TheVariants.{Memory, Refused}
use Rattle.ocl_shapes.specs.Combining.{◌>>=◌, pure}
use Rattle.model_check.specs.declared.checked.Checked.{Checked}

-- nothing yet; a derived attribute without a body would be invalid
abbrev pub nothing_checked : ObjectModel → Checked
nothing_checked m = record {
  invariants = [];
  contracts = [];
  bodies = map (λ op. body.None) m.ops;
  derived = map (λ d. E.Literal V.Invalid) m.derived;
}

-- invariants and contracts stand in the order of the text; bodies and derived attributes at their numbers
abbrev pub with_invariant : Checked → Invariant → Checked
with_invariant found i =
    record { invariants = found.invariants ++ i ∷ []; contracts = found.contracts; bodies = found.bodies; derived = found.derived }

abbrev pub with_contract : Checked → Contract → Checked
with_contract found c =
    record { invariants = found.invariants; contracts = found.contracts ++ c ∷ []; bodies = found.bodies; derived = found.derived }

abbrev pub with_body : Checked → ℕ → OpBody → Checked
with_body found op b =
    record { invariants = found.invariants; contracts = found.contracts; bodies = slice_set found.bodies op b; derived = found.derived }

abbrev pub with_derived : Checked → ℕ → Expr → Checked
with_derived found number e =
    record { invariants = found.invariants; contracts = found.contracts; bodies = found.bodies; derived = slice_set found.derived number e }

-- the name of the next invariant or contract: as many stand before it as are checked
abbrev pub next_name : List (List ℕ) → Checked → Option (List ℕ)
next_name names found = slice_get names (length found.invariants + length found.contracts)

-- what one thing makes of what is checked, where it is there
abbrev pub where_there : {A : Type 0} → Option A → Checked → (A → Typing Checked) → Typing Checked
where_there None found add = pure found
where_there (Some a) found add = add a

-- what things make of it, one after another
abbrev pub each_added : {A : Type 0} → (Checked → A → Typing Checked) → Checked → List A → Typing Checked
each_added add found [] = pure found
each_added add found (x ∷ xs) = do
  next ← add found x
  each_added add next xs

-- what a call answers, and what is checked behind it, where typing gives this
abbrev pub Adds : Typing Checked → Result (Unit {0}) TypeFault → Checked → Type 0
Adds given (Ok done) after = given ≡ Ok after
Adds given (Err Memory) after = ⊤
Adds given (Err (Refused r)) after = given ≡ Err r
