-- Expressions of a list, evaluated one by one.
use Rattle.std.proofs.Common.{◌≡◌, ℕ, ◌+◌, ◌<◌, List, [], ◌∷◌, ◌++◌, length, drop, get_or, Ok, ap, sym, ◌∙◌}
use Rattle.std.proofs.lemmas.List.{at_drop_more}
use Rattle.use_text.specs.declared.place.Place.{Place}
use Rattle.soil_exec.specs.declared.fault.ExecFault.{ExecFault}
use Rattle.ocl_values.specs.declared.value.Value.{Value}
use Rattle.ocl_core.specs.declared.expression.Expr.{Expr}
use Rattle.ocl_core.specs.declared.program.ProgramParts.{ProgramParts}
use Rattle.soil_changes.specs.Acts.{Outcome, then_act}
use Rattle.soil_exec.specs.Machine.{Execution, Machine}
use Rattle.soil_exec.specs.Values.{value, values_behind}

module _ (p : ProgramParts) (at : Place) (vs : List Value) (es : List Expr) (n : ℕ) where
  -- what comes after one
  abbrev pub further : Value → Execution (List Value)
  further v = values_behind p at (vs ++ v ∷ []) (drop (n + 1) es)

  pub values_step : (e : Expr) (m : Machine) → n < length es → e ≡ get_or es n e
      → values_behind p at vs (drop n es) m ≡ then_act (value p at e m) further
  values_step e m l is = at_drop_more (λ (xs : List Expr). values_behind p at vs xs m) es n e l ∙ ap (λ (x : Expr). then_act (value p at x m) further) (sym is)

  pub values_next : (e : Expr) (v : Value) (more : List Value) (m m' : Machine) → n < length es → e ≡ get_or es n e → value p at e m ≡ (Ok v, m')
      → more ≡ vs ++ v ∷ [] → values_behind p at more (drop (n + 1) es) m' ≡ values_behind p at vs (drop n es) m
  values_next e v more m m' l is h added =
      ap (λ (ws : List Value). values_behind p at ws (drop (n + 1) es) m') added
      ∙ sym (values_step e m l is ∙ ap (λ (o : Outcome Machine ExecFault Value). then_act o further) h)
