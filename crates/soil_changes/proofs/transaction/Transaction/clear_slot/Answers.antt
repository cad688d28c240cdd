use Rattle.std.proofs.Common.{◌≡◌, Option, Some, sym, subst, ◌∙◌}
use Rattle.ocl_values.specs.declared.value.Value.{Value}
use Rattle.object_state.specs.Looks.{value_of}
use Rattle.soil_changes.specs.Destroying.{clear_value}
use Rattle.soil_changes.specs.Progress.{Gives, Progress}
use Rattle.soil_changes.proofs.transaction.Transaction.clear_slot.Goals as goal

pub returns-in-Some-clause-gives : goal.returns-in-Some-clause-gives
returns-in-Some-clause-gives c =
    let there = subst (λ (p : Progress). value_of p.layout p.state c.args.place.0 c.args.place.1 ≡ Some c.in-Some.old) c.self.view_is
    (sym c.in_ok-value_of.ensures.value ∙ c.in-Some.is) in
    subst (λ (u : Option Value). Gives (clear_value c.args.object c.args.place u c.args.self.now) c.clear_value.result c.clear_value.new.self) (sym there)
    c.clear_value.ensures.gives
