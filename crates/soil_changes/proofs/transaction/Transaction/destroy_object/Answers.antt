use Rattle.std.proofs.Common.{ap, sym, subst, ◌∙◌}
use Rattle.use_text.specs.declared.code.Code.{Code}
use Rattle.soil_changes.specs.Acts.{Outcome, then_act}
use Rattle.soil_changes.specs.Destroying.{clear_slots, clear_variables, remove}
use Rattle.soil_changes.specs.Progress.{Gives, Progress}
use Rattle.soil_changes.proofs.transaction.Transaction.destroy_object.Goals as goal

pub returns : goal.returns
returns c =
    let B = λ (u : Unit {0}). clear_slots c.args.object in
    let C = λ (u : Unit {0}). clear_variables c.args.object in
    let D = λ (u : Unit {0}). remove c.args.object in
    let all = ap (λ (t : Outcome Progress Code (Unit {0})). then_act (then_act (then_act t B) C) D) c.in_ok-unlink_all.ensures.gives
    ∙ ap (λ (t : Outcome Progress Code (Unit {0})). then_act (then_act t C) D) c.in_ok-clear_slots.ensures.gives
    ∙ ap (λ (t : Outcome Progress Code (Unit {0})). then_act t D) c.in_ok-clear_variables.ensures.gives in
    subst (λ (t : Outcome Progress Code (Unit {0})). Gives t c.remove.result c.remove.new.self) (sym all) c.remove.ensures
