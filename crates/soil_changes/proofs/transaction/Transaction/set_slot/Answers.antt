use Rattle.std.proofs.Common.{ℕ, sym, subst}
use Rattle.use_text.specs.declared.code.Code.{Code}
use Rattle.soil_changes.specs.Acts.{Outcome, ◌>>◌, then_act}
use Rattle.soil_changes.specs.Progress.{Gives, Progress}
use Rattle.soil_changes.specs.Storing.{put_slot, refuse_unless_stored}
use Rattle.soil_changes.proofs.transaction.Transaction.set_slot.Goals as goal

pub returns : goal.returns
returns c =
    let put = subst (λ (o : Outcome Progress Code (Unit {0})).
    Gives (then_act o (λ u. put_slot c.in_ok-number.number c.args.attr c.args.value)) c.put_slot.result c.put_slot.new.self)
    (sym c.in_ok-check_stored.ensures) c.put_slot.ensures in
    subst (λ (o : Outcome Progress Code ℕ).
    Gives (then_act o (λ k. refuse_unless_stored c.args.value >> put_slot k c.args.attr c.args.value)) c.put_slot.result c.put_slot.new.self)
    (sym c.in_ok-number.ensures) put
