use Rattle.std.proofs.Common.{sym, subst}
use Rattle.use_text.specs.declared.code.Code.{Code}
use Rattle.soil_changes.specs.Acts.{Outcome, each, then_act}
use Rattle.soil_changes.specs.Creating.{create}
use Rattle.soil_changes.specs.Progress.{Gives, Progress}
use Rattle.soil_changes.proofs.transaction.Transaction.create_all.Goals as goal

pub returns : goal.returns
returns c =
    subst (λ (o : Outcome Progress Code (Unit {0})). Gives (then_act o (λ u. each (create c.args.class) c.args.names.now)) c.create_each.result c.create_each.new.self)
    (sym c.in_ok-check_names.ensures) c.create_each.ensures
