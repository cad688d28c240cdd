use Rattle.std.proofs.Common.{◌≡◌, ℕ, Option, Some, sym, subst, ◌∙◌}
use Rattle.object_state.specs.State.{stamp_of}
use Rattle.object_state.specs.Valid.{IsValid}
use Rattle.soil_changes.specs.Acts.{or_refuse, then_act}
use Rattle.soil_changes.specs.Joining.{unlink}
use Rattle.soil_changes.specs.Progress.{Gives, Progress, x_code}
use Rattle.soil_changes.proofs.Agreeing.{stamp_there}
use Rattle.soil_changes.proofs.transaction.Transaction.unlink_pair.Goals as goal

pub unlink-requires : goal.unlink-requires
unlink-requires c =
    let p = c.args.self.now in
    let valid = subst (λ (q : Progress). IsValid q.layout q.state) c.self.view_is c.state_is_valid.ensures in
    let stamp = subst (λ (q : Progress). stamp_of q.state c.args.assoc c.args.first c.args.second ≡ Some c.in-Some.stamp) c.self.view_is
    (sym c.stamp.ensures ∙ c.in-Some.is) in
    stamp_there p.layout p.state valid c.args.assoc c.args.first c.args.second c.in-Some.stamp stamp

pub returns-in-Some : goal.returns-in-Some
returns-in-Some c =
    let stamp = subst (λ (q : Progress). stamp_of q.state c.args.assoc c.args.first c.args.second ≡ Some c.in-Some.stamp) c.self.view_is
    (sym c.stamp.ensures ∙ c.in-Some.is) in
    subst (λ (u : Option ℕ). Gives (then_act (or_refuse u (x_code 4) c.args.self.now) (unlink c.args.assoc c.args.first c.args.second)) c.unlink.result
    c.unlink.new.self) (sym stamp) c.unlink.ensures.gives
